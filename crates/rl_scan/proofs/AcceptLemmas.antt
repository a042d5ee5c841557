-- Lemmas about the literals that `--bad` accepts.
use Rattle.rl_syntax.proofs.Common.{AllByRecursion, Bool, Err, IfNone, IfSome, IsCharBoundary, IsTrue, IsUtf8, List, None, Ok, Option, Some, [], ap, chars, encode_utf8_all, encodes-append, encodes-chars, false, inl, inr, refl, subst, sym, true, ℕ, ◌++◌, ◌∙◌, ◌∷◌, ◌≡◌, ◌⊎◌, ⊤}
use Rattle.std.proofs.lemmas.Str.{IsCharBoundary-at_seam}
use Rattle.rl_syntax.specs.Reading.{HasReading}
use Rattle.rl_lexer.specs.Cursors.{CursorState}
use Rattle.rl_lexer.specs.Sources.{BeginsNoSource, CutSource, IsBorrowedSource, IsCutUpTo, IsLiteralText, IsOtherToken, PassesTo, SourceBefore, SourceErrorAt, SourceKind, TakesLiteralAfter, TakesSource, source_kind, source_text, source_view}
use Rattle.rl_lexer.specs.declared.lex_error.LexKind.{LexKind}
use Rattle.rl_lexer.specs.declared.sources.SourceToken.{SourceToken}
use Rattle.rl_strict.specs.FileTexts.{IsPlaceInFile}
use Rattle.rl_strict.proofs.LimitLemmas.{read_within, signed_past}
use Rattle.rl_strict.proofs.ReadValues.{past_read}
use Rattle.rl_strict.specs.Limits.{IsFloatBySuffix, suffix_at_if_above_128_bits}
use Rattle.rl_strict.specs.Readings.{HasValueOf, IsReadingOf}
use Rattle.rl_strict.specs.declared.line_ends.LineEnds.TheVariants.{File}
use Rattle.rl_strict.specs.declared.strict_reading.Reading.{Reading}
use Rattle.rl_strict.specs.declared.strict_reading.Reading.TheVariants.{Text, Unit, Integer, Float, Truth}
use Rattle.rl_style.specs.Calls.{CallState, Outside, advance_calls, is_in_call}
use Rattle.rl_files.specs.Trees.{World}
use Rattle.rl_files.specs.Walks.{Visited, Visits, VisitsFirst, VisitsNone, Waypoint}
use Rattle.rl_files.specs.declared.tree.PathError.{PathError}
use Rattle.rl_files.specs.declared.tree.PathError.TheVariants.{OutOfMemory, PathNotUtf8}
use Rattle.rl_files.specs.declared.walk.Selection.{Selection}
use Rattle.rl_restyle.proofs.TextSlices.{back_utf8}
use Rattle.rl_scan.specs.Accepted.{AcceptsAll, Allows, AreAccepted, BeginsSuffix, HasFollowed, IsAcceptedLiteral, IsAcceptedFile, IsAcceptedToken, IsAcceptedVisit, IsInCallAt, calls_after, end_id}
use Rattle.rl_scan.specs.declared.job.Job.{Job}

all_join : {X : Type 0} (P : X → Type 0) (xs ys : List X) → AllByRecursion P xs → AllByRecursion P ys
    → AllByRecursion P (xs ++ ys)
all_join P [] ys a b = b
all_join P (x ∷ xs) ys a b = (a.0, all_join P xs ys a.1 b)

-- ---- macro calls

calls_more : (calls : CallState) (ws : List CutSource) (w : CutSource) → calls_after calls (ws ++ w ∷ [])
    ≡ advance_calls (calls_after calls ws) (source_kind w.token) (encode_utf8_all (source_text w.token))
calls_more calls [] w = refl
calls_more calls (v ∷ ws) w =
    calls_more (advance_calls calls (source_kind v.token) (encode_utf8_all (source_text v.token))) ws w

pub follows_start : (s : CursorState) (text : List ℕ) → s.text ≡ text → IsCutUpTo (chars text) [] (chars s.rest)
    → HasFollowed text s Outside
follows_start s text same cut = ([], subst (λ z. IsCutUpTo (chars z) [] (chars s.rest)) (sym same) cut, refl, same)

pub follows_more : (source : List ℕ) (old new : CursorState) (token : SourceToken) (calls after : CallState)
    → HasFollowed source old calls → TakesSource old token new
    → after ≡ advance_calls calls (source_view token.form) token.text.now → HasFollowed source new after
follows_more source old new token calls after (before, cuts, calls_are, same) takes after_is = (
  before ++ takes.cut ∷ [],
  subst (λ z. IsCutUpTo (chars z) (before ++ takes.cut ∷ []) (chars new.rest)) (sym takes.same)
      (takes.goes_on before cuts),
  after_is ∙ ap (λ z. advance_calls z (source_view token.form) token.text.now) calls_are
      ∙ ap (λ z. advance_calls (calls_after Outside before) z token.text.now) (sym takes.is_cut.kind_is)
      ∙ ap (advance_calls (calls_after Outside before) (source_kind takes.cut.token)) (sym takes.is_cut.bytes_are)
      ∙ sym (calls_more Outside before takes.cut),
  takes.same ∙ same,
)

pub follows_still : (source : List ℕ) (old new : CursorState) (calls : CallState) → HasFollowed source old calls
    → new ≡ old → HasFollowed source new calls
follows_still source old new calls follows stays =
    subst (λ (s : CursorState). HasFollowed source s calls) (sym stays) follows

pub in_call : (source : List ℕ) (old new : CursorState) (token : SourceToken) (calls : CallState) (inside : Bool)
    → HasFollowed source old calls → TakesSource old token new → inside ≡ is_in_call calls → IsTrue inside
    → IsInCallAt source token.lo
in_call source old new token calls inside (before, cuts, calls_are, same) takes inside_is h =
    subst (λ z. IsInCallAt z token.lo) same (record {
      before = before;
      rest = old.rest;
      are_cuts = cuts;
      place = takes.place;
      is_inside = ap is_in_call (sym calls_are) ∙ sym inside_is ∙ h;
    })

-- ---- the tokens of a source

pub none_still : (token : Option SourceToken) (old new : CursorState) → IfNone token (BeginsNoSource (chars old.rest))
    → IfNone token (new ≡ old) → IfNone token (BeginsNoSource (chars new.rest))
none_still None old new none stays = subst (λ (s : CursorState). BeginsNoSource (chars s.rest)) (sym stays) none
none_still (Some token) old new none stays = tt

-- The cursor has read some tokens, and if `accepted` is true, all literals among them are accepted.
abbrev pub HasRead : Job → CursorState → Bool → Type 0
HasRead job s accepted = (done : List CutSource) × IsCutUpTo (chars s.text) done (chars s.rest)
    × (IsTrue accepted → AllByRecursion (IsAcceptedToken job s.text) done)

pub read_start : (job : Job) (s : CursorState) (text : List ℕ) → s.text ≡ text
    → IsCutUpTo (chars text) [] (chars s.rest) → HasRead job s true
read_start job s text same cut = ([], subst (λ z. IsCutUpTo (chars z) [] (chars s.rest)) (sym same) cut, λ _. tt)

other_tokens : (job : Job) (source : List ℕ) (ws : List CutSource) → AllByRecursion IsOtherToken ws
    → AllByRecursion (IsAcceptedToken job source) ws
other_tokens job source [] all = tt
other_tokens job source (w ∷ ws) (other, all) = (λ is. absurd (other is), other_tokens job source ws all)

read_passed : (job : Job) (old new : CursorState) (before : Bool) → PassesTo old new → HasRead job old before
    → HasRead job new before
read_passed job old new before passes (done, cuts, all) = (
  done ++ passes.cuts,
  subst (λ z. IsCutUpTo (chars z) (done ++ passes.cuts) (chars new.rest)) (sym passes.same) (passes.goes_on done cuts),
  λ h. subst (λ z. AllByRecursion (IsAcceptedToken job z) (done ++ passes.cuts)) (sym passes.same)
      (all_join (IsAcceptedToken job old.text) done passes.cuts (all h)
      (other_tokens job old.text passes.cuts passes.others)),
)

-- If the token of the code is a literal, it is accepted.
abbrev AcceptsToken : Job → List ℕ → SourceToken → Type 0
AcceptsToken job source token = IsLiteralText (source_view token.form) (chars token.text.now)
    → IsAcceptedLiteral job source token.lo token.text.now

accepted_token : (job : Job) (source : List ℕ) (token : SourceToken) (w : CutSource) → IsBorrowedSource token w
    → AcceptsToken job source token → IsAcceptedToken job source w
accepted_token job source token w is accepted = λ literal.
    subst (IsAcceptedLiteral job source w.at) (sym is.bytes_are)
    (subst (λ z. IsAcceptedLiteral job source z token.text.now) (sym is.lo_is)
    (accepted (subst (λ z. IsLiteralText z (chars token.text.now)) is.kind_is
    (subst (IsLiteralText (source_kind w.token)) is.chars_are literal))))

read_token : (job : Job) (old new : CursorState) (token : SourceToken) (is before both : Bool)
    → TakesSource old token new → (IsTrue is → AcceptsToken job old.text token)
    → (IsTrue both → IsTrue is × IsTrue before) → HasRead job old before → HasRead job new both
read_token job old new token is before both takes accepted parts (done, cuts, all) = (
  done ++ takes.cut ∷ [],
  subst (λ z. IsCutUpTo (chars z) (done ++ takes.cut ∷ []) (chars new.rest)) (sym takes.same) (takes.goes_on done cuts),
  λ h. subst (λ z. AllByRecursion (IsAcceptedToken job z) (done ++ takes.cut ∷ [])) (sym takes.same)
      (all_join (IsAcceptedToken job old.text) done (takes.cut ∷ []) (all (parts h).1)
      (accepted_token job old.text token takes.cut takes.is_cut (accepted (parts h).0), tt)),
)

-- One more token is read, or tokens that aren't literals and then a literal.
pub read_more : (job : Job) (old new : CursorState) (token : SourceToken) (is before both : Bool)
    → TakesSource old token new ⊎ TakesLiteralAfter old token new → (IsTrue is → AcceptsToken job old.text token)
    → (IsTrue both → IsTrue is × IsTrue before) → HasRead job old before → HasRead job new both
read_more job old new token is before both (inl takes) accepted parts read =
    read_token job old new token is before both takes accepted parts read
read_more job old new token is before both (inr t) accepted parts read =
    read_token job t.between new token is before both t.takes
    (λ h literal. subst (λ z. IsAcceptedLiteral job z token.lo token.text.now) (sym t.passes.same) (accepted h literal)) parts
    (read_passed job old t.between before t.passes read)

pub text_same : (old new : CursorState) (token : SourceToken)
    → TakesSource old token new ⊎ TakesLiteralAfter old token new → new.text ≡ old.text
text_same old new token (inl takes) = takes.same
text_same old new token (inr t) = t.takes.same ∙ t.passes.same

-- The cursor reaches the end of a source, or an error that is allowed.
abbrev pub EndsAt : Job → List ℕ → Type 0
EndsAt job rest = (rest ≡ []) ⊎ ((kind : LexKind) × SourceErrorAt kind (chars rest) × Allows job (end_id kind))

finished : (job : Job) (source : List ℕ) (s : CursorState) (accepted : Bool) → s.text ≡ source → HasRead job s accepted
    → EndsAt job s.rest → IsTrue accepted → AreAccepted job source
finished job source s accepted same (done, cuts, all) end h =
    subst (AreAccepted job) same
    (record { cuts = done; rest = s.rest; are_cuts = cuts; end = end; accepted = all h })

pub read_end : (job : Job) (source : List ℕ) (old new : CursorState) (accepted : Bool) → old.text ≡ source
    → (new ≡ old) ⊎ PassesTo old new → HasRead job old accepted → EndsAt job new.rest → IsTrue accepted
    → AreAccepted job source
read_end job source old new accepted same (inl stays) read end h =
    finished job source old accepted same read (subst (λ (z : CursorState). EndsAt job z.rest) stays end) h
read_end job source old new accepted same (inr passes) read end h =
    finished job source new accepted (passes.same ∙ same) (read_passed job old new accepted passes read) end h

pub at_end : (rest : List ℕ) → BeginsNoSource (chars rest)
    → (rest ≡ []) ⊎ ((kind : SourceKind) × (after : List ℕ) × SourceBefore (chars rest) kind after) → rest ≡ []
at_end rest none (inl nothing) = nothing
at_end rest none (inr (kind, after, begins)) = absurd (none kind after begins)

-- ---- the suffix of a literal

place_begins : (t : List ℕ) (read at : ℕ) → IsUtf8 t → IsPlaceInFile (chars t) read at → IsCharBoundary t at
place_begins t read at u p =
    let whole : t ≡ encode_utf8_all (p.front ++ p.rest) = sym (encodes-chars t u) ∙ ap encode_utf8_all p.text_is in
    let bytes = whole ∙ encodes-append p.front p.rest in
    subst (IsCharBoundary t) (sym p.at_is) (IsCharBoundary-at_seam t (encode_utf8_all p.front) (encode_utf8_all p.rest) bytes
    (back_utf8 p.front p.rest (subst IsUtf8 whole u)))

pub begins_suffix : (t : List ℕ) (r : Reading) → IsUtf8 t → IsReadingOf File false t r → BeginsSuffix t r
begins_suffix t (Text kind body) u (read, reads, places) = place_begins t read.suffix_at body.suffix_at u places.suffix_at
begins_suffix t (Unit kind body unit) u (same, found) = found.stands.following
begins_suffix t (Integer magnitude at) u (same, number) = number.0
begins_suffix t (Float at) u (same, number) = number.0
begins_suffix t (Truth truth) u reads = tt

-- An integer above 128 bits has a value only if its suffix makes it a float.
pub under_limit : (t : List ℕ) (r : Reading) (at : ℕ) → IsReadingOf File false t r → HasValueOf File (chars t)
    → r ≡ Integer None at → IsFloatBySuffix (chars t)
under_limit t r at reads value is =
    let past = past_read File false t r at reads (ap suffix_at_if_above_128_bits is) in
    elim value [
      | inl has ↦ absurd (read_within (chars t) (subst HasReading past.0 has) (signed_past t r at past.1
          (ap suffix_at_if_above_128_bits is)).1.0)
      | inr float ↦ subst IsFloatBySuffix past.0 float
    ]

-- ---- the files of a walk

-- If all literals of the files that a walk returns from the entries `new` on are accepted, so are all from `old` on.
abbrev pub Leads : Job → Option World → Selection → List Waypoint → List Waypoint → Type 0
Leads job holds selection old new = IfSome holds (λ w. (later : List Visited) → Visits selection w new later
    → AllByRecursion (IsAcceptedVisit job w) later
    → (visits : List Visited) × Visits selection w old visits × AllByRecursion (IsAcceptedVisit job w) visits)

pub leads_start : (job : Job) (holds : Option World) (selection : Selection) (walk : List Waypoint)
    → Leads job holds selection walk walk
leads_start job None selection walk = tt
leads_start job (Some w) selection walk = λ later are all. (later, are, all)

pub leads_more : (job : Job) (holds : Option World) (selection : Selection) (old middle new : List Waypoint)
    (first : Visited) → Leads job holds selection old middle → VisitsFirst selection holds middle first new
    → IfSome holds (λ w. IsAcceptedVisit job w first) → Leads job holds selection old new
leads_more job None selection old middle new first leads goes accepted = tt
leads_more job (Some w) selection old middle new first leads goes accepted =
    λ later are all. leads (first ∷ later) (goes later are) (accepted, all)

pub leads_end : (job : Job) (holds : Option World) (selection : Selection) (old new : List Waypoint)
    → Leads job holds selection old new → VisitsNone selection holds new → AcceptsAll job holds selection old
leads_end job None selection old new leads none = tt
leads_end job (Some w) selection old new leads none = leads [] none tt

pub file_read : (job : Job) (holds : Option World) (path bytes source : List ℕ)
    → IfSome holds (λ w. w.bytes path ≡ Ok bytes) → source ≡ bytes → AreAccepted job source
    → IfSome holds (λ w. IsAcceptedFile job w path)
file_read job None path bytes source read same are = tt
file_read job (Some w) path bytes source read same are = λ other other_is.
    let one : bytes ≡ other = cc in
    subst (AreAccepted job) (same ∙ one) are

-- A file that isn't read, and isn't counted as an error, has no bytes.
pub file_skipped : (job : Job) (holds : Option World) (path : List ℕ) (why : PathError)
    → (why ≡ OutOfMemory) ⊎ IfSome holds (λ w. w.bytes path ≡ Err why) → why ≡ PathNotUtf8
    → IfSome holds (λ w. IsAcceptedFile job w path)
file_skipped job None path why read skipped = tt
file_skipped job (Some w) path why (inl memory) skipped = absurd (cc)
file_skipped job (Some w) path why (inr failed) skipped = λ bytes is. absurd (cc)

pub path_skipped : (job : Job) (holds : Option World) (path : List ℕ) → IfSome holds (λ w. ⊤)
path_skipped job None path = tt
path_skipped job (Some w) path = tt
