-- The first flaw of a quoted literal is inside the literal: its piece and its range begin after the opening delimiter.
use Rattle.rl_flaws.proofs.Names.{◌≡◌, ◌≤◌, ◌-◌, ◌&&◌, ℕ, Bor, true, false, not, List, [], ◌∷◌, ◌++◌, None, drop, length, length-append, refl, sym, ap, subst, inl, inr, ◌∙◌, arith, and_parts, append-nil, append_assoc, begins, begins_front, both_ways, encode_utf8_all, encodes-append, encodes-chars, flat_map, list_all-append, replicate, IsUtf8, chars, Kind, is_single, is_string, opener, strict_text, QuotedForm, CookedForm, RawForm, SingleForm, Flaw, FlawKind, CarriageReturn, Nul, NotAscii, StopsBefore, IsRestOf, read_of, IsToken, IsTail, LineEnds, Text, File, is_seam, lacks_cr, self_in, step_in, found_opener, front_complete, front_not_quoted, opener_at, suffix_piece, close_token, piece_place, After, Before, Meets, Same, IsFlawAt, after_bad_piece, is_flaw_after_quote, is_flaw_of_unit, EndsWhere, ReadsFrom, TakesFlaw, IsLeftAfter, state_of, HasForm, IsOpened, is_equal, front_of, opened_front, Inside, Left, Opened}
use Rattle.std.specs.Str.{IsCharBoundary}
use Rattle.std.proofs.Math.Utf8.{scalar, scalars}
use Rattle.rl_syntax.specs.Written.{closer}
use Rattle.rl_syntax.proofs.TailLemmas.{cut_boundary, cut_drop}
use Rattle.rl_strict.specs.StrictFlawKinds.{IsClosed, OpenFlaw, StrictQuotedFlaw, StrictRawFlaw}
use Rattle.rl_strict.specs.StrictNumberFlaws.{IsStrictWordFlaw}
use Rattle.rl_strict.specs.declared.flaws.FlawKind.TheVariants.{Empty, Minus, NoQuote, NotALiteral, TooManyHashes, Unclosed, UnexpectedEnd}
use Rattle.rl_strict.proofs.Names.{after_run, chars_from_encodes, hashes_past, is_hash, is_raw_character, or_left, scalars-chars, truth_text}
use Rattle.rl_strict.proofs.FileTextLemmas.{free_text}
use Rattle.rl_strict.proofs.OneStrictFlaw.{begins_front as word_begins, meets, opener_same, truth_front}
use Rattle.rl_strict.proofs.ReadQuoted.{empty_read}
use Rattle.rl_strict.proofs.StrictRawFlaws.{many_hashes, walk_halt}
use Rattle.rl_strict.proofs.StrictTokens.{digit_front}
use Rattle.rl_strict.proofs.WalkForms.{cooked_good, raw_good}
use Rattle.rl_flaws.proofs.ClosedLemmas.{closed_token}
use Rattle.rl_flaws.proofs.FileCuts.{first_parts}
use Rattle.rl_flaws.proofs.FlawLemmas.{inside_end, inside_takes}
use Rattle.rl_flaws.proofs.WalkLemmas.{raw_cut}
use Rattle.rl_flaws.proofs.WholeLemmas.{IsFlawIn, front_free, opened_read}

text_rest : (t front rest : List ℕ) → t ≡ front ++ rest → IsRestOf Text t rest
text_rest t front rest e = record { front = front; text_is = e; seam = refl }

-- ---- the text after the opening delimiter

-- The text after the prefix of a literal: in a raw string, it begins with the hashes.
abbrev content : QuotedForm → List ℕ → List ℕ → List ℕ
content RawForm hashes r = hashes ++ (34 ∷ r)
content form hashes r = r

opened_at : (form : QuotedForm) (k : Kind) (h t r : List ℕ) → HasForm form k h → t ≡ front_of form k h ++ r
    → opener_at t ≡ found_opener form k (content form h r)
opened_at CookedForm k h t r has e = ap opener_at e ∙ front_complete CookedForm k r has
opened_at SingleForm k h t r has e = ap opener_at e ∙ front_complete SingleForm k r has
opened_at RawForm k h t r has e = ap opener_at (e ∙ raw_cut k (front_of RawForm k h) h r refl)
    ∙ front_complete RawForm k (h ++ (34 ∷ r)) has.0

-- An opening delimiter can be completed to a literal token.
completed : (form : QuotedForm) (k : Kind) (h : List ℕ) → HasForm form k h
    → (ending : List ℕ) × IsToken (front_of form k h ++ ending)
completed CookedForm k h s = (
  34 ∷ [],
  close_token CookedForm k (opener k ++ (34 ∷ [])) (34 ∷ []) s refl
      (cooked_good Text k (34 ∷ []) (34 ∷ []) [] s (record { units = []; each = refl; ends = tt; text_is = refl }) refl (empty_read CookedForm [] refl)),
)
completed SingleForm k h s = (
  120 ∷ 39 ∷ [],
  subst IsToken (append_assoc (opener k) (120 ∷ []) (39 ∷ [])) (closed_token Text k (39 ∷ []) [] s refl (empty_read SingleForm [] refl)),
)
completed RawForm k h (s, (n, few, e)) =
    let closing : List ℕ = 34 ∷ (h ++ []) in (
      closing,
      close_token RawForm k (front_of RawForm k h ++ closing) (h ++ (34 ∷ closing)) s
          (raw_cut k (front_of RawForm k h) h closing refl)
          (raw_good Text k n 34 h closing closing (h ++ []) [] s few e (walk_halt k h closing (h ++ []) 34 refl
          (or_left (begins h (h ++ [])) (not (is_raw_character k 34)) (begins_front h []))) refl refl refl (empty_read RawForm [] refl)),
    )

-- ---- the flaw begins after the opening delimiter

stop_after : (t front r ending stop : List ℕ) → t ≡ front ++ r → IsToken (front ++ ending)
    → (s : StopsBefore IsToken t stop) → (m : List ℕ) × (s.front ≡ front ++ m) × (r ≡ m ++ stop)
stop_after t front r ending stop e token s = go (meets s.front front stop r (sym s.text_is ∙ e))
  where
    go : Meets s.front front stop r → (m : List ℕ) × (s.front ≡ front ++ m) × (r ≡ m ++ stop)
    go (Same a b) = ([], a ∙ sym (append-nil front), sym b)
    go (After c more a b) = (c ∷ more, a, b)
    go (Before c more a b) = absurd (s.stuck c (more ++ r) (more ++ ending) b
        (subst IsToken (ap (λ z. z ++ ending) a ∙ append_assoc s.front (c ∷ more) ending) token))

-- The text before a flaw of a word has no opening delimiter.
word_front : (k : FlawKind) (front rest : List ℕ) → IsStrictWordFlaw k front rest → opener_at front ≡ None
word_front Empty front rest (e, h) = ap opener_at e ∙ (truth_front true [] (truth_text true) refl).no_opener
word_front Minus front rest (e, h) = ap opener_at e ∙ (truth_front true [] (truth_text true) refl).no_opener
word_front UnexpectedEnd front rest (w, some, h) = (word_begins front w).no_opener
word_front NotALiteral front rest (w, some, h) = (word_begins front w).no_opener
word_front k front rest h = absurd h

quoted_flaw : (form : QuotedForm) (k : Kind) (h t r : List ℕ) (kind : FlawKind) (piece stop : List ℕ) → HasForm form k h
    → t ≡ front_of form k h ++ r → IsFlawAt t kind piece stop
    → StrictQuotedFlaw form k kind (content form h r) piece stop × IsRestOf Text r stop
quoted_flaw form k h t r kind piece stop has e f =
    let front : List ℕ = front_of form k h in
    let at = opened_at form k h t r has e in
    let (ending, token) = completed form k h has in
    let (m, same, cut) = stop_after t front r ending stop e token f.stops in (
      elim f.says [
        | inl q ↦ subst (λ z. StrictQuotedFlaw z.0 z.1 kind z.2 piece stop)
            (opener_same t q.form form q.kind k q.inside (content form h r)
            (ap opener_at q.text_is ∙ front_complete q.form q.kind q.inside q.is_form) at) q.spoils
        | inr (inl n) ↦ absurd (let x = sym (front_not_quoted t (digit_front t n.0)) ∙ at in (cc))
        | inr (inr w) ↦ absurd (let x = sym (word_front kind f.stops.front stop (w.0 f.stops.front f.stops.text_is))
            ∙ opened_at form k h f.stops.front m has same in (cc))
      ],
      text_rest r m stop cut,
    )

-- ---- the flaw's piece begins after the opening delimiter

-- The texts after a raw string's hashes and quote are equal.
raw_same : (n m : ℕ) (h x y : List ℕ) → h ≡ replicate n 35 → h ++ (34 ∷ x) ≡ replicate m 35 ++ (34 ∷ y) → x ≡ y
raw_same n m h x y e same =
    let both : 34 ∷ x ≡ 34 ∷ y = sym (hashes_past n x) ∙ ap (after_run is_hash) (ap (λ z. z ++ (34 ∷ x)) (sym e) ∙ same)
    ∙ hashes_past m y in
    cc

raw_piece : (k : Kind) (kind : FlawKind) (n : ℕ) (h r piece stop : List ℕ) → n ≤ 255 → h ≡ replicate n 35
    → IsRestOf Text r stop → StrictRawFlaw k kind (h ++ (34 ∷ r)) piece stop → IsRestOf Text r piece
raw_piece k TooManyHashes n h r piece [] few e s (text, hash, same) = absurd (both_ways false refl hash)
raw_piece k TooManyHashes n h r piece (c ∷ cs) few e s (text, hash, same) = absurd (omega (
  arith,
  few,
  many_hashes 255 n cs r (sym (text ∙ ap (λ z. replicate 255 35 ++ (z ∷ cs)) (is_equal c 35 hash))
      ∙ ap (λ z. z ++ (34 ∷ r)) e),
))
raw_piece k UnexpectedEnd n h r piece stop few e s f = subst (IsRestOf Text r) (sym f.2) s
raw_piece k NoQuote n h r piece stop few e s f = subst (IsRestOf Text r) (sym f.2) s
raw_piece k Unclosed n h r piece stop few e s f = subst (IsRestOf Text r) (sym f.2) s
raw_piece k CarriageReturn n h r piece stop few e s f = subst (IsRestOf Text r) (sym f.1) s
raw_piece k Nul n h r piece stop few e s f = subst (IsRestOf Text r) (sym f.2) s
raw_piece k NotAscii n h r piece stop few e s f = subst (IsRestOf Text r) (sym f.2) s
raw_piece k kind n h r piece stop few e s f = absurd f

closing_in : (form : QuotedForm) (k : Kind) (h r closing suffix : List ℕ) → HasForm form k h
    → IsClosed form k (content form h r) closing suffix → IsRestOf Text r closing × IsRestOf Text closing suffix
closing_in CookedForm k h r closing suffix has c =
    (text_rest r (flat_map strict_text c.0.units) closing c.0.text_is, text_rest closing (34 ∷ []) suffix c.1)
closing_in SingleForm k h r closing suffix has c =
    (text_rest r (strict_text c.0.unit) closing c.0.text_is, text_rest closing (39 ∷ []) suffix c.1)
closing_in RawForm k h r closing suffix (s, (n, few, e)) (m, opened, is) = (
  text_rest r opened.body closing (raw_same n m h r (opened.body ++ closing) e opened.text_is),
  text_rest closing (34 ∷ replicate m 35) suffix is,
)

open_in : (form : QuotedForm) (k : Kind) (h r : List ℕ) (kind : FlawKind) (piece stop : List ℕ) → HasForm form k h
    → IsRestOf Text r stop → OpenFlaw form k kind (content form h r) piece stop → IsRestOf Text r piece
open_in CookedForm k h r kind piece stop has s f = text_rest r (flat_map strict_text f.0.units) piece f.0.text_is
open_in SingleForm k h r kind piece stop has s f = subst (IsRestOf Text r) (sym f.1) (self_in Text r)
open_in RawForm k h r kind piece stop (string, (n, few, e)) s f = raw_piece k kind n h r piece stop few e s f

piece_inside : (form : QuotedForm) (k : Kind) (h r : List ℕ) (kind : FlawKind) (piece stop : List ℕ) → HasForm form k h
    → IsRestOf Text r stop → StrictQuotedFlaw form k kind (content form h r) piece stop → IsRestOf Text r piece
piece_inside form k h r kind piece stop has s (inl f) = open_in form k h r kind piece stop has s f
piece_inside form k h r kind piece stop has s (inr f) =
    let (there, after) = closing_in form k h r f.closing (f.front ++ stop) has f.closed in
    subst (IsRestOf Text r) (sym f.piece_is) (step_in Text r f.closing (suffix_piece kind f.closing (f.front ++ stop)) there
    (piece_place Text kind f.closing (f.front ++ stop) after))

-- ---- from ends of the whole text to ends of the text after the opening delimiter

seam_end : (a : List ℕ) (c : ℕ) (b rest : List ℕ) → is_seam (a ++ (c ∷ b)) rest ≡ true → is_seam (c ∷ b) rest ≡ true
seam_end [] c b rest h = h
seam_end (x ∷ []) c b rest h = h
seam_end (x ∷ y ∷ a) c b rest h = seam_end (y ∷ a) c b rest h

rest_inside : (how : LineEnds) (t front inside rest : List ℕ) → t ≡ front ++ inside → lacks_cr front ≡ true → IsRestOf
    how t rest → IsRestOf Text (read_of how inside) (read_of how rest) → IsRestOf how inside rest
rest_inside Text t front inside rest e free r within = within
rest_inside File t front inside rest e free r within = go (meets r.front front rest inside (sym r.text_is ∙ e))
  where
    go : Meets r.front front rest inside → IsRestOf File inside rest
    go (Same a b) = subst (IsRestOf File inside) (sym b) (self_in File inside)
    go (After c more a b) = record {
      front = c ∷ more;
      text_is = b;
      seam = seam_end front c more rest (ap (λ z. is_seam z rest) (sym a) ∙ r.seam);
    }
    go (Before c more a b) =
        let free_more = (and_parts (lacks_cr r.front) (lacks_cr (c ∷ more))
        (sym (list_all-append _ r.front (c ∷ more)) ∙ ap lacks_cr (sym a) ∙ free)).1 in
        absurd (omega (
          arith,
          ap length (ap (read_of File) b ∙ free_text (c ∷ more) inside free_more),
          length-append {A = ℕ} (c ∷ more) (read_of File inside),
          ap length within.text_is,
          length-append {A = ℕ} within.front (read_of File rest),
        ))

reads_inside : (how : LineEnds) (len : ℕ) (t front inside read : List ℕ) (at : ℕ) → t ≡ front ++ inside → lacks_cr front
    ≡ true → IsRestOf Text (read_of how inside) read → (p : ReadsFrom how len t read at) → IsRestOf how inside p.rest
reads_inside how len t front inside read at e free within p = rest_inside how t front inside p.rest e free p.rest_in
    (subst (IsRestOf Text (read_of how inside)) (sym p.reads) within)

-- ---- the piece as the code cuts it

scalars_end : (a b : List ℕ) → scalars (a ++ b) ≡ true → scalars b ≡ true
scalars_end [] b h = h
scalars_end (c ∷ cs) b h = scalars_end cs b (and_parts (scalar c) (scalars (cs ++ b)) h).1

-- The byte offset where an end of a text begins.
pub place_cut : (how : LineEnds) (text read : List ℕ) (at : ℕ) → IsUtf8 text
    → (p : ReadsFrom how (length text) (chars text) read at)
    → IsCharBoundary text at × (chars (drop at text) ≡ p.rest)
place_cut how text read at u p =
    let rest : List ℕ = encode_utf8_all p.rest in
    let utf8 : IsUtf8 rest = (
      p.rest,
      (
        scalars_end p.rest_in.front p.rest (ap scalars (sym p.rest_in.text_is) ∙ scalars-chars text u),
        refl,
      ),
    ) in
    let tail : IsTail text rest = record {
      front = encode_utf8_all p.rest_in.front;
      text_is = sym (encodes-chars text u) ∙ ap encode_utf8_all p.rest_in.text_is
          ∙ encodes-append p.rest_in.front p.rest;
      is_text = utf8;
    } in
    let is : length text - length rest ≡ at = omega (arith, p.at_is) in (
      subst (IsCharBoundary text) is (cut_boundary text rest tail),
      ap (λ n. chars (drop n text)) (sym is) ∙ ap chars (cut_drop text rest tail)
          ∙ sym (chars_from_encodes p.rest rest utf8 refl),
    )

-- ---- the first flaw of a quoted literal

module _ (how : LineEnds) (o : Opened) (text : List ℕ) (inside : Bor (List ℕ)) (flaw : Flaw) (opens : IsOpened o)
    (cut : chars text ≡ opened_front o ++ chars inside.now) (x : IsFlawIn how (length text) (chars text) flaw) where
  abbrev read : List ℕ
  read = read_of how (chars inside.now)

  free : lacks_cr (opened_front o) ≡ true
  free = front_free o.form o.kind (chars o.hashes.now) opens

  whole : opened_front o ++ read ≡ read_of how (chars text)
  whole = opened_read how o (chars text) (chars inside.now) opens cut

  found : StrictQuotedFlaw o.form o.kind flaw.kind (content o.form (chars o.hashes.now) read) x.piece x.stop
      × IsRestOf Text read x.stop
  found = quoted_flaw o.form o.kind (chars o.hashes.now) (read_of how (chars text)) read flaw.kind x.piece x.stop opens
      (sym whole) x.found

  within : (end : List ℕ) (at : ℕ) → IsRestOf Text read end → (p : ReadsFrom how (length text) (chars text) end at)
      → IsRestOf how (chars inside.now) p.rest
  within end at = reads_inside how (length text) (chars text) (opened_front o) (chars inside.now) end at cut free

  there : (end : List ℕ) (at : ℕ) → IsRestOf Text read end → ReadsFrom how (length text) (chars text) end at
      → ReadsFrom how (length text) (chars inside.now) end at
  there end at r p = record { rest = p.rest; rest_in = within end at r p; reads = p.reads; at_is = p.at_is }

  piece_in : IsRestOf Text read x.piece
  piece_in = piece_inside o.form o.kind (chars o.hashes.now) read flaw.kind x.piece x.stop opens found.1 found.0

  -- The text that begins with the flaw's piece is an end of the text after the opening delimiter.
  pub first_in : (piece : List ℕ) → chars piece ≡ x.from.rest → IsRestOf how (chars inside.now) (chars piece)
  first_in piece same = subst (IsRestOf how (chars inside.now)) (sym same) (within x.piece flaw.from piece_in x.from)

  pub first_takes : (piece : List ℕ) (q end : ℕ) (left : Left) → chars piece ≡ x.from.rest → q ≡ closer o.kind
      → EndsWhere (is_flaw_of_unit flaw.kind) (ReadsFrom how (length text) (chars piece)
      (after_bad_piece q (read_of how (chars piece)))) flaw.hi end
      → IsLeftAfter (is_string o.kind && is_flaw_of_unit flaw.kind)
      (is_single o.kind && not (is_flaw_after_quote flaw.kind)) how o inside.now piece left
      → TakesFlaw (state_of how (length text) (Inside o inside)) (record { flaw = flaw; end = end })
      (state_of how (length text) left)
  first_takes piece q end left same quote ends after =
      let is : x.piece ≡ read_of how (chars piece) = sym x.from.reads ∙ ap (read_of how) (sym same) in
      inside_takes how o inside (length text) piece flaw.kind (record { flaw = flaw; end = end }) left
      (first_in piece same) refl (record {
        stop = x.stop;
        flaw = subst (λ z. IsFlawAt z flaw.kind (read_of how (chars piece)) x.stop) (sym whole)
            (subst (λ z. IsFlawAt (read_of how (chars text)) flaw.kind z x.stop) is x.found);
        from = subst (λ z. ReadsFrom how (length text) (chars inside.now) z flaw.from) is
            (there x.piece flaw.from piece_in x.from);
        lo = there x.stop flaw.lo found.1 x.lo;
        hi = there (drop 1 x.stop) flaw.hi (step_in Text read x.stop (drop 1 x.stop) found.1
            (text_rest x.stop (first_parts x.stop).0 (drop 1 x.stop) (first_parts x.stop).1)) x.hi;
        end = inside_end how (length text) q flaw.hi end o (chars inside.now) (chars piece) (is_flaw_of_unit flaw.kind)
            (first_in piece same) quote ends;
      }) opens after
