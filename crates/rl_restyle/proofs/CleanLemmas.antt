-- Lemmas about the tokens of a source that have no errors.
use Rattle.rl_syntax.proofs.Common.{◌≡◌, ◌<◌, ℕ, Bool, true, false, not, ◌&&◌, and_parts, ap, chars, encode_utf8_all, encodes-chars, IsTrue, IsUtf8, List, [], ◌∷◌, ◌++◌, map, refl, subst, sym, ◌∙◌, AllByRecursion, length, arith}
use Rattle.std.specs.Prelude.{◌↔◌}
use Rattle.std.proofs.lemmas.Bool.{false≢true}
use Rattle.rl_lexer.specs.Cursors.{CursorState}
use Rattle.rl_lexer.specs.Sources.{BadQuoteToken, CutSource, DocBlockToken, DocCommentKind, DocLineToken, IsBorrowedSource, IsCutUpTo, IsLiteralText, IsSource, LifetimeKind, LifetimeToken, PlainKind, PlainToken, RawIdentifierKind, RawIdentifierToken, RawLifetimeToken, SourceKind, SourceLexeme, SourcesUpTo, StrayKind, StrayToken, source_end, source_kind, source_text, source_view, told}
use Rattle.rl_lexer.specs.declared.sources.SourceToken.{SourceToken}
use Rattle.rl_lexer.proofs.SourceLaws.{one_lexing}
use Rattle.rl_strict.proofs.Theorems.{a_bad_quote_is_no_token}
use Rattle.rl_strict.specs.StrictFlaws.{ExplainsStrictly}
use Rattle.rl_strict.specs.StrictShapes.{IsToken}
use Rattle.rl_strict.specs.declared.flaws.Flaw.{Flaw}
use Rattle.rl_style.specs.Recut.{IsSound, IsSoundToken}
use Rattle.rl_style.specs.Restylable.{RestylableState, passed, stray_after}
use Rattle.rl_restyle.specs.Clean.{HasCleanTokens, IsClean, IsCleanLiteral, KeepsTheCleanSource, ends_with_prefix, is_stray}
use Rattle.rl_restyle.specs.Mirrors.{AreCleanIf}
use Rattle.rl_restyle.specs.Places.{IsTextBetween}
use Rattle.rl_restyle.proofs.KeptCuts.{keeps_the_source_around_a_restyled_literal}
use Rattle.rl_restyle.proofs.OneText.{none_at_end}

-- ---- lemmas about one more token

all_more : (P : CutSource → Type 0) (ws : List CutSource) (w : CutSource) → AllByRecursion P ws → P w
    → AllByRecursion P (ws ++ w ∷ [])
all_more P [] w all one = (one, tt)
all_more P (v ∷ ws) w (first, all) one = (first, all_more P ws w all one)

all_parts : (P : CutSource → Type 0) (ws : List CutSource) (w : CutSource) → AllByRecursion P (ws ++ w ∷ [])
    → AllByRecursion P ws × P w
all_parts P [] w (one, none) = (tt, one)
all_parts P (v ∷ ws) w (first, more) = let parts = all_parts P ws w more in ((first, parts.0), parts.1)

no_stray : (before : Bool) (kind : SourceKind) → stray_after before kind ≡ false → (before ≡ false) × (is_stray kind ≡ false)
no_stray before (PlainKind form) e = (e, refl)
no_stray before RawIdentifierKind e = (e, refl)
no_stray before LifetimeKind e = (e, refl)
no_stray before DocCommentKind e = (e, refl)
no_stray before StrayKind e = absurd (cc)

still_no_stray : (before : Bool) (kind : SourceKind) → before ≡ false → is_stray kind ≡ false → stray_after before kind ≡ false
still_no_stray before (PlainKind form) e is = e
still_no_stray before RawIdentifierKind e is = e
still_no_stray before LifetimeKind e is = e
still_no_stray before DocCommentKind e is = e
still_no_stray before StrayKind e is = absurd (cc)

literal_no_stray : (kind : SourceKind) (text : List ℕ) → IsLiteralText kind text → is_stray kind ≡ false
literal_no_stray (PlainKind form) text is = refl
literal_no_stray RawIdentifierKind text is = refl
literal_no_stray LifetimeKind text is = refl
literal_no_stray DocCommentKind text is = refl
literal_no_stray StrayKind text is = absurd is

-- A token that isn't a literal has an error exactly if it is a stray character.
pub other_clean : (t : List ℕ) (cuts : List CutSource) (w : CutSource) (s : RestylableState) (token : SourceToken)
    (tokens : CursorState) (clean : Bool) → IsBorrowedSource token w
    → (IsLiteralText (source_kind w.token) (source_text w.token) → ⊥) → AreCleanIf t cuts s clean
    → AreCleanIf t (cuts ++ w ∷ []) (passed s token tokens) clean
other_clean t cuts w s token tokens clean is none are = (
  λ h.
      let kept = no_stray s.has_stray (source_view token.form) h.1 in
      all_more (IsClean t) cuts w (are.0 (h.0, kept.0)) (ap is_stray is.kind_is ∙ kept.1, λ literal. absurd (none literal)),
  λ all.
      let parts = all_parts (IsClean t) cuts w all in
      let before = are.1 parts.0 in (
        before.0,
        still_no_stray s.has_stray (source_view token.form) before.1 (sym (ap is_stray is.kind_is) ∙ parts.1.0),
      ),
)

-- `later` is true exactly if `clean` is, and the literal has no error.
pub literal_clean : (t : List ℕ) (cuts : List CutSource) (w : CutSource) (s : RestylableState) (token : SourceToken)
    (tokens : CursorState) (clean later : Bool) → IsBorrowedSource token w
    → IsLiteralText (source_kind w.token) (source_text w.token)
    → IsTrue later ↔ (IsTrue clean × IsCleanLiteral t token.lo (chars token.text.now)) → AreCleanIf t cuts s clean
    → AreCleanIf t (cuts ++ w ∷ []) (passed s token tokens) later
literal_clean t cuts w s token tokens clean later is literal later_is are = (
  λ h.
      let kept = no_stray s.has_stray (source_view token.form) h.1 in
      let parts = later_is.0 h.0 in
      all_more (IsClean t) cuts w (are.0 (parts.0, kept.0))
      (literal_no_stray (source_kind w.token) (source_text w.token) literal, λ same. here parts.1),
  λ all.
      let parts = all_parts (IsClean t) cuts w all in
      let before = are.1 parts.0 in (
        later_is.1 (before.0, there (parts.1.1 literal)),
        still_no_stray s.has_stray (source_view token.form) before.1 (sym (ap is_stray is.kind_is) ∙ parts.1.0),
      ),
)
  where
    here : IsCleanLiteral t token.lo (chars token.text.now) → IsCleanLiteral t w.at (source_text w.token)
    here h = subst (λ z. IsCleanLiteral t z (source_text w.token)) (sym is.lo_is)
        (subst (λ z. IsCleanLiteral t token.lo z) (sym is.chars_are) h)

    there : IsCleanLiteral t w.at (source_text w.token) → IsCleanLiteral t token.lo (chars token.text.now)
    there h = subst (λ z. IsCleanLiteral t token.lo z) is.chars_are
        (subst (λ z. IsCleanLiteral t z (source_text w.token)) is.lo_is h)

-- ---- lemmas about the whole source

-- The parts of a token that decide whether it has an error.
abbrev CleanTold : List ℕ → SourceKind × List ℕ × ℕ → Type 0
CleanTold t p = (is_stray p.0 ≡ false) × (IsLiteralText p.0 p.1 → IsCleanLiteral t p.2 p.1)

all_alike : (t : List ℕ) (vs ws : List CutSource) → map told vs ≡ map told ws → AllByRecursion (IsClean t) vs
    → AllByRecursion (IsClean t) ws
all_alike t vs [] same all = tt
all_alike t [] (w ∷ ws) same all = absurd (cc)
all_alike t (v ∷ vs) (w ∷ ws) same (first, all) =
    let here : told v ≡ told w = cc in
    let others : map told vs ≡ map told ws = cc in
    (subst (CleanTold t) here first, all_alike t vs ws others all)

not_true : (b : Bool) → not b ≡ true → b ≡ false
not_true false e = refl
not_true true e = absurd (false≢true e)

pub whole_clean : (t : List ℕ) (cuts : List CutSource) (s : RestylableState) (clean flag : Bool) → IsCutUpTo t cuts []
    → AreCleanIf t cuts s clean → flag ≡ (clean && not s.has_stray) → IsTrue flag ↔ HasCleanTokens t
whole_clean t cuts s clean flag are_cuts are flag_is = (
  λ h others others_are.
      let parts = and_parts clean (not s.has_stray) (sym flag_is ∙ h) in
      all_alike t cuts others (one_lexing t cuts others [] [] are_cuts none_at_end others_are none_at_end).0
      (are.0 (parts.0, not_true s.has_stray parts.1)),
  λ has.
      let parts = are.1 (has cuts are_cuts) in
      flag_is ∙ ap (λ b. b && not s.has_stray) parts.0 ∙ ap not parts.1,
)

sound_token : (t : List ℕ) (token : SourceLexeme) (at : ℕ) (after : List ℕ) → IsSource token after
    → IsClean t (record { token = token; at = at }) → IsSoundToken token
sound_token t (PlainToken l) at after is clean = tt
sound_token t (RawIdentifierToken c more) at after is clean = tt
sound_token t (LifetimeToken c more) at after is clean = tt
sound_token t (RawLifetimeToken c more) at after is clean = tt
sound_token t (DocLineToken body) at after is clean = tt
sound_token t (DocBlockToken inside) at after is clean = tt
sound_token t (BadQuoteToken quote) at after is clean = absurd (a_bad_quote_is_no_token quote after is (clean.1 tt).0)
sound_token t (StrayToken c) at after is clean = absurd (false≢true (sym clean.0))

clean_sound : (t : List ℕ) (at : ℕ) (body : List ℕ) (ws : List CutSource) (r : List ℕ) → SourcesUpTo at body ws r
    → AllByRecursion (IsClean t) ws → AllByRecursion IsSound ws
clean_sound t at body [] r are all = tt
clean_sound t at body (w ∷ ws) r (after, skipped, is, place, more) (first, all) =
    (sound_token t w.token w.at after is first, clean_sound t (source_end w) after ws r more all)

pub keeps_the_clean_source : KeepsTheCleanSource
keeps_the_clean_source style choice t new r has = keeps_the_source_around_a_restyled_literal style choice t new r
    (clean_sound t r.are_cuts.at r.are_cuts.body r.cuts [] r.are_cuts.are_cuts (has r.cuts r.are_cuts))

-- ---- lemmas about the text of a literal

-- The bytes of the text before a literal.
front_bytes : (front bytes : List ℕ) → IsUtf8 bytes → chars bytes ≡ front → encode_utf8_all front ≡ bytes
front_bytes front bytes u is = ap encode_utf8_all (sym is) ∙ encodes-chars bytes u

pub empty_front : (t : List ℕ) → length t < 1 → false ≡ ends_with_prefix t
empty_front [] h = refl
empty_front (b ∷ t) h = absurd (omega (arith, h))

pub prefixed : (source : List ℕ) (lo : ℕ) (text bytes : List ℕ) (before : Bool) (front : List ℕ) → IsUtf8 bytes
    → IsTextBetween source 0 lo front → chars bytes ≡ front → ends_with_prefix bytes ≡ true
    → IsTrue false ↔ (IsTrue before × IsCleanLiteral source lo text)
prefixed source lo text bytes before front u stands is prefix = (
  λ h. absurd (false≢true h),
  λ h. absurd (false≢true (sym (h.1.1 front stands) ∙ ap ends_with_prefix (front_bytes front bytes u is) ∙ prefix)),
)

pub flawed : (source : List ℕ) (lo : ℕ) (text : List ℕ) (before : Bool) (flaw : Flaw) → ExplainsStrictly text flaw
    → IsTrue false ↔ (IsTrue before × IsCleanLiteral source lo text)
flawed source lo text before flaw is = (λ h. absurd (false≢true h), λ h. absurd (is.no_token h.1.0))

pub without_error : (source : List ℕ) (lo : ℕ) (text bytes : List ℕ) (before : Bool) → IsTrue before → IsUtf8 bytes
    → ((front : List ℕ) → IsTextBetween source 0 lo front → chars bytes ≡ front) → ends_with_prefix bytes ≡ false
    → IsToken text → IsTrue true ↔ (IsTrue before × IsCleanLiteral source lo text)
without_error source lo text bytes before so_far u is apart token = (
  λ h. (
    so_far,
    (token, λ front stands. ap ends_with_prefix (front_bytes front bytes u (is front stands)) ∙ apart),
  ),
  λ h. refl,
)
