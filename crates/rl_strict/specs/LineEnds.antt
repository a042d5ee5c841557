-- CR LF in the text of a literal. In a file, the text is read without each CR before an LF. Outside files, the text is read
-- unchanged. Texts are lists of characters.
use Rattle.std.specs.Prelude.{◌≡◌, ◌⊎◌, ℕ, ◌==◌, ◌&&◌, Bool, false, true, not, cond, List, [], ◌∷◌, ◌++◌, Some, IsFalse, IsTrue}
use Rattle.std.specs.Str.{chars}
use Prim.Native.Char.{code}
use Rattle.rl_syntax.specs.Texts.{begins_char, first_passes}
use Rattle.rl_lexer.specs.Sources.{is_apostrophe}
use Rattle.rl_strict.specs.Mirrors.StrictAt.{unit_rest}
use Rattle.rl_strict.specs.Mirrors.SuffixRead.{suffix_read_at}
use Rattle.rl_strict.specs.Mirrors.UnitFlawAt.{found_flaw}
use Rattle.rl_strict.specs.declared.flaws.FlawAt.{FlawAt}
use Rattle.rl_strict.specs.declared.flaws.FlawKind.TheVariants.{Unclosed}
use Rattle.rl_syntax.specs.declared.kind.Kind.{Kind}
use Rattle.rl_lenient.specs.declared.quoted_forms.QuotedForm.{QuotedForm}
use Rattle.rl_strict.specs.declared.flaws.FlawKind.{FlawKind}
use Rattle.rl_strict.specs.declared.line_ends.LineEnds.{LineEnds}
use Rattle.rl_strict.specs.declared.line_ends.LineEnds.TheVariants.{Text, File}
use Rattle.rl_strict.specs.Flaws.{StopsBefore}
use Rattle.rl_strict.specs.StrictFlawKinds.{StrictQuotedFlaw}
use Rattle.rl_strict.specs.StrictShapes.{ClosesForm}

-- The character `c` is a CR, and the text `following`, which comes after `c`, begins with LF.
abbrev pub is_dropped : ℕ → List ℕ → Bool
is_dropped c following = c == code "\r" && begins_char (code "\n") following

-- The text as rustc reads it in a file: without each CR before an LF.
abbrev pub lf_text : List ℕ → List ℕ
lf_text [] = []
lf_text (c ∷ cs) = cond (is_dropped c cs) (lf_text cs) (c ∷ lf_text cs)

-- The text as it is read: unchanged outside files, and without each CR before an LF in a file.
abbrev pub read_of : LineEnds → List ℕ → List ℕ
read_of Text text = text
read_of File text = lf_text text

-- In a file, the character `c` is a CR, and the text `following`, which comes after `c`, begins with LF. So `c` isn't read.
abbrev pub drops : LineEnds → ℕ → List ℕ → Bool
drops Text c following = false
drops File c following = is_dropped c following

-- The first text doesn't end with CR, or the second text doesn't begin with LF. So the border between the two adjacent texts
-- isn't between a CR and its LF.
abbrev pub is_seam : List ℕ → List ℕ → Bool
is_seam [] rest = true
is_seam (c ∷ []) rest = not (is_dropped c rest)
is_seam (c ∷ d ∷ ds) rest = is_seam (d ∷ ds) rest

-- In a file, the border between two adjacent texts isn't between a CR and its LF. Outside files, any border is allowed.
abbrev pub is_seam_of : LineEnds → List ℕ → List ℕ → Bool
is_seam_of Text front rest = true
is_seam_of File front rest = is_seam front rest

-- `text` ends with `rest`. In a file, `rest` doesn't begin between a CR and its LF.
pub record IsRestOf (ends : LineEnds) (text rest : List ℕ) : Type 0 where
  pub front : List ℕ
  pub text_is : text ≡ front ++ rest
  pub seam : IsTrue (is_seam_of ends front rest)

-- The text after an opening delimiter isn't the end of a literal of the form. (The end of the string `"a"` is `a"`.) The
-- flaw is at `rest`: the text before `rest` can be completed to the end of a literal, and no longer prefix can. The text to
-- show for the flaw begins at `piece`. `flaw` is the kind of flaw.
pub record StopsIn (form : QuotedForm) (kind : Kind) (flaw : FlawKind) (text piece rest : List ℕ) : Type 0 where
  pub none : ClosesForm form kind text → ⊥
  pub stops : StopsBefore (ClosesForm form kind) text rest
  pub has : StrictQuotedFlaw form kind flaw text piece rest

-- The text `whole` after an opening delimiter has a flaw of the kind `flaw`, so `whole` isn't the end of a literal of the
-- form. The flaw is at `rest`, and the text to show for the flaw begins at `piece`. `piece` and `rest` are ends of `text`,
-- the text as written. In a file, CR LF in `piece` and `rest` is read as LF before they are compared with `whole`.
pub record StopsAsRead (ends : LineEnds) (form : QuotedForm) (kind : Kind) (flaw : FlawKind) (whole text piece rest : List ℕ) : Type 0 where
  pub stops : StopsIn form kind flaw whole (read_of ends piece) (read_of ends rest)
  pub piece_in : IsRestOf ends text piece
  pub rest_in : IsRestOf ends text rest

-- The flaw `found` of a quoted literal is in the literal's content or after the closing delimiter. For a flaw in the
-- content, the text to show begins at `closing`, where the valid content ends. If `closing` is empty, the flaw is the
-- missing closing quote.
abbrev pub IsOfStretch : QuotedForm → List ℕ → FlawAt → Type 0
IsOfStretch form closing found =
    ((found.piece.now ≡ closing) × (chars closing ≡ [] → found.kind ≡ Unclosed))
    ⊎ ((suffix : List ℕ) × (Some (found_flaw found.kind (chars found.rest.now)) ≡ suffix_read_at form suffix))

-- `text` follows the opening quote of a character or byte literal. If `'` follows the character or escape at the beginning
-- of `text`, `closing` begins at this `'`. Otherwise `closing` is all of `text`.
abbrev pub IsGoodUnit : Kind → List ℕ → List ℕ → Type 0
IsGoodUnit kind text closing =
    ((unit_rest kind text ≡ Some closing) × IsTrue (first_passes is_apostrophe closing))
    ⊎ ((closing ≡ text) × ((rest : List ℕ) → unit_rest kind text ≡ Some rest → IsFalse (first_passes is_apostrophe rest)))
