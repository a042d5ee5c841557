-- Lemmas about the output line of a literal, from its decoded value and its suffix.
use Rattle.rl_lenient.proofs.Names.{Byte, ByteStr, CStr, Char, Contents, Float, HasContents, HasSuffix, Int, Kind, Reads, Str, truth_text}
use Rattle.rl_syntax.proofs.Common.{Bool, List, [], ap, chars, codes, false, refl, subst, true, ℕ, ◌++◌, ◌∙◌, ◌≡◌}
use Rattle.rl_syntax.specs.declared.kind.Kind.TheVariants.{Bool as BoolKind}
use Rattle.rl_syntax.proofs.OneReading.{one_reading}
use Rattle.rl_program.specs.Lines.{line, kind_label, payload, literal_line, IsLineOfKind, Appends}

-- The characters of the name of a kind of literals are its bytes.
pub word_chars : (kind : Kind) → chars (kind_label kind) ≡ kind_label kind
unfolding chars
word_chars Str = refl
word_chars ByteStr = refl
word_chars CStr = refl
word_chars Byte = refl
word_chars Char = refl
word_chars Int = refl
word_chars Float = refl
word_chars BoolKind = refl

pub truth_chars : (b : Bool) → chars (truth_text b) ≡ truth_text b
unfolding chars
truth_chars true = refl
truth_chars false = refl

pub verbatim_chars : chars (codes "Verbatim") ≡ codes "Verbatim"
unfolding chars
verbatim_chars = refl

pub no_chars : chars [] ≡ []
unfolding chars
no_chars = refl

-- A text has at most one parse result. If a line with the decoded value and the suffix of a parse result is appended to
-- the output, the line is the output line of the text.
pub prints_kind : (kind : Kind) (text old new shown suffix : List ℕ) (contents : Contents)
    → HasContents kind text contents → HasSuffix kind text suffix → shown ≡ payload kind contents → new ≡ old
    ++ line (kind_label kind) shown suffix → Appends (IsLineOfKind kind text) old new
prints_kind kind text old new shown suffix contents c s e h =
    let one = one_reading text kind kind contents s.0 c.0 suffix c.1 s.1 in (
      literal_line kind contents suffix,
      (contents, suffix, subst (λ x. Reads text kind contents x) one.2 c.1, refl),
      h
          ∙ ap (λ z. old ++ line (kind_label kind) z suffix) e,
    )

-- A line is appended if the new text is the old text and the line.
pub appends_is : (line old new : List ℕ) → new ≡ old ++ line → Appends (λ piece. piece ≡ line) old new
appends_is line old new e = (line, refl, e)
