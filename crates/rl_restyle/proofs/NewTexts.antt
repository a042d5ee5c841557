-- Lemmas about the new text of a literal, as the code creates it.
use Rattle.rl_syntax.proofs.Common.{◌≡◌, ◌≢◌, ◌++◌, inl, chars-append, List, Ok, Err, Option, Result, Some, None, ℕ, sym, ◌∙◌, ap, subst, chars, encode_utf8_all, encodes-chars, string_bytes, IsUtf8, IfNone, IfOk, IfSome}
use Rattle.std.specs.Prelude.{String}
use Rattle.rl_strict.specs.StrictShapes.{IsToken}
use Rattle.rl_strict.specs.StrictFlaws.{ExplainsStrictly}
use Rattle.rl_strict.specs.declared.flaws.Flaw.{Flaw}
use Rattle.rl_style.specs.Rewriting.{Rewrites}
use Rattle.rl_style.specs.declared.style.Style.{Style}
use Rattle.rl_style.proofs.OneAnswer.{one_answer}
use Rattle.rl_style.proofs.SameLiterals.{same_number}
use Rattle.rl_style.specs.declared.restylable.Restylable.{Restylable}
use Rattle.rl_restyle.specs.Places.{IsTextBetween}
use Rattle.rl_restyle.specs.Edits.{IsChosenLiteral, IsRewritten, IsTextOf, text_in}
use Rattle.rl_restyle.specs.declared.edit.Choice.{Choice}

-- Texts with equal characters have equal bytes.
pub same_bytes : (x y : List ℕ) → IsUtf8 x → IsUtf8 y → chars x ≡ chars y → x ≡ y
same_bytes x y u v e = sym (encodes-chars x u) ∙ ap encode_utf8_all e ∙ encodes-chars y v

-- If a text isn't a literal token, a style leaves the text unchanged.
pub no_other : (style : Style) (front text : List ℕ) (flaw : Flaw) → ExplainsStrictly text flaw → (new : List ℕ)
    → Rewrites style front text new → new ≡ text
no_other style front text flaw is new rewrites =
    let same = same_number style front text new rewrites in
    let token : IsToken text = record {
      kind = same.kind;
      contents = same.contents;
      suffix = same.suffix;
      strict = same.was;
    } in
    absurd (is.no_token token)

-- Suppose that a literal may be rewritten, and that `before` is the source before the literal. If the code rewrites the
-- literal after the text `before`, the result is the literal's new text in the source.
pub literal_text : {A E : Type 0} (style : Style) (choice : Choice) (source : List ℕ) (l : Restylable)
    (before : List ℕ) (made : Result (Option (String A)) E) → IsChosenLiteral choice l
    → ((front : List ℕ) → IsTextBetween source 0 l.token.lo front → before ≡ front)
    → IfOk made (λ m. IsRewritten style before (chars l.token.text.now) (text_in m))
    → IfOk made (λ m. IsTextOf style choice source l (text_in m))
literal_text style choice source l before (Err e) taken at is = tt
literal_text style choice source l before (Ok m) taken at is = inl (
  taken,
  λ front stands. subst (λ z. IsRewritten style z (chars l.token.text.now) (text_in m)) (at front stands) is,
)

-- If a piece is appended to a text, the characters of the piece are appended to the characters of the text.
pub piece_after : (old piece new : List ℕ) (middle : List ℕ) → IsUtf8 old → new ≡ old ++ piece → chars piece ≡ middle
    → chars new ≡ chars old ++ middle
piece_after old piece new middle u is same = ap chars is ∙ chars-append old piece u ∙ ap (λ z. chars old ++ z) same

-- If the code returns the written text of a literal, or `None` if it equals the old text, the result is the literal's
-- new text.
pub text_made : {A : Type 0} (style : Style) (front old written : List ℕ) (made : Option (String A))
    → Rewrites style front old written → IfNone made (written ≡ old)
    → IfSome made (λ s. chars (string_bytes s) ≡ written) → IfSome made (λ s. written ≢ old)
    → IsRewritten style front old (text_in made)
text_made style front old written None rewrites same other differs =
    λ new h. one_answer style front old new written h rewrites ∙ same
text_made style front old written (Some s) rewrites same other differs = (
  subst (Rewrites style front old) (sym other) rewrites,
  λ is. differs (sym other ∙ is),
)

pub text_copied : {A E : Type 0} (style : Style) (front old written : List ℕ) (made : Result (Option (String A)) E)
    → Rewrites style front old written → IfOk made (λ m. IfNone m (written ≡ old))
    → IfOk made (λ m. IfSome m (λ s. chars (string_bytes s) ≡ written))
    → IfOk made (λ m. IfSome m (λ s. written ≢ old)) → IfOk made (λ m. IsRewritten style front old (text_in m))
text_copied style front old written (Err e) rewrites same other differs = tt
text_copied style front old written (Ok m) rewrites same other differs =
    text_made style front old written m rewrites same other differs
