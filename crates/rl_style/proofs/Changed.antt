-- The code compares the bytes of the old and the new text, and so tests whether a style changes a literal.
use Rattle.rl_syntax.proofs.Common.{◌≡◌, ℕ, List, Bool, true, false, not, IsTrue, IsUtf8, refl, sym, ◌∙◌, ap, chars, encode_utf8_all, encodes-chars}
use Rattle.std.specs.Prelude.{◌↔◌}
use Rattle.rl_style.specs.Rewriting.{Rewrites}
use Rattle.rl_style.specs.Rules.{Changes}
use Rattle.rl_style.specs.declared.style.Style.{Style}
use Rattle.rl_style.proofs.OneAnswer.{one_answer}

-- Texts with equal characters have equal bytes.
same_bytes : (x y : List ℕ) → IsUtf8 x → IsUtf8 y → chars x ≡ chars y → x ≡ y
same_bytes x y u v e = sym (encodes-chars x u) ∙ ap encode_utf8_all e ∙ encodes-chars y v

-- A style changes a literal if and only if the new text has other bytes than the old text.
pub changed : (style : Style) (front written text : List ℕ) (same : Bool)
    → Rewrites style front (chars text) (chars written) → IsUtf8 written → IsUtf8 text
    → (IsTrue same ↔ (written ≡ text)) → IsTrue (not same) ↔ Changes style front (chars text)
changed style front written text true rewrites u v is = (
  λ (h : IsTrue (not true)). absurd (cc),
  λ c. absurd (c.2 (one_answer style front (chars text) c.0 (chars written) c.1 rewrites ∙ ap chars (is.0 refl))),
)
changed style front written text false rewrites u v is = (
  λ h. (
    chars written,
    rewrites,
    λ e. let other : IsTrue false = is.1 (same_bytes written text u v e) in absurd (cc),
  ),
  λ c. refl,
)
