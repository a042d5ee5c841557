-- An unescaped ASCII character between single quotes is a literal token, and its value is the character. The code recognizes
-- this token by its three bytes.
use Rattle.rl_strict.proofs.Names.{◌≡◌, ◌<◌, ℕ, suc, zero, true, false, List, [], ◌∷◌, length, get_or, refl, sym, ap, subst, ◌∙◌, arith, inl, and_from, both_ways, IsAscii, IsUtf8, Char, chars-IsAscii, Itself, is_allowed_in_single_quotes, is_strict_unit, Body, SingleForm, OfUnit, IsStrictReading, Unit, ClosesUnits, IsToken}
use Rattle.rl_syntax.proofs.Common.{chars}
use Rattle.rl_lenient.proofs.BareCharacters.{bare_text}
use Rattle.rl_strict.specs.Fronts.{IsBare}
use Rattle.rl_strict.proofs.StrictLemmas.{close_token}

-- ---- the text is a literal token, and its value is the character

abbrev BareBody : Body
BareBody = record { lo = 1; hi = 2; suffix_at = 3; plain = false }

no_backslash : (c : ℕ) → is_allowed_in_single_quotes c ≡ true → c ≡ 92 → ⊥
no_backslash c h e = both_ways (is_allowed_in_single_quotes 92) refl (ap is_allowed_in_single_quotes (sym e) ∙ h)

pub bare_reads : (t : List ℕ) (c : ℕ) → IsUtf8 t → IsBare t c → IsStrictReading t (Unit Char BareBody c)
bare_reads t c u (text, small, bare) =
    let at : get_or t 1 0 ≡ c = ap (λ z. get_or z 1 0) text in
    bare_text t t (OfUnit Char BareBody c) refl u (omega (arith, ap length text)) (ap (λ z. get_or z 0 0) text)
    (ap (λ z. get_or z 2 0) text) (λ e. no_backslash c bare (sym at ∙ e)) (subst (λ z. z < 128) (sym at) small)
    (ap (OfUnit Char BareBody) (sym at))

three_ascii : (c : ℕ) → c < 128 → IsAscii (39 ∷ c ∷ 39 ∷ [])
three_ascii c small zero = omega arith
three_ascii c small (suc zero) = small
three_ascii c small (suc (suc zero)) = omega arith
three_ascii c small (suc (suc (suc i))) = omega arith

closes : (c : ℕ) → is_allowed_in_single_quotes c ≡ true → ClosesUnits Char (c ∷ 39 ∷ [])
closes c bare = record {
  units = Itself c ∷ [];
  suffix = [];
  count = refl;
  each = and_from (is_strict_unit Char (Itself c)) true bare refl;
  blanks_end = tt;
  is_suffix = inl refl;
  text_is = refl;
}

pub bare_token : (t : List ℕ) (c : ℕ) → IsBare t c → IsToken (chars t)
bare_token t c (text, small, bare) = close_token SingleForm Char (chars t) (c ∷ 39 ∷ []) refl
    (ap chars text ∙ chars-IsAscii (39 ∷ c ∷ 39 ∷ []) (three_ascii c small)) (closes c bare)
