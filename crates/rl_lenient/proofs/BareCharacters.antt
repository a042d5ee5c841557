-- Character and byte literals whose body is one ASCII character that is its own value.
use Rattle.rl_syntax.proofs.Common.{◌≡◌, ◌<◌, ◌≤◌, ℕ, suc, zero, false, not, eqb, List, [], ◌∷◌, length, drop, get_or, refl, sym, ap, subst, ◌∙◌, arith, inl, inr, eqb-true, cases_Bool, IsUtf8-drop, IsCharBoundary, IsAscii, IsUtf8}
use Rattle.rl_lenient.proofs.Names.{Char, Plain}
use Rattle.std.proofs.lemmas.Str.{IsCharBoundary-after_ascii, chars-IsAscii}
use Rattle.std.specs.Str.{chars}
use Rattle.rl_syntax.proofs.ScanLemmas.{ascii_first}
use Rattle.rl_lenient.specs.declared.found.Body.{Body}
use Rattle.rl_lenient.specs.declared.found.Found.{Found}
use Rattle.rl_lenient.specs.declared.quoted_forms.QuotedForm.TheVariants.{Single as SingleForm}
use Rattle.rl_lenient.specs.Forms.{PartsAre}
use Rattle.rl_lenient.specs.Founds.{IsFound, IsQuotedAt}
use Rattle.rl_lenient.proofs.FoundLemmas.{OfUnit, quoted_found}
use Rattle.rl_lenient.proofs.SingleBodies.{byte_unit}

-- If the first character of a UTF-8 text is ASCII, the text after this character is UTF-8.
after : (c : ℕ) (x : List ℕ) → c < 128 → IsUtf8 (c ∷ x) → IsUtf8 x
after c x small u = IsUtf8-drop (c ∷ x) 1 u (IsCharBoundary-after_ascii (c ∷ x) 0 u (omega arith) small)

one_ascii : (c : ℕ) → c < 128 → IsAscii (c ∷ [])
one_ascii c small zero = small
one_ascii c small (suc i) = omega arith

abbrev BareBody : Body
BareBody = record { lo = 1; hi = 2; suffix_at = 3; plain = false }

bare_parts : (c : ℕ) (x : List ℕ) → c < 128 → eqb c 92 ≡ false → IsUtf8 (39 ∷ c ∷ 39 ∷ x)
    → PartsAre SingleForm Char (chars (39 ∷ c ∷ 39 ∷ x)) (c ∷ []) (chars (c ∷ [])) (chars x)
bare_parts c x small other u =
    let bare = after 39 (c ∷ 39 ∷ x) (omega arith) u in
    let closer = after c (39 ∷ x) small bare in (
      record {
        unit = Plain c;
        single = refl;
        is_unit = ap not other;
        text_is = ascii_first (39 ∷ c ∷ 39 ∷ x) u (omega arith) (omega arith)
            ∙ ap (λ z. 39 ∷ z) (ascii_first (c ∷ 39 ∷ x) bare (omega arith) small
            ∙ ap (λ z. c ∷ z) (ascii_first (39 ∷ x) closer (omega arith) (omega arith)));
        value_is = refl;
      },
      chars-IsAscii (c ∷ []) (one_ascii c small),
    )

bare_found : (c : ℕ) (x : List ℕ) → c < 128 → eqb c 92 ≡ false → IsUtf8 (39 ∷ c ∷ 39 ∷ x)
    → IsFound (39 ∷ c ∷ 39 ∷ x) (OfUnit Char BareBody c)
bare_found c x small other u =
    let t = 39 ∷ c ∷ 39 ∷ x in
    let parts = bare_parts c x small other u in
    let at : IsQuotedAt Char t BareBody = record {
      form = SingleForm;
      value = c ∷ [];
      parts = parts;
      plain_is = refl;
      lo_is = refl;
      stands = record {
        ordered = omega arith;
        begins = IsCharBoundary-after_ascii t 0 u (omega arith) (omega arith);
        ends = IsCharBoundary-after_ascii t 1 u (omega arith) small;
        following = IsCharBoundary-after_ascii t 2 u (omega arith) (omega arith);
      };
    } in
    quoted_found t Char BareBody c _ u at (byte_unit Char c refl (omega (arith, small))) refl

-- If the bytes of a text begin with an ASCII character between single quotes, other than a backslash, the text is a character
-- literal with that character as its value.
pub bare_text : (t b : List ℕ) (found : Found) → b ≡ t → IsUtf8 t → 3 ≤ length t → get_or t 0 0 ≡ 39 → get_or b 2 0 ≡ 39
    → (get_or b 1 0 ≡ 92 → ⊥) → get_or b 1 0 < 128 → found ≡ OfUnit Char BareBody (get_or b 1 0) → IsFound t found
bare_text t b found same u long first last other small found_is =
    let of_t = of_bytes b (subst IsUtf8 (sym same) u) (omega (arith, long, ap length same))
    (ap (λ z. get_or z 0 0) same ∙ first) last other small in
    subst (IsFound t) (sym found_is) (subst (λ z. IsFound z (OfUnit Char BareBody (get_or b 1 0))) same of_t)
  where
    of_bytes : (t : List ℕ) → IsUtf8 t → 3 ≤ length t → get_or t 0 0 ≡ 39 → get_or t 2 0 ≡ 39 → (get_or t 1 0 ≡ 92 → ⊥)
        → get_or t 1 0 < 128 → IsFound t (OfUnit Char BareBody (get_or t 1 0))
    of_bytes [] u long first last other small = absurd (omega arith)
    of_bytes (a ∷ []) u long first last other small = absurd (omega arith)
    of_bytes (a ∷ b ∷ []) u long first last other small = absurd (omega arith)
    of_bytes (a ∷ b ∷ c ∷ x) u long first last other small =
        let At : ℕ → ℕ → List ℕ = λ p q. p ∷ b ∷ q ∷ x in
        let not_backslash : eqb b 92 ≡ false = elim (cases_Bool (eqb b 92))
        [ inl e ↦ absurd (other (eqb-true b 92 e)) | inr e ↦ e ] in
        let text : IsUtf8 (At 39 39) = subst (λ q. IsUtf8 (At 39 q)) last (subst (λ p. IsUtf8 (At p c)) first u) in
        subst (λ p. IsFound (At p c) (OfUnit Char BareBody b)) (sym first)
        (subst (λ q. IsFound (At 39 q) (OfUnit Char BareBody b)) (sym last)
        (bare_found b x small not_backslash text))

-- ---- the quote at the start

pub quote_boundary : (t : List ℕ) → IsUtf8 t → get_or t 0 0 ≡ 39 → IsCharBoundary t 1
quote_boundary [] u e = absurd (cc)
quote_boundary (c ∷ x) u e = IsCharBoundary-after_ascii (c ∷ x) 0 u (omega arith) (omega (arith, e))

pub quote_first : (t inside : List ℕ) → IsUtf8 t → get_or t 0 0 ≡ 39 → inside ≡ drop 1 t → chars t ≡ 39 ∷ chars inside
quote_first [] inside u e is = absurd (cc)
quote_first (c ∷ x) inside u e is = ascii_first (c ∷ x) u (omega arith) (omega (arith, e)) ∙ ap (λ z. z ∷ chars x) e
    ∙ ap (λ z. 39 ∷ chars z) (sym is)
