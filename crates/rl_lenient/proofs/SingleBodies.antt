-- The value of the body of a character or byte literal.
use Rattle.rl_syntax.proofs.Common.{◌≡◌, ◌<◌, ℕ, List, [], ◌∷◌, true, Some, None, refl, sym, ap, subst, ◌∙◌, arith, append-nil, nat_tests, encode_utf8_all}
use Rattle.rl_lenient.proofs.Names.{IsScalar, Kind, Byte, Char, is_single, is_string, unit_text, Bytes, Characters, ReadsQuoted}
use Rattle.std.specs.Str.{chars}
use Rattle.rl_lenient.specs.declared.found.Body.{Body}
use Rattle.rl_lenient.specs.declared.units.Piece.TheVariants.{Character}
use Rattle.rl_lenient.specs.declared.quoted_forms.QuotedForm.{QuotedForm}
use Rattle.rl_lenient.specs.declared.quoted_forms.QuotedForm.TheVariants.{Single as SingleForm}
use Rattle.rl_lenient.specs.Bodies.{HasSingleBody, IsUnitValue}
use Rattle.rl_lenient.specs.Forms.{PartsAre}
use Rattle.rl_lenient.specs.Founds.{IsQuotedAt, IsUnitOf, body_in}
use Rattle.rl_lenient.specs.Mirrors.UnitAt.{found, piece_value, unit_at}
use Rattle.rl_lenient.proofs.ContentLemmas.{ascii_byte, one_byte, one_value}
use Rattle.rl_lenient.proofs.FormLemmas.{not_both, parts_read}
use Rattle.rl_lenient.proofs.RowLemmas.{ends_before}
use Rattle.rl_lenient.proofs.UnitLemmas.{some_pair, unit_complete, unit_sound}

-- ---- the value of one character or escape

-- If a property holds for the kinds `Byte` and `Char`, it holds for each kind of literals with a single character or escape.
by_single : (P : Kind → Type 0) (kind : Kind) → is_single kind ≡ true → P Byte → P Char → P kind
by_single P Byte s b c = b
by_single P Char s b c = c
by_single P kind s b c = absurd (cc)

-- The value of the character or escape in a character or byte literal is one number.
pub unit_one : (kind : Kind) (a : List ℕ) (p : List ℕ × List ℕ) → is_single kind ≡ true → unit_at kind a ≡ Some p
    → (n : ℕ) × (p.0 ≡ n ∷ [])
unit_one kind a p s unit =
    let begun = unit_sound kind a p unit in
    let one = one_value kind begun.unit s begun.allowed in (one.0, begun.value_is ∙ one.1)

-- If the value of a character in a character or byte literal is one number, it is the code point of the character.
pub character_unit : (kind : Kind) (c n : ℕ) → is_single kind ≡ true → IsScalar c → piece_value kind (Character c)
    ≡ n ∷ [] → IsUnitValue kind (piece_value kind (Character c)) c
character_unit kind c n s scalar one = by_single (λ k. piece_value k (Character c) ≡ n ∷ []
    → IsUnitValue k (piece_value k (Character c)) c) kind s of_byte of_character one
  where
    of_byte : encode_utf8_all (c ∷ []) ≡ n ∷ [] → IsUnitValue Byte (encode_utf8_all (c ∷ [])) c
    of_byte e =
        let small : c < 128 = one_byte c n e in
        record { one = λ h. ascii_byte c small; byte = λ h. omega (arith, small); character = λ h. absurd (cc); none = λ h k. absurd (h refl) }

    of_character : c ∷ [] ≡ n ∷ [] → IsUnitValue Char (c ∷ []) c
    of_character e = record { one = λ h. refl; byte = λ h. absurd (cc); character = λ h. scalar; none = λ h k. absurd (k refl) }

-- The value of a byte in a character or byte literal is the number of the byte.
pub byte_unit : (kind : Kind) (b : ℕ) → is_single kind ≡ true → b < 256 → IsUnitValue kind (b ∷ []) b
byte_unit kind b s small = by_single (λ k. IsUnitValue k (b ∷ []) b) kind s of_byte of_character
  where
    of_byte : IsUnitValue Byte (b ∷ []) b
    of_byte = record { one = λ h. refl; byte = λ h. small; character = λ h. absurd (cc); none = λ h k. absurd (h refl) }

    of_character : IsUnitValue Char (b ∷ []) b
    of_character = record { one = λ h. refl; byte = λ h. absurd (cc); character = λ h. grind (arith, nat_tests); none = λ h k. absurd (k refl) }

-- In the parse result of a string literal, the field for the value of a character or byte literal is 0.
pub no_unit : (kind : Kind) (v : List ℕ) → is_string kind ≡ true → IsUnitValue kind v 0
no_unit kind v s = record { one = λ h. absurd (not_both kind s h); byte = λ h. omega arith; character = λ h. refl; none = λ h k. refl }

-- If the number n is the value of the one character or escape in a character or byte literal, n is the literal's value.
pub unit_reads : (form : QuotedForm) (kind : Kind) (t v body x : List ℕ) (n : ℕ) → is_single kind ≡ true
    → PartsAre form kind t v body x → IsUnitValue kind v n → IsUnitOf kind t n
unit_reads form kind t v body x n s parts is = by_single (λ k. PartsAre form k t v body x → IsUnitValue k v n
    → IsUnitOf k t n) kind s of_byte of_character parts is
  where
    of_byte : PartsAre form Byte t v body x → IsUnitValue Byte v n → IsUnitOf Byte t n
    of_byte p u = record { reads = (x, subst (λ w. ReadsQuoted t Byte (Bytes w) x) (u.one refl) (parts_read form Byte t v body x p)); byte = u.byte; character = u.character }

    of_character : PartsAre form Char t v body x → IsUnitValue Char v n → IsUnitOf Char t n
    of_character p u = record { reads = (x, subst (λ w. ReadsQuoted t Char (Characters w) x) (u.one refl) (parts_read form Char t v body x p)); byte = u.byte; character = u.character }

-- ---- the body

-- The body of a character or byte literal is one character or escape.
body_unit : (kind : Kind) (t body : List ℕ) (has : HasSingleBody kind t body) → unit_at kind (chars body)
    ≡ found has.value []
body_unit kind t body has =
    let s = has.parts.0 in
    ap (unit_at kind) (has.parts.1 ∙ sym (append-nil (unit_text s.unit)))
    ∙ (unit_complete kind s.unit [] s.is_unit (ends_before s.unit [] refl) ∙ ap (λ v. found v []) (sym s.value_is))

-- `unit_at` finds a character or escape at the start of the body of a character or byte literal.
pub body_stands : (kind : Kind) (t body : List ℕ) → HasSingleBody kind t body → unit_at kind (chars body) ≡ None → ⊥
body_stands kind t body has none =
    let e : None ≡ found has.value [] = sym none ∙ body_unit kind t body has in
    absurd (cc)

-- The value of the character or escape in the body of a character or byte literal is one number.
pub body_one : (kind : Kind) (t body : List ℕ) (p : List ℕ × List ℕ) → HasSingleBody kind t body
    → unit_at kind (chars body) ≡ Some p → (n : ℕ) × (p.0 ≡ n ∷ [])
body_one kind t body p has unit = unit_one kind (chars body) p has.parts.0.single unit

-- The number of the character or escape in a literal's body is the value of the character or byte literal.
pub body_reads : (kind : Kind) (t body : List ℕ) (p : List ℕ × List ℕ) (n : ℕ) → HasSingleBody kind t body
    → unit_at kind (chars body) ≡ Some p → IsUnitValue kind p.0 n → IsUnitOf kind t n
body_reads kind t body p n has unit is =
    let same = some_pair (has.value, []) p (sym (body_unit kind t body has) ∙ unit) in
    unit_reads SingleForm kind t has.value (chars body) has.suffix n has.parts.0.single has.parts
    (subst (λ v. IsUnitValue kind v n) (sym same.0) is)

-- ---- the offsets of the body

-- A character or byte literal has only the form with single quotes.
single_parts : (form : QuotedForm) (kind : Kind) (t value body suffix : List ℕ) → is_single kind ≡ true
    → PartsAre form kind t value body suffix → PartsAre SingleForm kind t value body suffix
single_parts SingleForm kind t value body suffix s p = p
single_parts k kind t value body suffix s p = absurd (not_both kind p.0.string s)

-- In the parse result of a character or byte literal, the text at the body's byte offsets is the text between the literal's
-- quotes.
pub single_at : (kind : Kind) (t : List ℕ) (body : Body) → is_single kind ≡ true → IsQuotedAt kind t body
    → HasSingleBody kind (chars t) (body_in t body)
single_at kind t body s at =
    record { value = at.value; suffix = _; parts = single_parts at.form kind (chars t) at.value (chars (body_in t body)) _ s at.parts }
