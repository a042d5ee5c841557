-- The value of a C string literal contains no zero byte.
use Rattle.rl_syntax.proofs.Common.{◌≡◌, ℕ, ◌+◌, ◌/◌, ◌%◌, ◌≤◌, true, false, not, eqb, ltb, List, [], ◌∷◌, ◌++◌, refl, ap, ◌∙◌, inl, inr, arith, encode_utf8, list_all, AllByRecursion, list_all-append, and_parts, and_from, cases_Bool, not-true, not_from_false, ne_eqb, or_parts}
use Rattle.std.specs.Prelude.{encode_utf8_all}
use Rattle.rl_syntax.specs.declared.kind.Kind.TheVariants.{CStr}
use Rattle.rl_syntax.specs.Quoted.{QuotedUnit, Plain, CrLf, Named, Hex, Unicode, Continuation, letter_value, unit_value, hex_value, unicode_value, allows_code, is_plain, IsUnit, values}
use Rattle.rl_syntax.specs.Reading.{Bytes, Reads}
use Rattle.rl_syntax.specs.Agreeing.{is_zero, has_no_zero}

more_than_zero : (n k : ℕ) → 1 ≤ k → eqb (k + n) 0 ≡ false
more_than_zero n k h = ne_eqb (k + n) 0 (λ e. absurd (omega arith))

-- The bytes of a character that isn't NUL contain no zero byte.
encode_no_zero : (c : ℕ) → eqb c 0 ≡ false → has_no_zero (encode_utf8 c) ≡ true
unfolding lib.Utf8.encode
encode_no_zero c h =
    elim (cases_Bool (ltb c 128)) [
      | inl a ↦ rw a (rw h refl)
      | inr a ↦ rw a (elim (cases_Bool (ltb c 2048)) [
        | inl b ↦ rw b (let p = more_than_zero (c / 64) 192 (omega arith) in let q = more_than_zero (c % 64) 128
            (omega arith) in rw (p, q) refl)
        | inr b ↦ rw b (elim (cases_Bool (ltb c 65536)) [
          | inl d ↦ rw d (let p = more_than_zero (c / 4096) 224 (omega arith) in let q = more_than_zero (c / 64 % 64)
              128 (omega arith) in let r = more_than_zero (c % 64) 128 (omega arith) in rw (p, q, r) refl)
          | inr d ↦ rw d (let p = more_than_zero (c / 262144) 240 (omega arith) in let q = more_than_zero
              (c / 4096 % 64) 128 (omega arith) in let r = more_than_zero (c / 64 % 64) 128 (omega arith) in let s =
              more_than_zero (c % 64) 128 (omega arith) in rw (p, q, r, s) refl)
        ])
      ])
    ]

join_no_zero : (xs ys : List ℕ) → has_no_zero xs ≡ true → has_no_zero ys ≡ true → has_no_zero (xs ++ ys) ≡ true
join_no_zero xs ys h k = list_all-append (λ b. not (is_zero b)) xs ys ∙ and_from _ _ h k

encodes_no_zero : (cs : List ℕ) → list_all (allows_code CStr) cs ≡ true → has_no_zero (encode_utf8_all cs) ≡ true
encodes_no_zero [] h = refl
encodes_no_zero (c ∷ cs) h =
    let p = and_parts (allows_code CStr c) (list_all (allows_code CStr) cs) h in
    join_no_zero (encode_utf8 c) (encode_utf8_all cs) (encode_no_zero c (not-true (eqb c 0) p.0))
    (encodes_no_zero cs p.1)

one_no_zero : (c : ℕ) → allows_code CStr c ≡ true → has_no_zero (c ∷ []) ≡ true
one_no_zero c h = and_from _ _ h refl

plain_may : (c : ℕ) → is_plain CStr c ≡ true → allows_code CStr c ≡ true
plain_may c h = let n = not-true _ h in not_from_false (eqb c 0) (or_parts _ (eqb c 0) n).1

unit_no_zero : (u : QuotedUnit) → IsUnit CStr u → has_no_zero (unit_value CStr u) ≡ true
unit_no_zero (Plain c) h = encodes_no_zero (c ∷ []) (and_from _ _ (plain_may c h) refl)
unit_no_zero CrLf h = refl
unit_no_zero (Named l) h = one_no_zero (letter_value l) h
unit_no_zero (Hex high low) h = one_no_zero (hex_value high low) (and_parts _ _ h.2).0
unit_no_zero (Unicode first more) h = encodes_no_zero (unicode_value first more ∷ []) (and_from _ _ h.5 refl)
unit_no_zero (Continuation c run) h = refl

units_no_zero : (us : List QuotedUnit) → AllByRecursion (IsUnit CStr) us → has_no_zero (values CStr us) ≡ true
units_no_zero [] h = refl
units_no_zero (u ∷ us) h = join_no_zero (unit_value CStr u) (values CStr us) (unit_no_zero u h.0) (units_no_zero us h.1)

bytes_same : (v w : List ℕ) → Bytes v ≡ Bytes w → v ≡ w
bytes_same v w e = cc

-- The value of a C string literal contains no zero byte.
pub c_string_no_zero : (t v x : List ℕ) → Reads t CStr (Bytes v) x → has_no_zero v ≡ true
c_string_no_zero t v x r =
    let same : v ≡ r.value = bytes_same v r.value r.contents_is in
    elim r.form [
      | inl a ↦ ap has_no_zero (same ∙ a.value_is) ∙ units_no_zero a.units a.each
      | inr b ↦ elim b [
        | inl a ↦ ap has_no_zero (same ∙ a.value_is) ∙ encodes_no_zero a.inside a.each
        | inr a ↦ absurd (let s : false ≡ true = a.single in cc)
      ]
    ]
