-- The names of integer types are suffixes of numbers. No name begins with a character that could continue a number's digits.
use Rattle.rl_syntax.proofs.Common.{◌≡◌, ℕ, ◌||◌, ◌&&◌, Bool, true, false, not, eqb, List, [], ◌∷◌, Option, Some, None, refl, ap, ◌∙◌, inl, inr, is_ascii_alphabetic, is_ascii_alphanumeric, is_ascii_hexdigit, list_all, and_from, and_parts, or_right, both_ways, or_parts, ltb-true, not-true, is_xid_continue, is_xid_start, is_xid_continue-ascii, is_xid_start-ascii}
use Rattle.rl_syntax.specs.Texts.{first_passes, is_underscore, IsWord}
use Rattle.rl_syntax.proofs.Basics.{apart}
use Rattle.rl_syntax.specs.Numbers.{is_exponent_letter}
use Rattle.rl_syntax.specs.Strict.{IsStrictSuffix}
use Rattle.rl_syntax.specs.declared.integer_type.IntegerType.{IntegerType}
use Rattle.rl_syntax.specs.declared.integer_type.IntegerType.TheVariants.{U8, U16, U32, U64, U128, Usize, I8, I16, I32, I64, I128, Isize}
use Rattle.rl_writing.specs.Integers.{suffix_text}
use Rattle.rl_writing.proofs.AsciiLemmas.{is_low}

-- Whether the character is the letter of a base prefix: `b`, `o` or `x`.
abbrev pub is_base_letter : ℕ → Bool
is_base_letter c = (eqb c 98 || eqb c 111) || eqb c 120

-- Whether the character is an underscore, a hexadecimal digit, or the letter of an exponent or of a base prefix. No name of an
-- integer type begins with one of these characters.
abbrev goes_wrong : ℕ → Bool
goes_wrong c = (is_underscore c || is_exponent_letter c) || (is_ascii_hexdigit c || is_base_letter c)

pub record IsPlainSuffix (x : List ℕ) : Type 0 where
  pub word : IsStrictSuffix x
  pub no_underscore : first_passes is_underscore x ≡ false
  pub no_exponent : first_passes is_exponent_letter x ≡ false
  pub no_digit : first_passes is_ascii_hexdigit x ≡ false
  pub no_base : first_passes is_base_letter x ≡ false
  pub ascii : list_all is_low x ≡ true

abbrev is_name_part : ℕ → Bool
is_name_part c = is_low c && (is_ascii_alphanumeric c || eqb c 95)

part_continues : (c : ℕ) → is_name_part c ≡ true → is_xid_continue c ≡ true
part_continues c h =
    let p = and_parts (is_low c) (is_ascii_alphanumeric c || eqb c 95) h in
    is_xid_continue-ascii c (ltb-true c 128 p.0) ∙ p.1

parts_pass : (test : ℕ → Bool) → ((c : ℕ) → is_name_part c ≡ true → test c ≡ true) → (cs : List ℕ)
    → list_all is_name_part cs ≡ true → list_all test cs ≡ true
parts_pass test each [] h = refl
parts_pass test each (c ∷ cs) h =
    let p = and_parts (is_name_part c) (list_all is_name_part cs) h in
    and_from (test c) (list_all test cs) (each c p.0) (parts_pass test each cs p.1)

part_low : (c : ℕ) → is_name_part c ≡ true → is_low c ≡ true
part_low c h = (and_parts (is_low c) (is_ascii_alphanumeric c || eqb c 95) h).0

abbrev is_name : ℕ → List ℕ → Bool
is_name c cs = (is_ascii_alphabetic c && not (goes_wrong c)) && (is_name_part c && list_all is_name_part cs)

name_word : (c : ℕ) (cs : List ℕ) → is_ascii_alphabetic c ≡ true → is_name_part c ≡ true
    → list_all is_name_part cs ≡ true → IsWord (c ∷ cs)
name_word c cs letter first more = record {
  identifier =
      let low = ltb-true c 128 (part_low c first) in
      and_from (eqb c 95 || is_xid_start c) (list_all is_xid_continue cs)
      (or_right (eqb c 95) (is_xid_start c) (is_xid_start-ascii c low ∙ letter))
      (parts_pass is_xid_continue part_continues cs more);
  not_underscore = λ e. both_ways (eqb c 95) (apart is_ascii_alphabetic c 95 letter refl)
      (ap (first_passes (λ z. eqb z 95)) e);
}

named : (c : ℕ) (cs : List ℕ) → is_name c cs ≡ true → IsPlainSuffix (c ∷ cs)
named c cs h =
    let p = and_parts (is_ascii_alphabetic c && not (goes_wrong c)) (is_name_part c && list_all is_name_part cs) h in
    let q = and_parts (is_ascii_alphabetic c) (not (goes_wrong c)) p.0 in
    let r = and_parts (is_name_part c) (list_all is_name_part cs) p.1 in
    let n = or_parts _ _ (not-true (goes_wrong c) q.1) in
    let a = or_parts (is_underscore c) (is_exponent_letter c) n.0 in
    let b = or_parts (is_ascii_hexdigit c) (is_base_letter c) n.1 in
    record {
      word = inr (name_word c cs q.0 r.0 r.1);
      no_underscore = a.0;
      no_exponent = a.1;
      no_digit = b.0;
      no_base = b.1;
      ascii = and_from _ _ (part_low c r.0) (parts_pass is_low part_low cs r.1);
    }

pub suffix_is : (suffix : Option IntegerType) → IsPlainSuffix (suffix_text suffix)
suffix_is None = record { word = inl refl; no_underscore = refl; no_exponent = refl; no_digit = refl; no_base = refl; ascii = refl }
suffix_is (Some U8) = named 117 (56 ∷ []) refl
suffix_is (Some U16) = named 117 (49 ∷ 54 ∷ []) refl
suffix_is (Some U32) = named 117 (51 ∷ 50 ∷ []) refl
suffix_is (Some U64) = named 117 (54 ∷ 52 ∷ []) refl
suffix_is (Some U128) = named 117 (49 ∷ 50 ∷ 56 ∷ []) refl
suffix_is (Some Usize) = named 117 (115 ∷ 105 ∷ 122 ∷ 101 ∷ []) refl
suffix_is (Some I8) = named 105 (56 ∷ []) refl
suffix_is (Some I16) = named 105 (49 ∷ 54 ∷ []) refl
suffix_is (Some I32) = named 105 (51 ∷ 50 ∷ []) refl
suffix_is (Some I64) = named 105 (54 ∷ 52 ∷ []) refl
suffix_is (Some I128) = named 105 (49 ∷ 50 ∷ 56 ∷ []) refl
suffix_is (Some Isize) = named 105 (115 ∷ 105 ∷ 122 ∷ 101 ∷ []) refl
