-- The parsers of one character or escape: their results for each first character, and texts that complete an incomplete
-- escape.
use Rattle.rl_strict.proofs.Names.{◌≡◌, ℕ, suc, ◌+◌, ◌*◌, ◌^◌, ◌<◌, ◌≤◌, ◌||◌, ◌&&◌, Bool, true, false, not, cond, eqb, ltb, List, [], ◌∷◌, ◌++◌, Option, Some, None, refl, sym, ap, subst, ◌∙◌, ◌⊎◌, inl, inr, arith, option_and_then, digit_value, scalar, and_from, and_parts, both_ways, cases_Bool, eqb-true, ltb-true, ltb-false, lt-ltb, eq-eqb, ne_eqb, or_right, IsScalar, pow-suc, and_right, le-ltb, Kind, CStr, content_of, is_hex_digit, decodes_to_chars, is_string, is_single, is_line_end, allows_code, may_be_hex, allows_unicode_escapes, leb, pow-le-pow_right, le-leb, leb-false, IsCompletable, found, number_if, digit_at, hex_at, unicode_at, after_blanks, named_in, named_at, escape_at, unit_at, is_code, holds_more, unicode_sound, below_six, digit_apart, unicode_digits_at, unicode_is}

-- ---- parsers of the beginning of a text

abbrev pub Reader : Type 0 → Type 0
Reader V = List ℕ → Option (V × List ℕ)

-- The result of a successful parser: a value, and the text after the part that the parser consumed.
abbrev pub given : {V : Type 0} → V → List ℕ → Option (V × List ℕ)
given v rest = Some (v, rest)

-- The parser consumes all of the text `t` and returns one value, whatever text follows `t`.
abbrev pub Closes : {V : Type 0} → Reader V → List ℕ → Type 0
Closes {V} reader t = (value : V) × ((r : List ℕ) → reader (t ++ r) ≡ given value r)

-- The parser fails on the text.
abbrev pub Fails : {V : Type 0} → Reader V → List ℕ → Type 0
Fails reader t = reader t ≡ None

-- There is a text that the parser consumes whole, whatever text follows that text.
abbrev pub Completes : {V : Type 0} → Reader V → Type 0
Completes reader = IsCompletable (Closes reader) []

-- A parser that consumes only the character `c`, whatever text follows, satisfies `Completes`: it consumes the text `c`
-- whole.
ends_by : {V : Type 0} (reader : Reader V) (value : V) (c : ℕ) → IsScalar c
    → ((r : List ℕ) → reader (c ∷ r) ≡ given value r) → Completes reader
ends_by reader value c is h = record { ending = c ∷ []; are_characters = (is, tt); is_taken = (value, h) }

-- A parser that consumes only the characters `c` and `d`, whatever text follows, satisfies `Completes`: it consumes the text
-- `cd` whole.
ends_by_two : {V : Type 0} (reader : Reader V) (value : V) (c d : ℕ) → IsScalar c → IsScalar d
    → ((r : List ℕ) → reader (c ∷ d ∷ r) ≡ given value r) → Completes reader
ends_by_two reader value c d is js h = record { ending = c ∷ d ∷ []; are_characters = (is, (js, tt)); is_taken = (value, h) }

-- If a parser that only converts the value of an inner parser fails, the inner parser has failed.
pub inner_none : {V W : Type 0} (o : Option (V × List ℕ)) (f : V → W) → option_and_then (λ p. given (f p.0) p.1) o
    ≡ None → o ≡ None
inner_none None f h = refl
inner_none (Some p) f h = absurd (cc)

-- ---- the kinds of literals, and the numbers that they allow

-- If a kind of literal doesn't allow characters with the code point `v`, `v` is 0.
pub only_zero : (kind : Kind) (v : ℕ) → allows_code kind v ≡ false → v ≡ 0
only_zero CStr v h = elim (cases_Bool (eqb v 0)) [
  | inl a ↦ eqb-true v 0 a
  | inr a ↦ let e = rw a at h in absurd (cc)
]
only_zero kind v h = absurd (cc)

not_zero : (n : ℕ) → eqb (n + 1) 0 ≡ false
not_zero n = ne_eqb (n + 1) 0 (λ e. omega (arith, e))

-- ---- the two digits of a `\x` escape

pub hex_read : (kind : Kind) (c d : ℕ) (r : List ℕ) → is_hex_digit c ≡ true → is_hex_digit d ≡ true → hex_at kind (c ∷ d
    ∷ r) ≡ number_if (may_be_hex kind (digit_value c * 16 + digit_value d)) (digit_value c * 16 + digit_value d) r
unfolding hex_at
hex_read kind c d r a b = rw (a, b) refl

pub hex_one : (kind : Kind) → Completes (hex_at kind)
hex_one kind =
    let allowed : may_be_hex kind 65 ≡ true = and_from (allows_code kind 65) (not (decodes_to_chars kind) || true)
    (holds_more kind 65 refl) (or_right (not (decodes_to_chars kind)) true refl) in
    ends_by_two (hex_at kind) 65 52 49 refl refl (λ r. hex_read kind 52 49 r refl refl
    ∙ ap (λ b. number_if b 65 r) allowed)

-- The parser of the second digit of a `\x` escape, whose first digit is already read.
abbrev pub second : Kind → ℕ → Reader ℕ
second kind c t = hex_at kind (c ∷ t)

low_allowed : (b : Bool) (v : ℕ) → (b && ltb 7 v) ≡ false → v < 16 → (not b || ltb (v * 16 + 1) 128) ≡ true
low_allowed false v h small = refl
low_allowed true v h small = lt-ltb (v * 16 + 1) 128 (let few : v ≤ 7 = ltb-false 7 v h in omega arith)

pub hex_second : (kind : Kind) (c : ℕ) → is_hex_digit c ≡ true → (decodes_to_chars kind && ltb 7 (digit_value c))
    ≡ false → Completes (second kind c)
hex_second kind c h low =
    let v = digit_value c in
    let allowed : may_be_hex kind (v * 16 + 1) ≡ true = and_from (allows_code kind (v * 16 + 1))
    (not (decodes_to_chars kind) || ltb (v * 16 + 1) 128) (holds_more kind (v * 16 + 1) (not_zero (v * 16)))
    (low_allowed (decodes_to_chars kind) v low (ltb-true v 16 h)) in
    ends_by (second kind c) (v * 16 + 1) 49 refl (λ r. hex_read kind c 49 r h refl
    ∙ ap (λ b. number_if b (v * 16 + 1) r) allowed)

-- An escape whose code point the kind of literal doesn't allow is rejected, whatever text follows the escape.
pub never : (b : Bool) (n : ℕ) (r s : List ℕ) → number_if b n r ≡ None → number_if b n s ≡ None
never true n r s h = absurd (cc)
never false n r s h = refl

pub no_low : (kind : Kind) (c d : ℕ) (e : List ℕ) → is_hex_digit c ≡ true → is_hex_digit d ≡ false
    → hex_at kind (c ∷ d ∷ e) ≡ None
unfolding hex_at
no_low kind c d e a b = rw (a, b) refl

pub no_high : (kind : Kind) (c : ℕ) (e : List ℕ) → is_hex_digit c ≡ false → hex_at kind (c ∷ e) ≡ None
unfolding hex_at
no_high kind c e h = rw h refl

pub past_hex : (kind : Kind) (c : ℕ) (e : List ℕ) → is_hex_digit c ≡ true
    → (decodes_to_chars kind && ltb 7 (digit_value c)) ≡ true → hex_at kind (c ∷ e) ≡ None
unfolding hex_at
past_hex kind c [] h high = rw h refl
past_hex kind c (d ∷ ds) h high =
    let parts = and_parts (decodes_to_chars kind) (ltb 7 (digit_value c)) high in
    let n = digit_value c * 16 + digit_value d in
    let big : ltb n 128 ≡ false = le-ltb n 128 (let more : 7 < digit_value c = ltb-true 7 (digit_value c) parts.1 in
    omega arith) in
    let no_test : (not (decodes_to_chars kind) || ltb n 128) ≡ false = ap (λ b. not b || ltb n 128) parts.0 ∙ big in
    let never_allowed : may_be_hex kind n ≡ false = and_right (allows_code kind n)
    (not (decodes_to_chars kind) || ltb n 128) no_test in
    go (is_hex_digit d) refl never_allowed
  where
    go : (b : Bool) → is_hex_digit d ≡ b → may_be_hex kind (digit_value c * 16 + digit_value d) ≡ false
        → hex_at kind (c ∷ d ∷ ds) ≡ None
    go true e bad = hex_read kind c d ds h e ∙ ap (λ b. number_if b (digit_value c * 16 + digit_value d) ds) bad
    go false e bad = no_low kind c d ds h e

-- ---- the digits between the braces of a `\u{..}` escape

-- The code point of a `\u{..}` escape and the text after the escape, or `None` if the kind doesn't allow the code point.
abbrev pub allowed : Kind → ℕ × List ℕ → Option (ℕ × List ℕ)
allowed kind p = number_if (allows_unicode_escapes kind && allows_code kind p.0) p.0 p.1

abbrev pub coded : Kind → ℕ → ℕ → Reader ℕ
coded kind v n t = option_and_then (allowed kind) (unicode_digits_at v n t)

pub closed_code : (kind : Kind) (v n : ℕ) (r : List ℕ) → allows_unicode_escapes kind ≡ true → is_code kind v ≡ true
    → coded kind v n (125 ∷ r) ≡ given v r
unfolding unicode_digits_at
closed_code kind v n r u h =
    let parts = and_parts (scalar v) (allows_code kind v) h in
    rw (parts.0, u, parts.1) refl

pub closed_bad : (kind : Kind) (v n : ℕ) (r : List ℕ) → is_code kind v ≡ false → coded kind v n (125 ∷ r) ≡ None
unfolding unicode_digits_at
closed_bad kind v n r h = go (scalar v) refl
  where
    go : (a : Bool) → scalar v ≡ a → option_and_then (allowed kind) (number_if a v r) ≡ None
    go true e =
        let no_code : allows_code kind v ≡ false = sym (ap (λ x. x && allows_code kind v) e) ∙ h in
        ap (λ x. number_if x v r) (and_right (allows_unicode_escapes kind) (allows_code kind v) no_code)
    go false e = refl

pub digit_on : (kind : Kind) (v n c : ℕ) (t : List ℕ) → is_hex_digit c ≡ true → n < 6 → coded kind v n (c ∷ t)
    ≡ coded kind (v * 16 + digit_value c) (n + 1) t
unfolding unicode_digits_at
digit_on kind v n c t h room = rw (digit_apart c 125 h refl, digit_apart c 95 h refl, h, lt-ltb n 6 room) refl

pub digit_past : (kind : Kind) (v n c : ℕ) (t : List ℕ) → is_hex_digit c ≡ true → 6 ≤ n → coded kind v n (c ∷ t) ≡ None
unfolding unicode_digits_at
digit_past kind v n c t h full = rw (digit_apart c 125 h refl, digit_apart c 95 h refl, h, le-ltb n 6 full) refl

pub underscore_on : (kind : Kind) (v n : ℕ) (t : List ℕ) → coded kind v n (95 ∷ t) ≡ coded kind v n t
unfolding unicode_digits_at
underscore_on kind v n t = refl

pub other_none : (kind : Kind) (v n c : ℕ) (t : List ℕ) → is_hex_digit c ≡ false → eqb c 125 ≡ false → eqb c 95 ≡ false
    → coded kind v n (c ∷ t) ≡ None
unfolding unicode_digits_at
other_none kind v n c t a b d = rw (b, d, a) refl

nothing_none : (kind : Kind) (v n : ℕ) → coded kind v n [] ≡ None
unfolding unicode_digits_at
nothing_none kind v n = refl

-- If the first six digits of a `\u{..}` escape represent a number that isn't allowed, no text after them completes the
-- escape.
pub full_none : (kind : Kind) (v : ℕ) (t : List ℕ) → is_code kind v ≡ false → coded kind v 6 t ≡ None
full_none kind v [] bad = nothing_none kind v 6
full_none kind v (c ∷ cs) bad =
    elim (cases_Bool (is_hex_digit c)) [
      | inl a ↦ digit_past kind v 6 c cs a (omega arith)
      | inr a ↦ elim (cases_Bool (eqb c 125)) [
        | inl b ↦ subst (λ x. coded kind v 6 (x ∷ cs) ≡ None) (sym (eqb-true c 125 b)) (closed_bad kind v 6 cs bad)
        | inr b ↦ elim (cases_Bool (eqb c 95)) [
          | inl d ↦ subst (λ x. coded kind v 6 (x ∷ cs) ≡ None) (sym (eqb-true c 95 d))
              (underscore_on kind v 6 cs ∙ full_none kind v cs bad)
          | inr d ↦ other_none kind v 6 c cs a b d
        ]
      ]
    ]

-- A number that isn't the code point of a character is at least 0xD800, the first surrogate.
pub not_low : (v : ℕ) → scalar v ≡ false → 55296 ≤ v
not_low v h = elim (cases_Bool (ltb v 55296)) [
  | inl a ↦ let e = rw a at h in absurd (cc)
  | inr a ↦ ltb-false v 55296 a
]

pub not_high : (v : ℕ) → v < 1114112 → scalar v ≡ false → v < 57344
not_high v within h =
    let e : (leb 57344 v && ltb v 1114112) ≡ false = rw (le-ltb v 55296 (not_low v h)) at h in
    let top : ltb v 1114112 ≡ true = lt-ltb v 1114112 within in
    elim (cases_Bool (leb 57344 v)) [
      | inl a ↦ absurd (both_ways (leb 57344 v && ltb v 1114112) e (and_from (leb 57344 v) (ltb v 1114112) a top))
      | inr a ↦ leb-false 57344 v a
    ]

grown : (v n : ℕ) → n ≤ 5 → v < 16 ^ n → scalar v ≡ false → scalar (v * 16 + 1) ≡ true
grown v n few small bad =
    let bound : 16 ^ n ≤ 16 ^ 5 = pow-le-pow_right (omega arith) few in
    let within : v < 1048576 = omega arith in
    let first : 55296 ≤ v = not_low v bad in
    let last : v < 57344 = not_high v (omega arith) bad in
    let low : ltb (v * 16 + 1) 55296 ≡ false = le-ltb (v * 16 + 1) 55296 (omega arith) in
    rw low (and_from (leb 57344 (v * 16 + 1)) (ltb (v * 16 + 1) 1114112) (le-leb 57344 (v * 16 + 1) (omega arith))
    (lt-ltb (v * 16 + 1) 1114112 (omega arith)))

-- `v` may be the number that the first `n` digits of a `\u{..}` escape represent. The kind allows such escapes, and `n` is
-- at most 6. If `n` is 6, the kind allows the code point `v`.
pub record Spelled (kind : Kind) (v n : ℕ) : Type 0 where
  pub unicode : allows_unicode_escapes kind ≡ true
  pub few : n ≤ 6
  pub small : v < 16 ^ n
  pub full : n ≡ 6 → is_code kind v ≡ true

pub room : (kind : Kind) (v n : ℕ) → Spelled kind v n → is_code kind v ≡ false → n ≤ 5
room kind v n s bad =
    elim (cases_Bool (ltb n 6)) [
      | inl a ↦ (let less : n < 6 = ltb-true n 6 a in omega arith)
      | inr a ↦
          let more : 6 ≤ n = ltb-false n 6 a in
          let few = s.few in
          absurd (both_ways (is_code kind v) bad (s.full (omega arith)))
    ]

one_more : (kind : Kind) (v n : ℕ) → Spelled kind v n → is_code kind v ≡ false → is_code kind (v * 16 + 1) ≡ true
one_more kind v n s bad = and_from (scalar (v * 16 + 1)) (allows_code kind (v * 16 + 1))
    (whether (scalar v) (allows_code kind v) refl refl) (holds_more kind (v * 16 + 1) (not_zero (v * 16)))
  where
    whether : (a b : Bool) → scalar v ≡ a → allows_code kind v ≡ b → scalar (v * 16 + 1) ≡ true
    whether false b e g = grown v n (room kind v n s bad) s.small e
    whether true true e g = absurd (both_ways (is_code kind v) bad (and_from (scalar v) (allows_code kind v) e g))
    whether true false e g = ap (λ x. scalar (x * 16 + 1)) (only_zero kind v g)

pub closing : (kind : Kind) (v n : ℕ) → Spelled kind v n → Completes (coded kind v n)
closing kind v n s = go (is_code kind v) refl
  where
    go : (b : Bool) → is_code kind v ≡ b → Completes (coded kind v n)
    go true e = ends_by (coded kind v n) v 125 refl (λ r. closed_code kind v n r s.unicode e)
    go false e =
        let few = room kind v n s e in
        ends_by_two (coded kind v n) (v * 16 + 1) 49 125 refl refl
        (λ r. digit_on kind v n 49 (125 ∷ r) refl (omega (arith, few))
        ∙ closed_code kind (v * 16 + 1) (n + 1) r s.unicode (one_more kind v n s e))

pub spelled_on : (kind : Kind) (v n c : ℕ) → Spelled kind v n → is_hex_digit c ≡ true → eqb n 6 ≡ false
    → (eqb n 5 && not (is_code kind (v * 16 + digit_value c))) ≡ false → Spelled kind (v * 16 + digit_value c) (n + 1)
spelled_on kind v n c s h short good =
    let less : n < 6 = below_six n s.few short in
    let small = s.small in
    let digit : digit_value c < 16 = ltb-true (digit_value c) 16 h in
    let one : n + 1 ≡ suc n = omega arith in
    let power : 16 ^ (n + 1) ≡ 16 ^ n * 16 = ap (λ k. 16 ^ k) one ∙ pow-suc 16 n in
    record {
      unicode = s.unicode;
      few = omega arith;
      small = rw power (omega arith);
      full = λ e. fifth (is_code kind (v * 16 + digit_value c))
          (ap (λ b. b && not (is_code kind (v * 16 + digit_value c))) (sym (eq-eqb n 5 (let e = e in omega arith)))
          ∙ good);
    }
  where
    fifth : (b : Bool) → (true && not b) ≡ false → b ≡ true
    fifth true h = refl
    fifth false h = absurd (cc)

-- ---- `\x` and `\u{..}` escapes

-- The parser of the text after the opening brace of a `\u{..}` escape.
abbrev pub braced : Kind → Reader ℕ
braced kind t = option_and_then (λ p. coded kind p.0 1 p.1) (digit_at t)

pub braced_first : (kind : Kind) (c : ℕ) (t : List ℕ) → is_hex_digit c ≡ true → braced kind (c ∷ t)
    ≡ coded kind (digit_value c) 1 t
braced_first kind c t h = rw h refl

pub braced_none : (kind : Kind) (c : ℕ) (t : List ℕ) → is_hex_digit c ≡ false → braced kind (c ∷ t) ≡ None
braced_none kind c t h = rw h refl

pub first_spelled : (kind : Kind) (c : ℕ) → allows_unicode_escapes kind ≡ true → is_hex_digit c ≡ true
    → Spelled kind (digit_value c) 1
first_spelled kind c u h = record { unicode = u; few = omega arith; small = (let small : digit_value c < 16 = ltb-true (digit_value c) 16 h in small); full = λ e. absurd (cc) }

pub braced_one : (kind : Kind) → allows_unicode_escapes kind ≡ true → Completes (braced kind)
braced_one kind u = ends_by_two (braced kind) 1 49 125 refl refl
    (λ r. closed_code kind 1 1 r u (holds_more kind 1 refl))

pub unicode_on : (kind : Kind) (t : List ℕ) → unicode_at kind (123 ∷ t) ≡ braced kind t
unicode_on kind t = unicode_is kind (123 ∷ t)

pub no_unicode_brace : (kind : Kind) (c : ℕ) (t : List ℕ) → eqb c 123 ≡ false → unicode_at kind (c ∷ t) ≡ None
unfolding unicode_at
no_unicode_brace kind c t h = rw h refl

pub unicode_one : (kind : Kind) → allows_unicode_escapes kind ≡ true → Completes (unicode_at kind)
unicode_one kind u = record {
  ending = 123 ∷ 49 ∷ 125 ∷ [];
  are_characters = (refl, (refl, (refl, tt)));
  is_taken = (1, λ r. unicode_on kind (49 ∷ 125 ∷ r) ∙ closed_code kind 1 1 r u (holds_more kind 1 refl));
}

-- If a kind of literal doesn't allow `\u`, no text after `\u` completes an escape.
pub unicode_never : (kind : Kind) (t : List ℕ) → allows_unicode_escapes kind ≡ false → unicode_at kind t ≡ None
unfolding unicode_at
unicode_never kind t h = go (unicode_at kind t) refl
  where
    go : (o : Option (ℕ × List ℕ)) → unicode_at kind t ≡ o → unicode_at kind t ≡ None
    go None e = e
    go (Some p) e = let at = unicode_sound kind t p e in absurd (both_ways (allows_unicode_escapes kind) h at.allowed.0)

-- ---- any escape

escaped_n : (kind : Kind) (r : List ℕ) → escape_at kind (110 ∷ r) ≡ found (10 ∷ []) r
unfolding escape_at
escaped_n kind r = rw (holds_more kind 10 refl) refl

pub escape_n : (kind : Kind) → Completes (escape_at kind)
escape_n kind = ends_by (escape_at kind) (10 ∷ []) 110 refl (λ r. escaped_n kind r)

pub by_hex : (kind : Kind) (r : List ℕ) → escape_at kind (120 ∷ r)
    ≡ option_and_then (λ p. found (p.0 ∷ []) p.1) (hex_at kind r)
unfolding escape_at
by_hex kind r = refl

pub by_unicode : (kind : Kind) (r : List ℕ) → escape_at kind (117 ∷ r)
    ≡ option_and_then (λ p. found (content_of kind (p.0 ∷ [])) p.1) (unicode_at kind r)
unfolding escape_at
by_unicode kind r = refl

-- An invalid escape other than `\x` and `\u` stays invalid, whatever text follows its letter.
pub same_escape : (kind : Kind) (c : ℕ) (r s : List ℕ) → eqb c 120 ≡ false → eqb c 117 ≡ false → escape_at kind (c ∷ r)
    ≡ None → escape_at kind (c ∷ s) ≡ None
unfolding escape_at
same_escape kind c r s a b h =
    let skip : List ℕ → Option (List ℕ × List ℕ) = λ t. cond (is_string kind) (found [] (after_blanks t)) None in
    let rest : cond (is_line_end c) (skip r) (named_at kind c r) ≡ None = (let e = rw b at (rw a at h) in e) in
    rw (a, b) (go (is_line_end c) (is_string kind) (named_in kind c) rest)
  where
    go : (l t : Bool) (o : Option ℕ) → cond l (cond t (found [] (after_blanks r)) None)
        (option_and_then (λ n. found (n ∷ []) r) o) ≡ None → cond l (cond t (found [] (after_blanks s)) None)
        (option_and_then (λ n. found (n ∷ []) s) o) ≡ None
    go true true o h = absurd (cc)
    go true false o h = refl
    go false t None h = refl
    go false t (Some n) h = absurd (cc)

pub by_escape : (kind : Kind) (r : List ℕ) → unit_at kind (92 ∷ r) ≡ escape_at kind r
unfolding unit_at
by_escape kind r = refl

-- ---- a character or an escape

-- The kind is the kind of a quoted literal.
abbrev pub IsQuotedKind : Kind → Type 0
IsQuotedKind kind = (is_string kind ≡ true) ⊎ (is_single kind ≡ true)
