-- Numbers whose body is the digits that std writes for their value.
use Rattle.rl_syntax.proofs.Common.{◌≡◌, ℕ, suc, zero, ◌+◌, ◌*◌, ◌^◌, ◌<◌, ◌≤◌, Bool, true, false, not, ◌||◌, ◌==◌, cond, nat_lt, List, [], ◌∷◌, ◌++◌, length, append_assoc, refl, sym, ap, subst, ◌∙◌, arith, and_parts, and_from, not_from_false, not-true, or_parts, nat_tests, append_cancel_right, encodes-append, encodes-chars, digit_value, is_ascii_digit, list_all, list_any, IsUtf8, encode_utf8_all, IsTrue}
use Rattle.rl_lenient.proofs.Names.{pow-suc, decimal, Kind, Float, Int, Base, Binary, Octal, Decimal, Hexadecimal, radix, prefix, IsAfterPrefix, Sign, sign_text, IntReads, limit, FloatReads, float_digits, place_value, without_underscores, Digits, HasNoFloat, first_passes}
use Rattle.std.proofs.Common.{◌/◌, ◌%◌}
use native.Mathlib.Numerals.{unary_clauses}
use Rattle.std.proofs.lemmas.Str.{digit_value_digit}
use Rattle.std.specs.Fmt.{digits, digits_onto, digit_glyph}
use Rattle.std.specs.Str.{chars}
use Rattle.std.specs.Prelude.{filter, map, if◌then◌else◌}
use Rattle.rl_syntax.proofs.Basics.{apart}
use Rattle.rl_syntax.proofs.Dec.{room}
use Rattle.rl_syntax.proofs.OneNumber.{int_once, float_once}
use Rattle.rl_syntax.specs.Numbers.{is_digit}
use Rattle.rl_lenient.specs.Mirrors.NumberAt.{after_minus}
use Rattle.rl_lenient.specs.NumberShapes.{AreDigits, HasMagnitude}
use Rattle.rl_lenient.specs.WholeShapes.{IsPlain}
use Rattle.rl_lenient.specs.Mirrors.PlainAt.{is_plain_digits, is_plain_integer, is_kept, is_plain_float}
use Rattle.rl_lenient.proofs.IntegerLemmas.{minus_past}

-- The text is an integer literal within the limit of 128 bits. The record has its magnitude, and its body is the text before the
-- suffix.
pub record IsSplitInteger (text : List ℕ) (magnitude : ℕ) (body : List ℕ) : Type 0 where
  pub suffix : List ℕ
  pub within : HasMagnitude text magnitude suffix
  pub cut : text ≡ body ++ suffix

-- ---- the digits that std writes

abbrev glyph : ℕ → ℕ
glyph n = digit_glyph false (n % 10)

-- `glyph` returns the ASCII digit of a number's last decimal place.
glyph_is : (n : ℕ) → glyph n ≡ 48 + n % 10
glyph_is n = let e : nat_lt (n % 10) 10 ≡ true = grind (arith, nat_tests) in ap
    (λ b. cond b (48 + n % 10) (87 + n % 10)) e

small_digit : (d : ℕ) → d < 10 → is_ascii_digit (48 + d) ≡ true
small_digit d h = grind (arith, nat_tests)

glyph_digit : (n : ℕ) → is_ascii_digit (glyph n) ≡ true
glyph_digit n = ap is_ascii_digit (glyph_is n) ∙ small_digit (n % 10) (omega arith)

-- All characters that std writes for a number are digits.
pub onto_digits : (k n : ℕ) (acc : List ℕ) → list_all is_ascii_digit acc ≡ true
    → list_all is_ascii_digit (digits_onto k 10 false n acc) ≡ true
onto_digits zero n acc h = h
onto_digits (suc k) n acc h = go (n / 10 == 0) more (onto_digits k (n / 10) (glyph n ∷ acc) more)
  where
    more : list_all is_ascii_digit (glyph n ∷ acc) ≡ true
    more = and_from (is_ascii_digit (glyph n)) (list_all is_ascii_digit acc) (glyph_digit n) h

    go : (b : Bool) → list_all is_ascii_digit (glyph n ∷ acc) ≡ true
        → list_all is_ascii_digit (digits_onto k 10 false (n / 10) (glyph n ∷ acc)) ≡ true
        → list_all is_ascii_digit (cond b (glyph n ∷ acc) (digits_onto k 10 false (n / 10) (glyph n ∷ acc))) ≡ true
    go true one rest = one
    go false one rest = rest

-- Whether a character is the digit 0. The first digit of a number above 0 isn't 0.
abbrev is_zero : ℕ → Bool
is_zero c = c == 48

glyph_above : (n : ℕ) → 0 < n → (n / 10 == 0) ≡ true → is_zero (glyph n) ≡ false
glyph_above n l e = ap is_zero (glyph_is n) ∙ grind (arith, nat_tests)

quotient_above : (n : ℕ) → (n / 10 == 0) ≡ false → 0 < n / 10
quotient_above n e = grind (arith, nat_tests)

power_step : (n k : ℕ) → n < 10 ^ suc k → n / 10 < 10 ^ k
power_step n k h = let e = pow-suc 10 k in omega arith

onto_first : (k n : ℕ) (acc : List ℕ) → 0 < n → n < 10 ^ suc k
    → first_passes is_zero (digits_onto (suc k) 10 false n acc) ≡ false
onto_first zero n acc l h =
    let e : (n / 10 == 0) ≡ true = (let p = power_step n zero h in grind (arith, nat_tests)) in
    glyph_first (n / 10 == 0) e
  where
    glyph_first : (b : Bool) → (n / 10 == 0) ≡ true → first_passes is_zero (cond b (glyph n ∷ acc) (glyph n ∷ acc))
        ≡ false
    glyph_first true e = glyph_above n l e
    glyph_first false e = glyph_above n l e
onto_first (suc k) n acc l h = go (n / 10 == 0) refl (λ above. onto_first k (n / 10) (glyph n ∷ acc) above
    (power_step n (suc k) h))
  where
    go : (b : Bool) → (n / 10 == 0) ≡ b → (0 < n / 10 → first_passes is_zero
        (digits_onto (suc k) 10 false (n / 10) (glyph n ∷ acc)) ≡ false)
        → first_passes is_zero (cond b (glyph n ∷ acc) (digits_onto (suc k) 10 false (n / 10) (glyph n ∷ acc))) ≡ false
    go true e more = glyph_above n l e
    go false e more = more (quotient_above n e)

-- A test that every character passes. Lemmas use it to prove that a number has at least one digit.
abbrev is_any : ℕ → Bool
is_any c = true

onto_some : (k n : ℕ) (acc : List ℕ) → first_passes is_any (digits_onto (suc k) 10 false n acc) ≡ true
onto_some zero n acc = go (n / 10 == 0)
  where
    go : (b : Bool) → first_passes is_any (cond b (glyph n ∷ acc) (glyph n ∷ acc)) ≡ true
    go true = refl
    go false = refl
onto_some (suc k) n acc = go (n / 10 == 0) (onto_some k (n / 10) (glyph n ∷ acc))
  where
    go : (b : Bool) → first_passes is_any (digits_onto (suc k) 10 false (n / 10) (glyph n ∷ acc)) ≡ true
        → first_passes is_any (cond b (glyph n ∷ acc) (digits_onto (suc k) 10 false (n / 10) (glyph n ∷ acc))) ≡ true
    go true more = refl
    go false more = more

-- ---- written digits are plain

plain_list : (ds : List ℕ) → list_all is_ascii_digit ds ≡ true → first_passes is_any ds ≡ true → first_passes is_zero ds
    ≡ false → is_plain_digits ds ≡ true
plain_list [] all some first = some
plain_list (d ∷ ds) all some first = and_from (list_all is_ascii_digit (d ∷ ds))
    (not (d == 48) || not (first_passes is_any ds)) all (ap (λ z. z || not (first_passes is_any ds))
    (not_from_false (d == 48) first))

first_digit : (ds : List ℕ) → list_all is_ascii_digit ds ≡ true → first_passes is_any ds ≡ true
    → first_passes is_ascii_digit ds ≡ true
first_digit [] all some = some
first_digit (d ∷ ds) all some = (and_parts (is_ascii_digit d) (list_all is_ascii_digit ds) all).0

decimal_plain : (n : ℕ) → n < 10 ^ 64 → is_plain_digits (decimal n) ≡ true
unfolding digits
decimal_plain zero h = refl
decimal_plain (suc n) h = plain_list (decimal (suc n)) (onto_digits 64 (suc n) [] refl) (onto_some 63 (suc n) [])
    (onto_first 63 (suc n) [] (omega arith) h)

decimal_first : (n : ℕ) → first_passes is_ascii_digit (decimal n) ≡ true
unfolding digits
decimal_first n = first_digit (decimal n) (onto_digits 64 n [] refl) (onto_some 63 n [])

pub written_plain : (s : Sign) (n : ℕ) → n ≤ limit → is_plain_integer (sign_text s ++ decimal n) ≡ true
written_plain s n h = ap is_plain_digits (minus_past s (decimal n) (decimal_first n)).0 ∙ decimal_plain n (omega arith)

-- ---- plain digits are the written ones

onto_more : (k n : ℕ) (acc : List ℕ) → digits_onto k 10 false n acc ≡ digits_onto k 10 false n [] ++ acc
onto_more zero n acc = refl
onto_more (suc k) n acc = go (n / 10 == 0) (onto_more k (n / 10) (glyph n ∷ acc)) (onto_more k (n / 10) (glyph n ∷ []))
  where
    go : (b : Bool) → digits_onto k 10 false (n / 10) (glyph n ∷ acc) ≡ digits_onto k 10 false (n / 10) []
        ++ (glyph n ∷ acc) → digits_onto k 10 false (n / 10) (glyph n ∷ []) ≡ digits_onto k 10 false (n / 10) []
        ++ (glyph n ∷ []) → cond b (glyph n ∷ acc) (digits_onto k 10 false (n / 10) (glyph n ∷ acc))
        ≡ cond b (glyph n ∷ []) (digits_onto k 10 false (n / 10) (glyph n ∷ [])) ++ acc
    go true all one = refl
    go false all one = all ∙ sym (ap (λ z. z ++ acc) one ∙ append_assoc (digits_onto k 10 false (n / 10) [])
        (glyph n ∷ []) acc)

-- If a number above 0 gets one more digit, the digit is appended to the number's digits.
push : (k v d : ℕ) → 0 < v → d < 10 → digits_onto (suc k) 10 false (v * 10 + d) [] ≡ digits_onto k 10 false v []
    ++ ((48 + d) ∷ [])
push k v d l h =
    let n = v * 10 + d in
    let quotient : n / 10 ≡ v = omega arith in
    let remainder : n % 10 ≡ d = omega arith in
    let last : glyph n ≡ 48 + d = glyph_is n ∙ ap (λ r. 48 + r) remainder in
    let above : (n / 10 == 0) ≡ false = grind (arith, nat_tests, quotient) in
    ap (λ b. cond b (glyph n ∷ []) (digits_onto k 10 false (n / 10) (glyph n ∷ []))) above
    ∙ ap (λ q. digits_onto k 10 false q (glyph n ∷ [])) quotient
    ∙ ap (λ g. digits_onto k 10 false v (g ∷ [])) last
    ∙ onto_more k v ((48 + d) ∷ [])

digit_code : (c : ℕ) → is_ascii_digit c ≡ true → (48 + digit_value c ≡ c) × (digit_value c < 10)
digit_code c h = let e : (48 ≤ c) × (c ≤ 57) = grind (arith, nat_tests) in let v = digit_value_digit c e in
    (omega (arith, v), omega (arith, v))

spread : (v d q p : ℕ) → v * (q * 10) + (d * q + p) ≡ (v * 10 + d) * q + p
spread v d q p = omega arith

-- If a number above 0 gets more digits, they are appended to the number's digits.
written_more : (ds : List ℕ) (v j k : ℕ) → 0 < v → v < 10 ^ suc j → list_all is_ascii_digit ds ≡ true
    → v * 10 ^ length ds + place_value 10 ds < 10 ^ suc k → digits_onto (suc k) 10 false
    (v * 10 ^ length ds + place_value 10 ds) [] ≡ digits_onto (suc j) 10 false v [] ++ ds
written_more [] v j k l small all h =
    let e : v * 10 ^ 0 + 0 ≡ v = simp unary_clauses (omega arith) in
    ap (λ n. digits_onto (suc k) 10 false n []) e ∙ room k j v [] (subst (λ n. n < 10 ^ suc k) e h) small
    ∙ sym (nil_end (digits_onto (suc j) 10 false v []))
  where
    nil_end : (xs : List ℕ) → xs ++ [] ≡ xs
    nil_end [] = refl
    nil_end (x ∷ xs) = ap (λ z. x ∷ z) (nil_end xs)
written_more (d ∷ ds) v j k l small all h =
    let b = and_parts (is_ascii_digit d) (list_all is_ascii_digit ds) all in
    let c = digit_code d b.0 in
    let q = 10 ^ length ds in
    let e : v * 10 ^ suc (length ds) + (digit_value d * q + place_value 10 ds)
    ≡ (v * 10 + digit_value d) * q + place_value 10 ds =
    ap (λ n. v * n + (digit_value d * q + place_value 10 ds)) (pow-suc 10 (length ds))
    ∙ spread v (digit_value d) q (place_value 10 ds) in
    let wide : v * 10 + digit_value d < 10 ^ suc (suc j) = (let p = pow-suc 10 (suc j) in let s = c.1 in omega arith) in
    ap (λ n. digits_onto (suc k) 10 false n []) e
    ∙ written_more ds (v * 10 + digit_value d) (suc j) k (omega arith) wide b.1 (subst (λ n. n < 10 ^ suc k) e h)
    ∙ ap (λ z. z ++ ds) (push (suc j) v (digit_value d) l c.1 ∙ ap (λ g. digits_onto (suc j) 10 false v [] ++ (g ∷ []))
    c.0)
    ∙ append_assoc (digits_onto (suc j) 10 false v []) (d ∷ []) ds

-- A number below 10 has one digit.
written_one : (k v : ℕ) → v < 10 → digits_onto (suc k) 10 false v [] ≡ (48 + v) ∷ []
written_one k v h =
    let e : (v / 10 == 0) ≡ true = grind (arith, nat_tests) in
    let r : v % 10 ≡ v = omega arith in
    ap (λ b. cond b (glyph v ∷ []) (digits_onto k 10 false (v / 10) (glyph v ∷ []))) e
    ∙ ap (λ g. g ∷ []) (glyph_is v ∙ ap (λ n. 48 + n) r)

-- Plain digits, which have neither an underscore nor a needless leading zero, are the digits that std writes for their value.
plain_written : (ds : List ℕ) → is_plain_digits ds ≡ true → place_value 10 ds < 10 ^ 64 → decimal (place_value 10 ds)
    ≡ ds
unfolding digits
plain_written [] p h = absurd (cc)
plain_written (d ∷ []) p h =
    let b = and_parts (list_all is_ascii_digit (d ∷ [])) (not (d == 48) || true) p in
    let c = digit_code d (and_parts (is_ascii_digit d) true b.0).0 in
    let e : digit_value d * 10 ^ 0 + 0 ≡ digit_value d = simp unary_clauses (omega arith) in
    ap (λ n. digits_onto 64 10 false n []) e ∙ written_one 63 (digit_value d) c.1 ∙ ap (λ g. g ∷ []) c.0
plain_written (d ∷ f ∷ ds) p h =
    let b = and_parts (list_all is_ascii_digit (d ∷ f ∷ ds)) (not (d == 48) || false) p in
    let a = and_parts (is_ascii_digit d) (list_all is_ascii_digit (f ∷ ds)) b.0 in
    let c = digit_code d a.0 in
    let above : 0 < digit_value d = not_zero d (d == 48) refl b.1 c.0 in
    written_more (f ∷ ds) (digit_value d) 0 63 above (let s = c.1 in omega arith) a.1 h
    ∙ ap (λ z. z ++ (f ∷ ds)) (written_one 0 (digit_value d) c.1 ∙ ap (λ g. g ∷ []) c.0)
  where
    not_zero : (d : ℕ) (z : Bool) → (d == 48) ≡ z → (not z || false) ≡ true → 48 + digit_value d ≡ d → 0 < digit_value d
    not_zero d true e h c = absurd (cc)
    not_zero d false e h c = grind (arith, nat_tests)

-- ---- the body of an integer

bare : (ds : List ℕ) → list_all is_ascii_digit ds ≡ true → without_underscores ds ≡ ds
bare [] h = refl
bare (d ∷ ds) h =
    let b = and_parts (is_ascii_digit d) (list_all is_ascii_digit ds) h in
    ap (λ m. cond (not m) (d ∷ without_underscores ds) (without_underscores ds)) (apart is_ascii_digit d 95 b.0 refl)
    ∙ ap (λ z. d ∷ z) (bare ds b.1)

-- The body of an integer without its sign begins with a digit.
begins_at : (b : Base) (ds x : List ℕ) → IsAfterPrefix b (ds ++ x) → list_any (is_digit b) ds ≡ true
    → first_passes is_ascii_digit (prefix b ++ ds) ≡ true
begins_at Binary ds x front some = refl
begins_at Octal ds x front some = refl
begins_at Hexadecimal ds x front some = refl
begins_at Decimal [] x front some = absurd (cc)
begins_at Decimal (d ∷ ds) x front some = front.0

all_plain : (ds : List ℕ) → is_plain_digits ds ≡ true → list_all is_ascii_digit ds ≡ true
all_plain [] p = refl
all_plain (d ∷ ds) p = (and_parts (list_all is_ascii_digit (d ∷ ds)) (not (d == 48) || not (first_passes is_any ds))
    p).0

-- An integer's body without underscores and needless leading zeros is in base ten, and is the digits that std writes for its
-- magnitude.
plain_based : (b : Base) (ds : List ℕ) (m : ℕ) → is_plain_digits (prefix b ++ ds) ≡ true → m
    ≡ place_value (radix b) (without_underscores ds) → m ≤ limit → decimal m ≡ prefix b ++ ds
plain_based Binary ds m p e h = let a : false ≡ true = all_plain (48 ∷ 98 ∷ ds) p in absurd (cc)
plain_based Octal ds m p e h = let a : false ≡ true = all_plain (48 ∷ 111 ∷ ds) p in absurd (cc)
plain_based Hexadecimal ds m p e h = let a : false ≡ true = all_plain (48 ∷ 120 ∷ ds) p in absurd (cc)
plain_based Decimal ds m p e h =
    let same : m ≡ place_value 10 ds = e ∙ ap (place_value 10) (bare ds (all_plain ds p)) in
    ap decimal same ∙ plain_written ds p (omega arith)

plain_body : (t body x : List ℕ) (s : Sign) (m : ℕ) → IntReads t s m x → m ≤ limit → t ≡ body ++ x
    → is_plain_integer body ≡ true → body ≡ sign_text s ++ decimal m
plain_body t body x s m r h cut p =
    let u = prefix r.base ++ r.digits in
    let text : t ≡ (sign_text s ++ u) ++ x = r.text_is ∙ sym (append_assoc (sign_text s) u x
    ∙ ap (λ z. sign_text s ++ z) (append_assoc (prefix r.base) r.digits x)) in
    let is : body ≡ sign_text s ++ u = append_cancel_right body (sign_text s ++ u) x (sym cut ∙ text) in
    let plain : is_plain_digits u ≡ true = sym (ap is_plain_digits
    (ap after_minus is ∙ (minus_past s u (begins_at r.base r.digits x r.front r.some)).0)) ∙ p in
    is ∙ ap (λ z. sign_text s ++ z) (sym (plain_based r.base r.digits m plain r.magnitude_is h))

-- If the characters of a text are the characters of `b` and then x, the text's bytes are `b` and then the encoding of x.
bytes_cut : (t b x : List ℕ) → IsUtf8 t → IsUtf8 b → chars t ≡ chars b ++ x → t ≡ b ++ encode_utf8_all x
bytes_cut t b x ut ub e =
    sym (encodes-chars t ut) ∙ ap encode_utf8_all e ∙ encodes-append (chars b) x
    ∙ ap (λ z. z ++ encode_utf8_all x) (encodes-chars b ub)

-- If the body of an integer passes the test `is_plain_integer`, the integer is plain: its body is the digits of its value.
integer_plain : (t b : List ℕ) (m : ℕ) → IsUtf8 t → IsUtf8 b → IsSplitInteger (chars t) m (chars b)
    → is_plain_integer (chars b) ≡ true → IsPlain Int t
integer_plain t b m ut ub w p =
    let r = w.within in
    record {
      body = b;
      suffix = w.suffix;
      cut = bytes_cut t b w.suffix ut ub w.cut;
      reads = record { sign = r.sign; magnitude = m; reads = r.reads; within = r.within; contents_is = ap Digits (plain_body (chars t) (chars b) w.suffix r.sign m r.reads r.within w.cut p) };
    }

pub plain_integer : (t b : List ℕ) (m : ℕ) → IsUtf8 t → IsUtf8 b → IsSplitInteger (chars t) m (chars b) → IsPlain Int t
    → is_plain_integer (chars b) ≡ true
plain_integer t b m ut ub w p =
    let r = p.reads in
    let o = int_once (chars t) w.suffix p.suffix w.within.sign r.sign m r.magnitude w.within.reads r.reads in
    let same : b ≡ p.body = append_cancel_right b p.body (encode_utf8_all p.suffix)
    (ap (λ z. b ++ encode_utf8_all z) (sym o.2) ∙ sym (bytes_cut t b w.suffix ut ub w.cut) ∙ p.cut) in
    let e = r.contents_is in
    let is : chars p.body ≡ sign_text r.sign ++ decimal r.magnitude = cc in
    ap is_plain_integer (ap chars same ∙ is) ∙ written_plain r.sign r.magnitude r.within

-- ---- floats

abbrev stays : ℕ → Bool
stays c = not (c == 95 || c == 43)

abbrev change : ℕ → ℕ
change c = if c == 69 then 101 else c

unchanged : (c : ℕ) → is_kept c ≡ true → ((c == 95 || c == 43) ≡ false) × (change c ≡ c)
unchanged c h =
    let b = or_parts (c == 95 || c == 43) (c == 69) (not-true ((c == 95 || c == 43) || c == 69) h) in
    (b.0, ap (λ z. cond z 101 c) b.1)

-- If `float_digits` keeps each character of a float's text, its result is that text.
same_digits : (cs : List ℕ) → list_all is_kept cs ≡ true → float_digits cs ≡ cs
same_digits [] h = refl
same_digits (c ∷ cs) h =
    let b = and_parts (is_kept c) (list_all is_kept cs) h in
    let k = unchanged c b.0 in
    ap (λ z. map change (cond (not z) (c ∷ filter stays cs) (filter stays cs))) k.0
    ∙ ap (λ x. x ∷ float_digits cs) k.1
    ∙ ap (λ z. c ∷ z) (same_digits cs b.1)

changed_once : (c : ℕ) → (c == 95 || c == 43) ≡ false → is_kept (change c) ≡ true
changed_once c h = go (c == 69) refl
  where
    go : (z : Bool) → (c == 69) ≡ z → is_kept (cond z 101 c) ≡ true
    go true e = refl
    go false e = ap (λ z. not (z || (c == 69))) h ∙ ap not e

-- Each character in the result of `float_digits` is one that `float_digits` keeps.
digits_kept : (cs : List ℕ) → list_all is_kept (float_digits cs) ≡ true
digits_kept [] = refl
digits_kept (c ∷ cs) = go (c == 95 || c == 43) refl (digits_kept cs)
  where
    go : (z : Bool) → (c == 95 || c == 43) ≡ z → list_all is_kept (float_digits cs) ≡ true
        → list_all is_kept (map change (cond (not z) (c ∷ filter stays cs) (filter stays cs))) ≡ true
    go true e more = more
    go false e more = and_from (is_kept (change c)) (list_all is_kept (float_digits cs)) (changed_once c e) more

-- If the body of a float passes the test `is_plain_float`, the float is plain: its body is the digits of its value.
float_plain : (t b x : List ℕ) → IsUtf8 t → IsUtf8 b → FloatReads (chars t) (chars b) x → is_plain_float (chars b)
    ≡ true → IsPlain Float t
float_plain t b x ut ub r p = record {
  body = b;
  suffix = x;
  cut = bytes_cut t b x ut ub r.text_is;
  reads = (r, same_digits (chars b) p);
}

pub plain_float : (t b x : List ℕ) → FloatReads (chars t) (chars b) x → IsPlain Float t → is_plain_float (chars b)
    ≡ true
plain_float t b x r p =
    let o = float_once (chars t) (chars b) (chars p.body) x p.suffix r p.reads.0 in
    ap is_plain_float (o.0 ∙ sym p.reads.1) ∙ digits_kept (chars p.body)

-- ---- the digits of a plain number

pub plain_contents : (t body : List ℕ) (m : ℕ) → IsSplitInteger t m body → is_plain_integer body ≡ true
    → AreDigits Int t body
plain_contents t body m w p c x r =
    let o = int_once t w.suffix x w.within.sign r.sign m r.magnitude w.within.reads r.reads in
    let is = plain_body t body w.suffix w.within.sign m w.within.reads w.within.within w.cut p in
    r.contents_is ∙ ap Digits (sym (is ∙ ap (λ s. sign_text s ++ decimal m) o.0
    ∙ ap (λ n. sign_text r.sign ++ decimal n) o.1))

pub plain_numeral : (t body x : List ℕ) → FloatReads t body x → is_plain_float body ≡ true → AreDigits Float t body
plain_numeral t body x r p numeral y s =
    sym (same_digits body p) ∙ ap float_digits (float_once t body numeral x y r s).0

-- Bytes that are equal to the digits of a number are the digits of the number.
pub held : (k : Kind) (t bytes s : List ℕ) → AreDigits k t (chars bytes) → s ≡ bytes → AreDigits k t (chars s)
held k t bytes s d e = subst (λ z. AreDigits k t (chars z)) (sym e) d

-- ---- the results of the test for plain numbers

abbrev Whether : Bool → Kind → List ℕ → Type 0
Whether b k t = (IsTrue b → IsPlain k t) × (IsPlain k t → IsTrue b)

pub whether_integer : (t b : List ℕ) (m : ℕ) (r : Bool) → IsUtf8 t → IsUtf8 b → IsSplitInteger (chars t) m (chars b) → r
    ≡ is_plain_integer (chars b) → Whether r Int t
whether_integer t b m r ut ub w h = (
  (λ p. integer_plain t b m ut ub w (sym h ∙ p)),
  (λ q. h ∙ plain_integer t b m ut ub w q),
)

pub whether_float : (t b x : List ℕ) (r : Bool) → IsUtf8 t → IsUtf8 b → FloatReads (chars t) (chars b) x → r
    ≡ is_plain_float (chars b) → Whether r Float t
whether_float t b x r ut ub f h = ((λ p. float_plain t b x ut ub f (sym h ∙ p)), (λ q. h ∙ plain_float t b x f q))

pub no_plain_float : (t : List ℕ) → HasNoFloat (chars t) → Whether false Float t
no_plain_float t n = ((λ p. absurd (cc)), (λ q. absurd (n (chars q.body) q.suffix q.reads.0)))
