-- A text begins with a unit (a plain character or an escape) exactly where `unit_at` returns it.
use Rattle.rl_syntax.proofs.Common.{◌≡◌, ℕ, suc, ◌+◌, ◌*◌, ◌^◌, ◌<◌, ◌≤◌, ◌||◌, ◌&&◌, Bool, true, false, cond, eqb, ltb, List, [], ◌∷◌, ◌++◌, length, Option, Some, None, refl, sym, ap, subst, ◌∙◌, ◌⊎◌, inl, inr, arith, append_assoc, option_and_then, list_all, digit_value, scalar, and_from, and_parts, both_ways, cases_Bool, eqb-true, ltb-true, lt-ltb, ne_eqb, or_cases, or_right}
use Rattle.rl_lenient.proofs.Names.{IsScalar, pow-suc, Kind, Str, ByteStr, CStr, Byte, Char, Int, Float, BoolKind, first_passes, is_underscore, QuotedUnit, Letter, Plain, CrLf, Named, Hex, Unicode, Continuation, LowerN, LowerR, LowerT, Backslash, Apostrophe, Quote, Zero, letter_value, letter_text, unit_text, unit_value, unicode_value, without_underscores, place_value, content_of, hex_value, is_hex_digit, is_blank, is_line_end, is_string, is_plain, allows_code, may_be_hex, allows_unicode_escapes, IsUnit, EndsBefore}
use Rattle.std.proofs.lemmas.Bool.Decides.{eqb_tells}
use Rattle.rl_lenient.specs.Mirrors.UnitAt.{found, number_if, named_of, named_in, named_at, digit_at, hex_at, brace_at, unicode_at, after_blanks, escape_at, line_feed_at, unit_at}
use Rattle.rl_lenient.proofs.CodeDigitLemmas.{unicode_digits_at, unicode_is, digit_apart}

-- A choice returns the first value if its condition is true, and else the second.
chosen : {A : Type 0} (b : Bool) (x y z : A) → cond b x y ≡ z → ((b ≡ true) × (x ≡ z)) ⊎ ((b ≡ false) × (y ≡ z))
chosen true x y z h = inl (refl, h)
chosen false x y z h = inr (refl, h)

-- If a choice between a value and `None` returns the value, the condition of the choice is true.
allowed_some : {A : Type 0} (b : Bool) (x y : A) → cond b (Some x) None ≡ Some y → (b ≡ true) × (Some x ≡ Some y)
allowed_some true x y h = (refl, h)
allowed_some false x y h = absurd (cc)

-- If `option_and_then` returns a value, the option has a value, and the function returns the result for it.
bind_some : {A B : Type 0} (o : Option A) (f : A → Option B) (y : B) → option_and_then f o ≡ Some y → (x : A)
    × (o ≡ Some x) × (f x ≡ Some y)
bind_some None f y h = absurd (cc)
bind_some (Some x) f y h = (x, refl, h)

-- If `Some` of one pair equals `Some` of another pair, the pairs have equal first parts and equal second parts. The tactic
-- `cc` doesn't split pairs.
pub some_pair : {A B : Type 0} (p q : A × B) → Some p ≡ Some q → (p.0 ≡ q.0) × (p.1 ≡ q.1)
some_pair p q h = let e : p ≡ q = cc in (ap (λ x. x.0) e, ap (λ x. x.1) e)

-- ---- the digits of an escape `\u{..}`

abbrev is_more : ℕ → Bool
is_more c = is_underscore c || is_hex_digit c

-- Returns the number that digits represent, if digits with the value v precede them.
abbrev value_on : ℕ → List ℕ → ℕ
value_on v cs = v * 16 ^ length (without_underscores cs) + place_value 16 (without_underscores cs)

kept_digit : (c : ℕ) (cs : List ℕ) → eqb c 95 ≡ false → without_underscores (c ∷ cs) ≡ c ∷ without_underscores cs
kept_digit c cs h = rw h refl

places : (v d k h : ℕ) → v * 16 ^ suc k + (d * 16 ^ k + h) ≡ (v * 16 + d) * 16 ^ k + h
places v d k h = rw (pow-suc 16 k) (omega arith)

value_on_digit : (v c : ℕ) (cs : List ℕ) → eqb c 95 ≡ false → value_on v (c ∷ cs) ≡ value_on (v * 16 + digit_value c) cs
value_on_digit v c cs h =
    let f : List ℕ → ℕ = λ ds. v * 16 ^ length ds + place_value 16 ds in
    ap f (kept_digit c cs h) ∙ places v (digit_value c) (length (without_underscores cs))
    (place_value 16 (without_underscores cs))

length_on_digit : (c : ℕ) (cs : List ℕ) → eqb c 95 ≡ false → length (without_underscores (c ∷ cs))
    ≡ length (without_underscores cs) + 1
length_on_digit c cs h = ap length (kept_digit c cs h) ∙ omega arith

pub record Digits (v n : ℕ) (t : List ℕ) (w : ℕ) (r : List ℕ) : Type 0 where
  pub more : List ℕ
  pub each : list_all is_more more ≡ true
  pub text_is : t ≡ more ++ (125 ∷ r)
  pub few : n + length (without_underscores more) ≤ 6
  pub value_is : w ≡ value_on v more
  pub is_scalar : IsScalar w

abbrev given : ℕ → List ℕ → Option (ℕ × List ℕ)
given v cs = Some (v, cs)

digits_end : (v n c w : ℕ) (cs r : List ℕ) → n ≤ 6 → eqb c 125 ≡ true → number_if (scalar v) v cs ≡ given w r
    → Digits v n (c ∷ cs) w r
digits_end v n c w cs r few e h =
    let a = allowed_some (scalar v) (v, cs) (w, r) h in
    let brace = eqb-true c 125 e in
    let fields = some_pair (v, cs) (w, r) a.1 in
    let same : v ≡ w = fields.0 in
    let rest : cs ≡ r = fields.1 in
    record { more = []; each = refl; text_is = cc; few = omega arith; value_is = omega arith; is_scalar = subst IsScalar same a.0 }

digits_underscore : (v n c w : ℕ) (cs r : List ℕ) → eqb c 95 ≡ true → Digits v n cs w r → Digits v n (c ∷ cs) w r
digits_underscore v n c w cs r e d =
    let underscore = eqb-true c 95 e in
    let text = d.text_is in
    record { more = 95 ∷ d.more; each = d.each; text_is = cc; few = d.few; value_is = d.value_is; is_scalar = d.is_scalar }

digits_digit : (v n c w : ℕ) (cs r : List ℕ) → eqb c 95 ≡ false → is_hex_digit c ≡ true
    → Digits (v * 16 + digit_value c) (n + 1) cs w r → Digits v n (c ∷ cs) w r
digits_digit v n c w cs r e l d =
    let text = d.text_is in
    let long = length_on_digit c d.more e in
    let fits = d.few in
    record {
      more = c ∷ d.more;
      each = and_from (is_more c) (list_all is_more d.more) (or_right (is_underscore c) (is_hex_digit c) l) d.each;
      text_is = ap (λ x. c ∷ x) text;
      few = rw long (omega arith);
      value_is = d.value_is ∙ sym (value_on_digit v c d.more e);
      is_scalar = d.is_scalar;
    }

digits_sound : (v n : ℕ) (t : List ℕ) (w : ℕ) (r : List ℕ) → n ≤ 6 → unicode_digits_at v n t ≡ Some (w, r)
    → Digits v n t w r
unfolding unicode_digits_at
digits_sound v n [] w r few h = absurd (cc)
digits_sound v n (c ∷ cs) w r few h =
    let last = number_if (scalar v) v cs in
    let next = unicode_digits_at (v * 16 + digit_value c) (n + 1) cs in
    let digit = cond (is_hex_digit c && ltb n 6) next None in
    elim (chosen (eqb c 125) last (cond (eqb c 95) (unicode_digits_at v n cs) digit) (given w r) h) [
      | inl a ↦ digits_end v n c w cs r few a.0 a.1
      | inr a ↦ elim (chosen (eqb c 95) (unicode_digits_at v n cs) digit (given w r) a.1) [
        | inl b ↦ digits_underscore v n c w cs r b.0 (digits_sound v n cs w r few b.1)
        | inr b ↦ elim (chosen (is_hex_digit c && ltb n 6) next None (given w r) b.1) [
          | inl d ↦
              let tests = and_parts (is_hex_digit c) (ltb n 6) d.0 in
              let room : n < 6 = ltb-true n 6 tests.1 in
              digits_digit v n c w cs r b.0 tests.0 (digits_sound (v * 16 + digit_value c) (n + 1) cs w r (omega arith)
              d.1)
          | inr d ↦ absurd (cc)
        ]
      ]
    ]

end_at : (v n : ℕ) (r : List ℕ) → IsScalar v → unicode_digits_at v n (125 ∷ r) ≡ Some (v, r)
unfolding unicode_digits_at
end_at v n r h = rw h refl

underscore_at : (v n : ℕ) (t : List ℕ) → unicode_digits_at v n (95 ∷ t) ≡ unicode_digits_at v n t
unfolding unicode_digits_at
underscore_at v n t = refl

digit_step : (v n c : ℕ) (t : List ℕ) → is_hex_digit c ≡ true → n < 6 → unicode_digits_at v n (c ∷ t)
    ≡ unicode_digits_at (v * 16 + digit_value c) (n + 1) t
unfolding unicode_digits_at
digit_step v n c t h room =
    let no_underscore = digit_apart c 95 h refl in
    let no_brace = digit_apart c 125 h refl in
    let few : ltb n 6 ≡ true = lt-ltb n 6 room in
    rw (no_brace, no_underscore, h, few) refl

digits_complete : (v n : ℕ) (more r : List ℕ) → list_all is_more more ≡ true → n + length (without_underscores more) ≤ 6
    → IsScalar (value_on v more) → unicode_digits_at v n (more ++ (125 ∷ r)) ≡ Some (value_on v more, r)
digits_complete v n [] r each few s =
    let same : v * 1 + 0 ≡ v = omega arith in
    rw same (end_at v n r (subst IsScalar same s))
digits_complete v n (c ∷ cs) r each few s =
    let parts = and_parts (is_more c) (list_all is_more cs) each in
    elim (or_cases (is_underscore c) (is_hex_digit c) parts.0) [
      | inl underscore ↦
          let is = eqb-true c 95 underscore in
          let Fits : ℕ → Type 0 = λ x. n + length (without_underscores (x ∷ cs)) ≤ 6 in
          let Scalar : ℕ → Type 0 = λ x. IsScalar (value_on v (x ∷ cs)) in
          let Goal : ℕ → Type 0 = λ x. unicode_digits_at v n (x ∷ (cs ++ (125 ∷ r))) ≡ Some (value_on v (x ∷ cs), r) in
          subst Goal (sym is) (underscore_at v n (cs ++ (125 ∷ r))
          ∙ digits_complete v n cs r parts.1 (subst Fits is few) (subst Scalar is s))
      | inr digit ↦
          let no_underscore = digit_apart c 95 digit refl in
          let long = length_on_digit c cs no_underscore in
          let value = value_on_digit v c cs no_underscore in
          digit_step v n c (cs ++ (125 ∷ r)) digit (omega (arith, few))
          ∙ digits_complete (v * 16 + digit_value c) (n + 1) cs r parts.1 (omega (arith, few))
          (subst IsScalar value s) ∙ ap (λ w. Some (w, r)) (sym value)
    ]

-- ---- one hexadecimal digit, and two of them

abbrev DigitAt : List ℕ → ℕ → List ℕ → Type 0
DigitAt t d r = (c : ℕ) × (t ≡ c ∷ r) × (is_hex_digit c ≡ true) × (d ≡ digit_value c)

digit_sound : (t : List ℕ) (p : ℕ × List ℕ) → digit_at t ≡ Some p → DigitAt t p.0 p.1
digit_sound [] p h = absurd (cc)
digit_sound (c ∷ cs) p h =
    let a = allowed_some (is_hex_digit c) (digit_value c, cs) p h in
    let fields = some_pair (digit_value c, cs) p a.1 in
    (c, ap (λ x. c ∷ x) fields.1, a.0, sym fields.0)

pub record HexAt (kind : Kind) (t : List ℕ) (w : ℕ) (r : List ℕ) : Type 0 where
  pub high : ℕ
  pub low : ℕ
  pub allowed : IsUnit kind (Hex high low)
  pub text_is : t ≡ high ∷ low ∷ r
  pub value_is : w ≡ hex_value high low

pub two_digits : (a b : ℕ) → a * 16 + b ≡ a * 16 ^ 1 + (b * 16 ^ 0 + 0)
two_digits a b = omega arith

hex_sound : (kind : Kind) (t : List ℕ) (p : ℕ × List ℕ) → hex_at kind t ≡ Some p → HexAt kind t p.0 p.1
unfolding hex_at
hex_sound kind t p h =
    let b = bind_some (digit_at t) _ p h in
    let high = digit_sound t b.0 b.1 in
    let d = bind_some (digit_at b.0.1) _ p b.2 in
    let low = digit_sound b.0.1 d.0 d.1 in
    let value = b.0.0 * 16 + d.0.0 in
    let a = allowed_some (may_be_hex kind value) (value, d.0.1) p d.2 in
    let fields = some_pair (value, d.0.1) p a.1 in
    let same : value ≡ hex_value high.0 low.0 = ap (λ x. x * 16 + d.0.0) high.3
    ∙ ap (λ x. digit_value high.0 * 16 + x) low.3 ∙ two_digits (digit_value high.0) (digit_value low.0) in
    record {
      high = high.0;
      low = low.0;
      allowed = (high.2, low.2, subst (λ x. may_be_hex kind x ≡ true) same a.0);
      text_is = high.1 ∙ ap (λ x. high.0 ∷ x) (low.1 ∙ ap (λ x. low.0 ∷ x) fields.1);
      value_is = sym fields.0 ∙ same;
    }

hex_complete : (kind : Kind) (high low : ℕ) (r : List ℕ) → IsUnit kind (Hex high low) → hex_at kind (high ∷ low ∷ r)
    ≡ Some (hex_value high low, r)
unfolding hex_at
hex_complete kind high low r u =
    let a : is_hex_digit high ≡ true = u.0 in
    let b : is_hex_digit low ≡ true = u.1 in
    let same = two_digits (digit_value high) (digit_value low) in
    let c : may_be_hex kind (digit_value high * 16 + digit_value low)
    ≡ true = subst (λ x. may_be_hex kind x ≡ true) (sym same) u.2 in
    rw (a, b, c) (ap (λ w. Some (w, r)) same)

-- ---- an escape `\u{..}`

pub record UnicodeAt (kind : Kind) (t : List ℕ) (w : ℕ) (r : List ℕ) : Type 0 where
  pub first : ℕ
  pub more : List ℕ
  pub allowed : IsUnit kind (Unicode first more)
  pub text_is : t ≡ 123 ∷ first ∷ (more ++ (125 ∷ r))
  pub value_is : w ≡ unicode_value first more

brace_sound : (t r : List ℕ) → brace_at t ≡ Some r → t ≡ 123 ∷ r
brace_sound [] r h = absurd (cc)
brace_sound (c ∷ cs) r h =
    let a = allowed_some (eqb c 123) cs r h in
    let brace = eqb-true c 123 a.0 in
    let rest = a.1 in
    cc

value_first : (first : ℕ) (more : List ℕ) → is_hex_digit first ≡ true → value_on (digit_value first) more
    ≡ unicode_value first more
value_first first more h = ap (place_value 16) (sym (kept_digit first more (digit_apart first 95 h refl)))

unicode_built : (kind : Kind) (t b d r : List ℕ) (c v w : ℕ) → t ≡ 123 ∷ b → b ≡ c ∷ d → is_hex_digit c ≡ true → v
    ≡ digit_value c → Digits v 1 d w r → (allows_unicode_escapes kind && allows_code kind w) ≡ true → UnicodeAt kind t w r
unicode_built kind t b d r c v w brace first digit v_is more allowed =
    let tests = and_parts (allows_unicode_escapes kind) (allows_code kind w) allowed in
    let long = length_on_digit c more.more (digit_apart c 95 digit refl) in
    let fits = more.few in
    let value : w ≡ unicode_value c more.more = more.value_is ∙ ap (λ x. value_on x more.more) v_is
    ∙ value_first c more.more digit in
    record {
      first = c;
      more = more.more;
      allowed = (
        tests.0,
        digit,
        more.each,
        rw long (omega arith),
        subst IsScalar value more.is_scalar,
        subst
            (λ x. allows_code kind x ≡ true) value tests.1,
      );
      text_is = brace ∙ ap (λ x. 123 ∷ x) (first ∙ ap (λ x. c ∷ x) more.text_is);
      value_is = value;
    }

pub unicode_sound : (kind : Kind) (t : List ℕ) (p : ℕ × List ℕ) → unicode_at kind t ≡ Some p → UnicodeAt kind t p.0 p.1
unicode_sound kind t p h =
    let b = bind_some (brace_at t) _ p (sym (unicode_is kind t) ∙ h) in
    let d = bind_some (digit_at b.0) _ p b.2 in
    let first = digit_sound b.0 d.0 d.1 in
    let e = bind_some (unicode_digits_at d.0.0 1 d.0.1) _ p d.2 in
    let a = allowed_some (allows_unicode_escapes kind && allows_code kind e.0.0) e.0 p e.2 in
    let fields = some_pair e.0 p a.1 in
    let more = digits_sound d.0.0 1 d.0.1 e.0.0 e.0.1 (omega arith) e.1 in
    let built = unicode_built kind t b.0 d.0.1 e.0.1 first.0 d.0.0 e.0.0 (brace_sound t b.0 b.1) first.1 first.2 first.3
    more a.0 in
    subst (λ w. UnicodeAt kind t w p.1) fields.0 (subst (UnicodeAt kind t e.0.0) fields.1 built)

unicode_complete : (kind : Kind) (first : ℕ) (more r : List ℕ) → IsUnit kind (Unicode first more)
    → unicode_at kind (123 ∷ first ∷ (more ++ (125 ∷ r))) ≡ Some (unicode_value first more, r)
unicode_complete kind first more r u =
    let a : is_hex_digit first ≡ true = u.1 in
    let long = length_on_digit first more (digit_apart first 95 u.1 refl) in
    let value = value_first first more u.1 in
    let few : length (without_underscores (first ∷ more)) ≤ 6 = u.3 in
    let digits : unicode_digits_at (digit_value first) 1 (more ++ (125 ∷ r))
    ≡ Some (unicode_value first more, r) = digits_complete (digit_value first) 1 more r u.2 (omega arith)
    (subst IsScalar (sym value) u.4) ∙ ap (λ w. Some (w, r)) value in
    let has : allows_unicode_escapes kind ≡ true = u.0 in
    let holds : allows_code kind (unicode_value first more) ≡ true = u.5 in
    unicode_is kind (123 ∷ first ∷ (more ++ (125 ∷ r))) ∙ rw (a, digits, has, holds) refl

-- ---- white space

blanks_sound : (t : List ℕ) → (run : List ℕ) × (list_all is_blank run ≡ true) × (t ≡ run ++ after_blanks t)
    × (first_passes is_blank (after_blanks t) ≡ false)
unfolding after_blanks
blanks_sound [] = ([], refl, refl, refl)
blanks_sound (c ∷ cs) =
    let rest = blanks_sound cs in
    elim (cases_Bool (is_blank c)) [
      | inl b ↦ rw b (
        c ∷ rest.0,
        and_from (is_blank c) (list_all is_blank rest.0) b rest.1,
        ap (λ x. c ∷ x) rest.2,
        rest.3,
      )
      | inr b ↦ rw b ([], refl, refl, b)
    ]

blanks_complete : (run r : List ℕ) → list_all is_blank run ≡ true → first_passes is_blank r ≡ false
    → after_blanks (run ++ r) ≡ r
unfolding after_blanks
blanks_complete [] [] each ends = refl
blanks_complete [] (c ∷ cs) each ends = rw ends refl
blanks_complete (c ∷ cs) r each ends =
    let parts = and_parts (is_blank c) (list_all is_blank cs) each in
    rw parts.0 (blanks_complete cs r parts.1 ends)

-- ---- an escape of a backslash and one character

letter_sound : (c n : ℕ) → named_of c ≡ Some n → (l : Letter) × (c ≡ letter_text l) × (n ≡ letter_value l)
letter_sound c n h =
    elim (eqb_tells c 110) [
      | inl a ↦ (LowerN, a.1, let e = rw a.0 at h in cc)
      | inr a ↦ let h1 = rw a.0 at h in
          elim (eqb_tells c 114) [
            | inl b ↦ (LowerR, b.1, let e = rw b.0 at h1 in cc)
            | inr b ↦ let h2 = rw b.0 at h1 in
                elim (eqb_tells c 116) [
                  | inl d ↦ (LowerT, d.1, let e = rw d.0 at h2 in cc)
                  | inr d ↦ let h3 = rw d.0 at h2 in
                      elim (eqb_tells c 92) [
                        | inl e ↦ (Backslash, e.1, let g = rw e.0 at h3 in cc)
                        | inr e ↦ let h4 = rw e.0 at h3 in
                            elim (eqb_tells c 39) [
                              | inl f ↦ (Apostrophe, f.1, let g = rw f.0 at h4 in cc)
                              | inr f ↦ let h5 = rw f.0 at h4 in
                                  elim (eqb_tells c 34) [
                                    | inl i ↦ (Quote, i.1, let g = rw i.0 at h5 in cc)
                                    | inr i ↦ let h6 = rw i.0 at h5 in
                                        elim (eqb_tells c 48) [
                                          | inl j ↦ (Zero, j.1, let g = rw j.0 at h6 in cc)
                                          | inr j
                                              ↦ let h7 = rw j.0 at h6 in absurd (cc)
                                        ]
                                  ]
                            ]
                      ]
                ]
          ]
    ]

-- ---- a character or escape

-- The text begins with a character or escape of a literal of the kind. The record has its value, and the text after it.
pub record Begins (kind : Kind) (t v r : List ℕ) : Type 0 where
  pub unit : QuotedUnit
  pub allowed : IsUnit kind unit
  pub ends : EndsBefore unit r
  pub text_is : t ≡ unit_text unit ++ r
  pub value_is : v ≡ unit_value kind unit

-- The value of a literal of any kind may contain each code point or byte other than 0.
pub holds_more : (kind : Kind) (n : ℕ) → eqb n 0 ≡ false → allows_code kind n ≡ true
holds_more Str n h = refl
holds_more ByteStr n h = refl
holds_more CStr n h = rw h refl
holds_more kind n h = refl

named_sound : (kind : Kind) (c : ℕ) (cs : List ℕ) (p : List ℕ × List ℕ) → named_at kind c cs ≡ Some p
    → Begins kind (92 ∷ c ∷ cs) p.0 p.1
named_sound kind c cs p h =
    let i = bind_some (named_in kind c) _ p h in
    let o = bind_some (named_of c) _ i.0 i.1 in
    let a = allowed_some (allows_code kind o.0) o.0 i.0 o.2 in
    let at = letter_sound c o.0 o.1 in
    let same : o.0 ≡ i.0 = let e = a.1 in cc in
    let fields = some_pair (i.0 ∷ [], cs) p i.2 in
    record {
      unit = Named at.0;
      allowed = subst (λ x. allows_code kind x ≡ true) at.2 a.0;
      ends = tt;
      text_is = ap (λ x. 92 ∷ x ∷ cs) at.1 ∙ ap (λ x. 92 ∷ letter_text at.0 ∷ x) fields.1;
      value_is = sym fields.0 ∙ ap (λ w. w ∷ []) (sym same ∙ at.2);
    }

continuation_sound : (kind : Kind) (c : ℕ) (cs : List ℕ) (p : List ℕ × List ℕ) → is_line_end c ≡ true
    → cond (is_string kind) (found [] (after_blanks cs)) None ≡ Some p → Begins kind (92 ∷ c ∷ cs) p.0 p.1
continuation_sound kind c cs p l h =
    let a = allowed_some (is_string kind) ([], after_blanks cs) p h in
    let blanks = blanks_sound cs in
    let fields = some_pair ([], after_blanks cs) p a.1 in
    record {
      unit = Continuation c blanks.0;
      allowed = (a.0, l, blanks.1);
      ends = subst (λ r. first_passes is_blank r ≡ false) fields.1 blanks.3;
      text_is = ap (λ x. 92 ∷ c ∷ x) (blanks.2 ∙ ap (λ x. blanks.0 ++ x) fields.1);
      value_is = sym fields.0;
    }

hex_begins : (kind : Kind) (c : ℕ) (cs : List ℕ) (p : List ℕ × List ℕ) → eqb c 120 ≡ true
    → option_and_then (λ q. found (q.0 ∷ []) q.1) (hex_at kind cs) ≡ Some p → Begins kind (92 ∷ c ∷ cs) p.0 p.1
hex_begins kind c cs p e h =
    let b = bind_some (hex_at kind cs) _ p h in
    let at = hex_sound kind cs b.0 b.1 in
    let fields = some_pair (b.0.0 ∷ [], b.0.1) p b.2 in
    record {
      unit = Hex at.high at.low;
      allowed = at.allowed;
      ends = tt;
      text_is = ap (λ x. 92 ∷ x ∷ cs) (eqb-true c 120 e) ∙ ap (λ x. 92 ∷ 120 ∷ x)
          (at.text_is ∙ ap (λ x. at.high ∷ at.low ∷ x) fields.1);
      value_is = sym fields.0 ∙ ap (λ w. w ∷ []) at.value_is;
    }

unicode_begins : (kind : Kind) (c : ℕ) (cs : List ℕ) (p : List ℕ × List ℕ) → eqb c 117 ≡ true
    → option_and_then (λ q. found (content_of kind (q.0 ∷ [])) q.1) (unicode_at kind cs) ≡ Some p
    → Begins kind (92 ∷ c ∷ cs) p.0 p.1
unicode_begins kind c cs p e h =
    let o = bind_some (unicode_at kind cs) _ p h in
    let at = unicode_sound kind cs o.0 o.1 in
    let fields = some_pair (content_of kind (o.0.0 ∷ []), o.0.1) p o.2 in
    record {
      unit = Unicode at.first at.more;
      allowed = at.allowed;
      ends = tt;
      text_is = ap (λ x. 92 ∷ x ∷ cs) (eqb-true c 117 e) ∙ ap (λ x. 92 ∷ 117 ∷ x)
          (at.text_is ∙ ap (λ x. 123 ∷ at.first ∷ (at.more ++ (125 ∷ x))) fields.1
          ∙ ap (λ x. 123 ∷ at.first ∷ x) (sym (append_assoc at.more (125 ∷ []) p.1)));
      value_is = sym fields.0 ∙ ap (λ w. content_of kind (w ∷ [])) at.value_is;
    }

escape_sound : (kind : Kind) (t : List ℕ) (p : List ℕ × List ℕ) → escape_at kind t ≡ Some p
    → Begins kind (92 ∷ t) p.0 p.1
unfolding escape_at
escape_sound kind [] p h = absurd (cc)
escape_sound kind (c ∷ cs) p h =
    let hex = option_and_then (λ q. found (q.0 ∷ []) q.1) (hex_at kind cs) in
    let unicode = option_and_then (λ q. found (content_of kind (q.0 ∷ [])) q.1) (unicode_at kind cs) in
    let skip = cond (is_string kind) (found [] (after_blanks cs)) None in
    let letter = named_at kind c cs in
    elim (chosen (eqb c 120) hex (cond (eqb c 117) unicode (cond (is_line_end c) skip letter)) (Some p) h) [
      | inl a ↦ hex_begins kind c cs p a.0 a.1
      | inr a ↦ elim (chosen (eqb c 117) unicode (cond (is_line_end c) skip letter) (Some p) a.1) [
        | inl b ↦ unicode_begins kind c cs p b.0 b.1
        | inr b ↦ elim (chosen (is_line_end c) skip letter (Some p) b.1) [
          | inl d ↦ continuation_sound kind c cs p d.0 d.1
          | inr d ↦ named_sound kind c cs p d.1
        ]
      ]
    ]

line_feed_sound : (kind : Kind) (t : List ℕ) (p : List ℕ × List ℕ) → line_feed_at kind t ≡ Some p
    → Begins kind (13 ∷ t) p.0 p.1
line_feed_sound kind [] p h = absurd (cc)
line_feed_sound kind (c ∷ cs) p h =
    let a = allowed_some (is_string kind && eqb c 10) (10 ∷ [], cs) p h in
    let tests = and_parts (is_string kind) (eqb c 10) a.0 in
    let fields = some_pair (10 ∷ [], cs) p a.1 in
    record {
      unit = CrLf;
      allowed = tests.0;
      ends = tt;
      text_is = ap (λ x. 13 ∷ x ∷ cs) (eqb-true c 10 tests.1) ∙ ap (λ x. 13 ∷ 10 ∷ x) fields.1;
      value_is = sym fields.0;
    }

pub unit_sound : (kind : Kind) (t : List ℕ) (p : List ℕ × List ℕ) → unit_at kind t ≡ Some p → Begins kind t p.0 p.1
unfolding unit_at
unit_sound kind [] p h = absurd (cc)
unit_sound kind (c ∷ cs) p h =
    let plain = found (content_of kind (c ∷ [])) cs in
    let last = cond (eqb c 13) (line_feed_at kind cs) None in
    elim (chosen (eqb c 92) (escape_at kind cs) (cond (is_plain kind c) plain last) (Some p) h) [
      | inl a ↦ subst (λ x. Begins kind (x ∷ cs) p.0 p.1) (sym (eqb-true c 92 a.0)) (escape_sound kind cs p a.1)
      | inr a ↦ elim (chosen (is_plain kind c) plain last (Some p) a.1) [
        | inl b ↦
            let fields = some_pair (content_of kind (c ∷ []), cs) p b.1 in
            record { unit = Plain c; allowed = b.0; ends = tt; text_is = ap (λ x. c ∷ x) fields.1; value_is = sym fields.0 }
        | inr b ↦ elim (chosen (eqb c 13) (line_feed_at kind cs) None (Some p) b.1) [
          | inl d ↦ subst (λ x. Begins kind (x ∷ cs) p.0 p.1) (sym (eqb-true c 13 d.0)) (line_feed_sound kind cs p d.1)
          | inr d ↦ absurd (cc)
        ]
      ]
    ]

-- In literals of any kind, a backslash isn't a plain character, which is a character that is its own value.
pub backslash_not_plain : (kind : Kind) → is_plain kind 92 ≡ false
backslash_not_plain Str = refl
backslash_not_plain ByteStr = refl
backslash_not_plain CStr = refl
backslash_not_plain Byte = refl
backslash_not_plain Char = refl
backslash_not_plain Int = refl
backslash_not_plain Float = refl
backslash_not_plain BoolKind = refl

-- In strings of any kind, neither a double quote nor a CR is a plain character, which is a character that is its own value.
pub quote_and_return : (kind : Kind) → is_string kind ≡ true → (is_plain kind 34 ≡ false) × (is_plain kind 13 ≡ false)
quote_and_return Str h = (refl, refl)
quote_and_return ByteStr h = (refl, refl)
quote_and_return CStr h = (refl, refl)
quote_and_return kind h = absurd (cc)

pub plain_complete : (kind : Kind) (c : ℕ) (r : List ℕ) → is_plain kind c ≡ true → unit_at kind (c ∷ r)
    ≡ found (content_of kind (c ∷ [])) r
unfolding unit_at
plain_complete kind c r h =
    let no_backslash : eqb c 92 ≡ false = ne_eqb c 92 (λ e. both_ways (is_plain kind 92) (backslash_not_plain kind)
    (subst (λ x. is_plain kind x ≡ true) e h)) in
    rw (no_backslash, h) refl

pub crlf_complete : (kind : Kind) (r : List ℕ) → is_string kind ≡ true → unit_at kind (13 ∷ 10 ∷ r) ≡ found (10 ∷ []) r
unfolding unit_at
crlf_complete kind r h = rw ((quote_and_return kind h).1, h) refl

named_complete : (kind : Kind) (l : Letter) (r : List ℕ) → allows_code kind (letter_value l) ≡ true
    → unit_at kind (92 ∷ letter_text l ∷ r) ≡ found (letter_value l ∷ []) r
unfolding unit_at escape_at
named_complete kind LowerN r h = rw h refl
named_complete kind LowerR r h = rw h refl
named_complete kind LowerT r h = rw h refl
named_complete kind Backslash r h = rw h refl
named_complete kind Apostrophe r h = rw h refl
named_complete kind Quote r h = rw h refl
named_complete kind Zero r h = rw h refl

continuation_complete : (kind : Kind) (c : ℕ) (run r : List ℕ) → IsUnit kind (Continuation c run)
    → first_passes is_blank r ≡ false → unit_at kind (92 ∷ c ∷ (run ++ r)) ≡ found [] r
unfolding unit_at escape_at
continuation_complete kind c run r u ends =
    let At : ℕ → Type 0 = λ x. unit_at kind (92 ∷ x ∷ (run ++ r)) ≡ found [] r in
    let skip : Bool → Option (List ℕ × List ℕ) = λ b. cond b (found [] (after_blanks (run ++ r))) None in
    let skipped : skip (is_string kind) ≡ found [] r = ap skip u.0
    ∙ ap (λ x. found [] x) (blanks_complete run r u.2 ends) in
    elim (or_cases (eqb c 10) (eqb c 13) u.1) [
      | inl a ↦ subst At (sym (eqb-true c 10 a)) skipped
      | inr a ↦ subst At (sym (eqb-true c 13 a)) skipped
    ]

pub unit_complete : (kind : Kind) (u : QuotedUnit) (r : List ℕ) → IsUnit kind u → EndsBefore u r
    → unit_at kind (unit_text u ++ r) ≡ found (unit_value kind u) r
unfolding unit_at escape_at
unit_complete kind (Plain c) r allowed ends = plain_complete kind c r allowed
unit_complete kind CrLf r allowed ends = crlf_complete kind r allowed
unit_complete kind (Named l) r allowed ends = named_complete kind l r allowed
unit_complete kind (Hex high low) r allowed ends = rw (hex_complete kind high low r allowed) refl
unit_complete kind (Unicode first more) r allowed ends = rw (
  append_assoc more (125 ∷ []) r,
  unicode_complete kind first
      more r allowed,
) refl
unit_complete kind (Continuation c run) r allowed ends = continuation_complete kind c run r allowed ends

-- No character or escape of a string begins with a quote.
pub unit_quote : (kind : Kind) (x : List ℕ) → is_string kind ≡ true → unit_at kind (34 ∷ x) ≡ None
unfolding unit_at
unit_quote kind x h = rw (quote_and_return kind h).0 refl

pub unit_nil : (kind : Kind) → unit_at kind [] ≡ None
unfolding unit_at
unit_nil kind = refl
