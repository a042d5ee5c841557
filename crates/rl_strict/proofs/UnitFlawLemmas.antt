-- If a text begins with no valid character or escape of a quoted literal in `syn`'s grammar, it has the flaw that the code
-- returns: the kind and the position are right.
use Rattle.rl_strict.proofs.Names.{◌≡◌, ◌≢◌, ℕ, suc, ◌+◌, ◌*◌, ◌<◌, ◌≤◌, ◌||◌, ◌&&◌, Bool, true, false, not, cond, eqb, ltb, List, [], ◌∷◌, ◌++◌, length, Option, Some, None, refl, sym, ap, subst, ◌∙◌, inl, inr, arith, append_assoc, option_and_then, list_all, digit_value, scalar, and_from, and_parts, both_ways, cases_Bool, eqb-true, ltb-true, ltb-false, lt-ltb, not-true, not_from_false, list_all-append, pow-suc, cond_both, Kind, Str, ByteStr, CStr, Byte, first_passes, is_underscore, Letter, Named, LowerN, LowerR, LowerT, Backslash, Apostrophe, Quote, letter_text, letter_value, hex_value, content_of, place_value, without_underscores, is_hex_digit, decodes_to_chars, is_string, is_plain, is_line_end, allows_code, may_be_hex, allows_unicode_escapes, apart, FlawKind, Unclosed, UnknownEscape, NoUnicode, NoHexDigit, NoBrace, EmptyBraces, TooManyDigits, HexEscapeOutOfRange, UnicodeEscapeOutOfRange, Surrogate, Nul, NotAscii, MustEscape, NoCharacter, IsBraced, digit_count, number_of, FirstDigit, SecondDigit, AfterBrace, AfterDigits, IsNoCode, HasNoCode, AtBrace, AtSixth, AsItIs, ByLetter, ByDigits, ByNumber, UnitFlaw, found, number_if, hex_at, unicode_at, after_blanks, named_at, escape_at, FoundFlaw, found_flaw, low_digit_flaw_at, hex_flaw_at, is_code, code_flaw_of, first_digit_flaw_at, unicode_flaw_at, escape_flaw_at, character_flaw_of, holds_more, two_digits, unit_complete, digit_apart, passes_more}
use Rattle.rl_lenient.proofs.Names.{Zero}
use Rattle.std.proofs.Common.{length-append}
use Rattle.rl_strict.proofs.EscapeLemmas.{Closes, Completes, Fails, Reader, given, inner_none, only_zero, hex_read, hex_one, second, hex_second, never, no_low, no_high, past_hex, allowed, coded, closed_code, closed_bad, digit_on, digit_past, underscore_on, other_none, full_none, not_low, not_high, Spelled, room, closing, spelled_on, braced, braced_first, braced_none, first_spelled, braced_one, unicode_on, no_unicode_brace, unicode_one, unicode_never, escape_n, by_hex, by_unicode, same_escape, by_escape}
use Rattle.rl_strict.proofs.Stops.{Stops, lifted}
use Rattle.rl_strict.proofs.CodeDigitFlaws.{digits_flaw_at, digits_flaw_is}

-- ---- parsers of the beginning of a text

-- The longest prefix of `text` that can be completed so that the parser `reader` accepts it ends at the flaw. The flaw's
-- kind describes the error in `before ++ text`.
pub record HasUnitFlaw {V : Type 0} (kind : Kind) (reader : Reader V) (before text : List ℕ) (flaw : FoundFlaw) : Type 0
  where
    pub stops : Stops (Closes reader) (Fails reader) text flaw.1
    pub has : UnitFlaw kind flaw.0 (before ++ text) flaw.1

at_end : {V : Type 0} {kind : Kind} {reader : Reader V} {before : List ℕ} → Completes reader
    → HasUnitFlaw kind reader before [] (found_flaw Unclosed [])
at_end k = record { stops = record { front = []; text_is = refl; begins = k; stuck = λ c cs e h. absurd (cc) }; has = refl }

-- If the parser rejects every text that begins with the character `c`, the flaw of such a text is at `c`.
here : {V : Type 0} {kind : Kind} {reader : Reader V} {before : List ℕ} (c : ℕ) (cs : List ℕ) (flaw : FlawKind)
    → Completes reader → ((e : List ℕ) → reader (c ∷ e) ≡ None) → UnitFlaw kind flaw (before ++ (c ∷ cs)) (c ∷ cs)
    → HasUnitFlaw kind reader before (c ∷ cs) (found_flaw flaw (c ∷ cs))
here {reader} c cs flaw k none has = record {
  stops = record {
    front = [];
    text_is = refl;
    begins = k;
    stuck = λ d ds e same. let head : c ≡ d = cc in subst (λ x. reader (x ∷ e) ≡ None) head (none e);
  };
  has = has;
}

-- Let the parser `outer` skip a character, and convert the value that `inner` parses from the text after the character. The
-- flaw that `inner` finds is the flaw of the whole text.
next : {V W : Type 0} {kind : Kind} {before cs : List ℕ} {flaw : FoundFlaw} (inner : Reader V) (outer : Reader W)
    (f : V → W) (c x : ℕ) → c ≡ x → ((u : List ℕ) → outer (x ∷ u) ≡ option_and_then (λ p. given (f p.0) p.1) (inner u))
    → outer (c ∷ cs) ≡ None → (inner cs ≡ None → HasUnitFlaw kind inner (before ++ (x ∷ [])) cs flaw)
    → HasUnitFlaw kind outer before (c ∷ cs) flaw
next {kind} {before} {cs} {flaw} inner outer f c x is same none inside =
    let k = inside (inner_none (inner cs) f (sym (ap (λ z. outer (z ∷ cs)) is ∙ same cs) ∙ none)) in
    let s = k.stops in
    subst (λ z. HasUnitFlaw kind outer before (z ∷ cs) flaw) (sym is) (record {
      stops = lifted (x ∷ []) cs flaw.1 s
          (λ y. (
            f y.0,
            λ r. same ((s.front ++ s.begins.ending) ++ r)
                ∙ ap (option_and_then (λ p. given (f p.0) p.1)) (y.1 r),
          ))
          (λ d ds e h n. same (s.front ++ (d ∷ e)) ∙ ap (option_and_then (λ p. given (f p.0) p.1)) n);
      has = subst (λ z. UnitFlaw kind flaw.0 z flaw.1) (append_assoc before (x ∷ []) cs) k.has;
    })

kept : {V : Type 0} (o : Option (V × List ℕ)) → o ≡ option_and_then (λ p. given p.0 p.1) o
kept None = refl
kept (Some p) = refl

-- Let the parser `outer` skip a character, and return the result of `inner` for the text after the character. The flaw that
-- `inner` finds is the flaw of the whole text.
next_same : {V : Type 0} {kind : Kind} {before cs : List ℕ} {flaw : FoundFlaw} (inner outer : Reader V) (c x : ℕ) → c ≡
    x → ((u : List ℕ) → outer (x ∷ u) ≡ inner u) → outer (c ∷ cs) ≡ None → (inner cs ≡ None → HasUnitFlaw kind inner
    (before ++ (x ∷ [])) cs flaw) → HasUnitFlaw kind outer before (c ∷ cs) flaw
next_same inner outer c x is same none inside = next inner outer (λ v. v) c x is (λ u. same u ∙ kept (inner u)) none
    inside

-- ---- the kinds of literals, and the characters that they allow

c_string : (kind : Kind) (v : ℕ) → allows_code kind v ≡ false → kind ≡ CStr
c_string CStr v h = refl
c_string kind v h = absurd (cc)

pub left_false : (a b : Bool) → b ≡ true → (a && b) ≡ false → a ≡ false
left_false true b h e = absurd (both_ways b e h)
left_false false b h e = refl

-- ---- the two digits of a `\x` escape

rejected : (b : Bool) (n : ℕ) (r : List ℕ) → number_if b n r ≡ None → b ≡ false
rejected true n r h = absurd (cc)
rejected false n r h = refl

-- In a character literal or a string, a `\x` escape whose first digit is at most 7 represents a number below 128.
small_enough : (b : Bool) (v d : ℕ) → (b && ltb 7 v) ≡ false → d < 16 → (not b || ltb (v * 16 + d) 128) ≡ true
small_enough false v d h digit = refl
small_enough true v d h digit = lt-ltb (v * 16 + d) 128 (let few : v ≤ 7 = ltb-false 7 v h in omega arith)

low_spoils : (kind : Kind) (c : ℕ) (t : List ℕ) → is_hex_digit c ≡ true → (decodes_to_chars kind && ltb 7 (digit_value
    c)) ≡ false → second kind c t ≡ None → HasUnitFlaw kind (second kind c) (92 ∷ 120 ∷ c ∷ []) t (low_digit_flaw_at t)
low_spoils kind c [] h low none = at_end (hex_second kind c h low)
low_spoils kind c (d ∷ ds) h low none = cond_both (is_hex_digit d) _ _
    (HasUnitFlaw kind (second kind c) (92 ∷ 120 ∷ c ∷ []) (d ∷ ds)) both one
  where
    n : ℕ
    n = digit_value c * 16 + digit_value d

    both : is_hex_digit d ≡ true → HasUnitFlaw kind (second kind c) (92 ∷ 120 ∷ c ∷ []) (d ∷ ds)
        (found_flaw Nul (d ∷ ds))
    both e =
        let stuck : number_if (may_be_hex kind n) n ds ≡ None = sym (hex_read kind c d ds h e) ∙ none in
        let bad : may_be_hex kind n ≡ false = rejected (may_be_hex kind n) n ds stuck in
        let fits : (not (decodes_to_chars kind) || ltb n 128) ≡ true = small_enough (decodes_to_chars kind)
        (digit_value c) (digit_value d) low (ltb-true (digit_value d) 16 e) in
        let rejects : allows_code kind n ≡ false = left_false (allows_code kind n)
        (not (decodes_to_chars kind) || ltb n 128) fits bad in
        let value : hex_value c d ≡ 0 = sym (two_digits (digit_value c) (digit_value d)) ∙ only_zero kind n rejects in
        here d ds Nul (hex_second kind c h low) (λ r. hex_read kind c d r h e ∙ never (may_be_hex kind n) n ds r stuck)
        (c_string kind n rejects, ByDigits c d ds refl refl h e value)

    one : is_hex_digit d ≡ false → HasUnitFlaw kind (second kind c) (92 ∷ 120 ∷ c ∷ []) (d ∷ ds)
        (found_flaw NoHexDigit (d ∷ ds))
    one e = here d ds NoHexDigit (hex_second kind c h low) (λ r. no_low kind c d r h e)
        (SecondDigit c h refl (not_from_false (is_hex_digit d) e))

hex_spoils : (kind : Kind) (t : List ℕ) → hex_at kind t ≡ None
    → HasUnitFlaw kind (hex_at kind) (92 ∷ 120 ∷ []) t (hex_flaw_at kind t)
unfolding hex_flaw_at
hex_spoils kind [] none = at_end (hex_one kind)
hex_spoils kind (c ∷ cs) none =
    let P : FoundFlaw → Type 0 = HasUnitFlaw kind (hex_at kind) (92 ∷ 120 ∷ []) (c ∷ cs) in
    let high = decodes_to_chars kind && ltb 7 (digit_value c) in
    cond_both (is_hex_digit c) _ _ P
    (λ e. cond_both high _ _ P
    (λ h.
    let parts = and_parts (decodes_to_chars kind) (ltb 7 (digit_value c)) h in
    here c cs HexEscapeOutOfRange (hex_one kind) (λ r. past_hex kind c r e h)
    (parts.0, refl, and_from (is_hex_digit c) (ltb 7 (digit_value c)) e parts.1))
    (λ h. next_same (second kind c) (hex_at kind) c c refl (λ u. refl) none (low_spoils kind c cs e h)))
    (λ e. here c cs NoHexDigit (hex_one kind) (λ r. no_high kind c r e)
    (FirstDigit refl (not_from_false (is_hex_digit c) e)))

-- ---- the number that the digits of a `\u{..}` escape represent

place_more : (xs : List ℕ) (c : ℕ) → place_value 16 (xs ++ (c ∷ [])) ≡ place_value 16 xs * 16 + digit_value c
place_more [] c = omega arith
place_more (x ∷ xs) c =
    let long : length (xs ++ (c ∷ [])) ≡ suc (length xs) = length-append xs (c ∷ []) ∙ omega arith in
    rw (long, place_more xs c, pow-suc 16 (length xs)) (omega arith)

bare_digit : (ds : List ℕ) (c : ℕ) → eqb c 95 ≡ false → without_underscores (ds ++ (c ∷ [])) ≡ without_underscores ds
    ++ (c ∷ [])
bare_digit [] c h = rw h refl
bare_digit (d ∷ ds) c h = elim (cases_Bool (eqb d 95)) [
  | inl a ↦ rw a (bare_digit ds c h)
  | inr a ↦ rw a (ap (λ z. d ∷ z) (bare_digit ds c h))
]

bare_same : (ds : List ℕ) (c : ℕ) → eqb c 95 ≡ true → without_underscores (ds ++ (c ∷ [])) ≡ without_underscores ds
bare_same [] c h = rw h refl
bare_same (d ∷ ds) c h = elim (cases_Bool (eqb d 95)) [
  | inl a ↦ rw a (bare_same ds c h)
  | inr a ↦ rw a (ap (λ z. d ∷ z) (bare_same ds c h))
]

number_more : (ds : List ℕ) (c : ℕ) → eqb c 95 ≡ false → number_of (ds ++ (c ∷ [])) ≡ number_of ds * 16 + digit_value c
number_more ds c h = ap (place_value 16) (bare_digit ds c h) ∙ place_more (without_underscores ds) c

number_digit : (ds : List ℕ) (v c : ℕ) → v ≡ number_of ds → is_hex_digit c ≡ true → v * 16 + digit_value c
    ≡ number_of (ds ++ (c ∷ []))
number_digit ds v c e h = ap (λ x. x * 16 + digit_value c) e ∙ sym (number_more ds c (digit_apart c 95 h refl))

count_more : (ds : List ℕ) (c : ℕ) → eqb c 95 ≡ false → digit_count (ds ++ (c ∷ [])) ≡ digit_count ds + 1
count_more ds c h = ap length (bare_digit ds c h) ∙ length-append (without_underscores ds) (c ∷ [])

code_has : (kind : Kind) (v : ℕ) (text rest : List ℕ) → is_code kind v ≡ false
    → ((k : FlawKind) → IsNoCode kind k v → HasNoCode kind k text rest) → UnitFlaw kind (code_flaw_of v) text rest
code_has kind v text rest bad has = past (ltb 1114111 v) refl
  where
    rejects : (a b : Bool) → a ≡ true → (a && b) ≡ false → b ≡ false
    rejects true b h e = e
    rejects false b h e = absurd (cc)

    zero : (b : Bool) → eqb v 0 ≡ b → ltb 1114111 v ≡ false → UnitFlaw kind (cond b Nul Surrogate) text rest
    zero true e small =
        let is = eqb-true v 0 e in
        let c = c_string kind v (rejects (scalar v) (allows_code kind v) (ap scalar is) bad) in
        (c, ByNumber (has Nul (c, is)))
    zero false e small =
        let none = left_false (scalar v) (allows_code kind v) (holds_more kind v e) bad in
        let within : v ≤ 1114111 = ltb-false 1114111 v small in
        let high : v < 57344 = not_high v (omega arith) none in
        has Surrogate (not_low v none, omega arith)

    past : (b : Bool) → ltb 1114111 v ≡ b → UnitFlaw kind (cond b UnicodeEscapeOutOfRange (cond (eqb v 0) Nul Surrogate)) text rest
    past true e = has UnicodeEscapeOutOfRange (ltb-true 1114111 v e)
    past false e = zero (eqb v 0) refl e

abbrev is_part : ℕ → Bool
is_part c = is_underscore c || is_hex_digit c

-- `ds` is the digits and underscores of a `\u{..}` escape so far. They have `n` digits and represent the number `v`. The
-- kind allows the escape that they begin.
record Stands (kind : Kind) (ds : List ℕ) (v n : ℕ) : Type 0 where
  pub begins : first_passes is_hex_digit ds ≡ true
  pub each : list_all is_part ds ≡ true
  pub value_is : v ≡ number_of ds
  pub count_is : n ≡ digit_count ds
  pub spelled : Spelled kind v n

stands_digit : (kind : Kind) (ds : List ℕ) (v n c : ℕ) → Stands kind ds v n → is_hex_digit c ≡ true
    → Spelled kind (v * 16 + digit_value c) (n + 1) → Stands kind (ds ++ (c ∷ [])) (v * 16 + digit_value c) (n + 1)
stands_digit kind ds v n c s h spelled =
    let no_underscore = digit_apart c 95 h refl in
    record {
      begins = passes_more is_hex_digit ds (c ∷ []) s.begins;
      each = list_all-append is_part ds (c ∷ []) ∙ and_from (list_all is_part ds) (list_all is_part (c ∷ [])) s.each
          (rw (no_underscore, h) refl);
      value_is = number_digit ds v c s.value_is h;
      count_is = ap (λ x. x + 1) s.count_is ∙ sym (count_more ds c no_underscore);
      spelled = spelled;
    }

stands_underscore : (kind : Kind) (ds : List ℕ) (v n c : ℕ) → Stands kind ds v n → eqb c 95 ≡ true
    → Stands kind (ds ++ (c ∷ [])) v n
stands_underscore kind ds v n c s e = record {
  begins = passes_more is_hex_digit ds (c ∷ []) s.begins;
  each = list_all-append is_part ds (c ∷ []) ∙ and_from (list_all is_part ds) (list_all is_part (c ∷ [])) s.each
      (rw e refl);
  value_is = s.value_is ∙ ap (place_value 16) (sym (bare_same ds c e));
  count_is = s.count_is ∙ ap length (sym (bare_same ds c e));
  spelled = s.spelled;
}

-- The text that is `\u{` and then digits.
abbrev braced_front : List ℕ → List ℕ
braced_front ds = 92 ∷ 117 ∷ 123 ∷ ds

-- Let `ds` be the digits of a `\u{..}` escape so far. If the text `cs` after them doesn't complete the escape,
-- `digits_flaw_at` returns the flaw.
abbrev NextSpoils : Kind → List ℕ → Type 0
NextSpoils kind cs = (ds : List ℕ) (v n : ℕ) → Stands kind ds v n → coded kind v n cs ≡ None
    → HasUnitFlaw kind (coded kind v n) (braced_front ds) cs (digits_flaw_at kind v n cs)

module _ (kind : Kind) (ds : List ℕ) (v n c : ℕ) (cs : List ℕ) (s : Stands kind ds v n)
    (none : coded kind v n (c ∷ cs) ≡ None) (later : NextSpoils kind cs) where
  abbrev w : ℕ
  w = v * 16 + digit_value c

  abbrev text : List ℕ
  text = braced_front ds ++ (c ∷ cs)

  abbrev P : FoundFlaw → Type 0
  P = HasUnitFlaw kind (coded kind v n) (braced_front ds) (c ∷ cs)

  braced_here : IsBraced ds text (c ∷ cs)
  braced_here = record { begins = s.begins; each = s.each; text_is = refl }

  stuck : (flaw : FlawKind) → ((e : List ℕ) → coded kind v n (c ∷ e) ≡ None) → UnitFlaw kind flaw text (c ∷ cs)
      → P (found_flaw flaw (c ∷ cs))
  stuck flaw h has = here c cs flaw (closing kind v n s.spelled) h has

  seventh : is_hex_digit c ≡ true → eqb n 6 ≡ true → P (found_flaw TooManyDigits (c ∷ cs))
  seventh e six =
      let is = eqb-true n 6 six in
      stuck TooManyDigits (λ r. digit_past kind v n c r e (omega (arith, is))) (ds, braced_here, sym s.count_is ∙ is, e)

  sixth : is_hex_digit c ≡ true → (eqb n 5 && not (is_code kind w)) ≡ true → P (found_flaw (code_flaw_of w) (c ∷ cs))
  sixth e bad =
      let parts = and_parts (eqb n 5) (not (is_code kind w)) bad in
      let five : n ≡ 5 = eqb-true n 5 parts.0 in
      let none_of : is_code kind w ≡ false = not-true (is_code kind w) parts.1 in
      let value : w ≡ number_of (ds ++ (c ∷ [])) = number_digit ds v c s.value_is e in
      let never_read : (r : List ℕ) → coded kind v n (c ∷ r) ≡ None = λ r. digit_on kind v n c r e (omega (arith, five))
      ∙ ap (λ m. coded kind w (m + 1) r) five ∙ full_none kind w r none_of in
      stuck (code_flaw_of w) never_read (code_has kind w text (c ∷ cs) none_of
      (λ k h. AtSixth ds c cs braced_here (sym s.count_is ∙ five) refl e (subst (IsNoCode kind k) value h)))

  digit_more : is_hex_digit c ≡ true → eqb n 6 ≡ false → (eqb n 5 && not (is_code kind w)) ≡ false
      → P (digits_flaw_at kind w (n + 1) cs)
  digit_more e short good =
      let more = spelled_on kind v n c s.spelled e short good in
      let few = more.few in
      next_same (coded kind w (n + 1)) (coded kind v n) c c refl (λ u. digit_on kind v n c u e (omega (arith, few)))
      none (later (ds ++ (c ∷ [])) w (n + 1) (stands_digit kind ds v n c s e more))

  no_code : c ≡ 125 → is_code kind v ≡ false
  no_code is = elim (cases_Bool (is_code kind v)) [
    | inl a ↦ let h = sym none ∙ ap (λ x. coded kind v n (x ∷ cs)) is
        ∙ closed_code kind v n cs s.spelled.unicode a in absurd (cc)
    | inr a ↦ a
  ]

  closed_here : eqb c 125 ≡ true → P (found_flaw (code_flaw_of v) (c ∷ cs))
  closed_here b =
      let is = eqb-true c 125 b in
      let bad = no_code is in
      let few : digit_count ds ≤ 5 = subst (λ m. m ≤ 5) s.count_is (room kind v n s.spelled bad) in
      stuck (code_flaw_of v) (λ r. ap (λ x. coded kind v n (x ∷ r)) is ∙ closed_bad kind v n r bad)
      (code_has kind v text (c ∷ cs) bad (λ k h. AtBrace ds braced_here few b
      (subst (IsNoCode kind k) s.value_is h)))

  mark_more : eqb c 95 ≡ true → P (digits_flaw_at kind v n cs)
  mark_more d = next_same (coded kind v n) (coded kind v n) c c refl (λ u. ap (λ x. coded kind v n (x ∷ u)) (eqb-true c
      95 d) ∙ underscore_on kind v n u) none (later (ds ++ (c ∷ [])) v n (stands_underscore kind ds v n c s d))

  other_here : is_hex_digit c ≡ false → eqb c 125 ≡ false → eqb c 95 ≡ false → P (found_flaw NoHexDigit (c ∷ cs))
  other_here a b d = stuck NoHexDigit (λ r. other_none kind v n c r a b d)
      (AfterDigits ds braced_here (rw (a, b, d) refl))

  spoils_here : P (digits_flaw_at kind v n (c ∷ cs))
  unfolding digits_flaw_at
  spoils_here = cond_both (is_hex_digit c) _ _ P (λ e. cond_both (eqb n 6) _ _ P (seventh e) (λ short. cond_both (eqb n
      5 && not (is_code kind w)) _ _ P (sixth e) (digit_more e short))) (λ a. cond_both (eqb c 125) _ _ P closed_here (λ
      b. cond_both (eqb c 95) _ _ P mark_more (other_here a b)))

digits_spoil : (kind : Kind) (t ds : List ℕ) (v n : ℕ) → Stands kind ds v n → coded kind v n t ≡ None
    → HasUnitFlaw kind (coded kind v n) (braced_front ds) t (digits_flaw_at kind v n t)
unfolding digits_flaw_at
digits_spoil kind [] ds v n s none = at_end (closing kind v n s.spelled)
digits_spoil kind (c ∷ cs) ds v n s none = spoils_here kind ds v n c cs s none (digits_spoil kind cs)

first_stands : (kind : Kind) (c : ℕ) → allows_unicode_escapes kind ≡ true → is_hex_digit c ≡ true
    → Stands kind (c ∷ []) (digit_value c) 1
first_stands kind c u h =
    let no_underscore = digit_apart c 95 h refl in
    let value = number_more [] c no_underscore in
    record {
      begins = h;
      each = rw (no_underscore, h) refl;
      value_is = omega (arith, value);
      count_is = sym (count_more [] c no_underscore);
      spelled = first_spelled kind c u h;
    }

first_digit_spoils : (kind : Kind) (t : List ℕ) → allows_unicode_escapes kind ≡ true → braced kind t ≡ None
    → HasUnitFlaw kind (braced kind) (braced_front []) t (first_digit_flaw_at kind t)
unfolding first_digit_flaw_at
first_digit_spoils kind [] u none = at_end (braced_one kind u)
first_digit_spoils kind (c ∷ cs) u none =
    let P : FoundFlaw → Type 0 = HasUnitFlaw kind (braced kind) (braced_front []) (c ∷ cs) in
    cond_both (is_hex_digit c) _ _ P
    (λ e. subst P (sym (digits_flaw_is kind cs (digit_value c) 1 (c ∷ cs) (omega arith) refl))
    (next_same (coded kind (digit_value c) 1) (braced kind) c c refl (λ r. braced_first kind c r e) none
    (digits_spoil kind cs (c ∷ []) (digit_value c) 1 (first_stands kind c u e))))
    (λ e. cond_both (eqb c 125) _ _ P
    (λ b. here c cs EmptyBraces (braced_one kind u) (λ r. braced_none kind c r e) (refl, b))
    (λ b. here c cs NoHexDigit (braced_one kind u) (λ r. braced_none kind c r e) (AfterBrace refl (rw (e, b) refl))))

unicode_spoils : (kind : Kind) (t : List ℕ) → allows_unicode_escapes kind ≡ true → unicode_at kind t ≡ None
    → HasUnitFlaw kind (unicode_at kind) (92 ∷ 117 ∷ []) t (unicode_flaw_at kind t)
unfolding unicode_flaw_at
unicode_spoils kind [] u none = at_end (unicode_one kind u)
unicode_spoils kind (c ∷ cs) u none = cond_both (eqb c 123) _ _
    (HasUnitFlaw kind (unicode_at kind) (92 ∷ 117 ∷ []) (c ∷ cs))
    (λ e. next_same (braced kind) (unicode_at kind) c 123 (eqb-true c 123 e) (unicode_on kind) none
    (first_digit_spoils kind cs u))
    (λ e. here c cs NoBrace (unicode_one kind u) (λ r. no_unicode_brace kind c r e)
    (refl, not_from_false (eqb c 123) e))

-- ---- the flaw of an escape

-- In an invalid escape, the character after the backslash isn't the letter of an escape whose value the kind allows, such as
-- the `n` of `\n`.
not_letter : (kind : Kind) (c : ℕ) (cs : List ℕ) (letter : Letter) → escape_at kind (c ∷ cs) ≡ None
    → allows_code kind (letter_value letter) ≡ true → c ≢ letter_text letter
not_letter kind c cs letter none allowed is =
    let stands = unit_complete kind (Named letter) cs allowed tt in
    let h = sym none ∙ ap (λ x. escape_at kind (x ∷ cs)) is ∙ sym (by_escape kind (letter_text letter ∷ cs)) ∙ stands in
    absurd (cc)

no_letter : (kind : Kind) (c : ℕ) (cs : List ℕ) → escape_at kind (c ∷ cs) ≡ None → eqb c 48 ≡ false → (letter : Letter)
    → c ≢ letter_text letter
no_letter kind c cs none z LowerN = not_letter kind c cs LowerN none (holds_more kind 10 refl)
no_letter kind c cs none z LowerR = not_letter kind c cs LowerR none (holds_more kind 13 refl)
no_letter kind c cs none z LowerT = not_letter kind c cs LowerT none (holds_more kind 9 refl)
no_letter kind c cs none z Backslash = not_letter kind c cs Backslash none (holds_more kind 92 refl)
no_letter kind c cs none z Apostrophe = not_letter kind c cs Apostrophe none (holds_more kind 39 refl)
no_letter kind c cs none z Quote = not_letter kind c cs Quote none (holds_more kind 34 refl)
no_letter kind c cs none z Zero = λ is. both_ways (eqb c 48) z (ap (λ x. eqb x 48) is)

no_line_end : (kind : Kind) (c : ℕ) (cs : List ℕ) → eqb c 120 ≡ false → eqb c 117 ≡ false → escape_at kind (c ∷ cs)
    ≡ None → (is_string kind && is_line_end c) ≡ false
unfolding escape_at
no_line_end kind c cs a b none =
    let rest : cond (is_line_end c) (cond (is_string kind) (found [] (after_blanks cs)) None) (named_at kind c cs)
    ≡ None = (let e = rw b at (rw a at none) in e) in
    go (is_line_end c) (is_string kind) (named_at kind c cs) rest
  where
    go : (l t : Bool) (o : Option (List ℕ × List ℕ)) → cond l (cond t (found [] (after_blanks cs)) None) o ≡ None
        → (t && l) ≡ false
    go true true o h = absurd (cc)
    go true false o h = refl
    go false true o h = refl
    go false false o h = refl

no_zero : (kind : Kind) (cs : List ℕ) → escape_at kind (48 ∷ cs) ≡ None → allows_code kind 0 ≡ false
unfolding escape_at
no_zero kind cs none = go (allows_code kind 0) none
  where
    go : (b : Bool) → option_and_then (λ n. found (n ∷ []) cs) (cond b (Some 0) None) ≡ None → b ≡ false
    go true h = absurd (cc)
    go false h = refl

differs : (c k : ℕ) → eqb c k ≡ false → eqb k k ≡ true → c ≢ k
differs c k h same is = both_ways (eqb c k) h (ap (λ x. eqb x k) is ∙ same)

pub escape_spoils : (kind : Kind) (t : List ℕ) → escape_at kind t ≡ None
    → HasUnitFlaw kind (escape_at kind) (92 ∷ []) t (escape_flaw_at kind t)
unfolding escape_flaw_at
escape_spoils kind [] none = at_end (escape_n kind)
escape_spoils kind (c ∷ cs) none = cond_both (eqb c 120) _ _ P by_x (λ a. cond_both (eqb c 117) _ _ P (λ e. cond_both
    (allows_unicode_escapes kind) _ _ P (by_u e) (no_u e)) (λ b. cond_both (eqb c 48) _ _ P (zero a b) (unknown a b)))
  where
    P : FoundFlaw → Type 0
    P = HasUnitFlaw kind (escape_at kind) (92 ∷ []) (c ∷ cs)

    by_x : eqb c 120 ≡ true → P (hex_flaw_at kind cs)
    by_x e = next (hex_at kind) (escape_at kind) (λ n. n ∷ []) c 120 (eqb-true c 120 e) (by_hex kind) none
        (hex_spoils kind cs)

    by_u : eqb c 117 ≡ true → allows_unicode_escapes kind ≡ true → P (unicode_flaw_at kind cs)
    by_u e u = next (unicode_at kind) (escape_at kind) (λ n. content_of kind (n ∷ [])) c 117 (eqb-true c 117 e)
        (by_unicode kind) none (unicode_spoils kind cs u)

    once : (flaw : FlawKind) → ((r : List ℕ) → escape_at kind (c ∷ r) ≡ None) → UnitFlaw kind flaw (92 ∷ c ∷ cs) (c ∷
        cs) → P (found_flaw flaw (c ∷ cs))
    once flaw h has = here c cs flaw (escape_n kind) h has

    no_u : eqb c 117 ≡ true → allows_unicode_escapes kind ≡ false → P (found_flaw NoUnicode (c ∷ cs))
    no_u e u = once NoUnicode (λ r. ap (λ x. escape_at kind (x ∷ r)) (eqb-true c 117 e) ∙ by_unicode kind r
        ∙ ap (option_and_then (λ p. found (content_of kind (p.0 ∷ [])) p.1)) (unicode_never kind r u)) (u, refl, e)

    zero : eqb c 120 ≡ false → eqb c 117 ≡ false → eqb c 48 ≡ true → P (found_flaw Nul (c ∷ cs))
    zero a b z =
        let stuck = ap (λ x. escape_at kind (x ∷ cs)) (sym (eqb-true c 48 z)) ∙ none in
        once Nul (λ r. same_escape kind c cs r a b none) (c_string kind 0 (no_zero kind cs stuck), ByLetter refl z)

    unknown : eqb c 120 ≡ false → eqb c 117 ≡ false → eqb c 48 ≡ false → P (found_flaw UnknownEscape (c ∷ cs))
    unknown a b z = once UnknownEscape (λ r. same_escape kind c cs r a b none) (
      refl,
      record {
        first = c;
        after = cs;
        rest_is = refl;
        no_letter = no_letter kind c cs none z;
        no_x = differs c 120 a refl;
        no_u = differs c 117 b refl;
        no_line_end = no_line_end kind c cs a b none;
      },
    )

-- ---- a character that isn't allowed unescaped

abbrev Alone : Kind → ℕ → List ℕ → FlawKind → Type 0
Alone kind c cs flaw = UnitFlaw kind flaw (c ∷ cs) (c ∷ cs)

-- In a byte or byte string, a non-ASCII character has the flaw that the code returns.
high_has : (kind : Kind) (c : ℕ) (cs : List ℕ) → allows_unicode_escapes kind ≡ false → ltb c 128 ≡ false
    → Alone kind c cs (character_flaw_of c)
high_has kind c cs u h =
    let high = not_from_false (ltb c 128) h in
    let other = λ (k : ℕ) (low : not (ltb k 128) ≡ false). apart (λ x. not (ltb x 128)) c k high low in
    rw (other 0 refl, other 39 refl, h) (u, refl, high)

-- In a string, a character that isn't allowed unescaped has the flaw that the code returns. The character isn't `"`, a
-- backslash or a CR.
pub string_has : (kind : Kind) (c : ℕ) (cs : List ℕ) → is_string kind ≡ true → is_plain kind c ≡ false → eqb c 34 ≡
    false → eqb c 92 ≡ false → eqb c 13 ≡ false → Alone kind c cs (character_flaw_of c)
string_has Str c cs s p q b r = let e : true ≡ false = rw (q, b, r) at p in absurd (cc)
string_has ByteStr c cs s p q b r = go (ltb c 128) refl (rw (q, b, r) at p)
  where
    go : (l : Bool) → ltb c 128 ≡ l → (l && true) ≡ false → Alone ByteStr c cs (character_flaw_of c)
    go true e h = absurd (cc)
    go false e h = high_has ByteStr c cs refl e
string_has CStr c cs s p q b r = go (eqb c 0) refl (rw (q, b, r) at p)
  where
    go : (z : Bool) → eqb c 0 ≡ z → not z ≡ false → Alone CStr c cs (character_flaw_of c)
    go true e h = rw e (refl, AsItIs refl e)
    go false e h = absurd (cc)
string_has kind c cs s p q b r = absurd (cc)

pub byte_has : (c : ℕ) (cs : List ℕ) → is_plain Byte c ≡ false → eqb c 92 ≡ false
    → Alone Byte c cs (character_flaw_of c)
byte_has c cs p b = zero (eqb c 0) refl
  where
    low : (l : Bool) → ltb c 128 ≡ l → eqb c 39 ≡ false → Alone Byte c cs (cond l MustEscape NotAscii)
    low true e q = (refl, refl, among (eqb c 10) (eqb c 13) (eqb c 9) (rw (e, q, b) at p))
      where
        among : (x y z : Bool) → not (x || y || z) ≡ false → (x || (y || (z || false))) ≡ true
        among true y z h = refl
        among false true z h = refl
        among false false true h = refl
        among false false false h = absurd (cc)
    low false e q = (refl, refl, not_from_false (ltb c 128) e)

    apostrophe : (a : Bool) → eqb c 39 ≡ a → Alone Byte c cs (cond a NoCharacter (cond (ltb c 128) MustEscape NotAscii))
    apostrophe true e = (refl, refl, e)
    apostrophe false e = low (ltb c 128) refl e

    zero : (z : Bool) → eqb c 0 ≡ z → Alone Byte c cs (cond z Nul
        (cond (eqb c 39) NoCharacter (cond (ltb c 128) MustEscape NotAscii)))
    zero true e = let h : true ≡ false = ap (is_plain Byte) (sym (eqb-true c 0 e)) ∙ p in absurd (cc)
    zero false e = apostrophe (eqb c 39) refl

-- ---- the flaw of a character or escape

-- In a string, the text doesn't begin with the closing quote `"`. In a character or byte literal, nothing is required.
abbrev pub IsOpen : Kind → List ℕ → Type 0
IsOpen kind t = is_string kind ≡ true → first_passes (λ c. eqb c 34) t ≡ false
