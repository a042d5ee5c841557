-- A character or escape of a quoted literal has at most one kind of flaw at each position.
use Rattle.rl_strict.proofs.Names.{◌≡◌, ℕ, ◌+◌, ◌*◌, ◌||◌, ◌&&◌, Bool, true, false, not, cond, eqb, ltb, List, [], ◌∷◌, ◌++◌, None, refl, sym, ap, subst, ◌∙◌, arith, digit_value, list_all, and_parts, eqb-true, lt-ltb, ne_eqb, not-true, or_parts, le-ltb, Kind, first_passes, is_underscore, is_hex_digit, apart, is_among, FlawKind, Unclosed, UnknownEscape, NoUnicode, NoHexDigit, NoBrace, EmptyBraces, TooManyDigits, HexEscapeOutOfRange, UnicodeEscapeOutOfRange, Surrogate, Nul, NotAscii, MustEscape, NoCharacter, IsBraced, digit_count, number_of, FirstDigit, SecondDigit, AfterBrace, AfterDigits, IsNoCode, HasNoCode, AtBrace, AtSixth, AsItIs, ByLetter, ByDigits, ByNumber, UnitFlaw, escape_at, hex_at, unit_at, unicode_at, character_flaw_of, code_flaw_of, unit_nil, unicode_digits_at, unicode_is}
use Rattle.rl_lenient.proofs.Names.{Zero}

-- ---- the kind of flaw, by the text before the flaw and the character at the flaw

-- The kind of flaw in a `\u{..}` escape. The arguments are the digits before the flaw, and the character at the flaw.
abbrev pub digits_flaw : List ℕ → ℕ → FlawKind
digits_flaw ds c = cond (is_hex_digit c) (cond (eqb (digit_count ds) 6) TooManyDigits
    (code_flaw_of (number_of (ds ++ (c ∷ []))))) (cond (eqb c 125) (code_flaw_of (number_of ds)) NoHexDigit)

-- The kind of flaw in a character or escape. The arguments are the text from the beginning of the character or escape to the
-- flaw, and the character at the flaw.
abbrev pub flaw_of : List ℕ → ℕ → FlawKind
flaw_of [] c = character_flaw_of c
flaw_of (a ∷ []) c = cond (eqb c 117) NoUnicode (cond (eqb c 48) Nul UnknownEscape)
flaw_of (a ∷ b ∷ []) c = cond (eqb b 120) (cond (is_hex_digit c) HexEscapeOutOfRange NoHexDigit) NoBrace
flaw_of (a ∷ b ∷ d ∷ []) c = cond (eqb b 120) (cond (is_hex_digit c) Nul NoHexDigit)
    (cond (eqb c 125) EmptyBraces NoHexDigit)
flaw_of (a ∷ b ∷ d ∷ e ∷ ds) c = digits_flaw (e ∷ ds) c

-- `front` is the text from the beginning of a character or escape to the flaw. `front` isn't a complete character or escape.
-- `front` and the character `c` at the flaw determine the kind of flaw.
pub record Spoils (kind : Kind) (k : FlawKind) (t : List ℕ) (c : ℕ) (cs : List ℕ) : Type 0 where
  pub front : List ℕ
  pub text_is : t ≡ front ++ (c ∷ cs)
  pub no_unit : unit_at kind front ≡ None
  pub kind_is : k ≡ flaw_of front c

-- ---- incomplete characters and escapes

-- A backslash alone isn't an escape.
no_escape : (kind : Kind) → unit_at kind (92 ∷ []) ≡ None
unfolding unit_at escape_at
no_escape kind = refl

-- `\x` without digits isn't an escape.
no_hex : (kind : Kind) → unit_at kind (92 ∷ 120 ∷ []) ≡ None
unfolding unit_at escape_at hex_at
no_hex kind = refl

-- `\x` with one digit isn't an escape.
no_low : (kind : Kind) (high : ℕ) → is_hex_digit high ≡ true → unit_at kind (92 ∷ 120 ∷ high ∷ []) ≡ None
unfolding unit_at escape_at hex_at
no_low kind high h = rw h refl

-- `\u` without a brace isn't an escape.
no_brace : (kind : Kind) → unit_at kind (92 ∷ 117 ∷ []) ≡ None
unfolding unit_at escape_at unicode_at
no_brace kind = refl

-- `\u{` without digits isn't an escape.
no_digit : (kind : Kind) → unit_at kind (92 ∷ 117 ∷ 123 ∷ []) ≡ None
unfolding unit_at escape_at unicode_at
no_digit kind = refl

-- A character that may occur between the braces of `\u{..}`.
abbrev is_part : ℕ → Bool
is_part c = is_underscore c || is_hex_digit c

-- The parser of the digits after `\u{` fails if the text ends before a closing brace.
not_closed : (v n : ℕ) (ds : List ℕ) → list_all is_part ds ≡ true → unicode_digits_at v n ds ≡ None
unfolding unicode_digits_at
not_closed v n [] h = refl
not_closed v n (c ∷ cs) h =
    let p = and_parts (is_part c) (list_all is_part cs) h in
    rw (apart is_part c 125 p.0 refl) (go (eqb c 95) (ltb (digit_value c) 16 && ltb n 6) (not_closed v n cs p.1)
    (not_closed (v * 16 + digit_value c) (n + 1) cs p.1))
  where
    go : (a b : Bool) → unicode_digits_at v n cs ≡ None → unicode_digits_at (v * 16 + digit_value c) (n + 1) cs ≡ None
        → cond a (unicode_digits_at v n cs) (cond b (unicode_digits_at (v * 16 + digit_value c) (n + 1) cs) None) ≡ None
    go true b h k = h
    go false true h k = k
    go false false h k = refl

-- `\u{` and digits without the closing brace aren't an escape.
no_end : (kind : Kind) (ds : List ℕ) → first_passes is_hex_digit ds ≡ true → list_all is_part ds ≡ true
    → unit_at kind (92 ∷ 117 ∷ 123 ∷ ds) ≡ None
unfolding unit_at escape_at
no_end kind [] first each = absurd (cc)
no_end kind (c ∷ cs) first each =
    let p = and_parts (is_part c) (list_all is_part cs) each in
    rw (unicode_is kind (123 ∷ c ∷ cs), first, not_closed (digit_value c) 1 cs p.1) refl

-- ---- the flaws of a character or escape, kind by kind

-- `code_flaw_of` returns the reason why a literal can't contain the character with the code point `n`.
code_of : (kind : Kind) (k : FlawKind) (n : ℕ) → IsNoCode kind k n → k ≡ code_flaw_of n
code_of kind UnicodeEscapeOutOfRange n h = rw (lt-ltb 1114111 n h) refl
code_of kind Surrogate n h = rw (
  le-ltb 1114111 n (let high = h.1 in omega arith),
  ne_eqb n 0
      (λ e. let low = h.0 in omega (arith, e)),
) refl
code_of kind Nul n h = ap code_flaw_of (sym h.1)
code_of kind k n h = absurd h

-- Suppose that `digits_flaw` returns the kind of a flaw after `\u{` and digits. Then the text before the flaw isn't a
-- complete escape. The text before the flaw and the character at the flaw determine the kind of flaw.
after_digits_spoils : (kind : Kind) (k : FlawKind) (t ds : List ℕ) (c : ℕ) (cs : List ℕ) → IsBraced ds t (c ∷ cs) → k
    ≡ digits_flaw ds c → Spoils kind k t c cs
after_digits_spoils kind k t [] c cs b is = let h = b.begins in absurd (cc)
after_digits_spoils kind k t (d ∷ ds) c cs b is = record { front = 92 ∷ 117 ∷ 123 ∷ d ∷ ds; text_is = b.text_is; no_unit = no_end kind (d ∷ ds) b.begins b.each; kind_is = is }

-- If the code point of a `\u{..}` escape isn't allowed, the text before the flaw and the character at the flaw determine the
-- kind of flaw.
code_spoils : (kind : Kind) (k : FlawKind) (t : List ℕ) (c : ℕ) (cs : List ℕ) → HasNoCode kind k t (c ∷ cs)
    → Spoils kind k t c cs
code_spoils kind k t c cs (AtBrace ds b few brace is) =
    let same = eqb-true c 125 brace in
    after_digits_spoils kind k t ds c cs b (subst (λ z. k ≡ digits_flaw ds z) (sym same)
    (code_of kind k (number_of ds) is))
code_spoils kind k t c cs (AtSixth ds sixth after b five rest digit is) =
    let same : c ≡ sixth = cc in
    let count : eqb (digit_count ds) 6 ≡ false = ap (λ n. eqb n 6) five in
    after_digits_spoils kind k t ds c cs b (subst (λ z. k ≡ digits_flaw ds z) (sym same)
    (rw (digit, count) (code_of kind k (number_of (ds ++ (sixth ∷ []))) is)))

-- If a C string contains a NUL, the text before the flaw and the character at the flaw determine the kind of flaw, `Nul`.
nul_spoils : (kind : Kind) (t : List ℕ) (c : ℕ) (cs : List ℕ) → UnitFlaw kind Nul t (c ∷ cs) → Spoils kind Nul t c cs
nul_spoils kind t c cs (k, AsItIs e zero) = record { front = []; text_is = e; no_unit = unit_nil kind; kind_is = rw zero refl }
nul_spoils kind t c cs (k, ByLetter e zero) = record { front = 92 ∷ []; text_is = e; no_unit = no_escape kind; kind_is = ap (flaw_of (92 ∷ [])) (sym (eqb-true c 48 zero)) }
nul_spoils kind t c cs (k, ByDigits high low after e rest h l zero) =
    let same : c ≡ low = cc in
    let digit : is_hex_digit c ≡ true = ap is_hex_digit same ∙ l in
    record { front = 92 ∷ 120 ∷ high ∷ []; text_is = e; no_unit = no_low kind high h; kind_is = rw digit refl }
nul_spoils kind t c cs (k, ByNumber n) = code_spoils kind Nul t c cs n

-- If an escape lacks a hexadecimal digit, the text before the flaw and the character at the flaw determine the kind of flaw,
-- `NoHexDigit`.
digit_spoils : (kind : Kind) (t : List ℕ) (c : ℕ) (cs : List ℕ) → UnitFlaw kind NoHexDigit t (c ∷ cs)
    → Spoils kind NoHexDigit t c cs
digit_spoils kind t c cs (FirstDigit e h) = record { front = 92 ∷ 120 ∷ []; text_is = e; no_unit = no_hex kind; kind_is = rw (not-true (is_hex_digit c) h) refl }
digit_spoils kind t c cs (SecondDigit high d e h) = record { front = 92 ∷ 120 ∷ high ∷ []; text_is = e; no_unit = no_low kind high d; kind_is = rw (not-true (is_hex_digit c) h) refl }
digit_spoils kind t c cs (AfterBrace e h) =
    let p = or_parts (is_hex_digit c) (eqb c 125) (not-true (is_hex_digit c || eqb c 125) h) in
    record { front = 92 ∷ 117 ∷ 123 ∷ []; text_is = e; no_unit = no_digit kind; kind_is = rw p.1 refl }
digit_spoils kind t c cs (AfterDigits ds b h) =
    let p = or_parts (is_hex_digit c || eqb c 125) (eqb c 95) (not-true (is_hex_digit c || eqb c 125 || eqb c 95) h) in
    let q = or_parts (is_hex_digit c) (eqb c 125) p.0 in
    after_digits_spoils kind NoHexDigit t ds c cs b (rw (q.0, q.1) refl)

-- For an unescaped LF, CR or tab, the code returns the kind of flaw `MustEscape`.
pub must_escape : (c : ℕ) → is_among (10 ∷ 13 ∷ 9 ∷ []) c ≡ true → MustEscape ≡ character_flaw_of c
must_escape c h = go (eqb c 10) (eqb c 13) (eqb c 9) refl refl refl h
  where
    at : (k : ℕ) → eqb c k ≡ true → MustEscape ≡ character_flaw_of k → MustEscape ≡ character_flaw_of c
    at k e h = h ∙ ap character_flaw_of (sym (eqb-true c k e))

    go : (x y z : Bool) → eqb c 10 ≡ x → eqb c 13 ≡ y → eqb c 9 ≡ z → (x || (y || (z || false))) ≡ true → MustEscape
        ≡ character_flaw_of c
    go true y z a b d h = at 10 a refl
    go false true z a b d h = at 13 b refl
    go false false true a b d h = at 9 d refl
    go false false false a b d h = absurd (cc)

-- For an unescaped non-ASCII character, the code returns the kind of flaw `NotAscii`.
not_ascii : (c : ℕ) → not (ltb c 128) ≡ true → NotAscii ≡ character_flaw_of c
not_ascii c h = rw (
  apart (λ x. not (ltb x 128)) c 0 h refl,
  apart (λ x. not (ltb x 128)) c 39 h refl,
  not-true
      (ltb c 128) h,
) refl

-- If a flaw is at a character, the text before the flaw and this character determine the kind of flaw.
pub spoils : (kind : Kind) (k : FlawKind) (t : List ℕ) (c : ℕ) (cs : List ℕ) → UnitFlaw kind k t (c ∷ cs)
    → Spoils kind k t c cs
spoils kind Unclosed t c cs h = absurd (cc)
spoils kind UnknownEscape t c cs (e, b) =
    let same : c ≡ b.first = let r = b.rest_is in cc in
    let at : UnknownEscape ≡ flaw_of (92 ∷ []) b.first = rw (
      ne_eqb b.first 117 b.no_u,
      ne_eqb b.first 48
          (b.no_letter Zero),
    ) refl in
    record { front = 92 ∷ []; text_is = e; no_unit = no_escape kind; kind_is = at ∙ ap (flaw_of (92 ∷ [])) (sym same) }
spoils kind NoUnicode t c cs (u, e, b) = record { front = 92 ∷ []; text_is = e; no_unit = no_escape kind; kind_is = rw b refl }
spoils kind NoHexDigit t c cs h = digit_spoils kind t c cs h
spoils kind NoBrace t c cs (e, b) = record { front = 92 ∷ 117 ∷ []; text_is = e; no_unit = no_brace kind; kind_is = refl }
spoils kind EmptyBraces t c cs (e, b) = record { front = 92 ∷ 117 ∷ 123 ∷ []; text_is = e; no_unit = no_digit kind; kind_is = rw b refl }
spoils kind TooManyDigits t c cs (ds, b, six, h) =
    let count : eqb (digit_count ds) 6 ≡ true = ap (λ n. eqb n 6) six in
    after_digits_spoils kind TooManyDigits t ds c cs b (rw (h, count) refl)
spoils kind HexEscapeOutOfRange t c cs (u, e, b) = record { front = 92 ∷ 120 ∷ []; text_is = e; no_unit = no_hex kind; kind_is = rw (and_parts (is_hex_digit c) (ltb 7 (digit_value c)) b).0 refl }
spoils kind UnicodeEscapeOutOfRange t c cs h = code_spoils kind UnicodeEscapeOutOfRange t c cs h
spoils kind Surrogate t c cs h = code_spoils kind Surrogate t c cs h
spoils kind Nul t c cs h = nul_spoils kind t c cs h
spoils kind NotAscii t c cs (u, e, b) = record { front = []; text_is = e; no_unit = unit_nil kind; kind_is = not_ascii c b }
spoils kind MustEscape t c cs (k, e, b) = record { front = []; text_is = e; no_unit = unit_nil kind; kind_is = must_escape c b }
spoils kind NoCharacter t c cs (k, e, b) = record { front = []; text_is = e; no_unit = unit_nil kind; kind_is = ap character_flaw_of (sym (eqb-true c 39 b)) }
spoils kind k t c cs h = absurd h

-- If the text ends before a character or escape is complete, the kind of flaw is the missing closing quote, `Unclosed`.
pub at_end : (kind : Kind) (k : FlawKind) (t : List ℕ) → UnitFlaw kind k t [] → k ≡ Unclosed
at_end kind Unclosed t h = refl
at_end kind UnknownEscape t (e, b) = let r = b.rest_is in absurd (cc)
at_end kind NoUnicode t (u, e, b) = absurd (cc)
at_end kind NoHexDigit t (FirstDigit e b) = absurd (cc)
at_end kind NoHexDigit t (SecondDigit high d e b) = absurd (cc)
at_end kind NoHexDigit t (AfterBrace e b) = absurd (cc)
at_end kind NoHexDigit t (AfterDigits ds d b) = absurd (cc)
at_end kind NoBrace t (e, b) = absurd (cc)
at_end kind EmptyBraces t (e, b) = absurd (cc)
at_end kind TooManyDigits t (ds, d, six, b) = absurd (cc)
at_end kind HexEscapeOutOfRange t (u, e, b) = absurd (cc)
at_end kind UnicodeEscapeOutOfRange t (AtBrace ds d few b is) = absurd (cc)
at_end kind UnicodeEscapeOutOfRange t (AtSixth ds sixth after d five b digit is) = absurd (cc)
at_end kind Surrogate t (AtBrace ds d few b is) = absurd (cc)
at_end kind Surrogate t (AtSixth ds sixth after d five b digit is) = absurd (cc)
at_end kind Nul t (k, AsItIs e b) = absurd (cc)
at_end kind Nul t (k, ByLetter e b) = absurd (cc)
at_end kind Nul t (k, ByDigits high low after e b h l zero) = absurd (cc)
at_end kind Nul t (k, ByNumber (AtBrace ds d few b is)) = absurd (cc)
at_end kind Nul t (k, ByNumber (AtSixth ds sixth after d five b digit is)) = absurd (cc)
at_end kind NotAscii t (u, e, b) = absurd (cc)
at_end kind MustEscape t (k, e, b) = absurd (cc)
at_end kind NoCharacter t (k, e, b) = absurd (cc)
at_end kind k t h = absurd h
