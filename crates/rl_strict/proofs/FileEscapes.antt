-- Escapes of a literal in a file: the code has equal results for the text as written and for the text with CR LF read as LF.
use Rattle.rl_strict.proofs.Names.{◌≡◌, ℕ, ◌+◌, ◌*◌, Bool, true, false, not, ◌==◌, ◌&&◌, cond, List, [], ◌∷◌, Option, Some, None, refl, sym, ap, subst, ◌∙◌, digit_value, nat_lt, option_and_then, option_map, scalar, ByteStr, CStr, Kind, Str, after_run, allows_code, content_of, allows_unicode_escapes, decodes_to_chars, is_dropped_blank, is_line_end, is_strict_unit, is_string, Itself, may_be_hex, CodeDigits, brace_at, close_at, closed_at, code_digits, code_digits_at, digit_at, after_blanks, escape_at, first_code_digits_at, found, hex_at, named_at, named_in, number_if, unicode_at, escape_rest, unit_rest, CarriageReturn, EmptyBraces, NoBrace, NoHexDigit, NoUnicode, Nul, HexEscapeOutOfRange, TooManyDigits, UnknownEscape, is_dropped, lf_text, strict_escape_flaw_at, strict_unit_flaw_at, FoundFlaw, character_flaw_of, code_flaw_at, code_flaw_of, escape_flaw_at, first_digit_flaw_at, found_flaw, hex_flaw_at, is_code, low_digit_flaw_at, unclosed_flaw_at, unicode_flaw_at}
use Rattle.rl_strict.proofs.FileTextLemmas.{by_first, line_of, when_kept}
use Rattle.rl_strict.proofs.FileSuffixes.{both, lf_flaw}

-- ---- a function applied to the result of another function

then_read : {A B : Type 0} (m : A → A) (n : B → B) (o : Option A) (f g : A → Option B) → ((a : A) → g (m a)
    ≡ option_map n (f a)) → option_and_then g (option_map m o) ≡ option_map n (option_and_then f o)
then_read m n None f g h = refl
then_read m n (Some a) f g h = h a

abbrev pub lf_pair : {A : Type 0} → A × List ℕ → A × List ℕ
lf_pair p = (p.0, lf_text p.1)

abbrev lf_digits : CodeDigits → CodeDigits
lf_digits d = (d.0, d.1, lf_text d.2, lf_text d.3)

if_read : (b : Bool) (n : ℕ) (x : List ℕ) → number_if b n (lf_text x) ≡ option_map lf_pair (number_if b n x)
if_read true n x = refl
if_read false n x = refl

-- ---- the value of an escape

digit_read : (t : List ℕ) → digit_at (lf_text t) ≡ option_map lf_pair (digit_at t)
digit_read t = by_first (λ z r. digit_at r ≡ option_map lf_pair (digit_at z)) refl (λ cs. refl)
    (λ c cs e. both (option_map lf_pair) (nat_lt (digit_value c) 16) (Some (digit_value c, cs)) None
    (Some (digit_value c, lf_text cs)) None refl refl) t

hex_read : (k : Kind) (t : List ℕ) → hex_at k (lf_text t) ≡ option_map lf_pair (hex_at k t)
unfolding hex_at
hex_read k t =
    let low : ℕ → ℕ × List ℕ → Option (ℕ × List ℕ) = λ h q. number_if (may_be_hex k (h * 16 + q.0)) (h * 16 + q.0) q.1 in
    let high : ℕ × List ℕ → Option (ℕ × List ℕ) = λ p. option_and_then (low p.0) (digit_at p.1) in
    ap (option_and_then high) (digit_read t)
    ∙ then_read lf_pair lf_pair (digit_at t) high high (λ p.
    ap (option_and_then (low p.0)) (digit_read p.1)
    ∙ then_read lf_pair lf_pair (digit_at p.1) (low p.0) (low p.0) (λ q.
    if_read (may_be_hex k (p.0 * 16 + q.0)) (p.0 * 16 + q.0) q.1))

digits_read : (t : List ℕ) (v n : ℕ) (last : List ℕ) → code_digits_at v n (lf_text last) (lf_text t)
    ≡ lf_digits (code_digits_at v n last t)
unfolding code_digits_at
digits_read [] v n last = refl
digits_read (c ∷ cs) v n last = go (digits_read cs) (is_dropped c cs) refl
  where
    At : List ℕ → Type 0
    At z = code_digits_at v n (lf_text last) (lf_text z) ≡ lf_digits (code_digits_at v n last z)

    More : Type 0
    More = (w m : ℕ) (x : List ℕ) → code_digits_at w m (lf_text x) (lf_text cs) ≡ lf_digits (code_digits_at w m x cs)

    kept : More → lf_text (c ∷ cs) ≡ c ∷ lf_text cs → code_digits_at v n (lf_text last) (c ∷ lf_text cs)
        ≡ lf_digits (code_digits_at v n last (c ∷ cs))
    kept more e = both lf_digits (nat_lt (digit_value c) 16) _ _ _ _ (both lf_digits (n == 6) _ _ _ _ (ap (code_digits v
        n (lf_text last)) (sym e)) (ap (λ z. code_digits_at (v * 16 + digit_value c) (n + 1) z (lf_text cs)) (sym e) ∙
        more (v * 16 + digit_value c) (n + 1) (c ∷ cs))) (both lf_digits (c == 95) _ _ _ _ (more v n last) (ap
        (code_digits v n (lf_text last)) (sym e)))

    go : More → (b : Bool) → is_dropped c cs ≡ b → At (c ∷ cs)
    go more true h = let found = line_of c cs h in subst At (sym found.1) refl
    go more false h = ap (code_digits_at v n (lf_text last)) (when_kept c cs h) ∙ kept more (when_kept c cs h)

first_digits_read : (t : List ℕ) → first_code_digits_at (lf_text t) ≡ option_map lf_digits (first_code_digits_at t)
first_digits_read t =
    let of : List ℕ → ℕ × List ℕ → Option CodeDigits = λ z p. Some (code_digits_at p.0 1 z p.1) in
    ap (option_and_then (of (lf_text t))) (digit_read t)
    ∙ then_read lf_pair lf_digits (digit_at t) (of t) (of (lf_text t)) (λ p. ap Some (digits_read p.1 p.0 1 t))

close_read : (t : List ℕ) → close_at (lf_text t) ≡ option_map lf_text (close_at t)
close_read t = by_first (λ z r. close_at r ≡ option_map lf_text (close_at z)) refl (λ cs. refl)
    (λ c cs e. both (option_map lf_text) (c == 125) (Some cs) None (Some (lf_text cs)) None refl refl) t

closed_read : (d : CodeDigits) → closed_at (lf_digits d) ≡ option_map lf_pair (closed_at d)
closed_read (v, n, last, rest) =
    let of : List ℕ → Option (ℕ × List ℕ) = number_if (scalar v) v in
    ap (option_and_then of) (close_read rest)
    ∙ then_read lf_text lf_pair (close_at rest) of of (λ z. if_read (scalar v) v z)

brace_read : (t : List ℕ) → brace_at (lf_text t) ≡ option_map lf_text (brace_at t)
brace_read t = by_first (λ z r. brace_at r ≡ option_map lf_text (brace_at z)) refl (λ cs. refl)
    (λ c cs e. both (option_map lf_text) (c == 123) (Some cs) None (Some (lf_text cs)) None refl refl) t

unicode_read : (k : Kind) (t : List ℕ) → unicode_at k (lf_text t) ≡ option_map lf_pair (unicode_at k t)
unfolding unicode_at
unicode_read k t =
    let coded : ℕ × List ℕ → Option (ℕ × List ℕ) = λ w. number_if (allows_unicode_escapes k && allows_code k w.0) w.0 w.1 in
    let closed : CodeDigits → Option (ℕ × List ℕ) = λ d. option_and_then coded (closed_at d) in
    let opened : List ℕ → Option (ℕ × List ℕ) = λ z. option_and_then closed (first_code_digits_at z) in
    ap (option_and_then opened) (brace_read t)
    ∙ then_read lf_text lf_pair (brace_at t) opened opened (λ z.
    ap (option_and_then closed) (first_digits_read z)
    ∙ then_read lf_digits lf_pair (first_code_digits_at z) closed closed (λ d.
    ap (option_and_then coded) (closed_read d)
    ∙ then_read lf_pair lf_pair (closed_at d) coded coded (λ w. if_read (allows_unicode_escapes k && allows_code k w.0) w.0 w.1)))

-- An escape that isn't an escaped line end has the same value in the text as written and in the text with CR LF read as LF.
-- The escape ends at the same position in both texts.
pub escape_read : (k : Kind) (c : ℕ) (cs : List ℕ) → is_line_end c ≡ false → escape_at k (c ∷ lf_text cs)
    ≡ option_map lf_pair (escape_at k (c ∷ cs))
unfolding escape_at
escape_read k c cs h =
    both (option_map lf_pair) (c == 120) _ _ _ _ byte
    (both (option_map lf_pair) (c == 117) _ _ _ _ character
    (ap (λ b. cond {A = Out} b (line (lf_text cs)) (named_at k c (lf_text cs))) h ∙ named (named_in k c)
    ∙ sym (ap (λ b. option_map lf_pair (cond {A = Out} b (line cs) (named_at k c cs))) h)))
  where
    Out : Type 0
    Out = Option (List ℕ × List ℕ)

    line : List ℕ → Out
    line z = cond (is_string k) (found [] (after_blanks z)) None

    one : ℕ × List ℕ → Out
    one p = found (p.0 ∷ []) p.1

    held : ℕ × List ℕ → Out
    held p = found (content_of k (p.0 ∷ [])) p.1

    byte : option_and_then one (hex_at k (lf_text cs)) ≡ option_map lf_pair (option_and_then one (hex_at k cs))
    byte = ap (option_and_then one) (hex_read k cs) ∙ then_read lf_pair lf_pair (hex_at k cs) one one (λ p. refl)

    character : option_and_then held (unicode_at k (lf_text cs))
        ≡ option_map lf_pair (option_and_then held (unicode_at k cs))
    character = ap (option_and_then held) (unicode_read k cs)
        ∙ then_read lf_pair lf_pair (unicode_at k cs) held held (λ p. refl)

    named : (o : Option ℕ) → option_and_then (λ n. found (n ∷ []) (lf_text cs)) o
        ≡ option_map lf_pair (option_and_then (λ n. found (n ∷ []) cs) o)
    named None = refl
    named (Some n) = refl

-- ---- the flaw of an invalid escape doesn't change if CR LF is read as LF

low_read : (t : List ℕ) → low_digit_flaw_at (lf_text t) ≡ lf_flaw (low_digit_flaw_at t)
low_read t = by_first (λ z r. low_digit_flaw_at r ≡ lf_flaw (low_digit_flaw_at z)) refl (λ cs. refl) (λ c cs e. both
    lf_flaw (nat_lt (digit_value c) 16) _ _ _ _ (ap (found_flaw Nul) (sym e)) (ap (found_flaw NoHexDigit) (sym e))) t

hex_flaw_read : (k : Kind) (t : List ℕ) → hex_flaw_at k (lf_text t) ≡ lf_flaw (hex_flaw_at k t)
unfolding hex_flaw_at
hex_flaw_read k t = by_first (λ z r. hex_flaw_at k r ≡ lf_flaw (hex_flaw_at k z)) refl (λ cs. refl) (λ c cs e. both
    lf_flaw (nat_lt (digit_value c) 16) _ _ _ _ (both lf_flaw (decodes_to_chars k && nat_lt 7 (digit_value c)) _ _ _ _
    (ap (found_flaw HexEscapeOutOfRange) (sym e)) (low_read cs)) (ap (found_flaw NoHexDigit) (sym e))) t

unclosed_read : (v : ℕ) (t : List ℕ) → unclosed_flaw_at v (lf_text t) ≡ lf_flaw (unclosed_flaw_at v t)
unclosed_read v t = by_first (λ z r. unclosed_flaw_at v r ≡ lf_flaw (unclosed_flaw_at v z)) refl (λ cs. refl) (λ c cs e.
    both lf_flaw (c == 125) _ _ _ _ (ap (found_flaw (code_flaw_of v)) (sym e)) (both lf_flaw (nat_lt (digit_value c) 16)
    _ _ _ _ (ap (found_flaw TooManyDigits) (sym e)) (ap (found_flaw NoHexDigit) (sym e)))) t

code_read : (k : Kind) (d : CodeDigits) → code_flaw_at k (lf_digits d) ≡ lf_flaw (code_flaw_at k d)
code_read k (v, n, last, rest) = both lf_flaw (n == 6 && not (is_code k v)) _ _ _ _ refl (unclosed_read v rest)

first_digit_read : (k : Kind) (t : List ℕ) → first_digit_flaw_at k (lf_text t) ≡ lf_flaw (first_digit_flaw_at k t)
unfolding first_digit_flaw_at
first_digit_read k t = by_first (λ z r. first_digit_flaw_at k r ≡ lf_flaw (first_digit_flaw_at k z)) refl (λ cs. refl)
    (λ c cs e. both lf_flaw (nat_lt (digit_value c) 16) _ _ _ _ (ap (λ z. code_flaw_at k (code_digits_at (digit_value c)
    1 z (lf_text cs))) (sym e) ∙ ap (code_flaw_at k) (digits_read cs (digit_value c) 1 (c ∷ cs)) ∙ code_read k
    (code_digits_at (digit_value c) 1 (c ∷ cs) cs)) (both lf_flaw (c == 125) _ _ _ _ (ap (found_flaw EmptyBraces) (sym
    e)) (ap (found_flaw NoHexDigit) (sym e)))) t

unicode_flaw_read : (k : Kind) (t : List ℕ) → unicode_flaw_at k (lf_text t) ≡ lf_flaw (unicode_flaw_at k t)
unfolding unicode_flaw_at
unicode_flaw_read k t = by_first (λ z r. unicode_flaw_at k r ≡ lf_flaw (unicode_flaw_at k z)) refl (λ cs. refl)
    (λ c cs e. both lf_flaw (c == 123) _ _ _ _ (first_digit_read k cs) (ap (found_flaw NoBrace) (sym e))) t

escape_flaw_read : (k : Kind) (t : List ℕ) → escape_flaw_at k (lf_text t) ≡ lf_flaw (escape_flaw_at k t)
unfolding escape_flaw_at
escape_flaw_read k t = by_first (λ z r. escape_flaw_at k r ≡ lf_flaw (escape_flaw_at k z)) refl (λ cs. refl) (λ c cs e.
    both lf_flaw (c == 120) _ _ _ _ (hex_flaw_read k cs) (both lf_flaw (c == 117) _ _ _ _ (both lf_flaw (allows_unicode_escapes k)
    _ _ _ _ (unicode_flaw_read k cs) (ap (found_flaw NoUnicode) (sym e))) (both lf_flaw (c == 48) _ _ _ _ (ap
    (found_flaw Nul) (sym e)) (ap (found_flaw UnknownEscape) (sym e))))) t

-- The flaw of an invalid escape doesn't change if CR LF is read as LF in the text after the backslash. In a string, the
-- escape must also be invalid after CR LF is read as LF.
strict_escape_read : (k : Kind) (t : List ℕ) → (is_string k ≡ true → escape_rest k (lf_text t) ≡ None)
    → strict_escape_flaw_at k (lf_text t) ≡ lf_flaw (strict_escape_flaw_at k t)
unfolding strict_escape_flaw_at escape_flaw_at
strict_escape_read k t none = by_first (λ z r. (is_string k ≡ true → escape_rest k r ≡ None) → strict_escape_flaw_at k r
    ≡ lf_flaw (strict_escape_flaw_at k z)) (λ h. refl) line kept t none
  where
    line : (cs : List ℕ) → (is_string k ≡ true → escape_rest k (10 ∷ lf_text cs) ≡ None)
        → strict_escape_flaw_at k (10 ∷ lf_text cs) ≡ lf_flaw (strict_escape_flaw_at k (13 ∷ 10 ∷ cs))
    line cs h = go (is_string k) refl
      where
        go : (b : Bool) → is_string k ≡ b → found_flaw UnknownEscape (10 ∷ lf_text cs)
            ≡ lf_flaw (cond b (found_flaw CarriageReturn (13 ∷ 10 ∷ cs)) (found_flaw UnknownEscape (13 ∷ 10 ∷ cs)))
        go true s =
            let some : Some (after_run is_dropped_blank (lf_text cs)) ≡ None =
            sym (ap (λ b. cond {A = Option (List ℕ)} b (Some (after_run is_dropped_blank (lf_text cs))) None) s) ∙ h s in
            absurd (cc)
        go false s = refl

    kept : (c : ℕ) (cs : List ℕ) → lf_text (c ∷ cs) ≡ c ∷ lf_text cs → (is_string k ≡ true → escape_rest k (c ∷ lf_text
        cs) ≡ None) → strict_escape_flaw_at k (c ∷ lf_text cs) ≡ lf_flaw (strict_escape_flaw_at k (c ∷ cs))
    kept c cs e h = both lf_flaw (c == 13 && is_string k) _ _ _ _ (ap (found_flaw CarriageReturn) (sym e))
        (ap (escape_flaw_at k) (sym e) ∙ escape_flaw_read k (c ∷ cs))

pub unit_flaw_read : (k : Kind) (t : List ℕ) → (is_string k ≡ true → unit_rest k (lf_text t) ≡ None)
    → strict_unit_flaw_at k (lf_text t) ≡ lf_flaw (strict_unit_flaw_at k t)
unfolding strict_unit_flaw_at unit_rest
unit_flaw_read k t none = by_first (λ z r. (is_string k ≡ true → unit_rest k r ≡ None) → strict_unit_flaw_at k r
    ≡ lf_flaw (strict_unit_flaw_at k z)) (λ h. refl) line kept t none
  where
    feed : (k : Kind) (cs : List ℕ) → is_string k ≡ true → unit_rest k (10 ∷ cs) ≡ None → ⊥
    feed Str cs s h = absurd (cc)
    feed ByteStr cs s h = absurd (cc)
    feed CStr cs s h = absurd (cc)
    feed k cs s h = absurd (cc)

    line : (cs : List ℕ) → (is_string k ≡ true → unit_rest k (10 ∷ lf_text cs) ≡ None)
        → strict_unit_flaw_at k (10 ∷ lf_text cs) ≡ lf_flaw (strict_unit_flaw_at k (13 ∷ 10 ∷ cs))
    line cs h = go (is_string k) refl
      where
        go : (b : Bool) → is_string k ≡ b → found_flaw (character_flaw_of 10) (10 ∷ lf_text cs) ≡ lf_flaw (cond b
            (found_flaw CarriageReturn (13 ∷ 10 ∷ cs)) (found_flaw (character_flaw_of 13) (13 ∷ 10 ∷ cs)))
        go true s = absurd (feed k (lf_text cs) s (h s))
        go false s = refl

    kept : (c : ℕ) (cs : List ℕ) → lf_text (c ∷ cs) ≡ c ∷ lf_text cs → (is_string k ≡ true → unit_rest k (c ∷ lf_text
        cs) ≡ None) → strict_unit_flaw_at k (c ∷ lf_text cs) ≡ lf_flaw (strict_unit_flaw_at k (c ∷ cs))
    kept c cs e h = go (c == 92) refl
      where
        bare : List ℕ → Option (List ℕ)
        bare z = cond (is_strict_unit k (Itself c)) (Some z) None

        other : List ℕ → FoundFlaw
        other z = cond (c == 13 && is_string k) (found_flaw CarriageReturn z) (found_flaw (character_flaw_of c) z)

        go : (b : Bool) → (c == 92) ≡ b → cond b (strict_escape_flaw_at k (lf_text cs)) (other (c ∷ lf_text cs))
            ≡ lf_flaw (cond b (strict_escape_flaw_at k cs) (other (c ∷ cs)))
        go true a = strict_escape_read k cs (λ s. sym (ap (λ b. cond b (escape_rest k (lf_text cs)) (bare (lf_text cs))) a)
            ∙ h s)
        go false a = both lf_flaw (c == 13 && is_string k) _ _ _ _ (ap (found_flaw CarriageReturn) (sym e))
            (ap (found_flaw (character_flaw_of c)) (sym e))
