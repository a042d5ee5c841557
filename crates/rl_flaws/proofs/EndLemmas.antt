-- The code finds the end of an invalid character or escape step by step. The invalid piece isn't empty.
use Rattle.rl_flaws.proofs.Names.{◌≡◌, ◌≢◌, ◌≤◌, ◌<◌, ◌==◌, ◌||◌, ℕ, Bool, true, false, List, [], ◌∷◌, ◌++◌, length, length-append, refl, sym, ap, ◌∙◌, arith, cond, both_ways, chars, is_hex_digit, IsTail, is_underscore, is_some_text, read_of, LineEnds, some_text_of, after_bad_piece, after_brace, after_code_digits, after_escape, after_hex, after_one, after_unicode}

-- ---- the digits of an invalid escape

pub digits_on : (q : ℕ) (t : List ℕ) (c : ℕ) (cs : List ℕ) → t ≡ c ∷ cs → (is_hex_digit c || is_underscore c) ≡ true
    → after_code_digits q cs ≡ after_code_digits q t
unfolding after_code_digits
digits_on q t c cs e h = sym (ap (after_code_digits q) e ∙ ap
    (λ b. cond b (after_code_digits q cs) (after_one q (c ∷ cs))) h)

pub digits_halt : (q : ℕ) (t : List ℕ) (c : ℕ) (cs : List ℕ) → t ≡ c ∷ cs → (is_hex_digit c || is_underscore c) ≡ false
    → after_one q t ≡ after_code_digits q t
unfolding after_code_digits
digits_halt q t c cs e h = ap (after_one q) e
    ∙ sym (ap (after_code_digits q) e ∙ ap (λ b. cond b (after_code_digits q cs) (after_one q (c ∷ cs))) h)

pub digits_end : (q : ℕ) (t : List ℕ) → t ≡ [] → t ≡ after_code_digits q t
unfolding after_code_digits
digits_end q t e = e ∙ sym (ap (after_code_digits q) e)

-- ---- the text after an invalid piece is shorter than the text that begins with this piece

of_either : (b : Bool) (n : ℕ) (x y : List ℕ) → length x ≤ n → length y ≤ n → length (cond b x y) ≤ n
of_either true n x y p q = p
of_either false n x y p q = q

one_fits : (q : ℕ) (t : List ℕ) → length (after_one q t) ≤ length t
one_fits q [] = omega arith
one_fits q (c ∷ cs) = of_either (c == 92 || c == q) (length (c ∷ cs)) (c ∷ cs) cs (omega arith) (omega arith)

hex_fits : (q : ℕ) (t : List ℕ) → length (after_hex q t) ≤ length t
hex_fits q [] = omega arith
hex_fits q (c ∷ cs) = of_either (is_hex_digit c) (length (c ∷ cs)) (after_one q cs) (after_one q (c ∷ cs))
    (omega (arith, one_fits q cs)) (one_fits q (c ∷ cs))

digits_fit : (q : ℕ) (t : List ℕ) → length (after_code_digits q t) ≤ length t
unfolding after_code_digits
digits_fit q [] = omega arith
digits_fit q (c ∷ cs) = of_either (is_hex_digit c || is_underscore c) (length (c ∷ cs)) (after_code_digits q cs)
    (after_one q (c ∷ cs)) (omega (arith, digits_fit q cs)) (one_fits q (c ∷ cs))

brace_fits : (q : ℕ) (t : List ℕ) → length (after_brace q t) ≤ length t
brace_fits q [] = omega arith
brace_fits q (c ∷ cs) = of_either (is_hex_digit c) (length (c ∷ cs)) (after_code_digits q cs) (after_one q (c ∷ cs))
    (omega (arith, digits_fit q cs)) (one_fits q (c ∷ cs))

unicode_fits : (q : ℕ) (t : List ℕ) → length (after_unicode q t) ≤ length t
unicode_fits q [] = omega arith
unicode_fits q (c ∷ cs) = of_either (c == 123) (length (c ∷ cs)) (after_brace q cs) (after_one q (c ∷ cs))
    (omega (arith, brace_fits q cs)) (one_fits q (c ∷ cs))

escape_fits : (q : ℕ) (t : List ℕ) → length (after_escape q t) ≤ length t
escape_fits q [] = omega arith
escape_fits q (c ∷ cs) = of_either (c == 120) (length (c ∷ cs)) (after_hex q cs)
    (cond (c == 117) (after_unicode q cs) cs) (omega (arith, hex_fits q cs))
    (of_either (c == 117) (length (c ∷ cs)) (after_unicode q cs) cs (omega (arith, unicode_fits q cs)) (omega arith))

piece_shorter : (q c : ℕ) (cs : List ℕ) → length (after_bad_piece q (c ∷ cs)) ≤ length cs
piece_shorter q c cs = of_either (c == 92) (length cs) (after_escape q cs) cs (escape_fits q cs) (omega arith)

never_same : (q : ℕ) (t : List ℕ) → t ≢ [] → t ≡ after_bad_piece q t → ⊥
never_same q [] some e = some refl
never_same q (c ∷ cs) some e = omega (arith, ap length e, piece_shorter q c cs)

some_read : (how : LineEnds) (t : List ℕ) → t ≢ [] → read_of how t ≢ []
some_read how [] some none = some refl
some_read how (c ∷ cs) some none = both_ways true (sym (some_text_of how (c ∷ cs)) ∙ ap is_some_text none) refl

pub less_after : (how : LineEnds) (q : ℕ) (piece rest : List ℕ) → chars piece ≢ [] → read_of how (chars rest) ≡
    after_bad_piece q (read_of how (chars piece)) → IsTail piece rest → length rest < length piece
less_after how q piece rest some reads tail = go tail.front tail.text_is
  where
    go : (front : List ℕ) → piece ≡ front ++ rest → length rest < length piece
    go [] same = absurd (never_same q (read_of how (chars piece)) (some_read how (chars piece) some)
        (ap (λ (z : List ℕ). read_of how (chars z)) same ∙ reads))
    go (b ∷ bs) same = omega (arith, ap length same ∙ length-append (b ∷ bs) rest)
