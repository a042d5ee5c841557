-- The old and the new text begin alike up to a literal's first character. Each of the lexer's tests has equal results for
-- both texts.
use Rattle.rl_syntax.proofs.Common.{◌≡◌, ℕ, ◌<◌, Bool, true, false, not, ◌&&◌, ◌||◌, ◌==◌, cond, List, [], ◌∷◌, ◌++◌, drop, refl, sym, ◌∙◌, ap, subst, inl, inr, append_assoc, arith, nat_tests, or_from, codes, agree_below_at, is_ascii_digit, is_ascii_alphanumeric, is_xid_continue-ascii}
use Rattle.rl_syntax.specs.Texts.{is_underscore, is_white, is_among, first_passes, begins, is_run_part, is_start, is_continue, begins_char}
use Rattle.rl_syntax.specs.Classes.{is_hash, after_run}
use Rattle.rl_lexer.specs.Lexemes.{BeginsHashedQuote, begins_dot, begins_raw_identifier, is_base_letter}
use Rattle.rl_lexer.specs.Mirrors.LexemeAt.{begins_hashed_quote, begins_exponent, after_sign, begins_otherwise}
use Rattle.rl_lexer.specs.Sources.{is_in_line}
use Rattle.rl_lexer.proofs.LexemeFronts.{digit_not_start}
use Rattle.rl_lexer.proofs.LexemeOpeners.{raw_opens_here}
use Rattle.rl_lexer.proofs.LexemeRows.{not_among}
use Rattle.rl_lexer.proofs.Pieces.{is_equal}
use Rattle.rl_style.specs.Around.{is_head, SameHead, SameFront}

hashed_here : (t : List ℕ) → BeginsHashedQuote t → begins_hashed_quote t ≡ true
hashed_here t b = ap begins_hashed_quote b.text_is ∙ raw_opens_here b.hashes b.rest

other_head : (h k : ℕ) → is_head h ≡ true → is_head k ≡ false → (h == k) ≡ false
other_head h k is other = not_among h k is_head is other

-- ---- tests of characters that have one result for all decimal digits

abbrev pub OnDigits : (ℕ → Bool) → Type 0
OnDigits test = (h k : ℕ) → is_ascii_digit h ≡ true → is_ascii_digit k ≡ true → test h ≡ test k

fails_on : (test : ℕ → Bool) → ((c : ℕ) → is_ascii_digit c ≡ true → test c ≡ false) → OnDigits test
fails_on test each h k a b = each h a ∙ sym (each k b)

pub code_on : (n : ℕ) → is_ascii_digit n ≡ false → OnDigits (λ c. c == n)
code_on n other = fails_on (λ c. c == n) (λ c h. not_among c n is_ascii_digit h other)

pub digit_on : OnDigits is_ascii_digit
digit_on h k a b = a ∙ sym b

pub part_on : OnDigits (is_run_part is_ascii_digit)
part_on h k a b = ap (λ z. z || h == 95) a ∙ sym (ap (λ z. z || k == 95) b)

pub start_on : OnDigits is_start
start_on = fails_on is_start digit_not_start

pub dot_on : OnDigits (λ d. d == 46 || is_start d)
dot_on = fails_on (λ d. d == 46 || is_start d)
    (λ c h. or_from (c == 46) (is_start c) (not_among c 46 is_ascii_digit h refl) (digit_not_start c h))

pub slash_on : OnDigits (λ d. d == 47 || d == 42)
slash_on = fails_on (λ d. d == 47 || d == 42) (λ c h. or_from (c == 47) (c == 42)
    (not_among c 47 is_ascii_digit h refl) (not_among c 42 is_ascii_digit h refl))

pub base_on : OnDigits is_base_letter
base_on = fails_on is_base_letter (λ c h. or_from (c == 120 || c == 111) (c == 98) (or_from (c == 120) (c == 111)
    (not_among c 120 is_ascii_digit h refl) (not_among c 111 is_ascii_digit h refl))
    (not_among c 98 is_ascii_digit h refl))

pub line_on : OnDigits is_in_line
line_on h k a b = ap not (code_on 10 refl h k a b)

digit_low : (c : ℕ) → is_ascii_digit c ≡ true → c < 128
digit_low c h = grind (arith, nat_tests)

pub digit_continues : (c : ℕ) → is_ascii_digit c ≡ true → is_continue c ≡ true
digit_continues c h =
    let low : c < 128 = digit_low c h in
    let test : ℕ → Bool = λ c. (is_ascii_alphanumeric c || (c == 95)) && not (is_white c) in
    let same : (not (is_ascii_digit c) || test c) ≡ true = agree_below_at (λ c. not (is_ascii_digit c)
    || ((is_ascii_alphanumeric c || (c == 95)) && not (is_white c))) (λ c. true) 128 c refl low in
    ap (λ b. b && not (is_white c)) (is_xid_continue-ascii c low) ∙ ap (λ b. not b || test c) (sym h) ∙ same

pub continue_on : OnDigits is_continue
continue_on h k a b = digit_continues h a ∙ sym (digit_continues k b)

-- ---- the first characters of the old and the new literal

head_agrees : (test : ℕ → Bool) → OnDigits test → (h k : ℕ) → SameHead h k → test h ≡ test k
head_agrees test on h k (inl e) = ap test e
head_agrees test on h k (inr (a, b)) = on h k a b

pub new_is_head : (h k : ℕ) → SameHead h k → is_head h ≡ true → is_head k ≡ true
new_is_head h k (inl e) is = subst (λ (z : ℕ). is_head z ≡ true) e is
new_is_head h k (inr (a, b)) is = ap (λ z. is_among (codes "\"'rbc") k || z) b ∙ or_true (is_among (codes "\"'rbc") k)
  where
    or_true : (b : Bool) → (b || true) ≡ true
    or_true true = refl
    or_true false = refl

-- Two texts that begin alike still begin alike if one text `s` is put before both.
pub front_more : (s a b : List ℕ) → SameFront a b → SameFront (s ++ a) (s ++ b)
front_more s a b f = record {
  front = s ++ f.front;
  head = f.head;
  new_head = f.new_head;
  old_rest = f.old_rest;
  new_rest = f.new_rest;
  is_head = f.is_head;
  same_head = f.same_head;
  raw = f.raw;
  old_is = ap (λ z. s ++ z) f.old_is ∙ sym (append_assoc s f.front (f.head ∷ f.old_rest));
  new_is = ap (λ z. s ++ z) f.new_is ∙ sym (append_assoc s f.front (f.new_head ∷ f.new_rest));
}

-- The first characters `h` and `k` of the old and the new literal, and the texts `x` and `y` after them. A literal may begin
-- with each of the two characters.
record Heads (h k : ℕ) (x y : List ℕ) : Type 0 where
  same : SameHead h k
  old_is : is_head h ≡ true
  new_is : is_head k ≡ true
  raw : (h == 114) ≡ true → begins_hashed_quote x ≡ begins_hashed_quote y

-- A character that can't begin a literal is the first character of neither the old nor the new literal.
other_heads : (h k n : ℕ) (x y : List ℕ) → Heads h k x y → is_head n ≡ false → ((h == n) ≡ false) × ((k == n) ≡ false)
other_heads h k n x y s other = (other_head h n s.old_is other, other_head k n s.new_is other)

-- The test `f` has equal results for any two texts that begin alike.
abbrev Agrees : (List ℕ → Bool) → Type 0
Agrees f = (front : List ℕ) (h k : ℕ) (x y : List ℕ) → Heads h k x y → f (front ++ (h ∷ x)) ≡ f (front ++ (k ∷ y))

raw_agree : (a b : List ℕ) (s : SameFront a b) → (s.head == 114) ≡ true → begins_hashed_quote s.old_rest
    ≡ begins_hashed_quote s.new_rest
raw_agree a b s e =
    let p = s.raw (is_equal s.head 114 e) in
    hashed_here s.old_rest p.0 ∙ sym (hashed_here s.new_rest p.1)

both : (f : List ℕ → Bool) → Agrees f → (a b : List ℕ) → SameFront a b → f a ≡ f b
both f agrees a b s =
    ap f s.old_is ∙ agrees s.front s.head s.new_head s.old_rest s.new_rest (record {
      same = s.same_head;
      old_is = s.is_head;
      new_is = new_is_head s.head s.new_head s.same_head s.is_head;
      raw = raw_agree a b s;
    }) ∙ sym (ap f s.new_is)

first_agrees : (test : ℕ → Bool) → OnDigits test → Agrees (first_passes test)
first_agrees test on [] h k x y s = head_agrees test on h k s.same
first_agrees test on (c ∷ f) h k x y s = refl

pub same_first : (test : ℕ → Bool) → OnDigits test → (a b : List ℕ) → SameFront a b
    → first_passes test a ≡ first_passes test b
same_first test on a b s = both (first_passes test) (first_agrees test on) a b s

-- ---- tests of the text after a sequence of characters have equal results for the old and the new text

run_agrees : (run test : ℕ → Bool) (front : List ℕ) (h k : ℕ) (x y : List ℕ) → run h ≡ false → run k ≡ false
    → test h ≡ test k
    → first_passes test (after_run run (front ++ (h ∷ x))) ≡ first_passes test (after_run run (front ++ (k ∷ y)))
run_agrees run test [] h k x y a b same =
    ap (λ b. first_passes test (cond b (after_run run x) (h ∷ x))) a ∙ same
    ∙ sym (ap (λ b. first_passes test (cond b (after_run run y) (k ∷ y))) b)
run_agrees run test (c ∷ f) h k x y a b same = go (run c) (run_agrees run test f h k x y a b same)
  where
    go : (b : Bool) → first_passes test (after_run run (f ++ (h ∷ x)))
        ≡ first_passes test (after_run run (f ++ (k ∷ y)))
        → first_passes test (cond b (after_run run (f ++ (h ∷ x))) (c ∷ f ++ (h ∷ x)))
        ≡ first_passes test (cond b (after_run run (f ++ (k ∷ y))) (c ∷ f ++ (k ∷ y)))
    go true more = more
    go false more = refl

hashed_agrees : Agrees begins_hashed_quote
hashed_agrees f h k x y s =
    let n = other_heads h k 35 x y s refl in
    run_agrees is_hash (λ c. c == 34) f h k x y n.0 n.1 (head_agrees (λ c. c == 34) (code_on 34 refl) h k s.same)

-- ---- the test for a dot has one result for the old and the new text

dot_agrees : Agrees begins_dot
dot_agrees [] h k x y s =
    let n = other_heads h k 46 x y s refl in
    ap (λ b. b && not (first_passes (λ d. d == 46 || is_start d) x)) n.0
    ∙ sym (ap (λ b. b && not (first_passes (λ d. d == 46 || is_start d) y)) n.1)
dot_agrees (c ∷ f) h k x y s =
    ap (λ b. c == 46 && not b) (first_agrees (λ d. d == 46 || is_start d) dot_on f h k x y s)

pub same_dot : (a b : List ℕ) → SameFront a b → begins_dot a ≡ begins_dot b
same_dot a b s = both begins_dot dot_agrees a b s

-- ---- the test for an exponent has one result for the old and the new text

abbrev powers : List ℕ → Bool
powers t = first_passes is_ascii_digit (after_run is_underscore t)

powers_agree : Agrees powers
powers_agree f h k x y s =
    let n = other_heads h k 95 x y s refl in
    run_agrees is_underscore is_ascii_digit f h k x y n.0 n.1 (head_agrees is_ascii_digit digit_on h k s.same)

-- If a text doesn't begin with a sign, no sign is skipped.
no_sign : (h : ℕ) (x : List ℕ) → (h == 43) ≡ false → (h == 45) ≡ false → powers (after_sign (h ∷ x)) ≡ powers (h ∷ x)
no_sign h x a b = ap (λ z. powers (cond (z || h == 45) x (h ∷ x))) a ∙ ap (λ z. powers (cond z x (h ∷ x))) b

signed_agree : Agrees (λ t. powers (after_sign t))
signed_agree [] h k x y s =
    let p = other_heads h k 43 x y s refl in
    let m = other_heads h k 45 x y s refl in
    no_sign h x p.0 m.0 ∙ powers_agree [] h k x y s ∙ sym (no_sign k y p.1 m.1)
signed_agree (c ∷ f) h k x y s = go (c == 43 || c == 45)
  where
    go : (b : Bool) → powers (cond b (f ++ (h ∷ x)) (c ∷ f ++ (h ∷ x)))
        ≡ powers (cond b (f ++ (k ∷ y)) (c ∷ f ++ (k ∷ y)))
    go true = powers_agree f h k x y s
    go false = powers_agree (c ∷ f) h k x y s

-- A text that doesn't begin with the letter of an exponent doesn't begin with an exponent.
no_letter : (h : ℕ) (x : List ℕ) → (h == 101) ≡ false → (h == 69) ≡ false → begins_exponent (h ∷ x) ≡ false
no_letter h x a b = ap (λ z. (z || h == 69) && powers (after_sign x)) a ∙ ap (λ z. z && powers (after_sign x)) b

exponent_agrees : Agrees begins_exponent
exponent_agrees [] h k x y s =
    let l = other_heads h k 101 x y s refl in
    let u = other_heads h k 69 x y s refl in
    no_letter h x l.0 u.0 ∙ sym (no_letter k y l.1 u.1)
exponent_agrees (c ∷ f) h k x y s = ap (λ b. (c == 101 || c == 69) && b) (signed_agree f h k x y s)

pub same_exponent : (a b : List ℕ) → SameFront a b → begins_exponent a ≡ begins_exponent b
same_exponent a b s = both begins_exponent exponent_agrees a b s

-- ---- the test for an identifier or a prefix has one result for the old and the new text

abbrev raw_second : List ℕ → Bool
raw_second t = begins_char 114 t && begins_hashed_quote (drop 1 t)

raw_second_agrees : Agrees raw_second
raw_second_agrees [] h k x y s = go (h == 114) refl
  where
    new : (h == 114) ≡ (k == 114)
    new = head_agrees (λ c. c == 114) (code_on 114 refl) h k s.same

    go : (b : Bool) → (h == 114) ≡ b → raw_second (h ∷ x) ≡ raw_second (k ∷ y)
    go true e = ap (λ b. h == 114 && b) (s.raw e) ∙ ap (λ b. b && begins_hashed_quote y) new
    go false e = ap (λ b. b && begins_hashed_quote x) e ∙ sym (ap (λ b. b && begins_hashed_quote y) (sym new ∙ e))
raw_second_agrees (c ∷ f) h k x y s = ap (λ b. c == 114 && b) (hashed_agrees f h k x y s)

abbrev name_second : List ℕ → Bool
name_second t = begins_char 35 t && first_passes is_start (drop 1 t)

name_second_agrees : Agrees name_second
name_second_agrees [] h k x y s =
    let n = other_heads h k 35 x y s refl in
    ap (λ b. b && first_passes is_start x) n.0 ∙ sym (ap (λ b. b && first_passes is_start y) n.1)
name_second_agrees (c ∷ f) h k x y s = ap (λ b. c == 35 && b) (first_agrees is_start start_on f h k x y s)

abbrev joined : (a b r x y z v w : Bool) → Bool
joined a b r x y z v w = (a && (x || (y || z))) || ((b && (x || z)) || (r && (v || w)))

same_joined : (a b r x y z v w x1 y1 z1 v1 w1 : Bool) → x ≡ x1 → y ≡ y1 → z ≡ z1 → v ≡ v1 → w ≡ w1
    → joined a b r x y z v w ≡ joined a b r x1 y1 z1 v1 w1
same_joined a b r x y z v w x1 y1 z1 v1 w1 p q s t u =
    ap (λ k. joined a b r k y z v w) p
    ∙ ap (λ k. joined a b r x1 k z v w) q
    ∙ ap (λ k. joined a b r x1 y1 k v w) s
    ∙ ap (λ k. joined a b r x1 y1 z1 k w) t
    ∙ ap (λ k. joined a b r x1 y1 z1 v1 k) u

pub same_otherwise : (c : ℕ) (a b : List ℕ) → SameFront a b → begins_otherwise (c ∷ a) ≡ begins_otherwise (c ∷ b)
same_otherwise c a b s =
    same_joined (c == 98) (c == 99) (c == 114) (begins_char 34 a) (begins_char 39 a) (raw_second a)
    (begins_hashed_quote a) (name_second a) (begins_char 34 b) (begins_char 39 b) (raw_second b) (begins_hashed_quote b)
    (name_second b) (same_first (λ d. d == 34) (code_on 34 refl) a b s)
    (same_first (λ d. d == 39) (code_on 39 refl) a b s) (both raw_second raw_second_agrees a b s)
    (both begins_hashed_quote hashed_agrees a b s) (both name_second name_second_agrees a b s)

identifier_agrees : (c : ℕ) → Agrees (λ t. begins_raw_identifier (c ∷ t))
identifier_agrees c [] h k x y s =
    let n = other_heads h k 35 x y s refl in
    ap (λ b. c == 114 && b && first_passes is_start x) n.0
    ∙ none (c == 114) (first_passes is_start x) (first_passes is_start y)
    ∙ sym (ap (λ b. c == 114 && b && first_passes is_start y) n.1)
  where
    none : (a b d : Bool) → (a && false && b) ≡ (a && false && d)
    none true b d = refl
    none false b d = refl
identifier_agrees c (d ∷ f) h k x y s = ap (λ b. c == 114 && d == 35 && b) (first_agrees is_start start_on f h k x y s)

pub same_identifier : (c : ℕ) (a b : List ℕ) → SameFront a b → begins_raw_identifier (c ∷ a)
    ≡ begins_raw_identifier (c ∷ b)
same_identifier c a b s = both (λ t. begins_raw_identifier (c ∷ t)) (identifier_agrees c) a b s

-- ---- the tests of the start of a whole source

script_agrees : Agrees (begins (codes "#!"))
script_agrees [] h k x y s =
    let n = other_heads h k 35 x y s refl in
    ap (λ b. b && begins (codes "!") x) n.0 ∙ sym (ap (λ b. b && begins (codes "!") y) n.1)
script_agrees (c ∷ []) h k x y s =
    let n = other_heads h k 33 x y s refl in
    ap (λ b. c == 35 && (b && begins [] x)) n.0 ∙ sym (ap (λ b. c == 35 && (b && begins [] y)) n.1)
script_agrees (c ∷ d ∷ f) h k x y s = refl

attribute_agrees : Agrees (begins (codes "#!["))
attribute_agrees [] h k x y s =
    let n = other_heads h k 35 x y s refl in
    ap (λ b. b && begins (codes "![") x) n.0 ∙ sym (ap (λ b. b && begins (codes "![") y) n.1)
attribute_agrees (c ∷ []) h k x y s =
    let n = other_heads h k 33 x y s refl in
    ap (λ b. c == 35 && (b && begins (codes "[") x)) n.0 ∙ sym (ap (λ b. c == 35 && (b && begins (codes "[") y)) n.1)
attribute_agrees (c ∷ d ∷ []) h k x y s =
    let n = other_heads h k 91 x y s refl in
    ap (λ b. c == 35 && (d == 33 && (b && begins [] x))) n.0
    ∙ sym (ap (λ b. c == 35 && (d == 33 && (b && begins [] y))) n.1)
attribute_agrees (c ∷ d ∷ e ∷ f) h k x y s = refl

pub same_attribute : (a b : List ℕ) → SameFront a b → begins (codes "#![") a ≡ begins (codes "#![") b
same_attribute a b s = both (begins (codes "#![")) attribute_agrees a b s

pub same_script : (a b : List ℕ) → SameFront a b → begins (codes "#!") a ≡ begins (codes "#!") b
same_script a b s = both (begins (codes "#!")) script_agrees a b s
