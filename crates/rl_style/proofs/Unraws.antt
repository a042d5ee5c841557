-- If a string with escapes replaces a raw string, the token before it is lexed as before. The text before the raw string must
-- end with neither a hash nor a dot.
use Rattle.rl_syntax.proofs.Common.{◌≡◌, ℕ, inl, inr, Bool, true, false, not, ◌&&◌, ◌||◌, ◌==◌, cond, List, [], ◌∷◌, ◌++◌, drop, refl, sym, ◌∙◌, ap, replicate, append_assoc, lit<, is_ascii_digit, is_xid_continue-ascii}
use Rattle.rl_syntax.specs.Texts.{is_white, is_underscore, first_passes, is_run_part, is_start, is_continue, begins_char}
use Rattle.rl_syntax.specs.Classes.{is_hash, after_run}
use Rattle.rl_lexer.specs.Lexemes.{begins_dot, begins_raw_identifier, is_base_letter, LexedFraction, NoLexedFraction, LexedDot, lexed_fraction_text, LexedExponent, NoLexedExponent, LexedPower, lexed_exponent_text, lexed_sign_text, IsRun, IsLexedSuffix, IsLexedFraction, IsLexedExponent, Lexeme, QuotedLexeme, RawLexeme, CharacterLexeme, BasedLexeme, DecimalLexeme, IdentifierLexeme, DelimiterLexeme, MarkLexeme, IsLexeme}
use Rattle.rl_lexer.specs.Mirrors.LexemeAt.{begins_hashed_quote, begins_exponent, after_sign, begins_otherwise}
use Rattle.rl_lexer.specs.Sources.{is_in_line, is_apostrophe, PlainToken, RawIdentifierToken, LifetimeToken, RawLifetimeToken, DocLineToken, DocBlockToken, BadQuoteToken, StrayToken, IsName}
use Rattle.rl_lexer.proofs.LexemeFronts.{start_ascii}
use Rattle.rl_lexer.proofs.LexemeOpeners.{no_exponent_here, no_exponent_begins, none_otherwise, no_otherwise}
use Rattle.rl_lexer.proofs.LexemeRows.{not_among, neither_true, not_true}
use Rattle.rl_style.specs.Around.{may_precede_quote, StaysBeforeQuote}
use Rattle.rl_syntax.proofs.Basics.{false_unless}
use Rattle.rl_lexer.proofs.Pieces.{is_equal}

-- The old text: the text `f` before the raw string, the letter `r`, and the text `x` after it.
abbrev old : List ℕ → List ℕ → List ℕ
old f x = f ++ (114 ∷ x)

abbrev new : List ℕ → List ℕ → List ℕ
new f y = f ++ (34 ∷ y)

first_fits : (test : ℕ → Bool) (f x y : List ℕ) → test 34 ≡ false → first_passes test (old f x) ≡ false
    → first_passes test (new f y) ≡ false
first_fits test [] x y out h = out
first_fits test (c ∷ f) x y out h = h

line_fits : (f x y : List ℕ) → first_passes is_in_line (old f x) ≡ false → first_passes is_in_line (new f y) ≡ false
line_fits [] x y h = absurd (cc)
line_fits (c ∷ f) x y h = h

start_34 : is_start 34 ≡ false
start_34 = start_ascii 34 (lit< tt)

continue_34 : is_continue 34 ≡ false
continue_34 = ap (λ b. b && not (is_white 34)) (is_xid_continue-ascii 34 (lit< tt))

continue_114 : is_continue 114 ≡ true
continue_114 = ap (λ b. b && not (is_white 114)) (is_xid_continue-ascii 114 (lit< tt))

row_fits : (test : ℕ → Bool) (row f x y : List ℕ) → test 34 ≡ false → IsRun test row (old f x)
    → IsRun test row (new f y)
row_fits test row f x y out r = record { each = r.each; ends = first_fits test f x y out r.ends }

suffix_fits : (s f x y : List ℕ) → IsLexedSuffix s (old f x) → IsLexedSuffix s (new f y)
suffix_fits [] f x y h = first_fits is_start f x y start_34 h
suffix_fits (c ∷ s) f x y (h, r) = (h, row_fits is_continue s f x y continue_34 r)

-- ---- the test for a dot, before a raw string and before a string with escapes

dot_fits : (f x y : List ℕ) → may_precede_quote f ≡ true → begins_dot (old f x) ≡ false → begins_dot (new f y) ≡ false
dot_fits [] x y may h = refl
dot_fits (c ∷ []) x y may h =
    ap (λ b. b && not (first_passes (λ d. d == 46 || is_start d) (34 ∷ y))) (neither_true (c == 35) (c == 46) may).1
dot_fits (c ∷ d ∷ f) x y may h = h

no_dot : (c : ℕ) (t : List ℕ) → (c == 46) ≡ false → begins_dot (c ∷ t) ≡ false
no_dot c t h = ap (λ b. b && not (first_passes (λ d. d == 46 || is_start d) t)) h

letter_dot : (c : ℕ) → (c == 101 || c == 69) ≡ true → (c == 46) ≡ false
letter_dot c is = not_among c 46 (λ k. k == 101 || k == 69) is refl

after_dot : (e : LexedExponent) (s f x y : List ℕ) → may_precede_quote f ≡ true → IsLexedSuffix s (old f x)
    → IsLexedExponent e (s ++ old f x) → begins_dot (lexed_exponent_text e ++ (s ++ old f x)) ≡ false
    → begins_dot (lexed_exponent_text e ++ (s ++ new f y)) ≡ false
after_dot NoLexedExponent [] f x y may suffix power h = dot_fits f x y may h
after_dot NoLexedExponent (c ∷ s) f x y may (start, row) power h =
    no_dot c (s ++ new f y) (not_among c 46 is_start start (start_ascii 46 (lit< tt)))
after_dot (LexedPower letter sign n d more) s f x y may suffix (il, id, row) h =
    no_dot letter ((lexed_sign_text sign ++ (replicate n 95 ++ d ∷ more)) ++ (s ++ new f y)) (letter_dot letter il)

assoc3 : (d e s t : List ℕ) → (d ++ (e ++ s)) ++ t ≡ d ++ (e ++ (s ++ t))
assoc3 d e s t = simp append_assoc

-- The old text contains a raw string, and the new text a string with escapes in its place. If the first character of the old
-- text fails a test that a quote fails, the first character of the new text fails the test too.
behind : (test : ℕ → Bool) (d e s f x y : List ℕ) → test 34 ≡ false → first_passes test (d ++ (e ++ (s ++ old f x)))
    ≡ false
    → first_passes test (d ++ (e ++ (s ++ new f y))) ≡ false
behind test d e s f x y out h =
    let g : List ℕ = (d ++ (e ++ s)) ++ f in
    let at : (t : List ℕ) → g ++ t ≡ d ++ (e ++ (s ++ (f ++ t))) = λ t. append_assoc (d ++ (e ++ s)) f t
    ∙ assoc3 d e s (f ++ t) in
    ap (first_passes test) (sym (at (34 ∷ y))) ∙ first_fits test g x y out (ap (first_passes test) (at (114 ∷ x)) ∙ h)

fraction_fits : (g : LexedFraction) (e : LexedExponent) (s f x y : List ℕ) → may_precede_quote f ≡ true
    → IsLexedSuffix s (old f x)
    → IsLexedExponent e (s ++ old f x) → IsLexedFraction g (lexed_exponent_text e ++ (s ++ old f x))
    → IsLexedFraction g (lexed_exponent_text e ++ (s ++ new f y))
fraction_fits NoLexedFraction e s f x y may suffix power h = after_dot e s f x y may suffix power h
fraction_fits (LexedDot ds) e s f x y may suffix power (h, r) =
    let t : List ℕ = lexed_exponent_text e in (
      ap not (behind (λ d. d == 46 || is_start d) ds t s f x y start_34 (not_true (first_passes
          (λ d. d == 46 || is_start d) (ds ++ (t ++ (s ++ old f x)))) h)),
      record { each = r.each; ends = behind (is_run_part is_ascii_digit) [] t s f x y refl r.ends },
    )

-- ---- the test for an exponent, before a raw string and before a string with escapes

run_agrees : (run test : ℕ → Bool) (f x y : List ℕ) → run 114 ≡ false → run 34 ≡ false → test 114 ≡ test 34
    → first_passes test (after_run run (old f x)) ≡ first_passes test (after_run run (new f y))
run_agrees run test [] x y a b same =
    ap (λ z. first_passes test (cond z (after_run run x) (114 ∷ x))) a ∙ same
    ∙ sym (ap (λ z. first_passes test (cond z (after_run run y) (34 ∷ y))) b)
run_agrees run test (c ∷ f) x y a b same = go (run c) (run_agrees run test f x y a b same)
  where
    go : (z : Bool) → first_passes test (after_run run (old f x)) ≡ first_passes test (after_run run (new f y))
        → first_passes test (cond z (after_run run (old f x)) (c ∷ old f x))
        ≡ first_passes test (cond z (after_run run (new f y)) (c ∷ new f y))
    go true more = more
    go false more = refl

abbrev powers : List ℕ → Bool
powers t = first_passes is_ascii_digit (after_run is_underscore t)

signed_agree : (f x y : List ℕ) → powers (after_sign (old f x)) ≡ powers (after_sign (new f y))
signed_agree [] x y = refl
signed_agree (c ∷ f) x y = go (c == 43 || c == 45)
  where
    go : (b : Bool) → powers (cond b (old f x) (c ∷ old f x)) ≡ powers (cond b (new f y) (c ∷ new f y))
    go true = run_agrees is_underscore is_ascii_digit f x y refl refl refl
    go false = run_agrees is_underscore is_ascii_digit (c ∷ f) x y refl refl refl

exponent_agrees : (f x y : List ℕ) → begins_exponent (old f x) ≡ begins_exponent (new f y)
exponent_agrees [] x y = refl
exponent_agrees (c ∷ f) x y = ap (λ b. (c == 101 || c == 69) && b) (signed_agree f x y)

power_fits : (e : LexedExponent) (s f x y : List ℕ) → IsLexedExponent e (s ++ old f x)
    → IsLexedExponent e (s ++ new f y)
power_fits NoLexedExponent s f x y none =
    no_exponent_begins (s ++ new f y) (ap begins_exponent (sym (append_assoc s f (34 ∷ y)))
    ∙ sym (exponent_agrees (s ++ f) x y) ∙ ap begins_exponent (append_assoc s f (114 ∷ x))
    ∙ no_exponent_here (s ++ old f x) none)
power_fits (LexedPower letter sign n d more) s f x y (il, id, r) =
    (il, id, record { each = r.each; ends = behind (is_run_part is_ascii_digit) [] [] s f x y refl r.ends })

decimal_fits : (d : ℕ) (more : List ℕ) (g : LexedFraction) (e : LexedExponent) (s f x y : List ℕ) → may_precede_quote f
    ≡ true
    → IsLexeme (DecimalLexeme d more g e s) (old f x) → IsLexeme (DecimalLexeme d more g e s) (new f y)
decimal_fits d more g e s f x y may (id, not_based, row, fraction, power, suffix) = (
  id,
  base (d == 48) not_based,
  record { each = row.each; ends = behind (is_run_part is_ascii_digit) (lexed_fraction_text g) (lexed_exponent_text e) s f x y refl row.ends },
  fraction_fits g e s f x y may suffix power fraction,
  power_fits e s f x y power,
  suffix_fits s f x y suffix,
)
  where
    all : List ℕ → List ℕ
    all t = more ++ (lexed_fraction_text g ++ (lexed_exponent_text e ++ (s ++ t)))

    at : (t : List ℕ) → (more ++ lexed_fraction_text g) ++ (lexed_exponent_text e ++ (s ++ t)) ≡ all t
    at t = append_assoc more (lexed_fraction_text g) (lexed_exponent_text e ++ (s ++ t))

    base : (b : Bool) → (b && first_passes is_base_letter (all (old f x))) ≡ false
        → (b && first_passes is_base_letter (all (new f y))) ≡ false
    base true h = ap (first_passes is_base_letter) (sym (at (new f y)))
        ∙ behind is_base_letter (more ++ lexed_fraction_text g) (lexed_exponent_text e) s f x y refl
        (ap (first_passes is_base_letter) (at (old f x)) ∙ h)
    base false h = refl

-- ---- the test for an identifier or a prefix, before a raw string and before a string with escapes

hashed_agrees : (c : ℕ) (g x y : List ℕ) → may_precede_quote (c ∷ g) ≡ true → begins_hashed_quote (old (c ∷ g) x)
    ≡ begins_hashed_quote (new (c ∷ g) y)
hashed_agrees c [] x y may =
    ap (λ b. begins_char 34 (cond b (after_run is_hash (114 ∷ x)) (c ∷ 114 ∷ x)))
    (neither_true (c == 35) (c == 46) may).0
    ∙ sym (ap (λ b. begins_char 34 (cond b (after_run is_hash (34 ∷ y)) (c ∷ 34 ∷ y))) (neither_true (c == 35) (c == 46)
    may).0)
hashed_agrees c (d ∷ g) x y may = go (c == 35) (hashed_agrees d g x y may)
  where
    go : (b : Bool) → begins_hashed_quote (old (d ∷ g) x) ≡ begins_hashed_quote (new (d ∷ g) y)
        → begins_char 34 (cond b (after_run is_hash (old (d ∷ g) x)) (c ∷ old (d ∷ g) x))
        ≡ begins_char 34 (cond b (after_run is_hash (new (d ∷ g) y)) (c ∷ new (d ∷ g) y))
    go true more = more
    go false more = refl

abbrev raw_second : List ℕ → Bool
raw_second t = begins_char 114 t && begins_hashed_quote (drop 1 t)

raw_second_agrees : (c : ℕ) (g x y : List ℕ) → may_precede_quote (c ∷ g) ≡ true → (g ≡ [] → (c == 114) ≡ false)
    → raw_second (old (c ∷ g) x) ≡ raw_second (new (c ∷ g) y)
raw_second_agrees c [] x y may alone =
    ap (λ b. b && begins_hashed_quote (114 ∷ x)) (alone refl) ∙ sym
    (ap (λ b. b && begins_hashed_quote (34 ∷ y)) (alone refl))
raw_second_agrees c (d ∷ g) x y may alone = ap (λ b. c == 114 && b) (hashed_agrees d g x y may)

abbrev name_second : List ℕ → Bool
name_second t = begins_char 35 t && first_passes is_start (drop 1 t)

name_second_agrees : (c : ℕ) (g x y : List ℕ) → may_precede_quote (c ∷ g) ≡ true → name_second (old (c ∷ g) x)
    ≡ name_second (new (c ∷ g) y)
name_second_agrees c [] x y may =
    ap (λ b. b && first_passes is_start (114 ∷ x)) (neither_true (c == 35) (c == 46) may).0
    ∙ sym (ap (λ b. b && first_passes is_start (34 ∷ y)) (neither_true (c == 35) (c == 46) may).0)
name_second_agrees c (d ∷ g) x y may = refl

abbrev joined : (a b r x y z v w : Bool) → Bool
joined a b r x y z v w = (a && (x || (y || z))) || ((b && (x || z)) || (r && (v || w)))

same_joined : (a b r x y z v w z1 v1 w1 : Bool) → z ≡ z1 → v ≡ v1 → w ≡ w1
    → joined a b r x y z v w ≡ joined a b r x y z1 v1 w1
same_joined a b r x y z v w z1 v1 w1 s t u =
    ap (λ k. joined a b r x y k v w) s ∙ ap (λ k. joined a b r x y z1 k w) t ∙ ap (λ k. joined a b r x y z1 v1 k) u

otherwise_agrees : (k c : ℕ) (g x y : List ℕ) → may_precede_quote (c ∷ g) ≡ true → (g ≡ [] → (c == 114) ≡ false)
    → begins_otherwise (k ∷ old (c ∷ g) x) ≡ begins_otherwise (k ∷ new (c ∷ g) y)
otherwise_agrees k c g x y may alone =
    same_joined (k == 98) (k == 99) (k == 114) (c == 34) (c == 39) (raw_second (old (c ∷ g) x))
    (begins_hashed_quote (old (c ∷ g) x)) (name_second (old (c ∷ g) x)) (raw_second (new (c ∷ g) y))
    (begins_hashed_quote (new (c ∷ g) y)) (name_second (new (c ∷ g) y)) (raw_second_agrees c g x y may alone)
    (hashed_agrees c g x y may) (name_second_agrees c g x y may)

may_more : (more : List ℕ) (d : ℕ) (f : List ℕ) → may_precede_quote (d ∷ f) ≡ true → may_precede_quote (more ++ (d ∷ f))
    ≡ true
may_more [] d f may = may
may_more (c ∷ []) d f may = may
may_more (c ∷ e ∷ more) d f may = may_more (e ∷ more) d f may

word_fits : (k : ℕ) (more f x y : List ℕ) → may_precede_quote f ≡ true → IsRun is_continue more (old f x)
    → begins_otherwise (k ∷ more ++ old f x) ≡ false → begins_otherwise (k ∷ more ++ new f y) ≡ false
word_fits k more [] x y may row h = let q : true ≡ false = sym continue_114 ∙ row.ends in absurd (cc)
word_fits k [] (d ∷ f) x y may row h =
    sym (otherwise_agrees k d f x y may (λ e. not_r row.ends)) ∙ h
  where
    not_r : is_continue d ≡ false → (d == 114) ≡ false
    not_r no_row = false_unless (d == 114) (λ is. let q : true ≡ false = sym continue_114
        ∙ sym (ap is_continue (is_equal d 114 is)) ∙ no_row in absurd (cc))
word_fits k (c ∷ more) (d ∷ f) x y may row h =
    let at : (t : List ℕ) → (more ++ (d ∷ f)) ++ t ≡ more ++ (d ∷ (f ++ t)) = λ t. append_assoc more (d ∷ f) t in
    ap (λ z. begins_otherwise (k ∷ c ∷ z)) (sym (at (34 ∷ y)))
    ∙ sym (otherwise_agrees k c (more ++ (d ∷ f)) x y (may_more (c ∷ more) d f may) (λ e. absurd (some more e)))
    ∙ ap (λ z. begins_otherwise (k ∷ c ∷ z)) (at (114 ∷ x)) ∙ h
  where
    some : (m : List ℕ) → m ++ (d ∷ f) ≡ [] → ⊥
    some [] e = cc
    some (z ∷ m) e = cc

and_off : (b : Bool) → (b && false) ≡ false
and_off true = refl
and_off false = refl

name_agrees : (k : ℕ) (f x y : List ℕ) → begins_raw_identifier (k ∷ old f x) ≡ false
    → begins_raw_identifier (k ∷ new f y) ≡ false
name_agrees k [] x y h = off (k == 114)
  where
    off : (b : Bool) → (b && false && first_passes is_start y) ≡ false
    off true = refl
    off false = refl
name_agrees k (c ∷ []) x y h = ap (λ b. k == 114 && c == 35 && b) start_34 ∙ and_off (k == 114 && c == 35)
name_agrees k (c ∷ d ∷ f) x y h = h

lexeme_fits : (l : Lexeme) (f x y : List ℕ) → may_precede_quote f ≡ true → IsLexeme l (old f x) → IsLexeme l (new f y)
lexeme_fits (QuotedLexeme p parts s) f x y may (l, suffix) = (l, suffix_fits s f x y suffix)
lexeme_fits (RawLexeme p n body s) f x y may (l, suffix) = (l, suffix_fits s f x y suffix)
lexeme_fits (CharacterLexeme b inside s) f x y may (l, suffix) = (l, suffix_fits s f x y suffix)
lexeme_fits (BasedLexeme letter digits) f x y may (l, row) = (l, row_fits is_continue digits f x y continue_34 row)
lexeme_fits (DecimalLexeme d more g e s) f x y may l = decimal_fits d more g e s f x y may l
lexeme_fits (IdentifierLexeme c more) f x y may (l, row, other) = (
  l,
  row_fits is_continue more f x y continue_34 row,
  none_otherwise (c ∷ more ++ new f y) (word_fits c more f x y may row (no_otherwise (c ∷ more ++ old f x) other)),
)
lexeme_fits (DelimiterLexeme c) f x y may l = l
lexeme_fits (MarkLexeme c) f x y may (inl l) = inl l
lexeme_fits (MarkLexeme c) f x y may (inr (l, free)) = inr (l, first_fits (λ d. d == 47 || d == 42) f x y refl free)

name_fits : (c : ℕ) (more f x y : List ℕ) → IsName c more (old f x) → IsName c more (new f y)
name_fits c more f x y (l, row) = (l, row_fits is_continue more f x y continue_34 row)

pub unraws_around : StaysBeforeQuote
unraws_around (PlainToken l) f x y may is = lexeme_fits l f x y may is
unraws_around (RawIdentifierToken c more) f x y may is = name_fits c more f x y is
unraws_around (LifetimeToken c more) f x y may (row, free, plain) = (
  name_fits c more f x y row,
  first_fits is_apostrophe f x y refl free,
  ap (λ z. begins_raw_identifier (c ∷ z)) (sym (append_assoc more f (34 ∷ y)))
      ∙ name_agrees c (more ++ f) x y (ap (λ z. begins_raw_identifier (c ∷ z)) (append_assoc more f (114 ∷ x)) ∙ plain),
)
unraws_around (RawLifetimeToken c more) f x y may (row, free) =
    (name_fits c more f x y row, first_fits is_apostrophe f x y refl free)
unraws_around (DocLineToken body) f x y may (row, doc) =
    (record { each = row.each; ends = line_fits f x y row.ends }, doc)
unraws_around (DocBlockToken inside) f x y may is = is
unraws_around (BadQuoteToken q) f x y may is = absurd is
unraws_around (StrayToken c) f x y may is = absurd is
