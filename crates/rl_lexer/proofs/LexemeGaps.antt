-- Every lexeme except a punctuation character stays the same lexeme if the text after it is replaced by a separator, or
-- by the end of the text.
use Rattle.rl_syntax.proofs.Common.{◌≡◌, ℕ, Bool, true, false, not, ◌&&◌, ◌||◌, ◌==◌, cond, List, [], ◌∷◌, ◌++◌, drop, replicate, refl, sym, ◌∙◌, ap, subst, arith, append_assoc, lit<, and_parts, nat_tests, list_all, is_xid_start, is_xid_continue, is_ascii_digit, is_xid_continue-ascii}
use Rattle.rl_syntax.specs.Texts.{is_white, is_underscore, first_passes, is_run_part, is_start, is_continue, begins_char}
use Rattle.rl_lexer.specs.Lexemes.{is_base_letter, begins_dot, LexedFraction, NoLexedFraction, LexedDot, lexed_fraction_text, lexed_sign_text, LexedExponent, NoLexedExponent, LexedPower, lexed_exponent_text, IsRun, IsLexedSuffix, IsLexedFraction, IsLexedExponent, QuotedLexeme, RawLexeme, CharacterLexeme, BasedLexeme, DecimalLexeme, IdentifierLexeme, DelimiterLexeme, MarkLexeme, IsLexeme}
use Rattle.rl_lexer.proofs.Continues.{continue_ascii}
use Rattle.rl_lexer.proofs.Gaps.{BeginsGap, StaysBeforeGap}
use Rattle.rl_syntax.proofs.Basics.{false_unless}
use Rattle.rl_lexer.proofs.Pieces.{is_equal}
use Rattle.rl_lexer.proofs.LexemeRows.{not_true, not_among}
use Rattle.rl_lexer.proofs.LexemeOpeners.{no_exponent_here, no_exponent_begins, none_otherwise}
use Rattle.rl_lexer.proofs.LexemeFronts.{start_ascii}
use Rattle.rl_lexer.specs.Mirrors.LexemeAt.{begins_hashed_quote, begins_exponent, after_sign, begins_otherwise}
use Rattle.rl_syntax.specs.Classes.{is_hash, after_run}

-- A condition on a test of characters: the test fails for white space and for the slash. So it fails for the first
-- character of a separator.
abbrev pub Solid : (ℕ → Bool) → Type 0
Solid test = (c : ℕ) → (is_white c || c == 47) ≡ true → test c ≡ false

solid_from : (test : ℕ → Bool) → test 47 ≡ false → ((c : ℕ) → is_white c ≡ true → test c ≡ false) → Solid test
solid_from test at_slash at_white c h = go (is_white c) refl h
  where
    go : (b : Bool) → is_white c ≡ b → (b || c == 47) ≡ true → test c ≡ false
    go true w h = at_white c w
    go false w h = subst (λ (x : ℕ). test x ≡ false) (sym (is_equal c 47 h)) at_slash

pub and_false : (a : Bool) → (a && false) ≡ false
and_false true = refl
and_false false = refl

start_solid : Solid is_start
start_solid = solid_from is_start (start_ascii 47 (lit< tt))
    (λ c w. ap (λ b. (c == 95 || is_xid_start c) && not b) w ∙ and_false (c == 95 || is_xid_start c))

continue_solid : Solid is_continue
continue_solid = solid_from is_continue (ap (λ b. b && not (is_white 47)) (is_xid_continue-ascii 47 (lit< tt)))
    (λ c w. ap (λ b. is_xid_continue c && not b) w ∙ and_false (is_xid_continue c))

gap_fails : (test : ℕ → Bool) (gap : List ℕ) → Solid test → BeginsGap gap → first_passes test gap ≡ false
gap_fails test [] solid is = refl
gap_fails test (c ∷ t) solid is = solid c is

code_solid : (k : ℕ) → is_white k ≡ false → (47 == k) ≡ false → Solid (λ c. c == k)
code_solid k w l = solid_from (λ c. c == k) l (λ c h. not_among c k is_white h w)

or_solid : (f g : ℕ → Bool) → Solid f → Solid g → Solid (λ c. f c || g c)
or_solid f g a b c h = ap (λ x. x || g c) (a c h) ∙ b c h

pub digit_solid : Solid is_ascii_digit
digit_solid = solid_from is_ascii_digit refl (λ c w. false_unless (is_ascii_digit c) (λ h. white_digit c h w))
  where
    white_digit : (c : ℕ) → is_ascii_digit c ≡ true → is_white c ≡ true → ⊥
    white_digit c h w = grind (arith, nat_tests)

part_solid : Solid (is_run_part is_ascii_digit)
part_solid = or_solid is_ascii_digit (λ c. c == 95) digit_solid (code_solid 95 refl refl)

dot_solid : Solid (λ d. d == 46 || is_start d)
dot_solid = or_solid (λ d. d == 46) is_start (code_solid 46 refl refl) start_solid

base_solid : Solid is_base_letter
base_solid = or_solid (λ c. c == 120 || c == 111) (λ c. c == 98)
    (or_solid (λ c. c == 120) (λ c. c == 111) (code_solid 120 refl refl) (code_solid 111 refl refl))
    (code_solid 98 refl refl)

letter_solid : Solid (λ c. c == 101 || c == 69)
letter_solid = or_solid (λ c. c == 101) (λ c. c == 69) (code_solid 101 refl refl) (code_solid 69 refl refl)

-- Suppose that a test fails for white space and for the slash. If the test fails for the first character of two joined
-- texts, it still fails if a separator replaces the second text.
passes_gap : (test : ℕ → Bool) (s after gap : List ℕ) → Solid test → BeginsGap gap → first_passes test (s ++ after)
    ≡ false → first_passes test (s ++ gap) ≡ false
passes_gap test [] after gap solid is h = gap_fails test gap solid is
passes_gap test (c ∷ s) after gap solid is h = h

row_gap : (test : ℕ → Bool) (run s after gap : List ℕ) → Solid test → BeginsGap gap → IsRun test run (s ++ after)
    → IsRun test run (s ++ gap)
row_gap test run s after gap solid is r = record { each = r.each; ends = passes_gap test s after gap solid is r.ends }

suffix_gap : (x after gap : List ℕ) → BeginsGap gap → IsLexedSuffix x after → IsLexedSuffix x gap
suffix_gap [] after gap is h = gap_fails is_start gap start_solid is
suffix_gap (c ∷ x) after gap is (h, r) = (h, record { each = r.each; ends = gap_fails is_continue gap continue_solid is })

-- Lemmas about the exponent of a number that is followed by a separator.
run_gap : (u test : ℕ → Bool) (s after gap : List ℕ) → Solid u → Solid test → BeginsGap gap
    → first_passes test (after_run u (s ++ after)) ≡ false → first_passes test (after_run u (s ++ gap)) ≡ false
run_gap u test [] after [] su st is h = refl
run_gap u test [] after (c ∷ t) su st is h = ap (λ b. first_passes test (cond b (after_run u t) (c ∷ t))) (su c is)
    ∙ st c is
run_gap u test (c ∷ s) after gap su st is h = go (u c) h (run_gap u test s after gap su st is)
  where
    go : (b : Bool) → first_passes test (cond b (after_run u (s ++ after)) (c ∷ s ++ after)) ≡ false
        → (first_passes test (after_run u (s ++ after)) ≡ false → first_passes test (after_run u (s ++ gap)) ≡ false)
        → first_passes test (cond b (after_run u (s ++ gap)) (c ∷ s ++ gap)) ≡ false
    go true h more = more h
    go false h more = h

no_sign : (c : ℕ) (t : List ℕ) → (c == 43) ≡ false → (c == 45) ≡ false → after_sign (c ∷ t) ≡ c ∷ t
no_sign c t a b = ap (λ x. cond (x || c == 45) t (c ∷ t)) a ∙ ap (λ x. cond x t (c ∷ t)) b

sign_gap : (gap : List ℕ) → BeginsGap gap → after_sign gap ≡ gap
sign_gap [] is = refl
sign_gap (c ∷ t) is = no_sign c t (code_solid 43 refl refl c is) (code_solid 45 refl refl c is)

pub and_more : (b x y : Bool) → (x ≡ false → y ≡ false) → (b && x) ≡ false → (b && y) ≡ false
and_more true x y f h = f h
and_more false x y f h = refl

underscore_solid : Solid is_underscore
underscore_solid = code_solid 95 refl refl

exponent_gap : (x after gap : List ℕ) → BeginsGap gap → IsLexedSuffix x after → begins_exponent (x ++ after) ≡ false
    → begins_exponent (x ++ gap) ≡ false
exponent_gap [] after [] is suffix e = refl
exponent_gap [] after (c ∷ t) is suffix e = ap (λ b. b && first_passes is_ascii_digit
    (after_run is_underscore (after_sign t))) (letter_solid c is)
exponent_gap (c ∷ []) after gap is (h, r) e =
    ap (λ s. (c == 101 || c == 69) && first_passes is_ascii_digit (after_run is_underscore s)) (sign_gap gap is)
    ∙ ap (λ b. (c == 101 || c == 69) && b) (run_gap is_underscore is_ascii_digit [] [] gap underscore_solid digit_solid
    is refl)
    ∙ and_false (c == 101 || c == 69)
exponent_gap (c ∷ p ∷ q) after gap is (h, r) e =
    let k : is_continue p ≡ true = (and_parts (is_continue p) (list_all is_continue q) r.each).0 in
    let a : (p == 43) ≡ false = not_among p 43 is_continue k (continue_ascii 43 (lit< tt)) in
    let b : (p == 45) ≡ false = not_among p 45 is_continue k (continue_ascii 45 (lit< tt)) in
    ap (λ s. (c == 101 || c == 69) && first_passes is_ascii_digit (after_run is_underscore s))
    (no_sign p (q ++ gap) a b)
    ∙ and_more (c == 101 || c == 69) (first_passes is_ascii_digit (after_run is_underscore (p ∷ q ++ after)))
    (first_passes is_ascii_digit (after_run is_underscore (p ∷ q ++ gap)))
    (run_gap is_underscore is_ascii_digit (p ∷ q) after gap underscore_solid digit_solid is)
    (ap (λ s. (c == 101 || c == 69) && first_passes is_ascii_digit (after_run is_underscore s))
    (sym (no_sign p (q ++ after) a b)) ∙ e)

-- Lemmas about the part of a float from its dot on, followed by a separator.
not_dot : (c : ℕ) (t : List ℕ) → (c == 46) ≡ false → begins_dot (c ∷ t) ≡ false
not_dot c t h = ap (λ b. b && not (first_passes (λ d. d == 46 || is_start d) t)) h

dot_gap : (e : LexedExponent) (x after gap : List ℕ) → BeginsGap gap → IsLexedExponent e (x ++ after)
    → IsLexedSuffix x after → begins_dot (lexed_exponent_text e ++ (x ++ gap)) ≡ false
dot_gap NoLexedExponent [] after [] is ie suffix = refl
dot_gap NoLexedExponent [] after (c ∷ t) is ie suffix = not_dot c t (code_solid 46 refl refl c is)
dot_gap NoLexedExponent (c ∷ x) after gap is ie (h, r) = not_dot c (x ++ gap)
    (not_among c 46 is_start h (start_ascii 46 (lit< tt)))
dot_gap (LexedPower letter s n d more) x after gap is (il, id, run) suffix = not_dot letter
    (lexed_sign_text s ++ (replicate n 95 ++ d ∷ more) ++ (x ++ gap))
    (not_among letter 46 (λ c. c == 101 || c == 69) il refl)

pub assoc3 : (f e x t : List ℕ) → (f ++ (e ++ x)) ++ t ≡ f ++ (e ++ (x ++ t))
assoc3 f e x t = simp append_assoc

assoc2 : (e x t : List ℕ) → (e ++ x) ++ t ≡ e ++ (x ++ t)
assoc2 e x t = append_assoc e x t

fraction_gap : (f : LexedFraction) (e : LexedExponent) (x after gap : List ℕ) → BeginsGap gap
    → IsLexedFraction f (lexed_exponent_text e ++ (x ++ after)) → IsLexedExponent e (x ++ after) → IsLexedSuffix x after
    → IsLexedFraction f (lexed_exponent_text e ++ (x ++ gap))
fraction_gap NoLexedFraction e x after gap is h ie suffix = dot_gap e x after gap is ie suffix
fraction_gap (LexedDot digits) e x after gap is (h, r) ie suffix =
    let t = lexed_exponent_text e in
    let k : first_passes (λ d. d == 46 || is_start d) (digits ++ (t ++ (x ++ after)))
    ≡ false = not_true (first_passes (λ d. d == 46 || is_start d) (digits ++ (t ++ (x ++ after)))) h in
    let m : first_passes (λ d. d == 46 || is_start d) (digits ++ (t ++ (x ++ gap))) ≡ false =
    ap (first_passes (λ d. d == 46 || is_start d)) (sym (assoc3 digits t x gap))
    ∙ passes_gap (λ d. d == 46 || is_start d) (digits ++ (t ++ x)) after gap dot_solid is
    (ap (first_passes (λ d. d == 46 || is_start d)) (assoc3 digits t x after) ∙ k) in (
      ap not m,
      subst (λ (s : List ℕ). IsRun (is_run_part is_ascii_digit) digits s) (assoc2 t x gap)
          (row_gap (is_run_part is_ascii_digit) digits (t ++ x) after gap part_solid is
          (subst (λ (s : List ℕ). IsRun (is_run_part is_ascii_digit) digits s) (sym (assoc2 t x after)) r)),
    )

power_gap : (e : LexedExponent) (x after gap : List ℕ) → BeginsGap gap → IsLexedExponent e (x ++ after)
    → IsLexedSuffix x after → IsLexedExponent e (x ++ gap)
power_gap NoLexedExponent x after gap is none suffix =
    no_exponent_begins (x ++ gap) (exponent_gap x after gap is suffix (no_exponent_here (x ++ after) none))
power_gap (LexedPower letter s n d more) x after gap is (il, id, r) suffix =
    (il, id, row_gap (is_run_part is_ascii_digit) more x after gap part_solid is r)

decimal_gap : (d : ℕ) (more : List ℕ) (f : LexedFraction) (e : LexedExponent) (x after gap : List ℕ) → BeginsGap gap
    → IsLexeme (DecimalLexeme d more f e x) after → IsLexeme (DecimalLexeme d more f e x) gap
decimal_gap d more f e x after gap is (id, not_based, run, fraction, exponent, suffix) =
    let t = lexed_fraction_text f ++ (lexed_exponent_text e ++ x) in
    let at : (rest : List ℕ) → (more ++ t) ++ rest ≡ more ++ (lexed_fraction_text f
    ++ (lexed_exponent_text e ++ (x ++ rest))) = λ rest. append_assoc more t rest
    ∙ ap (λ s. more ++ s) (assoc3 (lexed_fraction_text f) (lexed_exponent_text e) x rest) in (
      id,
      ap (λ s. d == 48 && first_passes is_base_letter s) (sym (at gap))
          ∙ and_more (d == 48) (first_passes is_base_letter ((more ++ t) ++ after))
          (first_passes is_base_letter ((more ++ t) ++ gap)) (passes_gap is_base_letter (more ++ t) after gap
          base_solid is)
          (ap (λ s. d == 48 && first_passes is_base_letter s) (at after) ∙ not_based),
      subst (λ (s : List ℕ). IsRun (is_run_part is_ascii_digit) more s)
          (assoc3 (lexed_fraction_text f) (lexed_exponent_text e) x gap)
          (row_gap (is_run_part is_ascii_digit) more t after gap part_solid is
          (subst (λ (s : List ℕ). IsRun (is_run_part is_ascii_digit) more s)
          (sym (assoc3 (lexed_fraction_text f) (lexed_exponent_text e) x after)) run)),
      fraction_gap f e x after gap is fraction exponent suffix,
      power_gap e x after gap is exponent suffix,
      suffix_gap x after gap is suffix,
    )

-- Lemmas about identifiers that are followed by a separator.
hash_none : (k : ℕ) (x gap : List ℕ) → list_all is_continue x ≡ true → BeginsGap gap → Solid (λ c. c == k)
    → is_continue k ≡ false → begins_char k (x ++ gap) ≡ false
hash_none k [] [] run is solid no_cont = refl
hash_none k [] (c ∷ t) run is solid no_cont = solid c is
hash_none k (c ∷ x) gap run is solid no_cont = not_among c k is_continue
    (and_parts (is_continue c) (list_all is_continue x) run).0 no_cont

raw_none : (x gap : List ℕ) → list_all is_continue x ≡ true → BeginsGap gap → begins_hashed_quote (x ++ gap) ≡ false
raw_none [] [] run is = refl
raw_none [] (c ∷ t) run is = ap (λ b. begins_char 34 (cond b (after_run is_hash t) (c ∷ t)))
    (code_solid 35 refl refl c is) ∙ code_solid 34 refl refl c is
raw_none (c ∷ x) gap run is =
    let k : is_continue c ≡ true = (and_parts (is_continue c) (list_all is_continue x) run).0 in
    ap (λ b. begins_char 34 (cond b (after_run is_hash (x ++ gap)) (c ∷ x ++ gap)))
    (not_among c 35 is_continue k (continue_ascii 35 (lit< tt)))
    ∙ not_among c 34 is_continue k (continue_ascii 34 (lit< tt))

none_all : (a b r : Bool) → ((a && false) || ((b && false) || (r && false))) ≡ false
none_all true true true = refl
none_all true true false = refl
none_all true false true = refl
none_all true false false = refl
none_all false true true = refl
none_all false true false = refl
none_all false false true = refl
none_all false false false = refl

none_of : (a b r x y z v w : Bool) → x ≡ false → y ≡ false → z ≡ false → v ≡ false → w ≡ false
    → ((a && (x || (y || z))) || ((b && (x || z)) || (r && (v || w)))) ≡ false
none_of a b r x y z v w p q s t u =
    ap (λ k. (a && (k || (y || z))) || ((b && (k || z)) || (r && (v || w)))) p
    ∙ ap (λ k. (a && (k || z)) || ((b && z) || (r && (v || w)))) q
    ∙ ap (λ k. (a && k) || ((b && k) || (r && (v || w)))) s
    ∙ ap (λ k. (a && false) || ((b && false) || (r && (k || w)))) t
    ∙ ap (λ k. (a && false) || ((b && false) || (r && k))) u
    ∙ none_all a b r

second_raw : (more gap : List ℕ) → list_all is_continue more ≡ true → BeginsGap gap
    → (begins_char 114 (more ++ gap) && begins_hashed_quote (drop 1 (more ++ gap))) ≡ false
second_raw [] [] run is = refl
second_raw [] (c ∷ t) run is = ap (λ b. b && begins_hashed_quote t) (code_solid 114 refl refl c is)
second_raw (c ∷ x) gap run is = ap (λ b. c == 114 && b) (raw_none x gap
    (and_parts (is_continue c) (list_all is_continue x) run).1 is) ∙ and_false (c == 114)

otherwise_gap : (c : ℕ) (more gap : List ℕ) → list_all is_continue more ≡ true → BeginsGap gap
    → begins_otherwise (c ∷ more ++ gap) ≡ false
otherwise_gap c more gap run is =
    let u = more ++ gap in
    none_of (c == 98) (c == 99) (c == 114) (begins_char 34 u) (begins_char 39 u)
    (begins_char 114 u && begins_hashed_quote (drop 1 u)) (begins_hashed_quote u)
    (begins_char 35 u && first_passes is_start (drop 1 u))
    (hash_none 34 more gap run is (code_solid 34 refl refl) (continue_ascii 34 (lit< tt)))
    (hash_none 39 more gap run is (code_solid 39 refl refl) (continue_ascii 39 (lit< tt)))
    (second_raw more gap run is)
    (raw_none more gap run is)
    (ap (λ b. b && first_passes is_start (drop 1 u)) (hash_none 35 more gap run is (code_solid 35 refl refl)
    (continue_ascii 35 (lit< tt))))

run_end : (run after gap : List ℕ) → BeginsGap gap → IsRun is_continue run after → IsRun is_continue run gap
run_end run after gap is r = row_gap is_continue run [] after gap continue_solid is r

pub stays_before_gap : StaysBeforeGap
stays_before_gap (QuotedLexeme p parts x) after gap keeps (l, suffix) is = (l, suffix_gap x after gap is suffix)
stays_before_gap (RawLexeme p n body x) after gap keeps (l, suffix) is = (l, suffix_gap x after gap is suffix)
stays_before_gap (CharacterLexeme b inside x) after gap keeps (l, suffix) is = (l, suffix_gap x after gap is suffix)
stays_before_gap (BasedLexeme letter digits) after gap keeps (l, run) is = (l, run_end digits after gap is run)
stays_before_gap (DecimalLexeme d more f e x) after gap keeps l is = decimal_gap d more f e x after gap is l
stays_before_gap (IdentifierLexeme c more) after gap keeps (l, run, other) is =
    (l, run_end more after gap is run, none_otherwise (c ∷ more ++ gap) (otherwise_gap c more gap run.each is))
stays_before_gap (DelimiterLexeme c) after gap keeps l is = l
stays_before_gap (MarkLexeme c) after gap keeps l is = absurd keeps
