-- Invalid quoted literals such as `'ab'`: `after_bad_quote` consumes exactly these.
use Rattle.rl_syntax.proofs.Common.{◌≡◌, ◌≢◌, ℕ, inl, inr, lit<, Bool, true, false, not, ◌&&◌, ◌||◌, ◌==◌, cond, List, [], ◌∷◌, ◌++◌, append_assoc, Option, Some, None, drop, refl, sym, ◌∙◌, ap, subst, and_parts, or_parts, ne_eqb, none-some, list_all, is_ascii_digit, option_map, option_and_then, is_xid_continue-ascii}
use Rattle.rl_syntax.proofs.Basics.{false_unless}
use Rattle.rl_syntax.specs.Texts.{first_passes, is_white, is_start, is_continue, begins_char}
use Rattle.rl_syntax.specs.Classes.{after_run}
use Rattle.rl_lexer.specs.Lexemes.{BodyPart, PlainPart, EscapedPart, body_text, IsRun, IsLexedSuffix, begins_raw_identifier}
use Rattle.rl_lexer.specs.Mirrors.LexemeAt.{after_suffix, begins_quote}
use Rattle.rl_lexer.specs.Mirrors.SourceAt.{after_name, after_any_name, opens, stops_quote, after_any, after_part, after_next_quote, after_other, after_closing, past_closing, after_bare, after_bad_quote}
use Rattle.rl_lexer.specs.BadQuotes.{BadQuote, WordQuote, RawWordQuote, DigitQuote, OtherQuote, ByteQuote, bad_quote_text, IsQuoteBody, begins_escape, begins_word_or_escape, IsBadQuote}
use Rattle.rl_lexer.proofs.Comments.{chosen, chosen3, same_Some}
use Rattle.rl_lexer.proofs.LexemeFound.{run_found, suffix_found}
use Rattle.rl_lexer.proofs.LexemeFronts.{start_ascii}
use Rattle.rl_lexer.proofs.LexemeRows.{not_among, run_past, suffix_past}
use Rattle.rl_lexer.proofs.Pieces.{is_equal}
use Rattle.rl_lexer.proofs.SourceNames.{name_past, NameBefore, name_found, raw_rest}

-- ---- characters

pub continue_39 : is_continue 39 ≡ false
continue_39 = ap (λ b. b && not (is_white 39)) (is_xid_continue-ascii 39 (lit< tt))

continue_35 : is_continue 35 ≡ false
continue_35 = ap (λ b. b && not (is_white 35)) (is_xid_continue-ascii 35 (lit< tt))

three_false : (a b d : Bool) → not (a || b || d) ≡ true → (a ≡ false) × (b ≡ false) × (d ≡ false)
three_false true b d h = absurd (cc)
three_false false true d h = absurd (cc)
three_false false false true h = absurd (cc)
three_false false false false h = (refl, refl, refl)

and_false : (b : Bool) → (b && false) ≡ false
and_false true = refl
and_false false = refl

second_false : (a b d : Bool) → b ≡ false → (a && b && d) ≡ false
second_false true true d h = absurd (cc)
second_false true false d h = refl
second_false false b d h = refl

or_right : (a b : Bool) → b ≡ true → (a || b) ≡ true
or_right true b h = refl
or_right false b h = h

first_of : (test : ℕ → Bool) (a b : List ℕ) → first_passes test (a ++ b) ≡ false → first_passes test a ≡ false
first_of test [] b h = refl
first_of test (c ∷ a) b h = h

first_on : (test : ℕ → Bool) (a b : List ℕ) → first_passes test a ≡ false → first_passes test b ≡ false
    → first_passes test (a ++ b) ≡ false
first_on test [] b h k = k
first_on test (c ∷ a) b h k = h

-- ---- the text up to the next apostrophe, part by part

next_now : (t : List ℕ) → after_next_quote (39 ∷ t) ≡ Some t
next_now [] = refl
next_now (e ∷ t) = refl

next_part : (s t : List ℕ) (c : ℕ) → s ≡ c ∷ t → c ≢ 39 → after_next_quote s
    ≡ option_and_then after_next_quote (after_part c t)
next_part s t c e other = ap after_next_quote e ∙ go t (ne_eqb c 39 other)
  where
    ends : (a b : Bool) → None ≡ option_and_then after_next_quote (cond a None (cond b None (Some [])))
    ends true b = refl
    ends false true = refl
    ends false false = refl

    more : (a b : Bool) (d : ℕ) (u : List ℕ) → cond a (after_next_quote u) (cond b None (after_next_quote (d ∷ u)))
        ≡ option_and_then after_next_quote (cond a (Some u) (cond b None (Some (d ∷ u))))
    more true b d u = refl
    more false true d u = refl
    more false false d u = refl

    go : (t : List ℕ) → (c == 39) ≡ false → after_next_quote (c ∷ t)
        ≡ option_and_then after_next_quote (after_part c t)
    go [] h = ap (λ b. cond b (Some []) None) h ∙ ends (c == 92) (stops_quote c [])
    go (d ∷ u) h =
        ap (λ b. cond b (Some (d ∷ u))
        (cond (c == 92) (after_next_quote u) (cond (stops_quote c (d ∷ u)) None (after_next_quote (d ∷ u))))) h
        ∙ more (c == 92) (stops_quote c (d ∷ u)) d u

pub next_passes : (s t u : List ℕ) (c : ℕ) → s ≡ c ∷ t → c ≢ 39 → after_part c t ≡ Some u → after_next_quote u
    ≡ after_next_quote s
next_passes s t u c e other part = sym (next_part s t c e other ∙ ap (option_and_then after_next_quote) part)

-- ---- the text after the next apostrophe

ends_line : (c : ℕ) (parts : List BodyPart) (t : List ℕ) → (c ≡ 10 → parts ≡ [])
    → (c == 10 && not (begins_char 39 (body_text parts ++ 39 ∷ t))) ≡ false
ends_line c [] t last = and_false (c == 10)
ends_line c (p ∷ parts) t last =
    ap (λ b. b && not (begins_char 39 (body_text (p ∷ parts) ++ 39 ∷ t)))
    (false_unless (c == 10) (λ h. let q : p ∷ parts ≡ [] = last (is_equal c 10 h) in absurd (cc)))

body_past : (parts : List BodyPart) (t : List ℕ) → IsQuoteBody parts → after_next_quote (body_text parts ++ 39 ∷ t)
    ≡ Some t
body_past [] t is = next_now t
body_past (PlainPart c ∷ parts) t (plain, last, is) =
    let rest = body_text parts ++ 39 ∷ t in
    let k = three_false (c == 39) (c == 92) (c == 47) plain in
    let goes_on : stops_quote c rest ≡ false =
    ap (λ b. b || (c == 10 && not (begins_char 39 rest))) k.2 ∙ ends_line c parts t last in
    let part : after_part c rest ≡ Some rest =
    ap (λ b. cond b (after_any rest) (cond (stops_quote c rest) None (Some rest))) k.1
    ∙ ap (λ b. cond b None (Some rest)) goes_on in
    let other : c ≢ 39 = λ e. let q : (c == 39) ≡ true = ap (λ d. d == 39) e in absurd (let z : true ≡ false = sym q
    ∙ k.0 in cc) in
    sym (next_passes (c ∷ rest) rest rest c refl other part) ∙ body_past parts t is
body_past (EscapedPart c ∷ parts) t is = body_past parts t is

backslash_here : (t : List ℕ) → (begins_char 92 t) ≡ first_passes begins_escape t
backslash_here [] = refl
backslash_here (c ∷ t) = refl

other_past : (parts : List BodyPart) (x t : List ℕ) → first_passes begins_escape (body_text parts) ≡ false
    → IsQuoteBody parts → IsLexedSuffix x t → after_other (body_text parts ++ 39 ∷ (x ++ t)) ≡ Some t
other_past parts x t first is suffix =
    let whole = body_text parts ++ 39 ∷ (x ++ t) in
    ap (λ b. cond b None (option_map after_suffix (after_next_quote whole)))
    (backslash_here whole ∙ first_on begins_escape (body_text parts) (39 ∷ (x ++ t)) first refl)
    ∙ ap (option_map after_suffix) (body_past parts (x ++ t) is)
    ∙ ap Some (suffix_past x t suffix)

-- ---- the text before the next apostrophe

abbrev QuoteBody : List ℕ → List ℕ → Type 0
QuoteBody t r = (parts : List BodyPart) × IsQuoteBody parts × (t ≡ body_text parts ++ 39 ∷ r)

body_ends : (c : ℕ) (t r : List ℕ) → (c == 39) ≡ true → t ≡ r → QuoteBody (c ∷ t) r
body_ends c t r h same = ([], tt, (let q : c ≡ 39 = is_equal c 39 h in cc))

body_escaped : (c e : ℕ) (t r : List ℕ) → (c == 92) ≡ true → QuoteBody t r → QuoteBody (c ∷ e ∷ t) r
body_escaped c e t r h (parts, is, same) = (EscapedPart e ∷ parts, is, (let q : c ≡ 92 = is_equal c 92 h in cc))

-- If a text begins with an apostrophe, the part of the text before its first apostrophe is empty.
no_parts : (parts : List BodyPart) (e : ℕ) (t r : List ℕ) → IsQuoteBody parts → e ∷ t ≡ body_text parts ++ 39 ∷ r → e
    ≡ 39 → parts ≡ []
no_parts [] e t r is same quote = refl
no_parts (PlainPart c ∷ parts) e t r is same quote =
    let k = three_false (c == 39) (c == 92) (c == 47) is.0 in
    let q : c ≡ 39 = cc in
    let z : (c == 39) ≡ true = ap (λ d. d == 39) q in
    absurd (let y : true ≡ false = sym z ∙ k.0 in cc)
no_parts (EscapedPart c ∷ parts) e t r is same quote = absurd (let q : 92 ≡ 39 = cc in let y : true ≡ false = ap
    (λ d. d == 92) q in cc)

body_plain : (c e : ℕ) (t r : List ℕ) → (c == 39) ≡ false → (c == 92) ≡ false → stops_quote c (e ∷ t) ≡ false
    → QuoteBody (e ∷ t) r → QuoteBody (c ∷ e ∷ t) r
body_plain c e t r a b goes_on (parts, is, same) =
    let k = or_parts (c == 47) (c == 10 && not (e == 39)) goes_on in (
      PlainPart c ∷ parts,
      (
        ap (λ x. not (x || c == 92 || c == 47)) a ∙ ap (λ x. not (x || c == 47)) b ∙ ap not k.0,
        λ line. no_parts parts e t r is same (quote (e == 39) refl
            (sym (ap (λ x. x && not (e == 39)) (ap (λ d. d == 10) line)) ∙ k.1)),
        is,
      ),
      ap (λ s. c ∷ s) same,
    )
  where
    quote : (x : Bool) → (e == 39) ≡ x → not (e == 39) ≡ false → e ≡ 39
    quote true h n = is_equal e 39 h
    quote false h n = absurd (let z : true ≡ false = sym (ap not h) ∙ n in cc)

next_found : (t r : List ℕ) → after_next_quote t ≡ Some r → QuoteBody t r
next_found [] r h = absurd (none-some r h)
next_found (c ∷ []) r h =
    elim (chosen (c == 39) (Some []) None (Some r) h) [
      | inl (a, x) ↦ body_ends c [] r a (same_Some [] r x)
      | inr (a, x) ↦ absurd (none-some r x)
    ]
next_found (c ∷ e ∷ t) r h =
    elim (chosen3 (c == 39) (c == 92) (Some (e ∷ t)) (after_next_quote t)
    (cond (stops_quote c (e ∷ t)) None (after_next_quote (e ∷ t))) (Some r) h) [
      | inl (a, x) ↦ body_ends c (e ∷ t) r a (same_Some (e ∷ t) r x)
      | inr (inl (_, a, x)) ↦ body_escaped c e t r a (next_found t r x)
      | inr (inr (a, b, x)) ↦ elim (chosen (stops_quote c (e ∷ t)) None (after_next_quote (e ∷ t)) (Some r) x) [
        | inl (d, y) ↦ absurd (none-some r y)
        | inr (d, y) ↦ body_plain c e t r a b d (next_found (e ∷ t) r y)
      ]
    ]

-- The text `t` contains an apostrophe. The record contains the text before the first apostrophe, and the suffix after
-- the apostrophe.
record OtherFound (t r : List ℕ) : Type 0 where
  pub parts : List BodyPart
  pub suffix : List ℕ
  pub first : first_passes begins_escape t ≡ false
  pub is_body : IsQuoteBody parts
  pub is_suffix : IsLexedSuffix suffix r
  pub text_is : t ≡ body_text parts ++ 39 ∷ (suffix ++ r)

other_found : (t r : List ℕ) → after_other t ≡ Some r → OtherFound t r
other_found t r h =
    elim (chosen (begins_char 92 t) None (option_map after_suffix (after_next_quote t)) (Some r) h) [
      | inl (a, x) ↦ absurd (none-some r x)
      | inr (a, x) ↦ go a (after_next_quote t) refl x
    ]
  where
    go : (begins_char 92 t) ≡ false → (o : Option (List ℕ)) → after_next_quote t ≡ o
        → option_map after_suffix o ≡ Some r → OtherFound t r
    go a None e x = absurd (none-some r x)
    go a (Some m) e x =
        let (parts, is, same) = next_found t m e in
        let (suffix, is_suffix, m_is) = suffix_found m in
        let ends : after_suffix m ≡ r = same_Some (after_suffix m) r x in
        record {
          parts = parts;
          suffix = suffix;
          first = sym (backslash_here t) ∙ a;
          is_body = is;
          is_suffix = subst (λ (z : List ℕ). IsLexedSuffix suffix z) ends is_suffix;
          text_is = same ∙ ap (λ z. body_text parts ++ 39 ∷ z) (m_is ∙ ap (λ z. suffix ++ z) ends);
        }

-- ---- the consumed text is an invalid quoted literal

abbrev pub FoundQuote : List ℕ → List ℕ → Type 0
FoundQuote t r = (q : BadQuote) × IsBadQuote q r × (t ≡ bad_quote_text q ++ r)

digit_found : (d : ℕ) (s : List ℕ) → is_ascii_digit d ≡ true
    → FoundQuote (39 ∷ d ∷ s) (past_closing (after_run is_continue s))
digit_found d s digit = let (run, is, same) = run_found is_continue s in go run (after_run is_continue s) is same
  where
    step : (run m : List ℕ) (k : ℕ) → IsRun is_continue run (k ∷ m) → s ≡ run ++ k ∷ m → (b : Bool) → (k == 39) ≡ b
        → FoundQuote (39 ∷ d ∷ s) (cond b m (k ∷ m))
    step run m k is same true h = (
      WordQuote d run,
      (ap (λ b. b || is_start d) digit, is.each),
      ap (λ x. 39 ∷ d ∷ x) (same ∙ ap (λ x. run ++ x ∷ m) (is_equal k 39 h) ∙ sym (append_assoc run (39 ∷ []) m)),
    )
    step run m k is same false h = (DigitQuote d run, (digit, is, h), ap (λ x. 39 ∷ d ∷ x) same)

    go : (run m : List ℕ) → IsRun is_continue run m → s ≡ run ++ m → FoundQuote (39 ∷ d ∷ s) (past_closing m)
    go run [] is same = (DigitQuote d run, (digit, is, refl), ap (λ x. 39 ∷ d ∷ x) same)
    go run (k ∷ m) is same = step run m k is same (k == 39) refl

closing_found : (t r : List ℕ) → after_closing t ≡ Some r → t ≡ 39 ∷ r
closing_found [] r h = absurd (none-some r h)
closing_found (c ∷ t) r h =
    elim (chosen (c == 39) (Some t) None (Some r) h) [
      | inl (a, x) ↦ ap (λ d. d ∷ t) (is_equal c 39 a) ∙ ap (λ z. 39 ∷ z) (same_Some t r x)
      | inr (a, x) ↦ absurd (none-some r x)
    ]

word_found : (t r : List ℕ) → option_and_then after_closing (after_any_name t) ≡ Some r → FoundQuote (39 ∷ t) r
word_found t r h = go (after_any_name t) refl h
  where
    closed : (run m : List ℕ) → m ≡ 39 ∷ r → run ++ m ≡ (run ++ 39 ∷ []) ++ r
    closed run m e = ap (λ z. run ++ z) e ∙ sym (append_assoc run (39 ∷ []) r)

    raw : (m : List ℕ) → m ≡ 39 ∷ r → begins_raw_identifier t ≡ true → NameBefore (drop 2 t) m
        → FoundQuote (39 ∷ t) r
    raw m e a (c, more, (start, run), same) = (
      RawWordQuote c more,
      (start, run.each),
      ap (λ x. 39 ∷ x) (raw_rest t a) ∙ ap (λ x. 39 ∷ 114 ∷ 35 ∷ x) (same ∙ ap (λ x. c ∷ x) (closed more m e)),
    )

    plain : (m : List ℕ) → m ≡ 39 ∷ r → NameBefore t m → FoundQuote (39 ∷ t) r
    plain m e (c, more, (start, run), same) = (
      WordQuote c more,
      (or_right (is_ascii_digit c) (is_start c) start, run.each),
      ap (λ x. 39 ∷ x) (same ∙ ap (λ x. c ∷ x) (closed more m e)),
    )

    go : (o : Option (List ℕ)) → after_any_name t ≡ o → option_and_then after_closing o ≡ Some r
        → FoundQuote (39 ∷ t) r
    go None e x = absurd (none-some r x)
    go (Some m) e x =
        elim (chosen (begins_raw_identifier t) (after_name (drop 2 t)) (after_name t) (Some m) e) [
          | inl (a, y) ↦ raw m (closing_found m r x) a (name_found (drop 2 t) m y)
          | inr (a, y) ↦ plain m (closing_found m r x) (name_found t m y)
        ]

bare_found : (t r : List ℕ) → after_bare t ≡ Some r → FoundQuote (39 ∷ t) r
bare_found [] r h = absurd (none-some r h)
bare_found (c ∷ t) r h =
    elim (chosen (is_ascii_digit c) (Some (past_closing (after_run is_continue t)))
    (cond (is_start c) (option_and_then after_closing (after_any_name (c ∷ t))) (after_other (c ∷ t))) (Some r) h) [
      | inl (a, x) ↦ subst (FoundQuote (39 ∷ c ∷ t)) (same_Some (past_closing (after_run is_continue t)) r x)
          (digit_found c t a)
      | inr (a, x) ↦ elim (chosen (is_start c) (option_and_then after_closing (after_any_name (c ∷ t)))
          (after_other (c ∷ t)) (Some r) x) [
            | inl (b, y) ↦ word_found (c ∷ t) r y
            | inr (b, y) ↦ other a b (other_found (c ∷ t) r y)
          ]
    ]
  where
    other : is_ascii_digit c ≡ false → is_start c ≡ false → OtherFound (c ∷ t) r → FoundQuote (39 ∷ c ∷ t) r
    other a b found =
        let first : begins_word_or_escape c ≡ false =
        ap (λ x. x || (is_ascii_digit c || is_start c)) found.first ∙ ap (λ x. x || is_start c) a ∙ b in
        let held : first_passes begins_word_or_escape (body_text found.parts ++ 39 ∷ (found.suffix ++ r)) ≡ false =
        ap (first_passes begins_word_or_escape) (sym found.text_is) ∙ first in (
          OtherQuote found.parts found.suffix,
          (
            first_of begins_word_or_escape (body_text found.parts) (39 ∷ (found.suffix ++ r)) held,
            found.is_body,
            found.is_suffix,
          ),
          ap (λ x. 39 ∷ x)
              (found.text_is ∙ sym (append_assoc (body_text found.parts) (39 ∷ found.suffix) r)),
        )

pub bad_quote_found : (t r : List ℕ) → after_bad_quote t ≡ Some r → FoundQuote t r
bad_quote_found [] r h = absurd (none-some r h)
bad_quote_found (c ∷ t) r h =
    elim (chosen (c == 39) (after_bare t) (cond (c == 98 && begins_char 39 t) (after_other (drop 1 t)) None)
    (Some r) h) [
      | inl (a, x) ↦ subst (λ (d : ℕ). FoundQuote (d ∷ t) r) (sym (is_equal c 39 a)) (bare_found t r x)
      | inr (a, x) ↦ elim (chosen (c == 98 && begins_char 39 t) (after_other (drop 1 t)) None (Some r) x) [
        | inl (b, y) ↦ byte t (and_parts (c == 98) (begins_char 39 t) b) (other_found (drop 1 t) r y)
        | inr (b, y) ↦ absurd (none-some r y)
      ]
    ]
  where
    byte : (t : List ℕ) → ((c == 98) ≡ true) × ((begins_char 39 t) ≡ true) → OtherFound (drop 1 t) r
        → FoundQuote (c ∷ t) r
    byte [] (letter, quote) found = absurd (cc)
    byte (d ∷ t) (letter, quote) found =
        let held : first_passes begins_escape (body_text found.parts ++ 39 ∷ (found.suffix ++ r)) ≡ false =
        ap (first_passes begins_escape) (sym found.text_is) ∙ found.first in (
          ByteQuote found.parts found.suffix,
          (
            first_of begins_escape (body_text found.parts) (39 ∷ (found.suffix ++ r)) held,
            found.is_body,
            found.is_suffix,
          ),
          ap (λ x. x ∷ d ∷ t) (is_equal c 98 letter) ∙ ap (λ x. 98 ∷ x ∷ t) (is_equal d 39 quote)
              ∙ ap (λ x. 98 ∷ 39 ∷ x)
              (found.text_is ∙ sym (append_assoc (body_text found.parts) (39 ∷ found.suffix) r)),
        )

-- ---- each invalid quoted literal is consumed

closed_row : (more t : List ℕ) → list_all is_continue more ≡ true → IsRun is_continue more (39 ∷ t)
closed_row more t each = record { each = each; ends = continue_39 }

no_raw : (c : ℕ) (more t : List ℕ) → list_all is_continue more ≡ true
    → begins_raw_identifier (c ∷ more ++ 39 ∷ t) ≡ false
no_raw c [] t each = second_false (c == 114) false (first_passes is_start t) refl
no_raw c (d ∷ more) t each = second_false (c == 114) (d == 35) (first_passes is_start (more ++ 39 ∷ t))
    (not_among d 35 is_continue (and_parts (is_continue d) (list_all is_continue more) each).0 continue_35)

word_past : (c : ℕ) (more t : List ℕ) → (is_ascii_digit c || is_start c) ≡ true → list_all is_continue more ≡ true
    → after_bare (c ∷ more ++ 39 ∷ t) ≡ Some t
word_past c more t kind each = go (is_ascii_digit c) refl
  where
    s : List ℕ
    s = more ++ 39 ∷ t

    chain : (a : Bool) → is_ascii_digit c ≡ a → after_bare (c ∷ s) ≡ cond a
        (Some (past_closing (after_run is_continue s)))
        (cond (is_start c) (option_and_then after_closing (after_any_name (c ∷ s))) (after_other (c ∷ s)))
    chain a h = ap (λ b. cond b (Some (past_closing (after_run is_continue s)))
        (cond (is_start c) (option_and_then after_closing (after_any_name (c ∷ s))) (after_other (c ∷ s)))) h

    go : (a : Bool) → is_ascii_digit c ≡ a → after_bare (c ∷ s) ≡ Some t
    go true h = chain true h ∙ ap (λ z. Some (past_closing z)) (run_past is_continue more (39 ∷ t)
        (closed_row more t each))
    go false h =
        let start : is_start c ≡ true = sym (ap (λ b. b || is_start c) h) ∙ kind in
        chain false h
        ∙ ap (λ b. cond b (option_and_then after_closing (after_any_name (c ∷ s))) (after_other (c ∷ s))) start
        ∙ ap (λ b. option_and_then after_closing (cond b (after_name (drop 2 (c ∷ s))) (after_name (c ∷ s))))
        (no_raw c more t each)
        ∙ ap (option_and_then after_closing) (name_past c more (39 ∷ t) (start, closed_row more t each))

raw_word_past : (c : ℕ) (more t : List ℕ) → is_start c ≡ true → list_all is_continue more ≡ true
    → after_bare (114 ∷ 35 ∷ c ∷ more ++ 39 ∷ t) ≡ Some t
raw_word_past c more t start each =
    let s = c ∷ more ++ 39 ∷ t in
    ap (λ b. cond b (option_and_then after_closing (after_any_name (114 ∷ 35 ∷ s))) (after_other (114 ∷ 35 ∷ s)))
    (start_ascii 114 (lit< tt))
    ∙ ap (λ b. option_and_then after_closing (cond b (after_name s) (after_name (114 ∷ 35 ∷ s)))) start
    ∙ ap (option_and_then after_closing) (name_past c more (39 ∷ t) (start, closed_row more t each))

stays : (t : List ℕ) → first_passes (λ d. d == 39) t ≡ false → past_closing t ≡ t
stays [] h = refl
stays (c ∷ t) h = ap (λ b. cond b t (c ∷ t)) h

bare_other : (t : List ℕ) → first_passes begins_word_or_escape t ≡ false → after_bare t ≡ after_other t
bare_other [] h = refl
bare_other (c ∷ t) h =
    let p = or_parts (begins_escape c) (is_ascii_digit c || is_start c) h in
    let q = or_parts (is_ascii_digit c) (is_start c) p.1 in
    ap (λ b. cond b (Some (past_closing (after_run is_continue t)))
    (cond (is_start c) (option_and_then after_closing (after_any_name (c ∷ t))) (after_other (c ∷ t)))) q.0
    ∙ ap (λ b. cond b (option_and_then after_closing (after_any_name (c ∷ t))) (after_other (c ∷ t))) q.1

-- If the first character of a text fails the test `begins_word_or_escape`, it fails the test `begins_escape`.
no_escape : (t : List ℕ) → first_passes begins_word_or_escape t ≡ false → first_passes begins_escape t ≡ false
no_escape [] h = refl
no_escape (c ∷ t) h = (or_parts (begins_escape c) (is_ascii_digit c || is_start c) h).0

pub bad_quote_past : (q : BadQuote) (t : List ℕ) → IsBadQuote q t → after_bad_quote (bad_quote_text q ++ t) ≡ Some t
bad_quote_past (WordQuote c more) t (kind, each) =
    ap (λ s. after_bare (c ∷ s)) (append_assoc more (39 ∷ []) t) ∙ word_past c more t kind each
bad_quote_past (RawWordQuote c more) t (start, each) =
    ap (λ s. after_bare (114 ∷ 35 ∷ c ∷ s)) (append_assoc more (39 ∷ []) t) ∙ raw_word_past c more t start each
bad_quote_past (DigitQuote c more) t (digit, run, free) =
    ap (λ b. cond b (Some (past_closing (after_run is_continue (more ++ t))))
    (cond (is_start c) (option_and_then after_closing (after_any_name (c ∷ more ++ t))) (after_other (c ∷ more ++ t))))
    digit
    ∙ ap (λ z. Some (past_closing z)) (run_past is_continue more t run)
    ∙ ap Some (stays t free)
bad_quote_past (OtherQuote parts x) t (first, is, suffix) =
    let whole = body_text parts ++ 39 ∷ (x ++ t) in
    ap after_bare (append_assoc (body_text parts) (39 ∷ x) t)
    ∙ bare_other whole (first_on begins_word_or_escape (body_text parts) (39 ∷ (x ++ t)) first
    (start_ascii 39 (lit< tt)))
    ∙ other_past parts x t (no_escape (body_text parts) first) is suffix
bad_quote_past (ByteQuote parts x) t (first, is, suffix) =
    ap after_other (append_assoc (body_text parts) (39 ∷ x) t) ∙ other_past parts x t first is suffix

opens_apostrophe : (b : Bool) → (b || true) ≡ true
opens_apostrophe true = refl
opens_apostrophe false = refl

pub bad_quote_opens : (q : BadQuote) (t : List ℕ) → opens (bad_quote_text q ++ t) ≡ true
bad_quote_opens (WordQuote c more) t = opens_apostrophe (begins_quote (bad_quote_text (WordQuote c more) ++ t))
bad_quote_opens (RawWordQuote c more) t = opens_apostrophe (begins_quote (bad_quote_text (RawWordQuote c more) ++ t))
bad_quote_opens (DigitQuote c more) t = opens_apostrophe (begins_quote (bad_quote_text (DigitQuote c more) ++ t))
bad_quote_opens (OtherQuote parts x) t = opens_apostrophe (begins_quote (bad_quote_text (OtherQuote parts x) ++ t))
bad_quote_opens (ByteQuote parts x) t = refl
