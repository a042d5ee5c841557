-- Proofs about the search for the first byte at which a literal or a comment may begin: neither begins at an earlier
-- byte.
use Rattle.rl_syntax.proofs.Common.{◌≡◌, ℕ, zero, suc, ◌+◌, ◌<◌, ◌≤◌, Bool, true, false, not, ◌&&◌, ◌||◌, ◌==◌, nat_le, cond, List, [], ◌∷◌, ◌++◌, Some, None, length, take, drop, get_or, lit<, nat_lt, refl, sym, ap, subst, ◌∙◌, arith, agree_below_at, and_from, and_parts, nat_tests, take-append-drop, IsCharBoundary-start, IsCharBoundary-after_ascii, IsUtf8-take, chars-append, chars-IsAscii, is_ascii_alphabetic, is_ascii_digit, chars, IsAscii, IsCharBoundary, IsUtf8}
use Rattle.rl_syntax.proofs.BeginsLemmas.{begins_bytes}
use Rattle.rl_syntax.proofs.UnlikelyPlaces.{is_past}
use Rattle.rl_lexer.proofs.LexemeRows.{not_true}
use Rattle.rl_syntax.specs.Texts.{begins, begins_char, is_among, is_white, is_continue}
use Rattle.rl_lexer.specs.Lexemes.{IdentifierForm, LiteralForm, DelimiterForm, MarkForm, delimiters, marks}
use Rattle.rl_syntax.specs.Reading.{truth_text}
use Rattle.rl_syntax.specs.Classes.{after_run}
use Rattle.rl_lexer.specs.Sources.{PlainKind, StrayKind, SourceBefore, IsLiteralText, source_text}
use Rattle.rl_lexer.specs.Mirrors.LexemeAt.{StrayHead, LetterBHead, LetterCHead, LetterRHead, OtherLetterHead, word_at, begins_word, is_prefix_letter, is_always_token, mark_form, head_class, lexeme_at, begins_raw_after}
use Rattle.rl_lexer.specs.Mirrors.SourceAt.{after_bad_quote, any_at, of_kind, opens, or_stray, other_at}
use Rattle.rl_syntax.specs.Mirrors.RunsAt.{is_ascii_id_continue}
use Rattle.rl_lexer.specs.Mirrors.LiteralsAt.{HasOnlyOtherTokens, Reaches, past_word}
use Rattle.rl_syntax.specs.Mirrors.UnlikelyAt.{is_likely_mark, is_likely_head, goes_on_likely, may_begin, begins_none, first_or, unlikely_after, literal_free_prefix_len, last_of, byte_before}
use Rattle.rl_syntax.proofs.AsciiRuns.{held_agrees}
use Rattle.rl_lexer.proofs.LexemeAnswers.{form_before, no_lexeme}
use Rattle.rl_lexer.proofs.LexemeFronts.{at_class, class_start, class98, class99, class114, stray_class, start_ascii}
use Rattle.rl_lexer.proofs.LiteralSteps.{holds_skipped, reach_token, reach_white}
use Rattle.rl_lexer.proofs.Pieces.{is_equal}
use Rattle.rl_lexer.proofs.SourceFronts.{any_found, plain_before}
use Rattle.rl_lexer.proofs.WordsAndMarks.{mark_found, word_found}

-- ---- facts about ASCII

implied : (a b : Bool) → (not a || b) ≡ true → a ≡ true → b ≡ true
implied true b h is = h
implied false b h is = absurd (cc)

-- Whether an ASCII character begins an identifier, and not a literal.
abbrev word_here : ℕ → Bool
word_here c = is_ascii_id_continue c && not (is_likely_head c)

abbrev word_facts : ℕ → Bool
word_facts c = (not (is_prefix_letter c) && ((c == 95 || is_ascii_alphabetic c) && not (is_white c)))
    && (not (c == 47) && (not (is_white c) && (not (c == 116) && not (c == 102))))

word_table : (c : ℕ) → c < 128 → word_here c ≡ true → word_facts c ≡ true
word_table c low is = implied (word_here c) (word_facts c) (agree_below_at (λ k. not (word_here k) || word_facts k)
    (λ _. true) 128 c refl low) is

-- Whether an ASCII character begins neither an identifier, nor white space, nor a delimiter, nor a punctuation character.
abbrev stray_here : ℕ → Bool
stray_here c = not (is_ascii_id_continue c) && (not (is_likely_mark c) && (not (is_white c) && not (is_always_token c)))

abbrev none_of : ℕ → Bool
none_of c = not (c == 47) && (not (c == 39) && (not (c == 34) && (not (c == 98) && (not (c == 99) && not (c == 114)))))

abbrev stray_facts : ℕ → Bool
stray_facts c = none_of c && ((not (is_ascii_digit c) && not (is_among delimiters c))
    && (not (is_among marks c) && not ((c == 95 || is_ascii_alphabetic c) && not (is_white c))))

stray_table : (c : ℕ) → c < 128 → stray_here c ≡ true → stray_facts c ≡ true
stray_table c low is = implied (stray_here c) (stray_facts c)
    (agree_below_at (λ k. not (stray_here k) || stray_facts k) (λ _. true) 128 c refl low) is

-- ---- characters that begin an identifier, and not a literal

-- If an identifier doesn't begin with `tr` or `fa`, it is neither `true` nor `false`.
word_no_truth : (c : ℕ) (u after : List ℕ) (token : SourceBefore (c ∷ u) (PlainKind IdentifierForm) after)
    → ((c == 116) && begins_char 114 u) ≡ false → ((c == 102) && begins_char 97 u) ≡ false
    → IsLiteralText (PlainKind IdentifierForm) (source_text token.token) → ⊥
word_no_truth c u after token no_t no_f (b, is) =
    let whole : c ∷ u ≡ truth_text b ++ after = token.text_is ∙ ap (λ z. z ++ after) is in
    go b whole
  where
    go : (b : Bool) → c ∷ u ≡ truth_text b ++ after → ⊥
    go true e =
        let k : (begins_char 116 (truth_text true ++ after) && begins_char 114 (drop 1 (truth_text true ++ after)))
        ≡ false = subst (λ (z : List ℕ). (begins_char 116 z && begins_char 114 (drop 1 z)) ≡ false) e no_t in
        absurd (cc)
    go false e =
        let k : (begins_char 102 (truth_text false ++ after) && begins_char 97 (drop 1 (truth_text false ++ after)))
        ≡ false = subst (λ (z : List ℕ). (begins_char 102 z && begins_char 97 (drop 1 z)) ≡ false) e no_f in
        absurd (cc)

reach_word : (c : ℕ) (u r : List ℕ) → c < 128 → word_here c ≡ true → Reaches (after_run is_continue u) r
    → Reaches (c ∷ u) r
reach_word c u r low here more =
    let facts = and_parts (not (is_prefix_letter c) && ((c == 95 || is_ascii_alphabetic c) && not (is_white c)))
    (not (c == 47) && (not (is_white c) && (not (c == 116) && not (c == 102)))) (word_table c low here) in
    let slash = and_parts (not (c == 47)) (not (is_white c) && (not (c == 116) && not (c == 102))) facts.1 in
    let white = and_parts (not (is_white c)) (not (c == 116) && not (c == 102)) slash.1 in
    let truth = and_parts (not (c == 116)) (not (c == 102)) white.1 in
    let begins : begins_word c ≡ true = ap (λ b. not (is_prefix_letter c) && b) (start_ascii c low) ∙ facts.0 in
    let token = plain_before (c ∷ u) (after_run is_continue u) IdentifierForm
    (word_found (c ∷ u) u (after_run is_continue u) c refl begins refl) in
    reach_token c u (after_run is_continue u) r (PlainKind IdentifierForm) (not_true (c == 47) slash.0)
    (not_true (is_white c) white.0) token (word_no_truth c u (after_run is_continue u) token
    (ap (λ b. b && begins_char 114 u) (not_true (c == 116) truth.0)) (ap (λ b. b && begins_char 97 u)
    (not_true (c == 102) truth.1))) more

-- ---- letters that don't continue a literal

-- For each ASCII character `k` except NUL, the text `u` begins with `k` exactly if the byte `next` is `k`.
abbrev Agrees : ℕ → List ℕ → Type 0
Agrees next u = (k : ℕ) → 0 < k → k < 128 → begins_char k u ≡ (next == k)

letter_b : (u : List ℕ) → begins_char 34 u ≡ false → begins_char 39 u ≡ false → begins_char 114 u ≡ false
    → lexeme_at (98 ∷ u) ≡ word_at u
letter_b u quote apostrophe raw = at_class 98 u LetterBHead class98 ∙ rw (quote, apostrophe, raw) refl

letter_c : (u : List ℕ) → begins_char 34 u ≡ false → begins_char 114 u ≡ false → lexeme_at (99 ∷ u) ≡ word_at u
letter_c u quote raw = at_class 99 u LetterCHead class99 ∙ rw (quote, raw) refl

letter_r : (u : List ℕ) → begins_char 34 u ≡ false → begins_char 35 u ≡ false → lexeme_at (114 ∷ u) ≡ word_at u
letter_r [] quote hash = at_class 114 [] LetterRHead class114
letter_r (d ∷ u) quote hash = at_class 114 (d ∷ u) LetterRHead class114 ∙ rw (hash, quote) refl

reach_letter : (c : ℕ) (u r : List ℕ) → (c == 47) ≡ false → is_white c ≡ false → lexeme_at (c ∷ u) ≡ word_at u
    → ((c == 116) && begins_char 114 u) ≡ false → ((c == 102) && begins_char 97 u) ≡ false
    → Reaches (after_run is_continue u) r → Reaches (c ∷ u) r
reach_letter c u r slash white word no_t no_f more =
    let token = plain_before (c ∷ u) (after_run is_continue u) IdentifierForm
    (form_before (c ∷ u) (IdentifierForm, after_run is_continue u) word) in
    reach_token c u (after_run is_continue u) r (PlainKind IdentifierForm) slash white token
    (word_no_truth c u (after_run is_continue u) token no_t no_f) more

-- A delimiter or a punctuation character isn't a literal.
mark_no_literal : (d : Bool) (c : ℕ) (text : List ℕ) → IsLiteralText (PlainKind (cond d (DelimiterForm c) (MarkForm c)))
    text → ⊥
mark_no_literal true c text is = is
mark_no_literal false c text is = is

reach_mark : (c : ℕ) (u r : List ℕ) → (c == 47) ≡ false → is_white c ≡ false → is_always_token c ≡ true → Reaches u r
    → Reaches (c ∷ u) r
reach_mark c u r slash white mark more =
    let token = plain_before (c ∷ u) u (mark_form c) (mark_found (c ∷ u) u c (mark_form c) refl mark refl) in
    reach_token c u u r (PlainKind (mark_form c)) slash white token
    (mark_no_literal (is_among delimiters c) c (source_text token.token)) more

no_raw : (u : List ℕ) → begins_raw_after u false ≡ false
no_raw [] = refl
no_raw (d ∷ u) = refl

reach_stray : (c : ℕ) (u r : List ℕ) → c < 128 → stray_here c ≡ true → is_white c ≡ false → Reaches u r
    → Reaches (c ∷ u) r
reach_stray c u r low here white more =
    let facts = and_parts (none_of c) ((not (is_ascii_digit c) && not (is_among delimiters c))
    && (not (is_among marks c) && not ((c == 95 || is_ascii_alphabetic c) && not (is_white c))))
    (stray_table c low here) in
    let a = and_parts (not (c == 47)) (not (c == 39) && (not (c == 34)
    && (not (c == 98) && (not (c == 99) && not (c == 114))))) facts.0 in
    let b = and_parts (not (c == 39)) (not (c == 34) && (not (c == 98) && (not (c == 99) && not (c == 114)))) a.1 in
    let d = and_parts (not (c == 34)) (not (c == 98) && (not (c == 99) && not (c == 114))) b.1 in
    let e = and_parts (not (c == 98)) (not (c == 99) && not (c == 114)) d.1 in
    let f = and_parts (not (c == 99)) (not (c == 114)) e.1 in
    let g = and_parts (not (is_ascii_digit c) && not (is_among delimiters c))
    (not (is_among marks c) && not ((c == 95 || is_ascii_alphabetic c) && not (is_white c))) facts.1 in
    let h = and_parts (not (is_ascii_digit c)) (not (is_among delimiters c)) g.0 in
    let i = and_parts (not (is_among marks c)) (not ((c == 95 || is_ascii_alphabetic c) && not (is_white c))) g.1 in
    let start = start_ascii c low ∙ not_true ((c == 95 || is_ascii_alphabetic c) && not (is_white c)) i.1 in
    let head : head_class c ≡ StrayHead =
    stray_class c start (not_true (is_among delimiters c) h.1) (not_true (c == 47) a.0)
    (not_true (is_among marks c) i.0) (not_true (is_ascii_digit c) h.0) (not_true (c == 34) d.0)
    (not_true (c == 39) b.0) in
    let none : lexeme_at (c ∷ u) ≡ None = at_class c u StrayHead head in
    let other : other_at (c ∷ u) ≡ None = rw (not_true (c == 47) a.0, not_true (c == 39) b.0, not_true (c == 114) f.1)
    refl in
    let shut : opens (c ∷ u) ≡ false = rw (
      opens,
      not_true (c == 47) a.0,
      not_true (c == 34) d.0,
      not_true (c == 98)
          e.0,
      not_true (c == 99) f.0,
      not_true (c == 114) f.1,
      not_true (c == 39) b.0,
      no_raw u,
    ) refl in
    let any : any_at (c ∷ u) ≡ Some (StrayKind, u) = ap (λ o. or_stray o (c ∷ u)) other
    ∙ ap (λ b. cond b (of_kind (PlainKind LiteralForm) (after_bad_quote (c ∷ u))) (Some (StrayKind, u))) shut in
    reach_token c u u r StrayKind (not_true (c == 47) a.0) white
    (any_found (c ∷ u) (StrayKind, u) (no_lexeme (c ∷ u) none) any) (λ is. is) more

-- ---- single bytes at which neither a literal nor a comment begins

low_of : (p c : ℕ) → is_past (p, c) ≡ true → c < 128
low_of p c h = go (nat_le 128 c) refl h
  where
    marks_low : (q a s : Bool) (x : Bool) → not ((q || a || s || true) || x) ≡ true → ⊥
    marks_low true a s x h = cc
    marks_low false true s x h = cc
    marks_low false false true x h = cc
    marks_low false false false x h = cc

    go : (b : Bool) → nat_le 128 c ≡ b → is_past (p, c) ≡ true → c < 128
    go true e h = absurd (marks_low (c == 34) (c == 39) (c == 47) (not (is_ascii_id_continue p) && is_likely_head c)
        (ap (λ b. not ((c == 34 || c == 39 || c == 47 || b) || (not (is_ascii_id_continue p) && is_likely_head c))) (sym e)
        ∙ h))
    go false e h = grind (arith, nat_tests)

parts_of : (m w h : Bool) → not (m || (not w && h)) ≡ true → (not m ≡ true) × (w ≡ false → not h ≡ true)
parts_of true w h e = absurd (cc)
parts_of false true h e = (refl, λ k. absurd (cc))
parts_of false false h e = (refl, λ _. e)

slash_of : (q a s b : Bool) → not (q || a || s || b) ≡ true → s ≡ false
slash_of true a s b h = absurd (cc)
slash_of false true s b h = absurd (cc)
slash_of false false true b h = absurd (cc)
slash_of false false false b h = refl

-- Suppose that only white space, comments and tokens other than literals precede the text `r`. This is still so if one
-- character that begins neither an identifier, nor a literal, nor a comment is added at the start of the whole text.
reach_other : (c : ℕ) (u r : List ℕ) → c < 128 → is_ascii_id_continue c ≡ false → not (is_likely_mark c) ≡ true → Reaches u r
    → Reaches (c ∷ u) r
reach_other c u r low plain unlikely more = go (is_white c) (is_always_token c) refl refl
  where
    slash : (c == 47) ≡ false
    slash = slash_of (c == 34) (c == 39) (c == 47) (nat_le 128 c) unlikely

    go : (w m : Bool) → is_white c ≡ w → is_always_token c ≡ m → Reaches (c ∷ u) r
    go true m e f = reach_white c u r e more
    go false true e f = reach_mark c u r slash e f more
    go false false e f = reach_stray c u r low (rw (plain, unlikely, e, f) refl) e more

-- The facts about a byte `c` at which neither a literal nor a comment begins, where `p` is the byte before `c`: the
-- byte `c` is ASCII, is neither a quote, an apostrophe nor a slash, and an identifier that begins at `c` isn't a
-- literal.
abbrev Passes : ℕ → ℕ → List ℕ → List ℕ → Type 0
Passes p c u r =
    (c < 128) × (not (is_likely_mark c) ≡ true)
    × (is_ascii_id_continue p ≡ false → is_ascii_id_continue c ≡ true → Reaches (after_run is_continue u) r → Reaches (c ∷ u) r)

-- If the byte `p` before the byte `c` shows that neither a literal nor a comment begins at `c`, the facts `Passes` hold
-- for `c`.
passes_before : (p c : ℕ) (u r : List ℕ) → is_past (p, c) ≡ true → Passes p c u r
passes_before p c u r past =
    let parts = parts_of (is_likely_mark c) (is_ascii_id_continue p) (is_likely_head c) past in (
      low_of p c past,
      parts.0,
      λ plain word more. reach_word c u r (low_of p c past) (rw (word, parts.1 plain) refl)
          more,
    )

and_true : (b : Bool) → (b && true) ≡ b
and_true true = refl
and_true false = refl

or_false : (a b : Bool) → (a || b) ≡ false → (a || b || false) ≡ false
or_false true b h = absurd (cc)
or_false false true h = absurd (cc)
or_false false false h = refl

three : (a b d : Bool) → (a || b || d) ≡ false → (a ≡ false) × (b ≡ false) × (d ≡ false)
three true b d h = absurd (cc)
three false true d h = absurd (cc)
three false false true h = absurd (cc)
three false false false h = (refl, refl, refl)

-- If the byte `next` after the byte `c` shows that neither a literal nor a comment begins at `c`, the facts `Passes`
-- hold for `c`.
passes_letter : (p c next : ℕ) (u r : List ℕ) → Agrees next u → goes_on_likely c next ≡ false → Passes p c u r
passes_letter p c next u r agrees stops = go (c == 98) (c == 99) (c == 114) (c == 116) (c == 102) refl refl refl refl refl
    stops
  where
    here : (k : ℕ) → (c == k) ≡ true → Passes p k u r → Passes p c u r
    here k e is = subst (λ (z : ℕ). Passes p z u r) (sym (is_equal c k e)) is

    begun : (k : ℕ) → 0 < k → k < 128 → (next == k) ≡ false → begins_char k u ≡ false
    begun k some low is = agrees k some low ∙ is

    go : (b d e t f : Bool) → (c == 98) ≡ b → (c == 99) ≡ d → (c == 114) ≡ e → (c == 116) ≡ t → (c == 102) ≡ f
        → cond b (next == 34 || next == 39 || next == 114) (cond d (next == 34 || next == 114)
        (cond e (next == 34 || next == 35) (cond t (next == 114) (cond f (next == 97) true)))) ≡ false → Passes p c u r
    go true d e t f hb hd he ht hf h =
        let n = three (next == 34) (next == 39) (next == 114) h in
        here 98 hb (
          lit< tt,
          refl,
          λ plain word more. reach_letter 98 u r refl refl
              (letter_b u (begun 34 (lit< tt) (lit< tt) n.0) (begun 39 (lit< tt) (lit< tt) n.1)
              (begun 114 (lit< tt) (lit< tt) n.2)) refl refl more,
        )
    go false true e t f hb hd he ht hf h =
        let n = three (next == 34) (next == 114) false (or_false (next == 34) (next == 114) h) in
        here 99 hd (
          lit< tt,
          refl,
          λ plain word more. reach_letter 99 u r refl refl
              (letter_c u (begun 34 (lit< tt) (lit< tt) n.0) (begun 114 (lit< tt) (lit< tt) n.1)) refl refl more,
        )
    go false false true t f hb hd he ht hf h =
        let n = three (next == 34) (next == 35) false (or_false (next == 34) (next == 35) h) in
        here 114 he (
          lit< tt,
          refl,
          λ plain word more. reach_letter 114 u r refl refl
              (letter_r u (begun 34 (lit< tt) (lit< tt) n.0) (begun 35 (lit< tt) (lit< tt) n.1)) refl refl more,
        )
    go false false false true f hb hd he ht hf h =
        here 116 ht (
          lit< tt,
          refl,
          λ plain word more. reach_letter 116 u r refl refl
              (at_class 116 u OtherLetterHead (class_start 116 (start_ascii 116 (lit< tt)))) (begun 114 (lit< tt) (lit< tt) h) refl more,
        )
    go false false false false true hb hd he ht hf h =
        here 102 hf (
          lit< tt,
          refl,
          λ plain word more. reach_letter 102 u r refl refl
              (at_class 102 u OtherLetterHead (class_start 102 (start_ascii 102 (lit< tt)))) refl (begun 97 (lit< tt) (lit< tt) h) more,
        )
    go false false false false false hb hd he ht hf h = absurd (cc)

both : (m : Bool) → not (m && true) ≡ true → not m ≡ true
both true h = absurd (cc)
both false h = refl

-- If neither a literal nor a comment begins at the byte `c`, the facts `Passes` hold for `c`.
passes : (p c next : ℕ) (u r : List ℕ) → Agrees next u → begins_none p c next ≡ true → Passes p c u r
passes p c next u r agrees none = go (goes_on_likely c next) refl none
  where
    go : (g : Bool) → goes_on_likely c next ≡ g → not (may_begin (p, c) && g) ≡ true → Passes p c u r
    go true e none = passes_before p c u r (both (may_begin (p, c)) none)
    go false e none = passes_letter p c next u r agrees e

-- ---- sequences of bytes at which neither a literal nor a comment begins

-- Whether neither a literal nor a comment begins at any byte of a list, where `p` is the byte before the list and
-- `next` is the byte after the list.
abbrev none_in : ℕ → List ℕ → ℕ → Bool
none_in p [] next = true
none_in p (c ∷ cs) next = begins_none p c (first_or next cs) && none_in c cs next

agrees_in : (next : ℕ) (cs t : List ℕ) → Agrees next t → Agrees (first_or next cs) (cs ++ t)
agrees_in next [] t agrees = agrees
agrees_in next (d ∷ cs) t agrees = λ k some low. refl

pub reach_front : (p next : ℕ) (cs t r : List ℕ) → Agrees next t → none_in p cs next ≡ true
    → Reaches (past_word (last_of p cs) t) r → Reaches (past_word p (cs ++ t)) r
reach_front p next [] t r agrees all h = h
reach_front p next (c ∷ cs) t r agrees all h = go (reach_front c next cs t r agrees parts.1 h) (is_ascii_id_continue p)
    (is_ascii_id_continue c) refl refl
  where
    parts : (begins_none p c (first_or next cs) ≡ true) × (none_in c cs next ≡ true)
    parts = and_parts (begins_none p c (first_or next cs)) (none_in c cs next) all

    facts : Passes p c (cs ++ t) r
    facts = passes p c (first_or next cs) (cs ++ t) r (agrees_in next cs t agrees) parts.0

    run : (b : Bool) → is_ascii_id_continue c ≡ b → after_run is_continue (c ∷ (cs ++ t))
        ≡ cond b (after_run is_continue (cs ++ t)) (c ∷ (cs ++ t))
    run b e = ap (λ z. cond z (after_run is_continue (cs ++ t)) (c ∷ (cs ++ t))) (held_agrees true c facts.0 ∙ e)

    here : Reaches (past_word c (cs ++ t)) r → (b : Bool) → is_ascii_id_continue c ≡ b
        → Reaches (cond b (after_run is_continue (cs ++ t)) (cs ++ t)) r
    here more b e = subst (λ (z : Bool). Reaches (cond z (after_run is_continue (cs ++ t)) (cs ++ t)) r) e more

    go : Reaches (past_word c (cs ++ t)) r → (w v : Bool) → is_ascii_id_continue p ≡ w → is_ascii_id_continue c ≡ v
        → Reaches (past_word p (c ∷ (cs ++ t))) r
    go more true true e f = subst (λ (z : List ℕ). Reaches z r)
        (sym (ap (λ b. cond b (after_run is_continue (c ∷ (cs ++ t))) (c ∷ (cs ++ t))) e ∙ run true f))
        (here more true f)
    go more true false e f = subst (λ (z : List ℕ). Reaches z r)
        (sym (ap (λ b. cond b (after_run is_continue (c ∷ (cs ++ t))) (c ∷ (cs ++ t))) e ∙ run false f))
        (reach_other c (cs ++ t) r facts.0 f facts.1 (here more false f))
    go more false true e f = subst (λ (z : List ℕ). Reaches z r)
        (sym (ap (λ b. cond b (after_run is_continue (c ∷ (cs ++ t))) (c ∷ (cs ++ t))) e))
        (facts.2 e f (here more true f))
    go more false false e f = subst (λ (z : List ℕ). Reaches z r)
        (sym (ap (λ b. cond b (after_run is_continue (c ∷ (cs ++ t))) (c ∷ (cs ++ t))) e))
        (reach_other c (cs ++ t) r facts.0 f facts.1 (here more false f))

-- ---- the bytes before the first one at which a literal or a comment may begin

-- If a list of bytes is split after n bytes, the first byte of the list is the first byte of the first part. If n is 0,
-- it is the first byte of the second part.
first_same : (n : ℕ) (bs : List ℕ) → first_or (first_or 0 (drop n bs)) (take n bs) ≡ first_or 0 bs
first_same zero bs = refl
first_same (suc n) [] = refl
first_same (suc n) (b ∷ bs) = refl

front_up_to : (n p : ℕ) (bs : List ℕ) → n ≤ unlikely_after p bs
    → none_in p (take n bs) (first_or 0 (drop n bs)) ≡ true
front_up_to zero p bs h = refl
front_up_to (suc n) p [] h = absurd (omega arith)
front_up_to (suc n) p (b ∷ bs) h = go (begins_none p b (first_or 0 bs)) refl h (front_up_to n b bs)
  where
    go : (t : Bool) → begins_none p b (first_or 0 bs) ≡ t → suc n ≤ cond t (suc (unlikely_after b bs)) 0
        → (n ≤ unlikely_after b bs → none_in b (take n bs) (first_or 0 (drop n bs)) ≡ true)
        → none_in p (take (suc n) (b ∷ bs)) (first_or 0 (drop (suc n) (b ∷ bs))) ≡ true
    go true e h more = and_from (begins_none p b (first_or (first_or 0 (drop n bs)) (take n bs)))
        (none_in b (take n bs) (first_or 0 (drop n bs))) (ap (begins_none p b) (first_same n bs) ∙ e)
        (more (omega arith))
    go false e h more = absurd (omega arith)

-- A byte at which neither a literal nor a comment begins is ASCII.
none_low : (p c next : ℕ) → begins_none p c next ≡ true → c < 128
none_low p c next none = (passes p c next (next ∷ []) [] (λ k some low. refl) none).0

front_ascii : (p next : ℕ) (cs : List ℕ) → none_in p cs next ≡ true → IsAscii cs
front_ascii p next [] h i = omega arith
front_ascii p next (c ∷ cs) h zero = none_low p c (first_or next cs) (and_parts (begins_none p c (first_or next cs))
    (none_in c cs next) h).0
front_ascii p next (c ∷ cs) h (suc i) = front_ascii c next cs (and_parts (begins_none p c (first_or next cs))
    (none_in c cs next) h).1 i

-- For each ASCII character `k` except NUL, the first character of a text is `k` exactly if the first byte of the text
-- is `k`.
agrees_bytes : (rest : List ℕ) → IsUtf8 rest → Agrees (first_or 0 rest) (chars rest)
agrees_bytes rest u = λ k some low. first_char k (chars rest)
    ∙ sym (begins_bytes (k ∷ []) rest u (and_from (nat_lt k 128) true (below k low) refl)) ∙ first_byte k rest some
  where
    below : (k : ℕ) → k < 128 → nat_lt k 128 ≡ true
    below k low = grind (arith, nat_tests)

    first_char : (k : ℕ) (t : List ℕ) → begins_char k t ≡ begins (k ∷ []) t
    first_char k [] = refl
    first_char k (c ∷ t) = sym (and_true (c == k))

    unequal : (k : ℕ) → 0 < k → (0 == k) ≡ false
    unequal k some = grind (arith, nat_tests)

    first_byte : (k : ℕ) (t : List ℕ) → 0 < k → begins (k ∷ []) t ≡ (first_or 0 t == k)
    first_byte k [] some = sym (unequal k some)
    first_byte k (c ∷ t) some = and_true (c == k)

get_taken : (n : ℕ) (bs : List ℕ) (m : ℕ) → m < n → get_or (take n bs) m 0 ≡ get_or bs m 0
get_taken zero bs m h = absurd (omega arith)
get_taken (suc n) [] m h = refl
get_taken (suc n) (b ∷ bs) zero h = refl
get_taken (suc n) (b ∷ bs) (suc m) h = get_taken n bs m (omega arith)

pub unlikely-within : (bs : List ℕ) → literal_free_prefix_len bs ≤ length bs
unlikely-within bs = go 0 bs
  where
    go : (p : ℕ) (bs : List ℕ) → unlikely_after p bs ≤ length bs
    go p [] = omega arith
    go p (b ∷ bs) = step (begins_none p b (first_or 0 bs)) (go b bs)
      where
        step : (t : Bool) → unlikely_after b bs ≤ length bs → cond t (suc (unlikely_after b bs)) 0 ≤ suc (length bs)
        step true h = omega arith
        step false h = omega arith

pub unlikely-boundary : (bs : List ℕ) (n : ℕ) → IsUtf8 bs → n ≤ literal_free_prefix_len bs → IsCharBoundary bs n
unlikely-boundary bs zero u e = IsCharBoundary-start bs u
unlikely-boundary bs (suc m) u e =
    let long = unlikely-within bs in
    let whole = front_up_to (suc m) 0 bs e in
    let low : get_or (take (suc m) bs) m 0 < 128 = front_ascii 0 (first_or 0 (drop (suc m) bs)) (take (suc m) bs) whole
    m in
    let same = get_taken (suc m) bs m (omega arith) in
    let next : m + 1 ≡ suc m = omega arith in
    subst (IsCharBoundary bs) next (IsCharBoundary-after_ascii bs m u (omega arith) (omega (arith, low, same)))

-- The code skips bytes at which neither a literal nor a comment begins. If the last skipped byte is an identifier
-- character, the code also skips the identifier characters after it. The skipped text contains only tokens that aren't
-- literals.
pub unlikely-reaches : (bs rest : List ℕ) (n : ℕ) (r : List ℕ) → IsUtf8 bs → IsUtf8 rest → n ≤ literal_free_prefix_len bs
    → rest ≡ drop n bs → Reaches (past_word (byte_before bs n) (chars rest)) r → Reaches (chars bs) r
unlikely-reaches bs rest n r u v e cut reaches =
    let front = take n bs in
    let next = first_or 0 (drop n bs) in
    let at = unlikely-boundary bs n u e in
    let all = front_up_to n 0 bs e in
    let whole : chars bs ≡ front ++ chars rest =
    ap chars (sym (take-append-drop n bs)) ∙ chars-append front (drop n bs) (IsUtf8-take bs n u at)
    ∙ ap (λ z. z ++ chars (drop n bs)) (chars-IsAscii front (front_ascii 0 next front all))
    ∙ ap (λ z. front ++ chars z) (sym cut) in
    let agrees : Agrees next (chars rest) = subst (λ (z : List ℕ). Agrees (first_or 0 z) (chars rest)) cut
    (agrees_bytes rest v) in
    subst (λ (z : List ℕ). Reaches z r) (sym whole) (reach_front 0 next front (chars rest) r agrees all reaches)

-- The bytes that the code skips contain only tokens that aren't literals, as the contract of `skip_unlikely` states.
-- `before` is the last skipped byte.
pub unlikely-holds : (bs rest past next : List ℕ) (n before : ℕ) → IsUtf8 bs → IsUtf8 rest → n ≤ literal_free_prefix_len bs
    → rest ≡ drop n bs → before ≡ byte_before bs n → past ≡ past_word before (chars rest) → Reaches past next
    → HasOnlyOtherTokens (chars bs) next
unlikely-holds bs rest past next n before u v e cut is word more =
    let reaches = unlikely-reaches bs rest n next u v e cut (subst (λ z. Reaches z next)
    (word ∙ ap (λ b. past_word b (chars rest)) is) more) in
    holds_skipped (chars bs) reaches.start next reaches.skipped reaches.holds
