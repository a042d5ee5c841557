-- If one literal of a source is rewritten, all other tokens are lexed as before. The source must not begin with `#!`, unless
-- it begins with `#![`.
use Rattle.rl_syntax.proofs.Common.{◌≡◌, ℕ, ◌+◌, inl, inr, Bool, true, false, not, ◌||◌, ◌==◌, and_parts, both_ways, cond, List, [], ◌∷◌, ◌++◌, refl, sym, ◌∙◌, ap, subst, arith, codes, append_assoc}
use Rattle.rl_syntax.specs.Texts.{first_passes, begins, begins_char, byte_len, is_white}
use Rattle.rl_lexer.specs.Lexemes.{Lexeme, lexeme_text}
use Rattle.rl_lexer.specs.Sources.{CutSource, IsCutUpTo, without_byte_order_mark, IsScriptLine, IsWithoutLine, IsWithoutPreamble}
use Rattle.rl_lexer.specs.Skipping.{Skipped}
use Rattle.rl_lexer.proofs.Pieces.{is_equal, skipped_none}
use Rattle.rl_lexer.proofs.CutLemmas.{byte_len-append}
use Rattle.rl_style.specs.Recut.{IsRecutSource, KeepsTheSource, begins_with_code, placed_literal}
use Rattle.rl_style.proofs.FrontTests.{code_on, same_attribute, same_first, same_script}
use Rattle.rl_style.proofs.Recut.{Alike, Recut, alike_more, recut_ends}

abbrev is_mark : ℕ → Bool
is_mark c = c == 65279

-- The text consists of `mark`, which is a byte order mark or nothing, and of a source. If a source `u` replaces this source,
-- the text without its byte order mark is `u`. Either both sources begin with a byte order mark, or neither does.
record Marked (t : List ℕ) : Type 0 where
  pub mark : List ℕ
  pub text_is : t ≡ mark ++ without_byte_order_mark t
  pub goes : (u : List ℕ) → first_passes is_mark (without_byte_order_mark t) ≡ first_passes is_mark u → without_byte_order_mark (mark ++ u)
      ≡ u

unmarked : (u : List ℕ) → first_passes is_mark u ≡ false → without_byte_order_mark u ≡ u
unmarked [] h = refl
unmarked (c ∷ u) h = ap (λ b. cond b u (c ∷ u)) h

marked : (t : List ℕ) → Marked t
marked [] = record { mark = []; text_is = refl; goes = λ u e. unmarked u (sym e) }
marked (c ∷ t) = go (c == 65279) refl
  where
    go : (b : Bool) → (c == 65279) ≡ b → Marked (c ∷ t)
    go true h = record {
      mark = c ∷ [];
      text_is = ap (λ z. c ∷ z) (sym (ap (λ b. cond b t (c ∷ t)) h));
      goes = λ u e. ap (λ b. cond b u (c ∷ u)) h;
    }
    go false h =
        let same : without_byte_order_mark (c ∷ t) ≡ c ∷ t = ap (λ b. cond b t (c ∷ t)) h in
        record {
          mark = [];
          text_is = sym same;
          goes = λ u e. unmarked u (sym e ∙ ap (first_passes is_mark) same ∙ h);
        }

-- If the text after `#!` begins with `[`, the line isn't an interpreter's line.
no_line : (l : List ℕ) → begins (codes "[") l ≡ true → ((s : List ℕ) → Skipped l s → begins_char 91 s ≡ false) → ⊥
no_line [] h none = both_ways false refl h
no_line (c ∷ x) h none =
    let e : c ≡ 91 = is_equal c 91 (and_parts (c == 91) (begins [] x) h).0 in
    let here : Skipped (c ∷ x) (c ∷ x) = skipped_none (c ∷ x) (ap is_white e) (ap (λ z. z == 47) e) in
    both_ways (begins_char 91 (c ∷ x)) (none (c ∷ x) here) (ap (λ z. z == 91) e)

-- The text of a source without its byte order mark doesn't begin with `#!`, or begins with `#![`.
abbrev is_code : List ℕ → Bool
is_code t = not (begins (codes "#!") t) || begins (codes "#![") t

no_script : (t r : List ℕ) → is_code t ≡ true → IsScriptLine t r → ⊥
no_script t r h is = no_line (is.line ++ r) (sym (ap is_code is.text_is) ∙ h) is.no_attribute

mark_agrees : (lead a b : List ℕ) → Alike lead a b → first_passes is_mark a ≡ first_passes is_mark b
mark_agrees lead a b (inl e) = ap (first_passes is_mark) e
mark_agrees lead a b (inr (inl f)) = same_first is_mark (code_on 65279 refl) a b f
mark_agrees lead a b (inr (inr u)) = ap (first_passes is_mark) u.old_is ∙ go u.front u.raw u.quoted
    ∙ ap (first_passes is_mark) (sym u.new_is)
  where
    go : (f x y : List ℕ) → first_passes is_mark (f ++ (114 ∷ x)) ≡ first_passes is_mark (f ++ (34 ∷ y))
    go [] x y = refl
    go (c ∷ f) x y = refl

-- Two texts are equal up to an `r` in the first text and a quote in the second one. Either both satisfy `is_code`, or neither
-- does.
unquoted_code : (f x y : List ℕ) → is_code (f ++ (114 ∷ x)) ≡ is_code (f ++ (34 ∷ y))
unquoted_code [] x y = refl
unquoted_code (c ∷ []) x y = refl
unquoted_code (c ∷ d ∷ []) x y = refl
unquoted_code (c ∷ d ∷ e ∷ f) x y = refl

code_agrees : (lead a b : List ℕ) → Alike lead a b → is_code a ≡ is_code b
code_agrees lead a b (inl e) = ap is_code e
code_agrees lead a b (inr (inl f)) =
    ap (λ z. not z || begins (codes "#![") a) (same_script a b f)
    ∙ ap (λ z. not (begins (codes "#!") b) || z) (same_attribute a b f)
code_agrees lead a b (inr (inr u)) = ap is_code u.old_is ∙ unquoted_code u.front u.raw u.quoted
    ∙ ap is_code (sym u.new_is)

-- If a text doesn't begin with an interpreter's line, its body is the whole text.
body_is : (t body : List ℕ) → is_code t ≡ true → IsWithoutLine t body → body ≡ t
body_is t body h (inl is) = absurd (no_script t body h is)
body_is t body h (inr is) = is.0

-- A source consists of the text `mark`, which is a byte order mark or nothing, and of its body. If a body `u` begins as this
-- body does, the source `mark ++ u` has the body `u`.
pub record Preamble (t body : List ℕ) (at : ℕ) : Type 0 where
  pub mark : List ℕ
  pub text_is : t ≡ mark ++ body
  pub at_is : at ≡ byte_len mark
  pub goes : (u : List ℕ) → Alike mark body u → IsWithoutPreamble (mark ++ u) u

pub preamble : (t : List ℕ) (cuts : List CutSource) (r : List ℕ) → begins_with_code t ≡ true
    → (cut : IsCutUpTo t cuts r)
    → Preamble t cut.body cut.at
preamble t cuts r code cut =
    let whole : cut.body ≡ without_byte_order_mark t = body_is (without_byte_order_mark t) cut.body code cut.front in
    let k : Marked t = marked t in
    let text_is : t ≡ k.mark ++ cut.body = k.text_is ∙ ap (λ z. k.mark ++ z) (sym whole) in
    let long : byte_len t ≡ byte_len k.mark + byte_len cut.body = ap byte_len text_is
    ∙ byte_len-append k.mark cut.body in
    record {
      mark = k.mark;
      text_is = text_is;
      at_is = omega (arith, cut.place, long);
      goes = λ u a.
          let bare : without_byte_order_mark (k.mark ++ u) ≡ u = k.goes u (ap (first_passes is_mark) (sym whole)
          ∙ mark_agrees k.mark cut.body u a) in
          let free : begins_with_code (k.mark ++ u) ≡ true = ap is_code bare ∙ sym (code_agrees k.mark cut.body u a)
          ∙ ap is_code whole ∙ code in
          inr (sym bare, λ s is. no_script (without_byte_order_mark (k.mark ++ u)) s free is);
    }

pub source_recut : (t : List ℕ) (before after : List CutSource) (old new : Lexeme) (place : ℕ) (r : List ℕ)
    → (cut : IsCutUpTo t (before ++ (placed_literal old place ∷ after)) r) → (p : Preamble t cut.body cut.at)
    → Recut p.mark cut.at cut.body before after old new place r → IsRecutSource t before after old new place r
source_recut t before after old new place r cut p m =
    let was : List ℕ = m.front ++ (lexeme_text old ++ m.rest) in
    let body : List ℕ = m.front ++ (lexeme_text new ++ m.rest) in
    let same : Alike p.mark cut.body body = subst (λ z. Alike p.mark z body) (sym m.text_is) (alike_more p.mark m.front
    (lexeme_text old ++ m.rest) (lexeme_text new ++ m.rest) m.same_front) in
    let text : List ℕ = (p.mark ++ m.front) ++ (lexeme_text new ++ m.rest) in
    let text_is : text ≡ p.mark ++ body = append_assoc p.mark m.front (lexeme_text new ++ m.rest) in
    record {
      front = p.mark ++ m.front;
      rest = m.rest;
      text_is = p.text_is ∙ ap (λ z. p.mark ++ z) m.text_is ∙ sym (append_assoc p.mark m.front
          (lexeme_text old ++ m.rest));
      place_is = omega (arith, p.at_is, m.place_is, byte_len-append p.mark m.front);
      cuts = record {
        at = cut.at;
        body = body;
        front = subst (λ z. IsWithoutPreamble z body) (sym text_is) (p.goes body same);
        place = omega (arith, p.at_is, ap byte_len text_is, byte_len-append p.mark body);
        are_cuts = m.cuts;
      };
    }

pub keeps_the_source : KeepsTheSource
keeps_the_source t before after old new place r code cut sound ends =
    let p : Preamble t cut.body cut.at = preamble t (before ++ (placed_literal old place ∷ after)) r code cut in
    source_recut t before after old new place r cut p (recut_ends p.mark cut.at cut.body before after old new place r
    cut.are_cuts sound ends)
