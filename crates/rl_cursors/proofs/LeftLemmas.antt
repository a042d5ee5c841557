-- Lemmas about a cursor in a text whose tokens are known: the tokens that are left determine the cursor's next token.
use Rattle.std.proofs.Common.{◌≡◌, ℕ, ◌+◌, suc, List, [], ◌∷◌, ◌++◌, length, length-append, map, refl, sym, ◌∙◌, ap, subst, arith, append_assoc}
use Rattle.std.proofs.lemmas.List.{append_cancel_left, length-map, map-append}
use Rattle.std.specs.Str.{chars}
use Rattle.rl_syntax.specs.Texts.{byte_len}
use Rattle.rl_lexer.specs.declared.cursor.Lexeme.{Lexeme}
use Rattle.rl_lexer.specs.Skipping.{Skipped}
use Rattle.rl_lexer.specs.Lexemes.{lexeme_text}
use Rattle.rl_lexer.specs.Cuts.{LexedToken, end_of, LexesUpTo, BeginsNoLexeme}
use Rattle.rl_lexer.specs.Cursors.{CursorState, TakesNext}
use Rattle.rl_lexer.proofs.LexemeFronts.{one_front}
use Rattle.rl_lexer.proofs.Pieces.{one_rest, skipped_again}
use Rattle.rl_lexer.specs.PrintedTokens.{Token, as_token}
use Rattle.rl_lexer.proofs.SameTokens.{nothing_begins, begins_cut}

-- The tokens of a text after its first tokens are the tokens of the text that remains.
record RestCut (vs ws : List LexedToken) (r : List ℕ) : Type 0 where
  pub at : ℕ
  pub more : List LexedToken
  pub are_cuts : LexesUpTo at r more []
  pub skipped : Skipped r r
  pub count : length ws ≡ length vs + length more

rest_cut : (m n : ℕ) (t : List ℕ) (vs ws : List LexedToken) (r : List ℕ) → LexesUpTo m t vs r → LexesUpTo n t ws []
    → RestCut vs ws r
rest_cut m n t [] [] r a b =
    let none : r ≡ [] = one_rest t r [] a b in
    record {
      at = 0;
      more = [];
      are_cuts = subst (λ (x : List ℕ). Skipped x []) (sym none) (skipped_again t [] b);
      skipped = skipped_again t r a;
      count = refl;
    }
rest_cut m n t [] (w ∷ ws) r a (y, s, is, place, more) =
    let e : r ≡ lexeme_text w.lexeme ++ y = one_rest t r (lexeme_text w.lexeme ++ y) a s in
    record {
      at = w.at;
      more = w ∷ ws;
      are_cuts = (
        y,
        subst (λ (x : List ℕ). Skipped x (lexeme_text w.lexeme ++ y)) (sym e)
            (skipped_again t (lexeme_text w.lexeme ++ y) s),
        is,
        ap (λ x. w.at + byte_len x) (sym e),
        more,
      );
      skipped = skipped_again t r a;
      count = omega arith;
    }
rest_cut m n t (v ∷ vs) [] r (x, a, is, place, more) b =
    absurd (nothing_begins v x is (one_rest t [] (lexeme_text v.lexeme ++ x) b a))
rest_cut m n t (v ∷ vs) (w ∷ ws) r (x, a, is, place, more) (y, b, js, place', more') =
    let u = lexeme_text v.lexeme ++ x in
    let e : u ≡ lexeme_text w.lexeme ++ y = one_rest t u (lexeme_text w.lexeme ++ y) a b in
    let f = one_front u (lexeme_text v.lexeme) (lexeme_text w.lexeme) x y refl e (v.lexeme, is, refl)
    (w.lexeme, js, refl) in
    let rec = rest_cut (end_of v) (end_of w) x vs ws r more
    (subst (λ (z : List ℕ). LexesUpTo (end_of w) z ws []) (sym f.1) more') in
    record {
      at = rec.at;
      more = rec.more;
      are_cuts = rec.are_cuts;
      skipped = rec.skipped;
      count = omega (arith, rec.count);
    }

-- The tokens of the text are `ws`, and the cursor has taken the first of them. The tokens that are left are `left`.
pub record Stands (text : List ℕ) (ws : List LexedToken) (left : List Token) (s : CursorState) : Type 0 where
  pub same : s.text ≡ text
  pub done : List LexedToken
  pub cuts : LexesUpTo 0 (chars text) done (chars s.rest)
  pub flat : map as_token ws ≡ map as_token done ++ left

-- The number of tokens that are left.
stands_count : (text : List ℕ) (ws : List LexedToken) (left : List Token) (s : CursorState)
    (st : Stands text ws left s) → length ws ≡ length st.done + length left
stands_count text ws left s st =
    sym (length-map ws as_token)
    ∙ ap length st.flat
    ∙ length-append (map as_token st.done) left
    ∙ ap (λ n. n + length left) (length-map st.done as_token)

-- At the end of the tokens, the cursor is at the end of the text.
pub stands_end : (text : List ℕ) (ws : List LexedToken) (s : CursorState) → LexesUpTo 0 (chars text) ws []
    → Stands text ws [] s → chars s.rest ≡ []
stands_end text ws s whole st =
    let cut = rest_cut 0 0 (chars text) st.done ws (chars s.rest) st.cuts whole in
    go cut.at cut.more cut.are_cuts cut.skipped (omega (arith, cut.count, stands_count text ws [] s st))
  where
    go : (at : ℕ) (more : List LexedToken) → LexesUpTo at (chars s.rest) more []
        → Skipped (chars s.rest) (chars s.rest) → length more ≡ 0 → chars s.rest ≡ []
    go at [] a b n = one_rest (chars s.rest) (chars s.rest) [] b a
    go at (w ∷ more) a b n = absurd (omega (arith, n))

-- Before a token, the cursor isn't stuck.
pub stands_some : (text : List ℕ) (ws : List LexedToken) (f : Token) (left : List Token) (s : CursorState)
    → LexesUpTo 0 (chars text) ws [] → Stands text ws (f ∷ left) s → BeginsNoLexeme (chars s.rest) → ⊥
stands_some text ws f left s whole st none =
    let cut = rest_cut 0 0 (chars text) st.done ws (chars s.rest) st.cuts whole in
    go cut.at cut.more cut.are_cuts cut.skipped (omega (arith, cut.count, stands_count text ws (f ∷ left) s st))
  where
    go : (at : ℕ) (more : List LexedToken) → LexesUpTo at (chars s.rest) more []
        → Skipped (chars s.rest) (chars s.rest) → length more ≡ suc (length left) → ⊥
    go at [] a b n = omega (arith, n)
    go at (w ∷ more) (y, a, is, place, others) b n =
        none y (lexeme_text w.lexeme, (w.lexeme, is, refl), one_rest (chars s.rest) (chars s.rest) (lexeme_text w.lexeme ++ y) b a)

-- The cursor's next token is the first token that is left.
pub record StandsNext (text : List ℕ) (ws : List LexedToken) (left : List Token) (w : LexedToken)
    (new : CursorState) : Type 0 where
  pub more : List Token
  pub left_is : left ≡ as_token w ∷ more
  pub stands : Stands text ws more new

pub stands_next : (text : List ℕ) (ws : List LexedToken) (left : List Token) (old new : CursorState) (l : Lexeme)
    → LexesUpTo 0 (chars text) ws [] → Stands text ws left old → (t : TakesNext old l new)
    → StandsNext text ws left t.cut new
stands_next text ws left old new l whole st t =
    let before : LexesUpTo 0 (chars old.text) st.done (chars old.rest) =
    subst (λ (x : List ℕ). LexesUpTo 0 (chars x) st.done (chars old.rest)) (sym st.same) st.cuts in
    let after : LexesUpTo 0 (chars text) (st.done ++ t.cut ∷ []) (chars new.rest) =
    subst (λ (x : List ℕ). LexesUpTo 0 (chars x) (st.done ++ t.cut ∷ []) (chars new.rest)) st.same
    (t.goes_on st.done before) in
    let (more, flat) = begins_cut 0 (chars text) (st.done ++ t.cut ∷ []) ws (chars new.rest) after whole in
    let front = map as_token st.done in
    let joined : front ++ left ≡ front ++ (as_token t.cut ∷ map as_token more) =
    sym st.flat
    ∙ flat
    ∙ ap (λ z. z ++ map as_token more) (map-append as_token st.done (t.cut ∷ []))
    ∙ append_assoc front (as_token t.cut ∷ []) (map as_token more) in
    record {
      more = map as_token more;
      left_is = append_cancel_left front left (as_token t.cut ∷ map as_token more) joined;
      stands = record { same = t.same ∙ st.same; done = st.done ++ t.cut ∷ []; cuts = after; flat = flat };
    }
