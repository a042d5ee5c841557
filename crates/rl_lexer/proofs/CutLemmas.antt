-- Lemmas: if a text is lexed into some tokens, and one more token follows, the text is lexed into these tokens and that
-- one.
use Rattle.rl_syntax.proofs.Common.{◌≡◌, ℕ, ◌+◌, List, [], ◌∷◌, ◌++◌, length, length-append, Option, Some, None, refl, sym, ◌∙◌, ap, subst, arith, encodes-append, encode_utf8_all, option_and_then}
use Rattle.rl_lexer.specs.Skipping.{Skipped}
use Rattle.rl_lexer.specs.Lexemes.{lexeme_text, IsLexeme}
use Rattle.rl_lexer.specs.Cuts.{LexedToken, end_of, LexesUpTo, OpenGroup, after_lexeme, open_groups}
use Rattle.rl_syntax.specs.Texts.{byte_len}

pub byte_len-append : (xs ys : List ℕ) → byte_len (xs ++ ys) ≡ byte_len xs + byte_len ys
byte_len-append xs ys = ap length (encodes-append xs ys) ∙ length-append (encode_utf8_all xs) (encode_utf8_all ys)

-- The text after a token begins at the byte offset where the token ends.
pub tail_place : (w : LexedToken) (after : List ℕ) (n : ℕ) → w.at + byte_len (lexeme_text w.lexeme ++ after) ≡ n
    → end_of w + byte_len after ≡ n
tail_place w after n place = omega (arith, place, byte_len-append (lexeme_text w.lexeme) after)

pub cuts_more : (at : ℕ) (t : List ℕ) (done : List LexedToken) (u : List ℕ) (w : LexedToken) (after r : List ℕ)
    → LexesUpTo at t done u → u ≡ lexeme_text w.lexeme ++ after → IsLexeme w.lexeme after → w.at + byte_len u
    ≡ at + byte_len t → Skipped after r → LexesUpTo at t (done ++ w ∷ []) r
cuts_more at t [] u w after r cut same is place skipped =
    (after, subst (λ (x : List ℕ). Skipped t x) same cut, is, ap (λ x. w.at + byte_len x) (sym same) ∙ place, skipped)
cuts_more at t (d ∷ done) u w after r (rest, first, first_is, first_place, more) same is place skipped = (
  rest,
  first,
  first_is,
  first_place,
  cuts_more (end_of d) rest done u w after r more same is (place
      ∙ sym (tail_place d rest (at + byte_len t) first_place)) skipped,
)

pub open_more : (groups : List OpenGroup) (done : List LexedToken) (w : LexedToken) (between : List OpenGroup)
    → open_groups groups done ≡ Some between → open_groups groups (done ++ w ∷ []) ≡ after_lexeme between w.lexeme w.at
open_more groups [] w between h = last (after_lexeme groups w.lexeme w.at)
    ∙ ap (λ g. after_lexeme g w.lexeme w.at) (some_inner groups between h)
  where
    last : (o : Option (List OpenGroup)) → option_and_then (λ g. Some g) o ≡ o
    last None = refl
    last (Some g) = refl

    some_inner : (x y : List OpenGroup) → Some x ≡ Some y → x ≡ y
    some_inner x y e = cc
open_more groups (d ∷ done) w between h = go (after_lexeme groups d.lexeme d.at) (λ g. open_more g done w between) h
  where
    go : (o : Option (List OpenGroup)) → ((g : List OpenGroup) → open_groups g done ≡ Some between
        → open_groups g (done ++ w ∷ []) ≡ after_lexeme between w.lexeme w.at)
        → option_and_then (λ g. open_groups g done) o ≡ Some between
        → option_and_then (λ g. open_groups g (done ++ w ∷ [])) o ≡ after_lexeme between w.lexeme w.at
    go None more h = absurd (cc)
    go (Some g) more h = more g h
