-- Lemmas about the token that a cursor over a text consumes next: its bytes, and its byte range in the text.
use Rattle.rl_syntax.proofs.Common.{◌≡◌, ℕ, ◌+◌, ◌-◌, List, ◌++◌, length, length-append, take, slice_range, refl, sym, ◌∙◌, ap, arith, append_cancel_right, encodes-append, encodes-chars, chars_from_encodes, chars, encode_utf8_all, IsUtf8}
use Rattle.rl_syntax.specs.Texts.{IsTail, byte_len}
use Rattle.rl_lexer.specs.Skipping.{Skipped}
use Rattle.rl_lexer.specs.Lexemes.{lexeme_text, LexemeForm}
use Rattle.rl_lexer.specs.Mirrors.LexemeAt.{FormBefore}
use Rattle.rl_lexer.specs.Cursors.{form_view, IsCursorState, TakesNext}
use Rattle.rl_lexer.specs.Cuts.{LexedToken, end_of}
use Rattle.rl_lexer.specs.declared.cursor.Lexeme.{Lexeme as Borrowed}
use Rattle.rl_syntax.proofs.TailLemmas.{tail_step, cut_join}
use Rattle.rl_syntax.proofs.Rests.{tail_length}
use Rattle.rl_lexer.proofs.CutLemmas.{cuts_more}

-- The text `rest`, which is the end of `text`, begins with a lexeme of the form `form`, and the text `following`
-- follows the lexeme. The lexeme has the bytes `token` and the byte range from `lo` to `hi` in `text`.
record TokenAt (text rest following token : List ℕ) (form : LexemeForm) (lo hi : ℕ) : Type 0 where
  pub front : FormBefore (chars rest) form (chars following)
  pub rest_text : IsUtf8 rest
  pub tail_text : IsUtf8 following
  pub token_text : IsUtf8 token
  pub rest_is : rest ≡ token ++ following
  pub lo_place : lo + length rest ≡ length text
  pub hi_place : hi + length following ≡ length text

-- The bytes of a token are the UTF-8 encoding of the text of its lexeme.
token_is : {text rest following token : List ℕ} {form : LexemeForm} {lo hi : ℕ}
    (at : TokenAt text rest following token form lo hi) → encode_utf8_all (lexeme_text at.front.lexeme) ≡ token
token_is {rest = rest} {following = following} {token = token} at =
    let l = lexeme_text at.front.lexeme in
    let e : encode_utf8_all l ++ following ≡ token ++ following =
    ap (λ x. encode_utf8_all l ++ x) (sym (encodes-chars following at.tail_text))
    ∙ sym (encodes-append l (chars following))
    ∙ ap encode_utf8_all (sym at.front.text_is)
    ∙ encodes-chars rest at.rest_text
    ∙ at.rest_is in
    append_cancel_right (encode_utf8_all l) token following e

token_chars : {text rest following token : List ℕ} {form : LexemeForm} {lo hi : ℕ}
    (at : TokenAt text rest following token form lo hi) → chars token ≡ lexeme_text at.front.lexeme
token_chars {token = token} at = sym (chars_from_encodes (lexeme_text at.front.lexeme) token at.token_text
    (token_is at))

token_len : {text rest following token : List ℕ} {form : LexemeForm} {lo hi : ℕ}
    → TokenAt text rest following token form lo hi → lo + length token ≡ hi
token_len {rest = rest} {following = following} {token = token} at = omega
    (arith, at.lo_place, at.hi_place, ap length at.rest_is, length-append token following)

-- If `rest` begins with a lexeme and the text `following` follows the lexeme, `TokenAt` holds for the slice of `rest`
-- before `following`.
token_at : (text rest following token : List ℕ) (form : LexemeForm) → IsTail text rest → IsTail rest following
    → FormBefore (chars rest) form (chars following) → IsUtf8 token → token
    ≡ slice_range rest 0 (length rest - length following) → TokenAt text rest following token form
    (length text - length rest) (length text - length following)
token_at text rest following token form in_text in_rest front is token_is =
    let taken : token ≡ take (length rest - length following) rest = token_is
    ∙ ap (λ n. take n rest) (let q : length rest - length following - 0
    ≡ length rest - length following = omega arith in q) in
    record {
      front = front;
      rest_text = in_text.is_text;
      tail_text = in_rest.is_text;
      token_text = is;
      rest_is = cut_join rest following in_rest ∙ ap (λ z. z ++ following) (sym taken);
      lo_place = omega (arith, tail_length text rest in_text);
      hi_place = omega (arith, tail_length text rest in_text, tail_length rest following in_rest);
    }

-- After a cursor has consumed a token and the white space and comments after the token, the text that remains is still
-- the end of the whole text.
pub still_cutting : (text rest following next : List ℕ) → IsCursorState text rest → IsTail rest following
    → IsTail following next → IsCursorState text next
still_cutting text rest following next is in_rest in_tail = record {
  is_text = is.is_text;
  following = tail_step text rest next is.following (tail_step rest following next in_rest in_tail);
}

takes : (text rest following next : List ℕ) (l : Borrowed) → IsCursorState text rest → IsTail rest following
    → IsTail following next → Skipped (chars following) (chars next)
    → TokenAt text rest following l.text.now (form_view l.form) l.lo l.hi
    → TakesNext (record { text = text; rest = rest }) l (record { text = text; rest = next })
takes text rest following next l is in_rest in_tail skips at =
    let w : LexedToken = record { lexeme = at.front.lexeme; at = l.lo } in
    let rest_len : byte_len (chars rest) ≡ length rest = ap length (encodes-chars rest at.rest_text) in
    let text_len : byte_len (chars text) ≡ length text = ap length (encodes-chars text is.is_text) in
    let ends : end_of w ≡ l.hi = omega (arith, token_len at, ap length (token_is at)) in
    record {
      cut = w;
      is_cut = record { form_is = at.front.form_is; bytes_are = token_is at; chars_are = sym (token_chars at); lo_is = refl; hi_is = ends };
      after = chars following;
      begins = at.front.text_is;
      is_lexeme = at.front.is_lexeme;
      place = at.lo_place;
      goes_on = λ done cuts. cuts_more 0 (chars text) done (chars rest) w (chars following) (chars next) cuts
          at.front.text_is at.front.is_lexeme (omega (arith, rest_len, text_len, at.lo_place)) skips;
      same = refl;
      following = tail_step rest following next in_rest in_tail;
    }

-- A token that the cursor returns is the next token of the text.
pub takes_next : (text rest following next : List ℕ) (l : Borrowed) → IsCursorState text rest
    → FormBefore (chars rest) (form_view l.form) (chars following) → IsTail rest following → IsUtf8 l.text.now
    → l.text.now ≡ slice_range rest 0 (length rest - length following) → l.lo ≡ length text - length rest → l.hi
    ≡ length text - length following → Skipped (chars following) (chars next) → IsTail following next
    → TakesNext (record { text = text; rest = rest }) l (record { text = text; rest = next })
takes_next text rest following next l is front in_rest utf8 token_is lo hi skips in_tail =
    let at : TokenAt text rest following l.text.now (form_view l.form) l.lo l.hi =
    rw (lo, hi) (token_at text rest following l.text.now (form_view l.form) is.following in_rest front utf8 token_is) in
    takes text rest following next l is in_rest in_tail skips at
