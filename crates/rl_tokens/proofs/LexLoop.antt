-- The invariant of the lexer's loop over the tokens of a text.
use Rattle.rl_syntax.proofs.Common.{◌≡◌, ℕ, ◌+◌, inl, inr, true, not, ◌&&◌, ◌||◌, ◌==◌, List, [], ◌∷◌, ◌++◌, length, map, Some, refl, sym, ◌∙◌, ap, subst, arith, and_parts, map-append, encode_ascii, list_all, chars, encode_utf8_all, is_xid_start, is_xid_continue}
use Rattle.rl_syntax.specs.Texts.{is_white, xid_ok, IsTail, is_start, is_continue}
use Rattle.rl_lexer.specs.Skipping.{Skipped}
use Rattle.rl_lexer.specs.Lexemes.{is_punct, Lexeme, QuotedLexeme, RawLexeme, CharacterLexeme, BasedLexeme, DecimalLexeme, IdentifierLexeme, DelimiterLexeme, MarkLexeme, lexeme_text, IsLexeme, LexemeForm, form_of, delimiters}
use Rattle.rl_lexer.specs.Cursors.{form_view, CursorState, TakesNext}
use Rattle.rl_tokens.specs.declared.nest.TreeBuilder.{TreeBuilder}
use Rattle.rl_lexer.specs.declared.cursor.Lexeme.{Lexeme as Borrowed}
use Rattle.rl_lexer.specs.Cuts.{LexedToken, LexesUpTo, open_groups, after_form}
use Rattle.rl_tokens.specs.Lexing.{flat_form, flat_token}
use Rattle.rl_tokens.specs.Mirrors.TreeBuilders.{groups_of, flat_builder, IsFitting, TakesToken}
use Rattle.rl_syntax.proofs.TailLemmas.{tail_step}
use Rattle.rl_lexer.proofs.LexemeFronts.{low_among}
use Rattle.rl_lexer.proofs.CutLemmas.{open_more}
use Rattle.rl_tokens.proofs.BorrowedTokens.{flat_borrowed}

-- The invariant of the lexer's loop: the text is lexed up to the remaining text `rest`, and `nest`, the builder of
-- token trees, has the lexed tokens and the open groups.
pub record HasCut {A : Type 0} (text rest : List ℕ) (file : ℕ) (nest : TreeBuilder A) : Type 0 where
  pub cuts : List LexedToken
  pub are_cuts : LexesUpTo 0 (chars text) cuts (chars rest)
  pub are_open : open_groups [] cuts ≡ Some (groups_of nest)
  pub flat : map (flat_token file) cuts ≡ flat_builder nest
  pub file_is : nest.file ≡ file
  pub following : IsTail text rest

-- Lemmas: the text and the byte range of a lexed token are those that the builder of token trees requires for a token
-- of its form.
start_continues : (c : ℕ) → is_start c ≡ true → (c == 95 || is_xid_start c) ≡ true
start_continues c h = (and_parts (c == 95 || is_xid_start c) (not (is_white c)) h).0

row_continues : (cs : List ℕ) → list_all is_continue cs ≡ true → list_all is_xid_continue cs ≡ true
row_continues [] h = refl
row_continues (c ∷ cs) h =
    let k : (is_continue c ≡ true) × (list_all is_continue cs ≡ true) = and_parts (is_continue c)
    (list_all is_continue cs) h in
    ap (λ b. b && list_all is_xid_continue cs) (and_parts (is_xid_continue c) (not (is_white c)) k.0).0
    ∙ row_continues cs k.1

fits : (l : Lexeme) (after token : List ℕ) (lo hi : ℕ) → IsLexeme l after → chars token ≡ lexeme_text l
    → encode_utf8_all (lexeme_text l) ≡ token → lo + length token ≡ hi → IsFitting (form_of l) token lo hi
fits (QuotedLexeme p parts x) after token lo hi is e f n = tt
fits (RawLexeme p k body x) after token lo hi is e f n = tt
fits (CharacterLexeme b inside x) after token lo hi is e f n = tt
fits (BasedLexeme letter digits) after token lo hi is e f n = tt
fits (DecimalLexeme d more fr ex x) after token lo hi is e f n = tt
fits (IdentifierLexeme c more) after token lo hi (start, run, _) e f n =
    ap xid_ok e ∙ ap (λ b. b && list_all is_xid_continue more) (start_continues c start) ∙ row_continues more run.each
fits (DelimiterLexeme c) after token lo hi is e f n =
    let one : encode_utf8_all (c ∷ []) ≡ c ∷ [] = ap (λ x. x ++ []) (encode_ascii c (low_among delimiters c refl is)) in
    (is, omega (arith, n, ap length (sym f ∙ one)))
fits (MarkLexeme c) after token lo hi (inl is) e f n = ap (λ b. b || c == 47) is
fits (MarkLexeme c) after token lo hi (inr (is, _)) e f n = ap is_punct is

pub token_fits : {old new : CursorState} {l : Borrowed} → TakesNext old l new
    → IsFitting (form_view l.form) l.text.now l.lo l.hi
token_fits {l = l} t =
    let w = t.cut in
    let len : l.lo + length l.text.now ≡ l.hi = omega (
      arith,
      t.is_cut.lo_is,
      t.is_cut.hi_is,
      ap length
          t.is_cut.bytes_are,
    ) in
    subst (λ (f : LexemeForm). IsFitting f l.text.now l.lo l.hi) t.is_cut.form_is
    (fits w.lexeme t.after l.text.now l.lo l.hi t.is_lexeme (sym t.is_cut.chars_are) t.is_cut.bytes_are len)

-- The invariant of the lexer's loop holds after one more token is added.
pub has_more : {A : Type 0} (text : List ℕ) (from to : CursorState) (file : ℕ) (old new : TreeBuilder A) (l : Borrowed)
    → from.text ≡ text → HasCut text from.rest file old → TakesNext from l to
    → TakesToken old new (form_view l.form) l.text.now l.lo l.hi → HasCut text to.rest file new
has_more text from to file old new l same has next takes =
    let w = next.cut in
    let Goes : List ℕ → Type 0 = λ t. (done : List LexedToken) → LexesUpTo 0 (chars t) done (chars from.rest)
    → LexesUpTo 0 (chars t) (done ++ w ∷ []) (chars to.rest) in
    let goes_on : Goes text = subst Goes same next.goes_on in
    record {
      cuts = has.cuts ++ w ∷ [];
      are_cuts = goes_on has.cuts has.are_cuts;
      are_open =
          open_more [] has.cuts w (groups_of old) has.are_open
          ∙ ap (λ f. after_form (groups_of old) f w.at) next.is_cut.form_is
          ∙ ap (λ n. after_form (groups_of old) (form_view l.form) n) next.is_cut.lo_is
          ∙ takes.groups;
      flat =
          map-append (flat_token file) has.cuts (w ∷ [])
          ∙ ap (λ z. z ++ flat_token file w ∷ []) has.flat
          ∙ ap (λ z. flat_builder old ++ z ∷ []) (flat_borrowed file l w next.is_cut
          ∙ ap (λ n. flat_form (form_view l.form) l.text.now (record { file = n; lo = l.lo; hi = l.hi }))
          (sym has.file_is))
          ∙ sym takes.flat;
      file_is = takes.file ∙ has.file_is;
      following = tail_step text from.rest to.rest has.following next.following;
    }

-- The invariant of the lexer's loop holds before the first iteration.
pub has_none : {A : Type 0} (text rest : List ℕ) (file : ℕ) (nest : TreeBuilder A) → Skipped (chars text) (chars rest)
    → IsTail text rest → groups_of nest ≡ [] → flat_builder nest ≡ [] → nest.file ≡ file → HasCut text rest file nest
has_none text rest file nest skips following groups flat_is file_is = record {
  cuts = [];
  are_cuts = skips;
  are_open = ap Some (sym groups);
  flat = sym flat_is;
  file_is = file_is;
  following = following;
}
