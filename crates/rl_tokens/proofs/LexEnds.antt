-- Lemmas about the end of the lexer's loop: the whole text is lexed, or the text's first error is at the current
-- position.
use Rattle.rl_syntax.proofs.Common.{◌≡◌, ℕ, ◌+◌, ◌⊎◌, inl, inr, List, [], ◌++◌, length, Some, Result, Ok, Err, refl, sym, ◌∙◌, ap, subst, arith, chars-nil, IfOk, chars, IsUtf8}
use Rattle.rl_tokens.specs.declared.token.TokenStream.{TokenStream}
use Rattle.rl_tokens.specs.declared.nest.TreeBuilder.{TreeBuilder}
use Rattle.rl_lexer.specs.declared.lex_error.LexKind.{LexKind}
use Rattle.rl_lexer.specs.declared.lex_error.LexKind.TheVariants.{UnmatchedClose, UnclosedGroup, TooDeep, Memory}
use Rattle.rl_lexer.specs.declared.lex_error.LexError.{LexError}
use Rattle.rl_lexer.specs.Lexemes.{LexemeBefore, Lexeme, DelimiterLexeme, lexeme_text, IsLexeme, LexemeForm, form_of}
use Rattle.rl_lexer.specs.Cursors.{form_view, CursorState, TakesNext, IsFirstError}
use Rattle.rl_lexer.specs.declared.cursor.Lexeme.{Lexeme as Borrowed}
use Rattle.rl_tokens.specs.Trees.{Tree, stream_view, flat_trees}
use Rattle.rl_lexer.specs.Cuts.{OpenGroup, LexesUpTo, error_place, EndsInGroup, OpensTooDeep, BeginsLexeme, BeginsNoLexeme, ErrorAt, HasFirstError, LeavesRestAt, Rejects}
use Rattle.rl_tokens.specs.Lexing.{Lexes}
use Rattle.rl_tokens.specs.Mirrors.TreeBuilders.{groups_of, flat_builder, ClosesWrong, RejectsForm}
use Rattle.rl_tokens.proofs.LexLoop.{HasCut}
use Rattle.rl_lexer.proofs.ErrorKinds.{rest_place, error_rejects}

error_found : {A : Type 0} (text rest : List ℕ) (file : ℕ) (nest : TreeBuilder A) (kind : LexKind) (at place : ℕ)
    → IsUtf8 text → IsUtf8 rest → HasCut text rest file nest → place + length rest ≡ length text
    → ErrorAt kind (groups_of nest) (chars rest) → at ≡ error_place kind (groups_of nest) place
    → HasFirstError (chars text) kind at
error_found text rest file nest kind at place is is_rest has here error at_is = record {
  cuts = has.cuts;
  rest = chars rest;
  groups = groups_of nest;
  rest_at = place;
  are_cuts = has.are_cuts;
  are_open = has.are_open;
  error = error;
  rest_place = rest_place text rest place is is_rest here;
  at_is = at_is;
}

pub leaves_here : {A : Type 0} (text rest : List ℕ) (file : ℕ) (nest : TreeBuilder A) (place : ℕ) → IsUtf8 text
    → IsUtf8 rest → HasCut text rest file nest → place + length rest ≡ length text → BeginsLexeme (chars rest)
    → LeavesRestAt (chars text) place
leaves_here text rest file nest place is is_rest has here begins = record {
  cuts = has.cuts;
  rest = chars rest;
  are_cuts = has.are_cuts;
  begins = begins;
  rest_place = rest_place text rest place is is_rest here;
}

-- If no text remains and no group is open, the whole text is lexed into the token trees of the builder.
pub all_cut : {A : Type 0} (text rest : List ℕ) (file : ℕ) (nest : TreeBuilder A) (trees : List Tree)
    → HasCut text rest file nest → rest ≡ [] → groups_of nest ≡ [] → flat_trees trees ≡ flat_builder nest
    → Lexes (chars text) file trees
all_cut text rest file nest trees has ends none flat_is = record {
  cuts = has.cuts;
  are_cuts = subst (λ (r : List ℕ). LexesUpTo 0 (chars text) has.cuts r) (ap chars ends ∙ chars-nil) has.are_cuts;
  none_open = has.are_open ∙ ap Some none;
  flat_is = has.flat ∙ sym flat_is;
}

-- If no text remains and a group is open, the text has the error `UnclosedGroup`.
pub ends_open : {A : Type 0} (text rest : List ℕ) (file : ℕ) (nest : TreeBuilder A) (e : LexError) → IsUtf8 text
    → HasCut text rest file nest → rest ≡ [] → EndsInGroup (groups_of nest) e → Rejects (chars text) e.kind e.at
ends_open text rest file nest e is has nothing ends =
    let P : LexKind → Type 0 = λ k. Rejects (chars text) k e.at in
    let u : IsUtf8 rest = has.following.is_text in
    subst P (sym ends.kind)
    (error_found text rest file nest UnclosedGroup e.at (length text) is u has (omega (arith, ap length nothing))
    (ap chars nothing ∙ chars-nil, ends.some_open) (ends.place (length text)))

-- If the next token can't be added to the builder of token trees, the text has an error at the token.
closes_wrong : (groups : List OpenGroup) (l : Lexeme) (after : List ℕ) → ClosesWrong groups (form_of l)
    → ErrorAt UnmatchedClose groups (lexeme_text l ++ after)
closes_wrong groups (DelimiterLexeme c) after h = h
closes_wrong groups kind after h = absurd h

opens_deep : (groups : List OpenGroup) (l : Lexeme) (after : List ℕ) → OpensTooDeep groups (form_of l)
    → ErrorAt TooDeep groups (lexeme_text l ++ after)
opens_deep groups (DelimiterLexeme c) after h = h
opens_deep groups kind after h = absurd h

rejected_lexeme : {A : Type 0} (text rest after : List ℕ) (file : ℕ) (nest : TreeBuilder A) (l : Lexeme)
    (kind : LexKind) (at : ℕ) → IsUtf8 text → HasCut text rest file nest → at + length rest ≡ length text → chars rest
    ≡ lexeme_text l ++ after → IsLexeme l after → RejectsForm (groups_of nest) (form_of l) kind
    → Rejects (chars text) kind at
rejected_lexeme text rest after file nest l UnmatchedClose at is has place same whole h =
    let here : ErrorAt UnmatchedClose (groups_of nest) (chars rest) = subst
    (λ (r : List ℕ). ErrorAt UnmatchedClose (groups_of nest) r) (sym same) (closes_wrong (groups_of nest) l after h)
    in
    error_found text rest file nest UnmatchedClose at at is has.following.is_text has place here refl
rejected_lexeme text rest after file nest l TooDeep at is has place same whole h =
    let here : ErrorAt TooDeep (groups_of nest) (chars rest) = subst
    (λ (r : List ℕ). ErrorAt TooDeep (groups_of nest) r) (sym same) (opens_deep (groups_of nest) l after h) in
    error_found text rest file nest TooDeep at at is has.following.is_text has place here refl
rejected_lexeme text rest after file nest l Memory at is has place same whole h = leaves_here text rest file nest at is
    has.following.is_text has place (after, (lexeme_text l, (l, whole, refl), same))
rejected_lexeme text rest after file nest l _ at is has place same whole h = absurd h

pub rejected_token : {A : Type 0} (text : List ℕ) (from to : CursorState) (file : ℕ) (nest : TreeBuilder A)
    (l : Borrowed) (e : LexError) → IsUtf8 text → from.text ≡ text → HasCut text from.rest file nest
    → TakesNext from l to → e.at ≡ l.lo → RejectsForm (groups_of nest) (form_view l.form) e.kind
    → Rejects (chars text) e.kind e.at
rejected_token text from to file nest l e is same has next at_is h =
    rejected_lexeme text from.rest next.after file nest next.cut.lexeme e.kind e.at is has
    (omega (arith, next.place, ap length same, at_is)) next.begins next.is_lexeme
    (subst (λ (f : LexemeForm). RejectsForm (groups_of nest) f e.kind) (sym next.is_cut.form_is) h)

-- If the remaining text begins with no token, the cursor doesn't move, and its error is the text's first error.
pub error_told : {A : Type 0} (text : List ℕ) (old new : CursorState) (file : ℕ) (nest : TreeBuilder A) (e : LexError)
    → old.text ≡ text → new ≡ old → HasCut text old.rest file nest → IsFirstError new e.kind e.at
    → Rejects (chars text) e.kind e.at
error_told text old new file nest e same stays has first =
    let here : IsFirstError old e.kind e.at = subst (λ (t : CursorState). IsFirstError t e.kind e.at) stays first in
    let cuts : LexesUpTo 0 (chars old.text) has.cuts (chars old.rest) = subst
    (λ (t : List ℕ). LexesUpTo 0 (chars t) has.cuts (chars old.rest)) (sym same) has.are_cuts in
    error_rejects (chars text) e.kind e.at (subst (λ (t : List ℕ). HasFirstError (chars t) e.kind e.at) same
    (here has.cuts (groups_of nest) cuts has.are_open))

-- If the remaining text begins with no token and the cursor returns no error, no text remains.
pub told_end : (old new : CursorState) → new ≡ old → BeginsNoLexeme (chars old.rest) → (new.rest ≡ [])
    ⊎ BeginsLexeme (chars new.rest) → old.rest ≡ []
told_end old new stays none (inl nothing) = ap (λ (t : CursorState). t.rest) (sym stays) ∙ nothing
told_end old new stays none (inr (after, before)) = absurd (none after
    (subst (λ (t : CursorState). LexemeBefore (chars t.rest) after) stays before))

pub all_done : {A : Type 0} (text rest : List ℕ) (file : ℕ) (nest : TreeBuilder A) (r : Result (TokenStream A) LexError)
    → HasCut text rest file nest → rest ≡ [] → IfOk r (λ trees. groups_of nest ≡ [])
    → IfOk r (λ trees. flat_trees (stream_view trees) ≡ flat_builder nest)
    → IfOk r (λ trees. Lexes (chars text) file (stream_view trees))
all_done text rest file nest (Ok trees) has ends none flat_is = all_cut text rest file nest (stream_view trees) has ends
    none flat_is
all_done text rest file nest (Err e) has ends none flat_is = tt
