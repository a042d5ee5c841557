-- The open groups in the array that stores them, and the invariant of the loop over a text's tokens.
use Rattle.rl_syntax.proofs.Common.{◌≡◌, ℕ, ◌+◌, ◌<◌, ◌⊎◌, inl, inr, Bool, true, false, not, ◌&&◌, ◌||◌, List, [], ◌∷◌, ◌++◌, length, map, drop, get_or, Option, Some, None, IfSome, IfNone, refl, sym, ◌∙◌, ap, subst, arith, chars-nil, chars, IsUtf8}
use Rattle.std.specs.Prelude.{MatchOption}
use Rattle.std.proofs.lemmas.List.{drop_more}
use Rattle.rl_syntax.specs.Texts.{IsTail, is_among}
use Rattle.rl_syntax.proofs.TailLemmas.{tail_step}
use Rattle.rl_lexer.specs.Skipping.{Skipped}
use Rattle.rl_lexer.specs.declared.lex_error.LexKind.{LexKind}
use Rattle.rl_lexer.specs.declared.lex_error.LexKind.TheVariants.{UnmatchedClose, UnclosedGroup, TooDeep}
use Rattle.rl_lexer.specs.declared.lex_error.LexError.{LexError}
use Rattle.rl_lexer.specs.declared.cursor.Lexeme.{Lexeme as Borrowed}
use Rattle.rl_lexer.specs.Lexemes.{LexemeBefore, Lexeme, DelimiterLexeme, lexeme_text, IsLexeme, LexemeForm, form_of, delimiters}
use Rattle.rl_lexer.specs.Cursors.{form_view, CursorState, TakesNext, IsFirstError}
use Rattle.rl_lexer.specs.Cuts.{LexedToken, LexesUpTo, OpenGroup, open_groups, after_form, is_opener, is_closer, closes, error_place, EndsInGroup, OpensTooDeep, BeginsLexeme, BeginsNoLexeme, ErrorAt, HasFirstError}
use Rattle.rl_lexer.proofs.CutLemmas.{open_more}
use Rattle.rl_lexer.proofs.LexemeFronts.{among}
use Rattle.rl_lexer.proofs.ErrorKinds.{rest_place}
use Rattle.rl_cursors.specs.declared.groups.Opened.{Opened}
use Rattle.rl_cursors.specs.Groups.{open_view, ClosesOther, StopsForm}
use Rattle.rl_cursors.specs.WholeCuts.{IsCutWhole}

-- ---- the array of open groups

-- The open groups are stored in an array from an index on, innermost first. The first group is at the index, and the others
-- follow.
pub one_from : (xs : List Opened) (start : ℕ) (d : Opened) → start < length xs → map open_view (drop start xs)
    ≡ open_view (get_or xs start d) ∷ map open_view (drop (start + 1) xs)
one_from xs start d h = ap (map open_view) (drop_more xs start d h)

-- ---- the loop over a text's tokens

-- The part of the text before `rest` is split into tokens. After these tokens, the groups in the list `groups` are open.
pub record HasPassed (text rest : List ℕ) (groups : List OpenGroup) : Type 0 where
  pub cuts : List LexedToken
  pub are_cuts : LexesUpTo 0 (chars text) cuts (chars rest)
  pub are_open : open_groups [] cuts ≡ Some groups
  pub following : IsTail text rest

-- The invariant of the loop over a text's tokens holds before the first iteration.
pub passed_none : (text rest : List ℕ) (groups : List OpenGroup) → Skipped (chars text) (chars rest) → IsTail text rest
    → groups ≡ [] → HasPassed text rest groups
passed_none text rest groups skips following none = record {
  cuts = [];
  are_cuts = skips;
  are_open = ap Some (sym none);
  following = following;
}

-- If the loop over a text's tokens reads one more token, its invariant still holds.
pub passed_more : (text : List ℕ) (from to : CursorState) (old new : List OpenGroup) (l : Borrowed) → from.text ≡ text
    → HasPassed text from.rest old → TakesNext from l to → after_form old (form_view l.form) l.lo ≡ Some new
    → HasPassed text to.rest new
passed_more text from to old new l same has next passes =
    let w = next.cut in
    let Goes : List ℕ → Type 0 = λ t. (done : List LexedToken) → LexesUpTo 0 (chars t) done (chars from.rest)
    → LexesUpTo 0 (chars t) (done ++ w ∷ []) (chars to.rest) in
    let goes_on : Goes text = subst Goes same next.goes_on in
    record {
      cuts = has.cuts ++ w ∷ [];
      are_cuts = goes_on has.cuts has.are_cuts;
      are_open =
          open_more [] has.cuts w old has.are_open
          ∙ ap (λ f. after_form old f w.at) next.is_cut.form_is
          ∙ ap (λ n. after_form old (form_view l.form) n) next.is_cut.lo_is
          ∙ passes;
      following = tail_step text from.rest to.rest has.following next.following;
    }

-- ---- the end of the loop over a text's tokens

error_found : (text rest : List ℕ) (groups : List OpenGroup) (kind : LexKind) (at place : ℕ) → IsUtf8 text
    → HasPassed text rest groups → place + length rest ≡ length text → ErrorAt kind groups (chars rest) → at
    ≡ error_place kind groups place → HasFirstError (chars text) kind at
error_found text rest groups kind at place is has here error at_is = record {
  cuts = has.cuts;
  rest = chars rest;
  groups = groups;
  rest_at = place;
  are_cuts = has.are_cuts;
  are_open = has.are_open;
  error = error;
  rest_place = rest_place text rest place is has.following.is_text here;
  at_is = at_is;
}

-- If the loop over a text's tokens has passed the whole text, and no group is open, the text is lexed without an error.
pub all_passed : (text rest : List ℕ) (groups : List OpenGroup) → HasPassed text rest groups → rest ≡ [] → groups ≡ []
    → IsCutWhole (chars text)
all_passed text rest groups has ends none = record {
  cuts = has.cuts;
  are_cuts = subst (λ (r : List ℕ). LexesUpTo 0 (chars text) has.cuts r) (ap chars ends ∙ chars-nil) has.are_cuts;
  none_open = has.are_open ∙ ap Some none;
}

-- If a group is open at the end of the text, the error `UnclosedGroup` is the text's first error.
pub ends_open : (text rest : List ℕ) (groups : List OpenGroup) (e : LexError) → IsUtf8 text → HasPassed text rest groups
    → rest ≡ [] → EndsInGroup groups e → HasFirstError (chars text) e.kind e.at
ends_open text rest groups e is has nothing ends =
    let P : LexKind → Type 0 = λ k. HasFirstError (chars text) k e.at in
    subst P (sym ends.kind)
    (error_found text rest groups UnclosedGroup e.at (length text) is has (omega (arith, ap length nothing))
    (ap chars nothing ∙ chars-nil, ends.some_open) (ends.place (length text)))

-- A delimiter that isn't an opening delimiter is a closing one.
closer_is : (c : ℕ) → is_among delimiters c ≡ true → is_opener c ≡ false → is_closer c ≡ true
closer_is c h other =
    let either : (is_opener c || is_closer c) ≡ true = among delimiters (λ k. is_opener k || is_closer k) c refl h in
    subst (λ (b : Bool). (b || is_closer c) ≡ true) other either

closes_wrong : (groups : List OpenGroup) (l : Lexeme) (after : List ℕ) → IsLexeme l after
    → ClosesOther groups (form_of l)
    → ErrorAt UnmatchedClose groups (lexeme_text l ++ after)
closes_wrong groups (DelimiterLexeme c) after is h =
    ap (λ b. b && not (closes groups c)) (closer_is c is h.0) ∙ ap not h.1
closes_wrong groups l after is h = absurd h

opens_deep : (groups : List OpenGroup) (l : Lexeme) (after : List ℕ) → OpensTooDeep groups (form_of l)
    → ErrorAt TooDeep groups (lexeme_text l ++ after)
opens_deep groups (DelimiterLexeme c) after h = h
opens_deep groups l after h = absurd h

rejected_lexeme : (text rest after : List ℕ) (groups : List OpenGroup) (l : Lexeme) (kind : LexKind) (at : ℕ)
    → IsUtf8 text → HasPassed text rest groups → at + length rest ≡ length text → chars rest ≡ lexeme_text l ++ after
    → IsLexeme l after → StopsForm groups (form_of l) kind → HasFirstError (chars text) kind at
rejected_lexeme text rest after groups l UnmatchedClose at is has place same whole h =
    let here : ErrorAt UnmatchedClose groups (chars rest) = subst (λ (r : List ℕ). ErrorAt UnmatchedClose groups r)
    (sym same) (closes_wrong groups l after whole h) in
    error_found text rest groups UnmatchedClose at at is has place here refl
rejected_lexeme text rest after groups l TooDeep at is has place same whole h =
    let here : ErrorAt TooDeep groups (chars rest) = subst (λ (r : List ℕ). ErrorAt TooDeep groups r) (sym same)
    (opens_deep groups l after h) in
    error_found text rest groups TooDeep at at is has place here refl
rejected_lexeme text rest after groups l _ at is has place same whole h = absurd h

pub rejected_token : (text : List ℕ) (from to : CursorState) (groups : List OpenGroup) (l : Borrowed) (kind : LexKind)
    → IsUtf8 text → from.text ≡ text → HasPassed text from.rest groups → TakesNext from l to
    → StopsForm groups (form_view l.form) kind → HasFirstError (chars text) kind l.lo
rejected_token text from to groups l kind is same has next h =
    rejected_lexeme text from.rest next.after groups next.cut.lexeme kind l.lo is has
    (omega (arith, next.place, ap length same)) next.begins next.is_lexeme
    (subst (λ (f : LexemeForm). StopsForm groups f kind) (sym next.is_cut.form_is) h)

-- If no token begins at the cursor's position, the error that the cursor returns is the first error of the whole text.
pub error_told : (text : List ℕ) (old new : CursorState) (groups : List OpenGroup) (e : LexError) → old.text ≡ text
    → new ≡ old → HasPassed text old.rest groups → IsFirstError new e.kind e.at → HasFirstError (chars text) e.kind e.at
error_told text old new groups e same stays has first =
    let here : IsFirstError old e.kind e.at = subst (λ (t : CursorState). IsFirstError t e.kind e.at) stays first in
    let cuts : LexesUpTo 0 (chars old.text) has.cuts (chars old.rest) = subst
    (λ (t : List ℕ). LexesUpTo 0 (chars t) has.cuts (chars old.rest)) (sym same) has.are_cuts in
    subst (λ (t : List ℕ). HasFirstError (chars t) e.kind e.at) same (here has.cuts groups cuts has.are_open)

-- If the cursor stops without an error, it is at the text's end.
pub told_end : (old new : CursorState) → new ≡ old → BeginsNoLexeme (chars old.rest) → (new.rest ≡ [])
    ⊎ BeginsLexeme (chars new.rest) → old.rest ≡ []
told_end old new stays none (inl nothing) = ap (λ (t : CursorState). t.rest) (sym stays) ∙ nothing
told_end old new stays none (inr (after, before)) = absurd (none after
    (subst (λ (t : CursorState). LexemeBefore (chars t.rest) after) stays before))

-- If the loop over a text's tokens returns an error for an open group at the text's end, this is the text's first error.
pub error_at_end : (text rest : List ℕ) (groups : List OpenGroup) (r : Option LexError) → IsUtf8 text
    → HasPassed text rest groups → rest ≡ [] → MatchOption r (groups ≡ []) (EndsInGroup groups)
    → IfSome r (λ e. HasFirstError (chars text) e.kind e.at)
error_at_end text rest groups None is has ends h = tt
error_at_end text rest groups (Some e) is has ends h = ends_open text rest groups e is has ends h

pub whole_at_end : (text rest : List ℕ) (groups : List OpenGroup) (r : Option LexError) → HasPassed text rest groups
    → rest ≡ [] → MatchOption r (groups ≡ []) (EndsInGroup groups) → IfNone r (IsCutWhole (chars text))
whole_at_end text rest groups None has ends h = all_passed text rest groups has ends h
whole_at_end text rest groups (Some e) has ends h = tt
