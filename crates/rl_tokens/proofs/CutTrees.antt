-- Lemmas: the text of a literal or identifier token among the token trees of a text is the text that was lexed.
use Rattle.rl_syntax.proofs.Common.{◌≡◌, ℕ, Bool, true, false, List, [], ◌∷◌, ◌++◌, map, inl, inr, refl, sym, ◌∙◌, ap, subst, ⊤, if◌then◌else◌, AllByRecursion, chars, encode_utf8_all, scalar}
use Rattle.std.proofs.Math.Utf8.{scalars}
use Rattle.std.proofs.lemmas.Str.{chars-encodes}
use Rattle.rl_syntax.specs.declared.span.Span.{Span}
use Rattle.rl_syntax.specs.Texts.{SpannedText}
use Rattle.rl_lexer.specs.Skipping.{Skipped}
use Rattle.rl_tokens.specs.Trees.{Tree, GroupTree, IdentTree, PunctTree, LiteralTree, FlatToken, Opening, Closing, FlatIdent, FlatLiteral, flat, flat_trees}
use Rattle.rl_lexer.specs.Lexemes.{lexeme_text, IsLexeme, LexemeForm, LiteralForm, IdentifierForm, DelimiterForm, MarkForm, form_of}
use Rattle.rl_lexer.specs.Cuts.{LexedToken, end_of, LexesUpTo, is_opener}
use Rattle.rl_tokens.specs.Lexing.{delimiter_for, flat_form, flat_token, Lexes}
use Rattle.rl_lexer.specs.PrintedTokens.{IsLexedLiteral}
use Rattle.rl_syntax.proofs.Basics.{scalars_parts}

-- The token's text is the UTF-8 encoding of `text`, and decodes to `text`.
pub record IsTokenOf (text : List ℕ) (token : SpannedText) : Type 0 where
  pub bytes : token.text ≡ encode_utf8_all text
  pub characters : chars token.text ≡ text

-- A condition on the tokens of a text: the text of a literal token is one that the lexer finds as a literal token. An
-- identifier token may have any text.
abbrev pub IsCutToken : SpannedText → Type 0
IsCutToken token = (text : List ℕ) × IsLexedLiteral text × IsTokenOf text token

abbrev pub IsCutIdent : SpannedText → Type 0
IsCutIdent token = (text : List ℕ) × IsTokenOf text token

abbrev pub IsCutTree : Tree → Type 0
IsCutTree (LiteralTree token) = IsCutToken token
IsCutTree (IdentTree token) = IsCutIdent token
IsCutTree _ = ⊤

abbrev IsCutFlat : FlatToken → Type 0
IsCutFlat (FlatLiteral token) = IsCutToken token
IsCutFlat (FlatIdent token) = IsCutIdent token
IsCutFlat _ = ⊤

flat_is_cut : (file : ℕ) (w : LexedToken) (after : List ℕ) → IsLexeme w.lexeme after → scalars (lexeme_text w.lexeme)
    ≡ true → IsCutFlat (flat_token file w)
flat_is_cut file w after is scalar = go (form_of w.lexeme) refl
  where
    bytes : List ℕ
    bytes = encode_utf8_all (lexeme_text w.lexeme)

    span : Span
    span = record { file = file; lo = w.at; hi = end_of w }

    delimiter : (b : Bool) (c : ℕ) → IsCutFlat (if b then Opening (delimiter_for c) span else Closing (delimiter_for c)
        span)
    delimiter true c = tt
    delimiter false c = tt

    go : (f : LexemeForm) → form_of w.lexeme ≡ f → IsCutFlat (flat_form f bytes span)
    go LiteralForm form = (
      lexeme_text w.lexeme,
      (w.lexeme, after, is, form, refl),
      record
          { bytes = refl; characters = chars-encodes (lexeme_text w.lexeme) scalar },
    )
    go IdentifierForm form = (lexeme_text w.lexeme, record { bytes = refl; characters = chars-encodes (lexeme_text w.lexeme) scalar })
    go (DelimiterForm c) form = delimiter (is_opener c) c
    go (MarkForm c) form = tt

-- If all characters of a text are Unicode scalar values, so are the characters that remain after white space and
-- comments are skipped.
skipped_scalars : (t r : List ℕ) → Skipped t r → scalars t ≡ true → scalars r ≡ true
skipped_scalars t r (inl s) h = (scalars_parts s.front r (ap scalars (sym s.text) ∙ h)).1
skipped_scalars t r (inr s) h = ap scalars s.nothing

cuts_are_cut : (file at : ℕ) (t : List ℕ) (ws : List LexedToken) (r : List ℕ) → LexesUpTo at t ws r → scalars t ≡ true
    → AllByRecursion IsCutFlat (map (flat_token file) ws)
cuts_are_cut file at t [] r cut h = tt
cuts_are_cut file at t (w ∷ ws) r (after, skipped, is, place, more) h =
    let both = scalars_parts (lexeme_text w.lexeme) after (skipped_scalars t (lexeme_text w.lexeme ++ after) skipped h)
    in
    (flat_is_cut file w after is both.0, cuts_are_cut file (end_of w) after ws r more both.1)

all_tail : (P : FlatToken → Type 0) (xs ys : List FlatToken) → AllByRecursion P (xs ++ ys) → AllByRecursion P ys
all_tail P [] ys h = h
all_tail P (x ∷ xs) ys (p, h) = all_tail P xs ys h

trees_are_cut : (trees : List Tree) → AllByRecursion IsCutFlat (flat_trees trees) → AllByRecursion IsCutTree trees
trees_are_cut [] h = tt
trees_are_cut (LiteralTree l ∷ trees) (p, h) = (p, trees_are_cut trees h)
trees_are_cut (IdentTree i ∷ trees) (p, h) = (p, trees_are_cut trees h)
trees_are_cut (PunctTree m ∷ trees) (p, h) = (tt, trees_are_cut trees h)
trees_are_cut (GroupTree d inside span ∷ trees) h = (
  tt,
  trees_are_cut trees
      (all_tail IsCutFlat (flat (GroupTree d inside span)) (flat_trees trees) h),
)

-- Each literal token among the token trees of a text has the text of a literal that the lexer finds in some text.
pub lexed_trees : (t : List ℕ) (file : ℕ) (trees : List Tree) → scalars t ≡ true → Lexes t file trees
    → AllByRecursion IsCutTree trees
lexed_trees t file trees h lexes =
    trees_are_cut trees (subst (λ (fs : List FlatToken). AllByRecursion IsCutFlat fs) lexes.flat_is
    (cuts_are_cut file 0 t lexes.cuts [] lexes.are_cuts h))
