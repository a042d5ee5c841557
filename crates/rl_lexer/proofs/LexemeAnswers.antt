-- The results of `lexeme_at` are those that the definitions of lexemes describe.
use Rattle.rl_syntax.proofs.Common.{◌≡◌, ℕ, ◌++◌, List, Option, Some, None, sym, ◌∙◌, ap, Bor, IfSome, IfNone, option_map, chars, none-some}
use Rattle.rl_lexer.specs.declared.lexeme.Form.{Form as FoundForm}
use Rattle.rl_lexer.specs.Lexemes.{LexemeForm, form_of, LexemeBefore}
use Rattle.rl_lexer.specs.Cursors.{form_view}
use Rattle.rl_lexer.specs.Mirrors.LexemeAt.{lexeme_at, FormBefore}
use Rattle.rl_lexer.proofs.LexemeFronts.{lexeme_at-past}
use Rattle.rl_lexer.proofs.LexemeFound.{lexeme_at-found}

abbrev Answer : Type 0
Answer = Option (FoundForm × Bor (List ℕ))

-- Converts a result of the code to a result of a model: the form of a token, and the characters of the text after the
-- token.
abbrev seen : FoundForm × Bor (List ℕ) → LexemeForm × List ℕ
seen p = (form_view p.0, chars p.1.now)

pub form_before : (t : List ℕ) (p : LexemeForm × List ℕ) → lexeme_at t ≡ Some p → FormBefore t p.0 p.1
form_before t p h = let (l, is, same, form) = lexeme_at-found t p h in record
    { lexeme = l; is_lexeme = is; text_is = same; form_is = form }

pub lexeme_found : (t : List ℕ) (r : Answer) → option_map seen r ≡ lexeme_at t
    → IfSome r (λ p. FormBefore t (form_view p.0) (chars p.1.now))
lexeme_found t None h = tt
lexeme_found t (Some p) h = form_before t (seen p) (sym h)

before_gives : (t after : List ℕ) (before : LexemeBefore t after) → lexeme_at t ≡ Some (form_of before.1.0, after)
before_gives t after (w, (l, is, w_is), same) = ap lexeme_at (same ∙ ap (λ s. s ++ after) w_is)
    ∙ lexeme_at-past l after is

pub no_lexeme : (t : List ℕ) → lexeme_at t ≡ None → (after : List ℕ) → LexemeBefore t after → ⊥
no_lexeme t h after before = none-some (form_of before.1.0, after) (sym h ∙ before_gives t after before)

pub lexeme_none : (t : List ℕ) (r : Answer) → option_map seen r ≡ lexeme_at t
    → IfNone r ((after : List ℕ) → LexemeBefore t after → ⊥)
lexeme_none t None h = no_lexeme t (sym h)
lexeme_none t (Some p) h = tt
