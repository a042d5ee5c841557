-- Lemmas about errors for missing parts of settings: the token or the text's end in the place of the part, and the end of a
-- token tree.
use Rattle.rl_syntax.proofs.Common.{◌≡◌, ◌≢◌, ℕ, ◌+◌, ◌-◌, ◌≤◌, Bool, true, false, List, [], ◌∷◌, length, ◌∙◌, ◌==◌, ap, subst, arith, if◌then◌else◌}
use Rattle.rl_lexer.specs.declared.cursor.Lexeme.{Lexeme}
use Rattle.rl_lexer.specs.declared.lex_error.LexKind.{LexKind}
use Rattle.rl_lexer.specs.declared.lex_error.LexKind.TheVariants.{Memory}
use Rattle.rl_lexer.specs.declared.lexeme.Form.TheVariants as found
use Rattle.rl_lexer.specs.Cursors.{CursorState, TakesNext, form_view}
use Rattle.rl_lexer.specs.Lexemes.{LexemeForm, LiteralForm, IdentifierForm, DelimiterForm, MarkForm}
use Rattle.rl_lexer.specs.Cuts.{OpenGroup, ErrorAt, is_opener}
use Rattle.rl_cursors.specs.SettingSteps.{depth_after, EndsInside}

-- An error that a text causes isn't an allocation failure.
pub no_memory : (kind : LexKind) (r : List ℕ) → ((groups : List OpenGroup) → ErrorAt kind groups r) → kind ≡ Memory → ⊥
no_memory kind r h e = subst (λ (k : LexKind). ErrorAt k [] r) e (h [])

-- If the code's test whether the unread text is empty returns `false`, this text isn't empty.
pub some_rest : (rest now : List ℕ) (empty : Bool) → now ≡ rest → empty ≡ (length now == 0) → empty ≡ false → rest ≡ []
    → ⊥
some_rest rest now empty same is none e =
    let q : (length now == 0) ≡ true = ap (λ (t : List ℕ). length t == 0) (same ∙ e) in
    absurd (cc)

-- A token opens at most one group, so the depth increases by at most one.
pub one_deeper : (f : LexemeForm) (depth : ℕ) → depth_after f depth ≤ depth + 1
one_deeper LiteralForm depth = omega arith
one_deeper IdentifierForm depth = omega arith
one_deeper (DelimiterForm c) depth = go (is_opener c)
  where
    go : (b : Bool) → (if b then depth + 1 else depth - 1) ≤ depth + 1
    go true = omega arith
    go false = omega arith
one_deeper (MarkForm c) depth = omega arith

-- ---- the loop over the tokens of a token tree

-- The loop over the tokens of a token tree begins at the cursor `first`. The loop's invariant: if the end of the token tree
-- is computed from the loop's current cursor `t`, it is also the end computed from `first`.
abbrev pub Leads : ℕ → ℕ → CursorState → ℕ → ℕ → CursorState → Type 0
Leads depth end t first_depth first_end first =
    (hi : ℕ) → EndsInside depth end t hi → EndsInside first_depth first_end first hi

-- If the loop over the tokens of a token tree reads one more token, its invariant still holds.
pub leads_more : (depth end first_depth first_end : ℕ) (t new first : CursorState) (l : Lexeme) → depth ≢ 0
    → TakesNext t l new → Leads depth end t first_depth first_end first
    → Leads (depth_after (form_view l.form) depth) l.hi new first_depth first_end first
leads_more depth end first_depth first_end t new first l some takes leads hi (inside, are) =
    leads hi (l ∷ inside, (some, (new, takes, are)))
