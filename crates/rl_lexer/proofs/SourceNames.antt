-- Lemmas about identifiers at the start of a text.
use Rattle.rl_syntax.proofs.Common.{◌≡◌, ℕ, inl, inr, true, cond, List, [], ◌∷◌, ◌++◌, Some, None, drop, sym, ◌∙◌, ap, subst, none-some}
use Rattle.rl_syntax.specs.Texts.{is_start, is_continue}
use Rattle.rl_lexer.specs.Lexemes.{IsRun, begins_raw_identifier}
use Rattle.rl_syntax.specs.Classes.{after_run}
use Rattle.rl_lexer.specs.Mirrors.SourceAt.{after_name}
use Rattle.rl_lexer.specs.Sources.{IsName}
use Rattle.rl_lexer.proofs.Comments.{chosen, same_Some}
use Rattle.rl_lexer.proofs.LexemeFound.{run_found}
use Rattle.rl_lexer.proofs.LexemeOpeners.{raw_split}
use Rattle.rl_lexer.proofs.LexemeRows.{run_past}

pub name_past : (c : ℕ) (more t : List ℕ) → IsName c more t → after_name (c ∷ more ++ t) ≡ Some t
name_past c more t (is, run) = ap (λ b. cond b (Some (after_run is_continue (more ++ t))) None) is
    ∙ ap Some (run_past is_continue more t run)

abbrev pub NameBefore : List ℕ → List ℕ → Type 0
NameBefore t r = (c : ℕ) × (more : List ℕ) × IsName c more r × (t ≡ c ∷ more ++ r)

pub name_found : (t r : List ℕ) → after_name t ≡ Some r → NameBefore t r
name_found [] r h = absurd (none-some r h)
name_found (c ∷ t) r h =
    elim (chosen (is_start c) (Some (after_run is_continue t)) None (Some r) h) [
      | inl (a, x) ↦ go a (same_Some (after_run is_continue t) r x)
      | inr (a, x) ↦ absurd (none-some r x)
    ]
  where
    go : is_start c ≡ true → after_run is_continue t ≡ r → NameBefore (c ∷ t) r
    go a e =
        let (run, is, same) = run_found is_continue t in (
          c,
          run,
          (a, subst (λ (x : List ℕ). IsRun is_continue run x) e is),
          ap (λ x. c ∷ x)
              (same ∙ ap (λ x. run ++ x) e),
        )

pub raw_rest : (t : List ℕ) → begins_raw_identifier t ≡ true → t ≡ 114 ∷ 35 ∷ drop 2 t
raw_rest t h = let (d, u, same, is) = raw_split t h in same ∙ ap (λ x. 114 ∷ 35 ∷ drop 2 x) (sym same)
