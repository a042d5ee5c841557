-- Comments, including doc comments, don't contain literal tokens.
use Rattle.rl_syntax.proofs.Common.{◌≡◌, ℕ, Bool, true, false, ◌==◌, cond, List, [], ◌∷◌, Some, None, refl, sym, subst}
use Rattle.rl_syntax.specs.Trivia.{is_comment_block, is_comment_line}
use Rattle.rl_syntax.specs.Classes.{after_run}
use Rattle.rl_syntax.specs.Texts.{is_white}
use Rattle.rl_lexer.specs.Sources.{DocCommentKind, is_in_line}
use Rattle.rl_lexer.specs.Mirrors.LiteralsAt.{Reaches}
use Rattle.rl_lexer.specs.Mirrors.SkippedAt.{after_any_comment, after_block, after_comment, after_line}
use Rattle.rl_lexer.proofs.Comments.{after_block-sound, same_Some}
use Rattle.rl_lexer.proofs.LiteralSteps.{reach_first, reach_piece, reach_white}
use Rattle.rl_lexer.proofs.Pieces.{is_equal}
use Rattle.rl_lexer.proofs.SourceFronts.{doc_block_found, doc_line_found}

none-some : {A : Type 0} (x : A) → None ≡ Some x → ⊥
none-some x e = cc

-- Suppose that only white space, comments and tokens other than literals precede the text `r` from the start of a line
-- on. This is still so from the LF before that line on.
reach_line_end : (t r : List ℕ) → Reaches (after_line t) r → Reaches (after_run is_in_line t) r
reach_line_end [] r h = h
reach_line_end (c ∷ t) r h = go (c == 10) refl h (reach_line_end t r)
  where
    go : (b : Bool) → (c == 10) ≡ b → Reaches (cond b t (after_line t)) r
        → (Reaches (after_line t) r → Reaches (after_run is_in_line t) r) → Reaches (after_run is_in_line (c ∷ t)) r
    go true e h more = subst (λ (z : List ℕ). Reaches z r) (sym (rw (e) refl))
        (reach_white c t r (subst (λ (k : ℕ). is_white k ≡ true) (sym (is_equal c 10 e)) refl) h)
    go false e h more = subst (λ (z : List ℕ). Reaches z r) (sym (rw (e) refl)) (more h)

reach_line : (t r : List ℕ) → Reaches (after_line t) r → Reaches (47 ∷ 47 ∷ t) r
reach_line t r h = go (is_comment_line t) refl
  where
    go : (b : Bool) → is_comment_line t ≡ b → Reaches (47 ∷ 47 ∷ t) r
    go true e = reach_piece (47 ∷ 47 ∷ t) (after_line t) r (rw (e) refl) h
    go false e = reach_first (47 ∷ 47 ∷ t) (after_run is_in_line t) r DocCommentKind (rw (e) refl)
        (doc_line_found t (after_run is_in_line t) e refl) (λ is. is) (reach_line_end t r h)

reach_block : (t u r : List ℕ) → after_block 0 t ≡ Some u → Reaches u r → Reaches (47 ∷ 42 ∷ t) r
reach_block t u r closed h = go (is_comment_block t) refl
  where
    go : (b : Bool) → is_comment_block t ≡ b → Reaches (47 ∷ 42 ∷ t) r
    go true e = reach_piece (47 ∷ 42 ∷ t) u r (rw (e) closed) h
    go false e = reach_first (47 ∷ 42 ∷ t) u r DocCommentKind (rw (e) refl)
        (doc_block_found t u e (after_block-sound 0 t u closed)) (λ is. is) h

pub reach_comment : (t u r : List ℕ) → after_any_comment t ≡ Some u → Reaches u r → Reaches (47 ∷ t) r
reach_comment [] u r is h = absurd (none-some u is)
reach_comment (c ∷ t) u r is h = go (c == 47) (c == 42) refl refl is
  where
    go : (a b : Bool) → (c == 47) ≡ a → (c == 42) ≡ b → cond a (Some (after_line t)) (cond b (after_block 0 t) None)
        ≡ Some u → Reaches (47 ∷ c ∷ t) r
    go true b e f is = subst (λ (k : ℕ). Reaches (47 ∷ k ∷ t) r) (sym (is_equal c 47 e))
        (reach_line t r (subst (λ (z : List ℕ). Reaches z r) (sym (same_Some (after_line t) u is)) h))
    go false true e f is = subst (λ (k : ℕ). Reaches (47 ∷ k ∷ t) r) (sym (is_equal c 42 f)) (reach_block t u r is h)
    go false false e f is = absurd (none-some u is)

-- If `after_any_comment` finds no comment, neither a doc comment nor a plain one, `after_comment` finds no plain comment.
pub no_comment : (t : List ℕ) → after_any_comment t ≡ None → after_comment t ≡ None
no_comment [] none = refl
no_comment (c ∷ t) none = go (c == 47) (c == 42) (is_comment_block t) refl refl refl none
  where
    go : (a b d : Bool) → (c == 47) ≡ a → (c == 42) ≡ b → is_comment_block t ≡ d → cond a (Some (after_line t))
        (cond b (after_block 0 t) None) ≡ None → after_comment (c ∷ t) ≡ None
    go true b d e f g none = absurd (none-some (after_line t) (sym none))
    go false true true e f g none = rw (e, f, g) none
    go false true false e f g none = rw (e, f, g) refl
    go false false d e f g none = rw (e, f) refl
