-- The call of the function `is_due`: its arguments, and the result for the caller. Assumes `Logic`.
use Rattle.std.proofs.Common.{◌≡◌, ℕ, List, [], ◌∷◌, refl, ap}
use mathlib.Core.Bool.{Bool}
use seplogic.Ra.Ura.{Ura}
use mir.Val.{Val, vbool, vptr}
use base.Logic.{SProp, ent, sep, ex, guard, id⊢}
use base.Fml.{Lft, Share, ftrue, fsep, flft}
use prog.Memory.{Memory}
use prog.Routine.{Routine}
use types.Logic.{Logic, sem}
use contract.Monad.{Fun}
use types.Kit.{‵, ◌⊛◌, some, later, ◌$◌, ◌∵◌, !, qed, move, keep, use1, split, join, pick, show, fjoin, feq_i, feq_l, check, await, updating, now as at_once, done}
use denote.RattleType.{RattleType}
use denote.Memory.{hidden_shr}
use denote.Builtin.{bool}
use denote.Steps.{nothing, only}
use denote.Triple.Statement.{Contract}
use denote.Triple.Spec.{triple_of}
use Rattle.rl_rows.specs.contracts.failing.Plan as P
use Rattle.rl_rows.specs.contracts.failing.is_due as D

abbrev pub Kept : RattleType
Kept = P.the_row

module _ {M : Type 1} {𝓤 : Ura M} (𝓛 : Logic 𝓤) (at_mem : Memory → SProp 𝓤) (run : Routine → Fun 𝓤) where
  abbrev pub Due : Contract 𝓤
  Due = triple_of 𝓛 D.signature (D.spec 𝓛 at_mem run)

  abbrev pub at_due : Lft → Share → Kept.Denot → ℕ × ℕ → Due.Ghost
  at_due κ q p c = (((κ, tt), (q, tt), tt, (record { ref_ptr = c; now = p }, tt), (vptr c.0 c.1 ∷ [], tt)), tt)

module _ {M : Type 1} {𝓤 : Ura M} (𝓛 : Logic 𝓤) (at_mem : Memory → SProp 𝓤) (run : Routine → Fun 𝓤) (κ : Lft)
    (q : Share) (p : Kept.Denot) (c : ℕ × ℕ) where
  open 𝓛 use {H, A}

  pub Due-goes : ent 𝓤 (sep 𝓤 (sem 𝓛 (hidden_shr Kept κ p c.0 c.1)) (A.lft κ q))
      ((Due 𝓛 at_mem run).pre (at_due 𝓛 at_mem run κ q p c))
  Due-goes =
      qed 𝓛 (‵ (hidden_shr Kept κ p c.0 c.1) ∷ ‵ (flft κ q) ∷ []) ∵ feq_i ! (List Val) (vptr c.0 c.1 ∷ [])
      (vptr c.0 c.1 ∷ []) refl $ fjoin ! $
      nothing ! $ move ! (1 ∷ []) $ fjoin ! $ nothing ! $ move ! (2 ∷ []) $ join ! $ join ! $ nothing ! $ move !
      (1 ∷ []) $ join ! $ done !

  pub Due-gives : (v : Val) → ent 𝓤 ((Due 𝓛 at_mem run).post (at_due 𝓛 at_mem run κ q p c) v)
      (H.⇛ (ex 𝓤 (λ (b : Bool). guard 𝓤 (v ≡ vbool b) (A.lft κ q))))
  Due-gives v =
      qed 𝓛 (types.Kit.raw ((Due 𝓛 at_mem run).post (at_due 𝓛 at_mem run κ q p c) v) ∷ []) ∵ updating ! $
      use1 𝓛 (later (some (λ (r : Bool). ((‵ (flft κ q) ⊛ ‵ ftrue) ⊛ ‵ (bool.own_val r (v ∷ []))) ⊛ some
      (λ (ws : Unit {0} × Unit {0}). ‵ (fsep ftrue ftrue) ⊛ ‵ ftrue)))) (id⊢ 𝓤 _) $ await ! tt $ pick ! (λ r.
      split ! $ split ! $ move ! (1 ∷ []) $ feq_l ! (λ e. split ! $ at_once ! $ show !
      (λ (b : Bool). guard 𝓤 (v ≡ vbool b) (A.lft κ q)) r $ check ! (ap only e) $ keep ! (0 ∷ []) $ done !))
