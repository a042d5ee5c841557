use Rattle.rl_syntax.proofs.Common.{◌≡◌, ◌<◌, ◌∙◌, ap, false, rules, subst, sym}
use Rattle.rl_lenient.proofs.Names.{IsScalar, Kind}
use Rattle.rl_lenient.specs.declared.found.Found.{Found}
use Rattle.rl_quoted.specs.Places.{HasPartsAt}
use Rattle.rl_quoted.proofs.PlaceLemmas.{HeldUnit, held_byte, held_character, held_found, held_none, single_byte, single_character}
use Rattle.rl_quoted.proofs.quoted.Quoted.found.Goals as goal
use Rattle.rl_quoted.proofs.quoted.Quoted.found.Goals.{in-Byte, in-Char, in_default}

pub returns-clause-found : goal.returns-clause-found
returns-clause-found g c =
    let kind = g.K.QuotedKind.KIND in
    let t = c.args.self.now.text in
    let text : c.self.inside.token.text ≡ t = search rules in
    let named : c.KIND.result ≡ kind = c.KIND.ensures in
    let held : HeldUnit kind t c.match-KIND.unit = elim c.match-KIND.branch [
      | in-Byte w ↦
          let small : w.byte_of_body.result < 256 = search rules in
          subst (HeldUnit kind t) (sym w.unit-is)
          (held_byte kind t _ _ (sym named ∙ w.in-Byte.is) (c.between-between.ensures.single (single_byte _ (sym named ∙ w.in-Byte.is))) w.byte_of_body.ensures small)
      | in-Char w ↦
          let scalar : IsScalar w.char_of_body.result = search rules in
          subst (HeldUnit kind t) (sym w.unit-is)
          (held_character kind t _ _ (sym named ∙ w.in-Char.is) (c.between-between.ensures.single (single_character _ (sym named ∙ w.in-Char.is))) w.char_of_body.ensures scalar)
      | in_default w ↦ subst (HeldUnit kind t) (sym w.unit-is)
          (held_none kind t (λ e. w.in_default.not-Byte (named ∙ e)) (λ e. w.in_default.not-Char (named ∙ e)))
    ] in
    held_found kind t c.self.inside.body c.match-KIND.unit _ c.between-between.ensures.text c.requires
    (subst (λ z. HasPartsAt kind z c.self.inside.body) text c.self.invariant) held
    (ap {B = Found} (λ (k : Kind). record { kind = k; body = c.self.inside.body; magnitude = 0; truth = false; unit = c.match-KIND.unit }) c.KIND-2.ensures)
