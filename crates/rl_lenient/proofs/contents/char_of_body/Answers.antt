use Rattle.rl_syntax.proofs.Common.{[], ◌∷◌, refl, subst, sym}
use Rattle.rl_lenient.proofs.Names.{Char, Characters, HasContents}
use Rattle.rl_lenient.proofs.contents.char_of_body.Goals as goal

pub unreachable-requires : goal.unreachable-requires
unreachable-requires c = c.in-None.ensures.value ((c.body_unit.ensures c.requires.0 c.requires.1).character refl)

pub returns : goal.returns
returns c = λ t has. subst (λ n. HasContents Char t (Characters (n ∷ []))) (sym c.in-Some.ensures.value.1)
    (c.body_unit.ensures t has).reads
