use Rattle.rl_lenient.proofs.number_forms.float_shape.Goals as goal

pub parts-requires : goal.parts-requires
parts-requires c = c.in_ok-found.ensures.found.stands
