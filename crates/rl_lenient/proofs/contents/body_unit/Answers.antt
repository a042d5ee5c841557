use Rattle.rl_syntax.proofs.Common.{sym}
use Rattle.rl_lenient.proofs.SingleBodies.{body_stands, body_one, body_reads}
use Rattle.rl_lenient.proofs.contents.body_unit.Goals as goal

pub unreachable-requires : goal.unreachable-requires
unreachable-requires c = body_stands _ _ _ c.requires.1 (sym c.in_default.ensures.value)

pub piece_code-requires-clause-single : goal.piece_code-requires-clause-single
piece_code-requires-clause-single c = c.requires.1.parts.0.single

pub piece_code-requires-clause-one : goal.piece_code-requires-clause-one
piece_code-requires-clause-one c = body_one _ _ _ _ c.requires.1 (sym c.in-Some.ensures.value)

pub returns : goal.returns
returns c = λ t has. body_reads _ _ _ _ _ has (sym c.in-Some.ensures.value) c.piece_code.ensures
