use Rattle.rl_syntax.proofs.TruthLemmas.{truth_is_identifier}
use Rattle.rust_literals.proofs.lit_bool.LitBool.token.Goals as goal

pub new-requires : goal.new-requires
new-requires g c = truth_is_identifier c.args.self.now.value _ c.word.ensures
