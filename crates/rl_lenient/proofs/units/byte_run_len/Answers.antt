use Rattle.rl_syntax.proofs.Common.{◌∙◌}
use Rattle.rl_lenient.proofs.Names.{ByteStr, is_plain}
use Rattle.rl_lenient.proofs.PlainLemmas.{same_prefix}
use Rattle.rl_lenient.proofs.units.byte_run_len.Goals as goal

pub returns : goal.returns
returns c = c.ascii_len_before_mark.ensures ∙ same_prefix _ (is_plain ByteStr) c.args.bytes.now c.ends_of_runs.ensures
