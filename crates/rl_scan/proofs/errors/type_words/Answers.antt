use Rattle.rl_strict.specs.declared.line_ends.LineEnds.TheVariants.{File}
use Rattle.std.proofs.Common.{false}
use Rattle.rl_scan.proofs.AcceptLemmas.{begins_suffix, under_limit}
use Rattle.rl_scan.proofs.errors.type_words.Goals as goal

pub type_error_in-requires-clause-limit : goal.type_error_in-requires-clause-limit
type_error_in-requires-clause-limit c = λ at is. under_limit c.args.text.now c.args.reading.now at c.requires.reads
    (c.in_default.ensures.none File false c.requires.reads c.requires.token) is

pub type_error_in-requires-clause-begins : goal.type_error_in-requires-clause-begins
type_error_in-requires-clause-begins c = begins_suffix c.args.text.now c.args.reading.now c.utf8.text c.requires.reads
