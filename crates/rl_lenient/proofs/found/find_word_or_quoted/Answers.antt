use Rattle.rl_syntax.proofs.Common.{sym}
use Rattle.std.specs.Str.{chars}
use Rattle.rl_lenient.proofs.FormLemmas.{no_front}
use Rattle.rl_lenient.proofs.OptionLemmas.{none_then}
use Rattle.rl_lenient.proofs.ReadingLemmas.{no_reading, no_front_number}
use Rattle.rl_lenient.proofs.found.find_word_or_quoted.Goals as goal

pub returns-in_default-clause-none : goal.returns-in_default-clause-none
returns-in_default-clause-none c =
    let t = chars c.args.text.now in
    none_then c.parse_bool_literal.result (no_reading t (no_front t (sym c.in_default.ensures)) (no_front_number t c.requires))
    c.parse_bool_literal.ensures.none
