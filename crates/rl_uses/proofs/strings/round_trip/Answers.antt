use Rattle.std.proofs.Common.{ap, ◌∙◌}
use Rattle.std.specs.Str.{chars}
use Rattle.rl_tokens.specs.WrittenLists.{characters_of}
use Rattle.rl_uses.proofs.StringLemmas.{if_read, written_list}
use Rattle.rl_uses.proofs.strings.round_trip.Goals as goal

pub returns-in-Ok-clause-same : goal.returns-in-Ok-clause-same
returns-in-Ok-clause-same g c =
    let vs = characters_of c.args.values.now in
    (if_read vs c.read_list.result (c.read_list.ensures.exactly vs
    (written_list _ vs c.as_str.utf8 (ap chars c.as_str.ensures.value ∙ c.in-Ok.ensures)))).0

pub returns-in-Ok-clause-memory : goal.returns-in-Ok-clause-memory
returns-in-Ok-clause-memory g c =
    let vs = characters_of c.args.values.now in
    (if_read vs c.read_list.result (c.read_list.ensures.exactly vs
    (written_list _ vs c.as_str.utf8 (ap chars c.as_str.ensures.value ∙ c.in-Ok.ensures)))).1
