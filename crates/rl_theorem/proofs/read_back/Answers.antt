use Rattle.std.specs.Str.{chars}
use Rattle.rl_theorem.proofs.HeadlineLemmas.{items_answer}
use Rattle.rl_theorem.proofs.PrintedItems.{has_entries}
use Rattle.rl_theorem.proofs.read_back.Goals as goal

pub returns : goal.returns
returns g c = λ items last p.
    let has = has_entries (chars c.args.text.now) items last p in
    items_answer c.args.file items has.entries c.read_all.result has.are (c.read_all.ensures.printed has.entries last has.printed)
