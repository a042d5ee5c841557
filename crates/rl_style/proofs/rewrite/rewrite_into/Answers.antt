use Rattle.std.proofs.lemmas.Result.{IfOk-weaker}
use Rattle.rl_style.proofs.Room.{room_most, within}
use Rattle.rl_style.proofs.rewrite.rewrite_into.Goals as goal

pub rewrite_within-requires : goal.rewrite_within-requires
rewrite_within-requires c = within _ _ _ (room_most c.args.style c.args.text.now) c.requires

pub returns-clause-within : goal.returns-clause-within
returns-clause-within c = IfOk-weaker c.rewrite_within.result _ _
    (λ n less. within _ _ _ less (room_most c.args.style c.args.text.now)) c.rewrite_within.ensures.within
