use Rattle.rl_style.specs.Calls.{calls_seen}
use Rattle.rl_scan.proofs.AcceptLemmas.{follows_more}
use Rattle.rl_scan.proofs.follower.Follower.next.Goals as goal

pub invariant_of-self-2 : goal.invariant_of-self-2
invariant_of-self-2 c = follows_more c.self.inside.source.now c.self.inside.tokens c.next.new.self c.in-Some.token
    (calls_seen c.self.inside.calls) (calls_seen c.advance_calls-self-inside.result) c.self.invariant c.in-Some.ensures.next
    c.advance_calls-self-inside.ensures
