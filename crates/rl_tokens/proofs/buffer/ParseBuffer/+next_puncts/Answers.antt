use Rattle.std.specs.Str.{chars}
use Rattle.rl_tokens.specs.Buffers.{trees_in, IsAfterMarks}
use Rattle.rl_tokens.proofs.MarkLemmas.{after_one, none_after}
use Rattle.rl_tokens.proofs.buffer.ParseBuffer.+next_puncts.Goals as goal

pub returns-clause-other : goal.returns-clause-other
returns-clause-other g t c =
    none_after c.next_puncts.result
    (λ s r. IsAfterMarks (chars c.in-Some.more.now) _ (trees_in c.mark.new.self) s r)
    (λ s r. IsAfterMarks (chars c.args.marks.now) c.args.before (trees_in c.args.self.now) s r)
    (λ s r q. after_one (chars c.args.marks.now) (chars c.in-Some.more.now) c.in-Some.ch c.args.before
    (trees_in c.args.self.now) (trees_in c.mark.new.self) c.in_ok-mark.field-0.now c.span-at.result s r
    c.in-Some.ensures.chars c.in_ok-mark.ensures.taken.0 c.span-at.ensures q)
    c.next_puncts.ensures.other
