use Rattle.rl_syntax.proofs.TailLemmas.{tail_step, some_tail}
use Rattle.rl_lexer.proofs.source.after_any_name.Goals as goal

pub returns-then-begins_raw_identifier-clause-following : goal.returns-then-begins_raw_identifier-clause-following
returns-then-begins_raw_identifier-clause-following c =
    some_tail (λ i. i.now) c.args.text.now _ c.after_name.result
    (tail_step _ _ _ c.without_first_char.ensures.following c.without_first_char-then-begins_raw_identifier.ensures.following)
    c.after_name.ensures.following
