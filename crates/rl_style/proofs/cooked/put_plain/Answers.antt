use Rattle.rl_syntax.proofs.Common.{◌∙◌, ◌++◌, take, ap, sym, append-nil, rules}
use Rattle.rl_style.proofs.UnitTexts.{empty_bytes, plain_bytes}
use Rattle.rl_style.proofs.cooked.put_plain.Goals as goal

pub returns-in-Some-clause-bytes : goal.returns-in-Some-clause-bytes
returns-in-Some-clause-bytes c = plain_bytes c.args.style c.args.kind c.args.byte c.in-Some.c c.args.unit.now
    c.in-Some.rest.now _ _ _ (search rules) c.in-Some.ensures.chars c.requires.plain
    c.put_itself-end.ensures.bytes c.put_text.ensures.bytes

pub returns-in-None-clause-bytes : goal.returns-in-None-clause-bytes
returns-in-None-clause-bytes c = sym (ap (λ z. take c.args.at c.args.out.now ++ z)
    (empty_bytes c.args.style c.args.kind c.args.byte c.args.unit.now c.in-None.ensures.chars)
    ∙ append-nil (take c.args.at c.args.out.now))
