use lib.Pointwise.{bytes_decides}
use Rattle.rl_syntax.proofs.Common.{chars, sym, take, ◌∙◌}
use Rattle.rl_style.proofs.Changed.{changed}
use Rattle.rl_style.proofs.rules.is_changed_by_style.Goals as goal

pub returns-clause-change : goal.returns-clause-change
returns-clause-change c =
    let same = rw c.as_bytes.ensures.value at c.eq-is_same.ensures in
    let tells = bytes_decides (take c.in_ok-len.len c.rewrite_within.new.out) c.args.text.now in
    changed c.args.style (chars c.args.front.now) (take c.in_ok-len.len c.rewrite_within.new.out) c.args.text.now
    c.eq-is_same.result c.in_ok-len.ensures.written c.in_ok-len.ensures.utf8 c.utf8.text
    (λ h. tells.0 (sym same ∙ h), λ h. same ∙ tells.1 h)
