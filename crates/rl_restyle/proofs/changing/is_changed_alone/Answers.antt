use Rattle.rl_syntax.proofs.Common.{◌≤◌, chars, subst, sym}
use Rattle.rl_style.specs.Rewriting.{Rewrites, room_for}
use Rattle.rl_style.proofs.Room.{within}
use Rattle.rl_restyle.proofs.ChangingLemmas.{room_alone}
use Rattle.rl_restyle.proofs.NewTexts.{no_other}
use Rattle.rl_restyle.proofs.changing.is_changed_alone.Goals as goal

pub is_changed_by_style-requires : goal.is_changed_by_style-requires
is_changed_by_style-requires c = within _ _ _ (subst (λ z. room_for z c.args.text.now
    ≤ room_for c.args.style c.args.text.now) (sym c.rule_alone.ensures)
    (room_alone c.args.style c.args.rule c.args.text.now)) c.requires

pub returns-in-Err : goal.returns-in-Err
returns-in-Err c = λ changes. changes.2 (no_other c.rule_alone.result (chars c.args.front.now) (chars c.args.text.now)
    c.in-Err.field-0 c.in-Err.ensures.flaw changes.0 (subst (λ z. Rewrites z (chars c.args.front.now) (chars c.args.text.now) changes.0) (sym c.rule_alone.ensures) changes.1))
