use Rattle.rl_syntax.proofs.Common.{rules, ◌<◌, sym, ◌∙◌}
use Rattle.rl_syntax.proofs.AsciiLemmas.{continue_is_plain}
use Rattle.rl_syntax.proofs.characters.is_id_continue.Goals as goal

pub returns-then-is_ascii : goal.returns-then-is_ascii
returns-then-is_ascii c =
    let low : c.args.c < 128 = search rules in
    c.if-is_ascii.true
    ∙ sym (continue_is_plain c.args.c low ∙ sym c.is_xid_continue.ensures ∙ c.if-is_xid_continue.true)
