use Rattle.rl_syntax.proofs.Common.{rules, ◌<◌, ◌==◌, sym, ◌∙◌}
use Rattle.rl_syntax.proofs.AsciiLemmas.{start_is_plain, either}
use Rattle.rl_syntax.proofs.characters.is_id_start.Goals as goal

pub returns-then-is_ascii : goal.returns-then-is_ascii
returns-then-is_ascii c =
    let low : c.args.c < 128 = search rules in
    c.if-is_ascii.true
    ∙ sym (start_is_plain c.args.c low ∙ either (c.args.c == 95) (sym c.is_xid_start.ensures ∙ c.if-is_xid_start.true))
