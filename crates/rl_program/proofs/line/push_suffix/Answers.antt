use Rattle.std.proofs.Common.{◌∙◌, sym}
use Rattle.rl_program.proofs.LineLemmas.{word_suffix, quoted_suffix}
use Rattle.rl_program.proofs.line.push_suffix.Goals as goal

pub returns-then-xid_ok : goal.returns-then-xid_ok
returns-then-xid_ok g c = rw (word_suffix c.args.suffix.now c.utf8.suffix c.requires
    (sym c.xid_ok.ensures ∙ c.if-xid_ok.true)) c.push.ensures

pub returns-else-xid_ok : goal.returns-else-xid_ok
returns-else-xid_ok g c = rw (quoted_suffix c.args.suffix.now c.utf8.suffix c.requires
    (sym c.xid_ok.ensures ∙ c.if-xid_ok.false)) c.push_str_literal.ensures.text
