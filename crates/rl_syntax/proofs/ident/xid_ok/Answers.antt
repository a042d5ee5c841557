use Rattle.rl_syntax.proofs.Common.{rules}
use Rattle.rl_syntax.proofs.ident.xid_ok.Goals as goal

pub returns-then-is_xid_start : goal.returns-then-is_xid_start
returns-then-is_xid_start c = search rules steps 300000

pub returns-else-is_xid_start : goal.returns-else-is_xid_start
returns-else-is_xid_start c = search rules steps 300000
