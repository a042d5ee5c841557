use Rattle.rl_syntax.proofs.Common.{sym}
use Rattle.std.specs.Str.{chars}
use Rattle.rl_lenient.proofs.RawLemmas.{others_hold}
use Rattle.rl_lenient.proofs.quoted_forms.holds_all.Goals as goal

pub returns-in_default : goal.returns-in_default
returns-in_default c = sym (others_hold _ c.in_default.not-ByteStr c.in_default.not-CStr (chars c.args.text.now))
