use Rattle.std.specs.Prelude.{string_bytes}
use Rattle.std.specs.Str.{chars}
use Rattle.rl_uses.proofs.StringLemmas.{suffixed, unsuffixed}
use Rattle.rl_uses.proofs.strings.string_of.Goals as goal

pub returns-in-Ok-clause-set : goal.returns-in-Ok-clause-set
returns-in-Ok-clause-set g c =
    unsuffixed c.args.literal.now c.in-Str.string (chars (string_bytes c.in-Ok.value)) c.in-Str.is c.in-Ok.ensures.value
    c.if-has_suffix.ensures

pub returns-then-has_suffix-clause-rejected : goal.returns-then-has_suffix-clause-rejected
returns-then-has_suffix-clause-rejected g c = (
  rw c.in-Str.is c.span.ensures,
  λ v is. suffixed c.args.literal.now c.in-Str.string v c.in-Str.is
      c.if-has_suffix.ensures is,
)
