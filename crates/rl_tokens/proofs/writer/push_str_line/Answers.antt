use Rattle.rl_syntax.proofs.Common.{chars, string_bytes}
use Rattle.rl_syntax.specs.declared.kind.Kind.TheVariants.{Str}
use Rattle.rl_syntax.specs.Written.{written_text}
use Rattle.rl_tokens.proofs.WrittenListLemmas.{line_more}
use Rattle.rl_tokens.proofs.writer.push_str_line.Goals as goal

pub returns : goal.returns
returns g c =
    line_more (string_bytes c.args.out.now) (string_bytes c.push_str_literal.new.out) (string_bytes c.push.new.self)
    (written_text Str (chars c.args.value.now)) 10 c.in_ok-push_str_literal.ensures.bytes c.in_ok-push.ensures.bytes
