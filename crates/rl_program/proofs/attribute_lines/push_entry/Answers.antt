use Rattle.rl_syntax.proofs.Common.{IsUtf8-string_bytes}
use Rattle.std.proofs.lemmas.Result.{IfOk-weaker}
use Rattle.rl_program.proofs.LineLemmas.{pushed}
use Rattle.rl_program.proofs.EntryLineLemmas.{entry_pushed}
use Rattle.rl_program.proofs.attribute_lines.push_entry.Goals as goal

pub returns : goal.returns
returns g c = IfOk-weaker c.push_literal_line.result _ _ (λ u p. entry_pushed c.args.entry.now c.as_str.result.now _ _ _ _
    c.as_str.ensures.value (pushed _ _ _ (IsUtf8-string_bytes c.args.out.now) c.in_ok-push_str.ensures.bytes)
    (pushed _ _ _ (IsUtf8-string_bytes c.push_str.new.self) c.in_ok-push_str-2.ensures.bytes) p) c.push_literal_line.ensures
