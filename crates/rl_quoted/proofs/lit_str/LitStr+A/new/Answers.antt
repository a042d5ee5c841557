use Rattle.rl_syntax.proofs.Common.{chars, encodes-chars, sym, ◌∙◌}
use Rattle.rl_quoted.proofs.lit_str.LitStr+A.new.Goals as goal

pub written-requires-clause-written : goal.written-requires-clause-written
written-requires-clause-written g c =
    let t = c.args.value.now in
    record { value = chars t; written = c.in-Ok.ensures.text; bytes_are = c.as_bytes.ensures.value ∙ sym (encodes-chars t c.utf8.value) }
