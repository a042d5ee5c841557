use Rattle.rl_syntax.proofs.Common.{[], ap, chars, chars-nil, string_bytes, ◌∙◌, ◌≡◌}
use Rattle.rl_program.specs.LitLines.{IsLineOfLit}
use Rattle.rl_program.proofs.JoinLemmas.{appends_to_none}
use Rattle.rl_program.proofs.lit_line.output_line.Goals as goal

pub returns : goal.returns
returns g c =
    let empty : chars (string_bytes c.new-line.result) ≡ [] = ap chars c.new-line.ensures.bytes ∙ chars-nil in
    appends_to_none (IsLineOfLit c.args.literal.now) _ _ empty c.in_ok-push_literal_line.ensures
