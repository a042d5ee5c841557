use Rattle.rl_syntax.proofs.Common.{chars, on_ok_weaker, subst}
use Rattle.rl_lenient.proofs.Names.{Kind, ReadsAs}
use Rattle.rl_lenient.proofs.FoundLemmas.{found_reads}
use Rattle.rl_program.specs.Lines.{IsLineOf}
use Rattle.rl_program.proofs.LitLineLemmas.{kind_lined}
use Rattle.rl_program.proofs.lit_line.push_quoted_literal.Goals as goal

pub returns : goal.returns
returns g c =
    let kind = g.K.QuotedKind.KIND in
    let t = c.args.literal.now.text in
    let reads : ReadsAs kind (chars t) = subst (λ (k : Kind). ReadsAs k (chars t)) c.found.ensures.kind
    (found_reads t c.found.result c.found.ensures.found) in
    on_ok_weaker c.push_found_line.result (λ a. (
      a.0,
      kind_lined kind (chars t) a.0 reads (subst (λ z. IsLineOf (chars z) a.0) c.text.ensures a.1),
      a.2,
    )) c.push_found_line.ensures
