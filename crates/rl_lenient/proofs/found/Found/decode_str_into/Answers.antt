use Rattle.std.proofs.Common.{Bool, sym, subst, take, ◌∙◌}
use Rattle.std.specs.Str.{chars}
use Rattle.rl_syntax.specs.declared.kind.Kind.TheVariants.{Str}
use Rattle.rl_syntax.specs.Reading.{Characters}
use Rattle.rl_lenient.specs.Bodies.{Represents}
use Rattle.rl_lenient.proofs.ValueLemmas.{string_reads, copied}
use Rattle.rl_lenient.proofs.found.Found.decode_str_into.Goals as goal

pub returns-then-self-clause-reads : goal.returns-then-self-clause-reads
returns-then-self-clause-reads c =
    let body = c.body_in-body.result.now in
    let bytes = take c.put.result c.put.new.out in
    string_reads c.args.text.now c.args.self.now body (Characters (chars bytes)) c.requires.found c.requires.kind
    c.body_in-body.ensures.string
    (copied body bytes c.args.self.now.body.plain c.if-self.true c.body_in-body.utf8
    (c.put.ensures.bytes ∙ c.as_bytes.ensures.value))

pub returns-else-self-clause-reads : goal.returns-else-self-clause-reads
returns-else-self-clause-reads c =
    let body = c.body_in-body.result.now in
    let v = Characters (chars (take c.decode_str_into.result c.decode_str_into.new.out)) in
    string_reads c.args.text.now c.args.self.now body v c.requires.found c.requires.kind c.body_in-body.ensures.string
    (subst (λ (y : Bool). Represents Str body y v) (sym c.if-self.false) c.decode_str_into.ensures.value)
