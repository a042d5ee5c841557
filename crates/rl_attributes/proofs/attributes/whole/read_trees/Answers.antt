use Rattle.rl_syntax.proofs.Common.{IfErr-weaker, ap, chars, inl, ◌∙◌}
use Rattle.std.proofs.lemmas.Result.{IfOk-weaker}
use Rattle.rl_lexer.proofs.ErrorKinds.{error_rejects}
use Rattle.rl_tokens.specs.Errors.{lex_rejection}
use Rattle.rl_attributes.proofs.EntryLemmas.{text_refused}
use Rattle.rl_attributes.proofs.attributes.whole.read_trees.Goals as goal

pub returns-in-Some-clause-rejected : goal.returns-in-Some-clause-rejected
returns-in-Some-clause-rejected g c =
    let e = c.in-Some.error in
    inl (record {
      kind = e.kind;
      at = e.at;
      rejected = error_rejects (chars c.args.text.now) e.kind e.at c.in-Some.ensures.error;
      error = c.of_lexer.ensures ∙ ap (lex_rejection e.kind) c.new-at.ensures;
    })

pub returns-in-None-clause-attributes : goal.returns-in-None-clause-attributes
returns-in-None-clause-attributes g c = IfOk-weaker c.parse_all.result _ _
    (λ attrs p. record { trees = p.trees; lexes = p.lexes; are = p.ran.0.are }) c.parse_all.ensures.parsed

pub returns-in-None-clause-values : goal.returns-in-None-clause-values
returns-in-None-clause-values g c = IfOk-weaker c.parse_all.result _ _ (λ attrs p. p.ran.0.read)
    c.parse_all.ensures.parsed

pub returns-in-None-clause-rejected : goal.returns-in-None-clause-rejected
returns-in-None-clause-rejected g c = IfErr-weaker c.parse_all.result _ _ (text_refused c.args.text.now c.args.file)
    c.parse_all.ensures.rejected
