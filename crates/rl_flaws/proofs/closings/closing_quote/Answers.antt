use Rattle.rl_flaws.proofs.Names.{◌∙◌, refl, sym, quote_read}
use Rattle.rl_flaws.proofs.ClosingLemmas.{second_closes}
use Rattle.rl_flaws.proofs.closings.closing_quote.Goals as goal

pub returns-then-begins_with_char-clause-some : goal.returns-then-begins_with_char-clause-some
returns-then-begins_with_char-clause-some c = second_closes c.args.ends _ _ c.in-Some.ensures.rest
    (sym c.begins_with_char.ensures ∙ c.if-begins_with_char.true)

pub returns-then-begins_with_char-clause-rest : goal.returns-then-begins_with_char-clause-rest
returns-then-begins_with_char-clause-rest c = (quote_read c.args.ends _ _ 39 c.in-Some.ensures.rest refl).1
