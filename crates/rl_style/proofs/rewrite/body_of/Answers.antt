use Rattle.rl_style.proofs.QuotedParts.{no_other, text_found, unit_found}
use Rattle.rl_style.proofs.rewrite.body_of.Goals as goal

pub unreachable-requires : goal.unreachable-requires
unreachable-requires c = no_other c.args.form c.args.kind c.args.text.now c.args.reading c.requires.begins
    c.requires.reads
    c.in_default.not-Text c.in_default.not-Unit

pub returns-in-Text : goal.returns-in-Text
returns-in-Text c = text_found c.args.form c.args.kind c.in-Text.field-0 c.args.text.now c.in-Text.body c.args.reading
    c.requires.token c.requires.begins c.requires.reads c.in-Text.is

pub returns-in-Unit : goal.returns-in-Unit
returns-in-Unit c = unit_found c.args.form c.args.kind c.in-Unit.field-0 c.args.text.now c.in-Unit.body
    c.in-Unit.field-2
    c.args.reading c.requires.token c.requires.begins c.requires.reads c.in-Unit.is
