use Rattle.rl_style.proofs.QuotedParts.{cooked_parts, raw_parts}
use Rattle.rl_style.proofs.rewrite.write_quoted.Goals as goal

pub write_raw-requires-clause-parts : goal.write_raw-requires-clause-parts
write_raw-requires-clause-parts c = raw_parts c.args.form c.args.kind c.args.text.now c.range-inside.result.now
    c.range_from-suffix.result.now c.body_of-body.result c.requires.token c.requires.begins c.body_of-body.ensures
    c.in-Raw.is c.range-inside.ensures.value c.range_from-suffix.ensures.value

pub write_cooked-requires-clause-parts : goal.write_cooked-requires-clause-parts
write_cooked-requires-clause-parts c = cooked_parts c.args.form c.args.kind c.args.text.now c.range-inside.result.now
    c.range_from-suffix.result.now c.body_of-body.result c.requires.token c.requires.begins c.body_of-body.ensures
    c.in_default.not-Raw c.range-inside.ensures.value c.range_from-suffix.ensures.value
