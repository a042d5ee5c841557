use Rattle.rl_restyle.proofs.ValueLemmas.{of_text, read_none, read_more, rejects_entry, rejects_rest}
use Rattle.rl_restyle.proofs.styles.parse_style.Goals as goal

pub loop-values-init : goal.loop-values-init
loop-values-init c = read_none c.args.text.now c.new-tokens.result c.new-values.result c.new-tokens.ensures.text
    c.new-tokens.ensures.skipped c.new-values.ensures

pub set_entry-requires : goal.set_entry-requires
set_entry-requires c = of_text c.loop-values.tokens c.next_config_entry.new.tokens c.in-Entry.entry c.in-Entry.ensures.0

pub loop-values-preserved : goal.loop-values-preserved
loop-values-preserved c = read_more c.args.text.now c.loop-values.tokens c.next_config_entry.new.tokens c.loop-values.values
    c.set_entry.new.values c.in-Entry.entry c.loop-values.invariant c.in-Entry.ensures.0 c.in-Ok.ensures.sets

pub returns-in-Err-clause-rejects : goal.returns-in-Err-clause-rejects
returns-in-Err-clause-rejects c = rejects_entry c.args.text.now c.loop-values.tokens c.next_config_entry.new.tokens
    c.loop-values.values c.in-Entry.entry c.in-Err.error c.loop-values.invariant c.in-Entry.ensures.0
    c.in-Err.ensures.rejected

pub returns-in-Rejected-clause-rejects : goal.returns-in-Rejected-clause-rejects
returns-in-Rejected-clause-rejects c = rejects_rest c.args.text.now c.loop-values.tokens c.loop-values.values
    c.in-Rejected.rejection c.rejection_error.result c.loop-values.invariant c.in-Rejected.ensures.0
    c.in-Rejected.ensures.1 c.rejection_error.ensures
