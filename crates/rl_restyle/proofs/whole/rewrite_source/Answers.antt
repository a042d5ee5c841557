use Rattle.rl_syntax.proofs.Common.{◌++◌, ◌∙◌, ap, chars, chars-nil, refl, string_bytes, sym, true}
use Rattle.rl_restyle.proofs.Drafts.{draft_start, finished_clean, finished_whole, last_piece, none_left, source_error, to_none}
use Rattle.rl_restyle.proofs.whole.rewrite_source.Goals as goal

pub loop-literal-init : goal.loop-literal-init
loop-literal-init g c =
    let start = c.new-literals.ensures in
    draft_start c.args.style c.args.choice c.args.text.now c.new-literals.result 0 (chars (string_bytes c.in-Ok.new))
    true start.text start.following start.begun start.nothing start.end start.no_call refl
    (ap chars c.in-Ok.ensures.bytes ∙ chars-nil) start.no_stray refl

pub loop-literal-preserved : goal.loop-literal-preserved
loop-literal-preserved g c = c.in-Ok-put_literal.ensures c.loop-literal.literals c.next.new.self c.loop-literal.invariant
    c.in-Some.ensures.found

pub finished-requires : goal.finished-requires
finished-requires g c =
    let draft = c.loop-literal.draft in
    let out = chars (string_bytes draft.text) in
    let text = c.args.text.now in
    let end = to_none c.args.style c.args.choice (chars text) draft.at out draft.is_clean c.loop-literal.invariant
    c.in_default-next.ensures.none in
    let none = none_left c.next.new.self end.1 c.in-None.ensures.none in (
      end.0.tail ++ end.0.gap,
      last_piece c.args.style c.args.choice text c.next.new.self draft.at out draft.is_clean c.utf8.text end.0 none,
    )

pub returns-in-Some-error-clause-error : goal.returns-in-Some-error-clause-error
returns-in-Some-error-clause-error g c =
    let draft = c.loop-literal.draft in
    let out = chars (string_bytes draft.text) in
    let text = c.args.text.now in
    let end = to_none c.args.style c.args.choice (chars text) draft.at out draft.is_clean c.loop-literal.invariant
    c.in_default-next.ensures.none in
    source_error c.args.style c.args.choice text c.next.new.self draft.at out draft.is_clean c.in-Some-error.error
    (sym c.if-not-is_safe_to_restyle.ensures) end.0 c.in-Some-error.ensures.error c.in-Some-error.ensures.place

pub returns-in-None-clause-restyled : goal.returns-in-None-clause-restyled
returns-in-None-clause-restyled g c =
    let draft = c.loop-literal.draft in
    let out = chars (string_bytes draft.text) in
    let text = c.args.text.now in
    let end = to_none c.args.style c.args.choice (chars text) draft.at out draft.is_clean c.loop-literal.invariant
    c.in_default-next.ensures.none in
    finished_whole c.args.style c.args.choice text c.next.new.self draft.at out draft.is_clean c.finished.result c.utf8.text
    (sym c.if-not-is_safe_to_restyle.ensures) end.0 (none_left c.next.new.self end.1 c.in-None.ensures.none)
    c.finished.ensures.text

pub returns-in-None-clause-clean : goal.returns-in-None-clause-clean
returns-in-None-clause-clean g c =
    let draft = c.loop-literal.draft in
    let out = chars (string_bytes draft.text) in
    let text = c.args.text.now in
    let end = to_none c.args.style c.args.choice (chars text) draft.at out draft.is_clean c.loop-literal.invariant
    c.in_default-next.ensures.none in
    finished_clean c.args.style c.args.choice text c.next.new.self draft.at out draft.is_clean c.has_stray.result
    c.finished.result end.0 (none_left c.next.new.self end.1 c.in-None.ensures.none) c.has_stray.ensures
    c.finished.ensures.clean
