use Rattle.rl_syntax.proofs.Common.{chars, string_bytes}
use Rattle.rl_restyle.proofs.Drafts.{next_front, next_middle, put_done, put_none}
use Rattle.rl_restyle.proofs.draft.put_literal.Goals as goal

pub clean_after-draft-requires : goal.clean_after-draft-requires
clean_after-draft-requires g c =
    let draft = c.args.draft.now in
    next_front c.args.style c.args.choice (chars c.args.source.now) draft.at (chars (string_bytes draft.text))
    draft.is_clean c.args.literal c.requires

pub text_of-requires : goal.text_of-requires
text_of-requires g c =
    let draft = c.args.draft.now in
    next_front c.args.style c.args.choice (chars c.args.source.now) draft.at (chars (string_bytes draft.text))
    draft.is_clean c.args.literal c.requires

pub put-requires : goal.put-requires
put-requires g c =
    let draft = c.args.draft.now in
    next_middle c.args.style c.args.choice (chars c.args.source.now) draft.at (chars (string_bytes draft.text))
    draft.is_clean c.args.literal c.requires

pub returns-in-Some : goal.returns-in-Some
returns-in-Some g c =
    let draft = c.args.draft.now in
    let later = c.put.new.draft in
    put_done c.args.style c.args.choice (chars c.args.source.now) draft.at (chars (string_bytes draft.text))
    draft.is_clean c.args.literal (chars (string_bytes c.in-Some.new)) later.at
    (chars (string_bytes later.text)) c.put.result
    (rw c.in-Some.is at c.in_ok-new.ensures) (rw c.as_str.ensures.value at c.put.ensures.text) c.put.ensures.at
    c.clean_after-draft.result later.is_clean c.put.ensures.clean c.clean_after-draft.ensures

pub returns-in-None : goal.returns-in-None
returns-in-None g c =
    let draft = c.args.draft.now in
    put_none c.args.style c.args.choice (chars c.args.source.now) draft.at (chars (string_bytes draft.text))
    draft.is_clean c.args.literal (rw c.in-None.is at c.in_ok-new.ensures)
    c.clean_after-draft.result c.clean_after-draft.ensures
