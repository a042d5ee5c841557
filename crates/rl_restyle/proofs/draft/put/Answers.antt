use Rattle.rl_syntax.proofs.Common.{IsUtf8-string_bytes, ◌++◌, ◌∙◌, ap, append_assoc, chars, refl, string_bytes}
use Rattle.rl_restyle.proofs.NewTexts.{piece_after}
use Rattle.rl_restyle.proofs.draft.put.Goals as goal

pub returns-clause-text : goal.returns-clause-text
returns-clause-text g c = λ middle stands.
    let old = c.args.draft.now.text in
    let new = chars c.args.new.now in
    let first = piece_after (string_bytes old) c.between.result.now (string_bytes c.push_str.new.self) middle
    (IsUtf8-string_bytes old) c.in_ok-push_str.ensures.bytes (c.between.ensures middle stands) in
    let second = piece_after (string_bytes c.push_str.new.self) c.args.new.now (string_bytes c.push_str-2.new.self) new
    (IsUtf8-string_bytes c.push_str.new.self) c.in_ok-push_str-2.ensures.bytes refl in
    second ∙ ap (λ z. z ++ new) first ∙ append_assoc (chars (string_bytes old)) middle new
