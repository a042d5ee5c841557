use Rattle.rl_syntax.proofs.Common.{IsUtf8-string_bytes, string_bytes}
use Rattle.rl_restyle.proofs.NewTexts.{piece_after}
use Rattle.rl_restyle.proofs.whole.finished.Goals as goal

pub returns-after-draft-clause-text : goal.returns-after-draft-clause-text
returns-after-draft-clause-text g c = λ rest stands. piece_after (string_bytes c.args.draft.text) c.between.result.now _ rest
    (IsUtf8-string_bytes c.args.draft.text) c.in-Ok.ensures.bytes (c.between.ensures rest stands)
