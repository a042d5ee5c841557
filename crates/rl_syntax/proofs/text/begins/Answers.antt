-- The method `starts_with` compares the bytes of two texts.
use Rattle.rl_syntax.proofs.Common.{◌∙◌}
use Rattle.std.proofs.lemmas.Str.Pattern.{starts_text}
use Rattle.rl_syntax.proofs.BeginsLemmas.{begins_bytes, starts_begins}
use Rattle.rl_syntax.proofs.text.begins.Goals as goal

pub returns : goal.returns
returns c =
    let p = c.args.word.now in
    let t = c.args.text.now in
    starts_text c.starts_with.result p t c.starts_with.ensures.cases ∙ starts_begins p t
    ∙ begins_bytes p t c.utf8.text c.requires
