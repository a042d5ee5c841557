use Rattle.rl_syntax.proofs.Common.{refl, ap, ◌∙◌, prefix_len}
use Rattle.rl_lenient.proofs.Names.{is_ascii_other}
use Rattle.rl_lenient.proofs.ByteRunLemmas.{ascii_all}
use Rattle.rl_lenient.proofs.units.is_ascii.Goals as goal

pub returns : goal.returns
returns c = ascii_all _ c.ascii_len_before_mark.result c.args.text.now refl c.utf8.text
    (c.ascii_len_before_mark.ensures ∙ ap (prefix_len (is_ascii_other _)) c.as_bytes.ensures.value)
