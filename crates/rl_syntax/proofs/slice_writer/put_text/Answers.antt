use Rattle.rl_syntax.proofs.Common.{◌∙◌, ◌++◌, take, sym, ap, subst, IsUtf8}
use Rattle.std.proofs.lemmas.Str.{IsUtf8-append}
use Rattle.rl_syntax.proofs.slice_writer.put_text.Goals as goal

pub returns-clause-utf8 : goal.returns-clause-utf8
returns-clause-utf8 c = λ u. subst IsUtf8 (sym (c.put.ensures.bytes
    ∙ ap (λ z. take c.args.at c.args.out.now ++ z) c.as_bytes.ensures.value)) (IsUtf8-append _ _ u c.utf8.text)
