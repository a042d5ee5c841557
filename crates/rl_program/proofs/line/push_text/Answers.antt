use Rattle.rl_syntax.proofs.Common.{ap, chars, list_all, on_ok_weaker, string_bytes, sym, ◌++◌, ◌∙◌, ◌≡◌}
use Rattle.rl_syntax.specs.declared.kind.Kind.TheVariants.{Str}
use Rattle.rl_program.specs.Bare.{is_bare}
use Rattle.rl_program.specs.Lines.{kind_label}
use Rattle.rl_program.proofs.BareLemmas.{bare_is_line}
use Rattle.rl_program.proofs.PrintLemmas.{word_chars}
use Rattle.rl_program.proofs.line.push_text.Goals as goal

pub returns-then-need_no_escapes : goal.returns-then-need_no_escapes
returns-then-need_no_escapes g c = on_ok_weaker c.push_unescaped_line.result
    (λ all. all ∙ ap (λ z. chars (string_bytes c.args.out.now) ++ z) (bare_is_line c.args.value.now c.args.suffix.now
    (sym (c.need_no_escapes.ensures ∙ ap (list_all is_bare) c.as_bytes.ensures.value) ∙ c.if-need_no_escapes.true)
    (sym c.is_empty.ensures ∙ c.if-is_empty.true))) c.push_unescaped_line.ensures

pub returns : goal.returns
returns g c =
    let w : chars c.word.result.now ≡ kind_label Str = ap chars c.word.ensures ∙ word_chars Str in
    rw w at c.push_quoted.ensures
