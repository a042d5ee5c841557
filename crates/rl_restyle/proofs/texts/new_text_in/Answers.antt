use Rattle.rl_syntax.proofs.Common.{List, ℕ, chars, subst, sym}
use Rattle.rl_style.specs.Rewriting.{Rewrites}
use Rattle.rl_restyle.proofs.NewTexts.{no_other, text_copied}
use Rattle.rl_restyle.proofs.texts.new_text_in.Goals as goal

pub returns-in_default : goal.returns-in_default
returns-in_default g c = no_other c.args.style (chars c.args.front.now) (chars c.args.text.now) c.in_default.field-0
    c.in_default.ensures.flaw

pub returns : goal.returns
returns g c = text_copied c.args.style (chars c.args.front.now) (chars c.args.text.now) (chars c.in-Ok-from_utf8.new.now)
    c.other_text.result
    (subst (λ (z : List ℕ). Rewrites c.args.style (chars c.args.front.now) (chars c.args.text.now) (chars z))
    (sym c.in-Ok-from_utf8.ensures.cases.0) c.in-Ok.ensures.written)
    c.other_text.ensures.same c.other_text.ensures.other c.other_text.ensures.differs
