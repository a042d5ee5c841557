use Rattle.rl_syntax.proofs.Common.{chars}
use Rattle.rl_restyle.proofs.NewTexts.{literal_text}
use Rattle.rl_restyle.proofs.texts.text_of.Goals as goal

pub returns : goal.returns
returns g c = literal_text c.args.style c.args.choice (chars c.args.source.now) c.args.literal
    (chars c.between.result.now) c.new_text.result c.if-not-is_chosen.ensures c.between.ensures c.new_text.ensures
