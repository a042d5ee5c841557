-- If the text begins with the character, its bytes begin with the UTF-8 encoding of the character.
use Rattle.rl_syntax.proofs.Common.{rules, chars_past_char}
use Rattle.rl_syntax.proofs.text.split_char.Goals as goal

pub returns-clause-chars : goal.returns-clause-chars
returns-clause-chars c = chars_past_char c.args.text.now c.as_str.result.now c.in_ok-first.first c.utf8.text
    (search rules)
