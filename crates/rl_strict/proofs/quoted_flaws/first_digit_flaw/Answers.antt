use Rattle.rl_strict.proofs.Names.{◌∙◌, IsCharBoundary-start}
use Rattle.rl_strict.proofs.CodeDigitFlaws.{first_flaw_is}
use Rattle.rl_strict.proofs.quoted_flaws.first_digit_flaw.Goals as goal

pub parse_code_digits-requires : goal.parse_code_digits-requires
parse_code_digits-requires c = IsCharBoundary-start c.args.text.now c.utf8.text

pub returns-in-Some : goal.returns-in-Some
returns-in-Some c = c.digits_flaw.ensures ∙ first_flaw_is _ _ _ c.in-Some.ensures.value
