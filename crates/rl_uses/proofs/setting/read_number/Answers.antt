use Rattle.std.proofs.Common.{ℕ, List, Option, Result, Ok, Err, IfOk, IfErr, inr}
use Rattle.rl_syntax.specs.declared.kind.Kind.TheVariants.{Int}
use Rattle.rl_syntax.specs.Texts.{SpannedText}
use Rattle.rl_tokens.specs.declared.error.Error.{Error}
use Rattle.rl_tokens.specs.Whole.{ParsesAll}
use Rattle.rl_grammar.specs.Fronts.{RunsAs}
use Rattle.rust_literals.specs.Base10.{AreBase10Digits, IsMadeOf, IsRejectedBy}
use Rattle.rl_uses.specs.Settings.{IsSetTo, RejectsSetting}
use Rattle.rl_uses.proofs.setting.read_number.Goals as goal

read_is : {N E A B : Type 0} (gives : List ℕ → Result N E → Type 0) (word text : List ℕ) (file : ℕ) (literal : SpannedText)
    (r : Result N B) → ParsesAll {E = Error A} (RunsAs Int word) text file literal
    → IfOk r (IsMadeOf gives (AreBase10Digits Int literal.text)) → IfOk r (IsSetTo gives text file)
read_is gives word text file literal (Ok n) parsed made =
    record { literal = literal; one = record { trees = parsed.trees; lexes = parsed.lexes; front = parsed.ran }; made = made }
read_is gives word text file literal (Err e) parsed made = tt

rejected_is : {N E A B : Type 0} (gives : List ℕ → Result N E → Type 0) (output : E → Option (List ℕ)) (word text : List ℕ)
    (file : ℕ) (literal : SpannedText) (r : Result N (Error B)) → ParsesAll {E = Error A} (RunsAs Int word) text file literal
    → IfErr r (IsRejectedBy gives output (AreBase10Digits Int literal.text) literal.span)
    → IfErr r (RejectsSetting gives output text file)
rejected_is gives output word text file literal (Ok n) parsed why = tt
rejected_is gives output word text file literal (Err e) parsed why = inr (record {
  literal = literal;
  one = record { trees = parsed.trees; lexes = parsed.lexes; front = parsed.ran };
  rejected = why;
})

pub returns-clause-read : goal.returns-clause-read
returns-clause-read g c = read_is _ _ c.args.text.now c.args.file c.in_ok-parse_all.field-0 c.base10_parse-2.result
    c.in_ok-parse_all.ensures.parsed c.base10_parse-2.ensures.ok

pub returns-clause-rejected : goal.returns-clause-rejected
returns-clause-rejected g c = rejected_is _ _ _ c.args.text.now c.args.file c.in_ok-parse_all.field-0 c.base10_parse-2.result
    c.in_ok-parse_all.ensures.parsed c.base10_parse-2.ensures.rejected
