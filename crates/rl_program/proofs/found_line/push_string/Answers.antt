use Rattle.rl_syntax.proofs.Common.{ap, chars, on_ok_weaker}
use Rattle.rl_syntax.specs.Quoted.{is_string}
use Rattle.rl_lenient.proofs.BodyContents.{plain_contents}
use Rattle.rl_program.proofs.FoundLineLemmas.{string_line}
use Rattle.rl_program.proofs.found_line.push_string.Goals as goal

pub returns-then-found : goal.returns-then-found
returns-then-found g c =
    let has = rw c.requires.kind at (c.body_in-body.ensures.string c.requires.found (ap is_string c.requires.kind)) in
    on_ok_weaker c.push_text.result (string_line (chars c.args.text.now) c.body_in-body.result.now
    (chars c.args.suffix.now) _ _
    (plain_contents c.body_in-body.result.now c.args.found.now.body.plain c.if-found.true c.body_in-body.utf8
    (chars c.args.text.now) has) c.requires.suffix) c.push_text.ensures

pub returns-in-Ok : goal.returns-in-Ok
returns-in-Ok g c =
    let has = rw c.requires.kind at (c.body_in-body.ensures.string c.requires.found (ap is_string c.requires.kind)) in
    on_ok_weaker c.push_text-in-Ok.result (string_line (chars c.args.text.now) c.as_str.result.now
    (chars c.args.suffix.now) _ _
    (rw c.as_str.ensures.value (c.in-Ok.ensures.value (chars c.args.text.now) has)) c.requires.suffix)
    c.push_text-in-Ok.ensures
