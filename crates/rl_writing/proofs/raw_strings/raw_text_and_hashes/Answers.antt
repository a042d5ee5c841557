use Rattle.rl_writing.proofs.RawLaws.{bytes_held, no_other}
use Rattle.rl_writing.proofs.raw_strings.raw_text_and_hashes.Goals as goal

pub returns-in-Some-clause-holds : goal.returns-in-Some-clause-holds
returns-in-Some-clause-holds c =
    let (same, utf8) = c.in-Ok.ensures.cases in
    bytes_held c.args.kind c.in-Some.hashes c.in-Ok.text.now c.args.value.now c.requires.string c.requires.bytes same
    utf8
    c.in-Some.ensures.some

pub returns-in-None-clause-none : goal.returns-in-None-clause-none
returns-in-None-clause-none c =
    let (same, utf8) = c.in-Ok.ensures.cases in
    λ inside s e. no_other c.args.kind c.in-Ok.text.now c.args.value.now inside same utf8 c.in-None.ensures.none e
