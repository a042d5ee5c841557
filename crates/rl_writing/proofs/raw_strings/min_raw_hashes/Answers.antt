use Rattle.rl_syntax.proofs.Common.{◌&&◌, ap, sym, ◌∙◌, list_all, chars}
use Rattle.rl_writing.specs.Mirrors.RawSteps.{raw_may_contain}
use Rattle.rl_writing.proofs.HashLemmas.{needed_end, needed_from}
use Rattle.rl_writing.proofs.RawLaws.{fewest_hashes, none_stands, none_suffices}
use Rattle.rl_writing.proofs.raw_strings.min_raw_hashes.Goals as goal

pub returns-then-not-raw_may_contain-clause-none : goal.returns-then-not-raw_may_contain-clause-none
returns-then-not-raw_may_contain-clause-none c =
    let stand = sym c.raw_may_contain.ensures ∙ c.if-not-raw_may_contain.true in
    none_stands c.args.kind (chars c.args.text.now) c.requires (c.loop-c.invariant.stand
    ∙ ap (list_all (raw_may_contain c.args.kind)) c.in-Some.ensures.chars
    ∙ ap (λ b. b && list_all (raw_may_contain c.args.kind) (chars c.in-Some.after.now)) stand)

pub returns-then-needed-lt256-clause-some : goal.returns-then-needed-lt256-clause-some
returns-then-needed-lt256-clause-some c =
    let l = c.loop-c in
    let rest = c.in_default.ensures.chars in
    fewest_hashes c.args.kind l.needed (chars c.args.text.now) c.requires
    (l.invariant.stand ∙ ap (list_all (raw_may_contain c.args.kind)) rest)
    (l.invariant.needed ∙ ap (needed_from l.needed l.opened) rest ∙ needed_end l.needed l.opened l.invariant.opened)
    c.if-needed-lt256.true

pub returns-else-needed-lt256-clause-none : goal.returns-else-needed-lt256-clause-none
returns-else-needed-lt256-clause-none c =
    let l = c.loop-c in
    none_suffices c.args.kind l.needed (chars c.args.text.now) c.requires
    (l.invariant.needed ∙ ap (needed_from l.needed l.opened) c.in_default.ensures.chars
    ∙ needed_end l.needed l.opened l.invariant.opened) c.if-needed-lt256.false
