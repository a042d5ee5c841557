use Rattle.rl_syntax.proofs.Common.{◌≡◌, ◌<◌, ◌∷◌, ◌∙◌, length, ap, sym, drop, get_or, arith, rules, IsCharBoundary-after_ascii, chars}
use Rattle.rl_syntax.proofs.Rests.{tail_drop}
use Rattle.rl_syntax.proofs.ScanLemmas.{ascii_first, none_first, other_first}
use Rattle.rl_syntax.proofs.text.split_ascii.Goals as goal
use Rattle.rl_syntax.proofs.text.split_ascii.Goals.{then-is_empty-via-then-is_empty, then-is_empty-via-else-is_empty+then-bytes-ge128}

pub returns-then-is_empty-clause-none : goal.returns-then-is_empty-clause-none
returns-then-is_empty-clause-none c =
    let t = c.args.text.now in
    let first : get_or t 0 0 ≡ get_or c.as_bytes-bytes.result.now 0 0 = ap (λ x. get_or x 0 0)
    (sym c.as_bytes-bytes.ensures.value) in
    elim c.then-is_empty.branch [
      | then-is_empty-via-then-is_empty w ↦ none_first t (search rules)
      | then-is_empty-via-else-is_empty+then-bytes-ge128 w ↦ other_first t c.utf8.text (omega (arith, first))
    ]

pub range_from-requires : goal.range_from-requires
range_from-requires c = λ _.
    let t = c.args.text.now in
    let first : get_or t 0 0 ≡ get_or c.as_bytes-bytes.result.now 0 0 = ap (λ x. get_or x 0 0)
    (sym c.as_bytes-bytes.ensures.value) in
    let some : 0 < length t = search rules in
    IsCharBoundary-after_ascii t 0 c.utf8.text some (omega (arith, first))

pub returns-clause-some : goal.returns-clause-some
returns-clause-some c =
    let t = c.args.text.now in
    let first : get_or t 0 0 ≡ get_or c.as_bytes-bytes.result.now 0 0 = ap (λ x. get_or x 0 0)
    (sym c.as_bytes-bytes.ensures.value) in
    let some : 0 < length t = search rules in
    let rest : drop 1 t ≡ c.range_from.result.now = sym c.range_from.ensures.value in
    ascii_first t c.utf8.text some (omega (arith, first)) ∙ ap (λ x. x ∷ chars (drop 1 t)) first
    ∙ ap (λ x. get_or c.as_bytes-bytes.result.now 0 0 ∷ chars x) rest

pub returns-clause-following : goal.returns-clause-following
returns-clause-following c = tail_drop c.args.text.now c.range_from.result.now 1 c.range_from.ensures.value
    c.range_from.utf8
