use Rattle.rl_syntax.proofs.Common.{◌≡◌, ◌<◌, ◌+◌, ◌∷◌, ◌∙◌, length, ap, sym, drop, get_or, arith, IsCharBoundary-after_ascii, IsUtf8, IsUtf8-drop, chars}
use Rattle.std.proofs.lemmas.List.{get_or-drop, drop-drop, length-drop}
use Rattle.rl_syntax.proofs.ScanLemmas.{ascii_first, none_first, other_first}
use Rattle.rl_syntax.proofs.text.ascii_at.Goals as goal
use Rattle.rl_syntax.proofs.text.ascii_at.Goals.{then-at-bytes-via-then-at-bytes, then-at-bytes-via-else-at-bytes+then-bytes-at-ge128}

pub returns-then-at-bytes-clause-none : goal.returns-then-at-bytes-clause-none
returns-then-at-bytes-clause-none c =
    let t = c.args.text.now in
    let at = c.args.at in
    let zero : at + 0 ≡ at = omega arith in
    let rest : IsUtf8 (drop at t) = IsUtf8-drop t at c.utf8.text c.requires in
    let first : get_or (drop at t) 0 0 ≡ get_or c.as_bytes-bytes.result.now at 0 = get_or-drop at t 0 0
    ∙ ap (λ n. get_or t n 0) zero ∙ ap (λ x. get_or x at 0) (sym c.as_bytes-bytes.ensures.value) in
    let size : length c.as_bytes-bytes.result.now ≡ length t = ap length c.as_bytes-bytes.ensures.value in
    elim c.then-at-bytes.branch [
      | then-at-bytes-via-then-at-bytes w ↦ none_first (drop at t) (omega (arith, length-drop at t, size))
      | then-at-bytes-via-else-at-bytes+then-bytes-at-ge128 w ↦ other_first (drop at t) rest (omega (arith, first))
    ]

pub returns-clause-some : goal.returns-clause-some
returns-clause-some c =
    let t = c.args.text.now in
    let at = c.args.at in
    let zero : at + 0 ≡ at = omega arith in
    let rest : IsUtf8 (drop at t) = IsUtf8-drop t at c.utf8.text c.requires in
    let first : get_or (drop at t) 0 0 ≡ get_or c.as_bytes-bytes.result.now at 0 = get_or-drop at t 0 0
    ∙ ap (λ n. get_or t n 0) zero ∙ ap (λ x. get_or x at 0) (sym c.as_bytes-bytes.ensures.value) in
    let size : length c.as_bytes-bytes.result.now ≡ length t = ap length c.as_bytes-bytes.ensures.value in
    let some : 0 < length (drop at t) = omega (arith, length-drop at t, size) in
    ascii_first (drop at t) rest some (omega (arith, first)) ∙ ap (λ x. x ∷ chars (drop 1 (drop at t))) first
    ∙ ap (λ x. get_or c.as_bytes-bytes.result.now at 0 ∷ chars x) (drop-drop 1 at t)

pub returns-clause-place : goal.returns-clause-place
returns-clause-place c =
    let t = c.args.text.now in
    let same : get_or t c.args.at 0 ≡ get_or c.as_bytes-bytes.result.now c.args.at 0 = ap (λ x. get_or x c.args.at 0)
    (sym c.as_bytes-bytes.ensures.value) in
    let size : length c.as_bytes-bytes.result.now ≡ length t = ap length c.as_bytes-bytes.ensures.value in
    IsCharBoundary-after_ascii t c.args.at c.utf8.text (omega (arith, size)) (omega (arith, same))
