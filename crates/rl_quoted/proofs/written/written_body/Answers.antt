use Rattle.std.proofs.Common.{◌-◌, arith, ap, length, sym, ◌∙◌, ℕ, List}
use Rattle.rl_lenient.specs.declared.found.Body.{Body}
use Rattle.rl_lenient.specs.Founds.{body_in}
use Rattle.rl_quoted.proofs.WrittenLemmas.{written_long, written_at}
use Rattle.rl_quoted.proofs.written.written_body.Goals as goal

pub overflow_sub-hi : goal.overflow_sub-hi
overflow_sub-hi c =
    omega (
      arith,
      ap length c.as_bytes-bytes.ensures.value,
      written_long c.args.kind _ _ c.utf8.text c.requires.quoted
          c.requires.written,
    )

pub slice_bounds-is_whole-count : goal.slice_bounds-is_whole-count
slice_bounds-is_whole-count c =
    omega (
      arith,
      ap length c.opener-lo.ensures,
      ap length c.as_bytes-bytes.ensures.value,
      written_long c.args.kind _ _
          c.utf8.text c.requires.quoted c.requires.written,
    )

pub slice_bounds-is_whole-start : goal.slice_bounds-is_whole-start
slice_bounds-is_whole-start c =
    omega (
      arith,
      ap length c.opener-lo.ensures,
      ap length c.as_bytes-bytes.ensures.value,
      written_long c.args.kind _ _
          c.utf8.text c.requires.quoted c.requires.written,
    )

pub returns : goal.returns
returns c =
    let bytes = c.as_bytes-bytes.result.now in
    let body : Body = record { lo = length c.opener-lo.result.now; hi = length bytes - 1; suffix_at = length bytes; plain = c.is_whole.result } in
    let inside = ap (λ (z : List ℕ). body_in z body) c.as_bytes-bytes.ensures.value in
    written_at c.args.kind c.args.text.now c.args.value.now body c.utf8.text c.requires.quoted c.requires.written
    (ap length c.opener-lo.ensures) (ap (λ (z : List ℕ). length z - 1) c.as_bytes-bytes.ensures.value)
    (ap length c.as_bytes-bytes.ensures.value) (
      (λ h. let w = c.is_whole.ensures.0 h in (w.0, sym inside ∙ w.1)),
      (λ w. c.is_whole.ensures.1 (w.0, inside ∙ w.1)),
    )
