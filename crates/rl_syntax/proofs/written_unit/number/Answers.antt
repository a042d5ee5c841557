use Rattle.rl_syntax.proofs.Common.{arith, [], ◌∷◌}
use Rattle.std.proofs.lemmas.Str.{IsUtf8-from_ascii}
use Rattle.rl_syntax.proofs.WritingLemmas.{ascii_nil, ascii_cons}
use Rattle.rl_syntax.proofs.written_unit.number.Goals as goal

pub unreachable-requires : goal.unreachable-requires
unreachable-requires c =
    let high = c.upper_digit.result in
    let low = c.upper_digit-2.result in
    let digits = ascii_cons high (low ∷ []) c.upper_digit.ensures.ascii
    (ascii_cons low [] c.upper_digit-2.ensures.ascii ascii_nil) in
    c.in-Err.ensures.cases.0 (IsUtf8-from_ascii _ (ascii_cons 92 (120 ∷ high ∷ low ∷ []) (omega arith)
    (ascii_cons 120 (high ∷ low ∷ []) (omega arith) digits)))
