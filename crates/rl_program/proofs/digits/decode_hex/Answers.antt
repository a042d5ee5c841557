use Rattle.std.proofs.Common.{◌≡◌, ◌∷◌, [], ◌++◌, sym, ◌∙◌, ap, rules}
use Rattle.rl_program.specs.Digits.{with_front, bytes_of}
use Rattle.rl_program.proofs.DigitLemmas.{no_front, front_grows, no_pair, whole, odd}
use Rattle.rl_program.proofs.digits.decode_hex.Goals as goal

pub loop-high-init : goal.loop-high-init
loop-high-init g c = no_front (bytes_of c.args.digits.now) ∙ ap (λ z. with_front z (bytes_of c.args.digits.now))
    (sym c.new-bytes.ensures.items)

pub returns-in_default-byte_of : goal.returns-in_default-byte_of
returns-in_default-byte_of g c = no_pair c.args.digits.now c.loop-high.rest.now c.in-Some.following.now
    c.loop-high.bytes.items c.in-Some.high c.in-Some.low c.loop-high.invariant c.in-Some.ensures.some
    c.in_default-byte_of.ensures.none

pub loop-high-preserved : goal.loop-high-preserved
loop-high-preserved g c =
    let grown : c.push.new.self.items ≡ c.loop-high.bytes.items ++ (c.in-Some-byte_of.byte ∷ []) = search rules in
    rw grown (front_grows c.args.digits.now c.loop-high.rest.now c.in-Some.following.now c.loop-high.bytes.items
    c.in-Some.high c.in-Some.low c.in-Some-byte_of.byte c.loop-high.invariant c.in-Some.ensures.some
    c.in-Some-byte_of.ensures.some.0 c.in-Some-byte_of.ensures.some.1)

pub returns-then-is_empty : goal.returns-then-is_empty
returns-then-is_empty g c = whole c.args.digits.now c.loop-high.rest.now c.loop-high.bytes.items c.loop-high.invariant
    (sym c.is_empty.ensures ∙ c.if-is_empty.true)

pub returns-else-is_empty : goal.returns-else-is_empty
returns-else-is_empty g c = odd c.args.digits.now c.loop-high.rest.now c.loop-high.bytes.items c.loop-high.invariant
    (sym c.is_empty.ensures ∙ c.if-is_empty.false) c.in_default.ensures.none
