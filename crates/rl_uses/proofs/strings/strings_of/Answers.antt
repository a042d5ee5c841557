use Rattle.rl_syntax.proofs.Common.{[], arith, common_steps, string_bytes, take, ◌++◌, ◌+◌, ◌∷◌, ◌≡◌}
use Rattle.std.proofs.Common.{rules}
use Rattle.std.proofs.lemmas.List.{map-append}
use Rattle.std.specs.Str.{chars}
use Rattle.rl_uses.proofs.StringLemmas.{one_more}
use Rattle.rl_uses.proofs.strings.strings_of.Goals as goal

pub loop-literal-preserved : goal.loop-literal-preserved
loop-literal-preserved g c =
    let literals = c.args.literals.now in
    let i = c.loop-literal.literal-index in
    let l = c.literal-item.result in
    let grown : take (i + 1) literals ≡ take i literals ++ (l ∷ []) = grind (arith, common_steps) in
    let more : c.push.new.self.items ≡ c.loop-literal.values.items ++ (c.in-Ok.value ∷ []) = search rules in
    rw (grown, more, map-append) (one_more (take i literals) _ l (chars (string_bytes c.in-Ok.value))
    c.loop-literal.invariant c.in-Ok.ensures.set)

pub returns-in-Err-clause-rejected : goal.returns-in-Err-clause-rejected
returns-in-Err-clause-rejected g c = record {
  index = c.loop-literal.literal-index;
  literal = c.literal-item.result;
  below = c.loop-literal-test.true;
  is = c.literal-item.is;
  values = _;
  earlier = c.loop-literal.invariant;
  rejected = c.in-Err.ensures.rejected;
}
