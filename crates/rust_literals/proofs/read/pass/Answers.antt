use Rattle.std.proofs.Common.{arith, ◌≡◌, [], drop, ◌∙◌, subst}
use Rattle.std.proofs.Math.ListN.{drop_of_length-le}
use Rattle.rl_tokens.specs.Buffers.{trees_in}
use Rattle.rl_fronts.specs.FrontTokens.{front_token}
use Rattle.rust_literals.specs.Parsing.{ReadsLiterals}
use Rattle.rust_literals.proofs.BegunLemmas.{pass_one}
use Rattle.rust_literals.proofs.read.pass.Goals as goal

pub loop-preserved : goal.loop-preserved
loop-preserved g c = record {
  leads = λ passed rest n h.
      pass_one front_token (trees_in c.loop.input) (trees_in c.take.new.input) passed c.loop.counter rest c.take.result
      (omega (arith, c.loop-test.true, n)) c.take.ensures.taken c.take.ensures.none
      (c.loop.invariant.leads passed rest n h);
  scope = c.take.ensures.scope ∙ c.loop.invariant.scope;
}

pub returns-clause-passed : goal.returns-clause-passed
returns-clause-passed g c = λ passed rest n h.
    let none_left : drop c.loop.counter passed ≡ [] = drop_of_length-le passed (omega (arith, c.loop-test.false, n)) in
    subst (λ ls. ReadsLiterals (trees_in c.loop.input) ls rest) none_left (c.loop.invariant.leads passed rest n h)
