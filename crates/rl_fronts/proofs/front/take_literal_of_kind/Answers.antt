use Rattle.std.specs.Str.{chars}
use Rattle.rl_lenient.proofs.Names.{ReadsAs, SpannedText}
use Rattle.rl_syntax.proofs.Common.{refl, subst, sym, common_steps, inl, inr, arith}
use Rattle.rl_tokens.specs.Buffers.{trees_in}
use Rattle.rl_fronts.specs.Fronts.{IsFrontOf, HasNoFront, IsFront}
use Rattle.rl_lenient.specs.Founds.{IsFound}
use Rattle.rl_lenient.proofs.FoundLemmas.{found_reads}
use Rattle.rl_fronts.specs.FrontTokens.{front_token}
use Rattle.rl_fronts.proofs.FrontLemmas.{front_of, memory_moved, other_of}
use Rattle.rl_fronts.proofs.front.take_literal_of_kind.Goals as goal

pub returns-in_default-find_of_kind-clause-runs : goal.returns-in_default-find_of_kind-clause-runs
returns-in_default-find_of_kind-clause-runs g c = let trees = trees_in c.args.input.now in
    let rest = trees_in c.take.new.input in
    let token = front_token c.in-Some.front in
    let front : IsFront trees token rest = subst (λ ts. IsFront ts token rest) c.fork-ahead.ensures.trees
    c.in-Some.ensures.taken in
    let other = c.in_default-find_of_kind.ensures.none in
    inr (record {
      rejection = c.error-error.ensures;
      none = other_of c.args.kind trees token rest front other;
      passed = inl (record { token = token; front = front; other = other });
    })

pub returns-in_default-clause-rest : goal.returns-in_default-clause-rest
returns-in_default-clause-rest g c = grind (arith, common_steps) steps 200000

pub returns-in_default-find_of_kind-clause-rest : goal.returns-in_default-find_of_kind-clause-rest
returns-in_default-find_of_kind-clause-rest g c = grind (arith, common_steps) steps 200000

pub returns-in_default-find_of_kind-clause-scope : goal.returns-in_default-find_of_kind-clause-scope
returns-in_default-find_of_kind-clause-scope g c = grind (arith, common_steps) steps 200000

pub returns-in_default-clause-runs : goal.returns-in_default-clause-runs
returns-in_default-clause-runs g c = let none : HasNoFront (trees_in c.args.input.now) = subst HasNoFront
    c.fork-ahead.ensures.trees c.in_default.ensures.none in
    inr (record {
      rejection = c.error.ensures;
      none = λ h. let (token, rest, of) = h in none token rest of.front;
      passed = inr (none, refl);
    })

pub returns-in-Ok-clause-runs : goal.returns-in-Ok-clause-runs
returns-in-Ok-clause-runs g c =
    let trees = trees_in c.args.input.now in
    let rest = trees_in c.take.new.input in
    let token = front_token c.in-Some.front in
    let front : IsFront trees token rest = subst (λ ts. IsFront ts token rest) c.fork-ahead.ensures.trees
    c.in-Some.ensures.taken in
    let found = c.in-Some-find_of_kind.ensures in
    let reads = subst (λ k. ReadsAs k (chars token.text)) found.kind (found_reads _ _ found.found) in
    subst (λ (t : SpannedText). IsFrontOf c.args.kind trees t rest) (sym c.in-Ok.ensures.ok)
    (front_of c.args.kind trees token rest front reads)

pub returns-in-Ok-clause-found : goal.returns-in-Ok-clause-found
returns-in-Ok-clause-found g c = subst (λ (t : SpannedText). IsFound t.text c.in-Some-find_of_kind.found)
    (sym c.in-Ok.ensures.ok) c.in-Some-find_of_kind.ensures.found

pub returns-in-Ok-clause-kind : goal.returns-in-Ok-clause-kind
returns-in-Ok-clause-kind g c = c.in-Some-find_of_kind.ensures.kind

pub returns-in-Err-clause-runs : goal.returns-in-Err-clause-runs
returns-in-Err-clause-runs g c =
    let trees = trees_in c.args.input.now in
    let rest = trees_in c.take.new.input in
    let token = front_token c.in-Some.front in
    let front : IsFront trees token rest = subst (λ ts. IsFront ts token rest) c.fork-ahead.ensures.trees
    c.in-Some.ensures.taken in
    let found = c.in-Some-find_of_kind.ensures in
    let reads = subst (λ k. ReadsAs k (chars token.text)) found.kind (found_reads _ _ found.found) in
    inl (
      (token, rest, front_of c.args.kind trees token rest front reads),
      record
          { error = memory_moved _ _ _ _ _ c.new.ensures c.span.ensures c.in-Err.ensures.memory; stays = refl },
    )
