use Rattle.std.proofs.Common.{rules, ◌⊎◌}
use Rattle.rl_tokens.specs.Buffers.{trees_in, scope_of}
use Rattle.rl_attributes.specs.Attributes.{RejectsAttributes}
use Rattle.rl_attributes.specs.AttributeSteps.{LacksMemoryInStep}
use Rattle.rl_attributes.proofs.EntryLemmas.{told_refusal}
use Rattle.rl_attributes.proofs.attributes.take.AttrsParse.parse.Goals as goal

pub returns-in-Err-clause-runs : goal.returns-in-Err-clause-runs
returns-in-Err-clause-runs g c =
    let was : LacksMemoryInStep (trees_in c.args.input.now) c.in-Err.error
    ⊎ RejectsAttributes (trees_in c.args.input.now) (scope_of c.args.input.now) c.in-Err.error = search rules in (
      told_refusal (trees_in c.args.input.now) (scope_of c.args.input.now) c.span-place.result c.in-Err.error
          c.with_memory_at.result was c.span-place.ensures c.with_memory_at.ensures,
      search rules,
    )
