use Rattle.std.proofs.Common.{rules, inl, ◌≡◌, ◌≢◌, ◌∷◌, [], ◌++◌, refl, ap, ◌∙◌}
use Rattle.std.proofs.lemmas.Result.{err_from_is_err_and}
use Rattle.rl_tokens.specs.Buffers.{trees_in, scope_of}
use Rattle.rl_attributes.specs.Entries.{attribute_of}
use Rattle.rl_attributes.proofs.AttributeLemmas.{next_shorter}
use Rattle.rl_attributes.proofs.EntryLemmas.{at_first, at_next, at_end, at_memory, next_memory, at_refusal}
use Rattle.rl_attributes.proofs.attributes.take.take_all.Goals as goal

pub loop-alloc-init : goal.loop-alloc-init
loop-alloc-init g c = record { at = at_first (trees_in c.args.input.now) c.new-entries.result.items c.new-names.result c.new-entries.ensures.items c.new-names.ensures.empty; scope = refl }

pub returns-in_err-entry-clause-rejected : goal.returns-in_err-entry-clause-rejected
returns-in_err-entry-clause-rejected g c =
    let some : trees_in c.loop-alloc.input ≢ [] = λ e. absurd (let full = c.is_empty.ensures.1 e in cc) in
    let p = err_from_is_err_and c.from_residual.result c.from_residual.ensures.1 in
    rw (p.1, p.2) (at_refusal _ c.loop-alloc.entries.items c.loop-alloc.names (trees_in c.loop-alloc.input) _
    (scope_of c.loop-alloc.input) c.in_err-entry.field-0.0 c.loop-alloc.invariant.at some
    c.loop-alloc.invariant.scope c.in_err-entry.ensures.rejected)

pub returns-in_err-entry-clause-rest : goal.returns-in_err-entry-clause-rest
returns-in_err-entry-clause-rest g c = c.in_err-entry.ensures.onward _ c.loop-alloc.invariant.at.left

pub returns-in_err-entry-clause-scope : goal.returns-in_err-entry-clause-scope
returns-in_err-entry-clause-scope g c = c.in_err-entry.ensures.scope ∙ c.loop-alloc.invariant.scope

pub returns-in-Err-clause-rejected : goal.returns-in-Err-clause-rejected
returns-in-Err-clause-rejected g c =
    let some : trees_in c.loop-alloc.input ≢ [] = λ e. absurd (let full = c.is_empty.ensures.1 e in cc) in
    inl (at_memory _ c.loop-alloc.entries.items c.loop-alloc.names (trees_in c.loop-alloc.input) c.out_of_memory.result
    c.loop-alloc.invariant.at some (next_memory (trees_in c.loop-alloc.input) (trees_in c.take_next.new.input)
    (attribute_of c.in_ok-entry.entry) c.out_of_memory.result c.in_ok-entry.ensures.taken
    (ap (λ e. e.kind) c.out_of_memory.ensures)))

pub returns-in-Err-clause-rest : goal.returns-in-Err-clause-rest
returns-in-Err-clause-rest g c = c.in_ok-entry.ensures.onward _ c.loop-alloc.invariant.at.left

pub returns-in-Err-clause-scope : goal.returns-in-Err-clause-scope
returns-in-Err-clause-scope g c = c.in_ok-entry.ensures.scope ∙ c.loop-alloc.invariant.scope

pub loop-alloc-smaller : goal.loop-alloc-smaller
loop-alloc-smaller g c = next_shorter (trees_in c.loop-alloc.input) (attribute_of c.in_ok-entry.entry)
    (trees_in c.take_next.new.input) c.in_ok-entry.ensures.taken

pub loop-alloc-preserved : goal.loop-alloc-preserved
loop-alloc-preserved g c =
    let some : trees_in c.loop-alloc.input ≢ [] = λ e. absurd (let full = c.is_empty.ensures.1 e in cc) in
    let grown : c.push.new.self.items ≡ c.loop-alloc.entries.items ++ (c.in_ok-entry.entry ∷ []) = search rules in
    record {
      at = at_next _ c.loop-alloc.entries.items c.push.new.self.items c.loop-alloc.names c.take_next.new.names
          (trees_in c.loop-alloc.input) (trees_in c.take_next.new.input) c.in_ok-entry.entry c.loop-alloc.invariant.at
          some c.in_ok-entry.ensures.taken c.in_ok-entry.ensures.anew c.in_ok-entry.ensures.read
          c.in_ok-entry.ensures.adds c.in_ok-entry.ensures.onward grown;
      scope = c.in_ok-entry.ensures.scope ∙ c.loop-alloc.invariant.scope;
    }

pub invariant_of-result : goal.invariant_of-result
invariant_of-result g c =
    let at = c.loop-alloc.invariant.at in record { differ = at.differ; read = λ k d lt. ∣ at.read k d lt ∣₁ }

pub returns-clause-taken : goal.returns-clause-taken
returns-clause-taken g c = at_end _ c.loop-alloc.entries.items c.loop-alloc.names (trees_in c.loop-alloc.input)
    c.loop-alloc.invariant.at (c.is_empty.ensures.0 c.loop-alloc-test.false)

pub returns-clause-rest : goal.returns-clause-rest
returns-clause-rest g c = c.loop-alloc.invariant.at.left

pub returns-clause-scope : goal.returns-clause-scope
returns-clause-scope g c = c.loop-alloc.invariant.scope
