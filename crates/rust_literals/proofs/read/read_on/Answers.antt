use Rattle.std.proofs.Common.{rules, refl, ap, append_assoc, inr, ◌≡◌, ◌≢◌, ◌⊎◌, ◌∷◌, [], ◌++◌, sym, ◌∙◌, subst}
use Rattle.std.proofs.lemmas.Result.{err_from_is_err_and}
use Rattle.rl_syntax.specs.declared.span.Span.{Span}
use Rattle.rl_tokens.specs.Errors.{memory_at}
use Rattle.rl_tokens.specs.Buffers.{trees_in, scope_of}
use Rattle.rust_literals.specs.Parsing.{ReadsLiterals, RejectsNextLiteral, LacksMemory}
use Rattle.rust_literals.proofs.ReadLemmas.{rejected_next}
use Rattle.rust_literals.proofs.LeadsLemmas.{lit_shorter, leads_step}
use Rattle.rust_literals.proofs.read.read_on.Goals as goal

pub loop-alloc-init : goal.loop-alloc-init
loop-alloc-init g c = record { leads = λ all gone h. h; scope = refl }

pub loop-alloc-smaller : goal.loop-alloc-smaller
loop-alloc-smaller g c = lit_shorter (trees_in c.loop-alloc.input) c.in_ok-literal.literal (trees_in c.parse.new.self)
    c.in_ok-literal.ensures.runs

pub loop-alloc-preserved : goal.loop-alloc-preserved
loop-alloc-preserved g c =
    let grown : c.push.new.self.items ≡ c.loop-alloc.list.items ++ (c.in_ok-literal.literal ∷ []) = search rules in
    record {
      leads = λ all gone h.
          subst (λ ls. ReadsLiterals all ls (trees_in c.parse.new.self))
          (append_assoc gone c.loop-alloc.list.items (c.in_ok-literal.literal ∷ [])
          ∙ ap (λ ls. gone ++ ls) (sym grown))
          (leads_step all (gone ++ c.loop-alloc.list.items) (trees_in c.loop-alloc.input) c.in_ok-literal.literal
          (trees_in c.parse.new.self) (c.loop-alloc.invariant.leads all gone h) c.in_ok-literal.ensures.runs);
      scope = c.in_ok-literal.ensures.scope ∙ c.loop-alloc.invariant.scope;
    }

pub returns-in_err-literal-clause-rejected : goal.returns-in_err-literal-clause-rejected
returns-in_err-literal-clause-rejected g c = λ all gone h.
    let p = err_from_is_err_and c.from_residual.result c.from_residual.ensures.1 in
    let some : trees_in c.loop-alloc.input ≢ [] = λ e. absurd (let full = c.is_empty.ensures.1 e in cc) in
    rw (p.1, p.2)
    (subst (λ (s : Span). RejectsNextLiteral all s c.in_err-literal.field-0.0
    ⊎ LacksMemory all s c.in_err-literal.field-0.0) c.loop-alloc.invariant.scope
    (rejected_next all (trees_in c.loop-alloc.input) (trees_in c.parse.new.self) (scope_of c.loop-alloc.input)
    (gone ++ c.loop-alloc.list.items) c.in_err-literal.field-0.0 (c.loop-alloc.invariant.leads all gone h) some
    c.in_err-literal.ensures.runs))

pub returns-in-Err-clause-rejected : goal.returns-in-Err-clause-rejected
returns-in-Err-clause-rejected g c = λ all gone h. inr (record {
  list = gone ++ c.loop-alloc.list.items;
  rest = trees_in c.loop-alloc.input;
  leads = c.loop-alloc.invariant.leads all gone h;
  memory = inr (c.out_of_memory.ensures ∙ ap memory_at c.call_site.ensures);
})

pub returns-clause-read : goal.returns-clause-read
returns-clause-read g c = λ all gone h.
    let nothing : trees_in c.loop-alloc.input ≡ [] = c.loop-alloc-test.ensures.0 refl in
    subst (λ ts. ReadsLiterals all (gone ++ c.loop-alloc.list.items) ts) nothing
    (c.loop-alloc.invariant.leads all gone h)
