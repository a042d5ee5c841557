-- Proofs that `peek` is `true` exactly if the parser succeeds, provided that no allocation fails.
use Rattle.rl_lenient.proofs.Names.{Kind, SpannedText, Truth}
use Rattle.rl_syntax.proofs.Common.{Err, List, Ok, Result, [], ap, inl, inr, subst, ℕ, ◌∷◌, ◌≡◌}
use Rattle.rl_syntax.specs.declared.span.Span.{Span}
use Rattle.rl_syntax.specs.declared.kind.Kind.TheVariants.{Bool as BoolKind}
use Rattle.rl_tokens.specs.declared.error.Error.{Error}
use Rattle.rl_tokens.specs.declared.error.ErrorKind.{ErrorKind}
use Rattle.rl_tokens.specs.declared.error.ErrorKind.TheVariants.{Memory}
use Rattle.rl_tokens.specs.Trees.{Tree}
use Rattle.rl_tokens.specs.Buffers.{MissesWord}
use Rattle.rl_fronts.specs.Fronts.{HasFront, HasFrontOf, RunsAs}
use Rattle.rl_fronts.proofs.FrontLemmas.{front_of}
use Rattle.rust_literals.specs.declared.lit.Lit.{Lit}
use Rattle.rust_literals.specs.declared.lit_bool.LitBool.{LitBool}
use Rattle.rust_literals.specs.Parsing.{RunsLit, RunsTruth}
use Rattle.rust_literals.specs.Peeking.{SucceedsOrMemory, PeekReports}

-- A parser's error that names an expected token isn't an allocation failure.
never_memory : (A : Type 0) (trees : List Tree) (word : List ℕ) → MissesWord {A = A} trees word Memory → ⊥
never_memory A [] word h = h
never_memory A (t ∷ ts) word h = h

word_is_not_memory : {A : Type 0} (trees : List Tree) (word : List ℕ) (kind : ErrorKind A) → MissesWord trees word kind
    → kind ≡ Memory → ⊥
word_is_not_memory {A = A} trees word kind h e = never_memory A trees word
    (subst (λ (k : ErrorKind A). MissesWord trees word k) e h)

-- Lemmas about the parser of literals of one kind. If the parser returns an allocation failure, `peek` is `true`. If
-- `peek` is `true`, the parser returns a literal or an allocation failure.
typed_wants : {A : Type 0} (kind : Kind) (word : List ℕ) (trees : List Tree) (scope : Span) (e : Error A)
    (rest : List Tree) → RunsAs kind word trees scope (Err e) rest → e.kind ≡ Memory → HasFrontOf kind trees
typed_wants kind word trees scope e rest (inl m) is = m.0
typed_wants kind word trees scope e rest (inr p) is = absurd (word_is_not_memory trees word e.kind p.rejection.kind is)

typed_finds : {A : Type 0} (kind : Kind) (word : List ℕ) (trees : List Tree) (scope : Span)
    (answer : Result SpannedText (Error A)) (rest : List Tree) → RunsAs kind word trees scope answer rest
    → HasFrontOf kind trees → SucceedsOrMemory answer
typed_finds kind word trees scope (Ok token) rest runs has = tt
typed_finds kind word trees scope (Err e) rest (inl m) has = ap (λ x. x.kind) m.1.error
typed_finds kind word trees scope (Err e) rest (inr p) has = absurd (p.none has)

pub typed_tells : {A : Type 0} (kind : Kind) (word : List ℕ) → PeekReports (RunsAs {A = A} kind word) (HasFrontOf kind)
typed_tells kind word = record {
  finds = typed_finds kind word;
  only = λ trees scope token rest runs. (token, rest, runs);
  wants = typed_wants kind word;
}

-- Lemmas about the parser of `bool` literals. If `peek` is `true`, the parser returns a literal. If `peek` is `false`,
-- the parser's error isn't an allocation failure.
truth_finds : {A : Type 0} (trees : List Tree) (scope : Span) (answer : Result LitBool (Error A)) (rest : List Tree)
    → RunsTruth trees scope answer rest → HasFrontOf BoolKind trees → SucceedsOrMemory answer
truth_finds trees scope (Ok literal) rest runs has = tt
truth_finds trees scope (Err e) rest p has = absurd (p.none has)

truth_wants : {A : Type 0} (trees : List Tree) (scope : Span) (e : Error A) (rest : List Tree)
    → RunsTruth trees scope (Err e) rest → e.kind ≡ Memory → HasFrontOf BoolKind trees
truth_wants trees scope e rest p is = absurd (word_is_not_memory trees _ e.kind p.rejection.kind is)

pub truth_tells : {A : Type 0} → PeekReports (RunsTruth {A = A}) (HasFrontOf BoolKind)
truth_tells = record {
  finds = truth_finds;
  only = λ trees scope literal rest runs. (
    runs.token,
    rest,
    front_of _ _ _ _ runs.front
        (Truth literal.value, [], runs.reads),
  );
  wants = truth_wants;
}

-- Lemmas about the parser of literals of any kind. If `peek` is `true`, the parser returns a literal or an allocation
-- failure. If the parser returns an allocation failure, `peek` is `true`.
literal_finds : {A : Type 0} (trees : List Tree) (scope : Span) (answer : Result (Lit A) (Error A)) (rest : List Tree)
    → RunsLit trees scope answer rest → HasFront trees → SucceedsOrMemory answer
literal_finds trees scope (Ok literal) rest runs has = tt
literal_finds trees scope (Err e) rest (inl m) has = ap (λ x. x.kind) m.1.error
literal_finds trees scope (Err e) rest (inr n) has = absurd (n.none has.0 has.1 has.2)

literal_wants : {A : Type 0} (trees : List Tree) (scope : Span) (e : Error A) (rest : List Tree)
    → RunsLit trees scope (Err e) rest → e.kind ≡ Memory → HasFront trees
literal_wants trees scope e rest (inl m) is = m.0
literal_wants trees scope e rest (inr n) is = absurd (word_is_not_memory trees _ e.kind n.rejection.kind is)

pub literal_tells : {A : Type 0} → PeekReports (RunsLit {A = A}) HasFront
literal_tells = record {
  finds = literal_finds;
  only = λ trees scope literal rest runs. (runs.token, rest, runs.front);
  wants = literal_wants;
}
