-- Lemmas about the result of parsing the literal at the start of a buffer. The parser consumed the literal from a copy
-- of the buffer.
use Rattle.rl_lenient.proofs.Names.{Kind, Reads, ReadsAs, SpannedText, Truth}
use Rattle.rl_syntax.proofs.Common.{Bool, Err, List, [], ap, chars, inl, inr, refl, subst, sym, ℕ, ◌∙◌, ◌≡◌}
use Rattle.rl_syntax.specs.declared.span.Span.{Span}
use Rattle.rl_syntax.specs.declared.kind.Kind.TheVariants.{Bool as BoolKind}
use Rattle.rl_tokens.specs.declared.error.Error.{Error}
use Rattle.rl_tokens.specs.Errors.{memory_at}
use Rattle.rl_tokens.specs.Trees.{Tree}
use Rattle.rl_tokens.specs.Buffers.{first_span, IsRejection}
use Rattle.rl_fronts.specs.Fronts.{IsFront, HasNoFront, PassesOther}
use Rattle.rl_fronts.proofs.FrontLemmas.{other_of}
use Rattle.rust_literals.specs.declared.lit.Lit.{Lit}
use Rattle.rust_literals.specs.declared.lit_bool.LitBool.{LitBool}
use Rattle.rust_literals.specs.Literals.{IsReadFrom}
use Rattle.rust_literals.specs.Parsing.{IsLitFront, IsTruthFront, RunsLit}

front_here : (trees copy rest : List Tree) (token : SpannedText) → copy ≡ trees → IsFront copy token rest
    → IsFront trees token rest
front_here trees copy rest token same front = subst (λ ts. IsFront ts token rest) same front

none_here : (trees copy : List Tree) → copy ≡ trees → HasNoFront copy → HasNoFront trees
none_here trees copy same none = subst HasNoFront same none

-- ---- lemmas about a literal of any kind

pub lit_front : {A : Type 0} (trees copy rest : List Tree) (token held : SpannedText) (lit : Lit A) → copy ≡ trees
    → IsFront copy token rest → held ≡ token → IsReadFrom held lit → IsLitFront trees lit rest
lit_front trees copy rest token held lit same front is read = record {
  token = token;
  front = front_here trees copy rest token same front;
  read = subst (λ (t : SpannedText). IsReadFrom t lit) is read;
}

pub lit_memory : {A : Type 0} (trees copy rest : List Tree) (token : SpannedText) (scope at : Span) (e : Error A) → copy
    ≡ trees → IsFront copy token rest → e ≡ memory_at at → at ≡ first_span trees scope
    → RunsLit trees scope (Err e) trees
lit_memory trees copy rest token scope at e same front is place =
    inl (
      (token, rest, front_here trees copy rest token same front),
      record
          { error = is ∙ ap memory_at place; stays = refl },
    )

-- ---- lemmas about a `bool` literal

pub truth_front : (trees copy rest : List Tree) (token : SpannedText) (literal : LitBool) (value : Bool) (at : Span)
    → copy ≡ trees → IsFront copy token rest → Reads (chars token.text) BoolKind (Truth value) [] → literal
    ≡ record { value = value; span = at } → at ≡ token.span → IsTruthFront trees literal rest
truth_front trees copy rest token literal value at same front reads is place = record {
  token = token;
  front = front_here trees copy rest token same front;
  reads = subst (λ (l : LitBool). Reads (chars token.text) BoolKind (Truth l.value) []) (sym is) reads;
  span = ap (λ (l : LitBool). l.span) is ∙ place;
}

pub none_passed : {A : Type 0} (kind : Kind) (word : List ℕ) (trees copy : List Tree) (scope : Span) (e : Error A)
    → copy ≡ trees → HasNoFront copy → IsRejection trees scope word e → PassesOther kind word trees scope e trees
none_passed kind word trees copy scope e same none rejection =
    let here = none_here trees copy same none in record {
      rejection = rejection;
      none = λ has. here has.0 has.1 has.2.front;
      passed = inr (here, refl);
    }

pub other_passed : {A : Type 0} (kind : Kind) (word : List ℕ) (trees copy rest : List Tree) (token : SpannedText)
    (scope : Span) (e : Error A) → copy ≡ trees → IsFront copy token rest → (ReadsAs kind (chars token.text) → ⊥)
    → IsRejection trees scope word e → PassesOther kind word trees scope e rest
other_passed kind word trees copy rest token scope e same front other rejection =
    let here = front_here trees copy rest token same front in record {
      rejection = rejection;
      none = other_of kind trees token rest here other;
      passed = inl (record { token = token; front = here; other = other });
    }
