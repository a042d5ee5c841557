-- Lemmas about the literal at the start of token trees: there is at most one.
use Rattle.rl_syntax.proofs.Common.{◌≡◌, ◌≢◌, ℕ, ◌<◌, Bool, false, List, [], ◌∷◌, length, refl, sym, ap, ap₂, ◌∙◌, subst, arith, IsTrue}
use Rattle.rl_lenient.proofs.Names.{◌↔◌, Kind, BoolKind, SpannedText, ReadsAs, HasNoReading, Reads, truth_text}
use Rattle.std.specs.Prelude.{Option, Some, None, IfSome, IfNone}
use Rattle.std.specs.Option.{is_some}
use Rattle.std.specs.Str.{chars}
use Rattle.rl_tokens.specs.Puncts.{Mark}
use Rattle.rl_tokens.specs.declared.error.Error.{Error}
use Rattle.rl_tokens.specs.declared.error.ErrorKind.{ErrorKind}
use Rattle.rl_syntax.specs.declared.span.Span.{Span}
use Rattle.rl_tokens.specs.Errors.{memory_at}
use Rattle.rl_tokens.specs.Trees.{Tree, GroupTree, IdentTree, PunctTree, LiteralTree}
use Rattle.rl_tokens.specs.Buffers.{IsRest}
use Rattle.rl_fronts.specs.Fronts.{IsFront, IsFrontOf, HasFrontOf, HasNoFront, joined}
use Rattle.rl_fronts.specs.FrontTokens.{HasNoWord, HasNoMinus}
use Rattle.rl_syntax.proofs.OneReading.{one_reading}
use Rattle.rl_tokens.proofs.TreeRests.{rest_one, rest_two}
use Rattle.rl_lenient.specs.declared.found.Found.{Found}
use Rattle.rl_lenient.specs.Founds.{IsFound}
use Rattle.rl_lenient.proofs.FoundLemmas.{found_reads}
use Rattle.rl_lenient.proofs.MinusLemmas.{no_truth, minus_chars}

-- If two literals are each at the start of the same token trees, the two literals are equal, and so are the token trees
-- after them.
pub one_front : (trees : List Tree) (a b : SpannedText) (r s : List Tree) → IsFront trees a r → IsFront trees b s
    → (a ≡ b) × (r ≡ s)
one_front [] a b r s h k = absurd h
one_front (LiteralTree x ∷ trees) a b r s (e, f) (g, h) = (e ∙ sym g, f ∙ sym h)
one_front (IdentTree x ∷ trees) a b r s (_, e, f) (_, g, h) = (e ∙ sym g, f ∙ sym h)
one_front (PunctTree p ∷ []) a b r s h k = absurd h
one_front (PunctTree p ∷ LiteralTree x ∷ trees) a b r s (_, _, e, f) (_, _, g, h) = (e ∙ sym g, f ∙ sym h)
one_front (PunctTree p ∷ IdentTree x ∷ trees) a b r s h k = absurd h
one_front (PunctTree p ∷ PunctTree x ∷ trees) a b r s h k = absurd h
one_front (PunctTree p ∷ GroupTree d inside at ∷ trees) a b r s h k = absurd h
one_front (GroupTree d inside at ∷ trees) a b r s h k = absurd h

-- The token trees after the literal at the start are the end of all token trees.
pub front_rest : (trees rest : List Tree) (token : SpannedText) → IsFront trees token rest → IsRest trees rest
front_rest [] rest token h = absurd h
front_rest (LiteralTree x ∷ trees) rest token (_, f) = rest_one _ _ _ (ap (λ ts. LiteralTree x ∷ ts) (sym f))
front_rest (IdentTree x ∷ trees) rest token (_, _, f) = rest_one _ _ _ (ap (λ ts. IdentTree x ∷ ts) (sym f))
front_rest (PunctTree p ∷ []) rest token h = absurd h
front_rest (PunctTree p ∷ LiteralTree x ∷ trees) rest token (_, _, _, f) = rest_two _ _ _ _
    (ap (λ ts. PunctTree p ∷ (LiteralTree x ∷ ts)) (sym f))
front_rest (PunctTree p ∷ IdentTree x ∷ trees) rest token h = absurd h
front_rest (PunctTree p ∷ PunctTree x ∷ trees) rest token h = absurd h
front_rest (PunctTree p ∷ GroupTree d inside at ∷ trees) rest token h = absurd h
front_rest (GroupTree d inside at ∷ trees) rest token h = absurd h

-- The list of the token trees after the literal at the start is shorter than the whole list.
pub front_shorter : (trees : List Tree) (token : SpannedText) (rest : List Tree) → IsFront trees token rest
    → length rest < length trees
front_shorter [] token rest h = absurd h
front_shorter (LiteralTree x ∷ trees) token rest (e, f) = omega (arith, ap length f)
front_shorter (IdentTree x ∷ trees) token rest (_, e, f) = omega (arith, ap length f)
front_shorter (PunctTree p ∷ []) token rest h = absurd h
front_shorter (PunctTree p ∷ LiteralTree x ∷ trees) token rest (_, _, e, f) = omega (arith, ap length f)
front_shorter (PunctTree p ∷ IdentTree x ∷ trees) token rest h = absurd h
front_shorter (PunctTree p ∷ PunctTree x ∷ trees) token rest h = absurd h
front_shorter (PunctTree p ∷ GroupTree d inside at ∷ trees) token rest h = absurd h
front_shorter (GroupTree d inside at ∷ trees) token rest h = absurd h

-- If the literal at the start of token trees is parsed as a kind, the token trees begin with a literal of the kind.
pub front_of : (kind : Kind) (trees : List Tree) (token : SpannedText) (rest : List Tree) → IsFront trees token rest
    → ReadsAs kind (chars token.text) → IsFrontOf kind trees token rest
front_of kind trees token rest h r = record { front = h; reads = r; shorter = front_shorter trees token rest h }

-- If a text is parsed as two kinds, the two kinds are equal.
pub one_kind : (t : List ℕ) (k l : Kind) → ReadsAs k t → ReadsAs l t → k ≡ l
one_kind t k l (v, x, r) (w, y, s) = (one_reading t k l v w x y r s).0

-- A text has a parse result of a kind exactly if it is a literal of that kind.
pub found_as : (kind : Kind) (t : List ℕ) (o : Option Found) → IfSome o (IsFound t) → IfSome o (λ f. f.kind ≡ kind)
    → IfNone o (ReadsAs kind (chars t) → ⊥) → IsTrue (is_some o) ↔ ReadsAs kind (chars t)
found_as kind t (Some f) found is none = (
  (λ h. subst (λ k. ReadsAs k (chars t)) is (found_reads t f found)),
  (λ r. refl),
)
found_as kind t None found is none = ((λ h. absurd (cc)), (λ r. absurd (none r)))

-- If token trees begin with a literal of a kind, each literal at their start is of that kind.
pub same_front : (k : Kind) (trees : List Tree) (token : SpannedText) (rest : List Tree) → IsFront trees token rest
    → HasFrontOf k trees → ReadsAs k (chars token.text)
same_front k trees token rest h (other, left, of) =
    subst (λ (x : SpannedText). ReadsAs k (chars x.text)) ((one_front trees other token left rest of.front h).0)
    of.reads

-- If token trees begin with a literal that isn't of a kind, they don't begin with a literal of that kind.
pub other_of : (kind : Kind) (trees : List Tree) (token : SpannedText) (rest : List Tree) → IsFront trees token rest
    → (ReadsAs kind (chars token.text) → ⊥) → HasFrontOf kind trees → ⊥
other_of kind trees token rest h other has = other (same_front kind trees token rest h has)

-- A text that begins with a minus isn't a `bool`.
pub no_negative_truth : (t : List ℕ) → ReadsAs BoolKind (45 ∷ t) → ⊥
no_negative_truth t (v, x, r) = no_truth t x v r

-- If token trees begin with a minus and a literal token that together are one literal, that literal is at their start.
pub negative_front : (trees following rest : List Tree) (m : Mark) (l : SpannedText) (f : Found) → trees
    ≡ PunctTree m ∷ following → following ≡ LiteralTree l ∷ rest → m.ch ≡ 45 → IsFound (45 ∷ l.text) f
    → IsFront trees (joined m l) rest
negative_front trees following rest m l f first second minus found =
    subst (λ ts. IsFront ts (joined m l) rest) (sym (first ∙ ap (λ ts. PunctTree m ∷ ts) second))
    (minus, (f.kind, subst (ReadsAs f.kind) (minus_chars l.text) (found_reads (45 ∷ l.text) f found)), refl, refl)

-- If token trees begin with an identifier other than `true` and `false`, no `bool` literal is at their start.
pub no_word_at : (trees rest : List Tree) (i : SpannedText) (t : List ℕ) → trees ≡ IdentTree i ∷ rest → t ≡ i.text
    → ((b : Bool) → chars t ≢ truth_text b) → HasNoWord trees
no_word_at trees rest i t first text none = λ j other e (v, x, r).
    let same : t ≡ j.text = cc in none r.truth (ap chars same ∙ r.text_is)

-- If token trees begin with a minus and a literal token that aren't a literal together, no negative number is at their
-- start.
pub no_minus_at : (trees following rest : List Tree) (m : Mark) (l : SpannedText) (t : List ℕ) → trees
    ≡ PunctTree m ∷ following → following ≡ LiteralTree l ∷ rest → t ≡ l.text → HasNoReading (45 ∷ chars t)
    → HasNoMinus trees
no_minus_at trees following rest m l t first second text none = λ n k other e minus (kind, (v, x, r)).
    let same : t ≡ k.text = cc in none kind v x (subst (λ z. Reads (45 ∷ chars z) kind v x) (sym same) r)

-- If the span of an allocation failure is replaced, the result is an allocation failure at the new span.
pub memory_moved : {A : Type 0} (e f : Error A) (at to from : Span) → e ≡ record { span = at; kind = f.kind } → at ≡ to
    → f ≡ memory_at from → e ≡ memory_at to
memory_moved {A} e f at to from made there is = made ∙ ap₂ (λ (s : Span) (k : ErrorKind A). record
    { span = s; kind = k }) there (ap (λ (x : Error A). x.kind) is)

-- If token trees don't begin with a literal, they don't begin with a literal of any kind.
pub none_of_kind : (kind : Kind) (trees : List Tree) → HasNoFront trees → IsTrue false ↔ HasFrontOf kind trees
none_of_kind kind trees none = ((λ e. absurd (cc)), (λ (token, rest, of). absurd (none token rest of.front)))
