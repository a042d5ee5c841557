-- Literal tokens with equal kinds, values and suffixes have equal parse results.
use Rattle.rl_syntax.proofs.Common.{◌≡◌, ℕ, ◌≤◌, List, subst, sym, ◌∙◌, ap}
use Rattle.rl_syntax.specs.declared.kind.Kind.{Kind}
use Rattle.rl_syntax.specs.declared.kind.Kind.TheVariants.{Str, ByteStr, CStr, Byte, Char, Int, Float, Bool as BoolKind}
use Rattle.rl_syntax.specs.Numbers.{limit}
use Rattle.rl_syntax.specs.Reading.{Contents, Digits, Reads}
use Rattle.rl_syntax.specs.Spelling.{place_value}
use Rattle.rl_syntax.specs.Strict.{Strict, dec}
use Rattle.rl_syntax.specs.Agreeing.{IsWithinLimit}
use Rattle.rl_syntax.proofs.Agreeing.{strict_reads}
use Rattle.rl_syntax.proofs.OneNumber.{int_once}
use Rattle.rl_syntax.proofs.OneReading.{one_strict, read_and_strict}
use Rattle.rl_syntax.proofs.StrictNumbers.{strict_int}
use Rattle.rl_strict.proofs.DecLemmas.{dec_spells}
use Rattle.rl_style.specs.Rewriting.{SameLiteral}
use Rattle.rl_style.specs.Laws.{ReadsAlike, StrictAlike}

same_dec : (m n : ℕ) → Digits (dec m) ≡ Digits (dec n) → m ≡ n
same_dec m n e =
    let d : dec m ≡ dec n = cc in
    sym (dec_spells m) ∙ ap (place_value 10) d ∙ dec_spells n

-- Two integer tokens have equal values. If one of the values is within 128 bits, so is the other one.
within : (t u : List ℕ) (k : Kind) (v : Contents) (x : List ℕ) → Reads t k v x → Strict t k v x → Strict u k v x
    → IsWithinLimit k u
within t u Int v x r s w = λ sign m y h.
    let a = strict_int t x v s in
    let b = strict_int u x v w in
    let same = same_dec a.magnitude b.magnitude (sym a.contents_is ∙ b.contents_is) in
    let old = (int_once t x x r.sign _ r.magnitude a.magnitude r.reads a.reads).1 in
    let new = (int_once u y x sign _ m b.magnitude h b.reads).1 in
    subst (λ (n : ℕ). n ≤ limit) (old ∙ same ∙ sym new) r.within
within t u Str v x r s w = tt
within t u ByteStr v x r s w = tt
within t u CStr v x r s w = tt
within t u Byte v x r s w = tt
within t u Char v x r s w = tt
within t u Float v x r s w = tt
within t u BoolKind v x r s w = tt

pub strict_alike : (t u : List ℕ) → SameLiteral t u → StrictAlike t u
strict_alike t u h k v x s =
    let e = one_strict t h.kind k h.contents v h.suffix x h.was s in
    subst (λ (y : List ℕ). Strict u k v y) e.2
    (subst (λ (y : Contents). Strict u k y h.suffix) e.1
    (subst (λ (y : Kind). Strict u y h.contents h.suffix) e.0 h.is))

pub reads_alike : (t u : List ℕ) → SameLiteral t u → ReadsAlike t u
reads_alike t u h k v x r =
    let e = read_and_strict t k h.kind v h.contents x h.suffix r h.was in
    let was : Strict t k v x =
    subst (λ (y : List ℕ). Strict t k v y) (sym e.2)
    (subst (λ (y : Contents). Strict t k y h.suffix) (sym e.1)
    (subst (λ (y : Kind). Strict t y h.contents h.suffix) (sym e.0) h.was)) in
    let is = strict_alike t u h k v x was in
    strict_reads u k v x is (within t u k v x r was is)
