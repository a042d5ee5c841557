-- A text has at most one parse result.
use Rattle.rl_syntax.proofs.Common.{◌≡◌, ℕ, ◌||◌, Bool, true, false, cond, eqb, List, [], ◌∷◌, ◌++◌, refl, sym, ap, subst, ◌∙◌, ◌⊎◌, inl, inr, is_ascii_digit}
use Rattle.rl_syntax.specs.declared.kind.Kind.{Kind}
use Rattle.rl_syntax.specs.declared.kind.Kind.TheVariants.{Str, ByteStr, CStr, Byte, Char, Int, Float, Bool as BoolKind}
use Rattle.rl_syntax.specs.Quoted.{is_string, is_single, opener, raw_opener, Cooked, Raw, Single}
use Rattle.rl_syntax.specs.Reading.{Contents, Truth, ReadsQuoted, ReadsFloat, ReadsBool, truth_text, quoted_contents, Reads}
use Rattle.rl_syntax.specs.Numbers.{NoSign}
use Rattle.rl_syntax.specs.Strict.{Strict}
use Rattle.rl_syntax.proofs.Basics.{apart}
use Rattle.rl_syntax.proofs.Agreeing.{strict_reads}
use Rattle.rl_syntax.proofs.StrictNumbers.{strict_int}
use Rattle.rl_syntax.proofs.OneQuoted.{cooked_once, raw_once, single_once}
use Rattle.rl_syntax.proofs.OneNumber.{begins_number, int_front, float_front, AnyInt, any_int, any_int_once, reads_float_once}

-- The class of a text, which the text's start decides: a quoted literal of a kind and a form, a number, or a `bool`.
data Front : Type 0 where
  CookedFront : (k : Kind) → Front
  RawFront : (k : Kind) → Front
  SingleFront : (k : Kind) → Front
  NumberFront : Front
  TruthFront : Front

prefixed_at : (cooked raw single : Front) → List ℕ → Front
prefixed_at cooked raw single [] = NumberFront
prefixed_at cooked raw single (c ∷ cs) = cond (eqb c 34) cooked (cond (eqb c 114) raw single)

front_at : List ℕ → Front
front_at [] = NumberFront
front_at (c ∷ cs) =
    cond (eqb c 34) (CookedFront Str) (cond (eqb c 114) (RawFront Str)
    (cond (eqb c 98) (prefixed_at (CookedFront ByteStr) (RawFront ByteStr) (SingleFront Byte) cs)
    (cond (eqb c 99) (prefixed_at (CookedFront CStr) (RawFront CStr) NumberFront cs)
    (cond (eqb c 39) (SingleFront Char) (cond (eqb c 116) TruthFront (cond (eqb c 102) TruthFront NumberFront))))))

cooked_front : (k : Kind) (r : List ℕ) → is_string k ≡ true → front_at (opener k ++ r) ≡ CookedFront k
unfolding front_at prefixed_at
cooked_front Str r h = refl
cooked_front ByteStr r h = refl
cooked_front CStr r h = refl
cooked_front kind r h = absurd (cc)

raw_front : (k : Kind) (r : List ℕ) → is_string k ≡ true → front_at (raw_opener k ++ r) ≡ RawFront k
unfolding front_at prefixed_at
raw_front Str r h = refl
raw_front ByteStr r h = refl
raw_front CStr r h = refl
raw_front kind r h = absurd (cc)

single_front : (k : Kind) (r : List ℕ) → is_single k ≡ true → front_at (opener k ++ r) ≡ SingleFront k
unfolding front_at prefixed_at
single_front Byte r h = refl
single_front Char r h = refl
single_front kind r h = absurd (cc)

number_front : (t : List ℕ) → begins_number t ≡ true → front_at t ≡ NumberFront
unfolding front_at
number_front [] h = absurd (cc)
number_front (c ∷ t) h =
    let test : ℕ → Bool = λ c. is_ascii_digit c || eqb c 45 in
    let a = apart test c 34 h refl in
    let b = apart test c 114 h refl in
    let d = apart test c 98 h refl in
    let e = apart test c 99 h refl in
    let f = apart test c 39 h refl in
    let g = apart test c 116 h refl in
    let i = apart test c 102 h refl in
    rw (a, b, d, e, f, g, i) refl

truth_front : (b : Bool) → front_at (truth_text b) ≡ TruthFront
unfolding front_at
truth_front true = refl
truth_front false = refl

-- The text has the given kind, value and suffix, and a class that texts of the kind may have.
abbrev Shown : List ℕ → Kind → Contents → List ℕ → Front → Type 0
Shown t k v x (CookedFront j) = (k ≡ j) × (w : List ℕ) × Cooked j t w x × (v ≡ quoted_contents j w)
Shown t k v x (RawFront j) = (k ≡ j) × (w : List ℕ) × Raw j t w x × (v ≡ quoted_contents j w)
Shown t k v x (SingleFront j) = (k ≡ j) × (w : List ℕ) × Single j t w x × (v ≡ quoted_contents j w)
Shown t k v x NumberFront = ((k ≡ Int) × AnyInt t v x) ⊎ ((k ≡ Float) × ReadsFloat t v x)
Shown t k v x TruthFront = (k ≡ BoolKind) × ReadsBool t v x

record Seen (t : List ℕ) (k : Kind) (v : Contents) (x : List ℕ) : Type 0 where
  pub front : Front
  pub front_is : front_at t ≡ front
  pub shown : Shown t k v x front

quoted_seen : (t : List ℕ) (k : Kind) (v : Contents) (x : List ℕ) → ReadsQuoted t k v x → Seen t k v x
quoted_seen t k v x r =
    elim r.form [
      | inl a ↦ record { front = CookedFront k; front_is = ap front_at a.text_is ∙ cooked_front k _ a.string; shown = (refl, r.value, a, r.contents_is) }
      | inr b ↦ elim b [
        | inl a ↦ record { front = RawFront k; front_is = ap front_at a.text_is ∙ raw_front k _ a.string; shown = (refl, r.value, a, r.contents_is) }
        | inr a ↦ record { front = SingleFront k; front_is = ap front_at a.text_is ∙ single_front k _ a.single; shown = (refl, r.value, a, r.contents_is) }
      ]
    ]

seen : (t : List ℕ) (k : Kind) (v : Contents) (x : List ℕ) → Reads t k v x → Seen t k v x
seen t Str v x r = quoted_seen t Str v x r
seen t ByteStr v x r = quoted_seen t ByteStr v x r
seen t CStr v x r = quoted_seen t CStr v x r
seen t Byte v x r = quoted_seen t Byte v x r
seen t Char v x r = quoted_seen t Char v x r
seen t Int v x r = record { front = NumberFront; front_is = number_front t (int_front t x r.sign r.magnitude r.reads); shown = inl (refl, any_int t x v r) }
seen t Float v x r = record { front = NumberFront; front_is = number_front t (float_front t r.numeral x r.reads); shown = inr (refl, r) }
seen t BoolKind v x r = record { front = TruthFront; front_is = ap front_at r.text_is ∙ truth_front r.truth; shown = (refl, r) }

same_truth : (a b : Bool) → truth_text a ≡ truth_text b → a ≡ b
same_truth true true e = refl
same_truth false false e = refl
same_truth true false e = absurd (cc)
same_truth false true e = absurd (cc)

once_at : (f : Front) (t : List ℕ) (k l : Kind) (v w : Contents) (x y : List ℕ) → Shown t k v x f → Shown t l w y f
    → (k ≡ l) × (v ≡ w) × (x ≡ y)
once_at (CookedFront j) t k l v w x y a b =
    let p = cooked_once j t a.1 x b.1 y a.2 b.2 in
    (a.0 ∙ sym b.0, a.3 ∙ ap (quoted_contents j) p.0 ∙ sym b.3, p.1)
once_at (RawFront j) t k l v w x y a b =
    let p = raw_once j t a.1 x b.1 y a.2 b.2 in
    (a.0 ∙ sym b.0, a.3 ∙ ap (quoted_contents j) p.0 ∙ sym b.3, p.1)
once_at (SingleFront j) t k l v w x y a b =
    let p = single_once j t a.1 x b.1 y a.2 b.2 in
    (a.0 ∙ sym b.0, a.3 ∙ ap (quoted_contents j) p.0 ∙ sym b.3, p.1)
once_at NumberFront t k l v w x y (inl a) (inl b) = let p = any_int_once t x y v w a.1 b.1 in (a.0 ∙ sym b.0, p.0, p.1)
once_at NumberFront t k l v w x y (inr a) (inr b) = let p = reads_float_once t x y v w a.1 b.1 in
    (a.0 ∙ sym b.0, p.0, p.1)
once_at NumberFront t k l v w x y (inl a) (inr b) = absurd (b.1.no_integer a.1.sign a.1.magnitude x a.1.reads)
once_at NumberFront t k l v w x y (inr a) (inl b) = absurd (a.1.no_integer b.1.sign b.1.magnitude y b.1.reads)
once_at TruthFront t k l v w x y a b = (
  a.0 ∙ sym b.0,
  a.1.contents_is ∙ ap Truth (same_truth a.1.truth b.1.truth (sym a.1.text_is ∙ b.1.text_is))
      ∙ sym b.1.contents_is,
  a.1.suffix_is ∙ sym b.1.suffix_is,
)

pub one_reading : (t : List ℕ) (k l : Kind) (v w : Contents) (x y : List ℕ) → Reads t k v x → Reads t l w y → (k ≡ l)
    × (v ≡ w) × (x ≡ y)
one_reading t k l v w x y a b =
    let p = seen t k v x a in
    let q = seen t l w y b in
    once_at p.front t k l v w x y p.shown (subst (Shown t l w y) (sym q.front_is ∙ p.front_is) q.shown)

-- ---- literals of Rust's grammar, whose integers have no limit

strict_seen : (t : List ℕ) (k : Kind) (v : Contents) (x : List ℕ) → Strict t k v x → Seen t k v x
strict_seen t Int v x s =
    let i = strict_int t x v s in
    record { front = NumberFront; front_is = number_front t (int_front t x NoSign i.magnitude i.reads); shown = inl (refl, record { sign = NoSign; magnitude = i.magnitude; reads = i.reads; contents_is = i.contents_is }) }
strict_seen t Str v x s = seen t Str v x (strict_reads t Str v x s tt)
strict_seen t ByteStr v x s = seen t ByteStr v x (strict_reads t ByteStr v x s tt)
strict_seen t CStr v x s = seen t CStr v x (strict_reads t CStr v x s tt)
strict_seen t Byte v x s = seen t Byte v x (strict_reads t Byte v x s tt)
strict_seen t Char v x s = seen t Char v x (strict_reads t Char v x s tt)
strict_seen t Float v x s = seen t Float v x (strict_reads t Float v x s tt)
strict_seen t BoolKind v x s = seen t BoolKind v x (strict_reads t BoolKind v x s tt)

pub one_strict : (t : List ℕ) (k l : Kind) (v w : Contents) (x y : List ℕ) → Strict t k v x → Strict t l w y → (k ≡ l)
    × (v ≡ w) × (x ≡ y)
one_strict t k l v w x y a b =
    let p = strict_seen t k v x a in
    let q = strict_seen t l w y b in
    once_at p.front t k l v w x y p.shown (subst (Shown t l w y) (sym q.front_is ∙ p.front_is) q.shown)

-- ---- a literal of both grammars

pub read_and_strict : (t : List ℕ) (k l : Kind) (v w : Contents) (x y : List ℕ) → Reads t k v x → Strict t l w y → (k ≡ l)
    × (v ≡ w) × (x ≡ y)
read_and_strict t k l v w x y a b =
    let p = seen t k v x a in
    let q = strict_seen t l w y b in
    once_at p.front t k l v w x y p.shown (subst (Shown t l w y) (sym q.front_is ∙ p.front_is) q.shown)
