-- The value of a parsed integer literal.
use Rattle.rl_syntax.proofs.Common.{◌≡◌, ℕ, ◌<◌, ◌≤◌, ◌^◌, ◌⊎◌, inl, inr, Bool, true, false, List, [], ◌∷◌, ◌++◌, length, refl, sym, ap, subst, ◌∙◌, arith, chars, chars-nil, encodes-chars, encode_utf8_all, both_ways, eqb, eqb-true, not, ◌≢◌, IsUtf8, IsTrue}
use Rattle.std.proofs.Common.{Option, Some, None, ℤ}
use Rattle.std.specs.Prelude.{IfSome, IfNone, MatchBool}
use Rattle.std.proofs.lemmas.Bool.{cases_lt}
use Rattle.rl_syntax.specs.declared.kind.Kind.{Kind}
use Rattle.rl_syntax.specs.declared.kind.Kind.TheVariants.{Int, Str}
use Rattle.rl_syntax.specs.Numbers.{Sign, NoSign, Minus, IntReads, limit, sign_text}
use Rattle.rl_syntax.specs.Quoted.{is_string}
use Rattle.rl_syntax.specs.Reading.{Characters, Contents, Digits, Reads, HasContents, HasNoReading}
use Rattle.std.specs.Fmt.{decimal}
use Rattle.rl_syntax.proofs.OneReading.{one_reading}
use Rattle.rl_syntax.proofs.OneNumber.{int_once}
use Rattle.rl_lenient.specs.Bodies.{HasBody, Represents}
use Rattle.rl_lenient.specs.declared.found.Found.{Found}
use Rattle.rl_lenient.specs.Founds.{IsFound, suffix_in}
use Rattle.rl_lenient.specs.Mirrors.NumberAt.{sign_at}
use Rattle.rl_lenient.specs.Values.{HasIntegerValue, HasNoValue, IsPastSigned, signed}
use Rattle.rl_lenient.proofs.BodyContents.{plain_contents}
use Rattle.rl_lenient.proofs.DigitLemmas.{int_sign}

-- ---- a parse result is one of its text

pub found_reads : (text : List ℕ) (f : Found) (v : Contents) → IsFound text f → HasContents f.kind (chars text) v
    → Reads (chars text) f.kind v (chars (suffix_in text f.body))
found_reads text f v h c =
    let s = h.reads in
    let same = (one_reading (chars text) f.kind f.kind v s.0 c.0 (chars (suffix_in text f.body)) c.1 s.1).2 in
    subst (λ (y : List ℕ). Reads (chars text) f.kind v y) same c.1

pub string_reads : (text : List ℕ) (f : Found) (body : List ℕ) (v : Contents) → IsFound text f → f.kind ≡ Str
    → (IsFound text f → IsTrue (is_string f.kind) → HasBody f.kind (chars text) body f.body.plain)
    → Represents Str body f.body.plain v → Reads (chars text) Str v (chars (suffix_in text f.body))
string_reads text f body v h k gives stands =
    let has : HasBody Str (chars text) body f.body.plain =
    subst (λ (y : Kind). HasBody y (chars text) body f.body.plain) k (gives h (rw k refl)) in
    let c : HasContents f.kind (chars text) v =
    subst (λ (y : Kind). HasContents y (chars text) v) (sym k) (stands (chars text) has) in
    subst (λ (y : Kind). Reads (chars text) y v (chars (suffix_in text f.body))) k (found_reads text f v h c)

-- If a string's body is its own value, a copy of the body is the bytes of the value.
pub copied : (body bytes : List ℕ) (plain : Bool) → plain ≡ true → IsUtf8 body → bytes ≡ body
    → Represents Str body plain (Characters (chars bytes))
copied body bytes plain is u e =
    subst (λ (y : List ℕ). Represents Str body plain (Characters (chars y))) (sym e) (plain_contents body plain is u)

-- ---- the integer's value

pub has_value : (t : List ℕ) (f : Found) (s : Sign) (z : ℤ) → IsFound t f → f.kind ≡ Int → sign_at (chars t) ≡ s
    → z ≡ signed s f.magnitude → HasIntegerValue (chars t) (chars (suffix_in t f.body)) z
has_value t f s z h k sign e =
    let i = h.integer k in
    record {
      sign = i.sign;
      magnitude = f.magnitude;
      reads = i.reads;
      within = i.within;
      value_is = e
          ∙ ap (λ (y : Sign). signed y f.magnitude) (sym sign ∙ int_sign (chars t) i.sign f.magnitude _ i.reads);
    }

pub some_value : (t : List ℕ) (f : Found) (s : Sign) (o : Option ℤ) → IsFound t f → sign_at (chars t) ≡ s
    → IfSome o (λ z. f.kind ≡ Int) → IfSome o (λ z. z ≡ signed s f.magnitude)
    → IfSome o (HasIntegerValue (chars t) (chars (suffix_in t f.body)))
some_value t f s (Some z) h sign k e = has_value t f s z h k sign e
some_value t f s None h sign k e = tt

-- ---- integers without a value

pub within_reads : (t : List ℕ) (s : Sign) (m : ℕ) (x : List ℕ) → IntReads t s m x → m ≤ limit
    → Reads t Int (Digits (sign_text s ++ decimal m)) x
within_reads t s m x r w = record { sign = s; magnitude = m; reads = r; within = w; contents_is = refl }

-- A number above 128 bits, with either sign, doesn't fit an `i128`.
pub past_limit : (s : Sign) (m : ℕ) → limit < m → IsPastSigned s m
past_limit NoSign m h = omega arith
past_limit Minus m h = omega arith

pub within_or_past : (m : ℕ) → (m ≤ limit) ⊎ (limit < m)
within_or_past m =
    elim (cases_lt m (2 ^ 128)) [
      | inl small ↦ inl (omega arith)
      | inr large ↦ inr (omega arith)
    ]

pub none_found : (t x : List ℕ) → HasNoReading t → HasNoValue t x
none_found t x none s m r =
    elim (within_or_past m) [
      | inl w ↦ absurd (none Int _ x (within_reads t s m x r w))
      | inr past ↦ past_limit s m past
    ]

none_past : (t : List ℕ) (f : Found) (s : Sign) → IsFound t f → sign_at (chars t) ≡ s
    → (f.kind ≡ Int → IsPastSigned s f.magnitude) → (x : List ℕ) → HasNoValue (chars t) x
none_past t f s h sign none x q m r =
    elim (within_or_past m) [
      | inl w ↦
          let k = (one_reading (chars t) f.kind Int h.reads.0 _ _ x h.reads.1 (within_reads (chars t) q m x r w)).0 in
          let i = h.integer k in
          let same : m ≡ f.magnitude = (int_once (chars t) x _ q i.sign m f.magnitude r i.reads).1 in
          let signs : s ≡ q = sym sign ∙ int_sign (chars t) q m x r in
          subst (λ (y : Sign). IsPastSigned y m) signs (subst (IsPastSigned s) (sym same) (none k))
      | inr past ↦ past_limit q m past
    ]

pub no_value : (t : List ℕ) (f : Found) (s : Sign) (o : Option ℤ) → IsFound t f → sign_at (chars t) ≡ s
    → IfNone o (f.kind ≡ Int → IsPastSigned s f.magnitude) → IfNone o ((x : List ℕ) → HasNoValue (chars t) x)
no_value t f s None h sign n = none_past t f s h sign n
no_value t f s (Some z) h sign n = tt

-- ---- suffixes

-- The suffix of a literal is empty exactly if it has no bytes.
pub some_suffix : (b : Bool) (s : List ℕ) → IsUtf8 s → eqb (length s) 0 ≡ b → MatchBool (not b) (chars s ≢ []) (chars s ≡ [])
some_suffix true [] u e = chars-nil
some_suffix true (c ∷ cs) u e = absurd (let z = eqb-true (length (c ∷ cs)) 0 e in omega arith)
some_suffix false s u e = λ n. both_ways (eqb (length s) 0) e (ap (λ z. eqb (length z) 0)
    (sym (encodes-chars s u) ∙ ap encode_utf8_all n))
