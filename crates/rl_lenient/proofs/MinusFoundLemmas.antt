-- The parse result of a number after a minus.
use Rattle.rl_syntax.proofs.Common.{◌≡◌, ℕ, zero, suc, ◌+◌, ◌≤◌, ◌⊎◌, inl, inr, Bool, true, false, cond, ◌==◌, List, [], ◌∷◌, ◌++◌, length, take, drop, refl, sym, ap, subst, ◌∙◌, arith, append_cancel_right, IsUtf8-take, IsUtf8-drop, chars-append, IsUtf8, IsAscii}
use Rattle.rl_lenient.proofs.Names.{Int, Float, IsTail, NoSign, Minus, FloatReads, HasNoInteger, HasSuffix}
use Rattle.std.proofs.Common.{length-take-le}
use Rattle.std.proofs.lemmas.List.{take-append-drop}
use Rattle.std.proofs.lemmas.Str.{IsUtf8-append, IsUtf8-from_ascii}
use Rattle.std.specs.Str.{chars}
use Rattle.rl_syntax.proofs.StrictNumbers.{without_minus}
use Rattle.rl_lenient.specs.declared.found.Found.{Found}
use Rattle.rl_lenient.specs.Founds.{IsFound}
use Rattle.rl_lenient.specs.Mirrors.NumberAt.{sign_at}
use Rattle.rl_lenient.specs.NumberShapes.{HasMagnitude}
use Rattle.rl_lenient.specs.Mirrors.PlainAt.{is_plain_integer, is_plain_digits, is_plain_float}
use Rattle.rl_lenient.specs.WholeShapes.{IsPlain}
use Rattle.rl_lenient.proofs.FloatLemmas.{float_past, float_sound}
use Rattle.rl_lenient.proofs.FoundLemmas.{Whether, Of, NumberBody, integer_found, float_found, float_alone}
use Rattle.rl_lenient.proofs.MinusLemmas.{minus_chars, int_on, float_at-minus}
use Rattle.rl_lenient.proofs.PlainNumberLemmas.{IsSplitInteger, whether_integer, whether_float}

same_whether : (b c : Bool) (P : Type 0) → (b ≡ true → P) × (P → b ≡ true) → (c ≡ true → P) × (P → c ≡ true) → b ≡ c
same_whether true c P h k = sym (k.1 (h.0 refl))
same_whether false true P h k = h.1 (k.0 refl)
same_whether false false P h k = refl

-- The body of an integer without a sign passes the test `is_plain_integer` exactly if it passes the test with a minus before it.
minus_plain : (b x : List ℕ) → sign_at (b ++ x) ≡ NoSign → is_plain_integer (45 ∷ b) ≡ is_plain_integer b
minus_plain [] x h = refl
minus_plain (c ∷ cs) x h = go (c == 45) refl h
  where
    go : (z : Bool) → (c == 45) ≡ z → cond z Minus NoSign ≡ NoSign → is_plain_digits (c ∷ cs)
        ≡ is_plain_digits (cond (c == 45) cs (c ∷ cs))
    go true e k = absurd (cc)
    go false e k = ap (λ (w : Bool). is_plain_digits (cond w cs (c ∷ cs))) (sym e)

-- A text that is split at the byte offset n into two UTF-8 texts.
record Halves (t : List ℕ) (n : ℕ) : Type 0 where
  pub whole : t ≡ take n t ++ drop n t
  pub front : IsUtf8 (take n t)
  pub back : IsUtf8 (drop n t)
  pub chars_cut : chars t ≡ chars (take n t) ++ chars (drop n t)

halves : (t : List ℕ) (f : Found) → IsUtf8 t → IsFound t f → Halves t f.body.suffix_at
halves t f u h =
    let n = f.body.suffix_at in
    let front = IsUtf8-take t n u h.stands.following in
    let whole = sym (take-append-drop n t) in
    record { whole = whole; front = front; back = IsUtf8-drop t n u h.stands.following; chars_cut = ap chars whole ∙ chars-append (take n t) (drop n t) front }

abbrev Moved : Found → Found
Moved f = Of f.kind (NumberBody (f.body.suffix_at + 1) f.body.plain) f.magnitude

-- A text with a minus before it is split at the byte offset n + 1. The text without the minus is split at n.
record Behind (t : List ℕ) (n : ℕ) : Type 0 where
  pub text : IsUtf8 (45 ∷ t)
  pub front : IsUtf8 (45 ∷ take n t)
  pub following : IsTail (45 ∷ t) (drop n t)
  pub cut : 45 ∷ t ≡ (45 ∷ take n t) ++ drop n t
  pub place : n + 1 ≡ length (45 ∷ take n t)

minus_ascii : IsAscii (45 ∷ [])
minus_ascii zero = omega arith
minus_ascii (suc i) = omega arith

minus : IsUtf8 (45 ∷ [])
minus = IsUtf8-from_ascii (45 ∷ []) minus_ascii

following : (t : List ℕ) (n : ℕ) → n ≤ length t → IsUtf8 t → Halves t n → Behind t n
following t n within u h = record {
  text = IsUtf8-append (45 ∷ []) t minus u;
  front = IsUtf8-append (45 ∷ []) (take n t) minus h.front;
  following = record { front = 45 ∷ take n t; text_is = ap (λ z. 45 ∷ z) h.whole; is_text = h.back };
  cut = ap (λ z. 45 ∷ z) h.whole;
  place = omega (arith, length-take-le n t within);
}

pub negative_integer : (t : List ℕ) (f : Found) → IsUtf8 t → sign_at (chars t) ≡ NoSign → IsFound t f → f.kind ≡ Int
    → IsFound (45 ∷ t) (Moved f)
negative_integer t f u sign h is =
    let n = f.body.suffix_at in
    let x = drop n t in
    let c = halves t f u h in
    let b = following t n h.stands.following.0 u c in
    let w = h.integer is in
    let cut : IsSplitInteger (chars t) f.magnitude (chars (take n t)) = record
    { suffix = chars x; within = w; cut = c.chars_cut } in
    let plain : f.body.plain ≡ is_plain_integer (chars (take n t)) =
    same_whether f.body.plain (is_plain_integer (chars (take n t))) (IsPlain Int t)
    (subst (λ k. Whether f.body.plain k t) is h.plain) (whether_integer t (take n t) f.magnitude
    (is_plain_integer (chars (take n t))) u c.front cut refl) in
    let signed : is_plain_integer (45 ∷ chars (take n t)) ≡ is_plain_integer (chars (take n t)) = minus_plain
    (chars (take n t)) (chars x) (ap sign_at (sym c.chars_cut) ∙ sign) in
    let within : HasMagnitude (chars (45 ∷ t)) f.magnitude (chars x) = subst (λ z. HasMagnitude z f.magnitude (chars x))
    (sym (minus_chars t)) (record { sign = Minus; reads = int_on (chars t) w.sign f.magnitude (chars x) sign w.reads; within = w.within }) in
    subst (λ k. IsFound (45 ∷ t) (Of k (NumberBody (n + 1) f.body.plain) f.magnitude)) (sym is)
    (integer_found (45 ∷ t) (45 ∷ take n t) x f.magnitude (n + 1) f.body.plain (NumberBody (n + 1) f.body.plain) refl
    b.text b.front within b.following b.cut b.place (plain ∙ sym signed
    ∙ ap is_plain_integer (sym (minus_chars (take n t)))))

pub negative_float : (t : List ℕ) (f : Found) → IsUtf8 t → sign_at (chars t) ≡ NoSign → IsFound t f → f.kind ≡ Float
    → IsFound (45 ∷ t) (Moved f)
negative_float t f u sign h is =
    let n = f.body.suffix_at in
    let x = drop n t in
    let c = halves t f u h in
    let b = following t n h.stands.following.0 u c in
    let (v, reads) : HasSuffix Float (chars t) (chars x) = subst (λ k. HasSuffix k (chars t) (chars x)) is h.reads in
    let same : reads.numeral ≡ chars (take n t) = append_cancel_right reads.numeral (chars (take n t)) (chars x)
    (sym reads.reads.text_is ∙ c.chars_cut) in
    let r : FloatReads (chars t) (chars (take n t)) (chars x) = subst (λ z. FloatReads (chars t) z (chars x)) same
    reads.reads in
    let plain : f.body.plain ≡ is_plain_float (chars (take n t)) =
    same_whether f.body.plain (is_plain_float (chars (take n t))) (IsPlain Float t)
    (subst (λ k. Whether f.body.plain k t) is h.plain) (whether_float t (take n t) (chars x)
    (is_plain_float (chars (take n t))) u c.front r refl) in
    let (m, q) = float_sound (45 ∷ chars t) (chars x) (float_at-minus (chars t) sign
    ∙ float_past (chars t) (chars (take n t)) (chars x) r) in
    let none : HasNoInteger (45 ∷ chars t) = λ s k y i. reads.no_integer NoSign k y
    ((without_minus (chars t) y s k i).0) in
    let zero_is : f.magnitude ≡ 0 = h.no_magnitude (λ e. other is e) in
    let to = sym (minus_chars t) in
    let found = float_found (45 ∷ t) (45 ∷ take n t) x m (n + 1) f.body.plain (NumberBody (n + 1) f.body.plain) refl
    b.text b.front (subst (λ z. FloatReads z m (chars x)) to q) b.following b.cut b.place
    (plain ∙ ap is_plain_float (sym (minus_chars (take n t)))) in
    subst (λ k. IsFound (45 ∷ t) (Of k (NumberBody (n + 1) f.body.plain) f.magnitude)) (sym is)
    (subst (λ k. IsFound (45 ∷ t) (Of Float (NumberBody (n + 1) f.body.plain) k)) (sym zero_is)
    (float_alone (45 ∷ t) (Of Float (NumberBody (n + 1) f.body.plain) 0) (subst HasNoInteger to none) found))
  where
    other : f.kind ≡ Float → f.kind ≡ Int → ⊥
    other e g = absurd (cc)

pub negative_found : (t : List ℕ) (f : Found) → IsUtf8 t → sign_at (chars t) ≡ NoSign → IsFound t f → (f.kind ≡ Int)
    ⊎ (f.kind ≡ Float) → IsFound (45 ∷ t) (Moved f)
negative_found t f u sign h (inl e) = negative_integer t f u sign h e
negative_found t f u sign h (inr e) = negative_float t f u sign h e
