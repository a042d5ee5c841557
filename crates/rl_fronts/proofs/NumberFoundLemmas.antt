-- Lemmas about the digits of a number, from the parse result of its text.
use Rattle.rl_syntax.proofs.Common.{◌≡◌, ◌≢◌, ℕ, inl, inr, true, List, ◌++◌, refl, sym, ap, subst, ◌∙◌, append_cancel_right, chars-append, IsUtf8}
use Rattle.rl_lenient.proofs.Names.{decimal, Kind, Byte, Char, Int, Float, BoolKind, FloatReads, float_digits, sign_text, HasSuffix}
use Rattle.std.specs.Str.{chars}
use Rattle.rl_lenient.specs.declared.found.Found.{Found}
use Rattle.rl_lenient.specs.Founds.{IsFound, IsFoundFloat, IsFoundNumber, IsBodyWithin, body_in, suffix_in}
use Rattle.rl_lenient.specs.Mirrors.NumberAt.{sign_at}
use Rattle.rl_lenient.specs.NumberShapes.{AreDigits, IsNumber}
use Rattle.rl_lenient.specs.WholeShapes.{IsSplit, IsPlain}
use Rattle.rl_lenient.proofs.DigitLemmas.{int_contents, same_numeral}
use Rattle.rl_lenient.proofs.FoundLemmas.{body_text, Whether}
use Rattle.rl_lenient.proofs.PlainNumberLemmas.{IsSplitInteger, plain_integer, plain_float, plain_contents, plain_numeral}

-- ---- lemmas about the parse result of a number

pub number_stands : (t : List ℕ) (f : Found) → IsFoundNumber t f → IsBodyWithin t f.body
number_stands t f (inl h) = h.0.stands
number_stands t f (inr h) = h.stands

float_chars : (t : List ℕ) (f : Found) → IsUtf8 t → IsBodyWithin t f.body → t ≡ body_in t f.body ++ suffix_in t f.body
    → chars t ≡ chars (body_in t f.body) ++ chars (suffix_in t f.body)
float_chars t f u s e = ap chars e ∙ chars-append (body_in t f.body) (suffix_in t f.body) (body_text t f.body u s)

-- If a text is parsed as a float when all kinds of literals are allowed, it has the same parse result when only floats
-- are allowed.
pub found_float : (t : List ℕ) (f : Found) → IsUtf8 t → f.kind ≡ Float → IsFound t f → IsFoundFloat t f
found_float t f u e h =
    let b = body_in t f.body in
    let x = suffix_in t f.body in
    let (v, r) : HasSuffix Float (chars t) (chars x) = subst (λ k. HasSuffix k (chars t) (chars x)) e h.reads in
    let cut : t ≡ b ++ x = subst (λ k. IsSplit k t b x) e h.cut in
    let same : r.numeral ≡ chars b = append_cancel_right r.numeral (chars b) (chars x)
    (sym r.reads.text_is ∙ float_chars t f u h.stands cut) in
    record {
      kind = e;
      reads = subst (λ z. FloatReads (chars t) z (chars x)) same r.reads;
      cut = cut;
      stands = h.stands;
      plain = subst (λ k. Whether f.body.plain k t) e h.plain;
      no_magnitude = h.no_magnitude (λ i. other e i);
      no_truth = h.no_truth (λ i. no_truth_value e i);
      no_unit = h.no_unit (λ i. no_byte e i) (λ i. no_character e i);
    }
  where
    other : f.kind ≡ Float → f.kind ≡ Int → ⊥
    other e g = absurd (cc)

    no_truth_value : f.kind ≡ Float → f.kind ≡ BoolKind → ⊥
    no_truth_value e g = absurd (cc)

    no_byte : f.kind ≡ Float → f.kind ≡ Byte → ⊥
    no_byte e g = absurd (cc)

    no_character : f.kind ≡ Float → f.kind ≡ Char → ⊥
    no_character e g = absurd (cc)

pub number_float : (t : List ℕ) (f : Found) → IsUtf8 t → f.kind ≢ Int → IsFoundNumber t f → IsFoundFloat t f
number_float t f u n (inl (h, inl e)) = absurd (n e)
number_float t f u n (inl (h, inr e)) = found_float t f u e h
number_float t f u n (inr h) = h

pub number_integer : (t : List ℕ) (f : Found) → f.kind ≡ Int → IsFoundNumber t f → IsFound t f
number_integer t f e (inl h) = h.0
number_integer t f e (inr h) = let k = h.kind in absurd (cc)

integer_cut : (t : List ℕ) (f : Found) → IsUtf8 t → f.kind ≡ Int → IsFound t f
    → IsSplitInteger (chars t) f.magnitude (chars (body_in t f.body))
integer_cut t f u e h = record {
  suffix = chars (suffix_in t f.body);
  within = h.integer e;
  cut = float_chars t f u h.stands (subst (λ k. IsSplit k t (body_in t f.body) (suffix_in t f.body)) e h.cut);
}

-- ---- lemmas about the digits of a number

integer_plain : (t : List ℕ) (f : Found) → IsUtf8 t → f.kind ≡ Int → f.body.plain ≡ true → IsFound t f
    → AreDigits Int (chars t) (chars (body_in t f.body))
integer_plain t f u e p h =
    let cut = integer_cut t f u e h in
    let plain : IsPlain Int t = (subst (λ k. Whether f.body.plain k t) e h.plain).0 p in
    plain_contents (chars t) (chars (body_in t f.body)) f.magnitude cut
    (plain_integer t (body_in t f.body) f.magnitude u (body_text t f.body u h.stands) cut plain)

float_plain : (t : List ℕ) (f : Found) → f.body.plain ≡ true → IsFoundFloat t f
    → AreDigits Float (chars t) (chars (body_in t f.body))
float_plain t f p h =
    plain_numeral (chars t) (chars (body_in t f.body)) (chars (suffix_in t f.body)) h.reads
    (plain_float t (body_in t f.body) (chars (suffix_in t f.body)) h.reads (h.plain.0 p))

pub plain_digits : (t : List ℕ) (f : Found) → IsUtf8 t → f.body.plain ≡ true → IsFoundNumber t f
    → AreDigits f.kind (chars t) (chars (body_in t f.body))
plain_digits t f u p (inl (h, inl e)) = subst (λ k. AreDigits k (chars t) (chars (body_in t f.body))) (sym e)
    (integer_plain t f u e p h)
plain_digits t f u p (inl (h, inr e)) = subst (λ k. AreDigits k (chars t) (chars (body_in t f.body))) (sym e)
    (float_plain t f p (found_float t f u e h))
plain_digits t f u p (inr h) = subst (λ k. AreDigits k (chars t) (chars (body_in t f.body))) (sym h.kind)
    (float_plain t f p h)

pub written_digits : (t bs : List ℕ) (f : Found) → f.kind ≡ Int → IsFoundNumber t f → bs ≡ sign_text (sign_at (chars t))
    ++ decimal f.magnitude → AreDigits f.kind (chars t) (chars bs)
written_digits t bs f e h is = subst (λ k. AreDigits k (chars t) (chars bs)) (sym e)
    (int_contents (chars t) (chars (suffix_in t f.body)) f.magnitude bs ((number_integer t f e h).integer e) is)

pub numeral_digits : (t bs : List ℕ) (f : Found) → IsUtf8 t → f.kind ≢ Int → IsFoundNumber t f → chars bs
    ≡ float_digits (chars (body_in t f.body)) → AreDigits f.kind (chars t) (chars bs)
numeral_digits t bs f u n h is =
    let r = number_float t f u n h in
    subst (λ k. AreDigits k (chars t) (chars bs)) (sym r.kind)
    (λ m x g. same_numeral (chars t) (chars (body_in t f.body)) (chars (suffix_in t f.body)) (chars bs) m x r.reads
    is g)

-- ---- lemmas about the kind of a number

pub int_number : (k : Kind) (t : List ℕ) → IsNumber k t → k ≡ Int → IsNumber Int t
int_number k t h e = subst (λ j. IsNumber j t) e h

pub is_float : (k : Kind) (t : List ℕ) → IsNumber k t → k ≢ Int → IsNumber Float t
is_float Int t h n = absurd (n refl)
is_float Float t h n = h
is_float kind t h n = absurd h

-- A number whose kind isn't that of integers has the kind of floats.
pub float_kind : (k : Kind) (t : List ℕ) → IsNumber k t → k ≢ Int → k ≡ Float
float_kind Int t h n = absurd (n refl)
float_kind Float t h n = refl
float_kind kind t h n = absurd h
