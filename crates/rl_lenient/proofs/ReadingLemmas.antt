-- The texts `true` and `false`, and texts that aren't literals.
use Rattle.rl_syntax.proofs.Common.{◌≡◌, ℕ, ◌<◌, ◌≤◌, ◌⊎◌, inl, inr, Bool, true, false, ◌||◌, ◌==◌, cond, List, [], ◌∷◌, ◌++◌, None, refl, sym, ap, ◌∙◌, arith, both_ways, or_parts, nat_tests, encodes-chars, encode_utf8_all, is_ascii_digit, IsUtf8}
use Rattle.rl_lenient.proofs.Names.{first_passes, Int, Float, BoolKind, truth_text, HasNoReading, HasNoTruth}
use Rattle.std.specs.Str.{chars}
use Rattle.rl_syntax.proofs.Basics.{apart}
use Rattle.rl_syntax.proofs.LowBytes.{cases128, encode_is_high, low_front, not_equal}
use Rattle.rl_lenient.specs.NumberShapes.{ReadsNoNumber}
use Rattle.rl_lenient.specs.Mirrors.NumberAt.{after_minus}
use Rattle.rl_lenient.specs.Mirrors.OpenerAt.{opener_at}
use Rattle.rl_lenient.specs.Shapes.{HasNoQuoted}
use Rattle.rl_lenient.specs.WholeShapes.{is_number_front}
use Rattle.rl_lenient.proofs.FloatLemmas.{no_float}
use Rattle.rl_lenient.proofs.FormLemmas.{no_front}
use Rattle.rl_lenient.proofs.HeadLemmas.{no_head_int, no_head_float}
use Rattle.rl_lenient.proofs.IntegerLemmas.{no_int}
use Rattle.rl_lenient.proofs.NumberLemmas.{no_number}

-- A text that is neither a quoted literal nor a number nor a `bool` isn't a literal.
pub no_reading : (t : List ℕ) → HasNoQuoted t → ReadsNoNumber t → HasNoTruth t → HasNoReading t
no_reading t q n b Int c x r = n Int c x r
no_reading t q n b Float c x r = n Float c x r
no_reading t q n b BoolKind c x r = b c x r
no_reading t q n b kind c x r = q kind c x r

-- ---- the start of a text

-- The first byte of a text is a minus or a decimal digit exactly if the first character of the text is.
pub front_same : (t : List ℕ) → IsUtf8 t → first_passes is_number_front t ≡ first_passes is_number_front (chars t)
front_same t is = ap (first_passes is_number_front) (sym (encodes-chars t is)) ∙ go (chars t)
  where
    past : (c : ℕ) → 128 ≤ c → is_number_front c ≡ false
    past c h = ap (λ z. z || is_ascii_digit c) (not_equal c 45 (omega arith) h) ∙ grind (arith, nat_tests)

    at : (c : ℕ) (cs : List ℕ) → (c < 128) ⊎ (128 ≤ c) → first_passes is_number_front (encode_utf8_all (c ∷ cs))
        ≡ is_number_front c
    at c cs (inl low) = ap (first_passes is_number_front) (low_front c cs low)
    at c cs (inr high) =
        let (b, bs, is, above, _) = encode_is_high c high in
        ap (first_passes is_number_front) (ap (λ x. x ++ encode_utf8_all cs) is) ∙ past b above ∙ sym (past c high)

    go : (cs : List ℕ) → first_passes is_number_front (encode_utf8_all cs) ≡ first_passes is_number_front cs
    go [] = refl
    go (c ∷ cs) = at c cs (cases128 c)

-- A text that begins with neither a minus nor a digit isn't a number.
pub no_front_number : (t : List ℕ) → first_passes is_number_front t ≡ false → ReadsNoNumber t
no_front_number t h = let d = no_digit t h in no_number t (no_int t (no_head_int t d)) (no_float t (no_head_float t d))
  where
    no_digit : (t : List ℕ) → first_passes is_number_front t ≡ false → first_passes is_ascii_digit (after_minus t)
        ≡ false
    no_digit [] h = refl
    no_digit (c ∷ cs) h = let e = or_parts (c == 45) (is_ascii_digit c) h in ap
        (λ z. first_passes is_ascii_digit (cond z cs (c ∷ cs))) e.0 ∙ e.1

-- A text that begins with a minus or a digit isn't a quoted literal.
pub front_not_quoted : (t : List ℕ) → first_passes is_number_front t ≡ true → opener_at t ≡ None
unfolding opener_at
front_not_quoted [] h = refl
front_not_quoted (c ∷ cs) h =
    let at : (k : ℕ) → is_number_front k ≡ false → (c == k) ≡ false = λ k n. apart is_number_front c k h n in
    rw (at 39 refl) (rw (at 98 refl) (rw (at 99 refl) (rw (at 34 refl) (rw (at 114 refl) refl))))

front_no_truth : (t : List ℕ) → first_passes is_number_front t ≡ true → HasNoTruth t
front_no_truth t h v x r = go r.truth r.text_is
  where
    go : (b : Bool) → t ≡ truth_text b → ⊥
    go true e = both_ways (first_passes is_number_front t) (ap (first_passes is_number_front) e) h
    go false e = both_ways (first_passes is_number_front t) (ap (first_passes is_number_front) e) h

pub only_number : (t : List ℕ) → first_passes is_number_front t ≡ true → ReadsNoNumber t → HasNoReading t
only_number t h n = no_reading t (no_front t (front_not_quoted t h)) n (front_no_truth t h)
