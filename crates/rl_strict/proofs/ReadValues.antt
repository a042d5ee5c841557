-- A parsed text has a value, unless it is an integer above 128 bits that isn't a float by its suffix.
use Rattle.rl_strict.proofs.Names.{◌≡◌, ℕ, Bool, true, false, List, Option, Some, None, IfNone, IfSome, refl, sym, subst, inl, inr, IsUtf8, IsPast, chars, Flaw, LineEnds, Text, File, Reading, AText, Unit, Integer, AFloat, Truth, ExplainsLimit, IsFloatBySuffix, suffix_at_if_above_128_bits, read_of, ExplainsOf, ExplainsValueOf, HasValueOf, IsReadingOf, IsTokenIf, ReadsOf, lf_bytes, IsSignedToken, IsSignedRead}
use Rattle.rl_strict.proofs.FilePlaces.{lf_chars}
use Rattle.rl_strict.proofs.LimitLemmas.{either, signed_within}

signed_token : (signed : Bool) (t : List ℕ) → IsTokenIf signed t → IsSignedToken t
signed_token false t y = inl y
signed_token true t y = y

signed_read : (signed : Bool) (t : List ℕ) (r : Reading) → ReadsOf signed t r → IsSignedRead t r
signed_read false t r h = inl h
signed_read true t r h = h

-- ---- an integer above 128 bits contains no CR LF

pub past_read : (how : LineEnds) (signed : Bool) (t : List ℕ) (r : Reading) (at : ℕ) → IsReadingOf how signed t r
    → suffix_at_if_above_128_bits r ≡ Some at → (read_of how (chars t) ≡ chars t) × IsSignedRead t r
past_read Text signed t r at h e = (refl, signed_read signed t r h)
past_read File signed t (Integer m k) at h e = (h.0, signed_read signed t (Integer m k) h.1)
past_read File signed t other at h e = absurd (cc)

pub past_token : (how : LineEnds) (signed : Bool) (t : List ℕ) (r : Reading) (at : ℕ) → IsReadingOf how signed t r
    → suffix_at_if_above_128_bits r ≡ Some at → IsTokenIf signed (read_of how (chars t)) → IsSignedToken (chars t)
past_token how signed t r at h e y = subst IsSignedToken (past_read how signed t r at h e).0
    (signed_token signed (read_of how (chars t)) y)

-- A decimal integer above 128 bits with the suffix `f32` or `f64` has a value, since Rust reads it as a float.
pub past_value : (how : LineEnds) (signed : Bool) (t : List ℕ) (r : Reading) (at : ℕ) → IsReadingOf how signed t r
    → suffix_at_if_above_128_bits r ≡ Some at → IsFloatBySuffix (chars t) → HasValueOf how (chars t)
past_value how signed t r at h e f = inr (subst IsFloatBySuffix (sym (past_read how signed t r at h e).0) f)

-- ---- any other parsed text has a value

within : (how : LineEnds) (signed : Bool) (t : List ℕ) (r : Reading) → IsUtf8 t → IsReadingOf how signed t r
    → suffix_at_if_above_128_bits r ≡ None → IsPast (read_of how (chars t)) → ⊥
within Text signed t r u h e p = signed_within t r (signed_read signed t r h) e p
within File signed t (AText kind body) u h e p =
    signed_within (lf_bytes t) (AText kind h.0) (inl h.1) refl (subst IsPast (sym (lf_chars t u)) p)
within File signed t (Unit kind body unit) u h e p =
    signed_within t (Unit kind body unit) (signed_read signed t (Unit kind body unit) h.1) e (subst IsPast h.0 p)
within File signed t (Integer m k) u h e p =
    signed_within t (Integer m k) (signed_read signed t (Integer m k) h.1) e (subst IsPast h.0 p)
within File signed t (AFloat k) u h e p =
    signed_within t (AFloat k) (signed_read signed t (AFloat k) h.1) e (subst IsPast h.0 p)
within File signed t (Truth truth) u h e p =
    signed_within t (Truth truth) (signed_read signed t (Truth truth) h.1) e (subst IsPast h.0 p)

pub has_value : (how : LineEnds) (signed : Bool) (t : List ℕ) (r : Reading) → IsUtf8 t → IsReadingOf how signed t r
    → suffix_at_if_above_128_bits r ≡ None → IsTokenIf signed (read_of how (chars t)) → HasValueOf how (chars t)
has_value how signed t r u h e y = elim (either (read_of how (chars t)) (signed_token signed (read_of how (chars t)) y)) [
  | inl reads ↦ inl reads
  | inr p ↦ absurd (within how signed t r u h e p)
]

-- ---- the reason why a text has no value

pub value_of : (how : LineEnds) (signed : Bool) (t : List ℕ) (r : Reading) (o : Option Flaw)
    → IfNone o ((how : LineEnds) (signed : Bool) → IsReadingOf how signed t r
    → IsTokenIf signed (read_of how (chars t)) → HasValueOf how (chars t)) → IsReadingOf how signed t r
    → IsTokenIf signed (read_of how (chars t)) → IfNone o (HasValueOf how (chars t))
value_of how signed t r None h reads y = h how signed reads y
value_of how signed t r (Some flaw) h reads y = tt

pub flaw_explains : (how : LineEnds) (signed : Bool) (t : List ℕ) (flaw : Flaw) → ExplainsOf how signed t flaw
    → ExplainsValueOf how signed t flaw
flaw_explains Text false t flaw x = inl x
flaw_explains Text true t flaw x = inl x
flaw_explains File false t flaw x = inl x
flaw_explains File true t flaw x = inl x

limit_value : (how : LineEnds) (signed : Bool) (t : List ℕ) (flaw : Flaw) → IsTokenIf signed (read_of how t)
    → ExplainsLimit t flaw → ExplainsValueOf how signed t flaw
limit_value Text false t flaw y x = inr (y, x)
limit_value Text true t flaw y x = inr x
limit_value File false t flaw y x = inr (y, x)
limit_value File true t flaw y x = inr x

pub value_explains : (how : LineEnds) (signed : Bool) (t : List ℕ) (o : Option Flaw) → IsTokenIf signed (read_of how t)
    → IfSome o (ExplainsLimit t) → IfSome o (ExplainsValueOf how signed t)
value_explains how signed t None y x = tt
value_explains how signed t (Some flaw) y x = limit_value how signed t flaw y x
