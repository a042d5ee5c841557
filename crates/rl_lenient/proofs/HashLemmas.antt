-- Lemmas about the hashes of raw literals.
use Rattle.rl_syntax.proofs.Common.{List, arith, chars, inl, length, refl, true, ℕ, ◌-◌, ◌<◌, ◌≡◌}
use Rattle.rl_lenient.proofs.Names.{Byte, ByteStr, CStr, Char, Float, Int, Kind, Str, is_string, opener}
use Rattle.rl_syntax.specs.declared.kind.Kind.TheVariants.{Bool as BoolKind}
use Rattle.rl_syntax.specs.Quoted.{raw_opener}
use Rattle.rl_lenient.specs.declared.found.Body.{Body}
use Rattle.rl_lenient.specs.declared.quoted_forms.QuotedForm.{QuotedForm}
use Rattle.rl_lenient.specs.declared.quoted_forms.QuotedForm.TheVariants.{Cooked as CookedForm, Raw as RawForm, Single as SingleForm}
use Rattle.rl_lenient.specs.Forms.{PartsAre, front_len}
use Rattle.rl_lenient.specs.Founds.{IsQuotedAt}
use Rattle.rl_lenient.specs.Raws.{HasHashCount}

openers_long : (kind : Kind) → is_string kind ≡ true → length (raw_opener kind) ≡ length (opener kind)
openers_long Str s = refl
openers_long ByteStr s = refl
openers_long CStr s = refl
openers_long Byte s = absurd (cc)
openers_long Char s = absurd (cc)
openers_long Int s = absurd (cc)
openers_long Float s = absurd (cc)
openers_long BoolKind s = absurd (cc)

hashes_of : (form : QuotedForm) (kind : Kind) (t v b x : List ℕ) (lo : ℕ) (p : PartsAre form kind t v b x)
    → lo ≡ front_len form kind t v b x p → length (opener kind) < lo → HasHashCount kind t (lo - length (opener kind) - 1)
hashes_of CookedForm kind t v b x lo p e h = absurd (omega (arith, e, h))
hashes_of RawForm kind t v b x lo p e h = inl (v, x, p.0, omega (arith, e, openers_long kind p.0.string))
hashes_of SingleForm kind t v b x lo p e h = absurd (omega (arith, e, h))

-- A literal whose body begins after more than its opening delimiter is raw, and the rest are its hashes and the quote.
pub raw_hashes : (kind : Kind) (t : List ℕ) (body : Body) → IsQuotedAt kind t body → length (opener kind) < body.lo
    → HasHashCount kind (chars t) (body.lo - length (opener kind) - 1)
raw_hashes kind t body q h = hashes_of q.form kind (chars t) q.value _ _ body.lo q.parts q.lo_is h
