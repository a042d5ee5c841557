-- The value of a string literal's body.
use Rattle.rl_syntax.proofs.Common.{◌≡◌, ◌⊎◌, inl, inr, ℕ, Bool, true, false, List, refl, sym, ap, subst, ◌∙◌, both_ways, IsUtf8}
use Rattle.rl_lenient.proofs.Names.{Kind, Str, ByteStr, CStr, Characters, Bytes, ReadsQuoted, HasContents, quoted_contents}
use Rattle.std.specs.Prelude.{Result, Ok, Err, IfOk}
use Rattle.std.specs.Str.{chars}
use Rattle.rl_lenient.specs.Bodies.{HasBody, Represents}
use Rattle.rl_lenient.specs.Mirrors.Decodes.{Decodes}
use Rattle.rl_lenient.specs.Decoded.{HoldsBytes}
use Rattle.rl_lenient.proofs.ContentLemmas.{plain_bytes, not_raw, cooked_bytes, str_bytes}
use Rattle.rl_lenient.proofs.FormLemmas.{parts_read}

pub ok_plain : {X E : Type 0} (items : X → List ℕ) (r : Result X E) (kind : Kind) (body bytes : List ℕ) (plain : Bool)
    → plain ≡ true → IsUtf8 body → body ≡ bytes → IfOk r (λ v. items v ≡ bytes)
    → IfOk r (λ v. (t : List ℕ) → HasBody kind t body plain → HoldsBytes t (items v))
ok_plain items (Ok v) kind body bytes plain is u same e = λ t has. subst (HoldsBytes t) (same ∙ sym e)
    (plain_bytes t has.form kind has.value body has.suffix (sym has.plain_is ∙ is) u has.parts)
ok_plain items (Err a) kind body bytes plain is u same e = tt

pub ok_decoded : {X E : Type 0} (items : X → List ℕ) (r : Result X E) (kind : Kind) (body : List ℕ) (plain : Bool)
    → plain ≡ false → IfOk r (λ v. Decodes kind (chars body) (items v))
    → IfOk r (λ v. (t : List ℕ) → HasBody kind t body plain → HoldsBytes t (items v))
ok_decoded items (Ok v) kind body plain other d = λ t has. cooked_bytes t has.form kind has.value (chars body)
    has.suffix (items v) (not_raw has.form kind (chars body) (sym has.plain_is ∙ other)) has.parts d
ok_decoded items (Err a) kind body plain other d = tt

body_reads : (kind : Kind) (t body : List ℕ) (plain : Bool) (has : HasBody kind t body plain)
    → ReadsQuoted t kind (quoted_contents kind has.value) has.suffix
body_reads kind t body plain has = parts_read has.form kind t has.value (chars body) has.suffix has.parts

-- If bytes are the value of a `str` literal, they are UTF-8, and their characters are the value.
pub str_of_has : (t body bytes : List ℕ) (plain : Bool) → HasBody Str t body plain → IsUtf8 body → HoldsBytes t bytes
    → IsUtf8 bytes × HasContents Str t (Characters (chars bytes))
str_of_has t body bytes plain has u held =
    let s = str_bytes has.form t has.value body has.suffix bytes has.parts u held in
    (s.0, (has.suffix, subst (λ v. ReadsQuoted t Str (Characters v) has.suffix) s.1 (body_reads Str t body plain has)))

abbrev is_bytes : Kind → Bool
is_bytes ByteStr = true
is_bytes CStr = true
is_bytes _ = false

other_kind : (kind : Kind) → (kind ≡ ByteStr) ⊎ (kind ≡ CStr) → is_bytes kind ≡ false → ⊥
other_kind kind (inl e) h = both_ways (is_bytes kind) h (ap is_bytes e)
other_kind kind (inr e) h = both_ways (is_bytes kind) h (ap is_bytes e)

pub bytes_of_has : (kind : Kind) (t body bytes : List ℕ) (plain : Bool) → (kind ≡ ByteStr) ⊎ (kind ≡ CStr)
    → HasBody kind t body plain → HoldsBytes t bytes → HasContents kind t (Bytes bytes)
bytes_of_has ByteStr t body bytes plain which has held =
    let r = body_reads ByteStr t body plain has in (
      has.suffix,
      subst (λ v. ReadsQuoted t ByteStr v has.suffix)
          (r.contents_is ∙ ap Bytes (sym (held ByteStr (quoted_contents ByteStr has.value) has.suffix refl r))) r,
    )
bytes_of_has CStr t body bytes plain which has held =
    let r = body_reads CStr t body plain has in (
      has.suffix,
      subst (λ v. ReadsQuoted t CStr v has.suffix) (r.contents_is
          ∙ ap Bytes (sym (held CStr (quoted_contents CStr has.value) has.suffix refl r))) r,
    )
bytes_of_has kind t body bytes plain which has held = absurd (other_kind kind which refl)

-- If the body of a string literal is plain (its own value), the characters of the body are the value.
pub plain_contents : (body : List ℕ) (plain : Bool) → plain ≡ true → IsUtf8 body
    → Represents Str body plain (Characters (chars body))
plain_contents body plain is u = λ t has. (str_of_has t body body plain has u
    (plain_bytes t has.form Str has.value body has.suffix (sym has.plain_is ∙ is) u has.parts)).1
