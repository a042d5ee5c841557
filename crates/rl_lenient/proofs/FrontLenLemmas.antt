-- The number of bytes before the body of a quoted literal.
use Rattle.rl_syntax.proofs.Common.{◌≡◌, ℕ, zero, suc, ◌+◌, ◌<◌, List, [], ◌∷◌, ◌++◌, length, replicate, refl, sym, ap, ◌∙◌, arith, append_assoc, encode_utf8_all, IsUtf8, encodes-append, encodes-chars, length-encode}
use Rattle.rl_lenient.proofs.Names.{Kind, Str, ByteStr, CStr, Byte, Char, Int, Float, BoolKind, opener, raw_opener, byte_len}
use Rattle.std.proofs.Common.{length-append}
use Rattle.std.specs.Str.{chars}
use Rattle.std.proofs.lemmas.Str.{len_utf8_ascii}
use Rattle.rl_lenient.specs.declared.quoted_forms.QuotedForm.{QuotedForm}
use Rattle.rl_lenient.specs.declared.quoted_forms.QuotedForm.TheVariants.{Cooked as CookedForm, Raw as RawForm, Single as SingleForm}
use Rattle.rl_lenient.specs.Mirrors.OpenerAt.{found_opener, opener_at}
use Rattle.rl_lenient.proofs.FormLemmas.{front_sound}

opener_long : (kind : Kind) → byte_len (opener kind) ≡ length (opener kind)
unfolding lib.Utf8.encode
opener_long Str = refl
opener_long ByteStr = refl
opener_long CStr = refl
opener_long Byte = refl
opener_long Char = refl
opener_long Int = refl
opener_long Float = refl
opener_long BoolKind = refl

raw_opener_long : (kind : Kind) → byte_len (raw_opener kind) ≡ length (raw_opener kind)
unfolding lib.Utf8.encode
raw_opener_long Str = refl
raw_opener_long ByteStr = refl
raw_opener_long CStr = refl
raw_opener_long Byte = refl
raw_opener_long Char = refl
raw_opener_long Int = refl
raw_opener_long Float = refl
raw_opener_long BoolKind = refl

pub byte_len_append : (a b : List ℕ) → byte_len (a ++ b) ≡ byte_len a + byte_len b
byte_len_append a b = ap length (encodes-append a b) ∙ length-append (encode_utf8_all a) (encode_utf8_all b)

pub byte_len_ascii : (c : ℕ) (cs : List ℕ) → c < 128 → byte_len (c ∷ cs) ≡ 1 + byte_len cs
byte_len_ascii c cs small = omega (
  arith,
  byte_len_append (c ∷ []) cs,
  length-append {A = ℕ},
  length-encode c,
  len_utf8_ascii c small,
)

pub hashes_long : (n : ℕ) → byte_len (replicate n 35) ≡ n
hashes_long zero = refl
hashes_long (suc n) = omega (arith, byte_len_ascii 35 (replicate n 35) (omega arith), hashes_long n)

-- The byte offset where an end of a text begins is the number of bytes of the text before it.
lo_of_cut : (front t opened : List ℕ) (lo : ℕ) → IsUtf8 t → IsUtf8 opened → chars t ≡ front ++ chars opened
    → lo + length opened ≡ length t → lo ≡ byte_len front
lo_of_cut front t opened lo ut uo e at =
    let whole : t ≡ encode_utf8_all front ++ opened = sym (encodes-chars t ut) ∙ ap encode_utf8_all e
    ∙ encodes-append front (chars opened) ∙ ap (λ z. encode_utf8_all front ++ z) (encodes-chars opened uo) in
    omega (arith, at, ap length whole, length-append (encode_utf8_all front) opened)

-- The body of a quoted literal that isn't raw begins after the bytes of its opening delimiter.
pub opener_lo : (form : QuotedForm) (kind : Kind) (t inside : List ℕ) (lo : ℕ) → (form ≡ RawForm → ⊥) → IsUtf8 t
    → IsUtf8 inside → opener_at (chars t) ≡ found_opener form kind (chars inside) → lo + length inside ≡ length t → lo
    ≡ length (opener kind)
opener_lo CookedForm kind t inside lo other u w front at = lo_of_cut (opener kind) t inside lo u w
    (front_sound (chars t) (CookedForm, kind, chars inside) front).text_is at ∙ opener_long kind
opener_lo SingleForm kind t inside lo other u w front at = lo_of_cut (opener kind) t inside lo u w
    (front_sound (chars t) (SingleForm, kind, chars inside) front).text_is at ∙ opener_long kind
opener_lo RawForm kind t inside lo other u w front at = absurd (other refl)

-- The body of a raw string begins after the bytes of its prefix, its hashes and its quote.
pub raw_lo : (kind : Kind) (t inside opened hashes rest : List ℕ) (n lo : ℕ) → IsUtf8 t → IsUtf8 opened
    → opener_at (chars t) ≡ found_opener RawForm kind (chars inside) → chars inside ≡ hashes ++ rest → rest
    ≡ 34 ∷ chars opened → hashes ≡ replicate n 35 → lo + length opened ≡ length t → lo
    ≡ length (raw_opener kind) + n + 1
raw_lo kind t inside opened hashes rest n lo u w front cut quote are at =
    let o = raw_opener kind in
    let text : chars t ≡ (o ++ (hashes ++ (34 ∷ []))) ++ chars opened =
    (front_sound (chars t) (RawForm, kind, chars inside) front).text_is
    ∙ ap (λ z. o ++ z) (cut ∙ ap (λ z. hashes ++ z) quote ∙ sym (append_assoc hashes (34 ∷ []) (chars opened)))
    ∙ sym (append_assoc o (hashes ++ (34 ∷ [])) (chars opened)) in
    omega (
      arith,
      lo_of_cut (o ++ (hashes ++ (34 ∷ []))) t opened lo u w text at,
      byte_len_append o
          (hashes ++ (34 ∷ [])),
      byte_len_append hashes (34 ∷ []),
      ap byte_len are,
      hashes_long n,
      byte_len_ascii 34 []
          (omega arith),
      raw_opener_long kind,
    )
