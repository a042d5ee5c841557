-- The code that decodes a quoted literal writes the bytes of the literal's value.
use Rattle.rl_syntax.proofs.Common.{◌≡◌, ℕ, ◌<◌, ◌||◌, Bool, true, false, not, cond, ltb, List, [], ◌∷◌, ◌++◌, length, Some, refl, sym, ap, subst, ◌∙◌, arith, append-nil, encode_utf8, encode_utf8_all, AllByRecursion, list_all, IsUtf8, scalar, and_from, and_parts, lt-ltb, ltb-true, encodes-append, encodes-chars, length-encode}
use Rattle.rl_lenient.proofs.Names.{Kind, Str, Char, QuotedUnit, Letter, Plain, CrLf, Named, Hex, Unicode, Continuation, LowerN, LowerR, LowerT, Backslash, Apostrophe, Quote, Zero, letter_value, unit_text, unit_value, hex_value, unicode_value, content_of, decodes_to_chars, is_string, is_single, is_plain, allows_unicode_escapes, IsUnit, texts, values, Characters}
use Rattle.std.specs.Char.{len_utf8}
use Rattle.std.specs.Str.{chars}
use Rattle.std.proofs.Math.Utf8.{scalars}
use Rattle.std.proofs.lemmas.Str.{chars-encodes, encode_ascii, scalars-chars}
use Rattle.rl_syntax.specs.declared.kind.Kind.TheVariants.{Byte as ByteKind}
use Rattle.rl_syntax.proofs.Basics.{scalars_parts}
use Rattle.rl_lenient.specs.declared.quoted_forms.QuotedForm.{QuotedForm}
use Rattle.rl_lenient.specs.declared.quoted_forms.QuotedForm.TheVariants.{Cooked as CookedForm, Raw as RawForm, Single as SingleForm}
use Rattle.rl_lenient.specs.declared.units.Piece.{Piece}
use Rattle.rl_lenient.specs.declared.units.Piece.TheVariants.{Character, Byte, Nothing}
use Rattle.rl_lenient.specs.Mirrors.UnitAt.{piece_value, IsHeldBy, unit_at}
use Rattle.rl_lenient.specs.UnitRuns.{BeginsRun}
use Rattle.rl_lenient.specs.Forms.{PartsAre, is_plain_body}
use Rattle.rl_lenient.specs.Decoded.{piece_bytes, in_bytes, HoldsBytes}
use Rattle.rl_lenient.specs.Mirrors.Decodes.{Decodes}
use Rattle.rl_lenient.proofs.UnitLemmas.{unit_nil}
use Rattle.rl_lenient.proofs.RowLemmas.{row_start, row_step, row_run, row_once}
use Rattle.rl_lenient.proofs.FormLemmas.{Formed, formed, parts_formed, formed_once, not_both, string_parts, cooked_row_of_body, parts_read}

-- ---- values as bytes

pub in_bytes_append : (kind : Kind) (v w : List ℕ) → in_bytes kind (v ++ w) ≡ in_bytes kind v ++ in_bytes kind w
in_bytes_append kind v w = go (decodes_to_chars kind)
  where
    go : (b : Bool) → cond b (encode_utf8_all (v ++ w)) (v ++ w) ≡ cond b (encode_utf8_all v) v
        ++ cond b (encode_utf8_all w) w
    go true = encodes-append v w
    go false = refl

-- The value of characters, written as bytes, is their UTF-8 encoding, in literals of every kind.
pub held_in_bytes : (kind : Kind) (cs : List ℕ) → in_bytes kind (content_of kind cs) ≡ encode_utf8_all cs
held_in_bytes kind cs = go (decodes_to_chars kind)
  where
    go : (b : Bool) → cond b (encode_utf8_all (cond b cs (encode_utf8_all cs))) (cond b cs (encode_utf8_all cs))
        ≡ encode_utf8_all cs
    go true = refl
    go false = refl

-- An ASCII character is one byte.
pub ascii_byte : (c : ℕ) → c < 128 → encode_utf8_all (c ∷ []) ≡ c ∷ []
ascii_byte c small = append-nil (encode_utf8 c) ∙ encode_ascii c small

pub byte_in_bytes : (kind : Kind) (n : ℕ) → IsHeldBy kind (Byte n) → in_bytes kind (n ∷ []) ≡ n ∷ []
byte_in_bytes kind n h = go (decodes_to_chars kind) h
  where
    go : (b : Bool) → (not b || ltb n 128) ≡ true → cond b (encode_utf8_all (n ∷ [])) (n ∷ []) ≡ n ∷ []
    go true e = ascii_byte n (ltb-true n 128 e)
    go false e = refl

pub nothing_in_bytes : (kind : Kind) → in_bytes kind [] ≡ []
nothing_in_bytes kind = go (decodes_to_chars kind)
  where
    go : (b : Bool) → cond b (encode_utf8_all []) [] ≡ []
    go true = refl
    go false = refl

pub piece_in_bytes : (kind : Kind) (p : Piece) → IsHeldBy kind p → in_bytes kind (piece_value kind p) ≡ piece_bytes p
piece_in_bytes kind (Character c) h = held_in_bytes kind (c ∷ []) ∙ append-nil (encode_utf8 c)
piece_in_bytes kind (Byte n) h = byte_in_bytes kind n h
piece_in_bytes kind Nothing h = nothing_in_bytes kind

-- ---- the decoder's loop

pub decode_step : (kind : Kind) (a v b after bytes more : List ℕ) (piece : Piece) → BeginsRun kind a v b → bytes
    ≡ in_bytes kind v → Some (piece_value kind piece, after) ≡ unit_at kind b → IsHeldBy kind piece → more ≡ bytes
    ++ piece_bytes piece → (w : List ℕ) × BeginsRun kind a w after × (more ≡ in_bytes kind w)
decode_step kind a v b after bytes more piece row so_far unit fits grown = (
  v ++ piece_value kind piece,
  row_step kind a v b (piece_value kind piece, after) row (sym unit),
  grown ∙ ap (λ z. z ++ piece_bytes piece) so_far ∙ ap (λ z. in_bytes kind v ++ z)
      (sym (piece_in_bytes kind piece fits)) ∙ sym (in_bytes_append kind v (piece_value kind piece)),
)

-- A sequence of plain characters adds its own bytes to the decoded value.
pub decode_run : (kind : Kind) (a v b after bytes more run : List ℕ) → BeginsRun kind a v b → bytes ≡ in_bytes kind v
    → b ≡ chars run ++ after → list_all (is_plain kind) (chars run) ≡ true → IsUtf8 run → more ≡ bytes ++ run
    → (w : List ℕ) × BeginsRun kind a w after × (more ≡ in_bytes kind w)
decode_run kind a v b after bytes more run row so_far cut plain text grown = (
  v ++ content_of kind (chars run),
  row_run kind a v (chars run) after plain (subst (BeginsRun kind a v) cut row),
  grown ∙ ap (λ z. z ++ run) so_far ∙ ap (λ z. in_bytes kind v ++ z)
      (sym (held_in_bytes kind (chars run) ∙ encodes-chars run text))
      ∙ sym (in_bytes_append kind v (content_of kind (chars run))),
)

-- ---- the bytes of a string's value

-- If bytes are a quoted literal's value by one of its parse results, they are its value by each of its parse results.
same_bytes : (t : List ℕ) (kind : Kind) (w y bytes : List ℕ) → Formed t kind w y → bytes ≡ in_bytes kind w
    → HoldsBytes t bytes
same_bytes t kind w y bytes r e k v x s p =
    let same = formed_once t kind k w p.value y x r (formed t k v x p) in
    e ∙ ap (λ l. in_bytes l w) same.0 ∙ ap (in_bytes k) same.1

-- The value of a raw string is its body.
pub raw_bytes : (t : List ℕ) (form : QuotedForm) (kind : Kind) (w body y : List ℕ) → form ≡ RawForm → IsUtf8 body
    → PartsAre form kind t w (chars body) y → HoldsBytes t body
raw_bytes t form kind w body y raw u p =
    let r : PartsAre RawForm kind t w (chars body) y = subst (λ f. PartsAre f kind t w (chars body) y) raw p in
    let bytes : body ≡ in_bytes kind w = sym (encodes-chars body u) ∙ ap encode_utf8_all r.1
    ∙ sym (held_in_bytes kind r.0.inside) ∙ ap (in_bytes kind) (sym r.0.value_is) in
    same_bytes t kind w y body (parts_formed RawForm kind t w (chars body) y r) bytes

-- The value of a string of plain characters is its body.
pub plain_bytes : (t : List ℕ) (form : QuotedForm) (kind : Kind) (w body y : List ℕ)
    → is_plain_body form kind (chars body) ≡ true → IsUtf8 body → PartsAre form kind t w (chars body) y
    → HoldsBytes t body
plain_bytes t RawForm kind w body y h u p = raw_bytes t RawForm kind w body y refl u p
plain_bytes t SingleForm kind w body y h u p = absurd (cc)
plain_bytes t CookedForm kind w body y h u p =
    let cs = chars body in
    let start = subst (BeginsRun kind cs []) (sym (append-nil cs)) (row_start kind cs) in
    let value : w ≡ content_of kind cs = (row_once kind cs w [] (content_of kind cs) []
    (cooked_row_of_body kind t w cs y p) (row_run kind cs [] cs [] h start) (unit_nil kind) (unit_nil kind)).0 in
    let bytes : body ≡ in_bytes kind w = sym (encodes-chars body u) ∙ sym (held_in_bytes kind cs)
    ∙ ap (in_bytes kind) (sym value) in
    same_bytes t kind w y body (parts_formed CookedForm kind t w cs y p) bytes

pub not_raw : (form : QuotedForm) (kind : Kind) (body : List ℕ) → is_plain_body form kind body ≡ false → form ≡ RawForm
    → ⊥
not_raw RawForm kind body h e = absurd (cc)
not_raw CookedForm kind body h e = absurd (cc)
not_raw SingleForm kind body h e = absurd (cc)

-- The value of a string with escapes is the decoded body.
pub cooked_bytes : (t : List ℕ) (form : QuotedForm) (kind : Kind) (w body y bytes : List ℕ) → (form ≡ RawForm → ⊥)
    → PartsAre form kind t w body y → Decodes kind body bytes → HoldsBytes t bytes
cooked_bytes t form kind w body y bytes not_raw p d k v x s r =
    let formed_p = parts_formed form kind t w body y p in
    let same = formed_once t kind k w r.value y x formed_p (formed t k v x r) in
    let string : is_string kind ≡ true = ap is_string same.0 ∙ s in
    let row = cooked_row_of_body kind t w body y (string_parts form kind t w body y string not_raw p) in
    let value = row_once kind body d.value d.rest w [] d.run row d.stuck (unit_nil kind) in
    same_bytes t kind w y bytes formed_p (d.bytes_are ∙ ap (in_bytes kind) value.0) k v x s r

-- ---- the characters of a string

scalars_join : (a b : List ℕ) → scalars a ≡ true → scalars b ≡ true → scalars (a ++ b) ≡ true
scalars_join [] b h k = k
scalars_join (c ∷ a) b h k =
    let first = and_parts (scalar c) (scalars a) h in
    and_from (scalar c) (scalars (a ++ b)) first.0 (scalars_join a b first.1 k)

ascii_scalar : (n : ℕ) → n < 128 → scalar n ≡ true
ascii_scalar n h =
    let low : ltb n 55296 ≡ true = lt-ltb n 55296 (omega arith) in
    rw low refl

pub one_scalar : (n : ℕ) → scalar n ≡ true → scalars (n ∷ []) ≡ true
one_scalar n h = and_from (scalar n) true h refl

letter_scalar : (l : Letter) → scalar (letter_value l) ≡ true
letter_scalar LowerN = refl
letter_scalar LowerR = refl
letter_scalar LowerT = refl
letter_scalar Backslash = refl
letter_scalar Apostrophe = refl
letter_scalar Quote = refl
letter_scalar Zero = refl

unit_scalars : (u : QuotedUnit) → IsUnit Str u → scalars (unit_text u) ≡ true → scalars (unit_value Str u) ≡ true
unit_scalars (Plain c) allowed h = h
unit_scalars CrLf allowed h = refl
unit_scalars (Named l) allowed h = one_scalar (letter_value l) (letter_scalar l)
unit_scalars (Hex high low) allowed h = one_scalar (hex_value high low)
    (ascii_scalar (hex_value high low) (ltb-true (hex_value high low) 128 allowed.2))
unit_scalars (Unicode first more) allowed h = one_scalar (unicode_value first more) allowed.4
unit_scalars (Continuation c run) allowed h = refl

row_scalars : (us : List QuotedUnit) → AllByRecursion (IsUnit Str) us → scalars (texts us) ≡ true
    → scalars (values Str us) ≡ true
row_scalars [] each h = refl
row_scalars (u ∷ us) each h =
    let parts = scalars_parts (unit_text u) (texts us) h in
    scalars_join (unit_value Str u) (values Str us) (unit_scalars u each.0 parts.0) (row_scalars us each.1 parts.1)

-- If a body of a `str` literal consists of Unicode scalar values, the literal's value does too.
body_scalars : (form : QuotedForm) (t w body x : List ℕ) → PartsAre form Str t w body x → scalars body ≡ true
    → scalars w ≡ true
body_scalars CookedForm t w body x p h = ap scalars p.0.value_is
    ∙ row_scalars p.0.units p.0.each (ap scalars (sym p.1) ∙ h)
body_scalars RawForm t w body x p h = ap scalars (p.0.value_is ∙ sym p.1) ∙ h
body_scalars SingleForm t w body x p h = let single : false ≡ true = p.0.single in absurd (cc)

-- The bytes of a `str` literal's value are UTF-8, and their characters are the value.
pub str_bytes : (form : QuotedForm) (t w body x bytes : List ℕ) → PartsAre form Str t w (chars body) x → IsUtf8 body
    → HoldsBytes t bytes → IsUtf8 bytes × (w ≡ chars bytes)
str_bytes form t w body x bytes parts u held_are =
    let whole = body_scalars form t w (chars body) x parts (scalars-chars body u) in
    let r = parts_read form Str t w (chars body) x parts in
    let same : r.value ≡ w = (let e = r.contents_is in cc) in
    let are : bytes ≡ encode_utf8_all w = held_are Str (Characters w) x refl r ∙ ap encode_utf8_all same in
    ((w, (whole, sym are)), sym (chars-encodes w whole) ∙ ap chars (sym are))

-- ---- characters and bytes

-- The value of a plain character in a character or byte literal is one number.
one_plain : (kind : Kind) (c : ℕ) → is_single kind ≡ true → is_plain kind c ≡ true → (n : ℕ)
    × (content_of kind (c ∷ []) ≡ n ∷ [])
one_plain Char c s h = (c, refl)
one_plain ByteKind c s h = (c, ascii_byte c (ltb-true c 128 (and_parts (ltb c 128) _ h).0))
one_plain kind c s h = absurd (cc)

one_unicode : (kind : Kind) (c : ℕ) → is_single kind ≡ true → allows_unicode_escapes kind ≡ true → (n : ℕ)
    × (content_of kind (c ∷ []) ≡ n ∷ [])
one_unicode Char c s h = (c, refl)
one_unicode kind c s h = absurd (cc)

pub one_value : (kind : Kind) (u : QuotedUnit) → is_single kind ≡ true → IsUnit kind u → (n : ℕ)
    × (unit_value kind u ≡ n ∷ [])
one_value kind (Plain c) s h = one_plain kind c s h
one_value kind CrLf s h = absurd (not_both kind h s)
one_value kind (Named l) s h = (letter_value l, refl)
one_value kind (Hex high low) s h = (hex_value high low, refl)
one_value kind (Unicode first more) s h = one_unicode kind (unicode_value first more) s h.0
one_value kind (Continuation c run) s h = absurd (not_both kind h.0 s)

two_or_more : (a b : Bool) → ◌≡◌ {A = ℕ} (cond a 2 (cond b 3 4)) 1 → ⊥
two_or_more true b e = absurd (cc)
two_or_more false true e = absurd (cc)
two_or_more false false e = absurd (cc)

-- A character of one byte is ASCII.
pub one_byte : (c n : ℕ) → encode_utf8_all (c ∷ []) ≡ n ∷ [] → c < 128
one_byte c n e =
    let long : len_utf8 c ≡ 1 = sym (length-encode c) ∙ ap length (sym (append-nil (encode_utf8 c)) ∙ e) in
    go (ltb c 128) refl long
  where
    go : (b : Bool) → ltb c 128 ≡ b → len_utf8 c ≡ 1 → c < 128
    go true is long = ltb-true c 128 is
    go false is long = absurd (two_or_more (ltb c 2048) (ltb c 65536) (rw is at long))
