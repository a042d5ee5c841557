-- The value of a literal is never longer in bytes than the literal's text.
use Rattle.rl_syntax.proofs.Common.{◌≡◌, ℕ, Bool, true, false, not, cond, ◌||◌, ◌==◌, [], ◌∷◌, ◌+◌, ◌≤◌, List, ◌++◌, length, take, Some, refl, sym, ap, ◌∙◌, arith, encode_utf8_all, list_all, IsUtf8, encodes-append, encodes-chars, scalar, and_from, and_parts}
use Rattle.rl_lenient.proofs.Names.{float_digits, Kind, is_plain, texts, values}
use Rattle.std.proofs.Common.{map, filter, length-append}
use Rattle.std.specs.Str.{chars}
use Rattle.std.proofs.lemmas.List.{length-take-le}
use Rattle.std.proofs.lemmas.Str.{chars-encodes, scalars-chars}
use Rattle.std.proofs.Math.Utf8.{scalars}
use Rattle.rl_lenient.specs.declared.units.Piece.{Piece}
use Rattle.rl_lenient.specs.Decoded.{piece_bytes, in_bytes}
use Rattle.rl_lenient.specs.UnitRuns.{BeginsRun}
use Rattle.rl_lenient.specs.Mirrors.UnitAt.{piece_value, IsHeldBy, unit_at}
use Rattle.rl_lenient.proofs.BodyLemmas.{row_shrinks}
use Rattle.rl_lenient.proofs.ContentLemmas.{decode_run, decode_step}

-- `rest` is the part of a text that isn't decoded yet. The bytes that were decoded from the part before `rest`, and the
-- bytes of `rest`, are together at most as long as the text.
row_room : (kind : Kind) (text rest v bytes : List ℕ) → BeginsRun kind (chars text) v (chars rest) → bytes
    ≡ in_bytes kind v → IsUtf8 text → IsUtf8 rest → length bytes + length rest ≤ length text
row_room kind text rest v bytes row are ut ur =
    let passed = texts row.units in
    let shrinks = row_shrinks kind row.units row.each in
    let whole : text ≡ encode_utf8_all passed ++ rest = sym (encodes-chars text ut) ∙ ap encode_utf8_all row.text_is
    ∙ encodes-append passed (chars rest) ∙ ap (λ z. encode_utf8_all passed ++ z) (encodes-chars rest ur) in
    let longer : length text ≡ length (encode_utf8_all passed) + length rest = ap length whole
    ∙ length-append (encode_utf8_all passed) rest in
    let value : length bytes ≡ length (in_bytes kind (values kind row.units)) = ap length
    (are ∙ ap (in_bytes kind) row.value_is) in
    omega (arith, longer, value, shrinks.no_longer)

-- The decoder's buffer begins with the value of the characters and escapes before `rest`, the part of the text that isn't
-- decoded yet. The buffer has room for `rest`.
pub record IsFilled (kind : Kind) (text rest out : List ℕ) (at : ℕ) : Type 0 where
  pub value : List ℕ
  pub run : BeginsRun kind (chars text) value (chars rest)
  pub bytes : take at out ≡ in_bytes kind value
  pub room : at + length rest ≤ length text

filled : (kind : Kind) (text rest new bytes v : List ℕ) (end : ℕ) → BeginsRun kind (chars text) v (chars rest) → bytes
    ≡ in_bytes kind v → IsUtf8 text → IsUtf8 rest → end ≡ length bytes → take end new ≡ bytes
    → IsFilled kind text rest new end
filled kind text rest new bytes v end row are ut ur long is =
    record { value = v; run = row; bytes = is ∙ are; room = omega (arith, long, row_room kind text rest v bytes row are ut ur) }

pub run_room : (kind : Kind) (text rest out run following : List ℕ) (at : ℕ) → IsFilled kind text rest out at
    → chars rest ≡ chars run ++ chars following → list_all (is_plain kind) (chars run) ≡ true → IsUtf8 text → IsUtf8 run
    → IsUtf8 following → length text ≤ length out → at + length run + length following ≤ length text
run_room kind text rest out run following at f cut plain ut ur ub room =
    let (w, row, are) = decode_run kind (chars text) f.value (chars rest) (chars following) (take at out)
    (take at out ++ run) run f.run f.bytes cut plain ur refl in
    let long = length-take-le at out (omega (arith, f.room)) in
    omega (
      arith,
      row_room kind text following w (take at out ++ run) row are ut ub,
      length-append (take at out) run,
      long,
    )

pub run_filled : (kind : Kind) (text rest out new run following : List ℕ) (at end : ℕ) → IsFilled kind text rest out at
    → chars rest ≡ chars run ++ chars following → list_all (is_plain kind) (chars run) ≡ true → IsUtf8 text → IsUtf8 run
    → IsUtf8 following → length text ≤ length out → end ≡ at + length run → take end new ≡ take at out ++ run
    → IsFilled kind text following new end
run_filled kind text rest out new run following at end f cut plain ut ur ub room moved is =
    let (w, row, are) = decode_run kind (chars text) f.value (chars rest) (chars following) (take at out)
    (take at out ++ run) run f.run f.bytes cut plain ur refl in
    let long = length-take-le at out (omega (arith, f.room)) in
    filled kind text following new (take at out ++ run) w end row are ut ub
    (omega (arith, moved, length-append (take at out) run, long)) is

pub piece_room : (kind : Kind) (text rest out after : List ℕ) (at : ℕ) (piece : Piece) → IsFilled kind text rest out at
    → Some (piece_value kind piece, chars after) ≡ unit_at kind (chars rest) → IsHeldBy kind piece → IsUtf8 text
    → IsUtf8 after → length text ≤ length out → at + length (piece_bytes piece) + length after ≤ length text
piece_room kind text rest out after at piece f unit fits ut ua room =
    let (w, row, are) = decode_step kind (chars text) f.value (chars rest) (chars after) (take at out)
    (take at out ++ piece_bytes piece) piece f.run f.bytes unit fits refl in
    let long = length-take-le at out (omega (arith, f.room)) in
    omega (
      arith,
      row_room kind text after w (take at out ++ piece_bytes piece) row are ut ua,
      length-append
          (take at out) (piece_bytes piece),
      long,
    )

pub piece_filled : (kind : Kind) (text rest out new after : List ℕ) (at end : ℕ) (piece : Piece)
    → IsFilled kind text rest out at → Some (piece_value kind piece, chars after) ≡ unit_at kind (chars rest)
    → IsHeldBy kind piece → IsUtf8 text → IsUtf8 after → length text ≤ length out → end
    ≡ at + length (piece_bytes piece) → take end new ≡ take at out ++ piece_bytes piece
    → IsFilled kind text after new end
piece_filled kind text rest out new after at end piece f unit fits ut ua room moved is =
    let (w, row, are) = decode_step kind (chars text) f.value (chars rest) (chars after) (take at out)
    (take at out ++ piece_bytes piece) piece f.run f.bytes unit fits refl in
    let long = length-take-le at out (omega (arith, f.room)) in
    filled kind text after new (take at out ++ piece_bytes piece) w end row are ut ua
    (omega (arith, moved, length-append (take at out) (piece_bytes piece), long)) is

-- If the characters of a float's text are Unicode scalar values, the float's digits are too.
digits_scalars : (cs : List ℕ) → scalars cs ≡ true → scalars (float_digits cs) ≡ true
digits_scalars [] h = refl
digits_scalars (c ∷ cs) h =
    let parts = and_parts (scalar c) (scalars cs) h in
    kept (not (c == 95 || c == 43)) c cs parts.0 (digits_scalars cs parts.1)
  where
    lower : (b : Bool) (c : ℕ) → scalar c ≡ true → scalar (cond b 101 c) ≡ true
    lower true c h = refl
    lower false c h = h

    kept : (b : Bool) (c : ℕ) (cs : List ℕ) → scalar c ≡ true → scalars (float_digits cs) ≡ true
        → scalars (map (λ c. cond (c == 69) 101 c) (cond b (c ∷ filter (λ c. not (c == 95 || c == 43)) cs)
        (filter (λ c. not (c == 95 || c == 43)) cs))) ≡ true
    kept true c cs h more = and_from (scalar (cond (c == 69) 101 c)) (scalars (float_digits cs)) (lower (c == 69) c h)
        more
    kept false c cs h more = more

-- The bytes that are written for the digits of a float are UTF-8, and their characters are the digits.
pub digits_text : (numeral bytes : List ℕ) → IsUtf8 numeral → bytes ≡ encode_utf8_all (float_digits (chars numeral))
    → IsUtf8 bytes × (chars bytes ≡ float_digits (chars numeral))
digits_text numeral bytes u e =
    let whole = digits_scalars (chars numeral) (scalars-chars numeral u) in
    ((float_digits (chars numeral), (whole, sym e)), ap chars e ∙ chars-encodes (float_digits (chars numeral)) whole)
