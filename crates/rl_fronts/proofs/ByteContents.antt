-- Lemmas about the decoded values of byte strings and C strings, and about C strings that are created from bytes.
use Rattle.rl_lenient.proofs.Names.{ByteStr, Bytes, CStr, HasContents, Kind}
use Rattle.rl_syntax.proofs.Common.{Bool, Err, IsUtf8, List, Ok, Result, Some, chars, refl, sym, true, ℕ, ◌∙◌, ◌≡◌, ◌⊎◌}
use Rattle.std.specs.Prelude.{IfErr, position}
use Rattle.std.specs.Result.{IsOk}
use Rattle.rl_syntax.specs.Agreeing.{has_no_zero, is_zero}
use Rattle.rl_tokens.proofs.CStringLemmas.{zero_is_found}
use Rattle.rl_syntax.proofs.CStringContents.{c_string_no_zero}
use Rattle.rl_lenient.specs.Bodies.{HasBody}
use Rattle.rl_lenient.proofs.BodyContents.{bytes_of_has}
use Rattle.rl_lenient.proofs.ContentLemmas.{plain_bytes}

-- The decoded value of a C string literal contains no zero.
pub no_zero_of : (text bytes : List ℕ) → HasContents CStr text (Bytes bytes) → has_no_zero bytes ≡ true
no_zero_of text bytes r = c_string_no_zero text bytes r.0 r.1

-- If bytes contain no zero, `CString::new` returns a C string.
pub is_made : {S E : Type 0} (r : Result S E) (bytes : List ℕ) (place : E → ℕ) → has_no_zero bytes ≡ true
    → IfErr r (λ e. position is_zero bytes ≡ Some (place e)) → IsOk r
is_made (Ok s) bytes place none first = refl
is_made (Err e) bytes place none first = absurd (zero_is_found bytes (place e) none first)

-- If the parse result of a byte string or C string literal has the flag `plain`, the literal's decoded value is the
-- text between its quotes.
pub plain_contents_bytes : (kind : Kind) (t body : List ℕ) (plain : Bool) → (kind ≡ ByteStr) ⊎ (kind ≡ CStr) → plain
    ≡ true → HasBody kind (chars t) body plain → IsUtf8 body → HasContents kind (chars t) (Bytes body)
plain_contents_bytes kind t body plain which is has u =
    bytes_of_has kind (chars t) body body plain which has (plain_bytes (chars t) has.form kind has.value body has.suffix
    (sym has.plain_is ∙ is) u has.parts)
