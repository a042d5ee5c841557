-- Lemmas about texts with escapes for invisible characters.
use Rattle.std.proofs.Common.{◌≡◌, ℕ, List, [], ◌∷◌, ◌++◌, ap, ◌∙◌, sym, append_assoc, append-nil, encode_utf8_all, Bool, true, false, ◌||◌, ◌<◌, arith, cond, nat_le, ◌==◌, refl, take, drop, take-append-drop}
use Rattle.std.specs.Str.{chars, IsUtf8, IsAscii}
use Rattle.std.specs.List.{flat_map, list_all}
use Rattle.std.proofs.lemmas.Bool.Decides.{nat_tests}
use Rattle.std.proofs.lemmas.Bool.{and_parts}
use Rattle.std.specs.Char.{is_control}
use Rattle.rl_files.specs.Visible.{is_invisible_or_bidi, visible_char, visible_in_line, visible_lines, visible, is_printable_byte, is_plain_byte}
use Rattle.std.proofs.lemmas.Grind.{flat_map-append}
use Rattle.std.proofs.lemmas.Str.{encodes-append, encodes-chars, chars_from_encodes, chars-append, chars-nil, chars-IsAscii}
use Rattle.std.proofs.lemmas.Str.Ascii.{IsAscii-nil, IsAscii-cons}

-- The invariant of a loop that writes the characters of a text by the function `f` holds again after one more
-- character.
pub written_more : (f : ℕ → List ℕ) (first old new done : List ℕ) (c : ℕ) → old ≡ first
    ++ encode_utf8_all (flat_map f done)
    → new ≡ old ++ encode_utf8_all (f c) → new ≡ first ++ encode_utf8_all (flat_map f (done ++ c ∷ []))
written_more f first old new done c before now =
    now ∙ ap (λ (z : List ℕ). z ++ encode_utf8_all (f c)) before
    ∙ append_assoc first (encode_utf8_all (flat_map f done)) (encode_utf8_all (f c))
    ∙ ap (λ (z : List ℕ). first ++ z) (sym (encodes-append (flat_map f done) (f c)))
    ∙ ap (λ (z : List ℕ). first ++ encode_utf8_all z)
    (ap (λ (z : List ℕ). flat_map f done ++ z) (sym (append-nil (f c))) ∙ sym (flat_map-append f done (c ∷ [])))

-- If the UTF-8 encoding of a piece is appended to a text, the characters of the piece are appended to those of the text.
pub chars_written : (old new piece : List ℕ) → IsUtf8 old → IsUtf8 new → new ≡ old ++ encode_utf8_all piece
    → chars new ≡ chars old ++ piece
chars_written old new piece u v e =
    sym (chars_from_encodes (chars old ++ piece) new v (encodes-append (chars old) piece
    ∙ ap (λ (z : List ℕ). z ++ encode_utf8_all piece) (encodes-chars old u) ∙ sym e))

-- Characters below 127 are neither invisible nor bidirectional.
low_not_hiding : (c : ℕ) → c < 127 → is_invisible_or_bidi c ≡ false
low_not_hiding c h = grind (arith, nat_tests)

not_control : (c : ℕ) → nat_le 32 c ≡ true → c < 127 → is_control c ≡ false
not_control c low high = grind (arith, nat_tests)

-- A byte that is printable ASCII needs no escape.
printable_byte : (b : ℕ) → is_printable_byte b ≡ true → visible_char b ≡ b ∷ []
printable_byte b h =
    let parts = and_parts _ _ h in
    let high : b < 127 = grind (arith, nat_tests, parts.1) in
    rw (not_control b parts.0 high, low_not_hiding b high) refl

-- A byte that is printable ASCII or LF is unchanged in a line of output.
plain_byte : (b : ℕ) → is_plain_byte b ≡ true → visible_in_line b ≡ b ∷ []
plain_byte b h = go (b == 10) h
  where
    go : (t : Bool) → (t || is_printable_byte b) ≡ true → cond t (b ∷ []) (visible_char b) ≡ b ∷ []
    go true k = refl
    go false k = printable_byte b k

plain_is_ascii : (b : ℕ) → is_plain_byte b ≡ true → b < 128
plain_is_ascii b h = grind (arith, nat_tests)

printable_is_ascii : (b : ℕ) → is_printable_byte b ≡ true → b < 128
printable_is_ascii b h = grind (arith, nat_tests)

-- If the function `f` writes each ASCII byte of a list unchanged, it writes the list unchanged.
unchanged : (test : ℕ → Bool) (f : ℕ → List ℕ) → ((b : ℕ) → test b ≡ true → (f b ≡ b ∷ []) × (b < 128))
    → (bs : List ℕ) → list_all test bs ≡ true → (flat_map f bs ≡ bs) × IsAscii bs
unchanged test f one [] h = (refl, IsAscii-nil)
unchanged test f one (b ∷ bs) h =
    let parts = and_parts _ _ h in
    let first = one b parts.0 in
    let rest = unchanged test f one bs parts.1 in (
      ap (λ (z : List ℕ). z ++ flat_map f bs) first.0 ∙ ap (λ (z : List ℕ). b ∷ z) rest.0,
      IsAscii-cons b bs first.1 rest.1,
    )

-- A text of printable ASCII is unchanged in output.
pub printable_text : (bs : List ℕ) → list_all is_printable_byte bs ≡ true → (visible bs ≡ bs) × IsAscii bs
printable_text bs h = unchanged is_printable_byte visible_char (λ b p. (printable_byte b p, printable_is_ascii b p)) bs h

-- Bytes that are printable ASCII or LF are unchanged in lines of output.
plain_lines : (bs : List ℕ) → list_all is_plain_byte bs ≡ true → (visible_lines bs ≡ bs) × IsAscii bs
plain_lines bs h = unchanged is_plain_byte visible_in_line (λ b p. (plain_byte b p, plain_is_ascii b p)) bs h

-- If the function `f` writes a text of ASCII characters unchanged, appending the text appends what `f` writes.
pub appended : (f : List ℕ → List ℕ) (old new text : List ℕ) → IsUtf8 old → new ≡ old ++ text → (f text ≡ text) × IsAscii text
    → chars new ≡ chars old ++ f (chars text)
appended f old new text utf8 is same = ap chars is ∙ chars-append old text utf8
    ∙ ap (λ (z : List ℕ). chars old ++ z) (chars-IsAscii text same.1 ∙ sym same.0
    ∙ ap f (sym (chars-IsAscii text same.1)))

-- Lines at the end of a text that need no escapes are unchanged.
pub plain_end : (text : List ℕ) (from : ℕ) → IsUtf8 (take from text) → list_all is_plain_byte (drop from text) ≡ true
    → chars text ≡ chars (take from text) ++ visible_lines (chars (drop from text))
plain_end text from utf8 plain = appended visible_lines (take from text) text (drop from text) utf8
    (sym (take-append-drop from text)) (plain_lines (drop from text) plain)

-- A piece that is appended to the empty text is the whole text.
pub from_nothing : (old new piece : List ℕ) → old ≡ [] → chars new ≡ chars old ++ piece → chars new ≡ piece
from_nothing old new piece none e = e ∙ ap (λ (z : List ℕ). chars z ++ piece) none
    ∙ ap (λ (z : List ℕ). z ++ piece) chars-nil
