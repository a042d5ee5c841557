-- The segment values of escapes, CR LF and escaped line ends. The characters and escapes of a segment have only one segment
-- value.
use Rattle.rl_syntax.proofs.Common.{◌≡◌, ◌==◌, ℕ, ◌||◌, Bool, true, false, not, cond, ltb, List, [], ◌∷◌, ◌++◌, refl, sym, ap, subst, ◌∙◌, both_ways, encode_utf8_all, eqb-true, ltb-true, or_cases}
use Rattle.rl_lenient.proofs.Names.{IsScalar, Kind, QuotedUnit, Plain, CrLf, Named, Hex, Unicode, Continuation, LowerN, LowerR, LowerT, Backslash, Apostrophe, Quote, Zero, letter_value, hex_value, unicode_value, unit_text, unit_value, content_of, decodes_to_chars, is_line_end, IsUnit}
use Rattle.std.proofs.Common.{inl, inr, map}
use Rattle.std.specs.Str.{chars}
use Rattle.std.proofs.lemmas.Str.{chars-encodes, encode_ascii}
use denote.Ref.{Bor}
use Rattle.rl_cursors.specs.declared.segments.SegmentValue.{SegmentValue}
use Rattle.rl_cursors.specs.declared.segments.SegmentValue.TheVariants.{Text, Char, Byte, Nothing}
use Rattle.rl_lenient.specs.declared.units.Piece.{Piece}
use Rattle.rl_lenient.specs.declared.units.Piece.TheVariants.{Character, Byte as BytePiece, Nothing as NothingPiece}
use Rattle.rl_lenient.specs.Decoded.{piece_bytes}
use Rattle.rl_cursors.specs.Mirrors.SegmentAt.{piece_segment}
use Rattle.rl_lenient.specs.Mirrors.UnitAt.{is_character, is_character_at, piece_value, IsHeldBy}
use Rattle.rl_cursors.specs.SegmentLaws.{AreOneSegment, IsSameValue}
use Rattle.rl_cursors.specs.Segments.{is_itself, number_segment, unit_segment, value_bytes, IsOtherUnit, IsSegmentOf}
use Rattle.rl_lenient.proofs.ContentLemmas.{one_scalar}
use Rattle.rl_lenient.proofs.UnitLemmas.{quote_and_return}

-- ---- the value of a character or escape as a segment

number_bytes : (b : Bool) (n : ℕ) → (not b || ltb n 128) ≡ true → value_bytes (cond b (Char n) (Byte n)) ≡ n ∷ []
number_bytes true n h = encode_ascii n (ltb-true n 128 h)
number_bytes false n h = refl

pub segment_bytes : (kind : Kind) (p : Piece) → IsHeldBy kind p → value_bytes (piece_segment kind p) ≡ piece_bytes p
segment_bytes kind (Character c) h = refl
segment_bytes kind (BytePiece b) h = number_bytes (decodes_to_chars kind) b h
segment_bytes kind NothingPiece h = refl

-- ---- the parsed value of a character or escape

-- Whether an escape is `\u{..}`, whose value is a character in literals of every kind.
abbrev is_unicode : QuotedUnit → Bool
is_unicode (Unicode first more) = true
is_unicode _ = false

no_line_end : (c : ℕ) → is_line_end c ≡ true → (c == 117) ≡ false
no_line_end c h = elim (or_cases (c == 10) (c == 13) h) [
  | inl a ↦ subst (λ (x : ℕ). (x == 117) ≡ false) (sym (eqb-true c 10 a)) refl
  | inr a ↦ subst (λ (x : ℕ). (x == 117) ≡ false) (sym (eqb-true c 13 a)) refl
]

character_named : (kind : Kind) (u : QuotedUnit) (b : List ℕ) → IsUnit kind u → is_itself u ≡ false
    → is_character_at kind (unit_text u ++ b) ≡ is_unicode u
character_named kind (Plain c) b allowed other = absurd (cc)
character_named kind CrLf b allowed other = (quote_and_return kind allowed).1
character_named kind (Named LowerN) b allowed other = refl
character_named kind (Named LowerR) b allowed other = refl
character_named kind (Named LowerT) b allowed other = refl
character_named kind (Named Backslash) b allowed other = refl
character_named kind (Named Apostrophe) b allowed other = refl
character_named kind (Named Quote) b allowed other = refl
character_named kind (Named Zero) b allowed other = refl
character_named kind (Hex high low) b allowed other = refl
character_named kind (Unicode first more) b allowed other = refl
character_named kind (Continuation c run) b allowed other = no_line_end c allowed.1

-- If two characters have equal values in literals of a kind, the characters are equal.
one_content : (kind : Kind) (n c : ℕ) → IsScalar n → IsScalar c → content_of kind (n ∷ []) ≡ content_of kind (c ∷ [])
    → n ≡ c
one_content kind n c s t e = go (decodes_to_chars kind) e
  where
    go : (b : Bool) → cond b (n ∷ []) (encode_utf8_all (n ∷ [])) ≡ cond b (c ∷ []) (encode_utf8_all (c ∷ [])) → n ≡ c
    go true e = cc
    go false e =
        let same : n ∷ [] ≡ c ∷ [] = sym (chars-encodes (n ∷ []) (one_scalar n s)) ∙ ap chars e
        ∙ chars-encodes (c ∷ []) (one_scalar c t) in
        cc

number_piece : (kind : Kind) (p : Piece) (n : ℕ) → n ∷ [] ≡ piece_value kind p → is_character p ≡ false
    → piece_segment kind p ≡ number_segment kind n
number_piece kind (Character c) n e named = absurd (cc)
number_piece kind (BytePiece b) n e named = let same : b ≡ n = cc in ap (number_segment kind) same
number_piece kind NothingPiece n e named = absurd (cc)

unicode_piece : (kind : Kind) (p : Piece) (n : ℕ) → IsHeldBy kind p → IsScalar n → content_of kind (n ∷ [])
    ≡ piece_value kind p → is_character p ≡ true → piece_segment kind p ≡ Char n
unicode_piece kind (Character c) n held scalar e named = ap Char (sym (one_content kind n c scalar held e))
unicode_piece kind (BytePiece b) n held scalar e named = absurd (cc)
unicode_piece kind NothingPiece n held scalar e named = absurd (cc)

no_piece : (kind : Kind) (p : Piece) → [] ≡ piece_value kind p → is_character p ≡ false → piece_segment kind p ≡ Nothing
no_piece kind (Character c) e named = absurd (cc)
no_piece kind (BytePiece b) e named = absurd (cc)
no_piece kind NothingPiece e named = refl

piece_as_unit : (kind : Kind) (p : Piece) (u : QuotedUnit) → IsHeldBy kind p → IsUnit kind u → is_itself u ≡ false
    → unit_value kind u ≡ piece_value kind p → is_character p ≡ is_unicode u → piece_segment kind p
    ≡ unit_segment kind u
piece_as_unit kind p (Plain c) held allowed other e named = absurd (cc)
piece_as_unit kind p CrLf held allowed other e named = number_piece kind p 10 e named
piece_as_unit kind p (Named l) held allowed other e named = number_piece kind p (letter_value l) e named
piece_as_unit kind p (Hex high low) held allowed other e named = number_piece kind p (hex_value high low) e named
piece_as_unit kind p (Unicode first more) held allowed other e named = unicode_piece kind p (unicode_value first more)
    held allowed.4 e named
piece_as_unit kind p (Continuation c run) held allowed other e named = no_piece kind p e named

-- The code's value of an escape or line end at the start of a text, as the value of a segment, is the segment value by the
-- definitions.
pub piece_in_front : (kind : Kind) (p : Piece) (u : QuotedUnit) (t b : List ℕ) → IsHeldBy kind p → IsUnit kind u
    → is_itself u ≡ false → t ≡ unit_text u ++ b → piece_value kind p ≡ unit_value kind u
    → is_character p ≡ is_character_at kind t → piece_segment kind p ≡ unit_segment kind u
piece_in_front kind p u t b held allowed other text value named = piece_as_unit kind p u held allowed other (sym value)
    (named ∙ ap (is_character_at kind) text ∙ character_named kind u b allowed other)

-- ---- one segment at most

text_is_itself : (cs : List ℕ) (u : QuotedUnit) → map Plain cs ≡ u ∷ [] → is_itself u ≡ false → ⊥
text_is_itself [] u e other = absurd (cc)
text_is_itself (c ∷ cs) u e other = let same : Plain c ≡ u = cc in both_ways (is_itself u) other
    (sym (ap is_itself same))

other_is_no_text : (kind : Kind) (cs : List ℕ) (v : SegmentValue) (units : List QuotedUnit) → units ≡ map Plain cs
    → IsOtherUnit kind v units → ⊥
other_is_no_text kind cs v units are o = text_is_itself cs o.unit (sym are ∙ o.are) o.other

one_other : (kind : Kind) (v w : SegmentValue) (units : List QuotedUnit) → IsOtherUnit kind v units
    → IsOtherUnit kind w units → v ≡ w
one_other kind v w units o p =
    let both : o.unit ∷ [] ≡ p.unit ∷ [] = sym o.are ∙ p.are in
    let same : o.unit ≡ p.unit = cc in
    o.value_is ∙ ap (unit_segment kind) same ∙ sym p.value_is

after_text : (kind : Kind) (run : Bor (List ℕ)) (w : SegmentValue) (units : List QuotedUnit)
    → IsSegmentOf kind (Text run) units → IsSegmentOf kind w units → IsSameValue (Text run) w
after_text kind run (Text other) units s t = s.bytes_are ∙ sym t.bytes_are
after_text kind run (Char c) units s t = absurd (other_is_no_text kind (chars run.now) (Char c) units s.are t.are)
after_text kind run (Byte b) units s t = absurd (other_is_no_text kind (chars run.now) (Byte b) units s.are t.are)
after_text kind run Nothing units s t = absurd (other_is_no_text kind (chars run.now) Nothing units s.are t.are)

after_other : (kind : Kind) (v w : SegmentValue) (units : List QuotedUnit) → IsOtherUnit kind v units
    → IsSegmentOf kind w units → v ≡ w
after_other kind v (Text run) units o t = absurd (other_is_no_text kind (chars run.now) v units t.are o)
after_other kind v (Char c) units o t = one_other kind v (Char c) units o t.are
after_other kind v (Byte b) units o t = one_other kind v (Byte b) units o t.are
after_other kind v Nothing units o t = one_other kind v Nothing units o t.are

pub one_segment : (kind : Kind) (units : List QuotedUnit) → AreOneSegment kind units
one_segment kind units (Text run) w s t = after_text kind run w units s t
one_segment kind units (Char c) w s t = after_other kind (Char c) w units s.are t
one_segment kind units (Byte b) w s t = after_other kind (Byte b) w units s.are t
one_segment kind units Nothing w s t = after_other kind Nothing w units s.are t
