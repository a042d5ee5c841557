-- The lexer may need the text after a token to find the token's end. If two texts begin alike up to a literal's first
-- character, each token before the first text is also a token before the second text. Characters are code points.
use Rattle.std.specs.Prelude.{◌≡◌, ◌≢◌, ℕ, ◌⊎◌, Bool, true, false, not, ◌&&◌, ◌||◌, ◌==◌, List, [], ◌∷◌, ◌++◌, codes, IsTrue, ⊤}
use Rattle.std.specs.Char.{is_ascii_digit}
use Rattle.std.specs.List.{list_all}
use Prim.Native.Char.{code}
use Rattle.rl_syntax.specs.Texts.{is_among, first_passes, is_run_part, is_continue}
use Rattle.rl_syntax.specs.Numbers.{is_exponent_letter}
use Rattle.rl_lexer.specs.Lexemes.{LiteralPrefix, NoPrefix, BeginsHashedQuote, BodyPart, IsBody, CharacterBody, IsCharacterBody, IsRawBody, Lexeme, QuotedLexeme, RawLexeme, CharacterLexeme, BasedLexeme, DecimalLexeme, LexedFraction, NoLexedFraction, LexedDot, lexed_fraction_text, LexedExponent, NoLexedExponent, LexedPower, lexed_exponent_text, is_base_letter, lexeme_text, IsLexeme}
use Rattle.rl_lexer.specs.Sources.{SourceLexeme, IsProper}

-- The characters that a literal may begin with.
abbrev pub is_head : ℕ → Bool
is_head c = is_among (codes "\"'rbc") c || is_ascii_digit c

-- Either the first characters of the two literals are equal, or both are decimal digits. No token before a literal depends on
-- which digit the literal begins with.
abbrev pub SameHead : ℕ → ℕ → Type 0
SameHead old new = (old ≡ new) ⊎ (IsTrue (is_ascii_digit old) × IsTrue (is_ascii_digit new))

-- The old and the new text begin with the text `front`. In each text, a character that a literal may begin with follows
-- `front`. The two characters are equal, or both are digits. If they are `r`, hashes and a quote follow in both texts, as in
-- a raw string.
pub record SameFront (old new : List ℕ) : Type 0 where
  pub front : List ℕ
  pub head : ℕ
  pub new_head : ℕ
  pub old_rest : List ℕ
  pub new_rest : List ℕ
  pub is_head : IsTrue (is_head head)
  pub same_head : SameHead head new_head
  pub raw : head ≡ code "r" → BeginsHashedQuote old_rest × BeginsHashedQuote new_rest
  pub old_is : old ≡ front ++ (head ∷ old_rest)
  pub new_is : new ≡ front ++ (new_head ∷ new_rest)

-- If the old and the new text begin alike up to a literal's first character, each token directly before the old text is also
-- a token directly before the new text. Bad quotes and stray characters are excepted.
abbrev pub StaysAround : Type 0
StaysAround = (w : SourceLexeme) (old new : List ℕ) → SameFront old new → IsProper w old → IsProper w new

-- The old and the new literal are quoted literals with escapes. Their prefixes are equal, and so are their suffixes. The new
-- literal has a valid body.
pub record SameQuoted (old new : Lexeme) : Type 0 where
  pub prefix : LiteralPrefix
  pub parts : List BodyPart
  pub new_parts : List BodyPart
  pub suffix : List ℕ
  pub is_body : IsBody new_parts
  pub old_is : old ≡ QuotedLexeme prefix parts suffix
  pub new_is : new ≡ QuotedLexeme prefix new_parts suffix

-- The old and the new literal are raw strings. Their prefixes are equal, and so are their suffixes. Their numbers of hashes
-- may differ. The new literal has a valid body.
pub record SameRawString (old new : Lexeme) : Type 0 where
  pub prefix : LiteralPrefix
  pub hashes : ℕ
  pub new_hashes : ℕ
  pub body : List ℕ
  pub new_body : List ℕ
  pub suffix : List ℕ
  pub is_body : IsRawBody new_hashes new_body
  pub old_is : old ≡ RawLexeme prefix hashes body suffix
  pub new_is : new ≡ RawLexeme prefix new_hashes new_body suffix

-- The old literal is a raw string with the prefix `b` or `c`. The new literal is a string with escapes, which has a valid
-- body and the old literal's prefix and suffix.
pub record SameUnraw (old new : Lexeme) : Type 0 where
  pub prefix : LiteralPrefix
  pub has_prefix : prefix ≢ NoPrefix
  pub hashes : ℕ
  pub body : List ℕ
  pub new_parts : List BodyPart
  pub suffix : List ℕ
  pub is_body : IsBody new_parts
  pub old_is : old ≡ RawLexeme prefix hashes body suffix
  pub new_is : new ≡ QuotedLexeme prefix new_parts suffix

-- The old and the new literal are characters, or both are bytes. Their suffixes are equal. The new literal has a valid body.
pub record SameCharacter (old new : Lexeme) : Type 0 where
  pub is_byte : Bool
  pub inside : CharacterBody
  pub new_inside : CharacterBody
  pub suffix : List ℕ
  pub is_body : IsCharacterBody new_inside
  pub old_is : old ≡ CharacterLexeme is_byte inside suffix
  pub new_is : new ≡ CharacterLexeme is_byte new_inside suffix

-- The old and the new literal are integers with equal base prefixes, as `0xab` and `0xAB`. The digits, which include the
-- suffix in this definition, may differ.
pub record SameBased (old new : Lexeme) : Type 0 where
  pub letter : ℕ
  pub digits : List ℕ
  pub new_digits : List ℕ
  pub is_run : IsTrue (list_all is_continue new_digits)
  pub old_is : old ≡ BasedLexeme letter digits
  pub new_is : new ≡ BasedLexeme letter new_digits

-- Both numbers have a fraction, or neither number has one. The digits of the two fractions may differ. Either the new
-- fraction begins with a digit, or both numbers end with a dot.
abbrev pub SameFraction : LexedFraction → LexedFraction → LexedExponent → Type 0
SameFraction NoLexedFraction NoLexedFraction power = ⊤
SameFraction (LexedDot digits) (LexedDot new) power =
    IsTrue (list_all (is_run_part is_ascii_digit) new)
    × (IsTrue (first_passes is_ascii_digit new) ⊎ ((digits ≡ []) × (new ≡ []) × (power ≡ NoLexedExponent)))
SameFraction _ _ power = ⊥

-- The new number has an exponent if and only if the old one has one.
abbrev pub SamePower : LexedExponent → LexedExponent → Type 0
SamePower NoLexedExponent NoLexedExponent = ⊤
SamePower (LexedPower _ _ _ _ _) (LexedPower letter sign n d more) =
    IsTrue (is_exponent_letter letter) × IsTrue (is_ascii_digit d)
    × IsTrue (list_all (is_run_part is_ascii_digit) more)
SamePower _ _ = ⊥

-- The old and the new literal are decimal numbers. Their first digits are equal, and so are their suffixes. The new number
-- has a fraction if and only if the old one has one, and an exponent if and only if the old one has one. The new number
-- doesn't begin with a base prefix such as `0x`.
pub record SameDecimal (old new : Lexeme) : Type 0 where
  pub digit : ℕ
  pub more : List ℕ
  pub new_more : List ℕ
  pub fraction : LexedFraction
  pub new_fraction : LexedFraction
  pub exponent : LexedExponent
  pub new_exponent : LexedExponent
  pub suffix : List ℕ
  pub each : IsTrue (list_all (is_run_part is_ascii_digit) new_more)
  pub same_fraction : SameFraction fraction new_fraction exponent
  pub same_power : SamePower exponent new_exponent
  pub no_base : (digit == code "0" && first_passes is_base_letter (new_more ++ (lexed_fraction_text new_fraction
      ++ (lexed_exponent_text new_exponent ++ suffix)))) ≡ false
  pub old_is : old ≡ DecimalLexeme digit more fraction exponent suffix
  pub new_is : new ≡ DecimalLexeme digit new_more new_fraction new_exponent suffix

-- The new literal has the old literal's kind, prefix and suffix, and is well formed. Both literals are raw strings, or
-- neither is. The only exception is a raw string with the prefix `b` or `c`, which may become a string with escapes.
abbrev pub SameEnds : Lexeme → Lexeme → Type 0
SameEnds old new =
    SameQuoted old new ⊎ (SameRawString old new ⊎ (SameCharacter old new ⊎ (SameBased old new
    ⊎ (SameDecimal old new ⊎ SameUnraw old new))))

-- The new literal has the kind, the prefix and the suffix of the old one (`SameEnds`). If a text may follow the old literal,
-- it may also follow the new literal. Both literals begin alike.
abbrev pub KeepsItsEnds : Type 0
KeepsItsEnds =
    (l m : Lexeme) (after : List ℕ) → SameEnds l m → IsLexeme l after
    → IsLexeme m after × SameFront (lexeme_text l ++ after) (lexeme_text m ++ after)

-- The text is empty, or ends with neither a hash nor a dot.
abbrev pub may_precede_quote : List ℕ → Bool
may_precede_quote [] = true
may_precede_quote (c ∷ []) = not (c == code "#" || c == code ".")
may_precede_quote (c ∷ d ∷ t) = may_precede_quote (d ∷ t)

-- The text between a token and a raw string ends with neither a hash nor a dot. If a string with escapes replaces the raw
-- string, the token is still lexed as before.
abbrev pub StaysBeforeQuote : Type 0
StaysBeforeQuote =
    (w : SourceLexeme) (front raw quoted : List ℕ) → IsTrue (may_precede_quote front)
    → IsProper w (front ++ (code "r" ∷ raw)) → IsProper w (front ++ (code "\"" ∷ quoted))
