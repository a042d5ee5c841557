-- The reasons why a text has no value: it isn't a literal token, or it is an integer above 128 bits.
use Rattle.std.specs.Prelude.{◌≡◌, ◌⊎◌, ◌+◌, ℕ, List, Option, Some, None, ◌++◌, codes}
use Rattle.rl_syntax.specs.Numbers.{Sign, sign_text}
use Rattle.rl_syntax.specs.Reading.{IsPast}
use Rattle.rl_syntax.specs.Strict.{IsDigits}
use Rattle.rl_syntax.specs.Texts.{byte_len}
use Rattle.rl_strict.specs.declared.flaws.Flaw.{Flaw}
use Rattle.rl_strict.specs.declared.flaws.FlawKind.TheVariants.{TooLarge}
use Rattle.rl_strict.specs.Flaws.{first_len}
use Rattle.rl_strict.specs.SignedFlaws.{ExplainsSigned, IsSignedToken}
use Rattle.rl_strict.specs.declared.strict_reading.Reading.{Reading}
use Rattle.rl_strict.specs.declared.strict_reading.Reading.TheVariants.{Integer}

-- The byte offset of the suffix of an integer above 128 bits, and `None` for any other parse result.
abbrev pub suffix_at_if_above_128_bits : Reading → Option ℕ
suffix_at_if_above_128_bits (Integer None suffix_at) = Some suffix_at
suffix_at_if_above_128_bits _ = None

-- The text is an integer above 128 bits, and the flaw is of the kind `TooLarge`. The byte offset `lo` is where the suffix
-- begins, and `hi` is the byte offset after the suffix's first character. Without a suffix, `lo` and `hi` are the text's
-- end.
pub record IsLimitFlaw (text : List ℕ) (flaw : Flaw) : Type 0 where
  pub past : IsPast text
  pub number : List ℕ
  pub text_is : text ≡ number ++ past.suffix
  pub kind_is : flaw.kind ≡ TooLarge
  pub from_is : flaw.from ≡ 0
  pub lo_is : flaw.lo ≡ byte_len number
  pub hi_is : flaw.hi ≡ flaw.lo + first_len past.suffix

abbrev pub IsFloatSuffix : List ℕ → Type 0
IsFloatSuffix suffix = (suffix ≡ codes "f32") ⊎ (suffix ≡ codes "f64")

-- The text is a decimal integer with the suffix `f32` or `f64`. Rust reads it as a float, of any size.
pub record IsFloatBySuffix (text : List ℕ) : Type 0 where
  pub sign : Sign
  pub digits : List ℕ
  pub suffix : List ℕ
  pub are_digits : IsDigits digits
  pub is_float : IsFloatSuffix suffix
  pub text_is : text ≡ sign_text sign ++ (digits ++ suffix)

-- The text is a literal token, or a minus and a number, but has no value. It is an integer above 128 bits, and its suffix
-- doesn't make it a float. The flaw is of the kind `TooLarge`.
abbrev pub ExplainsLimit : List ℕ → Flaw → Type 0
ExplainsLimit text flaw = IsSignedToken text × IsLimitFlaw text flaw × (IsFloatBySuffix text → ⊥)

-- The flaw explains why the text has no value: the text is neither a literal token nor a minus and a number, or it is an
-- integer above 128 bits.
abbrev pub ExplainsValue : List ℕ → Flaw → Type 0
ExplainsValue text flaw = ExplainsSigned text flaw ⊎ ExplainsLimit text flaw
