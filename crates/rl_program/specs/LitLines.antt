-- The output lines of `Lit` values. Texts and lines are lists of characters.
use Rattle.std.specs.Prelude.{◌≡◌, ℕ, List, []}
use Rattle.std.specs.Str.{chars}
use Rattle.rl_syntax.specs.declared.kind.Kind.TheVariants.{Str, ByteStr, CStr, Byte, Char, Int, Float, Bool}
use Rattle.rl_syntax.specs.Numbers.{FloatReads, float_digits}
use Rattle.rl_syntax.specs.Reading.{Digits, Truth}
use Rattle.rust_literals.specs.declared.lit.Lit.{Lit}
use Rattle.rust_literals.specs.declared.lit.Lit.TheVariants.{Str as StrLit, ByteStr as ByteStrLit, CStr as CStrLit, Byte as ByteLit, Char as CharLit, Int as IntLit, Float as FloatLit, Bool as BoolLit, Verbatim}
use Rattle.rl_program.specs.Lines.{IsLineOfKind, Joins, literal_line, verbatim_line}

-- The output line of a text that is parsed as a float.
abbrev pub IsLineOfFloat : List ℕ → List ℕ → Type 0
IsLineOfFloat text shown =
    (numeral : List ℕ) × (suffix : List ℕ) × FloatReads text numeral suffix
    × (shown ≡ literal_line Float (Digits (float_digits numeral)) suffix)

-- The output line of a literal.
abbrev pub IsLineOfLit : {A : Type 0} → Lit A → List ℕ → Type 0
IsLineOfLit (StrLit l) shown = IsLineOfKind Str (chars l.text) shown
IsLineOfLit (ByteStrLit l) shown = IsLineOfKind ByteStr (chars l.text) shown
IsLineOfLit (CStrLit l) shown = IsLineOfKind CStr (chars l.text) shown
IsLineOfLit (ByteLit l) shown = IsLineOfKind Byte (chars l.text) shown
IsLineOfLit (CharLit l) shown = IsLineOfKind Char (chars l.text) shown
IsLineOfLit (IntLit l) shown = IsLineOfKind Int (chars l.text) shown
IsLineOfLit (FloatLit l) shown = IsLineOfFloat (chars l.text) shown
IsLineOfLit (BoolLit l) shown = shown ≡ literal_line Bool (Truth l.value) []
IsLineOfLit (Verbatim l) shown = shown ≡ verbatim_line (chars l.text)

-- The output lines of literals, in order.
abbrev pub AreLinesOfLits : {A : Type 0} → List (Lit A) → List ℕ → Type 0
AreLinesOfLits literals shown = Joins IsLineOfLit literals shown
