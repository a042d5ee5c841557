-- Tests of the characters of each class, and the text after the leading characters that pass a test.
use Rattle.std.specs.Prelude.{ℕ, Bool, not, ◌==◌, List, [], ◌∷◌, cond}
use Rattle.std.specs.Char.{is_ascii, is_ascii_digit}
use Rattle.unicode_ident.specs.Ident.{is_xid_continue}
use Prim.Native.Char.{code}
use Rattle.rl_syntax.specs.Texts.{is_underscore, is_white, is_run_part, is_blank, is_dropped_blank, is_continue}
use Rattle.rl_syntax.specs.declared.classes.CharClass.{CharClass}
use Rattle.rl_syntax.specs.declared.classes.CharClass.TheVariants.{Continue, Numeral, Underscore, White, Hash, Blank, StrictBlank, SuffixContinue, Unquoted, Ascii, NonNul}

abbrev pub is_hash : ℕ → Bool
is_hash c = c == code "#"

-- The test that the characters of a class pass.
abbrev pub class_test : CharClass → ℕ → Bool
class_test Continue = is_continue
class_test Numeral = is_run_part is_ascii_digit
class_test Underscore = is_underscore
class_test White = is_white
class_test Hash = is_hash
class_test Blank = is_blank
class_test StrictBlank = is_dropped_blank
class_test SuffixContinue = is_xid_continue
class_test Unquoted = λ c. not (c == code "\"")
class_test Ascii = is_ascii
class_test NonNul = λ c. not (c == 0)

-- The text without its leading characters that pass the test: `ab` for `12ab` and a test for digits.
abbrev pub after_run : (ℕ → Bool) → List ℕ → List ℕ
after_run test [] = []
after_run test (c ∷ t) = cond (test c) (after_run test t) (c ∷ t)
