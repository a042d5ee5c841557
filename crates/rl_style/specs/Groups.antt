-- Digits in groups, with underscores between the groups. Characters are code points.
use Rattle.std.specs.Prelude.{ℕ, ◌-◌, Bool, true, false, ◌&&◌, ◌==◌, nat_lt, List, [], ◌∷◌, ◌++◌, Option, Some, None, codes, length, if◌then◌else◌}
use Rattle.std.specs.Char.{is_ascii_digit}
use Rattle.std.specs.List.{flat_map, list_all}
use Prim.Native.Char.{code}
use Rattle.rl_syntax.specs.Classes.{after_run}
use Rattle.rl_syntax.specs.Texts.{first_passes, is_run_part, is_underscore}
use Rattle.rl_syntax.specs.Spelling.{without_underscores}
use Rattle.rl_lexer.specs.Lexemes.{is_base_letter}
use Rattle.rl_writing.specs.Integers.{is_digit_group_end, group_size}
use Rattle.rl_style.specs.declared.style.DigitGroups.{DigitGroups}
use Rattle.rl_style.specs.declared.style.Style.{Style}

-- The number of digits in a group, for numbers of the given base. It is 0 if numbers of this base aren't divided into groups.
abbrev pub base_group : DigitGroups → ℕ → ℕ
base_group groups base =
    if base == 2 then groups.binary
    else (if base == 8 then groups.octal else (if base == 16 then groups.hexadecimal else groups.decimal))

-- The number of digits in a group, for a number with the given base and suffix. If the suffix begins with the letter of a
-- base, the result is 0, and `0_b1` keeps its underscore.
abbrev pub size_by : Option DigitGroups → ℕ → List ℕ → ℕ
size_by None base suffix = 0
size_by (Some groups) base suffix = if first_passes is_base_letter suffix then 0 else base_group groups base

abbrev pub least_by : Option DigitGroups → ℕ
least_by None = 0
least_by (Some groups) = groups.least

-- Whether the style writes an underscore after a digit of a number. The number has `count` digits, and `left` of them follow
-- the digit. If the first argument is true, groups are counted from the first digit, and otherwise from the last.
abbrev pub ends : Bool → ℕ → ℕ → ℕ → Bool
ends false size count left = is_digit_group_end size left
ends true size count left = nat_lt 0 left && is_digit_group_end size (count - left)

-- The digits, with an underscore after some of them. The function `test` decides for each digit by the number of digits after
-- it.
abbrev pub spaced : (ℕ → Bool) → List ℕ → List ℕ
spaced test [] = []
spaced test (d ∷ ds) = d ∷ ((if test (length ds) then codes "_" else []) ++ spaced test ds)

-- The digits, divided into groups of `size` digits. Fewer than `least` digits are unchanged.
abbrev pub in_groups : Bool → ℕ → ℕ → List ℕ → List ℕ
in_groups from_first size least ds =
    spaced (ends from_first (group_size size least (length ds)) (length ds)) ds

-- The underscores at the end of a sequence of digits and underscores.
abbrev pub ending : List ℕ → List ℕ
ending [] = []
ending (c ∷ cs) = if list_all is_underscore (c ∷ cs) then c ∷ cs else ending cs

-- The digits of a sequence in groups, and then the underscores at the end of the sequence. If the group size is 0, the
-- sequence is unchanged.
abbrev pub regrouped : Bool → ℕ → ℕ → List ℕ → List ℕ
regrouped from_first size least run =
    if size == 0 then run else in_groups from_first size least (without_underscores run) ++ ending run

-- A sequence of digits, divided into groups as the style requires for a number with the given base and suffix.
abbrev pub grouped_run : Bool → Style → ℕ → List ℕ → List ℕ → List ℕ
grouped_run from_first style base suffix run =
    regrouped from_first (size_by style.digit_groups base suffix) (least_by style.digit_groups) run

-- The digits and underscores at the start of the text.
abbrev pub digit_run : List ℕ → List ℕ
digit_run [] = []
digit_run (c ∷ cs) = if is_run_part is_ascii_digit c then c ∷ digit_run cs else []

-- The new form of the text after a float's dot. Its digits are in groups counted from the first digit, and an exponent may
-- follow them. An empty text becomes a zero if `closes` is true.
abbrev pub after_dot : Bool → (ℕ → List ℕ) → (List ℕ → List ℕ) → List ℕ → List ℕ
after_dot closes character group [] = if closes then codes "0" else []
after_dot closes character group (c ∷ cs) =
    group (flat_map character (digit_run (c ∷ cs)))
    ++ flat_map character (after_run (is_run_part is_ascii_digit) (c ∷ cs))

-- The new form of the text after a float's whole part. Digits after a dot are divided into groups.
abbrev pub fraction_in_groups : Bool → (ℕ → List ℕ) → (List ℕ → List ℕ) → List ℕ → List ℕ
fraction_in_groups closes character group [] = []
fraction_in_groups closes character group (c ∷ cs) =
    if c == code "." then c ∷ after_dot closes character group cs else flat_map character (c ∷ cs)

-- The new form of a float's text before its suffix. The digits before its exponent are divided into groups.
abbrev pub float_in_groups : Bool → (ℕ → List ℕ) → (Bool → List ℕ → List ℕ) → List ℕ → List ℕ
float_in_groups closes character group numeral =
    group false (flat_map character (digit_run numeral))
    ++ fraction_in_groups closes character (group true) (after_run (is_run_part is_ascii_digit) numeral)
