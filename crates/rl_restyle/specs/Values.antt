-- The values of a style's rules, which literals of a configuration represent.
use Rattle.std.specs.Prelude.{◌≡◌, ℕ, ◌^◌, ◌==◌, nat_lt, Bool, true, false, ◌&&◌, ◌||◌, List, codes, length, Option, Some, None, IfSome, if◌then◌else◌}
use Rattle.std.specs.Str.{bytes_eq}
use Rattle.rl_syntax.specs.declared.kind.Kind.{Kind}
use Rattle.rl_syntax.specs.declared.kind.Kind.TheVariants.{Str, Int}
use Rattle.rl_lenient.specs.declared.found.Found.{Found}
use Rattle.rl_cursors.specs.declared.next_literals.NextLiteral.{NextLiteral}
use Rattle.rl_lenient.specs.Founds.{IsFound, body_in, suffix_in}
use Rattle.rl_style.specs.declared.style.Case.TheVariants.{Lower, Upper}
use Rattle.rl_style.specs.declared.style.Separator.TheVariants.{Nothing, Underscore}
use Rattle.rl_restyle.specs.declared.style_error.Expected.{Expected}
use Rattle.rl_restyle.specs.declared.style_error.Expected.TheVariants as expected
use Rattle.rl_restyle.specs.declared.value.Value.{Value}
use Rattle.rl_restyle.specs.declared.value.Value.TheVariants.{Truth, Size, CaseOf, SeparatorOf}

abbrev is_str : Kind → Bool
is_str Str = true
is_str _ = false

abbrev is_int : Kind → Bool
is_int Int = true
is_int _ = false

-- The body of a string literal without a suffix, or `None` for another literal.
abbrev word_found : List ℕ → Option Found → Option (List ℕ)
word_found text None = None
word_found text (Some f) =
    if is_str f.kind && (length (suffix_in text f.body) == 0) then Some (body_in text f.body) else None

-- The value `x` if the literal has no minus before it, and `None` otherwise.
abbrev without_minus : {X : Type 0} → Option ℕ → Option X → Option X
without_minus None x = x
without_minus (Some at) x = None

abbrev pub word_of : NextLiteral → Option (List ℕ)
word_of l = without_minus l.minus_at (word_found l.token.text.now l.found)

-- The number of an integer literal that fits `usize`, or `None` for another literal.
abbrev size_found : List ℕ → Option Found → Option Value
size_found text None = None
size_found text (Some f) =
    if is_int f.kind && (bytes_eq (suffix_in text f.body) (codes "") || bytes_eq (suffix_in text f.body) (codes "usize"))
    && nat_lt f.magnitude (2 ^ 64) then Some (Size f.magnitude) else None

abbrev pub size_of : NextLiteral → Option Value
size_of l = without_minus l.minus_at (size_found l.token.text.now l.found)

abbrev pub truth_word : List ℕ → Option Value
truth_word text = if bytes_eq text (codes "true") then Some (Truth true)
    else (if bytes_eq text (codes "false") then Some (Truth false) else None)

abbrev pub case_word : List ℕ → Option Value
case_word word = if bytes_eq word (codes "lower") then Some (CaseOf Lower)
    else (if bytes_eq word (codes "upper") then Some (CaseOf Upper) else None)

abbrev pub separator_word : List ℕ → Option Value
separator_word word = if bytes_eq word (codes "") then Some (SeparatorOf Nothing)
    else (if bytes_eq word (codes "_") then Some (SeparatorOf Underscore) else None)

abbrev by_word : (List ℕ → Option Value) → Option (List ℕ) → Option Value
by_word value None = None
by_word value (Some word) = value word

-- The value of a rule that the literal represents, or `None` if it isn't one of the expected values.
abbrev pub value_of : Expected → NextLiteral → Option Value
value_of expected.Truth l = truth_word l.token.text.now
value_of expected.Size l = size_of l
value_of expected.Case l = by_word case_word (word_of l)
value_of expected.Separator l = by_word separator_word (word_of l)

-- If no minus precedes the literal, the literal's parse result is the parse result of its text.
abbrev pub IsOfText : NextLiteral → Type 0
IsOfText l = l.minus_at ≡ None → IfSome l.found (λ f. IsFound l.token.text.now f)
