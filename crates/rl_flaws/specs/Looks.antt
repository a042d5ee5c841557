-- The kind of literal that a text begins as, whether or not it is a valid literal.
use Rattle.std.specs.Prelude.{◌≡◌, ◌⊎◌, ◌<◌, ℕ, Bool, List, ◌∷◌, ◌++◌, codes, replicate, IsTrue, if◌then◌else◌}
use Rattle.std.specs.Char.{is_ascii_digit}
use Prim.Native.Char.{code}
use Rattle.rl_syntax.specs.Classes.{after_run}
use Rattle.rl_syntax.specs.Texts.{first_passes, is_run_part}
use Rattle.rl_syntax.specs.declared.kind.Kind.{Kind}
use Rattle.rl_syntax.specs.declared.kind.Kind.TheVariants.{Int, Float, Bool as BoolKind}
use Rattle.rl_syntax.specs.Numbers.{Decimal, begins_base, is_digit}
use Rattle.rl_syntax.specs.Quoted.{is_single, is_string, opener, raw_opener}
use Rattle.rl_syntax.specs.Reading.{Contents, truth_text}
use Rattle.rl_syntax.specs.Strict.{Strict}
use Rattle.rl_strict.specs.StrictNumberFlaws.{is_float_mark}

-- The opening delimiter of a string of the kind: its prefix and the quote, and for a raw string the hashes between them.
abbrev pub IsStringOpener : Kind → List ℕ → Type 0
IsStringOpener kind front =
    IsTrue (is_string kind)
    × ((front ≡ opener kind) ⊎ ((n : ℕ) × (n < 256) × (front ≡ raw_opener kind
    ++ (replicate n (code "#") ++ codes "\""))))

-- The text begins with the opening delimiter of a string of the kind.
abbrev pub OpensString : Kind → List ℕ → Type 0
OpensString kind text = (front : List ℕ) × (inside : List ℕ) × IsStringOpener kind front × (text ≡ front ++ inside)

-- The text begins with the opening delimiter of a character or byte literal of the kind.
abbrev pub OpensSingle : Kind → List ℕ → Type 0
OpensSingle kind text = IsTrue (is_single kind) × ((inside : List ℕ) × (text ≡ opener kind ++ inside))

-- The kind of a number. A number with a base prefix is an integer. A number without one is a float if a dot, `e` or `E`
-- follows its decimal digits, and an integer otherwise.
abbrev pub number_kind : List ℕ → Kind
number_kind digits =
    if begins_base digits then Int
    else (if first_passes is_float_mark (after_run (is_run_part (is_digit Decimal)) digits) then Float else Int)

-- The text begins with a digit, or with a minus and a digit.
abbrev pub OpensNumber : Kind → List ℕ → Type 0
OpensNumber kind text =
    (digits : List ℕ) × ((text ≡ digits) ⊎ (text ≡ code "-" ∷ digits))
    × IsTrue (first_passes is_ascii_digit digits) × (kind ≡ number_kind digits)

-- The text is `true` or `false`.
abbrev pub SpellsTruth : Kind → List ℕ → Type 0
SpellsTruth kind text = (kind ≡ BoolKind) × ((truth : Bool) × (text ≡ truth_text truth))

-- The text begins as a literal of the kind does.
abbrev pub LooksLike : List ℕ → Kind → Type 0
LooksLike text kind = OpensString kind text ⊎ (OpensSingle kind text ⊎ (OpensNumber kind text ⊎ SpellsTruth kind text))

-- The text begins as at most one kind of literal.
abbrev pub LooksLikeOne : List ℕ → Type 0
LooksLikeOne text = (kind other : Kind) → LooksLike text kind → LooksLike text other → kind ≡ other

-- If a text is a literal token, it begins as a literal of its kind does.
abbrev pub TokenLooks : List ℕ → Type 0
TokenLooks text =
    (kind : Kind) (contents : Contents) (suffix : List ℕ) → Strict text kind contents suffix → LooksLike text kind
