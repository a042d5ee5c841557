-- The statements of the laws of src/laws.rt, each as a definition.
use Rattle.std.specs.Prelude.{List, Bool, ℕ, ◌≡◌, ◌↔◌, ◌==◌, not, ◌∷◌, [], IsTrue}
use Rattle.std.specs.List.{list_all}
use Rattle.rl_syntax.specs.declared.kind.Kind.{Kind}
use Rattle.rl_syntax.specs.declared.kind.Kind.TheVariants.{Bool as BoolKind}
use Rattle.rl_syntax.specs.Texts.{begins_char, code}
use Rattle.rl_syntax.specs.Reading.{Contents, Digits, Truth, Reads, quoted_contents, truth_text}
use Rattle.rl_syntax.specs.Strict.{Strict}
use Rattle.rl_syntax.specs.Written.{written_text}
use Rattle.rl_syntax.specs.Agreeing.{IsWithinLimit, IsQuotedValue}
use Rattle.rl_syntax.specs.Quoted.{is_number}
use Rattle.rl_syntax.specs.Numbers.{Sign, Minus, IntReads}
use Rattle.rl_syntax.specs.Readings.{Reading, IsReading, ReadsStrictly}

-- By `syn`'s grammar, a text has at most one parse result: one kind, one value and one suffix.
abbrev pub ATextHasOneReading : Type 0
ATextHasOneReading =
    (t : List ℕ) (k l : Kind) (v w : Contents) (x y : List ℕ)
    → Reads t k v x → Reads t l w y → (k ≡ l) × (v ≡ w) × (x ≡ y)

-- By Rust's grammar, a text has at most one parse result: one kind, one value and one suffix.
abbrev pub ATextIsStrictInOneWay : Type 0
ATextIsStrictInOneWay =
    (t : List ℕ) (k l : Kind) (v w : Contents) (x y : List ℕ)
    → Strict t k v x → Strict t l w y → (k ≡ l) × (v ≡ w) × (x ≡ y)

-- A literal of Rust's grammar contains no CR, neither in its body nor in its suffix.
abbrev pub AStrictTextHasNoReturn : Type 0
AStrictTextHasNoReturn =
    (t : List ℕ) (k : Kind) (v : Contents) (x : List ℕ)
    → Strict t k v x → IsTrue (list_all (λ c. not (c == code "\r")) t)

-- The texts `true` and `false` are literals of Rust's grammar. Each has its `bool` as its value, and no suffix.
abbrev pub TheTruthWordsAreStrict : Type 0
TheTruthWordsAreStrict =
    (truth : Bool) → Strict (truth_text truth) BoolKind (Truth truth) []

-- A literal of Rust's grammar is a literal of `syn`'s grammar too, with the same kind, value and suffix. An integer
-- must be within 128 bits.
abbrev pub AStrictTextReads : Type 0
AStrictTextReads =
    (t : List ℕ) (k : Kind) (v : Contents) (x : List ℕ)
    → Strict t k v x → IsWithinLimit k t → Reads t k v x

-- By `syn`'s grammar, a number of Rust's grammar with a minus directly before it is a number too. The digits of its value
-- begin with `-`, and its suffix is the suffix of the number without the minus. An integer must be within 128 bits.
abbrev pub AStrictNumberReadsAfterAMinus : Type 0
AStrictNumberReadsAfterAMinus =
    (t : List ℕ) (k : Kind) (ds x : List ℕ)
    → IsTrue (is_number k) → Strict t k (Digits ds) x → IsWithinLimit k t
    → Reads (code "-" ∷ t) k (Digits (code "-" ∷ ds)) x

-- The written form of a value is a literal of Rust's grammar. It has that value and no suffix.
abbrev pub AWrittenValueIsStrict : Type 0
AWrittenValueIsStrict =
    (k : Kind) (v : List ℕ)
    → IsQuotedValue k v → Strict (written_text k v) k (quoted_contents k v) []

-- By `syn`'s grammar, the written form of a value is a literal with that value and no suffix.
abbrev pub AWrittenValueReads : Type 0
AWrittenValueReads =
    (k : Kind) (v : List ℕ)
    → IsQuotedValue k v → Reads (written_text k v) k (quoted_contents k v) []

-- The value of an integer literal is negative exactly if its text begins with a minus.
abbrev pub AMinusTellsTheSign : Type 0
AMinusTellsTheSign =
    (t : List ℕ) (s : Sign) (m : ℕ) (x : List ℕ)
    → IntReads t s m x → (s ≡ Minus) ↔ IsTrue (begins_char (code "-") t)

-- If a text is a literal of `syn`'s and of Rust's grammar, the two grammars give it one kind, one value and one suffix.
-- An integer above 128 bits isn't a literal of `syn`'s grammar here, so the law has no condition on its size.
abbrev pub BothGrammarsAgree : Type 0
BothGrammarsAgree =
    (t : List ℕ) (k l : Kind) (v w : Contents) (x y : List ℕ)
    → Reads t k v x → Strict t l w y → (k ≡ l) × (v ≡ w) × (x ≡ y)

-- By `syn`'s grammar, two parse results of a text are equal as records. The prover infers the arguments of this law, of
-- `StrictReadingsOfATextAreOne` and of `AReadingIsTheStrictOne` from its use, so a caller writes `_` for each argument.
abbrev pub ReadingsOfATextAreOne : Type 0
ReadingsOfATextAreOne = (text : List ℕ) (a b : Reading) → IsReading text a → IsReading text b → a ≡ b

-- By Rust's grammar, two parse results of a text are equal as records.
abbrev pub StrictReadingsOfATextAreOne : Type 0
StrictReadingsOfATextAreOne =
    (text : List ℕ) (a b : Reading) → ReadsStrictly text a → ReadsStrictly text b → a ≡ b

-- The parse result of a text by `syn`'s grammar and that by Rust's grammar are equal as records.
abbrev pub AReadingIsTheStrictOne : Type 0
AReadingIsTheStrictOne =
    (text : List ℕ) (a b : Reading) → IsReading text a → ReadsStrictly text b → a ≡ b
