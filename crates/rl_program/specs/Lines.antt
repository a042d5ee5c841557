-- The output of the programs: a line for each literal. Texts and lines are lists of characters.
use Rattle.std.specs.Prelude.{◌≡◌, ◌⊎◌, ℕ, List, [], ◌∷◌, ◌++◌, codes, Option, Some, None, if◌then◌else◌}
use Prim.Native.Char.{code}
use Rattle.rl_syntax.specs.declared.kind.Kind.{Kind}
use Rattle.rl_syntax.specs.declared.kind.Kind.TheVariants.{Str, ByteStr, CStr, Byte, Char, Int, Float, Bool}
use Rattle.std.specs.Str.{chars}
use Rattle.rl_syntax.specs.Texts.{xid_ok, SpannedText}
use Rattle.rl_tokens.specs.Trees.{Tree}
use Rattle.rl_tokens.specs.Lexing.{Lexes}
use Rattle.rl_fronts.specs.Fronts.{IsFront}
use Rattle.rl_syntax.specs.Reading.{Contents, Characters, Bytes, Digits, Truth, truth_text, Reads, HasNoReading}
use Rattle.rl_syntax.specs.Written.{written_text}

-- The name of a kind of literals.
abbrev pub kind_label : Kind → List ℕ
kind_label Str = codes "Str"
kind_label ByteStr = codes "ByteStr"
kind_label CStr = codes "CStr"
kind_label Byte = codes "Byte"
kind_label Char = codes "Char"
kind_label Int = codes "Int"
kind_label Float = codes "Float"
kind_label Bool = codes "Bool"

-- The label that an output line begins with: the literal's kind, or `Verbatim` if there is no kind.
abbrev pub label_of : Option Kind → List ℕ
label_of (Some kind) = kind_label kind
label_of None = codes "Verbatim"

-- The value of a literal as its output line has it: a literal for a quoted kind, the digits of a number, the name of a `bool`.
abbrev pub payload : Kind → Contents → List ℕ
payload kind (Characters cs) = written_text kind cs
payload kind (Bytes bs) = written_text kind bs
payload kind (Digits ds) = ds
payload kind (Truth b) = truth_text b

-- The last field of an output line: `-` for no suffix, an identifier as written, any other suffix as a string literal.
abbrev pub suffix_word : List ℕ → List ℕ
suffix_word [] = codes "-"
suffix_word (c ∷ cs) = if xid_ok (c ∷ cs) then (c ∷ cs) else written_text Str (c ∷ cs)

-- The end of an output line: a space, the suffix, and LF.
abbrev pub line_end : List ℕ → List ℕ
line_end suffix = code " " ∷ (suffix_word suffix ++ (code "\n" ∷ []))

-- An output line: a label, a value and a suffix, with a space between, and LF.
abbrev pub line : List ℕ → List ℕ → List ℕ → List ℕ
line word shown suffix = word ++ (code " " ∷ (shown ++ line_end suffix))

-- The output line of a literal, from its kind, its decoded value and its suffix.
abbrev pub literal_line : Kind → Contents → List ℕ → List ℕ
literal_line kind contents suffix = line (kind_label kind) (payload kind contents) suffix

-- The output line of a text that isn't a literal: the text as a string literal.
abbrev pub verbatim_line : List ℕ → List ℕ
verbatim_line text = line (codes "Verbatim") (written_text Str text) []

-- The line `shown` is the output line of the text `text`: the line of a literal if the text is a literal, and otherwise
-- the line of a text that isn't one.
abbrev pub IsLineOf : List ℕ → List ℕ → Type 0
IsLineOf text shown =
    ((kind : Kind) × (contents : Contents) × (suffix : List ℕ) × Reads text kind contents suffix
    × (shown ≡ literal_line kind contents suffix))
    ⊎ (HasNoReading text × (shown ≡ verbatim_line text))

-- The text `shown` consists of one piece for each element of a list, in order.
abbrev pub Joins : {A : Type 0} → (A → List ℕ → Type 0) → List A → List ℕ → Type 0
Joins IsPiece [] shown = shown ≡ []
Joins IsPiece (x ∷ xs) shown =
    (first rest : List ℕ) × IsPiece x first × Joins IsPiece xs rest × (shown ≡ first ++ rest)

-- The text `shown` consists of the output lines of the tokens' texts, in order.
abbrev pub AreLinesOf : List SpannedText → List ℕ → Type 0
AreLinesOf tokens shown = Joins (λ t. IsLineOf (chars t.text)) tokens shown

-- The token trees are the literals `tokens`, and nothing follows them.
abbrev pub ReadsTokens : List Tree → List SpannedText → Type 0
ReadsTokens trees [] = trees ≡ []
ReadsTokens trees (t ∷ ts) = (rest : List Tree) × IsFront trees t rest × ReadsTokens rest ts

-- The text consists of literals, and `shown` are their output lines.
pub record AreLinesOfText (text shown : List ℕ) : Type 0 where
  pub trees : List Tree
  pub tokens : List SpannedText
  pub lexes : Lexes text 0 trees
  pub used : ReadsTokens trees tokens
  pub lines : AreLinesOf tokens shown

-- The line `shown` is the output line of the text `text`, which is a literal of the kind `kind`.
abbrev pub IsLineOfKind : Kind → List ℕ → List ℕ → Type 0
IsLineOfKind kind text shown =
    (contents : Contents) × (suffix : List ℕ) × Reads text kind contents suffix
    × (shown ≡ literal_line kind contents suffix)

-- The text `new` is the text `old` with a piece appended. The piece satisfies `IsPiece`.
abbrev pub Appends : (List ℕ → Type 0) → List ℕ → List ℕ → Type 0
Appends IsPiece old new = (piece : List ℕ) × IsPiece piece × (new ≡ old ++ piece)
