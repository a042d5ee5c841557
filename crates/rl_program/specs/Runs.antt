-- The effect of a command of `rl_tool` on its whole input, if the bytes of reader and writer are known.
use Rattle.std.specs.Prelude.{◌≡◌, ℕ, List, length, Option, IfSome, ⊤, encode_utf8_all}
use Rattle.std.specs.Str.{chars, IsUtf8}
use Rattle.std.specs.Io.KnownBytes.{Appends, Keeps}
use Rattle.rl_tokens.specs.declared.error.Error.{Error}
use Rattle.rl_tokens.specs.Errors.{memory_at}
use Rattle.rl_syntax.specs.Texts.{SpannedText}
use Rattle.rust_literals.specs.LitParts.{ReadsAsNumber}
use Rattle.rust_literals.specs.declared.lit.Lit.{Lit}
use Rattle.rust_literals.specs.Parsing.{AreRead, RejectsText}
use Rattle.rl_program.specs.declared.command.Command.{Command}
use Rattle.rl_program.specs.declared.command.Command.TheVariants.{Text, Read as ReadCommand, Attr}
use Rattle.rl_program.specs.declared.program_error.ProgramError.{ProgramError}
use Rattle.rl_program.specs.declared.program_error.ProgramError.TheVariants.{Read, Write, NotText, Memory, Literal}
use Rattle.rl_program.specs.Lines.{IsLineOf, AreLinesOfText}
use Rattle.rl_program.specs.Streams.{AppendsBeginning}
use Rattle.rl_attributes.specs.Attributes.{Attribute, AreAttributesOf, RejectsAttributeText}
use Rattle.rl_program.specs.EntryLines.{ShowsAttributes}

-- The text `shown` consists of the output lines that a command writes for a text.
abbrev pub Shows : Command → List ℕ → List ℕ → Type 0
Shows Text text shown = IsLineOf text shown
Shows ReadCommand text shown = AreLinesOfText text shown
Shows Attr text shown = ShowsAttributes text shown

-- The effect of a command that succeeds: the bytes of the input are UTF-8, and the output lines for their text were
-- written.
abbrev pub Prints : Command → List ℕ → Option (List ℕ) → Option (List ℕ) → Type 0
Prints command bytes old new =
    IsUtf8 bytes
    × ((lines : List ℕ) × Shows command (chars bytes) lines
    × Appends old new (encode_utf8_all lines))

-- The effect of a command whose write fails: the bytes of the input are UTF-8, and a beginning of the output lines for
-- their text was written.
abbrev pub PrintsBeginning : Command → List ℕ → Option (List ℕ) → Option (List ℕ) → Type 0
PrintsBeginning command bytes old new =
    IsUtf8 bytes
    × ((lines : List ℕ) × Shows command (chars bytes) lines
    × AppendsBeginning old new (encode_utf8_all lines))

-- The bytes of the whole input as one token.
abbrev pub whole_token : List ℕ → SpannedText
whole_token bytes = record { text = bytes; span = record { file = 0; lo = 0; hi = length bytes } }

-- The program's error is an error of the library that satisfies `rejects`.
abbrev pub IsLiteralError : {A : Type 0} → (Error A → Type 0) → ProgramError A → Type 0
IsLiteralError rejects (Literal error) = rejects error
IsLiteralError rejects _ = ⊥

-- The errors of parsing the text: those of `read_all` or `attr::read`, or a failed allocation for the digits of a number.
abbrev pub RejectsAsCommand : {A : Type 0} → Command → List ℕ → Error A → Type 0
RejectsAsCommand Text bytes error =
    (error ≡ memory_at (whole_token bytes).span) × ReadsAsNumber (chars bytes)
RejectsAsCommand ReadCommand bytes error = RejectsText (chars bytes) 0 (length bytes) error
RejectsAsCommand Attr bytes error = RejectsAttributeText (chars bytes) 0 (length bytes) error

-- The condition under which an allocation that isn't for a literal may fail. The command `text` allocates for the token
-- and the output line, without any condition. The commands `read` and `attr` allocate for output lines, after they
-- parsed all literals or attributes.
abbrev pub MayWantMemory : Type 0 → Command → List ℕ → Type 0
MayWantMemory A Text bytes = ⊤
MayWantMemory A ReadCommand bytes = (list : List (Lit A)) × AreRead (chars bytes) 0 list
MayWantMemory A Attr bytes = (list : List Attribute) × AreAttributesOf (chars bytes) 0 list

-- The reason why the whole input is rejected: it isn't UTF-8, its literals are invalid, or another allocation failed.
abbrev pub IsRejectionOf : {A : Type 0} → Command → List ℕ → ProgramError A → Type 0
IsRejectionOf command bytes NotText = IsUtf8 bytes → ⊥
IsRejectionOf command bytes (Literal error) = IsUtf8 bytes × RejectsAsCommand command bytes error
IsRejectionOf {A} command bytes Memory = MayWantMemory A command bytes
IsRejectionOf command bytes Read = ⊥
IsRejectionOf command bytes Write = ⊥

-- The error of a run, and the bytes that the run has written. No bytes are written, or a beginning of the lines after a
-- failed write.
abbrev pub IsErrorOf : {A : Type 0} → Command → Option (List ℕ) → Option (List ℕ) → Option (List ℕ)
    → ProgramError A → Type 0
IsErrorOf command input old new Read = Keeps old new
IsErrorOf command input old new Write =
    IfSome input (λ bytes. PrintsBeginning command bytes old new)
IsErrorOf command input old new NotText = Keeps old new × IfSome input (λ bytes. IsUtf8 bytes → ⊥)
IsErrorOf command input old new Memory = Keeps old new
IsErrorOf command input old new (Literal error) =
    Keeps old new × IfSome input (λ bytes. IsRejectionOf command bytes (Literal error))
