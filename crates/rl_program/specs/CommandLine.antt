-- The result of a call of `rl_tool`.
use Rattle.std.specs.Prelude.{◌≡◌, ℕ, Bool, cond, ◌||◌, List, [], ◌∷◌, codes, String, string_bytes, Option, Some, None, IfSome}
use Rattle.std.specs.Str.{bytes_eq}
use Rattle.std.specs.Io.KnownBytes.{Appends, Keeps}
use Rattle.rl_program.specs.Streams.{AppendsBeginning}
use Rattle.rl_program.specs.declared.program_error.ProgramError.TheVariants.{Write}
use Rattle.rl_program.specs.declared.command.Command.{Command}
use Rattle.rl_program.specs.declared.program_error.ProgramError.{ProgramError}
use Rattle.rl_program.specs.declared.exit.Ending.{Ending}
use Rattle.rl_program.specs.declared.exit.Ending.TheVariants.{Done, FoundBad, Reported, Closed, Usage, Failed}
use Rattle.rl_program.specs.Commands.{AskFor}
use Rattle.rl_program.specs.Runs.{Prints, IsErrorOf}

-- The line that explains the usage of `rl_tool`.
abbrev pub usage_line : List ℕ
usage_line = codes "usage: rl_tool text|read|attr"

-- The output of `--help` and `-h`.
abbrev pub help_text : List ℕ
help_text =
    codes "usage: rl_tool text|read|attr\nPrints the literals that standard input holds.\n\nEach has a line: its kind, its value, and its suffix or `-`.\n\nCommands:\n  text  all of the input is one literal\n  read  literals, with white space and comments between them\n  attr  settings, `name = literal`, with commas between them; the name first\n\nOptions:\n  -h, --help     this\n  -V, --version  the version\n\nStatus:\n  0  all lines were written\n  1  the input was rejected\n  2  wrong arguments, or a stream failed\n\nExamples:\n  printf '0x1F_u8 \"a\\\\n\"' | rl_tool read\n"

-- The output of `--version` and `-V`.
abbrev pub version_text : List ℕ
version_text = codes "rl_tool 0.2.0\n"

-- Whether an argument is `--help` or `-h`.
abbrev pub is_help_word : List ℕ → Bool
is_help_word word = bytes_eq word (codes "--help") || bytes_eq word (codes "-h")

-- Whether an argument is `--version` or `-V`.
abbrev pub is_version_word : List ℕ → Bool
is_version_word word = bytes_eq word (codes "--version") || bytes_eq word (codes "-V")

-- The text that an argument requests, the help or the version, or `None` for another argument.
abbrev pub text_of_word : List ℕ → Option (List ℕ)
text_of_word word =
    cond (is_help_word word) (Some help_text) (cond (is_version_word word) (Some version_text) None)

-- The text that the program's arguments request, or `None`. The arguments request a text if they are the program's name
-- and one argument that requests a text.
abbrev pub requested_text : {A : Type 0} → List (String A) → Option (List ℕ)
requested_text [] = None
requested_text (program ∷ []) = None
requested_text (program ∷ word ∷ []) = text_of_word (string_bytes word)
requested_text (program ∷ word ∷ other ∷ others) = None

-- The result of a call that writes a text. After a failed write, a beginning of the text is written.
abbrev pub EndsHelp : {B : Type 0} → List ℕ → Option (List ℕ) → Option (List ℕ) → Ending (ProgramError B) → Type 0
EndsHelp text old new Done = Appends old new text
EndsHelp text old new (Failed Write) = AppendsBeginning old new text
EndsHelp text old new _ = ⊥

-- If the arguments name a command, the result of the call is the result of the command. With other arguments, the
-- result is the usage, and nothing is written.
abbrev pub EndsCommand : {A B : Type 0} → List (String A) → Option (List ℕ) → Option (List ℕ)
    → Option (List ℕ) → Ending (ProgramError B) → Type 0
EndsCommand args input old new Done =
    (command : Command) × AskFor args command × IfSome input (λ bytes. Prints command bytes old new)
EndsCommand args input old new FoundBad = ⊥
EndsCommand args input old new Reported = ⊥
EndsCommand args input old new Closed = ⊥
EndsCommand args input old new (Usage line) =
    ((command : Command) → AskFor args command → ⊥) × (line.now ≡ usage_line) × Keeps old new
EndsCommand args input old new (Failed error) =
    (command : Command) × AskFor args command × IsErrorOf command input old new error

-- The result of a call is the result of writing the requested text, if there is one, and otherwise the result of the
-- command.
abbrev pub EndsBy : {A B : Type 0} → Option (List ℕ) → List (String A) → Option (List ℕ) → Option (List ℕ)
    → Option (List ℕ) → Ending (ProgramError B) → Type 0
EndsBy (Some text) args input old new ending = EndsHelp text old new ending
EndsBy None args input old new ending = EndsCommand args input old new ending

-- The result of a call with the arguments `args`.
abbrev pub EndsAs : {A B : Type 0} → List (String A) → Option (List ℕ) → Option (List ℕ)
    → Option (List ℕ) → Ending (ProgramError B) → Type 0
EndsAs args input old new ending = EndsBy (requested_text args) args input old new ending
