-- The commands of `rl_tool`, and the arguments that name them.
use Rattle.std.specs.Prelude.{◌≡◌, ℕ, List, [], ◌∷◌, codes, String, string_bytes}
use Rattle.rl_program.specs.declared.command.Command.{Command}
use Rattle.rl_program.specs.declared.command.Command.TheVariants.{Text, Read, Attr}

-- The name of a command.
abbrev pub command_word : Command → List ℕ
command_word Text = codes "text"
command_word Read = codes "read"
command_word Attr = codes "attr"

-- The arguments are the program's name and the name of the command.
abbrev pub AskFor : {A : Type 0} → List (String A) → Command → Type 0
AskFor [] command = ⊥
AskFor (program ∷ []) command = ⊥
AskFor (program ∷ name ∷ []) command = string_bytes name ≡ command_word command
AskFor (program ∷ name ∷ other ∷ others) command = ⊥
