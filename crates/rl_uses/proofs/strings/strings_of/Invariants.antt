use Rattle.std.proofs.Common.{take}
use Rattle.rl_tokens.specs.WrittenLists.{characters_of}
use Rattle.rust_literals.specs.ReadBack.{AreStrings}
use Rattle.rl_uses.proofs.strings.strings_of.Given as goal

abbrev pub invariant-loop-literal : goal.invariant-loop-literal
invariant-loop-literal g l = AreStrings (take l.literal-index l.literals) (characters_of l.values.items)
