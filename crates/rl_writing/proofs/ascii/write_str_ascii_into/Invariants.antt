-- The loop's invariant: the slice contains the written forms of the characters that the loop has passed. The slice has space
-- for the written forms of the other characters.
use Rattle.rl_syntax.proofs.Common.{◌≡◌, ◌+◌, ◌*◌, ◌≤◌, ◌++◌, List, ℕ, length, take, chars, flat_map, Utf8, shadow}
use Rattle.rl_syntax.specs.declared.kind.Kind.TheVariants.{Str}
use Rattle.rl_syntax.specs.Quoted.{opener}
use Rattle.rl_writing.specs.AsciiStrings.{ascii_text}
use Rattle.rl_writing.proofs.ascii.write_str_ascii_into.Given as goal

abbrev pub invariant-loop-c : goal.invariant-loop-c
invariant-loop-c l = record {
  utf8 : shadow (Utf8 l.rest);
  passed : (xs : List ℕ) × (chars l.value ≡ xs ++ chars l.rest)
      × (take l.at l.out ≡ opener Str ++ flat_map (ascii_text Str) xs);
  room : l.at + 4 * length l.rest ≤ 4 * length l.value + 1;
  len : length l.out ≡ length l.initial.out;
}

abbrev pub decreases-loop-c : goal.decreases-loop-c
decreases-loop-c l = length l.rest
