-- Lemmas about the texts that arguments request, the help and the version.
use Rattle.rl_syntax.proofs.Common.{List, Some, ap, cond, true, ℕ, ◌≡◌}
use Rattle.rl_program.specs.CommandLine.{help_text, is_help_word, is_version_word, text_of_word, version_text}
use Rattle.std.specs.Prelude.{None}

pub help_asked : (word : List ℕ) → is_help_word word ≡ true → text_of_word word ≡ Some help_text
help_asked word is = ap (λ b. cond b (Some help_text) (cond (is_version_word word) (Some version_text) None)) is
