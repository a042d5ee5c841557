-- Definitions on the text between the literals of a source. Only proofs use them.
use Rattle.std.specs.Prelude.{ℕ, cond, List, ◌++◌, ◌≤◌}
use Rattle.std.specs.List.{AllByRecursion}
use Rattle.rl_syntax.specs.Texts.{byte_len, is_continue}
use Rattle.rl_syntax.specs.Classes.{after_run}
use Rattle.rl_lexer.specs.Skipping.{Skipped}
use Rattle.rl_lexer.specs.Sources.{CutSource, IsCutUpTo, IsOtherToken}
use Rattle.rl_syntax.specs.Mirrors.RunsAt.{is_ascii_id_continue}

-- Only tokens that aren't literals are between the start of `left` and the start of `rest`, which is the end of `left`.
-- If a source is lexed into some tokens up to `left`, the source is lexed up to `rest` into these tokens and those
-- between `left` and `rest`.
pub record HasOnlyOtherTokens (left rest : List ℕ) : Type 0 where
  pub cuts : List ℕ → List CutSource
  pub others : (whole : List ℕ) → AllByRecursion IsOtherToken (cuts whole)
  pub within : byte_len rest ≤ byte_len left
  pub goes_on : (whole : List ℕ) (done : List CutSource) → byte_len left ≤ byte_len whole
      → IsCutUpTo whole done left → IsCutUpTo whole (done ++ cuts whole) rest

-- If the byte `before`, which precedes the text `t`, is an ASCII identifier character, the result is `t` without the
-- identifier characters at its start. Otherwise the result is `t` itself.
abbrev pub past_word : ℕ → List ℕ → List ℕ
past_word before t = cond (is_ascii_id_continue before) (after_run is_continue t) t

-- Only white space, comments, and tokens that aren't literals are between the start of `t` and the start of `rest`,
-- which is the end of `t`.
pub record Reaches (t rest : List ℕ) : Type 0 where
  pub start : List ℕ
  pub skipped : Skipped t start
  pub holds : HasOnlyOtherTokens start rest
