-- Texts of literals in a file, where rustc reads CR LF as LF. Texts are lists of characters. Offsets are in bytes.
use Rattle.std.specs.Prelude.{◌≡◌, ◌⊎◌, ℕ, ◌≤◌, List, ◌++◌}
use Rattle.rl_syntax.specs.Texts.{byte_len}
use Rattle.rl_strict.specs.LineEnds.{lf_text}
use Rattle.rl_strict.specs.StrictShapes.{IsToken}
use Rattle.rl_strict.specs.declared.flaws.Flaw.{Flaw}
use Rattle.rl_strict.specs.Limits.{ExplainsLimit}
use Rattle.rl_strict.specs.SignedFlaws.{ExplainsSigned}
use Rattle.rl_strict.specs.StrictFlaws.{ExplainsStrictly}

-- In a file, the byte offset `at` in the text as written corresponds to the byte offset `read` in the text that rustc reads,
-- where each CR LF is LF. `at` is never between a CR and its LF: for the LF of a CR LF, `at` is the byte offset of the CR.
pub record IsPlaceInFile (text : List ℕ) (read at : ℕ) : Type 0 where
  pub front : List ℕ
  pub rest : List ℕ
  pub text_is : text ≡ front ++ rest
  pub whole : lf_text text ≡ lf_text front ++ lf_text rest
  pub read_is : read ≡ byte_len (lf_text front)
  pub at_is : at ≡ byte_len front

-- In a file, the text as rustc reads it, with CR LF read as LF, isn't a literal token. The flaw is the reason, with its byte
-- offsets in the text as written.
pub record ExplainsInFile (text : List ℕ) (flaw : Flaw) : Type 0 where
  pub read : Flaw
  pub explains : ExplainsStrictly (lf_text text) read
  pub kind : flaw.kind ≡ read.kind
  pub from : IsPlaceInFile text read.from flaw.from
  pub lo : IsPlaceInFile text read.lo flaw.lo
  pub hi : IsPlaceInFile text read.hi flaw.hi
  pub ordered : flaw.lo ≤ flaw.hi

-- In a file, the text as rustc reads it, with CR LF read as LF, is neither a literal token nor a minus and a number. The
-- flaw is the reason, with its byte offsets in the text as written.
pub record ExplainsSignedInFile (text : List ℕ) (flaw : Flaw) : Type 0 where
  pub read : Flaw
  pub explains : ExplainsSigned (lf_text text) read
  pub kind : flaw.kind ≡ read.kind
  pub from : IsPlaceInFile text read.from flaw.from
  pub lo : IsPlaceInFile text read.lo flaw.lo
  pub hi : IsPlaceInFile text read.hi flaw.hi
  pub ordered : flaw.lo ≤ flaw.hi

-- The flaw explains why the text of a literal in a file has no value. Either the text, with CR LF read as LF, isn't a
-- literal token, or the text is an integer above 128 bits, which contains no CR. A minus and an integer above 128 bits isn't
-- a literal token.
abbrev pub ExplainsValueInFile : List ℕ → Flaw → Type 0
ExplainsValueInFile text flaw = ExplainsInFile text flaw ⊎ (IsToken (lf_text text) × ExplainsLimit text flaw)

-- The flaw explains why the text of a literal in a file has no value, where a minus before a number is allowed. Either the
-- text, with CR LF read as LF, is neither a literal token nor a minus and a number, or the text is an integer above 128
-- bits.
abbrev pub ExplainsSignedValueInFile : List ℕ → Flaw → Type 0
ExplainsSignedValueInFile text flaw = ExplainsSignedInFile text flaw ⊎ ExplainsLimit text flaw
