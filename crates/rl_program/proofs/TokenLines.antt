-- Lemmas about the output lines of the literals in a text.
use Rattle.std.proofs.Common.{ℕ, List, [], ◌∷◌, refl}
use Rattle.rl_syntax.specs.Texts.{SpannedText}
use Rattle.rl_tokens.specs.Trees.{Tree}
use Rattle.rust_literals.specs.declared.lit.Lit.{Lit}
use Rattle.rust_literals.specs.Parsing.{ReadsLiterals, AreRead}
use Rattle.rl_program.specs.Lines.{AreLinesOf, ReadsTokens, AreLinesOfText}
use Rattle.rl_program.specs.LitLines.{AreLinesOfLits}
use Rattle.rl_program.proofs.LitLineLemmas.{line_of_text}

-- The token trees are the tokens of literals, and `shown` are the output lines of these tokens.
record TokenLines (trees : List Tree) (shown : List ℕ) : Type 0 where
  pub tokens : List SpannedText
  pub used : ReadsTokens trees tokens
  pub lines : AreLinesOf tokens shown

token_lines : {A : Type 0} (trees : List Tree) (list : List (Lit A)) (shown : List ℕ) → ReadsLiterals trees list []
    → AreLinesOfLits list shown → TokenLines trees shown
token_lines trees [] shown h e = record { tokens = []; used = h; lines = e }
token_lines trees (l ∷ ls) shown (after, front, h) (first, others, p, k, e) =
    let rest = token_lines after ls others h k in
    record {
      tokens = front.token ∷ rest.tokens;
      used = (after, front.front, rest.used);
      lines = (first, others, line_of_text front.token l front.token.text first front.read refl p, rest.lines, e);
    }

-- The output lines of literals are the output lines of the text from which the literals were parsed.
pub lines_of_text : {A : Type 0} (text : List ℕ) (list : List (Lit A)) (shown : List ℕ) → AreRead text 0 list
    → AreLinesOfLits list shown → AreLinesOfText text shown
lines_of_text text list shown r p =
    let of = token_lines r.trees list shown r.leads p in
    record { trees = r.trees; tokens = of.tokens; lexes = r.lexes; used = of.used; lines = of.lines }
