use Rattle.rl_flaws.proofs.Names.{ℕ, List, length, Utf8, shadow, chars, IsTail, ◌↔◌, IsRestOf, read_of, ReachesQuote}
use Rattle.rl_flaws.proofs.closings.next_quote.Given as goal

abbrev pub invariant-loop-c : goal.invariant-loop-c
invariant-loop-c l = record {
  utf8 : shadow (Utf8 l.rest);
  following : IsTail l.text l.rest;
  is_rest : IsRestOf l.ends (chars l.text) (chars l.rest);
  same : (closing : List ℕ)
      → ReachesQuote (read_of l.ends (chars l.text)) closing ↔ ReachesQuote (read_of l.ends (chars l.rest)) closing;
}

abbrev pub decreases-loop-c : goal.decreases-loop-c
decreases-loop-c l = length l.rest
