use Rattle.rl_syntax.proofs.Common.{◌∙◌, sym}
use Rattle.rl_syntax.proofs.TailLemmas.{if_none}
use Rattle.rl_lenient.proofs.FoundLemmas.{found_reads}
use Rattle.rl_cursors.proofs.SegmentStarts.{no_quoted, none_quoted}
use Rattle.rl_cursors.proofs.segments.Segments.of.Goals as goal

pub returns-in_err-found-clause-none : goal.returns-in_err-found-clause-none
returns-in_err-found-clause-none c = if_none _ (none_quoted _ c.in_err-found.ensures.none)

pub returns-then-not-is_quoted-clause-none : goal.returns-then-not-is_quoted-clause-none
returns-then-not-is_quoted-clause-none c = no_quoted _ _ (found_reads _ _ c.in_ok-found.ensures.found)
    (sym c.is_quoted.ensures ∙ c.if-not-is_quoted.true)
