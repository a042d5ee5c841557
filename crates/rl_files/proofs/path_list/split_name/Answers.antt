use Rattle.std.proofs.Common.{sym, ◌∙◌, ◌≡◌, false, take_all}
use Rattle.std.proofs.lemmas.List.{take_rest}
use Rattle.std.proofs.lemmas.List.Elements.{All-more}
use Rattle.rl_files.proofs.ListedLemmas.{ends, name_ends, one_name}
use Rattle.rl_files.proofs.path_list.split_name.Goals as goal

pub loop-at-preserved : goal.loop-at-preserved
loop-at-preserved c = All-more (λ x. ends c.args.between x ≡ false) c.args.list.now c.loop-at.at 0 c.loop-at-test.true
    c.loop-at.invariant (sym c.ends_path.ensures ∙ c.if-ends_path.false)

pub returns-then-ends_path-clause-names : goal.returns-then-ends_path-clause-names
returns-then-ends_path-clause-names c =
    rw take_rest
    (name_ends c.args.list.now c.args.between c.loop-at.at c.loop-at-test.true
    (sym c.ends_path.ensures ∙ c.if-ends_path.true) c.loop-at.invariant)

pub returns-clause-names : goal.returns-clause-names
returns-clause-names c = one_name _ _ (rw (take_all _ _ c.loop-at-test.false) at c.loop-at.invariant)
