use Rattle.rl_syntax.proofs.Common.{ℕ, arith, subst, sym}
use Rattle.rl_lexer.specs.Cursors.{form_view}
use Rattle.rl_cursors.specs.SettingSteps.{depth_after}
use Rattle.rl_cursors.proofs.SettingLemmas.{Leads, leads_more, one_deeper}
use Rattle.rl_cursors.proofs.settings.tree_end.Goals as goal

pub loop-depth-preserved : goal.loop-depth-preserved
loop-depth-preserved c =
    let token = c.in-Some.token in
    let first = depth_after (form_view c.args.form) 0 in
    record {
      leads = subst (λ (d : ℕ). Leads d token.hi c.next.new.self first c.args.hi c.args.following.now)
          (sym c.depth_after-depth-in-loop-depth.ensures)
          (leads_more c.loop-depth.depth c.loop-depth.end first c.args.hi c.loop-depth.ahead c.next.new.self
          c.args.following.now token (λ e. absurd (omega (arith, e, c.loop-depth-test.true))) c.in-Some.ensures.next
          c.loop-depth.invariant.leads);
      shallow = omega (
        arith,
        one_deeper (form_view token.form) c.loop-depth.depth,
        c.depth_after-depth-in-loop-depth.ensures,
        c.in-Some.ensures.shorter,
        c.loop-depth.invariant.shallow,
      );
    }
