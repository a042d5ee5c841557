use Rattle.rl_syntax.proofs.Common.{◌≡◌, sym, subst, ◌∙◌}
use Rattle.rl_lenient.proofs.Names.{Kind}
use denote.Enum.Bare.{true_same}
use Rattle.rl_syntax.specs.contracts.kind.Kind.{the_type}
use Rattle.rl_lenient.specs.WholeShapes.{IsPlain}
use Rattle.rl_lenient.proofs.FoundLemmas.{kinds_same}
use Rattle.rl_lenient.proofs.FoundContents.{plain_found, plain_none}
use Rattle.rl_lenient.proofs.contents.reads_plain.Goals as goal

pub returns-then-found : goal.returns-then-found
returns-then-found c =
    let f = c.in-Some.ensures.found in (
      (λ e.
          let same : c.in-Some.found.kind ≡ c.args.kind = kinds_same _ _ _ c.eq.ensures e in
          subst (λ (k : Kind). IsPlain k c.args.text.now) same (f.plain.0 c.if-found.true)),
      (λ p. c.eq.ensures ∙ true_same the_type _ _ (plain_found _ _ _ c.requires f p)),
    )

pub returns-else-found : goal.returns-else-found
returns-else-found c =
    let f = c.in-Some.ensures.found in (
      (λ e. absurd (cc)),
      (λ p. f.plain.1 (subst (λ (k : Kind). IsPlain k c.args.text.now) (sym (plain_found _ _ _ c.requires f p)) p)),
    )

pub returns-in-None : goal.returns-in-None
returns-in-None c = ((λ e. absurd (cc)), (λ p. absurd (plain_none _ _ c.requires c.in-None.ensures.none p)))
