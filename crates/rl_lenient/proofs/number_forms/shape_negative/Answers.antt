use Rattle.rl_syntax.proofs.Common.{ℕ, List, ◌∷◌, ◌++◌, ap₂, sym, subst, ◌∙◌}
use Rattle.rl_lenient.proofs.Names.{Kind, Reads}
use Rattle.std.specs.Str.{chars}
use Rattle.rl_lenient.specs.Founds.{suffix_in}
use Rattle.rl_lenient.proofs.MinusLemmas.{negative_reads, number_split}
use Rattle.rl_lenient.proofs.number_forms.shape_negative.Goals as goal

pub returns-clause-reads : goal.returns-clause-reads
returns-clause-reads c =
    let f = c.in_ok-found.ensures in
    let p = c.parts.ensures in
    let t = 45 ∷ chars c.args.text.now in
    let x = suffix_in c.args.text.now c.in_ok-found.found.body in
    let (v, r) = negative_reads _ _ _ f.unsigned f.number f.found.reads in (
      v,
      subst (λ (y : List ℕ). Reads t c.parts.result.kind v (chars y)) (sym p.suffix)
          (subst (λ (k : Kind). Reads t k v (chars x)) (sym p.kind) r),
    )

pub returns-clause-cut : goal.returns-clause-cut
returns-clause-cut c =
    let f = c.in_ok-found.ensures in
    let p = c.parts.ensures in
    number_split _ _ _ _ f.number f.found.cut ∙ ap₂ (λ b x. b ++ x) (sym p.body) (sym p.suffix)

pub parts-requires : goal.parts-requires
parts-requires c = c.in_ok-found.ensures.found.stands
