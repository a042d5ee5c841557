use Rattle.std.proofs.Common.{List, subst, sym, inl, inr, refl}
use Rattle.std.proofs.lemmas.Result.{IfErr-weaker}
use Rattle.rl_attributes.specs.Attributes.{Attribute}
use Rattle.rl_uses.specs.Jobs.{IsJob}
use Rattle.rl_uses.proofs.jobs.read_job.Goals as goal

pub returns-in-Ok-clause-exactly : goal.returns-in-Ok-clause-exactly
returns-in-Ok-clause-exactly g c =
    λ name tries reports m. c.job_of.ensures.exactly name tries reports
    (subst (λ (y : List Attribute). IsJob y name tries reports) (sym (c.in-Ok.ensures.exactly m.list m.are)) m.job)

pub returns-in-Err-clause-exactly : goal.returns-in-Err-clause-exactly
returns-in-Err-clause-exactly g c = λ name tries reports m. c.in-Err.ensures.exactly m.list m.are

pub returns-in-Ok-clause-rejected : goal.returns-in-Ok-clause-rejected
returns-in-Ok-clause-rejected g c =
    IfErr-weaker c.job_of.result _ _ (λ e h. inr (record {
      attrs = c.in-Ok.attrs;
      are = c.in-Ok.ensures.attributes;
      end = c.in-Ok.ensures.end;
      rejects = h;
    })) c.job_of.ensures.rejected

pub returns-in-Err-clause-rejected : goal.returns-in-Err-clause-rejected
returns-in-Err-clause-rejected g c = inl (c.in-Err.error, refl, c.in-Err.ensures.rejected)
