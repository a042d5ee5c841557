use Rattle.std.proofs.lemmas.Result.{IfOk-weaker}
use Rattle.rl_attributes.specs.AttributeParsing.{entries_of}
use Rattle.rl_uses.proofs.path.backslash_in_path.Goals as goal

pub returns : goal.returns
returns g c =
    IfOk-weaker c.backslash_set.result _ _ (λ found h. record {
      entries = entries_of c.in_ok-attrs.attrs;
      are = c.in_ok-attrs.ensures.attributes;
      found_is = h;
    }) c.backslash_set.ensures
