-- Each iteration of the loop over the settings of a text reads one more setting. At the end of the text all settings
-- have been read.
use Rattle.rl_syntax.proofs.Common.{rules, ◌≡◌, ◌≢◌, ◌∷◌, [], ◌++◌, ◌∙◌, sym}
use Rattle.rl_cursors.proofs.SettingLemmas.{some_rest}
use Rattle.rust_literals.proofs.FlatLemmas.{empty_text}
use Rattle.rl_attributes.proofs.FlatSettings.{takes_attribute}
use Rattle.rl_attributes.proofs.FlatEntries.{flat_first, flat_next, flat_end}
use Rattle.rl_attributes.proofs.attributes.whole.read_flat.Goals as goal

pub loop-tokens-init : goal.loop-tokens-init
loop-tokens-init g c = record {
  at = flat_first c.args.text.now c.new-tokens.result.rest c.args.file c.new-entries.result.items c.new-names.result
      c.new-entries.ensures.items c.new-names.ensures.empty c.new-tokens.ensures.skipped;
  same = c.new-tokens.ensures.text;
}

pub loop-tokens-preserved : goal.loop-tokens-preserved
loop-tokens-preserved g c =
    let old = c.loop-tokens.tokens in
    let new = c.next_setting.new.tokens in
    let some : old.rest ≢ [] = some_rest old.rest c.rest.result.now c.is_empty.result c.rest.ensures c.is_empty.ensures
    c.loop-tokens-test.true in
    let grown : c.push.new.self.items ≡ c.loop-tokens.entries.items ++ (c.in-Ok.entry ∷ []) = search rules in
    record {
      at = flat_next c.args.text.now c.args.file c.loop-tokens.entries.items c.push.new.self.items c.loop-tokens.names
          c.add_name.new.names old new c.in-Setting.next c.in-Ok.entry c.loop-tokens.invariant.same
          c.loop-tokens.invariant.at some c.in-Setting.ensures.0 c.in-Ok.ensures
          (c.add_name.ensures.anew c.if-not-add_name.false) (c.add_name.ensures.adds c.if-not-add_name.false) grown;
      same = (takes_attribute c.args.file old new c.in-Setting.next c.in-Setting.ensures.0).takes.same
          ∙ c.loop-tokens.invariant.same;
    }

pub returns-clause-attributes : goal.returns-clause-attributes
returns-clause-attributes g c =
    let ends : c.loop-tokens.tokens.rest ≡ [] = sym c.rest.ensures
    ∙ empty_text c.rest.result.now (sym c.is_empty.ensures ∙ c.loop-tokens-test.false) in
    flat_end c.args.text.now c.loop-tokens.tokens.rest c.args.file c.loop-tokens.entries.items c.loop-tokens.names
    c.loop-tokens.invariant.at ends

pub invariant_of-result : goal.invariant_of-result
invariant_of-result g c =
    let at = c.loop-tokens.invariant.at in record { differ = at.differ; read = λ k d lt. ∣ at.read k d lt ∣₁ }
