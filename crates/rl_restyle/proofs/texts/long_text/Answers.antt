use Rattle.rl_syntax.proofs.Common.{Some, ap, arith, both_ways, common_steps, chars, refl, rules, string_bytes, subst, sym, take, ◌≡◌, ◌∙◌}
use Rattle.std.proofs.lemmas.Slice.Eq.{bytes_eq-Decides}
use Rattle.rl_style.specs.Rewriting.{Rewrites}
use Rattle.rl_style.proofs.OneAnswer.{one_answer}
use Rattle.rl_restyle.proofs.NewTexts.{no_other, same_bytes, text_made}
use Rattle.rl_restyle.proofs.texts.long_text.Goals as goal

pub returns-in_default : goal.returns-in_default
returns-in_default g c = no_other c.args.style (chars c.args.front.now) (chars c.args.text.now) c.in_default.field-0
    c.in_default.ensures.flaw

pub returns-then-eq : goal.returns-then-eq
returns-then-eq g c =
    let new = c.from_utf8_unchecked-new.result in
    let kept : c.truncate.new.self.items ≡ string_bytes new = search rules in
    let cut : take c.in-Ok.len c.rewrite_within.new.out ≡ c.truncate.new.self.items =
    grind (arith, common_steps) steps 200000 in
    let bytes : take c.in-Ok.len c.rewrite_within.new.out ≡ string_bytes new = cut ∙ kept in
    let rewrites = subst (λ z. Rewrites c.args.style (chars c.args.front.now) (chars c.args.text.now) (chars z)) bytes
    c.in-Ok.ensures.written in
    λ other is. one_answer c.args.style (chars c.args.front.now) (chars c.args.text.now) other (chars (string_bytes new)) is
    rewrites ∙ ap chars (sym c.as_str.ensures.value
    ∙ (bytes_eq-Decides c.as_str.result.now c.args.text.now).0 (sym c.if-eq.ensures))

pub returns-else-eq : goal.returns-else-eq
returns-else-eq g c =
    let new = c.from_utf8_unchecked-new.result in
    let kept : c.truncate.new.self.items ≡ string_bytes new = search rules in
    let cut : take c.in-Ok.len c.rewrite_within.new.out ≡ c.truncate.new.self.items =
    grind (arith, common_steps) steps 200000 in
    let bytes : take c.in-Ok.len c.rewrite_within.new.out ≡ string_bytes new = cut ∙ kept in
    text_made c.args.style (chars c.args.front.now) (chars c.args.text.now) (chars (string_bytes new)) (Some new)
    (subst (λ z. Rewrites c.args.style (chars c.args.front.now) (chars c.args.text.now) (chars z)) bytes
    c.in-Ok.ensures.written) tt refl
    (λ same. both_ways _ (sym c.if-eq.ensures) ((bytes_eq-Decides c.as_str.result.now c.args.text.now).1
    (same_bytes c.as_str.result.now c.args.text.now c.as_str.utf8 c.utf8.text
    (ap chars c.as_str.ensures.value ∙ same))))
