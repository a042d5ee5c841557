use Rattle.rl_syntax.proofs.Common.{◌≡◌, ◌∙◌, [], ◌∷◌, ◌++◌, ap, sym, refl, rules, and_from, append_cancel_right, chars-nil, list_all, IsUtf8}
use Rattle.rl_lenient.proofs.Names.{first_passes, is_plain}
use Rattle.std.specs.Str.{chars}
use Rattle.rl_lenient.proofs.CutLemmas.{tail_chars}
use Rattle.rl_cursors.proofs.segments.split_run.Goals as goal

pub returns-then-is_string-clause-stops : goal.returns-then-is_string-clause-stops
returns-then-is_string-clause-stops c = λ none.
    let cut = c.split_plain.ensures in
    let whole = cut.cut ∙ ap (λ z. chars z ++ chars c.split_plain.result.1.now) none
    ∙ ap (λ z. z ++ chars c.split_plain.result.1.now) chars-nil in
    ap (first_passes (is_plain c.args.kind)) whole ∙ cut.stops

pub returns-then-is_string-clause-following : goal.returns-then-is_string-clause-following
returns-then-is_string-clause-following c =
    let following : IsUtf8 c.split_plain.result.1.now = search rules in
    tail_chars _ _ _ c.utf8.text following c.split_plain.ensures.cut

pub returns-in-Some-clause-plain : goal.returns-in-Some-clause-plain
returns-in-Some-clause-plain c =
    let one : chars c.before-in-Some.result.now ≡ c.in-Some.c ∷ [] = append_cancel_right _ _ (chars c.in-Some.rest.now)
    (sym c.before-in-Some.ensures.chars ∙ c.in-Some.ensures.chars) in
    ap (list_all (is_plain c.args.kind)) one ∙ and_from _ _ (sym c.is_plain_char.ensures ∙ c.if-is_plain_char.true) refl

pub returns-in_default-clause-cut : goal.returns-in_default-clause-cut
returns-in_default-clause-cut c = ap (λ z. z ++ chars c.args.text.now) (sym chars-nil)

pub returns-in_default-clause-plain : goal.returns-in_default-clause-plain
returns-in_default-clause-plain c = ap (list_all (is_plain c.args.kind)) chars-nil
