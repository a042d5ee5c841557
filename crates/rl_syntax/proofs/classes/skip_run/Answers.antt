use Rattle.rl_syntax.proofs.Common.{◌≡◌, drop, sym, subst, ap, ◌∙◌, chars, IsCharBoundary, prefix_len}
use Rattle.rl_syntax.specs.Texts.{IsTail}
use Rattle.rl_syntax.specs.Classes.{after_run, class_test}
use Rattle.rl_syntax.specs.Mirrors.RunsAt.{is_run_byte}
use Rattle.rl_syntax.proofs.LaneLemmas.{said}
use Rattle.rl_syntax.proofs.AsciiRuns.{held_cut, run_past, run_ended}
use Rattle.rl_syntax.proofs.TailLemmas.{tail_step}
use Rattle.rl_syntax.proofs.classes.skip_run.Goals as goal

pub range_from-rest-requires : goal.range_from-rest-requires
range_from-rest-requires g c =
    let q = is_run_byte (said g.row.WORD) in
    let t = c.args.text.now in
    λ _. subst (IsCharBoundary t) (sym (c.run_len.ensures ∙ ap (prefix_len q) c.as_bytes.ensures.value))
    (held_cut (said g.row.WORD) t c.utf8.text).boundary

pub returns-in-Some-clause-rest : goal.returns-in-Some-clause-rest
returns-in-Some-clause-rest g c =
    let q = is_run_byte (said g.row.WORD) in
    let t = c.args.text.now in
    let len : c.run_len.result ≡ prefix_len q t = c.run_len.ensures ∙ ap (prefix_len q) c.as_bytes.ensures.value in
    run_ended (said g.row.WORD) t c.range_from-rest.result.now _ _ c.utf8.text
    (c.range_from-rest.ensures.value ∙ ap (λ n. drop n t) len) c.in-Some.ensures.some c.in-Some.ensures.ascii

pub returns-in-Some-clause-following : goal.returns-in-Some-clause-following
returns-in-Some-clause-following g c =
    let q = is_run_byte (said g.row.WORD) in
    let t = c.args.text.now in
    let len : c.run_len.result ≡ prefix_len q t = c.run_len.ensures ∙ ap (prefix_len q) c.as_bytes.ensures.value in
    subst (IsTail t) (sym (c.range_from-rest.ensures.value ∙ ap (λ n. drop n t) len))
    (held_cut (said g.row.WORD) t c.utf8.text).behind

pub returns-in-None-clause-rest : goal.returns-in-None-clause-rest
returns-in-None-clause-rest g c =
    let q = is_run_byte (said g.row.WORD) in
    let t = c.args.text.now in
    let len : c.run_len.result ≡ prefix_len q t = c.run_len.ensures ∙ ap (prefix_len q) c.as_bytes.ensures.value in
    c.skip_wide_class.ensures.rest ∙ ap (λ k. after_run (class_test k) (chars c.range_from-rest.result.now))
    c.run_class.ensures ∙ sym (run_past (said g.row.WORD) t c.range_from-rest.result.now c.utf8.text
    (c.range_from-rest.ensures.value ∙ ap (λ n. drop n t) len))

pub returns-in-None-clause-following : goal.returns-in-None-clause-following
returns-in-None-clause-following g c =
    let q = is_run_byte (said g.row.WORD) in
    let t = c.args.text.now in
    let len : c.run_len.result ≡ prefix_len q t = c.run_len.ensures ∙ ap (prefix_len q) c.as_bytes.ensures.value in
    tail_step _ _ _ (subst (IsTail t) (sym (c.range_from-rest.ensures.value ∙ ap (λ n. drop n t) len))
    (held_cut (said g.row.WORD) t c.utf8.text).behind) c.skip_wide_class.ensures.following
