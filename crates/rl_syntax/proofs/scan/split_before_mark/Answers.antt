use Rattle.rl_syntax.proofs.Common.{◌≡◌, ◌++◌, take, drop, sym, subst, ap, ap₂, ◌∙◌, rules, chars, IsCharBoundary, list_all, prefix_len}
use Rattle.rl_syntax.specs.Texts.{first_passes, IsTail}
use Rattle.rl_syntax.specs.Scanning.{is_other}
use Rattle.rl_syntax.proofs.ScanLemmas.{other_high, run_boundary, run_tail, run_cut, run_plain, run_stop}
use Rattle.rl_syntax.proofs.scan.split_before_mark.Goals as goal

pub split_at-requires : goal.split_at-requires
split_at-requires c =
    let q = is_other c.args.marks in
    let high = other_high c.args.marks c.requires in
    let t = c.args.text.now in
    subst (IsCharBoundary t) (sym (c.len_before_near_mark.ensures ∙ ap (prefix_len q) c.as_bytes.ensures.value))
    (run_boundary q high t)

pub returns : goal.returns
returns c =
    let q = is_other c.args.marks in
    let high = other_high c.args.marks c.requires in
    let t = c.args.text.now in
    let len : c.len_before_near_mark.result ≡ prefix_len q t = c.len_before_near_mark.ensures
    ∙ ap (prefix_len q) c.as_bytes.ensures.value in
    let front : take (prefix_len q t) t ≡ c.split_at.result.0.now = ap (λ n. take n t) (sym len)
    ∙ sym c.split_at.ensures.front in
    let back : drop (prefix_len q t) t ≡ c.split_at.result.1.now = ap (λ n. drop n t) (sym len)
    ∙ sym c.split_at.ensures.back in
    record {
      cut = run_cut q high t c.utf8.text ∙ ap₂ (λ a b. chars a ++ chars b) front back;
      others = ap (λ a. list_all q (chars a)) (sym front) ∙ run_plain q high t c.utf8.text;
      stops = ap (λ b. first_passes q (chars b)) (sym back) ∙ run_stop q high t c.utf8.text;
      following = subst (IsTail t) back (run_tail q high t c.utf8.text);
      shorter = search rules;
    }
