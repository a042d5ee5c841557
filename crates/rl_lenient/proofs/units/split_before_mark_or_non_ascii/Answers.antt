use Rattle.rl_syntax.proofs.Common.{◌≡◌, ◌++◌, take, drop, sym, subst, ap, ap₂, ◌∙◌, rules, IsCharBoundary, list_all, prefix_len}
use Rattle.rl_lenient.proofs.Names.{first_passes, is_ascii_other}
use Rattle.std.specs.Str.{chars}
use Rattle.rl_lenient.proofs.ByteRunLemmas.{other_cut}
use Rattle.rl_lenient.proofs.units.split_before_mark_or_non_ascii.Goals as goal

pub split_at-requires : goal.split_at-requires
split_at-requires c =
    let q = is_ascii_other c.args.marks in
    let t = c.args.text.now in
    subst (IsCharBoundary t) (sym (c.ascii_len_before_mark.ensures ∙ ap (prefix_len q) c.as_bytes.ensures.value))
    (other_cut c.args.marks t c.utf8.text).boundary

pub returns : goal.returns
returns c =
    let q = is_ascii_other c.args.marks in
    let t = c.args.text.now in
    let run = other_cut c.args.marks t c.utf8.text in
    let len : c.ascii_len_before_mark.result ≡ prefix_len q t = c.ascii_len_before_mark.ensures
    ∙ ap (prefix_len q) c.as_bytes.ensures.value in
    let front : take (prefix_len q t) t ≡ c.split_at.result.0.now = ap (λ n. take n t) (sym len)
    ∙ sym c.split_at.ensures.front in
    let back : drop (prefix_len q t) t ≡ c.split_at.result.1.now = ap (λ n. drop n t) (sym len)
    ∙ sym c.split_at.ensures.back in
    record {
      cut = run.cut ∙ ap₂ (λ a b. chars a ++ chars b) front back;
      run = ap (λ a. list_all q (chars a)) (sym front) ∙ run.plain;
      stops = ap (λ b. first_passes q (chars b)) (sym back) ∙ run.stops;
      shorter = search rules;
    }
