use Rattle.rl_syntax.proofs.Common.{◌≡◌, ◌++◌, take, drop, sym, subst, ap, ap₂, ◌∙◌, rules, IsCharBoundary, list_all, prefix_len}
use Rattle.rl_lenient.proofs.Names.{first_passes, is_plain}
use Rattle.std.specs.Str.{chars}
use Rattle.rl_lenient.proofs.ByteRunLemmas.{plain_cut}
use Rattle.rl_lenient.proofs.units.split_plain.Goals as goal

pub split_at-requires : goal.split_at-requires
split_at-requires c =
    let q = is_plain c.args.kind in
    let t = c.args.text.now in
    subst (IsCharBoundary t) (sym (c.plain_len.ensures ∙ ap (prefix_len q) c.as_bytes.ensures.value))
    (plain_cut c.args.kind t c.requires c.utf8.text).boundary

pub returns : goal.returns
returns c =
    let q = is_plain c.args.kind in
    let t = c.args.text.now in
    let run = plain_cut c.args.kind t c.requires c.utf8.text in
    let len : c.plain_len.result ≡ prefix_len q t = c.plain_len.ensures ∙ ap (prefix_len q) c.as_bytes.ensures.value in
    let front : take (prefix_len q t) t ≡ c.split_at.result.0.now = ap (λ n. take n t) (sym len)
    ∙ sym c.split_at.ensures.front in
    let back : drop (prefix_len q t) t ≡ c.split_at.result.1.now = ap (λ n. drop n t) (sym len)
    ∙ sym c.split_at.ensures.back in
    record {
      cut = run.cut ∙ ap₂ (λ a b. chars a ++ chars b) front back;
      plain = ap (λ a. list_all q (chars a)) (sym front) ∙ run.plain;
      stops = ap (λ b. first_passes q (chars b)) (sym back) ∙ run.stops;
      shorter = search rules;
    }
