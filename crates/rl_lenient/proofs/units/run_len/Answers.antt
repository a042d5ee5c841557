use Rattle.rl_syntax.proofs.Common.{◌≡◌, ap, sym, ◌∙◌, prefix_len}
use Rattle.rl_lenient.proofs.Names.{Str, ByteStr, CStr, is_plain}
use Rattle.rl_lenient.proofs.PlainLemmas.{same_prefix, in_run_other, other_string}
use Rattle.rl_lenient.proofs.units.run_len.Goals as goal

no_bytes : CStr ≡ ByteStr → ⊥
no_bytes e = absurd (cc)

bytes_no : Str ≡ ByteStr → ⊥
bytes_no e = absurd (cc)

pub returns-in-CStr : goal.returns-in-CStr
returns-in-CStr c =
    c.len_before_mark.ensures
    ∙ same_prefix _ (is_plain CStr) c.args.bytes.now (λ x. in_run_other CStr _ x no_bytes ∙ c.ends_of_runs.ensures x)
    ∙ ap (λ k. prefix_len (is_plain k) c.args.bytes.now) (sym c.in-CStr.is)

pub returns-in_default : goal.returns-in_default
returns-in_default c =
    c.len_before_mark-in_default.ensures
    ∙ same_prefix _ (is_plain Str) c.args.bytes.now (λ x. in_run_other Str _ x bytes_no
    ∙ c.ends_of_runs-in_default.ensures x)
    ∙ ap (λ k. prefix_len (is_plain k) c.args.bytes.now) (sym (other_string c.args.kind c.requires.string
    c.requires.other c.in_default.not-CStr))
