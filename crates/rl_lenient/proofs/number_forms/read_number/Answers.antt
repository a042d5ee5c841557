use Rattle.rl_syntax.proofs.Common.{sym, refl, ◌∙◌}
use Rattle.std.specs.Str.{chars}
use Rattle.rl_syntax.proofs.TailLemmas.{if_none}
use Rattle.rl_lenient.proofs.FloatLemmas.{no_float, float_sound}
use Rattle.rl_lenient.proofs.HeadLemmas.{no_head_int, no_head_float, head_int}
use Rattle.rl_lenient.proofs.IntegerLemmas.{no_int, is_past_at, is_within_at}
use Rattle.rl_lenient.proofs.NumberLemmas.{no_number, past_number}
use Rattle.rl_lenient.proofs.number_forms.read_number.Goals as goal

pub returns-in_err-head-clause-none : goal.returns-in_err-head-clause-none
returns-in_err-head-clause-none c =
    let t = chars c.args.text.now in
    let no_digit = c.in_err-head.ensures.none in
    if_none _ (no_number t (no_int t (no_head_int t no_digit)) (no_float t (no_head_float t no_digit)))

pub returns-in_err-integer-in-Some-clause-none : goal.returns-in_err-integer-in-Some-clause-none
returns-in_err-integer-in-Some-clause-none c =
    let t = chars c.args.text.now in
    let value = c.in-Some.ensures.value ∙ head_int t _ _ _ _ c.in_ok-head.ensures.head in
    if_none _ (past_number t (is_past_at t _ _ value c.in_err-integer-in-Some.was))

pub returns-in_err-head_suffix-in-None-clause-none : goal.returns-in_err-head_suffix-in-None-clause-none
returns-in_err-head_suffix-in-None-clause-none c =
    let t = chars c.args.text.now in
    let none = no_int t (c.in-None.ensures.value ∙ head_int t _ _ _ _ c.in_ok-head.ensures.head) in
    if_none _ (no_number t none (no_float t c.in_err-head_suffix-in-None.ensures.value))

pub returns-in_ok-integer-in-Some-clause-reads : goal.returns-in_ok-integer-in-Some-clause-reads
returns-in_ok-integer-in-Some-clause-reads c =
    let t = chars c.args.text.now in
    let value = c.in-Some.ensures.value ∙ head_int t _ _ _ _ c.in_ok-head.ensures.head in (
      is_within_at t _ _ _ _ value c.in_ok-integer-in-Some.was refl,
      rw c.in-Some.ensures.suffix
          c.in_ok-head.ensures.following,
    )

pub returns-in_ok-head_suffix-in-None-clause-reads : goal.returns-in_ok-head_suffix-in-None-clause-reads
returns-in_ok-head_suffix-in-None-clause-reads c =
    let t = chars c.args.text.now in
    let none = no_int t (c.in-None.ensures.value ∙ head_int t _ _ _ _ c.in_ok-head.ensures.head) in (
      float_sound t _ (sym c.in_ok-head_suffix-in-None.ensures.value),
      none,
      c.in_ok-head_suffix-in-None.ensures.following,
    )
