use Rattle.rl_strict.proofs.Names.{[], refl, chars}
use Rattle.rl_strict.proofs.StrictRawLemmas.{c_run, inside_run, str_run}
use Rattle.rl_strict.proofs.strict.skip_raw_characters.Goals as goal

pub returns-in-Str-clause-run : goal.returns-in-Str-clause-run
returns-in-Str-clause-run c = rw c.in-Str.is (
  _,
  c.split_before_mark.ensures.cut,
  str_run _ (chars c.split_before_mark.result.0.now) refl
      c.split_before_mark.ensures.others,
)

pub returns-in-CStr-clause-run : goal.returns-in-CStr-clause-run
returns-in-CStr-clause-run c = rw c.in-CStr.is (
  _,
  c.split_before_mark-in-CStr.ensures.cut,
  c_run
      (chars c.split_before_mark-in-CStr.result.0.now) c.split_before_mark-in-CStr.ensures.others,
)

pub returns-in-ByteStr-clause-run : goal.returns-in-ByteStr-clause-run
returns-in-ByteStr-clause-run c = rw c.in-ByteStr.is (
  _,
  c.split_before_mark_or_non_ascii.ensures.cut,
  inside_run _
      (chars c.split_before_mark_or_non_ascii.result.0.now) refl c.split_before_mark_or_non_ascii.ensures.run,
)

pub returns-in_default-clause-run : goal.returns-in_default-clause-run
returns-in_default-clause-run c = ([], refl, refl)
