use Rattle.rl_lenient.proofs.Names.{Byte, ByteStr, CStr, Char, Float, Int, Str, truth_text}
use Rattle.std.proofs.Common.{ap, inl, inr, sym, ◌∙◌}
use Rattle.rust_literals.proofs.LitLemmas.{found_as, found_lent, on_err, read_truth, some_found}
use Rattle.rust_literals.proofs.lit.Lit.of_found.Goals as goal

pub returns-in_err-of_found-in-Int-clause-borrowed : goal.returns-in_err-of_found-in-Int-clause-borrowed
returns-in_err-of_found-in-Int-clause-borrowed g c =
    on_err _ _ (found_lent Int c.args.token.text c.in-Some.found (some_found _ _ _ c.in-Some.is c.requires.found)
    c.in-Int.is c.in_err-of_found-in-Int.ensures.borrowed)

pub returns-in_ok-of_found-in-Float-clause-reads : goal.returns-in_ok-of_found-in-Float-clause-reads
returns-in_ok-of_found-in-Float-clause-reads g c = (
  c.in_ok-of_found-in-Float.ensures.ok,
  found_as Float c.args.token.text _ c.in-Some.found c.in-Some.is
      c.requires.found c.in-Float.is,
)

pub returns-in_err-of_found-in-Float-clause-numbers_alone : goal.returns-in_err-of_found-in-Float-clause-numbers_alone
returns-in_err-of_found-in-Float-clause-numbers_alone g c =
    on_err _ _ (inr (found_as Float c.args.token.text _ c.in-Some.found c.in-Some.is c.requires.found c.in-Float.is))

pub returns-in_err-of_found-in-Float-clause-borrowed : goal.returns-in_err-of_found-in-Float-clause-borrowed
returns-in_err-of_found-in-Float-clause-borrowed g c =
    on_err _ _ (found_lent Float c.args.token.text c.in-Some.found (some_found _ _ _ c.in-Some.is c.requires.found)
    c.in-Float.is c.in_err-of_found-in-Float.ensures.borrowed)

pub returns-in-Bool-clause-reads : goal.returns-in-Bool-clause-reads
returns-in-Bool-clause-reads g c =
    let token = c.args.token in
    let word = (some_found _ _ _ c.in-Some.is c.requires.found).truth c.in-Bool.is in
    read_truth token c.new.result.value c.new.result.span
    (word ∙ ap truth_text (sym (ap (λ l. l.value) c.new.ensures)))
    (ap (λ l. l.span) c.new.ensures ∙ c.span.ensures)

pub returns-in-Str-clause-reads : goal.returns-in-Str-clause-reads
returns-in-Str-clause-reads g c = (
  c.of_found.ensures,
  found_as Str c.args.token.text _ c.in-Some.found c.in-Some.is
      c.requires.found c.in-Str.is,
)

pub returns-in-ByteStr-clause-reads : goal.returns-in-ByteStr-clause-reads
returns-in-ByteStr-clause-reads g c = (
  c.of_found-in-ByteStr.ensures,
  found_as ByteStr c.args.token.text _
      c.in-Some.found c.in-Some.is c.requires.found c.in-ByteStr.is,
)

pub returns-in-CStr-clause-reads : goal.returns-in-CStr-clause-reads
returns-in-CStr-clause-reads g c = (
  c.of_found-in-CStr.ensures,
  found_as CStr c.args.token.text _ c.in-Some.found
      c.in-Some.is c.requires.found c.in-CStr.is,
)

pub returns-in-Byte-clause-reads : goal.returns-in-Byte-clause-reads
returns-in-Byte-clause-reads g c = (
  c.of_found-in-Byte.ensures,
  found_as Byte c.args.token.text _ c.in-Some.found
      c.in-Some.is c.requires.found c.in-Byte.is,
)

pub returns-in-Char-clause-reads : goal.returns-in-Char-clause-reads
returns-in-Char-clause-reads g c = (
  c.of_found-in-Char.ensures,
  found_as Char c.args.token.text _ c.in-Some.found
      c.in-Some.is c.requires.found c.in-Char.is,
)

pub returns-in_ok-of_found-in-Int-clause-reads : goal.returns-in_ok-of_found-in-Int-clause-reads
returns-in_ok-of_found-in-Int-clause-reads g c = (
  c.in_ok-of_found-in-Int.ensures.ok,
  found_as Int c.args.token.text _ c.in-Some.found c.in-Some.is c.requires.found
      c.in-Int.is,
)

pub returns-in_err-of_found-in-Int-clause-numbers_alone : goal.returns-in_err-of_found-in-Int-clause-numbers_alone
returns-in_err-of_found-in-Int-clause-numbers_alone g c =
    on_err _ _ (inl (found_as Int c.args.token.text _ c.in-Some.found c.in-Some.is c.requires.found c.in-Int.is))
