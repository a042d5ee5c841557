use Rattle.rl_strict.proofs.Names.{rules, arith, IsUtf8, chars}
use Rattle.rl_strict.proofs.EndLemmas.{step_in}
use Rattle.rl_strict.proofs.FilePlaces.{rest_length}
use Rattle.rl_strict.proofs.strict_reading.flaw_with_offsets.Goals as goal

pub overflow_sub-result : goal.overflow_sub-result
overflow_sub-result c =
    let piece : IsUtf8 c.args.found.piece.now = search rules in
    omega (arith, rest_length c.args.ends c.args.text.now c.args.found.piece.now c.utf8.text piece c.requires.piece)

pub overflow_sub-result-2 : goal.overflow_sub-result-2
overflow_sub-result-2 c =
    let rest : IsUtf8 c.args.found.rest.now = search rules in
    omega (arith, rest_length c.args.ends c.args.text.now c.args.found.rest.now c.utf8.text rest c.requires.rest)

pub overflow_sub-result-3 : goal.overflow_sub-result-3
overflow_sub-result-3 c =
    let rest : IsUtf8 c.args.found.rest.now = search rules in
    omega (
      arith,
      c.skip_first_char-after.ensures.shorter,
      rest_length c.args.ends c.args.text.now c.args.found.rest.now c.utf8.text rest c.requires.rest,
    )

pub returns-clause-from : goal.returns-clause-from
returns-clause-from c =
    let piece : IsUtf8 c.args.found.piece.now = search rules in
    record {
      is_rest = c.requires.piece;
      at_is = omega (arith, rest_length c.args.ends c.args.text.now c.args.found.piece.now c.utf8.text piece c.requires.piece);
    }

pub returns-clause-lo : goal.returns-clause-lo
returns-clause-lo c =
    let rest : IsUtf8 c.args.found.rest.now = search rules in
    record {
      is_rest = c.requires.rest;
      at_is = omega (arith, rest_length c.args.ends c.args.text.now c.args.found.rest.now c.utf8.text rest c.requires.rest);
    }

pub returns-clause-hi : goal.returns-clause-hi
returns-clause-hi c =
    let is_rest = step_in c.args.ends _ _ _ c.requires.rest c.skip_first_char-after.ensures.rest in
    record {
      after = chars c.skip_first_char-after.result.now;
      place = record {
        is_rest = is_rest;
        at_is = omega (
          arith,
          rest_length c.args.ends c.args.text.now c.skip_first_char-after.result.now c.utf8.text c.skip_first_char-after.utf8 is_rest,
        );
      };
      after_is = c.skip_first_char-after.ensures.read;
    }
