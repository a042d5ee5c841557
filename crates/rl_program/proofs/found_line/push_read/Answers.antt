use Rattle.std.proofs.Common.{◌≡◌, refl, rules}
use Rattle.rl_syntax.specs.declared.kind.Kind.TheVariants.{Byte, Char}
use Rattle.rl_program.proofs.FoundLineLemmas.{unit_shown}
use Rattle.rl_program.proofs.found_line.push_read.Goals as goal

pub push_written-requires-in-Byte-clause-shown : goal.push_written-requires-in-Byte-clause-shown
push_written-requires-in-Byte-clause-shown g c =
    unit_shown c.byte_character-written.result Byte c.args.text.now c.args.found.now c.in-Byte.is refl refl
    c.requires.found c.byte_character-written.ensures.text

pub push_written-requires-in-Char-clause-shown : goal.push_written-requires-in-Char-clause-shown
push_written-requires-in-Char-clause-shown g c =
    let same : c.unwrap.result ≡ c.args.found.now.unit = search rules in
    unit_shown c.character-written.result Char c.args.text.now c.args.found.now c.in-Char.is refl refl c.requires.found
    (rw same at c.character-written.ensures.text)

pub returns-in-Str : goal.returns-in-Str
returns-in-Str g c = rw c.in-Str.is c.push_string.ensures
