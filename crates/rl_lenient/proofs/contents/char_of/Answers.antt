use Rattle.rl_syntax.proofs.Common.{[], ◌∷◌, refl, subst, sym}
use Rattle.rl_lenient.proofs.Names.{Char, Characters, HasContents}
use Rattle.std.specs.Str.{chars}
use Rattle.rl_lenient.proofs.FoundContents.{unit_of}
use Rattle.rl_lenient.proofs.contents.char_of.Goals as goal

pub parse_known_literal-requires : goal.parse_known_literal-requires
parse_known_literal-requires c = (Char, c.requires)

pub unreachable-requires : goal.unreachable-requires
unreachable-requires c =
    let f = c.parse_known_literal.ensures in c.in-None.ensures.value ((unit_of Char _ _ (f.kind Char c.requires) refl
    f.found).character refl)

pub returns : goal.returns
returns c =
    let f = c.parse_known_literal.ensures in
    record { reads = subst (λ n. HasContents Char (chars c.args.text.now) (Characters (n ∷ []))) (sym c.in-Some.ensures.value.1) (unit_of Char _ _ (f.kind Char c.requires) refl f.found).reads }
