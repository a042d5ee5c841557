use Rattle.rl_syntax.proofs.Common.{ℕ, ◌≡◌, ◌-◌, ◌<◌, length, List, refl, sym, ◌∙◌, subst, arith, IsUtf8, IsCharBoundary}
use Rattle.rl_lexer.specs.declared.cursor.Lexeme.{Lexeme}
use Rattle.rl_lexer.specs.Cursors.{CursorState}
use Rattle.rl_cursors.specs.SettingSteps.{HasNo}
use Rattle.rl_cursors.specs.EntrySteps.{IsDotForm, JoinsName, BeginsDottedName}
use Rattle.rl_cursors.proofs.EntryLemmas.{name_begins, name_goes_on, name_boundary, name_text, slice_front, holds_of_some, none_of}
use Rattle.rl_cursors.proofs.entries.take_dotted_name.Goals as goal

pub loop-part-init : goal.loop-part-init
loop-part-init c = record {
  name = name_begins c.args.tokens.now c.take_name.new.tokens c.in_ok-first.first
      (subst (λ (r : List ℕ). IsUtf8 r) c.rest-rest.ensures c.rest-rest.utf8) c.in_ok-first.ensures.taken;
  shorter = c.in_ok-first.ensures.shorter;
}

pub loop-part-preserved : goal.loop-part-preserved
loop-part-preserved c =
    let part = c.in-Some.part in
    let at = c.loop-part in
    let new = c.take_part.new.tokens in
    let shorter = holds_of_some (λ (l : Lexeme). length new.rest < length at.tokens.rest) c.in_ok-part.field-0 part c.in-Some.is
    c.in_ok-part.ensures.shorter in
    record {
      name = name_goes_on c.args.tokens.now at.tokens new c.in_ok-first.first part at.hi at.invariant.name
          (holds_of_some (λ (l : Lexeme). JoinsName at.hi at.tokens l new) c.in_ok-part.field-0 part c.in-Some.is
          c.in_ok-part.ensures.joins);
      shorter = omega (arith, shorter, at.invariant.shorter);
    }

pub range-requires-clause-end_boundary : goal.range-requires-clause-end_boundary
range-requires-clause-end_boundary c =
    let at = c.loop-part in
    subst (λ (r : List ℕ). IsCharBoundary r (at.hi - c.in_ok-first.first.lo)) (sym c.rest-rest.ensures)
    (name_boundary c.args.tokens.now at.tokens c.in_ok-first.first at.hi at.invariant.name)

pub returns-clause-taken : goal.returns-clause-taken
returns-clause-taken c =
    let at = c.loop-part in
    let first = c.in_ok-first.first in
    let name = at.invariant.name in
    let same = none_of (c.take_part.new.tokens ≡ at.tokens) c.in_ok-part.field-0 c.in_default.not-Some
    c.in_ok-part.ensures.stays in
    record {
      first = first;
      parts = name.parts;
      begins = subst (λ (t : CursorState). BeginsDottedName c.args.tokens.now first name.parts t at.hi) (sym same)
          name.begins;
      ends = subst (λ (t : CursorState). HasNo IsDotForm t) (sym same)
          (none_of (HasNo IsDotForm at.tokens) c.in_ok-part.field-0 c.in_default.not-Some c.in_ok-part.ensures.none);
      lo = refl;
      text = c.range.ensures.value
          ∙ slice_front c.rest-rest.result.now c.args.tokens.now.rest (at.hi - first.lo) c.rest-rest.ensures
          ∙ name_text c.args.tokens.now at.tokens first at.hi name;
    }
