use Rattle.rl_strict.proofs.Names.{◌∙◌, ap, inl, inr, refl, rules, sym, chars, RawForm}
use Rattle.rl_strict.proofs.EndLemmas.{nil_of, step_in}
use Rattle.rl_strict.proofs.StrictRawFlaws.{walk_end}
use Rattle.rl_strict.proofs.WalkForms.{good_suffix, inside_in, inside_past, raw_bad, raw_good, raw_held, raw_quote, raw_suffix_in, raw_unclosed, some_front, stop_closed, stop_held, stop_on}
use Rattle.rl_strict.proofs.walk.parse_raw_content.Goals as goal

pub loop-c-init : goal.loop-c-init
loop-c-init c =
    let (run, e, each) = c.skip_raw_characters-closing.ensures.run in
    record {
      utf8 = search rules;
      same = inside_past c.args.ends _ _ _ _ run _ e each refl;
      is_rest = inside_in c.args.ends _ _ _ run e each;
    }

pub loop-c-preserved : goal.loop-c-preserved
loop-c-preserved c =
    let (n, few, h) = c.requires.hashes in
    let (run, e, each) = c.skip_raw_characters-closing-in-Some.ensures.run in
    let on = stop_on c.args.ends c.args.kind n c.in-Some.c (chars c.args.hashes.now) _ _ _ h c.in-Some.ensures.chars
    c.in_default-after_closer.ensures.none (sym c.is_raw_character.ensures ∙ c.if-not-is_raw_character.false)
    c.loop-c.invariant.same in
    record {
      utf8 = search rules;
      same = inside_past c.args.ends _ _ _ _ run _ e each on;
      is_rest = step_in c.args.ends _ _ _ c.loop-c.invariant.is_rest (step_in c.args.ends _ _ _ c.in-Some.ensures.rest
          (inside_in c.args.ends _ _ _ run e each));
    }

-- ---- the closing delimiter

pub returns-in-None-clause-stop : goal.returns-in-None-clause-stop
returns-in-None-clause-stop c =
    let (n, few, h) = c.requires.hashes in
    let closer = c.in-Some-after_closer.ensures.some in
    stop_closed c.args.ends c.args.kind n c.in-Some.c (chars c.args.hashes.now) (chars c.args.text.now) _ _ _ h
    c.in-Some.ensures.chars closer.0 closer.1 c.loop-c.invariant.same

pub returns-in-None-clause-quote : goal.returns-in-None-clause-quote
returns-in-None-clause-quote c =
    let (n, few, h) = c.requires.hashes in
    let closer = c.in-Some-after_closer.ensures.some in
    raw_quote c.args.ends n c.in-Some.c (chars c.args.hashes.now) _ _ _ h c.in-Some.ensures.chars closer.0 closer.1

pub returns-in-None-clause-suffix : goal.returns-in-None-clause-suffix
returns-in-None-clause-suffix c = good_suffix c.args.ends RawForm _ c.in-None.ensures.flaw

pub returns-in-None-clause-left : goal.returns-in-None-clause-left
returns-in-None-clause-left c =
    let (n, few, h) = c.requires.hashes in
    raw_suffix_in c.args.ends n (chars c.args.hashes.now) _ _ _ h c.in-Some.ensures.rest c.in-Some-after_closer.ensures.some.1

pub returns-in-None-clause-closes : goal.returns-in-None-clause-closes
returns-in-None-clause-closes c =
    let (n, few, h) = c.requires.hashes in
    let closer = c.in-Some-after_closer.ensures.some in
    raw_good c.args.ends c.args.kind n c.in-Some.c (chars c.args.hashes.now) (chars c.args.text.now) _ _ _ c.requires.string few h
    (returns-in-None-clause-stop c) c.in-Some.ensures.chars closer.0 closer.1 c.in-None.ensures.flaw

pub returns-in-Some-suffix_flaw-clause-stop : goal.returns-in-Some-suffix_flaw-clause-stop
returns-in-Some-suffix_flaw-clause-stop c =
    let (n, few, h) = c.requires.hashes in
    let closer = c.in-Some-after_closer.ensures.some in
    stop_closed c.args.ends c.args.kind n c.in-Some.c (chars c.args.hashes.now) (chars c.args.text.now) _ _ _ h
    c.in-Some.ensures.chars closer.0 closer.1 c.loop-c.invariant.same

pub returns-in-Some-suffix_flaw-clause-stops : goal.returns-in-Some-suffix_flaw-clause-stops
returns-in-Some-suffix_flaw-clause-stops c =
    let (n, few, h) = c.requires.hashes in
    let closer = c.in-Some-after_closer.ensures.some in
    raw_bad c.args.ends c.args.kind n c.in-Some.c (chars c.args.hashes.now) (chars c.args.text.now) _ _ _ c.in-Some-suffix_flaw.flaw
    c.requires.string few h (returns-in-Some-suffix_flaw-clause-stop c) c.loop-c.invariant.is_rest c.in-Some.ensures.chars
    c.in-Some.ensures.rest closer.0 closer.1 c.in-Some-suffix_flaw.ensures.flaw c.in-Some-suffix_flaw.ensures.piece

pub returns-in-Some-suffix_flaw-clause-at : goal.returns-in-Some-suffix_flaw-clause-at
returns-in-Some-suffix_flaw-clause-at c = inr (
  chars c.in-Some-after_closer.suffix.now,
  c.in-Some-suffix_flaw.ensures.flaw,
)

-- ---- a character that the raw string can't contain

pub returns-then-not-is_raw_character-clause-stop : goal.returns-then-not-is_raw_character-clause-stop
returns-then-not-is_raw_character-clause-stop c =
    let (n, few, h) = c.requires.hashes in
    stop_held c.args.ends c.args.kind n c.in-Some.c (chars c.args.hashes.now) (chars c.args.text.now) _ _ h
    c.in-Some.ensures.chars (sym c.is_raw_character.ensures ∙ c.if-not-is_raw_character.true) c.loop-c.invariant.same

pub returns-then-not-is_raw_character-clause-stops : goal.returns-then-not-is_raw_character-clause-stops
returns-then-not-is_raw_character-clause-stops c =
    let (n, few, h) = c.requires.hashes in
    raw_held c.args.ends c.args.kind c.make_flaw.result.kind n c.in-Some.c (chars c.args.hashes.now) (chars c.args.text.now)
    _ _ _ _ c.requires.string few h (returns-then-not-is_raw_character-clause-stop c) c.loop-c.invariant.is_rest
    c.in-Some.ensures.chars c.in_default-after_closer.ensures.none (c.make_flaw.ensures.0 ∙ c.raw_character_flaw.ensures)
    (ap chars c.make_flaw.ensures.2) (ap chars c.make_flaw.ensures.1)

pub returns-then-not-is_raw_character-clause-at : goal.returns-then-not-is_raw_character-clause-at
returns-then-not-is_raw_character-clause-at c = inl (
  c.make_flaw.ensures.2,
  λ e. absurd (some_front c.args.ends _ _ _ c.in-Some.ensures.chars e),
)

-- ---- the end of the text

pub returns-clause-stop : goal.returns-clause-stop
returns-clause-stop c = walk_end c.args.kind (chars c.args.hashes.now) _ (nil_of c.args.ends _ c.in_default.ensures.chars)
    ∙ c.loop-c.invariant.same

pub returns-clause-stops : goal.returns-clause-stops
returns-clause-stops c =
    let (n, few, h) = c.requires.hashes in
    raw_unclosed c.args.ends c.args.kind _ n (chars c.args.hashes.now) (chars c.args.text.now) _ _ _ c.requires.string few h
    (returns-clause-stop c) c.loop-c.invariant.is_rest c.in_default.ensures.chars c.make_flaw-2.ensures.0
    (ap chars c.make_flaw-2.ensures.2) (ap chars c.make_flaw-2.ensures.1)

pub returns-clause-at : goal.returns-clause-at
returns-clause-at c = inl (c.make_flaw-2.ensures.2, λ e. c.make_flaw-2.ensures.0)
