-- Steps over a printed list, one after another.
use Rattle.rl_syntax.proofs.Common.{◌≡◌, ℕ, zero, suc, ◌+◌, false, List, [], ◌∷◌, Option, Some, None, refl, sym, ◌∙◌, ap, subst}
use Rattle.std.specs.Prelude.{IsFalse}
use Rattle.std.specs.Str.{chars}
use Rattle.rl_syntax.specs.Texts.{byte_len}
use Rattle.rl_syntax.specs.Reading.{Reads}
use Rattle.rl_syntax.specs.Readings.{Reading, IsTheReading}
use Rattle.rl_syntax.specs.Printed.{Entry, item_text}
use Rattle.rl_syntax.proofs.ReadingRecords.{the_reading}
use Rattle.rl_lenient.specs.declared.found.Found.{Found}
use Rattle.rl_lenient.specs.Founds.{suffix_in}
use Rattle.rl_lenient.proofs.StrictItems.{item_is}
use Rattle.rl_cursors.specs.declared.next_literals.NextLiteral.{NextLiteral}
use Rattle.rl_cursors.specs.declared.next_literals.ListStep.{ListStep}
use Rattle.rl_cursors.specs.declared.next_literals.ListStep.TheVariants.{Literal}
use Rattle.rl_cursors.specs.NextLiterals.{FindsReading, IsReadLiteral, StepsList, whole_text}
use Rattle.rl_cursors.specs.Lists.{ListState, IsItemTaken as IsEntryTaken, ItemsLeft, TakesItem}
use Rattle.rl_cursors.proofs.Theorems.{a_taken_literal_is_read}
use Rattle.rust_literals.specs.declared.lit.Lit.{Lit}
use Rattle.rl_theorem.specs.Printed.{ListItem, HoldItems}
use Rattle.rl_theorem.specs.Lists.{IsItemReturned, IsStepAt, IsAlsoAt}
use Rattle.rl_theorem.proofs.ByTheRules.{reads_by}
use Rattle.rl_theorem.proofs.HeadlineLemmas.{at_gap, at_next}
use Rattle.rl_theorem.proofs.PrintedItems.{IsEntryOf, AreEntries}
use Rattle.rl_theorem.proofs.ValueLemmas.{gives}

taken_is : (at : ℕ) (i : ListItem) (e : Entry) (l : NextLiteral) → IsEntryOf i e → IsEntryTaken at e.item l → IsReadLiteral l
    → IsItemReturned at i l
taken_is at i e l is taken read = go l.found refl read
  where
    text : chars (whole_text l) ≡ i.text
    text = taken.text ∙ is.text

    reads : Reads i.text i.reading.kind i.reading.contents i.reading.suffix
    reads = subst (λ t. Reads t i.reading.kind i.reading.contents i.reading.suffix) is.text
        (item_is e.item is.strict i.reading.kind i.reading.contents i.reading.suffix is.of)

    the : IsTheReading (chars (whole_text l)) i.reading
    the = subst (λ t. IsTheReading t i.reading) (sym text) (the_reading i.text i.reading reads)

    go : (o : Option Found) → l.found ≡ o → FindsReading (whole_text l) o → IsItemReturned at i l
    go None found_is none = absurd (none i.reading.kind i.reading.contents i.reading.suffix the.reads.reads)
    go (Some f) found_is found =
        let s : Reading = record { kind = f.kind; contents = found.reads.0; suffix = chars (suffix_in (whole_text l) f.body) } in
        let same : s ≡ i.reading = the.only s (record { reads = found.reads.1 }) in
        record {
          found = f;
          found_is = found_is;
          kind = ap (λ (r : Reading). r.kind) same;
          value = gives i.reading.kind (whole_text l) f i.reading found (ap (λ (r : Reading). r.kind) same) the;
          suffix = ap (λ (r : Reading). r.suffix) same;
          text = text;
          reads = reads_by i.text i.reading reads;
          lo = taken.lo;
          hi = taken.hi ∙ ap (λ t. at + byte_len t) is.text;
        }

-- ---- steps

-- The list after `count` steps over its entries: the entries from this number on are left.
abbrev pub IsAfter : ℕ → ℕ → List Entry → ListState → Type 0
IsAfter zero at es s = ItemsLeft at es s
IsAfter (suc count) at [] s = ItemsLeft at [] s
IsAfter (suc count) at (e ∷ es) s = IsAfter count (at + byte_len e.gap + byte_len (item_text e.item)) es s

-- A step of the list takes the first entry that is left.
pub record Takes (old : ListState) (step : ListStep) (new : ListState) : Type 0 where
  pub item : (at : ℕ) (es : List Entry) → ItemsLeft at es old → TakesItem at es step new
  pub steps : IsFalse old.is_done → StepsList old.cursor step new.cursor

step_read : (old : ListState) (step : ListStep) (new : ListState) (l : NextLiteral) → Takes old step new
    → old.is_done ≡ false → step ≡ Literal l → IsReadLiteral l
step_read old step new l takes going is =
    a_taken_literal_is_read old.cursor new.cursor l
    (subst (λ s. StepsList old.cursor s new.cursor) is (takes.steps going))

pub after_step : (count at : ℕ) (es : List Entry) (old : ListState) (step : ListStep) (new : ListState)
    → Takes old step new → IsAfter count at es old → IsAfter (suc count) at es new
after_step zero at [] old step new takes left = (takes.item at [] left).1
after_step zero at (e ∷ es) old step new takes left =
    let (l, is, item, more) = takes.item at (e ∷ es) left in more
after_step (suc count) at [] old step new takes left = (takes.item at [] left).1
after_step (suc count) at (e ∷ es) old step new takes left =
    after_step count (at + byte_len e.gap + byte_len (item_text e.item)) es old step new takes left

pub step_at : (count at : ℕ) (items : List ListItem) (es : List Entry) (old : ListState) (step : ListStep) (new : ListState)
    → AreEntries items es → Takes old step new → IsAfter count at es old → IsStepAt at items count step
step_at count at [] (e ∷ es) old step new are takes left = absurd are
step_at count at (i ∷ items) [] old step new are takes left = absurd are
step_at zero at [] [] old step new are takes left = (takes.item at [] left).0
step_at (suc count) at [] [] old step new are takes left = (takes.item at [] left).0
step_at zero at (i ∷ items) (e ∷ es) old step new (h, are) takes left =
    let (l, is, taken, more) = takes.item at (e ∷ es) left in
    let read = step_read old step new l takes left.going is in
    (l, is, subst (λ n. IsItemReturned n i l) (at_gap at i e h) (taken_is (at + byte_len e.gap) i e l h taken read))
step_at (suc count) at (i ∷ items) (e ∷ es) old step new (h, are) takes left =
    subst (λ n. IsStepAt n items count step) (at_next at i e h)
    (step_at count (at + byte_len e.gap + byte_len (item_text e.item)) items es old step new are takes left)

-- ---- both ways of reading a list give the same literals

pub same_at : {A : Type 0} (file at : ℕ) (items : List ListItem) (lits : List (Lit A)) (n : ℕ) (step : ListStep)
    → HoldItems file at items lits → IsStepAt at items n step → IsAlsoAt file lits n step
same_at file at [] [] n step are is = is
same_at file at [] (lit ∷ lits) n step are is = absurd (cc)
same_at file at (i ∷ items) [] n step are is = absurd are
same_at file at (i ∷ items) (lit ∷ lits) zero step (item, are) (l, is, taken) =
    (at + byte_len i.gap, i, l, is, item, taken)
same_at file at (i ∷ items) (lit ∷ lits) (suc n) step (item, are) is =
    same_at file (at + byte_len i.gap + byte_len i.text) items lits n step are is
