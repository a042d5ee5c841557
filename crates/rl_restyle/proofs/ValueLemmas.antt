-- Lemmas about the values of rules, and about the invariant of the loop over a configuration's entries.
use Rattle.std.proofs.Common.{◌≡◌, ◌≢◌, inl, inr, ℕ, ◌==◌, List, [], ◌∷◌, Option, Some, None, IfSome, if◌then◌else◌, refl, sym, ap, subst, ◌∙◌}
use Rattle.std.specs.Str.{chars}
use Rattle.rl_lexer.specs.Cursors.{CursorState, form_view}
use Rattle.rl_lexer.specs.Lexemes.{LexemeForm, LiteralForm, IdentifierForm, DelimiterForm, MarkForm}
use Rattle.rl_lexer.specs.Skipping.{Skipped}
use Rattle.rl_lenient.specs.declared.found.Found.{Found}
use Rattle.rl_cursors.specs.declared.next_literals.NextLiteral.{NextLiteral}
use Rattle.rl_lenient.specs.Founds.{IsFound}
use Rattle.rl_cursors.specs.NextLiterals.{TakesNextLiteral, IsLiteralToken}
use Rattle.rl_cursors.specs.declared.entries.DottedName.{DottedName}
use Rattle.rl_cursors.specs.declared.entries.NextEntry.{NextEntry}
use Rattle.rl_cursors.specs.declared.entries.EntryRejection.{EntryRejection}
use Rattle.rl_cursors.specs.SettingSteps.{TakesMark}
use Rattle.rl_cursors.specs.EntrySteps.{TakesEntry, TakesSeparator, RejectsNextEntry}
use Rattle.rl_cursors.proofs.EntryLemmas.{name_same}
use Rattle.rl_restyle.specs.declared.rule.Rule.{Rule}
use Rattle.rl_restyle.specs.declared.style_error.StyleError.{StyleError}
use Rattle.rl_restyle.specs.declared.value.Value.{Value}
use Rattle.rl_restyle.specs.declared.values.Values.{Values}
use Rattle.rl_restyle.specs.Rules.{rule_name, rule_number}
use Rattle.rl_restyle.specs.Values.{IsOfText}
use Rattle.rl_restyle.specs.Styles.{Setting, setting, value_in, SetsRule, HoldsSettings, HoldsNoSetting, HoldsOneMore, BeginsEntries, RejectsEntry, RejectsRest, IsNewName, RejectsStyle}
use Rattle.rl_restyle.specs.Held.{value_at, AreOf, NamesSet}

-- ---- lemmas about the values of rules

-- After one more rule is set, the stored values are the values of the earlier entries and the value of the new entry.
pub set_more : (before : List Setting) (old new : Values) (rule : Rule) (value : Value) → AreOf before old
    → ((other : Rule) → value_at new other ≡ (if rule_number rule == rule_number other then Some value else value_at old other))
    → AreOf (setting rule value ∷ before) new
set_more before old new rule value are sets = λ other. sets other
    ∙ ap (λ (z : Option Value). if rule_number rule == rule_number other then Some value else z) (are other)

-- A rule without a stored value isn't set by an earlier entry.
pub is_new : (before : List Setting) (v : Values) (rule : Rule) → AreOf before v → value_at v rule ≡ None
    → value_in before rule ≡ None
is_new before v rule are none = sym (are rule) ∙ none

-- An option that isn't `Some` is `None`.
is_none : (o : Option Value) → ((o ≡ None → ⊥) → ⊥) → o ≡ None
is_none None h = refl
is_none (Some x) h = absurd (h (λ e. absurd (cc)))

-- If no value is stored for the rule with a name, no earlier entry has set the rule with that name.
new_text : (before : List Setting) (v : Values) (name : List ℕ) → AreOf before v → (NamesSet (value_at v) name → ⊥)
    → (rule : Rule) → name ≡ rule_name rule → value_in before rule ≡ None
new_text before v name are not_set rule named = sym (are rule)
    ∙ is_none (value_at v rule) (λ some. not_set (rule, named, some))

pub new_name : (before : List Setting) (v : Values) (o : Option DottedName) (name : DottedName) → AreOf before v
    → o ≡ Some name → (NamesSet (value_at v) name.text.now → ⊥) → IsNewName before o
new_name before v o name are some not_set = subst (λ (z : Option DottedName). IsNewName before z) (sym some)
    (new_text before v name.text.now are not_set)

pub no_name : (before : List Setting) (o : Option DottedName) → o ≡ None → IsNewName before o
no_name before o none = subst (λ (z : Option DottedName). IsNewName before z) (sym none) tt

-- ---- lemmas: the cursor over an entry leaves the input text unchanged

mark_same : (c : ℕ) (old new : CursorState) → TakesMark c old new → new.text ≡ old.text
mark_same c old new m = m.1.same

literal_same : (old new : CursorState) (l : NextLiteral) → TakesNextLiteral old l new → new.text ≡ old.text
literal_same old new l (inl t) = t.takes.same
literal_same old new l (inr n) = n.takes_number.same ∙ n.takes_minus.same

separator_same : (hi : ℕ) (old new : CursorState) → TakesSeparator hi old new → new.text ≡ old.text
separator_same hi old new (inl m) = m.1.same
separator_same hi old new (inr s) = ap (λ (t : CursorState). t.text) s.2

entry_same : (old new : CursorState) (entry : NextEntry) → TakesEntry old entry new → new.text ≡ old.text
entry_same old new entry t =
    let s = t.sets in
    separator_same entry.value.token.hi s.following new s.separator ∙ literal_same s.at_literal s.following entry.value s.literal
    ∙ mark_same 61 t.following s.at_literal s.equals ∙ name_same old t.following entry.name t.named

-- The parse result of a literal that the cursor consumed is the parse result of the literal's text.
token_found : (form : LexemeForm) (text : List ℕ) (o : Option Found) → IsLiteralToken form text o
    → IfSome o (λ f. IsFound text f)
token_found LiteralForm text None h = tt
token_found LiteralForm text (Some f) h = h
token_found IdentifierForm text None h = tt
token_found IdentifierForm text (Some f) h = h.0
token_found (DelimiterForm c) text o h = absurd h
token_found (MarkForm c) text o h = absurd h

literal_text : (old new : CursorState) (l : NextLiteral) → TakesNextLiteral old l new → IsOfText l
literal_text old new l (inl t) = λ none. token_found (form_view l.token.form) l.token.text.now l.found t.literal
literal_text old new l (inr n) = λ none.
    let both : None ≡ Some n.minus.lo = sym none ∙ n.minus_is in
    absurd (cc)

pub of_text : (old new : CursorState) (entry : NextEntry) → TakesEntry old entry new → IsOfText entry.value
of_text old new entry t = literal_text t.sets.at_literal t.sets.following entry.value t.sets.literal

-- ---- lemmas about the loop over the entries

-- The invariant of the loop over a configuration's entries: the stored values `v` are those that the entries before the
-- cursor's position set.
pub record HasRead (text : List ℕ) (t : CursorState) (v : Values) : Type 0 where
  pub start : CursorState
  pub before : List Setting
  pub begins : BeginsEntries text start
  pub holds : HoldsSettings start before t
  pub are : AreOf before v
  pub same : t.text ≡ text

pub read_none : (text : List ℕ) (t : CursorState) (v : Values) → t.text ≡ text → Skipped (chars text) (chars t.rest)
    → ((rule : Rule) → value_at v rule ≡ None) → HasRead text t v
read_none text t v same skips none = record {
  start = t;
  before = [];
  begins = (same, skips);
  holds = HoldsNoSetting;
  are = none;
  same = same;
}

pub read_more : (text : List ℕ) (t new : CursorState) (v w : Values) (entry : NextEntry) → HasRead text t v
    → TakesEntry t entry new
    → ((before : List Setting) → AreOf before v → (s : Setting) × SetsRule before entry s × AreOf (s ∷ before) w)
    → HasRead text new w
read_more text t new v w entry has takes sets =
    let (s, one, are) = sets has.before has.are in
    record {
      start = has.start;
      before = s ∷ has.before;
      begins = has.begins;
      holds = HoldsOneMore s entry has.holds takes one;
      are = are;
      same = entry_same t new entry takes ∙ has.same;
    }

pub rejects_entry : (text : List ℕ) (t new : CursorState) (v : Values) (entry : NextEntry) (e : StyleError)
    → HasRead text t v → TakesEntry t entry new
    → ((before : List Setting) → AreOf before v → RejectsEntry before entry e) → RejectsStyle text e
rejects_entry text t new v entry e has takes rejects = record {
  start = has.start;
  before = has.before;
  stops = t;
  begins = has.begins;
  holds = has.holds;
  wrong = inl (entry, new, takes, rejects has.before has.are);
}

pub rejects_rest : (text : List ℕ) (t : CursorState) (v : Values) (r : EntryRejection) (e : StyleError)
    → HasRead text t v → t.rest ≢ [] → RejectsNextEntry t r
    → ((before : List Setting) → AreOf before v → RejectsRest before r e) → RejectsStyle text e
rejects_rest text t v r e has some none rejects = record {
  start = has.start;
  before = has.before;
  stops = t;
  begins = has.begins;
  holds = has.holds;
  wrong = inr (r, some, none, rejects has.before has.are);
}
