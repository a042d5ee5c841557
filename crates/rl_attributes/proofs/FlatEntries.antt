-- Lemmas about reading the attributes of a text token by token: the attributes that were read, and the set of their
-- names.
use Rattle.rl_syntax.proofs.Common.{◌≡◌, ◌≢◌, ℕ, true, false, cond, List, [], ◌∷◌, ◌++◌, refl, sym, ◌∙◌, ap, subst, append-nil, append_assoc, chars, chars-nil, arith, string_bytes, IsFalse}
use Rattle.std.specs.Prelude.{All}
use Rattle.std.specs.BTreeSet.{BTreeSet, IsEmpty}
use Rattle.std.specs.Str.{bytes_eq}
use Rattle.std.proofs.lemmas.List.{map_push}
use Rattle.std.proofs.lemmas.List.Elements.{All-push, All-same}
use Rattle.rl_syntax.specs.declared.span.Span.{Span}
use Rattle.rl_syntax.specs.Texts.{SpannedText}
use Rattle.rl_lexer.specs.Skipping.{Skipped}
use Rattle.rl_lexer.specs.Cuts.{LexesUpTo}
use Rattle.rl_lexer.specs.Cursors.{CursorState}
use Rattle.rl_cursors.specs.declared.settings.NextSetting.{NextSetting}
use Rattle.rl_cursors.specs.SettingSteps.{TakesSetting}
use Rattle.rl_tokens.specs.Trees.{Tree}
use Rattle.rust_literals.specs.Flat.{LexesTreesUpTo}
use Rattle.rl_syntax.specs.Reading.{IsReadAs}
use Rattle.rust_literals.specs.Literals.{kind_of, token_of}
use Rattle.rl_attributes.specs.declared.attributes.Entry.{Entry}
use Rattle.rl_attributes.specs.declared.attributes.name.Name.{Name}
use Rattle.rl_attributes.specs.Attributes.{Attribute, AreListed, is_named, NamesDiffer, AreAttributesOf}
use Rattle.rl_attributes.specs.Entries.{attribute_of, attributes_of, IsReadEntry, EntriesDiffer}
use Rattle.rl_attributes.specs.Names.{has_name}
use Rattle.rl_attributes.specs.AttributeSteps.{AddsName}
use Rattle.rl_attributes.specs.NextEntries.{borrowed_token, attribute_at, IsEntryOf}
use Rattle.rl_attributes.proofs.AttributeLemmas.{listed_more, differ_more, differ_none, named_more}
use Rattle.rl_attributes.proofs.FlatSettings.{TakesAttribute, takes_attribute}

-- The text before `rest` consists of the attributes `list`. If the attributes `more` follow, all attributes together
-- are `list` and `more`. If `rest` is empty, nothing follows.
pub record AreFlat (text : List ℕ) (file : ℕ) (list : List Attribute) (rest : List ℕ) : Type 0 where
  pub trees : List Tree
  pub cuts : LexesTreesUpTo (chars text) file trees (chars rest)
  pub on : (following : List Tree) → (rest ≡ [] → following ≡ []) → (more : List Attribute) → AreListed following more
      → AreListed (trees ++ following) (list ++ more)

flat_none : (text rest : List ℕ) (file : ℕ) → Skipped (chars text) (chars rest) → AreFlat text file [] rest
flat_none text rest file skips = record {
  trees = [];
  cuts = record { cuts = []; are_cuts = skips; none_open = refl; flat_is = refl; no_groups = tt };
  on = λ following ends more h. h;
}

flat_more : (text : List ℕ) (file : ℕ) (old new : CursorState) (list : List Attribute) (a : Attribute) → old.text ≡ text
    → AreFlat text file list old.rest → old.rest ≢ [] → TakesAttribute file old a new
    → AreFlat text file (list ++ a ∷ []) new.rest
flat_more text file old new list a same flat some t =
    let Goes : List ℕ → Type 0 = λ x. (done : List Tree) → LexesTreesUpTo (chars x) file done (chars old.rest)
    → LexesTreesUpTo (chars x) file (done ++ t.trees) (chars new.rest) in
    let goes : Goes text = subst Goes same t.takes.cuts in
    record {
      trees = flat.trees ++ t.trees;
      cuts = goes flat.trees flat.cuts;
      on = λ following ends more h.
          let on : AreListed (flat.trees ++ (t.trees ++ following)) (list ++ (a ∷ more)) =
          flat.on (t.trees ++ following) (λ e. absurd (some e)) (a ∷ more)
          (listed_more (t.trees ++ following) a following more (t.next following ends) h) in
          subst (λ (l : List Attribute). AreListed ((flat.trees ++ t.trees) ++ following) l)
          (sym (append_assoc list (a ∷ []) more))
          (subst (λ (ts : List Tree). AreListed ts (list ++ (a ∷ more)))
          (sym (append_assoc flat.trees t.trees following)) on);
    }

-- The invariant of the loop over the settings of a text: the attributes `entries` were read, `names` is the set of
-- their names, and the text `rest` remains.
pub record IsFlatAt {A : Type 0} (text : List ℕ) (file : ℕ) (entries : List (Entry A)) (names : BTreeSet Name)
    (rest : List ℕ) : Type 0 where
  pub flat : AreFlat text file (attributes_of entries) rest
  pub differ : EntriesDiffer entries
  pub read : All IsReadEntry entries
  pub knows : (name : List ℕ) → has_name names name ≡ is_named name (attributes_of entries)

-- The invariant of the loop over the settings of a text holds at the start.
pub flat_first : {A : Type 0} (text rest : List ℕ) (file : ℕ) (entries : List (Entry A)) (names : BTreeSet Name)
    → entries ≡ [] → IsEmpty names → Skipped (chars text) (chars rest) → IsFlatAt text file entries names rest
flat_first {A = A} text rest file entries names e n skips = record {
  flat = subst (λ (es : List (Entry A)). AreFlat text file (attributes_of es) rest) (sym e)
      (flat_none text rest file skips);
  differ = subst EntriesDiffer (sym e) differ_none;
  read = All-same IsReadEntry entries [] e (λ k d h. absurd (omega arith));
  knows = λ name. rw (e, n) refl;
}

-- The attribute that is built from a setting is the setting's name and literal, and its value is parsed from that
-- literal.
entry_is : {A : Type 0} (file : ℕ) (s : NextSetting) (entry : Entry A) → IsEntryOf file s entry → attribute_of entry
    ≡ attribute_at file s
entry_is file s entry h =
    let spanned : List ℕ → Span → SpannedText = λ t p. record { text = t; span = p } in
    let named : SpannedText → SpannedText → Attribute = λ n l. record { name = n; literal = l } in
    ap (λ t. named (spanned t entry.span) (token_of entry.value)) h.name
    ∙ ap (λ p. named (spanned s.name.text.now p) (token_of entry.value)) h.span
    ∙ ap (named (borrowed_token file s.name)) h.value.0

entry_read : {A : Type 0} (file : ℕ) (s : NextSetting) (entry : Entry A) → IsEntryOf file s entry → IsReadEntry entry
entry_read file s entry h = subst (λ (t : SpannedText). IsReadAs (kind_of entry.value) (chars t.text)) (sym h.value.0)
    h.value.1

-- The invariant of the loop over the settings of a text holds after one more attribute.
pub flat_next : {A : Type 0} (text : List ℕ) (file : ℕ) (entries more : List (Entry A)) (before after : BTreeSet Name)
    (old new : CursorState) (s : NextSetting) (entry : Entry A) → old.text ≡ text
    → IsFlatAt text file entries before old.rest → old.rest ≢ [] → TakesSetting old s new → IsEntryOf file s entry
    → IsFalse (has_name before s.name.text.now) → AddsName before after s.name.text.now → more
    ≡ entries ++ (entry ∷ []) → IsFlatAt text file more after new.rest
flat_next text file entries more before after old new s entry same at some takes is anew adds e =
    let grown : attributes_of more ≡ attributes_of entries ++ (attribute_of entry ∷ []) = ap attributes_of e
    ∙ map_push attribute_of entries entry in
    let here : TakesAttribute file old (attribute_of entry) new =
    subst (λ (a : Attribute). TakesAttribute file old a new) (sym (entry_is file s entry is))
    (takes_attribute file old new s takes) in
    let new_name : is_named (string_bytes entry.name) (attributes_of entries) ≡ false =
    ap (λ n. is_named n (attributes_of entries)) is.name ∙ sym (at.knows s.name.text.now) ∙ anew in
    record {
      flat = subst (λ (l : List Attribute). AreFlat text file l new.rest) (sym grown)
          (flat_more text file old new (attributes_of entries) (attribute_of entry) same at.flat some here);
      differ = subst NamesDiffer (sym grown) (differ_more (attributes_of entries) (attribute_of entry) at.differ
          new_name);
      read = All-same IsReadEntry more (entries ++ (entry ∷ [])) e (All-push IsReadEntry entries entry at.read
          (entry_read file s entry is));
      knows = λ name.
          adds name
          ∙ ap (λ b. cond (bytes_eq s.name.text.now name) true b) (at.knows name)
          ∙ ap (λ n. cond (bytes_eq n name) true (is_named name (attributes_of entries))) (sym is.name)
          ∙ sym (named_more name (attributes_of entries) (attribute_of entry))
          ∙ ap (is_named name) (sym grown);
    }

-- If no text remains, the whole text is the attributes that were read.
pub flat_end : {A : Type 0} (text rest : List ℕ) (file : ℕ) (entries : List (Entry A)) (names : BTreeSet Name)
    → IsFlatAt text file entries names rest → rest ≡ [] → AreAttributesOf (chars text) file (attributes_of entries)
flat_end text rest file entries names at ends =
    let trees = at.flat.trees in
    let list = attributes_of entries in
    let listed : AreListed (trees ++ []) (list ++ []) = at.flat.on [] (λ e. refl) [] refl in
    record {
      trees = trees;
      lexes = record {
        cuts = at.flat.cuts.cuts;
        are_cuts = subst (λ (r : List ℕ). LexesUpTo 0 (chars text) at.flat.cuts.cuts r) (ap chars ends ∙ chars-nil)
            at.flat.cuts.are_cuts;
        none_open = at.flat.cuts.none_open;
        flat_is = at.flat.cuts.flat_is;
      };
      are = record {
        listed = subst (λ (l : List Attribute). AreListed trees l) (append-nil list)
            (subst (λ (ts : List Tree). AreListed ts (list ++ [])) (append-nil trees) listed);
        differ = at.differ;
      };
    }
