-- Lemmas of the theorem: what a literal's accessors return is the literal's parse result.
use Rattle.std.proofs.Common.{◌≡◌, inl, inr, ℕ, ◌+◌, List, [], ◌∷◌, ◌++◌, Option, Some, None, refl, sym, ◌∙◌, ap, subst}
use Rattle.std.specs.Prelude.{Result, Ok, Err, Vec}
use Rattle.std.specs.Str.{chars}
use Rattle.rl_syntax.specs.declared.kind.Kind.{Kind}
use Rattle.rl_syntax.specs.declared.kind.Kind.TheVariants.{Str, ByteStr, CStr, Byte, Char, Int, Float, Bool as BoolKind}
use Rattle.rl_syntax.specs.Texts.{SpannedText, byte_len}
use Rattle.rl_syntax.specs.Numbers.{float_digits}
use Rattle.rl_syntax.specs.Reading.{Contents, Digits, Reads, HasContents, IsReadAs}
use Rattle.rl_syntax.specs.Readings.{Reading, IsTheReading}
use Rattle.rl_syntax.specs.Quoted.{opener}
use Rattle.rl_syntax.specs.Written.{IsWrittenForm, closer}
use Rattle.rl_syntax.specs.declared.span.Span.{Span}
use Rattle.rl_syntax.specs.Printed.{Entry, item_text}
use Rattle.rl_tokens.specs.declared.error.Error.{Error}
use Rattle.rust_literals.specs.declared.lit.Lit.{Lit}
use Rattle.rust_literals.specs.Literals.{kind_of, token_of, IsReadFrom}
use Rattle.rust_literals.specs.LitParts.{HasLitSuffix, IsSuffixAs}
use Rattle.rust_literals.specs.Held.{HasDigits}
use Rattle.rust_literals.specs.ReadBack.{HoldsOrMemory, IsItemRead, AreItems as AreItemsRead}
use Rattle.rl_theorem.specs.Headline.{HoldsReading, HoldsItsReading, GivesValue, Writes, plain_reading}
use Rattle.rl_theorem.specs.declared.Value.{Value}
use Rattle.rl_theorem.specs.Printed.{ListItem, IsItemAt, HoldItems}
use Rattle.rl_theorem.proofs.ByTheRules.{strict_by, by_reads, reads_by, the_only}
use Rattle.rl_theorem.proofs.PrintedItems.{IsEntryOf, AreEntries}
use Rattle.rl_theorem.proofs.WrittenTexts.{characters_text}

-- ---- `parsed`

parsed_as : {A : Type 0} (lit : Lit A) (k : Option Kind) → kind_of lit ≡ k → IsReadAs k (chars (token_of lit).text)
    → HoldsItsReading lit
parsed_as lit (Some k) e (v, x, reads) =
    let r : Reading = record { kind = k; contents = v; suffix = x } in
    inl (r, record { kind = e; reads = reads_by (chars (token_of lit).text) r reads })
parsed_as lit None e none = inr (record {
  verbatim = e;
  unread = λ r is. none r.kind r.contents r.suffix (by_reads (chars (token_of lit).text) r is);
})

pub parsed_is : {A : Type 0} (token : SpannedText) (lit : Lit A) → IsReadFrom token lit → HoldsItsReading lit
parsed_is token lit (same, read) =
    parsed_as lit (kind_of lit) refl (subst (λ (t : SpannedText). IsReadAs (kind_of lit) (chars t.text)) (sym same) read)

-- ---- `value_of` and `suffix_of`

pub one_value : (text : List ℕ) (k : Kind) (v : Contents) (r : Reading) → HasContents k text v → IsTheReading text r
    → v ≡ r.contents
one_value text k v r (x, reads) is =
    ap (λ (s : Reading). s.contents) (is.only (record { kind = k; contents = v; suffix = x }) (record { reads = reads }))

-- The digits of a float are the value of its parse result, which is a float.
pub one_float : (text digits : List ℕ) (r : Reading) → HasDigits Float text digits → Some Float ≡ Some r.kind
    → IsTheReading text r → Digits digits ≡ r.contents
one_float text digits r (numeral, x, float, same) kind is =
    let k : r.kind ≡ Float = cc in
    let own : Reads text Float r.contents r.suffix =
    subst (λ (z : Kind). Reads text z r.contents r.suffix) k is.reads.reads in
    let here : Reads text Float (Digits (float_digits numeral)) x = record {
      numeral = numeral;
      reads = float;
      no_integer = own.no_integer;
      contents_is = refl;
    } in
    ap Digits same ∙ one_value text Float (Digits (float_digits numeral)) r (x, here) is

held : {A : Type 0} (lit : Lit A) (r : Reading) → HoldsReading lit r → IsTheReading (chars (token_of lit).text) r
held lit r holds = the_only (chars (token_of lit).text) r holds.reads

-- The value that an accessor returned for a literal is the value of the literal's parse result.
pub holds_value : {A : Type 0} (lit : Lit A) (k : Kind) (token : SpannedText) (v : Contents) (r : Reading)
    → token_of lit ≡ token → HasContents k (chars token.text) v → HoldsReading lit r → v ≡ r.contents
holds_value lit k token v r same has holds =
    one_value (chars (token_of lit).text) k v r
    (subst (λ (t : SpannedText). HasContents k (chars t.text) v) (sym same) has) (held lit r holds)

pub holds_float : {A : Type 0} (lit : Lit A) (token : SpannedText) (digits : List ℕ) (r : Reading) → token_of lit
    ≡ token → kind_of lit ≡ Some Float → HasDigits Float (chars token.text) digits → HoldsReading lit r
    → Digits digits ≡ r.contents
holds_float lit token digits r same kind has holds =
    one_float (chars (token_of lit).text) digits r
    (subst (λ (t : SpannedText). HasDigits Float (chars t.text) digits) (sym same) has) (sym kind ∙ holds.kind)
    (held lit r holds)

some_kind : (k l : Kind) → Some k ≡ Some l → k ≡ l
some_kind k l e = cc

-- A value of the kind that the literal has is a value of the kind of its parse result.
pub gives_value : {A B : Type 0} (lit : Lit A) (k : Kind) (value : Option (Value B)) (r : Reading) → kind_of lit ≡ Some k
    → HoldsReading lit r → GivesValue value k r.contents → GivesValue value r.kind r.contents
gives_value lit k value r kind holds gives =
    subst (λ (z : Kind). GivesValue value z r.contents) (some_kind k r.kind (sym kind ∙ holds.kind)) gives

suffix_of_reading : (text : List ℕ) (k : Kind) (v : Contents) (x : List ℕ) (r : Reading) → Reads text k v x
    → IsTheReading text r → x ≡ r.suffix
suffix_of_reading text k v x r reads is =
    ap (λ (s : Reading). s.suffix) (is.only (record { kind = k; contents = v; suffix = x }) (record { reads = reads }))

-- A suffix that the accessor of a literal may return is the suffix of the literal's parse result.
pub one_suffix : (text x : List ℕ) (k : Kind) (r : Reading) → IsSuffixAs (Some k) text x → Some k ≡ Some r.kind
    → IsTheReading text r → x ≡ r.suffix
one_suffix text x BoolKind r same kind is =
    let k : r.kind ≡ BoolKind = cc in
    let own : Reads text BoolKind r.contents r.suffix =
    subst (λ (z : Kind). Reads text z r.contents r.suffix) k is.reads.reads in
    same ∙ sym own.suffix_is
one_suffix text x Float r (numeral, float) kind is =
    let k : r.kind ≡ Float = cc in
    let own : Reads text Float r.contents r.suffix =
    subst (λ (z : Kind). Reads text z r.contents r.suffix) k is.reads.reads in
    let here : Reads text Float (Digits (float_digits numeral)) x = record {
      numeral = numeral;
      reads = float;
      no_integer = own.no_integer;
      contents_is = refl;
    } in
    ap (λ (s : Reading). s.suffix)
    (is.only (record { kind = Float; contents = Digits (float_digits numeral); suffix = x }) (record { reads = here }))
one_suffix text x Str r (v, reads) kind is = suffix_of_reading text Str v x r reads is
one_suffix text x ByteStr r (v, reads) kind is = suffix_of_reading text ByteStr v x r reads is
one_suffix text x CStr r (v, reads) kind is = suffix_of_reading text CStr v x r reads is
one_suffix text x Byte r (v, reads) kind is = suffix_of_reading text Byte v x r reads is
one_suffix text x Char r (v, reads) kind is = suffix_of_reading text Char v x r reads is
one_suffix text x Int r (v, reads) kind is = suffix_of_reading text Int v x r reads is

pub lit_suffix : {A : Type 0} (lit : Lit A) (x : List ℕ) (r : Reading) → HasLitSuffix lit x → HoldsReading lit r
    → x ≡ r.suffix
lit_suffix lit x r has holds = go (kind_of lit) has holds.kind
  where
    go : (k : Option Kind) → IsSuffixAs k (chars (token_of lit).text) x → k ≡ Some r.kind → x ≡ r.suffix
    go (Some k) has kind = one_suffix (chars (token_of lit).text) x k r has kind (held lit r holds)
    go None has kind = absurd (cc)

-- ---- the written literals

pub writes : (k : Kind) (v t : List ℕ) → IsWrittenForm k v t → Writes k v t
writes k v t is = record {
  text_is = is.text_is ∙ ap (λ t. opener k ++ (t ++ (closer k ∷ []))) (characters_text k v);
  strict = strict_by t (plain_reading k v) is.strict;
  reads = reads_by t (plain_reading k v) is.reads;
}

-- ---- the items of a printed list

item_at : {A : Type 0} (file at : ℕ) (i : ListItem) (e : Entry) (lit : Lit A) → IsEntryOf i e
    → IsItemRead file at e.item lit → IsItemAt file at i lit
item_at file at i e lit is h =
    let (kind_is, reads) = h.is_of_kind i.reading.kind i.reading.contents i.reading.suffix is.of in
    record {
      holds = record { kind = kind_is; reads = reads_by (chars (token_of lit).text) i.reading reads };
      text = ap (λ (t : SpannedText). chars t.text) h.read.0 ∙ h.characters ∙ is.text;
      span = ap (λ (t : SpannedText). t.span) h.read.0
          ∙ ap (λ t. let s : Span = record { file = file; lo = at; hi = at + byte_len t } in s) is.text;
    }

-- The byte offsets of an entry and of the next one are those of its item and of the next one.
pub at_gap : (at : ℕ) (i : ListItem) (e : Entry) → IsEntryOf i e → at + byte_len e.gap ≡ at + byte_len i.gap
at_gap at i e is = ap (λ g. at + byte_len g) is.gap

pub at_next : (at : ℕ) (i : ListItem) (e : Entry) → IsEntryOf i e
    → at + byte_len e.gap + byte_len (item_text e.item) ≡ at + byte_len i.gap + byte_len i.text
at_next at i e is =
    ap (λ g. at + byte_len g + byte_len (item_text e.item)) is.gap ∙ ap (λ t. at + byte_len i.gap + byte_len t) is.text

items_at : {A : Type 0} (file at : ℕ) (items : List ListItem) (es : List Entry) (lits : List (Lit A)) → AreEntries items es
    → AreItemsRead file at es lits → HoldItems file at items lits
items_at file at [] [] lits are read = read
items_at file at [] (e ∷ es) lits are read = absurd are
items_at file at (i ∷ items) [] lits are read = absurd are
items_at file at (i ∷ items) (e ∷ es) [] are read = read
items_at file at (i ∷ items) (e ∷ es) (l ∷ ls) (is, are) (here, read) = (
  subst (λ n. IsItemAt file n i l) (at_gap at i e is) (item_at file (at + byte_len e.gap) i e l is here),
  subst (λ n. HoldItems file n items ls) (at_next at i e is)
      (items_at file (at + byte_len e.gap + byte_len (item_text e.item)) items es ls are read),
)

pub items_answer : {A B : Type 0} (file : ℕ) (items : List ListItem) (es : List Entry) (r : Result (Vec (Lit A) B) (Error A))
    → AreEntries items es → HoldsOrMemory (AreItemsRead file 0 es) r → HoldsOrMemory (HoldItems file 0 items) r
items_answer file items es (Ok found) are read = items_at file 0 items es found.items are read
items_answer file items es (Err e) are same = same
