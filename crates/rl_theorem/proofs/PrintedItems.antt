-- Printed lists by the rules are printed lists by the definitions that proofs use.
use Rattle.std.proofs.Common.{◌≡◌, ◌⊎◌, inl, inr, ℕ, List, [], ◌∷◌, ◌++◌, refl, sym, ◌∙◌, ap, subst}
use Rattle.std.specs.Prelude.{◌≢◌, IsTrue, ⊤, codes, drop}
use Rattle.std.specs.List.{AllByRecursion}
use Rattle.rl_syntax.specs.declared.kind.Kind.{Kind}
use Rattle.rl_syntax.specs.declared.kind.Kind.TheVariants.{Str, ByteStr, CStr, Byte, Char, Int, Float, Bool as BoolKind}
use Rattle.rl_syntax.specs.Texts.{first_passes, is_among}
use Rattle.rl_syntax.specs.Quoted.{is_number}
use Rattle.rl_syntax.specs.Trivia.{IsTrivia}
use Rattle.rl_syntax.specs.Reading.{Contents, Digits, Reads}
use Rattle.rl_syntax.specs.Readings.{Reading}
use Rattle.rl_syntax.specs.Strict.{Strict}
use Rattle.rl_syntax.specs.Printed.{Item as OldItem, WordItem, LiteralItem, MinusItem, Entry, item_text, IsStrictItem, IsItemOf, IsApart as IsApartEntry, printed_text as text_of, Printed as PrintedEntries}
use Rattle.rl_theorem.specs.RustRules.{IsLiteral}
use Rattle.rl_theorem.specs.Printed.{ListItem, IsNegative, IsListItem, IsSeparated, list_text, PrintedList}
use Rattle.rl_theorem.proofs.ByTheRules.{by_strict, by_reads}
use Rattle.rl_theorem.proofs.TruthRule.{strict_truth}

-- An item of the older definitions that has the text and the parse result.
record Old (t : List ℕ) (k : Kind) (v : Contents) (x : List ℕ) : Type 0 where
  pub item : OldItem
  pub text : item_text item ≡ t
  pub of : IsItemOf k v x item
  pub strict : IsStrictItem item

other : (t : List ℕ) (k : Kind) (v : Contents) (x : List ℕ) → k ≢ BoolKind → Strict t k v x → Reads t k v x → Old t k v x
other t k v x no_word s r =
    record { item = LiteralItem t; text = refl; of = s; strict = (k, no_word, (v, x, s), (k, (v, x, r))) }

literal_item : (t : List ℕ) (k : Kind) (v : Contents) (x : List ℕ) → Strict t k v x → Reads t k v x → Old t k v x
literal_item t BoolKind v x s r =
    let b = (strict_truth t v x).0 s in
    record { item = WordItem b.truth; text = sym b.text_is; of = subst (λ z. Strict z BoolKind v x) b.text_is s; strict = tt }
literal_item t Str v x s r = other t Str v x (λ e. absurd (cc)) s r
literal_item t ByteStr v x s r = other t ByteStr v x (λ e. absurd (cc)) s r
literal_item t CStr v x s r = other t CStr v x (λ e. absurd (cc)) s r
literal_item t Byte v x s r = other t Byte v x (λ e. absurd (cc)) s r
literal_item t Char v x s r = other t Char v x (λ e. absurd (cc)) s r
literal_item t Int v x s r = other t Int v x (λ e. absurd (cc)) s r
literal_item t Float v x s r = other t Float v x (λ e. absurd (cc)) s r

number_kind : (k : Kind) → (k ≡ Int) ⊎ (k ≡ Float) → IsTrue (is_number k)
number_kind k (inl e) = subst (λ (z : Kind). IsTrue (is_number z)) (sym e) refl
number_kind k (inr e) = subst (λ (z : Kind). IsTrue (is_number z)) (sym e) refl

old_item : (t : List ℕ) (r : Reading) → IsLiteral t r ⊎ IsNegative t r → Reads t r.kind r.contents r.suffix
    → Old t r.kind r.contents r.suffix
old_item t r (inl l) reads = literal_item t r.kind r.contents r.suffix (by_strict t r l) reads
old_item t r (inr n) reads =
    let number = number_kind r.kind n.is_number in
    let s = by_strict n.number (record { kind = r.kind; contents = Digits n.digits; suffix = r.suffix }) n.strict in
    record {
      item = MinusItem n.number;
      text = sym n.text_is;
      of = (n.digits, number, s, n.contents_is);
      strict = (
        r.kind,
        number,
        (Digits n.digits, r.suffix, s),
        (r.kind, (r.contents, r.suffix, subst (λ z. Reads z r.kind r.contents r.suffix) n.text_is reads)),
      );
    }

-- The entry has the item's separator, text and parse result.
pub record IsEntryOf (i : ListItem) (e : Entry) : Type 0 where
  pub gap : e.gap ≡ i.gap
  pub text : item_text e.item ≡ i.text
  pub of : IsItemOf i.reading.kind i.reading.contents i.reading.suffix e.item
  pub trivia : IsTrivia e.gap
  pub strict : IsStrictItem e.item

abbrev pub AreEntries : List ListItem → List Entry → Type 0
AreEntries [] [] = ⊤
AreEntries [] (e ∷ es) = ⊥
AreEntries (i ∷ items) [] = ⊥
AreEntries (i ∷ items) (e ∷ es) = IsEntryOf i e × AreEntries items es

entries_of : (items : List ListItem) → AllByRecursion IsListItem items → (es : List Entry) × AreEntries items es
entries_of [] each = ([], tt)
entries_of (i ∷ items) each =
    let o = old_item i.text i.reading each.0.strict (by_reads i.text i.reading each.0.syn) in
    let (es, are) = entries_of items each.1 in
    (record { gap = i.gap; item = o.item } ∷ es, (record { gap = refl; text = o.text; of = o.of; trivia = each.0.gap; strict = o.strict }, are))

text_same : (items : List ListItem) (es : List Entry) (last : List ℕ) → AreEntries items es → list_text items last ≡ text_of es last
text_same [] [] last are = refl
text_same [] (e ∷ es) last are = absurd are
text_same (i ∷ items) [] last are = absurd are
text_same (i ∷ items) (e ∷ es) last (h, are) =
    ap (λ g. g ++ (i.text ++ list_text items last)) (sym h.gap)
    ∙ ap (λ t. e.gap ++ (t ++ list_text items last)) (sym h.text)
    ∙ ap (λ t. e.gap ++ (item_text e.item ++ t)) (text_same items es last are)

each_same : (items : List ListItem) (es : List Entry) → AreEntries items es
    → AllByRecursion (λ (e : Entry). IsTrivia e.gap × IsStrictItem e.item) es
each_same [] [] are = tt
each_same [] (e ∷ es) are = absurd are
each_same (i ∷ items) [] are = absurd are
each_same (i ∷ items) (e ∷ es) (h, are) = ((h.trivia, h.strict), each_same items es are)

apart_same : (items : List ListItem) (es : List Entry) → AreEntries items es → AllByRecursion IsSeparated items → AllByRecursion IsApartEntry es
apart_same [] [] are apart = tt
apart_same [] (e ∷ es) are apart = absurd are
apart_same (i ∷ items) [] are apart = absurd are
apart_same (i ∷ items) (e ∷ es) (h, are) (here, more) = (
  subst (λ g. (g ≢ []) ⊎ IsTrue (first_passes (is_among (codes "\"'-")) (item_text e.item))) (sym h.gap)
      (subst (λ t. (i.gap ≢ []) ⊎ IsTrue (first_passes (is_among (codes "\"'-")) t)) (sym h.text) here),
  apart_same items es are more,
)

all_apart : (items : List ListItem) (es : List Entry) → AreEntries items es → AllByRecursion IsSeparated (drop 1 items)
    → AllByRecursion IsApartEntry (drop 1 es)
all_apart [] [] are apart = tt
all_apart [] (e ∷ es) are apart = absurd are
all_apart (i ∷ items) [] are apart = absurd are
all_apart (i ∷ items) (e ∷ es) (h, are) apart = apart_same items es are apart

-- The entries of a printed list, and its items.
pub record HasEntries (t : List ℕ) (items : List ListItem) (last : List ℕ) : Type 0 where
  pub entries : List Entry
  pub are : AreEntries items entries
  pub printed : PrintedEntries t entries last

pub has_entries : (t : List ℕ) (items : List ListItem) (last : List ℕ) → PrintedList t items last → HasEntries t items last
has_entries t items last p =
    let (es, are) = entries_of items p.each in
    record {
      entries = es;
      are = are;
      printed = record {
        items = each_same items es are;
        apart = all_apart items es are p.apart;
        last_gap = p.last_gap;
        text = p.text ∙ text_same items es last are;
      };
    }
