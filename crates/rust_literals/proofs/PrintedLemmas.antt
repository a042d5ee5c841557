-- A printed list of literals by Rust's grammar is parsed as the list's items.
use Rattle.rl_lenient.proofs.Names.{HasReading, Reads, ReadsAs, byte_len, truth_text}
use Rattle.rl_syntax.proofs.Common.{AllByRecursion, Err, IsUtf8, List, Ok, Result, Some, [], ap, chars, encode_utf8_all, refl, subst, sym, true, ℕ, ◌++◌, ◌+◌, ◌∙◌, ◌∷◌, ◌≡◌}
use Rattle.std.specs.Prelude.{Vec}
use Rattle.std.proofs.Math.Utf8.{scalars}
use Rattle.std.proofs.lemmas.Str.{chars-encodes, scalars-chars}
use Rattle.rl_syntax.specs.declared.kind.Kind.TheVariants.{Bool as BoolKind}
use Rattle.rl_tokens.specs.declared.error.Error.{Error}
use Rattle.rl_syntax.specs.Trivia.{IsTrivia}
use Rattle.rl_syntax.specs.Printed.{Item, WordItem, LiteralItem, MinusItem, item_text, Entry, printed_text, token_at, IsStrictItem, Printed}
use Rattle.rl_tokens.specs.PrintedTrees.{printed_trees}
use Rattle.rl_syntax.proofs.Basics.{scalars_parts}
use Rattle.rl_tokens.proofs.PrintedLaws.{printed_literals_lex_to_their_trees}
use Rattle.rl_lenient.proofs.StrictItems.{item_is, truth_reads}
use Rattle.rust_literals.specs.declared.lit.Lit.{Lit}
use Rattle.rust_literals.specs.Parsing.{AreRead}
use Rattle.rust_literals.specs.ReadBack.{HoldsOrMemory, IsItemRead, AreItems}
use Rattle.rust_literals.proofs.LitLemmas.{read_lit}
use Rattle.rust_literals.proofs.ItemFronts.{IsFrontItem, AreReadAt, items_lead, spells_words}
use Rattle.rust_literals.proofs.StrictLits.{lit_from}

-- Each item of a printed list of literals, a literal by Rust's grammar or a minus and a number, is also a literal of
-- the lenient grammar.
item_reads : (item : Item) → IsStrictItem item → HasReading (item_text item)
item_reads (WordItem truth) is = (BoolKind, truth_reads (truth_text truth) truth refl)
item_reads (LiteralItem text) (kind, other, strict, reads) = reads
item_reads (MinusItem text) (kind, number, strict, reads) = reads

front_item : (item : Item) → IsStrictItem item → scalars (item_text item) ≡ true → IsFrontItem item
front_item (WordItem truth) is h = tt
front_item (LiteralItem text) is h = tt
front_item (MinusItem text) (kind, number, strict, reads) h =
    (reads, chars-encodes text (scalars_parts (45 ∷ []) text h).1)

abbrev ItemLit : Type 0 → (file at : ℕ) → Item → Type 0
ItemLit A file at item = (lit : Lit A) × IsItemRead file at item lit

item_lit : (A : Type 0) (file at : ℕ) (item : Item) → IsStrictItem item → scalars (item_text item) ≡ true
    → ItemLit A file at item
item_lit A file at item is h =
    let same : chars (encode_utf8_all (item_text item)) ≡ item_text item = chars-encodes (item_text item) h in
    let (kind, reads) = item_reads item is in
    let (lit, read, kind_is) = read_lit A (token_at file at (item_text item)) (Some kind)
    (spells_words (item_text item) same) (subst (λ (x : List ℕ). ReadsAs kind x) (sym same) reads) in (
      lit,
      record {
        read = read;
        characters = same;
        kind = (kind, kind_is, reads);
        is_of_kind = λ k v x of. lit_from (token_at file at (item_text item)) lit k v x read
            (subst (λ (t : List ℕ). Reads t k v x) (sym same) (item_is item is k v x of));
      },
    )

-- The literals that are parsed from the items of a printed list of literals, one by one.
abbrev ItemLits : Type 0 → (file at : ℕ) → List Entry → Type 0
ItemLits A file at entries = (lits : List (Lit A)) × AreItems file at entries lits
    × AllByRecursion (λ (e : Entry). IsFrontItem e.item) entries

item_lits : (A : Type 0) (file at : ℕ) (entries : List Entry) (last : List ℕ)
    → AllByRecursion (λ (e : Entry). IsTrivia e.gap × IsStrictItem e.item) entries → scalars (printed_text entries last)
    ≡ true → ItemLits A file at entries
item_lits A file at [] last each h = ([], refl, tt)
item_lits A file at (e ∷ es) last ((gap, is), each) h =
    let behind_gap = (scalars_parts e.gap (item_text e.item ++ printed_text es last) h).1 in
    let both = scalars_parts (item_text e.item) (printed_text es last) behind_gap in
    let n = at + byte_len e.gap in
    let (lit, read) = item_lit A file n e.item is both.0 in
    let (lits, are, fronts) = item_lits A file (n + byte_len (item_text e.item)) es last each both.1 in
    (lit ∷ lits, (read, are), (front_item e.item is both.0, fronts))

items_read_at : {A : Type 0} (file at : ℕ) (entries : List Entry) (lits : List (Lit A)) → AreItems file at entries lits
    → AreReadAt file at entries lits
items_read_at file at [] lits are = are
items_read_at file at (e ∷ es) [] are = are
items_read_at file at (e ∷ es) (l ∷ ls) (read, are) = (
  read.read,
  items_read_at file
      (at + byte_len e.gap + byte_len (item_text e.item)) es ls are,
)

-- If the list `list` has the property `holds`, and the result is this list or an allocation failure, the result has the
-- property or is an allocation failure.
pub holds_exactly : {A B : Type 0} (holds : List (Lit A) → Type 0) (list : List (Lit A))
    (r : Result (Vec (Lit A) B) (Error A)) → holds list → HoldsOrMemory (λ found. found ≡ list) r
    → HoldsOrMemory holds r
holds_exactly holds list (Ok found) h same = subst holds (sym same) h
holds_exactly holds list (Err e) h same = same

-- A printed list of literals is read as the literals of its items.
pub printed_list : {A : Type 0} (text : List ℕ) (file : ℕ) (entries : List Entry) (last : List ℕ) → IsUtf8 text
    → Printed (chars text) entries last
    → (list : List (Lit A)) × AreRead (chars text) file list × AreItems file 0 entries list
printed_list {A} text file entries last utf8 printed =
    let (lits, are, fronts) = item_lits A file 0 entries last printed.items
    (ap scalars (sym printed.text) ∙ scalars-chars text utf8) in
    let read : AreRead (chars text) file lits = record {
      trees = printed_trees file 0 entries;
      lexes = printed_literals_lex_to_their_trees (chars text) entries last file printed;
      leads = items_lead file 0 entries lits fronts (items_read_at file 0 entries lits are);
    } in
    (lits, read, are)

-- The result of `read_all` for a printed list of literals is the literals of its items, or an allocation failure.
pub printed_read : {A B : Type 0} (text : List ℕ) (file : ℕ) (r : Result (Vec (Lit A) B) (Error A)) → IsUtf8 text
    → ((list : List (Lit A)) → AreRead (chars text) file list → HoldsOrMemory (λ found. found ≡ list) r)
    → (entries : List Entry) (last : List ℕ) → Printed (chars text) entries last
    → HoldsOrMemory (AreItems file 0 entries) r
printed_read text file r utf8 exactly entries last printed =
    let (lits, read, are) = printed_list text file entries last utf8 printed in
    holds_exactly (AreItems file 0 entries) lits r are (exactly lits read)
