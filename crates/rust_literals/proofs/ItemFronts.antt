-- Lemmas about the token trees of an item of a printed list of literals, which begin with one literal.
use Rattle.rl_lenient.proofs.Names.{HasReading, ReadsAs, SpannedText, byte_len, truth_text}
use Rattle.rl_syntax.proofs.Common.{AllByRecursion, Bool, List, [], ap, arith, chars, encode_utf8_all, false, if◌then◌else◌, length, lit<, nat_tests, refl, subst, suc, sym, true, ℕ, ⊤, ◌++◌, ◌+◌, ◌==◌, ◌∙◌, ◌∷◌, ◌≡◌}
use Rattle.std.proofs.Common.{min, max}
use Rattle.std.proofs.lemmas.Str.{chars-encodes}
use Rattle.rl_syntax.specs.declared.span.Span.{Span}
use Rattle.rl_syntax.specs.declared.kind.Kind.TheVariants.{Bool as BoolKind}
use Rattle.rl_tokens.specs.Trees.{Tree}
use Rattle.rl_fronts.specs.Fronts.{joined_span, joined, IsFront}
use Rattle.rl_syntax.specs.Printed.{Item, WordItem, LiteralItem, MinusItem, item_text, Entry, token_at}
use Rattle.rl_tokens.specs.PrintedTrees.{item_trees, printed_trees}
use Rattle.rl_syntax.proofs.LowBytes.{low_front}
use Rattle.rl_lenient.proofs.StrictItems.{truth_reads}
use Rattle.rust_literals.proofs.LitLemmas.{SpellsWords}
use Rattle.rust_literals.specs.declared.lit.Lit.{Lit}
use Rattle.rust_literals.specs.Literals.{IsReadFrom}
use Rattle.rust_literals.specs.Parsing.{ReadsLiterals}

-- The UTF-8 bytes of the words `true` and `false` equal their characters.
word_bytes : (b : Bool) → encode_utf8_all (truth_text b) ≡ truth_text b
unfolding lib.Utf8.encode
word_bytes true = refl
word_bytes false = refl

-- If the characters of an encoded text are `true` or `false`, so are its bytes.
pub spells_words : (text : List ℕ) → chars (encode_utf8_all text) ≡ text → SpellsWords (encode_utf8_all text)
spells_words text same b e = ap encode_utf8_all (sym same ∙ e) ∙ word_bytes b

-- A condition on an item of a printed list: the item's token trees are one literal. If the item is a minus and a text,
-- the two together must be a literal. Any other item is one token.
abbrev pub IsFrontItem : Item → Type 0
IsFrontItem (WordItem truth) = ⊤
IsFrontItem (LiteralItem text) = ⊤
IsFrontItem (MinusItem text) = HasReading (45 ∷ text) × (chars (encode_utf8_all text) ≡ text)

word_reads : (truth : Bool) → ReadsAs BoolKind (chars (encode_utf8_all (truth_text truth)))
word_reads true = truth_reads (chars (encode_utf8_all (truth_text true))) true (chars-encodes (truth_text true) refl)
word_reads false = truth_reads (chars (encode_utf8_all (truth_text false))) false
    (chars-encodes (truth_text false) refl)

pub minus_bytes : (text : List ℕ) → encode_utf8_all (45 ∷ text) ≡ 45 ∷ encode_utf8_all text
minus_bytes text = low_front 45 text (lit< tt)

-- Lemmas about a minus and the literal after it as one token.
one_file : (file : ℕ) (a b : Span) → (if file == file then a else b) ≡ a
one_file file a b = let same : (file == file) ≡ true = grind (arith, nat_tests) in ap (λ t. if t then a else b) same

joined_at : (file at n : ℕ) → joined_span (record { file = file; lo = at; hi = at + 1 })
    (record { file = file; lo = at + 1; hi = at + 1 + n }) ≡ record { file = file; lo = at; hi = at + suc n }
joined_at file at n =
    let lo : min at (at + 1) ≡ at = omega arith in
    let hi : max (at + 1) (at + 1 + n) ≡ at + suc n = omega arith in
    one_file file (record { file = file; lo = min at (at + 1); hi = max (at + 1) (at + 1 + n) })
    (record { file = file; lo = at; hi = at + 1 })
    ∙ ap (λ x. let s : Span = record { file = file; lo = x; hi = max (at + 1) (at + 1 + n) } in s) lo
    ∙ ap (λ x. let s : Span = record { file = file; lo = at; hi = x } in s) hi

pub minus_joined : (file at : ℕ) (text : List ℕ) → joined (record
    { ch = 45; span = record { file = file; lo = at; hi = at + 1 } }) (token_at file (at + 1) text)
    ≡ token_at file at (45 ∷ text)
minus_joined file at text =
    ap (λ s. let t : SpannedText = record { text = 45 ∷ encode_utf8_all text; span = s } in t)
    (joined_at file at (byte_len text))
    ∙ ap (λ bs. let t : SpannedText = record { text = bs; span = record { file = file; lo = at; hi = at + length bs } }
    in t) (sym (minus_bytes text))

item_front : (file at : ℕ) (item : Item) (rest : List Tree) → IsFrontItem item
    → IsFront (item_trees file at item ++ rest) (token_at file at (item_text item)) rest
item_front file at (WordItem truth) rest is = (word_reads truth, refl, refl)
item_front file at (LiteralItem text) rest is = (refl, refl)
item_front file at (MinusItem text) rest (reads, same) =
    (refl, subst (λ (x : List ℕ). HasReading (45 ∷ x)) (sym same) reads, sym (minus_joined file at text), refl)

-- The literals are parsed from the items of a printed list of literals one by one. The list begins at the byte offset
-- `at` of the file.
abbrev pub AreReadAt : {A : Type 0} → (file at : ℕ) → List Entry → List (Lit A) → Type 0
AreReadAt file at [] lits = lits ≡ []
AreReadAt file at (e ∷ es) [] = ⊥
AreReadAt file at (e ∷ es) (l ∷ ls) =
    IsReadFrom (token_at file (at + byte_len e.gap) (item_text e.item)) l
    × AreReadAt file (at + byte_len e.gap + byte_len (item_text e.item)) es ls

-- The token trees of a printed list of literals consist of the literals that are parsed from its items.
pub items_lead : {A : Type 0} (file at : ℕ) (entries : List Entry) (lits : List (Lit A))
    → AllByRecursion (λ e. IsFrontItem e.item) entries → AreReadAt file at entries lits
    → ReadsLiterals (printed_trees file at entries) lits []
items_lead file at [] [] fronts are = refl
items_lead file at [] (l ∷ ls) fronts are = absurd (cc)
items_lead file at (e ∷ es) [] fronts are = absurd are
items_lead file at (e ∷ es) (l ∷ ls) (front, fronts) (read, are) =
    let n = at + byte_len e.gap in
    let rest = printed_trees file (n + byte_len (item_text e.item)) es in (
      rest,
      record { token = token_at file n (item_text e.item); front = item_front file n e.item rest front; read = read },
      items_lead file (n + byte_len (item_text e.item)) es ls fronts are,
    )
