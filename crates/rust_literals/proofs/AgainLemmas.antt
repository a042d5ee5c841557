-- If the texts of parsed literals are joined with separators between them, the joined text is parsed as the same
-- literals.
use Rattle.rl_lenient.proofs.Names.{HasReading, SpannedText, byte_len}
use Rattle.rl_syntax.proofs.Common.{AllByRecursion, IsUtf8, List, Result, [], ap, chars, drop, encode_utf8_all, refl, subst, sym, ℕ, ◌++◌, ◌+◌, ◌∙◌, ◌∷◌, ◌≡◌, ◌≢◌}
use Rattle.std.specs.Prelude.{Vec}
use Rattle.std.proofs.lemmas.Str.{scalars-chars}
use Rattle.rl_tokens.specs.declared.error.Error.{Error}
use Rattle.rl_syntax.specs.Trivia.{IsTrivia}
use Rattle.rl_tokens.specs.Trees.{Tree, IdentTree, PunctTree, LiteralTree}
use Rattle.rl_fronts.specs.Fronts.{IsFront}
use Rattle.rl_syntax.specs.Printed.{Item, WordItem, LiteralItem, MinusItem, item_text, Entry, printed_text, token_at}
use Rattle.rl_lexer.specs.PrintedTokens.{IsLexedItem, Reprinted}
use Rattle.rl_tokens.specs.PrintedTrees.{printed_trees}
use Rattle.rl_tokens.proofs.CutTrees.{IsCutTree, lexed_trees}
use Rattle.rl_tokens.proofs.PrintedLaws.{reprinted_literals_lex_to_themselves}
use Rattle.rl_lenient.proofs.MinusLemmas.{minus_chars}
use Rattle.rust_literals.specs.declared.lit.Lit.{Lit}
use Rattle.rl_syntax.specs.Reading.{IsReadAs}
use Rattle.rust_literals.specs.Literals.{kind_of, token_of, IsReadFrom}
use Rattle.rust_literals.specs.LitParts.{IsSameAt}
use Rattle.rust_literals.specs.Parsing.{IsLitFront, ReadsLiterals, AreRead}
use Rattle.rust_literals.specs.ReadBack.{HoldsOrMemory}
use Rattle.rust_literals.specs.Reprints.{lit_text, Spaced, spaced_text, lits_of, IsReprint, SameButSpans}
use Rattle.rust_literals.proofs.LitLemmas.{SpellsWords, read_lit}
use Rattle.rust_literals.proofs.ItemFronts.{IsFrontItem, minus_bytes, AreReadAt, items_lead, spells_words}
use Rattle.rust_literals.proofs.PrintedLemmas.{holds_exactly}

-- The text of a parsed literal is the text of its token.
lit_text_is : {A : Type 0} (token : SpannedText) (lit : Lit A) → IsReadFrom token lit → lit_text lit ≡ chars token.text
lit_text_is token lit (is, r) = ap (λ (t : SpannedText). chars t.text) is

-- A literal that equals `lit` except for its span, and that is parsed from the token `other`.
abbrev MovedLit : {A : Type 0} → SpannedText → Lit A → Type 0
MovedLit {A} other lit = (moved : Lit A) × IsReadFrom other moved × IsSameAt lit other.span moved

moved_lit : {A : Type 0} (token other : SpannedText) (lit : Lit A) → SpellsWords other.text → other.text ≡ token.text
    → IsReadFrom token lit → MovedLit other lit
moved_lit {A} token other lit words same (is, r) =
    let (moved, read, kind_is) = read_lit A other (kind_of lit) words
    (subst (λ (x : List ℕ). IsReadAs (kind_of lit) (chars x)) (sym same) r) in
    let text_is : other.text ≡ (token_of lit).text = same ∙ ap (λ (t : SpannedText). t.text) (sym is) in
    let there : other ≡ record (token_of lit) { span = other.span } = ap
    (λ (x : List ℕ). let t : SpannedText = record { text = x; span = other.span } in t) text_is in
    (moved, read, record { kind = kind_is; token = read.0 ∙ there })

-- The literal is parsed from an item of a printed list of literals: a literal token of some text, `true` or `false`, or
-- a minus and a literal token.
record IsCutLit {A : Type 0} (lit : Lit A) : Type 0 where
  pub item : Item
  pub is_cut : IsLexedItem item
  pub front : IsFrontItem item
  pub token : SpannedText
  pub read : IsReadFrom token lit
  pub bytes : token.text ≡ encode_utf8_all (item_text item)
  pub characters : chars token.text ≡ item_text item

abbrev FrontCut : {A : Type 0} → Lit A → List Tree → Type 0
FrontCut lit rest = IsCutLit lit × AllByRecursion IsCutTree rest

front_cut : {A : Type 0} (trees : List Tree) (lit : Lit A) (rest : List Tree) → AllByRecursion IsCutTree trees
    → IsLitFront trees lit rest → FrontCut lit rest
front_cut trees lit rest cut h = go trees cut h.front
  where
    go : (trees : List Tree) → AllByRecursion IsCutTree trees → IsFront trees h.token rest → FrontCut lit rest
    go [] cut f = absurd f
    go (LiteralTree x ∷ trees) ((text, is, of), cut) (e, f) = (
      record {
        item = LiteralItem text;
        is_cut = is;
        front = tt;
        token = h.token;
        read = h.read;
        bytes = ap (λ (t : SpannedText). t.text) e ∙ of.bytes;
        characters = ap (λ (t : SpannedText). chars t.text) e ∙ of.characters;
      },
      subst (λ (ts : List Tree). AllByRecursion IsCutTree ts) (sym f) cut,
    )
    go (IdentTree i ∷ trees) ((text, of), cut) ((v, x, r), e, f) = (
      record {
        item = WordItem r.truth;
        is_cut = tt;
        front = tt;
        token = h.token;
        read = h.read;
        bytes = ap (λ (t : SpannedText). t.text) e ∙ of.bytes ∙ ap encode_utf8_all (sym of.characters ∙ r.text_is);
        characters = ap (λ (t : SpannedText). chars t.text) e ∙ r.text_is;
      },
      subst (λ (ts : List Tree). AllByRecursion IsCutTree ts) (sym f) cut,
    )
    go (PunctTree m ∷ []) cut f = absurd f
    go (PunctTree m ∷ LiteralTree x ∷ trees) (_, ((text, is, of), cut)) (minus, reads, e, f) = (
      record {
        item = MinusItem text;
        is_cut = is;
        front = (
          subst (λ (t : List ℕ). HasReading (45 ∷ t)) of.characters reads,
          ap chars (sym of.bytes)
              ∙ of.characters,
        );
        token = h.token;
        read = h.read;
        bytes = ap (λ (t : SpannedText). t.text) e ∙ ap (λ b. 45 ∷ b) of.bytes ∙ sym (minus_bytes text);
        characters = ap (λ (t : SpannedText). chars t.text) e ∙ minus_chars x.text ∙ ap (λ t. 45 ∷ t) of.characters;
      },
      subst (λ (ts : List Tree). AllByRecursion IsCutTree ts) (sym f) cut,
    )
    go kind cut f = absurd f

leads_cut : {A : Type 0} (trees : List Tree) (lits : List (Lit A)) → AllByRecursion IsCutTree trees
    → ReadsLiterals trees lits [] → AllByRecursion IsCutLit lits
leads_cut trees [] cut leads = tt
leads_cut trees (l ∷ ls) cut (after, front, leads) =
    let (first, following) = front_cut trees l after cut front in
    (first, leads_cut after ls following leads)

-- The entries of the printed list for some literals and separators: each literal's item, and the separator before
-- it.
entries_of : {A : Type 0} (spaced : List (Spaced A)) → AllByRecursion IsCutLit (lits_of spaced) → List Entry
entries_of [] cuts = []
entries_of (s ∷ ss) (c, cuts) = record { gap = s.gap; item = c.item } ∷ entries_of ss cuts

items_cut : {A : Type 0} (spaced : List (Spaced A)) (cuts : AllByRecursion IsCutLit (lits_of spaced))
    → AllByRecursion (λ (s : Spaced A). IsTrivia s.gap) spaced
    → AllByRecursion (λ (e : Entry). IsTrivia e.gap × IsLexedItem e.item) (entries_of spaced cuts)
unfolding entries_of
items_cut [] cuts gaps = tt
items_cut (s ∷ ss) (c, cuts) (gap, gaps) = ((gap, c.is_cut), items_cut ss cuts gaps)

items_front : {A : Type 0} (spaced : List (Spaced A)) (cuts : AllByRecursion IsCutLit (lits_of spaced))
    → AllByRecursion (λ (e : Entry). IsFrontItem e.item) (entries_of spaced cuts)
unfolding entries_of
items_front [] cuts = tt
items_front (s ∷ ss) (c, cuts) = (c.front, items_front ss cuts)

all_apart : {A : Type 0} (spaced : List (Spaced A)) (cuts : AllByRecursion IsCutLit (lits_of spaced))
    → AllByRecursion (λ (s : Spaced A). s.gap ≢ []) spaced → AllByRecursion (λ (e : Entry). e.gap ≢ [])
    (entries_of spaced cuts)
unfolding entries_of
all_apart [] cuts apart = tt
all_apart (s ∷ ss) (c, cuts) (some, apart) = (some, all_apart ss cuts apart)

items_apart : {A : Type 0} (spaced : List (Spaced A)) (cuts : AllByRecursion IsCutLit (lits_of spaced))
    → AllByRecursion (λ (s : Spaced A). s.gap ≢ []) (drop 1 spaced)
    → AllByRecursion (λ (e : Entry). e.gap ≢ []) (drop 1 (entries_of spaced cuts))
unfolding entries_of
items_apart [] cuts apart = tt
items_apart (s ∷ ss) (c, cuts) apart = all_apart ss cuts apart

items_text : {A : Type 0} (spaced : List (Spaced A)) (cuts : AllByRecursion IsCutLit (lits_of spaced)) (last : List ℕ)
    → spaced_text spaced last ≡ printed_text (entries_of spaced cuts) last
unfolding entries_of
items_text [] cuts last = refl
items_text (s ∷ ss) (c, cuts) last =
    ap (λ t. s.gap ++ (lit_text s.lit ++ t)) (items_text ss cuts last)
    ∙ ap (λ t. s.gap ++ (t ++ printed_text (entries_of ss cuts) last))
    (lit_text_is c.token s.lit c.read ∙ c.characters)

abbrev MovedLits : {A : Type 0} → (file at : ℕ) → List Entry → List (Lit A) → Type 0
MovedLits {A} file at entries list = (lits : List (Lit A)) × AreReadAt file at entries lits × SameButSpans list lits

items_moved : {A : Type 0} (file at : ℕ) (spaced : List (Spaced A)) (cuts : AllByRecursion IsCutLit (lits_of spaced))
    → MovedLits file at (entries_of spaced cuts) (lits_of spaced)
unfolding entries_of
items_moved file at [] cuts = ([], refl, refl)
items_moved file at (s ∷ ss) (c, cuts) =
    let token = token_at file (at + byte_len s.gap) (item_text c.item) in
    let (lit, read, there) = moved_lit c.token token s.lit (spells_words (item_text c.item)
    (sym (ap chars c.bytes) ∙ c.characters)) (sym c.bytes) c.read in
    let (lits, are, moved) = items_moved file (at + byte_len s.gap + byte_len (item_text c.item)) ss cuts in
    (lit ∷ lits, (read, are), ((token.span, there), moved))

-- For the texts of literals that were parsed before, `read_all` returns the same literals, except for their spans, or
-- an allocation failure.
pub again_read : {A B : Type 0} (text : List ℕ) (file : ℕ) (r : Result (Vec (Lit A) B) (Error A))
    → ((list : List (Lit A)) → AreRead (chars text) file list → HoldsOrMemory (λ found. found ≡ list) r)
    → (source : List ℕ) (origin : ℕ) (spaced : List (Spaced A)) (last : List ℕ) → IsUtf8 source
    → AreRead (chars source) origin (lits_of spaced) → IsReprint (chars text) spaced last
    → HoldsOrMemory (SameButSpans (lits_of spaced)) r
again_read text file r exactly source origin spaced last is_text read again =
    let cuts = leads_cut read.trees (lits_of spaced) (lexed_trees (chars source) origin read.trees
    (scalars-chars source is_text) read.lexes) read.leads in
    let entries = entries_of spaced cuts in
    let reprinted : Reprinted (chars text) entries last = record {
      items = items_cut spaced cuts again.gaps;
      apart = items_apart spaced cuts again.apart;
      last_gap = again.last_gap;
      text = again.text ∙ items_text spaced cuts last;
    } in
    let (lits, are, moved) = items_moved file 0 spaced cuts in
    holds_exactly (SameButSpans (lits_of spaced)) lits r moved
    (exactly lits (record {
      trees = printed_trees file 0 entries;
      lexes = reprinted_literals_lex_to_themselves (chars text) entries last file reprinted;
      leads = items_lead file 0 entries lits (items_front spaced cuts) are;
    }))
