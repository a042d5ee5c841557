-- Proofs that printed lists of literals are lexed into the tokens of their items.
use Rattle.rl_syntax.proofs.Common.{◌≡◌, ◌≢◌, ℕ, inl, inr, ◌||◌, ◌==◌, true, List, [], ◌∷◌, ◌++◌, drop, refl, sym, ◌∙◌, ap, subst, append_assoc, append-nil, codes, AllByRecursion, or_right}
use Rattle.rl_syntax.specs.declared.kind.Kind.{Kind}
use Rattle.rl_syntax.specs.declared.kind.Kind.TheVariants.{Str, ByteStr, CStr, Byte, Char, Int, Float, Bool as BoolKind}
use Rattle.rl_syntax.specs.Texts.{is_white, first_passes, is_among}
use Rattle.rl_syntax.specs.Trivia.{TriviaPiece, White, Line, Block, trivia_piece_text, IsTriviaPiece, trivia_text, IsTrivia}
use Rattle.rl_lexer.specs.Lexemes.{Lexeme, QuotedLexeme, RawLexeme, CharacterLexeme, BasedLexeme, DecimalLexeme, IdentifierLexeme, DelimiterLexeme, MarkLexeme, LiteralForm, form_of}
use Rattle.rl_lexer.proofs.Gaps.{KeepsItsEnd, BeginsGap}
use Rattle.rl_syntax.specs.Reading.{Contents}
use Rattle.rl_syntax.specs.Strict.{Strict}
use Rattle.rl_syntax.specs.Quoted.{is_number}
use Rattle.rl_syntax.specs.Printed.{Item, WordItem, LiteralItem, MinusItem, item_text, Entry, printed_text, IsStrictItem, IsApart, Printed}
use Rattle.rl_lexer.specs.PrintedTokens.{IsLexedLiteral, IsLexedItem, printed_tokens, LexesTo, Reprinted}
use Rattle.rl_lexer.proofs.LexemeGaps.{stays_before_gap}
use Rattle.rl_lexer.proofs.PrintedCuts.{LexedBefore, LexedItem, EndsEach, entries_lex}
use Rattle.rl_lexer.proofs.LiteralEnds.{EndsLiteral, gap_ends, word_ends}
use Rattle.rl_lexer.proofs.StrictQuotedLexemes.{quoted_lexed}
use Rattle.rl_lexer.proofs.StrictNumberLexemes.{int_lexed, float_lexed}

-- If each element of a list has two properties, and the two properties imply a third one, each element has the third
-- property.
all_by : {A : Type 0} (P Q R : A → Type 0) → ((x : A) → P x → Q x → R x) → (xs : List A) → AllByRecursion P xs
    → AllByRecursion Q xs → AllByRecursion R xs
all_by P Q R f [] ps qs = tt
all_by P Q R f (x ∷ xs) (p, ps) (q, qs) = (f x p q, all_by P Q R f xs ps qs)

all_from : {A : Type 0} (P R : A → Type 0) → ((x : A) → P x → R x) → (xs : List A) → AllByRecursion P xs
    → AllByRecursion R xs
all_from P R f [] ps = tt
all_from P R f (x ∷ xs) (p, ps) = (f x p, all_from P R f xs ps)

tail_first : {A : Type 0} (P : A → Type 0) (xs : List A) → AllByRecursion P xs → AllByRecursion P (drop 1 xs)
tail_first P [] ps = tt
tail_first P (x ∷ xs) (p, ps) = ps

-- Lemmas about the first character of a separator.
piece_begins : (p : TriviaPiece) (rest : List ℕ) → IsTriviaPiece p → BeginsGap (trivia_piece_text p ++ rest)
piece_begins (White c) rest is = ap (λ b. b || c == 47) is
piece_begins (Line body) rest is = refl
piece_begins (Block inside) rest is = refl

gap_begins : (gap rest : List ℕ) → IsTrivia gap → (gap ≡ [] → BeginsGap rest) → BeginsGap (gap ++ rest)
gap_begins gap rest is none = go is.pieces is.each is.text
  where
    go : (ps : List TriviaPiece) → AllByRecursion IsTriviaPiece ps → gap ≡ trivia_text ps → BeginsGap (gap ++ rest)
    go [] each same = subst (λ (x : List ℕ). BeginsGap (x ++ rest)) (sym same) (none same)
    go (p ∷ ps) (is, each) same = subst (λ (x : List ℕ). BeginsGap x)
        (sym (append_assoc (trivia_piece_text p) (trivia_text ps) rest) ∙ ap (λ x. x ++ rest) (sym same))
        (piece_begins p (trivia_text ps ++ rest) is)

filled_gap : (gap rest : List ℕ) → IsTrivia gap → gap ≢ [] → BeginsGap (gap ++ rest)
filled_gap gap rest is some = gap_begins gap rest is (λ h. absurd (some h))

last_begins : (last : List ℕ) → IsTrivia last → BeginsGap last
last_begins last is = subst (λ (x : List ℕ). BeginsGap x) (append-nil last) (gap_begins last [] is (λ h. tt))

-- A condition on an entry of a printed list, which is a separator and an item: each text that begins with the entry has
-- the property `ends`.
abbrev Follows : (List ℕ → Type 0) → Entry → Type 0
Follows ends e = (rest : List ℕ) → ends (e.gap ++ (item_text e.item ++ rest))

follow_each : (ends : List ℕ → Type 0) (entries : List Entry) (last : List ℕ)
    → AllByRecursion (Follows ends) (drop 1 entries) → ends last → EndsEach ends entries last
follow_each ends [] last follow ends_last = tt
follow_each ends (e ∷ []) last follow ends_last = (ends_last, tt)
follow_each ends (e ∷ d ∷ es) last (here, follow) ends_last =
    (here (printed_text es last), follow_each ends (d ∷ es) last follow ends_last)

-- A literal by Rust's grammar, other than a `bool`, is one lexeme before each text that may follow a literal.
strict_lexed : (kind : Kind) (text suffix : List ℕ) (contents : Contents) → kind ≢ BoolKind
    → Strict text kind contents suffix → LexedBefore EndsLiteral text
strict_lexed Int text suffix contents other strict = int_lexed text suffix contents strict
strict_lexed Float text suffix contents other strict = float_lexed text suffix contents strict
strict_lexed BoolKind text suffix contents other strict = absurd (other refl)
strict_lexed Str text suffix contents other strict = quoted_lexed Str text suffix contents strict
strict_lexed ByteStr text suffix contents other strict = quoted_lexed ByteStr text suffix contents strict
strict_lexed CStr text suffix contents other strict = quoted_lexed CStr text suffix contents strict
strict_lexed Byte text suffix contents other strict = quoted_lexed Byte text suffix contents strict
strict_lexed Char text suffix contents other strict = quoted_lexed Char text suffix contents strict

not_bool : (kind : Kind) → is_number kind ≡ true → kind ≢ BoolKind
not_bool kind number same = let e : is_number BoolKind ≡ true = ap is_number (sym same) ∙ number in absurd (cc)

item_lexed : (item : Item) → IsStrictItem item → LexedItem EndsLiteral item
item_lexed (WordItem truth) is = λ after ends. word_ends truth after ends
item_lexed (LiteralItem text) (kind, other, (contents, suffix, strict), read) = strict_lexed kind text suffix contents
    other strict
item_lexed (MinusItem text) (kind, number, (contents, suffix, strict), read) = strict_lexed kind text suffix contents
    (not_bool kind number) strict

strict_item : (e : Entry) → IsTrivia e.gap × IsStrictItem e.item → IsTrivia e.gap × LexedItem EndsLiteral e.item
strict_item e (gap, is) = (gap, item_lexed e.item is)

-- A text that begins with a quote, an apostrophe or a minus may follow a literal.
text_ends : (text rest : List ℕ) → first_passes (is_among (codes "\"'-")) text ≡ true → EndsLiteral (text ++ rest)
text_ends [] rest begins = absurd (cc)
text_ends (c ∷ t) rest begins = or_right (is_white c) (is_among (47 ∷ codes "\"'-") c)
    (or_right (c == 47) (is_among (codes "\"'-") c) begins)

item_follows : (e : Entry) → IsTrivia e.gap × IsStrictItem e.item → IsApart e → Follows EndsLiteral e
item_follows e (gap, is) (inl some) rest = gap_ends (e.gap ++ (item_text e.item ++ rest))
    (filled_gap e.gap (item_text e.item ++ rest) gap some)
item_follows e (gap, is) (inr begins) rest = go e.gap gap
  where
    go : (g : List ℕ) → IsTrivia g → EndsLiteral (g ++ (item_text e.item ++ rest))
    go [] is = text_ends (item_text e.item) rest begins
    go (c ∷ g) is = gap_ends (c ∷ g ++ (item_text e.item ++ rest))
        (filled_gap (c ∷ g) (item_text e.item ++ rest) is (λ h. cc))

-- Proof that a printed list of literals by Rust's grammar is lexed into the tokens of its items.
pub printed_lexes : (t : List ℕ) (entries : List Entry) (last : List ℕ) → Printed t entries last
    → LexesTo t (printed_tokens 0 entries)
printed_lexes t entries last printed =
    entries_lex EndsLiteral t entries last printed.text
    (all_from (λ (e : Entry). IsTrivia e.gap × IsStrictItem e.item)
    (λ (e : Entry). IsTrivia e.gap × LexedItem EndsLiteral e.item) strict_item entries printed.items)
    (follow_each EndsLiteral entries last
    (all_by (λ (e : Entry). IsTrivia e.gap × IsStrictItem e.item) IsApart (Follows EndsLiteral) item_follows
    (drop 1 entries) (tail_first _ entries printed.items) printed.apart)
    (gap_ends last (last_begins last printed.last_gap)))
    printed.last_gap

-- A lexed literal stays the same lexeme if the text after it is replaced by a separator.
literal_keeps : (l : Lexeme) → form_of l ≡ LiteralForm → KeepsItsEnd l
literal_keeps (QuotedLexeme p parts x) form = tt
literal_keeps (RawLexeme p n body x) form = tt
literal_keeps (CharacterLexeme b inside x) form = tt
literal_keeps (BasedLexeme letter digits) form = tt
literal_keeps (DecimalLexeme d more f e x) form = tt
literal_keeps (IdentifierLexeme c more) form = tt
literal_keeps (DelimiterLexeme c) form = tt
literal_keeps (MarkLexeme c) form = absurd (cc)

cut_stays : (text : List ℕ) → IsLexedLiteral text → LexedBefore BeginsGap text
cut_stays text (l, after, is, form, same) = record { lexeme = l; is_lexeme = λ gap begins. stays_before_gap l after gap (literal_keeps l form) is begins; form = form; text_is = same }

item_stays : (item : Item) → IsLexedItem item → LexedItem BeginsGap item
item_stays (WordItem truth) is = λ after begins. word_ends truth after (gap_ends after begins)
item_stays (LiteralItem text) is = cut_stays text is
item_stays (MinusItem text) is = cut_stays text is

-- Proof that a printed list of literals that were lexed from any text is lexed into the tokens of its items.
pub reprinted_lexes : (t : List ℕ) (entries : List Entry) (last : List ℕ) → Reprinted t entries last
    → LexesTo t (printed_tokens 0 entries)
reprinted_lexes t entries last printed =
    entries_lex BeginsGap t entries last printed.text
    (all_from (λ (e : Entry). IsTrivia e.gap × IsLexedItem e.item)
    (λ (e : Entry). IsTrivia e.gap × LexedItem BeginsGap e.item) (λ e is. (is.0, item_stays e.item is.1)) entries
    printed.items)
    (follow_each BeginsGap entries last
    (all_by (λ (e : Entry). IsTrivia e.gap × IsLexedItem e.item) (λ (e : Entry). e.gap ≢ []) (Follows BeginsGap)
    (λ e is some rest. filled_gap e.gap (item_text e.item ++ rest) is.0 some) (drop 1 entries)
    (tail_first _ entries printed.items) printed.apart)
    (last_begins last printed.last_gap))
    printed.last_gap
