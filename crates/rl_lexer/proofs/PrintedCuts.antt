-- A text of separators and items, in turn, is lexed into the tokens of its items.
use Rattle.rl_syntax.proofs.Common.{◌≡◌, ℕ, ◌+◌, inl, inr, Bool, true, false, not, ◌&&◌, ◌||◌, ◌==◌, List, [], ◌∷◌, ◌++◌, map, length, Some, None, refl, sym, ◌∙◌, ap, subst, arith, append-nil, lit<, ⊤, option_and_then, AllByRecursion, list_all, none-some, encode_ascii, is_xid_start}
use Rattle.rl_syntax.specs.Texts.{is_white, is_among, byte_len}
use Rattle.rl_syntax.specs.Trivia.{White, Line, Block, IsTrivia}
use Rattle.rl_lexer.specs.Skipping.{BeginsTrivia}
use Rattle.rl_lexer.specs.Lexemes.{delimiters, marks, Lexeme, IdentifierLexeme, MarkLexeme, lexeme_text, IsLexeme, LexemeForm, LiteralForm, form_of}
use Rattle.rl_lexer.specs.Mirrors.LexemeAt.{SlashHead, StrayHead, head_class, lexeme_at}
use Rattle.rl_lexer.specs.Cuts.{LexedToken, LexesUpTo, OpenGroup, after_form, open_groups}
use Rattle.rl_syntax.specs.Printed.{Item, WordItem, LiteralItem, MinusItem, item_text, Entry, printed_text}
use Rattle.rl_lexer.specs.PrintedTokens.{Token, as_token, literal_token, item_tokens, printed_tokens, LexesTo}
use Rattle.rl_syntax.proofs.Basics.{false_unless}
use Rattle.rl_lexer.proofs.Pieces.{stops-from_none, no_trivia}
use Rattle.rl_lexer.proofs.LexemeRows.{not_true, not_among}
use Rattle.rl_lexer.proofs.LexemeFronts.{lexeme_at-past, stray_class, class47, at_class, among}
use Rattle.rl_lexer.proofs.LexemeGaps.{and_false, digit_solid}
use Rattle.rl_lexer.proofs.CutLemmas.{byte_len-append}

-- If no element of a list is white space, a white space character isn't in the list. Used to prove that no lexeme
-- begins with white space or a comment (`trivia_none`).
not_white_among : (codes : List ℕ) (c : ℕ) → list_all (λ k. not (is_white k)) codes ≡ true → is_white c ≡ true
    → is_among codes c ≡ false
not_white_among codes c all w = false_unless (is_among codes c)
    (λ h. let k : is_white c ≡ false = not_true (is_white c) (among codes (λ k. not (is_white k)) c all h) in absurd
    (cc))

white_class : (c : ℕ) → is_white c ≡ true → head_class c ≡ StrayHead
white_class c w =
    stray_class c (ap (λ b. (c == 95 || is_xid_start c) && not b) w ∙ and_false (c == 95 || is_xid_start c))
    (not_white_among delimiters c refl w) (not_among c 47 is_white w refl) (not_white_among marks c refl w)
    (digit_solid c (ap (λ b. b || c == 47) w)) (not_among c 34 is_white w refl) (not_among c 39 is_white w refl)

trivia_none : (t : List ℕ) → BeginsTrivia t → lexeme_at t ≡ None
trivia_none t (inl (White c, rest, w, same)) = ap lexeme_at same ∙ at_class c rest StrayHead (white_class c w)
trivia_none t (inl (Line body, rest, is, same)) = ap lexeme_at same ∙ at_class 47 _ SlashHead class47
trivia_none t (inl (Block inside, rest, is, same)) = ap lexeme_at same ∙ at_class 47 _ SlashHead class47
trivia_none t (inr line) = ap lexeme_at line.text ∙ at_class 47 _ SlashHead class47

lexeme_stops : (l : Lexeme) (after : List ℕ) → IsLexeme l after → BeginsTrivia (lexeme_text l ++ after) → ⊥
lexeme_stops l after is trivia = none-some (form_of l, after)
    (sym (trivia_none (lexeme_text l ++ after) trivia) ∙ lexeme_at-past l after is)

-- The text `t`, which begins at the byte offset `at`, is lexed into the tokens `tokens`, whatever groups are open before
-- `t`. The same groups are open after `t`.
record CutInto (at : ℕ) (t : List ℕ) (tokens : List Token) : Type 0 where
  pub cuts : List LexedToken
  pub are_cuts : LexesUpTo at t cuts []
  pub none_open : (groups : List OpenGroup) → open_groups groups cuts ≡ Some groups
  pub tokens_are : map as_token cuts ≡ tokens

-- The last separator of a printed list of literals is lexed into no tokens.
last_cut : (at : ℕ) (last : List ℕ) → IsTrivia last → CutInto at last []
last_cut at last is = record {
  cuts = [];
  are_cuts = inl (record { front = last; is_trivia = is; text = sym (append-nil last); stops = stops-from_none [] refl });
  none_open = λ groups. refl;
  tokens_are = refl;
}

-- If a text consists of a separator, a token other than a delimiter, and a remaining text, the text is lexed into this
-- token, followed by the tokens of the remaining text.
token_cut : (at : ℕ) (gap : List ℕ) (l : Lexeme) (after : List ℕ) (tokens : List Token) → IsTrivia gap
    → IsLexeme l after → ((groups : List OpenGroup) (n : ℕ) → after_form groups (form_of l) n ≡ Some groups)
    → CutInto (at + byte_len gap + byte_len (lexeme_text l)) after tokens
    → CutInto at (gap ++ (lexeme_text l ++ after))
    (record { form = form_of l; text = lexeme_text l; at = at + byte_len gap } ∷ tokens)
token_cut at gap l after tokens is_gap is_lexeme neutral rest = record {
  cuts = record { lexeme = l; at = at + byte_len gap } ∷ rest.cuts;
  are_cuts = (
    after,
    inl (record { front = gap; is_trivia = is_gap; text = refl; stops = lexeme_stops l after is_lexeme }),
    is_lexeme,
    omega (arith, byte_len-append gap (lexeme_text l ++ after)),
    rest.are_cuts,
  );
  none_open = λ groups. ap (option_and_then (λ g. open_groups g rest.cuts)) (neutral groups (at + byte_len gap))
      ∙ rest.none_open groups;
  tokens_are = ap (λ ts. as_token (record { lexeme = l; at = at + byte_len gap }) ∷ ts) rest.tokens_are;
}

literal_neutral : (l : Lexeme) → form_of l ≡ LiteralForm → (groups : List OpenGroup) (n : ℕ)
    → after_form groups (form_of l) n ≡ Some groups
literal_neutral l form groups n = ap (λ f. after_form groups f n) form

minus_len : byte_len (45 ∷ []) ≡ 1
minus_len = ap (λ z. length (z ++ [])) (encode_ascii 45 (lit< tt))

-- A condition on the text of a literal: before each text with the property `ends`, the lexer finds the literal as one
-- lexeme.
pub record LexedBefore (ends : List ℕ → Type 0) (text : List ℕ) : Type 0 where
  pub lexeme : Lexeme
  pub is_lexeme : (after : List ℕ) → ends after → IsLexeme lexeme after
  pub form : form_of lexeme ≡ LiteralForm
  pub text_is : text ≡ lexeme_text lexeme

-- The lexeme of the word `true` or `false`, an identifier.
abbrev pub word_lexeme : Bool → Lexeme
word_lexeme true = IdentifierLexeme 116 (114 ∷ 117 ∷ 101 ∷ [])
word_lexeme false = IdentifierLexeme 102 (97 ∷ 108 ∷ 115 ∷ 101 ∷ [])

-- A condition on an item of a printed list: before each text with the property `ends`, the lexer finds the item's
-- literal, or its word `true` or `false`, as one lexeme.
abbrev pub LexedItem : (List ℕ → Type 0) → Item → Type 0
LexedItem ends (WordItem truth) = (after : List ℕ) → ends after → IsLexeme (word_lexeme truth) after
LexedItem ends (LiteralItem text) = LexedBefore ends text
LexedItem ends (MinusItem text) = LexedBefore ends text

-- A condition on a printed list of literals: the text after each item, up to the end of the list, has the property
-- `ends`.
abbrev pub EndsEach : (List ℕ → Type 0) → List Entry → List ℕ → Type 0
EndsEach ends [] last = ⊤
EndsEach ends (e ∷ es) last = ends (printed_text es last) × EndsEach ends es last

literal_cut : (ends : List ℕ → Type 0) (at : ℕ) (gap text after : List ℕ) (tokens : List Token) → IsTrivia gap
    → LexedBefore ends text → ends after → CutInto (at + byte_len gap + byte_len text) after tokens
    → CutInto at (gap ++ (text ++ after)) (literal_token (at + byte_len gap) text ∷ tokens)
literal_cut ends at gap text after tokens is_gap l follows rest =
    subst (λ (x : List ℕ). CutInto at (gap ++ (x ++ after)) (literal_token (at + byte_len gap) x ∷ tokens)) (sym l.text_is)
    (subst (λ (f : LexemeForm). CutInto at (gap ++ (lexeme_text l.lexeme ++ after))
    (record { form = f; text = lexeme_text l.lexeme; at = at + byte_len gap } ∷ tokens)) l.form
    (token_cut at gap l.lexeme after tokens is_gap (l.is_lexeme after follows) (literal_neutral l.lexeme l.form)
    (subst (λ (x : List ℕ). CutInto (at + byte_len gap + byte_len x) after tokens) l.text_is rest)))

word_cut : (at : ℕ) (gap : List ℕ) (truth : Bool) (after : List ℕ) (tokens : List Token) → IsTrivia gap
    → IsLexeme (word_lexeme truth) after → CutInto (at + byte_len gap + byte_len (item_text (WordItem truth))) after
    tokens → CutInto at (gap ++ (item_text (WordItem truth) ++ after))
    (item_tokens (at + byte_len gap) (WordItem truth) ++ tokens)
word_cut at gap true after tokens is_gap is rest = token_cut at gap (word_lexeme true) after tokens is_gap is
    (λ groups n. refl) rest
word_cut at gap false after tokens is_gap is rest = token_cut at gap (word_lexeme false) after tokens is_gap is
    (λ groups n. refl) rest

minus_cut : (ends : List ℕ → Type 0) (at : ℕ) (gap text after : List ℕ) (tokens : List Token) → IsTrivia gap
    → LexedBefore ends text → ends after → CutInto (at + byte_len gap + byte_len (45 ∷ text)) after tokens
    → CutInto at (gap ++ (45 ∷ (text ++ after))) (item_tokens (at + byte_len gap) (MinusItem text) ++ tokens)
minus_cut ends at gap text after tokens is_gap l follows rest =
    let n = at + byte_len gap in
    let places : n + byte_len (45 ∷ text) ≡ n + 1 + byte_len [] + byte_len text = omega
    (arith, byte_len-append (45 ∷ []) text, minus_len) in
    let here : n + 1 + byte_len [] ≡ n + 1 = omega arith in
    let number : CutInto (n + 1) (text ++ after) (literal_token (n + 1 + byte_len []) text ∷ tokens) =
    literal_cut ends (n + 1) [] text after tokens no_trivia l follows
    (subst (λ (k : ℕ). CutInto k after tokens) places rest) in
    token_cut at gap (MarkLexeme 45) (text ++ after) (literal_token (n + 1) text ∷ tokens) is_gap (inl refl)
    (λ groups n. refl)
    (subst (λ (k : ℕ). CutInto (n + k) (text ++ after) (literal_token (n + 1) text ∷ tokens)) (sym minus_len)
    (subst (λ (k : ℕ). CutInto (n + 1) (text ++ after) (literal_token k text ∷ tokens)) here number))

item_cut : (ends : List ℕ → Type 0) (at : ℕ) (gap : List ℕ) (item : Item) (after : List ℕ) (tokens : List Token)
    → IsTrivia gap → LexedItem ends item → ends after → CutInto (at + byte_len gap + byte_len (item_text item)) after
    tokens → CutInto at (gap ++ (item_text item ++ after)) (item_tokens (at + byte_len gap) item ++ tokens)
item_cut ends at gap (WordItem truth) after tokens is_gap is follows rest = word_cut at gap truth after tokens is_gap
    (is after follows) rest
item_cut ends at gap (LiteralItem text) after tokens is_gap is follows rest = literal_cut ends at gap text after tokens
    is_gap is follows rest
item_cut ends at gap (MinusItem text) after tokens is_gap is follows rest = minus_cut ends at gap text after tokens
    is_gap is follows rest

-- If each item of a printed list is one lexeme before the text after it, the list is lexed into the tokens of its items.
entries_cut : (ends : List ℕ → Type 0) (at : ℕ) (entries : List Entry) (last : List ℕ)
    → AllByRecursion (λ e. IsTrivia e.gap × LexedItem ends e.item) entries → EndsEach ends entries last → IsTrivia last
    → CutInto at (printed_text entries last) (printed_tokens at entries)
entries_cut ends at [] last each follow is_last = last_cut at last is_last
entries_cut ends at (e ∷ es) last ((is_gap, is), each) (follows, follow) is_last =
    let next = at + byte_len e.gap + byte_len (item_text e.item) in
    item_cut ends at e.gap e.item (printed_text es last) (printed_tokens next es) is_gap is follows
    (entries_cut ends next es last each follow is_last)

-- If each item of a printed list is one lexeme before the text after it, the whole text of the list is lexed into the
-- tokens of its items.
pub entries_lex : (ends : List ℕ → Type 0) (t : List ℕ) (entries : List Entry) (last : List ℕ) → t
    ≡ printed_text entries last → AllByRecursion (λ e. IsTrivia e.gap × LexedItem ends e.item) entries
    → EndsEach ends entries last → IsTrivia last → LexesTo t (printed_tokens 0 entries)
entries_lex ends t entries last same each follow is_last =
    let c = entries_cut ends 0 entries last each follow is_last in
    record {
      cuts = c.cuts;
      are_cuts = subst (λ (x : List ℕ). LexesUpTo 0 x c.cuts []) (sym same) c.are_cuts;
      none_open = c.none_open [];
      tokens_are = c.tokens_are;
    }
