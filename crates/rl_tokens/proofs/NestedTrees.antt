-- The tokens of a text in which each group is closed are the tokens of token trees.
use Rattle.rl_syntax.proofs.Common.{◌≡◌, ◌⊎◌, ◌<◌, inl, inr, ℕ, ◌+◌, ◌-◌, Bool, true, false, ◌&&◌, ◌||◌, ◌==◌, nat_lt, List, [], ◌∷◌, ◌++◌, length, map, Option, Some, None, refl, sym, ◌∙◌, ap, subst, arith, append_assoc, if◌then◌else◌, option_and_then, none-some, encode_utf8_all, encode_ascii, eqb-true, and_parts, codes}
use Rattle.rl_syntax.specs.declared.span.Span.{Span}
use Rattle.rl_syntax.specs.Texts.{SpannedText, byte_len}
use Rattle.rl_lexer.specs.Lexemes.{Lexeme, QuotedLexeme, RawLexeme, CharacterLexeme, BasedLexeme, DecimalLexeme, IdentifierLexeme, DelimiterLexeme, MarkLexeme, lexeme_text}
use Rattle.rl_lexer.specs.Cuts.{LexedToken, end_of, OpenGroup, is_pair, is_opener, closes, popped, after_delimiter, after_lexeme, open_groups}
use Rattle.rl_lexer.proofs.LexemeFronts.{low_among}
use Rattle.rl_tokens.specs.Trees.{Tree, GroupTree, IdentTree, PunctTree, LiteralTree, FlatToken, Opening, Closing, flat, flat_trees, inside_of, closer_span}
use Rattle.rl_tokens.specs.Lexing.{delimiter_for, flat_token}
use Rattle.rl_tokens.specs.Lexing.{ATextLexesOrHasAnError}
use Rattle.rl_lexer.proofs.CutOrError.{cut_or_error}

-- The span of a delimiter, and the token of a closing one.
abbrev one_byte : ℕ → ℕ → Span
one_byte file at = record { file = file; lo = at; hi = at + 1 }

abbrev token_in : ℕ → LexedToken → SpannedText
token_in file w =
    record { text = encode_utf8_all (lexeme_text w.lexeme); span = record { file = file; lo = w.at; hi = end_of w } }

-- The tokens are those of token trees, of a closing delimiter, and so on for each group that is open before them.
abbrev Nested : ℕ → List OpenGroup → List FlatToken → Type 0
Nested file [] tokens = (trees : List Tree) × (tokens ≡ flat_trees trees)
Nested file (o ∷ os) tokens =
    (trees : List Tree) × (at : ℕ) × (rest : List FlatToken)
    × (tokens ≡ flat_trees trees ++ (Closing (delimiter_for o.opener) (one_byte file at) ∷ rest))
    × Nested file os rest

-- One more token tree at the front.
nested_more : (file : ℕ) (groups : List OpenGroup) (tree : Tree) (tokens : List FlatToken) → Nested file groups tokens
    → Nested file groups (flat tree ++ tokens)
nested_more file [] tree tokens (trees, same) = (tree ∷ trees, ap (λ ts. flat tree ++ ts) same)
nested_more file (o ∷ os) tree tokens (trees, at, rest, same, more) =
    let last = Closing (delimiter_for o.opener) (one_byte file at) ∷ rest in
    (tree ∷ trees, at, rest, ap (λ ts. flat tree ++ ts) same ∙ sym (append_assoc (flat tree) (flat_trees trees) last), more)

same_tokens : (file : ℕ) (groups : List OpenGroup) (xs ys : List FlatToken) → xs ≡ ys → Nested file groups ys
    → Nested file groups xs
same_tokens file groups xs ys e n = subst (λ (ts : List FlatToken). Nested file groups ts) (sym e) n

-- A group at the front: its opening delimiter is before the tokens.
nested_group : (file at c : ℕ) (groups : List OpenGroup) (tokens : List FlatToken)
    → Nested file (let g : OpenGroup = record { opener = c; at = at } in g ∷ groups) tokens
    → Nested file groups (Opening (delimiter_for c) (one_byte file at) ∷ tokens)
nested_group file at c groups tokens (trees, end, rest, same, more) =
    let span : Span = record { file = file; lo = at; hi = end + 1 } in
    let tree = GroupTree (delimiter_for c) (inside_of trees) span in
    let last : closer_span span ≡ one_byte file end =
    ap (λ x. let s : Span = record { file = file; lo = x; hi = end + 1 } in s) (let q : end + 1 - 1 ≡ end = omega arith in q) in
    let whole : Opening (delimiter_for c) (one_byte file at) ∷ tokens ≡ flat tree ++ rest =
    ap (λ ts. Opening (delimiter_for c) (one_byte file at) ∷ ts)
    (same
    ∙ sym (append_assoc (flat_trees trees) (Closing (delimiter_for c) (one_byte file end) ∷ []) rest)
    ∙ ap (λ s. (flat_trees trees ++ (Closing (delimiter_for c) s ∷ [])) ++ rest) (sym last)) in
    same_tokens file groups (Opening (delimiter_for c) (one_byte file at) ∷ tokens) (flat tree ++ rest) whole
    (nested_more file groups tree rest more)

-- ---- the delimiters of a group

abbrev IsPairOf : ℕ → ℕ → Type 0
IsPairOf a c = ((a ≡ 40) × (c ≡ 41)) ⊎ (((a ≡ 91) × (c ≡ 93)) ⊎ ((a ≡ 123) × (c ≡ 125)))

pair_cases : (a c : ℕ) → is_pair a c ≡ true → IsPairOf a c
pair_cases a c h = go (a == 40 && c == 41) (a == 91 && c == 93) (a == 123 && c == 125) refl refl refl h
  where
    both : (k l : ℕ) → (a == k && c == l) ≡ true → (a ≡ k) × (c ≡ l)
    both k l e = let (x, y) = and_parts (a == k) (c == l) e in (eqb-true a k x, eqb-true c l y)

    go : (x y z : Bool) → (a == 40 && c == 41) ≡ x → (a == 91 && c == 93) ≡ y → (a == 123 && c == 125) ≡ z
        → (x || y || z) ≡ true → IsPairOf a c
    go true y z e f g h = inl (both 40 41 e)
    go false true z e f g h = inr (inl (both 91 93 f))
    go false false true e f g h = inr (inr (both 123 125 g))
    go false false false e f g h = absurd (cc)

pair_delimiter : (a c : ℕ) → IsPairOf a c → delimiter_for c ≡ delimiter_for a
pair_delimiter a c (inl (x, y)) = ap delimiter_for y ∙ sym (ap delimiter_for x)
pair_delimiter a c (inr (inl (x, y))) = ap delimiter_for y ∙ sym (ap delimiter_for x)
pair_delimiter a c (inr (inr (x, y))) = ap delimiter_for y ∙ sym (ap delimiter_for x)

one_len : (c : ℕ) → c < 128 → byte_len (c ∷ []) ≡ 1
one_len c low = ap (λ z. length (z ++ [])) (encode_ascii c low)

pair_low : (a c : ℕ) → IsPairOf a c → c < 128
pair_low a c (inl (x, y)) = omega (arith, y)
pair_low a c (inr (inl (x, y))) = omega (arith, y)
pair_low a c (inr (inr (x, y))) = omega (arith, y)

-- ---- one more token at the front

same_nested : (file : ℕ) (groups h : List OpenGroup) (tokens : List FlatToken) → Some groups ≡ Some h
    → Nested file h tokens → Nested file groups tokens
same_nested file groups h tokens e n =
    let same : h ≡ groups = cc in subst (λ (g : List OpenGroup). Nested file g tokens) same n

opening_nested : (file at c n : ℕ) (groups h : List OpenGroup) (tokens : List FlatToken) → n ≡ 1
    → h ≡ (let g : OpenGroup = record { opener = c; at = at } in g ∷ groups) → Nested file h tokens
    → Nested file groups (Opening (delimiter_for c) (record { file = file; lo = at; hi = at + n }) ∷ tokens)
opening_nested file at c n groups h tokens one same nested =
    same_tokens file groups (Opening (delimiter_for c) (record { file = file; lo = at; hi = at + n }) ∷ tokens)
    (Opening (delimiter_for c) (one_byte file at) ∷ tokens)
    (ap (λ k. Opening (delimiter_for c) (record { file = file; lo = at; hi = at + k }) ∷ tokens) one)
    (nested_group file at c groups tokens (subst (λ (g : List OpenGroup). Nested file g tokens) same nested))

closing_nested : (file at c : ℕ) (groups h : List OpenGroup) (tokens : List FlatToken) → closes groups c ≡ true
    → h ≡ popped groups → Nested file h tokens
    → Nested file groups (Closing (delimiter_for c) (record { file = file; lo = at; hi = at + byte_len (c ∷ []) }) ∷ tokens)
closing_nested file at c [] h tokens closed same nested = absurd (cc)
closing_nested file at c (o ∷ os) h tokens closed same nested =
    let pair = pair_cases o.opener c closed in (
      [],
      at,
      tokens,
      ap (λ k. Closing (delimiter_for c) (record { file = file; lo = at; hi = at + k }) ∷ tokens)
          (one_len c (pair_low o.opener c pair))
          ∙ ap (λ d. Closing d (one_byte file at) ∷ tokens) (pair_delimiter o.opener c pair),
      subst (λ (g : List OpenGroup). Nested file g tokens) same nested,
    )

delimiter_nested : (file at c : ℕ) (groups h : List OpenGroup) (tokens : List FlatToken)
    → after_delimiter groups c at ≡ Some h → Nested file h tokens
    → Nested file groups (flat_token file (record { lexeme = DelimiterLexeme c; at = at }) ∷ tokens)
delimiter_nested file at c groups h tokens some nested =
    go (is_opener c) (nat_lt (length groups) 128) (closes groups c) refl refl some
  where
    go : (o n k : Bool) → is_opener c ≡ o → closes groups c ≡ k
        → (if o then (if n then Some (let g : OpenGroup = record { opener = c; at = at } in g ∷ groups) else None)
        else (if k then Some (popped groups) else None)) ≡ Some h
        → Nested file groups ((if o then Opening (delimiter_for c) (record { file = file; lo = at; hi = at + byte_len (c ∷ []) })
        else Closing (delimiter_for c) (record { file = file; lo = at; hi = at + byte_len (c ∷ []) })) ∷ tokens)
    go true true k a b e =
        opening_nested file at c (byte_len (c ∷ [])) groups h tokens (one_len c (low_among (codes "([{") c refl a)) (cc) nested
    go true false k a b e = absurd (cc)
    go false n true a b e = closing_nested file at c groups h tokens b (cc) nested
    go false n false a b e = absurd (cc)

lexeme_nested : (file at : ℕ) (l : Lexeme) (groups h : List OpenGroup) (tokens : List FlatToken)
    → after_lexeme groups l at ≡ Some h → Nested file h tokens
    → Nested file groups (flat_token file (record { lexeme = l; at = at }) ∷ tokens)
lexeme_nested file at (DelimiterLexeme c) groups h tokens e n = delimiter_nested file at c groups h tokens e n
lexeme_nested file at (IdentifierLexeme c more) groups h tokens e n =
    nested_more file groups (IdentTree (token_in file (record { lexeme = IdentifierLexeme c more; at = at }))) tokens
    (same_nested file groups h tokens e n)
lexeme_nested file at (MarkLexeme c) groups h tokens e n =
    nested_more file groups (PunctTree (record { ch = c; span = (token_in file (record { lexeme = MarkLexeme c; at = at })).span })) tokens
    (same_nested file groups h tokens e n)
lexeme_nested file at (QuotedLexeme p parts x) groups h tokens e n =
    nested_more file groups (LiteralTree (token_in file (record { lexeme = QuotedLexeme p parts x; at = at }))) tokens
    (same_nested file groups h tokens e n)
lexeme_nested file at (RawLexeme p k body x) groups h tokens e n =
    nested_more file groups (LiteralTree (token_in file (record { lexeme = RawLexeme p k body x; at = at }))) tokens
    (same_nested file groups h tokens e n)
lexeme_nested file at (CharacterLexeme b inside x) groups h tokens e n =
    nested_more file groups (LiteralTree (token_in file (record { lexeme = CharacterLexeme b inside x; at = at }))) tokens
    (same_nested file groups h tokens e n)
lexeme_nested file at (BasedLexeme letter digits) groups h tokens e n =
    nested_more file groups (LiteralTree (token_in file (record { lexeme = BasedLexeme letter digits; at = at }))) tokens
    (same_nested file groups h tokens e n)
lexeme_nested file at (DecimalLexeme d more f p x) groups h tokens e n =
    nested_more file groups (LiteralTree (token_in file (record { lexeme = DecimalLexeme d more f p x; at = at }))) tokens
    (same_nested file groups h tokens e n)

-- ---- all tokens

token_nested : (file : ℕ) (w : LexedToken) (ws : List LexedToken) (groups : List OpenGroup) (o : Option (List OpenGroup))
    → after_lexeme groups w.lexeme w.at ≡ o → option_and_then (λ g. open_groups g ws) o ≡ Some []
    → ((h : List OpenGroup) → open_groups h ws ≡ Some [] → Nested file h (map (flat_token file) ws))
    → Nested file groups (flat_token file w ∷ map (flat_token file) ws)
token_nested file w ws groups None e closed next = absurd (none-some [] closed)
token_nested file w ws groups (Some h) e closed next =
    lexeme_nested file w.at w.lexeme groups h (map (flat_token file) ws) e (next h closed)

nested : (file : ℕ) (ws : List LexedToken) (groups : List OpenGroup) → open_groups groups ws ≡ Some []
    → Nested file groups (map (flat_token file) ws)
nested file [] [] e = ([], refl)
nested file [] (o ∷ os) e = absurd (cc)
nested file (w ∷ ws) groups e =
    token_nested file w ws groups (after_lexeme groups w.lexeme w.at) refl e (λ h closed. nested file ws h closed)

pub lexes_or_fails : ATextLexesOrHasAnError
lexes_or_fails t file =
    elim (cut_or_error t) [
      | inl cut ↦
          let (trees, flat_is) = nested file cut.cuts [] cut.none_open in
          inl (trees, record { cuts = cut.cuts; are_cuts = cut.are_cuts; none_open = cut.none_open; flat_is = flat_is })
      | inr error ↦ inr error
    ]
