-- Lexing can't continue at the position of a lexing error, and a position has at most one kind of error.
use Rattle.rl_syntax.proofs.Common.{◌≡◌, ◌≢◌, ℕ, Bool, true, false, not, ◌&&◌, ◌||◌, ◌==◌, cond, List, [], ◌∷◌, ◌++◌, length, Option, Some, None, refl, sym, ◌∙◌, ap, subst, lit<, and_parts, or_parts, none-some, codes, nat_lt, if◌then◌else◌}
use Rattle.rl_lexer.specs.declared.lex_error.LexKind.{LexKind}
use Rattle.rl_lexer.specs.declared.lex_error.LexKind.TheVariants.{DocComment, UnclosedComment, UnclosedQuote, Lifetime, RawIdentifier, StrayCharacter, UnmatchedClose, UnclosedGroup, TooDeep, Memory}
use Rattle.rl_syntax.specs.Texts.{is_among, first_passes, begins, is_start, begins_char}
use Rattle.rl_lexer.specs.Lexemes.{Lexeme, lexeme_text, IsLexeme, LexemeForm, form_of, DelimiterForm, MarkForm, delimiters, begins_raw_identifier}
use Rattle.rl_lexer.specs.Mirrors.LexemeAt.{lexeme_at, SlashHead, begins_quote}
use Rattle.rl_syntax.specs.Classes.{after_run, is_hash}
use Rattle.rl_lexer.specs.Cuts.{OpenGroup, is_opener, is_closer, closes, popped, after_form, begins_doc_comment, begins_lifetime, BeginsNoLexeme, ErrorAt}
use Rattle.rl_lexer.specs.Mirrors.ErrorAt.{error_kind}
use Rattle.rl_syntax.proofs.Basics.{false_unless}
use Rattle.rl_lexer.proofs.Comments.{same_Some}
use Rattle.rl_lexer.proofs.Pieces.{is_equal}
use Rattle.rl_lexer.proofs.LexemeRows.{not_true, not_among}
use Rattle.rl_lexer.proofs.LexemeFronts.{lexeme_at-past, start_ascii, front_delimiter, class47, at_class, among}
use Rattle.rl_lexer.proofs.LexemeOpeners.{quote_here, no_quote_here, raw_split, passes_split}
use Rattle.rl_lexer.proofs.LexemeFound.{lexeme_at-found}
use Rattle.rl_tokens.proofs.CutLaws.{IsStuck}

-- A lexeme at the start of a text is the one that the model `lexeme_at` finds.
found_form : (l : Lexeme) (after r : List ℕ) → IsLexeme l after → r ≡ lexeme_text l ++ after → lexeme_at r
    ≡ Some (form_of l, after)
found_form l after r is same = ap lexeme_at same ∙ lexeme_at-past l after is

stuck_unless : (groups : List OpenGroup) (r : List ℕ) → lexeme_at r ≡ None → IsStuck groups r
stuck_unless groups r none l after at is same = absurd (none-some (form_of l, after)
    (sym none ∙ found_form l after r is same))

stuck_without : (groups : List OpenGroup) (r : List ℕ) → BeginsNoLexeme r → IsStuck groups r
stuck_without groups r none l after at is same = absurd (none after (lexeme_text l, (l, is, refl), same))

no_lexeme_at : (r : List ℕ) → BeginsNoLexeme r → lexeme_at r ≡ None
no_lexeme_at r none = go (lexeme_at r) refl
  where
    go : (o : Option (LexemeForm × List ℕ)) → lexeme_at r ≡ o → o ≡ None
    go None h = refl
    go (Some p) h =
        let (l, is, same, form) = lexeme_at-found r p h in
        absurd (none p.1 (lexeme_text l, (l, is, refl), same))

-- A condition on a text: it begins with `//` or `/*`. No lexeme begins a text that begins with these characters.
abbrev SlashAndMark : List ℕ → Type 0
SlashAndMark r = (t : List ℕ) × (r ≡ 47 ∷ t) × (first_passes (λ d. d == 47 || d == 42) t ≡ true)

slash_none : (r : List ℕ) → SlashAndMark r → lexeme_at r ≡ None
slash_none r (t, same, h) = ap lexeme_at same ∙ at_class 47 t SlashHead class47
    ∙ ap (λ b. cond b None (Some (MarkForm 47, t))) h

slash_and : (c d : ℕ) (t : List ℕ) → ((c == 47) ≡ true) × ((d == 47 || d == 42) ≡ true) → SlashAndMark (c ∷ d ∷ t)
slash_and c d t (a, b) = (d ∷ t, ap (λ x. x ∷ d ∷ t) (is_equal c 47 a), b)

doc_slash : (r : List ℕ) → begins_doc_comment r ≡ true → SlashAndMark r
doc_slash [] h = absurd (cc)
doc_slash (c ∷ []) h = absurd (one (c == 47) h)
  where
    one : (a : Bool) → (((a && false) && not (a && false)) || (a && false)
        || ((a && false) && not ((a && false) || (a && false))) || (a && false)) ≡ true → ⊥
    one true h = absurd (cc)
    one false h = absurd (cc)
doc_slash (c ∷ d ∷ t) h =
    slash_and c d t (two (c == 47) (d == 47) (d == 42) (begins (codes "/") t) (begins (codes "//") t)
    (begins (codes "!") t) (begins (codes "*") t) (begins (codes "*/") t) (begins (codes "**") t) h)
  where
    two : (a p q x y z u v w : Bool) → (((a && (p && x)) && not (a && (p && y))) || (a && (p && z))
        || ((a && (q && u)) && not ((a && (q && v)) || (a && (q && w)))) || (a && (q && z))) ≡ true → (a ≡ true)
        × ((p || q) ≡ true)
    two false p q x y z u v w h = absurd (cc)
    two true true q x y z u v w h = (refl, refl)
    two true false true x y z u v w h = (refl, refl)
    two true false false x y z u v w h = absurd (cc)

block_slash : (r : List ℕ) → begins (codes "/*") r ≡ true → SlashAndMark r
block_slash [] h = absurd (cc)
block_slash (c ∷ []) h = absurd (one (c == 47) h)
  where
    one : (a : Bool) → (a && false) ≡ true → ⊥
    one true h = absurd (cc)
    one false h = absurd (cc)
block_slash (c ∷ d ∷ t) h = slash_and c d t (two (c == 47) (d == 47) (d == 42) h)
  where
    two : (a p q : Bool) → (a && (q && true)) ≡ true → (a ≡ true) × ((p || q) ≡ true)
    two false p q h = absurd (cc)
    two true true q h = (refl, refl)
    two true false true h = (refl, refl)
    two true false false h = absurd (cc)

-- If a text begins with a delimiter that is an error while the groups `groups` are open, lexing can't continue with the
-- text.
delimiter_stuck : (groups : List OpenGroup) (c : ℕ) (t : List ℕ) → is_among delimiters c ≡ true
    → ((at : ℕ) → after_form groups (DelimiterForm c) at ≡ None) → IsStuck groups (c ∷ t)
delimiter_stuck groups c t is none l after at is_l same =
    let p : ◌≡◌ {A = Option (LexemeForm × List ℕ)} (Some (form_of l, after)) (Some (DelimiterForm c, t)) = sym
    (found_form l after (c ∷ t) is_l same) ∙ front_delimiter c t is in
    let form : form_of l ≡ DelimiterForm c = ap (λ (q : LexemeForm × List ℕ). q.0)
    (same_Some (form_of l, after) (DelimiterForm c, t) p) in
    ap (λ f. after_form groups f at) form ∙ none at

closer_among : (c : ℕ) → is_closer c ≡ true → (is_among delimiters c ≡ true) × (is_opener c ≡ false)
closer_among c h = (
  among (codes ")]}") (is_among delimiters) c refl h,
  not_true (is_opener c)
      (among (codes ")]}") (λ k. not (is_opener k)) c refl h),
)

opener_among : (c : ℕ) → is_opener c ≡ true → is_among delimiters c ≡ true
opener_among c h = among (codes "([{") (is_among delimiters) c refl h

close_stuck : (groups : List OpenGroup) (r : List ℕ) → first_passes (λ c. is_closer c && not (closes groups c)) r ≡ true
    → IsStuck groups r
close_stuck groups r h =
    let (c, t, same, is) = passes_split (λ c. is_closer c && not (closes groups c)) r h in
    let k : (is_closer c ≡ true) × (not (closes groups c) ≡ true) = and_parts (is_closer c) (not (closes groups c)) is
    in
    let m = closer_among c k.0 in
    subst (λ (x : List ℕ). IsStuck groups x) (sym same)
    (delimiter_stuck groups c t m.0 (λ at.
    ap (λ b. if b then (if nat_lt (length groups) 128 then Some (record { opener = c; at = at } ∷ groups) else None)
    else (if closes groups c then Some (popped groups) else None)) m.1
    ∙ ap (λ b. if b then Some (popped groups) else None) (not_true (closes groups c) k.1)))

deep_stuck : (groups : List OpenGroup) (r : List ℕ) → first_passes is_opener r ≡ true → length groups ≡ 128
    → IsStuck groups r
deep_stuck groups r h n =
    let (c, t, same, is) = passes_split is_opener r h in
    subst (λ (x : List ℕ). IsStuck groups x) (sym same)
    (delimiter_stuck groups c t (opener_among c is) (λ at.
    ap (λ b. if b then (if nat_lt (length groups) 128 then Some (record { opener = c; at = at } ∷ groups) else None)
    else (if closes groups c then Some (popped groups) else None)) is
    ∙ ap (λ m. if nat_lt m 128 then Some (record { opener = c; at = at } ∷ groups) else None) n))

pub nothing_stuck : (groups : List OpenGroup) (r : List ℕ) → r ≡ [] → IsStuck groups r
nothing_stuck groups r nil = stuck_unless groups r (ap lexeme_at nil)

-- Lexing can't continue at the position of a lexing error.
pub error_stuck : (k : LexKind) (groups : List OpenGroup) (r : List ℕ) → ErrorAt k groups r → IsStuck groups r
error_stuck DocComment groups r h = stuck_unless groups r (slash_none r (doc_slash r h))
error_stuck UnclosedComment groups r (h, other) = stuck_unless groups r (slash_none r (block_slash r h))
error_stuck UnclosedQuote groups r (none, h) = stuck_without groups r none
error_stuck Lifetime groups r (none, h) = stuck_without groups r none
error_stuck RawIdentifier groups r (none, h) = stuck_without groups r none
error_stuck StrayCharacter groups r (some, none, no_quote, h) = stuck_without groups r none
error_stuck UnmatchedClose groups r h = close_stuck groups r h
error_stuck UnclosedGroup groups r (nil, some) = nothing_stuck groups r nil
error_stuck TooDeep groups r (h, n) = deep_stuck groups r h n
error_stuck Memory groups r h = absurd h

-- The kind of a lexing error is determined by the remaining text. If a lexeme begins the remaining text, the form of
-- the lexeme determines the kind.
abbrev kind_by_form : LexemeForm → LexKind
kind_by_form (DelimiterForm c) = if is_opener c then TooDeep else UnmatchedClose
kind_by_form _ = StrayCharacter

abbrev pub kind_at : Option (LexemeForm × List ℕ) → List ℕ → LexKind
kind_at None [] = UnclosedGroup
kind_at None (c ∷ t) = error_kind (c ∷ t)
kind_at (Some p) r = kind_by_form p.0

no_lexeme_kind : (r : List ℕ) (k : LexKind) → lexeme_at r ≡ None → r ≢ [] → error_kind r ≡ k → k
    ≡ kind_at (lexeme_at r) r
no_lexeme_kind [] k none some e = absurd (some refl)
no_lexeme_kind (c ∷ t) k none some e = sym (ap (λ o. kind_at o (c ∷ t)) none ∙ e)

slash_some : (r : List ℕ) → SlashAndMark r → r ≢ []
slash_some r (t, same, h) nil = let q : 47 ∷ t ≡ [] = sym same ∙ nil in absurd (cc)

passes_some : (test : List ℕ → Bool) (r : List ℕ) → test [] ≡ false → test r ≡ true → r ≢ []
passes_some test r fails h nil = let q : true ≡ false = sym h ∙ ap test nil ∙ fails in absurd (cc)

-- A text that begins with a slash begins no quote, no lifetime and no raw identifier.
no_slash : (test : List ℕ → Bool) (r : List ℕ) → ((d : ℕ) (u : List ℕ) → test (47 ∷ d ∷ u) ≡ false) → test r ≡ true
    → SlashAndMark r → ⊥
no_slash test r fails h ([], same, is) = absurd (cc)
no_slash test r fails h (d ∷ u, same, is) = let q : true ≡ false = sym h ∙ ap test same ∙ fails d u in absurd (cc)

not_comment : (test : List ℕ → Bool) (r : List ℕ) → ((d : ℕ) (u : List ℕ) → test (47 ∷ d ∷ u) ≡ false) → test r ≡ true
    → (begins_doc_comment r ≡ false) × (begins (codes "/*") r ≡ false)
not_comment test r fails h = (
  false_unless (begins_doc_comment r) (λ doc. no_slash test r fails h (doc_slash r doc)),
  false_unless (begins (codes "/*") r) (λ block. no_slash test r fails h (block_slash r block)),
)

abbrev Choice : Bool → Bool → Bool → Bool → Bool → LexKind
Choice doc block quote life raw = if doc then DocComment else
    (if block then UnclosedComment else (if quote then UnclosedQuote else
    (if life then Lifetime else (if raw then RawIdentifier else StrayCharacter))))

chosen_kind : (r : List ℕ) (doc block quote life raw : Bool) → begins_doc_comment r ≡ doc → begins (codes "/*") r
    ≡ block → begins_quote r ≡ quote → begins_lifetime r ≡ life → begins_raw_identifier r ≡ raw → error_kind r
    ≡ Choice doc block quote life raw
chosen_kind r doc block quote life raw a b c d e =
    ap (λ x. Choice x (begins (codes "/*") r) (begins_quote r) (begins_lifetime r) (begins_raw_identifier r)) a
    ∙ ap (λ x. Choice doc x (begins_quote r) (begins_lifetime r) (begins_raw_identifier r)) b
    ∙ ap (λ x. Choice doc block x (begins_lifetime r) (begins_raw_identifier r)) c
    ∙ ap (λ x. Choice doc block quote x (begins_raw_identifier r)) d
    ∙ ap (λ x. Choice doc block quote life x) e

life_split : (r : List ℕ) → begins_lifetime r ≡ true → (d : ℕ) × (u : List ℕ) × (r ≡ 39 ∷ d ∷ u) × (is_start d ≡ true)
life_split [] h = absurd (cc)
life_split (c ∷ cs) h =
    let k : ((c == 39) ≡ true) × (first_passes is_start cs ≡ true) = and_parts (c == 39) (first_passes is_start cs) h in
    let (d, u, same, is) = passes_split is_start cs k.1 in
    (d, u, ap (λ x. x ∷ cs) (is_equal c 39 k.0) ∙ ap (λ x. 39 ∷ x) same, is)

life_no_quote : (r : List ℕ) → begins_lifetime r ≡ true → begins_quote r ≡ false
life_no_quote r h =
    let (d, u, same, is) = life_split r h in
    ap begins_quote same ∙ ap (λ b. not b) is

raw_no_quote : (r : List ℕ) → begins_raw_identifier r ≡ true → begins_quote r ≡ false
raw_no_quote r h =
    let (d, u, same, is) = raw_split r h in
    let hash : (d == 35) ≡ false = not_among d 35 is_start is (start_ascii 35 (lit< tt)) in
    let quote : (d == 34) ≡ false = not_among d 34 is_start is (start_ascii 34 (lit< tt)) in
    ap begins_quote same
    ∙ ap (λ b. (begins_char 34 (cond b (after_run is_hash u) (d ∷ u))) || false || false || false) hash
    ∙ ap (λ b. b || false || false || false) quote

raw_no_life : (r : List ℕ) → begins_raw_identifier r ≡ true → begins_lifetime r ≡ false
raw_no_life r h = let (d, u, same, is) = raw_split r h in ap begins_lifetime same

quote_kind : (r : List ℕ) → BeginsNoLexeme r → begins_quote r ≡ true → UnclosedQuote ≡ kind_at (lexeme_at r) r
quote_kind r none h =
    let k = not_comment begins_quote r (λ d u. refl) h in
    no_lexeme_kind r UnclosedQuote (no_lexeme_at r none) (passes_some begins_quote r refl h)
    (chosen_kind r false false true (begins_lifetime r) (begins_raw_identifier r) k.0 k.1 h refl refl)

life_kind : (r : List ℕ) → BeginsNoLexeme r → begins_lifetime r ≡ true → Lifetime ≡ kind_at (lexeme_at r) r
life_kind r none h =
    let k = not_comment begins_lifetime r (λ d u. refl) h in
    no_lexeme_kind r Lifetime (no_lexeme_at r none) (passes_some begins_lifetime r refl h)
    (chosen_kind r false false false true (begins_raw_identifier r) k.0 k.1 (life_no_quote r h) h refl)

raw_kind : (r : List ℕ) → BeginsNoLexeme r → begins_raw_identifier r ≡ true → RawIdentifier ≡ kind_at (lexeme_at r) r
raw_kind r none h =
    let k = not_comment begins_raw_identifier r (λ d u. raw_at_slash d u) h in
    no_lexeme_kind r RawIdentifier (no_lexeme_at r none) (passes_some begins_raw_identifier r refl h)
    (chosen_kind r false false false false true k.0 k.1 (raw_no_quote r h) (raw_no_life r h) h)
  where
    raw_at_slash : (d : ℕ) (u : List ℕ) → begins_raw_identifier (47 ∷ d ∷ u) ≡ false
    raw_at_slash d u = refl

stray_kind : (r : List ℕ) → r ≢ [] → BeginsNoLexeme r → begins_quote r ≡ false
    → (begins_doc_comment r || begins (codes "/*") r || begins_lifetime r || begins_raw_identifier r) ≡ false
    → StrayCharacter ≡ kind_at (lexeme_at r) r
stray_kind r some none quote h =
    let e = or_parts _ _ h in
    let d = or_parts _ _ e.0 in
    let b = or_parts _ _ d.0 in
    no_lexeme_kind r StrayCharacter (no_lexeme_at r none) some
    (chosen_kind r false false false false false b.0 b.1 quote d.1 e.1)

delimiter_kind : (k : LexKind) (c : ℕ) (t r : List ℕ) → r ≡ c ∷ t → is_among delimiters c ≡ true
    → kind_by_form (DelimiterForm c) ≡ k → k ≡ kind_at (lexeme_at r) r
delimiter_kind k c t r same is e = sym (ap (λ o. kind_at o r) (ap lexeme_at same ∙ front_delimiter c t is) ∙ e)

close_kind : (groups : List OpenGroup) (r : List ℕ) → first_passes (λ c. is_closer c && not (closes groups c)) r ≡ true
    → UnmatchedClose ≡ kind_at (lexeme_at r) r
close_kind groups r h =
    let (c, t, same, is) = passes_split (λ c. is_closer c && not (closes groups c)) r h in
    let m = closer_among c (and_parts (is_closer c) (not (closes groups c)) is).0 in
    delimiter_kind UnmatchedClose c t r same m.0 (ap (λ b. if b then TooDeep else UnmatchedClose) m.1)

deep_kind : (r : List ℕ) → first_passes is_opener r ≡ true → TooDeep ≡ kind_at (lexeme_at r) r
deep_kind r h =
    let (c, t, same, is) = passes_split is_opener r h in
    delimiter_kind TooDeep c t r same (opener_among c is) (ap (λ b. if b then TooDeep else UnmatchedClose) is)

pub error_kind_at : (k : LexKind) (groups : List OpenGroup) (r : List ℕ) → ErrorAt k groups r → k
    ≡ kind_at (lexeme_at r) r
error_kind_at DocComment groups r h =
    no_lexeme_kind r DocComment (slash_none r (doc_slash r h)) (slash_some r (doc_slash r h))
    (chosen_kind r true (begins (codes "/*") r) (begins_quote r) (begins_lifetime r) (begins_raw_identifier r) h refl
    refl refl refl)
error_kind_at UnclosedComment groups r (h, other) =
    no_lexeme_kind r UnclosedComment (slash_none r (block_slash r h)) (slash_some r (block_slash r h))
    (chosen_kind r false true (begins_quote r) (begins_lifetime r) (begins_raw_identifier r) other h refl refl refl)
error_kind_at UnclosedQuote groups r (none, h) = quote_kind r none (quote_here r h)
error_kind_at Lifetime groups r (none, h) = life_kind r none h
error_kind_at RawIdentifier groups r (none, h) = raw_kind r none h
error_kind_at StrayCharacter groups r (some, none, no_quote, h) = stray_kind r some none (no_quote_here r no_quote) h
error_kind_at UnmatchedClose groups r h = close_kind groups r h
error_kind_at UnclosedGroup groups r (nil, some) = sym (ap (λ x. kind_at (lexeme_at x) x) nil)
error_kind_at TooDeep groups r (h, n) = deep_kind r h
error_kind_at Memory groups r h = absurd h
