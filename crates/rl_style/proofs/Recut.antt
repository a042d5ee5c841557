-- If one literal of a text is rewritten, all other tokens are lexed as before.
use Rattle.rl_syntax.proofs.Common.{◌≡◌, ℕ, ◌≤◌, ◌+◌, ◌-◌, ◌⊎◌, inl, inr, Bool, true, false, not, ◌||◌, ◌==◌, cond, List, [], ◌∷◌, ◌++◌, append-nil, Option, Some, None, refl, sym, ◌∙◌, ap, subst, arith, nat_tests, append_assoc, lit<, and_parts, list_all, is_ascii_digit, is_xid_start, AllByRecursion}
use Rattle.rl_syntax.proofs.Basics.{false_unless}
use Rattle.rl_syntax.proofs.ScanLemmas.{not_false}
use Rattle.rl_syntax.specs.Texts.{is_white, is_among, first_passes, byte_len, is_start}
use Rattle.rl_syntax.specs.Trivia.{inside_text, is_comment_line, is_comment_block}
use Rattle.rl_lexer.specs.Skipping.{Skipped}
use Rattle.rl_lexer.specs.Lexemes.{delimiters, marks, lexed_fraction_text, lexed_exponent_text, NoPrefix, BytePrefix, CPrefix, Lexeme, QuotedLexeme, RawLexeme, CharacterLexeme, BasedLexeme, DecimalLexeme, IdentifierLexeme, DelimiterLexeme, MarkLexeme, lexeme_text, IsLexeme}
use Rattle.rl_lexer.specs.Mirrors.SkippedAt.{after_block, after_line, after_comment, after_piece}
use Rattle.rl_lexer.specs.Sources.{is_in_line, SourceLexeme, PlainToken, RawIdentifierToken, LifetimeToken, RawLifetimeToken, DocLineToken, DocBlockToken, BadQuoteToken, StrayToken, source_text, IsProper, IsSource, CutSource, source_end, SourcesUpTo}
use Rattle.rl_lexer.proofs.Comments.{plain_line-same, plain_block-same}
use Rattle.rl_lexer.proofs.CutLemmas.{byte_len-append}
use Rattle.rl_lexer.proofs.LexemeFronts.{among, start_ascii}
use Rattle.rl_lexer.proofs.LexemeRows.{not_true, not_among, neither_true}
use Rattle.rl_lexer.proofs.Pieces.{is_equal, stops-from_none}
use Rattle.rl_lexer.proofs.SourceFronts.{proper_source}
use Rattle.rl_style.specs.Around.{SameFront, SameEnds, may_precede_quote}
use Rattle.rl_style.specs.Recut.{moved, IsSoundToken, IsSound, placed_literal, KeepsTheTokens}
use Rattle.rl_style.proofs.FrontTests.{front_more}
use Rattle.rl_style.proofs.Stays.{stays_around}
use Rattle.rl_style.proofs.Ends.{keeps_its_ends}
use Rattle.rl_style.proofs.Unraws.{unraws_around}

-- ---- a token begins with no white space and no comment

solid_piece : (c : ℕ) (t : List ℕ) → (c == 47) ≡ false → is_white c ≡ false → after_piece (c ∷ t) ≡ None
solid_piece c t slash white =
    ap (λ b. cond b (after_comment t) (cond (is_white c) (Some t) None)) slash ∙ ap (λ b. cond b (Some t) None) white

start_piece : (c : ℕ) (t : List ℕ) → is_start c ≡ true → after_piece (c ∷ t) ≡ None
start_piece c t is =
    solid_piece c t (not_among c 47 is_start is (start_ascii 47 (lit< tt)))
    (not_true (is_white c) (and_parts (c == 95 || is_xid_start c) (not (is_white c)) is).1)

digit_piece : (c : ℕ) (t : List ℕ) → is_ascii_digit c ≡ true → after_piece (c ∷ t) ≡ None
digit_piece c t is =
    solid_piece c t (not_among c 47 is_ascii_digit is refl) (false_unless (is_white c) (λ w. both w))
  where
    both : is_white c ≡ true → ⊥
    both w = grind (arith, nat_tests)

abbrev is_solid : ℕ → Bool
is_solid c = not (c == 47 || is_white c)

among_piece : (codes : List ℕ) (c : ℕ) (t : List ℕ) → list_all is_solid codes ≡ true → is_among codes c ≡ true
    → after_piece (c ∷ t) ≡ None
among_piece codes c t all is =
    let p = neither_true (c == 47) (is_white c) (among codes is_solid c all is) in
    solid_piece c t p.0 p.1

slash_piece : (t : List ℕ) → first_passes (λ d. d == 47 || d == 42) t ≡ false → after_piece (47 ∷ t) ≡ None
slash_piece [] h = refl
slash_piece (c ∷ t) h = go (c == 47) (c == 42) refl refl h
  where
    line : Option (List ℕ)
    line = cond (is_comment_line t) (Some (after_line t)) None

    block : Option (List ℕ)
    block = cond (is_comment_block t) (after_block 0 t) None

    go : (a b : Bool) → (c == 47) ≡ a → (c == 42) ≡ b → (a || b) ≡ false
        → cond (c == 47) line (cond (c == 42) block None) ≡ None
    go true b p q h = absurd (cc)
    go false true p q h = absurd (cc)
    go false false p q h = ap (λ z. cond z line (cond (c == 42) block None)) p ∙ ap (λ z. cond z block None) q

line_plain : (body t : List ℕ) → first_passes is_in_line t ≡ false → is_comment_line (body ++ t) ≡ is_comment_line body
line_plain body [] h = ap is_comment_line (append-nil body)
line_plain body (c ∷ t) h = ap (λ x. is_comment_line (body ++ x ∷ t)) (is_equal c 10 (not_false (c == 10) h))
    ∙ plain_line-same body t

pub lexeme_piece : (l : Lexeme) (t : List ℕ) → IsLexeme l t → after_piece (lexeme_text l ++ t) ≡ None
lexeme_piece (QuotedLexeme NoPrefix parts x) t is = refl
lexeme_piece (QuotedLexeme BytePrefix parts x) t is = refl
lexeme_piece (QuotedLexeme CPrefix parts x) t is = refl
lexeme_piece (RawLexeme NoPrefix n body x) t is = refl
lexeme_piece (RawLexeme BytePrefix n body x) t is = refl
lexeme_piece (RawLexeme CPrefix n body x) t is = refl
lexeme_piece (CharacterLexeme false inside x) t is = refl
lexeme_piece (CharacterLexeme true inside x) t is = refl
lexeme_piece (BasedLexeme letter digits) t is = refl
lexeme_piece (DecimalLexeme d more f e x) t is = digit_piece d
    ((more ++ (lexed_fraction_text f ++ (lexed_exponent_text e ++ x))) ++ t) is.0
lexeme_piece (IdentifierLexeme c more) t is = start_piece c (more ++ t) is.0
lexeme_piece (DelimiterLexeme c) t is = among_piece delimiters c t refl is
lexeme_piece (MarkLexeme c) t (inl is) = among_piece marks c t refl is
lexeme_piece (MarkLexeme c) t (inr (e, free)) = subst (λ (z : ℕ). after_piece (z ∷ t) ≡ None) (sym e)
    (slash_piece t free)

pub token_piece : (w : SourceLexeme) (t : List ℕ) → IsProper w t → after_piece (source_text w ++ t) ≡ None
token_piece (PlainToken l) t is = lexeme_piece l t is
token_piece (RawIdentifierToken c more) t is = refl
token_piece (LifetimeToken c more) t is = refl
token_piece (RawLifetimeToken c more) t is = refl
token_piece (DocLineToken body) t (run, doc) =
    ap (λ b. cond b (Some (after_line (body ++ t))) None) (line_plain body t run.ends ∙ doc)
token_piece (DocBlockToken i) t (is, doc) =
    ap (λ b. cond b (after_block 0 (inside_text i ++ t)) None) (plain_block-same i t ∙ doc)
token_piece (BadQuoteToken q) t is = absurd is
token_piece (StrayToken c) t is = absurd is

-- ---- the white space and comments before a token

abbrev pub IsFull : List ℕ → Type 0
IsFull [] = ⊥
IsFull (c ∷ t) = Unit {0}

pub lexeme_full : (l : Lexeme) (t : List ℕ) → IsFull (lexeme_text l ++ t)
lexeme_full (QuotedLexeme NoPrefix parts x) t = tt
lexeme_full (QuotedLexeme BytePrefix parts x) t = tt
lexeme_full (QuotedLexeme CPrefix parts x) t = tt
lexeme_full (RawLexeme NoPrefix n body x) t = tt
lexeme_full (RawLexeme BytePrefix n body x) t = tt
lexeme_full (RawLexeme CPrefix n body x) t = tt
lexeme_full (CharacterLexeme false inside x) t = tt
lexeme_full (CharacterLexeme true inside x) t = tt
lexeme_full (BasedLexeme letter digits) t = tt
lexeme_full (DecimalLexeme d more f e x) t = tt
lexeme_full (IdentifierLexeme c more) t = tt
lexeme_full (DelimiterLexeme c) t = tt
lexeme_full (MarkLexeme c) t = tt

pub token_full : (w : SourceLexeme) (t : List ℕ) → IsSoundToken w → IsFull (source_text w ++ t)
token_full (PlainToken l) t is = lexeme_full l t
token_full (RawIdentifierToken c more) t is = tt
token_full (LifetimeToken c more) t is = tt
token_full (RawLifetimeToken c more) t is = tt
token_full (DocLineToken body) t is = tt
token_full (DocBlockToken i) t is = tt
token_full (BadQuoteToken q) t is = absurd is
token_full (StrayToken c) t is = absurd is

-- The text `t` consists of white space and comments, and of the text `u` after them. The lexer skips the white space and
-- comments before any text that begins with neither.
abbrev pub SkipsTo : List ℕ → List ℕ → Type 0
SkipsTo t u = (front : List ℕ) × (t ≡ front ++ u) × ((v : List ℕ) → after_piece v ≡ None → Skipped (front ++ v) v)

pub skips_to : (t u : List ℕ) → IsFull u → Skipped t u → SkipsTo t u
skips_to t u full (inl s) = (
  s.front,
  s.text,
  λ v none. inl (record { front = s.front; is_trivia = s.is_trivia; text = refl; stops = stops-from_none v none }),
)
skips_to t u full (inr s) = absurd (subst IsFull s.nothing full)

-- ---- the tokens after the replaced literal

-- A text begins at the byte offset `at`, and contains a token. The byte offset of the token is `at`, plus the number of bytes
-- before the token in this text.
pub offset_of_rest : (at k : ℕ) (t f u : List ℕ) → t ≡ f ++ u → k + byte_len u ≡ at + byte_len t → k ≡ at + byte_len f
offset_of_rest at k t f u e place = omega (arith, place, ap byte_len e, byte_len-append f u)

less : (t u : List ℕ) → Skipped t u → byte_len u ≤ byte_len t
less t u (inl s) = let e = ap byte_len s.text in let k = byte_len-append s.front u in omega (arith, e, k)
less t u (inr s) = let e : byte_len u ≡ 0 = ap byte_len s.nothing in omega (arith, e)

pub shifted : (at from to : ℕ) (t : List ℕ) (ws : List CutSource) (r : List ℕ) → from ≤ at → SourcesUpTo at t ws r
    → SourcesUpTo (at + to - from) t (moved from to ws) r
shifted at from to t [] r low cut = cut
shifted at from to t (w ∷ ws) r low (after, skipped, is, place, more) =
    let u : List ℕ = source_text w.token ++ after in
    let small : byte_len u ≤ byte_len t = less t u skipped in
    let here : from ≤ w.at = omega (arith, low, small, place) in
    let end : from ≤ source_end w = omega (arith, here) in
    let there : (w.at + to - from) + byte_len u ≡ (at + to - from) + byte_len t = omega (arith, low, here, place) in
    let ends : source_end w + to - from ≡ (w.at + to - from) + byte_len (source_text w.token) = omega (arith, here) in (
      after,
      skipped,
      is,
      there,
      subst (λ (k : ℕ). SourcesUpTo k after (moved from to ws) r) ends
          (shifted (source_end w) from to after ws r end more),
    )

-- ---- the tokens of the whole text

-- If a text of two parts ends with neither a hash nor a dot, the second part ends with neither.
may_drop : (a b : List ℕ) → may_precede_quote (a ++ b) ≡ true → may_precede_quote b ≡ true
may_drop [] b h = h
may_drop (c ∷ []) [] h = refl
may_drop (c ∷ []) (d ∷ b) h = h
may_drop (c ∷ e ∷ a) b h = may_drop (e ∷ a) b h

-- The old text contains a raw string, and the new text a string with escapes in its place. The text `front` precedes the
-- string in both texts. The text `lead` precedes the old and the new text. Neither a hash nor a dot directly precedes the
-- string.
pub record Unquoted (lead old new : List ℕ) : Type 0 where
  pub front : List ℕ
  pub raw : List ℕ
  pub quoted : List ℕ
  pub may : may_precede_quote (lead ++ front) ≡ true
  pub old_is : old ≡ front ++ (114 ∷ raw)
  pub new_is : new ≡ front ++ (34 ∷ quoted)

-- The old text `a` and the new text `b` begin alike up to a literal's first character, or a raw string loses its `r`
-- (`Unquoted`). Both follow the text `lead`. The token at the end of `lead` is lexed as before.
abbrev pub Begun : List ℕ → List ℕ → List ℕ → Type 0
Begun lead a b = SameFront a b ⊎ Unquoted lead a b

abbrev pub Alike : List ℕ → List ℕ → List ℕ → Type 0
Alike lead a b = (a ≡ b) ⊎ Begun lead a b

pub alike_more : (lead s a b : List ℕ) → Alike (lead ++ s) a b → Alike lead (s ++ a) (s ++ b)
alike_more lead s a b (inl e) = inl (ap (λ z. s ++ z) e)
alike_more lead s a b (inr (inl f)) = inr (inl (front_more s a b f))
alike_more lead s a b (inr (inr u)) = inr (inr (record {
  front = s ++ u.front;
  raw = u.raw;
  quoted = u.quoted;
  may = ap may_precede_quote (sym (append_assoc lead s u.front)) ∙ u.may;
  old_is = ap (λ z. s ++ z) u.old_is ∙ sym (append_assoc s u.front (114 ∷ u.raw));
  new_is = ap (λ z. s ++ z) u.new_is ∙ sym (append_assoc s u.front (34 ∷ u.quoted));
}))

pub alike_stays : (lead : List ℕ) (w : SourceLexeme) (a b : List ℕ) → Alike lead a b → IsProper w a → IsProper w b
alike_stays lead w a b (inl e) is = subst (λ (z : List ℕ). IsProper w z) e is
alike_stays lead w a b (inr (inl f)) is = stays_around w a b f is
alike_stays lead w a b (inr (inr u)) is =
    let old : IsProper w (u.front ++ (114 ∷ u.raw)) = subst (λ (z : List ℕ). IsProper w z) u.old_is is in
    subst (λ (z : List ℕ). IsProper w z) (sym u.new_is)
    (unraws_around w u.front u.raw u.quoted (may_drop lead u.front u.may) old)

-- The tokens of the text `t` after the literal `new` replaces the literal `old`. All other tokens are lexed as before. The
-- text `lead` precedes `t`.
pub record Recut (lead : List ℕ) (at : ℕ) (t : List ℕ) (before after : List CutSource) (old new : Lexeme) (place : ℕ)
    (r : List ℕ) : Type 0 where
  pub front : List ℕ
  pub rest : List ℕ
  pub text_is : t ≡ front ++ (lexeme_text old ++ rest)
  pub place_is : place ≡ at + byte_len front
  pub same_front : Alike (lead ++ front) (lexeme_text old ++ rest) (lexeme_text new ++ rest)
  pub cuts : SourcesUpTo at (front ++ (lexeme_text new ++ rest)) (before ++ (placed_literal new place
      ∷ moved (place + byte_len (lexeme_text old)) (place + byte_len (lexeme_text new)) after)) r

-- Finds the text after the literal `old` by the tokens of the whole text.
abbrev pub literal_rest : (at : ℕ) (t : List ℕ) (before after : List CutSource) (old : Lexeme) (place : ℕ) (r : List ℕ)
    → SourcesUpTo at t (before ++ (placed_literal old place ∷ after)) r → List ℕ
literal_rest at t [] after old place r (rest, skipped, is, place_is, more) = rest
literal_rest at t (d ∷ before) after old place r (u, skipped, is, place_is, more) = literal_rest (source_end d) u before
    after old place r more

pub literal_is : (at : ℕ) (t : List ℕ) (before after : List CutSource) (old : Lexeme) (place : ℕ) (r : List ℕ)
    → (cut : SourcesUpTo at t (before ++ (placed_literal old place ∷ after)) r)
    → IsLexeme old (literal_rest at t before after old place r cut)
literal_is at t [] after old place r (rest, skipped, is, place_is, more) = is
literal_is at t (d ∷ before) after old place r (u, skipped, is, place_is, more) = literal_is (source_end d) u before
    after old place r more

-- If the literal `new` replaces the literal `old` before the text `rest`, `new` is one token, and the token before the
-- literal is lexed as before.
abbrev pub Follows : List ℕ → ℕ → List ℕ → Lexeme → Lexeme → ℕ → List ℕ → Type 0
Follows lead at t old new place rest =
    IsLexeme new rest
    × ((front : List ℕ) → t ≡ front ++ (lexeme_text old ++ rest) → place ≡ at + byte_len front
    → Alike (lead ++ front) (lexeme_text old ++ rest) (lexeme_text new ++ rest))

at_literal : (lead : List ℕ) (at : ℕ) (t : List ℕ) (after : List CutSource) (old new : Lexeme) (place : ℕ)
    (r rest : List ℕ)
    → Skipped t (lexeme_text old ++ rest) → place + byte_len (lexeme_text old ++ rest) ≡ at + byte_len t
    → SourcesUpTo (place + byte_len (lexeme_text old)) rest after r → Follows lead at t old new place rest
    → Recut lead at t [] after old new place r
at_literal lead at t after old new place r rest skipped place_is more (new_is, same) =
    let (front, text_is, to) = skips_to t (lexeme_text old ++ rest) (lexeme_full old rest) skipped in
    let here : place ≡ at + byte_len front = offset_of_rest at place t front (lexeme_text old ++ rest) text_is place_is in
    let e : ℕ = place + byte_len (lexeme_text old) in
    let f : ℕ = place + byte_len (lexeme_text new) in
    let there : place + byte_len (lexeme_text new ++ rest) ≡ at + byte_len (front ++ (lexeme_text new ++ rest)) = omega
    (arith, here, byte_len-append front (lexeme_text new ++ rest)) in
    let low : e ≤ e = omega arith in
    let back : e + f - e ≡ f = omega arith in
    record {
      front = front;
      rest = rest;
      text_is = text_is;
      place_is = here;
      same_front = same front text_is here;
      cuts = (
        rest,
        to (lexeme_text new ++ rest) (lexeme_piece new rest new_is),
        new_is,
        there,
        subst (λ (k : ℕ). SourcesUpTo k rest (moved e f after) r) back (shifted e e f rest after r low more),
      );
    }

pub sound_proper : (w : SourceLexeme) (t : List ℕ) → IsSoundToken w → IsSource w t → IsProper w t
sound_proper (PlainToken l) t sound is = is
sound_proper (RawIdentifierToken c more) t sound is = is
sound_proper (LifetimeToken c more) t sound is = is
sound_proper (RawLifetimeToken c more) t sound is = is
sound_proper (DocLineToken body) t sound is = is
sound_proper (DocBlockToken i) t sound is = is
sound_proper (BadQuoteToken q) t sound is = absurd sound
sound_proper (StrayToken c) t sound is = absurd sound

pub joined : (a b c d : List ℕ) → (a ++ (b ++ c)) ++ d ≡ a ++ (b ++ (c ++ d))
joined a b c d = append_assoc a (b ++ c) d ∙ ap (λ z. a ++ z) (append_assoc b c d)

one_more : (lead : List ℕ) (at : ℕ) (t : List ℕ) (d : CutSource) (before after : List CutSource) (old new : Lexeme)
    (place : ℕ)
    (r u front : List ℕ) → IsSoundToken d.token → IsSource d.token u
    → t ≡ front ++ (source_text d.token ++ u) → d.at ≡ at + byte_len front
    → ((v : List ℕ) → IsProper d.token v → Skipped (front ++ (source_text d.token ++ v)) (source_text d.token ++ v))
    → Recut (lead ++ (front ++ source_text d.token)) (source_end d) u before after old new place r
    → Recut lead at t (d ∷ before) after old new place r
one_more lead at t d before after old new place r u front sound is text_is here to more =
    let s : List ℕ = source_text d.token in
    let inner : List ℕ = lead ++ (front ++ s) in
    let v : List ℕ = more.front ++ (lexeme_text new ++ more.rest) in
    let w : List ℕ = more.front ++ (lexeme_text old ++ more.rest) in
    let proper : IsProper d.token w = subst (λ (z : List ℕ). IsProper d.token z) more.text_is (sound_proper d.token u
    sound is) in
    let stays : IsProper d.token v = alike_stays inner d.token w v (alike_more inner more.front
    (lexeme_text old ++ more.rest)
    (lexeme_text new ++ more.rest) more.same_front) proper in
    let whole : (front ++ (s ++ more.front)) ++ (lexeme_text new ++ more.rest) ≡ front ++ (s ++ v) = joined front s
    more.front (lexeme_text new ++ more.rest) in
    let there : d.at + byte_len (s ++ v) ≡ at + byte_len (front ++ (s ++ v)) = omega (
      arith,
      here,
      byte_len-append front (s ++ v),
    ) in
    let cuts : List CutSource = before ++ (placed_literal new place ∷ moved (place + byte_len (lexeme_text old))
    (place + byte_len (lexeme_text new)) after) in
    let all : SourcesUpTo at (front ++ (s ++ v)) (d ∷ cuts) r =
    (v, to v stays, proper_source d.token v stays, there, more.cuts) in
    record {
      front = front ++ (s ++ more.front);
      rest = more.rest;
      text_is = text_is ∙ ap (λ z. front ++ (s ++ z)) more.text_is ∙ sym (joined front s more.front (lexeme_text old
          ++ more.rest));
      place_is = omega (
        arith,
        here,
        more.place_is,
        byte_len-append front (s ++ more.front),
        byte_len-append s
            more.front,
      );
      same_front = subst (λ (z : List ℕ). Alike z (lexeme_text old ++ more.rest) (lexeme_text new ++ more.rest))
          (joined lead front s more.front) more.same_front;
      cuts = subst (λ (z : List ℕ). SourcesUpTo at z (d ∷ cuts) r) (sym whole) all;
    }

-- The text `u` follows the first token of the text `t`. A new literal that may replace an old literal in `t` may also replace
-- this old literal in `u`.
follows_inner : (lead : List ℕ) (at : ℕ) (t : List ℕ) (d : CutSource) (old new : Lexeme) (place : ℕ)
    (u rest front : List ℕ) → t ≡ front ++ (source_text d.token ++ u) → d.at ≡ at + byte_len front
    → Follows lead at t old new place rest
    → Follows (lead ++ (front ++ source_text d.token)) (source_end d) u old new place rest
follows_inner lead at t d old new place u rest front text_is here (new_is, same) = (
  new_is,
  λ f u_is place_is.
      let s : List ℕ = source_text d.token in
      let whole : t ≡ (front ++ (s ++ f)) ++ (lexeme_text old ++ rest) = text_is ∙ ap (λ z. front ++ (s ++ z)) u_is
      ∙ sym (joined front s f (lexeme_text old ++ rest)) in
      let k : place ≡ at + byte_len (front ++ (s ++ f)) = omega (
        arith,
        here,
        place_is,
        byte_len-append front (s ++ f),
        byte_len-append s f,
      ) in
      subst (λ (z : List ℕ). Alike z (lexeme_text old ++ rest) (lexeme_text new ++ rest))
      (sym (joined lead front s f)) (same (front ++ (s ++ f)) whole k),
)

pub recut : (lead : List ℕ) (at : ℕ) (t : List ℕ) (before after : List CutSource) (old new : Lexeme) (place : ℕ)
    (r : List ℕ)
    → (cut : SourcesUpTo at t (before ++ (placed_literal old place ∷ after)) r) → AllByRecursion IsSound before
    → Follows lead at t old new place (literal_rest at t before after old place r cut)
    → Recut lead at t before after old new place r
recut lead at t [] after old new place r (rest, skipped, is, place_is, more) sound follows = at_literal lead at t after
    old new place r rest skipped place_is more follows
recut lead at t (d ∷ before) after old new place r (u, skipped, is, place_is, more) (first, sound) follows =
    let s : List ℕ = source_text d.token in
    let (front, text_is, to) = skips_to t (s ++ u) (token_full d.token u first) skipped in
    let here : d.at ≡ at + byte_len front = offset_of_rest at d.at t front (s ++ u) text_is place_is in
    one_more lead at t d before after old new place r u front first is text_is here
    (λ v p. to (s ++ v) (token_piece d.token v p))
    (recut (lead ++ (front ++ s)) (source_end d) u before after old new place r more sound
    (follows_inner lead at t d old new place u (literal_rest (source_end d) u before after old place r more) front
    text_is here follows))

ends_follow : (lead : List ℕ) (at : ℕ) (t : List ℕ) (old new : Lexeme) (place : ℕ) (rest : List ℕ)
    → SameEnds old new → IsLexeme old rest → Follows lead at t old new place rest
ends_follow lead at t old new place rest ends is =
    let (new_is, same) = keeps_its_ends old new rest ends is in (new_is, λ f e k. inr (inl same))

-- If a new literal has the kind, the prefix and the suffix of the old one (`SameEnds`), it may replace the old one in a text:
-- all other tokens are lexed as before.
pub recut_ends : (lead : List ℕ) (at : ℕ) (t : List ℕ) (before after : List CutSource) (old new : Lexeme) (place : ℕ)
    (r : List ℕ)
    → SourcesUpTo at t (before ++ (placed_literal old place ∷ after)) r → AllByRecursion IsSound before
    → SameEnds old new → Recut lead at t before after old new place r
recut_ends lead at t before after old new place r cut sound ends = recut lead at t before after old new place r cut
    sound
    (ends_follow lead at t old new place (literal_rest at t before after old place r cut) ends
    (literal_is at t before after old place r cut))

pub keeps_the_tokens : KeepsTheTokens
keeps_the_tokens at t before after old new place r cut sound ends =
    let m = recut_ends [] at t before after old new place r cut sound ends in
    record { front = m.front; rest = m.rest; text_is = m.text_is; place_is = m.place_is; cuts = m.cuts }
