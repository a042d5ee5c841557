-- Lemmas about the token that a cursor over a source consumes next: its bytes, and its byte range in the source.
use Rattle.rl_syntax.proofs.Common.{◌≡◌, ◌≢◌, ℕ, ◌+◌, ◌-◌, ◌⊎◌, inl, inr, Bool, true, false, ◌||◌, ◌==◌, List, [], ◌∷◌, ◌++◌, length, length-append, take, slice_range, refl, sym, ◌∙◌, ap, subst, arith, codes, if◌then◌else◌, append_cancel_right, encodes-append, encodes-chars, chars_from_encodes, chars, encode_utf8_all, IsUtf8}
use Rattle.rl_syntax.specs.Texts.{IsTail, byte_len, first_passes, begins}
use Rattle.rl_lexer.specs.Skipping.{Skipped}
use Rattle.rl_lexer.specs.Cursors.{CursorState, IsCursorState}
use Rattle.rl_lexer.specs.Cuts.{BeginsQuote}
use Rattle.rl_lexer.specs.Mirrors.LexemeAt.{begins_quote}
use Rattle.rl_lexer.specs.Mirrors.SourceAt.{source_error_kind, opens}
use Rattle.rl_lexer.specs.Sources.{is_apostrophe, StrayToken, source_text, BeginsProper, Opens, IsSource, SourceKind, StrayKind, source_kind, source_view, SourceBefore, BeginsNoSource, IsWithoutPreamble, CutSource, source_end, SourcesUpTo, IsCutUpTo, TakesSource, SourceErrorAt, SourceError, IsFirstSourceError}
use Rattle.rl_lexer.specs.declared.lex_error.LexError.{LexError}
use Rattle.rl_lexer.specs.declared.lex_error.LexKind.{LexKind}
use Rattle.rl_lexer.specs.declared.lex_error.LexKind.TheVariants.{UnclosedComment, UnclosedQuote}
use Rattle.rl_lexer.specs.declared.sources.SourceToken.{SourceToken}
use Rattle.rl_syntax.proofs.TailLemmas.{tail_step, cut_join}
use Rattle.rl_lexer.proofs.CutLemmas.{byte_len-append}
use Rattle.rl_lexer.proofs.ErrorKinds.{char_len, rest_place, chars_some}
use Rattle.rl_lexer.proofs.LexemeOpeners.{quote_begins}
use Rattle.rl_lexer.proofs.SourceFronts.{proper_source, closed_here}
use Rattle.rl_syntax.proofs.Rests.{tail_length}

-- Before any token of a source is lexed, the source is lexed up to the text after its byte order mark, its
-- interpreter's line, and the white space and comments that follow.
pub begun : (text front rest : List ℕ) → IsUtf8 text → IsTail text front → IsWithoutPreamble (chars text) (chars front)
    → Skipped (chars front) (chars rest) → IsCutUpTo (chars text) [] (chars rest)
begun text front rest is following is_front skipped = record {
  at = length text - length front;
  body = chars front;
  front = is_front;
  place = omega (arith, char_len text is, char_len front following.is_text, tail_length text front following);
  are_cuts = skipped;
}

-- The text after a token of a source begins at the byte offset where the token ends.
tail_place : (w : CutSource) (after : List ℕ) (n : ℕ) → w.at + byte_len (source_text w.token ++ after) ≡ n
    → source_end w + byte_len after ≡ n
tail_place w after n place = omega (arith, place, byte_len-append (source_text w.token) after)

sources_more : (at : ℕ) (t : List ℕ) (done : List CutSource) (u : List ℕ) (w : CutSource) (after r : List ℕ)
    → SourcesUpTo at t done u → u ≡ source_text w.token ++ after → IsSource w.token after → w.at + byte_len u
    ≡ at + byte_len t → Skipped after r → SourcesUpTo at t (done ++ w ∷ []) r
sources_more at t [] u w after r cut same is place skipped =
    (after, subst (λ (x : List ℕ). Skipped t x) same cut, is, ap (λ x. w.at + byte_len x) (sym same) ∙ place, skipped)
sources_more at t (d ∷ done) u w after r (rest, first, first_is, first_place, more) same is place skipped = (
  rest,
  first,
  first_is,
  first_place,
  sources_more (source_end d) rest done u w after r more same is
      (place ∙ sym (tail_place d rest (at + byte_len t) first_place)) skipped,
)

pub cut_more : (t : List ℕ) (done : List CutSource) (u : List ℕ) (w : CutSource) (after r : List ℕ) → IsCutUpTo t done u
    → u ≡ source_text w.token ++ after → IsSource w.token after → w.at + byte_len u ≡ byte_len t → Skipped after r
    → IsCutUpTo t (done ++ w ∷ []) r
cut_more t done u w after r cut same is place skipped = record {
  at = cut.at;
  body = cut.body;
  front = cut.front;
  place = cut.place;
  are_cuts = sources_more cut.at cut.body done u w after r cut.are_cuts same is (place ∙ sym cut.place) skipped;
}

-- The text `rest`, which is the end of `text`, begins with a source's token of the kind `kind`, and the text
-- `following` follows the token. The token has the bytes `token` and the byte range from `lo` to `hi` in `text`.
record SourceAt (text rest following token : List ℕ) (kind : SourceKind) (lo hi : ℕ) : Type 0 where
  pub front : SourceBefore (chars rest) kind (chars following)
  pub rest_text : IsUtf8 rest
  pub tail_text : IsUtf8 following
  pub token_text : IsUtf8 token
  pub rest_is : rest ≡ token ++ following
  pub lo_place : lo + length rest ≡ length text
  pub hi_place : hi + length following ≡ length text

token_is : {text rest following token : List ℕ} {kind : SourceKind} {lo hi : ℕ}
    (at : SourceAt text rest following token kind lo hi) → encode_utf8_all (source_text at.front.token) ≡ token
token_is {rest = rest} {following = following} {token = token} at =
    let l = source_text at.front.token in
    let e : encode_utf8_all l ++ following ≡ token ++ following =
    ap (λ x. encode_utf8_all l ++ x) (sym (encodes-chars following at.tail_text))
    ∙ sym (encodes-append l (chars following))
    ∙ ap encode_utf8_all (sym at.front.text_is)
    ∙ encodes-chars rest at.rest_text
    ∙ at.rest_is in
    append_cancel_right (encode_utf8_all l) token following e

token_chars : {text rest following token : List ℕ} {kind : SourceKind} {lo hi : ℕ}
    (at : SourceAt text rest following token kind lo hi) → chars token ≡ source_text at.front.token
token_chars {token = token} at = sym (chars_from_encodes (source_text at.front.token) token at.token_text (token_is at))

token_len : {text rest following token : List ℕ} {kind : SourceKind} {lo hi : ℕ}
    → SourceAt text rest following token kind lo hi → lo + length token ≡ hi
token_len {rest = rest} {following = following} {token = token} at = omega
    (arith, at.lo_place, at.hi_place, ap length at.rest_is, length-append token following)

source_at : (text rest following token : List ℕ) (kind : SourceKind) → IsTail text rest → IsTail rest following
    → SourceBefore (chars rest) kind (chars following) → IsUtf8 token → token
    ≡ slice_range rest 0 (length rest - length following) → SourceAt text rest following token kind
    (length text - length rest) (length text - length following)
source_at text rest following token kind in_text in_rest front is token_is =
    let taken : token ≡ take (length rest - length following) rest = token_is
    ∙ ap (λ n. take n rest) (let q : length rest - length following - 0
    ≡ length rest - length following = omega arith in q) in
    record {
      front = front;
      rest_text = in_text.is_text;
      tail_text = in_rest.is_text;
      token_text = is;
      rest_is = cut_join rest following in_rest ∙ ap (λ z. z ++ following) (sym taken);
      lo_place = omega (arith, tail_length text rest in_text);
      hi_place = omega (arith, tail_length text rest in_text, tail_length rest following in_rest);
    }

takes : (text rest following next : List ℕ) (l : SourceToken) → IsCursorState text rest → IsTail rest following
    → IsTail following next → Skipped (chars following) (chars next)
    → SourceAt text rest following l.text.now (source_view l.form) l.lo l.hi
    → TakesSource (record { text = text; rest = rest }) l (record { text = text; rest = next })
takes text rest following next l is in_rest in_tail skips at =
    let w : CutSource = record { token = at.front.token; at = l.lo } in
    let rest_len : byte_len (chars rest) ≡ length rest = char_len rest at.rest_text in
    let text_len : byte_len (chars text) ≡ length text = char_len text is.is_text in
    let ends : source_end w ≡ l.hi = omega (arith, token_len at, ap length (token_is at)) in
    record {
      cut = w;
      is_cut = record { kind_is = at.front.kind_is; bytes_are = token_is at; chars_are = sym (token_chars at); lo_is = refl; hi_is = ends };
      after = chars following;
      begins = at.front.text_is;
      is_source = at.front.is_source;
      place = at.lo_place;
      goes_on = λ done cuts. cut_more (chars text) done (chars rest) w (chars following) (chars next) cuts
          at.front.text_is at.front.is_source (omega (arith, rest_len, text_len, at.lo_place)) skips;
      same = refl;
      following = tail_step rest following next in_rest in_tail;
    }

-- A token that the cursor over a source returns is the next token of the source.
pub takes_source : (text rest following next : List ℕ) (l : SourceToken) → IsCursorState text rest
    → SourceBefore (chars rest) (source_view l.form) (chars following) → IsTail rest following → IsUtf8 l.text.now
    → l.text.now ≡ slice_range rest 0 (length rest - length following) → l.lo ≡ length text - length rest → l.hi
    ≡ length text - length following → Skipped (chars following) (chars next) → IsTail following next
    → TakesSource (record { text = text; rest = rest }) l (record { text = text; rest = next })
takes_source text rest following next l is front in_rest utf8 token_is lo hi skips in_tail =
    let at : SourceAt text rest following l.text.now (source_view l.form) l.lo l.hi =
    rw (lo, hi) (source_at text rest following l.text.now (source_view l.form) is.following in_rest front utf8 token_is)
    in
    takes text rest following next l is in_rest in_tail skips at

-- ---- errors

no_proper : (r : List ℕ) → BeginsNoSource r → BeginsProper r → ⊥
no_proper r none (w, after, is, same) = none (source_kind w) after
    (record { token = w; is_source = proper_source w after is; text_is = same; kind_is = refl })

opens_one : (r : List ℕ) → r ≢ [] → BeginsNoSource r → Opens r → SourceErrorAt (source_error_kind r) r
opens_one r some none o = go (begins (codes "/*") r) refl
  where
    quote : begins (codes "/*") r ≡ false → BeginsQuote r ⊎ (first_passes is_apostrophe r ≡ true)
    quote a =
        elim o [
          | inl q ↦ inl q
          | inr x ↦ elim x [
            | inl q ↦ inr q
            | inr q ↦ absurd (let e : true ≡ false = sym q ∙ a in cc)
          ]
        ]

    go : (block : Bool) → begins (codes "/*") r ≡ block → SourceErrorAt
        (if block then UnclosedComment else UnclosedQuote) r
    go true a = (none, a)
    go false a = (none, quote a)

open_bits : (r : List ℕ) → opens r ≡ true → Opens r
open_bits r h = go (begins (codes "/*") r) (begins_quote r) (first_passes is_apostrophe r) refl refl refl h
  where
    go : (a b d : Bool) → begins (codes "/*") r ≡ a → begins_quote r ≡ b → first_passes is_apostrophe r ≡ d
        → (begins (codes "/*") r || (begins_quote r || first_passes is_apostrophe r)) ≡ true → Opens r
    go true b d p q s h = inr (inr p)
    go false true d p q s h = inl (quote_begins r q)
    go false false true p q s h = inr (inl s)
    go false false false p q s h = absurd (let e : false ≡ true = sym
        (ap (λ z. z || (begins_quote r || first_passes is_apostrophe r)) p
        ∙ ap (λ z. z || first_passes is_apostrophe r) q ∙ s) ∙ h in cc)

error_here : (r : List ℕ) → r ≢ [] → BeginsNoSource r → SourceErrorAt (source_error_kind r) r
error_here [] some none = absurd (some refl)
error_here (c ∷ t) some none = go (opens (c ∷ t)) refl
  where
    go : (b : Bool) → opens (c ∷ t) ≡ b → SourceErrorAt (source_error_kind (c ∷ t)) (c ∷ t)
    go true h = opens_one (c ∷ t) some none (open_bits (c ∷ t) h)
    go false h = absurd (none StrayKind t (record { token = StrayToken c; is_source = (no_proper (c ∷ t) none, closed_here (c ∷ t) h); text_is = refl; kind_is = refl }))

-- The error `e`, which the cursor `t` over a source returns if no token begins the remaining source, is an error at the
-- start of that text, and the first error of the whole source.
pub record StopsSource (t : CursorState) (e : LexError) : Type 0 where
  pub error : SourceErrorAt e.kind (chars t.rest)
  pub place : e.at + length t.rest ≡ length t.text
  pub first : IsFirstSourceError t e.kind e.at

pub stops_source : (text rest : List ℕ) (e : LexError) (kind : LexKind) → IsCursorState text rest → (empty : Bool)
    → empty ≡ (length rest == 0) → empty ≡ false → BeginsNoSource (chars rest) → kind ≡ source_error_kind (chars rest)
    → e ≡ record { kind = kind; at = length text - length rest } → StopsSource (record { text = text; rest = rest }) e
stops_source text rest e kind is empty empty_is some none kind_is e_is =
    let t : CursorState = record { text = text; rest = rest } in
    let place : ℕ = length text - length rest in
    let here : place + length rest ≡ length text = omega (arith, tail_length text rest is.following) in
    let error : SourceErrorAt kind (chars rest) = rw kind_is (error_here (chars rest)
    (chars_some rest is.following.is_text (sym empty_is ∙ some)) none) in
    let first : (cuts : List CutSource) → IsCutUpTo (chars text) cuts (chars rest)
    → SourceError (chars text) kind place =
    λ cuts are. record {
      cuts = cuts;
      rest = chars rest;
      are_cuts = are;
      error = error;
      rest_place = rest_place text rest place is.is_text is.following.is_text here;
    } in
    subst (λ (x : LexError). StopsSource t x) (sym e_is) (record { error = error; place = here; first = first })
