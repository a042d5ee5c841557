-- A text that begins with the opening delimiter of a string begins with a token if the string is closed, and with no token
-- otherwise.
use Rattle.rl_syntax.proofs.Common.{◌≡◌, ℕ, zero, suc, true, false, ◌&&◌, ◌||◌, cond, List, ◌∷◌, ◌++◌, drop, length, replicate, Option, Some, None, refl, sym, ◌∙◌, ap, lit<, inl, inr, option_map, encode_utf8_all, encodes-chars, chars, IsUtf8, codes}
use Rattle.rl_syntax.specs.Texts.{first_passes, is_start, is_continue, begins_char, begins}
use Rattle.rl_syntax.specs.Classes.{is_hash, after_run}
use Rattle.rl_syntax.proofs.LowBytes.{low_front}
use Rattle.rl_lexer.specs.Lexemes.{LiteralPrefix, NoPrefix, BytePrefix, CPrefix, prefix_text, BeginsRaw, LexemeForm, LiteralForm}
use Rattle.rl_lexer.specs.Mirrors.LexemeAt.{after_quote, after_raw, after_suffix, hashes, LetterBHead, LetterCHead, LetterRHead, QuoteHead, raw_at, literal_at, word_at, lexeme_at, begins_hashed_quote, begins_quote}
use Rattle.rl_lexer.specs.Mirrors.SourceAt.{of_kind, other_at, opens, after_bad_quote, stray_at, or_stray}
use Rattle.rl_lexer.specs.Sources.{BeginsNoSource, PlainKind, RawIdentifierKind, StrayKind}
use Rattle.rl_lexer.proofs.HashLemmas.{hashes_before, hashes_count, hashes_past}
use Rattle.rl_lexer.proofs.LexemeAnswers.{form_before, no_lexeme}
use Rattle.rl_lexer.proofs.LexemeFronts.{at_class, class34, class98, class99, class114, start_ascii}
use Rattle.rl_lexer.proofs.LexemeOpeners.{quote_here, raw_opens_here}
use Rattle.rl_lexer.proofs.SourceFronts.{plain_before, source_none}

-- ---- no token begins a text if the parsers of plain tokens, of other tokens of sources and of stray characters find none

stuck : (t : List ℕ) → lexeme_at t ≡ None → other_at t ≡ None → stray_at t ≡ None → BeginsNoSource t
stuck t lexeme other stray = source_none t None (no_lexeme t lexeme) (sym (ap (λ o. or_stray o t) other ∙ stray))

lexeme_stuck : (t : List ℕ) → BeginsNoSource t → lexeme_at t ≡ None
lexeme_stuck t none = go (lexeme_at t) refl
  where
    go : (o : Option (LexemeForm × List ℕ)) → lexeme_at t ≡ o → lexeme_at t ≡ None
    go None e = e
    go (Some p) e = absurd (none (PlainKind p.0) p.1 (plain_before t p.1 p.0 (form_before t p e)))

-- The literal with its suffix if the closing delimiter was found, and `None` otherwise. The argument is the text after the
-- closing delimiter.
abbrev ended : Option (List ℕ) → Option (LexemeForm × List ℕ)
ended o = literal_at (option_map after_suffix o)

not_ended : (o : Option (List ℕ)) → ended o ≡ None → o ≡ None
not_ended None h = refl
not_ended (Some r) h = absurd (cc)

-- ---- a string with escapes begins a token if and only if it is closed

quoted_lexeme : (p : LiteralPrefix) (body : List ℕ) → lexeme_at (prefix_text p ++ 34 ∷ body) ≡ ended (after_quote body)
quoted_lexeme NoPrefix body = at_class 34 body QuoteHead class34
quoted_lexeme BytePrefix body = at_class 98 (34 ∷ body) LetterBHead class98
quoted_lexeme CPrefix body = at_class 99 (34 ∷ body) LetterCHead class99

quoted_other : (p : LiteralPrefix) (body : List ℕ) → other_at (prefix_text p ++ 34 ∷ body) ≡ None
quoted_other NoPrefix body = refl
quoted_other BytePrefix body = refl
quoted_other CPrefix body = refl

quoted_stray : (p : LiteralPrefix) (body : List ℕ) → stray_at (prefix_text p ++ 34 ∷ body) ≡ None
quoted_stray NoPrefix body = refl
quoted_stray BytePrefix body = refl
quoted_stray CPrefix body = refl

pub quoted_stuck : (p : LiteralPrefix) (body : List ℕ) → after_quote body ≡ None
    → BeginsNoSource (prefix_text p ++ 34 ∷ body)
quoted_stuck p body open_now = stuck (prefix_text p ++ 34 ∷ body) (quoted_lexeme p body ∙ ap ended open_now)
    (quoted_other p body) (quoted_stray p body)

pub quoted_unclosed : (p : LiteralPrefix) (body : List ℕ) → BeginsNoSource (prefix_text p ++ 34 ∷ body)
    → after_quote body ≡ None
quoted_unclosed p body none = not_ended (after_quote body)
    (sym (quoted_lexeme p body) ∙ lexeme_stuck (prefix_text p ++ 34 ∷ body) none)

-- ---- a raw string begins a token if and only if it is closed

-- `n` hashes, a double quote, and the text `body`.
abbrev pub hashed : ℕ → List ℕ → List ℕ
hashed n body = replicate n 35 ++ 34 ∷ body

raw_of : (n : ℕ) (body : List ℕ) → raw_at (hashed n body) ≡ option_map after_suffix (after_raw n body)
raw_of n body =
    ap (λ k. option_map after_suffix (after_raw k (drop 1 (after_run is_hash (hashed n body))))) (hashes_count n body)
    ∙ ap (λ s. option_map after_suffix (after_raw n (drop 1 s))) (hashes_past n body)

raw_chosen : (n : ℕ) (body : List ℕ) (other : Option (LexemeForm × List ℕ))
    → cond (begins_hashed_quote (hashed n body)) (literal_at (raw_at (hashed n body))) other ≡ ended (after_raw n body)
raw_chosen n body other =
    ap (λ b. cond b (literal_at (raw_at (hashed n body))) other) (raw_opens_here n body)
    ∙ ap literal_at (raw_of n body)

raw_lexeme : (p : LiteralPrefix) (n : ℕ) (body : List ℕ) → lexeme_at (prefix_text p ++ 114 ∷ hashed n body)
    ≡ ended (after_raw n body)
raw_lexeme NoPrefix n body =
    let u = hashed n body in
    at_class 114 u LetterRHead class114
    ∙ raw_chosen n body (cond (begins_char 35 u && first_passes is_start (drop 1 u)) None (word_at u))
raw_lexeme BytePrefix n body = at_class 98 (114 ∷ hashed n body) LetterBHead class98
    ∙ raw_chosen n body (word_at (114 ∷ hashed n body))
raw_lexeme CPrefix n body = at_class 99 (114 ∷ hashed n body) LetterCHead class99
    ∙ raw_chosen n body (word_at (114 ∷ hashed n body))

no_name : (c : ℕ) (t : List ℕ) → is_start c ≡ false
    → of_kind RawIdentifierKind (cond (is_start c) (Some (after_run is_continue t)) None) ≡ None
no_name c t h = ap (λ b. of_kind RawIdentifierKind (cond b (Some (after_run is_continue t)) None)) h

raw_other : (p : LiteralPrefix) (n : ℕ) (body : List ℕ) → other_at (prefix_text p ++ 114 ∷ hashed n body) ≡ None
raw_other NoPrefix zero body = refl
raw_other NoPrefix (suc zero) body = no_name 34 body (start_ascii 34 (lit< tt))
raw_other NoPrefix (suc (suc n)) body = no_name 35 (hashed n body) (start_ascii 35 (lit< tt))
raw_other BytePrefix n body = refl
raw_other CPrefix n body = refl

begins_raw_here : (p : LiteralPrefix) (n : ℕ) (body : List ℕ) → BeginsRaw (prefix_text p ++ 114 ∷ hashed n body)
begins_raw_here p n body = record {
  prefix = p;
  rest = hashed n body;
  opens = record { hashes = n; rest = body; text_is = refl };
  text_is = refl;
}

raw_begins_quote : (p : LiteralPrefix) (n : ℕ) (body : List ℕ) → begins_quote (prefix_text p ++ 114 ∷ hashed n body)
    ≡ true
raw_begins_quote p n body = quote_here (prefix_text p ++ 114 ∷ hashed n body) (inr (inr (inl (begins_raw_here p n body))))

opens_so : (t : List ℕ) → begins (codes "/*") t ≡ false → begins_quote t ≡ true → opens t ≡ true
opens_so t block quote = ap (λ b. b || (begins_quote t || begins_char 39 t)) block
    ∙ ap (λ b. b || begins_char 39 t) quote

stray_so : (c : ℕ) (t : List ℕ) → opens (c ∷ t) ≡ true → after_bad_quote (c ∷ t) ≡ None → stray_at (c ∷ t) ≡ None
stray_so c t open_now bad =
    ap (λ b. cond b (of_kind (PlainKind LiteralForm) (after_bad_quote (c ∷ t))) (Some (StrayKind, t))) open_now
    ∙ ap (of_kind (PlainKind LiteralForm)) bad

raw_stray : (p : LiteralPrefix) (n : ℕ) (body : List ℕ) → stray_at (prefix_text p ++ 114 ∷ hashed n body) ≡ None
raw_stray NoPrefix n body = stray_so 114 (hashed n body)
    (opens_so (114 ∷ hashed n body) refl (raw_begins_quote NoPrefix n body)) refl
raw_stray BytePrefix n body = stray_so 98 (114 ∷ hashed n body)
    (opens_so (98 ∷ 114 ∷ hashed n body) refl (raw_begins_quote BytePrefix n body)) refl
raw_stray CPrefix n body = stray_so 99 (114 ∷ hashed n body)
    (opens_so (99 ∷ 114 ∷ hashed n body) refl (raw_begins_quote CPrefix n body)) refl

pub raw_stuck : (p : LiteralPrefix) (n : ℕ) (body : List ℕ) → after_raw n body ≡ None
    → BeginsNoSource (prefix_text p ++ 114 ∷ hashed n body)
raw_stuck p n body open_now = stuck (prefix_text p ++ 114 ∷ hashed n body) (raw_lexeme p n body ∙ ap ended open_now)
    (raw_other p n body) (raw_stray p n body)

pub raw_unclosed : (p : LiteralPrefix) (n : ℕ) (body : List ℕ) → BeginsNoSource (prefix_text p ++ 114 ∷ hashed n body)
    → after_raw n body ≡ None
raw_unclosed p n body none = not_ended (after_raw n body)
    (sym (raw_lexeme p n body) ∙ lexeme_stuck (prefix_text p ++ 114 ∷ hashed n body) none)

-- ---- the number of hashes of a raw string

hash_bytes : (n : ℕ) → length (encode_utf8_all (replicate n 35)) ≡ n
hash_bytes zero = refl
hash_bytes (suc n) = ap length (low_front 35 (replicate n 35) (lit< tt)) ∙ ap suc (hash_bytes n)

-- If a quote follows the hashes at the start of a text, the number of hashes is the number of bytes before the quote.
pub hashes_taken : (front : List ℕ) (t quote body : List ℕ) → IsUtf8 front → t ≡ chars front ++ quote
    → quote ≡ after_run is_hash t → quote ≡ 34 ∷ body → 114 ∷ t ≡ 114 ∷ hashed (length front) body
hashes_taken front t quote body u cut past is =
    let n = hashes t in
    let run : chars front ≡ replicate n 35 = hashes_before (chars front) t quote past cut in
    let count : length front ≡ n = sym (ap length (encodes-chars front u)) ∙ ap (λ z. length (encode_utf8_all z)) run
    ∙ hash_bytes n in
    let whole : t ≡ hashed n body = cut ∙ ap (λ z. z ++ quote) run ∙ ap (λ z. replicate n 35 ++ z) is in
    ap (λ z. 114 ∷ z) (whole ∙ ap (λ k. hashed k body) (sym count))
