-- A literal that is unclosed in a text is also unclosed in an end of the text.
use Rattle.rl_syntax.proofs.Common.{◌≡◌, ◌≤◌, ℕ, zero, suc, Bool, true, false, ◌&&◌, ◌==◌, cond, List, [], ◌∷◌, ◌++◌, drop, replicate, Option, Some, None, refl, sym, ◌∙◌, ap, subst, arith, append_assoc, and_parts, and_from, none-some, IfSome}
use Rattle.std.specs.Prelude.{IsSomeAnd}
use Rattle.rl_lexer.specs.Lexemes.{begins_hashes, LiteralPrefix, prefix_text}
use Rattle.rl_lexer.specs.Mirrors.LexemeAt.{after_quote, after_raw}
use Rattle.rl_lexer.specs.Sources.{BeginsNoSource}
use Rattle.rl_lexer.proofs.LexemeRows.{quote_now}
use Rattle.rl_cursors.specs.Recoveries.{from_line_end}
use Rattle.rl_cursors.specs.Mirrors.Closing.{BeginsOpener, NoneCloses, AreUnclosed, IsIncluded}
use Rattle.rl_cursors.specs.declared.openers.Opener.{Opener}
use Rattle.rl_cursors.specs.declared.openers.Opener.TheVariants.{Quoted, Raw}
use Rattle.rl_cursors.specs.declared.unclosed.Unclosed.{Unclosed}
use Rattle.rl_cursors.proofs.LineEnds.{EndsWith, rest_ends, quoted_lines, raw_lines}
use Rattle.rl_cursors.proofs.OpenerLemmas.{hashed, quoted_stuck, quoted_unclosed, raw_stuck, raw_unclosed}

-- ---- quoted literals that are unclosed in a text and in its end

-- If no quote in a text closes the literal, a backslash escapes each quote in the text. So no quote in the text `body`,
-- which follows one of these quotes, closes the literal either.
quote_tail : (front body : List ℕ) → after_quote (front ++ 34 ∷ body) ≡ None → after_quote body ≡ None
quote_tail [] body h = absurd (none-some body (sym h ∙ quote_now body))
quote_tail (c ∷ []) body h = go (c == 34) (c == 92) h
  where
    go : (a b : Bool) → cond a (Some (34 ∷ body)) (cond b (after_quote body) (after_quote (34 ∷ body))) ≡ None
        → after_quote body ≡ None
    go true b h = absurd (none-some (34 ∷ body) (sym h))
    go false true h = h
    go false false h = absurd (none-some body (sym h ∙ quote_now body))
quote_tail (c ∷ d ∷ front) body h = go (c == 34) (c == 92) h (quote_tail front body) (quote_tail (d ∷ front) body)
  where
    rest : List ℕ
    rest = front ++ 34 ∷ body

    go : (a b : Bool) → cond a (Some (d ∷ rest)) (cond b (after_quote rest) (after_quote (d ∷ rest))) ≡ None
        → (after_quote rest ≡ None → after_quote body ≡ None) → (after_quote (d ∷ rest) ≡ None → after_quote body ≡ None)
        → after_quote body ≡ None
    go true b h two one = absurd (none-some (d ∷ rest) (sym h))
    go false true h two one = two h
    go false false h two one = one h

quoted_none : (body : List ℕ) → after_quote body ≡ None → NoneCloses Quoted body
quoted_none t h = λ front body e. quote_tail front body (ap after_quote (sym e) ∙ h)

-- ---- raw strings that are unclosed in a text and in its end

raw_tail : (n : ℕ) (front t : List ℕ) → after_raw n (front ++ t) ≡ None → after_raw n t ≡ None
raw_tail n [] t h = h
raw_tail n (c ∷ front) t h = go (c == 34 && begins_hashes n (front ++ t)) h (raw_tail n front t)
  where
    go : (b : Bool) → cond b (Some (drop n (front ++ t))) (after_raw n (front ++ t)) ≡ None
        → (after_raw n (front ++ t) ≡ None → after_raw n t ≡ None) → after_raw n t ≡ None
    go true h more = absurd (none-some (drop n (front ++ t)) (sym h))
    go false h more = more h

hashes_fewer : (n m : ℕ) (t : List ℕ) → n ≤ m → begins_hashes m t ≡ true → begins_hashes n t ≡ true
hashes_fewer zero m t l h = refl
hashes_fewer (suc n) zero t l h = absurd (omega (arith, l))
hashes_fewer (suc n) (suc m) [] l h = absurd (cc)
hashes_fewer (suc n) (suc m) (c ∷ t) l h =
    let p = and_parts (c == 35) (begins_hashes m t) h in
    and_from (c == 35) (begins_hashes n t) p.0 (hashes_fewer n m t (omega (arith, l)) p.1)

raw_more : (n m : ℕ) (t : List ℕ) → n ≤ m → after_raw n t ≡ None → after_raw m t ≡ None
raw_more n m [] l h = refl
raw_more n m (c ∷ t) l h = go (c == 34) (begins_hashes n t) (begins_hashes m t) refl refl h (raw_more n m t l)
  where
    go : (q a b : Bool) → begins_hashes n t ≡ a → begins_hashes m t ≡ b
        → cond (q && a) (Some (drop n t)) (after_raw n t) ≡ None → (after_raw n t ≡ None → after_raw m t ≡ None)
        → cond (q && b) (Some (drop m t)) (after_raw m t) ≡ None
    go false a b p r h more = more h
    go true true b p r h more = absurd (none-some (drop n t) (sym h))
    go true false true p r h more = absurd (let e : true ≡ false = sym (hashes_fewer n m t l r) ∙ p in cc)
    go true false false p r h more = more h

-- ---- the set of unclosed opening delimiters of a text and of its end

pub none_tail : (opener : Opener) (front t : List ℕ) → NoneCloses opener (front ++ t) → NoneCloses opener t
none_tail Quoted front t h = λ f body e.
    h (front ++ f) body (ap (λ z. front ++ z) e ∙ sym (append_assoc front f (34 ∷ body)))
none_tail (Raw n) front t h = raw_tail n front t h

raw_known : (o : Option ℕ) (t u : List ℕ) → ((n : ℕ) → NoneCloses (Raw n) t → NoneCloses (Raw n) u)
    → IfSome o (λ n. NoneCloses (Raw n) t) → IfSome o (λ n. NoneCloses (Raw n) u)
raw_known None t u more h = tt
raw_known (Some n) t u more h = more n h

pub unclosed_tail : (k : Unclosed) (front t : List ℕ) → AreUnclosed k (front ++ t) → AreUnclosed k t
unclosed_tail k front t h = record {
  quoted = λ on. none_tail Quoted front t (h.quoted on);
  raw = raw_known k.raw (front ++ t) t (λ n. none_tail (Raw n) front t) h.raw;
}

pub unclosed_end : (k : Unclosed) (t r : List ℕ) → EndsWith t r → AreUnclosed k t → AreUnclosed k r
unclosed_end k t r ends h = unclosed_tail k ends.0 r (subst (AreUnclosed k) ends.1 h)

-- In an empty text, each opening delimiter of a set is unclosed, since the text contains no opening delimiter.
pub unclosed_nil : (k : Unclosed) → AreUnclosed k []
unclosed_nil k = record { quoted = λ on front body e. absurd (no_quote front body e); raw = nothing k.raw }
  where
    no_quote : (front body : List ℕ) → [] ≡ front ++ 34 ∷ body → ⊥
    no_quote [] body e = absurd (cc)
    no_quote (c ∷ front) body e = absurd (cc)

    nothing : (o : Option ℕ) → IfSome o (λ n. NoneCloses (Raw n) [])
    nothing None = tt
    nothing (Some n) = refl

-- ---- an opening delimiter that is known to be unclosed begins no token

raw_closed_by : (o : Option ℕ) (n : ℕ) (t : List ℕ) → IsSomeAnd o (λ least. least ≤ n)
    → IfSome o (λ least. NoneCloses (Raw least) t) → after_raw n t ≡ None
raw_closed_by None n t is h = absurd is
raw_closed_by (Some least) n t is h = raw_more least n t is h

raw_front : (p : LiteralPrefix) (n : ℕ) (body : List ℕ) → EndsWith (prefix_text p ++ 114 ∷ hashed n body) body
raw_front p n body = (
  prefix_text p ++ 114 ∷ (replicate n 35 ++ 34 ∷ []),
  ap (λ z. prefix_text p ++ 114 ∷ z) (sym (append_assoc (replicate n 35) (34 ∷ []) body))
      ∙ sym (append_assoc (prefix_text p) (114 ∷ (replicate n 35 ++ 34 ∷ [])) body),
)

pub known_stuck : (k : Unclosed) (opener : Opener) (t body : List ℕ) → AreUnclosed k t → IsIncluded k opener
    → BeginsOpener t opener body → BeginsNoSource t
known_stuck k Quoted t body h is (p, e) = subst BeginsNoSource (sym e)
    (quoted_stuck p body (h.quoted is (prefix_text p) body e))
known_stuck k (Raw n) t body h is (p, e) =
    let whole : after_raw n (prefix_text p ++ 114 ∷ hashed n body) ≡ None = ap (after_raw n) (sym e)
    ∙ raw_closed_by k.raw n t is h.raw in
    let front = raw_front p n body in
    subst BeginsNoSource (sym e) (raw_stuck p n body (raw_tail n front.0 body (ap (after_raw n) (sym front.1) ∙ whole)))

-- ---- an opening delimiter that begins no token has no closing delimiter in the lines after it

pub lines_unclosed : (opener : Opener) (joins : Bool) (t body lines : List ℕ) → BeginsNoSource t
    → BeginsOpener t opener body → from_line_end joins false (drop 1 t) ≡ Some lines → NoneCloses opener lines
lines_unclosed Quoted joins t body lines none (p, e) h =
    let ends : EndsWith body lines = quoted_lines joins p body lines (ap (λ z. from_line_end joins false (drop 1 z)) (sym e)
    ∙ h) in
    none_tail Quoted ends.0 lines (subst (NoneCloses Quoted) ends.1 (quoted_none body
    (quoted_unclosed p body (subst BeginsNoSource e none))))
lines_unclosed (Raw n) joins t body lines none (p, e) h =
    let ends : EndsWith body lines = raw_lines joins p n body lines (ap (λ z. from_line_end joins false (drop 1 z)) (sym e)
    ∙ h) in
    none_tail (Raw n) ends.0 lines (subst (NoneCloses (Raw n)) ends.1 (raw_unclosed p n body
    (subst BeginsNoSource e none)))

pub known_lines : (k : Unclosed) (joins : Bool) (t lines : List ℕ) → from_line_end joins false (drop 1 t) ≡ Some lines
    → AreUnclosed k t → AreUnclosed k lines
known_lines k joins t lines h is = unclosed_end k t lines (rest_ends joins false t lines h) is
