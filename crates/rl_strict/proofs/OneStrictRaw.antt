-- At each position, a raw string has at most one kind of flaw. The text to show for the flaw is determined too.
use Rattle.rl_strict.proofs.Names.{◌≡◌, ◌≢◌, ℕ, ◌&&◌, Bool, true, false, not, ◌==◌, cond, List, [], ◌∷◌, ◌++◌, replicate, refl, sym, ap, ◌∙◌, inl, inr, arith, append_assoc, append_cancel_right, nat_lt, and_parts, both_ways, eqb-true, or_from, list_all, zero, suc, append_cancel_left, Kind, first_passes, after_run, is_hash, or_left, begins, apart, hashes_past, begins_front, FlawKind, UnexpectedEnd, NoQuote, Unclosed, Nul, NotAscii, TooManyHashes, CarriageReturn, RawForm, IsUnopened, is_quote, IsOpen, StrictQuotedFlaw, StrictRawFlaw, is_raw_character, raw_stop, raw_character_flaw_of, spoiled_flaw_of}
use Rattle.rl_strict.proofs.OneStrictUnit.{suffix_once}
use Rattle.rl_strict.proofs.StrictRawFlaws.{ends_at, many_hashes, walk_halt}
use Rattle.rl_strict.proofs.StrictRawLemmas.{NoCloser, inside_allowed, no_closer_at}

-- The text is any number of hashes, a quote, and more text.
abbrev pub HasQuote : List ℕ → Type 0
HasQuote t = (hashes : ℕ) × (inside : List ℕ) × (t ≡ replicate hashes 35 ++ (34 ∷ inside))

-- A text whose first character after its hashes isn't a quote doesn't begin with hashes and a quote.
pub no_quote : (n m : ℕ) (rest z : List ℕ) → first_passes is_hash rest ≡ false → first_passes is_quote rest ≡ false
    → replicate n 35 ++ rest ≡ replicate m 35 ++ (34 ∷ z) → ⊥
no_quote zero zero rest z h q e = both_ways (first_passes is_quote rest) q (ap (first_passes is_quote) e)
no_quote zero (suc m) rest z h q e = both_ways (first_passes is_hash rest) h (ap (first_passes is_hash) e)
no_quote (suc n) zero rest z h q e = both_ways true (sym (ap (first_passes is_quote) e)) refl
no_quote (suc n) (suc m) rest z h q e = no_quote n m rest z h q
    (let same : 35 ∷ (replicate n 35 ++ rest) ≡ 35 ∷ (replicate m 35 ++ (34 ∷ z)) = e in cc)

-- If a raw string has no opening quote after its hashes (`IsUnopened`), the text after its prefix doesn't begin with hashes
-- and a quote (`HasQuote`).
pub unopened_quote : (t rest : List ℕ) → IsUnopened t rest → HasQuote t → ⊥
unopened_quote t rest u (m, z, e) = no_quote u.hashes m rest z u.no_hash u.no_quote (sym u.text_is ∙ e)

-- ---- the hashes, and the text after the opening quote

-- In an unclosed raw string, a quote follows the hashes.
open_quote : (k : Kind) (n : ℕ) (t rest : List ℕ) → IsOpen k n t rest → HasQuote t
open_quote k n t rest o = (n, o.body ++ rest, o.text_is)

abbrev hashes : ℕ → List ℕ
hashes n = replicate n 35

-- Two parses of one raw string's hashes and opening quote agree: the hashes are equal, and the texts after the opening quote
-- are equal.
record SameOpen (n m : ℕ) (x y : List ℕ) : Type 0 where
  hashes_are : hashes n ≡ hashes m
  inside_is : x ≡ y

open_same : (n m : ℕ) (x y : List ℕ) → replicate n 35 ++ (34 ∷ x) ≡ replicate m 35 ++ (34 ∷ y) → SameOpen n m x y
open_same n m x y e =
    let both : 34 ∷ x ≡ 34 ∷ y = sym (hashes_past n x) ∙ ap (after_run is_hash) e ∙ hashes_past m y in
    record {
      hashes_are = append_cancel_right (replicate n 35) (replicate m 35) (34 ∷ y)
          (ap (λ z. replicate n 35 ++ z) (sym both) ∙ e);
      inside_is = cc;
    }

-- ---- the first closing delimiter

-- The loop over a raw string's content skips the content, if no hash follows it. The content has only allowed characters,
-- and no closing delimiter.
walk_finds : (k : Kind) (n : ℕ) (body z : List ℕ) → list_all (is_raw_character k) body ≡ true
    → NoCloser (replicate n 35) body → first_passes is_hash z ≡ false → z ≡ raw_stop k (replicate n 35) z
    → raw_stop k (replicate n 35) (body ++ z) ≡ z
unfolding raw_stop
walk_finds k n [] z each none no_hash ends_raw_content = sym ends_raw_content
walk_finds k n (c ∷ cs) z each none no_hash ends_raw_content =
    let p = and_parts (is_raw_character k c) (list_all (is_raw_character k) cs) each in
    let goes : ends_at k (replicate n 35) (c ∷ (cs ++ z)) ≡ false = or_from
    (c == 34 && begins (replicate n 35) (cs ++ z)) (not (is_raw_character k c)) (no_closer_at n c cs z no_hash none)
    (ap not p.0) in
    ap (λ b. cond b (c ∷ (cs ++ z)) (raw_stop k (replicate n 35) (cs ++ z))) goes
    ∙ walk_finds k n cs z p.1 (λ f r e. none (c ∷ f) r (ap (λ q. c ∷ q) e)) no_hash ends_raw_content

-- The loop over a raw string's content stops at a closing delimiter.
closer_halts : (k : Kind) (n : ℕ) (suffix : List ℕ) → 34 ∷ (replicate n 35 ++ suffix)
    ≡ raw_stop k (replicate n 35) (34 ∷ (replicate n 35 ++ suffix))
closer_halts k n suffix =
    let h : List ℕ = replicate n 35 in
    walk_halt k h (34 ∷ (h ++ suffix)) (h ++ suffix) 34 refl
    (or_left (begins h (h ++ suffix)) (not (is_raw_character k 34)) (begins_front h suffix))

-- The loop over a raw string's content skips all of the content, and stops at the closing delimiter.
closing_found : (k : Kind) (n : ℕ) (t closing suffix : List ℕ) (o : IsOpen k n t closing) → closing
    ≡ 34 ∷ (replicate n 35 ++ suffix) → raw_stop k (replicate n 35) (o.body ++ closing) ≡ closing
closing_found k n t closing suffix o e =
    let h : List ℕ = replicate n 35 in
    let ends_raw_content : closing ≡ raw_stop k h closing = e ∙ closer_halts k n suffix ∙ ap (raw_stop k h) (sym e) in
    walk_finds k n o.body closing (inside_allowed k o.body o.allowed o.no_carriage_return) o.no_closer
    (ap (first_passes is_hash) e) ends_raw_content

closing_once : (k : Kind) (n m : ℕ) (t ca cb sa sb : List ℕ) → IsOpen k n t ca → IsOpen k m t cb → ca
    ≡ 34 ∷ (replicate n 35 ++ sa) → cb ≡ 34 ∷ (replicate m 35 ++ sb) → ca ≡ cb
closing_once k n m t ca cb sa sb a b e f =
    let same = open_same n m (a.body ++ ca) (b.body ++ cb) (sym a.text_is ∙ b.text_is) in
    sym (closing_found k n t ca sa a e)
    ∙ ap (λ h. raw_stop k h (a.body ++ ca)) same.hashes_are
    ∙ ap (raw_stop k (replicate m 35)) same.inside_is
    ∙ closing_found k m t cb sb b f

-- In a raw string, no flaw of the content is after a closing delimiter.
not_closed : (k : Kind) (n m : ℕ) (t rest closing front : List ℕ) → IsOpen k n t rest → IsOpen k m t closing → closing
    ≡ 34 ∷ (replicate m 35 ++ (front ++ rest)) → ⊥
not_closed k n m t rest closing front a b e =
    let same = open_same n m (a.body ++ rest) (b.body ++ closing) (sym a.text_is ∙ b.text_is) in
    let h : List ℕ = replicate m 35 in
    let body : a.body ≡ b.body ++ (34 ∷ (h ++ front)) = append_cancel_right a.body (b.body ++ (34 ∷ (h ++ front))) rest
    (same.inside_is ∙ ap (λ z. b.body ++ z) (e ∙ ap (λ z. 34 ∷ z) (sym (append_assoc h front rest)))
    ∙ sym (append_assoc b.body (34 ∷ (h ++ front)) rest)) in
    a.no_closer b.body front (body ∙ ap (λ z. b.body ++ (34 ∷ (z ++ front))) (sym same.hashes_are))

-- ---- the kinds of flaws before the closing delimiter

-- The kind of flaw of an unclosed raw string. The last argument is the text from the flaw on.
open_kind : Kind → List ℕ → FlawKind
open_kind k [] = Unclosed
open_kind k (c ∷ cs) = raw_character_flaw_of k c

-- The kind of flaw if no quote follows a raw string's hashes. The argument is the text after the hashes.
unopened_kind : List ℕ → FlawKind
unopened_kind [] = UnexpectedEnd
unopened_kind (c ∷ cs) = NoQuote

-- The three cases of a raw string's flaw before a closing delimiter: only hashes, unclosed content, or too many hashes.
data Told (k : Kind) (f : FlawKind) (t piece rest : List ℕ) : Type 0 where
  Hashes : IsUnopened t rest → f ≡ unopened_kind rest → piece ≡ rest → Told k f t piece rest
  Contents : (n : ℕ) → IsOpen k n t rest → f ≡ open_kind k rest → piece ≡ rest → Told k f t piece rest
  Many : t ≡ replicate 255 35 ++ rest → first_passes is_hash rest ≡ true → f ≡ TooManyHashes → piece ≡ t
      → Told k f t piece rest

return_kind : (k : Kind) (rest : List ℕ) → first_passes (λ c. c == 13) rest ≡ true → CarriageReturn ≡ open_kind k rest
unfolding open_kind
return_kind k [] h = absurd (cc)
return_kind k (c ∷ cs) h = sym (ap (λ b. cond b CarriageReturn (spoiled_flaw_of k)) h)

other_kind : (k : Kind) (test : ℕ → Bool) (rest : List ℕ) → test 13 ≡ false → first_passes test rest ≡ true
    → spoiled_flaw_of k ≡ open_kind k rest
unfolding open_kind
other_kind k test [] n h = absurd (cc)
other_kind k test (c ∷ cs) n h = sym (ap (λ b. cond b CarriageReturn (spoiled_flaw_of k)) (apart test c 13 h n))

no_quote_kind : (rest : List ℕ) → rest ≢ [] → NoQuote ≡ unopened_kind rest
unfolding unopened_kind
no_quote_kind [] n = absurd (n refl)
no_quote_kind (c ∷ cs) n = refl

told : (k : Kind) (f : FlawKind) (t piece rest : List ℕ) → StrictRawFlaw k f t piece rest → Told k f t piece rest
unfolding open_kind unopened_kind
told k TooManyHashes t piece rest (e, h, p) = Many e h refl p
told k UnexpectedEnd t piece rest (u, e, p) = Hashes u (sym (ap unopened_kind e)) p
told k NoQuote t piece rest (u, some, p) = Hashes u (no_quote_kind rest some) p
told k Unclosed t piece rest ((n, o), e, p) = Contents n o (sym (ap (open_kind k) e)) p
told k CarriageReturn t piece rest ((n, o, h), p) = Contents n o (return_kind k rest h) p
told k Nul t piece rest (is, (n, o, h), p) = Contents n o
    (sym (ap spoiled_flaw_of is) ∙ other_kind k (λ c. c == 0) rest refl h) p
told k NotAscii t piece rest (is, (n, o, h), p) = Contents n o
    (sym (ap spoiled_flaw_of is) ∙ other_kind k (λ c. not (nat_lt c 128)) rest refl h) p
told k f t piece rest h = absurd h

-- A text that begins with more than 255 hashes isn't an unclosed raw string.
many_open : (k : Kind) (n : ℕ) (t rest r : List ℕ) → t ≡ replicate 255 35 ++ rest → first_passes is_hash rest ≡ true
    → IsOpen k n t r → ⊥
many_open k n t [] r e h o = absurd (cc)
many_open k n t (c ∷ cs) r e h o =
    let at : c ≡ 35 = eqb-true c 35 h in
    let many = many_hashes 255 n cs (o.body ++ r) (ap (λ z. replicate 255 35 ++ (z ∷ cs)) (sym at) ∙ sym e ∙ o.text_is)
    in
    let few = o.few in
    absurd (omega (arith, many, few))

unopened_open : (k : Kind) (n : ℕ) (t rest r : List ℕ) → IsUnopened t rest → IsOpen k n t r → ⊥
unopened_open k n t rest r u o = unopened_quote t rest u (open_quote k n t r o)

once : (k : Kind) (f g : FlawKind) (t pa pb rest : List ℕ) → Told k f t pa rest → Told k g t pb rest → (f ≡ g)
    × (pa ≡ pb)
once k f g t pa pb rest (Hashes u a p) (Hashes v b q) = (a ∙ sym b, p ∙ sym q)
once k f g t pa pb rest (Contents n o a p) (Contents m x b q) = (a ∙ sym b, p ∙ sym q)
once k f g t pa pb rest (Many e h a p) (Many x y b q) = (a ∙ sym b, p ∙ sym q)
once k f g t pa pb rest (Hashes u a p) (Contents m x b q) = absurd (unopened_open k m t rest rest u x)
once k f g t pa pb rest (Contents n o a p) (Hashes v b q) = absurd (unopened_open k n t rest rest v o)
once k f g t pa pb rest (Hashes u a p) (Many e h b q) = absurd (both_ways (first_passes is_hash rest) u.no_hash h)
once k f g t pa pb rest (Many e h a p) (Hashes v b q) = absurd (both_ways (first_passes is_hash rest) v.no_hash h)
once k f g t pa pb rest (Contents n o a p) (Many e h b q) = absurd (many_open k n t rest rest e h o)
once k f g t pa pb rest (Many e h a p) (Contents m x b q) = absurd (many_open k m t rest rest e h x)

not_both : (k : Kind) (f : FlawKind) (m : ℕ) (t piece rest closing front : List ℕ) → Told k f t piece rest
    → IsOpen k m t closing → closing ≡ 34 ∷ (replicate m 35 ++ (front ++ rest)) → ⊥
not_both k f m t piece rest closing front (Hashes u a p) o e = unopened_open k m t rest closing u o
not_both k f m t piece rest closing front (Contents n x a p) o e = not_closed k n m t rest closing front x o e
not_both k f m t piece rest closing front (Many x h a p) o e = many_open k m t rest closing x h o

-- ---- at most one flaw of a raw string at each position

-- The position and the hashes of a raw string's closing delimiter determine the text after the delimiter.
suffix_same : (n m : ℕ) (ca cb sa sb : List ℕ) → hashes n ≡ hashes m → ca ≡ cb → ca
    ≡ 34 ∷ (replicate n 35 ++ sa) → cb ≡ 34 ∷ (replicate m 35 ++ sb) → sa ≡ sb
suffix_same n m ca cb sa sb h c a b =
    let both : 34 ∷ (replicate m 35 ++ sa) ≡ 34 ∷ (replicate m 35 ++ sb) = ap (λ z. 34 ∷ (z ++ sa)) (sym h) ∙ sym a ∙ c
    ∙ b in
    let inner : replicate m 35 ++ sa ≡ replicate m 35 ++ sb = cc in
    append_cancel_left (replicate m 35) sa sb inner

pub raw_once : (kind : Kind) (k l : FlawKind) (t pa pb rest : List ℕ) → StrictQuotedFlaw RawForm kind k t pa rest
    → StrictQuotedFlaw RawForm kind l t pb rest → (k ≡ l) × (pa ≡ pb)
raw_once kind k l t pa pb rest (inl a) (inl b) = once kind k l t pa pb rest (told kind k t pa rest a)
    (told kind l t pb rest b)
raw_once kind k l t pa pb rest (inl a) (inr b) = absurd (not_both kind k b.closed.0 t pa rest b.closing b.front
    (told kind k t pa rest a) b.closed.1 b.closed.2)
raw_once kind k l t pa pb rest (inr a) (inl b) = absurd (not_both kind l a.closed.0 t pb rest a.closing a.front
    (told kind l t pb rest b) a.closed.1 a.closed.2)
raw_once kind k l t pa pb rest (inr a) (inr b) =
    let (n, oa, ea) = a.closed in
    let (m, ob, eb) = b.closed in
    let closing = closing_once kind n m t a.closing b.closing (a.front ++ rest) (b.front ++ rest) oa ob ea eb in
    let same = open_same n m (oa.body ++ a.closing) (ob.body ++ b.closing) (sym oa.text_is ∙ ob.text_is) in
    suffix_once RawForm k l a.closing b.closing a.front b.front pa pb rest a.spoils b.spoils closing
    (suffix_same n m a.closing b.closing (a.front ++ rest) (b.front ++ rest) same.hashes_are closing ea eb) a.piece_is
    b.piece_is
