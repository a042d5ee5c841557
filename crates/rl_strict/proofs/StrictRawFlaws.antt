-- The flaws of raw strings in Rust's grammar.
use Rattle.rl_strict.proofs.Names.{◌≡◌, ◌+◌, ℕ, zero, suc, ◌<◌, ◌≤◌, ◌||◌, ◌&&◌, Bool, true, false, not, ◌==◌, cond, List, [], ◌∷◌, ◌++◌, replicate, refl, sym, ap, subst, ◌∙◌, inl, inr, arith, append_assoc, nat_lt, and_from, and_parts, both_ways, cases_Bool, eqb-true, not-true, or_parts, or_from, append_cancel_right, ltb-true, ltb-false, ◌⊎◌, list_all, AllByRecursion, cond_both, IsScalar, Kind, Str, ByteStr, CStr, first_passes, is_string, after_run, is_hash, and_left, begins, apart, hashes_past, FlawKind, UnexpectedEnd, NoQuote, Unclosed, TooManyHashes, RawForm, StopsBefore, IsOpen, StrictRawFlaw, suffix_piece, ClosesForm, ClosesRaw, ends_raw, is_inside, is_raw_character, is_strict_suffix, raw_stop, raw_character_flaw_of, spoiled_flaw_of}
use Rattle.rl_strict.proofs.StrictRawLemmas.{NoCloser, inside_sound, none_before, nothing_inside, past_body, raw_close, raw_complete, raw_on, raw_sound}
use Rattle.rl_strict.proofs.StrictSuffixFlaws.{Closer, FlawInside, SuffixSpoiled, closed_flaw, same_flaw}

-- ---- the content of a raw string

-- The loop over a raw string's content has skipped the text `body`, and has reached `rest`. `body` has only allowed
-- characters, and no closing delimiter.
record RawWalk (k : Kind) (hashes t rest : List ℕ) : Type 0 where
  body : List ℕ
  text_is : t ≡ body ++ rest
  each : list_all (is_raw_character k) body ≡ true
  none : NoCloser hashes body

-- Whether the loop over a raw string's content stops at the beginning of the text: at a closing delimiter, or at a character
-- that isn't allowed.
abbrev pub ends_at : Kind → List ℕ → List ℕ → Bool
ends_at k hashes [] = false
ends_at k hashes (c ∷ cs) = (c == 34 && begins hashes cs) || not (is_raw_character k c)

-- The loop over a raw string's content skips only allowed characters that contain no closing delimiter.
raw_walk : (k : Kind) (hashes t : List ℕ) → RawWalk k hashes t (raw_stop k hashes t)
unfolding raw_stop
raw_walk k hashes [] = record { body = []; text_is = refl; each = refl; none = λ f r e. nothing_inside f (hashes ++ r) e }
raw_walk k hashes (c ∷ cs) = go (raw_walk k hashes cs) (ends_at k hashes (c ∷ cs)) refl
  where
    go : RawWalk k hashes cs (raw_stop k hashes cs) → (b : Bool) → ends_at k hashes (c ∷ cs) ≡ b
        → RawWalk k hashes (c ∷ cs) (cond b (c ∷ cs) (raw_stop k hashes cs))
    go w true e = record { body = []; text_is = refl; each = refl; none = λ f r e. nothing_inside f (hashes ++ r) e }
    go w false e =
        let p = or_parts (c == 34 && begins hashes cs) (not (is_raw_character k c)) e in
        let held : is_raw_character k c ≡ true = false_not (is_raw_character k c) p.1 in
        let At : List ℕ → Type 0 = λ z. (c == 34 && begins hashes z) ≡ false in
        record {
          body = c ∷ w.body;
          text_is = ap (λ z. c ∷ z) w.text_is;
          each = and_from (is_raw_character k c) (list_all (is_raw_character k) w.body) held w.each;
          none = none_before hashes c w.body (raw_stop k hashes cs) (subst At w.text_is p.0) w.none;
        }
      where
        false_not : (b : Bool) → not b ≡ false → b ≡ true
        false_not true h = refl
        false_not false h = absurd (cc)

raw_halts : (k : Kind) (hashes t cs : List ℕ) (c : ℕ) → raw_stop k hashes t ≡ c ∷ cs → ends_at k hashes (c ∷ cs) ≡ true
unfolding raw_stop
raw_halts k hashes [] cs c e = absurd (cc)
raw_halts k hashes (d ∷ ds) cs c e = go (raw_halts k hashes ds cs c) (ends_at k hashes (d ∷ ds)) refl e
  where
    go : (raw_stop k hashes ds ≡ c ∷ cs → ends_at k hashes (c ∷ cs) ≡ true) → (b : Bool) → ends_at k hashes (d ∷ ds) ≡ b
        → cond b (d ∷ ds) (raw_stop k hashes ds) ≡ c ∷ cs → ends_at k hashes (c ∷ cs) ≡ true
    go rec true h e = sym (ap (ends_at k hashes) e) ∙ h
    go rec false h e = rec e

-- ---- iterations of the loop over a raw string's content

pub walk_halt : (k : Kind) (hashes t cs : List ℕ) (c : ℕ) → t ≡ c ∷ cs → ends_at k hashes (c ∷ cs) ≡ true → t
    ≡ raw_stop k hashes t
unfolding raw_stop
walk_halt k hashes t cs c e h =
    let at : raw_stop k hashes (c ∷ cs) ≡ c ∷ cs = ap (λ b. cond b (c ∷ cs) (raw_stop k hashes cs)) h in
    e ∙ sym at ∙ ap (raw_stop k hashes) (sym e)

pub walk_end : (k : Kind) (hashes t : List ℕ) → t ≡ [] → t ≡ raw_stop k hashes t
unfolding raw_stop
walk_end k hashes t e = e ∙ ap (raw_stop k hashes) (sym e)

pub walk_run : (k : Kind) (hashes run x : List ℕ) → list_all (is_inside k) run ≡ true → raw_stop k hashes (run ++ x)
    ≡ raw_stop k hashes x
unfolding raw_stop
walk_run k hashes [] x each = refl
walk_run k hashes (c ∷ cs) x each =
    let p = and_parts (is_inside k c) (list_all (is_inside k) cs) each in
    let q = and_parts (not (c == 34)) (is_raw_character k c) p.0 in
    let goes : ends_at k hashes (c ∷ (cs ++ x)) ≡ false = or_from (c == 34 && begins hashes (cs ++ x))
    (not (is_raw_character k c)) (and_left (c == 34) (begins hashes (cs ++ x)) (not-true (c == 34) q.0)) (ap not q.1) in
    ap (λ b. cond b (c ∷ (cs ++ x)) (raw_stop k hashes (cs ++ x))) goes ∙ walk_run k hashes cs x p.1

pub walk_past : (k : Kind) (hashes t x run s : List ℕ) → t ≡ run ++ x → list_all (is_inside k) run ≡ true
    → raw_stop k hashes t ≡ s → raw_stop k hashes x ≡ s
walk_past k hashes t x run s e each same = sym (walk_run k hashes run x each) ∙ ap (raw_stop k hashes) (sym e) ∙ same

pub walk_on : (k : Kind) (hashes t cs s : List ℕ) (c : ℕ) → t ≡ c ∷ cs → ends_at k hashes (c ∷ cs) ≡ false
    → raw_stop k hashes t ≡ s → raw_stop k hashes cs ≡ s
unfolding raw_stop
walk_on k hashes t cs s c e h same =
    sym (ap (λ b. cond b (c ∷ cs) (raw_stop k hashes cs)) h) ∙ ap (raw_stop k hashes) (sym e) ∙ same

-- If a hash follows `n` hashes, the text begins with `n + 1` hashes.
pub hash_more : (n : ℕ) (t a z : List ℕ) (c : ℕ) → t ≡ replicate n 35 ++ a → a ≡ c ∷ z → c ≡ 35 → t
    ≡ replicate (n + 1) 35 ++ z
hash_more n t a z c e is hash = e ∙ ap (λ x. replicate n 35 ++ x) (is ∙ ap (λ x. x ∷ z) hash) ∙ go n
    ∙ ap (λ m. replicate m 35 ++ z) (let one : suc n ≡ n + 1 = omega arith in one)
  where
    go : (n : ℕ) → replicate n 35 ++ (35 ∷ z) ≡ replicate (suc n) 35 ++ z
    go zero = refl
    go (suc n) = ap (λ x. 35 ∷ x) (go n)

-- ---- a text after hashes and a quote

-- If a text begins with `m` hashes and a further hash, and also with `n` hashes and a quote, `m` is less than `n`.
pub many_hashes : (m n : ℕ) (e r : List ℕ) → replicate m 35 ++ (35 ∷ e) ≡ replicate n 35 ++ (34 ∷ r) → m < n
many_hashes zero zero e r h = absurd (both_ways true (ap (first_passes is_hash) h) refl)
many_hashes zero (suc n) e r h = omega arith
many_hashes (suc m) zero e r h = absurd (both_ways true (ap (first_passes is_hash) h) refl)
many_hashes (suc m) (suc n) e r h =
    let rest : replicate m 35 ++ (35 ∷ e) ≡ replicate n 35 ++ (34 ∷ r) = cc in
    let less = many_hashes m n e r rest in
    omega (arith, less)

-- If `n` hashes, a quote and the text `x` are a raw string after its prefix, `x` passes the test `ends_raw` for the end of a
-- raw string.
raw_bad : (k : Kind) (n : ℕ) (x : List ℕ) → ClosesRaw k (replicate n 35 ++ (34 ∷ x)) → ends_raw k (replicate n 35) x
    ≡ true
raw_bad k n x c =
    let both : 34 ∷ x ≡ 34 ∷ c.rest = sym (hashes_past n x) ∙ ap (after_run is_hash) c.text_is
    ∙ hashes_past c.hashes c.rest in
    let same : replicate n 35 ≡ replicate c.hashes 35 = append_cancel_right (replicate n 35) (replicate c.hashes 35)
    (34 ∷ x) (c.text_is ∙ ap (λ z. replicate c.hashes 35 ++ z) (sym both)) in
    let inside : x ≡ c.rest = cc in
    ap (λ z. ends_raw k z x) same ∙ ap (ends_raw k (replicate c.hashes 35)) inside
    ∙ raw_complete k c.hashes c.rest c.closes

raw_good : (k : Kind) (n : ℕ) (x : List ℕ) → is_string k ≡ true → n < 256 → ends_raw k (replicate n 35) x ≡ true
    → ClosesRaw k (replicate n 35 ++ (34 ∷ x))
raw_good k n x s few h = record { hashes = n; few = few; rest = x; closes = raw_sound k (replicate n 35) x s h; text_is = refl }

-- If a character of a raw string isn't allowed, the kind of flaw is the one that the code returns for the character.
held_kind : (k : Kind) (n : ℕ) (t rest : List ℕ) (c : ℕ) (cs : List ℕ) → is_string k ≡ true → IsOpen k n t rest → rest
    ≡ c ∷ cs → is_raw_character k c ≡ false → StrictRawFlaw k (raw_character_flaw_of k c) t rest rest
held_kind k n t rest c cs s o at not_held = cond_both (c == 13) _ _ (λ f. StrictRawFlaw k f t rest rest)
    (λ e. ((n, o, ap (first_passes (λ z. z == 13)) at ∙ e), refl)) (other k s o not_held)
  where
    other : (k : Kind) → is_string k ≡ true → IsOpen k n t rest → is_raw_character k c ≡ false → (c == 13) ≡ false
        → StrictRawFlaw k (spoiled_flaw_of k) t rest rest
    other Str s o h e = absurd (both_ways (not (c == 13)) h (ap not e))
    other ByteStr s o h e = (
      refl,
      (n, o, ap (first_passes (λ z. not (nat_lt z 128))) at ∙ high (nat_lt c 128) refl),
      refl,
    )
      where
        high : (b : Bool) → nat_lt c 128 ≡ b → not (nat_lt c 128) ≡ true
        high true g = absurd (both_ways (nat_lt c 128 && not (c == 13)) h (and_from (nat_lt c 128) (not (c == 13)) g
            (ap not e)))
        high false g = ap not g
    other CStr s o h e = (refl, (n, o, ap (first_passes (λ z. z == 0)) at ∙ nul (c == 0) refl), refl)
      where
        nul : (b : Bool) → (c == 0) ≡ b → (c == 0) ≡ true
        nul true g = g
        nul false g = absurd (both_ways (not (c == 0) && not (c == 13)) h (and_from (not (c == 0)) (not (c == 13))
            (ap not g) (ap not e)))
    other kind s o h e = absurd (cc)

hashes_characters : (m : ℕ) → AllByRecursion IsScalar (replicate m 35 ++ [])
hashes_characters zero = tt
hashes_characters (suc m) = (refl, hashes_characters m)

-- The next lemmas are about a raw string after its prefix: `n` hashes, a quote and the text `inside`. The loop over the
-- content has skipped the content up to `rest`.
module _ (k : Kind) (n : ℕ) (inside rest : List ℕ) (s : is_string k ≡ true) (few : n < 256)
    (w : RawWalk k (replicate n 35) inside rest) where
  abbrev hs : List ℕ
  hs = replicate n 35

  abbrev before : List ℕ
  before = hs ++ (34 ∷ w.body)

  abbrev whole : List ℕ
  whole = hs ++ (34 ∷ inside)

  joined : (z : List ℕ) → before ++ z ≡ hs ++ (34 ∷ (w.body ++ z))
  joined z = append_assoc hs (34 ∷ w.body) z

  cut : whole ≡ before ++ rest
  cut = ap (λ z. hs ++ (34 ∷ z)) w.text_is ∙ sym (joined rest)

  opened : IsOpen k n whole rest
  opened =
      let a = inside_sound k w.body s w.each in
      record { few = few; body = w.body; allowed = a.0; no_carriage_return = a.1; no_closer = w.none; text_is = ap (λ z. hs ++ (34 ∷ z)) w.text_is }

  -- If the content of a raw string has the closing delimiter and a suffix after it, the raw string is closed.
  good : (z : List ℕ) → first_passes is_hash z ≡ false → ends_raw k hs z ≡ true → ClosesRaw k (before ++ z)
  good z no_hash h = subst (ClosesRaw k) (sym (joined z)) (raw_good k n (w.body ++ z) s few
      (past_body k n w.body z w.each w.none no_hash ∙ h))

  bad : (z : List ℕ) → first_passes is_hash z ≡ false → ends_raw k hs z ≡ false → ClosesRaw k (before ++ z) → ⊥
  bad z no_hash h c = both_ways (ends_raw k hs z) h (sym (past_body k n w.body z w.each w.none no_hash)
      ∙ raw_bad k n (w.body ++ z) (subst (ClosesRaw k) (joined z) c))

  -- After a raw string's content, a quote, the hashes and a suffix close the raw string.
  closed_at : (x : List ℕ) → is_strict_suffix x ≡ true → ClosesRaw k (before ++ (34 ∷ (hs ++ x)))
  closed_at x h = good (34 ∷ (hs ++ x)) refl (raw_close k hs x ∙ h)

  stops_at : ((c : ℕ) (cs e : List ℕ) → rest ≡ c ∷ cs → ClosesRaw k (before ++ (c ∷ e)) → ⊥)
      → StopsBefore (ClosesForm RawForm k) whole rest
  unfolding is_strict_suffix
  stops_at stuck = record {
    front = before;
    text_is = cut;
    begins = record { ending = 34 ∷ (hs ++ []); are_characters = (refl, hashes_characters n); is_taken = closed_at [] refl };
    stuck = stuck;
  }

  -- If the loop over a raw string's content reaches the text's end, the flaw is `Unclosed`.
  ended : rest ≡ [] → FlawInside RawForm k Unclosed whole rest rest
  ended e = record {
    stops = stops_at (λ c cs r h y. let bad_end : c ∷ cs ≡ [] = sym h ∙ e in absurd (cc));
    has = inl ((n, opened), e, refl);
  }

  -- A raw string that contains a character that isn't allowed can't be closed, whatever text follows the character.
  stuck_at : (c : ℕ) (cs : List ℕ) → rest ≡ c ∷ cs → is_raw_character k c ≡ false → (d : ℕ) (ds e : List ℕ) → rest
      ≡ d ∷ ds → ClosesRaw k (before ++ (d ∷ e)) → ⊥
  stuck_at c cs at not_held d ds e h y =
      let both : c ∷ cs ≡ d ∷ ds = sym at ∙ h in
      let same : c ≡ d = cc in
      let no_hash : (c == 35) ≡ false = other c 35 not_held (holds_hash k s) in
      let no_quote : (c == 34) ≡ false = other c 34 not_held (holds_quote k s) in
      bad (c ∷ e) no_hash (raw_on k hs c e (and_left (c == 34) (begins hs e) no_quote)
      ∙ and_left (is_raw_character k c) (ends_raw k hs e) not_held)
      (subst (λ z. ClosesRaw k (before ++ (z ∷ e))) (sym same) y)
    where
      other : (c d : ℕ) → is_raw_character k c ≡ false → is_raw_character k d ≡ true → (c == d) ≡ false
      other c d h g = apart (λ z. not (is_raw_character k z)) c d (ap not h) (ap not g)

      holds_hash : (k : Kind) → is_string k ≡ true → is_raw_character k 35 ≡ true
      holds_hash Str s = refl
      holds_hash ByteStr s = refl
      holds_hash CStr s = refl
      holds_hash kind s = absurd (cc)

      holds_quote : (k : Kind) → is_string k ≡ true → is_raw_character k 34 ≡ true
      holds_quote Str s = refl
      holds_quote ByteStr s = refl
      holds_quote CStr s = refl
      holds_quote kind s = absurd (cc)

  spoiled : (c : ℕ) (cs : List ℕ) → rest ≡ c ∷ cs → is_raw_character k c ≡ false
      → FlawInside RawForm k (raw_character_flaw_of k c) whole rest rest
  spoiled c cs at not_held = record {
    stops = stops_at (stuck_at c cs at not_held);
    has = inl (held_kind k n whole rest c cs s opened at not_held);
  }

  -- After a raw string's content, a quote and the hashes close the raw string, whatever suffix follows.
  closer : Closer RawForm k
  closer = record {
    before = before ++ (34 ∷ hs);
    good = λ x h. subst (ClosesRaw k) (sym (append_assoc before (34 ∷ hs) x)) (closed_at x h);
    bad = λ x h c. bad (34 ∷ (hs ++ x)) refl (raw_close k hs x ∙ h) (subst (ClosesRaw k)
        (append_assoc before (34 ∷ hs) x) c);
  }

  closed : (f : FlawKind) (suffix piece after : List ℕ) → rest ≡ 34 ∷ (hs ++ suffix) → SuffixSpoiled RawForm f suffix
      after → piece ≡ suffix_piece f rest suffix → FlawInside RawForm k f whole piece after
  unfolding closer
  closed f suffix piece after at found spoils = closed_flaw RawForm k f whole rest suffix piece after closer
      (cut ∙ ap (λ z. before ++ z) at ∙ sym (append_assoc before (34 ∷ hs) suffix)) (n, opened, at) found spoils

-- ---- the flaw after the opening quote, by the result of the code

-- Up to `rest`, where the loop over a raw string's content stops, the content has only allowed characters, and no closing
-- delimiter.
found_walk : (k : Kind) (n : ℕ) (hashes inside rest : List ℕ) → hashes ≡ replicate n 35 → rest ≡ raw_stop k hashes
    inside → RawWalk k (replicate n 35) inside rest
found_walk k n hashes inside rest e at = subst (RawWalk k (replicate n 35) inside)
    (sym (at ∙ ap (λ z. raw_stop k z inside) e)) (raw_walk k (replicate n 35) inside)

-- Replaces the kind, the hashes and the texts of a raw string's flaw by equal ones that the code returned.
as_found : (k : Kind) (f g : FlawKind) (n : ℕ) (hashes inside p q r z : List ℕ) → hashes ≡ replicate n 35 → f ≡ g
    → q ≡ p → z ≡ r → FlawInside RawForm k g (replicate n 35 ++ (34 ∷ inside)) p r
    → FlawInside RawForm k f (hashes ++ (34 ∷ inside)) q z
as_found k f g n hashes inside p q r z e kind piece at h =
    subst (λ y. FlawInside RawForm k f (y ++ (34 ∷ inside)) q z) (sym e)
    (same_flaw RawForm k f g (replicate n 35 ++ (34 ∷ inside)) p q r z kind piece at h)

pub raw_ended : (k : Kind) (f : FlawKind) (n : ℕ) (hashes inside rest q z : List ℕ) → is_string k ≡ true → n ≤ 255
    → hashes ≡ replicate n 35 → rest ≡ raw_stop k hashes inside → rest ≡ [] → f ≡ Unclosed → q ≡ rest → z ≡ rest
    → FlawInside RawForm k f (hashes ++ (34 ∷ inside)) q z
raw_ended k f n hashes inside rest q z s few e at end kind piece place =
    let less : n < 256 = omega (arith, few) in
    as_found k f Unclosed n hashes inside rest q rest z e kind piece place
    (ended k n inside rest s less (found_walk k n hashes inside rest e at) end)

pub raw_spoiled : (k : Kind) (f : FlawKind) (n : ℕ) (hashes inside rest q z : List ℕ) (c : ℕ) (cs : List ℕ) → is_string
    k ≡ true → n ≤ 255 → hashes ≡ replicate n 35 → rest ≡ raw_stop k hashes inside → rest ≡ c ∷ cs → (c == 34 && begins
    hashes cs) ≡ false → f ≡ raw_character_flaw_of k c → q ≡ rest → z ≡ rest → FlawInside RawForm k f (hashes ++ (34 ∷
    inside)) q z
raw_spoiled k f n hashes inside rest q z c cs s few e at is no_closer kind piece place =
    let less : n < 256 = omega (arith, few) in
    let ends_raw_content = raw_halts k hashes inside cs c (sym at ∙ is) in
    as_found k f (raw_character_flaw_of k c) n hashes inside rest q rest z e kind piece place
    (spoiled k n inside rest s less (found_walk k n hashes inside rest e at) c cs is
    (not_held (c == 34 && begins hashes cs) (is_raw_character k c) no_closer ends_raw_content))
  where
    not_held : (a b : Bool) → a ≡ false → (a || not b) ≡ true → b ≡ false
    not_held true b n h = absurd (cc)
    not_held false true n h = absurd (cc)
    not_held false false n h = refl

pub raw_closed : (k : Kind) (f : FlawKind) (n : ℕ) (hashes inside rest suffix q z : List ℕ) (c : ℕ) (cs : List ℕ)
    → is_string k ≡ true → n ≤ 255 → hashes ≡ replicate n 35 → rest ≡ raw_stop k hashes inside → rest ≡ c ∷ cs → c ≡ 34
    → cs ≡ hashes ++ suffix → SuffixSpoiled RawForm f suffix z → q ≡ suffix_piece f rest suffix
    → FlawInside RawForm k f (hashes ++ (34 ∷ inside)) q z
raw_closed k f n hashes inside rest suffix q z c cs s few e at is quote more found piece =
    let less : n < 256 = omega (arith, few) in
    let text : rest ≡ 34 ∷ (replicate n 35 ++ suffix) = is ∙ ap (λ y. y ∷ cs) quote
    ∙ ap (λ y. 34 ∷ y) (more ∙ ap (λ y. y ++ suffix) e) in
    as_found k f f n hashes inside q q z z e refl refl refl
    (closed k n inside rest s less (found_walk k n hashes inside rest e at) f suffix q z text found piece)

-- ---- the flaw before the opening quote

-- If no hash follows `n` hashes, skipping hashes returns the text after the `n` hashes.
pub hash_run : (n : ℕ) (z : List ℕ) → first_passes is_hash z ≡ false → after_run is_hash (replicate n 35 ++ z) ≡ z
hash_run zero [] h = refl
hash_run zero (c ∷ cs) h = ap (λ b. cond b (after_run is_hash cs) (c ∷ cs)) h
hash_run (suc n) z h = hash_run n z h

-- After the prefix of a raw string, at most 255 hashes can be completed to a raw string: by two quotes and as many hashes.
hashes_begin : (k : Kind) (n : ℕ) → is_string k ≡ true → n < 256 → ClosesRaw k (replicate n 35
    ++ (34 ∷ (34 ∷ (replicate n 35 ++ []))))
unfolding is_strict_suffix
hashes_begin k n s few = raw_good k n (34 ∷ (replicate n 35 ++ [])) s few (raw_close k (replicate n 35) [])

hashes_stop : (k : Kind) (n : ℕ) (t rest : List ℕ) → is_string k ≡ true → n ≤ 255 → t ≡ replicate n 35 ++ rest
    → ((c : ℕ) (cs e : List ℕ) → rest ≡ c ∷ cs → ClosesRaw k (replicate n 35 ++ (c ∷ e)) → ⊥)
    → StopsBefore (ClosesForm RawForm k) t rest
hashes_stop k n t rest s few text stuck = record {
  front = replicate n 35;
  text_is = text;
  begins = record { ending = 34 ∷ (34 ∷ (replicate n 35 ++ [])); are_characters = (refl, (refl, hashes_characters n)); is_taken = hashes_begin k n s (omega (arith, few)) };
  stuck = stuck;
}

-- If a raw string's text ends after at most 255 hashes, the flaw at the text's end is `UnexpectedEnd`.
pub raw_unfinished : (k : Kind) (f : FlawKind) (n : ℕ) (t rest q z : List ℕ) → is_string k ≡ true → n ≤ 255 → t
    ≡ replicate n 35 ++ rest → rest ≡ [] → f ≡ UnexpectedEnd → q ≡ rest → z ≡ rest → FlawInside RawForm k f t q z
raw_unfinished k f n t rest q z s few text end kind piece place =
    let there : FlawInside RawForm k UnexpectedEnd t rest rest = record {
      stops = hashes_stop k n t rest s few text
          (λ c cs e h y. let bad_end : c ∷ cs ≡ [] = sym h ∙ end in absurd (cc));
      has = inl (
        record { hashes = n; text_is = text; no_hash = ap (first_passes is_hash) end; no_quote = ap (first_passes (λ c. c == 34)) end },
        end,
        refl,
      );
    } in
    same_flaw RawForm k f UnexpectedEnd t rest q rest z kind piece place there

-- If a raw string's hashes precede a character other than a quote, the flaw at the character is `NoQuote`.
pub raw_no_quote : (k : Kind) (f : FlawKind) (n : ℕ) (t rest q z cs : List ℕ) (c : ℕ) → is_string k ≡ true → n ≤ 255 → t
    ≡ replicate n 35 ++ rest → rest ≡ c ∷ cs → (c == 35) ≡ false → (c == 34) ≡ false → f ≡ NoQuote → q ≡ rest → z ≡ rest
    → FlawInside RawForm k f t q z
raw_no_quote k f n t rest q z cs c s few text is no_hash no_quote kind piece place =
    let there : FlawInside RawForm k NoQuote t rest rest = record {
      stops = hashes_stop k n t rest s few text stuck;
      has = inl (
        record { hashes = n; text_is = text; no_hash = ap (first_passes is_hash) is ∙ no_hash; no_quote = ap (first_passes (λ c. c == 34)) is ∙ no_quote },
        (λ e. let bad_end : c ∷ cs ≡ [] = sym is ∙ e in absurd (cc)),
        refl,
      );
    } in
    same_flaw RawForm k f NoQuote t rest q rest z kind piece place there
  where
    stuck : (d : ℕ) (ds e : List ℕ) → rest ≡ d ∷ ds → ClosesRaw k (replicate n 35 ++ (d ∷ e)) → ⊥
    stuck d ds e h y =
        let both : c ∷ cs ≡ d ∷ ds = sym is ∙ h in
        let same : c ≡ d = cc in
        let off : (d == 35) ≡ false = sym (ap (λ x. x == 35) same) ∙ no_hash in
        let quote : d ∷ e ≡ 34 ∷ y.rest = sym (hash_run n (d ∷ e) off) ∙ ap (after_run is_hash) y.text_is
        ∙ hashes_past y.hashes y.rest in
        both_ways (c == 34) no_quote (ap (λ x. x == 34) same ∙ ap (first_passes (λ x. x == 34)) quote)

-- If a raw string begins with more than 255 hashes, the flaw is `TooManyHashes`. The text to show for the flaw begins at the
-- first hash.
pub raw_many_hashes : (k : Kind) (f : FlawKind) (n : ℕ) (t rest q z cs : List ℕ) (c : ℕ) → is_string k ≡ true → n ≤ 255
    → t ≡ replicate n 35 ++ rest → (n < 255 → first_passes is_hash rest ≡ false) → rest ≡ c ∷ cs → (c == 35) ≡ true → f
    ≡ TooManyHashes → q ≡ t → z ≡ rest → FlawInside RawForm k f t q z
raw_many_hashes k f n t rest q z cs c s few text last is hash kind piece place =
    let begins_hash : first_passes is_hash rest ≡ true = ap (first_passes is_hash) is ∙ hash in
    let full : n ≡ 255 = go (cases_Bool (nat_lt n 255)) in
    let there : FlawInside RawForm k TooManyHashes t t rest = record {
      stops = hashes_stop k n t rest s few text stuck;
      has = inl (text ∙ ap (λ m. replicate m 35 ++ rest) full, begins_hash, refl);
    } in
    same_flaw RawForm k f TooManyHashes t t q rest z kind piece place there
  where
    go : (nat_lt n 255 ≡ true) ⊎ (nat_lt n 255 ≡ false) → n ≡ 255
    go (inl a) = absurd (both_ways (first_passes is_hash rest) (last (ltb-true n 255 a)) (ap (first_passes is_hash) is
        ∙ hash))
    go (inr a) = let more : 255 ≤ n = ltb-false n 255 a in omega arith

    stuck : (d : ℕ) (ds e : List ℕ) → rest ≡ d ∷ ds → ClosesRaw k (replicate n 35 ++ (d ∷ e)) → ⊥
    stuck d ds e h y =
        let both : c ∷ cs ≡ d ∷ ds = sym is ∙ h in
        let same : c ≡ d = cc in
        let at : d ≡ 35 = sym same ∙ eqb-true c 35 hash in
        let many = many_hashes n y.hashes e y.rest (ap (λ x. replicate n 35 ++ (x ∷ e)) (sym at) ∙ y.text_is) in
        let less = y.few in
        let full = go (cases_Bool (nat_lt n 255)) in
        absurd (omega (arith, many, less, full))

-- ---- whether the raw string is closed, by the result of the code

closing_text : (n : ℕ) (hashes rest suffix cs : List ℕ) (c : ℕ) → hashes ≡ replicate n 35 → rest ≡ c ∷ cs → c ≡ 34 → cs
    ≡ hashes ++ suffix → rest ≡ 34 ∷ (replicate n 35 ++ suffix)
closing_text n hashes rest suffix cs c e is quote more = is ∙ ap (λ y. y ∷ cs) quote
    ∙ ap (λ y. 34 ∷ y) (more ∙ ap (λ y. y ++ suffix) e)

pub raw_closes : (k : Kind) (n : ℕ) (hashes inside rest suffix : List ℕ) (c : ℕ) (cs : List ℕ) → is_string k ≡ true
    → n ≤ 255 → hashes ≡ replicate n 35 → rest ≡ raw_stop k hashes inside → rest ≡ c ∷ cs → c ≡ 34 → cs
    ≡ hashes ++ suffix → is_strict_suffix suffix ≡ true → ClosesRaw k (hashes ++ (34 ∷ inside))
raw_closes k n hashes inside rest suffix c cs s few e at is quote more h =
    let less : n < 256 = omega (arith, few) in
    let w = found_walk k n hashes inside rest e at in
    let text = closing_text n hashes rest suffix cs c e is quote more in
    subst (ClosesRaw k) (sym (ap (λ y. y ++ (34 ∷ inside)) e ∙ cut k n inside rest s less w
    ∙ ap (λ z. before k n inside rest s less w ++ z) text)) (closed_at k n inside rest s less w suffix h)

pub raw_off : (k : Kind) (n : ℕ) (hashes inside rest suffix : List ℕ) (c : ℕ) (cs : List ℕ) → is_string k ≡ true
    → n ≤ 255 → hashes ≡ replicate n 35 → rest ≡ raw_stop k hashes inside → rest ≡ c ∷ cs → c ≡ 34 → cs
    ≡ hashes ++ suffix → is_strict_suffix suffix ≡ false → ClosesRaw k (hashes ++ (34 ∷ inside)) → ⊥
raw_off k n hashes inside rest suffix c cs s few e at is quote more h y =
    let less : n < 256 = omega (arith, few) in
    let w = found_walk k n hashes inside rest e at in
    let text = closing_text n hashes rest suffix cs c e is quote more in
    bad k n inside rest s less w (34 ∷ (replicate n 35 ++ suffix)) refl (raw_close k (replicate n 35) suffix ∙ h)
    (subst (ClosesRaw k) (ap (λ y. y ++ (34 ∷ inside)) e ∙ cut k n inside rest s less w
    ∙ ap (λ z. before k n inside rest s less w ++ z) text) y)

pub raw_end_none : (k : Kind) (n : ℕ) (hashes inside rest : List ℕ) → is_string k ≡ true → n ≤ 255 → hashes
    ≡ replicate n 35 → rest ≡ raw_stop k hashes inside → rest ≡ [] → ClosesRaw k (hashes ++ (34 ∷ inside)) → ⊥
unfolding ends_raw
raw_end_none k n hashes inside rest s few e at end y =
    let less : n < 256 = omega (arith, few) in
    let w = found_walk k n hashes inside rest e at in
    bad k n inside rest s less w [] refl refl
    (subst (ClosesRaw k) (ap (λ y. y ++ (34 ∷ inside)) e ∙ cut k n inside rest s less w
    ∙ ap (λ z. before k n inside rest s less w ++ z) end) y)

-- The content of a raw string is the text between the opening quote and the position where the loop over the content stops.
-- The content has only allowed characters.
pub raw_body : (k : Kind) (n : ℕ) (hashes inside rest : List ℕ) → hashes ≡ replicate n 35 → rest
    ≡ raw_stop k hashes inside → (body : List ℕ) × (inside ≡ body ++ rest) × (list_all (is_raw_character k) body ≡ true)
raw_body k n hashes inside rest e at =
    let w = found_walk k n hashes inside rest e at in
    (w.body, w.text_is, w.each)
