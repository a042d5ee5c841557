-- The position where the valid content of a quoted literal ends, and the reason. In a file, CR LF is read as LF.
use Rattle.rl_strict.proofs.Names.{◌≡◌, ◌≢◌, ℕ, ◌<◌, ◌≤◌, true, false, not, ◌==◌, ◌&&◌, ◌||◌, List, [], ◌∷◌, ◌++◌, Some, None, refl, sym, ap, subst, ◌∙◌, and_from, begins_front, both_ways, or_from, or_left, or_right, list_all, option_map, replicate, is_apostrophe, Kind, first_passes, is_hash, is_plain, is_single, is_string, begins, apart, is_some_text, QuotedForm, CookedForm, RawForm, SingleForm, BeginsStrictUnits, is_inside, is_raw_character, is_strict_suffix, unit_rest, ClosesForm, FlawKind, TextAfterQuote, ExtraHash, NoQuote, TooManyHashes, TwoCharacters, Unclosed, UnexpectedEnd, LineEnds, Text, File, chars, IsRestOf, StopsAsRead, read_of, StopsIn, suffix_piece, raw_character_flaw_of, raw_stop, strict_unit_flaw_at, suffix_read_at, FoundFlaw, found_flaw, end_flaw_at}
use Rattle.rl_strict.proofs.StrictUnitRows.{row_join, row_none}
use Rattle.rl_lenient.proofs.PlainLemmas.{no_run, one_run}
use Rattle.rl_strict.specs.declared.flaws.FlawAt.{FlawAt}
use Rattle.rl_strict.proofs.FileTextLemmas.{lacks_cr}
use Rattle.rl_strict.proofs.FileUnits.{bare_in, bare_row, hashes_free, inside_free}
use Rattle.rl_strict.proofs.EndLemmas.{closer_of, end_of, first_of, form_in, free_in, free_of, loose, nil_of, read_flaw, self_in, single_of, some_text_of, step_in, stuck_of, suffix_in, suffix_of, unit_flaw_of, unit_in}
use Rattle.rl_strict.proofs.ReadQuoted.{cooked_open, cooked_suffix, empty_rest, judged_by, plain_row, raw_ending, raw_going, raw_unopened_none, single_closes, single_open_stops, single_suffix, single_unquoted_stops, not_string}
use Rattle.rl_strict.proofs.StrictCookedFlaws.{cooked_closes, no_front}
use Rattle.rl_strict.proofs.StrictRawFlaws.{raw_closed, raw_closes, raw_end_none, raw_ended, raw_many_hashes, raw_no_quote, raw_off, raw_spoiled, raw_unfinished, walk_halt, walk_on, walk_past}
use Rattle.rl_strict.proofs.StrictSuffixFlaws.{Judges}
use Rattle.rl_strict.proofs.StrictRowLemmas.{quote_stops}

-- Converts a flaw that the code returned to its kind and the text that begins at the flaw.
abbrev pub flaw_of : FlawAt → FoundFlaw
flaw_of f = found_flaw f.kind (chars f.rest.now)

-- Converts a flaw that the code returned to its kind and the text that begins at the flaw. In a file, CR LF is read as LF in
-- the text.
abbrev pub flaw_read : LineEnds → FlawAt → FoundFlaw
flaw_read how f = found_flaw f.kind (read_of how (chars f.rest.now))

-- ---- the text after the closing delimiter

-- A text after a closing delimiter in which the code finds no flaw is a suffix, also with CR LF read as LF.
judged_none : (how : LineEnds) (form : QuotedForm) (t : List ℕ) → None ≡ suffix_read_at form t → Judges form (read_of how t) None
judged_none how form t e = judged_by form (read_of how t) None (sym (suffix_of how form t ∙ ap (option_map (read_flaw how)) (sym e)))

judged_some : (how : LineEnds) (form : QuotedForm) (t : List ℕ) (f : FoundFlaw) → Some f ≡ suffix_read_at form t
    → Judges form (read_of how t) (Some (read_flaw how f))
judged_some how form t f e = judged_by form (read_of how t) (Some (read_flaw how f))
    (sym (suffix_of how form t ∙ ap (option_map (read_flaw how)) (sym e)))

piece_read : (how : LineEnds) (k : FlawKind) (closing suffix : List ℕ) → read_of how (suffix_piece k closing suffix)
    ≡ suffix_piece k (read_of how closing) (read_of how suffix)
piece_read how ExtraHash closing suffix = refl
piece_read how k closing suffix = refl

pub piece_place : (how : LineEnds) (k : FlawKind) (closing suffix : List ℕ) → IsRestOf how closing suffix
    → IsRestOf how closing (suffix_piece k closing suffix)
piece_place how ExtraHash closing suffix r = self_in how closing
piece_place how TextAfterQuote closing suffix r = self_in how closing
piece_place how k closing suffix r = r

-- A flaw after the closing delimiter of a literal is the flaw of the whole text. In a file, CR LF is read as LF.
after_closer : (how : LineEnds) (form : QuotedForm) (k : Kind) (whole t closing suffix : List ℕ) (f : FlawAt) → IsRestOf
    how t closing → IsRestOf how closing suffix → Some (flaw_of f) ≡ suffix_read_at form suffix → chars f.piece.now ≡
    suffix_piece f.kind closing suffix → (Judges form (read_of how suffix) (Some (flaw_read how f)) → read_of how (chars
    f.piece.now) ≡ suffix_piece f.kind (read_of how closing) (read_of how suffix) → StopsIn form k f.kind whole (read_of
    how (chars f.piece.now)) (read_of how (chars f.rest.now))) → StopsAsRead how form k f.kind whole t (chars
    f.piece.now) (chars f.rest.now)
after_closer how form k whole t closing suffix f r q e piece says = record {
  stops = says (judged_some how form suffix (flaw_of f) e) (ap (read_of how) piece ∙ piece_read how f.kind closing suffix);
  piece_in = step_in how t closing (chars f.piece.now) r
      (subst (IsRestOf how closing) (sym piece) (piece_place how f.kind closing suffix q));
  rest_in = step_in how t closing (chars f.rest.now) r
      (step_in how closing suffix (chars f.rest.now) q (suffix_in how form suffix (flaw_of f) e));
}

-- A text that begins with a quote still begins with the quote after CR LF is read as LF. The text after the quote doesn't
-- begin between a CR and its LF.
pub quote_read : (how : LineEnds) (t suffix : List ℕ) (q : ℕ) → t ≡ q ∷ suffix → (q == 13) ≡ false → (read_of how t ≡ q ∷ read_of how suffix)
    × IsRestOf how t suffix
quote_read how t suffix q e h =
    let free : lacks_cr (q ∷ []) ≡ true = ap (λ b. not b && true) h in
    (ap (read_of how) e ∙ free_of how (q ∷ []) suffix free, (free_in how) t (q ∷ []) suffix e free)

-- ---- a string with escapes

pub cooked_good : (how : LineEnds) (k : Kind) (t closing suffix : List ℕ) → is_string k ≡ true
    → BeginsStrictUnits k (read_of how t) (read_of how closing) → closing ≡ 34 ∷ suffix
    → None ≡ suffix_read_at CookedForm suffix → ClosesForm CookedForm k (read_of how t)
cooked_good how k t closing suffix s run quote e = cooked_closes k (read_of how t) (read_of how closing)
    (read_of how suffix) s run (quote_read how closing suffix 34 quote refl).0 (judged_none how CookedForm suffix e)

pub cooked_bad : (how : LineEnds) (k : Kind) (t closing suffix : List ℕ) (f : FlawAt) → is_string k ≡ true
    → BeginsStrictUnits k (read_of how t) (read_of how closing) → IsRestOf how t closing → closing ≡ 34 ∷ suffix
    → Some (flaw_of f) ≡ suffix_read_at CookedForm suffix → chars f.piece.now ≡ suffix_piece f.kind closing suffix
    → StopsAsRead how CookedForm k f.kind (read_of how t) t (chars f.piece.now) (chars f.rest.now)
cooked_bad how k t closing suffix f s run r quote e piece =
    let q = quote_read how closing suffix 34 quote refl in
    after_closer how CookedForm k (read_of how t) t closing suffix f r q.1 e piece (λ judged is. cooked_suffix k f.kind
    (read_of how t) (read_of how closing) (read_of how suffix) (read_of how (chars f.piece.now))
    (read_of how (chars f.rest.now)) s run q.0 judged is)

-- If a text doesn't begin with a quote, it doesn't begin with a quote after CR LF is read as LF either.
unquoted_read : (how : LineEnds) (q : ℕ) (t : List ℕ) → (13 == q) ≡ (10 == q) → (q == q) ≡ true → ((x : List ℕ) → t ≢ q ∷ x)
    → (x : List ℕ) → read_of how t ≢ q ∷ x
unquoted_read how q t h same none x e = both_ways (first_passes (λ c. c == q) (read_of how t))
    (first_of how (λ c. c == q) h t ∙ no_front q t none) (ap (first_passes (λ c. c == q)) e ∙ same)

pub cooked_stuck : (how : LineEnds) (k : Kind) (f : FlawKind) (t closing piece rest : List ℕ) → is_string k ≡ true
    → BeginsStrictUnits k (read_of how t) (read_of how closing) → IsRestOf how t closing → unit_rest k (read_of how closing) ≡ None
    → ((x : List ℕ) → closing ≢ 34 ∷ x) → found_flaw f rest ≡ strict_unit_flaw_at k closing → piece ≡ closing
    → StopsAsRead how CookedForm k f (read_of how t) t piece rest
cooked_stuck how k f t closing piece rest s run r stuck none same is =
    let alone = cooked_open k f closing closing closing rest s (row_none k closing) (stuck_of how k closing s stuck) none
    same refl in
    record {
      stops = cooked_open k f (read_of how t) (read_of how closing) (read_of how piece) (read_of how rest) s run stuck
          (unquoted_read how 34 closing refl refl none)
          (ap (read_flaw how) same ∙ sym (unit_flaw_of how k closing (λ h. stuck))) (ap (read_of how) is);
      piece_in = subst (IsRestOf how t) (sym is) r;
      rest_in = step_in how t closing rest r (form_in how CookedForm k closing rest s alone.stops);
    }

-- ---- a character or byte literal

pub single_good : (how : LineEnds) (k : Kind) (t closing suffix : List ℕ) → is_single k ≡ true → unit_rest k t ≡ Some
    closing → closing ≡ 39 ∷ suffix → None ≡ suffix_read_at SingleForm suffix → ClosesForm SingleForm k (read_of how t)
single_good how k t closing suffix s unit quote e = single_closes k (read_of how t) (read_of how closing)
    (read_of how suffix) s (single_of how k t s ∙ ap (option_map (read_of how)) unit)
    (quote_read how closing suffix 39 quote refl).0 (judged_none how SingleForm suffix e)

pub single_bad : (how : LineEnds) (k : Kind) (t closing suffix : List ℕ) (f : FlawAt) → is_single k ≡ true
    → unit_rest k t ≡ Some closing → closing ≡ 39 ∷ suffix → Some (flaw_of f) ≡ suffix_read_at SingleForm suffix
    → chars f.piece.now ≡ suffix_piece f.kind closing suffix
    → StopsAsRead how SingleForm k f.kind (read_of how t) t (chars f.piece.now) (chars f.rest.now)
single_bad how k t closing suffix f s unit quote e piece =
    let q = quote_read how closing suffix 39 quote refl in
    after_closer how SingleForm k (read_of how t) t closing suffix f (unit_in how k t closing s unit) q.1 e piece
    (λ judged is. single_suffix k f.kind (read_of how t) (read_of how closing) (read_of how suffix)
    (read_of how (chars f.piece.now)) (read_of how (chars f.rest.now)) s
    (single_of how k t s ∙ ap (option_map (read_of how)) unit) q.0 judged is)

pub single_stuck : (how : LineEnds) (k : Kind) (f : FlawKind) (t piece rest : List ℕ) → is_single k ≡ true → unit_rest k t ≡ None
    → found_flaw f rest ≡ strict_unit_flaw_at k t → piece ≡ t → StopsAsRead how SingleForm k f (read_of how t) t piece rest
single_stuck how k f t piece rest s none same is = record {
  stops = single_open_stops k f (read_of how t) (read_of how piece) (read_of how rest) s
      (single_of how k t s ∙ ap (option_map (read_of how)) none)
      (ap (read_flaw how) same ∙ sym (unit_flaw_of how k t (λ h. absurd (both_ways (is_string k) (not_string k s) h))))
      (ap (read_of how) is);
  piece_in = subst (IsRestOf how t) (sym is) (self_in how t);
  rest_in = form_in how SingleForm k t rest s (single_open_stops k f t piece rest s none same is).stops;
}

pub end_place : (a b : FlawKind) (t : List ℕ) → (end_flaw_at a b t).1 ≡ t
end_place a b [] = refl
end_place a b (c ∷ cs) = refl

pub single_unclosed : (how : LineEnds) (k : Kind) (f : FlawKind) (t closing piece rest : List ℕ) → is_single k ≡ true
    → unit_rest k t ≡ Some closing → ((x : List ℕ) → closing ≢ 39 ∷ x) → found_flaw f rest
    ≡ end_flaw_at Unclosed TwoCharacters closing → piece ≡ t → StopsAsRead how SingleForm k f (read_of how t) t piece rest
single_unclosed how k f t closing piece rest s unit none same is = record {
  stops = single_unquoted_stops k f (read_of how t) (read_of how closing) (read_of how piece) (read_of how rest) s
      (single_of how k t s ∙ ap (option_map (read_of how)) unit) (unquoted_read how 39 closing refl refl none)
      (ap (read_flaw how) same ∙ sym (end_of how Unclosed TwoCharacters closing)) (ap (read_of how) is);
  piece_in = subst (IsRestOf how t) (sym is) (self_in how t);
  rest_in = subst (IsRestOf how t) (sym (ap (λ (z : FoundFlaw). z.1) same ∙ end_place Unclosed TwoCharacters closing))
      (unit_in how k t closing s unit);
}

-- ---- a raw string

-- The hashes of a raw string don't change if CR LF is read as LF, and the text after them doesn't begin between a CR and an
-- LF.
pub hashes_text : (how : LineEnds) (n : ℕ) (t rest : List ℕ) → t ≡ replicate n 35 ++ rest → (read_of how t ≡ replicate n 35 ++ read_of how rest)
    × IsRestOf how t rest
hashes_text how n t rest e = (
  ap (read_of how) e ∙ free_of how (replicate n 35) rest (hashes_free n),
  (free_in how) t (replicate n 35) rest e (hashes_free n),
)

-- Reading CR LF as LF in hashes followed by a suffix changes only the suffix.
closer_text : (how : LineEnds) (n : ℕ) (hashes after suffix : List ℕ) → hashes ≡ replicate n 35 → after ≡ hashes ++ suffix
    → read_of how after ≡ hashes ++ read_of how suffix
closer_text how n hashes after suffix h e = ap (read_of how) e ∙ free_of how hashes suffix (ap lacks_cr h ∙ hashes_free n)

pub raw_suffix_in : (how : LineEnds) (n : ℕ) (hashes closing after suffix : List ℕ) → hashes ≡ replicate n 35
    → IsRestOf how closing after → after ≡ hashes ++ suffix → IsRestOf how closing suffix
raw_suffix_in how n hashes closing after suffix h r e = step_in how closing after suffix r
    (free_in how after hashes suffix e (ap lacks_cr h ∙ hashes_free n))

pub raw_good : (how : LineEnds) (k : Kind) (n c : ℕ) (hashes t closing after suffix : List ℕ) → is_string k ≡ true
    → n ≤ 255 → hashes ≡ replicate n 35 → read_of how closing ≡ raw_stop k hashes (read_of how t)
    → read_of how closing ≡ c ∷ read_of how after → c ≡ 34 → after ≡ hashes ++ suffix
    → None ≡ suffix_read_at RawForm suffix → ClosesForm RawForm k (hashes ++ (34 ∷ read_of how t))
raw_good how k n c hashes t closing after suffix s few h at is c_is text flaw = raw_closes k n hashes (read_of how t)
    (read_of how closing) (read_of how suffix) c (read_of how after) s few h at is c_is
    (closer_text how n hashes after suffix h text) (judged_none how RawForm suffix flaw)

-- Reading CR LF as LF in a raw string's closing delimiter and suffix changes only the suffix.
pub raw_quote : (how : LineEnds) (n c : ℕ) (hashes closing after suffix : List ℕ) → hashes ≡ replicate n 35
    → read_of how closing ≡ c ∷ read_of how after → c ≡ 34 → after ≡ hashes ++ suffix
    → read_of how closing ≡ 34 ∷ (hashes ++ read_of how suffix)
raw_quote how n c hashes closing after suffix h is c_is text = is ∙ ap (λ z. z ∷ read_of how after) c_is
    ∙ ap (λ z. 34 ∷ z) (closer_text how n hashes after suffix h text)

pub good_suffix : (how : LineEnds) (form : QuotedForm) (suffix : List ℕ) → None ≡ suffix_read_at form suffix
    → is_strict_suffix (read_of how suffix) ≡ true
good_suffix how form suffix flaw = judged_none how form suffix flaw

pub raw_bad : (how : LineEnds) (k : Kind) (n c : ℕ) (hashes t closing after suffix : List ℕ) (f : FlawAt) → is_string k
    ≡ true → n ≤ 255 → hashes ≡ replicate n 35 → read_of how closing ≡ raw_stop k hashes (read_of how t) → IsRestOf how
    t closing → read_of how closing ≡ c ∷ read_of how after → IsRestOf how closing after → c ≡ 34 → after ≡ hashes ++
    suffix → Some (flaw_of f) ≡ suffix_read_at RawForm suffix → chars f.piece.now ≡ suffix_piece f.kind closing suffix →
    StopsAsRead how RawForm k f.kind (hashes ++ (34 ∷ read_of how t)) t (chars f.piece.now) (chars f.rest.now)
raw_bad how k n c hashes t closing after suffix f s few h at r is more c_is text flaw piece =
    after_closer how RawForm k (hashes ++ (34 ∷ read_of how t)) t closing suffix f r
    (raw_suffix_in how n hashes closing after suffix h more text) flaw piece (λ judged as_read.
    let back = closer_text how n hashes after suffix h text in
    let none = raw_off k n hashes (read_of how t) (read_of how closing) (read_of how suffix) c (read_of how after) s few
    h at is c_is back judged.0 in
    raw_ending k f.kind (hashes ++ (34 ∷ read_of how t)) (read_of how (chars f.piece.now))
    (read_of how (chars f.rest.now)) none (raw_closed k f.kind n hashes (read_of how t) (read_of how closing)
    (read_of how suffix) (read_of how (chars f.piece.now)) (read_of how (chars f.rest.now)) c (read_of how after) s
    few h at is c_is back judged.1 as_read))

-- If a text doesn't begin with the closing delimiter of a raw string, it doesn't begin with this delimiter after CR LF is
-- read as LF either.
pub no_closer_read : (how : LineEnds) (n c : ℕ) (hashes after : List ℕ) → hashes ≡ replicate n 35
    → (c == 34 && begins hashes after) ≡ false → (c == 34 && begins hashes (read_of how after)) ≡ false
no_closer_read how n c hashes after h e = ap (λ b. c == 34 && b) (closer_of how n hashes after h) ∙ e

-- If a raw string's text ends before a closing delimiter, the flaw at the text's end is `Unclosed`. In a file, CR LF is read
-- as LF.
pub raw_unclosed : (how : LineEnds) (k : Kind) (f : FlawKind) (n : ℕ) (hashes t closing piece rest : List ℕ)
    → is_string k ≡ true → n ≤ 255 → hashes ≡ replicate n 35 → read_of how closing ≡ raw_stop k hashes (read_of how t)
    → IsRestOf how t closing → closing ≡ [] → f ≡ Unclosed → piece ≡ closing → rest ≡ closing
    → StopsAsRead how RawForm k f (hashes ++ (34 ∷ read_of how t)) t piece rest
raw_unclosed how k f n hashes t closing piece rest s few h at r end kind is place =
    let whole = hashes ++ (34 ∷ read_of how t) in
    let over = nil_of how closing end in
    record {
      stops = raw_ending k f whole (read_of how piece) (read_of how rest)
          (raw_end_none k n hashes (read_of how t) (read_of how closing) s few h at over)
          (raw_ended k f n hashes (read_of how t) (read_of how closing) (read_of how piece) (read_of how rest) s few h at over
          kind (ap (read_of how) is) (ap (read_of how) place));
      piece_in = subst (IsRestOf how t) (sym is) r;
      rest_in = subst (IsRestOf how t) (sym place) r;
    }

-- If a raw string contains a character that isn't allowed, the flaw is at this character. In a file, CR LF is read as LF.
pub raw_held : (how : LineEnds) (k : Kind) (f : FlawKind) (n c : ℕ) (hashes t closing after piece rest : List ℕ)
    → is_string k ≡ true → n ≤ 255 → hashes ≡ replicate n 35 → read_of how closing ≡ raw_stop k hashes (read_of how t)
    → IsRestOf how t closing → read_of how closing ≡ c ∷ read_of how after → (c == 34 && begins hashes after) ≡ false
    → f ≡ raw_character_flaw_of k c → piece ≡ closing → rest ≡ closing
    → StopsAsRead how RawForm k f (hashes ++ (34 ∷ read_of how t)) t piece rest
raw_held how k f n c hashes t closing after piece rest s few h at r more none kind is place =
    let whole = hashes ++ (34 ∷ read_of how t) in
    record {
      stops = raw_going k f whole (read_of how piece) (read_of how rest) (read_of how after) c
          (ap (read_of how) place ∙ more) (raw_spoiled k f n hashes (read_of how t) (read_of how closing)
          (read_of how piece) (read_of how rest) c (read_of how after) s few h at more
          (no_closer_read how n c hashes after h none) kind (ap (read_of how) is) (ap (read_of how) place));
      piece_in = subst (IsRestOf how t) (sym is) r;
      rest_in = subst (IsRestOf how t) (sym place) r;
    }

-- If a raw string's text ends after at most 255 hashes, the flaw at the text's end is `UnexpectedEnd`. In a file, CR LF is
-- read as LF.
pub raw_short : (how : LineEnds) (k : Kind) (f : FlawKind) (n : ℕ) (t after piece rest : List ℕ) → is_string k ≡ true → n ≤ 255
    → t ≡ replicate n 35 ++ after → after ≡ [] → f ≡ UnexpectedEnd → piece ≡ after → rest ≡ after
    → StopsAsRead how RawForm k f (read_of how t) t piece rest
raw_short how k f n t after piece rest s few e end kind is place =
    let text = hashes_text how n t after e in
    record {
      stops = raw_ending k f (read_of how t) (read_of how piece) (read_of how rest)
          (raw_unopened_none k n (read_of how t) (read_of how after) text.0 (nil_of how after end))
          (raw_unfinished k f n (read_of how t) (read_of how after) (read_of how piece) (read_of how rest) s few text.0 (nil_of how after end)
          kind (ap (read_of how) is) (ap (read_of how) place));
      piece_in = subst (IsRestOf how t) (sym is) text.1;
      rest_in = subst (IsRestOf how t) (sym place) text.1;
    }

-- If a raw string begins with more than 255 hashes, the flaw is `TooManyHashes`. In a file, CR LF is read as LF.
pub raw_many : (how : LineEnds) (k : Kind) (f : FlawKind) (n c : ℕ) (t after more piece rest : List ℕ) → is_string k ≡ true → n ≤ 255
    → t ≡ replicate n 35 ++ after → (n < 255 → first_passes is_hash after ≡ false) → after ≡ c ∷ more
    → (c == 35) ≡ true → f ≡ TooManyHashes → piece ≡ t → rest ≡ after → StopsAsRead how RawForm k f (read_of how t) t piece rest
raw_many how k f n c t after more piece rest s few e last is_more hash kind is place =
    let text = hashes_text how n t after e in
    let first = (quote_read how after more c is_more (apart (λ z. z == 35) c 13 hash refl)).0 in
    record {
      stops = raw_going k f (read_of how t) (read_of how piece) (read_of how rest) (read_of how more) c (ap (read_of how) place ∙ first)
          (raw_many_hashes k f n (read_of how t) (read_of how after) (read_of how piece) (read_of how rest) (read_of how more) c s few text.0
          (λ h. first_of how is_hash refl after ∙ last h) first hash kind (ap (read_of how) is) (ap (read_of how) place));
      piece_in = subst (IsRestOf how t) (sym is) (self_in how t);
      rest_in = subst (IsRestOf how t) (sym place) text.1;
    }

-- A nonempty text has a first character.
front_some : (r : List ℕ) → is_some_text r ≡ true → (c : ℕ) × (cs : List ℕ) × (r ≡ c ∷ cs)
front_some [] h = absurd (both_ways false refl h)
front_some (c ∷ cs) h = (c, cs, refl)

pub raw_bare : (how : LineEnds) (k : Kind) (f : FlawKind) (n c : ℕ) (t after more piece rest : List ℕ) → is_string k ≡ true → n ≤ 255
    → t ≡ replicate n 35 ++ after → after ≡ c ∷ more → (c == 35) ≡ false → (c == 34) ≡ false → f ≡ NoQuote
    → piece ≡ after → rest ≡ after → StopsAsRead how RawForm k f (read_of how t) t piece rest
raw_bare how k f n c t after more piece rest s few e is_more hash quote kind is place =
    let text = hashes_text how n t after e in
    let found = front_some (read_of how after) (some_text_of how after ∙ ap is_some_text is_more) in
    let first = found.2 in
    let no_hash : (found.0 == 35) ≡ false = sym (ap (first_passes (λ z. z == 35)) first)
    ∙ first_of how (λ z. z == 35) refl after ∙ ap (first_passes (λ z. z == 35)) is_more ∙ hash in
    let no_quote : (found.0 == 34) ≡ false = sym (ap (first_passes (λ z. z == 34)) first)
    ∙ first_of how (λ z. z == 34) refl after ∙ ap (first_passes (λ z. z == 34)) is_more ∙ quote in
    record {
      stops = raw_going k f (read_of how t) (read_of how piece) (read_of how rest) found.1 found.0 (ap (read_of how) place ∙ first)
          (raw_no_quote k f n (read_of how t) (read_of how after) (read_of how piece) (read_of how rest) found.1 found.0 s few text.0
          first no_hash no_quote kind (ap (read_of how) is) (ap (read_of how) place));
      piece_in = subst (IsRestOf how t) (sym is) text.1;
      rest_in = subst (IsRestOf how t) (sym place) text.1;
    }

-- ---- sequences of characters

-- If a string's text begins with plain characters, it begins with a sequence of valid characters of Rust's grammar. In a
-- file, CR LF is read as LF.
pub run_of : (how : LineEnds) (k : Kind) (t run rest : List ℕ) → is_string k ≡ true → t ≡ run ++ rest
    → list_all (is_plain k) run ≡ true → BeginsStrictUnits k (read_of how t) (read_of how rest)
run_of Text k t run rest s e h = plain_row k t run rest s e h
run_of File k t run rest s e h = bare_row k t run rest s e h

pub run_in : (how : LineEnds) (k : Kind) (t run rest : List ℕ) → is_string k ≡ true → t ≡ run ++ rest
    → list_all (is_plain k) run ≡ true → IsRestOf how t rest
run_in Text k t run rest s e h = loose t rest (bare_in k t run rest s e h)
run_in File k t run rest s e h = bare_in k t run rest s e h

pub units_of : (how : LineEnds) (k : Kind) (t run following closing : List ℕ) → is_string k ≡ true → t ≡ run ++ following
    → list_all (is_plain k) run ≡ true → BeginsStrictUnits k (read_of how following) (read_of how closing)
    → BeginsStrictUnits k (read_of how t) (read_of how closing)
units_of how k t run following closing s e h more = row_join k (read_of how t) (read_of how following)
    (read_of how closing) (run_of how k t run following s e h) more

pub units_in : (how : LineEnds) (k : Kind) (t run following closing : List ℕ) → is_string k ≡ true → t ≡ run ++ following
    → list_all (is_plain k) run ≡ true → IsRestOf how following closing → IsRestOf how t closing
units_in how k t run following closing s e h more = step_in how t following closing (run_in how k t run following s e h) more

-- If a quote follows a raw string's hashes, the text is the hashes, the quote, and the text after the quote.
pub opened_text : (t hashes rest opened : List ℕ) (c : ℕ) → t ≡ hashes ++ rest → rest ≡ c ∷ opened → c ≡ 34
    → t ≡ hashes ++ (34 ∷ opened)
opened_text t hashes rest opened c text is quote = text ∙ ap (λ z. hashes ++ z) (is ∙ ap (λ z. z ∷ opened) quote)

-- If plain characters precede `rest` in a text, any text `body` before `rest` contains only plain characters.
pub plain_run : (k : Kind) (t run rest : List ℕ) → t ≡ run ++ rest → list_all (is_plain k) run ≡ true → (body : List ℕ)
    → t ≡ body ++ rest → true ≡ list_all (is_plain k) body
plain_run k t run rest text each body cut = one_run (is_plain k) body run rest (sym cut ∙ text) each

pub plain_not : (how : LineEnds) (k : Kind) (t run following rest : List ℕ) (r : IsRestOf how following rest)
    → t ≡ run ++ following → first_passes (is_plain k) following ≡ false → (following ≡ rest → ⊥) → (body : List ℕ)
    → t ≡ body ++ rest → false ≡ list_all (is_plain k) body
plain_not how k t run following rest r text stops more body cut = no_run (is_plain k) body run following rest r.front
    (sym cut ∙ text) r.text_is stops more

-- The hashes and the opening quote of a raw string don't change if CR LF is read as LF.
pub opened_read : (how : LineEnds) (n : ℕ) (hashes inside opened : List ℕ) → hashes ≡ replicate n 35
    → inside ≡ hashes ++ (34 ∷ opened) → read_of how inside ≡ hashes ++ (34 ∷ read_of how opened)
opened_read how n hashes inside opened h e = ap (read_of how) e ∙ free_of how hashes (34 ∷ opened) (ap lacks_cr h ∙
    hashes_free n) ∙ ap (λ z. hashes ++ z) (quote_read how (34 ∷ opened) opened 34 refl refl).0

pub opened_in : (how : LineEnds) (n : ℕ) (hashes inside opened rest : List ℕ) → hashes ≡ replicate n 35
    → inside ≡ hashes ++ (34 ∷ opened) → IsRestOf how opened rest → IsRestOf how inside rest
opened_in how n hashes inside opened rest h e r = step_in how inside (34 ∷ opened) rest
    (free_in how inside hashes (34 ∷ opened) e (ap lacks_cr h ∙ hashes_free n))
    (step_in how (34 ∷ opened) opened rest (quote_read how (34 ∷ opened) opened 34 refl refl).1 r)

pub opened_stops : (how : LineEnds) (k : Kind) (f : FlawKind) (n : ℕ) (hashes inside opened piece rest : List ℕ) →
    hashes ≡ replicate n 35 → inside ≡ hashes ++ (34 ∷ opened) → StopsAsRead how RawForm k f (hashes ++ (34 ∷ read_of
    how opened)) opened piece rest → StopsAsRead how RawForm k f (read_of how inside) inside piece rest
opened_stops how k f n hashes inside opened piece rest h e s = record {
  stops = subst (λ z. StopsIn RawForm k f z (read_of how piece) (read_of how rest))
      (sym (opened_read how n hashes inside opened h e)) s.stops;
  piece_in = opened_in how n hashes inside opened piece h e s.piece_in;
  rest_in = opened_in how n hashes inside opened rest h e s.rest_in;
}

pub opened_closes : (how : LineEnds) (k : Kind) (n : ℕ) (hashes inside opened : List ℕ) → hashes ≡ replicate n 35
    → inside ≡ hashes ++ (34 ∷ opened) → ClosesForm RawForm k (hashes ++ (34 ∷ read_of how opened))
    → ClosesForm RawForm k (read_of how inside)
opened_closes how k n hashes inside opened h e c = subst (ClosesForm RawForm k)
    (sym (opened_read how n hashes inside opened h e)) c

-- ---- the flaws at the end of the valid content

pub quote_stuck : (how : LineEnds) (k : Kind) (t suffix : List ℕ) → is_string k ≡ true → t ≡ 34 ∷ suffix
    → unit_rest k (read_of how t) ≡ None
quote_stuck how k t suffix s e = ap (unit_rest k) (quote_read how t suffix 34 e refl).0
    ∙ quote_stops k (read_of how suffix) s

pub unit_over : (k : Kind) (f : FlawKind) (t rest : List ℕ) → found_flaw f rest ≡ strict_unit_flaw_at k t → t ≡ []
    → f ≡ Unclosed
unfolding strict_unit_flaw_at
unit_over k f t rest e over = ap (λ (z : FoundFlaw). z.0) (e ∙ ap (strict_unit_flaw_at k) over)

pub some_front : (how : LineEnds) (t : List ℕ) (c : ℕ) (cs : List ℕ) → read_of how t ≡ c ∷ cs → t ≡ [] → ⊥
some_front how t c cs e over =
    let both : [] ≡ c ∷ cs = sym (nil_of how t over) ∙ e in
    absurd (cc)

pub no_unit : (k : Kind) (t : List ℕ) → unit_rest k t ≡ None → (rest : List ℕ) → unit_rest k t ≡ Some rest
    → first_passes is_apostrophe rest ≡ false
no_unit k t none rest e =
    let both : None ≡ Some rest = sym none ∙ e in
    absurd (cc)

pub unit_some : (k : Kind) (t closing : List ℕ) → unit_rest k t ≡ Some closing → t ≡ [] → ⊥
unit_some k t closing e over =
    let both : None ≡ Some closing = empty_rest k t over ∙ e in
    absurd (cc)

pub unit_quoted : (closing suffix : List ℕ) → closing ≡ 39 ∷ suffix → first_passes is_apostrophe closing ≡ true
unit_quoted closing suffix e = ap (first_passes is_apostrophe) e

pub no_quote_unit : (k : Kind) (t closing : List ℕ) → unit_rest k t ≡ Some closing → ((x : List ℕ) → closing ≢ 39 ∷ x)
    → (rest : List ℕ) → unit_rest k t ≡ Some rest → first_passes is_apostrophe rest ≡ false
no_quote_unit k t closing e none rest other =
    let both : Some closing ≡ Some rest = sym e ∙ other in
    let same : closing ≡ rest = cc in
    ap (first_passes is_apostrophe) (sym same) ∙ no_front 39 closing none

-- ---- the content of a raw string

-- Reading CR LF as LF in the text after a character doesn't change whether the loop over a raw string's content stops at the
-- character.
halts_of : (how : LineEnds) (n : ℕ) (k : Kind) (c : ℕ) (hashes after : List ℕ) → hashes ≡ replicate n 35
    → ((c == 34 && begins hashes (read_of how after)) || not (is_raw_character k c))
    ≡ ((c == 34 && begins hashes after) || not (is_raw_character k c))
halts_of how n k c hashes after e = ap (λ b. (c == 34 && b) || not (is_raw_character k c)) (closer_of how n hashes after e)

pub inside_past : (how : LineEnds) (k : Kind) (hashes t x run s : List ℕ) → t ≡ run ++ x → list_all (is_inside k) run ≡ true
    → raw_stop k hashes (read_of how t) ≡ s → raw_stop k hashes (read_of how x) ≡ s
inside_past how k hashes t x run s e each same = walk_past k hashes (read_of how t) (read_of how x) run s
    (ap (read_of how) e ∙ free_of how run x (inside_free k run each)) each same

pub inside_in : (how : LineEnds) (k : Kind) (t x run : List ℕ) → t ≡ run ++ x → list_all (is_inside k) run ≡ true
    → IsRestOf how t x
inside_in how k t x run e each = free_in how t run x e (inside_free k run each)

-- The loop over a raw string's content stops at the closing delimiter.
pub stop_closed : (how : LineEnds) (k : Kind) (n c : ℕ) (hashes t closing after suffix : List ℕ) → hashes ≡ replicate n 35
    → read_of how closing ≡ c ∷ read_of how after → c ≡ 34 → after ≡ hashes ++ suffix
    → raw_stop k hashes (read_of how closing) ≡ raw_stop k hashes (read_of how t)
    → read_of how closing ≡ raw_stop k hashes (read_of how t)
stop_closed how k n c hashes t closing after suffix h is quote text same =
    let closes = and_from (c == 34) (begins hashes after) (ap (λ z. z == 34) quote)
    (ap (begins hashes) text ∙ begins_front hashes suffix) in
    walk_halt k hashes (read_of how closing) (read_of how after) c is (halts_of how n k c hashes after h
    ∙ or_left (c == 34 && begins hashes after) (not (is_raw_character k c)) closes) ∙ same

-- The loop over a raw string's content stops at a character that the raw string can't contain.
pub stop_held : (how : LineEnds) (k : Kind) (n c : ℕ) (hashes t closing after : List ℕ) → hashes ≡ replicate n 35
    → read_of how closing ≡ c ∷ read_of how after → is_raw_character k c ≡ false
    → raw_stop k hashes (read_of how closing) ≡ raw_stop k hashes (read_of how t)
    → read_of how closing ≡ raw_stop k hashes (read_of how t)
stop_held how k n c hashes t closing after h is held same = walk_halt k hashes (read_of how closing) (read_of how after) c is
    (halts_of how n k c hashes after h ∙ or_right (c == 34 && begins hashes after) (not (is_raw_character k c)) (ap not held))
    ∙ same

-- The loop over a raw string's content doesn't stop at other characters.
pub stop_on : (how : LineEnds) (k : Kind) (n c : ℕ) (hashes closing after s : List ℕ) → hashes ≡ replicate n 35
    → read_of how closing ≡ c ∷ read_of how after → (c == 34 && begins hashes after) ≡ false → is_raw_character k c ≡ true
    → raw_stop k hashes (read_of how closing) ≡ s → raw_stop k hashes (read_of how after) ≡ s
stop_on how k n c hashes closing after s h is none allowed same = walk_on k hashes (read_of how closing) (read_of how after) s c is
    (halts_of how n k c hashes after h ∙ or_from (c == 34 && begins hashes after) (not (is_raw_character k c)) none
    (ap not allowed)) same
