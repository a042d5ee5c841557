-- The value of a raw string is the text between its quotes.
use Rattle.rl_syntax.proofs.Common.{◌≡◌, ℕ, zero, suc, ◌<◌, ◌≤◌, ◌&&◌, Bool, true, false, not, eqb, List, [], ◌∷◌, ◌++◌, length, replicate, refl, sym, ap, subst, ◌∙◌, inl, inr, arith, append_assoc, append-nil, nat_lt, list_all, and_parts, and_from, both_ways, cases_lt, chars, chars_from_encodes, encodes-chars, IsUtf8}
use Rattle.std.specs.Prelude.{encode_utf8_all}
use Rattle.std.proofs.lemmas.Str.{chars-encodes}
use Rattle.std.proofs.Math.Utf8.{scalars}
use Rattle.rl_syntax.specs.Texts.{first_passes}
use Rattle.rl_syntax.proofs.Basics.{all_weaker, hashes_all, word_without}
use Rattle.rl_syntax.specs.declared.kind.Kind.{Kind}
use Rattle.rl_syntax.specs.declared.kind.Kind.TheVariants.{Str, ByteStr, CStr}
use Rattle.rl_syntax.specs.Quoted.{decodes_to_chars, is_raw, is_string, raw_opener, Raw}
use Rattle.rl_syntax.specs.Reading.{Bytes, Characters, Contents, Reads}
use Rattle.rl_syntax.specs.Strict.{IsRawInside, IsStrictSuffix, Strict, StrictRaw, strict_closer, strict_opener, strict_raw_opener}
use Rattle.rl_syntax.proofs.Agreeing.{strict_reads}
use Rattle.rl_syntax.proofs.OneQuoted.{raw_once, same_tail}
use Rattle.rl_syntax.proofs.StrictNumbers.{same_run}
use Rattle.rl_writing.specs.Mirrors.RawSteps.{raw_may_contain}
use Rattle.rl_writing.specs.RawStrings.{raw_contents, raw_text, HasFewestHashes, HasNoRaw}
use Rattle.rl_writing.proofs.AsciiLemmas.{encoded_low, is_low, framed_chars, framed_utf8, low_join}
use Rattle.rl_writing.proofs.HashLemmas.{closes_needed, needed_closes, needed_in}

-- ---- the characters that a raw string may contain

stands_bare : (k : Kind) (c : ℕ) → is_string k ≡ true → raw_may_contain k c ≡ true → not (eqb c 13) ≡ true
stands_bare Str c s h = h
stands_bare ByteStr c s h = (and_parts (not (eqb c 13)) (nat_lt c 128) h).0
stands_bare CStr c s h = (and_parts (not (eqb c 13)) (not (eqb c 0)) h).0
stands_bare kind c s h = absurd (cc)

allowed : (k : Kind) (inside : List ℕ) → is_string k ≡ true → list_all (raw_may_contain k) inside ≡ true
    → IsRawInside k inside
allowed Str inside s h = tt
allowed ByteStr inside s h = all_weaker (raw_may_contain ByteStr) (λ c. nat_lt c 128)
    (λ c p. (and_parts (not (eqb c 13)) (nat_lt c 128) p).1) inside h
allowed CStr inside s h = all_weaker (raw_may_contain CStr) (λ c. not (eqb c 0))
    (λ c p. (and_parts (not (eqb c 13)) (not (eqb c 0)) p).1) inside h
allowed kind inside s h = absurd (cc)

both : (f g : ℕ → Bool) (cs : List ℕ) → list_all f cs ≡ true → list_all g cs ≡ true
    → list_all (λ c. f c && g c) cs ≡ true
both f g [] h k = refl
both f g (c ∷ cs) h k =
    let p = and_parts (f c) (list_all f cs) h in
    let q = and_parts (g c) (list_all g cs) k in
    and_from _ _ (and_from _ _ p.0 q.0) (both f g cs p.1 q.1)

-- If a raw string of the kind may contain a text, and the text contains no CR, the code accepts each character of the text.
all_stand : (k : Kind) (inside : List ℕ) → is_string k ≡ true → IsRawInside k inside
    → list_all (λ c. not (eqb c 13)) inside ≡ true → list_all (raw_may_contain k) inside ≡ true
all_stand Str inside s a h = h
all_stand ByteStr inside s a h = both (λ c. not (eqb c 13)) (λ c. nat_lt c 128) inside h a
all_stand CStr inside s a h = both (λ c. not (eqb c 13)) (λ c. not (eqb c 0)) inside h a
all_stand kind inside s a h = absurd (cc)

-- ---- the text of a raw string

same_opener : (k : Kind) → is_string k ≡ true → strict_raw_opener k ≡ raw_opener k
same_opener Str s = refl
same_opener ByteStr s = refl
same_opener CStr s = refl
same_opener kind s = absurd (cc)

-- The text of a raw string after its prefix: hashes, a quote, its content, a quote, hashes and the suffix.
abbrev after_opener : ℕ → List ℕ → List ℕ → List ℕ
after_opener n inside x = replicate n 35 ++ (34 ∷ (inside ++ (34 ∷ (replicate n 35 ++ x))))

joined : (o inside x : List ℕ) (n : ℕ)
    → (((o ++ replicate n 35) ++ (34 ∷ inside)) ++ (34 ∷ replicate n 35)) ++ x ≡ o ++ after_opener n inside x
joined o inside x n = simp append_assoc

no_suffix : (n : ℕ) (inside : List ℕ) → after_opener n inside [] ≡ replicate n 35
    ++ (34 ∷ (inside ++ (34 ∷ replicate n 35)))
no_suffix n inside = ap (λ z. replicate n 35 ++ (34 ∷ (inside ++ (34 ∷ z)))) (append-nil (replicate n 35))

strict_text : (k : Kind) (n : ℕ) (inside : List ℕ) → is_string k ≡ true
    → raw_text k n inside ≡ (((strict_raw_opener k ++ replicate n 35) ++ (34 ∷ inside)) ++ (34 ∷ replicate n 35)) ++ []
strict_text k n inside s =
    ap (λ z. raw_opener k ++ z) (sym (no_suffix n inside)) ∙ ap (λ z. z ++ after_opener n inside [])
    (sym (same_opener k s))
    ∙ sym (joined (strict_raw_opener k) inside [] n)

-- ---- the value of a raw string

raw_is : (k : Kind) (n : ℕ) (inside : List ℕ) → is_string k ≡ true → list_all (raw_may_contain k) inside ≡ true → n < 256
    → needed_in inside ≤ n → StrictRaw (raw_text k n inside) k (raw_contents k inside) []
raw_is k n inside s stand few enough = record {
  hashes = n;
  inside = inside;
  few = few;
  allowed = allowed k inside s stand;
  no_carriage_return = all_weaker (raw_may_contain k) (λ c. not (eqb c 13)) (λ c h. stands_bare k c s h) inside stand;
  first_close = λ front rest e.
      let closes = closes_needed n front rest in
      let Needs : List ℕ → Type 0 = λ z. n < needed_in z in
      let more : n < needed_in inside = subst Needs (sym e) closes in
      omega (arith, more, enough);
  suffix = inl refl;
  text = strict_text k n inside s;
  contents = refl;
}

raw_strict : (k : Kind) (n : ℕ) (inside : List ℕ) → is_string k ≡ true
    → StrictRaw (raw_text k n inside) k (raw_contents k inside) []
    → Strict (raw_text k n inside) k (raw_contents k inside) []
    × Reads (raw_text k n inside) k (raw_contents k inside) []
raw_strict Str n inside s r = (inr r, strict_reads _ Str _ [] (inr r) tt)
raw_strict ByteStr n inside s r = (inr r, strict_reads _ ByteStr _ [] (inr r) tt)
raw_strict CStr n inside s r = (inr r, strict_reads _ CStr _ [] (inr r) tt)
raw_strict kind n inside s r = absurd (cc)

-- ---- the number of hashes of a raw string

pub record Needs (k : Kind) (n : ℕ) (inside : List ℕ) : Type 0 where
  pub few : n < 256
  pub stand : list_all (raw_may_contain k) inside ≡ true
  pub enough : needed_in inside ≤ n

-- Whether the text begins with a quote. After an optional `b` or `c`, a string with escapes begins with a quote, and a raw
-- string with `r`.
abbrev first_quote : List ℕ → Bool
first_quote t = first_passes (λ c. eqb c 34) t

abbrev second_quote : List ℕ → Bool
second_quote [] = false
second_quote (c ∷ t) = first_quote t

not_quoted : (k : Kind) (n : ℕ) (inside us x : List ℕ) → is_string k ≡ true
    → raw_text k n inside ≡ ((strict_opener k ++ us) ++ strict_closer k) ++ x → ⊥
not_quoted Str n inside us x s e = both_ways false refl (ap first_quote e)
not_quoted ByteStr n inside us x s e = both_ways false refl (ap second_quote e)
not_quoted CStr n inside us x s e = both_ways false refl (ap second_quote e)
not_quoted kind n inside us x s e = absurd (cc)

length_hashes : (n : ℕ) → length {A = ℕ} (replicate n 35) ≡ n
length_hashes zero = refl
length_hashes (suc n) = ap suc (length_hashes n)

suffix_bare : (x : List ℕ) → IsStrictSuffix x → list_all (λ c. not (eqb c 34)) x ≡ true
suffix_bare x (inl e) = ap (list_all (λ c. not (eqb c 34))) e
suffix_bare x (inr w) = word_without 34 x (omega arith) refl w.identifier

all_raw : (cs : List ℕ) → list_all (is_raw Str) cs ≡ true
all_raw [] = refl
all_raw (c ∷ cs) = all_raw cs

-- The text `r`, `n` hashes, a quote, `inside`, a quote, `n` hashes and `x` is a raw string with the value `inside` by
-- `syn`'s grammar. The lemma `same_parts` concludes that equal raw strings have equally many hashes, and equal texts between
-- the quotes.
raw_at : (n : ℕ) (inside x : List ℕ) → list_all (λ c. not (eqb c 34)) x ≡ true
    → Raw Str (114 ∷ after_opener n inside x) inside x
raw_at n inside x h = record { hashes = n; inside = inside; string = refl; each = all_raw inside; no_quote = h; text_is = refl; value_is = refl }

same_parts : (n m : ℕ) (inside other x : List ℕ) → list_all (λ c. not (eqb c 34)) x ≡ true
    → after_opener n inside [] ≡ after_opener m other x → (n ≡ m) × (inside ≡ other)
same_parts n m inside other x h e =
    let run = same_run (λ c. eqb c 35) (replicate n 35) (replicate m 35) _ _ (hashes_all n) (hashes_all m) refl refl e
    in
    let read = subst (λ z. Raw Str (114 ∷ z) other x) (sym e) (raw_at m other x h) in (
      sym (length_hashes n) ∙ ap length run.0 ∙ length_hashes m,
      (raw_once Str (114 ∷ after_opener n inside []) inside [] other x (raw_at n inside [] refl) read).0,
    )

raw_needs : (k : Kind) (n : ℕ) (inside x : List ℕ) (v : Contents) → is_string k ≡ true
    → StrictRaw (raw_text k n inside) k v x → Needs k n inside
raw_needs k n inside x v s r =
    let text : raw_opener k ++ after_opener n inside [] ≡ raw_opener k ++ after_opener r.hashes r.inside x =
    ap (λ z. raw_opener k ++ z) (no_suffix n inside) ∙ r.text ∙ joined (strict_raw_opener k) r.inside x r.hashes
    ∙ ap (λ z. z ++ after_opener r.hashes r.inside x) (same_opener k s) in
    let parts = same_parts n r.hashes inside r.inside x (suffix_bare x r.suffix) (same_tail (raw_opener k) _ _ text) in
    let Few : ℕ → Type 0 = λ z. z < 256 in
    record {
      few = subst Few (sym parts.0) r.few;
      stand = ap (list_all (raw_may_contain k)) parts.1 ∙ all_stand k r.inside s r.allowed r.no_carriage_return;
      enough = elim (cases_lt n (needed_in inside)) [
        | inl a ↦
            let closes = needed_closes n inside a in
            absurd (r.first_close closes.0 closes.1 (sym parts.1 ∙ closes.2
            ∙ ap (λ z. (closes.0 ++ (34 ∷ replicate z 35)) ++ closes.1) parts.0))
        | inr a ↦ a
      ];
    }

strict_needs : (k : Kind) (n : ℕ) (inside x : List ℕ) (v : Contents) → is_string k ≡ true
    → Strict (raw_text k n inside) k v x → Needs k n inside
strict_needs Str n inside x v s (inl c) = absurd (not_quoted Str n inside _ x s c.text)
strict_needs Str n inside x v s (inr r) = raw_needs Str n inside x v s r
strict_needs ByteStr n inside x v s (inl c) = absurd (not_quoted ByteStr n inside _ x s c.text)
strict_needs ByteStr n inside x v s (inr r) = raw_needs ByteStr n inside x v s r
strict_needs CStr n inside x v s (inl c) = absurd (not_quoted CStr n inside _ x s c.text)
strict_needs CStr n inside x v s (inr r) = raw_needs CStr n inside x v s r
strict_needs kind n inside x v s r = absurd (cc)

-- ---- the fewest hashes of a raw string, and its only content

pub fewest_hashes : (k : Kind) (n : ℕ) (inside : List ℕ) → is_string k ≡ true → list_all (raw_may_contain k) inside ≡ true
    → needed_in inside ≡ n → n < 256 → HasFewestHashes k inside n
fewest_hashes k n inside s stand is few =
    let both = raw_strict k n inside s (raw_is k n inside s stand few (omega (arith, is))) in
    record {
      strict = both.0;
      reads = both.1;
      fewest = λ fewer less v x r. let needs = strict_needs k fewer inside x v s r in omega
          (arith, less, is, needs.enough);
    }

pub none_stands : (k : Kind) (inside : List ℕ) → is_string k ≡ true → list_all (raw_may_contain k) inside ≡ false
    → HasNoRaw k inside
none_stands k inside s h n v x r = both_ways (list_all (raw_may_contain k) inside) h (strict_needs k n inside x v s r).stand

pub none_suffices : (k : Kind) (n : ℕ) (inside : List ℕ) → is_string k ≡ true → needed_in inside ≡ n → 256 ≤ n
    → HasNoRaw k inside
none_suffices k n inside s is many m v x r =
    let needs = strict_needs k m inside x v s r in
    omega (arith, is, many, needs.few, needs.enough)

-- The value of a raw byte string or raw C string consists of the bytes between its quotes.
pub bytes_held : (k : Kind) (n : ℕ) (text value : List ℕ) → is_string k ≡ true → decodes_to_chars k ≡ false
    → text ≡ value → IsUtf8 value → HasFewestHashes k (chars text) n → raw_contents k (chars text) ≡ Bytes value
bytes_held ByteStr n text value s h same u f =
    let stand = (strict_needs ByteStr n (chars text) [] _ s f.strict).stand in
    let low = all_weaker (raw_may_contain ByteStr) is_low (λ c p. (and_parts (not (eqb c 13)) (nat_lt c 128) p).1)
    (chars text)
    stand in
    ap Bytes (sym (encoded_low (chars text) low) ∙ ap (λ z. encode_utf8_all (chars z)) same ∙ encodes-chars value u)
bytes_held CStr n text value s h same u f = ap Bytes (ap (λ z. encode_utf8_all (chars z)) same ∙ encodes-chars value u)
bytes_held Str n text value s h same u f = absurd (cc)
bytes_held kind n text value s h same u f = absurd (cc)

-- Raw strings with equal values have equal texts between their quotes.
same_characters : (a b : List ℕ) → Characters a ≡ Characters b → a ≡ b
same_characters a b e = cc

same_bytes : (a b : List ℕ) → Bytes a ≡ Bytes b → a ≡ b
same_bytes a b e = cc

pub one_inside : (k : Kind) (inside other : List ℕ) → is_string k ≡ true → scalars inside ≡ true → scalars other ≡ true
    → raw_contents k inside ≡ raw_contents k other → inside ≡ other
one_inside Str inside other s h l e = same_characters inside other e
one_inside ByteStr inside other s h l e = same_bytes inside other e
one_inside CStr inside other s h l e =
    sym (chars-encodes inside h) ∙ ap chars (same_bytes (encode_utf8_all inside) (encode_utf8_all other) e)
    ∙ chars-encodes other l
one_inside kind inside other s h l e = absurd (cc)

-- If no raw string can contain a text, no raw string can contain a text with equal UTF-8 bytes.
pub no_other : (k : Kind) (text value inside : List ℕ) → text ≡ value → IsUtf8 value → HasNoRaw k (chars text)
    → encode_utf8_all inside ≡ value → HasNoRaw k inside
no_other k text value inside same u none e =
    let is : inside ≡ chars text = chars_from_encodes inside value u e ∙ ap chars (sym same) in
    subst (HasNoRaw k) (sym is) none

-- ---- the bytes that the code writes for a raw string

-- The start of a raw string: its prefix, its hashes and its opening quote.
abbrev front_of : List ℕ → ℕ → List ℕ
front_of opener n = (opener ++ replicate n 35) ++ (34 ∷ [])

hashes_low : (n : ℕ) → list_all is_low (replicate n 35) ≡ true
hashes_low zero = refl
hashes_low (suc n) = hashes_low n

opener_low : (k : Kind) → is_string k ≡ true → list_all is_low (raw_opener k) ≡ true
opener_low Str s = refl
opener_low ByteStr s = refl
opener_low CStr s = refl
opener_low kind s = absurd (cc)

front_low : (k : Kind) (n : ℕ) → is_string k ≡ true → list_all is_low (front_of (raw_opener k) n) ≡ true
front_low k n s = low_join (raw_opener k ++ replicate n 35) (34 ∷ [])
    (low_join (raw_opener k) (replicate n 35) (opener_low k s) (hashes_low n)) refl

-- If the code writes the prefix, the hashes, the quotes and the text of a raw string one after another, the result is the
-- whole raw string.
pub raw_pieces : (k : Kind) (n : ℕ) (opener text a b d e f whole : List ℕ) → opener ≡ raw_opener k → a ≡ opener
    → b ≡ a ++ replicate n 35 → d ≡ b ++ (34 ∷ []) → e ≡ d ++ text → f ≡ e ++ (34 ∷ []) → whole ≡ f ++ replicate n 35
    → whole ≡ front_of (raw_opener k) n ++ (text ++ (34 ∷ replicate n 35))
raw_pieces k n opener text a b d e f whole opener_is a_is b_is d_is e_is f_is whole_is =
    let front : d ≡ front_of (raw_opener k) n = d_is
    ∙ ap (λ z. z ++ (34 ∷ [])) (b_is ∙ ap (λ z. z ++ replicate n 35) (a_is ∙ opener_is)) in
    whole_is ∙ ap (λ z. z ++ replicate n 35) (f_is ∙ ap (λ z. z ++ (34 ∷ [])) (e_is ∙ ap (λ z. z ++ text) front))
    ∙ append_assoc (front_of (raw_opener k) n ++ text) (34 ∷ []) (replicate n 35)
    ∙ append_assoc (front_of (raw_opener k) n) text (34 ∷ replicate n 35)

pub raw_utf8 : (k : Kind) (n : ℕ) (text whole : List ℕ) → is_string k ≡ true → IsUtf8 text
    → whole ≡ front_of (raw_opener k) n ++ (text ++ (34 ∷ replicate n 35)) → IsUtf8 whole
raw_utf8 k n text whole s u e =
    subst IsUtf8 (sym e) (framed_utf8 _ (34 ∷ replicate n 35) text (front_low k n s) (hashes_low n) u)

pub raw_chars : (k : Kind) (n : ℕ) (text whole : List ℕ) → is_string k ≡ true → IsUtf8 text
    → whole ≡ front_of (raw_opener k) n ++ (text ++ (34 ∷ replicate n 35)) → chars whole ≡ raw_text k n (chars text)
raw_chars k n text whole s u e =
    ap chars e ∙ framed_chars _ (34 ∷ replicate n 35) text (front_low k n s) (hashes_low n) u
    ∙ append_assoc (raw_opener k ++ replicate n 35) (34 ∷ []) (chars text ++ (34 ∷ replicate n 35))
    ∙ append_assoc (raw_opener k) (replicate n 35) (34 ∷ (chars text ++ (34 ∷ replicate n 35)))
