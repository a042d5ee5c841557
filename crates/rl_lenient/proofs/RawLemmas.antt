-- Raw strings: their hashes, their last quote, and the proof that they have only one parse result.
use Rattle.rl_syntax.proofs.Common.{◌≡◌, ◌≢◌, ℕ, zero, suc, Bool, true, false, not, eqb, List, [], ◌∷◌, ◌++◌, length, replicate, refl, sym, ap, subst, ◌∙◌, list_all, both_ways, and_parts, append_cancel_right, list_all-append}
use Rattle.rl_lenient.proofs.Names.{append_cancel_left, Kind, ByteStr, CStr, content_of, is_string, is_raw, raw_opener, Raw, hash_count, after_run, is_hash}
use Rattle.std.proofs.lemmas.List.{length-replicate}
use Rattle.rl_lexer.proofs.HashLemmas.{hashes_before, hashes_first, hashes_past}
use Rattle.rl_lenient.specs.declared.quoted_forms.QuotedForm.TheVariants.{Raw as RawForm}
use Rattle.rl_lenient.specs.Forms.{PartsAre, HasNoParts}

abbrev pub no_quote : ℕ → Bool
no_quote c = not (eqb c 34)

-- All characters pass the test that is always true. It is the test of the characters of `str` raw strings.
all_true : (cs : List ℕ) → list_all (λ c. true) cs ≡ true
all_true [] = refl
all_true (c ∷ cs) = all_true cs

pub others_hold : (kind : Kind) → kind ≢ ByteStr → kind ≢ CStr → (cs : List ℕ) → list_all (is_raw kind) cs ≡ true
others_hold ByteStr n h cs = absurd (n refl)
others_hold CStr n h cs = absurd (h refl)
others_hold kind n h cs = all_true cs

-- ---- the last quote of a text

pub quote_inside : (p b q : List ℕ) → list_all no_quote p ≡ true → p ≡ b ++ (34 ∷ q) → ⊥
quote_inside p b q h e =
    let r = and_parts (list_all no_quote b) (list_all no_quote (34 ∷ q))
    (sym (list_all-append no_quote b (34 ∷ q)) ∙ ap (list_all no_quote) (sym e) ∙ h) in
    let f : false ≡ true = r.1 in
    absurd (cc)

pub last_same : (a b p q : List ℕ) → list_all no_quote p ≡ true → list_all no_quote q ≡ true → a ++ (34 ∷ p) ≡ b
    ++ (34 ∷ q) → (a ≡ b) × (p ≡ q)
last_same [] [] p q hp hq e = (refl, cc)
last_same [] (c ∷ b) p q hp hq e = absurd (quote_inside p b q hp (let e = e in cc))
last_same (c ∷ a) [] p q hp hq e = absurd (quote_inside q a p hq (let e = e in cc))
last_same (c ∷ a) (d ∷ b) p q hp hq e =
    let head : c ≡ d = cc in
    let tail : a ++ (34 ∷ p) ≡ b ++ (34 ∷ q) = cc in
    let r = last_same a b p q hp hq tail in
    (let e = r.0 in cc, r.1)

pub hashes_no_quote : (n : ℕ) (x : List ℕ) → list_all no_quote (replicate n 35 ++ x) ≡ list_all no_quote x
hashes_no_quote zero x = refl
hashes_no_quote (suc n) x = hashes_no_quote n x

-- ---- the hashes at the start

-- Returns the text after the first quote of a raw string with n hashes, a body and a suffix.
abbrev pub inner : ℕ → List ℕ → List ℕ → List ℕ
inner n inside suffix = inside ++ (34 ∷ (replicate n 35 ++ suffix))

-- In the text after a raw string's prefix, the leading hashes are the string's hashes, and the string's first quote follows
-- them.
pub raw_front : (kind : Kind) (t v x hashes : List ℕ) (r : Raw kind (raw_opener kind ++ t) v x) → t ≡ hashes
    ++ (after_run is_hash) t → (hashes ≡ replicate r.hashes 35)
    × ((after_run is_hash) t ≡ 34 ∷ inner r.hashes r.inside x)
raw_front kind t v x hashes r e =
    let n = r.hashes in
    let y = inner n r.inside x in
    let text : t ≡ replicate n 35 ++ (34 ∷ y) = append_cancel_left (raw_opener kind) t (replicate n 35 ++ (34 ∷ y))
    r.text_is in
    let rest : (after_run is_hash) t ≡ 34 ∷ y = ap (after_run is_hash) text ∙ hashes_past n y in
    (append_cancel_right hashes (replicate n 35) (34 ∷ y) (ap (λ z. hashes ++ z) (sym rest) ∙ sym e ∙ text), rest)

-- If the text after a raw string's first quote is split at its last quote, the parts are the body, and the hashes with the
-- suffix.
raw_inner : (n : ℕ) (inside x body after : List ℕ) → list_all no_quote x ≡ true → list_all no_quote after ≡ true → body
    ++ (34 ∷ after) ≡ inner n inside x → (body ≡ inside) × (after ≡ replicate n 35 ++ x)
raw_inner n inside x body after hx ha e = last_same body inside after (replicate n 35 ++ x) ha
    (hashes_no_quote n x ∙ hx) e

pub raw_once : (kind : Kind) (t v x w y : List ℕ) → Raw kind (raw_opener kind ++ t) v x
    → Raw kind (raw_opener kind ++ t) w y → (v ≡ w) × (x ≡ y)
raw_once kind t v x w y r s =
    let a = raw_front kind t v x (replicate (hash_count t) 35) r (hashes_first t) in
    let b = raw_front kind t w y (replicate (hash_count t) 35) s (hashes_first t) in
    let both : 34 ∷ inner r.hashes r.inside x ≡ 34 ∷ inner s.hashes s.inside y = sym a.1 ∙ b.1 in
    let insides : inner r.hashes r.inside x ≡ inner s.hashes s.inside y = cc in
    let parts = raw_inner s.hashes s.inside y r.inside (replicate r.hashes 35 ++ x) s.no_quote
    (hashes_no_quote r.hashes x ∙ r.no_quote) insides in (
      r.value_is ∙ ap (content_of kind) parts.0 ∙ sym s.value_is,
      append_cancel_left (replicate s.hashes 35) x y (ap (λ z. z ++ x) (sym b.0 ∙ a.0) ∙ parts.1),
    )

-- Two parse results of a raw string have the same hashes and the same body.
pub raw_same : (kind : Kind) (t v x w y : List ℕ) (r : Raw kind t v x) (s : Raw kind t w y) → (r.hashes ≡ s.hashes)
    × (r.inside ≡ s.inside)
raw_same kind t v x w y r s =
    let front : List ℕ = replicate r.hashes 35 ++ (34 ∷ inner r.hashes r.inside x) in
    let a = raw_front kind front v x (replicate (hash_count front) 35)
    (record { hashes = r.hashes; inside = r.inside; string = r.string; each = r.each; no_quote = r.no_quote; text_is = refl; value_is = r.value_is }) (hashes_first front) in
    let b = raw_front kind front w y (replicate (hash_count front) 35)
    (record { hashes = s.hashes; inside = s.inside; string = s.string; each = s.each; no_quote = s.no_quote; text_is = sym r.text_is ∙ s.text_is; value_is = s.value_is }) (hashes_first front) in
    let both : 34 ∷ inner r.hashes r.inside x ≡ 34 ∷ inner s.hashes s.inside y = sym a.1 ∙ b.1 in
    let insides : inner r.hashes r.inside x ≡ inner s.hashes s.inside y = cc in
    let parts = raw_inner s.hashes s.inside y r.inside (replicate r.hashes 35 ++ x) s.no_quote
    (hashes_no_quote r.hashes x ∙ r.no_quote) insides in
    (sym (length-replicate r.hashes 35) ∙ ap length (sym a.0 ∙ b.0) ∙ length-replicate s.hashes 35, parts.0)

-- ---- the parts of a raw string, by the tests of the code

-- If no quote follows the leading hashes, the text isn't a raw string.
pub raw_unopened : (kind : Kind) (t rest : List ℕ) → rest ≡ (after_run is_hash) t → ((y : List ℕ) → rest ≢ 34 ∷ y)
    → HasNoParts RawForm kind (raw_opener kind ++ t)
raw_unopened kind t rest e h v b x p =
    h _ (e ∙ (raw_front kind t v x (replicate (hash_count t) 35) p.0 (hashes_first t)).1)

-- The text `t`, which follows a raw string's prefix, begins with the hashes `hashes`, and `rest` follows them.

module _ (kind : Kind) (t hashes rest : List ℕ) (rest_is : rest ≡ (after_run is_hash) t) (text_is : t ≡ hashes ++ rest)
  where
    pub opens : (v x : List ℕ) (r : Raw kind (raw_opener kind ++ t) v x) → (hashes ≡ replicate r.hashes 35)
        × (rest ≡ 34 ∷ inner r.hashes r.inside x)
    opens v x r =
        let f = raw_front kind t v x hashes r (text_is ∙ ap (λ z. hashes ++ z) rest_is) in
        (f.0, rest_is ∙ f.1)

    -- If a raw string's text has no second quote, the text isn't a raw string.
    pub raw_unclosed : (inside : List ℕ) → rest ≡ 34 ∷ inside → list_all no_quote inside ≡ true
        → HasNoParts RawForm kind (raw_opener kind ++ t)
    raw_unclosed inside e h v b x p =
        let both : 34 ∷ inside ≡ 34 ∷ inner p.0.hashes p.0.inside x = sym e ∙ (opens v x p.0).1 in
        quote_inside inside p.0.inside (replicate p.0.hashes 35 ++ x) h (let both = both in cc)

    -- The text after the first quote of a raw string is split at the last quote into a body and the text after the quote.
    module _ (inside body after : List ℕ) (inside_is : rest ≡ 34 ∷ inside) (last_is : inside ≡ body ++ (34 ∷ after))
        (none_after : list_all no_quote after ≡ true) where
      closes : (v x : List ℕ) (r : Raw kind (raw_opener kind ++ t) v x) → (body ≡ r.inside) × (after ≡ hashes ++ x)
      closes v x r =
          let f = opens v x r in
          let both : 34 ∷ inside ≡ 34 ∷ inner r.hashes r.inside x = sym inside_is ∙ f.1 in
          let parts = raw_inner r.hashes r.inside x body after r.no_quote none_after
          (sym last_is ∙ (let both = both in cc)) in
          (parts.0, parts.1 ∙ ap (λ z. z ++ x) (sym f.0))

      pub raw_other_hashes : ((x : List ℕ) → after ≢ hashes ++ x) → HasNoParts RawForm kind (raw_opener kind ++ t)
      raw_other_hashes h v b x p = h x (closes v x p.0).1

      pub raw_not_held : list_all (is_raw kind) body ≡ false → HasNoParts RawForm kind (raw_opener kind ++ t)
      raw_not_held h v b x p =
          let each : list_all (is_raw kind) body ≡ true = subst (λ z. list_all (is_raw kind) z ≡ true)
          (sym (closes v x p.0).0) p.0.each in
          both_ways (list_all (is_raw kind) body) h each

      pub raw_found : (suffix : List ℕ) → is_string kind ≡ true → after ≡ hashes ++ suffix → list_all (is_raw kind) body
          ≡ true → (v : List ℕ) × PartsAre RawForm kind (raw_opener kind ++ t) v body suffix
      raw_found suffix string e held_all =
          let n = hash_count t in
          let hashes_are : hashes ≡ replicate n 35 = hashes_before hashes t rest rest_is text_is in
          let none : list_all no_quote suffix ≡ true = (and_parts (list_all no_quote hashes) (list_all no_quote suffix)
          (sym (list_all-append no_quote hashes suffix) ∙ ap (list_all no_quote) (sym e) ∙ none_after)).1 in
          let whole : t ≡ replicate n 35 ++ (34 ∷ inner n body suffix) =
          text_is
          ∙ ap (λ z. hashes ++ z) (inside_is ∙ ap (λ z. 34 ∷ z) (last_is ∙ ap (λ z. body ++ (34 ∷ z)) e))
          ∙ ap (λ z. z ++ (34 ∷ (body ++ (34 ∷ (z ++ suffix))))) hashes_are in (
            content_of kind body,
            (
              record {
                hashes = n;
                inside = body;
                string = string;
                each = held_all;
                no_quote = none;
                text_is = ap (λ z. raw_opener kind ++ z) whole;
                value_is = refl;
              },
              refl,
            ),
          )
