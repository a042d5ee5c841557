-- A rewritten raw string has the kind, value and suffix of the old one.
use Rattle.rl_syntax.proofs.Common.{◌≡◌, ◌≢◌, ℕ, zero, suc, ◌<◌, Bool, true, false, ◌==◌, List, [], ◌∷◌, ◌++◌, length, replicate, refl, sym, ap, subst, ◌∙◌, inl, inr, append_assoc, append-nil, append_cancel_right, both_ways}
use Rattle.rl_syntax.specs.Texts.{first_passes}
use Rattle.rl_syntax.proofs.Basics.{hashes_all}
use Rattle.rl_syntax.specs.declared.kind.Kind.{Kind}
use Rattle.rl_syntax.specs.declared.kind.Kind.TheVariants.{Str, ByteStr, CStr, Byte, Char, Int, Float, Bool as BoolKind}
use Rattle.rl_syntax.specs.Quoted.{is_string, raw_opener}
use Rattle.rl_syntax.specs.Reading.{Contents}
use Rattle.rl_syntax.specs.Strict.{Strict, StrictRaw, strict_closer, strict_opener, strict_raw_opener}
use Rattle.rl_syntax.proofs.OneQuoted.{same_tail}
use Rattle.rl_syntax.proofs.StrictNumbers.{same_run}
use Rattle.rl_writing.specs.RawStrings.{HasFewestHashes, raw_contents, raw_text}
use Rattle.rl_style.specs.declared.style.Style.{Style}
use Rattle.rl_style.specs.Rewriting.{HasHashes, SameLiteral, StaysRaw}

-- A raw string is a literal token of its kind.
pub raw_strict : (t : List ℕ) (k : Kind) (v : Contents) (x : List ℕ) → StrictRaw t k v x → Strict t k v x
raw_strict t Str v x s = inr s
raw_strict t ByteStr v x s = inr s
raw_strict t CStr v x s = inr s
raw_strict t Byte v x s = absurd s.allowed
raw_strict t Char v x s = absurd s.allowed
raw_strict t Int v x s = absurd s.allowed
raw_strict t Float v x s = absurd s.allowed
raw_strict t BoolKind v x s = absurd s.allowed

pub raw_string : (t : List ℕ) (k : Kind) (v : Contents) (x : List ℕ) → StrictRaw t k v x → is_string k ≡ true
raw_string t Str v x s = refl
raw_string t ByteStr v x s = refl
raw_string t CStr v x s = refl
raw_string t kind v x s = absurd s.allowed

same_opener : (k : Kind) → is_string k ≡ true → strict_raw_opener k ≡ raw_opener k
same_opener Str s = refl
same_opener ByteStr s = refl
same_opener CStr s = refl
same_opener kind s = absurd (cc)

-- The parts of a raw string may be joined from the left or from the right: the resulting texts are equal.
pub raw_joined : (o h i x : List ℕ) → ((((o ++ h) ++ (34 ∷ i)) ++ (34 ∷ h)) ++ x) ≡ o
    ++ (h ++ (34 ∷ (i ++ (34 ∷ (h ++ x)))))
raw_joined o h i x = simp append_assoc

-- The text of a raw string and its suffix consists of its parts in order: prefix, hashes, quote, content, quote, hashes and
-- suffix.
pub raw_followed : (k : Kind) (n : ℕ) (inside x : List ℕ) → is_string k ≡ true → raw_text k n inside ++ x
    ≡ (((strict_raw_opener k ++ replicate n 35) ++ (34 ∷ inside)) ++ (34 ∷ replicate n 35)) ++ x
raw_followed k n inside x s =
    let h : List ℕ = replicate n 35 in
    append_assoc (raw_opener k) (h ++ (34 ∷ (inside ++ (34 ∷ h)))) x
    ∙ ap (λ z. raw_opener k ++ z) (append_assoc h (34 ∷ (inside ++ (34 ∷ h))) x
    ∙ ap (λ z. h ++ (34 ∷ z)) (append_assoc inside (34 ∷ h) x))
    ∙ ap (λ z. z ++ (h ++ (34 ∷ (inside ++ (34 ∷ (h ++ x)))))) (sym (same_opener k s))
    ∙ sym (raw_joined (strict_raw_opener k) h inside x)

-- ---- a raw string with enough hashes ends at its closing delimiter

pub record Suits (inside : List ℕ) (n : ℕ) : Type 0 where
  pub few : n < 256
  pub first_close : (front rest : List ℕ) → inside ≢ (front ++ (34 ∷ replicate n 35)) ++ rest

-- Whether the text begins with a double quote. If the text is a string without its prefix, the string has escapes if and only
-- if the text begins with a double quote.
abbrev pub first_quote : List ℕ → Bool
first_quote t = first_passes (λ c. c == 34) t

abbrev pub second_quote : List ℕ → Bool
second_quote [] = false
second_quote (c ∷ t) = first_quote t

not_cooked : (k : Kind) (n : ℕ) (inside us x : List ℕ) → is_string k ≡ true
    → raw_text k n inside ≡ ((strict_opener k ++ us) ++ strict_closer k) ++ x → ⊥
not_cooked Str n inside us x s e = both_ways false refl (ap first_quote e)
not_cooked ByteStr n inside us x s e = both_ways false refl (ap second_quote e)
not_cooked CStr n inside us x s e = both_ways false refl (ap second_quote e)
not_cooked kind n inside us x s e = absurd (cc)

pub length_hashes : (n : ℕ) → length {A = ℕ} (replicate n 35) ≡ n
length_hashes zero = refl
length_hashes (suc n) = ap suc (length_hashes n)

-- The text of a raw string after its prefix determines its number of hashes and its content.
one_way : (n m : ℕ) (inside other : List ℕ) → replicate n 35 ++ (34 ∷ (inside ++ (34 ∷ replicate n 35)))
    ≡ replicate m 35 ++ (34 ∷ (other ++ (34 ∷ replicate m 35))) → (n ≡ m) × (inside ≡ other)
one_way n m inside other e =
    let run = same_run (λ c. c == 35) (replicate n 35) (replicate m 35) _ _ (hashes_all n) (hashes_all m) refl refl e in
    let count : n ≡ m = sym (length_hashes n) ∙ ap length run.0 ∙ length_hashes m in
    let rest : 34 ∷ (inside ++ (34 ∷ replicate n 35)) ≡ 34 ∷ (other ++ (34 ∷ replicate m 35)) = run.1 in
    let tail : inside ++ (34 ∷ replicate n 35) ≡ other ++ (34 ∷ replicate m 35) = cc in (
      count,
      append_cancel_right inside other (34 ∷ replicate n 35)
          (tail ∙ ap (λ z. other ++ (34 ∷ replicate z 35)) (sym count)),
    )

raw_suits : (k : Kind) (n : ℕ) (inside : List ℕ) (v : Contents) → is_string k ≡ true
    → StrictRaw (raw_text k n inside) k v [] → Suits inside n
raw_suits k n inside v s r =
    let text : raw_opener k ++ (replicate n 35 ++ (34 ∷ (inside ++ (34 ∷ replicate n 35)))) ≡ raw_opener k
    ++ (replicate r.hashes 35 ++ (34 ∷ (r.inside ++ (34 ∷ replicate r.hashes 35)))) =
    r.text ∙ sym (raw_followed k r.hashes r.inside [] s) ∙ append-nil (raw_text k r.hashes r.inside) in
    let same = one_way n r.hashes inside r.inside (same_tail (raw_opener k) _ _ text) in
    let Few : ℕ → Type 0 = λ z. z < 256 in
    record {
      few = subst Few (sym same.0) r.few;
      first_close = λ front rest e. r.first_close front rest (sym same.1 ∙ e
          ∙ ap (λ z. (front ++ (34 ∷ replicate z 35)) ++ rest) same.0);
    }

strict_suits : (k : Kind) (n : ℕ) (inside : List ℕ) (v : Contents) → is_string k ≡ true
    → Strict (raw_text k n inside) k v [] → Suits inside n
strict_suits Str n inside v s (inl c) = absurd (not_cooked Str n inside _ [] s c.text)
strict_suits Str n inside v s (inr r) = raw_suits Str n inside v s r
strict_suits ByteStr n inside v s (inl c) = absurd (not_cooked ByteStr n inside _ [] s c.text)
strict_suits ByteStr n inside v s (inr r) = raw_suits ByteStr n inside v s r
strict_suits CStr n inside v s (inl c) = absurd (not_cooked CStr n inside _ [] s c.text)
strict_suits CStr n inside v s (inr r) = raw_suits CStr n inside v s r
strict_suits kind n inside v s r = absurd (cc)

pub fewest_suits : (k : Kind) (n : ℕ) (inside : List ℕ) → is_string k ≡ true → HasFewestHashes k inside n
    → Suits inside n
fewest_suits k n inside s f = strict_suits k n inside (raw_contents k inside) s f.strict

pub hashes_suit : (fewest : Bool) (t : List ℕ) (k : Kind) (v : Contents) (x : List ℕ) (s : StrictRaw t k v x) (n : ℕ)
    → HasHashes fewest k s.inside s.hashes n → Suits s.inside n
hashes_suit true t k v x s n h = fewest_suits k n s.inside (raw_string t k v x s) h
hashes_suit false t k v x s n h = subst (Suits s.inside) (sym h) (record { few = s.few; first_close = s.first_close })

-- ---- the rewritten raw string

abbrev pub written : (t u : List ℕ) (k : Kind) (v : Contents) (x : List ℕ) (s : StrictRaw t k v x) (n : ℕ)
    → Suits s.inside n → u ≡ raw_text k n s.inside ++ x → StrictRaw u k v x
written t u k v x s n h e = record {
  hashes = n;
  inside = s.inside;
  few = h.few;
  allowed = s.allowed;
  no_carriage_return = s.no_carriage_return;
  first_close = h.first_close;
  suffix = s.suffix;
  text = e ∙ raw_followed k n s.inside x (raw_string t k v x s);
  contents = s.contents;
}

pub raw_same : (style : Style) (front t u : List ℕ) → StaysRaw style front t u → SameLiteral t u
raw_same style front t u c =
    let suits = hashes_suit style.raw_hashes t c.kind c.contents c.suffix c.raw c.hashes c.hashes_are in
    record {
      kind = c.kind;
      contents = c.contents;
      suffix = c.suffix;
      was = raw_strict t c.kind c.contents c.suffix c.raw;
      is = raw_strict u c.kind c.contents c.suffix (written t u c.kind c.contents c.suffix c.raw c.hashes suits
          c.new_is);
    }

same_hashes : (fewest : Bool) (k : Kind) (inside : List ℕ) (old new : ℕ) → HasHashes fewest k inside old new
    → HasHashes fewest k inside new new
same_hashes true k inside old new h = h
same_hashes false k inside old new h = refl

pub raw_stays : (style : Style) (front t u : List ℕ) → StaysRaw style front t u → StaysRaw style front u u
raw_stays style front t u c =
    let suits = hashes_suit style.raw_hashes t c.kind c.contents c.suffix c.raw c.hashes c.hashes_are in
    record {
      kind = c.kind;
      contents = c.contents;
      suffix = c.suffix;
      raw = written t u c.kind c.contents c.suffix c.raw c.hashes suits c.new_is;
      stays = c.stays;
      hashes = c.hashes;
      hashes_are = same_hashes style.raw_hashes c.kind c.raw.inside c.raw.hashes c.hashes c.hashes_are;
      new_is = c.new_is;
    }
