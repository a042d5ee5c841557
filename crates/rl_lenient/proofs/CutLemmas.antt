-- Facts about characters of a text, derived from facts about its bytes.
use Rattle.rl_syntax.proofs.Common.{◌≡◌, ◌≢◌, ℕ, ◌+◌, ◌<◌, ◌≤◌, ◌&&◌, ◌||◌, Bool, true, false, not, eqb, List, [], ◌∷◌, ◌++◌, length, take, drop, Option, Some, None, refl, sym, ap, subst, ◌∙◌, arith, ◌==◌, encode_utf8_all, list_all, IsUtf8, IsCharBoundary, and_from, both_ways, eqb-true, not_from_false, list_all-append, encodes-chars, encodes-append, chars-append, chars-nil, IsUtf8-take, IsUtf8-drop}
use Rattle.rl_syntax.proofs.LowBytes.{AllHigh, cases128, encode_is_high, low_front, not_equal}
use Rattle.std.proofs.Common.{inl, inr, ◌⊎◌}
use Rattle.std.specs.List.{list_any}
use Rattle.std.specs.Prelude.{encode_utf8}
use Rattle.rl_lenient.proofs.Names.{IsTail}
use Rattle.std.proofs.Common.{take-append-drop, length-drop}
use Rattle.std.specs.Prelude.{IfSome, IfNone, MatchOption}
use Rattle.std.specs.Str.{chars, NoCharPasses, NonePass}
use Rattle.std.specs.Str.Pattern.{RFindsChar, HasCharAt}
use Rattle.std.proofs.lemmas.Str.{chars_from_encodes, chars_past_char, IsUtf8-past_char, IsCharBoundary-before_ascii}
use Rattle.std.proofs.lemmas.Str.Pattern.{drop_at_char}
use denote.Ref.{Bor}
use Rattle.rl_lenient.specs.Mirrors.PlainAt.{is_some_text}

-- If the characters of a text end with the characters of a second text, the bytes of the text end with the bytes of the
-- second text.
pub tail_chars : (bs ys front : List ℕ) → IsUtf8 bs → IsUtf8 ys → chars bs ≡ front ++ chars ys → IsTail bs ys
tail_chars bs ys front u w e = record {
  front = encode_utf8_all front;
  text_is = sym (encodes-chars bs u) ∙ ap encode_utf8_all e ∙ encodes-append front (chars ys)
      ∙ ap (λ z. encode_utf8_all front ++ z) (encodes-chars ys w);
  is_text = w;
}

-- ---- a text that lacks a character, or contains it at an offset

abbrev pub lacks : ℕ → List ℕ → Bool
lacks c cs = list_all (λ d. not (eqb d c)) cs

none_lacks : (c : ℕ) (cs : List ℕ) → NonePass (λ d. eqb d c) cs → lacks c cs ≡ true
none_lacks c [] h = refl
none_lacks c (d ∷ cs) h = and_from (not (eqb d c)) (lacks c cs) (not_from_false (eqb d c) h.0) (none_lacks c cs h.1)

chars_lack : (c : ℕ) (bs : List ℕ) → IsUtf8 bs → NoCharPasses (λ d. eqb d c) bs → lacks c (chars bs) ≡ true
chars_lack c bs u p = subst (λ z. lacks c z ≡ true) (chars_from_encodes p.0 bs u p.1) (none_lacks c p.0 p.2)

-- A text is split into the part before an ASCII character, the character, and the part after it.
pub record Around (c : ℕ) (bs : List ℕ) (i j : ℕ) : Type 0 where
  pub chars_are : chars bs ≡ chars (take i bs) ++ (c ∷ chars (drop j bs))
  pub following : IsUtf8 (drop j bs)

around : (c : ℕ) (bs : List ℕ) (i j : ℕ) → IsUtf8 bs → c < 128 → HasCharAt c bs i j → Around c bs i j
around c bs i j u small at =
    let long : length (drop i bs) ≡ length (drop j bs) + 1 = ap length (drop_at_char c bs i j at small) ∙ omega arith in
    let within : i < length bs = omega (arith, length-drop i bs) in
    let byte = at.byte small in
    let boundary : IsCharBoundary bs i = IsCharBoundary-before_ascii bs i within (omega arith) in
    let back : IsUtf8 (drop i bs) = IsUtf8-drop bs i u boundary in
    record {
      chars_are =
          ap chars (sym (take-append-drop i bs))
          ∙ chars-append (take i bs) (drop i bs) (IsUtf8-take bs i u boundary)
          ∙ ap (λ z. chars (take i bs) ++ z) (chars_past_char (drop i bs) (drop j bs) c back at.split);
      following = IsUtf8-past_char (drop i bs) (drop j bs) c back at.split;
    }

-- ---- lemmas on methods of std, each with the method's name

abbrev SplitLastQuote : List ℕ → Option (Bor (List ℕ) × Bor (List ℕ)) → Type 0
SplitLastQuote bs r = MatchOption r (RFindsChar 34 bs None) (λ x. (i : ℕ) × (j : ℕ) × RFindsChar 34 bs (Some (i, j))
    × (x.0.now ≡ take i bs) × (x.1.now ≡ drop j bs) × (i ≤ j) × (length x.0.now ≡ i) × (length x.1.now + j ≡ length bs))

abbrev CutAtLast : List ℕ → List ℕ → List ℕ → Type 0
CutAtLast bs xs ys = (chars bs ≡ chars xs ++ (34 ∷ chars ys)) × (lacks 34 (chars ys) ≡ true)

pub rsplit_once_some : (bs : List ℕ) (r : Option (Bor (List ℕ) × Bor (List ℕ))) → SplitLastQuote bs r → IsUtf8 bs
    → IfSome r (λ x. CutAtLast bs x.0.now x.1.now)
rsplit_once_some bs None m u = tt
rsplit_once_some bs (Some x) m u =
    let a = around 34 bs m.0 m.1 u (omega arith) m.2.1 in
    let following : lacks 34 (chars (drop m.1 bs)) ≡ true = chars_lack 34 (drop m.1 bs) a.following m.2.0 in
    subst (λ y. CutAtLast bs y x.1.now) (sym m.3) (subst (CutAtLast bs (take m.0 bs)) (sym m.4)
    (a.chars_are, following))

pub rsplit_once_none : (bs : List ℕ) (r : Option (Bor (List ℕ) × Bor (List ℕ))) → SplitLastQuote bs r → IsUtf8 bs
    → IfNone r (lacks 34 (chars bs) ≡ true)
rsplit_once_none bs None m u = chars_lack 34 bs u m
rsplit_once_none bs (Some x) m u = tt

-- A text has a character exactly if its length in bytes isn't 0.
pub some_text : (t : List ℕ) → IsUtf8 t → is_some_text (chars t) ≡ not (length t == 0)
some_text t u = tested (length t == 0) t u refl
  where
    some : (cs : List ℕ) → cs ≢ [] → is_some_text cs ≡ true
    some [] n = absurd (n refl)
    some (c ∷ cs) n = refl

    tested : (b : Bool) (t : List ℕ) → IsUtf8 t → (length t == 0) ≡ b → is_some_text (chars t) ≡ not b
    tested true [] u e = ap is_some_text chars-nil
    tested true (c ∷ cs) u e = absurd (let z = eqb-true (length (c ∷ cs)) 0 e in omega arith)
    tested false t u e = some (chars t) (λ n. both_ways (length t == 0) e
        (ap (λ z. length z == 0) (sym (encodes-chars t u) ∙ ap encode_utf8_all n)))

-- ---- a text without an ASCII byte doesn't contain the byte's character

lacks_high : (c : ℕ) → c < 128 → (bs : List ℕ) → AllHigh bs → lacks c bs ≡ true
lacks_high c low [] h = refl
lacks_high c low (b ∷ bs) h = and_from (not (eqb b c)) (lacks c bs) (not_from_false (eqb b c) (not_equal b c low h.0))
    (lacks_high c low bs h.1)

lacks_encoded : (c : ℕ) → c < 128 → (cs : List ℕ) → lacks c (encode_utf8_all cs) ≡ lacks c cs
lacks_encoded c low [] = refl
lacks_encoded c low (d ∷ cs) = go (cases128 d) (lacks_encoded c low cs)
  where
    go : (d < 128) ⊎ (128 ≤ d) → lacks c (encode_utf8_all cs) ≡ lacks c cs
        → lacks c (encode_utf8_all (d ∷ cs)) ≡ lacks c (d ∷ cs)
    go (inl small) more = ap (lacks c) (low_front d cs small) ∙ ap (λ b. not (eqb d c) && b) more
    go (inr past) more =
        let (h, hs, same, is, all) = encode_is_high d past in
        list_all-append (λ k. not (eqb k c)) (encode_utf8 d) (encode_utf8_all cs)
        ∙ ap (λ b. b && lacks c (encode_utf8_all cs)) (ap (lacks c) same
        ∙ and_from (not (eqb h c)) (lacks c hs) (not_from_false (eqb h c) (not_equal h c low is)) (lacks_high c low hs all))
        ∙ more ∙ sym (ap (λ b. not b && lacks c cs) (not_equal d c low past))

any_lacks : (c : ℕ) (bs : List ℕ) → not (list_any (λ b. eqb b c) bs) ≡ lacks c bs
any_lacks c [] = refl
any_lacks c (b ∷ bs) = go (eqb b c) (any_lacks c bs)
  where
    go : (t : Bool) → not (list_any (λ k. eqb k c) bs) ≡ lacks c bs → not (t || list_any (λ k. eqb k c) bs)
        ≡ (not t && lacks c bs)
    go true more = refl
    go false more = more

pub bytes_lack : (c : ℕ) (bs : List ℕ) → c < 128 → IsUtf8 bs → not (list_any (λ b. eqb b c) bs) ≡ lacks c (chars bs)
bytes_lack c bs low u = any_lacks c bs ∙ ap (lacks c) (sym (encodes-chars bs u)) ∙ lacks_encoded c low (chars bs)
