-- Lemmas about the most bytes of a literal's new text.
use Rattle.rl_syntax.proofs.Common.{◌≡◌, ℕ, ◌≤◌, ◌+◌, ◌*◌, ◌++◌, ◌∙◌, ◌&&◌, ◌||◌, Bool, true, false, not, cond, List, [], ◌∷◌, length, ap, sym, refl, arith, and_parts, chars, encode_utf8_all, encodes-chars, IsUtf8, is_ascii_digit, list_all, list_any, not-true, ◌==◌}
use Rattle.rl_syntax.specs.Texts.{first_passes}
use Rattle.rl_syntax.specs.declared.kind.Kind.{Kind}
use Rattle.rl_style.specs.Mirrors.{hidden_text, itself_text, raw_inside, restyled_escape, restyled_text}
use Rattle.rl_style.specs.Rewriting.{grown, loses_raw, may_lose_r, needs_backslash, needs_number, room_for}
use Rattle.rl_style.specs.declared.style.Style.{Style}

pub not-false : (b : Bool) → not b ≡ false → b ≡ true
not-false true h = refl
not-false false h = absurd (cc)

pub grown_add : (style : Style) (a b : ℕ) → grown style (a + b) ≡ grown style a + grown style b
grown_add style a b = go style.hidden
  where
    go : (h : Bool) → cond h (4 * (a + b)) (a + b) ≡ cond h (4 * a) a + cond h (4 * b) b
    go true = omega arith
    go false = refl

pub grown_least : (style : Style) (n : ℕ) → n ≤ grown style n
grown_least style n = go style.hidden
  where
    go : (h : Bool) → n ≤ cond h (4 * n) n
    go true = omega arith
    go false = omega arith

pub grown_hidden : (style : Style) (n : ℕ) → style.hidden ≡ true → grown style n ≡ 4 * n
grown_hidden style n h = ap (λ b. cond b (4 * n) n) h

-- The delimiters and the suffix of a quoted literal don't grow.
pub grown_around : (style : Style) (a i s t : ℕ) → a + (i + (1 + s)) ≤ t → a + (grown style i + (1 + s)) ≤ grown style t
grown_around style a i s t fits = go style.hidden
  where
    go : (h : Bool) → a + (cond h (4 * i) i + (1 + s)) ≤ cond h (4 * t) t
    go true = omega (arith, fits)
    go false = fits

pub within : (a b m : ℕ) → a ≤ b → b ≤ m → a ≤ m
within a b m first second = omega (arith, first, second)

pub room_number : (style : Style) (text : List ℕ) → first_passes is_ascii_digit (chars text) ≡ true
    → room_for style text ≡ 2 * length text + 1
unfolding room_for
room_number style text digit =
    let two : length text * 2 + 1 ≡ 2 * length text + 1 = omega arith in
    ap (λ d. length text * cond d 2 (cond style.hidden 4 1) + 1) digit ∙ two

pub room_quoted : (style : Style) (text : List ℕ) → first_passes is_ascii_digit (chars text) ≡ false
    → room_for style text ≡ grown style (length text) + 1
unfolding room_for
room_quoted style text other =
    ap (λ d. length text * cond d 2 (cond style.hidden 4 1) + 1) other ∙ go style.hidden
  where
    go : (h : Bool) → length text * cond h 4 1 + 1 ≡ cond h (4 * length text) (length text) + 1
    go true = omega arith
    go false = omega arith

pub room_most : (style : Style) (text : List ℕ) → room_for style text ≤ 4 * length text + 1
unfolding room_for
room_most style text = go (first_passes is_ascii_digit (chars text)) style.hidden
  where
    go : (d h : Bool) → length text * cond d 2 (cond h 4 1) + 1 ≤ 4 * length text + 1
    go true h = omega arith
    go false true = omega arith
    go false false = omega arith

-- ---- texts that a style without the rule for invisible characters keeps

shown_text : (style : Style) (k : Kind) (n : ℕ) (cs : List ℕ) → style.hidden ≡ false
    → first_passes (λ c. c == 92) cs ≡ false → restyled_text style k n cs ≡ cs
unfolding restyled_text
shown_text style k n [] shows plain = refl
shown_text style k n (c ∷ cs) shows plain =
    ap (λ b. cond b (restyled_escape style k n cs) (itself_text style (n == 0) c ++ cs)) plain
    ∙ ap (λ b. cond (b && needs_number c) (hidden_text style (n == 0) c) (c ∷ []) ++ cs) shows

-- Such a style keeps an unescaped character.
pub shown_bytes : (style : Style) (k : Kind) (n : ℕ) (unit at b : List ℕ) → IsUtf8 unit → style.hidden ≡ false
    → first_passes (λ c. c == 92) (chars unit) ≡ false → b ≡ at ++ unit
    → b ≡ at ++ encode_utf8_all (restyled_text style k n (chars unit))
shown_bytes style k n unit at b u shows plain e =
    e ∙ ap (λ z. at ++ z) (sym (ap encode_utf8_all (shown_text style k n (chars unit) shows plain)
    ∙ encodes-chars unit u))

bare_kept : (style : Style) (cs : List ℕ) → style.hidden ≡ false
    → list_all (λ c. not (needs_backslash c)) cs ≡ true → raw_inside style cs ≡ cs
bare_kept style [] shows bare = refl
bare_kept style (c ∷ cs) shows bare =
    let zero : Bool = not (first_passes is_ascii_digit cs) in
    let p = and_parts (not (needs_backslash c)) (list_all (λ c. not (needs_backslash c)) cs) bare in
    ap (λ b. cond b (92 ∷ c ∷ []) (itself_text style zero c) ++ raw_inside style cs) (not-true (needs_backslash c) p.0)
    ∙ ap (λ b. cond (b && needs_number c) (hidden_text style zero c) (c ∷ []) ++ raw_inside style cs) shows
    ∙ ap (λ z. c ∷ z) (bare_kept style cs shows p.1)

-- Such a style keeps a raw string's content.
pub bare_bytes : (style : Style) (inside at b : List ℕ) → IsUtf8 inside → style.hidden ≡ false
    → list_all (λ c. not (needs_backslash c)) (chars inside) ≡ true → b ≡ at ++ inside
    → b ≡ at ++ encode_utf8_all (raw_inside style (chars inside))
bare_bytes style inside at b u shows bare e =
    e ∙ ap (λ z. at ++ z) (sym (ap encode_utf8_all (bare_kept style (chars inside) shows bare) ∙ encodes-chars inside u))

pub bare_if_shown : (style : Style) (k : Kind) (front inside : List ℕ) → loses_raw style k front inside ≡ true
    → style.hidden ≡ false → list_all (λ c. not (needs_backslash c)) inside ≡ true
bare_if_shown style k front inside loses shows =
    go style.raw (list_all (λ c. not (needs_backslash c)) inside) (sym (ap (λ b. (style.raw
    && list_all (λ c. not (needs_backslash c)) inside) || (b && list_any needs_number inside)) shows)
    ∙ (and_parts (may_lose_r k front) ((style.raw && list_all (λ c. not (needs_backslash c)) inside)
    || (style.hidden && list_any needs_number inside)) loses).1)
  where
    go : (a b : Bool) → ((a && b) || false) ≡ true → b ≡ true
    go true true h = refl
    go true false h = absurd (cc)
    go false b h = absurd (cc)
