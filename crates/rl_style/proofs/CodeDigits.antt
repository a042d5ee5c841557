-- If the digits of a `\u{..}` escape lose their underscores and leading zeros, they still represent the old number:
-- `\u{00_e9}` and `\u{e9}` are equal.
use Rattle.rl_syntax.proofs.Common.{◌≡◌, ℕ, zero, suc, ◌<◌, ◌≤◌, ◌+◌, ◌*◌, ◌^◌, ◌||◌, ◌&&◌, Bool, true, false, not, ◌==◌, cond, nat_le, List, [], ◌∷◌, ◌++◌, length, map, replicate, refl, sym, ap, ◌∙◌, inl, inr, arith, append_assoc, append-nil, encode_utf8, encode_utf8_all, and_from, and_parts, or_from, eqb-true, cases_lt, agree_below_at, is_ascii_hexdigit, all_scalars, list_all, flat_map, Some, None}
use Rattle.std.specs.Prelude.{Option}
use Rattle.std.proofs.lemmas.Bool.{le-leb, leb-true}
use Rattle.std.proofs.lemmas.List.Elements.{filter-append}
use Rattle.rl_syntax.specs.Classes.{after_run}
use Rattle.rl_lexer.proofs.LexemeRows.{not_among}
use Rattle.rl_syntax.specs.Spelling.{place_value, without_underscores}
use Rattle.rl_syntax.specs.Strict.{is_unicode_escape, spaced_digit, spaced_value}
use Rattle.rl_style.specs.declared.style.Case.{Case}
use Rattle.rl_style.specs.declared.style.Case.TheVariants.{Lower, Upper}
use Rattle.rl_style.specs.declared.style.Style.{Style}
use Rattle.rl_style.specs.Cases.{cased, is_padding, lower_case, upper_case}
use Rattle.rl_style.specs.Mirrors.{fewest_text, zero_closed}
use Rattle.rl_style.specs.Rewriting.{bare_digit, cased_digit, styled_digits, fewest_digits}
use Rattle.rl_style.proofs.CaseLemmas.{cased_more, cased_past, twice_cased}

abbrev pub hex_of : ℕ × ℕ → Bool
hex_of d = is_ascii_hexdigit d.0

-- ---- the number that the digits of an escape represent

firsts_bare : (ds : List (ℕ × ℕ)) → map (λ d. d.0) (map bare_digit ds) ≡ map (λ d. d.0) ds
firsts_bare [] = refl
firsts_bare (d ∷ ds) = ap (λ z. d.0 ∷ z) (firsts_bare ds)

zero_first : (n v : ℕ) → v ≡ 0 * n + v
zero_first n v = omega arith

pub fewest_value : (ds : List (ℕ × ℕ)) → spaced_value (fewest_digits ds) ≡ spaced_value ds
fewest_value [] = refl
fewest_value (d ∷ []) = refl
fewest_value (d ∷ e ∷ ds) = go (d.0 == 48) refl (fewest_value (e ∷ ds))
  where
    run : List ℕ
    run = map (λ d. d.0) (e ∷ ds)

    go : (b : Bool) → (d.0 == 48) ≡ b → spaced_value (fewest_digits (e ∷ ds)) ≡ spaced_value (e ∷ ds)
        → spaced_value (cond b (fewest_digits (e ∷ ds)) (map bare_digit (d ∷ e ∷ ds))) ≡ spaced_value (d ∷ e ∷ ds)
    go true z more = more ∙ zero_first (16 ^ length run) (place_value 16 run)
        ∙ ap (λ c. place_value 16 (c ∷ run)) (sym (eqb-true d.0 48 z))
    go false z more = ap (place_value 16) (firsts_bare (d ∷ e ∷ ds))

-- ---- the digits of an escape that remain, and their number

length_bare : (ds : List (ℕ × ℕ)) → length (map bare_digit ds) ≡ length ds
length_bare [] = refl
length_bare (d ∷ ds) = ap suc (length_bare ds)

fewest_few : (ds : List (ℕ × ℕ)) → length (fewest_digits ds) ≤ length ds
fewest_few [] = omega arith
fewest_few (d ∷ []) = omega arith
fewest_few (d ∷ e ∷ ds) = go (d.0 == 48) (fewest_few (e ∷ ds))
  where
    go : (b : Bool) → length (fewest_digits (e ∷ ds)) ≤ suc (length ds)
        → length (cond b (fewest_digits (e ∷ ds)) (map bare_digit (d ∷ e ∷ ds))) ≤ suc (suc (length ds))
    go true more = omega (arith, more)
    go false more = let same = length_bare ds in omega (arith, same)

fewest_some : (ds : List (ℕ × ℕ)) → 1 ≤ length ds → 1 ≤ length (fewest_digits ds)
fewest_some [] h = h
fewest_some (d ∷ []) h = omega arith
fewest_some (d ∷ e ∷ ds) h = go (d.0 == 48) (fewest_some (e ∷ ds) (omega arith))
  where
    go : (b : Bool) → 1 ≤ length (fewest_digits (e ∷ ds))
        → 1 ≤ length (cond b (fewest_digits (e ∷ ds)) (map bare_digit (d ∷ e ∷ ds)))
    go true more = more
    go false more = omega arith

hex_bare : (ds : List (ℕ × ℕ)) → list_all hex_of (map bare_digit ds) ≡ list_all hex_of ds
hex_bare [] = refl
hex_bare (d ∷ ds) = ap (λ b. is_ascii_hexdigit d.0 && b) (hex_bare ds)

fewest_hex : (ds : List (ℕ × ℕ)) → list_all hex_of ds ≡ true → list_all hex_of (fewest_digits ds) ≡ true
fewest_hex [] h = refl
fewest_hex (d ∷ []) h = h
fewest_hex (d ∷ e ∷ ds) h = go (d.0 == 48)
    (fewest_hex (e ∷ ds) (and_parts (is_ascii_hexdigit d.0) (list_all hex_of (e ∷ ds)) h).1)
  where
    go : (b : Bool) → list_all hex_of (fewest_digits (e ∷ ds)) ≡ true
        → list_all hex_of (cond b (fewest_digits (e ∷ ds)) (map bare_digit (d ∷ e ∷ ds))) ≡ true
    go true more = more
    go false more = hex_bare (d ∷ e ∷ ds) ∙ h

pub unicode_hex : (ds : List (ℕ × ℕ)) → is_unicode_escape ds ≡ true → list_all hex_of ds ≡ true
unicode_hex ds h =
    let p = and_parts _ (all_scalars (spaced_value ds ∷ [])) h in
    (and_parts (nat_le 1 (length ds) && nat_le (length ds) 6) (list_all hex_of ds) p.0).1

pub fewest_unicode : (ds : List (ℕ × ℕ)) → is_unicode_escape ds ≡ true → is_unicode_escape (fewest_digits ds) ≡ true
fewest_unicode ds h =
    let p = and_parts _ (all_scalars (spaced_value ds ∷ [])) h in
    let q = and_parts (nat_le 1 (length ds) && nat_le (length ds) 6) (list_all hex_of ds) p.0 in
    let r = and_parts (nat_le 1 (length ds)) (nat_le (length ds) 6) q.0 in
    let new : List (ℕ × ℕ) = fewest_digits ds in
    let some : 1 ≤ length new = fewest_some ds (leb-true 1 (length ds) r.0) in
    let few : length new ≤ 6 = let a = leb-true (length ds) 6 r.1 in let b = fewest_few ds in omega (arith, a, b) in
    and_from _ (all_scalars (spaced_value new ∷ []))
    (and_from (nat_le 1 (length new) && nat_le (length new) 6) (list_all hex_of new)
    (and_from (nat_le 1 (length new)) (nat_le (length new) 6) (le-leb 1 (length new) some) (le-leb (length new) 6 few))
    (fewest_hex ds q.1)) (ap (λ n. all_scalars (n ∷ [])) (fewest_value ds) ∙ p.1)

-- ---- if the digits of an escape are rewritten again, nothing changes

pub twice_digits : (case : Option Case) (ds : List (ℕ × ℕ)) → map (cased_digit case) (map (cased_digit case) ds)
    ≡ map (cased_digit case) ds
twice_digits case [] = refl
twice_digits case (d ∷ ds) =
    let one : (ℕ × ℕ) = (cased case d.0, d.1) in
    ap (λ n. (n, d.1) ∷ map (cased_digit case) (map (cased_digit case) ds)) (twice_cased case d.0)
    ∙ ap (λ z. one ∷ z) (twice_digits case ds)

cased_zero : (case : Option Case) (c : ℕ) → (cased case c == 48) ≡ (c == 48)
cased_zero case c =
    elim (cases_lt c 128) [
      | inl a ↦ low case c a
      | inr a ↦ ap (λ z. z == 48) (cased_past case c a)
    ]
  where
    low : (case : Option Case) (c : ℕ) → c < 128 → (cased case c == 48) ≡ (c == 48)
    low None c a = refl
    low (Some Upper) c a = agree_below_at (λ c. upper_case c == 48) (λ c. c == 48) 128 c refl a
    low (Some Lower) c a = agree_below_at (λ c. lower_case c == 48) (λ c. c == 48) 128 c refl a

bare_cased : (case : Option Case) (ds : List (ℕ × ℕ)) → map (cased_digit case) (map bare_digit ds)
    ≡ map bare_digit (map (cased_digit case) ds)
bare_cased case [] = refl
bare_cased case (d ∷ ds) = let one : (ℕ × ℕ) = (cased case d.0, 0) in ap (λ z. one ∷ z) (bare_cased case ds)

fewest_cased : (case : Option Case) (ds : List (ℕ × ℕ)) → fewest_digits (map (cased_digit case) ds)
    ≡ map (cased_digit case) (fewest_digits ds)
fewest_cased case [] = refl
fewest_cased case (d ∷ []) = refl
fewest_cased case (d ∷ e ∷ ds) =
    let more : List (ℕ × ℕ) = map (cased_digit case) (e ∷ ds) in
    ap (λ b. cond b (fewest_digits more) (map bare_digit (map (cased_digit case) (d ∷ e ∷ ds)))) (cased_zero case d.0)
    ∙ go (d.0 == 48) (fewest_cased case (e ∷ ds))
  where
    go : (b : Bool) → fewest_digits (map (cased_digit case) (e ∷ ds)) ≡ map (cased_digit case) (fewest_digits (e ∷ ds))
        → cond b (fewest_digits (map (cased_digit case) (e ∷ ds)))
        (map bare_digit (map (cased_digit case) (d ∷ e ∷ ds)))
        ≡ map (cased_digit case) (cond b (fewest_digits (e ∷ ds)) (map bare_digit (d ∷ e ∷ ds)))
    go true more = more
    go false more = sym (bare_cased case (d ∷ e ∷ ds))

bare_twice : (ds : List (ℕ × ℕ)) → map bare_digit (map bare_digit ds) ≡ map bare_digit ds
bare_twice [] = refl
bare_twice (d ∷ ds) = let one : (ℕ × ℕ) = (d.0, 0) in ap (λ z. one ∷ z) (bare_twice ds)

fewest_twice : (ds : List (ℕ × ℕ)) → fewest_digits (fewest_digits ds) ≡ fewest_digits ds
fewest_twice [] = refl
fewest_twice (d ∷ []) = refl
fewest_twice (d ∷ e ∷ ds) = go (d.0 == 48) refl (fewest_twice (e ∷ ds))
  where
    all : List (ℕ × ℕ)
    all = map bare_digit (d ∷ e ∷ ds)

    go : (b : Bool) → (d.0 == 48) ≡ b → fewest_digits (fewest_digits (e ∷ ds)) ≡ fewest_digits (e ∷ ds)
        → fewest_digits (cond b (fewest_digits (e ∷ ds)) all) ≡ cond b (fewest_digits (e ∷ ds)) all
    go true z more = more
    go false z more = ap (λ b. cond b (fewest_digits (map bare_digit (e ∷ ds))) (map bare_digit all)) z
        ∙ bare_twice (d ∷ e ∷ ds)

pub code_twice : (style : Style) (ds : List (ℕ × ℕ)) → styled_digits style (styled_digits style ds)
    ≡ styled_digits style ds
code_twice style ds = go style.code_digits
  where
    to : List (ℕ × ℕ) → List (ℕ × ℕ)
    to xs = map (cased_digit style.escape_digits) xs

    go : (b : Bool) → to (cond b (fewest_digits (to (cond b (fewest_digits ds) ds)))
        (to (cond b (fewest_digits ds) ds)))
        ≡ to (cond b (fewest_digits ds) ds)
    go true = ap to (fewest_cased style.escape_digits (fewest_digits ds))
        ∙ twice_digits style.escape_digits (fewest_digits (fewest_digits ds)) ∙ ap to (fewest_twice ds)
    go false = twice_digits style.escape_digits ds

-- ---- the text of an escape's digits

under_gone : (n : ℕ) (t : List ℕ) → after_run is_padding (replicate n 95 ++ t) ≡ after_run is_padding t
under_gone zero t = refl
under_gone (suc n) t = under_gone n t

under_bare : (n : ℕ) (t : List ℕ) → without_underscores (replicate n 95 ++ t) ≡ without_underscores t
under_bare zero t = refl
under_bare (suc n) t = under_bare n t

-- The text of the digits of a `\u{..}` escape, and the closing brace after them.
abbrev closed : List (ℕ × ℕ) → List ℕ
closed ds = flat_map spaced_digit ds ++ (125 ∷ [])

closed_more : (d : ℕ × ℕ) (ds : List (ℕ × ℕ)) → closed (d ∷ ds) ≡ d.0 ∷ (replicate d.1 95 ++ closed ds)
closed_more d ds = ap (λ z. d.0 ∷ z) (append_assoc (replicate d.1 95) (flat_map spaced_digit ds) (125 ∷ []))

not_code : (c k : ℕ) → is_ascii_hexdigit c ≡ true → is_ascii_hexdigit k ≡ false → (c == k) ≡ false
not_code c k h other = not_among c k is_ascii_hexdigit h other

bare_text : (ds : List (ℕ × ℕ)) → list_all hex_of ds ≡ true → without_underscores (closed ds)
    ≡ closed (map bare_digit ds)
bare_text [] h = refl
bare_text (d ∷ ds) h =
    let p = and_parts (is_ascii_hexdigit d.0) (list_all hex_of ds) h in
    let rest : List ℕ = replicate d.1 95 ++ closed ds in
    ap without_underscores (closed_more d ds)
    ∙ ap (λ b. cond (not b) (d.0 ∷ without_underscores rest) (without_underscores rest)) (not_code d.0 95 p.0 refl)
    ∙ ap (λ z. d.0 ∷ z) (under_bare d.1 (closed ds) ∙ bare_text ds p.1)

-- If the first digit of a `\u{..}` escape isn't a zero, the fewest digits are all digits, without the underscores between
-- them.
other_text : (d : ℕ × ℕ) (ds : List (ℕ × ℕ)) → (d.0 == 48) ≡ false → list_all hex_of (d ∷ ds) ≡ true
    → fewest_digits (d ∷ ds) ≡ map bare_digit (d ∷ ds)
other_text d [] z h = refl
other_text d (e ∷ ds) z h = ap (λ b. cond b (fewest_digits (e ∷ ds)) (map bare_digit (d ∷ e ∷ ds))) z

is_other : (c : ℕ) → (c == 48) ≡ false → is_ascii_hexdigit c ≡ true → is_padding c ≡ false
is_other c z h = or_from (c == 48) (c == 95) z (not_code c 95 h refl)

is_pad : (c : ℕ) → (c == 48) ≡ true → is_padding c ≡ true
is_pad c z = ap (λ b. b || c == 95) z

-- The first digit of a `\u{..}` escape is a zero. If leading zeros and underscores are dropped from the text after this
-- digit, the text of the fewest digits remains. If no digit remains, a zero is written.
zero_text : (d : ℕ × ℕ) (ds : List (ℕ × ℕ)) → (d.0 == 48) ≡ true → list_all hex_of ds ≡ true
    → without_underscores (zero_closed (after_run is_padding (closed ds))) ≡ closed (fewest_digits (d ∷ ds))
zero_text d [] z h = ap (λ c. c ∷ 125 ∷ []) (sym (eqb-true d.0 48 z))
zero_text d (e ∷ es) z h =
    go (e.0 == 48) refl (λ y. zero_text e es y (and_parts (is_ascii_hexdigit e.0) (list_all hex_of es) h).1)
    ∙ sym (ap (λ b. closed (cond b (fewest_digits (e ∷ es)) (map bare_digit (d ∷ e ∷ es)))) z)
  where
    rest : List ℕ
    rest = replicate e.1 95 ++ closed es

    go : (b : Bool) → (e.0 == 48) ≡ b → ((e.0 == 48) ≡ true
        → without_underscores (zero_closed (after_run is_padding (closed es))) ≡ closed (fewest_digits (e ∷ es)))
        → without_underscores (zero_closed (after_run is_padding (closed (e ∷ es)))) ≡ closed (fewest_digits (e ∷ es))
    go true y more =
        ap (λ t. without_underscores (zero_closed (after_run is_padding t))) (closed_more e es)
        ∙ ap (λ b. without_underscores (zero_closed (cond b (after_run is_padding rest) (e.0 ∷ rest)))) (is_pad e.0 y)
        ∙ ap (λ t. without_underscores (zero_closed t)) (under_gone e.1 (closed es))
        ∙ more y
    go false y more =
        let hex = (and_parts (is_ascii_hexdigit e.0) (list_all hex_of es) h).0 in
        ap (λ t. without_underscores (zero_closed (after_run is_padding t))) (closed_more e es)
        ∙ ap (λ b. without_underscores (zero_closed (cond b (after_run is_padding rest) (e.0 ∷ rest))))
        (is_other e.0 y hex)
        ∙ ap (λ b. without_underscores (cond b (48 ∷ e.0 ∷ rest) (e.0 ∷ rest))) (not_code e.0 125 hex refl)
        ∙ ap without_underscores (sym (closed_more e es)) ∙ bare_text (e ∷ es) h
        ∙ ap closed (sym (other_text e es y h))

pub fewest_is : (ds : List (ℕ × ℕ)) → list_all hex_of ds ≡ true → fewest_text (closed ds) ≡ closed (fewest_digits ds)
fewest_is [] h = refl
fewest_is (d ∷ ds) h = go (d.0 == 48) refl
  where
    rest : List ℕ
    rest = replicate d.1 95 ++ closed ds

    go : (b : Bool) → (d.0 == 48) ≡ b → fewest_text (closed (d ∷ ds)) ≡ closed (fewest_digits (d ∷ ds))
    go true z =
        ap fewest_text (closed_more d ds)
        ∙ ap (λ b. cond b (without_underscores (zero_closed (after_run is_padding rest)))
        (without_underscores (d.0 ∷ rest))) (is_pad d.0 z)
        ∙ ap (λ t. without_underscores (zero_closed t)) (under_gone d.1 (closed ds))
        ∙ zero_text d ds z (and_parts (is_ascii_hexdigit d.0) (list_all hex_of ds) h).1
    go false z =
        ap fewest_text (closed_more d ds)
        ∙ ap (λ b. cond b (without_underscores (zero_closed (after_run is_padding rest)))
        (without_underscores (d.0 ∷ rest))) (is_other d.0 z (and_parts (is_ascii_hexdigit d.0) (list_all hex_of ds)
        h).0)
        ∙ ap without_underscores (sym (closed_more d ds)) ∙ bare_text (d ∷ ds) h
        ∙ ap closed (sym (other_text d ds z h))

-- ---- the loop that writes the digits

-- The code has written the characters `xs` in the given case, without underscores. If it then writes the character `c` in
-- this case, it has written `xs` and `c` in this way. The character `c` isn't an underscore.
pub bare_more : (case : Option Case) (p a b xs : List ℕ) (c : ℕ) → a
    ≡ p ++ encode_utf8_all (map (cased case) (without_underscores xs)) → (c == 95) ≡ false
    → b ≡ a ++ encode_utf8 (cased case c)
    → b ≡ p ++ encode_utf8_all (map (cased case) (without_underscores (xs ++ (c ∷ []))))
bare_more case p a b xs c e other w =
    cased_more case p a b (without_underscores xs) c e w
    ∙ ap (λ z. p ++ encode_utf8_all (map (cased case) z)) (sym (filter-append (λ c. not (c == 95)) xs (c ∷ [])
    ∙ ap (λ z. without_underscores xs ++ cond (not z) (c ∷ []) []) other))

pub under_more : (case : Option Case) (p a xs : List ℕ) (c : ℕ) → a
    ≡ p ++ encode_utf8_all (map (cased case) (without_underscores xs)) → (c == 95) ≡ true
    → a ≡ p ++ encode_utf8_all (map (cased case) (without_underscores (xs ++ (c ∷ []))))
under_more case p a xs c e one =
    e ∙ ap (λ z. p ++ encode_utf8_all (map (cased case) z)) (sym (filter-append (λ c. not (c == 95)) xs (c ∷ [])
    ∙ ap (λ z. without_underscores xs ++ cond (not z) (c ∷ []) []) one ∙ append-nil (without_underscores xs)))
