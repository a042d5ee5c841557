-- A raw string that becomes a string with escapes keeps its kind, value and suffix.
use Rattle.rl_syntax.proofs.Common.{◌≡◌, ℕ, ◌||◌, ◌&&◌, Bool, true, false, not, ◌==◌, cond, nat_lt, List, [], ◌∷◌, ◌++◌, map, refl, sym, ap, ◌∙◌, arith, and_from, and_parts, eqb-true, list_all, flat_map, encodes-append, is_ascii_digit, encode_utf8_all}
use Rattle.rl_lenient.proofs.Names.{Kind, Str, ByteStr, CStr, Byte, Char, Int, Float, BoolKind, Contents, StrictUnit, Itself, QuoteEscape, PlainEscape, is_string, strict_contents, strict_content_of, is_strict_unit, strict_text, quoted_contents}
use Rattle.rl_syntax.specs.Strict.{BlanksEnd, HasUnits, IsRawInside, StrictCooked, StrictRaw, is_bare_in_string, is_plain_letter, plain_escapes, plain_value_in, strict_closer, strict_opener}
use Rattle.rl_syntax.proofs.StrictQuoted.{between}
use Rattle.rl_style.specs.declared.style.Style.{Style}
use Rattle.rl_style.specs.Mirrors.{itself_text, raw_character, raw_inside}
use Rattle.rl_style.specs.Rewriting.{LosesRaw, RewritesCooked, SameLiteral, digit_follows, raw_unit, restyled, restyled_inside}
use Rattle.rl_style.proofs.CaseLemmas.{none_right}
use Rattle.rl_style.proofs.HiddenUnits.{held_low}
use Rattle.rl_style.proofs.SameRaw.{raw_strict, raw_string}
use Rattle.rl_style.proofs.SameUnits.{cooked_strict, cooked_stays}
use Rattle.rl_style.proofs.SameUnits as units
use Rattle.rl_style.proofs.UnitTexts.{itself_restyled}
use Rattle.rl_style.proofs.UnitRows.{digit_ascii, digit_bytes}
use Rattle.rl_syntax.specs.Texts.{first_passes}

-- ---- the new form of one character of a raw string

abbrev unit_by : Bool → Bool → ℕ → StrictUnit
unit_by a b c = cond a (QuoteEscape c) (cond b (PlainEscape c) (Itself c))

-- A character of a raw string becomes an escaped quote, an escaped backslash or the character itself. If a property holds for
-- each of these three forms, it holds for the new form of the character.
raw_any : (P : StrictUnit → Type 0) (c : ℕ) → ((c == 34) ≡ true → P (QuoteEscape c))
    → ((c == 92) ≡ true → P (PlainEscape c)) → ((c == 34) ≡ false → (c == 92) ≡ false → P (Itself c)) → P (raw_unit c)
raw_any P c quote backslash other = go (c == 34) (c == 92) refl refl
  where
    go : (a b : Bool) → (c == 34) ≡ a → (c == 92) ≡ b → P (unit_by a b c)
    go true b e f = quote e
    go false true e f = backslash f
    go false false e f = other e f

quote_is : (c : ℕ) → (c == 34) ≡ true → (c == 39 || c == 34) ≡ true
quote_is c e = ap (λ z. z == 39 || z == 34) (eqb-true c 34 e)

plain_is : (c : ℕ) → (c == 92) ≡ true → is_plain_letter c ≡ true
plain_is c e = ap is_plain_letter (eqb-true c 92 e)

bare_is : (c : ℕ) → (c == 34) ≡ false → (c == 92) ≡ false → not (c == 13) ≡ true → is_bare_in_string c ≡ true
bare_is c a b h =
    ap (λ z. not ((z || c == 92) || c == 13)) a ∙ ap (λ z. not (z || c == 13)) b ∙ h

str_unit : (c : ℕ) → not (c == 13) ≡ true → is_strict_unit Str (raw_unit c) ≡ true
str_unit c h = raw_any (λ u. is_strict_unit Str u ≡ true) c (quote_is c) (plain_is c) (λ a b. bare_is c a b h)

byte_unit : (c : ℕ) → nat_lt c 128 ≡ true → not (c == 13) ≡ true → is_strict_unit ByteStr (raw_unit c) ≡ true
byte_unit c low h = raw_any (λ u. is_strict_unit ByteStr u ≡ true) c (quote_is c) (plain_is c)
    (λ a b. and_from (nat_lt c 128) (is_bare_in_string c) low (bare_is c a b h))

c_unit : (c : ℕ) → not (c == 0) ≡ true → not (c == 13) ≡ true → is_strict_unit CStr (raw_unit c) ≡ true
c_unit c some h = raw_any (λ u. is_strict_unit CStr u ≡ true) c (quote_is c)
    (λ e. ap (λ z. is_plain_letter z && not (z == 48)) (eqb-true c 92 e))
    (λ a b. and_from (is_bare_in_string c) (not (c == 0)) (bare_is c a b h) some)

-- ---- the content of a raw string, as characters and escapes

no_return : (c : ℕ) (cs : List ℕ) → list_all (λ c. not (c == 13)) (c ∷ cs) ≡ true
    → (not (c == 13) ≡ true) × (list_all (λ c. not (c == 13)) cs ≡ true)
no_return c cs h = and_parts (not (c == 13)) (list_all (λ c. not (c == 13)) cs) h

raw_allowed : (k : Kind) (cs : List ℕ) → IsRawInside k cs → list_all (λ c. not (c == 13)) cs ≡ true
    → list_all (is_strict_unit k) (map raw_unit cs) ≡ true
raw_allowed k [] is h = refl
raw_allowed Str (c ∷ cs) is h =
    let p = no_return c cs h in
    and_from _ _ (str_unit c p.0) (raw_allowed Str cs tt p.1)
raw_allowed ByteStr (c ∷ cs) is h =
    let p = no_return c cs h in
    let q = and_parts (nat_lt c 128) (list_all (λ c. nat_lt c 128) cs) is in
    and_from _ _ (byte_unit c q.0 p.0) (raw_allowed ByteStr cs q.1 p.1)
raw_allowed CStr (c ∷ cs) is h =
    let p = no_return c cs h in
    let q = and_parts (not (c == 0)) (list_all (λ c. not (c == 0)) cs) is in
    and_from _ _ (c_unit c q.0 p.0) (raw_allowed CStr cs q.1 p.1)
raw_allowed kind (c ∷ cs) is h = absurd is

raw_ends : (cs : List ℕ) → BlanksEnd (map raw_unit cs)
raw_ends [] = tt
raw_ends (c ∷ cs) =
    let more = raw_ends cs in
    raw_any (λ u. BlanksEnd (u ∷ map raw_unit cs)) c (λ e. more) (λ e. more) (λ a b. more)

one_content : (k : Kind) (c : ℕ) → strict_contents (strict_content_of k) (raw_unit c) ≡ strict_content_of k (c ∷ [])
one_content k c = raw_any (λ u. strict_contents (strict_content_of k) u ≡ strict_content_of k (c ∷ [])) c
    (λ e. sym (held_low k c (let n = eqb-true c 34 e in omega (arith, n))))
    (λ e. ap (plain_value_in plain_escapes) (eqb-true c 92 e) ∙ ap (λ z. z ∷ []) (sym (eqb-true c 92 e))
    ∙ sym (held_low k c (let n = eqb-true c 92 e in omega (arith, n)))) (λ a b. refl)

joined_content : (k : Kind) (c : ℕ) (cs : List ℕ) → strict_content_of k (c ∷ []) ++ strict_content_of k cs
    ≡ strict_content_of k (c ∷ cs)
joined_content CStr c cs = sym (encodes-append (c ∷ []) cs)
joined_content Str c cs = refl
joined_content ByteStr c cs = refl
joined_content Byte c cs = refl
joined_content Char c cs = refl
joined_content Int c cs = refl
joined_content Float c cs = refl
joined_content BoolKind c cs = refl

no_content : (k : Kind) → [] ≡ strict_content_of k []
no_content CStr = refl
no_content Str = refl
no_content ByteStr = refl
no_content Byte = refl
no_content Char = refl
no_content Int = refl
no_content Float = refl
no_content BoolKind = refl

raw_contents : (k : Kind) (cs : List ℕ) → flat_map (strict_contents (strict_content_of k)) (map raw_unit cs)
    ≡ strict_content_of k cs
raw_contents k [] = no_content k
raw_contents k (c ∷ cs) =
    ap (λ z. z ++ flat_map (strict_contents (strict_content_of k)) (map raw_unit cs)) (one_content k c)
    ∙ ap (λ z. strict_content_of k (c ∷ []) ++ z) (raw_contents k cs) ∙ joined_content k c cs

-- ---- the string with escapes that replaces a raw string

abbrev pub escaped_text : Kind → List ℕ → List ℕ → List ℕ
escaped_text k inside x = strict_opener k ++ (flat_map strict_text (map raw_unit inside) ++ (strict_closer k ++ x))

some_units : (k : Kind) (us : List StrictUnit) → is_string k ≡ true → HasUnits k us
some_units Str us h = tt
some_units ByteStr us h = tt
some_units CStr us h = tt
some_units kind us h = absurd (cc)

abbrev escaped : (t : List ℕ) (k : Kind) (v : Contents) (x : List ℕ) (s : StrictRaw t k v x)
    → StrictCooked (escaped_text k s.inside x) k v x
escaped t k v x s = record {
  units = map raw_unit s.inside;
  count = some_units k (map raw_unit s.inside) (raw_string t k v x s);
  each = raw_allowed k s.inside s.allowed s.no_carriage_return;
  blanks_end = raw_ends s.inside;
  suffix = s.suffix;
  text = sym (between (strict_opener k) (flat_map strict_text (map raw_unit s.inside)) (strict_closer k) x);
  contents = s.contents ∙ ap (quoted_contents k) (sym (raw_contents k s.inside));
}

pub lost : (style : Style) (front t u : List ℕ) → (c : LosesRaw style front t u)
    → StrictCooked u c.kind c.contents c.suffix
lost style front t u c = units.written style (escaped_text c.kind c.raw.inside c.suffix) u c.kind c.contents c.suffix
    (escaped t c.kind c.contents c.suffix c.raw) c.new_is

pub lost_same : (style : Style) (front t u : List ℕ) → LosesRaw style front t u → SameLiteral t u
lost_same style front t u c = record {
  kind = c.kind;
  contents = c.contents;
  suffix = c.suffix;
  was = raw_strict t c.kind c.contents c.suffix c.raw;
  is = cooked_strict u c.kind c.contents c.suffix (lost style front t u c);
}

pub lost_stays : (style : Style) (front t u : List ℕ) → LosesRaw style front t u → RewritesCooked style u u
lost_stays style front t u c = cooked_stays style (escaped_text c.kind c.raw.inside c.suffix) u (record {
  kind = c.kind;
  contents = c.contents;
  suffix = c.suffix;
  cooked = escaped t c.kind c.contents c.suffix c.raw;
  new_is = c.new_is;
})

-- ---- the text that the code writes for a raw string

-- In a string with escapes that replaces a raw string, each double quote keeps its backslash, since it would close the
-- string.
quote_kept : (style : Style) (k : Kind) (z : Bool) (c : ℕ) → is_string k ≡ true → (c == 34) ≡ true
    → 92 ∷ c ∷ [] ≡ strict_text (restyled style k z (QuoteEscape c))
quote_kept style k z c s e = go k s
  where
    kept : 92 ∷ c ∷ [] ≡ strict_text (cond (style.quote_escapes && not (c == 34)) (Itself c) (QuoteEscape c))
    kept = sym (ap (λ b. strict_text (cond (style.quote_escapes && not b) (Itself c) (QuoteEscape c))) e
        ∙ ap (λ b. strict_text (cond b (Itself c) (QuoteEscape c))) (none_right style.quote_escapes))

    go : (k : Kind) → is_string k ≡ true → 92 ∷ c ∷ [] ≡ strict_text (restyled style k z (QuoteEscape c))
    go Str s = kept
    go ByteStr s = kept
    go CStr s = kept
    go kind s = absurd (cc)

one_text : (style : Style) (k : Kind) (z : Bool) (c : ℕ) → is_string k ≡ true
    → raw_character style z c ≡ strict_text (restyled style k z (raw_unit c))
one_text style k z c s = go (c == 34) (c == 92) refl refl
  where
    go : (a b : Bool) → (c == 34) ≡ a → (c == 92) ≡ b → cond (a || b) (92 ∷ c ∷ []) (itself_text style z c)
        ≡ strict_text (restyled style k z (unit_by a b c))
    go true b e f = quote_kept style k z c s e
    go false true e f = refl
    go false false e f = itself_restyled style k z z c refl

-- The value of a character begins with an ASCII digit if and only if the character is an ASCII digit.
digit_content : (k : Kind) (c : ℕ) → first_passes is_ascii_digit (strict_content_of k (c ∷ [])) ≡ is_ascii_digit c
digit_content CStr c = digit_ascii (encode_utf8_all (c ∷ [])) ∙ sym (digit_bytes c)
digit_content Str c = refl
digit_content ByteStr c = refl
digit_content Byte c = refl
digit_content Char c = refl
digit_content Int c = refl
digit_content Float c = refl
digit_content BoolKind c = refl

raw_follows : (k : Kind) (cs : List ℕ) → digit_follows k (map raw_unit cs) ≡ first_passes is_ascii_digit cs
raw_follows k [] = refl
raw_follows k (c ∷ cs) = ap (first_passes is_ascii_digit) (one_content k c) ∙ digit_content k c

pub raw_texts : (style : Style) (k : Kind) (cs : List ℕ) → is_string k ≡ true → raw_inside style cs
    ≡ restyled_inside style k (map raw_unit cs)
raw_texts style k [] s = refl
raw_texts style k (c ∷ cs) s =
    let x : Bool = not (first_passes is_ascii_digit cs) in
    let z : Bool = not (digit_follows k (map raw_unit cs)) in
    ap (λ b. raw_character style b c ++ raw_inside style cs) (ap not (sym (raw_follows k cs)))
    ∙ ap (λ t. t ++ raw_inside style cs) (one_text style k z c s)
    ∙ ap (λ t. strict_text (restyled style k z (raw_unit c)) ++ t) (raw_texts style k cs s)
