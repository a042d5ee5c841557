-- Quoted literals of `syn`'s grammar, by both definitions.
use Rattle.rl_syntax.proofs.Common.{◌≡◌, ◌⊎◌, ℕ, ◌≤◌, ◌||◌, ◌&&◌, Bool, true, false, not, eqb, List, [], ◌∷◌, ◌++◌, refl, sym, ap, subst, ◌∙◌, inl, inr, append_assoc, AllByRecursion, list_all, list_any, list_all-append, length, replicate, and_parts, and_from, or_parts, encode_ascii, not_from_false, eqb-true, ltb-true, nat_lt, nat_le, is_ascii, all_scalars, encode_utf8_all, codes}
use Rattle.std.specs.Prelude.{◌↔◌}
use Rattle.std.specs.Char.{IsScalar}
use Rattle.std.proofs.lemmas.Bool.{leb-true, le-leb, false≢true, false_from_ne_true}
use Rattle.rl_syntax.specs.declared.kind.Kind.{Kind}
use Rattle.rl_syntax.specs.declared.kind.Kind.TheVariants.{Str, ByteStr, CStr, Byte, Char}
use Rattle.rl_syntax.specs.Texts.{first_passes, is_blank, is_underscore, is_run_part}
use Rattle.rl_syntax.specs.Spelling.{place_value, without_underscores}
use Rattle.rl_syntax.specs.Quoted.{Letter, LowerN, LowerR, LowerT, Backslash, Apostrophe, Quote, Zero, letter_text, letter_value, QuotedUnit, Plain, CrLf, Named, Hex, Unicode, Continuation, unit_text, unit_value, unicode_value, is_hex_digit, is_line_end, IsUnit, texts, EndsBefore, ContinuationsEnd, opener, raw_opener, content_of, is_raw, is_string, is_single, Cooked, Raw, Single}
use Rattle.rl_syntax.proofs.Basics.{all_same, passes_same, hex_is_sixteen}
use Rattle.rl_theorem.specs.Notation.{Rule, Text, One, Many, As, If, Means, ◌⋅◌, but}
use Rattle.rl_theorem.specs.RustRules.{digit, digits, byte_escape, byte_literal}
use Rattle.rl_theorem.specs.SynRules.{backslash_u, line_continue, parse_lit_char, str_inside, byte_str_inside, c_str_inside, raw_to_last}
use Rattle.rl_theorem.proofs.RuleParts.{between, text_then, then_text, close_then, then_close, NoneAt, unless_then, then_unless, none_passes, passes_none, IsRuleOf, Row, many_to, many_from, run_to, run_from, parts_to, parts_from, all_pass, or_same}
use Rattle.rl_theorem.proofs.EscapeRules.{hex_text, hex_value, hex_to as x_to, hex_from as x_from}
use Rattle.rl_theorem.proofs.QuotedRules.{in_quotes, in_string, alone, passes_cut, passes_joined}
use Rattle.rl_theorem.proofs.NumberRules.{of_base, without_digit, split}

-- ---- escapes

letter_to : (l : Letter) (after : List ℕ) → Means byte_escape (92 ∷ letter_text l ∷ []) after (letter_value l ∷ [])
letter_to LowerN after = inr (inl (inl ([], (refl, refl), refl)))
letter_to LowerR after = inr (inl (inr (inl ([], (refl, refl), refl))))
letter_to LowerT after = inr (inl (inr (inr (inl ([], (refl, refl), refl)))))
letter_to Backslash after = inr (inl (inr (inr (inr (inl ([], (refl, refl), refl))))))
letter_to Zero after = inr (inl (inr (inr (inr (inr ([], (refl, refl), refl))))))
letter_to Apostrophe after = inr (inr (inl ([], (refl, refl), refl)))
letter_to Quote after = inr (inr (inr ([], (refl, refl), refl)))

hex_to : (high low : ℕ) (after : List ℕ) → is_hex_digit high ≡ true → is_hex_digit low ≡ true
    → Means byte_escape (hex_text high low) after (hex_value high low)
hex_to high low after h l = inl (x_to 16 high low after h (hex_is_sixteen low ∙ l))

-- An escape that BYTE_ESCAPE has: `\x`, or an escape of one character.
abbrev Escape : List ℕ → List ℕ → Type 0
Escape text value =
    ((high low : ℕ) × (is_hex_digit high ≡ true) × (is_hex_digit low ≡ true) × (text ≡ hex_text high low) × (value ≡ hex_value high low))
    ⊎ ((l : Letter) × (text ≡ 92 ∷ letter_text l ∷ []) × (value ≡ letter_value l ∷ []))

escape_from : (text after value : List ℕ) → Means byte_escape text after value → Escape text value
escape_from text after value (inl m) =
    let (high, low, h, l, t, v) = x_from 16 text after value m in
    inl (high, low, h, sym (hex_is_sixteen low) ∙ l, t, v)
escape_from text after value (inr (inl (inl (x, (t, e), v)))) = inr (LowerN, t, v)
escape_from text after value (inr (inl (inr (inl (x, (t, e), v))))) = inr (LowerR, t, v)
escape_from text after value (inr (inl (inr (inr (inl (x, (t, e), v)))))) = inr (LowerT, t, v)
escape_from text after value (inr (inl (inr (inr (inr (inl (x, (t, e), v))))))) = inr (Backslash, t, v)
escape_from text after value (inr (inl (inr (inr (inr (inr (x, (t, e), v))))))) = inr (Zero, t, v)
escape_from text after value (inr (inr (inl (x, (t, e), v)))) = inr (Apostrophe, t, v)
escape_from text after value (inr (inr (inr (x, (t, e), v)))) = inr (Quote, t, v)

-- ---- `\u{..}`

swapped : (cs : List ℕ) → list_all (λ c. is_underscore c || is_hex_digit c) cs ≡ list_all (is_run_part (of_base 16)) cs
swapped cs = all_same (λ c. is_underscore c || is_hex_digit c) (is_run_part (of_base 16)) (λ c. go (is_underscore c) (is_hex_digit c)) cs
  where
    go : (a b : Bool) → (a || b) ≡ (b || a)
    go true true = refl
    go true false = refl
    go false true = refl
    go false false = refl

abbrev is_scalar : List ℕ → Bool
is_scalar ds = nat_le (length ds) 6 && all_scalars (place_value 16 ds ∷ [])

abbrev scalar_digits : Rule
scalar_digits = As (λ ds. place_value 16 ds ∷ []) (If is_scalar (digit 16 ⋅ digits 16))

record IsScalarText (first : ℕ) (more : List ℕ) : Type 0 where
  pub is_first : is_hex_digit first ≡ true
  pub each : list_all (λ c. is_underscore c || is_hex_digit c) more ≡ true
  pub few : length (without_underscores (first ∷ more)) ≤ 6
  pub scalar : IsScalar (unicode_value first more)

unicode_to : (first : ℕ) (more after : List ℕ) → IsScalarText first more
    → Means backslash_u (unit_text (Unicode first more)) after (unicode_value first more ∷ [])
unicode_to first more after s =
    let kept = without_digit 16 first more refl s.is_first in
    let test = and_from (nat_le (length (without_underscores (first ∷ more))) 6) (all_scalars (unicode_value first more ∷ []))
    (le-leb (length (without_underscores (first ∷ more))) 6 s.few) (and_from _ true s.scalar refl) in
    text_then (92 ∷ 117 ∷ 123 ∷ []) (scalar_digits ⋅ Text (125 ∷ [])) (first ∷ (more ++ 125 ∷ [])) after (unicode_value first more ∷ [])
    (close_then (125 ∷ []) scalar_digits (first ∷ more) after (unicode_value first more ∷ []) (
      without_underscores (first ∷ more),
      (
        test,
        (
          first ∷ [],
          more,
          first ∷ [],
          without_underscores more,
          refl,
          kept,
          (first, s.is_first, refl, refl),
          parts_to (of_base 16) refl more (125 ∷ after) (sym (swapped more) ∙ s.each),
        ),
      ),
      refl,
    ))

unicode_from : (text after value : List ℕ) → Means backslash_u text after value
    → (first : ℕ) × (more : List ℕ) × IsScalarText first more × (text ≡ unit_text (Unicode first more)) × (value ≡ unicode_value first more ∷ [])
unicode_from text after value m =
    let (w, text_is, rest) = then_text (92 ∷ 117 ∷ 123 ∷ []) (scalar_digits ⋅ Text (125 ∷ [])) text after value m in
    let (u, w_is, (x, (test, (a, more, p, q, u_is, x_is, (first, is_first, a_is, p_is), run)), value_is)) =
    then_close (125 ∷ []) scalar_digits w after value rest in
    let (all, q_is) = parts_from (of_base 16) refl more (125 ∷ after) q run in
    let ds : x ≡ without_underscores (first ∷ more) = x_is ∙ ap (λ k. k ++ q) p_is ∙ ap (λ k. first ∷ k) q_is ∙ sym (without_digit 16 first more refl is_first) in
    let (few, scalar) = and_parts (nat_le (length (without_underscores (first ∷ more))) 6) (all_scalars (unicode_value first more ∷ [])) (ap is_scalar (sym ds) ∙ test) in (
      first,
      more,
      record { is_first = is_first; each = swapped more ∙ all; few = leb-true (length (without_underscores (first ∷ more))) 6 few; scalar = (and_parts _ true scalar).0 },
      text_is ∙ ap (λ k. 92 ∷ 117 ∷ 123 ∷ k) (w_is ∙ ap (λ k. k ++ 125 ∷ []) (u_is ∙ ap (λ k. k ++ more) a_is)),
      value_is ∙ ap (λ k. place_value 16 k ∷ []) ds,
    )

-- ---- escaped line ends

abbrev is_space : ℕ → Bool
is_space c = eqb c 32 || (eqb c 9 || (eqb c 10 || (eqb c 13 || false)))

spaces : (c : ℕ) → is_blank c ≡ is_space c
spaces c = or_same (eqb c 32) (eqb c 9 ∷ eqb c 10 ∷ eqb c 13 ∷ [])

abbrev is_end : ℕ → Bool
is_end c = eqb c 10 || (eqb c 13 || false)

line_ends : (c : ℕ) → is_line_end c ≡ is_end c
line_ends c = or_same (eqb c 10) (eqb c 13 ∷ [])

abbrev line_break : Rule
line_break = Text (92 ∷ []) ⋅ One is_end ⋅ Many (One is_space)

continue_to : (e : ℕ) (run after : List ℕ) → is_line_end e ≡ true → list_all is_blank run ≡ true
    → first_passes is_blank after ≡ false → Means line_continue (92 ∷ e ∷ run) after []
continue_to e run after is_e each at_end =
    unless_then (As (λ v. []) line_break) (One is_space) (92 ∷ e ∷ run) after [] (
      e ∷ run,
      text_then (92 ∷ []) (One is_end ⋅ Many (One is_space)) (e ∷ run) after (e ∷ run) (
        e ∷ [],
        run,
        e ∷ [],
        run,
        refl,
        refl,
        (e, sym (line_ends e) ∙ is_e, refl, refl),
        run_to is_space run after (sym (all_same is_blank is_space spaces run) ∙ each),
      ),
      refl,
    ) (none_passes is_space after (sym (passes_same is_blank is_space spaces after) ∙ at_end))

continue_from : (text after value : List ℕ) → Means line_continue text after value
    → (e : ℕ) × (run : List ℕ) × (is_line_end e ≡ true) × (list_all is_blank run ≡ true) × (first_passes is_blank after ≡ false)
    × (text ≡ 92 ∷ e ∷ run) × (value ≡ [])
continue_from text after value m =
    let ((x, inner, value_is), none) = then_unless (As (λ v. []) line_break) (One is_space) text after value m in
    let (w, text_is, (a, run, p, q, w_is, x_is, (e, is_e, a_is, p_is), blanks)) = then_text (92 ∷ []) (One is_end ⋅ Many (One is_space)) text after x inner in (
      e,
      run,
      line_ends e ∙ is_e,
      all_same is_blank is_space spaces run ∙ (run_from is_space run after q blanks).0,
      passes_same is_blank is_space spaces after ∙ passes_none is_space after none,
      text_is ∙ ap (λ k. 92 ∷ k) (w_is ∙ ap (λ k. k ++ run) a_is),
      value_is,
    )

-- ---- units of each kind

abbrev pub Fits : Kind → QuotedUnit → List ℕ → Type 0
Fits kind u after = IsUnit kind u × EndsBefore u after

abbrev pub UnitRule : Kind → Rule → Type 0
UnitRule kind a = IsRuleOf a unit_text (unit_value kind) (Fits kind)

abbrev Found : Kind → List ℕ → List ℕ → List ℕ → Type 0
Found kind text after value = (u : QuotedUnit) × Fits kind u after × (text ≡ unit_text u) × (value ≡ unit_value kind u)

ascii_letter : (l : Letter) → list_all is_ascii (letter_value l ∷ []) ≡ true
ascii_letter LowerN = refl
ascii_letter LowerR = refl
ascii_letter LowerT = refl
ascii_letter Backslash = refl
ascii_letter Apostrophe = refl
ascii_letter Quote = refl
ascii_letter Zero = refl

pub ascii_itself : (c : ℕ) → nat_lt c 128 ≡ true → encode_utf8_all (c ∷ []) ≡ c ∷ []
ascii_itself c h = (ap (λ z. z ++ []) (encode_ascii c (ltb-true c 128 h)))

not_slash : (c : ℕ) → not (eqb c 92) ≡ but (codes "\\") c
not_slash c = ap not (or_same (eqb c 92) [])

abbrev pub char_inside : Rule
char_inside = between parse_lit_char

char_unit : UnitRule Char char_inside
char_unit = record { to = to; from = from }
  where
    to : (u : QuotedUnit) (after : List ℕ) → Fits Char u after → Means char_inside (unit_text u) after (unit_value Char u)
    to (Plain c) after (h, e) = inl (c, sym (not_slash c) ∙ h, refl, refl)
    to CrLf after (h, e) = absurd (cc)
    to (Named l) after (h, e) = inr (inl (ascii_letter l, letter_to l after))
    to (Hex high low) after ((h, l, small), e) = inr (inl (sym (alone _) ∙ small, hex_to high low after h l))
    to (Unicode first more) after ((k, h, each, few, scalar, z), e) =
        inr (inr (unicode_to first more after (record { is_first = h; each = each; few = few; scalar = scalar })))
    to (Continuation end run) after ((h, i, j), e) = absurd (cc)

    from : (text after value : List ℕ) → Means char_inside text after value → Found Char text after value
    from text after value (inl (c, is, t, v)) = (Plain c, (not_slash c ∙ is, tt), t, v)
    from text after value (inr (inl (small, m))) =
        elim (escape_from text after value m) [
          | inl (high, low, h, l, t, v) ↦ (Hex high low, ((h, l, alone _ ∙ ap (list_all is_ascii) (sym v) ∙ small), tt), t, v)
          | inr (l, t, v) ↦ (Named l, (refl, tt), t, v)
        ]
    from text after value (inr (inr m)) =
        let (first, more, s, t, v) = unicode_from text after value m in
        (Unicode first more, ((refl, s.is_first, s.each, s.few, s.scalar, refl), tt), t, v)

abbrev pub byte_inside : Rule
byte_inside = between byte_literal

byte_unit : UnitRule Byte byte_inside
byte_unit = record { to = to; from = from }
  where
    to : (u : QuotedUnit) (after : List ℕ) → Fits Byte u after → Means byte_inside (unit_text u) after (unit_value Byte u)
    to (Plain c) after (h, e) = inl (c, ap (λ b. nat_lt c 128 && b) (sym (in_quotes c)) ∙ h, refl, ascii_itself c (and_parts (nat_lt c 128) _ h).0)
    to CrLf after (h, e) = absurd (cc)
    to (Named l) after (h, e) = inr (letter_to l after)
    to (Hex high low) after ((h, l, small), e) = inr (hex_to high low after h l)
    to (Unicode first more) after ((k, h, each, few, scalar, z), e) = absurd (cc)
    to (Continuation end run) after ((h, i, j), e) = absurd (cc)

    from : (text after value : List ℕ) → Means byte_inside text after value → Found Byte text after value
    from text after value (inl (c, is, t, v)) =
        (Plain c, (ap (λ b. nat_lt c 128 && b) (in_quotes c) ∙ is, tt), t, v ∙ sym (ascii_itself c (and_parts (nat_lt c 128) _ is).0))
    from text after value (inr m) =
        elim (escape_from text after value m) [
          | inl (high, low, h, l, t, v) ↦ (Hex high low, ((h, l, refl), tt), t, v)
          | inr (l, t, v) ↦ (Named l, (refl, tt), t, v)
        ]

pub str_unit : UnitRule Str str_inside
str_unit = record { to = to; from = from }
  where
    to : (u : QuotedUnit) (after : List ℕ) → Fits Str u after → Means str_inside (unit_text u) after (unit_value Str u)
    to (Plain c) after (h, e) = inl (c, sym (in_string c) ∙ h, refl, refl)
    to CrLf after (h, e) = inr (inl ([], (refl, refl), refl))
    to (Named l) after (h, e) = inr (inr (inl (ascii_letter l, letter_to l after)))
    to (Hex high low) after ((h, l, small), e) = inr (inr (inl (sym (alone _) ∙ small, hex_to high low after h l)))
    to (Unicode first more) after ((k, h, each, few, scalar, z), e) =
        inr (inr (inr (inl (unicode_to first more after (record { is_first = h; each = each; few = few; scalar = scalar })))))
    to (Continuation end run) after ((h, ending, each), e) = inr (inr (inr (inr (continue_to end run after ending each e))))

    from : (text after value : List ℕ) → Means str_inside text after value → Found Str text after value
    from text after value (inl (c, is, t, v)) = (Plain c, (in_string c ∙ is, tt), t, v)
    from text after value (inr (inl (x, (t, y), v))) = (CrLf, (refl, tt), t, v)
    from text after value (inr (inr (inl (small, m)))) =
        elim (escape_from text after value m) [
          | inl (high, low, h, l, t, v) ↦ (Hex high low, ((h, l, alone _ ∙ ap (list_all is_ascii) (sym v) ∙ small), tt), t, v)
          | inr (l, t, v) ↦ (Named l, (refl, tt), t, v)
        ]
    from text after value (inr (inr (inr (inl m)))) =
        let (first, more, s, t, v) = unicode_from text after value m in
        (Unicode first more, ((refl, s.is_first, s.each, s.few, s.scalar, refl), tt), t, v)
    from text after value (inr (inr (inr (inr m)))) =
        let (end, run, ending, each, e, t, v) = continue_from text after value m in
        (Continuation end run, ((refl, ending, each), e), t, v)

pub byte_str_unit : UnitRule ByteStr byte_str_inside
byte_str_unit = record { to = to; from = from }
  where
    to : (u : QuotedUnit) (after : List ℕ) → Fits ByteStr u after → Means byte_str_inside (unit_text u) after (unit_value ByteStr u)
    to (Plain c) after (h, e) = inl (c, ap (λ b. nat_lt c 128 && b) (sym (in_string c)) ∙ h, refl, ascii_itself c (and_parts (nat_lt c 128) _ h).0)
    to CrLf after (h, e) = inr (inl ([], (refl, refl), refl))
    to (Named l) after (h, e) = inr (inr (inl (letter_to l after)))
    to (Hex high low) after ((h, l, small), e) = inr (inr (inl (hex_to high low after h l)))
    to (Unicode first more) after ((k, h, each, few, scalar, z), e) = absurd (cc)
    to (Continuation end run) after ((h, ending, each), e) = inr (inr (inr (continue_to end run after ending each e)))

    from : (text after value : List ℕ) → Means byte_str_inside text after value → Found ByteStr text after value
    from text after value (inl (c, is, t, v)) =
        (Plain c, (ap (λ b. nat_lt c 128 && b) (in_string c) ∙ is, tt), t, v ∙ sym (ascii_itself c (and_parts (nat_lt c 128) _ is).0))
    from text after value (inr (inl (x, (t, y), v))) = (CrLf, (refl, tt), t, v)
    from text after value (inr (inr (inl m))) =
        elim (escape_from text after value m) [
          | inl (high, low, h, l, t, v) ↦ (Hex high low, ((h, l, refl), tt), t, v)
          | inr (l, t, v) ↦ (Named l, (refl, tt), t, v)
        ]
    from text after value (inr (inr (inr m))) =
        let (end, run, ending, each, e, t, v) = continue_from text after value m in
        (Continuation end run, ((refl, ending, each), e), t, v)

c_plain : (c : ℕ) → not (((eqb c 34 || eqb c 92) || eqb c 13) || eqb c 0) ≡ (but (codes "\"\\\r") c && not (eqb c 0))
c_plain c = apart ((eqb c 34 || eqb c 92) || eqb c 13) (eqb c 0) ∙ ap (λ b. b && not (eqb c 0)) (in_string c)
  where
    apart : (a b : Bool) → not (a || b) ≡ (not a && not b)
    apart true b = refl
    apart false b = refl

without_true : (a b : Bool) → (a && (true || b)) ≡ true → a ≡ true
without_true true b h = refl
without_true false b h = h

with_true : (a b : Bool) → a ≡ true → (a && (true || b)) ≡ true
with_true true b h = refl
with_true false b h = h

pub c_str_unit : UnitRule CStr c_str_inside
c_str_unit = record { to = to; from = from }
  where
    to : (u : QuotedUnit) (after : List ℕ) → Fits CStr u after → Means c_str_inside (unit_text u) after (unit_value CStr u)
    to (Plain c) after (h, e) = inl (c ∷ [], (c, sym (c_plain c) ∙ h, refl, refl), refl)
    to CrLf after (h, e) = inr (inl ([], (refl, refl), refl))
    to (Named l) after (h, e) = inr (inr (inl (sym (alone _) ∙ h, letter_to l after)))
    to (Hex high low) after ((h, l, other), e) = inr (inr (inl (sym (alone _) ∙ without_true (not (eqb (place_value 16 (high ∷ low ∷ [])) 0)) (nat_lt (place_value 16 (high ∷ low ∷ [])) 128) other, hex_to high low after h l)))
    to (Unicode first more) after ((k, h, each, few, scalar, z), e) =
        inr (inr (inr (inl (
          unicode_value first more ∷ [],
          (sym (alone _) ∙ z, unicode_to first more after (record { is_first = h; each = each; few = few; scalar = scalar })),
          refl,
        ))))
    to (Continuation end run) after ((h, ending, each), e) = inr (inr (inr (inr (continue_to end run after ending each e))))

    from : (text after value : List ℕ) → Means c_str_inside text after value → Found CStr text after value
    from text after value (inl (x, (c, is, t, v), value_is)) = (Plain c, (c_plain c ∙ is, tt), t, value_is ∙ ap encode_utf8_all v)
    from text after value (inr (inl (x, (t, y), v))) = (CrLf, (refl, tt), t, v)
    from text after value (inr (inr (inl (other, m)))) =
        elim (escape_from text after value m) [
          | inl (high, low, h, l, t, v) ↦ (Hex high low, ((h, l, with_true (not (eqb (place_value 16 (high ∷ low ∷ [])) 0)) (nat_lt (place_value 16 (high ∷ low ∷ [])) 128) (alone _ ∙ ap (list_all (λ c. not (eqb c 0))) (sym v) ∙ other)), tt), t, v)
          | inr (l, t, v) ↦ (Named l, (alone _ ∙ ap (list_all (λ c. not (eqb c 0))) (sym v) ∙ other, tt), t, v)
        ]
    from text after value (inr (inr (inr (inl (x, (other, m), value_is))))) =
        let (first, more, s, t, v) = unicode_from text after x m in (
          Unicode first more,
          ((refl, s.is_first, s.each, s.few, s.scalar, alone _ ∙ ap (list_all (λ c. not (eqb c 0))) (sym v) ∙ other), tt),
          t,
          value_is ∙ ap encode_utf8_all v,
        )
    from text after value (inr (inr (inr (inr m)))) =
        let (end, run, ending, each, e, t, v) = continue_from text after value m in
        (Continuation end run, ((refl, ending, each), e), t, v)

-- ---- literals with escapes

-- The rule of a literal: its opening delimiter, the text inside, and its quote.
abbrev pub frame : Kind → Rule → ℕ → Rule
frame kind a q = Text (opener kind) ⋅ a ⋅ Text (q ∷ [])

-- By a rule, the text and a suffix are the text.
pub record Framed (a : Rule) (text value x : List ℕ) : Type 0 where
  pub body : List ℕ
  pub text_is : text ≡ body ++ x
  pub is_body : Means a body x value

pub around : (o i c x : List ℕ) → o ++ (i ++ (c ++ x)) ≡ (o ++ (i ++ c)) ++ x
around o i c x = ap (λ k. o ++ k) (sym (append_assoc i c x)) ∙ sym (append_assoc o (i ++ c) x)

framed : (kind : Kind) (a : Rule) (q : ℕ) (text inside value x : List ℕ) → text ≡ opener kind ++ (inside ++ (q ∷ x))
    → Means a inside (q ∷ x) value → Framed (frame kind a q) text value x
framed kind a q text inside value x text_is m = record {
  body = opener kind ++ (inside ++ q ∷ []);
  text_is = text_is ∙ around (opener kind) inside (q ∷ []) x;
  is_body = text_then (opener kind) (a ⋅ Text (q ∷ [])) (inside ++ q ∷ []) x value (close_then (q ∷ []) a inside x value m);
}

unframed : (kind : Kind) (a : Rule) (q : ℕ) (text value x : List ℕ) → Framed (frame kind a q) text value x
    → (inside : List ℕ) × (text ≡ opener kind ++ (inside ++ (q ∷ x))) × Means a inside (q ∷ x) value
unframed kind a q text value x f =
    let (w, body_is, rest) = then_text (opener kind) (a ⋅ Text (q ∷ [])) f.body x value f.is_body in
    let (u, w_is, m) = then_close (q ∷ []) a w x value rest in (
      u,
      f.text_is ∙ ap (λ k. k ++ x) (body_is ∙ ap (λ k. opener kind ++ k) w_is) ∙ sym (around (opener kind) u (q ∷ []) x),
      m,
    )

ends_at : (u : QuotedUnit) (t after : List ℕ) → first_passes is_blank after ≡ false → EndsBefore u t → EndsBefore u (t ++ after)
ends_at (Continuation end run) t after h e = passes_joined is_blank t after e h
ends_at _ t after h e = tt

ends_cut : (u : QuotedUnit) (t after : List ℕ) → EndsBefore u (t ++ after) → EndsBefore u t
ends_cut (Continuation end run) t after e = passes_cut is_blank t after e
ends_cut _ t after e = tt

row_of : (kind : Kind) (us : List QuotedUnit) (after : List ℕ) → first_passes is_blank after ≡ false
    → AllByRecursion (IsUnit kind) us → ContinuationsEnd us → Row unit_text (Fits kind) us after
row_of kind [] after h each e = tt
row_of kind (u ∷ us) after h each e = ((each.0, ends_at u (texts us) after h e.0), row_of kind us after h each.1 e.1)

of_row : (kind : Kind) (us : List QuotedUnit) (after : List ℕ) → Row unit_text (Fits kind) us after
    → AllByRecursion (IsUnit kind) us × ContinuationsEnd us
of_row kind [] after row = (tt, tt)
of_row kind (u ∷ us) after ((is_unit, e), row) =
    let (each, ends) = of_row kind us after row in
    ((is_unit, each), (ends_cut u (texts us) after e, ends))

-- The units of a string before its quote and any text have the string's value.
pub inside_to : (kind : Kind) (a : Rule) → UnitRule kind a → (text value x : List ℕ) (s : Cooked kind text value x) (after : List ℕ)
    → Means (Many a) (texts s.units) (34 ∷ after) value
inside_to kind a rule text value x s after =
    subst (λ v. Means (Many a) (texts s.units) (34 ∷ after) v) (sym s.value_is)
    (many_to a unit_text (unit_value kind) (Fits kind) rule s.units (34 ∷ after) (row_of kind s.units (34 ∷ after) refl s.each s.ends))

cooked_rule : (kind : Kind) (a : Rule) → UnitRule kind a → is_string kind ≡ true → (text value x : List ℕ)
    → Cooked kind text value x ↔ Framed (frame kind (Many a) 34) text value x
cooked_rule kind a rule string text value x = (to, from)
  where
    to : Cooked kind text value x → Framed (frame kind (Many a) 34) text value x
    to s = framed kind (Many a) 34 text (texts s.units) value x s.text_is (inside_to kind a rule text value x s x)

    from : Framed (frame kind (Many a) 34) text value x → Cooked kind text value x
    from f =
        let (inside, text_is, m) = unframed kind (Many a) 34 text value x f in
        let (us, row, inside_is, value_is) = many_from a unit_text (unit_value kind) (Fits kind) rule inside (34 ∷ x) value m in
        let (each, ends) = of_row kind us (34 ∷ x) row in
        record { units = us; string = string; each = each; ends = ends; text_is = text_is ∙ ap (λ k. opener kind ++ (k ++ (34 ∷ x))) inside_is; value_is = value_is }

single_rule : (kind : Kind) (a : Rule) → UnitRule kind a → is_single kind ≡ true
    → ((end : ℕ) (run : List ℕ) → IsUnit kind (Continuation end run) → ⊥) → (text value x : List ℕ)
    → Single kind text value x ↔ Framed (frame kind a 39) text value x
single_rule kind a rule single no_break text value x = (to, from)
  where
    ends : (u : QuotedUnit) (after : List ℕ) → IsUnit kind u → EndsBefore u after
    ends (Continuation end run) after is_unit = absurd (no_break end run is_unit)
    ends _ after is_unit = tt

    to : Single kind text value x → Framed (frame kind a 39) text value x
    to s =
        subst (λ v. Framed (frame kind a 39) text v x) (sym s.value_is)
        (framed kind a 39 text (unit_text s.unit) (unit_value kind s.unit) x s.text_is
        (rule.to s.unit (39 ∷ x) (s.is_unit, ends s.unit (39 ∷ x) s.is_unit)))

    from : Framed (frame kind a 39) text value x → Single kind text value x
    from f =
        let (inside, text_is, m) = unframed kind a 39 text value x f in
        let (u, fits, inside_is, value_is) = rule.from inside (39 ∷ x) value m in
        record { unit = u; single = single; is_unit = fits.0; text_is = text_is ∙ ap (λ k. opener kind ++ (k ++ (39 ∷ x))) inside_is; value_is = value_is }

pub char_cooked : (text value x : List ℕ) → Single Char text value x ↔ Framed (frame Char char_inside 39) text value x
char_cooked = single_rule Char char_inside char_unit refl (λ end run h. false≢true h.0)

pub byte_cooked : (text value x : List ℕ) → Single Byte text value x ↔ Framed (frame Byte byte_inside 39) text value x
byte_cooked = single_rule Byte byte_inside byte_unit refl (λ end run h. false≢true h.0)

pub str_cooked : (text value x : List ℕ) → Cooked Str text value x ↔ Framed (frame Str (Many str_inside) 34) text value x
str_cooked = cooked_rule Str str_inside str_unit refl

pub byte_str_cooked : (text value x : List ℕ)
    → Cooked ByteStr text value x ↔ Framed (frame ByteStr (Many byte_str_inside) 34) text value x
byte_str_cooked = cooked_rule ByteStr byte_str_inside byte_str_unit refl

pub c_str_cooked : (text value x : List ℕ) → Cooked CStr text value x ↔ Framed (frame CStr (Many c_str_inside) 34) text value x
c_str_cooked = cooked_rule CStr c_str_inside c_str_unit refl

-- ---- raw strings

abbrev last_quote : Rule
last_quote = Many (One (λ c. true)) ⋅ Text (34 ∷ [])

no_quote_to : (x : List ℕ) → list_all (λ c. not (eqb c 34)) x ≡ true → NoneAt last_quote x
no_quote_to x all u w v e m =
    let (a, u_is, more) = then_close (34 ∷ []) (Many (One (λ c. true))) u w v m in
    let test : ℕ → Bool = λ c. not (eqb c 34) in
    let parts = and_parts (list_all test (a ++ 34 ∷ [])) (list_all test w)
    (sym (list_all-append test (a ++ 34 ∷ []) w) ∙ ap (list_all test) (sym (e ∙ ap (λ k. k ++ w) u_is)) ∙ all) in
    let last = and_parts (list_all test a) false (sym (list_all-append test a (34 ∷ [])) ∙ parts.0) in
    false≢true last.1

no_quote_from : (x : List ℕ) → NoneAt last_quote x → list_all (λ c. not (eqb c 34)) x ≡ true
no_quote_from x none = go x (false_from_ne_true (list_any (λ c. eqb c 34) x) (λ h.
    let (a, c, b, same, e) = split (λ c. eqb c 34) x h in
    let here : x ≡ (a ++ 34 ∷ []) ++ b = e ∙ ap (λ k. a ++ (k ∷ b)) (eqb-true c 34 same) ∙ sym (append_assoc a (34 ∷ []) b) in
    none (a ++ 34 ∷ []) b a here (close_then (34 ∷ []) (Many (One (λ c. true))) a b a (run_to (λ c. true) a (34 ∷ b) (all_pass a)))))
  where
    go : (x : List ℕ) → list_any (λ c. eqb c 34) x ≡ false → list_all (λ c. not (eqb c 34)) x ≡ true
    go [] h = refl
    go (c ∷ cs) h =
        let (here, more) = or_parts (eqb c 34) (list_any (λ c. eqb c 34) cs) h in
        and_from (not (eqb c 34)) (list_all (λ c. not (eqb c 34)) cs) (not_from_false (eqb c 34) here) (go cs more)

-- The raw string of a kind: its texts, and their characters.
abbrev raw_body : List ℕ → (ℕ → Bool) → ℕ → Rule
raw_body o test n = Text (o ++ replicate n 35 ++ 34 ∷ []) ⋅ Many (One test) ⋅ Text (34 ∷ replicate n 35)

raw_around : (o h i x : List ℕ) → o ++ (h ++ (34 ∷ (i ++ (34 ∷ (h ++ x))))) ≡ (((o ++ h) ++ 34 ∷ []) ++ (i ++ (34 ∷ h))) ++ x
raw_around o h i x =
    sym (append_assoc o h (34 ∷ (i ++ (34 ∷ (h ++ x))))) ∙ ap (λ k. (o ++ h) ++ (34 ∷ k)) (sym (append_assoc i (34 ∷ h) x))
    ∙ sym (append_assoc (o ++ h) (34 ∷ []) ((i ++ (34 ∷ h)) ++ x)) ∙ sym (append_assoc ((o ++ h) ++ 34 ∷ []) (i ++ (34 ∷ h)) x)

pub raw_all : (o : List ℕ) (test : ℕ → Bool) (u x v : List ℕ) → Means (raw_to_last o test) u x v → list_all test v ≡ true
raw_all o test u x v (n, m) =
    let (is_raw, none) = then_unless (raw_body o test n) last_quote u x v m in
    let (w, u_is, rest) = then_text (o ++ replicate n 35 ++ 34 ∷ []) (Many (One test) ⋅ Text (34 ∷ replicate n 35)) u x v is_raw in
    let (i, w_is, run) = then_close (34 ∷ replicate n 35) (Many (One test)) w x v rest in
    let (all, v_is) = run_from test i (34 ∷ replicate n 35 ++ x) v run in
    ap (list_all test) v_is ∙ all

pub raw_rule : (kind : Kind) (test : ℕ → Bool) → ((cs : List ℕ) → list_all (is_raw kind) cs ≡ list_all test cs)
    → is_string kind ≡ true → (text value x : List ℕ)
    → Raw kind text value x ↔ ((inside : List ℕ) × (value ≡ content_of kind inside) × Framed (raw_to_last (raw_opener kind) test) text inside x)
raw_rule kind test same string text value x = (to, from)
  where
    to : Raw kind text value x → (inside : List ℕ) × (value ≡ content_of kind inside) × Framed (raw_to_last (raw_opener kind) test) text inside x
    to s =
        let n = s.hashes in
        let o = raw_opener kind ++ replicate n 35 ++ 34 ∷ [] in
        let body = o ++ (s.inside ++ (34 ∷ replicate n 35)) in (
          s.inside,
          s.value_is,
          record {
            body = body;
            text_is = s.text_is ∙ raw_around (raw_opener kind) (replicate n 35) s.inside x;
            is_body = (
              n,
              unless_then (raw_body (raw_opener kind) test n) last_quote body x s.inside
                  (text_then o (Many (One test) ⋅ Text (34 ∷ replicate n 35)) (s.inside ++ (34 ∷ replicate n 35)) x s.inside
                  (close_then (34 ∷ replicate n 35) (Many (One test)) s.inside x s.inside (run_to test s.inside (34 ∷ replicate n 35 ++ x) (sym (same s.inside) ∙ s.each))))
                  (no_quote_to x s.no_quote),
            );
          },
        )

    from : (inside : List ℕ) × (value ≡ content_of kind inside) × Framed (raw_to_last (raw_opener kind) test) text inside x → Raw kind text value x
    from (inside, value_is, f) =
        let n = f.is_body.0 in
        let o = raw_opener kind ++ replicate n 35 ++ 34 ∷ [] in
        let (m, none) = then_unless (raw_body (raw_opener kind) test n) last_quote f.body x inside f.is_body.1 in
        let (w, body_is, rest) = then_text o (Many (One test) ⋅ Text (34 ∷ replicate n 35)) f.body x inside m in
        let (u, w_is, run) = then_close (34 ∷ replicate n 35) (Many (One test)) w x inside rest in
        let (all, inside_is) = run_from test u (34 ∷ replicate n 35 ++ x) inside run in
        record {
          hashes = n;
          inside = u;
          string = string;
          each = same u ∙ all;
          no_quote = no_quote_from x none;
          text_is = f.text_is ∙ ap (λ k. k ++ x) (body_is ∙ ap (λ k. o ++ k) w_is) ∙ sym (raw_around (raw_opener kind) (replicate n 35) u x);
          value_is = value_is ∙ ap (content_of kind) inside_is;
        }
