-- A text begins with a character or escape of Rust's grammar if and only if `unit_rest` returns the text after it.
use Rattle.rl_strict.proofs.Names.{◌≡◌, ℕ, ◌||◌, Bool, true, false, not, ◌==◌, cond, List, [], ◌∷◌, ◌++◌, Option, Some, None, refl, sym, ap, subst, ◌∙◌, inl, inr, and_parts, both_ways, cases_Bool, eqb-true, or_from, list_all, Kind, Str, ByteStr, CStr, first_passes, QuotedUnit, Plain, CrLf, Named, Hex, Unicode, Continuation, unit_text, is_line_end, is_plain, is_string, IsUnit, StrictUnit, Itself, QuoteEscape, PlainEscape, AsciiEscape, ByteEscape, UnicodeEscape, LineBreak, strict_text, is_dropped_blank, is_strict_unit, after_run, is_plain_letter, apart, MayFollow, stands, run, unit_at, escape_rest, unit_rest, chosen_some, run_all, run_ends, run_join, run_past, Back, HasStrictUnits, named_escape, hex_escape, unicode_escape, unit_complete, unit_sound, backslash_not_plain, no_break_ends, line_allowed}
use Rattle.std.proofs.Common.{option_map}
pub use Rattle.rl_lenient.specs.StrictUnits.{BreakEnds as MayEnd}

-- `t` is a valid character or escape of a literal of the kind, followed by `r`.
pub record StrictFront (k : Kind) (t r : List ℕ) : Type 0 where
  pub unit : StrictUnit
  pub is_unit : is_strict_unit k unit ≡ true
  pub may_end : MayEnd unit r
  pub text_is : t ≡ strict_text unit ++ r

-- If an escape of `syn`'s grammar is also one of Rust's grammar, a text that begins with the escape begins with an escape of
-- Rust's grammar.
escape_front : (k : Kind) (t : List ℕ) (u : QuotedUnit) (r : List ℕ) → Back k u → t ≡ unit_text u ++ r
    → StrictFront k t r
escape_front k t u r e h = record { unit = e.unit; is_unit = e.is_unit; may_end = no_break_ends e.unit r e.no_break; text_is = h ∙ ap (λ z. z ++ r) e.text_is }

-- The character is a backslash.
abbrev is_backslash : ℕ → Bool
is_backslash c = c == 92

-- The text without its first character.
abbrev following : List ℕ → List ℕ
following [] = []
following (c ∷ cs) = cs

-- An escape of `syn`'s grammar other than an escaped line end is one of Rust's grammar.
lenient_front : (k : Kind) (u : QuotedUnit) (c : ℕ) (cs r : List ℕ) → HasStrictUnits k → (c == 10) ≡ false → (c == 13)
    ≡ false → IsUnit k u → 92 ∷ c ∷ cs ≡ unit_text u ++ r → StrictFront k (92 ∷ c ∷ cs) r
lenient_front k (Plain d) c cs r q n m u e =
    let At : ℕ → Type 0 = λ z. is_plain k z ≡ true in
    let d_is : d ≡ 92 = eqb-true d 92 (sym (ap (first_passes is_backslash) e)) in
    absurd (both_ways (is_plain k 92) (backslash_not_plain k) (subst At d_is u))
lenient_front k CrLf c cs r q n m u e = absurd (both_ways true (ap (first_passes is_backslash) e) refl)
lenient_front k (Named l) c cs r q n m u e = escape_front k (92 ∷ c ∷ cs) (Named l) r (named_escape k l u) e
lenient_front k (Hex high low) c cs r q n m u e = escape_front k (92 ∷ c ∷ cs) (Hex high low) r
    (hex_escape k high low q u) e
lenient_front k (Unicode first more) c cs r q n m u e = escape_front k (92 ∷ c ∷ cs) (Unicode first more) r
    (unicode_escape k first more q u) e
lenient_front k (Continuation d run) c cs r q n m u e =
    absurd (both_ways (is_line_end c) (or_from (c == 10) (c == 13) n m)
    (ap (λ z. first_passes is_line_end (following z)) e ∙ u.1))

-- If `unit_rest` accepts a backslash and an LF, the text begins with an escaped line end of Rust's grammar.
line_front : (k : Kind) (cs r : List ℕ) → cond (is_string k) (Some (after_run is_dropped_blank cs)) None ≡ Some r
    → StrictFront k (92 ∷ 10 ∷ cs) r
line_front k cs r h =
    let p = chosen_some (is_string k) (after_run is_dropped_blank cs) r h in
    let At : List ℕ → Type 0 = λ z. first_passes is_dropped_blank z ≡ false in
    record {
      unit = LineBreak (run is_dropped_blank cs);
      is_unit = line_allowed k (run is_dropped_blank cs) p.0 (run_all is_dropped_blank cs);
      may_end = subst At p.1 (run_ends is_dropped_blank cs);
      text_is = ap (λ z. 92 ∷ 10 ∷ z) (run_join is_dropped_blank cs ∙ ap (λ z. run is_dropped_blank cs ++ z) p.1);
    }

-- If `option_map` returns `Some`, its argument is `Some`.
mapped_some : (o : Option (List ℕ × List ℕ)) (r : List ℕ) → option_map (λ p. p.1) o ≡ Some r → (p : List ℕ × List ℕ)
    × (o ≡ Some p) × (p.1 ≡ r)
mapped_some None r h = absurd (cc)
mapped_some (Some p) r h = (p, refl, cc)

-- If the code finds an escape after a backslash, the text begins with an escape of Rust's grammar.
after_backslash : (k : Kind) (cs r : List ℕ) → HasStrictUnits k → escape_rest k cs ≡ Some r → StrictFront k (92 ∷ cs) r
after_backslash k [] r q h = absurd (cc)
after_backslash k (c ∷ cs) r q h =
    let line : Option (List ℕ) = cond (is_string k) (Some (after_run is_dropped_blank cs)) None in
    let other : Option (List ℕ) = option_map (λ p. p.1) (unit_at k (92 ∷ c ∷ cs)) in
    elim (cases_Bool (c == 10)) [
      | inl a ↦ subst (λ z. StrictFront k (92 ∷ z ∷ cs) r) (sym (eqb-true c 10 a))
          (line_front k cs r (ap (λ b. cond b line (cond (c == 13) None other)) (sym a) ∙ h))
      | inr a ↦
          let h1 : cond (c == 13) None other ≡ Some r = ap (λ b. cond b line (cond (c == 13) None other)) (sym a) ∙ h in
          elim (cases_Bool (c == 13)) [
            | inl b ↦ absurd (let e : None ≡ Some r = ap (λ z. cond z None other) (sym b) ∙ h1 in (cc))
            | inr b ↦
                let m = mapped_some (unit_at k (92 ∷ c ∷ cs)) r (ap (λ z. cond z None other) (sym b) ∙ h1) in
                let u = unit_sound k (92 ∷ c ∷ cs) m.0 m.1 in
                lenient_front k u.unit c cs r q a b u.allowed (u.text_is ∙ ap (λ z. unit_text u.unit ++ z) m.2)
          ]
    ]

-- If `unit_rest` returns a text, a character or escape of Rust's grammar precedes the returned text.
pub unit_rest_sound : (k : Kind) (t r : List ℕ) → HasStrictUnits k → unit_rest k t ≡ Some r → StrictFront k t r
unfolding unit_rest
unit_rest_sound k [] r q h = absurd (cc)
unit_rest_sound k (c ∷ cs) r q h =
    let bare : Option (List ℕ) = cond (is_strict_unit k (Itself c)) (Some cs) None in
    elim (cases_Bool (c == 92)) [
      | inl a ↦ subst (λ z. StrictFront k (z ∷ cs) r) (sym (eqb-true c 92 a))
          (after_backslash k cs r q (ap (λ b. cond b (escape_rest k cs) bare) (sym a) ∙ h))
      | inr a ↦
          let p = chosen_some (is_strict_unit k (Itself c)) cs r (ap (λ b. cond b (escape_rest k cs) bare) (sym a) ∙ h)
          in
          record { unit = Itself c; is_unit = p.0; may_end = tt; text_is = ap (λ z. c ∷ z) p.1 }
    ]

-- ---- `unit_rest` returns the text after a character or escape

-- A literal with escapes can't contain an unescaped backslash.
bare_backslash : (k : Kind) → is_strict_unit k (Itself 92) ≡ false
bare_backslash Str = refl
bare_backslash other = refl

-- `unit_rest` returns the text after an unescaped character that the kind allows.
pub itself_past : (k : Kind) (c : ℕ) (r : List ℕ) → is_strict_unit k (Itself c) ≡ true → unit_rest k (c ∷ r) ≡ Some r
unfolding unit_rest
itself_past k c r h =
    let n = apart (λ z. is_strict_unit k (Itself z)) c 92 h (bare_backslash k) in
    ap (λ b. cond b (escape_rest k r) (cond (is_strict_unit k (Itself c)) (Some r) None)) n
    ∙ ap (λ b. cond b (Some r) None) h

-- For an escape other than an escaped line end, `unit_rest` returns the text after it, as the parser of `syn`'s grammar
-- does.
escape_past : (k : Kind) (s : StrictUnit) (c : ℕ) (cs r : List ℕ) → is_strict_unit k s ≡ true → MayFollow s r
    → strict_text s ≡ 92 ∷ c ∷ cs → (c == 10) ≡ false → (c == 13) ≡ false → unit_rest k (strict_text s ++ r) ≡ Some r
unfolding unit_rest
escape_past k s c cs r h f e n m =
    let st = stands k s h in
    let at : unit_at k (92 ∷ c ∷ (cs ++ r)) ≡ _ = ap (λ z. unit_at k (z ++ r)) (sym e ∙ sym st.text_is)
    ∙ unit_complete k st.unit r st.is_unit (st.ends_before r f) in
    let line : Option (List ℕ) = cond (is_string k) (Some (after_run is_dropped_blank (cs ++ r))) None in
    let other : Option (List ℕ) = option_map (λ p. p.1) (unit_at k (92 ∷ c ∷ (cs ++ r))) in
    ap (λ z. unit_rest k (z ++ r)) e
    ∙ ap (λ b. cond b line (cond (c == 13) None other)) n
    ∙ ap (λ b. cond b None other) m
    ∙ ap (option_map (λ p. p.1)) at

-- The letters of escapes such as `\n` aren't line ends.
letter_no_line : (c : ℕ) → is_plain_letter c ≡ true → ((c == 10) ≡ false) × ((c == 13) ≡ false)
letter_no_line c h = (apart is_plain_letter c 10 h refl, apart is_plain_letter c 13 h refl)

-- In a valid escape such as `\n`, the character after the backslash is one of the known letters.
plain_letter : (k : Kind) (c : ℕ) → is_strict_unit k (PlainEscape c) ≡ true → is_plain_letter c ≡ true
plain_letter CStr c h = (and_parts (is_plain_letter c) (not (c == 48)) h).0
plain_letter _ c h = h

-- The character is a single or a double quote.
abbrev is_quote : ℕ → Bool
is_quote c = c == 39 || c == 34

-- Only strings may contain an escaped line end.
line_of : (k : Kind) (blanks : List ℕ) → is_strict_unit k (LineBreak blanks) ≡ true → (is_string k ≡ true)
    × (list_all is_dropped_blank blanks ≡ true)
line_of Str blanks h = (refl, h)
line_of ByteStr blanks h = (refl, h)
line_of CStr blanks h = (refl, h)
line_of kind blanks h = absurd (cc)

-- `unit_rest` returns the text after an escaped line end and the white space that follows it.
line_past : (k : Kind) (blanks r : List ℕ) → is_strict_unit k (LineBreak blanks) ≡ true
    → first_passes is_dropped_blank r ≡ false → unit_rest k (92 ∷ 10 ∷ (blanks ++ r)) ≡ Some r
unfolding unit_rest
line_past k blanks r h n =
    let p = line_of k blanks h in
    ap (λ b. cond b (Some (after_run is_dropped_blank (blanks ++ r))) None) p.0
    ∙ ap Some (run_past is_dropped_blank blanks r p.1 n).1

-- `unit_rest` returns the text after each character or escape of Rust's grammar.
pub unit_rest_complete : (k : Kind) (u : StrictUnit) (r : List ℕ) → is_strict_unit k u ≡ true → MayEnd u r
    → unit_rest k (strict_text u ++ r) ≡ Some r
unit_rest_complete k (Itself c) r h m = itself_past k c r h
unit_rest_complete k (QuoteEscape c) r h m = escape_past k (QuoteEscape c) c [] r h tt refl (apart is_quote c 10 h refl)
    (apart is_quote c 13 h refl)
unit_rest_complete k (PlainEscape c) r h m =
    let n = letter_no_line c (plain_letter k c h) in
    escape_past k (PlainEscape c) c [] r h tt refl n.0 n.1
unit_rest_complete k (AsciiEscape high low) r h m = escape_past k (AsciiEscape high low) 120 (high ∷ low ∷ []) r h tt
    refl refl refl
unit_rest_complete k (ByteEscape high low) r h m = escape_past k (ByteEscape high low) 120 (high ∷ low ∷ []) r h tt refl
    refl refl
unit_rest_complete k (UnicodeEscape digits) r h m = escape_past k (UnicodeEscape digits) 117 _ r h tt refl refl refl
unit_rest_complete k (LineBreak blanks) r h m = line_past k blanks r h m
