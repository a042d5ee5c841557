-- If a text begins with no valid character or escape of Rust's grammar, it has the flaw that the code returns: the kind and
-- the position are right.
use Rattle.rl_strict.proofs.Names.{◌≡◌, ◌≢◌, ℕ, ◌||◌, ◌&&◌, Bool, true, false, not, ◌==◌, cond, ltb, List, [], ◌∷◌, ◌++◌, Option, Some, None, refl, sym, ap, subst, ◌∙◌, inl, inr, and_parts, both_ways, cases_Bool, eqb-true, cond_both, Kind, Str, ByteStr, CStr, Byte, Char, first_passes, Letter, Named, LowerN, letter_text, is_string, is_line_end, Itself, is_dropped_blank, is_strict_unit, after_run, and_left, FlawKind, UnknownEscape, Nul, NotAscii, MustEscape, NoCharacter, CarriageReturn, UnitFlaw, StrictUnitFlaw, escape_at, unit_at, escape_rest, unit_rest, FoundFlaw, found_flaw, character_flaw_of, escape_flaw_at, strict_escape_flaw_at, strict_unit_flaw_at, plain_is_bare, holds_more, unit_complete, goes_on, IsCompletable}
use Rattle.std.proofs.Common.{option_map}
use Rattle.rl_strict.proofs.EscapeLemmas.{Closes, Fails, IsQuotedKind, by_escape}
use Rattle.rl_strict.proofs.StrictUnitLemmas.{itself_past}
use Rattle.rl_strict.proofs.UnitFlawLemmas.{HasUnitFlaw, IsOpen, byte_has, escape_spoils, left_false, string_has}
use Rattle.rl_strict.proofs.Stops.{Stops}
use Rattle.rl_strict.proofs.StrictRowLemmas.{no_char}

-- ---- a character or escape at the beginning of a text

-- The text is a complete character or escape, whatever text follows.
abbrev pub IsUnitText : Kind → List ℕ → Type 0
IsUnitText k t = (r : List ℕ) → unit_rest k (t ++ r) ≡ Some r

abbrev pub BeginsNone : Kind → List ℕ → Type 0
BeginsNone k t = unit_rest k t ≡ None

mapped_none : (o : Option (List ℕ × List ℕ)) → option_map (λ p. p.1) o ≡ None → o ≡ None
mapped_none None h = refl
mapped_none (Some p) h = absurd (cc)

-- The longest prefix of the text that can be completed to a character or escape ends at the flaw, and the flaw's kind
-- describes the error.
pub record HasStrictUnitFlaw (k : Kind) (t : List ℕ) (flaw : FoundFlaw) : Type 0 where
  pub stops : Stops (IsUnitText k) (BeginsNone k) t flaw.1
  pub has : StrictUnitFlaw k flaw.0 t flaw.1

-- ---- valid and invalid characters

bare_a : (k : Kind) → IsQuotedKind k → is_strict_unit k (Itself 97) ≡ true
bare_a Str q = refl
bare_a ByteStr q = refl
bare_a CStr q = refl
bare_a Byte q = refl
bare_a Char q = refl
bare_a kind (inl h) = absurd (cc)
bare_a kind (inr h) = absurd (cc)

strict_one : (k : Kind) → IsQuotedKind k → IsCompletable (IsUnitText k) []
strict_one k q = record { ending = 97 ∷ []; are_characters = (refl, tt); is_taken = λ r. itself_past k 97 r (bare_a k q) }

-- `unit_rest` returns the text after the escape `\n`.
newline_past : (k : Kind) (r : List ℕ) → unit_rest k (92 ∷ 110 ∷ r) ≡ Some r
unfolding unit_rest
newline_past k r = ap (option_map (λ p. p.1)) (unit_complete k (Named LowerN) r (holds_more k 10 refl) tt)

backslash_completes : (k : Kind) → IsCompletable (IsUnitText k) (92 ∷ [])
backslash_completes k = record { ending = 110 ∷ []; are_characters = (refl, tt); is_taken = newline_past k }

bare_none : (k : Kind) (c : ℕ) (e : List ℕ) → (c == 92) ≡ false → is_strict_unit k (Itself c) ≡ false
    → unit_rest k (c ∷ e) ≡ None
unfolding unit_rest
bare_none k c e a h =
    ap (λ b. cond b (escape_rest k e) (cond (is_strict_unit k (Itself c)) (Some e) None)) a
    ∙ ap (λ b. cond b (Some e) None) h

-- The first character of a text isn't allowed unescaped if it isn't a backslash and the text begins with no valid character
-- or escape.
none_bare : (k : Kind) (c : ℕ) (e : List ℕ) → (c == 92) ≡ false → unit_rest k (c ∷ e) ≡ None
    → is_strict_unit k (Itself c) ≡ false
unfolding unit_rest
none_bare k c e a h = go (is_strict_unit k (Itself c)) refl
  where
    go : (b : Bool) → is_strict_unit k (Itself c) ≡ b → is_strict_unit k (Itself c) ≡ false
    go true y = let n : None ≡ Some e = sym h ∙ itself_past k c e y in absurd (cc)
    go false y = y

-- An escape other than an escaped line end ends at the same position in both grammars, Rust's and `syn`'s.
escape_same : (k : Kind) (t : List ℕ) → first_passes (λ c. c == 10) t ≡ false → first_passes (λ c. c == 13) t ≡ false
    → unit_rest k (92 ∷ t) ≡ option_map (λ p. p.1) (escape_at k t)
unfolding unit_rest escape_at
escape_same k [] n m = refl
escape_same k (d ∷ e) n m =
    let line : Option (List ℕ) = cond (is_string k) (Some (after_run is_dropped_blank e)) None in
    let other : Option (List ℕ) = option_map (λ p. p.1) (unit_at k (92 ∷ d ∷ e)) in
    ap (λ b. cond b line (cond (d == 13) None other)) n ∙ ap (λ b. cond b None other) m
    ∙ ap (option_map (λ p. p.1)) (by_escape k (d ∷ e))

-- ---- the kinds of flaws

-- The flaw of a character or escape in `syn`'s grammar is its flaw in Rust's grammar.
shared : (k : Kind) (f : FlawKind) (t rest : List ℕ) → UnitFlaw k f t rest → StrictUnitFlaw k f t rest
shared k CarriageReturn t rest u = absurd u
shared k f t rest u = u

-- ---- the flaw of an escape

-- If no line end follows a backslash, the flaw of the escape in `syn`'s grammar is its flaw in Rust's grammar.
escape_flaw : (k : Kind) (t : List ℕ) (flaw : FoundFlaw) → first_passes (λ c. c == 10) t ≡ false → first_passes (λ c. c
    == 13) t ≡ false → HasUnitFlaw k (escape_at k) (92 ∷ []) t flaw → HasStrictUnitFlaw k (92 ∷ t) flaw
escape_flaw k t flaw n m h = record {
  stops = record {
    front = 92 ∷ s.front;
    text_is = ap (λ z. 92 ∷ z) s.text_is;
    begins = begins s.front s.text_is s.begins;
    stuck = λ c cs e at. escape_same k (s.front ++ (c ∷ e)) (goes_on (λ z. z == 10) s.front flaw.1 t c cs e s.text_is at
        n)
        (goes_on (λ z. z == 13) s.front flaw.1 t c cs e s.text_is at m)
        ∙ ap (option_map (λ p. p.1)) (s.stuck c cs e at);
  };
  has = shared k flaw.0 (92 ∷ t) flaw.1 h.has;
}
  where
    s : Stops (Closes (escape_at k)) (Fails (escape_at k)) t flaw.1
    s = h.stops

    begins : (front : List ℕ) → t ≡ front ++ flaw.1 → IsCompletable (Closes (escape_at k)) front
        → IsCompletable (IsUnitText k) (92 ∷ front)
    begins [] text done = backslash_completes k
    begins (x ∷ f) text done = record {
      ending = done.ending;
      are_characters = done.are_characters;
      is_taken = λ r. escape_same k (((x ∷ f) ++ done.ending) ++ r) (sym (ap (first_passes (λ z. z == 10)) text) ∙ n)
          (sym (ap (first_passes (λ z. z == 13)) text) ∙ m) ∙ ap (option_map (λ p. p.1)) (done.is_taken.1 r);
    }

-- The letter of an escape isn't a line feed.
feed_no_letter : (l : Letter) → 10 ≢ letter_text l
feed_no_letter LowerN e = absurd (cc)
feed_no_letter other e = absurd (cc)

return_no_letter : (l : Letter) → 13 ≢ letter_text l
return_no_letter LowerN e = absurd (cc)
return_no_letter other e = absurd (cc)

-- If a backslash and the character `d` begin no escape, the flaw is at `d`.
after_backslash : (k : Kind) (d : ℕ) (ds : List ℕ) (flaw : FlawKind) → ((e : List ℕ) → unit_rest k (92 ∷ d ∷ e) ≡ None)
    → StrictUnitFlaw k flaw (92 ∷ d ∷ ds) (d ∷ ds) → HasStrictUnitFlaw k (92 ∷ d ∷ ds) (found_flaw flaw (d ∷ ds))
after_backslash k d ds flaw none has = record {
  stops = record {
    front = 92 ∷ [];
    text_is = refl;
    begins = backslash_completes k;
    stuck = λ c cs e h.
        let same : d ≡ c = cc in
        subst (λ z. unit_rest k (92 ∷ z ∷ e) ≡ None) same (none e);
  };
  has = has;
}

-- In a character or byte literal, an escaped line end isn't allowed: the flaw at its LF is `UnknownEscape`.
feed_spoils : (k : Kind) (ds : List ℕ) → is_string k ≡ false → HasStrictUnitFlaw k (92 ∷ 10 ∷ ds)
    (found_flaw UnknownEscape (10 ∷ ds))
unfolding unit_rest
feed_spoils k ds s = after_backslash k 10 ds UnknownEscape
    (λ e. ap (λ b. cond b (Some (after_run is_dropped_blank e)) None) s) (
      refl,
      record {
        first = 10;
        after = ds;
        rest_is = refl;
        no_letter = feed_no_letter;
        no_x = λ e. absurd (cc);
        no_u = λ e. absurd (cc);
        no_line_end = and_left (is_string k) (is_line_end 10) s;
      },
    )

return_spoils : (k : Kind) (ds : List ℕ) → is_string k ≡ false → HasStrictUnitFlaw k (92 ∷ 13 ∷ ds)
    (found_flaw UnknownEscape (13 ∷ ds))
unfolding unit_rest
return_spoils k ds s = after_backslash k 13 ds UnknownEscape (λ e. refl) (
  refl,
  record {
    first = 13;
    after = ds;
    rest_is = refl;
    no_letter = return_no_letter;
    no_x = λ e. absurd (cc);
    no_u = λ e. absurd (cc);
    no_line_end = and_left (is_string k) (is_line_end 13) s;
  },
)

-- If a backslash and an LF aren't a valid escape, the literal isn't a string.
no_break : (k : Kind) (ds : List ℕ) → unit_rest k (92 ∷ 10 ∷ ds) ≡ None → is_string k ≡ false
unfolding unit_rest
no_break k ds h = go (is_string k) h
  where
    go : (b : Bool) → cond b (Some (after_run is_dropped_blank ds)) None ≡ None → b ≡ false
    go true h = absurd (cc)
    go false h = refl

escape_feed : (k : Kind) (ds : List ℕ) → escape_flaw_at k (10 ∷ ds) ≡ found_flaw UnknownEscape (10 ∷ ds)
unfolding escape_flaw_at
escape_feed k ds = refl

escape_return : (k : Kind) (ds : List ℕ) → escape_flaw_at k (13 ∷ ds) ≡ found_flaw UnknownEscape (13 ∷ ds)
unfolding escape_flaw_at
escape_return k ds = refl

other_escape : (k : Kind) (d : ℕ) (ds : List ℕ) → unit_rest k (92 ∷ d ∷ ds) ≡ None → (d == 13 && is_string k) ≡ false
    → HasStrictUnitFlaw k (92 ∷ d ∷ ds) (escape_flaw_at k (d ∷ ds))
other_escape k d ds none no_return =
    let P : ℕ → Type 0 = λ z. HasStrictUnitFlaw k (92 ∷ z ∷ ds) (escape_flaw_at k (z ∷ ds)) in
    elim (cases_Bool (d == 10)) [
      | inl a ↦ subst P (sym (eqb-true d 10 a)) (subst (HasStrictUnitFlaw k (92 ∷ 10 ∷ ds)) (sym (escape_feed k ds))
          (feed_spoils k ds (no_break k ds (ap (λ z. unit_rest k (92 ∷ z ∷ ds)) (sym (eqb-true d 10 a)) ∙ none))))
      | inr a ↦ elim (cases_Bool (d == 13)) [
        | inl b ↦ subst P (sym (eqb-true d 13 b)) (subst (HasStrictUnitFlaw k (92 ∷ 13 ∷ ds))
            (sym (escape_return k ds)) (return_spoils k ds (sym (ap (λ z. z && is_string k) b) ∙ no_return)))
        | inr b ↦ escape_flaw k (d ∷ ds) (escape_flaw_at k (d ∷ ds)) a b (escape_spoils k (d ∷ ds)
            (mapped_none (escape_at k (d ∷ ds)) (sym (escape_same k (d ∷ ds) a b) ∙ none)))
      ]
    ]

return_none : (k : Kind) (r : List ℕ) → unit_rest k (92 ∷ 13 ∷ r) ≡ None
unfolding unit_rest
return_none k r = refl

strict_escape_spoils : (k : Kind) (t : List ℕ) → unit_rest k (92 ∷ t) ≡ None
    → HasStrictUnitFlaw k (92 ∷ t) (strict_escape_flaw_at k t)
unfolding strict_escape_flaw_at escape_flaw_at
strict_escape_spoils k [] none = record { stops = record { front = 92 ∷ []; text_is = refl; begins = backslash_completes k; stuck = λ c cs e h. absurd (cc) }; has = refl }
strict_escape_spoils k (d ∷ ds) none = cond_both (d == 13 && is_string k) _ _ (HasStrictUnitFlaw k (92 ∷ d ∷ ds))
    returns (other_escape k d ds none)
  where
    returns : (d == 13 && is_string k) ≡ true → HasStrictUnitFlaw k (92 ∷ d ∷ ds) (found_flaw CarriageReturn (d ∷ ds))
    returns e =
        let p = and_parts (d == 13) (is_string k) e in
        after_backslash k d ds CarriageReturn
        (λ r. subst (λ z. unit_rest k (92 ∷ z ∷ r) ≡ None) (sym (eqb-true d 13 p.0)) (return_none k r))
        (p.1, inr refl, p.0)

-- ---- a character that isn't allowed unescaped

-- For a character that a character literal can't contain unescaped, `character_flaw_of` returns the kind of flaw.
char_has : (c : ℕ) (cs : List ℕ) → is_strict_unit Char (Itself c) ≡ false → (c == 92) ≡ false
    → StrictUnitFlaw Char (character_flaw_of c) (c ∷ cs) (c ∷ cs)
char_has c cs p b = zero (c == 0) refl
  where
    is_low : (k : ℕ) → (c == k) ≡ true → ltb k 128 ≡ true → ltb c 128 ≡ true
    is_low k e h = ap (λ z. ltb z 128) (eqb-true c k e) ∙ h

    among : (x y z : Bool) → not (x || y || z) ≡ false → (x || (y || (z || false))) ≡ true
    among true y z h = refl
    among false true z h = refl
    among false false true h = refl
    among false false false h = absurd (cc)

    few : (x y z : Bool) → (c == 10) ≡ x → (c == 13) ≡ y → (c == 9) ≡ z → not (x || y || z) ≡ false → ltb c 128 ≡ true
    few true y z i j k h = is_low 10 i refl
    few false true z i j k h = is_low 13 j refl
    few false false true i j k h = is_low 9 k refl
    few false false false i j k h = absurd (cc)

    low : (l : Bool) → ltb c 128 ≡ l → (c == 39) ≡ false → StrictUnitFlaw Char (cond l MustEscape NotAscii) (c ∷ cs)
        (c ∷ cs)
    low true e q = (refl, refl, among (c == 10) (c == 13) (c == 9) (rw (q, b) at p))
    low false e q = absurd (both_ways (ltb c 128) e (few (c == 10) (c == 13) (c == 9) refl refl refl (rw (q, b) at p)))

    apostrophe : (a : Bool) → (c == 39) ≡ a → StrictUnitFlaw Char (cond a NoCharacter (cond (ltb c 128) MustEscape
        NotAscii)) (c ∷ cs) (c ∷ cs)
    apostrophe true e = (refl, refl, e)
    apostrophe false e = low (ltb c 128) refl e

    zero : (z : Bool) → (c == 0) ≡ z → StrictUnitFlaw Char (cond z Nul
        (cond (c == 39) NoCharacter (cond (ltb c 128) MustEscape NotAscii))) (c ∷ cs) (c ∷ cs)
    zero true e = let h : true ≡ false = ap (λ z. is_strict_unit Char (Itself z)) (sym (eqb-true c 0 e))
        ∙ p in absurd (cc)
    zero false e = apostrophe (c == 39) refl

alone_has : (k : Kind) (c : ℕ) (cs : List ℕ) → IsQuotedKind k → IsOpen k (c ∷ cs) → (c == 92) ≡ false
    → (c == 13 && is_string k) ≡ false → is_strict_unit k (Itself c) ≡ false
    → StrictUnitFlaw k (character_flaw_of c) (c ∷ cs) (c ∷ cs)
alone_has k c cs (inl s) still a r bare =
    let return : (c == 13) ≡ false = left_false (c == 13) (is_string k) s r in
    shared k (character_flaw_of c) (c ∷ cs) (c ∷ cs) (string_has k c cs s
    (plain_is_bare k c (no_char k s) ∙ bare) (still s) a return)
alone_has Byte c cs (inr s) still a r bare = shared Byte (character_flaw_of c) (c ∷ cs) (c ∷ cs) (byte_has c cs bare a)
alone_has Char c cs (inr s) still a r bare = char_has c cs bare a
alone_has kind c cs (inr s) still a r bare = absurd (cc)

-- A string can't contain a CR.
bare_return : (k : Kind) → is_string k ≡ true → is_strict_unit k (Itself 13) ≡ false
bare_return Str s = refl
bare_return ByteStr s = refl
bare_return CStr s = refl
bare_return kind s = absurd (cc)

-- ---- the flaw of a character or escape

-- If a character begins no valid character or escape, the flaw is at this character.
at_front : (k : Kind) (c : ℕ) (cs : List ℕ) (flaw : FlawKind) → IsQuotedKind k → ((e : List ℕ) → unit_rest k (c ∷ e)
    ≡ None) → StrictUnitFlaw k flaw (c ∷ cs) (c ∷ cs) → HasStrictUnitFlaw k (c ∷ cs) (found_flaw flaw (c ∷ cs))
at_front k c cs flaw q none has = record {
  stops = record {
    front = [];
    text_is = refl;
    begins = strict_one k q;
    stuck = λ d ds e h.
        let same : c ≡ d = cc in
        subst (λ z. unit_rest k (z ∷ e) ≡ None) same (none e);
  };
  has = has;
}

pub strict_unit_spoils : (k : Kind) (t : List ℕ) → IsQuotedKind k → IsOpen k t → unit_rest k t ≡ None
    → HasStrictUnitFlaw k t (strict_unit_flaw_at k t)
unfolding strict_unit_flaw_at
strict_unit_spoils k [] q still none = record { stops = record { front = []; text_is = refl; begins = strict_one k q; stuck = λ c cs e h. absurd (cc) }; has = refl }
strict_unit_spoils k (c ∷ cs) q still none = cond_both (c == 92) _ _ P escaped
    (λ a. cond_both (c == 13 && is_string k) _ _ P (returns a) (alone a))
  where
    P : FoundFlaw → Type 0
    P = HasStrictUnitFlaw k (c ∷ cs)

    escaped : (c == 92) ≡ true → P (strict_escape_flaw_at k cs)
    escaped e =
        let is = eqb-true c 92 e in
        subst (λ z. HasStrictUnitFlaw k (z ∷ cs) (strict_escape_flaw_at k cs)) (sym is)
        (strict_escape_spoils k cs (ap (λ z. unit_rest k (z ∷ cs)) (sym is) ∙ none))

    returns : (c == 92) ≡ false → (c == 13 && is_string k) ≡ true → P (found_flaw CarriageReturn (c ∷ cs))
    returns a e =
        let p = and_parts (c == 13) (is_string k) e in
        let bare : is_strict_unit k (Itself c) ≡ false = ap (λ z. is_strict_unit k (Itself z)) (eqb-true c 13 p.0)
        ∙ bare_return k p.1 in
        at_front k c cs CarriageReturn q (λ r. bare_none k c r a bare) (p.1, inl refl, p.0)

    alone : (c == 92) ≡ false → (c == 13 && is_string k) ≡ false → P (found_flaw (character_flaw_of c) (c ∷ cs))
    alone a r =
        let bare = none_bare k c cs a none in
        at_front k c cs (character_flaw_of c) q (λ e. bare_none k c e a bare) (alone_has k c cs q still a r bare)
