-- Sequences of digits whose characters are rewritten, and which are then divided into groups.
use Rattle.rl_syntax.proofs.Common.{◌≡◌, ℕ, ◌⊎◌, ◌||◌, ◌&&◌, Bool, true, false, not, ◌==◌, ◌+◌, ◌%◌, arith, cond, List, [], ◌∷◌, ◌++◌, length, Some, None, refl, sym, ap, ◌∙◌, inl, inr, append_assoc, and_from, and_parts, cases_Bool, eqb-true, list_all, list_any, list_all-append, flat_map, nat_lt, ⊤}
use Rattle.std.specs.Prelude.{Option}
use Rattle.std.proofs.lemmas.List.Elements.{filter-append}
use Rattle.rl_syntax.specs.Spelling.{without_underscores}
use Rattle.rl_syntax.specs.Strict.{IsDigits}
use Rattle.rl_syntax.specs.Texts.{first_passes}
use Rattle.rl_writing.specs.Integers.{group_size}
use Rattle.rl_style.specs.declared.style.Case.{Case}
use Rattle.rl_style.specs.declared.style.Case.TheVariants.{Lower, Upper}
use Rattle.rl_style.specs.Cases.{cased, exponent_letter}
use Rattle.rl_style.specs.Groups.{ending, ends, in_groups, regrouped, spaced}
use Rattle.rl_style.specs.Mirrors.{run_placed}
use Rattle.rl_style.proofs.CaseLemmas.{cased_underscore, none_right}
use Rattle.rl_style.proofs.GroupRows.{clear_ending, mark, not_false, only_ending, other, row_all, row_digits, row_ending, row_first, row_kept, row_some, row_spaced, row_trim}
use Rattle.rl_style.proofs.NumberCharacters.{Keeps, RowKeeps, becomes}
use Rattle.rl_style.proofs.Trimmed.{IsTrim, passing_chars, none_of, only}

-- ---- a sequence of digits that is divided into groups, or unchanged

pub ends_none : (from_first : Bool) (size count : ℕ) → ends from_first size count 0 ≡ false
ends_none false size count = ap (λ b. b && 0 % size == 0) (none_right (nat_lt 0 size))
ends_none true size count = refl

-- Whether an underscore follows a digit, according to the number of digits after it.
abbrev pub tests : Bool → ℕ → ℕ → ℕ → ℕ → Bool
tests from_first size least count = ends from_first (group_size size least count) count

pub either : (P : List ℕ → Type 0) (from_first : Bool) (size least : ℕ) (run : List ℕ) → P run
    → P (row_spaced (tests from_first size least (length (without_underscores run))) run)
    → P (regrouped from_first size least run)
either P from_first size least run same new = go (size == 0)
  where
    go : (b : Bool) → P (cond b run (row_spaced (tests from_first size least (length (without_underscores run))) run))
    go true = same
    go false = new

pub grouped_all : (p : ℕ → Bool) (from_first : Bool) (size least : ℕ) (run : List ℕ) → p 95 ≡ true
    → list_all p run ≡ true → list_all p (regrouped from_first size least run) ≡ true
grouped_all p from_first size least run m h = either (λ z. list_all p z ≡ true) from_first size least run h
    (row_all p (tests from_first size least (length (without_underscores run))) run m h)

pub grouped_kept : (p : ℕ → Bool) (from_first : Bool) (size least : ℕ) (run : List ℕ) → p 95 ≡ false
    → passing_chars p (regrouped from_first size least run) ≡ passing_chars p run
grouped_kept p from_first size least run n = either (λ z. passing_chars p z ≡ passing_chars p run) from_first size least run refl
    (row_kept p (tests from_first size least (length (without_underscores run))) run n)

pub grouped_some : (p : ℕ → Bool) (from_first : Bool) (size least : ℕ) (run : List ℕ) → p 95 ≡ false
    → list_any p run ≡ true → list_any p (regrouped from_first size least run) ≡ true
grouped_some p from_first size least run n h = either (λ z. list_any p z ≡ true) from_first size least run h
    (row_some p (tests from_first size least (length (without_underscores run))) run n h)

-- A sequence contains a character that passes a test if and only if the list of the characters that pass isn't empty.
any_passing : (p : ℕ → Bool) (cs : List ℕ) → list_any p cs ≡ first_passes (λ c. true) (passing_chars p cs)
any_passing p [] = refl
any_passing p (c ∷ cs) = go (p c) (any_passing p cs)
  where
    go : (b : Bool) → list_any p cs ≡ first_passes (λ c. true) (passing_chars p cs)
        → (b || list_any p cs) ≡ first_passes (λ c. true) (cond b (c ∷ passing_chars p cs) (passing_chars p cs))
    go true more = refl
    go false more = more

pub grouped_any : (p : ℕ → Bool) (from_first : Bool) (size least : ℕ) (run : List ℕ) → p 95 ≡ false
    → list_any p (regrouped from_first size least run) ≡ list_any p run
grouped_any p from_first size least run n = any_passing p (regrouped from_first size least run)
    ∙ ap (first_passes (λ c. true)) (grouped_kept p from_first size least run n) ∙ sym (any_passing p run)

pub grouped_digits : (from_first : Bool) (size least : ℕ) (run : List ℕ) → IsDigits run
    → IsDigits (regrouped from_first size least run)
grouped_digits from_first size least run h = either IsDigits from_first size least run h
    (row_digits (tests from_first size least (length (without_underscores run))) run h)

pub grouped_trim : (from_first : Bool) (size least : ℕ) (run : List ℕ) → IsTrim run
    → IsTrim (regrouped from_first size least run)
grouped_trim from_first size least run h = either IsTrim from_first size least run h
    (row_trim (tests from_first size least (length (without_underscores run))) run (ends_none from_first _ _) h)

-- The sequence begins with the character `c`.
pub record Begins (c : ℕ) (run : List ℕ) : Type 0 where
  pub rest : List ℕ
  pub is : run ≡ c ∷ rest

pub grouped_first : (from_first : Bool) (size least c : ℕ) (cs : List ℕ) → (c == 95) ≡ false
    → Begins c (regrouped from_first size least (c ∷ cs))
grouped_first from_first size least c cs h = either (Begins c) from_first size least (c ∷ cs)
    (record { rest = cs; is = refl })
    (record { rest = _; is = row_first (tests from_first size least (length (without_underscores (c ∷ cs)))) c cs h })

-- A sequence of one digit is unchanged when it is divided into groups.
pub grouped_one : (from_first : Bool) (size least c : ℕ) → (c == 95) ≡ false
    → regrouped from_first size least (c ∷ []) ≡ c ∷ []
grouped_one from_first size least c h =
    let n : ℕ = length (without_underscores (c ∷ [])) in
    either (λ z. z ≡ c ∷ []) from_first size least (c ∷ []) refl
    (row_first (tests from_first size least n) c [] h
    ∙ ap (λ b. c ∷ ((mark b ++ []) ++ [])) (ends_none from_first (group_size size least n) n))

pub ungrouped : (from_first : Bool) (size least : ℕ) (run : List ℕ) → size ≡ 0
    → regrouped from_first size least run ≡ run
ungrouped from_first size least run e = ap (λ z. regrouped from_first z least run) e

-- ---- each character becomes one character, or is an underscore that is dropped

abbrev pub Plain : (ℕ → List ℕ) → ℕ → Type 0
Plain f c =
    ((f c ≡ []) × ((c == 95) ≡ true))
    ⊎ ((d : ℕ) × (f c ≡ d ∷ []) × ((d == 95) ≡ (c == 95)))

abbrev pub RowPlain : (ℕ → List ℕ) → List ℕ → Type 0
RowPlain f [] = ⊤
RowPlain f (c ∷ cs) = Plain f c × RowPlain f cs

pub plain_of : (f : ℕ → List ℕ) (run : List ℕ) → RowKeeps f run → RowPlain f run
plain_of f [] k = tt
plain_of f (c ∷ cs) k = (one k.0, plain_of f cs k.1)
  where
    one : Keeps f c → Plain f c
    one (inl a) = inl a
    one (inr a) = inr (a.0, a.1, a.3)

new_under : (hex : Bool) (digits letter : Option Case) (c : ℕ)
    → (cond hex (cased digits c) (exponent_letter letter c) == 95) ≡ (c == 95)
new_under true digits letter c = cased_underscore digits c
new_under false digits None c = refl
new_under false digits (Some Lower) c = go (c == 69) refl
  where
    go : (b : Bool) → (c == 69) ≡ b → (cond b 101 c == 95) ≡ (c == 95)
    go true e = ap (λ z. z == 95) (sym (eqb-true c 69 e))
    go false e = refl
new_under false digits (Some Upper) c = go (c == 101) refl
  where
    go : (b : Bool) → (c == 101) ≡ b → (cond b 69 c == 95) ≡ (c == 95)
    go true e = ap (λ z. z == 95) (sym (eqb-true c 101 e))
    go false e = refl

-- A character other than a plus becomes one character, or is an underscore that is dropped.
plain_character : (drops hex plus : Bool) (digits letter : Option Case) (c : ℕ) → (c == 43) ≡ false
    → Plain (becomes drops hex plus digits letter) c
plain_character drops hex plus digits letter c h =
    let x : ℕ = cond hex (cased digits c) (exponent_letter letter c) in
    let none : ((not hex && plus) && c == 43) ≡ false = ap (λ b. (not hex && plus) && b) h
    ∙ none_right (not hex && plus) in
    elim (cases_Bool (drops && c == 95)) [
      | inl a ↦ inl (
        ap (λ b. cond (b || ((not hex && plus) && c == 43)) [] (x ∷ [])) a,
        (and_parts drops (c == 95) a).1,
      )
      | inr a ↦ inr (
        x,
        ap (λ b. cond (b || ((not hex && plus) && c == 43)) [] (x ∷ [])) a ∙ ap (λ b. cond b [] (x ∷ [])) none,
        new_under hex digits letter c,
      )
    ]

pub row_plain : (drops hex plus : Bool) (digits letter : Option Case) (run : List ℕ)
    → list_all (λ c. not (c == 43)) run ≡ true → RowPlain (becomes drops hex plus digits letter) run
row_plain drops hex plus digits letter [] h = tt
row_plain drops hex plus digits letter (c ∷ cs) h =
    let p = and_parts (not (c == 43)) (list_all (λ c. not (c == 43)) cs) h in (
      plain_character drops hex plus digits letter c (not_false (c == 43) p.0),
      row_plain drops hex plus digits letter cs p.1,
    )

-- If underscores aren't dropped, an underscore is unchanged.
pub keeps_under : (hex plus : Bool) (digits letter : Option Case) → becomes false hex plus digits letter 95 ≡ 95 ∷ []
keeps_under true plus None letter = refl
keeps_under true plus (Some Lower) letter = refl
keeps_under true plus (Some Upper) letter = refl
keeps_under false true digits None = refl
keeps_under false true digits (Some Lower) = refl
keeps_under false true digits (Some Upper) = refl
keeps_under false false digits None = refl
keeps_under false false digits (Some Lower) = refl
keeps_under false false digits (Some Upper) = refl

-- If underscores are dropped, the new sequence contains none.
drops_all : (hex plus : Bool) (digits letter : Option Case) (cs : List ℕ)
    → list_all other (flat_map (becomes true hex plus digits letter) cs) ≡ true
drops_all hex plus digits letter [] = refl
drops_all hex plus digits letter (c ∷ cs) =
    list_all-append other (becomes true hex plus digits letter c) (flat_map (becomes true hex plus digits letter) cs)
    ∙ and_from _ _ (one (c == 95) ((not hex && plus) && c == 43) refl) (drops_all hex plus digits letter cs)
  where
    x : ℕ
    x = cond hex (cased digits c) (exponent_letter letter c)

    one : (u b : Bool) → (c == 95) ≡ u
        → list_all other (cond (u || b) [] (cond hex (cased digits c) (exponent_letter letter c) ∷ [])) ≡ true
    one true b e = refl
    one false true e = refl
    one false false e = ap (λ z. not z && true) (new_under hex digits letter c ∙ e)

-- ---- it makes no difference whether underscores are dropped before or after the other characters are rewritten

bare_character : (drops hex plus : Bool) (digits letter : Option Case) (c : ℕ)
    → without_underscores (becomes drops hex plus digits letter c)
    ≡ cond (not (c == 95)) (becomes drops hex plus digits letter c) []
bare_character drops hex plus digits letter c = go ((drops && c == 95) || ((not hex && plus) && c == 43)) (c == 95) refl
  where
    go : (b u : Bool) → (c == 95) ≡ u
        → without_underscores (cond b [] (cond hex (cased digits c) (exponent_letter letter c) ∷ []))
        ≡ cond (not u) (cond b [] (cond hex (cased digits c) (exponent_letter letter c) ∷ [])) []
    go true true e = refl
    go true false e = refl
    go false u e = ap (λ z. cond (not z) (cond hex (cased digits c) (exponent_letter letter c) ∷ []) [])
        (new_under hex digits letter c ∙ e)

pub bare_flat : (drops hex plus : Bool) (digits letter : Option Case) (cs : List ℕ)
    → without_underscores (flat_map (becomes drops hex plus digits letter) cs)
    ≡ flat_map (becomes drops hex plus digits letter) (without_underscores cs)
bare_flat drops hex plus digits letter [] = refl
bare_flat drops hex plus digits letter (c ∷ cs) =
    let f : ℕ → List ℕ = becomes drops hex plus digits letter in
    filter-append other (f c) (flat_map f cs)
    ∙ ap (λ z. z ++ without_underscores (flat_map f cs)) (bare_character drops hex plus digits letter c)
    ∙ ap (λ z. cond (not (c == 95)) (f c) [] ++ z) (bare_flat drops hex plus digits letter cs)
    ∙ go (not (c == 95))
  where
    go : (b : Bool) → cond b (becomes drops hex plus digits letter c) []
        ++ flat_map (becomes drops hex plus digits letter) (without_underscores cs)
        ≡ flat_map (becomes drops hex plus digits letter) (cond b (c ∷ without_underscores cs) (without_underscores cs))
    go true = refl
    go false = refl

-- ---- the underscores at the end of a rewritten sequence

only_flat : (f : ℕ → List ℕ) (run : List ℕ) → f 95 ≡ 95 ∷ [] → RowPlain f run → only (flat_map f run) ≡ only run
only_flat f [] u k = refl
only_flat f (c ∷ cs) u k =
    elim k.0 [
      | inl a ↦ absurd (let e : [] ≡ 95 ∷ [] = sym (ap f (sym (eqb-true c 95 a.1)) ∙ a.0) ∙ u in cc)
      | inr a ↦ ap (λ z. only (z ++ flat_map f cs)) a.1 ∙ ap (λ b. b && only (flat_map f cs)) a.2
          ∙ ap (λ b. (c == 95) && b) (only_flat f cs u k.1)
    ]

only_self : (f : ℕ → List ℕ) (run : List ℕ) → f 95 ≡ 95 ∷ [] → only run ≡ true → flat_map f run ≡ run
only_self f [] u h = refl
only_self f (c ∷ cs) u h =
    let p = and_parts (c == 95) (only cs) h in
    let is : c ≡ 95 = eqb-true c 95 p.0 in
    ap (λ z. z ++ flat_map f cs) (ap f is ∙ u ∙ ap (λ z. z ∷ []) (sym is)) ∙ ap (λ z. c ∷ z) (only_self f cs u p.1)

pub ending_flat : (f : ℕ → List ℕ) (run : List ℕ) → f 95 ≡ 95 ∷ [] → RowPlain f run
    → ending (flat_map f run) ≡ ending run
ending_flat f [] u k = refl
ending_flat f (c ∷ cs) u k =
    elim (cases_Bool (only (c ∷ cs))) [
      | inl a ↦ ap ending (only_self f (c ∷ cs) u a)
      | inr a ↦ elim k.0 [
        | inl b ↦ absurd (let e : [] ≡ 95 ∷ [] = sym (ap f (sym (eqb-true c 95 b.1)) ∙ b.0) ∙ u in cc)
        | inr b ↦
            let none : only (b.0 ∷ flat_map f cs) ≡ false = ap (λ z. only (z ++ flat_map f cs)) (sym b.1)
            ∙ only_flat f (c ∷ cs) u k ∙ a in
            ap (λ z. ending (z ++ flat_map f cs)) b.1
            ∙ ap (λ z. cond z (b.0 ∷ flat_map f cs) (ending (flat_map f cs))) none ∙ ending_flat f cs u k.1
            ∙ ap (λ z. cond z (c ∷ cs) (ending cs)) (sym a)
      ]
    ]

-- ---- if a sequence is rewritten again, nothing changes

pub again_grouped : (drops hex plus : Bool) (digits letter : Option Case) (from_first : Bool) (size least : ℕ)
    (run : List ℕ) → flat_map (becomes drops hex plus digits letter) run ≡ run
    → RowPlain (becomes drops hex plus digits letter) (regrouped from_first size least run)
    → regrouped from_first size least (flat_map (becomes drops hex plus digits letter)
    (regrouped from_first size least run)) ≡ regrouped from_first size least run
again_grouped drops hex plus digits letter from_first size least run same plain = go (size == 0) plain
  where
    f : ℕ → List ℕ
    f = becomes drops hex plus digits letter

    test : ℕ → Bool
    test = tests from_first size least (length (without_underscores run))

    new : List ℕ
    new = row_spaced test run

    bare : without_underscores (flat_map f new) ≡ without_underscores run
    bare = bare_flat drops hex plus digits letter new
        ∙ ap (flat_map f) (row_kept other test run refl)
        ∙ sym (bare_flat drops hex plus digits letter run) ∙ ap without_underscores same

    -- After `new` is rewritten a second time, it ends with as many underscores as `run`, whether or not underscores are
    -- dropped.
    last : (drops : Bool) → flat_map (becomes drops hex plus digits letter) run ≡ run
        → RowPlain (becomes drops hex plus digits letter) new
        → ending (flat_map (becomes drops hex plus digits letter) new) ≡ ending run
    last true s p = clear_ending (flat_map (becomes true hex plus digits letter) new)
        (drops_all hex plus digits letter new)
        ∙ sym (ap ending (sym s) ∙ clear_ending (flat_map (becomes true hex plus digits letter) run)
        (drops_all hex plus digits letter run))
    last false s p = ending_flat (becomes false hex plus digits letter) new (keeps_under hex plus digits letter) p
        ∙ row_ending test run (ends_none from_first (group_size size least (length (without_underscores run)))
        (length (without_underscores run)))

    go : (b : Bool) → RowPlain f (cond b run new)
        → cond b (flat_map f (cond b run new))
        (row_spaced (tests from_first size least (length (without_underscores (flat_map f (cond b run new)))))
        (flat_map f (cond b run new))) ≡ cond b run new
    go true p = same
    go false p =
        ap (λ z. in_groups from_first size least z ++ ending (flat_map f new)) bare
        ∙ ap (λ z. in_groups from_first size least (without_underscores run) ++ z) (last drops same p)

-- ---- the digits that the code writes

count_same : (f : ℕ → List ℕ) (run : List ℕ) → RowPlain f run
    → length (without_underscores (flat_map f run)) ≡ length (without_underscores run)
count_same f [] k = refl
count_same f (c ∷ cs) k =
    elim k.0 [
      | inl a ↦ ap (λ z. length (without_underscores (z ++ flat_map f cs))) a.0 ∙ count_same f cs k.1
          ∙ ap (λ b. length (cond (not b) (c ∷ without_underscores cs) (without_underscores cs))) (sym a.1)
      | inr a ↦ ap (λ z. length (without_underscores (z ++ flat_map f cs))) a.1
          ∙ ap (λ b. length (cond (not b) (a.0 ∷ without_underscores (flat_map f cs))
          (without_underscores (flat_map f cs)))) a.2 ∙ go (c == 95) a.0 (count_same f cs k.1)
    ]
  where
    go : (b : Bool) (d : ℕ) → length (without_underscores (flat_map f cs)) ≡ length (without_underscores cs)
        → length (cond (not b) (d ∷ without_underscores (flat_map f cs)) (without_underscores (flat_map f cs)))
        ≡ length (cond (not b) (c ∷ without_underscores cs) (without_underscores cs))
    go true d e = e
    go false d e = omega (arith, e)

-- A sequence that consists of underscores has no digits.
only_bare : (cs : List ℕ) → only cs ≡ true → without_underscores cs ≡ []
only_bare cs h = none_of other cs refl h

pub placed_is : (f : ℕ → List ℕ) (test : ℕ → Bool) (run : List ℕ) → (f 95 ≡ []) ⊎ (f 95 ≡ 95 ∷ []) → RowPlain f run
    → run_placed f test run ≡ row_spaced test (flat_map f run)
placed_is f test [] u k = refl
placed_is f test (c ∷ cs) u k =
    let more = placed_is f test cs u k.1 in
    elim (cases_Bool (c == 95)) [
      | inl a ↦
          let is : c ≡ 95 = eqb-true c 95 a in
          ap (λ b. cond b (cond (only cs) (f 95) [] ++ run_placed f test cs)
          ((f c ++ mark (test (length (without_underscores cs)))) ++ run_placed f test cs)) a
          ∙ under u more ∙ ap (λ z. row_spaced test (f z ++ flat_map f cs)) (sym is)
      | inr a ↦
          ap (λ b. cond b (cond (only cs) (f 95) [] ++ run_placed f test cs)
          ((f c ++ mark (test (length (without_underscores cs)))) ++ run_placed f test cs)) a
          ∙ digit a k.0 more
    ]
  where
    under : (f 95 ≡ []) ⊎ (f 95 ≡ 95 ∷ []) → run_placed f test cs ≡ row_spaced test (flat_map f cs)
        → cond (only cs) (f 95) [] ++ run_placed f test cs ≡ row_spaced test (f 95 ++ flat_map f cs)
    under (inl e) more = ap (λ z. cond (only cs) z [] ++ run_placed f test cs) e ∙ both (only cs) ∙ more
        ∙ ap (λ z. row_spaced test (z ++ flat_map f cs)) (sym e)
      where
        both : (b : Bool) → cond b [] [] ++ run_placed f test cs ≡ run_placed f test cs
        both true = refl
        both false = refl
    under (inr e) more =
        let same : only (flat_map f cs) ≡ only cs = only_flat f cs e k.1 in
        ap (λ z. cond (only cs) z [] ++ run_placed f test cs) e ∙ ap (λ z. cond (only cs) (95 ∷ []) [] ++ z) more
        ∙ go (only cs) same
        ∙ ap (λ z. row_spaced test (z ++ flat_map f cs)) (sym e)
      where
        go : (b : Bool) → only (flat_map f cs) ≡ b → cond b (95 ∷ []) [] ++ row_spaced test (flat_map f cs)
            ≡ row_spaced test (95 ∷ flat_map f cs)
        go true h =
            ap (λ z. 95 ∷ (spaced test z ++ ending (flat_map f cs))) (only_bare (flat_map f cs) h)
            ∙ ap (λ z. 95 ∷ z) (only_ending (flat_map f cs) h)
            ∙ ap (λ z. spaced test z ++ (95 ∷ flat_map f cs)) (sym (only_bare (flat_map f cs) h))
            ∙ ap (λ z. spaced test (without_underscores (flat_map f cs))
            ++ cond z (95 ∷ flat_map f cs) (ending (flat_map f cs))) (sym h)
        go false h = ap (λ z. spaced test (without_underscores (flat_map f cs))
            ++ cond z (95 ∷ flat_map f cs) (ending (flat_map f cs))) (sym h)

    digit : (c == 95) ≡ false → Plain f c → run_placed f test cs ≡ row_spaced test (flat_map f cs)
        → (f c ++ mark (test (length (without_underscores cs)))) ++ run_placed f test cs
        ≡ row_spaced test (f c ++ flat_map f cs)
    digit n (inl a) more = absurd (let e : true ≡ false = sym a.1 ∙ n in cc)
    digit n (inr a) more =
        let other : (a.0 == 95) ≡ false = a.2 ∙ n in
        let b : Bool = test (length (without_underscores cs)) in
        ap (λ z. (z ++ mark b) ++ run_placed f test cs) a.1 ∙ ap (λ z. a.0 ∷ (mark b ++ z)) more
        ∙ ap (λ m. a.0 ∷ (mark (test m) ++ row_spaced test (flat_map f cs))) (sym (count_same f cs k.1))
        ∙ ap (λ z. a.0 ∷ z) (sym (append_assoc (mark (test (length (without_underscores (flat_map f cs)))))
        (spaced test (without_underscores (flat_map f cs))) (ending (flat_map f cs))))
        ∙ sym (row_first test a.0 (flat_map f cs) other)
        ∙ ap (λ z. row_spaced test (z ++ flat_map f cs)) (sym a.1)

-- ---- the code writes one character after another

pub counted : (c : ℕ) (cs : List ℕ) → (c == 95) ≡ false
    → length (without_underscores (c ∷ cs)) ≡ 1 + length (without_underscores cs)
counted c cs h = ap (λ b. length (cond (not b) (c ∷ without_underscores cs) (without_underscores cs))) h ∙ omega arith

pub uncounted : (c : ℕ) (cs : List ℕ) → (c == 95) ≡ true
    → length (without_underscores (c ∷ cs)) ≡ length (without_underscores cs)
uncounted c cs h = ap (λ b. length (cond (not b) (c ∷ without_underscores cs) (without_underscores cs))) h

none_counted : (cs : List ℕ) → length (without_underscores cs) ≡ 0 → only cs ≡ true
none_counted [] h = refl
none_counted (c ∷ cs) h =
    elim (cases_Bool (c == 95)) [
      | inl a ↦ and_from (c == 95) (only cs) a (none_counted cs (sym (uncounted c cs a) ∙ h))
      | inr a ↦ absurd (let e = counted c cs a in omega (arith, e, h))
    ]

some_counted : (cs : List ℕ) → (length (without_underscores cs) ≡ 0 → ⊥) → only cs ≡ false
some_counted cs n =
    elim (cases_Bool (only cs)) [
      | inl a ↦ absurd (n (ap length (only_bare cs a)))
      | inr a ↦ a
    ]

pub placed_digit : (f : ℕ → List ℕ) (test : ℕ → Bool) (c : ℕ) (cs : List ℕ) → (c == 95) ≡ false
    → run_placed f test (c ∷ cs) ≡ (f c ++ mark (test (length (without_underscores cs)))) ++ run_placed f test cs
placed_digit f test c cs h = ap (λ b. cond b (cond (only cs) (f 95) [] ++ run_placed f test cs)
    ((f c ++ mark (test (length (without_underscores cs)))) ++ run_placed f test cs)) h

placed_under : (f : ℕ → List ℕ) (test : ℕ → Bool) (c : ℕ) (cs : List ℕ) → (c == 95) ≡ true
    → run_placed f test (c ∷ cs) ≡ cond (only cs) (f 95) [] ++ run_placed f test cs
placed_under f test c cs h = ap (λ b. cond b (cond (only cs) (f 95) [] ++ run_placed f test cs)
    ((f c ++ mark (test (length (without_underscores cs)))) ++ run_placed f test cs)) h

pub placed_last : (f : ℕ → List ℕ) (test : ℕ → Bool) (c : ℕ) (cs : List ℕ) → (c == 95) ≡ true
    → length (without_underscores (c ∷ cs)) ≡ 0 → run_placed f test (c ∷ cs) ≡ f 95 ++ run_placed f test cs
placed_last f test c cs h n = placed_under f test c cs h
    ∙ ap (λ b. cond b (f 95) [] ++ run_placed f test cs) (none_counted cs (sym (uncounted c cs h) ∙ n))

pub placed_skip : (f : ℕ → List ℕ) (test : ℕ → Bool) (c : ℕ) (cs : List ℕ) → (c == 95) ≡ true
    → (length (without_underscores (c ∷ cs)) ≡ 0 → ⊥) → run_placed f test (c ∷ cs) ≡ run_placed f test cs
placed_skip f test c cs h n = placed_under f test c cs h
    ∙ ap (λ b. cond b (f 95) [] ++ run_placed f test cs) (some_counted cs (λ e. n (uncounted c cs h ∙ e)))

under_is : (drops hex plus : Bool) (digits letter : Option Case)
    → (becomes drops hex plus digits letter 95 ≡ []) ⊎ (becomes drops hex plus digits letter 95 ≡ 95 ∷ [])
under_is true hex plus digits letter = inl refl
under_is false hex plus digits letter = inr (keeps_under hex plus digits letter)

pub placed_groups : (drops hex plus : Bool) (digits letter : Option Case) (from_first : Bool)
    (size least among count : ℕ) (run : List ℕ) → list_all (λ c. not (c == 43)) run ≡ true
    → among ≡ group_size size least count → count ≡ length (without_underscores run)
    → run_placed (becomes drops hex plus digits letter) (ends from_first among count) run
    ≡ in_groups from_first size least (without_underscores (flat_map (becomes drops hex plus digits letter) run))
    ++ ending (flat_map (becomes drops hex plus digits letter) run)
placed_groups drops hex plus digits letter from_first size least among count run h a n =
    let f : ℕ → List ℕ = becomes drops hex plus digits letter in
    let plain = row_plain drops hex plus digits letter run h in
    ap (λ z. run_placed f (ends from_first z count) run) a
    ∙ ap (λ z. run_placed f (tests from_first size least z) run) (n ∙ sym (count_same f run plain))
    ∙ placed_is f (tests from_first size least (length (without_underscores (flat_map f run)))) run
    (under_is drops hex plus digits letter) plain
