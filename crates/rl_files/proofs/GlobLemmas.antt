-- Lemmas about matching a pattern, a list of parts, against a list of elements.
use Rattle.std.proofs.Common.{◌≡◌, ℕ, zero, suc, ◌&&◌, ◌+◌, ◌≤◌, ◌==◌, ◌||◌, Bool, true, false, List, [], ◌∷◌, ◌++◌, drop, length, refl, sym, ap, ◌∙◌, subst, arith, drop-drop, All, append_assoc, length-append}
use Rattle.std.proofs.lemmas.Bool.{and_parts, cond-false, cond-true, false≢true}
use Rattle.std.proofs.lemmas.List.Elements.{All-nil, All-cons, All-head, All-tail, All-append}
use Rattle.rl_files.specs.Globs.{all_match, any_end, first_and}
use Rattle.rl_files.specs.GlobStops.{IsReached, StopsAfter, StopsAs}
use Rattle.rl_files.specs.declared.glob.Stop.{Stop}
use Rattle.rl_files.specs.declared.glob.Stop.TheVariants.{Decided, Star}

or_true : (a b : Bool) → b ≡ true → (a || b) ≡ true
or_true true b e = refl
or_true false b e = e

-- ---- lemmas about the ends of a list

module _ {X : Type 0} (test : List X → Bool) where
  pub any_end_here : (xs : List X) → test xs ≡ true → any_end test xs ≡ true
  any_end_here [] e = e
  any_end_here (x ∷ xs) e = rw e refl

  pub any_end_later : (k : ℕ) (xs : List X) → any_end test (drop k xs) ≡ true → any_end test xs ≡ true
  any_end_later zero xs e = e
  any_end_later (suc k) [] e = e
  any_end_later (suc k) (x ∷ xs) e = or_true (test (x ∷ xs)) (any_end test xs) (any_end_later k xs e)

  pub any_end_none : (xs : List X) → ((k : ℕ) → test (drop k xs) ≡ true → ⊥) → any_end test xs ≡ false
  any_end_none [] none = no_true (test []) (none 0)
    where
      no_true : (b : Bool) → (b ≡ true → ⊥) → b ≡ false
      no_true true h = absurd (h refl)
      no_true false h = refl
  any_end_none (x ∷ xs) none = go (test (x ∷ xs)) refl (any_end_none xs (λ k h. none (suc k) h))
    where
      go : (b : Bool) → test (x ∷ xs) ≡ b → any_end test xs ≡ false → (b || any_end test xs) ≡ false
      go true e later = absurd (none 0 e)
      go false e later = later

-- ---- lemmas about matching a pattern up to its first star

module _ {P X : Type 0} (star : P → Bool) (one : P → X → Bool) where
  -- If the first part of a pattern isn't a star, it must match the first element, and the other parts the rest of the list.
  pub one_more : (p : P) (ps : List P) (xs : List X) → star p ≡ false
      → all_match star one (p ∷ ps) xs ≡ first_and (one p) (all_match star one ps) xs
  one_more p ps xs e = cond-false (star p) _ _ e

  pub star_more : (p : P) (ps : List P) (xs : List X) → star p ≡ true
      → all_match star one (p ∷ ps) xs ≡ any_end (all_match star one ps) xs
  star_more p ps xs e = cond-true (star p) _ _ e

  -- If the parts of a pattern before a star have matched, the rest of the list is matched against the pattern after the
  -- star.
  shifted : (passed : List P) (at : P) (after : List P) (xs : List X) → All (λ p. star p ≡ false) passed
      → star at ≡ true → all_match star one (passed ++ at ∷ after) xs ≡ true
      → any_end (all_match star one after) (drop (length passed) xs) ≡ true
  shifted [] at after xs plain is e = sym (star_more at after xs is) ∙ e
  shifted (p ∷ ps) at after [] plain is e = absurd (false≢true (sym (one_more p (ps ++ at ∷ after) []
      (All-head (λ z. star z ≡ false) p ps plain)) ∙ e))
  shifted (p ∷ ps) at after (x ∷ xs) plain is e =
      let both = and_parts _ _ (sym (one_more p (ps ++ at ∷ after) (x ∷ xs)
      (All-head (λ z. star z ≡ false) p ps plain)) ∙ e) in
      shifted ps at after xs (All-tail (λ z. star z ≡ false) p ps plain) is both.1

  -- If the parts of a pattern before a star have matched at one position, the result is the same if later positions are
  -- tried for these parts.
  first_enough : (pattern : List P) (text : List X) (after : List P) (rest : List X)
      → IsReached star pattern text after rest
      → all_match star one pattern text ≡ any_end (all_match star one after) rest
      → any_end (all_match star one pattern) text ≡ any_end (all_match star one after) rest
  first_enough pattern text after rest r same = go (any_end (all_match star one after) rest) refl
    where
      later : (k : ℕ) → all_match star one pattern (drop k text) ≡ true
          → any_end (all_match star one after) rest ≡ true
      later k h =
          let moved = shifted r.passed r.at after (drop k text) r.plain r.is_star
          (subst (λ (z : List P). all_match star one z (drop k text) ≡ true) r.pattern_is h) in
          let turned : drop (length r.passed) (drop k text) ≡ drop k rest =
          drop-drop (length r.passed) k text ∙ ap (λ (n : ℕ). drop n text) {x = k + length r.passed}
          {y = length r.passed + k} (omega arith)
          ∙ sym (drop-drop k (length r.passed) text) ∙ ap (drop k) (sym r.rest_is) in
          any_end_later (all_match star one after) k rest
          (subst (λ (z : List X). any_end (all_match star one after) z ≡ true) turned moved)

      go : (b : Bool) → any_end (all_match star one after) rest ≡ b → any_end (all_match star one pattern) text
          ≡ any_end (all_match star one after) rest
      go true e = any_end_here (all_match star one pattern) text (same ∙ e) ∙ sym e
      go false e = any_end_none (all_match star one pattern) text (λ k h. false≢true (sym e ∙ later k h)) ∙ sym e

  -- The invariant of the loop over the parts of a pattern: the pattern matches the text exactly if the parts `after`
  -- match the elements `rest`. The parts before `after` aren't stars.
  pub record Goes (pattern : List P) (text : List X) (after : List P) (rest : List X) : Type 0 where
    pub passed : List P
    pub plain : All (λ p. star p ≡ false) passed
    pub pattern_is : pattern ≡ passed ++ after
    pub rest_is : rest ≡ drop (length passed) text
    pub same : all_match star one pattern text ≡ all_match star one after rest

  pub goes_on : (pattern : List P) (text : List X) (p : P) (after : List P) (x : X) (rest : List X)
      → Goes pattern text (p ∷ after) (x ∷ rest) → star p ≡ false → one p x ≡ true → Goes pattern text after rest
  goes_on pattern text p after x rest g plain matches = record {
    passed = g.passed ++ p ∷ [];
    plain = All-append (λ z. star z ≡ false) g.passed (p ∷ []) g.plain
        (All-cons (λ z. star z ≡ false) p [] plain (All-nil (λ z. star z ≡ false)));
    pattern_is = g.pattern_is ∙ sym (append_assoc g.passed (p ∷ []) after);
    rest_is = ap (drop 1) g.rest_is ∙ drop-drop 1 (length g.passed) text
        ∙ ap (λ (n : ℕ). drop n text) (sym (length-append g.passed (p ∷ [])));
    same = g.same ∙ one_more p after (x ∷ rest) plain ∙ and_true (one p x) (all_match star one after rest) matches;
  }
    where
      and_true : (a b : Bool) → a ≡ true → (a && b) ≡ b
      and_true true b e = refl
      and_true false b e = absurd (false≢true e)

  module _ {Q T : Type 0} (pattern_of : Q → List P) (text_of : T → List X) where
    -- If all parts of a pattern have matched, the pattern matches exactly if no element is left.
    pub stops_at_end : (pattern : List P) (text rest : List X) → Goes pattern text [] rest
        → StopsAs star one pattern_of text_of pattern text (Decided (length rest == 0))
    stops_at_end pattern text rest g = record { same = g.same; stands = tt }

    -- ---- lemmas about matching a pattern after a star

    reached_smaller : (pattern : List P) (text : List X) (after : List P) (rest : List X)
        → IsReached star pattern text after rest → length after + 1 ≤ length pattern
    reached_smaller pattern text after rest r = omega (
      arith,
      ap length r.pattern_is,
      length-append r.passed (r.at ∷ after),
    )

    pub after_star : (pattern : List P) (first text : List X) (stop : Stop Q T) → ((stop ≡ Decided false) → ⊥)
        → any_end (all_match star one pattern) first ≡ any_end (all_match star one pattern) text
        → StopsAs star one pattern_of text_of pattern text stop
        → StopsAfter star one pattern_of text_of pattern first stop
    after_star pattern first text (Decided true) other so s = record {
      same = so ∙ any_end_here (all_match star one pattern) text s.same;
      smaller = omega arith;
    }
    after_star pattern first text (Decided false) other so s = absurd (other refl)
    after_star pattern first text (Star after rest) other so s = record {
      same = so ∙ first_enough pattern text (pattern_of after) (text_of rest) s.stands s.same;
      smaller = reached_smaller pattern text (pattern_of after) (text_of rest) s.stands;
    }
