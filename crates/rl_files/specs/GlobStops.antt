-- Matches a pattern up to its first star. A pattern is a list of parts. A star matches any number of elements of the text.
use Rattle.std.specs.Prelude.{◌≡◌, ℕ, ◌+◌, ◌≤◌, Bool, true, false, List, ◌∷◌, ◌++◌, drop, length, ⊤}
use denote.Ref.{Bor}
use Rattle.std.specs.List.{All}
use Rattle.rl_files.specs.declared.glob.Stop.{Stop}
use Rattle.rl_files.specs.declared.glob.Stop.TheVariants.{Decided, Star}
use Rattle.rl_files.specs.Globs.{all_match, any_end}

abbrev pub borrowed_bytes : Bor (List ℕ) → List ℕ
borrowed_bytes bytes = bytes.now

-- Whether a pattern matches a text, from the result of matching up to the pattern's first star.
abbrev pub says : {P X Q T : Type 0} → (P → Bool) → (P → X → Bool) → (Q → List P) → (T → List X) → Stop Q T → Bool
says star one pattern_of text_of (Decided matches) = matches
says star one pattern_of text_of (Star pattern text) =
    any_end (all_match star one (pattern_of pattern)) (text_of text)

-- The first star of the pattern is reached. Each part before the star matches one element of the text. `after` is the pattern after
-- the star, and `rest` the unmatched part of the text.
pub record IsReached {P X : Type 0} (star : P → Bool) (pattern : List P) (text : List X) (after : List P)
    (rest : List X) : Type 0 where
  pub passed : List P
  pub at : P
  pub is_star : star at ≡ true
  pub plain : All (λ p. star p ≡ false) passed
  pub pattern_is : pattern ≡ passed ++ at ∷ after
  pub rest_is : rest ≡ drop (length passed) text

abbrev pub IsStarReached : {P X Q T : Type 0} → (P → Bool) → (Q → List P) → (T → List X) → List P → List X → Stop Q T → Type 0
IsStarReached star pattern_of text_of pattern text (Decided matches) = ⊤
IsStarReached star pattern_of text_of pattern text (Star after rest) =
    IsReached star pattern text (pattern_of after) (text_of rest)

-- The result of matching a pattern against a text up to the pattern's first star.
pub record StopsAs {P X Q T : Type 0} (star : P → Bool) (one : P → X → Bool) (pattern_of : Q → List P)
    (text_of : T → List X) (pattern : List P) (text : List X) (stop : Stop Q T) : Type 0 where
  pub same : all_match star one pattern text ≡ says star one pattern_of text_of stop
  pub stands : IsStarReached star pattern_of text_of pattern text stop

-- A size that decreases from star to star: the length of the pattern after the star, plus one for the star. It is 0 if
-- no star is left.
abbrev pub stop_size : {P Q T : Type 0} → (Q → List P) → Stop Q T → ℕ
stop_size pattern_of (Decided matches) = 0
stop_size pattern_of (Star after rest) = length (pattern_of after) + 1

-- The result of matching a pattern that follows a star, against each end of the text, up to the pattern's next star.
pub record StopsAfter {P X Q T : Type 0} (star : P → Bool) (one : P → X → Bool) (pattern_of : Q → List P)
    (text_of : T → List X) (pattern : List P) (text : List X) (stop : Stop Q T) : Type 0 where
  pub same : any_end (all_match star one pattern) text ≡ says star one pattern_of text_of stop
  pub smaller : stop_size pattern_of stop ≤ length pattern
