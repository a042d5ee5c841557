-- The files that `--fix` replaces. Paths and contents are lists of bytes.
use Rattle.std.specs.Prelude.{◌≡◌, ◌⊎◌, ◌++◌, ℕ, List, Option, IfSome, option_map}
use Rattle.std.specs.List.{AllByRecursion}
use Rattle.std.specs.Str.{chars}
use Rattle.std.specs.declared.result.Result.TheVariants.{Ok}
use Rattle.rl_files.specs.Replacements.{Replacement, handed_too, replacing}
use Rattle.rl_files.specs.Trees.{World}
use Rattle.rl_restyle.specs.Edits.{Restyles}
use Rattle.rl_restyle.specs.declared.edit.Choice.{Choice}
use Rattle.rl_style.specs.declared.style.Style.{Style}

-- The text `new` is the source `old`, rewritten by `rewrite_source` in a style.
pub record IsFixedText (old new : List ℕ) : Type 0 where
  pub style : Style
  pub choice : Choice
  pub restyles : Restyles style choice (chars old) (chars new)

-- At most one file is replaced, the one at `path`: its bytes `old` become their rewritten text. `before` and `after` are all
-- replacements of files.
abbrev pub FixesSource : List ℕ → List ℕ → Option (List Replacement) → Option (List Replacement) → Type 0
FixesSource path old before after =
    (after ≡ before) ⊎ ((new : List ℕ) × IsFixedText old new × (after ≡ handed_too (replacing path old new) before))

-- The old bytes of a replacement are those of the file at its path, and the new bytes are their rewritten text.
abbrev pub IsFix : Option World → Replacement → Type 0
IsFix holds r = IfSome holds (λ w. w.bytes r.path ≡ Ok r.old) × IsFixedText r.old r.new

-- Each file that is replaced after `before` is replaced by its rewritten text.
abbrev pub Fixes : Option World → Option (List Replacement) → Option (List Replacement) → Type 0
Fixes holds before after =
    (fixes : List Replacement) × (after ≡ option_map (λ earlier. earlier ++ fixes) before) × AllByRecursion (IsFix holds) fixes
