-- A partly rewritten source, for the proofs of private functions only.
use Rattle.std.specs.Prelude.{◌≡◌, ◌↔◌, ℕ, Bool, false, IsTrue, List, [], ◌∷◌, ◌++◌, Option}
use Rattle.std.specs.List.{AllByRecursion}
use Rattle.std.specs.Str.{chars}
use Rattle.rl_syntax.specs.Texts.{byte_len}
use Rattle.rl_lexer.specs.Cursors.{IsCursorState}
use Rattle.rl_lexer.specs.Sources.{CutSource, IsCutUpTo}
use Rattle.rl_style.specs.Restylable.{GivesLiteral, RestylableState}
use Rattle.rl_style.specs.Restyled.{IsEdited}
use Rattle.rl_style.specs.declared.restylable.Restylable.{Restylable}
use Rattle.rl_style.specs.declared.style.Style.{Style}
use Rattle.rl_restyle.specs.Clean.{IsClean}
use Rattle.rl_restyle.specs.Edits.{AreEdits, Seen, nothing_seen, seen_after}
use Rattle.rl_restyle.specs.declared.edit.Choice.{Choice}

abbrev pub seen_all : Seen → List CutSource → Seen
seen_all seen [] = seen
seen_all seen (w ∷ ws) = seen_all (seen_after seen w) ws

abbrev pub seen_of : RestylableState → Seen
seen_of s = record { last = s.last; end = s.end; calls = s.calls }

-- The lexed tokens have no errors exactly if `clean` is true and the cursor has passed no stray character.
abbrev pub AreCleanIf : List ℕ → List CutSource → RestylableState → Bool → Type 0
AreCleanIf t cuts s clean = (IsTrue clean × (s.has_stray ≡ false)) ↔ AllByRecursion (IsClean t) cuts

-- A partly rewritten source. The cursor's state after the last lexed token is `s`. The text `out` replaces the old text
-- before the byte offset `at`. The old text from `at` up to the last lexed token stays unchanged. `clean` is true if all literals
-- so far are without errors.
pub record IsDraft (style : Style) (choice : Choice) (t : List ℕ) (s : RestylableState) (at : ℕ) (out : List ℕ)
    (clean : Bool) : Type 0 where
  pub whole : chars s.tokens.text ≡ t
  pub cursor : IsCursorState s.tokens.text s.tokens.rest
  pub cuts : List CutSource
  pub texts : List (Option (List ℕ))
  pub are_cuts : IsCutUpTo t cuts (chars s.tokens.rest)
  pub are_edits : AreEdits style choice t nothing_seen cuts texts
  pub seen_is : seen_all nothing_seen cuts ≡ seen_of s
  pub front : List ℕ
  pub tail : List ℕ
  pub gap : List ℕ
  pub text_is : t ≡ (front ++ tail) ++ (gap ++ chars s.tokens.rest)
  pub at_is : at ≡ byte_len front
  pub is_edited : IsEdited 0 (front ++ tail) cuts texts (out ++ tail)
  pub clean_is : AreCleanIf t cuts s clean

-- The literal is the next one after a partly rewritten source.
abbrev pub IsNextIn : Style → Choice → List ℕ → Restylable → ℕ → List ℕ → Bool → Type 0
IsNextIn style choice t l at out clean =
    (old new : RestylableState) × IsDraft style choice t old at out clean × GivesLiteral old l new
