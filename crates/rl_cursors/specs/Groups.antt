-- The open groups of a text, as the code stores them, and the tokens that aren't allowed while they are open.
use Rattle.std.specs.Prelude.{◌≡◌, ◌≢◌, ℕ, List, [], ◌∷◌, drop, length, map, IsTrue, IsFalse, Option, Some, None}
use Rattle.rl_lexer.specs.declared.lex_error.LexKind.{LexKind}
use Rattle.rl_lexer.specs.declared.lex_error.LexKind.TheVariants.{UnmatchedClose, TooDeep}
use Rattle.rl_lexer.specs.Lexemes.{LexemeForm, DelimiterForm}
use Rattle.rl_lexer.specs.Cuts.{OpenGroup, is_opener, closes, OpensTooDeep}
use Rattle.rl_cursors.specs.declared.groups.Opened.{Opened}
use Rattle.rl_cursors.specs.declared.groups.Groups.{Groups}

abbrev pub open_view : Opened → OpenGroup
open_view o = record { opener = o.opener; at = o.at }

-- The open groups, innermost first.
abbrev pub open_in : Groups → List OpenGroup
open_in g = map open_view (drop g.start g.groups)

-- The innermost open group, or `None` if no group is open.
abbrev pub IsInnermost : List OpenGroup → Option Opened → Type 0
IsInnermost groups None = groups ≡ []
IsInnermost groups (Some o) = (others : List OpenGroup) × (groups ≡ open_view o ∷ others)

-- The form of a token is a closing delimiter that doesn't match the innermost open group.
abbrev pub ClosesOther : List OpenGroup → LexemeForm → Type 0
ClosesOther groups (DelimiterForm c) = IsFalse (is_opener c) × IsFalse (closes groups c)
ClosesOther groups _ = ⊥

-- The kind of error for a token of the given form, if the open groups don't allow the token.
abbrev pub StopsForm : List OpenGroup → LexemeForm → LexKind → Type 0
StopsForm groups form UnmatchedClose = ClosesOther groups form
StopsForm groups form TooDeep = OpensTooDeep groups form
StopsForm groups form _ = ⊥
