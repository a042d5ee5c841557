-- The fields of a cursor over flaws, and the state that they represent.
use Rattle.std.specs.Prelude.{◌≡◌, ◌≤◌, ◌+◌, ℕ, Bool, true, false, List, [], ◌++◌, codes, Some, None, length, IsTrue, ⊤}
use Rattle.std.specs.Str.{chars, IsUtf8}
use Rattle.rl_strict.specs.LineEnds.{IsRestOf, read_of}
use Rattle.rl_strict.specs.declared.line_ends.LineEnds.{LineEnds}
use Rattle.rl_flaws.specs.Flawed.{FlawsState}
use Rattle.rl_flaws.specs.BadPieces.{after_bad_piece}
use Rattle.rl_flaws.specs.Opened.{IsOpened, opened_front}
use Rattle.rl_flaws.specs.declared.walks.Opened.{Opened}
use Rattle.rl_syntax.specs.Written.{closer}
use Rattle.rl_syntax.specs.Quoted.{is_single, opener}
use Rattle.rl_syntax.specs.declared.kind.Kind.{Kind}
use Rattle.rl_syntax.specs.Texts.{IsTail, byte_len, first_passes}
use Rattle.rl_lexer.specs.Sources.{is_apostrophe}
use Rattle.rl_flaws.specs.Closings.{IsClosedBy}
use Rattle.rl_flaws.specs.declared.flaws.Left.{Left}
use Rattle.rl_flaws.specs.declared.flaws.Left.TheVariants.{Inside, Closed, Nothing}

abbrev pub state_of : LineEnds → ℕ → Left → FlawsState
state_of ends len (Inside o rest) =
    record { ends = ends; kind = Some o.kind; front = opened_front o; rest = rest.now; len = len; over = false }
state_of ends len (Closed kind rest) =
    record { ends = ends; kind = None; front = opener kind ++ codes "x"; rest = rest.now; len = len; over = false }
state_of ends len Nothing = record { ends = ends; kind = None; front = []; rest = []; len = len; over = true }

abbrev pub IsLeft : ℕ → Left → Type 0
IsLeft len (Inside o rest) = IsOpened o × (byte_len (opened_front o) + length rest.now ≤ len) × IsUtf8 rest.now
IsLeft len (Closed kind rest) =
    IsTrue (is_single kind) × IsTrue (first_passes is_apostrophe (chars rest.now)) × (length rest.now ≤ len) × IsUtf8 rest.now
IsLeft len Nothing = ⊤

-- The literal is still open. The text `piece` begins with an invalid character or escape, and the unchecked text begins after
-- this character or escape.
abbrev pub FollowsPiece : LineEnds → Opened → List ℕ → Left → Type 0
FollowsPiece ends o piece (Inside p rest) =
    (p ≡ o) × (read_of ends (chars rest.now) ≡ after_bad_piece (closer o.kind) (read_of ends (chars piece)))
    × IsRestOf ends (chars piece) (chars rest.now) × IsTail piece rest.now
FollowsPiece ends o piece left = ⊥

-- The unchecked text begins at the closing quote of the character or byte literal. Without a closing quote, no text is left
-- to check.
abbrev pub FollowsCharacter : LineEnds → Kind → List ℕ → Left → Type 0
FollowsCharacter ends kind inside (Closed same rest) =
    (same ≡ kind) × IsClosedBy (read_of ends (chars inside)) (read_of ends (chars rest.now))
    × IsRestOf ends (chars inside) (chars rest.now) × IsTail inside rest.now
    × IsTrue (first_passes is_apostrophe (chars rest.now))
FollowsCharacter ends kind inside Nothing = (closing : List ℕ) → IsClosedBy (read_of ends (chars inside)) closing → ⊥
FollowsCharacter ends kind inside left = ⊥

-- The unchecked text after a flaw inside or after a literal. The first flag is true for an invalid character or escape of a
-- string. The second flag is true for a flaw before the closing quote of a character or byte literal.
abbrev pub IsLeftAfter : Bool → Bool → LineEnds → Opened → List ℕ → List ℕ → Left → Type 0
IsLeftAfter true single ends o inside piece left = FollowsPiece ends o piece left
IsLeftAfter false true ends o inside piece left = FollowsCharacter ends o.kind inside left
IsLeftAfter false false ends o inside piece left = left ≡ Nothing

-- The literal is still open, or only its suffix is unchecked, or no text is left to check.
abbrev pub StaysOpen : Opened → Left → Type 0
StaysOpen o (Inside p rest) = p ≡ o
StaysOpen o (Closed kind rest) = ⊤
StaysOpen o Nothing = ⊤

-- The cursor still reads the literal that it read before, or no text is left to check.
abbrev pub IsSameLiteral : Left → Left → Type 0
IsSameLiteral (Inside o rest) new = StaysOpen o new
IsSameLiteral old new = new ≡ Nothing
