-- The byte offsets of invalid pieces.
use Rattle.rl_flaws.proofs.Names.{◌≡◌, ◌+◌, ℕ, Bool, true, false, List, length, sym, ap, subst, ◌∙◌, arith, encodes-chars, IsUtf8, chars, IsRestOf, read_of, LineEnds, step_in, EndsWhere, ReadsFrom}

-- If a byte offset and the number of bytes in an end of a text add up to the text's length, this end of the text begins at
-- the offset.
pub place_at : (how : LineEnds) (len : ℕ) (text rest read : List ℕ) (at : ℕ) → IsUtf8 rest → IsRestOf how text (chars
    rest) → read_of how (chars rest) ≡ read → at + length rest ≡ len → ReadsFrom how len text read at
place_at how len text rest read at u r e is =
    record { rest = chars rest; rest_in = r; reads = e; at_is = omega (arith, is, ap length (encodes-chars rest u)) }

-- The text `b` is an end of the text `a`. Reading `b` from a byte offset on and reading `a` from this offset on give equal
-- results.
pub place_in : (how : LineEnds) (len : ℕ) (a b read : List ℕ) (at : ℕ) → IsRestOf how a b → ReadsFrom how len b read at
    → ReadsFrom how len a read at
place_in how len a b read at r p =
    record { rest = p.rest; rest_in = step_in how a b p.rest r p.rest_in; reads = p.reads; at_is = p.at_is }

-- ---- the end of an invalid piece

pub ends_there : (GoesOnAt : ℕ → Type 0) (hi end : ℕ) (b u : Bool) → b ≡ u → b ≡ true → GoesOnAt end
    → EndsWhere u GoesOnAt hi end
ends_there GoesOnAt hi end b u same y at = subst (λ z. EndsWhere z GoesOnAt hi end) (sym y ∙ same) at

pub ends_in : (how : LineEnds) (len : ℕ) (a b read : List ℕ) (hi end : ℕ) (u : Bool) → IsRestOf how a b
    → EndsWhere u (ReadsFrom how len b read) hi end → EndsWhere u (ReadsFrom how len a read) hi end
ends_in how len a b read hi end true r e = place_in how len a b read end r e
ends_in how len a b read hi end false r e = e
