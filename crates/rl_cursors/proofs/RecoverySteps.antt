-- Single steps of a cursor that reads a source, and resumes after errors.
use Rattle.rl_syntax.proofs.Common.{◌≡◌, ℕ, ◌+◌, ◌-◌, ◌≤◌, Bool, true, false, ◌==◌, List, [], length, take, drop, Some, None, refl, sym, subst, arith, inr, append-nil, codes, chars, IsUtf8, IsUtf8-nil, IsUtf8-take, chars-nil, if◌then◌else◌, none-some}
use Rattle.rl_syntax.specs.Texts.{IsTail, begins}
use Rattle.rl_syntax.proofs.TailLemmas.{tail_self, tail_step, cut_boundary, cut_chars}
use Rattle.rl_syntax.proofs.Rests.{tail_length}
use Rattle.rl_lexer.specs.Cursors.{CursorState, IsCursorState}
use Rattle.rl_lexer.specs.Sources.{source_view, BeginsNoSource, IsCutUpTo, IsLiteralText, PassesTo, TakesSource, TakesLiteralAfter, SourceErrorAt}
use Rattle.rl_lexer.specs.Mirrors.SourceAt.{source_error_kind}
use Rattle.rl_lexer.specs.declared.lex_error.LexError.{LexError}
use Rattle.rl_lexer.specs.declared.lex_error.LexKind.{LexKind}
use Rattle.rl_lexer.specs.declared.sources.SourceToken.{SourceToken}
use Rattle.rl_lexer.proofs.CommentSteps.{nothing_tail}
use Rattle.rl_lexer.proofs.LiteralSteps.{passed_join, passes_one}
use Rattle.rl_lexer.proofs.SourceCuts.{stops_source}
use Rattle.rl_cursors.specs.Recoveries.{RecoveryState, begins_character, from_line_end, lines_after, TakesUpAfter, StopsAt}
use Rattle.rl_cursors.specs.Mirrors.Closing.{AreUnclosed, IsRecoveryState}
use Rattle.rl_cursors.specs.declared.unclosed.Unclosed.{Unclosed}
use Rattle.rl_cursors.proofs.ClosingLemmas.{unclosed_end, unclosed_nil}
use Rattle.rl_cursors.proofs.LineEnds.{EndsWith}

-- If the bytes of `a` end with the bytes of `b`, the characters of `a` end with the characters of `b`.
pub tail_chars : (a b : List ℕ) → IsUtf8 a → IsTail a b → EndsWith (chars a) (chars b)
tail_chars a b u tail =
    let xs = take (length a - length b) a in
    (chars xs, cut_chars a xs b (IsUtf8-take a (length a - length b) u (cut_boundary a b tail)) tail refl)

pub unclosed_rest : (k : Unclosed) (a b : List ℕ) → IsUtf8 a → IsTail a b → AreUnclosed k (chars a)
    → AreUnclosed k (chars b)
unclosed_rest k a b u tail is = unclosed_end k (chars a) (chars b) (tail_chars a b u tail) is

-- ---- the cursor reads the tokens between two literals

pub stays : (s : CursorState) → IsUtf8 s.rest → PassesTo s s
stays s u = record {
  cuts = [];
  others = tt;
  goes_on = λ done cut. subst (λ z. IsCutUpTo (chars s.text) z (chars s.rest)) (sym (append-nil done)) cut;
  same = refl;
  following = tail_self s.rest u;
}

-- The tokens between the states `old` and `now` of a cursor aren't literals. In the text that the cursor still has to lex,
-- each opening delimiter of the set `known` is unclosed.
pub record Walks (known : Unclosed) (old now : CursorState) : Type 0 where
  pub passes : PassesTo old now
  pub unclosed : AreUnclosed known (chars now.rest)

pub walks_start : (k : Unclosed) (s : CursorState) → IsCursorState s.text s.rest → AreUnclosed k (chars s.rest)
    → Walks k s s
walks_start k s is known = record { passes = stays s is.following.is_text; unclosed = known }

pub walks_on : (k : Unclosed) (old now new : CursorState) (l : SourceToken) → Walks k old now → TakesSource now l new
    → (IsLiteralText (source_view l.form) (chars l.text.now) → ⊥) → Walks k old new
walks_on k old now new l w takes other = record {
  passes = passed_join old now new (inr w.passes) (passes_one now new l takes other);
  unclosed = unclosed_rest k now.rest new.rest w.passes.following.is_text takes.following w.unclosed;
}

-- ---- the errors of a source

pub error_of : (rest : List ℕ) (kind : LexKind) → IsUtf8 rest → (empty : Bool) → empty ≡ (length rest == 0)
    → empty ≡ false → BeginsNoSource (chars rest) → kind ≡ source_error_kind (chars rest) → SourceErrorAt kind (chars rest)
error_of rest kind u empty is some none kind_is =
    (stops_source rest rest (record { kind = kind; at = length rest - length rest }) kind
    (record { is_text = u; following = tail_self rest u }) empty is some none kind_is refl).error

pub lines_of : (t lines : List ℕ) → Some lines ≡ lines_after t
    → from_line_end (begins_character t) false (drop 1 t) ≡ Some lines
lines_of t lines h = go (begins (codes "/*") t) h
  where
    go : (b : Bool) → Some lines ≡ (if b then None else from_line_end (begins_character t) false (drop 1 t))
        → from_line_end (begins_character t) false (drop 1 t) ≡ Some lines
    go true h = absurd (none-some lines (sym h))
    go false h = sym h

-- ---- the state of the cursor

pub begins_state : (text rest : List ℕ) (known : Unclosed) → IsCursorState text rest
    → ((t : List ℕ) → AreUnclosed known t) → IsRecoveryState text text rest known
begins_state text rest known cursor all = record {
  is_text = cursor.is_text;
  in_whole = tail_self text cursor.is_text;
  cursor = cursor;
  unclosed = all (chars rest);
}

-- A valid state of a cursor stays valid after the cursor lexes more of its part of the text. The part begins at the position
-- at which lexing last resumed.
pub further : (whole part left rest : List ℕ) (known : Unclosed) → IsRecoveryState whole part left known
    → IsTail left rest → IsRecoveryState whole part rest known
further whole part left rest known is tail = record {
  is_text = is.is_text;
  in_whole = is.in_whole;
  cursor = record { is_text = is.cursor.is_text; following = tail_step part left rest is.cursor.following tail };
  unclosed = unclosed_rest known left rest is.cursor.following.is_text tail is.unclosed;
}

pub literal_tail : (old : CursorState) (l : SourceToken) (new : CursorState) → TakesLiteralAfter old l new
    → IsTail old.rest new.rest
literal_tail old l new t = tail_step old.rest t.between.rest new.rest t.passes.following t.takes.following

-- After an error, the cursor's state at the start of the lines where lexing resumes is valid.
pub taken_up : (whole part left rest lines following : List ℕ) (known now : Unclosed)
    → IsRecoveryState whole part left known → IsTail left rest → IsTail rest lines → IsCursorState lines following
    → AreUnclosed now (chars lines) → IsRecoveryState whole lines following now
taken_up whole part left rest lines following known now is tail more cursor unclosed = record {
  is_text = is.is_text;
  in_whole = tail_step whole part lines is.in_whole
      (tail_step part left lines is.cursor.following (tail_step left rest lines tail more));
  cursor = cursor;
  unclosed = unclosed_rest now lines following cursor.is_text cursor.following unclosed;
}

-- After an error that extends to the text's end, the cursor's state with an empty part is valid.
pub nothing_left : (whole part left : List ℕ) (known : Unclosed) → IsRecoveryState whole part left known
    → IsRecoveryState whole [] [] known
nothing_left whole part left known is = record {
  is_text = is.is_text;
  in_whole = nothing_tail whole;
  cursor = record { is_text = IsUtf8-nil; following = nothing_tail [] };
  unclosed = subst (AreUnclosed known) (sym chars-nil) (unclosed_nil known);
}

-- The text that the cursor still has to lex isn't longer than the whole text.
pub in_whole_len : (whole part left rest : List ℕ) (known : Unclosed) → IsRecoveryState whole part left known
    → IsTail left rest → length rest ≤ length whole
in_whole_len whole part left rest known is tail = omega (
  arith,
  tail_length whole part is.in_whole,
  tail_length part left is.cursor.following,
  tail_length left rest tail,
)

pub stops_at : (rest : List ℕ) (old new : RecoveryState) (e : LexError) (kind : LexKind) (at : ℕ)
    → e ≡ record { kind = kind; at = at } → SourceErrorAt kind (chars rest) → at + length rest ≡ length old.whole
    → TakesUpAfter rest new.part → new.whole ≡ old.whole → StopsAt rest old e new
stops_at rest old new e kind at e_is error place goes_on same = subst (λ (x : LexError). StopsAt rest old x new)
    (sym e_is) (record { error = error; place = place; goes_on = goes_on; same = same })
