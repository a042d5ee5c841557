-- The next literal of a source, as the code searches for it, token by token.
use Rattle.rl_syntax.proofs.Common.{◌≡◌, ℕ, Bool, chars, subst, sym}
use Rattle.rl_lexer.specs.Cursors.{CursorState}
use Rattle.rl_lexer.specs.Sources.{BeginsNoSource, TakesSource, source_view}
use Rattle.rl_lexer.specs.declared.sources.SourceToken.{SourceToken}
use Rattle.rl_style.specs.Calls.{CallState, advance_calls, is_in_call}
use Rattle.rl_style.specs.declared.restylable.Last.{Last}
use Rattle.rl_style.specs.declared.restylable.Restylable.{Restylable}
use Rattle.rl_style.specs.Restylable.{GivesLiteral, GivesNone, Here, Behind, Passes, Stops, IsLiteralOfSource, RestylableState, is_field, last_after, passed, stray_after}

abbrev pub state : CursorState → Last → ℕ → CallState → Bool → RestylableState
state tokens last end calls stray = record { tokens = tokens; last = last; end = end; calls = calls; has_stray = stray }

-- After a token, the code's variables `last`, `calls` and `has_stray` are equal to the fields of the cursor's next state. `last`
-- describes the token, and `calls` is the position relative to macro calls.
pub record Steps (s : RestylableState) (token : SourceToken) (last : Last) (calls : CallState) (stray : Bool) : Type 0 where
  pub last_is : last ≡ last_after s.last s.end (source_view token.form) token.lo token.text.now
  pub calls_are : calls ≡ advance_calls s.calls (source_view token.form) token.text.now
  pub stray_is : stray ≡ stray_after s.has_stray (source_view token.form)

-- After a token, the code's variables represent the cursor's next state. If a property holds for the next state, the property
-- also holds for the state that the variables represent. The lemma `unstepped` is the reverse.
stepped : (P : RestylableState → Type 0) (s : RestylableState) (token : SourceToken) (tokens : CursorState)
    (last : Last) (calls : CallState) (stray : Bool) → Steps s token last calls stray → P (passed s token tokens)
    → P (state tokens last token.hi calls stray)
stepped P s token tokens last calls stray steps h =
    let last_now = last_after s.last s.end (source_view token.form) token.lo token.text.now in
    let calls_now = advance_calls s.calls (source_view token.form) token.text.now in
    subst (λ (d : Last). P (state tokens d token.hi calls stray)) (sym steps.last_is)
    (subst (λ (k : CallState). P (state tokens last_now token.hi k stray)) (sym steps.calls_are)
    (subst (λ (b : Bool). P (state tokens last_now token.hi calls_now b)) (sym steps.stray_is) h))

unstepped : (P : RestylableState → Type 0) (s : RestylableState) (token : SourceToken) (tokens : CursorState)
    (last : Last) (calls : CallState) (stray : Bool) → Steps s token last calls stray
    → P (state tokens last token.hi calls stray) → P (passed s token tokens)
unstepped P s token tokens last calls stray steps h =
    let last_now = last_after s.last s.end (source_view token.form) token.lo token.text.now in
    let calls_now = advance_calls s.calls (source_view token.form) token.text.now in
    subst (λ (b : Bool). P (state tokens last_now token.hi calls_now b)) steps.stray_is
    (subst (λ (k : CallState). P (state tokens last_now token.hi k stray)) steps.calls_are
    (subst (λ (d : Last). P (state tokens d token.hi calls stray)) steps.last_is h))

-- The search for a literal began at the state `start`, and has passed only other tokens. If the next token is a literal, it
-- is the next literal after `start`.
pub literal_here : (was start s : RestylableState) (l : Restylable) (tokens : CursorState) (last : Last)
    (calls : CallState) (stray : Bool) → start ≡ was → Steps s l.token last calls stray → TakesSource s.tokens l.token tokens
    → IsLiteralOfSource l.token → l.is_field ≡ is_field s.last l.token.text.now (chars tokens.rest) → l.in_macro
    ≡ is_in_call s.calls
    → ((it : Restylable) (new : RestylableState) → GivesLiteral s it new → GivesLiteral start it new)
    → GivesLiteral was l (state tokens last l.token.hi calls stray)
literal_here was start s l tokens last calls stray same steps takes is field inside on =
    subst (λ (z : RestylableState). GivesLiteral z l (state tokens last l.token.hi calls stray)) same
    (stepped (GivesLiteral start l) s l.token tokens last calls stray steps
    (on l (passed s l.token tokens) (Here takes is field inside)))

-- The search for a literal began at the state `start`, and has passed only other tokens. If the source has no next token, the
-- search ends without a literal.
pub none_here : (was start s : RestylableState) (tokens : CursorState) → start ≡ was
    → BeginsNoSource (chars s.tokens.rest)
    → tokens ≡ s.tokens → ((new : RestylableState) → GivesNone s new → GivesNone start new)
    → GivesNone was (state tokens s.last s.end s.calls s.has_stray)
none_here was start s tokens same none stays on =
    subst (λ (z : RestylableState). GivesNone z (state tokens s.last s.end s.calls s.has_stray)) same
    (subst (λ (t : CursorState). GivesNone start (state t s.last s.end s.calls s.has_stray)) (sym stays) (on s (Stops none)))

-- If the next token isn't a literal, the search can continue after it: the next literal after this token is also the next
-- literal before it.
pub literal_behind : (s : RestylableState) (token : SourceToken) (tokens : CursorState) (last : Last)
    (calls : CallState) (stray : Bool)
    → Steps s token last calls stray → TakesSource s.tokens token tokens → (IsLiteralOfSource token → ⊥)
    → (it : Restylable) (new : RestylableState) → GivesLiteral (state tokens last token.hi calls stray) it new
    → GivesLiteral s it new
literal_behind s token tokens last calls stray steps takes is_other it new g =
    Behind takes is_other
    (unstepped (λ (z : RestylableState). GivesLiteral z it new) s token tokens last calls stray steps g)

pub none_behind : (s : RestylableState) (token : SourceToken) (tokens : CursorState) (last : Last) (calls : CallState)
    (stray : Bool) → Steps s token last calls stray → TakesSource s.tokens token tokens → (IsLiteralOfSource token → ⊥)
    → (new : RestylableState) → GivesNone (state tokens last token.hi calls stray) new → GivesNone s new
none_behind s token tokens last calls stray steps takes is_other new g =
    Passes takes is_other (unstepped (λ (z : RestylableState). GivesNone z new) s token tokens last calls stray steps g)
