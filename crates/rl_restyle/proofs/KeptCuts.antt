-- Proof that a rewritten source is lexed into the tokens of the old source, except for the rewritten literals.
use Rattle.rl_syntax.proofs.Common.{◌≡◌, ℕ, arith, inl, inr, List, [], ◌∷◌, ◌++◌, Option, Some, None, none-some, refl, sym, AllByRecursion}
use Rattle.rl_syntax.specs.Texts.{byte_len}
use Rattle.rl_lexer.specs.Sources.{BadQuoteToken, CutSource, DocBlockToken, DocLineToken, IsLiteralText, LifetimeToken, PlainToken, RawIdentifierToken, RawLifetimeToken, SourceLexeme, StrayToken, source_kind, source_text}
use Rattle.rl_style.specs.Recut.{IsSound, IsSoundToken}
use Rattle.rl_style.specs.Restyled.{AreInStyle, IsInStyle}
use Rattle.rl_style.specs.Rewriting.{Rewrites}
use Rattle.rl_style.specs.declared.style.Style.{Style}
use Rattle.rl_style.proofs.EditedCuts.{keeps_the_edited_source}
use Rattle.rl_restyle.specs.Edits.{AreEdits, KeepsTheWholeSource, Seen, nothing_seen, seen_after}
use Rattle.rl_restyle.specs.declared.edit.Choice.{Choice}

-- If a literal of a source without errors is rewritten in a style, the literal is one literal token, and the new text
-- is the token's text in the style.
literal_in_style : (style : Style) (t : List ℕ) (token : SourceLexeme) (at : ℕ) (written front rest : List ℕ)
    → IsSoundToken token → IsLiteralText (source_kind token) (source_text token)
    → t ≡ front ++ (source_text token ++ rest) → at ≡ byte_len front → Rewrites style front (source_text token) written
    → IsInStyle style 0 t (record { token = token; at = at }) (Some written)
literal_in_style style t (PlainToken l) at written front rest sound is text place rewrites = (
  l,
  front,
  refl,
  record { rest = rest; text_is = text; place_is = omega (arith, place) },
  rewrites,
)
literal_in_style style t (RawIdentifierToken c more) at written front rest sound is text place rewrites = absurd is
literal_in_style style t (LifetimeToken c more) at written front rest sound is text place rewrites = absurd is
literal_in_style style t (RawLifetimeToken c more) at written front rest sound is text place rewrites = absurd is
literal_in_style style t (DocLineToken body) at written front rest sound is text place rewrites = absurd is
literal_in_style style t (DocBlockToken inside) at written front rest sound is text place rewrites = absurd is
literal_in_style style t (BadQuoteToken q) at written front rest sound is text place rewrites = absurd sound
literal_in_style style t (StrayToken c) at written front rest sound is text place rewrites = absurd is

in_style : (style : Style) (choice : Choice) (t : List ℕ) (seen : Seen) (ws : List CutSource)
    (es : List (Option (List ℕ))) → AllByRecursion IsSound ws → AreEdits style choice t seen ws es
    → AreInStyle style 0 t ws es
in_style style choice t seen [] [] sound are = tt
in_style style choice t seen [] (e ∷ es) sound are = absurd are
in_style style choice t seen (w ∷ ws) [] sound are = absurd are
in_style style choice t seen (w ∷ ws) (None ∷ es) (first, sound) (is, are) =
    (tt, in_style style choice t (seen_after seen w) ws es sound are)
in_style style choice t seen (w ∷ ws) (Some new ∷ es) (first, sound)
    ((front, rest, around, inl ((is, taken, listed), (rewrites, differs))), are) = (
      literal_in_style style t w.token w.at new front around.after first is around.text_is around.at_is rewrites,
      in_style style choice t (seen_after seen w) ws es sound are,
    )
in_style style choice t seen (w ∷ ws) (Some new ∷ es) (first, sound)
    ((front, rest, around, inr (not_taken, none)), are) = absurd (none-some new (sym none))

pub keeps_the_source_around_a_restyled_literal : KeepsTheWholeSource
keeps_the_source_around_a_restyled_literal style choice t new r sound = keeps_the_edited_source style t r.cuts r.texts new []
    r.is_code r.are_cuts sound r.is_edited (in_style style choice t nothing_seen r.cuts r.texts sound r.are_edits)
