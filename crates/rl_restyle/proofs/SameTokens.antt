-- Each token of a rewritten source is the old one, or a literal with its kind, value and suffix.
use Rattle.std.proofs.Common.{ℕ, List, [], ◌∷◌, Option, Some, None, inl, inr, sym, subst}
use Rattle.std.specs.Prelude.{IsFalse}
use Rattle.rl_lexer.specs.Sources.{CutSource, source_text}
use Rattle.rl_style.specs.Rewriting.{SameLiteral}
use Rattle.rl_style.specs.Restyled.{AreTokensOf}
use Rattle.rl_style.specs.declared.style.Style.{Style}
use Rattle.rl_style.proofs.Theorems.{a_rewritten_literal_is_the_same}
use Rattle.rl_restyle.specs.Edits.{AreEdits, Seen, seen_after}
use Rattle.rl_restyle.specs.declared.edit.Choice.{Choice}
use Rattle.rl_restyle.specs.SameTokens.{AreSameTokens, KeepsEachLiteral}
use Rattle.rl_restyle.proofs.CleanLemmas.{keeps_the_clean_source}

same : (style : Style) (choice : Choice) (t : List ℕ) (seen : Seen) (vs : List CutSource)
    (es : List (Option (List ℕ))) (ws : List CutSource) → IsFalse style.float_zero → AreEdits style choice t seen vs es
    → AreTokensOf es vs ws → AreSameTokens vs ws
same style choice t seen [] [] [] f a b = tt
same style choice t seen [] [] (w ∷ ws) f a b = absurd b
same style choice t seen [] (e ∷ es) ws f a b = absurd a
same style choice t seen (v ∷ vs) [] ws f a b = absurd a
same style choice t seen (v ∷ vs) (None ∷ es) [] f a b = absurd b
same style choice t seen (v ∷ vs) (Some x ∷ es) [] f a b = absurd b
same style choice t seen (v ∷ vs) (None ∷ es) (w ∷ ws) f (a, more) (b, bs) =
    (inl b, same style choice t (seen_after seen v) vs es ws f more bs)
same style choice t seen (v ∷ vs) (Some x ∷ es) (w ∷ ws) f ((front, rest, s, inl (chosen, (r, n))), more) (b, bs) = (
  inr (subst (λ (u : List ℕ). SameLiteral (source_text v.token) u) (sym b.0)
      (a_rewritten_literal_is_the_same style front (source_text v.token) x f r)),
  same style choice t (seen_after seen v) vs es ws f more bs,
)
same style choice t seen (v ∷ vs) (Some x ∷ es) (w ∷ ws) f ((front, rest, s, inr (n, e)), more) (b, bs) = absurd (cc)

pub keeps_each_literal : KeepsEachLiteral
keeps_each_literal style choice t new f r clean =
    let k = keeps_the_clean_source style choice t new r clean in
    record {
      tokens = r.cuts;
      are = r.are_cuts;
      others = k.tokens;
      are_others = k.are_cuts;
      same = same style choice t _ r.cuts r.texts k.tokens f r.are_edits k.are_tokens;
    }
