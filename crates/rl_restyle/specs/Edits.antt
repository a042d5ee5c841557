-- A source that is rewritten in a style: the choice of the literals that are rewritten, their new texts, and the new
-- source. Texts are lists of characters.
use Rattle.std.specs.Prelude.{◌≡◌, ◌≢◌, ◌⊎◌, ℕ, Bool, not, ◌&&◌, List, [], ◌∷◌, ◌++◌, Option, Some, None, option_map, encode_utf8_all, String, string_bytes, IsFalse, IsTrue, ⊤}
use Rattle.std.specs.List.{AllByRecursion, Contains}
use Rattle.std.specs.Str.{chars}
use denote.Ref.{Bor}
use Rattle.rl_syntax.specs.Reading.{IsReadAs}
use Rattle.rl_syntax.specs.Texts.{byte_len}
use Rattle.rl_syntax.specs.declared.kind.Kind.{Kind}
use Rattle.rl_lexer.specs.Skipping.{Skipped}
use Rattle.rl_lexer.specs.Sources.{CutSource, IsCutUpTo, IsLiteralText, SourceError, source_end, source_kind, source_text}
use Rattle.rl_style.specs.Calls.{CallState, Outside, advance_calls, is_in_call}
use Rattle.rl_style.specs.Recut.{IsSound, begins_with_code}
use Rattle.rl_style.specs.Restylable.{is_field, last_after}
use Rattle.rl_style.specs.Restyled.{IsEdited, IsEditedSource}
use Rattle.rl_style.specs.Rewriting.{Rewrites}
use Rattle.rl_style.specs.declared.restylable.Last.{Last}
use Rattle.rl_style.specs.declared.restylable.Last.TheVariants.{Other}
use Rattle.rl_style.specs.declared.restylable.Restylable.{Restylable}
use Rattle.rl_style.specs.declared.style.Style.{Style}
use Rattle.rl_restyle.specs.Places.{IsTextBetween}
use Rattle.rl_restyle.specs.declared.edit.Choice.{Choice}
use Rattle.rl_restyle.specs.declared.edit.Macros.{Macros}
use Rattle.rl_restyle.specs.declared.edit.Macros.TheVariants.{Skip, All}
use Rattle.rl_restyle.specs.declared.edit.RestyleError.{RestyleError}
use Rattle.rl_restyle.specs.declared.edit.RestyleError.TheVariants.{Script, Source, Memory}

-- ---- the choice of the literals that are rewritten

-- The context of the next token: the token before it, the byte offset after that token, and the position relative to macro
-- calls.
pub record Seen : Type 0 where
  pub last : Last
  pub end : ℕ
  pub calls : CallState

abbrev pub nothing_seen : Seen
nothing_seen = record { last = Other; end = 0; calls = Outside }

abbrev pub cut_bytes : CutSource → List ℕ
cut_bytes w = encode_utf8_all (source_text w.token)

abbrev pub seen_after : Seen → CutSource → Seen
seen_after seen w = record {
  last = last_after seen.last seen.end (source_kind w.token) w.at (cut_bytes w);
  end = source_end w;
  calls = advance_calls seen.calls (source_kind w.token) (cut_bytes w);
}

-- Whether a literal at a position is rewritten. The first flag is `true` if the literal may be a field of a tuple, and the
-- second if it is inside a macro call.
abbrev pub is_rewritable : Macros → Bool → Bool → Bool
is_rewritable Skip field inside = not field && not inside
is_rewritable All field inside = not field

-- The kind of the literal `text` by `syn`'s grammar is in a list, or there is no list. In the list, the kind `None` represents
-- the literals that `syn`'s grammar doesn't accept.
abbrev pub IsOfKinds : Option (Bor (List (Option Kind))) → List ℕ → Type 0
IsOfKinds None text = ⊤
IsOfKinds (Some kinds) text = (kind : Option Kind) × IsReadAs kind text × Contains kinds.now kind

-- A condition on a token: it is a literal that is rewritten. `rest` is the text after the token, without white space
-- and comments at its beginning.
abbrev pub IsChosen : Choice → Seen → CutSource → List ℕ → Type 0
IsChosen choice seen w rest =
    IsLiteralText (source_kind w.token) (source_text w.token)
    × IsTrue (is_rewritable choice.macros (is_field seen.last (cut_bytes w) rest) (is_in_call seen.calls))
    × IsOfKinds choice.kinds (source_text w.token)

-- The text consists of `front`, the token, white space and comments, and `rest`.
pub record Surrounds (t : List ℕ) (w : CutSource) (front rest : List ℕ) : Type 0 where
  pub after : List ℕ
  pub text_is : t ≡ front ++ (source_text w.token ++ after)
  pub at_is : w.at ≡ byte_len front
  pub skips : Skipped after rest

-- ---- the new texts of literals

-- The new text of a literal in the style if it differs, and `None` otherwise. `front` is the text before the literal.
abbrev pub IsRewritten : Style → List ℕ → List ℕ → Option (List ℕ) → Type 0
IsRewritten style front old (Some new) = Rewrites style front old new × (new ≢ old)
IsRewritten style front old None = (new : List ℕ) → Rewrites style front old new → new ≡ old

-- The new text of a token of a source, or `None` if the token isn't a literal that the style changes.
abbrev pub IsEditOf : Style → Choice → List ℕ → Seen → CutSource → Option (List ℕ) → Type 0
IsEditOf style choice t seen w e =
    (front rest : List ℕ) × Surrounds t w front rest
    × ((IsChosen choice seen w rest × IsRewritten style front (source_text w.token) e)
    ⊎ ((IsChosen choice seen w rest → ⊥) × (e ≡ None)))

abbrev pub AreEdits : Style → Choice → List ℕ → Seen → List CutSource → List (Option (List ℕ)) → Type 0
AreEdits style choice t seen [] [] = ⊤
AreEdits style choice t seen (w ∷ ws) (e ∷ es) =
    IsEditOf style choice t seen w e × AreEdits style choice t (seen_after seen w) ws es
AreEdits style choice t seen _ _ = ⊥

-- ---- a rewritten source

-- The text `new` is the source `t` rewritten in a style. The source is lexed to its end, and `new` consists of the old tokens,
-- each with its text in the style. `texts` has the new text of each token that is changed.
pub record Restyles (style : Style) (choice : Choice) (t new : List ℕ) : Type 0 where
  pub is_code : IsTrue (begins_with_code t)
  pub cuts : List CutSource
  pub texts : List (Option (List ℕ))
  pub are_cuts : IsCutUpTo t cuts []
  pub are_edits : AreEdits style choice t nothing_seen cuts texts
  pub is_edited : IsEdited 0 t cuts texts new

-- The reason why a source isn't rewritten.
abbrev pub IsRestyleError : List ℕ → RestyleError → Type 0
IsRestyleError t Script = IsFalse (begins_with_code t)
IsRestyleError t (Source e) = IsTrue (begins_with_code t) × SourceError t e.kind e.at
IsRestyleError t Memory = ⊤

-- ---- literals, as values of the code

abbrev pub text_in : {A : Type 0} → Option (String A) → Option (List ℕ)
text_in new = option_map (λ s. chars (string_bytes s)) new

-- `choice` selects the literal `l`. Here the literal is a value of the program's type `Restylable`.
abbrev pub IsChosenLiteral : Choice → Restylable → Type 0
IsChosenLiteral choice l =
    IsTrue (is_rewritable choice.macros l.is_field l.in_macro) × IsOfKinds choice.kinds (chars l.token.text.now)

-- The new text of a literal of the source.
abbrev pub IsTextOf : Style → Choice → List ℕ → Restylable → Option (List ℕ) → Type 0
IsTextOf style choice source l e =
    (IsChosenLiteral choice l
    × ((front : List ℕ) → IsTextBetween source 0 l.token.lo front
    → IsRewritten style front (chars l.token.text.now) e))
    ⊎ ((IsChosenLiteral choice l → ⊥) × (e ≡ None))

-- ---- theorems

-- A theorem: a rewritten source is lexed as before, except for the edits, if the source contains neither bad quotes nor
-- stray characters.
abbrev pub KeepsTheWholeSource : Type 0
KeepsTheWholeSource =
    (style : Style) (choice : Choice) (t new : List ℕ) → (r : Restyles style choice t new)
    → AllByRecursion IsSound r.cuts → IsEditedSource new r.cuts r.texts []

-- A theorem: a source has exactly one new text in a style, and each of its tokens has exactly one new text.
abbrev pub HasOneText : Type 0
HasOneText =
    (style : Style) (choice : Choice) (t new other : List ℕ) → (r : Restyles style choice t new)
    → (s : Restyles style choice t other) → (new ≡ other) × (r.texts ≡ s.texts)
