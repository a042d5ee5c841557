-- The tokens of a source in which literals are rewritten in a style.
use Rattle.std.specs.Prelude.{◌≡◌, ℕ, ◌+◌, List, [], ◌∷◌, ◌++◌, Option, Some, None, IsTrue, ⊤}
use Rattle.std.specs.List.{AllByRecursion}
use Rattle.rl_syntax.specs.Texts.{byte_len}
use Rattle.rl_lexer.specs.Lexemes.{Lexeme, form_of, lexeme_text}
use Rattle.rl_lexer.specs.Sources.{CutSource, IsCutUpTo, PlainToken, SourceLexeme, SourcesUpTo, source_end, source_kind, source_text}
use Rattle.rl_style.specs.declared.style.Style.{Style}
use Rattle.rl_style.specs.Recut.{IsRecut, IsRecutSource, IsSound, begins_with_code, placed_literal}
use Rattle.rl_style.specs.Rewriting.{Rewrites}

-- The new text is one token, with the form of the old literal. If the new text replaces the old literal, the other tokens of
-- the text are lexed as before.
pub record IsRestyled (at : ℕ) (t : List ℕ) (before after : List CutSource) (old : Lexeme) (written : List ℕ)
    (place : ℕ) (r : List ℕ) : Type 0 where
  pub new : Lexeme
  pub text_is : lexeme_text new ≡ written
  pub same_form : form_of new ≡ form_of old
  pub recut : IsRecut at t before after old new place r

-- In the text `t`, the text `front` precedes the literal. The text `t` begins at the byte offset `at` of the source, and the
-- literal at `place`.
pub record FollowsFront (at : ℕ) (t : List ℕ) (literal : Lexeme) (place : ℕ) (front : List ℕ) : Type 0 where
  pub rest : List ℕ
  pub text_is : t ≡ front ++ (lexeme_text literal ++ rest)
  pub place_is : place ≡ at + byte_len front

-- If a literal of a text is rewritten in a style, all other tokens are lexed as before. The tokens before it must contain no
-- bad quotes and no stray characters.
abbrev pub KeepsTheTokensAroundARestyledLiteral : Type 0
KeepsTheTokensAroundARestyledLiteral =
    (style : Style) (at : ℕ) (t : List ℕ) (before after : List CutSource) (old : Lexeme) (front written : List ℕ)
    (place : ℕ) (r : List ℕ) → SourcesUpTo at t (before ++ (placed_literal old place ∷ after)) r
    → AllByRecursion IsSound before → FollowsFront at t old place front
    → Rewrites style front (lexeme_text old) written → IsRestyled at t before after old written place r

-- The new text is one token, with the form of the old literal. If the new text replaces the old literal, the other tokens of
-- the source are lexed as before.
pub record IsRestyledSource (t : List ℕ) (before after : List CutSource) (old : Lexeme) (written : List ℕ) (place : ℕ)
    (r : List ℕ) : Type 0 where
  pub new : Lexeme
  pub text_is : lexeme_text new ≡ written
  pub same_form : form_of new ≡ form_of old
  pub recut : IsRecutSource t before after old new place r

-- If a literal of a source is rewritten in a style, all other tokens are lexed as before. The tokens before it must contain
-- no bad quotes and no stray characters. The source must not begin with `#!`, unless it begins with `#![`.
abbrev pub KeepsTheSourceAroundARestyledLiteral : Type 0
KeepsTheSourceAroundARestyledLiteral =
    (style : Style) (t : List ℕ) (before after : List CutSource) (old : Lexeme) (front written : List ℕ) (place : ℕ)
    (r : List ℕ) → IsTrue (begins_with_code t)
    → IsCutUpTo t (before ++ (placed_literal old place ∷ after)) r → AllByRecursion IsSound before
    → FollowsFront 0 t old place front
    → Rewrites style front (lexeme_text old) written → IsRestyledSource t before after old written place r

-- ---- sources with several rewritten literals

-- The text of a token after an edit: the new text, or the old text if the edit is `None`.
abbrev pub edited_text : Option (List ℕ) → SourceLexeme → List ℕ
edited_text None token = source_text token
edited_text (Some written) token = written

-- The edits change the old text to the new text. There is one edit for each token of the old text: a new text for the token,
-- or `None`. The old text begins at the byte offset `at`.
abbrev pub IsEdited : ℕ → List ℕ → List CutSource → List (Option (List ℕ)) → List ℕ → Type 0
IsEdited at old [] [] new = new ≡ old
IsEdited at old (w ∷ ws) (e ∷ es) new =
    (gap after new_after : List ℕ) × (old ≡ gap ++ (source_text w.token ++ after)) × (w.at ≡ at + byte_len gap)
    × (new ≡ gap ++ (edited_text e w.token ++ new_after)) × IsEdited (source_end w) after ws es new_after
IsEdited at old _ _ new = ⊥

-- An edit of a token is `None`, or the token is a literal and the edit is its new text in the style. The whole text `t`
-- begins at the byte offset `at`.
abbrev pub IsInStyle : Style → ℕ → List ℕ → CutSource → Option (List ℕ) → Type 0
IsInStyle style at t w None = ⊤
IsInStyle style at t w (Some written) =
    (literal : Lexeme) × (front : List ℕ) × (w.token ≡ PlainToken literal) × FollowsFront at t literal w.at front
    × Rewrites style front (lexeme_text literal) written

abbrev pub AreInStyle : Style → ℕ → List ℕ → List CutSource → List (Option (List ℕ)) → Type 0
AreInStyle style at t [] [] = ⊤
AreInStyle style at t (w ∷ ws) (e ∷ es) = IsInStyle style at t w e × AreInStyle style at t ws es
AreInStyle style at t _ _ = ⊥

-- After the edit `None`, the new token is the old one. After another edit, the new token has the edit's text and the old
-- token's kind.
abbrev pub IsTokenOf : Option (List ℕ) → SourceLexeme → SourceLexeme → Type 0
IsTokenOf None old new = new ≡ old
IsTokenOf (Some written) old new = (source_text new ≡ written) × (source_kind new ≡ source_kind old)

abbrev pub AreTokensOf : List (Option (List ℕ)) → List CutSource → List CutSource → Type 0
AreTokensOf [] [] [] = ⊤
AreTokensOf (e ∷ es) (v ∷ vs) (w ∷ ws) = IsTokenOf e v.token w.token × AreTokensOf es vs ws
AreTokensOf _ _ _ = ⊥

-- The lexer splits the new text into as many tokens as the old text. Each token is the old one, or has the new text from its
-- edit.
pub record IsCutEdited (at : ℕ) (new : List ℕ) (cuts : List CutSource) (edits : List (Option (List ℕ))) (r : List ℕ) :
    Type 0 where
  pub tokens : List CutSource
  pub are_tokens : AreTokensOf edits cuts tokens
  pub are_cuts : SourcesUpTo at new tokens r

-- If any literals of a text are rewritten in a style, all other tokens are lexed as before. The old text must contain no
-- bad quotes and no stray characters.
abbrev pub KeepsTheTokensOfEdits : Type 0
KeepsTheTokensOfEdits =
    (style : Style) (at : ℕ) (old : List ℕ) (cuts : List CutSource) (edits : List (Option (List ℕ))) (new r : List ℕ)
    → SourcesUpTo at old cuts r → AllByRecursion IsSound cuts → IsEdited at old cuts edits new
    → AreInStyle style at old cuts edits → IsCutEdited at new cuts edits r

-- The lexer splits the new source into as many tokens as the old source. Each token is the old one, or has the new text from
-- its edit.
pub record IsEditedSource (new : List ℕ) (cuts : List CutSource) (edits : List (Option (List ℕ))) (r : List ℕ) : Type
    0 where
  pub tokens : List CutSource
  pub are_tokens : AreTokensOf edits cuts tokens
  pub are_cuts : IsCutUpTo new tokens r

-- If any literals of a source are rewritten in a style, all other tokens are lexed as before. The old source must contain no
-- bad quotes and no stray characters. It must not begin with `#!`, unless it begins with `#![`.
abbrev pub KeepsTheEditedSource : Type 0
KeepsTheEditedSource =
    (style : Style) (old : List ℕ) (cuts : List CutSource) (edits : List (Option (List ℕ))) (new r : List ℕ)
    → IsTrue (begins_with_code old) → IsCutUpTo old cuts r → AllByRecursion IsSound cuts
    → IsEdited 0 old cuts edits new → AreInStyle style 0 old cuts edits → IsEditedSource new cuts edits r
