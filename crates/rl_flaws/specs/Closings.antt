-- The closing quote of an invalid character or byte literal, as rustc finds it.
use Rattle.std.specs.Prelude.{◌≡◌, ◌&&◌, ◌==◌, Bool, true, false, ℕ, List, [], ◌∷◌, ◌++◌, codes, IsTrue}
use Prim.Native.Char.{code}
use Rattle.rl_syntax.specs.Texts.{begins_char, first_passes}
use Rattle.rl_lexer.specs.BadQuotes.{IsQuoteBody}
use Rattle.rl_lexer.specs.Lexemes.{BodyPart, body_text}
use Rattle.rl_lexer.specs.Sources.{is_apostrophe}

-- The closing quote is at the start of `closing`. In the text before it, a backslash escapes the next character. Unescaped,
-- this text contains neither a quote nor a slash, and an LF only as its last character.
pub record ReachesQuote (inside closing : List ℕ) : Type 0 where
  pub parts : List BodyPart
  pub is_body : IsQuoteBody parts
  pub inside_is : inside ≡ body_text parts ++ closing
  pub is_quote : IsTrue (first_passes is_apostrophe closing)

-- The text begins with two quotes.
abbrev pub begins_two_quotes : List ℕ → Bool
begins_two_quotes [] = false
begins_two_quotes (c ∷ cs) = c == code "'" && begins_char (code "'") cs

abbrev pub ClosesBy : Bool → List ℕ → List ℕ → Type 0
ClosesBy true inside closing = inside ≡ codes "'" ++ closing
ClosesBy false inside closing = ReachesQuote inside closing

-- The quote at the start of `closing` closes the literal. The text `inside` follows the opening quote. If `inside` begins
-- with two quotes, the second quote closes the literal.
abbrev pub IsClosedBy : List ℕ → List ℕ → Type 0
IsClosedBy inside closing = ClosesBy (begins_two_quotes inside) inside closing
