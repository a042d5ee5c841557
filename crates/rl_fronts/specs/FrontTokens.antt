-- The token of the literal at the start of a list of token trees.
use Rattle.std.specs.Prelude.{◌≡◌, List, ◌∷◌}
use Rattle.std.specs.Str.{chars}
use Prim.Native.Char.{code}
use Rattle.rl_syntax.specs.declared.kind.Kind.TheVariants.{Bool as BoolKind}
use Rattle.rl_tokens.specs.Puncts.{Mark}
use Rattle.rl_tokens.specs.Trees.{Tree, IdentTree, PunctTree, LiteralTree}
use Rattle.rl_syntax.specs.Reading.{ReadsAs, HasReading}
use Rattle.rl_syntax.specs.Texts.{SpannedText}
use Rattle.rl_fronts.specs.Fronts.{joined}
use Rattle.rl_fronts.specs.declared.front.Front.{Front}
use Rattle.rl_fronts.specs.declared.front.Front.TheVariants.{Literal as LiteralFront, Word, Negative}

-- The text and span of the literal at the start of a list of token trees. A literal token or an identifier is
-- unchanged. A minus and its number become one text and one span.
abbrev pub front_token : {A : Type 0} → Front A → SpannedText
front_token (LiteralFront l) = l.now
front_token (Word i) = i.now
front_token (Negative n) = joined n.0 n.1

-- The list of token trees doesn't begin with the identifier `true` or `false`.
abbrev pub HasNoWord : List Tree → Type 0
HasNoWord trees =
    (i : SpannedText) (rest : List Tree) → trees ≡ IdentTree i ∷ rest
    → ReadsAs BoolKind (chars i.text) → ⊥

-- The list of token trees doesn't begin with a minus and a number token that together are one literal.
abbrev pub HasNoMinus : List Tree → Type 0
HasNoMinus trees =
    (m : Mark) (l : SpannedText) (rest : List Tree) → trees ≡ PunctTree m ∷ LiteralTree l ∷ rest
    → m.ch ≡ code "-" → HasReading (code "-" ∷ chars l.text) → ⊥
