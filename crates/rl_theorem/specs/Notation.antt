-- A notation for grammars, like that of the Rust Reference.
use Rattle.std.specs.Prelude.{◌≡◌, ◌⊎◌, ℕ, Bool, true, not, List, [], ◌∷◌, ◌++◌, IsTrue}
use Rattle.rl_syntax.specs.Texts.{is_among}

-- A rule has texts, and each text of a rule has a value: the characters, bytes or digits that it represents. The text that
-- follows may decide whether a text belongs to a rule. There are nine forms of rules.
infixr 30 ◌⋅◌
infixr 20 ◌∣◌
pub data Rule : Type 0 where
  -- Exactly this text. Its value is empty.
  Text : (text : List ℕ) → Rule
  -- One character that passes the test. It is its own value.
  One : (test : ℕ → Bool) → Rule
  -- `a ⋅ b`: a text of `a` and then a text of `b`. The value is both values, joined.
  ◌⋅◌ : (first second : Rule) → Rule
  -- `a ∣ b`: a text of one of the two rules.
  ◌∣◌ : (left right : Rule) → Rule
  -- Any number of texts of the rule, one after another, perhaps none. The value is all values, joined.
  Many : (rule : Rule) → Rule
  -- A text of the rule, with a value that is computed from the rule's.
  As : (change : List ℕ → List ℕ) (rule : Rule) → Rule
  -- A text of the rule whose value passes the test.
  If : (test : List ℕ → Bool) (rule : Rule) → Rule
  -- A text of `rule_of n` for some number `n`.
  Some : (rule_of : ℕ → Rule) → Rule
  -- The empty text, if no text of the rule follows.
  Unless : (rule : Rule) → Rule

-- `text` is the texts of the parts, one after another, and `value` is their values. Each part has the meaning.
abbrev pub Follow : (List ℕ → List ℕ → List ℕ → Type 0) → List (List ℕ × List ℕ) → List ℕ → List ℕ → List ℕ
    → Type 0
Follow means [] text after value = (text ≡ []) × (value ≡ [])
Follow means (part ∷ parts) text after value =
    (rest more : List ℕ) × (text ≡ part.0 ++ rest) × (value ≡ part.1 ++ more)
    × means part.0 (rest ++ after) part.1 × Follow means parts rest after more

-- `text` is a text of the rule and has the value `value`, if the text `after` follows it.
abbrev pub Means : Rule → List ℕ → List ℕ → List ℕ → Type 0
Means (Text t) text after value = (text ≡ t) × (value ≡ [])
Means (One test) text after value = (c : ℕ) × IsTrue (test c) × (text ≡ c ∷ []) × (value ≡ c ∷ [])
Means (a ⋅ b) text after value =
    (u w x y : List ℕ) × (text ≡ u ++ w) × (value ≡ x ++ y) × Means a u (w ++ after) x × Means b w after y
Means (a ∣ b) text after value = Means a text after value ⊎ Means b text after value
Means (Many a) text after value = (parts : List (List ℕ × List ℕ)) × Follow (Means a) parts text after value
Means (As change a) text after value = (x : List ℕ) × Means a text after x × (value ≡ change x)
Means (If test a) text after value = IsTrue (test value) × Means a text after value
Means (Some rule_of) text after value = (n : ℕ) × Means (rule_of n) text after value
Means (Unless a) text after value =
    (text ≡ []) × (value ≡ []) × ((u w x : List ℕ) → after ≡ u ++ w → Means a u w x → ⊥)

-- ---- short forms

-- A text of the rule, or the empty text.
abbrev pub maybe : Rule → Rule
maybe a = Text [] ∣ a

-- One of these characters.
abbrev pub any_of : List ℕ → Rule
any_of cs = One (is_among cs)

-- Whether a character isn't one of these. In the Reference: `~[..]`.
abbrev pub but : List ℕ → ℕ → Bool
but cs c = not (is_among cs c)

-- The end of the whole text.
abbrev pub end : Rule
end = Unless (One (λ c. true))

-- A text whose value is one character or byte.
infix 40 ◌is◌
abbrev pub ◌is◌ : List ℕ → ℕ → Rule
t is c = As (λ v. c ∷ []) (Text t)
