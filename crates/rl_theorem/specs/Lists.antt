-- The literals of a printed list, as the loop over the list returns them. No memory is taken, so no definition speaks of
-- it.
use Rattle.std.specs.Prelude.{◌≡◌, ℕ, zero, suc, ◌+◌, ◌-◌, take, drop, encode_utf8_all, Bool, true, false, List, [], ◌∷◌, ◌++◌, Some, codes, if◌then◌else◌}
use Rattle.std.specs.Str.{chars}
use Prim.Native.Char.{code}
use Rattle.rl_syntax.specs.declared.kind.Kind.{Kind}
use Rattle.rl_syntax.specs.declared.kind.Kind.TheVariants.{Str, ByteStr, CStr, Byte, Char, Int, Float, Bool as BoolKind}
use Rattle.rl_syntax.specs.Texts.{byte_len, begins, begins_char}
use Rattle.rl_syntax.specs.Numbers.{float_digits}
use Rattle.rl_syntax.specs.Quoted.{raw_opener}
use Rattle.rl_syntax.specs.Reading.{Contents, Digits, Truth, quoted_contents}
use Rattle.rl_syntax.specs.Strict.{dec}
use Rattle.rl_lenient.specs.declared.found.Found.{Found}
use Rattle.rl_cursors.specs.declared.next_literals.NextLiteral.{NextLiteral}
use Rattle.rl_cursors.specs.declared.next_literals.ListStep.{ListStep}
use Rattle.rl_cursors.specs.declared.next_literals.ListStep.TheVariants.{End, Literal}
use Rattle.rl_cursors.specs.NextLiterals.{whole_text}
use Rattle.rl_cursors.specs.Lists.{begins_at}
use Rattle.rust_literals.specs.declared.lit.Lit.{Lit}
use Rattle.rl_theorem.specs.Notation.{Rule, One, Many, As, Means}
use Rattle.rl_theorem.specs.SynRules.{str_inside, byte_str_inside, c_str_inside}
use Rattle.rl_theorem.specs.Headline.{HasTheReading}
use Rattle.rl_theorem.specs.Printed.{ListItem, IsItemAt}

-- The rule of the text between the quotes of a string of the kind. The first argument is `true` for a raw string, which contains
-- any characters. Another string contains characters and escapes.
abbrev pub body_rule : Bool → Kind → Rule
body_rule true Str = Many (One (λ c. true))
body_rule true _ = As encode_utf8_all (Many (One (λ c. true)))
body_rule false ByteStr = Many byte_str_inside
body_rule false CStr = Many c_str_inside
body_rule false _ = Many str_inside

-- `contents` is the value that the parse result of the code gives for the text: by the magnitude of an integer, the `bool`, the
-- character or byte, or the range of a string's body. The minus of an integer, and a float, are read from the text.
abbrev pub GivesContents : Kind → List ℕ → Found → Contents → Type 0
GivesContents Int text f contents =
    contents ≡ Digits ((if begins_char (code "-") (chars text) then codes "-" else []) ++ dec f.magnitude)
GivesContents Float text f contents =
    (numeral : List ℕ) × (chars text ≡ numeral ++ chars (drop f.body.suffix_at text)) × (contents ≡ Digits (float_digits numeral))
GivesContents BoolKind text f contents = contents ≡ Truth f.truth
GivesContents Byte text f contents = contents ≡ quoted_contents Byte (f.unit ∷ [])
GivesContents Char text f contents = contents ≡ quoted_contents Char (f.unit ∷ [])
GivesContents kind text f contents =
    (value : List ℕ) × (contents ≡ quoted_contents kind value)
    × Means (body_rule (begins (raw_opener kind) (chars text)) kind) (chars (take (f.body.hi - f.body.lo) (drop f.body.lo text)))
    (codes "\"") value

-- The literal is the item that begins at the byte offset `at`: it has the item's text and range, and the kind, value and
-- suffix of the item's parse result. The text has no other parse result.
pub record IsItemReturned (at : ℕ) (i : ListItem) (l : NextLiteral) : Type 0 where
  pub found : Found
  pub found_is : l.found ≡ Some found
  pub kind : found.kind ≡ i.reading.kind
  pub value : GivesContents i.reading.kind (whole_text l) found i.reading.contents
  pub suffix : chars (drop found.body.suffix_at (whole_text l)) ≡ i.reading.suffix
  pub text : chars (whole_text l) ≡ i.text
  pub reads : HasTheReading i.text i.reading
  pub lo : begins_at l.minus_at l.token.lo ≡ at
  pub hi : l.token.hi ≡ at + byte_len i.text

-- The step number `n` over a printed list, counted from 0: the item of this number, or the end if there are at most `n` items.
-- The list begins at the byte offset `at`.
abbrev pub IsStepAt : ℕ → List ListItem → ℕ → ListStep → Type 0
IsStepAt at [] n step = step ≡ End
IsStepAt at (i ∷ is) zero step =
    (l : NextLiteral) × (step ≡ Literal l) × IsItemReturned (at + byte_len i.gap) i l
IsStepAt at (i ∷ is) (suc n) step = IsStepAt (at + byte_len i.gap + byte_len i.text) is n step

-- The step number `n` and the literal number `n` of the list describe one item. If there are at most `n` literals, the step
-- is the end.
abbrev pub IsAlsoAt : {A : Type 0} → ℕ → List (Lit A) → ℕ → ListStep → Type 0
IsAlsoAt file [] n step = step ≡ End
IsAlsoAt file (lit ∷ lits) zero step =
    (at : ℕ) × (i : ListItem) × (l : NextLiteral) × (step ≡ Literal l) × IsItemAt file at i lit × IsItemReturned at i l
IsAlsoAt file (lit ∷ lits) (suc n) step = IsAlsoAt file lits n step
