-- The theorem of the libraries, as properties of what their calls return. A parse result has a kind, a value and a
-- suffix.
use Rattle.std.specs.Prelude.{◌≡◌, ◌⊎◌, ℕ, ◌==◌, ◌/◌, ◌%◌, ◌||◌, ◌&&◌, not, nat_lt, List, [], ◌∷◌, ◌++◌, Option, Some, None, codes, string_bytes, if◌then◌else◌}
use Rattle.std.specs.List.{flat_map}
use Rattle.std.specs.Str.{chars}
use Prim.Native.Char.{code}
use Rattle.rl_syntax.specs.declared.kind.Kind.{Kind}
use Rattle.rl_syntax.specs.declared.kind.Kind.TheVariants.{Str, ByteStr, CStr, Byte, Char, Int, Float, Bool as BoolKind}
use Rattle.rl_syntax.specs.Reading.{Contents, Characters, Bytes, Digits, Truth, quoted_contents}
use Rattle.rl_syntax.specs.Readings.{Reading}
use Rattle.rl_syntax.specs.Quoted.{opener, decodes_to_chars}
use Rattle.rl_syntax.specs.Written.{closer, upper_digit}
use Rattle.rust_literals.specs.declared.lit.Lit.{Lit}
use Rattle.rust_literals.specs.Literals.{kind_of, token_of}
use Rattle.rl_theorem.specs.declared.Value.{Value}
use Rattle.rl_theorem.specs.declared.Value.TheVariants as given
use Rattle.rl_theorem.specs.RustRules.{IsLiteral}
use Rattle.rl_theorem.specs.SynRules.{IsSynLiteral}

-- By `syn`'s grammar, the text has the parse result `r`, and no other.
pub record HasTheReading (text : List ℕ) (r : Reading) : Type 0 where
  pub is : IsSynLiteral text r
  pub only : (s : Reading) → IsSynLiteral text s → s ≡ r

-- The literal holds the parse result: it is of its kind, and the literal's text has this parse result and no other.
pub record HoldsReading {A : Type 0} (lit : Lit A) (r : Reading) : Type 0 where
  pub kind : kind_of lit ≡ Some r.kind
  pub reads : HasTheReading (chars (token_of lit).text) r

-- The literal is `Verbatim`, and its text has no parse result by `syn`'s grammar. A token such as `x` has none, and neither
-- has an integer above 128 bits.
pub record HoldsNoReading {A : Type 0} (lit : Lit A) : Type 0 where
  pub verbatim : kind_of lit ≡ None
  pub unread : (r : Reading) → IsSynLiteral (chars (token_of lit).text) r → ⊥

-- A literal that was parsed holds the parse result of its text, or is `Verbatim` if there is none.
abbrev pub HoldsItsReading : {A : Type 0} → Lit A → Type 0
HoldsItsReading lit = ((r : Reading) × HoldsReading lit r) ⊎ HoldsNoReading lit

-- The accessor returned the value `v` of a literal of the kind, in the variant of this kind.
abbrev pub GivesValue : {A : Type 0} → Option (Value A) → Kind → Contents → Type 0
GivesValue (Some (given.Text s)) Str v = Characters (chars (string_bytes s)) ≡ v
GivesValue (Some (given.Bytes bs)) ByteStr v = Bytes bs.items ≡ v
GivesValue (Some (given.CBytes bs)) CStr v = Bytes bs ≡ v
GivesValue (Some (given.Byte b)) Byte v = Bytes (b ∷ []) ≡ v
GivesValue (Some (given.Character c)) Char v = Characters (c ∷ []) ≡ v
GivesValue (Some (given.Digits ds)) Int v = Digits (chars ds.now) ≡ v
GivesValue (Some (given.Digits ds)) Float v = Digits (chars ds.now) ≡ v
GivesValue (Some (given.Truth b)) BoolKind v = Truth b ≡ v
GivesValue _ _ v = ⊥

-- The parse result of a literal without a suffix whose value is `value`.
abbrev pub plain_reading : Kind → List ℕ → Reading
plain_reading kind value =
    record { kind = kind; contents = quoted_contents kind value; suffix = [] }

-- The text that is written for a character or byte of a literal of the kind: itself, or an escape. Characters below the
-- space, DEL, and in literals of bytes the bytes above 127 are written as `\x` and two hexadecimal digits, unless they have a shorter
-- escape.
abbrev pub escaped : Kind → ℕ → List ℕ
escaped kind c =
    if c == 0 then codes "\\0" else
    (if c == code "\t" then codes "\\t" else
    (if c == code "\n" then codes "\\n" else
    (if c == code "\r" then codes "\\r" else
    (if c == code "\\" then codes "\\\\" else
    (if c == closer kind then code "\\" ∷ closer kind ∷ [] else
    (if nat_lt c (code " ") || c == 127 || (nat_lt 127 c && not (decodes_to_chars kind)) then code "\\" ∷ code "x" ∷ upper_digit (c / 16) ∷ upper_digit (c % 16) ∷ []
    else c ∷ []))))))

-- The text is the literal that is written for a value: its characters or bytes, each as itself or as an escape, between
-- quotes. By both grammars, it is a literal with this value and no suffix. By `syn`'s grammar it has no other parse result.
pub record Writes (kind : Kind) (value text : List ℕ) : Type 0 where
  pub text_is : text ≡ opener kind ++ (flat_map (escaped kind) value ++ (closer kind ∷ []))
  pub strict : IsLiteral text (plain_reading kind value)
  pub reads : HasTheReading text (plain_reading kind value)
