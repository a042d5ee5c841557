-- The shapes of literal tokens of Rust's grammar.
use Rattle.std.specs.Prelude.{◌≡◌, ◌≢◌, ℕ, ◌<◌, not, ◌==◌, List, ◌∷◌, ◌++◌, replicate, IsTrue}
use Rattle.std.specs.List.{list_all, flat_map}
use Prim.Native.Char.{code}
use Rattle.rl_syntax.specs.declared.kind.Kind.{Kind}
use Rattle.rl_syntax.specs.Reading.{Contents}
use Rattle.rl_syntax.specs.Strict.{StrictUnit, strict_text, is_strict_unit, BlanksEnd, HasUnits, strict_closer, IsRawInside, IsStrictSuffix, Strict}
use Rattle.rl_lenient.specs.declared.quoted_forms.QuotedForm.{QuotedForm}
use Rattle.rl_lenient.specs.declared.quoted_forms.QuotedForm.TheVariants.{Cooked as CookedForm, Raw as RawForm, Single as SingleForm}

-- The text is a literal token of Rust's grammar, of some kind, with some value and some suffix.
pub record IsToken (text : List ℕ) : Type 0 where
  pub kind : Kind
  pub contents : Contents
  pub suffix : List ℕ
  pub strict : Strict text kind contents suffix

-- The text after the opening quote of a literal with escapes: characters and escapes, the closing quote, and a suffix.
pub record ClosesUnits (kind : Kind) (text : List ℕ) : Type 0 where
  pub units : List StrictUnit
  pub suffix : List ℕ
  pub count : HasUnits kind units
  pub each : IsTrue (list_all (is_strict_unit kind) units)
  pub blanks_end : BlanksEnd units
  pub is_suffix : IsStrictSuffix suffix
  pub text_is : text ≡ flat_map strict_text units ++ (strict_closer kind ++ suffix)

-- The text after the opening quote of a raw string: its content, its closing delimiter, and a suffix.
pub record ClosesInside (kind : Kind) (hashes text : List ℕ) : Type 0 where
  pub inside : List ℕ
  pub suffix : List ℕ
  pub allowed : IsRawInside kind inside
  pub no_carriage_return : IsTrue (list_all (λ c. not (c == code "\r")) inside)
  pub first_close : (front rest : List ℕ) → inside ≢ front ++ (code "\"" ∷ (hashes ++ rest))
  pub is_suffix : IsStrictSuffix suffix
  pub text_is : text ≡ inside ++ (code "\"" ∷ (hashes ++ suffix))

-- The text after the prefix of a raw string: at most 255 hashes, the opening quote, the content, the closing delimiter, and a
-- suffix.
pub record ClosesRaw (kind : Kind) (text : List ℕ) : Type 0 where
  pub hashes : ℕ
  pub few : hashes < 256
  pub rest : List ℕ
  pub closes : ClosesInside kind (replicate hashes (code "#")) rest
  pub text_is : text ≡ replicate hashes (code "#") ++ (code "\"" ∷ rest)

-- The text is the end of a quoted literal of the form and the kind, after the opening delimiter. For example, `a"` is the
-- end of the string `"a"`.
abbrev pub ClosesForm : QuotedForm → Kind → List ℕ → Type 0
ClosesForm CookedForm kind text = ClosesUnits kind text
ClosesForm SingleForm kind text = ClosesUnits kind text
ClosesForm RawForm kind text = ClosesRaw kind text
