-- The parts of quoted literals, as bytes.
use Rattle.std.specs.Prelude.{◌≡◌, ◌⊎◌, ℕ, List, ◌∷◌, ◌++◌, replicate, IsTrue}
use Prim.Native.Char.{code}
use Rattle.rl_syntax.specs.declared.kind.Kind.{Kind}
use Rattle.rl_syntax.specs.Quoted.{is_string, is_single, opener, raw_opener}
use Rattle.rl_syntax.specs.Reading.{Contents, ReadsQuoted}

pub record IsCookedSplit (kind : Kind) (text body suffix : List ℕ) : Type 0 where
  pub string : IsTrue (is_string kind)
  pub text_is : text ≡ opener kind ++ (body ++ (code "\"" ∷ suffix))

pub record IsRawSplit (kind : Kind) (text body suffix : List ℕ) : Type 0 where
  pub string : IsTrue (is_string kind)
  pub hashes : ℕ
  pub text_is : text ≡ raw_opener kind
      ++ (replicate hashes (code "#")
      ++ (code "\"" ∷ (body ++ (code "\"" ∷ (replicate hashes (code "#") ++ suffix)))))

pub record IsSingleSplit (kind : Kind) (text body suffix : List ℕ) : Type 0 where
  pub single : IsTrue (is_single kind)
  pub text_is : text ≡ opener kind ++ (body ++ (code "'" ∷ suffix))

-- The bytes of a quoted literal are its opening delimiter, its body, its closing delimiter and its suffix, in this
-- order.
abbrev pub IsQuotedSplit : Kind → List ℕ → List ℕ → List ℕ → Type 0
IsQuotedSplit kind text body suffix =
    IsCookedSplit kind text body suffix ⊎ IsRawSplit kind text body suffix
    ⊎ IsSingleSplit kind text body suffix

-- The text isn't a quoted literal.
abbrev pub HasNoQuoted : List ℕ → Type 0
HasNoQuoted text =
    (kind : Kind) (contents : Contents) (suffix : List ℕ) → ReadsQuoted text kind contents suffix
    → ⊥
