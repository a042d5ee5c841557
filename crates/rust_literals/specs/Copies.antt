-- Copies and equality of literals, their debug output, and the token tree of a literal.
use Rattle.std.specs.Prelude.{◌≡◌, ℕ, ◌==◌, ◌++◌, Bool, List, Option, Some, None, codes}
use Rattle.std.specs.Ordering.{on, eq_of_both}
use Rattle.std.specs.Cmp.{IsEquivalence, and_equiv, on_equiv, nat_eq_equiv}
use Rattle.std.specs.Cmp.Lexicographic.{pointwise, nat_list_eq_equiv}
use Rattle.rl_syntax.specs.declared.kind.Kind.{Kind}
use Rattle.rl_syntax.specs.declared.kind.Kind.TheVariants.{Str, ByteStr, CStr, Byte, Char, Int, Float, Bool as BoolKind}
use Rattle.rl_syntax.specs.Texts.{SpannedText}
use Rattle.rl_tokens.specs.Trees.{Tree, IdentTree, LiteralTree}
use Rattle.rl_syntax.specs.Words.{kind_name}
use Rattle.rust_literals.specs.declared.lit.Lit.{Lit}
use Rattle.rust_literals.specs.Literals.{kind_of, token_of}

-- `copy` is a copy of the literal `lit`: it has the same kind, text and span. Its memory may be from another allocator.
pub record IsCopyOf {A B : Type 0} (lit : Lit A) (copy : Lit B) : Type 0 where
  pub kind : kind_of copy ≡ kind_of lit
  pub token : token_of copy ≡ token_of lit

-- The index of a literal's variant in `Lit`, counted from 0. A literal of no kind is `Verbatim`, the last variant.
abbrev pub kind_rank : Option Kind → ℕ
kind_rank (Some Str) = 0
kind_rank (Some ByteStr) = 1
kind_rank (Some CStr) = 2
kind_rank (Some Byte) = 3
kind_rank (Some Char) = 4
kind_rank (Some Int) = 5
kind_rank (Some Float) = 6
kind_rank (Some BoolKind) = 7
kind_rank None = 8

abbrev pub variant_of : {A : Type 0} → Lit A → ℕ
variant_of lit = kind_rank (kind_of lit)

-- A literal's text as written. The text of a `bool` is `true` or `false`.
abbrev pub text_of : {A : Type 0} → Lit A → List ℕ
text_of lit = (token_of lit).text

-- Whether two literals are equal: their kinds and their texts are equal.
abbrev pub is_equal : {A : Type 0} → Lit A → Lit A → Bool
is_equal = eq_of_both (on variant_of ◌==◌) (on text_of (pointwise ◌==◌))

-- The equality of literals is reflexive, symmetric and transitive.
pub is_equal_equiv : {A : Type 0} → IsEquivalence (is_equal {A = A})
is_equal_equiv {A} =
    and_equiv (on_equiv variant_of nat_eq_equiv) (on_equiv text_of nat_list_eq_equiv)

-- The token tree of a literal's text and span: an identifier for a `bool`, else a literal token.
abbrev pub tree_as : Option Kind → SpannedText → Tree
tree_as (Some BoolKind) token = IdentTree token
tree_as _ token = LiteralTree token

-- The token tree that `to_tokens` appends for a literal.
abbrev pub tree_of : {A : Type 0} → Lit A → Tree
tree_of lit = tree_as (kind_of lit) (token_of lit)

-- The debug output of a literal: the type's name, and the literal's text in braces.
abbrev pub debug_text : Option Kind → List ℕ → List ℕ
debug_text (Some BoolKind) text = codes "LitBool { value: " ++ text ++ codes " }"
debug_text (Some kind) text = kind_name kind ++ codes " { token: " ++ text ++ codes " }"
debug_text None text = codes "Verbatim { token: " ++ text ++ codes " }"
