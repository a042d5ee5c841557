-- Lists of attributes: names that are set to literals, with commas between them. A text is a list of characters here.
use Rattle.std.specs.Prelude.{◌≡◌, ◌≢◌, ◌⊎◌, ℕ, Bool, List, [], ◌∷◌, map, IsTrue, IsFalse, codes}
use Prim.Native.Char.{code}
use Rattle.std.specs.List.{list_any, IsDistinct}
use Rattle.std.specs.Str.{bytes_eq}
use Rattle.rl_syntax.specs.declared.span.Span.{Span}
use Rattle.rl_tokens.specs.declared.error.ErrorKind.TheVariants.{Repeated}
use Rattle.rl_tokens.specs.declared.error.Error.{Error}
use Rattle.rl_tokens.specs.Errors.{memory_at}
use Rattle.rl_syntax.specs.Texts.{SpannedText}
use Rattle.rl_tokens.specs.Trees.{Tree, IdentTree}
use Rattle.rl_tokens.specs.Buffers.{first_span, begins_ident, begins_mark, IsAfterMark, IsRejection}
use Rattle.rl_fronts.specs.Fronts.{IsFront, HasNoFront}
use Rattle.rl_tokens.specs.Lexing.{Lexes}
use Rattle.rl_tokens.specs.Whole.{place_at, RejectsLexing}

-- The parts of an attribute: its name, and the literal that the name is set to, each with its span.
pub record Attribute : Type 0 where
  pub name : SpannedText
  pub literal : SpannedText

-- ---- the grammar of a list of attributes

-- The token trees `trees` are the attribute `attribute`, which is an identifier, `=` and a literal, followed by `rest`.
pub record IsAttribute (trees : List Tree) (attribute : Attribute) (rest : List Tree) : Type 0 where
  pub at_equals : List Tree
  pub at_literal : List Tree
  pub named : trees ≡ IdentTree attribute.name ∷ at_equals
  pub equals : IsAfterMark (code "=") at_equals at_literal
  pub set : IsFront at_literal attribute.literal rest

-- The token trees are a list of attributes with commas between them. The list may be empty, and a comma may follow the
-- last attribute. Names may be repeated.
abbrev pub AreListed : List Tree → List Attribute → Type 0
AreListed trees [] = trees ≡ []
AreListed trees (a ∷ others) =
    (following : List Tree) × IsAttribute trees a following
    × (((following ≡ []) × (others ≡ []))
    ⊎ ((rest : List Tree) × IsAfterMark (code ",") following rest × AreListed rest others))

-- The names of a list of attributes, as texts.
abbrev pub names_of : List Attribute → List (List ℕ)
names_of list = map (λ a. a.name.text) list

-- Whether one of the attributes of a list has the name `name`.
abbrev pub is_named : List ℕ → List Attribute → Bool
is_named name list = list_any (bytes_eq name) (names_of list)

-- No two attributes of a list have the same name.
abbrev pub NamesDiffer : List Attribute → Type 0
NamesDiffer list = IsDistinct bytes_eq (names_of list)

-- The token trees `trees` are the attributes `list` with commas between them, and no two attributes have the same name.
pub record AreAttributes (trees : List Tree) (list : List Attribute) : Type 0 where
  pub listed : AreListed trees list
  pub differ : NamesDiffer list

-- The text is lexed into token trees, which are the attributes `list` with commas between them.
pub record AreAttributesOf (text : List ℕ) (file : ℕ) (list : List Attribute) : Type 0 where
  pub trees : List Tree
  pub lexes : Lexes text file trees
  pub are : AreAttributes trees list

-- ---- errors of lists of attributes, in the order in which the parser checks from left to right: a missing identifier,
-- a repeated name, a missing `=`, a missing literal, and a missing comma before the end. `seen` tells which names
-- occurred before.

-- The token trees `trees` are the identifier `name`, which didn't occur before, followed by `following`.
pub record HasNewName (seen : List ℕ → Bool) (trees : List Tree) (name : SpannedText)
    (following : List Tree) : Type 0 where
  pub named : trees ≡ IdentTree name ∷ following
  pub anew : IsFalse (seen name.text)

-- The error `e` is the error for token trees that don't begin with an identifier, where the name of an attribute is
-- expected.
pub record MissesName {A : Type 0} (trees : List Tree) (scope : Span) (e : Error A) : Type 0 where
  pub none : IsFalse (begins_ident trees)
  pub rejection : IsRejection trees scope (codes "identifier") e

-- The error `e` is `Repeated`, at the identifier at the start of `trees`, whose name occurred before.
pub record RepeatsName {A : Type 0} (seen : List ℕ → Bool) (trees : List Tree) (e : Error A)
    : Type 0 where
  pub name : SpannedText
  pub following : List Tree
  pub named : trees ≡ IdentTree name ∷ following
  pub again : IsTrue (seen name.text)
  pub error : e ≡ record { span = name.span; kind = Repeated }

-- The error `e` is the error for an attribute's name without `=` after it. The name didn't occur before.
pub record MissesEquals {A : Type 0} (seen : List ℕ → Bool) (trees : List Tree) (scope : Span)
    (e : Error A) : Type 0 where
  pub name : SpannedText
  pub following : List Tree
  pub begun : HasNewName seen trees name following
  pub none : IsFalse (begins_mark (code "=") following)
  pub rejection : IsRejection following scope (codes "`=`") e

-- The error `e` is the error for an attribute's name and `=` without a literal after them. The name didn't occur
-- before.
pub record MissesLiteral {A : Type 0} (seen : List ℕ → Bool) (trees : List Tree) (scope : Span)
    (e : Error A) : Type 0 where
  pub name : SpannedText
  pub at_equals : List Tree
  pub at_literal : List Tree
  pub begun : HasNewName seen trees name at_equals
  pub equals : IsAfterMark (code "=") at_equals at_literal
  pub none : HasNoFront at_literal
  pub rejection : IsRejection at_literal scope (codes "literal") e

-- The error `e` is the error for an attribute that is followed by something other than a comma. The name of the
-- attribute didn't occur before.
pub record MissesComma {A : Type 0} (seen : List ℕ → Bool) (trees : List Tree) (scope : Span)
    (e : Error A) : Type 0 where
  pub attribute : Attribute
  pub following : List Tree
  pub is : IsAttribute trees attribute following
  pub anew : IsFalse (seen attribute.name.text)
  pub some : following ≢ []
  pub none : IsFalse (begins_mark (code ",") following)
  pub rejection : IsRejection following scope (codes "`,`") e

-- The error `e` is the error for token trees that don't begin with an attribute with a new name, followed by a comma or
-- the end. The error names the first missing part, or is `Repeated` at a repeated name.
pub record RejectsNextAttribute {A : Type 0} (seen : List ℕ → Bool) (trees : List Tree)
    (scope : Span) (e : Error A) : Type 0 where
  pub why : MissesName trees scope e ⊎ RepeatsName seen trees e ⊎ MissesEquals seen trees scope e
      ⊎ MissesLiteral seen trees scope e ⊎ MissesComma seen trees scope e

-- The token trees are the attributes of the list, each with a comma after it, followed by `rest`.
abbrev pub AreAttributesBefore : List Tree → List Attribute → List Tree → Type 0
AreAttributesBefore trees [] rest = trees ≡ rest
AreAttributesBefore trees (a ∷ others) rest =
    (following next : List Tree) × IsAttribute trees a following × IsAfterMark (code ",") following next
    × AreAttributesBefore next others rest

-- The error `e` is the error for token trees that aren't a list of attributes. The token trees begin with attributes
-- whose names all differ, and the error is at the token trees after these attributes.
pub record RejectsAttributes {A : Type 0} (trees : List Tree) (scope : Span) (e : Error A)
    : Type 0 where
  pub earlier : List Attribute
  pub rest : List Tree
  pub stand : AreAttributesBefore trees earlier rest
  pub differ : NamesDiffer earlier
  pub some : rest ≢ []
  pub rejected : RejectsNextAttribute (λ name. is_named name earlier) rest scope e
  pub none : (list : List Attribute) → AreAttributes trees list → ⊥

-- The error `e` is an allocation failure at the identifier at the start of the token trees `trees`.
pub record LacksMemoryForName {A : Type 0} (trees : List Tree) (scope : Span) (e : Error A)
    : Type 0 where
  pub begun : IsTrue (begins_ident trees)
  pub error : e ≡ memory_at (first_span trees scope)

-- The errors of parsing token trees as a list of attributes: an allocation failure, or a missing part or repeated name.
abbrev pub RejectsAttributeTrees : {A : Type 0} → List Tree → Span → Error A → Type 0
RejectsAttributeTrees trees scope e =
    LacksMemoryForName trees scope e ⊎ RejectsAttributes trees scope e

-- The text is lexed into token trees, and the error `e` is the error of parsing the token trees as a list of
-- attributes.
pub record RejectsLexedAttributes {A : Type 0} (text : List ℕ) (file end : ℕ) (e : Error A)
    : Type 0 where
  pub trees : List Tree
  pub lexes : Lexes text file trees
  pub rejected : RejectsAttributeTrees trees (place_at file end) e

-- The errors of parsing a text as a list of attributes. `end` is the text's length in bytes.
abbrev pub RejectsAttributeText : {A : Type 0} → List ℕ → ℕ → ℕ → Error A → Type 0
RejectsAttributeText text file end e =
    RejectsLexing text file e ⊎ RejectsLexedAttributes text file end e
