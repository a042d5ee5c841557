-- The results of the parser of lists of integers and strings, and of the parser of one item.
use Rattle.std.specs.Prelude.{◌≡◌, ◌≢◌, ◌⊎◌, ◌<◌, IsFalse, List, [], ◌∷◌, length, codes, Result, Ok, Err}
use Prim.Native.Char.{code}
use Rattle.rl_syntax.specs.declared.span.Span.{Span}
use Rattle.rl_syntax.specs.declared.kind.Kind.TheVariants.{Str as StrKind, Int as IntKind}
use Rattle.rl_tokens.specs.declared.token.Delimiter.TheVariants.{Bracket}
use Rattle.rl_tokens.specs.declared.error.Error.{Error}
use Rattle.rl_tokens.specs.Errors.{memory_at}
use Rattle.rl_tokens.specs.Trees.{Tree, Trees, GroupTree, inside_of, closer_span}
use Rattle.rl_tokens.specs.Buffers.{first_span, begins_mark, IsAfterMark, IsRejection}
use Rattle.rl_grammar.specs.Fronts.{IsFrontOf, HasFrontOf}
use Rattle.rl_uses.specs.declared.list.Item.{Item}
use Rattle.rl_uses.specs.declared.list.Item.TheVariants.{Int, Str}
use Rattle.rl_uses.specs.declared.list.ItemList.{ItemList}

-- The token trees are the literal of the item (an integer or a string), followed by `rest`.
abbrev pub IsItemLiteral : {A : Type 0} → List Tree → Item A → List Tree → Type 0
IsItemLiteral trees (Int literal) rest = IsFrontOf IntKind trees literal rest
IsItemLiteral trees (Str literal) rest = IsFrontOf StrKind trees literal rest

-- The token trees `trees` are the item `item`, followed by `rest`, which is shorter than `trees`.
pub record IsItem {A : Type 0} (trees : List Tree) (item : Item A) (rest : List Tree) : Type 0 where
  pub literal : IsItemLiteral trees item rest
  pub shorter : length rest < length trees

-- The error `e` is the error for token trees that begin with neither an integer nor a string literal. The error's
-- message names both kinds of literals.
pub record MissesItem {A : Type 0} (trees : List Tree) (scope : Span) (e : Error A) : Type 0 where
  pub no_integer : HasFrontOf IntKind trees → ⊥
  pub no_string : HasFrontOf StrKind trees → ⊥
  pub rejection : IsRejection trees scope (codes "integer literal or string literal") e

-- The error `e` is an allocation failure for the integer or string literal at the start of the token trees.
pub record LacksMemoryForItem {A : Type 0} (trees : List Tree) (scope : Span) (e : Error A)
    : Type 0 where
  pub some : HasFrontOf IntKind trees ⊎ HasFrontOf StrKind trees
  pub error : e ≡ memory_at (first_span trees scope)

-- The error `e` is the error for token trees from which no item is parsed. The token trees don't begin with an item, or
-- an allocation failed.
pub record RejectsItem {A : Type 0} (trees : List Tree) (scope : Span) (e : Error A) : Type 0 where
  pub why : MissesItem trees scope e ⊎ LacksMemoryForItem trees scope e

-- The result of the parser of one item: an item, or an error, with no token tree consumed.
abbrev pub RunsItem : {A : Type 0} → List Tree → Span → Result (Item A) (Error A) → List Tree
    → Type 0
RunsItem trees scope (Ok item) rest = IsItem trees item rest
RunsItem trees scope (Err e) rest = RejectsItem trees scope e × (rest ≡ trees)

-- The token trees `trees` are the item `item`, a comma, and the token trees `rest`. Or they are only the item.
pub record IsListed {A : Type 0} (trees : List Tree) (item : Item A) (rest : List Tree)
    : Type 0 where
  pub following : List Tree
  pub is : IsItem trees item following
  pub comma : IsAfterMark (code ",") following rest ⊎ ((following ≡ []) × (rest ≡ []))

-- The error `e` is the error for an item that is followed by something other than a comma.
pub record MissesItemComma {A : Type 0} (trees : List Tree) (scope : Span) (e : Error A)
    : Type 0 where
  pub item : Item A
  pub following : List Tree
  pub is : IsItem trees item following
  pub some : following ≢ []
  pub none : IsFalse (begins_mark (code ",") following)
  pub rejection : IsRejection following scope (codes "`,`") e

-- The error `e` is the error for token trees that don't begin with an item, followed by a comma or the end.
pub record RejectsListed {A : Type 0} (trees : List Tree) (scope : Span) (e : Error A)
    : Type 0 where
  pub why : RejectsItem trees scope e ⊎ MissesItemComma trees scope e

-- The token trees are the items of the list, each followed by a comma or the end, followed by `rest`.
abbrev pub Lists : {A : Type 0} → List Tree → List (Item A) → List Tree → Type 0
Lists trees [] rest = trees ≡ rest
Lists trees (x ∷ xs) rest = (after : List Tree) × IsListed trees x after × Lists after xs rest

-- The error `e` is the error for the first token tree that doesn't continue a list of items, after zero or more items.
pub record RejectsNextItem {A : Type 0} (trees : List Tree) (scope : Span) (e : Error A)
    : Type 0 where
  pub items : List (Item A)
  pub rest : List Tree
  pub lists : Lists trees items rest
  pub some : rest ≢ []
  pub rejected : RejectsListed rest scope e

-- The error `e` is an allocation failure for the list of parsed items. The error's span is the span of the item that
-- couldn't be stored.
pub record LacksMemoryForPlace {A : Type 0} (trees : List Tree) (scope : Span) (e : Error A)
    : Type 0 where
  pub items : List (Item A)
  pub rest : List Tree
  pub lists : Lists trees items rest
  pub item : Item A
  pub following : List Tree
  pub listed : IsListed rest item following
  pub error : e ≡ memory_at (first_span rest scope)

-- The error `e` is the error for token trees that aren't items with commas between them, or an allocation failure.
pub record RejectsItems {A : Type 0} (trees : List Tree) (scope : Span) (e : Error A) : Type 0 where
  pub why : RejectsNextItem trees scope e ⊎ LacksMemoryForPlace trees scope e

-- The token trees don't begin with a group in square brackets.
abbrev pub HasNoList : List Tree → Type 0
HasNoList trees =
    (inside : Trees) (span : Span) (rest : List Tree) → trees ≡ GroupTree Bracket inside span ∷ rest
    → ⊥

-- The token trees `trees` are a group in square brackets, followed by `rest`. The group consists of the items `items`
-- with commas between them.
pub record IsItemList {A : Type 0} (trees : List Tree) (items : List (Item A)) (rest : List Tree)
    : Type 0 where
  pub inside : List Tree
  pub span : Span
  pub group : trees ≡ GroupTree Bracket (inside_of inside) span ∷ rest
  pub lists : Lists inside items []

-- The error `e` is the error for token trees that don't begin with a group in square brackets.
pub record MissesList {A : Type 0} (trees : List Tree) (scope : Span) (e : Error A) : Type 0 where
  pub none : HasNoList trees
  pub rejection : IsRejection trees scope (codes "square brackets") e

-- The error `e` is the error for a group in square brackets that isn't a list of items. An error at the end of the
-- group is at the closing delimiter.
pub record RejectsInsideList {A : Type 0} (trees : List Tree) (e : Error A) : Type 0 where
  pub inside : List Tree
  pub span : Span
  pub following : List Tree
  pub group : trees ≡ GroupTree Bracket (inside_of inside) span ∷ following
  pub rejected : RejectsItems inside (closer_span span) e

-- The error `e` is the error for token trees that don't begin with a list of items in square brackets.
abbrev pub RejectsList : {A : Type 0} → List Tree → Span → Error A → Type 0
RejectsList trees scope e = MissesList trees scope e ⊎ RejectsInsideList trees e

-- The result of the parser of lists: a list, or an error, with no token tree consumed.
abbrev pub RunsList : {A : Type 0} → List Tree → Span → Result (ItemList A) (Error A) → List Tree
    → Type 0
RunsList trees scope (Ok list) rest = IsItemList trees list.items.items rest
RunsList trees scope (Err e) rest = RejectsList trees scope e × (rest ≡ trees)
