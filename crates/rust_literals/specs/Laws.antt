-- The theorems that the functions of src/laws.rt state, by name.
use Rattle.std.specs.Prelude.{◌≡◌, ◌<◌, List, ℕ, Result, Some, length}
use Rattle.std.specs.Result.{MatchResult}
use Rattle.std.specs.Str.{chars, IsUtf8}
use Rattle.rl_syntax.specs.declared.kind.Kind.{Kind}
use Rattle.rl_syntax.specs.declared.kind.Kind.TheVariants.{Bool as BoolKind}
use Rattle.rl_syntax.specs.declared.span.Span.{Span}
use Rattle.rl_syntax.specs.Printed.{Entry, Printed}
use Rattle.rl_syntax.specs.Reading.{Contents, HasContents, HasSuffix}
use Rattle.rl_tokens.specs.declared.error.Error.{Error}
use Rattle.rl_tokens.specs.declared.error.ErrorKind.TheVariants.{Memory}
use Rattle.rl_tokens.specs.WrittenLists.{str_list_text}
use Rattle.rl_fronts.specs.Fronts.{HasFront, HasFrontOf, RunsAs}
use Rattle.rust_literals.specs.declared.lit.Lit.{Lit}
use Rattle.rust_literals.specs.Literals.{kind_of, token_of, IsLitOf}
use Rattle.rl_tokens.specs.Trees.{Tree}
use Rattle.rust_literals.specs.Parsing.{AreRead, IsLitFront, RunsLit, RunsTruth}
use Rattle.rust_literals.specs.ReadBack.{AreItems, AreStrings}
use Rattle.rust_literals.specs.Peeking.{PeekReports}

-- A theorem: for `Lit`, `peek` is `true` exactly if the parser returns a literal, provided that no allocation fails. If
-- `peek` is `false`, the parser's error isn't an allocation failure.
abbrev pub APeekTellsALiteral : (A : Type 0) → Type 0
APeekTellsALiteral A =
    PeekReports (RunsLit {A = A}) HasFront

-- A theorem: for `LitBool`, `peek` is `true` exactly if the parser returns a literal.
abbrev pub APeekTellsABool : (A : Type 0) → Type 0
APeekTellsABool A =
    PeekReports (RunsTruth {A = A}) (HasFrontOf BoolKind)

-- A theorem: for each of the seven literal types other than `Lit` and `LitBool`, `peek` is `true` exactly if the type's
-- parser returns a literal, provided that no allocation fails.
abbrev pub APeekTellsTheKind : (A : Type 0) → Type 0
APeekTellsTheKind A =
    (kind : Kind) (word : List ℕ)
    → PeekReports (RunsAs {A = A} kind word) (HasFrontOf kind)

-- A theorem: two literals with the same kind and the same token are equal in all parts.
abbrev pub KindAndTokenMakeTheLiteral : (A : Type 0) → Type 0
KindAndTokenMakeTheLiteral A =
    (a b : Lit A) → kind_of a ≡ kind_of b → token_of a ≡ token_of b → a ≡ b

-- A theorem: if a list of token trees begins with a literal, the list of the token trees after that literal is shorter.
abbrev pub ALiteralLeavesFewerTrees : (A : Type 0) → Type 0
ALiteralLeavesFewerTrees A =
    (trees : List Tree) (literal : Lit A) (rest : List Tree)
    → IsLitFront trees literal rest → length rest < length trees

-- A theorem: a list of token trees begins with at most one literal, and one list of token trees follows it.
abbrev pub ALitFrontIsOne : (A : Type 0) → Type 0
ALitFrontIsOne A =
    (trees : List Tree) (a b : Lit A) (r s : List Tree) → IsLitFront trees a r → IsLitFront trees b s
    → (a ≡ b) × (r ≡ s)

-- A theorem: if token trees begin with a literal, the parser of `Lit` returns this literal, or an allocation failed.
abbrev pub AParserOfLitIsExact : (A : Type 0) → Type 0
AParserOfLitIsExact A =
    (trees : List Tree) (scope : Span) (r : Result (Lit A) (Error A)) (rest after : List Tree) (literal : Lit A)
    → RunsLit trees scope r rest → IsLitFront trees literal after
    → MatchResult r (λ l. (l ≡ literal) × (rest ≡ after)) (λ e. e.kind ≡ Memory)

-- A theorem: a literal has one kind, one value and one suffix.
abbrev pub ALitHasOneValue : (A : Type 0) → Type 0
ALitHasOneValue A =
    (l : Lit A) (k m : Kind) (v w : Contents) (x y : List ℕ) → IsLitOf k v x l → IsLitOf m w y l
    → (k ≡ m) × (v ≡ w) × (x ≡ y)

-- A theorem: if a literal has a kind, and its text has a value and a suffix of this kind, the literal has all three.
abbrev pub ALitHasItsParts : (A : Type 0) → Type 0
ALitHasItsParts A =
    (l : Lit A) (k : Kind) (v : Contents) (x : List ℕ) → kind_of l ≡ Some k
    → HasContents k (chars (token_of l).text) v → HasSuffix k (chars (token_of l).text) x → IsLitOf k v x l

-- A theorem: a text consists of at most one list of literals.
abbrev pub ATextIsOneList : (A : Type 0) → Type 0
ATextIsOneList A =
    (text : List ℕ) (file : ℕ) (list other : List (Lit A)) → AreRead text file list → AreRead text file other
    → list ≡ other

-- A theorem: a printed list of literals is read as the literals of its items.
abbrev pub APrintedListIsRead : (A : Type 0) → Type 0
APrintedListIsRead A =
    (text : List ℕ) (file : ℕ) (entries : List Entry) (last : List ℕ) → IsUtf8 text
    → Printed (chars text) entries last
    → (list : List (Lit A)) × AreRead (chars text) file list × AreItems file 0 entries list

-- A theorem: the text of a list of strings, which `write_str_list` returns, is read as string literals with these values.
abbrev pub AStrListIsRead : (A : Type 0) → Type 0
AStrListIsRead A =
    (text : List ℕ) (file : ℕ) (values : List (List ℕ)) → IsUtf8 text → chars text ≡ str_list_text values
    → (list : List (Lit A)) × AreRead (chars text) file list × AreStrings list values

-- A theorem: string literals have one list of values.
abbrev pub StringsHaveOneListOfValues : (A : Type 0) → Type 0
StringsHaveOneListOfValues A =
    (list : List (Lit A)) (vs ws : List (List ℕ)) → AreStrings list vs → AreStrings list ws → vs ≡ ws
