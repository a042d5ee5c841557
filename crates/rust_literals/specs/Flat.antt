-- Reading the literals of a text token by token. A text of literals contains no groups.
use Rattle.std.specs.Prelude.{◌≡◌, ℕ, List, [], ◌∷◌, ◌++◌, length, map, Some, ⊤}
use Rattle.std.specs.List.{AllByRecursion}
use Rattle.std.specs.Str.{chars}
use Rattle.rl_tokens.specs.Trees.{Tree, GroupTree, flat_trees}
use Rattle.rl_lexer.specs.Cuts.{LexedToken, LexesUpTo, open_groups}
use Rattle.rl_tokens.specs.Lexing.{flat_token}
use Rattle.rl_lexer.specs.Cursors.{CursorState}
use Rattle.rust_literals.specs.declared.lit.Lit.{Lit}
use Rattle.rust_literals.specs.Parsing.{IsLitFront, ReadsLiterals}

-- The token tree is a single token, and not a group.
abbrev pub IsNoGroup : Tree → Type 0
IsNoGroup (GroupTree delimiter inside span) = ⊥
IsNoGroup _ = ⊤

-- The text before `rest` is lexed into the token trees `trees`. No group is open before `rest`, and no token tree is a
-- group.
pub record LexesTreesUpTo (text : List ℕ) (file : ℕ) (trees : List Tree) (rest : List ℕ)
    : Type 0 where
  pub cuts : List LexedToken
  pub are_cuts : LexesUpTo 0 text cuts rest
  pub none_open : open_groups [] cuts ≡ Some []
  pub flat_is : map (flat_token file) cuts ≡ flat_trees trees
  pub no_groups : AllByRecursion IsNoGroup trees

-- The tokens between the cursors `old` and `new` are the literal `lit`, whatever tokens follow.
pub record ReadsNext {A : Type 0} (file : ℕ) (old : CursorState) (lit : Lit A) (new : CursorState)
    : Type 0 where
  pub trees : List Tree
  pub cuts : (done : List Tree) → LexesTreesUpTo (chars old.text) file done (chars old.rest)
      → LexesTreesUpTo (chars old.text) file (done ++ trees) (chars new.rest)
  pub front : (following : List Tree) → IsLitFront (trees ++ following) lit following
  pub same : new.text ≡ old.text

-- The tokens between the cursors `old` and `new` are a literal, and `longer` is `list` with that literal appended.
pub record AddsNext {A : Type 0} (file : ℕ) (old : CursorState) (list : List (Lit A))
    (new : CursorState) (longer : List (Lit A)) : Type 0 where
  pub lit : Lit A
  pub next : ReadsNext file old lit new
  pub longer_is : longer ≡ list ++ lit ∷ []

-- The text before `rest` consists of the literals `list`, whatever tokens follow.
pub record AreReadUpTo {A : Type 0} (text : List ℕ) (file : ℕ) (list : List (Lit A)) (rest : List ℕ)
    : Type 0 where
  pub trees : List Tree
  pub cuts : LexesTreesUpTo text file trees rest
  pub leads : (following : List Tree) → ReadsLiterals (trees ++ following) list following

-- The text begins with the literals `list`.
pub record AreBegun {A : Type 0} (text : List ℕ) (file : ℕ) (list : List (Lit A)) : Type 0 where
  pub rest : List ℕ
  pub read : AreReadUpTo text file list rest

-- The text begins with the literals `list`, and `count` is the number of these literals.
pub record AreFirst {A : Type 0} (text : List ℕ) (file count : ℕ) (list : List (Lit A))
    : Type 0 where
  pub begun : AreBegun text file list
  pub count_is : length list ≡ count
