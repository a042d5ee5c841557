-- The parts of a parse buffer that contracts cite: the token trees that haven't been consumed yet, and the scope.
use Rattle.std.specs.Prelude.{◌≡◌, ℕ, ◌==◌, Bool, true, false, List, [], ◌∷◌, ◌++◌, map}
use Rattle.rl_syntax.specs.declared.span.Span.{Span}
use Rattle.rl_tokens.specs.declared.error.ErrorKind.{ErrorKind}
use Rattle.rl_tokens.specs.declared.error.ErrorKind.TheVariants.{Expected, EndOfInput}
use Rattle.rl_tokens.specs.declared.error.Error.{Error}
use Rattle.rl_tokens.specs.declared.buffer.ParseBuffer.{ParseBuffer}
use Rattle.rl_tokens.specs.Puncts.{Mark}
use Rattle.rl_tokens.specs.Trees.{Tree, GroupTree, IdentTree, PunctTree, LiteralTree, tree_view}

-- The token trees of a parse buffer that haven't been consumed yet.
abbrev pub trees_in : {A : Type 0} → ParseBuffer A → List Tree
trees_in b = map tree_view b.trees.now

-- A parse buffer's scope: the span of an error at the end of the token trees.
abbrev pub scope_of : {A : Type 0} → ParseBuffer A → Span
scope_of b = b.scope

-- The span of a token tree.
abbrev pub tree_span : Tree → Span
tree_span (GroupTree delimiter inside span) = span
tree_span (IdentTree token) = token.span
tree_span (PunctTree mark) = mark.span
tree_span (LiteralTree token) = token.span

-- The span of the first token tree, or the buffer's scope if all token trees have been consumed.
abbrev pub first_span : List Tree → Span → Span
first_span [] scope = scope
first_span (t ∷ ts) scope = tree_span t

-- Four tests of the first token tree of a list: whether it is a literal token, an identifier, a punctuation character
-- or a group.
abbrev pub begins_literal : List Tree → Bool
begins_literal [] = false
begins_literal (LiteralTree x ∷ ts) = true
begins_literal (_ ∷ ts) = false

abbrev pub begins_ident : List Tree → Bool
begins_ident [] = false
begins_ident (IdentTree x ∷ ts) = true
begins_ident (_ ∷ ts) = false

abbrev pub begins_punct : List Tree → Bool
begins_punct [] = false
begins_punct (PunctTree x ∷ ts) = true
begins_punct (_ ∷ ts) = false

abbrev pub begins_group : List Tree → Bool
begins_group [] = false
begins_group (GroupTree d inside span ∷ ts) = true
begins_group (_ ∷ ts) = false

-- Whether the first token tree of a list is the punctuation character `ch`.
abbrev pub begins_mark : ℕ → List Tree → Bool
begins_mark ch [] = false
begins_mark ch (PunctTree m ∷ ts) = m.ch == ch
begins_mark ch (_ ∷ ts) = false

-- The token trees `trees` are the punctuation character `ch`, followed by the token trees `rest`.
pub record IsAfterMark (ch : ℕ) (trees rest : List Tree) : Type 0 where
  pub mark : Mark
  pub trees_are : trees ≡ PunctTree mark ∷ rest
  pub is : mark.ch ≡ ch

-- The token trees `trees` are the punctuation characters `chs`, followed by the token trees `rest`. The first character
-- begins where the span `before` ends, and each other character where the one before it ends. The span `span` begins where
-- `before` begins, and ends where the last character ends.
abbrev pub IsAfterMarks : List ℕ → Span → List Tree → Span → List Tree → Type 0
IsAfterMarks [] before trees span rest = (span ≡ before) × (rest ≡ trees)
IsAfterMarks (ch ∷ chs) before (PunctTree m ∷ trees) span rest =
    (m.ch ≡ ch) × (before.file ≡ m.span.file) × (before.hi ≡ m.span.lo)
    × IsAfterMarks chs (record before { hi = m.span.hi }) trees span rest
IsAfterMarks (ch ∷ chs) before _ span rest = ⊥

-- The empty span at the start of a span.
abbrev pub start_of : Span → Span
start_of span = record span { hi = span.lo }

-- The token trees `left` are the end of the token trees `before`: a parser consumed the token trees before them.
pub record IsRest (before left : List Tree) : Type 0 where
  pub taken : List Tree
  pub are : before ≡ taken ++ left

-- Each list of token trees that ends with `between` also ends with `left`.
abbrev pub StaysRest : List Tree → List Tree → Type 0
StaysRest between left = (before : List Tree) → IsRest before between → IsRest before left

-- The parse buffer `after` is at the same position as the parse buffer `before`: it has the same remaining token trees
-- and the same scope.
pub record IsPutBack {A : Type 0} (before after : ParseBuffer A) : Type 0 where
  pub trees : trees_in after ≡ trees_in before
  pub scope : scope_of after ≡ scope_of before
  pub rest : IsRest (trees_in before) (trees_in after)

-- The kind of a parser's error whose message names the expected token by `word`: `EndOfInput(word)` if no token tree is
-- left, else `Expected(word)`.
abbrev pub MissesWord : {A : Type 0} → List Tree → List ℕ → ErrorKind A → Type 0
MissesWord [] word (EndOfInput w) = w.now ≡ word
MissesWord (t ∷ ts) word (Expected w) = w.now ≡ word
MissesWord _ word _ = ⊥

-- The error of a parser that expected the token named `word` at the start of `trees`. The error's span is the span of
-- the first token tree, or the scope if `trees` is empty.
pub record IsRejection {A : Type 0} (trees : List Tree) (scope : Span) (word : List ℕ) (e : Error A)
    : Type 0 where
  pub span : e.span ≡ first_span trees scope
  pub kind : MissesWord trees word e.kind
