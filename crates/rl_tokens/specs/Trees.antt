-- The parts of token trees that contracts cite, the data type `Tree` that represents token trees in definitions, and
-- flat lists of tokens, in which each delimiter of a group is an element of its own.
pub use Rattle.rl_syntax.specs.Spans.{entry_at, mapped_by_byte_spans}
use Rattle.std.specs.Prelude.{◌+◌, ◌-◌, List, [], ◌∷◌, ◌++◌, map}
use Rattle.rl_syntax.specs.declared.span.Span.{Span}
use Rattle.rl_tokens.specs.declared.token.Delimiter.{Delimiter}
use Rattle.rl_tokens.specs.declared.token.TokenTree.{TokenTree, fold-TokenTree, out-TokenTree}
use Rattle.rl_tokens.specs.declared.token.TokenTree.TheOpen.{TokenTree-F, Group-F, TokenStream-F}
use Rattle.rl_tokens.specs.declared.token.Group.{Group, out-Group}
use Rattle.rl_tokens.specs.declared.token.TokenStream.{TokenStream, out-TokenStream}
use Rattle.rl_syntax.specs.Texts.{SpannedText}
use Rattle.rl_tokens.specs.Puncts.{Mark}

-- The token trees of a stream.
abbrev pub trees_of : {A : Type 0} → TokenStream A → List (TokenTree A)
trees_of {A} s = (out-TokenStream A s).trees.items

-- The three parts of a group: its pair of delimiters, the stream of token trees inside, and its span.
abbrev pub delimiter_of : {A : Type 0} → Group A → Delimiter
delimiter_of {A} g = (out-Group A g).delimiter

abbrev pub stream_of : {A : Type 0} → Group A → TokenStream A
stream_of {A} g = (out-Group A g).stream

abbrev pub group_span : {A : Type 0} → Group A → Span
group_span {A} g = (out-Group A g).span

-- The span of a token tree.
abbrev pub span_in : {A : Type 0} → TokenTree-F A (TokenTree A) (Group A) (TokenStream A) → Span
span_in (TokenTree-F.Group g) = group_span g
span_in (TokenTree-F.Ident i) = i.span
span_in (TokenTree-F.Punct p) = p.span
span_in (TokenTree-F.Literal l) = l.span

abbrev pub token_tree_span : {A : Type 0} → TokenTree A → Span
token_tree_span {A} t = span_in (out-TokenTree A t)

-- The data type that represents token trees in definitions. A token tree is an identifier, a punctuation character, a
-- literal token, or a group with the token trees inside it.
mutual
  pub data Tree : Type 0 where
    GroupTree : (delimiter : Delimiter) (inside : Trees) (span : Span) → Tree
    IdentTree : (token : SpannedText) → Tree
    PunctTree : (mark : Mark) → Tree
    LiteralTree : (token : SpannedText) → Tree

  pub data Trees : Type 0 where
    NoTrees : Trees
    MoreTrees : (first : Tree) (rest : Trees) → Trees

-- Converts a list of token trees to `Trees`, the type of the token trees inside a group.
abbrev pub inside_of : List Tree → Trees
inside_of [] = NoTrees
inside_of (t ∷ ts) = MoreTrees t (inside_of ts)

-- The parts of a group: its pair of delimiters, the token trees inside, and its span.
pub record GroupParts : Type 0 where
  pub delimiter : Delimiter
  pub inside : List Tree
  pub span : Span

-- Three functions that convert a token tree, a group and a stream of the code to the data types of the definitions. The
-- parts of the argument are converted already.
abbrev pub tree_step : {A : Type 0} → TokenTree-F A Tree GroupParts (List Tree) → Tree
tree_step (TokenTree-F.Group g) = GroupTree g.delimiter (inside_of g.inside) g.span
tree_step (TokenTree-F.Ident i) = IdentTree i
tree_step (TokenTree-F.Punct p) = PunctTree p
tree_step (TokenTree-F.Literal l) = LiteralTree l

abbrev pub group_step : {A : Type 0} → Group-F A Tree GroupParts (List Tree) → GroupParts
group_step g = record { delimiter = g.delimiter; inside = g.stream; span = g.span }

abbrev pub stream_step : {A : Type 0} → TokenStream-F A Tree GroupParts (List Tree) → List Tree
stream_step s = s.trees.items

-- Converts a token tree of the code to a `Tree`, and a stream of the code to a list of `Tree` values.
abbrev pub tree_view : {A : Type 0} → TokenTree A → Tree
tree_view {A} = fold-TokenTree A Tree GroupParts (List Tree) tree_step group_step stream_step

abbrev pub stream_view : {A : Type 0} → TokenStream A → List Tree
stream_view s = map tree_view (trees_of s)

-- The token tree with its own span replaced by `span`. The spans of token trees inside a group are unchanged.
abbrev pub with_span : Span → Tree → Tree
with_span span (GroupTree d inside _) = GroupTree d inside span
with_span span (IdentTree i) = IdentTree (record i { span = span })
with_span span (PunctTree p) = PunctTree (record p { span = span })
with_span span (LiteralTree l) = LiteralTree (record l { span = span })

-- The token tree with its span, and the span of every token tree inside a group, replaced by `span`.
abbrev mutual
  pub respanned : Span → Tree → Tree
  respanned span (GroupTree d inside _) = GroupTree d (all_respanned span inside) span
  respanned span (IdentTree i) = IdentTree (record i { span = span })
  respanned span (PunctTree p) = PunctTree (record p { span = span })
  respanned span (LiteralTree l) = LiteralTree (record l { span = span })

  pub all_respanned : Span → Trees → Trees
  all_respanned span NoTrees = NoTrees
  all_respanned span (MoreTrees t ts) = MoreTrees (respanned span t) (all_respanned span ts)

-- The token tree with its span, and the span of every token tree inside a group, replaced by the span that `table`
-- gives for it. `table` contains a span for each byte of the lexed text.
abbrev mutual
  pub relocated : List Span → Tree → Tree
  relocated table (GroupTree d inside span) =
      GroupTree d (all_relocated table inside) (mapped_by_byte_spans table span)
  relocated table (IdentTree i) =
      IdentTree (record i { span = mapped_by_byte_spans table i.span })
  relocated table (PunctTree p) =
      PunctTree (record p { span = mapped_by_byte_spans table p.span })
  relocated table (LiteralTree l) =
      LiteralTree (record l { span = mapped_by_byte_spans table l.span })

  pub all_relocated : List Span → Trees → Trees
  all_relocated table NoTrees = NoTrees
  all_relocated table (MoreTrees t ts) =
      MoreTrees (relocated table t) (all_relocated table ts)

-- Converts a group of the code to a `Tree`.
abbrev pub group_tree : {A : Type 0} → Group A → Tree
group_tree g = GroupTree (delimiter_of g) (inside_of (stream_view (stream_of g))) (group_span g)

-- An element of a flat list of tokens. In a flat list each delimiter of a group is an element of its own.
pub data FlatToken : Type 0 where
  Opening : (delimiter : Delimiter) (span : Span) → FlatToken
  Closing : (delimiter : Delimiter) (span : Span) → FlatToken
  FlatIdent : (token : SpannedText) → FlatToken
  FlatPunct : (mark : Mark) → FlatToken
  FlatLiteral : (token : SpannedText) → FlatToken

-- The spans of a group's opening and closing delimiters: the first and the last byte of the group's span.
abbrev pub opener_span : Span → Span
opener_span s = record { file = s.file; lo = s.lo; hi = s.lo + 1 }

abbrev pub closer_span : Span → Span
closer_span s = record { file = s.file; lo = s.hi - 1; hi = s.hi }

abbrev mutual
  pub flat : Tree → List FlatToken
  flat (GroupTree d inside span) =
      Opening d (opener_span span) ∷ (flat_inside inside ++ (Closing d (closer_span span) ∷ []))
  flat (IdentTree i) = FlatIdent i ∷ []
  flat (PunctTree p) = FlatPunct p ∷ []
  flat (LiteralTree l) = FlatLiteral l ∷ []

  pub flat_inside : Trees → List FlatToken
  flat_inside NoTrees = []
  flat_inside (MoreTrees t ts) = flat t ++ flat_inside ts

abbrev pub flat_trees : List Tree → List FlatToken
flat_trees ts = flat_inside (inside_of ts)
