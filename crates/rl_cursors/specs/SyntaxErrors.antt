-- The messages of the errors of lists and settings, and the conversion of errors of the lexer and of lists.
use Rattle.std.specs.Prelude.{ℕ, ◌==◌, List, [], ◌∷◌, ◌++◌, codes, if◌then◌else◌}
use Prim.Native.Char.{code}
use Rattle.rl_lexer.specs.declared.lex_error.LexKind.{LexKind}
use Rattle.rl_lexer.specs.declared.lex_error.LexKind.TheVariants as lex
use Rattle.rl_cursors.specs.declared.next_literals.RejectionKind.{RejectionKind}
use Rattle.rl_cursors.specs.declared.next_literals.RejectionKind.TheVariants as list
use Rattle.rl_cursors.specs.declared.syntax_error.Part.{Part}
use Rattle.rl_cursors.specs.declared.syntax_error.Part.TheVariants.{Name, Equals, Literal, Comma}
use Rattle.rl_cursors.specs.declared.syntax_error.SyntaxErrorKind.{SyntaxErrorKind}
use Rattle.rl_cursors.specs.declared.syntax_error.SyntaxErrorKind.TheVariants.{NotALiteral, NoNumber, Group, Expected, EndOfInput, Repeated, DocComment, UnclosedComment, UnclosedQuote, Lifetime, RawIdentifier, StrayCharacter, UnmatchedClose, UnclosedGroup, TooDeep}

-- The name of a part of a setting, for messages.
abbrev pub part_words : Part → List ℕ
part_words Name = codes "identifier"
part_words Equals = codes "`=`"
part_words Literal = codes "literal"
part_words Comma = codes "`,`"

abbrev pub expected_message : Part → List ℕ
expected_message part = codes "expected " ++ part_words part

abbrev pub ended_message : Part → List ℕ
ended_message part = codes "unexpected end of input, expected " ++ part_words part

-- The message of a kind of error.
abbrev pub syntax_message : SyntaxErrorKind → List ℕ
syntax_message NotALiteral = codes "not a literal"
syntax_message NoNumber = codes "expected number up to 128 bits after `-`"
syntax_message Group = codes "expected literal, found group"
syntax_message (Expected part) = expected_message part
syntax_message (EndOfInput part) = ended_message part
syntax_message Repeated = codes "repeated name"
syntax_message DocComment = codes "unexpected doc comment"
syntax_message UnclosedComment = codes "unclosed block comment"
syntax_message UnclosedQuote = codes "unclosed quote"
syntax_message Lifetime = codes "unexpected lifetime: a string has double quotes"
syntax_message RawIdentifier = codes "unexpected raw identifier"
syntax_message StrayCharacter = codes "stray character"
syntax_message UnmatchedClose = codes "unmatched closing delimiter"
syntax_message UnclosedGroup = codes "unclosed group"
syntax_message TooDeep = codes "groups nested too deep"

-- Converts the kind of a lexer's error to a kind of syntax error. An allocation failure isn't an error of a text, and doesn't
-- occur in code that doesn't allocate.
abbrev pub of_lexer : LexKind → SyntaxErrorKind
of_lexer lex.DocComment = DocComment
of_lexer lex.UnclosedComment = UnclosedComment
of_lexer lex.UnclosedQuote = UnclosedQuote
of_lexer lex.Lifetime = Lifetime
of_lexer lex.RawIdentifier = RawIdentifier
of_lexer lex.StrayCharacter = StrayCharacter
of_lexer lex.UnmatchedClose = UnmatchedClose
of_lexer lex.UnclosedGroup = UnclosedGroup
of_lexer lex.TooDeep = TooDeep
of_lexer lex.Memory = StrayCharacter

-- The error of a list where a literal was expected. The argument is the text of the list from the error's position on, in
-- bytes. If this text begins with a minus, a number was expected.
abbrev pub literal_expected : List ℕ → SyntaxErrorKind
literal_expected [] = NotALiteral
literal_expected (c ∷ cs) = if c == code "-" then NoNumber else NotALiteral

-- Converts the kind of a list's error. `rest` is the unread text of the list, as bytes.
abbrev pub of_list : RejectionKind → List ℕ → SyntaxErrorKind
of_list (list.Lex kind) rest = of_lexer kind
of_list list.Group rest = Group
of_list list.UnmatchedClose rest = UnmatchedClose
of_list list.NotALiteral rest = literal_expected rest
