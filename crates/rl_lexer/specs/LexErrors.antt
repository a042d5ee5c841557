-- The messages of the lexer's errors, by their kinds.
use Rattle.std.specs.Prelude.{ℕ, List, codes}
use Rattle.rl_lexer.specs.declared.lex_error.LexKind.{LexKind}
use Rattle.rl_lexer.specs.declared.lex_error.LexKind.TheVariants.{DocComment, UnclosedComment, UnclosedQuote, Lifetime, RawIdentifier, StrayCharacter, UnmatchedClose, UnclosedGroup, TooDeep, Memory}

abbrev pub lex_message : LexKind → List ℕ
lex_message DocComment = codes "doc comment is not carried"
lex_message UnclosedComment = codes "unclosed block comment"
lex_message UnclosedQuote = codes "unclosed quote"
lex_message Lifetime = codes "lifetime is not carried"
lex_message RawIdentifier = codes "raw identifier is not carried"
lex_message StrayCharacter = codes "stray character"
lex_message UnmatchedClose = codes "unmatched closing delimiter"
lex_message UnclosedGroup = codes "unclosed group"
lex_message TooDeep = codes "groups nested too deep"
lex_message Memory = codes "out of memory"
