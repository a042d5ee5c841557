-- An executable model of private code: the kind of the lexer's error at the start of a text. Only proofs use it.
use Rattle.std.specs.Prelude.{ℕ, codes, if◌then◌else◌, List}
use Rattle.rl_lexer.specs.declared.lex_error.LexKind.{LexKind}
use Rattle.rl_lexer.specs.declared.lex_error.LexKind.TheVariants.{DocComment, UnclosedComment, UnclosedQuote, Lifetime, RawIdentifier, StrayCharacter}
use Rattle.rl_syntax.specs.Texts.{begins}
use Rattle.rl_lexer.specs.Lexemes.{begins_raw_identifier}
use Rattle.rl_lexer.specs.Cuts.{begins_doc_comment, begins_lifetime}
use Rattle.rl_lexer.specs.Mirrors.LexemeAt.{begins_quote}

-- The kind of the lexer's error at the start of a text that begins with no lexeme.
abbrev pub error_kind : List ℕ → LexKind
error_kind r =
    if begins_doc_comment r then DocComment else
    (if begins (codes "/*") r then UnclosedComment else
    (if begins_quote r then UnclosedQuote else
    (if begins_lifetime r then Lifetime else
    (if begins_raw_identifier r then RawIdentifier else StrayCharacter))))
