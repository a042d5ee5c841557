-- The messages of errors, the error for an allocation failure, and the conversion of the lexer's errors.
pub use Rattle.rl_syntax.specs.Spans.{nowhere}
use Rattle.std.specs.Prelude.{ℕ, List, ◌++◌, codes, string_bytes}
use Rattle.rl_syntax.specs.declared.span.Span.{Span}
use Rattle.rl_lexer.specs.declared.lex_error.LexKind.{LexKind}
use Rattle.rl_lexer.specs.declared.lex_error.LexKind.TheVariants.{Memory as LexMemory}
use Rattle.rl_tokens.specs.declared.error.ErrorKind.{ErrorKind}
use Rattle.rl_tokens.specs.declared.error.ErrorKind.TheVariants.{Expected, EndOfInput, Unexpected, Lex, Suffix, NotInteger, TooLarge, NotFloat, Repeated, Number, Memory}
use Rattle.rl_tokens.specs.declared.error.Error.{Error}
use Rattle.rl_lexer.specs.LexErrors.{lex_message}

-- The message of an error, by the kind of the error.
abbrev pub message_of : {A : Type 0} → ErrorKind A → List ℕ
message_of (Expected word) = codes "expected " ++ word.now
message_of (EndOfInput word) = codes "unexpected end of input, expected " ++ word.now
message_of Unexpected = codes "unexpected token"
message_of (Lex kind) = lex_message kind
message_of (Suffix suffix) =
    codes "unexpected suffix `" ++ string_bytes suffix ++ codes "` on string literal"
message_of NotInteger = codes "not an integer literal"
message_of TooLarge = codes "integer literal past 128 bits"
message_of NotFloat = codes "not a float literal"
message_of Repeated = codes "repeated name"
message_of (Number words) = string_bytes words
message_of Memory = codes "out of memory"

-- The error for an allocation failure, with the span `at`.
abbrev pub memory_at : {A : Type 0} → Span → Error A
memory_at at = record { span = at; kind = Memory }

-- The error with the span `at` for a kind of the lexer's errors. The lexer's `Memory` becomes `ErrorKind::Memory`, and
-- any other kind becomes `ErrorKind::Lex`.
abbrev pub lex_rejection : {A : Type 0} → LexKind → Span → Error A
lex_rejection LexMemory at = memory_at at
lex_rejection kind at = record { span = at; kind = Lex kind }
