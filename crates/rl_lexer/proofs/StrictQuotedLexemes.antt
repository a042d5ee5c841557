-- A quoted literal by Rust's grammar is one lexeme before each text that may follow a literal.
use Rattle.rl_syntax.proofs.Common.{◌≡◌, ℕ, ◌⊎◌, inl, inr, List, ◌∷◌, ◌++◌, replicate, refl}
use Rattle.rl_syntax.specs.declared.kind.Kind.{Kind}
use Rattle.rl_syntax.specs.declared.kind.Kind.TheVariants.{Str, ByteStr, CStr, Byte, Char, Int, Float, Bool as BoolKind}
use Rattle.rl_lexer.specs.Lexemes.{LiteralPrefix, NoPrefix, BytePrefix, CPrefix, prefix_text, QuotedLexeme, RawLexeme, CharacterLexeme}
use Rattle.rl_syntax.specs.Reading.{Contents}
use Rattle.rl_syntax.specs.Strict.{StrictCooked, StrictRaw}
use Rattle.rl_lexer.proofs.QuotedLexemes.{SingleKind, StringKind, byte_kind, byte_string_kind, c_string_kind, character_kind, raw_body, single_parts, string_kind, string_parts}
use Rattle.rl_lexer.proofs.PrintedCuts.{LexedBefore}
use Rattle.rl_lexer.proofs.LiteralEnds.{EndsLiteral, strict_suffix_lexed}

string_lexed : (k : Kind) (t x : List ℕ) (v : Contents) → StringKind k → StrictCooked t k v x
    → LexedBefore EndsLiteral t
string_lexed k t x v f s =
    let r = string_parts k t x v f s in
    record {
      lexeme = QuotedLexeme f.before r.parts x;
      is_lexeme = λ after ends. (r.is_body, strict_suffix_lexed x after s.suffix ends);
      form = refl;
      text_is = r.text_is;
    }

single_lexed : (k : Kind) (t x : List ℕ) (v : Contents) → SingleKind k → StrictCooked t k v x
    → LexedBefore EndsLiteral t
single_lexed k t x v f s =
    let r = single_parts k t x v f s in
    record {
      lexeme = CharacterLexeme f.is_byte r.inside x;
      is_lexeme = λ after ends. (r.is_body, strict_suffix_lexed x after s.suffix ends);
      form = refl;
      text_is = r.text_is;
    }

raw_lexed : (k : Kind) (p : LiteralPrefix) (t x : List ℕ) (v : Contents) (s : StrictRaw t k v x) → t
    ≡ (((prefix_text p ++ (114 ∷ replicate s.hashes 35)) ++ (34 ∷ s.inside)) ++ (34 ∷ replicate s.hashes 35)) ++ x
    → LexedBefore EndsLiteral t
raw_lexed k p t x v s same = record {
  lexeme = RawLexeme p s.hashes s.inside x;
  is_lexeme = λ after ends. (raw_body s.hashes s.inside s.first_close, strict_suffix_lexed x after s.suffix ends);
  form = refl;
  text_is = same;
}

cooked_lexed : (k : Kind) (t x : List ℕ) (v : Contents) → StrictCooked t k v x → LexedBefore EndsLiteral t
cooked_lexed Str t x v s = string_lexed Str t x v string_kind s
cooked_lexed ByteStr t x v s = string_lexed ByteStr t x v byte_string_kind s
cooked_lexed CStr t x v s = string_lexed CStr t x v c_string_kind s
cooked_lexed Byte t x v s = single_lexed Byte t x v byte_kind s
cooked_lexed Char t x v s = single_lexed Char t x v character_kind s
cooked_lexed Int t x v s = absurd s.count
cooked_lexed Float t x v s = absurd s.count
cooked_lexed BoolKind t x v s = absurd s.count

each_raw_lexed : (k : Kind) (t x : List ℕ) (v : Contents) → StrictRaw t k v x → LexedBefore EndsLiteral t
each_raw_lexed Str t x v s = raw_lexed Str NoPrefix t x v s s.text
each_raw_lexed ByteStr t x v s = raw_lexed ByteStr BytePrefix t x v s s.text
each_raw_lexed CStr t x v s = raw_lexed CStr CPrefix t x v s s.text
each_raw_lexed Byte t x v s = absurd s.allowed
each_raw_lexed Char t x v s = absurd s.allowed
each_raw_lexed Int t x v s = absurd s.allowed
each_raw_lexed Float t x v s = absurd s.allowed
each_raw_lexed BoolKind t x v s = absurd s.allowed

-- A string, byte string, C string, byte or character by Rust's grammar, raw or not, is one lexeme before each text that
-- may follow a literal.
pub quoted_lexed : (k : Kind) (t x : List ℕ) (v : Contents) → (StrictCooked t k v x ⊎ StrictRaw t k v x)
    → LexedBefore EndsLiteral t
quoted_lexed k t x v (inl s) = cooked_lexed k t x v s
quoted_lexed k t x v (inr s) = each_raw_lexed k t x v s
