-- Names that most lemmas of this crate cite, in addition to those that `Common` of `rl_syntax` re-exports.
pub use Rattle.rl_syntax.specs.Classes.{after_run, is_hash}
pub use Rattle.rl_lexer.specs.Mirrors.LexemeAt.{hashes as hash_count}
pub use Rattle.rl_syntax.specs.Numbers.{Base, Binary, Decimal, Dot, FloatReads, Fraction, Hexadecimal, IntReads, IsAfterPrefix, IsFraction, IsSuffix, Minus, NoFraction, NoSign, Octal, Sign, float_digits, fraction_text, is_exponent_letter, limit, prefix, radix, sign_text}
pub use Rattle.rl_syntax.specs.Quoted.{Apostrophe, Backslash, Continuation, Cooked, CrLf, EndsBefore, Hex, IsUnit, Letter, LowerN, LowerR, LowerT, Named, Plain, Quote, QuotedUnit, Raw, Single, Unicode, Zero, allows_code, content_of, allows_unicode_escapes, hex_value, decodes_to_chars, is_hex_digit, is_line_end, is_plain, is_raw, is_single, is_string, letter_text, letter_value, may_be_hex, opener, raw_opener, texts, unicode_value, unit_text, unit_value, values}
pub use Rattle.rl_syntax.specs.Spelling.{place_value, without_underscores}
pub use Rattle.rl_syntax.specs.Texts.{is_blank, is_dropped_blank, IsTail, SpannedText, byte_len, first_passes, is_run_part, is_underscore, xid_ok}
pub use Rattle.rl_syntax.specs.Reading.{Bytes, Characters, Contents, Digits, HasContents, HasNoFloat, HasNoInteger, HasNoReading, HasNoTruth, HasReading, HasSuffix, IsPast, Reads, ReadsAs, ReadsQuoted, Truth, quoted_contents, truth_text}
pub use Rattle.rl_syntax.specs.Scanning.{is_ascii_other, is_other}
pub use Rattle.rl_syntax.specs.Strict.{AsciiEscape, ByteEscape, IsStrictSuffix, Itself, LineBreak, PlainEscape, QuoteEscape, StrictUnit, UnicodeEscape, is_strict_unit, strict_content_of, strict_contents, strict_text}
pub use Rattle.rl_syntax.specs.declared.kind.Kind.{Kind}
pub use Rattle.rl_syntax.specs.declared.kind.Kind.TheVariants.{Bool as BoolKind, Byte, ByteStr, CStr, Char, Float, Int, Str}
pub use Rattle.rl_syntax.specs.declared.scan.Marks.{Marks}
pub use Rattle.std.proofs.Math.Nat.{pow-suc}
pub use Rattle.std.proofs.Math.Seq.{drop-append_seam}
pub use Rattle.std.proofs.lemmas.Bool.{and_right, cond_both, false_from_ne_true, le-ltb}
pub use Rattle.std.proofs.lemmas.List.{append_cancel_left}
pub use Rattle.std.proofs.lemmas.List.Concat.{flat_map-append}
pub use Rattle.std.proofs.lemmas.Result.{IfOk-weaker}
pub use Rattle.std.specs.Char.{IsScalar}
pub use Rattle.std.specs.Fmt.{decimal}
pub use Rattle.std.specs.Prelude.{◌↔◌, MatchBool}
