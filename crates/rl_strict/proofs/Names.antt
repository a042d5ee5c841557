-- Re-exports the names that many proof files of this crate use, and those of `Common` of `rl_syntax`.
unfoldable pub use Rattle.rl_lenient.proofs.CodeDigitLemmas.{unicode_digits_at}
pub use Rattle.rl_lenient.proofs.CodeDigitLemmas.{below_six, digit_apart, unicode_is}
pub use Rattle.rl_lenient.proofs.CutLemmas.{some_text, tail_chars}
pub use Rattle.rl_lenient.proofs.FloatLemmas.{letter_no_dot, run_first}
pub use Rattle.rl_lenient.proofs.FormLemmas.{cooked_found, front_complete, front_sound, no_front, not_both, single_found}
pub use Rattle.rl_lenient.proofs.FoundLemmas.{OfUnit, body_text, form_at, quoted_found}
pub use Rattle.rl_lenient.proofs.IntegerLemmas.{based, begins_is, chosen_some, hex_stops, not_based, within_reads}
pub use Rattle.rl_lenient.proofs.Names.{Apostrophe, AsciiEscape, Backslash, Base, Binary, BoolKind, Byte, ByteEscape, ByteStr, CStr, Char, Contents, Continuation, CrLf, Decimal, Digits, Float, HasContents, HasNoReading, HasNoTruth, HasReading, Hex, Hexadecimal, Int, IntReads, IsAfterPrefix, IsPast, IsScalar, IsStrictSuffix, IsTail, IsUnit, Itself, Kind, Letter, LineBreak, LowerN, LowerR, LowerT, Marks, Named, NoSign, Octal, Plain, PlainEscape, Quote, QuoteEscape, QuotedUnit, Reads, Sign, Str, StrictUnit, Unicode, UnicodeEscape, after_run, allows_code, and_right, append_cancel_left, byte_len, cond_both, content_of, drop-append_seam, false_from_ne_true, first_passes, flat_map-append, fraction_text, allows_unicode_escapes, hex_value, decodes_to_chars, is_ascii_other, is_dropped_blank, is_exponent_letter, is_hash, is_hex_digit, is_line_end, is_other, is_plain, is_raw, is_run_part, is_single, is_strict_unit, is_string, is_underscore, le-ltb, letter_text, letter_value, limit, may_be_hex, opener, place_value, pow-suc, prefix, quoted_contents, radix, raw_opener, sign_text, strict_content_of, strict_contents, strict_text, texts, truth_text, unit_text, values, without_underscores, ◌↔◌}
pub use Rattle.rl_lenient.proofs.OpenerLemmas.{only_quoted, word_has_none}
pub use Rattle.rl_lenient.proofs.PlaceLemmas.{opened, placed}
pub use Rattle.rl_lenient.proofs.ReadingLemmas.{front_not_quoted, no_front_number, no_reading, only_number}
pub use Rattle.rl_lenient.proofs.RunLemmas.{run_all, run_ends, run_join, run_past}
pub use Rattle.rl_lenient.proofs.SingleBodies.{no_unit, unit_one}
pub use Rattle.rl_lenient.proofs.StrictBackLemmas.{Back, HasStrictUnits, hex_escape, named_escape, plain_is_bare, unicode_escape}
pub use Rattle.rl_lenient.proofs.StrictBytesLemmas.{blanks_cons, line_allowed, no_break_ends}
pub use Rattle.rl_lenient.proofs.TestLemmas.{all_breaks, front_passes, goes_on, passes_more}
pub use Rattle.rl_lenient.proofs.UnitLemmas.{backslash_not_plain, holds_more, two_digits, unicode_sound, unit_complete, unit_nil, unit_sound}
pub use Rattle.rl_lenient.specs.Forms.{HasNoParts, form_opener, has_form, is_plain_body}
pub use Rattle.rl_lenient.specs.Founds.{IsBodyWithin, IsFound, IsQuotedAt, body_in, suffix_in}
unfoldable pub use Rattle.rl_lenient.specs.Mirrors.NumberAt.{radix_at, run}
pub use Rattle.rl_lenient.specs.Mirrors.NumberAt.{after_digits, after_minus, after_power_sign, digit_run_at, has_digit_at, has_value, magnitude_at, radix_of}
unfoldable pub use Rattle.rl_lenient.specs.Mirrors.OpenerAt.{opener_at}
pub use Rattle.rl_lenient.specs.Mirrors.OpenerAt.{FoundOpener, byte_opener_at, found_opener, string_opener_at}
pub use Rattle.rl_lenient.specs.Mirrors.PlainAt.{is_some_text}
unfoldable pub use Rattle.rl_lenient.specs.Mirrors.UnitAt.{code_digits_at, escape_at, hex_at, unicode_at, unit_at}
pub use Rattle.rl_lenient.specs.Mirrors.UnitAt.{CodeDigits, after_blanks, brace_at, close_at, closed_at, code_digits, digit_at, first_code_digits_at, found, line_feed_at, named_at, named_in, number_if, piece_value}
pub use Rattle.rl_lenient.specs.StrictUnits.{BeginsStrictUnit, BeginsStrictUnits, BreakEnds, BreaksEnd, HasNoStrictUnit}
pub use Rattle.rl_lenient.specs.WholeShapes.{is_number_front}
pub use Rattle.rl_lenient.specs.declared.found.Body.{Body}
pub use Rattle.rl_lenient.specs.declared.quoted_forms.QuotedForm.{QuotedForm}
pub use Rattle.rl_lenient.specs.declared.quoted_forms.QuotedForm.TheVariants.{Cooked as CookedForm, Raw as Form, Raw as RawForm, Single as SingleForm}
pub use Rattle.rl_lexer.proofs.CutLemmas.{byte_len-append}
pub use Rattle.rl_lexer.proofs.HashLemmas.{hashes_past}
pub use Rattle.rl_lexer.proofs.LexemeFound.{run_found, suffix_found}
pub use Rattle.rl_lexer.proofs.LexemeRows.{neither_true, not_among}
pub use Rattle.rl_lexer.specs.Sources.{BadQuoteToken, BeginsProper, IsSource, PlainToken, is_apostrophe}
pub use Rattle.rl_strict.specs.FileTexts.{ExplainsInFile, ExplainsSignedInFile, ExplainsSignedValueInFile, ExplainsValueInFile, IsPlaceInFile}
pub use Rattle.rl_strict.specs.FlawKinds.{AfterBrace, AfterDigits, AsItIs, AtBrace, AtSixth, ByDigits, ByLetter, ByNumber, FirstDigit, HasNoCode, IsBraced, IsNoCode, IsUnopened, SecondDigit, UnitFlaw, digit_count, is_quote, number_of}
pub use Rattle.rl_strict.specs.Flaws.{HasKind, IsCompletable, IsPlaced, StopsBefore, first_len}
pub use Rattle.rl_strict.specs.Limits.{ExplainsLimit, ExplainsValue, IsFloatBySuffix, IsFloatSuffix, IsLimitFlaw, suffix_at_if_above_128_bits}
pub use Rattle.rl_strict.specs.LineEnds.{IsRestOf, StopsAsRead, StopsIn, drops, is_dropped, is_seam, lf_text, read_of}
unfoldable pub use Rattle.rl_strict.specs.Mirrors.NumberRead.{based_read_at, digits_end_at, fraction_end_at, number_read_at, power_end_at, suffix_end_at, whole_read_at}
pub use Rattle.rl_strict.specs.Mirrors.NumberRead.{Ending, NumberRead, as_float, as_integer, ended, number_outcome, stopped}
unfoldable pub use Rattle.rl_strict.specs.Mirrors.StrictAt.{ends_raw, is_strict_suffix, unit_rest}
pub use Rattle.rl_strict.specs.Mirrors.StrictAt.{ends_quoted, escape_rest, is_inside, is_number_suffix, is_raw_character}
unfoldable pub use Rattle.rl_strict.specs.Mirrors.StrictFlawAt.{raw_stop, strict_escape_flaw_at, strict_unit_flaw_at, suffix_rest}
pub use Rattle.rl_strict.specs.Mirrors.StrictFlawAt.{begins_hash, raw_character_flaw_of, suffix_end_flaw_at}
unfoldable pub use Rattle.rl_strict.specs.Mirrors.SuffixRead.{suffix_read_at}
pub use Rattle.rl_strict.specs.Mirrors.SuffixRead.{is_lone_underscore, suffix_end_read}
pub use Rattle.rl_syntax.specs.Mirrors.RunsAt.{is_ascii_id_continue}
unfoldable pub use Rattle.rl_strict.specs.Mirrors.UnitFlawAt.{escape_flaw_at, first_digit_flaw_at, hex_flaw_at, unicode_flaw_at}
pub use Rattle.rl_strict.specs.Mirrors.UnitFlawAt.{FoundFlaw, character_flaw_of, code_flaw_at, code_flaw_of, found_flaw, is_code, low_digit_flaw_at, spoiled_flaw_of, unclosed_flaw_at}
unfoldable pub use Rattle.rl_strict.specs.Mirrors.WordFlawAt.{word_flaw_at}
pub use Rattle.rl_strict.specs.Mirrors.WordFlawAt.{after_letters, end_flaw_at}
pub use Rattle.rl_strict.specs.OneFlaw.{HasOneFlaw, IsExplainedOnce}
pub use Rattle.rl_strict.specs.Readings.{ExplainsOf, ExplainsValueOf, HasValueOf, IsFlawOf, IsPlaceAfter, IsReadingInFile, IsReadingOf, IsRestPlace, IsTokenIf, ReadsOf, SaysOf, lf_bytes, plain_of}
pub use Rattle.rl_strict.specs.SignedFlaws.{ExplainsSigned, IsMinusFlawOf, IsSignedFlawOf, IsSignedToken, LacksNumber}
pub use Rattle.rl_strict.specs.StrictFlawKinds.{ClosedFlaw, HasStrictQuotedFlaw, IsClosed, IsOpen, OpenFlaw, StrictCloserFlaw, StrictQuotedFlaw, StrictRawFlaw, StrictUnitFlaw, SuffixFlaw, form_quote, goes_on_with_suffix, is_raw_form, is_suffix_front, suffix_piece}
pub use Rattle.rl_strict.specs.StrictFlaws.{ExplainsStrictly, IsStrictFlawOf}
pub use Rattle.rl_strict.specs.StrictNumberFlaws.{BeginsWord, EndsInPower, IsBasedRun, IsDigitFlaw, IsStrictFraction, IsStrictNumberFlaw, IsStrictWordFlaw, IsWordFlaw, is_float_mark}
pub use Rattle.rl_strict.specs.StrictNumbersRead.{IsFloatRead, IsIntegerRead, IsNumberRead, IsStop, suffix_of}
pub use Rattle.rl_strict.specs.StrictRead.{IsFlawAt, IsMinusStop, IsSignedRead, IsStrictReading, placed_in}
pub use Rattle.rl_strict.specs.StrictShapes.{ClosesForm, ClosesInside, ClosesRaw, ClosesUnits, IsToken}
pub use Rattle.rl_strict.specs.declared.flaws.Flaw.{Flaw}
pub use Rattle.rl_strict.specs.declared.flaws.FlawKind.{FlawKind}
pub use Rattle.rl_strict.specs.declared.flaws.FlawKind.TheVariants.{BadSuffix, BasedFloat, CarriageReturn, Empty, EmptyBraces, ExtraHash, HexEscapeOutOfRange, InvalidDigit, Minus, MustEscape, NoBrace, NoCharacter, NoDigits, NoExponentDigit, NoFractionDigit, NoHexDigit, NoNumber, NoQuote, NoUnicode, NotALiteral, NotAscii, Nul, Surrogate, TextAfterQuote, TooManyDigits, TooManyHashes, TwoCharacters, Unclosed, UnderscoreSuffix, UnexpectedEnd, UnicodeEscapeOutOfRange, UnknownEscape}
pub use Rattle.rl_strict.specs.declared.line_ends.LineEnds.{LineEnds}
pub use Rattle.rl_strict.specs.declared.line_ends.LineEnds.TheVariants.{File, Text}
pub use Rattle.rl_strict.specs.declared.read_numbers.Number.{Number}
pub use Rattle.rl_strict.specs.declared.read_numbers.Number.TheVariants.{Float as AFloatNumber, Integer as AnInteger}
pub use Rattle.rl_strict.specs.declared.strict_reading.Reading.{Reading}
pub use Rattle.rl_strict.specs.declared.strict_reading.Reading.TheVariants.{Float as AFloat, Integer, Text as AText, Truth, Unit}
pub use Rattle.rl_syntax.proofs.Basics.{all_same, all_weaker, any_same, apart, digit_is_ten, hex_is_sixteen, passes_same, word_without}
pub use Rattle.rl_syntax.proofs.Common.{AllByRecursion, Bool, Bor, Err, IfNone, IfOk, IfSome, IsAscii, IsCharBoundary, IsCharBoundary-start, IsTrue, IsUtf8, IsUtf8-take, List, None, Ok, Option, Result, Some, Utf8, [], agree_below_at, and_from, and_parts, ap, append-nil, append_assoc, append_cancel_right, arith, both_ways, cases_Bool, cases_lt, chars-IsAscii, chars_from_encodes, codes, common_steps, cond, digit_value, drop, encode_utf8, encode_utf8_all, encodes-append, encodes-chars, eq-eqb, eqb, eqb-true, false, flat_map, get_or, if◌then◌else◌, inl, inr, is_ascii, is_ascii_alphabetic, is_ascii_digit, is_ascii_hexdigit, is_xid_continue, is_xid_continue-ascii, is_xid_start, is_xid_start-ascii, leb, length, list_all, list_all-append, list_any, lit<, lt-ltb, ltb, ltb-false, ltb-true, nat_lt, nat_tests, ne_eqb, not, not-true, not_from_false, option_and_then, option_map, or_cases, or_from, or_left, or_parts, or_right, refl, replicate, rules, scalar, shadow, subst, suc, sym, take, true, zero, ℕ, ⊤, ◌%◌, ◌&&◌, ◌*◌, ◌++◌, ◌+◌, ◌-◌, ◌/◌, ◌<◌, ◌==◌, ◌^◌, ◌||◌, ◌∙◌, ◌∷◌, ◌≡◌, ◌≢◌, ◌≤◌, ◌⊎◌}
pub use Rattle.rl_syntax.proofs.OneNumber.{begins_number, float_front, int_front, int_once}
pub use Rattle.rl_syntax.proofs.Rests.{tail_drop, tail_length}
pub use Rattle.rl_syntax.proofs.StrictNumbers.{begins_front, digit_front as number_front, float_strict_reads, foreign_dot, letter_no_part, minus_int, no_part, signed_float, strict_float, strict_int, suffix_no_part, suffix_of_strict, suffix_without}
pub use Rattle.rl_syntax.proofs.StrictQuoted.{MayFollow, between, blanks_after, is_return, no_blank, no_return, one_unit, stands}
pub use Rattle.rl_syntax.proofs.TailLemmas.{cut_boundary, cut_chars, cut_drop, ok_tail, some_tail, tail_step}
pub use Rattle.rl_syntax.specs.Numbers.{AllowsSuffix, exponent_text, is_power_sign, capped}
unfoldable pub use Rattle.rl_syntax.specs.Strict.{dec}
pub use Rattle.rl_syntax.specs.Strict.{BasedPrefix, BlanksEnd, HasUnits, IsDecimalText, IsDigits, IsDotAlone, IsNumberSuffix, IsPointed, IsRawInside, IsScientific, IsStrictExponent, Strict, StrictCooked, StrictFloat, StrictInt, StrictRaw, is_allowed_in_single_quotes, is_plain_letter, strict_closer, strict_opener, strict_raw_opener}
pub use Rattle.rl_syntax.specs.Texts.{IsWord, begins, is_among, is_continue, is_start, is_white}
pub use Rattle.std.proofs.Math.Bool.{and-false}
pub use Rattle.std.proofs.Math.Nat.{pow-le-pow_right, pow-succ'}
pub use Rattle.std.proofs.lemmas.Bool.{and_left, le-leb, leb-false, lt-leb}
pub use Rattle.std.proofs.lemmas.List.{length-append, length-drop}
pub use Rattle.std.proofs.lemmas.Result.{IfErr-at_err, IfOk-at_ok}
pub use Rattle.std.proofs.lemmas.Str.{length-le-encodes, scalars-chars}
pub use Rattle.std.specs.Option.{is_some}
pub use Rattle.std.specs.Prelude.{IfErr, is_ok}
unfoldable pub use Rattle.std.specs.Str.{chars}
