-- Names that the proofs of this crate cite, and the names of `Common` of `rl_syntax`.
unfoldable pub use Rattle.rl_flaws.specs.BadPieces.{after_code_digits}
pub use Rattle.rl_flaws.specs.BadPieces.{after_bad_piece, after_brace, after_escape, after_hex, after_one, after_unicode, is_flaw_after_quote, is_flaw_of_unit}
pub use Rattle.rl_flaws.specs.Closings.{ClosesBy, IsClosedBy, ReachesQuote, begins_two_quotes}
pub use Rattle.rl_flaws.specs.Flawed.{AreFlawsOf, EndsWhere, FirstFlawExplains, FlawsState, FollowsCharacterOf, FollowsPieceOf, HasNoFlaw, HasOneNextFlaw, IsBadPiece, IsLeftBy, IsNeverClosed, IsOpener, LeftReadsFrom, ReadsFrom, TakesFlaw, TokensHaveNone, is_open, judged, left_count, quote_of}
pub use Rattle.rl_flaws.specs.Inside.{EndsRaw, IsInsideUpTo, IsRawUpTo, IsUnitUpTo, MayBeRaw}
pub use Rattle.rl_flaws.specs.Left.{FollowsCharacter, FollowsPiece, IsLeft, IsLeftAfter, IsSameLiteral, StaysOpen, state_of}
pub use Rattle.rl_flaws.specs.Looks.{LooksLike, LooksLikeOne, OpensNumber, OpensSingle, OpensString, SpellsTruth, TokenLooks, number_kind}
pub use Rattle.rl_flaws.specs.Opened.{HasForm, IsOpened, front_of, opened_front}
pub use Rattle.rl_flaws.specs.PiecesLeft.{ArePiecesLeft, IsGoodLeft, IsOpenAs, segments_at}
pub use Rattle.rl_flaws.specs.declared.flaws.Left.{Left}
pub use Rattle.rl_flaws.specs.declared.flaws.Left.TheVariants.{Closed, Inside, Nothing}
pub use Rattle.rl_flaws.specs.declared.invalid_piece.InvalidPiece.{InvalidPiece}
pub use Rattle.rl_flaws.specs.declared.walks.Opened.{Opened}
pub use Rattle.rl_lenient.proofs.Names.{AsciiEscape, BoolKind, Byte, ByteEscape, ByteStr, CStr, Char, Contents, Float, IfOk-weaker, Int, Itself, Kind, LineBreak, Plain, PlainEscape, QuoteEscape, QuotedUnit, Str, StrictUnit, UnicodeEscape, is_dropped_blank, is_single, is_strict_unit, is_string, opener, raw_opener, strict_text, truth_text, ◌↔◌}
pub use Rattle.rl_lexer.proofs.Pieces.{is_equal}
pub use Rattle.rl_strict.proofs.EndLemmas.{first_of, free_in, free_of, some_text_of, nil_of, self_in, step_in, suffix_in}
pub use Rattle.rl_strict.proofs.FileTextLemmas.{lacks_cr, rest_text}
pub use Rattle.rl_strict.proofs.FileUnits.{hashes_free}
unfoldable pub use Rattle.rl_strict.proofs.Names.{radix_at, raw_stop}
pub use Rattle.rl_strict.proofs.Names.{Base, BeginsStrictUnit, BeginsStrictUnits, Binary, BlanksEnd, BreaksEnd, CookedForm, Decimal, ExplainsInFile, ExplainsOf, ExplainsStrictly, FoundOpener, Hexadecimal, IfErr-at_err, IfOk-at_ok, IsAfterPrefix, IsDigits, IsDotAlone, IsFlawAt, IsPlaceInFile, IsPointed, IsRestOf, IsScientific, IsStrictExponent, IsStrictFlawOf, IsTail, IsToken, Octal, QuotedForm, RawForm, SingleForm, StopsAsRead, StopsBefore, Strict, StrictCooked, StrictFloat, StrictInt, StrictRaw, SuffixFlaw, after_digits, after_minus, all_same, apart, begins, begins_front, between, byte_len, byte_len-append, chars, digit_is_ten, exponent_text, first_len, first_passes, foreign_dot, form_opener, found_flaw, found_opener, fraction_text, front_complete, front_not_quoted, front_sound, has_form, is_apostrophe, is_exponent_letter, is_float_mark, is_hex_digit, is_raw_character, is_raw_form, is_run_part, is_seam, is_some_text, is_underscore, letter_no_part, lf_text, not_based, number_front, opener_at, passes_more, prefix, radix_of, read_of, run_past, strict_closer, strict_float, strict_int, strict_opener, strict_raw_opener, suffix_no_part, suffix_piece, suffix_read_at, suffix_without, tail_chars, tail_step, unit_rest, word_has_none}
pub use Rattle.rl_strict.proofs.OneStrictFlaw.{After, Before, Meets, Same, kinds_once, stops_once}
pub use Rattle.rl_strict.proofs.StrictLemmas.{close_token, truth_words}
pub use Rattle.rl_strict.proofs.StrictRowLemmas.{passes_front, quoted_single}
pub use Rattle.rl_strict.proofs.StrictUnitLemmas.{unit_rest_complete, unit_rest_sound}
pub use Rattle.rl_strict.proofs.WalkForms.{piece_place, quote_read, single_bad, single_good}
pub use Rattle.rl_strict.specs.declared.flaws.FlawAt.{FlawAt}
pub use Rattle.rl_strict.specs.declared.flaws.Flaw.{Flaw}
pub use Rattle.rl_strict.specs.declared.flaws.FlawKind.{FlawKind}
pub use Rattle.rl_strict.specs.declared.flaws.FlawKind.TheVariants.{CarriageReturn, EmptyBraces, HexEscapeOutOfRange, MustEscape, NoBrace, NoHexDigit, NoUnicode, NotAscii, Nul, Surrogate, TooManyDigits, UnicodeEscapeOutOfRange, UnknownEscape}
pub use Rattle.rl_strict.specs.declared.line_ends.LineEnds.{LineEnds}
pub use Rattle.rl_strict.specs.declared.line_ends.LineEnds.TheVariants.{File, Text}
pub use Rattle.rl_syntax.proofs.Common.{Bool, Bor, IfErr-weaker, IfNone, IfSome, IsUtf8, IsUtf8-nil, List, None, Option, Some, Utf8, [], and_from, and_parts, ap, append-nil, append_assoc, append_cancel_right, arith, both_ways, cases_Bool, chars-nil, codes, cond, drop, encode_utf8, encode_utf8_all, encodes-append, encodes-chars, eqb-true, false, flat_map, inl, inr, is_ascii_digit, len_utf8_bounds, length, length-append, length-encode, list_all, list_all-append, map, nat_lt, ne_eqb, not, not-true, or_from, or_right, refl, replicate, rules, shadow, subst, sym, true, ℕ, ◌&&◌, ◌++◌, ◌+◌, ◌-◌, ◌<◌, ◌==◌, ◌||◌, ◌∙◌, ◌∷◌, ◌≡◌, ◌≢◌, ◌≤◌, ◌⊎◌}
pub use Rattle.rl_syntax.specs.Numbers.{begins_base, is_digit}
