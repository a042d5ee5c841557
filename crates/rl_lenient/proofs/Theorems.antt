-- The laws of src/laws.rt, as lemmas that callers can cite.
use Rattle.rl_lenient.specs.Laws.{BytesWithoutReturnsAreStrict, Utf8DecodingKeepsALeadingMinus, AFoundLiteralReads}
use Rattle.rl_lenient.proofs.StrictBytesLemmas.{bytes_are_strict}
use Rattle.rl_lenient.proofs.MinusLemmas.{minus_chars}
use Rattle.rl_lenient.proofs.ValueLemmas.{found_reads}

pub bytes_without_returns_are_strict : BytesWithoutReturnsAreStrict
bytes_without_returns_are_strict = bytes_are_strict

pub utf8_decoding_keeps_a_leading_minus : Utf8DecodingKeepsALeadingMinus
utf8_decoding_keeps_a_leading_minus = minus_chars

pub a_found_literal_reads : AFoundLiteralReads
a_found_literal_reads = found_reads
