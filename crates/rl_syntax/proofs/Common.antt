-- Names of std and of the prover that most proofs cite. The file declares nothing.
pub use Rattle.std.proofs.Common.{Bool, Bor, Err, List, None, Ok, Option, Result, Some, [], ap, append-nil, append_assoc, ap₂, arith, cond, drop, eqb, false, get_or, inl, inr, leb, length, length-append, lit<, ltb, map, nat_le, not, refl, replicate, rules, slice_index, slice_range, string_bytes, subst, suc, sym, take, true, zero, ℕ, ◌%◌, ◌&&◌, ◌*◌, ◌++◌, ◌+◌, ◌-◌, ◌/◌, ◌<◌, ◌==◌, ◌^◌, ◌||◌, ◌∙◌, ◌∷◌, ◌≡◌, ◌≢◌, ◌≤◌, ◌⊎◌}
pub use Rattle.std.proofs.Math.Seq.{take-append_seam}
pub use Rattle.std.proofs.Math.Utf8.{scalar}
pub use Rattle.std.proofs.lemmas.Bool.{agree_below, agree_below_at, and_from, and_parts, both_ways, cases_Bool, cases_lt, eq-eqb, eqb-true, lt-ltb, ltb-false, ltb-true, ne_eqb, not-true, not_from_false, or_cases, or_from, or_left, or_parts, or_right}
pub use Rattle.std.proofs.lemmas.Bool.Decides.{nat_tests}
pub use Rattle.std.proofs.lemmas.Grind.{common_steps}
pub use Rattle.std.proofs.lemmas.List.{append_cancel_right, length-map, map-append, take-append-drop, take_all, take_more}
pub use Rattle.std.proofs.lemmas.List.Folds.{list_all-append}
pub use Rattle.std.proofs.lemmas.List.Sums.{prefix_len-le-length}
pub use Rattle.std.proofs.lemmas.Option.{none-some}
pub use Rattle.std.proofs.lemmas.Result.{IfErr-weaker, on_ok_weaker}
pub use Rattle.std.proofs.lemmas.Simd.{length-chunk, map-map, mask_l-mod, zip2_splat, zip2_splat_left}
pub use Rattle.std.proofs.lemmas.Str.{IsCharBoundary-after_ascii, IsCharBoundary-start, IsUtf8-drop, IsUtf8-nil, IsUtf8-string_bytes, IsUtf8-take, chars-IsAscii, chars-append, chars-nil, chars_from_encodes, chars_past_char, encode_ascii, encodes-append, encodes-chars, len_utf8_bounds, length-encode}
pub use Rattle.std.specs.Char.{digit_value, is_ascii, is_ascii_alphabetic, is_ascii_alphanumeric, is_ascii_digit, is_ascii_hexdigit}
pub use Rattle.std.specs.List.{AllByRecursion, flat_map, list_all, list_any, prefix_len}
pub use Rattle.std.specs.Option.{IfNone, IfSome, option_and_then, option_map}
pub use Rattle.std.specs.Prelude.{IsFalse, IsTrue, codes, encode_utf8, if◌then◌else◌, nat_lt, ⊤}
pub use Rattle.std.specs.Result.{IfOk}
unfoldable pub use Rattle.std.specs.Str.{chars}
pub use Rattle.std.specs.Str.{IsAscii, IsCharBoundary, IsUtf8, all_scalars, encode_utf8_all}
pub use Rattle.unicode_ident.proofs.IdentLemmas.{is_xid_continue-ascii, is_xid_start-ascii}
pub use Rattle.unicode_ident.specs.Ident.{is_xid_continue, is_xid_start}
pub use denote.Shadow.{shadow}
pub use denote.Text.{Utf8}
pub use lib.Bits.{bit_or}
pub use lib.Count.{count_trailing_zeros}
pub use lib.Lanes.{chunk, mask_l, top, zip2}
