-- After a flaw before the closing quote of a character or byte literal, the literal's suffix may have another flaw.
use Rattle.rl_flaws.proofs.Names.{◌≡◌, ◌+◌, ℕ, Bool, Bor, true, false, List, [], ◌∷◌, ◌++◌, codes, None, Some, drop, length, refl, sym, ap, subst, inr, ◌∙◌, append_assoc, both_ways, IsUtf8, chars, first_passes, Byte, Char, Itself, Kind, is_single, is_strict_unit, opener, SingleForm, is_apostrophe, is_equal, IsRestOf, read_of, FlawAt, FlawKind, LineEnds, unit_rest, suffix_read_at, found_flaw, suffix_piece, IsFlawAt, IsToken, free_of, step_in, suffix_in, unit_rest_complete, quote_read, single_bad, single_good, piece_place, after_bad_piece, is_flaw_of_unit, EndsWhere, HasNoFlaw, ReadsFrom, TakesFlaw, state_of, InvalidPiece, Closed, Nothing, close_token}
use Rattle.rl_flaws.proofs.PlaceLemmas.{place_at, place_in}
use Rattle.rl_flaws.proofs.WalkLemmas.{flaw_after, no_unit_suffix}

-- ---- the closing quote of the literal, and the text after it

pub begins_quote : (t : List ℕ) → first_passes is_apostrophe t ≡ true → t ≡ 39 ∷ drop 1 t
begins_quote [] h = absurd (both_ways false refl h)
begins_quote (c ∷ cs) h = ap (λ z. z ∷ cs) (is_equal c 39 h)

-- A character or byte literal may contain the character `x` (code 120). So if `x` precedes a text, the parser consumes `x`,
-- and the text remains.
good_unit : (k : Kind) (closing : List ℕ) → is_single k ≡ true → unit_rest k (120 ∷ closing) ≡ Some closing
good_unit k closing s = unit_rest_complete k (Itself 120) closing (good k s) tt
  where
    good : (k : Kind) → is_single k ≡ true → is_strict_unit k (Itself 120) ≡ true
    good Byte s = refl
    good Char s = refl
    good k s = absurd (both_ways false refl s)

after_opener : (how : LineEnds) (k : Kind) (closing : List ℕ)
    → (opener k ++ codes "x") ++ read_of how closing ≡ opener k ++ read_of how (120 ∷ closing)
after_opener how k closing = append_assoc (opener k) (120 ∷ []) (read_of how closing)
    ∙ ap (λ z. opener k ++ z) (sym (free_of how (120 ∷ []) closing refl))

closed_flaw : (how : LineEnds) (k : Kind) (closing suffix : List ℕ) (f : FlawAt) → is_single k ≡ true
    → closing ≡ 39 ∷ suffix → Some (found_flaw f.kind (chars f.rest.now)) ≡ suffix_read_at SingleForm suffix
    → chars f.piece.now ≡ suffix_piece f.kind closing suffix
    → IsFlawAt ((opener k ++ codes "x") ++ read_of how closing) f.kind (read_of how (chars f.piece.now))
    (read_of how (chars f.rest.now))
closed_flaw how k closing suffix f s quote flaw piece =
    flaw_after how SingleForm k f.kind ((opener k ++ codes "x") ++ read_of how closing) (read_of how (120 ∷ closing))
    (120 ∷ closing) (chars f.piece.now) (chars f.rest.now) s (after_opener how k closing)
    (single_bad how k (120 ∷ closing) closing suffix f s (good_unit k closing s) quote flaw piece)

pub closed_token : (how : LineEnds) (k : Kind) (closing suffix : List ℕ) → is_single k ≡ true
    → closing ≡ 39 ∷ suffix → None ≡ suffix_read_at SingleForm suffix
    → IsToken ((opener k ++ codes "x") ++ read_of how closing)
closed_token how k closing suffix s quote none =
    close_token SingleForm k ((opener k ++ codes "x") ++ read_of how closing) (read_of how (120 ∷ closing)) s
    (after_opener how k closing)
    (single_good how k (120 ∷ closing) closing suffix s (good_unit k closing s) quote none)

-- ---- the piece and the flaw of the suffix begin inside the unchecked text

pub closed_piece : (how : LineEnds) (closing suffix piece : List ℕ) (k : FlawKind) → closing ≡ 39 ∷ suffix
    → piece ≡ suffix_piece k closing suffix → IsRestOf how closing piece
closed_piece how closing suffix piece k quote is =
    subst (IsRestOf how closing) (sym is) (piece_place how k closing suffix (quote_read how closing suffix 39 quote refl).1)

pub closed_stop : (how : LineEnds) (closing suffix : List ℕ) (f : FlawAt) → closing ≡ 39 ∷ suffix → Some (found_flaw
    f.kind (chars f.rest.now)) ≡ suffix_read_at SingleForm suffix → IsRestOf how closing (chars f.rest.now)
closed_stop how closing suffix f quote flaw =
    step_in how closing suffix (chars f.rest.now) (quote_read how closing suffix 39 quote refl).1
    (suffix_in how SingleForm suffix (found_flaw f.kind (chars f.rest.now)) flaw)

-- ---- the flaw that the cursor returns for the suffix

no_unit_end : (u : Bool) (GoesOnAt : ℕ → Type 0) (hi end : ℕ) → (u ≡ true → ⊥) → EndsWhere u GoesOnAt hi end → end ≡ hi
no_unit_end true GoesOnAt hi end none e = absurd (none refl)
no_unit_end false GoesOnAt hi end none e = e

pub closed_takes : (how : LineEnds) (k : Kind) (closing : Bor (List ℕ)) (suffix : List ℕ) (len q : ℕ) (f : FlawAt) (bad
    : InvalidPiece) → is_single k ≡ true → chars closing.now ≡ 39 ∷ suffix → IsUtf8 f.piece.now → IsUtf8 f.rest.now →
    Some (found_flaw f.kind (chars f.rest.now)) ≡ suffix_read_at SingleForm suffix → chars f.piece.now ≡ suffix_piece
    f.kind (chars closing.now) suffix → bad.flaw.kind ≡ f.kind → bad.flaw.from + length f.piece.now ≡ len → bad.flaw.lo
    + length f.rest.now ≡ len → ReadsFrom how len (chars f.rest.now) (drop 1 (read_of how (chars f.rest.now)))
    bad.flaw.hi → EndsWhere (is_flaw_of_unit bad.flaw.kind) (ReadsFrom how len (chars f.piece.now) (after_bad_piece q
    (read_of how (chars f.piece.now)))) bad.flaw.hi bad.end → TakesFlaw (state_of how len (Closed k closing)) bad
    (state_of how len Nothing)
closed_takes how k closing suffix len q f bad s quote up ur flaw piece kind from lo hi end =
    let text : List ℕ = chars closing.now in
    let read : List ℕ = read_of how (chars f.piece.now) in
    let stop : List ℕ = read_of how (chars f.rest.now) in
    let piece_there = closed_piece how text suffix (chars f.piece.now) f.kind quote piece in
    let stop_there = closed_stop how text suffix f quote flaw in
    record {
      some_left = refl;
      piece = read;
      is_bad = record {
        stop = stop;
        flaw = subst (λ z. IsFlawAt ((opener k ++ codes "x") ++ read_of how text) z read stop) (sym kind)
            (closed_flaw how k text suffix f s quote flaw piece);
        from = place_at how len text f.piece.now read bad.flaw.from up piece_there refl from;
        lo = place_at how len text f.rest.now stop bad.flaw.lo ur stop_there refl lo;
        hi = place_in how len text (chars f.rest.now) (drop 1 stop) bad.flaw.hi stop_there hi;
        end = no_unit_end (is_flaw_of_unit bad.flaw.kind) (ReadsFrom how len (chars f.piece.now) (after_bad_piece q read))
            bad.flaw.hi bad.end (λ u. no_unit_suffix SingleForm suffix f flaw (ap is_flaw_of_unit (sym kind) ∙ u)) end;
      };
      left = refl;
      same = record { same_ends = refl; same_len = refl };
    }

pub closed_none : (how : LineEnds) (k : Kind) (closing : Bor (List ℕ)) (suffix : List ℕ) (len : ℕ) → is_single k ≡ true
    → chars closing.now ≡ 39 ∷ suffix → None ≡ suffix_read_at SingleForm suffix
    → HasNoFlaw (state_of how len (Closed k closing)) (state_of how len Nothing)
closed_none how k closing suffix len s quote none = record {
  none = inr (closed_token how k (chars closing.now) suffix s quote none);
  over = refl;
  same = record { same_ends = refl; same_len = refl };
}
