-- The flaw that the cursor returns is the one that the definitions describe.
use Rattle.rl_flaws.proofs.Names.{◌≡◌, ◌≢◌, ◌⊎◌, ◌≤◌, ◌<◌, ◌+◌, ◌&&◌, ℕ, Bool, Bor, true, false, not, List, [], ◌++◌, codes, Some, drop, length, length-append, refl, sym, ap, subst, inl, inr, ◌∙◌, arith, and_parts, both_ways, IsUtf8, chars, byte_len, Kind, is_single, is_string, opener, QuotedForm, CookedForm, RawForm, SingleForm, IsRestOf, read_of, FlawAt, LineEnds, IsFlawAt, FlawKind, IsBadPiece, step_in, after_bad_piece, is_flaw_after_quote, is_flaw_of_unit, EndsWhere, FollowsCharacterOf, FollowsPieceOf, IsLeftBy, IsNeverClosed, ReadsFrom, TakesFlaw, left_count, FollowsCharacter, FollowsPiece, IsLeft, IsLeftAfter, StaysOpen, state_of, HasForm, IsOpened, front_of, opened_front, InvalidPiece, Left, Inside, Closed, Nothing, Opened}
use Rattle.rl_syntax.specs.Written.{closer}
use Rattle.rl_flaws.proofs.EndLemmas.{less_after}
use Rattle.rl_flaws.proofs.PlaceLemmas.{ends_in, place_at, place_in}
use Rattle.rl_strict.proofs.ReadQuoted.{not_string}

-- ---- the state of a cursor inside a literal

len_of : (how : LineEnds) (len : ℕ) (left : Left) → (state_of how len left).len ≡ len
len_of how len (Inside o rest) = refl
len_of how len other = refl

ends_of : (how : LineEnds) (len : ℕ) (left : Left) → (state_of how len left).ends ≡ how
ends_of how len (Inside o rest) = refl
ends_of how len other = refl

open_left : (how : LineEnds) (o : Opened) (rest : Bor (List ℕ)) (len : ℕ) (piece : List ℕ) (left : Left)
    → IsRestOf how (chars rest.now) (chars piece) → FollowsPiece how o piece left
    → FollowsPieceOf (state_of how len (Inside o rest)) (read_of how (chars piece)) (state_of how len left)
open_left how o rest len piece Nothing r f = absurd f
open_left how o rest len piece (Closed k t) r f = absurd f
open_left how o rest len piece (Inside p after) r f = record {
  rest_in = step_in how (chars rest.now) (chars piece) (chars after.now) r f.2;
  reads = f.1;
  same_kind = ap (λ (z : Opened). Some z.kind) f.0;
  same_front = ap opened_front f.0;
  some_left = refl;
}

-- ---- the unchecked text after a flaw, as two tests of the code determine it

-- ---- the flaws of a character or byte literal

-- For a character or byte literal, the text before the content is only the opening delimiter, without hashes.
single_front : (form : QuotedForm) (k : Kind) (h : List ℕ) → is_single k ≡ true → HasForm form k h
    → front_of form k h ≡ opener k
single_front CookedForm k h s has = refl
single_front SingleForm k h s has = refl
single_front RawForm k h s has = absurd (both_ways (is_string k) (not_string k s) has.0)

single_left : (how : LineEnds) (o : Opened) (rest : Bor (List ℕ)) (len : ℕ) (left : Left) → IsOpened o → is_single
    o.kind ≡ true → FollowsCharacter how o.kind rest.now left → FollowsCharacterOf (state_of how len (Inside o rest))
    (state_of how len left) ⊎ IsNeverClosed (state_of how len (Inside o rest)) (state_of how len left)
single_left how o rest len (Inside p t) opens s f = absurd f
single_left how o rest len Nothing opens s f = inr (f, refl)
single_left how o rest len (Closed k t) opens s f = inl (record {
  rest_in = f.2;
  closed = f.1;
  no_kind = refl;
  front_is = ap (λ z. opener z ++ codes "x") f.0
      ∙ ap (λ z. z ++ codes "x") (sym (single_front o.form o.kind (chars o.hashes.now) s opens));
  some_left = refl;
})

-- The end of the piece of a flaw inside a literal.
pub inside_end : (how : LineEnds) (len q hi end : ℕ) (o : Opened) (text piece : List ℕ) (u : Bool) → IsRestOf how text
    piece → q ≡ closer o.kind → EndsWhere u (ReadsFrom how len piece (after_bad_piece q (read_of how piece))) hi end
    → EndsWhere u (ReadsFrom how len text (after_bad_piece (closer o.kind) (read_of how piece))) hi end
inside_end how len q hi end o text piece u piece_in quote e =
    ends_in how len text piece (after_bad_piece (closer o.kind) (read_of how piece)) hi end u piece_in
    (subst (λ z. EndsWhere u (ReadsFrom how len piece (after_bad_piece z (read_of how piece))) hi end) quote e)

pub inside_bad : (how : LineEnds) (o : Opened) (rest : Bor (List ℕ)) (len q : ℕ) (found : FlawAt) (bad : InvalidPiece)
    → IsUtf8 found.piece.now → IsUtf8 found.rest.now → IsRestOf how (chars rest.now) (chars found.piece.now) → IsRestOf
    how (chars rest.now) (chars found.rest.now) → IsFlawAt (opened_front o ++ read_of how (chars rest.now)) found.kind
    (read_of how (chars found.piece.now)) (read_of how (chars found.rest.now)) → q ≡ closer o.kind → bad.flaw.kind ≡
    found.kind → bad.flaw.from + length found.piece.now ≡ len → bad.flaw.lo + length found.rest.now ≡ len → ReadsFrom
    how len (chars found.rest.now) (drop 1 (read_of how (chars found.rest.now))) bad.flaw.hi → EndsWhere
    (is_flaw_of_unit bad.flaw.kind) (ReadsFrom how len (chars found.piece.now) (after_bad_piece q (read_of how (chars
    found.piece.now)))) bad.flaw.hi bad.end → IsBadPiece (state_of how len (Inside o rest)) bad (read_of how (chars
    found.piece.now))
inside_bad how o rest len q found bad up uz piece stop f quote kind from lo hi end =
    let text : List ℕ = chars rest.now in
    let read : List ℕ = read_of how (chars found.piece.now) in
    record {
      stop = read_of how (chars found.rest.now);
      flaw = subst (λ k. IsFlawAt (opened_front o ++ read_of how text) k read (read_of how (chars found.rest.now)))
          (sym kind) f;
      from = place_at how len text found.piece.now read bad.flaw.from up piece refl from;
      lo = place_at how len text found.rest.now (read_of how (chars found.rest.now)) bad.flaw.lo uz stop refl lo;
      hi = place_in how len text (chars found.rest.now) (drop 1 (read_of how (chars found.rest.now))) bad.flaw.hi stop
          hi;
      end = inside_end how len q bad.flaw.hi bad.end o text (chars found.piece.now) (is_flaw_of_unit bad.flaw.kind)
          piece quote end;
    }

pub inside_takes : (how : LineEnds) (o : Opened) (rest : Bor (List ℕ)) (len : ℕ) (piece : List ℕ) (kind : FlawKind) (bad
    : InvalidPiece) (left : Left) → IsRestOf how (chars rest.now) (chars piece) → bad.flaw.kind ≡ kind → IsBadPiece
    (state_of how len (Inside o rest)) bad (read_of how (chars piece)) → IsOpened o → IsLeftAfter (is_string o.kind &&
    is_flaw_of_unit kind) (is_single o.kind && not (is_flaw_after_quote kind)) how o rest.now piece left → TakesFlaw
    (state_of how len (Inside o rest)) bad (state_of how len left)
inside_takes how o rest len piece kind bad left piece_in same is_bad opens after = record {
  some_left = refl;
  piece = read_of how (chars piece);
  is_bad = is_bad;
  left = subst (λ k. IsLeftBy (is_string o.kind && is_flaw_of_unit k) (is_single o.kind && not (is_flaw_after_quote k))
      (state_of how len (Inside o rest)) (read_of how (chars piece)) (state_of how len left)) (sym same)
      (go (is_string o.kind && is_flaw_of_unit kind) (is_single o.kind && not (is_flaw_after_quote kind)) refl after);
  same = record { same_ends = ends_of how len left; same_len = len_of how len left };
}
  where
    go : (b d : Bool) → (is_single o.kind && not (is_flaw_after_quote kind)) ≡ d
        → IsLeftAfter b d how o rest.now piece left
        → IsLeftBy b d (state_of how len (Inside o rest)) (read_of how (chars piece)) (state_of how len left)
    go true d e h = open_left how o rest len piece left piece_in h
    go false true e h =
        single_left how o rest len left opens (and_parts (is_single o.kind) (not (is_flaw_after_quote kind)) e).0 h
    go false false e h = ap (λ z. (state_of how len z).over) h

pub inside_left : (how : LineEnds) (o : Opened) (rest : Bor (List ℕ)) (len : ℕ) (piece : List ℕ) (b single closed :
    Bool) (left : Left) → IsLeft len (Inside o rest) → length piece ≤ length rest.now → single ≡ is_single o.kind →
    IsLeftAfter b (single && closed) how o rest.now piece left → IsLeft len left
inside_left how o rest len piece false single closed left l t s after = go (single && closed) refl after
  where
    go : (d : Bool) → (single && closed) ≡ d → IsLeftAfter false d how o rest.now piece left → IsLeft len left
    go false e h = subst (IsLeft len) (sym h) tt
    go true e h = ends left h
      where
        ends : (left : Left) → FollowsCharacter how o.kind rest.now left → IsLeft len left
        ends (Inside p r) h = absurd h
        ends Nothing h = tt
        ends (Closed k r) h =
            let tail = h.3 in
            let n : length rest.now ≡ length tail.front + length r.now = ap length tail.text_is
            ∙ length-append tail.front r.now in (
              ap is_single h.0 ∙ sym s ∙ (and_parts single closed e).0,
              h.4,
              omega (arith, l.1, n),
              tail.is_text,
            )
inside_left how o rest len piece true single closed (Closed k r) l t s after = absurd after
inside_left how o rest len piece true single closed Nothing l t s after = absurd after
inside_left how o rest len piece true single closed (Inside p r) l t s f =
    let tail = f.3 in
    let b : length piece ≡ length tail.front + length r.now = ap length tail.text_is ∙ length-append tail.front r.now in
    let same : byte_len (opened_front p) ≡ byte_len (opened_front o) = ap (λ (z : Opened). byte_len (opened_front z))
    f.0 in (
      subst IsOpened (sym f.0) l.0,
      omega (arith, l.1, t, b, same),
      tail.is_text,
    )

pub stays_open : (how : LineEnds) (o : Opened) (rest piece : List ℕ) (b d : Bool) (left : Left)
    → IsLeftAfter b d how o rest piece left → StaysOpen o left
stays_open how o rest piece true d (Closed k r) f = tt
stays_open how o rest piece true d Nothing f = tt
stays_open how o rest piece true d (Inside p r) f = f.0
stays_open how o rest piece false true (Inside p r) f = absurd f
stays_open how o rest piece false true (Closed k r) f = tt
stays_open how o rest piece false true Nothing f = tt
stays_open how o rest piece false false left f = subst (StaysOpen o) (sym f) tt

-- With each flaw, the number `left_count` decreases, so the cursor comes nearer to its end.
pub inside_less : (how : LineEnds) (o : Opened) (rest : Bor (List ℕ)) (len : ℕ) (piece : List ℕ) (s u d : Bool) (left :
    Left) → length piece ≤ length rest.now → (u ≡ true → chars piece ≢ []) → IsLeftAfter (s && u) d how o rest.now piece
    left → left_count (state_of how len left) < left_count (state_of how len (Inside o rest))
inside_less how o rest len piece s u d left t some after = go (s && u) d left refl after
  where
    go : (b d : Bool) (l : Left) → (s && u) ≡ b → IsLeftAfter b d how o rest.now piece l
        → left_count (state_of how len l) < left_count (state_of how len (Inside o rest))
    go false false l e h = subst (λ (z : Left). left_count (state_of how len z)
        < left_count (state_of how len (Inside o rest))) (sym h) (omega arith)
    go false true (Inside p r) e h = absurd h
    go false true Nothing e h = omega arith
    go false true (Closed k r) e h =
        let tail = h.3 in
        let n : length rest.now ≡ length tail.front + length r.now = ap length tail.text_is
        ∙ length-append tail.front r.now in
        omega (arith, n)
    go true d (Closed k r) e h = absurd h
    go true d Nothing e h = absurd h
    go true d (Inside p r) e h =
        let less = less_after how (closer o.kind) piece r.now (some (and_parts s u e).1) h.1 h.3 in
        omega (arith, less, t)
