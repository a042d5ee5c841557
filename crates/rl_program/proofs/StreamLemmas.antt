-- Lemmas about repeated reads and writes.
use Rattle.rl_syntax.proofs.Common.{List, None, Option, Some, [], ap, append-nil, append_assoc, arith, drop, length, refl, subst, sym, take, take-append-drop, take-append_seam, take_all, ℕ, ◌++◌, ◌-◌, ◌<◌, ◌∙◌, ◌≡◌}
use Rattle.std.proofs.Common.{length-drop}
use Rattle.std.specs.Prelude.{IfSome}
use Rattle.std.specs.Io.KnownBytes.{Appends, Consumes, IsAtEnd, Keeps}
use Rattle.std.proofs.KnownBytes.{Appends-trans, Appends-kept, Consumes-all, Consumes-trans}
use Rattle.rl_program.specs.Streams.{AppendsBeginning}

-- The invariant of the loop that writes bytes: a beginning of the bytes is written, and `rest` are the bytes after it.
pub record IsWritten (old new : Option (List ℕ)) (all rest : List ℕ) : Type 0 where
  pub front : List ℕ
  pub all_is : all ≡ front ++ rest
  pub appends : Appends old new front

-- The invariant of the loop that writes bytes holds again after one more write.
pub written_more : (a b c : Option (List ℕ)) (all rest piece left : List ℕ) → IsWritten a b all rest → Appends b c piece
    → rest ≡ piece ++ left → IsWritten a c all left
written_more a b c all rest piece left w p e = record {
  front = w.front ++ piece;
  all_is = w.all_is ∙ ap (λ z. w.front ++ z) e ∙ sym (append_assoc w.front piece left);
  appends = Appends-trans a b c w.front piece w.appends p;
}

-- If the next write fails, a beginning of the bytes has been written.
pub written_beginning : (a b c : Option (List ℕ)) (all rest : List ℕ) → IsWritten a b all rest → Keeps b c
    → AppendsBeginning a c all
written_beginning a b c all rest w k =
    let front : take (length w.front) all ≡ w.front = ap (take (length w.front)) w.all_is
    ∙ take-append_seam w.front rest in
    (length w.front, rw front (Appends-kept a b c w.front w.appends k))

-- A write of zero bytes leaves the written bytes unchanged.
pub none_kept : (a b : Option (List ℕ)) (bytes : List ℕ) (n : ℕ) → n ≡ 0 → Appends a b (take n bytes) → Keeps a b
none_kept None b bytes n e h = tt
none_kept (Some xs) None bytes n e h = h
none_kept (Some xs) (Some ys) bytes n e h = h ∙ ap (λ z. xs ++ take z bytes) e ∙ append-nil xs

-- A list consists of its first `n` elements and the slice from there to its end.
pub slice_rest : (n : ℕ) (xs : List ℕ) → xs ≡ take n xs ++ take (length xs - n) (drop n xs)
slice_rest n xs =
    let all : take (length xs - n) (drop n xs) ≡ drop n xs = take_all (length xs - n) (drop n xs)
    (omega (arith, length-drop n xs)) in
    rw all (sym (take-append-drop n xs))

-- If a call of the reader returns no bytes, all bytes of the reader have been read.
pub consumed_all : (a b d : Option (List ℕ)) (bytes buffer : List ℕ) (n : ℕ) → Consumes a b bytes → n ≡ 0
    → Consumes b d (take n buffer) × (n ≡ 0 → 0 < length buffer → IsAtEnd d) → 0 < length buffer
    → IfSome a (λ all. bytes ≡ all)
consumed_all a b d bytes buffer n w none turn room =
    let last : Consumes b d [] = subst (λ z. Consumes b d (take z buffer)) none turn.0 in
    let whole : Consumes a d (bytes ++ []) = Consumes-trans a b d bytes [] w last in
    Consumes-all a d bytes [] bytes (subst (λ z. Consumes a d z) (append-nil bytes) whole) (turn.1 none room) refl
