-- Byte offsets in a file, and in the text as rustc reads it.
use Rattle.rl_flaws.proofs.Names.{◌≡◌, ◌≤◌, ◌<◌, ◌+◌, ◌-◌, ℕ, true, List, [], ◌∷◌, ◌++◌, drop, length, length-append, refl, sym, ap, subst, ◌∙◌, arith, encode_utf8, encode_utf8_all, len_utf8_bounds, length-encode, byte_len, byte_len-append, IsPlaceInFile, first_len, is_seam, lf_text, LineEnds, Text, File, rest_text, After, Before, Meets, Same, ReadsFrom}
use Rattle.rl_strict.proofs.OneFileFlaw.{more_read, place_once, whole_seam}
use Rattle.rl_strict.proofs.OneStrictFlaw.{meets}

-- ---- the number of bytes of a text

pub first_bytes : (c : ℕ) (cs : List ℕ) → byte_len (c ∷ cs) ≡ length (encode_utf8 c) + byte_len cs
first_bytes c cs = length-append (encode_utf8 c) (encode_utf8_all cs)

some_bytes : (c : ℕ) (cs : List ℕ) → 0 < byte_len (c ∷ cs)
some_bytes c cs = omega (arith, first_bytes c cs, length-encode c, len_utf8_bounds c)

-- A text has as many bytes as its first character and the text after this character together.
pub after_first_bytes : (t : List ℕ) → byte_len t ≡ first_len t + byte_len (drop 1 t)
after_first_bytes [] = refl
after_first_bytes (c ∷ cs) = first_bytes c cs

pub first_parts : (t : List ℕ) → (front : List ℕ) × (t ≡ front ++ drop 1 t)
first_parts [] = ([], refl)
first_parts (c ∷ cs) = (c ∷ [], refl)

-- If one text is divided in two ways, and the first parts have equally many bytes, the second parts are equal.
pub cut_once : (f g p q : List ℕ) → f ++ p ≡ g ++ q → byte_len f ≡ byte_len g → p ≡ q
cut_once f g p q e same = go (meets f g p q e)
  where
    longer : (a b : List ℕ) (c : ℕ) (more : List ℕ) → b ≡ a ++ (c ∷ more) → byte_len a < byte_len b
    longer a b c more e = omega (arith, ap byte_len e, byte_len-append a (c ∷ more), some_bytes c more)

    go : Meets f g p q → p ≡ q
    go (Same a b) = b
    go (Before c more a b) = absurd (omega (arith, longer f g c more a, same))
    go (After c more a b) = absurd (omega (arith, longer g f c more a, same))

-- ---- a byte offset in a file is where an end of the text begins

pub rest_of_place : (t before read : List ℕ) (r at : ℕ) → IsPlaceInFile t r at → lf_text t ≡ before ++ read
    → r ≡ byte_len before → ReadsFrom File (byte_len t) t read at
rest_of_place t before read r at p cut is = record {
  rest = p.rest;
  rest_in = record {
    front = p.front;
    text_is = p.text_is;
    seam = whole_seam p.front p.rest (sym (ap lf_text p.text_is) ∙ p.whole);
  };
  reads = cut_once (lf_text p.front) before (lf_text p.rest) read (sym p.whole ∙ cut) (sym p.read_is ∙ is);
  at_is = omega (arith, p.at_is, ap byte_len p.text_is, byte_len-append p.front p.rest);
}

pub place_of_rest : (t read : List ℕ) (len at : ℕ) → len ≡ byte_len t → ReadsFrom File len t read at
    → IsPlaceInFile t (byte_len (lf_text t) - byte_len read) at
place_of_rest t read len at long p =
    let whole = rest_text t p.rest p.rest_in in
    let reads : byte_len (lf_text p.rest) ≡ byte_len read = ap byte_len p.reads in
    record {
      front = p.rest_in.front;
      rest = p.rest;
      text_is = p.rest_in.text_is;
      whole = whole;
      read_is = omega (arith, reads, ap byte_len whole, byte_len-append (lf_text p.rest_in.front) (lf_text p.rest));
      at_is = omega (arith, long, p.at_is, ap byte_len p.rest_in.text_is, byte_len-append p.rest_in.front p.rest);
    }

-- ---- byte offsets in a text in which CR LF isn't read as LF

pub rest_in_text : (t before read : List ℕ) (at : ℕ) → t ≡ before ++ read → at ≡ byte_len before
    → ReadsFrom Text (byte_len t) t read at
rest_in_text t before read at cut is = record {
  rest = read;
  rest_in = record { front = before; text_is = cut; seam = refl };
  reads = refl;
  at_is = omega (arith, is, ap byte_len cut, byte_len-append before read);
}

pub place_in_text : (t read : List ℕ) (len at : ℕ) → ReadsFrom Text len t read at → at + byte_len read ≡ len
place_in_text t read len at p = omega (arith, p.at_is, ap byte_len p.reads)

-- ---- a position has one byte offset

pub one_place : (how : LineEnds) (len : ℕ) (t r s : List ℕ) (a b : ℕ) → r ≡ s → ReadsFrom how len t r a
    → ReadsFrom how len t s b → a ≡ b
one_place Text len t r s a b e p q = omega (arith, place_in_text t r len a p, place_in_text t s len b q, ap byte_len e)
one_place File len t r s a b e p q =
    let x = place_of_rest t r (byte_len t) (byte_len p.rest_in.front) refl (front_place r a p) in
    let y = place_of_rest t s (byte_len t) (byte_len q.rest_in.front) refl (front_place s b q) in
    let same : byte_len p.rest_in.front ≡ byte_len q.rest_in.front = place_once t (byte_len (lf_text t) - byte_len r)
    (byte_len (lf_text t) - byte_len s) (byte_len p.rest_in.front) (byte_len q.rest_in.front)
    (ap (λ z. byte_len (lf_text t) - byte_len z) e) x y in
    omega (
      arith,
      p.at_is,
      q.at_is,
      same,
      ap byte_len p.rest_in.text_is,
      byte_len-append p.rest_in.front p.rest,
      ap byte_len q.rest_in.text_is,
      byte_len-append q.rest_in.front q.rest,
    )
  where
    front_place : (read : List ℕ) (at : ℕ) (p : ReadsFrom File len t read at)
        → ReadsFrom File (byte_len t) t read (byte_len p.rest_in.front)
    front_place read at p = record {
      rest = p.rest;
      rest_in = p.rest_in;
      reads = p.reads;
      at_is = omega (arith, ap byte_len p.rest_in.text_is, byte_len-append p.rest_in.front p.rest);
    }

-- ---- the offset of a character is at most the offset after the character

pub in_order : (t stop : List ℕ) (len lo hi : ℕ) → ReadsFrom File len t stop lo → ReadsFrom File len t (drop 1 stop) hi
    → lo ≤ hi
in_order t stop len lo hi p q = go (meets p.rest_in.front q.rest_in.front p.rest q.rest
    (sym p.rest_in.text_is ∙ q.rest_in.text_is))
  where
    long : (read : List ℕ) (at : ℕ) (x : ReadsFrom File len t read at)
        → byte_len (lf_text t) ≡ byte_len (lf_text x.rest_in.front) + byte_len read
    long read at x = ap byte_len (rest_text t x.rest x.rest_in) ∙ byte_len-append (lf_text x.rest_in.front) (lf_text
        x.rest) ∙ ap (λ z. byte_len (lf_text x.rest_in.front) + byte_len z) x.reads

    ends : (read : List ℕ) (at : ℕ) (x : ReadsFrom File len t read at) → at + byte_len t
        ≡ len + byte_len x.rest_in.front
    ends read at x = omega (arith, x.at_is, ap byte_len x.rest_in.text_is, byte_len-append x.rest_in.front x.rest)

    go : Meets p.rest_in.front q.rest_in.front p.rest q.rest → lo ≤ hi
    go (Same a b) = omega (arith, ends stop lo p, ends (drop 1 stop) hi q, ap byte_len a)
    go (Before c more a b) = omega (
      arith,
      ends stop lo p,
      ends (drop 1 stop) hi q,
      ap byte_len a,
      byte_len-append p.rest_in.front (c ∷ more),
    )
    go (After c more a b) =
        let less = more_read q.rest_in.front c more p.rest (subst (λ z. is_seam q.rest_in.front z ≡ true) b
        q.rest_in.seam) in
        absurd (omega (
          arith,
          less,
          ap (λ z. byte_len (lf_text z)) a,
          long stop lo p,
          long (drop 1 stop) hi q,
          after_first_bytes stop,
        ))
