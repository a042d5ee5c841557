-- The theorems about flaws.
use Rattle.rl_flaws.proofs.Names.{◌≡◌, ◌+◌, ◌-◌, ◌&&◌, ℕ, Bool, true, false, List, drop, length, sym, ap, subst, ◌∙◌, arith, encodes-chars, refl, chars, byte_len, byte_len-append, ExplainsInFile, lf_text, read_of, IsToken, Flaw, FlawKind, LineEnds, Text, File, ExplainsStrictly, IsStrictFlawOf, ExplainsOf, IsFlawAt, kinds_once, stops_once, after_bad_piece, is_flaw_of_unit, EndsWhere, FirstFlawExplains, FlawsState, HasOneNextFlaw, LeftReadsFrom, ReadsFrom, TokensHaveNone, is_open, judged, quote_of, InvalidPiece}
use Rattle.rl_strict.proofs.StrictExplainLemmas.{piece_front}
use Rattle.rl_flaws.proofs.FileCuts.{after_first_bytes, in_order, one_place, place_in_text, place_of_rest}
use Rattle.rl_flaws.proofs.PlaceLemmas.{place_in}

-- ---- the first flaw explains the text

explains_strictly : (t piece stop : List ℕ) (flaw : Flaw) → IsFlawAt t flaw.kind piece stop
    → flaw.from + byte_len piece ≡ byte_len t → flaw.lo + byte_len stop ≡ byte_len t
    → flaw.hi + byte_len (drop 1 stop) ≡ byte_len t → ExplainsStrictly t flaw
explains_strictly t piece stop flaw f from lo hi =
    let cut = piece_front flaw.kind t piece stop f.stops f.says in
    record {
      no_token = f.none;
      place = record {
        rest = stop;
        stops = f.stops;
        lo_is = omega (arith, lo, ap byte_len f.stops.text_is, byte_len-append f.stops.front stop);
        hi_is = omega (arith, lo, hi, after_first_bytes stop);
      };
      before = cut.0;
      piece = piece;
      text_is = cut.1;
      from_is = omega (arith, from, ap byte_len cut.1, byte_len-append cut.0 piece);
      kind = f.says;
    }

-- The first flaw also explains a text in a file. The flaw's offsets are byte offsets in the file.
explains_in_file : (t piece stop : List ℕ) (flaw : Flaw) (len : ℕ) → len ≡ byte_len t → IsFlawAt (lf_text t) flaw.kind
    piece stop → ReadsFrom File len t piece flaw.from → ReadsFrom File len t stop flaw.lo → ReadsFrom File len t (drop 1
    stop) flaw.hi → ExplainsInFile t flaw
explains_in_file t piece stop flaw len long f from lo hi =
    let cut = piece_front flaw.kind (lf_text t) piece stop f.stops f.says in
    let whole : ℕ = byte_len (lf_text t) in
    let a : whole ≡ byte_len cut.0 + byte_len piece = ap byte_len cut.1 ∙ byte_len-append cut.0 piece in
    let b : whole ≡ byte_len f.stops.front + byte_len stop = ap byte_len f.stops.text_is
    ∙ byte_len-append f.stops.front stop in
    let d = after_first_bytes stop in
    let read : Flaw = record {
      kind = flaw.kind;
      from = whole - byte_len piece;
      lo = whole - byte_len stop;
      hi = whole - byte_len (drop 1 stop);
    } in
    record {
      read = read;
      explains = explains_strictly (lf_text t) piece stop read f (omega (arith, a)) (omega (arith, b))
          (omega (arith, b, d));
      kind = refl;
      from = place_of_rest t piece len flaw.from long from;
      lo = place_of_rest t stop len flaw.lo long lo;
      hi = place_of_rest t (drop 1 stop) len flaw.hi long hi;
      ordered = in_order t stop len flaw.lo flaw.hi lo hi;
    }

explains_by : (how : LineEnds) (t piece stop : List ℕ) (flaw : Flaw) (len : ℕ) → len ≡ byte_len t → IsFlawAt (read_of
    how t) flaw.kind piece stop → ReadsFrom how len t piece flaw.from → ReadsFrom how len t stop flaw.lo → ReadsFrom how
    len t (drop 1 stop) flaw.hi → ExplainsOf how false t flaw
explains_by Text t piece stop flaw len long f from lo hi = explains_strictly t piece stop flaw f
    (place_in_text t piece len flaw.from from ∙ long) (place_in_text t stop len flaw.lo lo ∙ long)
    (place_in_text t (drop 1 stop) len flaw.hi hi ∙ long)
explains_by File t piece stop flaw len long f from lo hi = explains_in_file t piece stop flaw len long f from lo hi

pub first_explains : (how : LineEnds) (text : List ℕ) → FirstFlawExplains how text
first_explains how text u start new bad are takes =
    let x = takes.is_bad in
    let there : (read : List ℕ) (at : ℕ) → LeftReadsFrom start read at → ReadsFrom how start.len (chars text) read at =
    λ read at p. place_in how start.len (chars text) (chars start.rest) read at are.rest_in
    (subst (λ z. ReadsFrom z start.len (chars start.rest) read at) are.ends_is p) in
    explains_by how (chars text) takes.piece x.stop bad.flaw start.len
    (are.len_is ∙ sym (ap length (encodes-chars text u)))
    (subst (λ t. IsFlawAt t bad.flaw.kind takes.piece x.stop) are.judged_is x.flaw)
    (there takes.piece bad.flaw.from x.from) (there x.stop bad.flaw.lo x.lo) (there (drop 1 x.stop) bad.flaw.hi x.hi)

pub tokens_none : (how : LineEnds) (text : List ℕ) → TokensHaveNone how text
tokens_none how text start new bad are takes token =
    takes.is_bad.flaw.none (subst IsToken (sym are.judged_is) token)

-- ---- the unchecked text has at most one next flaw

made : FlawKind → ℕ → ℕ → ℕ → ℕ → InvalidPiece
made kind from lo hi end = record { flaw = record { kind = kind; from = from; lo = lo; hi = hi }; end = end }

same_piece : (a b : InvalidPiece) → a.flaw.kind ≡ b.flaw.kind → a.flaw.from ≡ b.flaw.from → a.flaw.lo ≡ b.flaw.lo
    → a.flaw.hi ≡ b.flaw.hi → a.end ≡ b.end → a ≡ b
unfolding made
same_piece a b k f l h e =
    ap (λ z. made z a.flaw.from a.flaw.lo a.flaw.hi a.end) k ∙ ap (λ z. made b.flaw.kind z a.flaw.lo a.flaw.hi a.end) f
    ∙ ap (λ z. made b.flaw.kind b.flaw.from z a.flaw.hi a.end) l
    ∙ ap (λ z. made b.flaw.kind b.flaw.from b.flaw.lo z a.end) h
    ∙ ap (λ z. made b.flaw.kind b.flaw.from b.flaw.lo b.flaw.hi z) e

one_end : (u : Bool) (s : FlawsState) (r x : List ℕ) (hi hj end at : ℕ) → r ≡ x → hi ≡ hj
    → EndsWhere u (LeftReadsFrom s r) hi end → EndsWhere u (LeftReadsFrom s x) hj at → end ≡ at
one_end true s r x hi hj end at e same p q = one_place s.ends s.len (chars s.rest) r x end at e p q
one_end false s r x hi hj end at e same p q = p ∙ same ∙ sym q

pub one_next : (s : FlawsState) → HasOneNextFlaw s
one_next s a b new next p q =
    let x = p.is_bad in
    let y = q.is_bad in
    let text : List ℕ = chars s.rest in
    let same = stops_once IsToken (judged s) x.stop y.stop x.flaw.stops y.flaw.stops in
    let once = kinds_once a.flaw.kind b.flaw.kind (judged s) p.piece q.piece x.stop x.flaw.stops x.flaw.says
    (subst (IsStrictFlawOf b.flaw.kind (judged s) q.piece) (sym same.1) y.flaw.says) in
    let hi : a.flaw.hi ≡ b.flaw.hi = one_place s.ends s.len text (drop 1 x.stop) (drop 1 y.stop) a.flaw.hi b.flaw.hi
    (ap (drop 1) same.1) x.hi y.hi in
    let other : EndsWhere (is_open s.kind && is_flaw_of_unit a.flaw.kind)
    (LeftReadsFrom s (after_bad_piece (quote_of s.kind) q.piece)) b.flaw.hi b.end =
    subst (λ k. EndsWhere (is_open s.kind && is_flaw_of_unit k) (LeftReadsFrom s (after_bad_piece (quote_of s.kind) q.piece))
    b.flaw.hi
    b.end) (sym once.0) y.end in
    same_piece a b once.0 (one_place s.ends s.len text p.piece q.piece a.flaw.from b.flaw.from once.1 x.from y.from)
    (one_place s.ends s.len text x.stop y.stop a.flaw.lo b.flaw.lo same.1 x.lo y.lo) hi
    (one_end (is_open s.kind && is_flaw_of_unit a.flaw.kind) s (after_bad_piece (quote_of s.kind) p.piece)
    (after_bad_piece (quote_of s.kind) q.piece) a.flaw.hi b.flaw.hi a.end b.end
    (ap (after_bad_piece (quote_of s.kind)) once.1) hi x.end other)
