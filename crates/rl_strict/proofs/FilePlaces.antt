-- Byte offsets in a text as written, and in the text with CR LF read as LF.
use Rattle.rl_strict.proofs.Names.{◌≡◌, ℕ, ◌+◌, ◌-◌, ◌≤◌, Bool, true, false, cond, List, [], ◌∷◌, ◌++◌, length, refl, sym, ap, subst, ◌∙◌, arith, and_from, and_parts, append-nil, append_assoc, append_cancel_right, drop, encode_utf8, encode_utf8_all, encodes-chars, chars_from_encodes, scalar, IsUtf8, byte_len, chars, scalars-chars, IsTail, byte_len-append, tail_chars, Flaw, FlawKind, LineEnds, Text, File, first_len, IsPlaceInFile, IsRestOf, is_dropped, lf_text, read_of, ExplainsOf, IsFlawOf, IsPlaceAfter, IsRestPlace, SaysOf, lf_bytes}
use Rattle.std.proofs.Math.Utf8.{scalars}
use Rattle.rl_strict.proofs.FileTextLemmas.{rest_text}
use Rattle.rl_strict.proofs.StrictExplainLemmas.{cut_bytes}

-- ---- the bytes of the text with CR LF read as LF

scalars_kept : (c : ℕ) (cs : List ℕ) (b : Bool) → (scalar c ≡ true) × (scalars cs ≡ true) → scalars (lf_text cs) ≡ true
    → scalars (cond b (lf_text cs) (c ∷ lf_text cs)) ≡ true
scalars_kept c cs true h ih = ih
scalars_kept c cs false h ih = and_from (scalar c) (scalars (lf_text cs)) h.0 ih

lf_scalars : (cs : List ℕ) → scalars cs ≡ true → scalars (lf_text cs) ≡ true
lf_scalars [] h = refl
lf_scalars (c ∷ cs) h =
    let parts = and_parts (scalar c) (scalars cs) h in
    scalars_kept c cs (is_dropped c cs) parts (lf_scalars cs parts.1)

pub lf_utf8 : (t : List ℕ) → IsUtf8 t → IsUtf8 (lf_bytes t)
lf_utf8 t u = (lf_text (chars t), (lf_scalars (chars t) (scalars-chars t u), refl))

pub lf_chars : (t : List ℕ) → IsUtf8 t → chars (lf_bytes t) ≡ lf_text (chars t)
lf_chars t u = sym (chars_from_encodes (lf_text (chars t)) (lf_bytes t) (lf_utf8 t u) refl)

pub lf_same : (t : List ℕ) → IsUtf8 t → lf_text (chars t) ≡ chars t → lf_bytes t ≡ t
lf_same t u e = ap encode_utf8_all e ∙ encodes-chars t u

-- ---- ends of a text

pub rest_bytes : (t rest : List ℕ) → IsUtf8 t → IsUtf8 rest → (r : IsRestOf File (chars t) (chars rest)) → length t
    ≡ byte_len r.front + length rest
rest_bytes t rest ut ur r = cut_bytes t rest r.front ut ur r.text_is

pub rest_length : (how : LineEnds) (t rest : List ℕ) → IsUtf8 t → IsUtf8 rest → (r : IsRestOf how (chars t) (chars rest))
    → length t ≡ byte_len r.front + length rest
rest_length how t rest ut ur r = cut_bytes t rest r.front ut ur r.text_is

-- Let `rest` be an end of a text that doesn't begin between a CR and its LF. The whole text with CR LF read as LF consists
-- of two parts: the text before `rest`, and `rest`, each with CR LF read as LF.
lf_cut : (t rest : List ℕ) → IsUtf8 t → IsUtf8 rest → (r : IsRestOf File (chars t) (chars rest)) → chars (lf_bytes t)
    ≡ lf_text r.front ++ chars (lf_bytes rest)
lf_cut t rest ut ur r = lf_chars t ut ∙ rest_text (chars t) (chars rest) r
    ∙ ap (λ z. lf_text r.front ++ z) (sym (lf_chars rest ur))

pub lf_tail : (t rest : List ℕ) → IsUtf8 t → IsUtf8 rest → IsRestOf File (chars t) (chars rest)
    → IsTail (lf_bytes t) (lf_bytes rest)
lf_tail t rest ut ur r =
    tail_chars (lf_bytes t) (lf_bytes rest) (lf_text r.front) (lf_utf8 t ut) (lf_utf8 rest ur) (lf_cut t rest ut ur r)

pub lf_place : (t rest : List ℕ) (at : ℕ) → IsUtf8 t → IsUtf8 rest → (r : IsRestOf File (chars t) (chars rest)) → at +
    length rest ≡ length t → IsPlaceInFile (chars t) (length (lf_bytes t) - length (lf_bytes rest)) at
lf_place t rest at ut ur r e =
    let read = cut_bytes (lf_bytes t) (lf_bytes rest) (lf_text r.front) (lf_utf8 t ut) (lf_utf8 rest ur)
    (lf_cut t rest ut ur r) in
    record {
      front = r.front;
      rest = chars rest;
      text_is = r.text_is;
      whole = rest_text (chars t) (chars rest) r;
      read_is = omega (arith, read);
      at_is = omega (arith, e, rest_bytes t rest ut ur r);
    }

-- ---- the byte offsets where ends of a text begin

longer : (front : List ℕ) (c : ℕ) → byte_len (front ++ (c ∷ [])) ≡ byte_len front + length (encode_utf8 c)
longer front c = byte_len-append front (c ∷ []) ∙ ap (λ z. byte_len front + length z) (append-nil (encode_utf8 c))

-- Outside files, the byte offset at which the end `rest` of the text `front ++ rest` begins is the number of bytes of
-- `front`.
pub front_at : (t rest front : List ℕ) (at : ℕ) → IsRestPlace Text t rest at → t ≡ front ++ rest → at ≡ byte_len front
front_at t rest front at p e = p.at_is
    ∙ ap byte_len (append_cancel_right p.is_rest.front front rest (sym p.is_rest.text_is ∙ e))

pub after_at : (t rest front : List ℕ) (at : ℕ) → IsPlaceAfter Text t rest at → t ≡ front ++ rest
    → at ≡ byte_len front + first_len rest
after_at t rest front at p e = go rest refl
  where
    go : (r : List ℕ) → rest ≡ r → at ≡ byte_len front + first_len r
    go [] is =
        let none : byte_len front ≡ byte_len front + 0 = omega arith in
        front_at t p.after front at p.place (e ∙ ap (λ z. front ++ z) (is ∙ sym (p.after_is ∙ ap (drop 1) is))) ∙ none
    go (c ∷ cs) is = front_at t p.after (front ++ (c ∷ [])) at p.place (e ∙ ap (λ z. front ++ z) (is ∙ ap (λ z. c ∷ z)
        (sym (p.after_is ∙ ap (drop 1) is))) ∙ sym (append_assoc front (c ∷ []) p.after)) ∙ longer front c

-- In a file, let `rest` begin at the byte offset `at` of the text as written. After CR LF is read as LF, `rest` begins at
-- the byte offset that corresponds to `at`.
place_in : (t rest front : List ℕ) (at : ℕ) → IsRestPlace File t rest at → lf_text t ≡ front ++ lf_text rest
    → IsPlaceInFile t (byte_len front) at
place_in t rest front at p e =
    let r = p.is_rest in
    let whole = rest_text t rest r in
    record {
      front = r.front;
      rest = rest;
      text_is = r.text_is;
      whole = whole;
      read_is = ap byte_len (append_cancel_right front (lf_text r.front) (lf_text rest) (sym e ∙ whole));
      at_is = p.at_is;
    }

-- In a file, let `at` be the byte offset after the first character of `rest` in the text as written. After CR LF is read as
-- LF, the byte offset after the first character of `rest` corresponds to `at`.
after_place : (t rest front : List ℕ) (at : ℕ) → IsPlaceAfter File t rest at → lf_text t ≡ front ++ lf_text rest
    → IsPlaceInFile t (byte_len front + first_len (lf_text rest)) at
after_place t rest front at p e = go (lf_text rest) refl
  where
    go : (r : List ℕ) → lf_text rest ≡ r → IsPlaceInFile t (byte_len front + first_len r) at
    go [] is =
        let none : byte_len front ≡ byte_len front + 0 = omega arith in
        subst (λ n. IsPlaceInFile t n at) none (place_in t p.after front at p.place
        (e ∙ ap (λ z. front ++ z) (is ∙ sym (p.after_is ∙ ap (drop 1) is))))
    go (c ∷ cs) is = subst (λ n. IsPlaceInFile t n at) (longer front c) (place_in t p.after (front ++ (c ∷ [])) at
        p.place (e ∙ ap (λ z. front ++ z) (is ∙ ap (λ z. c ∷ z) (sym (p.after_is ∙ ap (drop 1) is))) ∙ sym (append_assoc
        front (c ∷ []) (lf_text p.after))))

-- ---- the byte offsets of flaws

-- A flaw with its byte offsets in the text as it is read: with CR LF read as LF in a file, and unchanged outside files.
abbrev read_flaw : (how : LineEnds) (signed : Bool) (t piece rest : List ℕ) (k : FlawKind)
    → IsFlawOf how signed t k piece rest → Flaw
read_flaw how signed t piece rest k f = record {
  kind = k;
  from = byte_len (read_of how f.piece_in.front);
  lo = byte_len f.stops.front;
  hi = byte_len f.stops.front + first_len (read_of how rest);
}

pub explained : (how : LineEnds) (signed : Bool) (t piece rest : List ℕ) (k : FlawKind) (flaw : Flaw)
    → IsFlawOf how signed t k piece rest → flaw.kind ≡ k → IsRestPlace how t piece flaw.from
    → IsRestPlace how t rest flaw.lo → IsPlaceAfter how t rest flaw.hi → flaw.lo ≤ flaw.hi → ExplainsOf how signed t flaw
explained Text false t piece rest k flaw f kind from lo hi ordered =
    let low = front_at t rest f.stops.front flaw.lo lo f.stops.text_is in
    let high = after_at t rest f.stops.front flaw.hi hi f.stops.text_is in
    record {
      no_token = f.none;
      place = record { rest = rest; stops = f.stops; lo_is = low; hi_is = high ∙ ap (λ n. n + first_len rest) (sym low) };
      before = from.is_rest.front;
      piece = piece;
      text_is = from.is_rest.text_is;
      from_is = from.at_is;
      kind = subst (λ z. SaysOf false z t piece rest) (sym kind) f.says;
    }
explained Text true t piece rest k flaw f kind from lo hi ordered =
    let low = front_at t rest f.stops.front flaw.lo lo f.stops.text_is in
    let high = after_at t rest f.stops.front flaw.hi hi f.stops.text_is in
    record {
      no_token = f.none;
      place = record { rest = rest; stops = f.stops; lo_is = low; hi_is = high ∙ ap (λ n. n + first_len rest) (sym low) };
      before = from.is_rest.front;
      piece = piece;
      text_is = from.is_rest.text_is;
      from_is = from.at_is;
      kind = subst (λ z. SaysOf true z t piece rest) (sym kind) f.says;
    }
explained File false t piece rest k flaw f kind from lo hi ordered =
    let cut = rest_text t piece f.piece_in in
    record {
      read = read_flaw File false t piece rest k f;
      explains = record {
        no_token = f.none;
        place = record { rest = lf_text rest; stops = f.stops; lo_is = refl; hi_is = refl };
        before = lf_text f.piece_in.front;
        piece = lf_text piece;
        text_is = cut;
        from_is = refl;
        kind = f.says;
      };
      kind = kind;
      from = place_in t piece (lf_text f.piece_in.front) flaw.from from cut;
      lo = place_in t rest f.stops.front flaw.lo lo f.stops.text_is;
      hi = after_place t rest f.stops.front flaw.hi hi f.stops.text_is;
      ordered = ordered;
    }
explained File true t piece rest k flaw f kind from lo hi ordered =
    let cut = rest_text t piece f.piece_in in
    record {
      read = read_flaw File true t piece rest k f;
      explains = record {
        no_token = f.none;
        place = record { rest = lf_text rest; stops = f.stops; lo_is = refl; hi_is = refl };
        before = lf_text f.piece_in.front;
        piece = lf_text piece;
        text_is = cut;
        from_is = refl;
        kind = f.says;
      };
      kind = kind;
      from = place_in t piece (lf_text f.piece_in.front) flaw.from from cut;
      lo = place_in t rest f.stops.front flaw.lo lo f.stops.text_is;
      hi = after_place t rest f.stops.front flaw.hi hi f.stops.text_is;
      ordered = ordered;
    }
