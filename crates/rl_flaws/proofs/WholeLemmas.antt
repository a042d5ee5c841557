-- The first flaw of a text, and the cursor before it.
use Rattle.rl_flaws.proofs.Names.{◌≡◌, ◌⊎◌, ℕ, Bor, None, false, true, List, [], ◌∷◌, ◌++◌, drop, length, refl, sym, ap, subst, inl, inr, ◌∙◌, arith, append_assoc, encodes-chars, IsUtf8, codes, list_all-append, and_from, chars, byte_len, byte_len-append, Kind, Str, opener, raw_opener, QuotedForm, CookedForm, RawForm, SingleForm, Flaw, read_of, ExplainsOf, ExplainsStrictly, IsFlawAt, IsStrictFlawOf, LineEnds, Text, File, free_in, free_of, self_in, lacks_cr, hashes_free, AreFlawsOf, FlawsState, IsOpener, ReadsFrom, TakesFlaw, state_of, OpensSingle, OpensString, HasForm, IsOpened, front_of, opened_front, Inside, Nothing, Opened}
use Rattle.rl_flaws.proofs.FileCuts.{after_first_bytes, first_parts, rest_in_text, rest_of_place}

-- ---- the flaw of a whole text

-- The flaw of a text with its byte offsets, as `read` returns it. The flaw's piece begins at `piece`, and the flaw at `stop`.
pub record IsFlawIn (how : LineEnds) (len : ℕ) (text : List ℕ) (flaw : Flaw) : Type 0 where
  pub piece : List ℕ
  pub stop : List ℕ
  pub found : IsFlawAt (read_of how text) flaw.kind piece stop
  pub from : ReadsFrom how len text piece flaw.from
  pub lo : ReadsFrom how len text stop flaw.lo
  pub hi : ReadsFrom how len text (drop 1 stop) flaw.hi

-- The byte offset `at` in the text corresponds to the byte offset `read` in the text as it is read.
abbrev Moves : LineEnds → List ℕ → ℕ → ℕ → Type 0
Moves how text read at =
    (before rest : List ℕ) → read_of how text ≡ before ++ rest → read ≡ byte_len before
    → ReadsFrom how (byte_len text) text rest at

moved : (how : LineEnds) (t : List ℕ) (read flaw : Flaw) → ExplainsStrictly (read_of how t) read
    → flaw.kind ≡ read.kind → Moves how t read.from flaw.from → Moves how t read.lo flaw.lo → Moves how t read.hi flaw.hi
    → IsFlawIn how (byte_len t) t flaw
moved how t read flaw e kind from lo hi =
    let stop = e.place.rest in
    let front = e.place.stops.front in
    let parts = first_parts stop in
    record {
      piece = e.piece;
      stop = stop;
      found = record {
        none = e.no_token;
        stops = e.place.stops;
        says = subst (λ k. IsStrictFlawOf k (read_of how t) e.piece stop) (sym kind) e.kind;
      };
      from = from e.before e.piece e.text_is e.from_is;
      lo = lo front stop e.place.stops.text_is e.place.lo_is;
      hi = hi (front ++ parts.0) (drop 1 stop) (e.place.stops.text_is ∙ ap (λ z. front ++ z) parts.1
          ∙ sym (append_assoc front parts.0 (drop 1 stop))) (omega (
            arith,
            e.place.hi_is,
            e.place.lo_is,
            byte_len-append front parts.0,
            after_first_bytes stop,
            ap byte_len parts.1,
            byte_len-append parts.0 (drop 1 stop),
          ));
    }

flaw_of : (how : LineEnds) (t : List ℕ) (flaw : Flaw) → ExplainsOf how false t flaw → IsFlawIn how (byte_len t) t flaw
flaw_of Text t flaw e = moved Text t flaw flaw e refl (λ before rest. rest_in_text t before rest flaw.from)
    (λ before rest. rest_in_text t before rest flaw.lo) (λ before rest. rest_in_text t before rest flaw.hi)
flaw_of File t flaw x = moved File t x.read flaw x.explains x.kind
    (λ before rest. rest_of_place t before rest x.read.from flaw.from x.from)
    (λ before rest. rest_of_place t before rest x.read.lo flaw.lo x.lo)
    (λ before rest. rest_of_place t before rest x.read.hi flaw.hi x.hi)

pub flaw_in : (how : LineEnds) (text : List ℕ) (flaw : Flaw) → IsUtf8 text → ExplainsOf how false (chars text) flaw
    → IsFlawIn how (length text) (chars text) flaw
flaw_in how text flaw u e = subst (λ n. IsFlawIn how n (chars text) flaw) (ap length (encodes-chars text u))
    (flaw_of how (chars text) flaw e)

-- ---- a text that doesn't begin as a quoted literal

-- The cursor before the first flaw of such a text.
abbrev pub whole_of : LineEnds → List ℕ → FlawsState
whole_of how text = record { ends = how; kind = None; front = []; rest = text; len = length text; over = false }

pub whole_takes : (how : LineEnds) (text : List ℕ) (flaw : Flaw) → IsUtf8 text → ExplainsOf how false (chars text) flaw
    → TakesFlaw (whole_of how text) (record { flaw = flaw; end = flaw.hi }) (state_of how (length text) Nothing)
whole_takes how text flaw u e =
    let x = flaw_in how text flaw u e in
    record {
      some_left = refl;
      piece = x.piece;
      is_bad = record { stop = x.stop; flaw = x.found; from = x.from; lo = x.lo; hi = x.hi; end = refl };
      left = refl;
      same = record { same_ends = refl; same_len = refl };
    }

pub whole_flaws : (how : LineEnds) (text : List ℕ) → ((k : Kind) → OpensString k (chars text) ⊎ OpensSingle k
    (chars text) → ⊥) → AreFlawsOf how text (whole_of how text)
whole_flaws how text none = record {
  ends_is = refl;
  opened = (refl, none);
  rest_in = self_in how (chars text);
  judged_is = refl;
  len_is = refl;
  all_left = refl;
}

-- ---- opening delimiters contain no CR

opener_free : (k : Kind) → lacks_cr (opener k) ≡ true
opener_free Str = refl
opener_free k = refl

raw_free : (k : Kind) → lacks_cr (raw_opener k) ≡ true
raw_free Str = refl
raw_free k = refl

both_free : (a b : List ℕ) → lacks_cr a ≡ true → lacks_cr b ≡ true → lacks_cr (a ++ b) ≡ true
both_free a b p q = list_all-append _ a b ∙ and_from (lacks_cr a) (lacks_cr b) p q

pub front_free : (form : QuotedForm) (k : Kind) (h : List ℕ) → HasForm form k h → lacks_cr (front_of form k h) ≡ true
front_free CookedForm k h has = opener_free k
front_free SingleForm k h has = opener_free k
front_free RawForm k h (s, (n, few, e)) = both_free (raw_opener k) (h ++ (34 ∷ [])) (raw_free k)
    (both_free h (34 ∷ []) (ap lacks_cr e ∙ hashes_free n) refl)

-- An opening delimiter contains no CR. So it makes no difference whether CR LF is read as LF in the whole text, or only in
-- the text after the opening delimiter.
pub opened_read : (how : LineEnds) (o : Opened) (t rest : List ℕ) → IsOpened o → t ≡ opened_front o ++ rest
    → opened_front o ++ read_of how rest ≡ read_of how t
opened_read how o t rest opens e = sym (ap (read_of how) e
    ∙ free_of how (opened_front o) rest (front_free o.form o.kind (chars o.hashes.now) opens))

-- ---- the cursor before the first flaw

pub opened_flaws : (o : Opened) (text : List ℕ) (rest : Bor (List ℕ)) → IsOpened o → chars text ≡ opened_front o ++
    chars rest.now → (how : LineEnds) → AreFlawsOf how text (state_of how (length text) (Inside o rest))
opened_flaws o text rest opens e how = record {
  ends_is = refl;
  opened = opener_of o.form o.kind (chars o.hashes.now) opens;
  rest_in = free_in how (chars text) (opened_front o) (chars rest.now) e
      (front_free o.form o.kind (chars o.hashes.now) opens);
  judged_is = opened_read how o (chars text) (chars rest.now) opens e;
  len_is = refl;
  all_left = refl;
}
  where
    opener_of : (form : QuotedForm) (k : Kind) (h : List ℕ) → HasForm form k h → IsOpener k (front_of form k h)
    opener_of CookedForm k h has = inl (has, inl refl)
    opener_of SingleForm k h has = inr (has, refl)
    opener_of RawForm k h (s, (n, few, e)) = inl (
      s,
      inr (n, omega (arith, few), ap (λ z. raw_opener k ++ (z ++ codes "\"")) e),
    )
