-- A literal's text in a file has at most one flaw. Each byte offset in the text with CR LF read as LF corresponds to exactly
-- one byte offset in the file.
use Rattle.rl_strict.proofs.Names.{◌≡◌, ℕ, ◌<◌, ◌==◌, Bool, false, true, not, List, [], ◌∷◌, ◌++◌, length, refl, sym, ap, subst, ◌∙◌, inl, inr, arith, and-false, length-le-encodes, byte_len, byte_len-append, Flaw, ExplainsInFile, ExplainsSignedInFile, ExplainsSignedValueInFile, ExplainsValueInFile, IsPlaceInFile, is_dropped, is_seam, lf_text, IsExplainedOnce, IsSignedToken}
use Rattle.rl_strict.proofs.FileStrings.{signed_same}
use Rattle.rl_strict.proofs.FileTextLemmas.{by_first, seam_text, when_dropped, when_kept}
use Rattle.rl_strict.proofs.OneSignedFlaw.{limit_once, signed_once}
use Rattle.rl_strict.proofs.OneStrictFlaw.{After, Before, Meets, Same, flaw_same, meets, one_strict_flaw}

-- ---- borders between two texts

-- If two texts can be joined before or after CR LF is read as LF, with equal results, the border between the texts isn't
-- between a CR and its LF.
pub whole_seam : (a b : List ℕ) → lf_text (a ++ b) ≡ lf_text a ++ lf_text b → is_seam a b ≡ true
whole_seam [] b e = refl
whole_seam (c ∷ []) b e = go (is_dropped c b) refl
  where
    go : (x : Bool) → is_dropped c b ≡ x → not (is_dropped c b) ≡ true
    go false h = ap not h
    go true h =
        let more : lf_text b ≡ c ∷ lf_text b = sym (when_dropped c b h) ∙ e
        ∙ ap (λ z. z ++ lf_text b) (when_kept c [] (and-false (c == 13))) in
        absurd (omega (arith, ap length more))
whole_seam (c ∷ d ∷ ds) b e = go (whole_seam (d ∷ ds) b) (is_dropped c (d ∷ ds)) refl
  where
    go : (lf_text (d ∷ (ds ++ b)) ≡ lf_text (d ∷ ds) ++ lf_text b → is_seam (d ∷ ds) b ≡ true) → (x : Bool)
        → is_dropped c (d ∷ ds) ≡ x → is_seam (d ∷ ds) b ≡ true
    go back true h = back (sym (when_dropped c (d ∷ (ds ++ b)) h) ∙ e
        ∙ ap (λ z. z ++ lf_text b) (when_dropped c (d ∷ ds) h))
    go back false h =
        let both : c ∷ lf_text (d ∷ (ds ++ b)) ≡ c ∷ (lf_text (d ∷ ds) ++ lf_text b) =
        sym (when_kept c (d ∷ (ds ++ b)) h) ∙ e ∙ ap (λ z. z ++ lf_text b) (when_kept c (d ∷ ds) h) in
        back (cc)

-- Whether a border between two texts is between a CR and an LF depends only on the text before the border and the first
-- character after it.
seam_first : (a : List ℕ) (c : ℕ) (x y : List ℕ) → is_seam a (c ∷ x) ≡ is_seam a (c ∷ y)
seam_first [] c x y = refl
seam_first (d ∷ []) c x y = refl
seam_first (d ∷ e ∷ es) c x y = seam_first (e ∷ es) c x y

-- ---- byte offsets

abbrev ReadsSome : List ℕ → List ℕ → Type 0
ReadsSome text read = (c : ℕ) (cs : List ℕ) → text ≡ c ∷ cs → 0 < byte_len read

-- A nonempty text has at least one byte after CR LF is read as LF.
reads_some : (c : ℕ) (cs : List ℕ) → 0 < byte_len (lf_text (c ∷ cs))
reads_some c cs = by_first ReadsSome (λ d ds e. absurd (cc)) (λ ds d es e. some 10 (lf_text ds))
    (λ d ds kept f fs e. some d (lf_text ds)) (c ∷ cs) c cs refl
  where
    some : (d : ℕ) (ds : List ℕ) → 0 < byte_len (d ∷ ds)
    some d ds = omega (arith, length-le-encodes (d ∷ ds))

-- Let `front` be a prefix of a text that doesn't end between a CR and its LF. After CR LF is read as LF, a longer prefix of
-- the text has more bytes than `front`.
pub more_read : (front : List ℕ) (c : ℕ) (more rest : List ℕ) → is_seam front (c ∷ (more ++ rest)) ≡ true
    → byte_len (lf_text front) < byte_len (lf_text (front ++ (c ∷ more)))
more_read front c more rest h =
    let e = seam_text front (c ∷ more) (seam_first front c more (more ++ rest) ∙ h) in
    omega (arith, ap byte_len e, byte_len-append (lf_text front) (lf_text (c ∷ more)), reads_some c more)

not_longer : (t : List ℕ) (read at other : ℕ) (p : IsPlaceInFile t read at) (q : IsPlaceInFile t read other) (c : ℕ)
    (more : List ℕ) → q.front ≡ p.front ++ (c ∷ more) → p.rest ≡ c ∷ (more ++ q.rest) → ⊥
not_longer t read at other p q c more e h =
    let seam = whole_seam p.front p.rest (sym (ap lf_text p.text_is) ∙ p.whole) in
    let less = more_read p.front c more q.rest (ap (is_seam p.front) (sym h) ∙ seam) in
    let longer : byte_len (lf_text q.front) ≡ byte_len (lf_text (p.front ++ (c ∷ more))) =
    ap (λ z. byte_len (lf_text z)) e in
    omega (arith, less, longer, p.read_is, q.read_is)

-- A byte offset in the text with CR LF read as LF corresponds to exactly one byte offset in the text as written.
pub place_once : (t : List ℕ) (r s at other : ℕ) → r ≡ s → IsPlaceInFile t r at → IsPlaceInFile t s other → at ≡ other
place_once t r s at other same p other_place =
    let q = subst (λ z. IsPlaceInFile t z other) (sym same) other_place in
    go q (meets p.front q.front p.rest q.rest (sym p.text_is ∙ q.text_is))
  where
    go : (q : IsPlaceInFile t r other) → Meets p.front q.front p.rest q.rest → at ≡ other
    go q (Same e h) = p.at_is ∙ ap byte_len e ∙ sym q.at_is
    go q (Before c more e h) = absurd (not_longer t r at other p q c more e h)
    go q (After c more e h) = absurd (not_longer t r other at q p c more e h)

-- ---- flaws in a file

-- The flaw `flaw` of a text in a file corresponds to the flaw `read` of the text with CR LF read as LF. The two flaws have
-- one kind, and the byte offsets of `flaw` correspond to those of `read`.
record InFile (t : List ℕ) (read flaw : Flaw) : Type 0 where
  pub kind : flaw.kind ≡ read.kind
  pub from : IsPlaceInFile t read.from flaw.from
  pub lo : IsPlaceInFile t read.lo flaw.lo
  pub hi : IsPlaceInFile t read.hi flaw.hi

in_file_once : (t : List ℕ) (a b r s : Flaw) → r ≡ s → InFile t r a → InFile t s b → a ≡ b
in_file_once t a b r s e p q = flaw_same a b (p.kind ∙ ap (λ (z : Flaw). z.kind) e ∙ sym q.kind) (place_once t r.from
    s.from a.from b.from (ap (λ (z : Flaw). z.from) e) p.from q.from) (place_once t r.lo s.lo a.lo b.lo (ap (λ (z :
    Flaw). z.lo) e) p.lo q.lo) (place_once t r.hi s.hi a.hi b.hi (ap (λ (z : Flaw). z.hi) e) p.hi q.hi)

pub file_once : (t : List ℕ) → IsExplainedOnce ExplainsInFile t
file_once t a b p q = in_file_once t a b p.read q.read
    (one_strict_flaw (lf_text t) p.read q.read p.explains q.explains) (of a p) (of b q)
  where
    of : (flaw : Flaw) (x : ExplainsInFile t flaw) → InFile t x.read flaw
    of flaw x = record { kind = x.kind; from = x.from; lo = x.lo; hi = x.hi }

pub signed_file_once : (t : List ℕ) → IsExplainedOnce ExplainsSignedInFile t
signed_file_once t a b p q = in_file_once t a b p.read q.read
    (signed_once (lf_text t) p.read q.read p.explains q.explains) (of a p) (of b q)
  where
    of : (flaw : Flaw) (x : ExplainsSignedInFile t flaw) → InFile t x.read flaw
    of flaw x = record { kind = x.kind; from = x.from; lo = x.lo; hi = x.hi }

-- ---- the flaws of texts without a value

pub value_file_once : (t : List ℕ) → IsExplainedOnce ExplainsValueInFile t
value_file_once t a b p q = go p q
  where
    go : ExplainsValueInFile t a → ExplainsValueInFile t b → a ≡ b
    go (inl x) (inl y) = file_once t a b x y
    go (inl x) (inr (token, limit)) = absurd (x.explains.no_token token)
    go (inr (token, limit)) (inl y) = absurd (y.explains.no_token token)
    go (inr (token, limit)) (inr (same, other)) = limit_once t a b limit.1 other.1

pub signed_value_file_once : (t : List ℕ) → IsExplainedOnce ExplainsSignedValueInFile t
signed_value_file_once t a b p q = go p q
  where
    neither : (flaw : Flaw) → ExplainsSignedInFile t flaw → IsSignedToken t → ⊥
    neither flaw x y = x.explains.no_token (subst IsSignedToken (sym (signed_same t y)) y)

    go : ExplainsSignedValueInFile t a → ExplainsSignedValueInFile t b → a ≡ b
    go (inl x) (inl y) = signed_file_once t a b x y
    go (inl x) (inr y) = absurd (neither a x y.0)
    go (inr x) (inl y) = absurd (neither b y x.0)
    go (inr x) (inr y) = limit_once t a b x.1 y.1
