-- A text has at most one flaw in Rust's grammar.
use Rattle.rl_strict.proofs.Names.{◌≡◌, ℕ, ◌+◌, true, false, ◌==◌, cond, List, [], ◌∷◌, ◌++◌, None, refl, sym, ap, subst, ◌∙◌, inl, inr, append_assoc, append_cancel_right, both_ways, or_parts, is_ascii_digit, Bool, Some, Kind, byte_len, first_passes, truth_text, FlawKind, BadSuffix, Empty, Minus, NotALiteral, UnexpectedEnd, QuotedForm, CookedForm, RawForm, SingleForm, StopsBefore, first_len, HasKind, IsPlaced, form_opener, has_form, HasOneFlaw, HasStrictQuotedFlaw, StrictQuotedFlaw, ExplainsStrictly, IsStrictFlawOf, BeginsWord, IsStrictNumberFlaw, IsStrictWordFlaw, IsToken, found_opener, opener_at, front_complete, front_not_quoted, Ending, Flaw, is_number_front}
use Rattle.rl_strict.proofs.OneStrictRaw.{raw_once}
use Rattle.rl_strict.proofs.OneStrictUnit.{cooked_once, single_once}
use Rattle.rl_strict.proofs.StrictExplainLemmas.{quoted_cut}
use Rattle.rl_strict.proofs.StrictNumberKinds.{digit_kind}
use Rattle.rl_strict.proofs.StrictTokens.{digit_front}
use Rattle.rl_strict.proofs.ReadNumbers.{goes_on}

-- ---- the position of the flaw

-- One text is split in two ways: into `f` and `r`, and into `g` and `s`. The prefixes `f` and `g` are equal, or one of them
-- is a prefix of the other.
pub data Meets (f g r s : List ℕ) : Type 0 where
  Same : f ≡ g → r ≡ s → Meets f g r s
  Before : (c : ℕ) (more : List ℕ) → g ≡ f ++ (c ∷ more) → r ≡ c ∷ (more ++ s) → Meets f g r s
  After : (c : ℕ) (more : List ℕ) → f ≡ g ++ (c ∷ more) → s ≡ c ∷ (more ++ r) → Meets f g r s

-- Two splits of a text that satisfy `Meets` still satisfy `Meets` after a character is put before the text.
meets_on : (c : ℕ) (f g r s : List ℕ) → Meets f g r s → Meets (c ∷ f) (c ∷ g) r s
meets_on c f g r s (Same a b) = Same (ap (λ z. c ∷ z) a) b
meets_on c f g r s (Before d more a b) = Before d more (ap (λ z. c ∷ z) a) b
meets_on c f g r s (After d more a b) = After d more (ap (λ z. c ∷ z) a) b

-- If one text is split into `f` and `r`, and also into `g` and `s`, the two splits satisfy `Meets`.
pub meets : (f g r s : List ℕ) → f ++ r ≡ g ++ s → Meets f g r s
meets [] [] r s e = Same refl e
meets [] (c ∷ g) r s e = Before c g refl e
meets (c ∷ f) [] r s e = After c f refl (sym e)
meets (c ∷ f) (d ∷ g) r s e =
    let more : f ++ r ≡ g ++ s = (let h : c ∷ (f ++ r) ≡ d ∷ (g ++ s) = e in cc) in
    let same : c ≡ d = (let h : c ∷ (f ++ r) ≡ d ∷ (g ++ s) = e in cc) in
    subst (λ z. Meets (c ∷ f) (z ∷ g) r s) same (meets_on c f g r s (meets f g r s more))

-- The longest prefix of a text that can be completed isn't shorter than another prefix that can be completed.
not_before : (takes : List ℕ → Type 0) (text r s : List ℕ) (a : StopsBefore takes text r) (b : StopsBefore takes text s)
    (c : ℕ) (more : List ℕ) → b.front ≡ a.front ++ (c ∷ more) → r ≡ c ∷ (more ++ s) → ⊥
not_before takes text r s a b c more e h = a.stuck c (more ++ s) (more ++ b.begins.ending) h
    (subst takes (ap (λ z. z ++ b.begins.ending) e ∙ append_assoc a.front (c ∷ more) b.begins.ending) b.begins.is_taken)

-- A text has at most one longest prefix that can be completed.
pub stops_once : (takes : List ℕ → Type 0) (text r s : List ℕ) (a : StopsBefore takes text r) (b : StopsBefore takes
    text s) → (a.front ≡ b.front) × (r ≡ s)
stops_once takes text r s a b = go (meets a.front b.front r s (sym a.text_is ∙ b.text_is))
  where
    go : Meets a.front b.front r s → (a.front ≡ b.front) × (r ≡ s)
    go (Same e h) = (e, h)
    go (Before c more e h) = absurd (not_before takes text r s a b c more e h)
    go (After c more e h) = absurd (not_before takes text s r b a c more e h)

-- ---- the opening delimiter

-- The form and the kind of a quoted literal, and the text after its opening delimiter.
abbrev Told : Type 0
Told = QuotedForm × Kind × List ℕ

-- A text begins with at most one opening delimiter.
pub opener_same : (t : List ℕ) (f g : QuotedForm) (k l : Kind) (x y : List ℕ) → opener_at t ≡ found_opener f k x
    → opener_at t ≡ found_opener g l y → ◌≡◌ {A = Told} (f, k, x) (g, l, y)
opener_same t f g k l x y a b =
    let p : Told = (f, k, x) in
    let q : Told = (g, l, y) in
    let e : Some p ≡ Some q = sym a ∙ b in
    cc

-- ---- prefixes of the words `true`, `false`, `b` and `c`

-- A prefix of a word (`true`, `false`, `b` or `c`) doesn't begin as a number or as a quoted literal.
pub record IsFront (front : List ℕ) : Type 0 where
  pub no_opener : opener_at front ≡ None
  pub no_number : first_passes is_number_front front ≡ false

-- A prefix of `true` or `false` doesn't begin as a number or as a quoted literal.
pub truth_front : (b : Bool) (front more : List ℕ) → truth_text b ≡ front ++ more → IsFront front
unfolding opener_at
truth_front b [] more e = record { no_opener = refl; no_number = refl }
truth_front true (c ∷ cs) more e =
    let same : 116 ≡ c = cc in
    subst (λ z. IsFront (z ∷ cs)) same (record { no_opener = refl; no_number = refl })
truth_front false (c ∷ cs) more e =
    let same : 102 ≡ c = cc in
    subst (λ z. IsFront (z ∷ cs)) same (record { no_opener = refl; no_number = refl })

-- The text `b` doesn't begin as a number or as a quoted literal.
letter_front : IsFront (98 ∷ [])
unfolding opener_at
letter_front = record { no_opener = refl; no_number = refl }

-- The text `c` doesn't begin as a number or as a quoted literal.
other_front : IsFront (99 ∷ [])
unfolding opener_at
other_front = record { no_opener = refl; no_number = refl }

-- A text that is `b`, `c`, or a prefix of `true` or `false` doesn't begin as a number or as a quoted literal.
pub begins_front : (front : List ℕ) → BeginsWord front → IsFront front
begins_front front (inl e) = subst IsFront (sym e) letter_front
begins_front front (inr (inl e)) = subst IsFront (sym e) other_front
begins_front front (inr (inr w)) = truth_front w.truth front w.more w.word_is

-- ---- the fields of a flaw

-- Creates a flaw from its kind and its three byte offsets.
make : FlawKind → ℕ → ℕ → ℕ → Flaw
make kind from lo hi = record { kind = kind; from = from; lo = lo; hi = hi }

-- Flaws with equal fields are equal.
pub flaw_same : (a b : Flaw) → a.kind ≡ b.kind → a.from ≡ b.from → a.lo ≡ b.lo → a.hi ≡ b.hi → a ≡ b
unfolding make
flaw_same a b kind from lo hi =
    ap (λ z. make z a.from a.lo a.hi) kind
    ∙ ap (λ z. make b.kind z a.lo a.hi) from
    ∙ ap (λ z. make b.kind b.from z a.hi) lo
    ∙ ap (λ z. make b.kind b.from b.lo z) hi

-- ---- the flaw of a quoted literal

form_once : (form : QuotedForm) (kind : Kind) (k l : FlawKind) (inside pa pb rest : List ℕ) → has_form form kind ≡ true
    → StrictQuotedFlaw form kind k inside pa rest → StrictQuotedFlaw form kind l inside pb rest → (k ≡ l) × (pa ≡ pb)
form_once CookedForm kind k l inside pa pb rest h p q = cooked_once kind k l inside pa pb rest h p q
form_once RawForm kind k l inside pa pb rest h p q = raw_once kind k l inside pa pb rest p q
form_once SingleForm kind k l inside pa pb rest h p q = single_once kind k l inside pa pb rest p q

quoted_opener : (k : FlawKind) (t piece rest : List ℕ) (q : HasStrictQuotedFlaw k t piece rest) → opener_at t
    ≡ found_opener q.form q.kind q.inside
quoted_opener k t piece rest q = ap opener_at q.text_is ∙ front_complete q.form q.kind q.inside q.is_form

quoted_once : (k l : FlawKind) (t pa pb rest : List ℕ) → HasStrictQuotedFlaw k t pa rest → HasStrictQuotedFlaw l t pb
    rest → (k ≡ l) × (pa ≡ pb)
quoted_once k l t pa pb rest p q =
    let same = opener_same t q.form p.form q.kind p.kind q.inside p.inside (quoted_opener l t pb rest q)
    (quoted_opener k t pa rest p) in
    form_once p.form p.kind k l p.inside pa pb rest p.is_form p.spoils
    (subst (λ z. StrictQuotedFlaw z.0 z.1 l z.2 pb rest) same q.spoils)

-- The text before the flaw of a quoted literal begins with the literal's opening delimiter.
front_opened : (k : FlawKind) (t front piece rest : List ℕ) → t ≡ front ++ rest → HasStrictQuotedFlaw k t piece rest
    → opener_at front ≡ None → ⊥
front_opened k t front piece rest e q none =
    let (m, cut) = quoted_cut q.form q.kind k q.inside piece rest q.spoils in
    let before = form_opener q.form q.kind in
    let is : front ≡ before ++ m = append_cancel_right front (before ++ m) rest
    (sym e ∙ q.text_is ∙ ap (λ z. before ++ z) cut ∙ sym (append_assoc before m rest)) in
    let h = sym none ∙ ap opener_at is ∙ front_complete q.form q.kind m q.is_form in
    absurd (cc)

-- ---- the flaw of a number

pub number_once : (k l : FlawKind) (front rest : List ℕ) → IsStrictNumberFlaw k front rest → IsStrictNumberFlaw l front
    rest → k ≡ l
number_once BadSuffix BadSuffix front rest p q = refl
number_once BadSuffix l front rest p q = absurd (p.2 l q)
number_once k BadSuffix front rest p q = absurd (q.2 k p)
number_once k l front rest p q =
    let same : Some k ≡ Some l = ap (λ (e : Ending). e.0) (sym (digit_kind k front rest p) ∙ digit_kind l front rest q)
    in
    cc

-- ---- the flaw of a text that begins neither as a number nor as a quoted literal

-- The kind of flaw of a text that begins neither as a number nor as a quoted literal. The first argument is the text before
-- the flaw, and the second argument the text from the flaw on.
word_of : List ℕ → List ℕ → FlawKind
word_of [] [] = Empty
word_of (c ∷ cs) [] = UnexpectedEnd
word_of [] (d ∷ ds) = cond (d == 45) Minus NotALiteral
word_of (c ∷ cs) (d ∷ ds) = NotALiteral

word_is : (k : FlawKind) (front rest : List ℕ) → IsStrictWordFlaw k front rest → k ≡ word_of front rest
unfolding word_of
word_is Empty [] [] h = refl
word_is Empty (c ∷ cs) [] (e, h) = absurd (cc)
word_is Empty front (d ∷ ds) (e, h) = absurd (cc)
word_is UnexpectedEnd [] [] (w, some, h) = absurd (some refl)
word_is UnexpectedEnd (c ∷ cs) [] h = refl
word_is UnexpectedEnd front (d ∷ ds) (w, some, h) = absurd (cc)
word_is NotALiteral front [] (w, some, m) = absurd (some refl)
word_is NotALiteral [] (d ∷ ds) (w, some, m) = sym (ap (λ b. cond b Minus NotALiteral) (m refl))
word_is NotALiteral (c ∷ cs) (d ∷ ds) h = refl
word_is Minus front [] (e, h) = absurd (cc)
word_is Minus [] (d ∷ ds) (e, h) = sym (ap (λ b. cond b Minus NotALiteral) h)
word_is Minus (c ∷ cs) (d ∷ ds) (e, h) = absurd (cc)
word_is k front rest h = absurd h

-- The text before a flaw of `IsStrictWordFlaw` doesn't begin as a number or as a quoted literal.
word_front : (k : FlawKind) (front rest : List ℕ) → IsStrictWordFlaw k front rest → IsFront front
word_front Empty front rest (e, h) = subst IsFront (sym e)
    (truth_front true [] (truth_text true) refl)
word_front Minus front rest (e, h) = subst IsFront (sym e)
    (truth_front true [] (truth_text true) refl)
word_front UnexpectedEnd front rest (w, some, h) = begins_front front w
word_front NotALiteral front rest (w, some, h) = begins_front front w
word_front k front rest h = absurd h

-- A prefix of a word (`true`, `false`, `b` or `c`) doesn't begin with a digit.
no_digit : (front : List ℕ) → IsFront front → first_passes is_ascii_digit front ≡ false
no_digit [] f = refl
no_digit (c ∷ cs) f = (or_parts (c == 45) (is_ascii_digit c) f.no_number).1

-- ---- the kind and the piece of a flaw

pub kinds_once : (k l : FlawKind) (t pa pb rest : List ℕ) → StopsBefore IsToken t rest → IsStrictFlawOf k t pa rest
    → IsStrictFlawOf l t pb rest → (k ≡ l) × (pa ≡ pb)
kinds_once k l t pa pb rest s p q = go p q
  where
    not_number : (k : FlawKind) (piece : List ℕ) → HasStrictQuotedFlaw k t piece rest
        → first_passes is_ascii_digit t ≡ true → ⊥
    not_number k piece a h = let e = sym (front_not_quoted t (digit_front t h))
        ∙ quoted_opener k t piece rest a in absurd
        (cc)

    not_word : (k l : FlawKind) (piece : List ℕ) → HasStrictQuotedFlaw k t piece rest → HasKind (IsStrictWordFlaw l) t
        rest → ⊥
    not_word k l piece a w = front_opened k t s.front piece rest s.text_is a
        (word_front l s.front rest (w s.front s.text_is)).no_opener

    neither : (l : FlawKind) → first_passes is_ascii_digit t ≡ true → HasKind (IsStrictWordFlaw l) t rest → ⊥
    neither l h w = both_ways (first_passes is_ascii_digit s.front) (no_digit s.front (word_front l s.front rest (w
        s.front s.text_is))) (goes_on t s.front rest s.text_is s.stuck h)

    go : IsStrictFlawOf k t pa rest → IsStrictFlawOf l t pb rest → (k ≡ l) × (pa ≡ pb)
    go (inl a) (inl b) = quoted_once k l t pa pb rest a b
    go (inl a) (inr (inl b)) = absurd (not_number k pa a b.0)
    go (inl a) (inr (inr b)) = absurd (not_word k l pa a b.0)
    go (inr (inl a)) (inl b) = absurd (not_number l pb b a.0)
    go (inr (inl a)) (inr (inl b)) = (
      number_once k l s.front rest (a.1 s.front s.text_is) (b.1 s.front s.text_is),
      a.2 ∙ sym b.2,
    )
    go (inr (inl a)) (inr (inr b)) = absurd (neither l a.0 b.0)
    go (inr (inr a)) (inl b) = absurd (not_word l k pb b a.0)
    go (inr (inr a)) (inr (inl b)) = absurd (neither k b.0 a.0)
    go (inr (inr a)) (inr (inr b)) = (
      word_is k s.front rest (a.0 s.front s.text_is) ∙ sym (word_is l s.front rest (b.0 s.front s.text_is)),
      a.1 ∙ sym b.1,
    )

-- ---- at most one flaw

-- The flaw's range begins after the longest prefix of `text` that can be completed to a text that satisfies `takes`. The
-- text to show for the flaw begins at `piece`. `says` relates the flaw's kind to `piece` and to the text from the flaw on.
pub record Explained (takes : List ℕ → Type 0) (says : FlawKind → List ℕ → List ℕ → Type 0) (text : List ℕ)
    (flaw : Flaw) : Type 0 where
  pub place : IsPlaced takes text flaw.lo flaw.hi
  pub before : List ℕ
  pub piece : List ℕ
  pub text_is : text ≡ before ++ piece
  pub from_is : flaw.from ≡ byte_len before
  pub kind : says flaw.kind piece place.rest

-- If `says` allows at most one kind of flaw and one `piece` at each position of a text, at most one flaw explains the text.
pub explained_once : (takes : List ℕ → Type 0) (says : FlawKind → List ℕ → List ℕ → Type 0) (text : List ℕ)
    → ((k l : FlawKind) (pa pb rest : List ℕ) → StopsBefore takes text rest → says k pa rest → says l pb rest
    → (k ≡ l) × (pa ≡ pb)) → (a b : Flaw) → Explained takes says text a → Explained takes says text b → a ≡ b
explained_once takes says text fits a b p q =
    let same = stops_once takes text p.place.rest q.place.rest p.place.stops q.place.stops in
    let lo = p.place.lo_is ∙ ap byte_len same.0 ∙ sym q.place.lo_is in
    let hi = p.place.hi_is ∙ ap (λ z. z + first_len p.place.rest) lo ∙ ap (λ z. b.lo + first_len z) same.1
    ∙ sym q.place.hi_is in
    let once = fits a.kind b.kind p.piece q.piece p.place.rest p.place.stops p.kind
    (subst (says b.kind q.piece) (sym same.1) q.kind) in
    let before = append_cancel_right p.before q.before q.piece
    (ap (λ z. p.before ++ z) (sym once.1) ∙ sym p.text_is ∙ q.text_is) in
    flaw_same a b once.0 (p.from_is ∙ ap byte_len before ∙ sym q.from_is) lo hi

-- At most one flaw explains why the text isn't a literal token.
pub one_strict_flaw : (text : List ℕ) → HasOneFlaw text
one_strict_flaw text a b p q =
    explained_once IsToken (λ k piece rest. IsStrictFlawOf k text piece rest) text
    (λ k l pa pb rest s. kinds_once k l text pa pb rest s) a b (of a p) (of b q)
  where
    of : (flaw : Flaw) → ExplainsStrictly text flaw
        → Explained IsToken (λ k piece rest. IsStrictFlawOf k text piece rest) text flaw
    of flaw x = record {
      place = x.place;
      before = x.before;
      piece = x.piece;
      text_is = x.text_is;
      from_is = x.from_is;
      kind = x.kind;
    }
