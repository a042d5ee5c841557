-- The position where a text that begins neither as a number nor as a quoted literal can't continue as `true` or `false`.
use Rattle.rl_strict.proofs.Names.{◌≡◌, ◌≢◌, ℕ, Bool, true, false, cond, ◌||◌, ◌==◌, List, [], ◌∷◌, ◌++◌, None, Some, inl, inr, refl, sym, ap, subst, ◌∙◌, append-nil, AllByRecursion, both_ways, cases_Bool, eq-eqb, eqb-true, or_parts, append_cancel_right, IsScalar, cond_both, append_cancel_left, Kind, BoolKind, Byte, ByteStr, Char, CStr, Str, is_string, opener, HasContents, HasNoTruth, HasReading, quoted_contents, truth_text, first_passes, StopsBefore, HasKind, QuotedForm, CookedForm, RawForm, SingleForm, is_number_front, UnexpectedEnd, NotALiteral, FoundOpener, byte_opener_at, found_opener, opener_at, string_opener_at, FoundFlaw, found_flaw, after_letters, word_flaw_at, end_flaw_at, no_front, no_front_number, no_reading, FlawKind, BeginsWord, IsWordFlaw}
use Rattle.rl_lenient.proofs.Names.{Truth}
use Rattle.rl_strict.proofs.Stops.{Flawed}

-- The longest prefix of the text that can be completed to a literal of `syn`'s grammar ends at the flaw, and the flaw's kind
-- describes the error.
abbrev pub IsFlaw : (FlawKind → List ℕ → List ℕ → Type 0) → List ℕ → FoundFlaw → Type 0
IsFlaw says t flaw = Flawed HasReading t flaw.1 (HasKind (says flaw.0) t flaw.1)

-- ---- the words `true` and `false` in the code

pub true_place : (t w cs : List ℕ) (c : ℕ) → t ≡ c ∷ cs → c ≡ 116 → w ≡ truth_text true
    → end_flaw_at UnexpectedEnd NotALiteral (after_letters w t) ≡ word_flaw_at t
unfolding word_flaw_at
true_place t w cs c is letter word =
    let e : t ≡ 116 ∷ cs = is ∙ ap (λ z. z ∷ cs) letter in
    ap (λ v. end_flaw_at UnexpectedEnd NotALiteral (after_letters v t)) word
    ∙ subst (λ z. end_flaw_at UnexpectedEnd NotALiteral (after_letters (truth_text true) z) ≡ word_flaw_at z) (sym e) refl

pub false_place : (t w cs : List ℕ) (c : ℕ) → t ≡ c ∷ cs → c ≡ 102 → w ≡ truth_text false
    → end_flaw_at UnexpectedEnd NotALiteral (after_letters w t) ≡ word_flaw_at t
unfolding word_flaw_at
false_place t w cs c is letter word =
    let e : t ≡ 102 ∷ cs = is ∙ ap (λ z. z ∷ cs) letter in
    ap (λ v. end_flaw_at UnexpectedEnd NotALiteral (after_letters v t)) word
    ∙ subst (λ z. end_flaw_at UnexpectedEnd NotALiteral (after_letters (truth_text false) z) ≡ word_flaw_at z) (sym e) refl

-- ---- texts that aren't literals

nothing_reads : (t : List ℕ) → opener_at t ≡ None → first_passes is_number_front t ≡ false → HasNoTruth t → HasReading t
    → ⊥
nothing_reads t opener number truth r = no_reading t (no_front t opener) (no_front_number t number) truth r.0 r.1.0
    r.1.1 r.1.2

truth_reads : (b : Bool) → HasReading (truth_text b)
truth_reads b = (BoolKind, (Truth b, [], record { truth = b; text_is = refl; suffix_is = refl; contents_is = refl }))

-- A text that begins with neither `t` nor `f` is neither `true` nor `false`.
other_first : (c : ℕ) (cs : List ℕ) → (c == 116) ≡ false → (c == 102) ≡ false → HasNoTruth (c ∷ cs)
other_first c cs t f v x r = go r.truth r.text_is
  where
    go : (b : Bool) → c ∷ cs ≡ truth_text b → ⊥
    go true e = both_ways (c == 116) t (ap (first_passes (λ z. z == 116)) e)
    go false e = both_ways (c == 102) f (ap (first_passes (λ z. z == 102)) e)

-- ---- common prefixes with the words `true` and `false`

-- `front` is the longest common prefix of the text `t` and the word. `left` is the end of the word after `front`.
record Common (word t : List ℕ) : Type 0 where
  front : List ℕ
  left : List ℕ
  word_is : word ≡ front ++ left
  text_is : t ≡ front ++ after_letters word t
  differ : (c : ℕ) (cs e : List ℕ) → after_letters word t ≡ c ∷ cs → left ≢ c ∷ e
  are_characters : AllByRecursion IsScalar word → AllByRecursion IsScalar left

common : (word t : List ℕ) → Common word t
common [] t = record { front = []; left = []; word_is = refl; text_is = refl; differ = λ c cs e h k. absurd (cc); are_characters = λ a. a }
common (w ∷ ws) [] = record { front = []; left = w ∷ ws; word_is = refl; text_is = refl; differ = λ c cs e h k. absurd (cc); are_characters = λ a. a }
common (w ∷ ws) (c ∷ cs) = go (c == w) refl (common ws cs)
  where
    go : (b : Bool) → (c == w) ≡ b → Common ws cs → Common (w ∷ ws) (c ∷ cs)
    go true e k =
        let rest : after_letters (w ∷ ws) (c ∷ cs) ≡ after_letters ws cs = ap
        (λ b. cond b (after_letters ws cs) (c ∷ cs)) e in
        record {
          front = w ∷ k.front;
          left = k.left;
          word_is = ap (λ z. w ∷ z) k.word_is;
          text_is = ap (λ z. z ∷ cs) (eqb-true c w e) ∙ ap (λ z. w ∷ z) k.text_is
              ∙ ap (λ z. w ∷ (k.front ++ z)) (sym rest);
          differ = λ d ds r h. k.differ d ds r (sym rest ∙ h);
          are_characters = λ a. k.are_characters a.1;
        }
    go false e k =
        let rest : after_letters (w ∷ ws) (c ∷ cs) ≡ c ∷ cs = ap (λ b. cond b (after_letters ws cs) (c ∷ cs)) e in
        record {
          front = [];
          left = w ∷ ws;
          word_is = refl;
          text_is = sym rest;
          differ = λ d ds r h q.
              let same : c ≡ d = let s = sym rest ∙ h in cc in
              let other : w ≡ d = cc in
              both_ways (c == w) e (ap (λ z. z == w) (same ∙ sym other) ∙ eq-eqb w w refl);
          are_characters = λ a. a;
        }

pub truth_characters : (b : Bool) → AllByRecursion IsScalar (truth_text b)
truth_characters true = (refl, (refl, (refl, (refl, tt))))
truth_characters false = (refl, (refl, (refl, (refl, (refl, tt)))))

-- `k.front` is the common prefix of the text `t` and the word, `true` or `false`. No text that begins with `k.front` has an
-- opening delimiter, or begins as a number. Only the word completes `k.front` to `true` or `false`.
record WordFront (b : Bool) (t : List ℕ) (k : Common (truth_text b) t) : Type 0 where
  no_opener : (e : List ℕ) → opener_at (k.front ++ e) ≡ None
  no_number : (e : List ℕ) → first_passes is_number_front (k.front ++ e) ≡ false
  only : (e : List ℕ) (d : Bool) → k.front ++ e ≡ truth_text d → d ≡ b

-- Suppose that the longest prefix of a nonempty text that can be completed to a literal is a prefix of a word (`true`,
-- `false`, `b` or `c`). Then the flaw is `UnexpectedEnd` at the text's end, or `NotALiteral` at a character.
ends : (t front rest : List ℕ) → StopsBefore HasReading t rest → t ≡ front ++ rest → t ≢ [] → BeginsWord front
    → IsFlaw IsWordFlaw t (end_flaw_at UnexpectedEnd NotALiteral rest)
ends t front [] stops cut some begins = record {
  stops = stops;
  has = λ x is. (
    subst BeginsWord (append_cancel_right front x [] (sym cut ∙ is)) begins,
    (λ n. some (is ∙ append-nil x ∙ n)),
    refl,
  );
}
ends t front (c ∷ cs) stops cut some begins = record {
  stops = stops;
  has = λ x is. (subst BeginsWord (append_cancel_right front x (c ∷ cs) (sym cut ∙ is)) begins, λ n. absurd (cc));
}

letters_flaw : (b : Bool) (t : List ℕ) (k : Common (truth_text b) t) → WordFront b t k → t ≢ []
    → IsFlaw IsWordFlaw t (end_flaw_at UnexpectedEnd NotALiteral (after_letters (truth_text b) t))
letters_flaw b t k f some = ends t k.front (after_letters (truth_text b) t) (record {
  front = k.front;
  text_is = k.text_is;
  begins = record { ending = k.left; are_characters = k.are_characters (truth_characters b); is_taken = subst HasReading k.word_is (truth_reads b) };
  stuck = λ c cs e h r.
      nothing_reads (k.front ++ (c ∷ e)) (f.no_opener (c ∷ e)) (f.no_number (c ∷ e)) (λ v x q.
      let same : truth_text q.truth ≡ truth_text b = ap truth_text (f.only (c ∷ e) q.truth q.text_is) in
      k.differ c cs e h (sym (append_cancel_left k.front (c ∷ e) k.left (q.text_is ∙ same ∙ k.word_is)))) r;
}) k.text_is some (inr (inr (record { truth = b; more = k.left; word_is = k.word_is })))

true_first : (cs : List ℕ) (d : Bool) → 116 ∷ cs ≡ truth_text d → d ≡ true
true_first cs true e = refl
true_first cs false e = absurd (both_ways true (ap (first_passes (λ c. c == 116)) e) refl)

false_first : (cs : List ℕ) (d : Bool) → 102 ∷ cs ≡ truth_text d → d ≡ false
false_first cs true e = absurd (both_ways true (ap (first_passes (λ c. c == 102)) e) refl)
false_first cs false e = refl

true_flaw : (cs : List ℕ) → IsFlaw IsWordFlaw (116 ∷ cs) (end_flaw_at UnexpectedEnd NotALiteral
    (after_letters (truth_text true) (116 ∷ cs)))
unfolding opener_at common
true_flaw cs = letters_flaw true (116 ∷ cs) (common (truth_text true) (116 ∷ cs))
    (record { no_opener = λ e. refl; no_number = λ e. refl; only = λ e d h. true_first _ d h }) (λ n. absurd (cc))

false_flaw : (cs : List ℕ) → IsFlaw IsWordFlaw (102 ∷ cs) (end_flaw_at UnexpectedEnd NotALiteral
    (after_letters (truth_text false) (102 ∷ cs)))
unfolding opener_at common
false_flaw cs = letters_flaw false (102 ∷ cs) (common (truth_text false) (102 ∷ cs))
    (record { no_opener = λ e. refl; no_number = λ e. refl; only = λ e d h. false_first _ d h }) (λ n. absurd (cc))

-- ---- texts that begin with neither `t` nor `f`

-- The form and the kind of a quoted literal, and the text after its opening delimiter.
abbrev Opened : Type 0
Opened = QuotedForm × Kind × List ℕ

picks : (a b r : Bool) (x y z u v w : Opened) → cond a (Some x) (cond b (Some y) (cond r (Some z) None)) ≡ None
    → cond a (Some u) (cond b (Some v) (cond r (Some w) None)) ≡ None
picks true b r x y z u v w h = absurd (cc)
picks false true r x y z u v w h = absurd (cc)
picks false false true x y z u v w h = absurd (cc)
picks false false false x y z u v w h = refl

-- The character `b` or `c`, which may begin the opening delimiter of a quoted literal.
record IsPrefix (c : ℕ) : Type 0 where
  reads : HasReading (c ∷ 34 ∷ 34 ∷ [])
  no_number : is_number_front c ≡ false
  no_true : (c == 116) ≡ false
  no_false : (c == 102) ≡ false
  alike : (d : ℕ) (ds e : List ℕ) → opener_at (c ∷ d ∷ ds) ≡ None → opener_at (c ∷ d ∷ e) ≡ None

empty_reads : (kind : Kind) → is_string kind ≡ true → HasContents kind (opener kind ++ (34 ∷ []))
    (quoted_contents kind []) → HasReading (opener kind ++ (34 ∷ []))
empty_reads kind s r = (kind, (quoted_contents kind [], r.0, r.1))

byte_prefix : IsPrefix 98
unfolding opener_at
byte_prefix = record {
  reads = empty_reads ByteStr refl ([], record { value = []; form = inl (record { units = []; string = refl; each = tt; ends = tt; text_is = refl; value_is = refl }); contents_is = refl });
  no_number = refl;
  no_true = refl;
  no_false = refl;
  alike = λ d ds e h. picks (d == 39) (d == 34) (d == 114) (SingleForm, Byte, ds) (CookedForm, ByteStr, ds)
      (RawForm, ByteStr, ds) (SingleForm, Byte, e) (CookedForm, ByteStr, e) (RawForm, ByteStr, e) h;
}

c_prefix : IsPrefix 99
unfolding opener_at
c_prefix = record {
  reads = empty_reads CStr refl ([], record { value = []; form = inl (record { units = []; string = refl; each = tt; ends = tt; text_is = refl; value_is = refl }); contents_is = refl });
  no_number = refl;
  no_true = refl;
  no_false = refl;
  alike = λ d ds e h. picks false (d == 34) (d == 114) (CookedForm, CStr, ds) (CookedForm, CStr, ds) (RawForm, CStr, ds)
      (CookedForm, CStr, e) (CookedForm, CStr, e) (RawForm, CStr, e) h;
}

prefix_flaw : (k c : ℕ) (cs : List ℕ) → IsPrefix k → BeginsWord (k ∷ []) → (c == k) ≡ true → opener_at (c ∷ cs) ≡ None
    → IsFlaw IsWordFlaw (c ∷ cs) (end_flaw_at UnexpectedEnd NotALiteral cs)
prefix_flaw k c cs is begins e none =
    let same = eqb-true c k e in
    let stops : StopsBefore HasReading (k ∷ cs) cs = record {
      front = k ∷ [];
      text_is = refl;
      begins = record { ending = 34 ∷ 34 ∷ []; are_characters = (refl, (refl, tt)); is_taken = is.reads };
      stuck = λ d ds r h q. nothing_reads (k ∷ d ∷ r) (is.alike d ds r
          (ap (λ z. opener_at (k ∷ z)) (sym h) ∙ ap (λ z. opener_at (z ∷ cs)) (sym same) ∙ none)) is.no_number
          (other_first k (d ∷ r) is.no_true is.no_false) q;
    } in
    subst (λ z. IsFlaw IsWordFlaw (z ∷ cs) (end_flaw_at UnexpectedEnd NotALiteral cs)) (sym same)
    (ends (k ∷ cs) (k ∷ []) cs stops refl (λ n. absurd (cc)) begins)

other_opener : (c : ℕ) (cs e : List ℕ) → (c == 98) ≡ false → (c == 99) ≡ false → opener_at (c ∷ cs) ≡ None
    → opener_at (c ∷ e) ≡ None
unfolding opener_at
other_opener c cs e b k h =
    let F : Bool → Bool → List ℕ → FoundOpener = λ x y z. cond (c == 39) (found_opener SingleForm Char z)
    (cond x (byte_opener_at z) (cond y (string_opener_at CStr z) (string_opener_at Str (c ∷ z)))) in
    let plain : (z : List ℕ) → F (c == 98) (c == 99) z ≡ F false false z = λ z. ap (λ x. F x (c == 99) z) b
    ∙ ap (λ y. F false y z) k in
    plain e ∙ picks (c == 39) (c == 34) (c == 114) (SingleForm, Char, cs) (CookedForm, Str, cs) (RawForm, Str, cs)
    (SingleForm, Char, e) (CookedForm, Str, e) (RawForm, Str, e) (sym (plain cs) ∙ h)

no_front_flaw : (c : ℕ) (cs : List ℕ) → (c == 98) ≡ false → (c == 99) ≡ false → (c == 116) ≡ false → (c == 102) ≡ false
    → opener_at (c ∷ cs) ≡ None → is_number_front c ≡ false → IsFlaw IsWordFlaw (c ∷ cs) (found_flaw NotALiteral (c ∷ cs))
no_front_flaw c cs b k t f none number = record {
  stops = record {
    front = [];
    text_is = refl;
    begins = record { ending = truth_text true; are_characters = truth_characters true; is_taken = truth_reads true };
    stuck = λ d ds e h r.
        let same : c ≡ d = cc in
        nothing_reads (c ∷ e) (other_opener c cs e b k none) number (other_first c e t f)
        (subst (λ z. HasReading (z ∷ e)) (sym same) r);
  };
  has = λ front is. (inr (inr (record { truth = true; more = truth_text true; word_is = ap (λ z. z ++ truth_text true) (append_cancel_right [] front (c ∷ cs) is) })), λ n. absurd (cc));
}

word_flaw : (t : List ℕ) → first_passes is_number_front t ≡ false → opener_at t ≡ None
    → IsFlaw IsWordFlaw t (word_flaw_at t)
unfolding word_flaw_at
word_flaw [] number none = record {
  stops = record {
    front = [];
    text_is = refl;
    begins = record { ending = truth_text true; are_characters = truth_characters true; is_taken = truth_reads true };
    stuck = λ c cs e h r. absurd (cc);
  };
  has = λ front is. (sym (is ∙ append-nil front), refl);
}
word_flaw (c ∷ cs) number none = cond_both (c == 98 || c == 99) _ _ P prefixed (λ e. cond_both (c == 116) _ _ P (worded
    true 116 true_flaw) (λ t. cond_both (c == 102) _ _ P (worded false 102 false_flaw) (other e t)))
  where
    P : FoundFlaw → Type 0
    P = IsFlaw IsWordFlaw (c ∷ cs)

    At : Bool → ℕ → Type 0
    At b k = IsFlaw IsWordFlaw (k ∷ cs) (end_flaw_at UnexpectedEnd NotALiteral (after_letters (truth_text b) (k ∷ cs)))

    worded : (b : Bool) (k : ℕ) → ((xs : List ℕ) → IsFlaw IsWordFlaw (k ∷ xs)
        (end_flaw_at UnexpectedEnd NotALiteral (after_letters (truth_text b) (k ∷ xs)))) → (c == k) ≡ true → At b c
    worded b k flaw e = subst (At b) (sym (eqb-true c k e)) (flaw cs)

    prefixed : (c == 98 || c == 99) ≡ true → P (end_flaw_at UnexpectedEnd NotALiteral cs)
    prefixed e = elim (cases_Bool (c == 98)) [
      | inl b ↦ prefix_flaw 98 c cs byte_prefix (inl refl) b none
      | inr b ↦ prefix_flaw 99 c cs c_prefix (inr (inl refl)) (sym (ap (λ z. z || (c == 99)) b) ∙ e) none
    ]

    other : (c == 98 || c == 99) ≡ false → (c == 116) ≡ false → (c == 102) ≡ false → P (found_flaw NotALiteral (c ∷ cs))
    other e t f =
        let prefix = or_parts (c == 98) (c == 99) e in
        no_front_flaw c cs prefix.0 prefix.1 t f none number

-- If a text begins neither as a number nor as a quoted literal, the flaw that the code returns satisfies the definition of
-- its kind.
pub word_place : (t : List ℕ) (flaw : FoundFlaw) → first_passes is_number_front t ≡ false → opener_at t ≡ None → flaw
    ≡ word_flaw_at t → IsFlaw IsWordFlaw t flaw
word_place t flaw number none same = subst (IsFlaw IsWordFlaw t) (sym same) (word_flaw t number none)
