-- The parse result of a text that begins with an opening delimiter, with `true` or `false`, with a number, or with a minus.
-- In a file, CR LF is read as LF.
use Rattle.rl_strict.proofs.Names.{◌≡◌, ◌≢◌, ℕ, Bool, true, false, not, ◌==◌, List, [], ◌∷◌, ◌++◌, None, Some, refl, sym, ap, subst, ◌∙◌, inl, inr, and_parts, both_ways, is_ascii_digit, list_all, Kind, Str, first_passes, truth_text, form_opener, found_opener, opener_at, QuotedForm, CookedForm, RawForm, SingleForm, front_sound, ClosesForm, IsToken, FlawKind, Minus, NoNumber, UnexpectedEnd, LineEnds, Text, File, StopsBefore, IsRestOf, StopsAsRead, is_dropped, lf_text, read_of, IsFlawOf, IsTokenIf, IsSignedToken, IsStrictWordFlaw, IsStop, IsMinusStop, NumberRead, number_read_at, FoundFlaw, found_flaw, end_flaw_at, word_flaw_at, goes_on}
use Rattle.rl_strict.proofs.EndLemmas.{end_of, first_of, free_in, loose, read_flaw, self_in, step_in}
use Rattle.rl_strict.proofs.FileNumbers.{file_stop}
use Rattle.rl_strict.proofs.FileSuffixes.{lf_flaw, lf_opener, opener_read, word_read}
use Rattle.rl_strict.proofs.FileTextLemmas.{lacks_cr, line_of, stops_rest, when_kept}
use Rattle.rl_strict.proofs.ReadLemmas.{form_flaw, form_token, minus_alone, minus_number}
use Rattle.rl_strict.proofs.ReadNumbers.{stop_of}
use Rattle.rl_strict.proofs.SignedFlaws.{unsigned}
use Rattle.rl_strict.proofs.Stops.{raised}
use Rattle.rl_strict.proofs.StrictTokens.{no_token}
use Rattle.rl_strict.proofs.StrictWordFlaws.{IsStrictFlaw, strict_minus, strict_word}
use Rattle.rl_strict.proofs.WalkForms.{end_place, quote_read}

-- ---- opening delimiters

cooked_free : (k : Kind) → lacks_cr (form_opener CookedForm k) ≡ true
cooked_free Str = refl
cooked_free k = refl

raw_free : (k : Kind) → lacks_cr (form_opener RawForm k) ≡ true
raw_free Str = refl
raw_free k = refl

opener_free : (form : QuotedForm) (k : Kind) → lacks_cr (form_opener form k) ≡ true
opener_free CookedForm k = cooked_free k
opener_free RawForm k = raw_free k
opener_free SingleForm k = cooked_free k

pub opener_of : (how : LineEnds) (t : List ℕ) (form : QuotedForm) (k : Kind) (inside : List ℕ)
    → opener_at t ≡ found_opener form k inside → opener_at (read_of how t) ≡ found_opener form k (read_of how inside)
opener_of Text t form k inside e = e
opener_of File t form k inside e = opener_read t ∙ ap lf_opener e

no_opener_of : (how : LineEnds) (t : List ℕ) → opener_at t ≡ None → opener_at (read_of how t) ≡ None
no_opener_of Text t e = e
no_opener_of File t e = opener_read t ∙ ap lf_opener e

pub inside_in : (how : LineEnds) (t : List ℕ) (form : QuotedForm) (k : Kind) (inside : List ℕ)
    → opener_at t ≡ found_opener form k inside → IsRestOf how t inside
inside_in how t form k inside e =
    free_in how t (form_opener form k) inside (front_sound t (form, k, inside) e).text_is (opener_free form k)

-- If the text after an opening delimiter closes a quoted literal, the whole text is a literal token. In a file, CR LF is
-- read as LF.
pub opened_token : (how : LineEnds) (t : List ℕ) (form : QuotedForm) (k : Kind) (inside : List ℕ)
    → opener_at t ≡ found_opener form k inside → ClosesForm form k (read_of how inside) → IsToken (read_of how t)
opened_token how t form k inside e c =
    form_token (read_of how t) form k (read_of how inside) (opener_of how t form k inside e) c

-- The flaw of the text after an opening delimiter is the flaw of the whole text. In a file, CR LF is read as LF.
pub opened_flaw : (how : LineEnds) (t : List ℕ) (form : QuotedForm) (k : Kind) (inside : List ℕ) (f : FlawKind)
    (piece rest : List ℕ) → opener_at t ≡ found_opener form k inside
    → StopsAsRead how form k f (read_of how inside) inside piece rest → IsFlawOf how false t f piece rest
opened_flaw how t form k inside f piece rest e h =
    let flaw = form_flaw (read_of how t) form k (read_of how inside) f (read_of how piece) (read_of how rest)
    (opener_of how t form k inside e) h.stops in
    let cut = inside_in how t form k inside e in
    record {
      none = flaw.none;
      stops = flaw.stops;
      says = flaw.says;
      piece_in = step_in how t inside piece cut h.piece_in;
      rest_in = step_in how t inside rest cut h.rest_in;
    }

-- ---- the words `true` and `false`, and texts that begin otherwise

-- A text without LF contains no CR LF, so it doesn't change if CR LF is read as LF.
pub unread_same : (t : List ℕ) → list_all (λ c. not (c == 10)) (lf_text t) ≡ true → lf_text t ≡ t
unread_same [] h = refl
unread_same (c ∷ cs) h = go (unread_same cs) (is_dropped c cs) refl
  where
    At : List ℕ → Type 0
    At z = list_all (λ d. not (d == 10)) (lf_text z) ≡ true → lf_text z ≡ z

    line : (ds : List ℕ) → At (13 ∷ 10 ∷ ds)
    line ds k = absurd (both_ways false refl k)

    go : At cs → (b : Bool) → is_dropped c cs ≡ b → lf_text (c ∷ cs) ≡ c ∷ cs
    go ih true e = let found = line_of c cs e in subst At (sym found.1) (line found.0) h
    go ih false e =
        let kept = when_kept c cs e in
        kept ∙ ap (λ z. c ∷ z) (ih (and_parts (not (c == 10)) (list_all (λ d. not (d == 10)) (lf_text cs))
        (sym (ap (list_all (λ d. not (d == 10))) kept) ∙ h)).1)

truth_whole : (b : Bool) → list_all (λ c. not (c == 10)) (truth_text b) ≡ true
truth_whole true = refl
truth_whole false = refl

no_truth_of : (how : LineEnds) (t : List ℕ) → ((b : Bool) → t ≢ truth_text b) → (b : Bool) → read_of how t ≢ truth_text b
no_truth_of Text t none b e = none b e
no_truth_of File t none b e = none b (sym (unread_same t (ap (list_all (λ c. not (c == 10))) e ∙ truth_whole b)) ∙ e)

stops_in : (how : LineEnds) (t rest : List ℕ) → StopsBefore IsToken t rest → IsRestOf how t rest
stops_in Text t rest s = loose t rest (stops_rest t rest s)
stops_in File t rest s = stops_rest t rest s

word_of : (how : LineEnds) (t rest : List ℕ) (k : FlawKind) → found_flaw k rest ≡ word_flaw_at t
    → found_flaw k (read_of how rest) ≡ word_flaw_at (read_of how t)
word_of Text t rest k e = e
word_of File t rest k e = ap lf_flaw e ∙ sym (word_read t)

word_flaw : (how : LineEnds) (t piece rest : List ℕ) (k : FlawKind) → first_passes is_ascii_digit t ≡ false
    → opener_at t ≡ None → ((b : Bool) → t ≢ truth_text b) → piece ≡ t → IsStrictFlaw IsStrictWordFlaw t (k, rest)
    → IsStrictFlaw IsStrictWordFlaw (read_of how t) (k, read_of how rest) → IsFlawOf how false t k piece rest
word_flaw how t piece rest k digit opener truth is alone read = record {
  none = no_token (read_of how t) (no_opener_of how t opener) (first_of how is_ascii_digit refl t ∙ digit)
      (no_truth_of how t truth);
  stops = read.stops;
  says = inr (inr (read.has, ap (read_of how) is));
  piece_in = subst (IsRestOf how t) (sym is) (self_in how t);
  rest_in = stops_in how t rest alone.stops;
}

pub minus_word : (how : LineEnds) (t piece rest : List ℕ) (k : FlawKind) → first_passes is_ascii_digit t ≡ false
    → opener_at t ≡ None → ((b : Bool) → t ≢ truth_text b) → first_passes (λ c. c == 45) t ≡ true → k ≡ Minus
    → piece ≡ t → rest ≡ t → IsFlawOf how false t k piece rest
minus_word how t piece rest k digit opener truth minus kind is place =
    word_flaw how t piece rest k digit opener truth is (strict_minus t k rest minus kind place)
    (strict_minus (read_of how t) k (read_of how rest) (first_of how (λ c. c == 45) refl t ∙ minus) kind
    (ap (read_of how) place))

pub other_word : (how : LineEnds) (t piece rest : List ℕ) (k : FlawKind) → first_passes is_ascii_digit t ≡ false
    → opener_at t ≡ None → ((b : Bool) → t ≢ truth_text b) → first_passes (λ c. c == 45) t ≡ false
    → found_flaw k rest ≡ word_flaw_at t → piece ≡ t → IsFlawOf how false t k piece rest
other_word how t piece rest k digit opener truth minus same is =
    word_flaw how t piece rest k digit opener truth is (strict_word t (found_flaw k rest) digit minus opener same)
    (strict_word (read_of how t) (found_flaw k (read_of how rest)) (first_of how is_ascii_digit refl t ∙ digit)
    (first_of how (λ c. c == 45) refl t ∙ minus) (no_opener_of how t opener) (word_of how t rest k same))

-- ---- numbers

stop_at : (how : LineEnds) (t rest : List ℕ) (k : FlawKind) → first_passes is_ascii_digit t ≡ true
    → ◌≡◌ {A = NumberRead} (Some k, None, rest) (number_read_at t) → IsStop (read_of how t) k (read_of how rest)
stop_at Text t rest k d e = stop_of t k rest d e
stop_at File t rest k d e = file_stop t rest k d e

number_in : (how : LineEnds) (t rest : List ℕ) (k : FlawKind) → first_passes is_ascii_digit t ≡ true
    → ◌≡◌ {A = NumberRead} (Some k, None, rest) (number_read_at t) → IsRestOf how t rest
number_in how t rest k d e = stops_in how t rest (stop_of t k rest d e).stops

pub number_flaw : (how : LineEnds) (t rest : List ℕ) (k : FlawKind) → first_passes is_ascii_digit t ≡ true
    → ◌≡◌ {A = NumberRead} (Some k, None, rest) (number_read_at t) → IsFlawOf how false t k t rest
number_flaw how t rest k d e =
    let stop = stop_at how t rest k d e in
    record {
      none = stop.none;
      stops = stop.stops;
      says = inr (inl (first_of how is_ascii_digit refl t ∙ d, stop.kind, refl));
      piece_in = self_in how t;
      rest_in = number_in how t rest k d e;
    }

-- ---- a minus

after_minus : (how : LineEnds) (t number rest : List ℕ) (k : FlawKind) → t ≡ 45 ∷ number
    → IsMinusStop (read_of how number) k (read_of how rest) → IsRestOf how number rest → IsFlawOf how true t k t rest
after_minus how t number rest k text f r =
    let cut = quote_read how t number 45 text refl in
    let s = f.stops in
    record {
      none = λ y. f.none (subst IsSignedToken cut.0 y);
      stops = record { front = s.front; text_is = cut.0 ∙ s.text_is; begins = s.begins; stuck = s.stuck };
      says = inr (read_of how number, cut.0, f.says, refl);
      piece_in = self_in how t;
      rest_in = step_in how t number rest cut.1 r;
    }

pub minus_number_flaw : (how : LineEnds) (t number rest : List ℕ) (k : FlawKind) → t ≡ 45 ∷ number
    → first_passes is_ascii_digit number ≡ true
    → ◌≡◌ {A = NumberRead} (Some k, None, rest) (number_read_at number) → IsFlawOf how true t k t rest
minus_number_flaw how t number rest k text d e = after_minus how t number rest k text
    (minus_number (read_of how number) k (read_of how rest) (first_of how is_ascii_digit refl number ∙ d)
    (stop_at how number rest k d e)) (number_in how number rest k d e)

pub minus_alone_flaw : (how : LineEnds) (t number rest : List ℕ) (k : FlawKind) → t ≡ 45 ∷ number
    → first_passes is_ascii_digit number ≡ false → found_flaw k rest ≡ end_flaw_at UnexpectedEnd NoNumber number
    → IsFlawOf how true t k t rest
minus_alone_flaw how t number rest k text n same = after_minus how t number rest k text (minus_alone (read_of how
    number) k (read_of how rest) (first_of how is_ascii_digit refl number ∙ n) (ap (read_flaw how) same ∙ sym (end_of
    how UnexpectedEnd NoNumber number))) (subst (IsRestOf how number) (sym (ap (λ (z : FoundFlaw). z.1) same ∙ end_place
    UnexpectedEnd NoNumber number)) (self_in how number))

-- Where a minus before a number is allowed, the flaw of a text that doesn't begin with a minus is its flaw as a literal
-- token.
pub flaw_signed : (how : LineEnds) (signed : Bool) (t piece rest : List ℕ) (k : FlawKind) → (signed ≡ true →
    first_passes (λ c. c == 45) t ≡ false) → IsFlawOf how false t k piece rest → IsFlawOf how signed t k piece rest
flaw_signed how false t piece rest k none f = f
flaw_signed how true t piece rest k none f =
    let n = first_of how (λ c. c == 45) refl t ∙ none refl in
    let s = f.stops in
    record {
      none = λ y. f.none (unsigned (read_of how t) n y);
      stops = raised IsToken IsSignedToken [] (read_of how t) (read_of how rest) s inl
          (λ c cs e h y. unsigned (s.front ++ (c ∷ e))
          (goes_on (λ z. z == 45) s.front (read_of how rest) (read_of how t) c cs e s.text_is h n) y);
      says = inl (n, f.says);
      piece_in = f.piece_in;
      rest_in = f.rest_in;
    }

pub token_signed : (signed : Bool) (t : List ℕ) → IsToken t → IsTokenIf signed t
token_signed false t y = y
token_signed true t y = inl y
