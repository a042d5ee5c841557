-- The search for the closing quote of a character or byte literal, step by step.
use Rattle.rl_flaws.proofs.Names.{◌≡◌, ◌≢◌, ◌⊎◌, ◌==◌, ◌&&◌, ◌||◌, ℕ, Bool, true, false, not, List, [], ◌∷◌, ◌++◌, refl, sym, ap, subst, ◌∙◌, inl, inr, both_ways, ne_eqb, first_passes, ◌↔◌, is_apostrophe, is_equal, read_of, LineEnds, first_of, quote_read, IsClosedBy, ClosesBy, ReachesQuote, begins_two_quotes}
use Rattle.rl_syntax.specs.Texts.{begins_char}
use Rattle.rl_lexer.specs.BadQuotes.{IsQuoteBody}
use Rattle.rl_lexer.specs.Lexemes.{BodyPart, PlainPart, EscapedPart, body_text}

no_empty : (test : ℕ → Bool) (t : List ℕ) → t ≡ [] → first_passes test t ≡ true → ⊥
no_empty test t e h = both_ways (first_passes test t) (ap (first_passes test) e) h

no_first : (test : ℕ → Bool) (t cs : List ℕ) (c : ℕ) → t ≡ c ∷ cs → test c ≡ false → first_passes test t ≡ true → ⊥
no_first test t cs c e n h = both_ways (first_passes test t) (ap (first_passes test) e ∙ n) h

-- If the text doesn't begin with a quote, the text before its closing quote begins with a plain character or an escape.
first_part : (c : ℕ) (t closing : List ℕ) → (c == 39) ≡ false → (r : ReachesQuote (c ∷ t) closing)
    → (p : BodyPart) × (parts : List BodyPart) × (r.parts ≡ p ∷ parts)
first_part c t closing other r = go r.parts refl
  where
    go : (parts : List BodyPart) → r.parts ≡ parts → (p : BodyPart) × (more : List BodyPart) × (r.parts ≡ p ∷ more)
    go [] e = absurd (no_first is_apostrophe closing t c
        (sym (r.inside_is ∙ ap (λ z. body_text z ++ closing) e)) other r.is_quote)
    go (p ∷ more) e = (p, more, e)

-- ---- the search for the closing quote at a quote, and at the text's end

pub quote_here : (t cs : List ℕ) (c : ℕ) → t ≡ c ∷ cs → (c == 39) ≡ true → ReachesQuote t t
quote_here t cs c e h =
    record { parts = []; is_body = tt; inside_is = refl; is_quote = ap (first_passes is_apostrophe) e ∙ h }

pub none_at_end : (t closing : List ℕ) → t ≡ [] → ReachesQuote t closing → ⊥
none_at_end t closing e r = go r.parts refl
  where
    go : (parts : List BodyPart) → r.parts ≡ parts → ⊥
    go [] p = no_empty is_apostrophe closing (sym (r.inside_is ∙ ap (λ z. body_text z ++ closing) p) ∙ e) r.is_quote
    go (PlainPart c ∷ more) p =
        let q : [] ≡ c ∷ (body_text more ++ closing) = sym e ∙ r.inside_is ∙ ap (λ z. body_text z ++ closing) p in
        absurd (cc)
    go (EscapedPart c ∷ more) p =
        let q : [] ≡ 92 ∷ (c ∷ (body_text more ++ closing)) = sym e ∙ r.inside_is
        ∙ ap (λ z. body_text z ++ closing) p in
        absurd (cc)

-- ---- the search for the closing quote after a character or escape

three_false : (a b d : Bool) → not (a || b || d) ≡ true → (a ≡ false) × (b ≡ false) × (d ≡ false)
three_false true b d h = absurd (cc)
three_false false true d h = absurd (cc)
three_false false false true h = absurd (cc)
three_false false false false h = (refl, refl, refl)

-- The text before the closing quote begins with `c`. Either `c` is a plain character, or it is a backslash that escapes the
-- next character.
abbrev Parted : ℕ → List ℕ → List ℕ → Type 0
Parted c t closing =
    ((parts : List BodyPart) × IsQuoteBody (PlainPart c ∷ parts) × (t ≡ body_text parts ++ closing))
    ⊎ ((c ≡ 92) × ((d : ℕ) × (parts : List BodyPart) × IsQuoteBody parts × (t ≡ d ∷ (body_text parts ++ closing))))

parted : (c : ℕ) (t closing : List ℕ) → (c == 39) ≡ false → ReachesQuote (c ∷ t) closing → Parted c t closing
parted c t closing other r = go (first_part c t closing other r)
  where
    go : (p : BodyPart) × (parts : List BodyPart) × (r.parts ≡ p ∷ parts) → Parted c t closing
    go (PlainPart d, parts, e) =
        let q : c ∷ t ≡ d ∷ (body_text parts ++ closing) = r.inside_is ∙ ap (λ z. body_text z ++ closing) e in
        let head : d ≡ c = cc in
        let tail : t ≡ body_text parts ++ closing = cc in
        inl (parts, subst (λ z. IsQuoteBody (PlainPart z ∷ parts)) head (subst IsQuoteBody e r.is_body), tail)
    go (EscapedPart d, parts, e) =
        let q : c ∷ t ≡ 92 ∷ (d ∷ (body_text parts ++ closing)) = r.inside_is ∙ ap (λ z. body_text z ++ closing) e in
        let head : c ≡ 92 = cc in
        let tail : t ≡ d ∷ (body_text parts ++ closing) = cc in
        inr (head, (d, parts, subst IsQuoteBody e r.is_body, tail))

-- If the text begins with the closing quote, nothing precedes the quote.
no_parts : (t : List ℕ) (closing : List ℕ) (r : ReachesQuote t closing) → begins_char 39 t ≡ true → r.parts ≡ []
no_parts t closing r quote = go r.parts refl
  where
    go : (parts : List BodyPart) → r.parts ≡ parts → r.parts ≡ []
    go [] e = e
    go (PlainPart c ∷ more) e =
        absurd (no_first (λ d. d == 39) t (body_text more ++ closing) c
        (r.inside_is ∙ ap (λ z. body_text z ++ closing) e)
        (three_false (c == 39) (c == 92) (c == 47) (subst IsQuoteBody e r.is_body).0).0 quote)
    go (EscapedPart c ∷ more) e =
        absurd (no_first (λ d. d == 39) t (c ∷ (body_text more ++ closing)) 92
        (r.inside_is ∙ ap (λ z. body_text z ++ closing) e) refl quote)

pub plain_passes : (c : ℕ) (t closing : List ℕ) → (c == 39) ≡ false → (c == 92) ≡ false → (c == 47) ≡ false
    → (c ≡ 10 → begins_char 39 t ≡ true) → ReachesQuote (c ∷ t) closing ↔ ReachesQuote t closing
plain_passes c t closing quote escape slash line = (λ r. past r (parted c t closing quote r), λ r. before r)
  where
    past : ReachesQuote (c ∷ t) closing → Parted c t closing → ReachesQuote t closing
    past r (inl (parts, is, e)) =
        record { parts = parts; is_body = is.2; inside_is = e; is_quote = r.is_quote }
    past r (inr (e, more)) = absurd (both_ways (c == 92) escape (ap (λ z. z == 92) e))

    before : ReachesQuote t closing → ReachesQuote (c ∷ t) closing
    before r = record {
      parts = PlainPart c ∷ r.parts;
      is_body = (
        ap (λ x. not (x || c == 92 || c == 47)) quote ∙ ap (λ x. not (x || c == 47)) escape ∙ ap not slash,
        λ e. no_parts t closing r (line e),
        r.is_body,
      );
      inside_is = ap (λ z. c ∷ z) r.inside_is;
      is_quote = r.is_quote;
    }

no_plain_escape : (parts : List BodyPart) → IsQuoteBody (PlainPart 92 ∷ parts) → ⊥
no_plain_escape parts is = absurd (both_ways true (three_false (92 == 39) (92 == 92) (92 == 47) is.0).1 refl)

pub escape_passes : (e : ℕ) (t closing : List ℕ) → ReachesQuote (92 ∷ (e ∷ t)) closing ↔ ReachesQuote t closing
escape_passes e t closing = (λ r. past r (parted 92 (e ∷ t) closing refl r), λ r. before r)
  where
    past : ReachesQuote (92 ∷ (e ∷ t)) closing → Parted 92 (e ∷ t) closing → ReachesQuote t closing
    past r (inl (parts, is, q)) = absurd (no_plain_escape parts is)
    past r (inr (same, (d, parts, is, q))) =
        let tail : t ≡ body_text parts ++ closing = cc in
        record { parts = parts; is_body = is; inside_is = tail; is_quote = r.is_quote }

    before : ReachesQuote t closing → ReachesQuote (92 ∷ (e ∷ t)) closing
    before r = record {
      parts = EscapedPart e ∷ r.parts;
      is_body = r.is_body;
      inside_is = ap (λ z. 92 ∷ (e ∷ z)) r.inside_is;
      is_quote = r.is_quote;
    }

-- ---- the positions where the search for the closing quote ends

pub escape_ends : (t closing : List ℕ) → t ≡ [] → ReachesQuote (92 ∷ t) closing → ⊥
escape_ends t closing none r = go (parted 92 t closing refl r)
  where
    go : Parted 92 t closing → ⊥
    go (inl (parts, is, q)) = no_plain_escape parts is
    go (inr (same, (d, parts, is, q))) =
        let bad : [] ≡ d ∷ (body_text parts ++ closing) = sym none ∙ q in
        absurd (cc)

pub slash_ends : (c : ℕ) (t closing : List ℕ) → (c == 39) ≡ false → (c == 47) ≡ true → ReachesQuote (c ∷ t) closing → ⊥
slash_ends c t closing quote slash r = go (parted c t closing quote r)
  where
    go : Parted c t closing → ⊥
    go (inl (parts, is, q)) = both_ways (c == 47) (three_false (c == 39) (c == 92) (c == 47) is.0).2 slash
    go (inr (same, more)) = both_ways (c == 47) (ap (λ z. z == 47) same) slash

pub line_ends : (c : ℕ) (t closing : List ℕ) → (c == 39) ≡ false → (c == 10) ≡ true → begins_char 39 t ≡ false
    → ReachesQuote (c ∷ t) closing → ⊥
line_ends c t closing quote line none r = go (parted c t closing quote r)
  where
    go : Parted c t closing → ⊥
    go (inl (parts, is, q)) =
        let same : t ≡ closing = q ∙ ap (λ z. body_text z ++ closing) (is.1 (is_equal c 10 line)) in
        both_ways (begins_char 39 t) none (ap (begins_char 39) same ∙ r.is_quote)
    go (inr (same, more)) = both_ways (c == 10) (ap (λ z. z == 10) same) line

-- ---- the search for the closing quote, as tests in the code

pub escape_part : (c e : ℕ) (t r closing : List ℕ) → c ≡ 92 → t ≡ e ∷ r
    → ReachesQuote (c ∷ t) closing ↔ ReachesQuote r closing
escape_part c e t r closing escape text = subst (λ z. ReachesQuote (z ∷ t) closing ↔ ReachesQuote r closing) (sym escape)
    (subst (λ z. ReachesQuote (92 ∷ z) closing ↔ ReachesQuote r closing) (sym text) (escape_passes e r closing))

pub search_ends : (how : LineEnds) (c : ℕ) (t closing : List ℕ) → c ≢ 39
    → (c == 47 || (c == 10 && not (begins_char 39 t))) ≡ true → ReachesQuote (c ∷ read_of how t) closing → ⊥
search_ends how c t closing other stop r = go (c == 47) (c == 10) (begins_char 39 t) refl refl refl stop
  where
    go : (a b d : Bool) → (c == 47) ≡ a → (c == 10) ≡ b → begins_char 39 t ≡ d → (a || (b && not d)) ≡ true → ⊥
    go true b d x y z h = slash_ends c (read_of how t) closing (ne_eqb c 39 other) x r
    go false true true x y z h = both_ways false refl h
    go false true false x y z h =
        line_ends c (read_of how t) closing (ne_eqb c 39 other) y (first_of how (λ e. e == 39) refl t ∙ z) r
    go false false d x y z h = both_ways false refl h

pub search_passes : (how : LineEnds) (c : ℕ) (t closing : List ℕ) → c ≢ 39 → c ≢ 92 → (c == 47 || (c == 10 && not
    (begins_char 39 t))) ≡ false → ReachesQuote (c ∷ read_of how t) closing ↔ ReachesQuote (read_of how t) closing
search_passes how c t closing quote escape on = go (c == 47) (c == 10) (begins_char 39 t) refl refl refl on
  where
    passes : (c == 47) ≡ false → (c ≡ 10 → begins_char 39 (read_of how t) ≡ true)
        → ReachesQuote (c ∷ read_of how t) closing ↔ ReachesQuote (read_of how t) closing
    passes slash line =
        plain_passes c (read_of how t) closing (ne_eqb c 39 quote) (ne_eqb c 92 escape) slash line

    go : (a b d : Bool) → (c == 47) ≡ a → (c == 10) ≡ b → begins_char 39 t ≡ d → (a || (b && not d)) ≡ false
        → ReachesQuote (c ∷ read_of how t) closing ↔ ReachesQuote (read_of how t) closing
    go true b d x y z h = absurd (both_ways true h refl)
    go false true true x y z h = passes x (λ e. first_of how (λ e. e == 39) refl t ∙ z)
    go false true false x y z h = absurd (both_ways true h refl)
    go false false d x y z h = passes x (λ e. absurd (both_ways (c == 10) y (ap (λ w. w == 10) e)))

-- The search for the closing quote skips one character or escape after the other. After each step, the closing quote of the
-- remaining text is the closing quote of the whole text.
pub passes_on : (t s f r closing : List ℕ) (c : ℕ) → ReachesQuote t closing ↔ ReachesQuote s closing → s ≡ c ∷ f
    → ReachesQuote (c ∷ f) closing ↔ ReachesQuote r closing → ReachesQuote t closing ↔ ReachesQuote r closing
passes_on t s f r closing c before e part = (
  λ x. part.0 (subst (λ z. ReachesQuote z closing) e (before.0 x)),
  λ y. before.1 (subst (λ z. ReachesQuote z closing) (sym e) (part.1 y)),
)

-- ---- a text that begins with two single quotes

two_quotes : (t cs : List ℕ) → t ≡ 39 ∷ cs → begins_two_quotes t ≡ begins_char 39 cs
two_quotes t cs e = ap begins_two_quotes e

pub second_closes : (how : LineEnds) (t second : List ℕ) → t ≡ 39 ∷ second → begins_char 39 second ≡ true
    → IsClosedBy (read_of how t) (read_of how second)
second_closes how t second e quote =
    let q = (quote_read how t second 39 e refl).0 in
    let two = two_quotes (read_of how t) (read_of how second) q ∙ first_of how (λ c. c == 39) refl second ∙ quote in
    subst (λ b. ClosesBy b (read_of how t) (read_of how second)) (sym two) q
