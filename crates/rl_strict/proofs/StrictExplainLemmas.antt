-- The byte offsets of flaws in Rust's grammar.
use Rattle.rl_strict.proofs.Names.{◌≡◌, ℕ, List, [], ◌∷◌, ◌+◌, ◌++◌, length, replicate, refl, sym, ap, ◌∙◌, inl, inr, append_assoc, flat_map, IsUtf8, encode_utf8_all, encodes-append, encodes-chars, byte_len, Kind, strict_text, chars, FlawKind, UnexpectedEnd, NoQuote, Unclosed, Nul, NotAscii, TwoCharacters, TooManyHashes, CarriageReturn, TextAfterQuote, ExtraHash, QuotedForm, CookedForm, RawForm, SingleForm, StopsBefore, form_opener, ClosedFlaw, IsClosed, IsOpen, OpenFlaw, StrictCloserFlaw, StrictQuotedFlaw, StrictRawFlaw, suffix_piece, IsStrictFlawOf, IsToken, length-append}
use Rattle.rl_strict.proofs.OneStrictUnit.{strict_unit_cut}

-- A text has as many bytes as a prefix of the text and the text after the prefix together.
pub cut_bytes : (t rest front : List ℕ) → IsUtf8 t → IsUtf8 rest → chars t ≡ front ++ chars rest → length t
    ≡ byte_len front + length rest
cut_bytes t rest front ut ur cut =
    ap length (sym (encodes-chars t ut))
    ∙ ap byte_len cut
    ∙ ap length (encodes-append front (chars rest))
    ∙ length-append (encode_utf8_all front) (encode_utf8_all (chars rest))
    ∙ ap (λ z. byte_len front + length z) (encodes-chars rest ur)

-- ---- the text to show for a flaw is an end of the whole text

abbrev Tail : List ℕ → List ℕ → Type 0
Tail t piece = (before : List ℕ) × (t ≡ before ++ piece)

tail_more : (a b c : List ℕ) → Tail a b → Tail b c → Tail a c
tail_more a b c (p, e) (q, h) = (p ++ q, e ∙ ap (λ z. p ++ z) h ∙ sym (append_assoc p q c))

-- An end of the text after the opening delimiter is an end of the whole text.
inside_tail : (t before inside piece : List ℕ) → t ≡ before ++ inside → Tail inside piece → Tail t piece
inside_tail t before inside piece e k = tail_more t inside piece (before, e) k

raw_tail : (kind : Kind) (k : FlawKind) (t before inside piece rest : List ℕ) → t ≡ before ++ inside → Tail t rest
    → StrictRawFlaw kind k inside piece rest → Tail t piece
raw_tail kind TooManyHashes t before inside piece rest e r h = (before, e ∙ ap (λ z. before ++ z) (sym h.2))
raw_tail kind UnexpectedEnd t before inside piece rest e r h = (r.0, r.1 ∙ ap (λ z. r.0 ++ z) (sym h.2))
raw_tail kind NoQuote t before inside piece rest e r h = (r.0, r.1 ∙ ap (λ z. r.0 ++ z) (sym h.2))
raw_tail kind Unclosed t before inside piece rest e r h = (r.0, r.1 ∙ ap (λ z. r.0 ++ z) (sym h.2))
raw_tail kind CarriageReturn t before inside piece rest e r h = (r.0, r.1 ∙ ap (λ z. r.0 ++ z) (sym h.1))
raw_tail kind Nul t before inside piece rest e r h = (r.0, r.1 ∙ ap (λ z. r.0 ++ z) (sym h.2))
raw_tail kind NotAscii t before inside piece rest e r h = (r.0, r.1 ∙ ap (λ z. r.0 ++ z) (sym h.2))
raw_tail kind k t before inside piece rest e r h = absurd h

open_tail : (form : QuotedForm) (kind : Kind) (k : FlawKind) (t before inside piece rest : List ℕ) → t ≡ before ++
    inside → Tail t rest → OpenFlaw form kind k inside piece rest → Tail t piece
open_tail CookedForm kind k t before inside piece rest e r h = inside_tail t before inside piece e
    (flat_map strict_text h.0.units, h.0.text_is)
open_tail SingleForm kind k t before inside piece rest e r h = (before, e ∙ ap (λ z. before ++ z) (sym h.1))
open_tail RawForm kind k t before inside piece rest e r h = raw_tail kind k t before inside piece rest e r h

-- In a closed quoted literal, the text from the closing quote on and the suffix are ends of the text after the opening
-- delimiter.
closing_tail : (form : QuotedForm) (kind : Kind) (inside closing suffix : List ℕ)
    → IsClosed form kind inside closing suffix → Tail inside closing × Tail closing suffix
closing_tail CookedForm kind inside closing suffix h = ((flat_map strict_text h.0.units, h.0.text_is), (34 ∷ [], h.1))
closing_tail SingleForm kind inside closing suffix h = ((strict_text h.0.unit, h.0.text_is), (39 ∷ [], h.1))
closing_tail RawForm kind inside closing suffix h =
    let hs : List ℕ = replicate h.0 35 in (
      (hs ++ (34 ∷ h.1.body), h.1.text_is ∙ sym (append_assoc hs (34 ∷ h.1.body) closing)),
      (34 ∷ hs, h.2),
    )

piece_tail : (k : FlawKind) (t closing suffix : List ℕ) → Tail t closing → Tail t suffix
    → Tail t (suffix_piece k closing suffix)
piece_tail ExtraHash t closing suffix a b = a
piece_tail TextAfterQuote t closing suffix a b = a
piece_tail k t closing suffix a b = b

closed_tail : (form : QuotedForm) (kind : Kind) (k : FlawKind) (inside piece rest : List ℕ)
    → ClosedFlaw form kind k inside piece rest → Tail inside piece
closed_tail form kind k inside piece rest h =
    let tails = closing_tail form kind inside h.closing (h.front ++ rest) h.closed in
    let found = piece_tail k inside h.closing (h.front ++ rest) tails.0
    (tail_more inside h.closing (h.front ++ rest) tails.0 tails.1) in
    (found.0, found.1 ∙ ap (λ z. found.0 ++ z) (sym h.piece_is))

pub piece_front : (k : FlawKind) (t piece rest : List ℕ) → StopsBefore IsToken t rest → IsStrictFlawOf k t piece rest
    → (before : List ℕ) × (t ≡ before ++ piece)
piece_front k t piece rest s (inl q) = elim q.spoils [
  | inl h ↦ open_tail q.form q.kind k t (form_opener q.form q.kind) q.inside piece rest q.text_is (s.front, s.text_is) h
  | inr h ↦ inside_tail t (form_opener q.form q.kind) q.inside piece q.text_is
      (closed_tail q.form q.kind k q.inside piece rest h)
]
piece_front k t piece rest s (inr (inl n)) = ([], sym n.2)
piece_front k t piece rest s (inr (inr w)) = ([], sym w.1)

-- ---- the flaw is in the text after the opening delimiter

open_cut : (kind : Kind) (hashes : ℕ) (t rest : List ℕ) → IsOpen kind hashes t rest → Tail t rest
open_cut kind hashes t rest o = (
  replicate hashes 35 ++ (34 ∷ o.body),
  o.text_is ∙ sym (append_assoc (replicate hashes 35) (34 ∷ o.body) rest),
)

raw_cut : (kind : Kind) (k : FlawKind) (t piece rest : List ℕ) → StrictRawFlaw kind k t piece rest → Tail t rest
raw_cut kind TooManyHashes t piece rest h = (replicate 255 35, h.0)
raw_cut kind UnexpectedEnd t piece rest h = (replicate h.0.hashes 35, h.0.text_is)
raw_cut kind NoQuote t piece rest h = (replicate h.0.hashes 35, h.0.text_is)
raw_cut kind Unclosed t piece rest h = open_cut kind h.0.0 t rest h.0.1
raw_cut kind CarriageReturn t piece rest h = open_cut kind h.0.0 t rest h.0.1
raw_cut kind Nul t piece rest h = open_cut kind h.1.0 t rest h.1.1
raw_cut kind NotAscii t piece rest h = open_cut kind h.1.0 t rest h.1.1
raw_cut kind k t piece rest h = absurd h

closer_cut : (kind : Kind) (k : FlawKind) (t rest : List ℕ) → StrictCloserFlaw kind k t rest → Tail t rest
closer_cut kind Unclosed t rest h = (strict_text h.0.unit, h.0.text_is)
closer_cut kind TwoCharacters t rest h = (strict_text h.0.unit, h.0.text_is)
closer_cut kind k t rest h = absurd h

before_closer_cut : (form : QuotedForm) (kind : Kind) (k : FlawKind) (t piece rest : List ℕ)
    → OpenFlaw form kind k t piece rest → Tail t rest
before_closer_cut CookedForm kind k t piece rest h = tail_more t piece rest
    (flat_map strict_text h.0.units, h.0.text_is) (strict_unit_cut kind k piece rest h.2)
before_closer_cut SingleForm kind k t piece rest h = elim h.0 [
  | inl u ↦ strict_unit_cut kind k t rest u.1
  | inr c ↦ closer_cut kind k t rest c
]
before_closer_cut RawForm kind k t piece rest h = raw_cut kind k t piece rest h

pub quoted_cut : (form : QuotedForm) (kind : Kind) (k : FlawKind) (t piece rest : List ℕ)
    → StrictQuotedFlaw form kind k t piece rest → (m : List ℕ) × (t ≡ m ++ rest)
quoted_cut form kind k t piece rest (inl h) = before_closer_cut form kind k t piece rest h
quoted_cut form kind k t piece rest (inr h) =
    let tails = closing_tail form kind t h.closing (h.front ++ rest) h.closed in
    tail_more t (h.front ++ rest) rest (tail_more t h.closing (h.front ++ rest) tails.0 tails.1) (h.front, refl)
