-- The parse result of a literal's text. In a file, a string parses as the text with CR LF read as LF. Any other literal
-- parses as written.
use Rattle.rl_strict.proofs.Names.{◌≡◌, ℕ, ◌+◌, ◌-◌, ◌≤◌, ◌==◌, Bool, true, false, not, List, ◌∷◌, ◌++◌, length, list_all, refl, sym, ap, subst, ◌∙◌, inl, inr, arith, drop, take, encodes-chars, replicate, IsUtf8, Kind, byte_len, is_plain, is_string, chars, IsTail, tail_length, word_without, IsStrictSuffix, length-drop, Body, CookedForm, RawForm, IsQuotedAt, IsBodyWithin, body_in, suffix_in, found_opener, opener_at, BeginsStrictUnits, front_sound, body_text, placed, LineEnds, Text, File, Reading, AText, Unit, Truth, Number, AnInteger, AFloatNumber, IsRestOf, lf_text, read_of, is_strict_suffix, raw_stop, IsReadingInFile, IsReadingOf, lf_bytes, plain_of, IsSignedToken, IsNumberRead, suffix_of, IsStrictReading, placed_in, IsToken}
use Rattle.rl_lenient.proofs.FoundLemmas.{body_long}
use Rattle.rl_strict.proofs.FilePlaces.{lf_chars, lf_place, lf_same, lf_tail, lf_utf8}
use Rattle.rl_strict.proofs.FileTextLemmas.{lacks_cr, rest_step, same_text, token_free, token_same}
use Rattle.rl_strict.proofs.FormReads.{inside_in, opener_of, unread_same}
use Rattle.rl_strict.proofs.ReadLemmas.{minus_placed, number_placed, text_found}
use Rattle.rl_strict.proofs.ReadQuoted.{cooked_at, raw_at}
use Rattle.rl_strict.proofs.StrictExplainLemmas.{cut_bytes}
use Rattle.rl_strict.proofs.StrictWordLemmas.{strict_suffix_sound}
use Rattle.rl_strict.proofs.EndLemmas.{self_in}
use Rattle.rl_strict.proofs.WalkForms.{opened_in, opened_read, quote_read}

-- ---- a text without CR LF parses as written

pub signed_same : (t : List ℕ) → IsSignedToken t → lf_text t ≡ t
signed_same t (inl y) = token_same t y
signed_same t (inr (number, is, digit, y)) = same_text t (ap lacks_cr is ∙ token_free number y)

pub unit_reads : (how : LineEnds) (t : List ℕ) (kind : Kind) (body : Body) (unit : ℕ) → IsToken (chars t)
    → IsStrictReading t (Unit kind body unit) → IsReadingOf how false t (Unit kind body unit)
unit_reads Text t kind body unit y r = r
unit_reads File t kind body unit y r = (token_same (chars t) y, r)

pub truth_reads : (how : LineEnds) (t : List ℕ) (truth : Bool) → IsToken (chars t) → IsStrictReading t (Truth truth)
    → IsReadingOf how false t (Truth truth)
truth_reads Text t truth y r = r
truth_reads File t truth y r = (token_same (chars t) y, r)

pub number_reads : (how : LineEnds) (t : List ℕ) (n : Number) (r : Reading) → r ≡ placed_in t n
    → IsNumberRead (chars t) n → IsTail t (suffix_of n) → IsToken (chars t) → IsReadingOf how false t r
number_reads Text t n r e h tail y = number_placed t n r e h tail
number_reads File t (AnInteger m x) r e h tail y = subst (IsReadingInFile false t) (sym e)
    (token_same (chars t) y, number_placed t (AnInteger m x) (placed_in t (AnInteger m x)) refl h tail)
number_reads File t (AFloatNumber x) r e h tail y = subst (IsReadingInFile false t) (sym e)
    (token_same (chars t) y, number_placed t (AFloatNumber x) (placed_in t (AFloatNumber x)) refl h tail)

pub minus_reads : (how : LineEnds) (t u : List ℕ) (n : Number) (r : Reading) → r ≡ placed_in t n → chars t ≡ 45 ∷ chars
    u → IsNumberRead (chars u) n → IsTail t (suffix_of n) → IsSignedToken (chars t) → IsReadingOf how true t r
minus_reads Text t u n r e text h tail y = minus_placed t u n r e text h tail
minus_reads File t u (AnInteger m x) r e text h tail y = subst (IsReadingInFile true t) (sym e)
    (signed_same (chars t) y, minus_placed t u (AnInteger m x) (placed_in t (AnInteger m x)) refl text h tail)
minus_reads File t u (AFloatNumber x) r e text h tail y = subst (IsReadingInFile true t) (sym e)
    (signed_same (chars t) y, minus_placed t u (AFloatNumber x) (placed_in t (AFloatNumber x)) refl text h tail)

-- A literal token stays a literal token if CR LF is read as LF.
pub token_of : (how : LineEnds) (t : List ℕ) → IsToken t → IsToken (read_of how t)
token_of Text t y = y
token_of File t y = subst IsToken (sym (token_same t y)) y

pub signed_of : (how : LineEnds) (t : List ℕ) → IsSignedToken t → IsSignedToken (read_of how t)
signed_of Text t y = y
signed_of File t y = subst IsSignedToken (sym (signed_same t y)) y

-- A parse result of a literal token stays correct where a minus before a number is allowed.
pub reads_signed : (how : LineEnds) (signed : Bool) (t : List ℕ) (r : Reading) → IsReadingOf how false t r
    → IsReadingOf how signed t r
reads_signed how false t r h = h
reads_signed Text true t r h = inl h
reads_signed File true t (AText kind body) h = h
reads_signed File true t other h = (h.0, inl h.1)

-- ---- strings in a file

-- The body of a string ends at the byte offset where the closing quote begins.
hi_at : (t opened closing : List ℕ) (body : Body) → IsUtf8 t → IsUtf8 opened → IsUtf8 closing → IsBodyWithin t body
    → body.lo + length opened ≡ length t → chars opened ≡ chars (body_in t body) ++ chars closing
    → body.hi + length closing ≡ length t
hi_at t opened closing body ut uo uc stands lo cut =
    let whole = cut_bytes opened closing (chars (body_in t body)) uo uc cut in
    let inside : byte_len (chars (body_in t body)) ≡ length (body_in t body) =
    ap length (encodes-chars (body_in t body) (body_text t body ut stands)) in
    omega (arith, whole, inside, lo, body_long t body stands)

suffix_at : (t suffix : List ℕ) (body : Body) → IsBodyWithin t body → suffix_in t body ≡ suffix
    → body.suffix_at + length suffix ≡ length t
suffix_at t suffix body stands is =
    let within : body.suffix_at ≤ length t = stands.following.0 in
    let long : length (drop body.suffix_at t) ≡ length suffix = ap length is in
    omega (arith, within, long, length-drop body.suffix_at t)

-- A suffix contains no LF.
suffix_no_line : (x : List ℕ) → IsStrictSuffix x → list_all (λ c. not (c == 10)) x ≡ true
suffix_no_line x (inl e) = subst (λ z. list_all (λ c. not (c == 10)) z ≡ true) (sym e) refl
suffix_no_line x (inr w) = word_without 10 x (omega arith) refl w.identifier

suffix_same : (x : List ℕ) → is_strict_suffix (lf_text x) ≡ true → lf_text x ≡ x
suffix_same x h = unread_same x (suffix_no_line (lf_text x) (strict_suffix_sound (lf_text x) h))

-- The parts of a string in a file. `t` is the whole string, `opened` the text after the opening quote, `closing` the text
-- from the closing quote on, and `suffix` the suffix. `body` has the byte offsets of the string's body.
pub record InFile (t opened closing suffix : List ℕ) (body : Body) : Type 0 where
  pub utf8 : IsUtf8 t
  pub opened_utf8 : IsUtf8 opened
  pub closing_utf8 : IsUtf8 closing
  pub suffix_utf8 : IsUtf8 suffix
  pub opened_in : IsRestOf File (chars t) (chars opened)
  pub closing_in : IsRestOf File (chars opened) (chars closing)
  pub suffix_in_closing : IsRestOf File (chars closing) (chars suffix)
  pub strict : is_strict_suffix (lf_text (chars suffix)) ≡ true
  pub stands : IsBodyWithin t body
  pub body_is : chars opened ≡ chars (body_in t body) ++ chars closing
  pub suffix_is : suffix_in t body ≡ suffix
  pub lo : body.lo + length opened ≡ length t
  pub plain_is : body.plain ≡ false

-- The byte offsets of a string's body, in the text with CR LF read as LF.
abbrev BodyRead : List ℕ → List ℕ → List ℕ → List ℕ → Bool → Body
BodyRead t opened closing suffix plain = record {
  lo = length (lf_bytes t) - length (lf_bytes opened);
  hi = length (lf_bytes t) - length (lf_bytes closing);
  suffix_at = length (lf_bytes t) - length (lf_bytes suffix);
  plain = plain;
}

lo_at : (t opened : List ℕ) → IsTail t opened → (length t - length opened) + length opened ≡ length t
lo_at t opened tail = omega (arith, tail_length t opened tail)

-- Whether the body of a string contains only plain characters, so that the body is the string's value.
abbrev read_plain : Kind → List ℕ → List ℕ → List ℕ → Bool
read_plain kind t opened closing = list_all (is_plain kind) (chars (take ((length t - length closing) - (length t - length opened))
    (drop (length t - length opened) t)))

in_file : (kind : Kind) (t opened closing suffix : List ℕ) (body : Body) (plain : Bool) → is_string kind ≡ true → InFile
    t opened closing suffix body → IsQuotedAt kind (lf_bytes t) (BodyRead t opened closing suffix plain) → IsReadingOf
    File false t (AText kind body)
in_file kind t opened closing suffix body plain s f q =
    let closing_in = rest_step (chars t) (chars opened) (chars closing) f.opened_in f.closing_in in
    let suffix_is_in = rest_step (chars t) (chars closing) (chars suffix) closing_in f.suffix_in_closing in
    let parts = placed (lf_bytes t) (lf_bytes opened) (lf_bytes closing) (lf_bytes suffix) plain
    (lf_tail t opened f.utf8 f.opened_utf8 f.opened_in) (lf_tail opened closing f.opened_utf8 f.closing_utf8 f.closing_in)
    (lf_tail closing suffix f.closing_utf8 f.suffix_utf8 f.suffix_in_closing) in (
      BodyRead t opened closing suffix plain,
      text_found (lf_bytes t) kind (BodyRead t opened closing suffix plain) s (lf_utf8 t f.utf8) q,
      record {
        lo = lf_place t opened body.lo f.utf8 f.opened_utf8 f.opened_in f.lo;
        hi = lf_place t closing body.hi f.utf8 f.closing_utf8 closing_in
            (hi_at t opened closing body f.utf8 f.opened_utf8 f.closing_utf8 f.stands f.lo f.body_is);
        suffix_at = lf_place t suffix body.suffix_at f.utf8 f.suffix_utf8 suffix_is_in
            (suffix_at t suffix body f.stands f.suffix_is);
        suffix_is = f.suffix_is ∙ sym (parts.suffix_is ∙ lf_same suffix f.suffix_utf8 (suffix_same (chars suffix) f.strict));
        plain_is = f.plain_is;
      },
    )

-- If a string with escapes is closed and has a valid suffix, its parse result has the kind and the byte offsets of the body.
pub cooked_reads : (how : LineEnds) (kind : Kind) (t inside closing suffix : List ℕ) (body : Body) (plain : Bool) →
    opener_at (chars t) ≡ found_opener CookedForm kind (chars inside) → BeginsStrictUnits kind (read_of how (chars
    inside)) (read_of how (chars closing)) → IsRestOf how (chars inside) (chars closing) → chars closing ≡ 34 ∷ chars
    suffix → is_strict_suffix (read_of how (chars suffix)) ≡ true → ((b : List ℕ) → chars inside ≡ b ++ chars closing →
    plain ≡ list_all (is_plain kind) b) → IsUtf8 t → IsUtf8 inside → IsUtf8 closing → IsUtf8 suffix → IsBodyWithin t
    body → chars inside ≡ chars (body_in t body) ++ chars closing → suffix_in t body ≡ suffix → body.lo + length inside
    ≡ length t → body.plain ≡ plain_of how plain → IsReadingOf how false t (AText kind body)
cooked_reads Text kind t inside closing suffix body plain e run rest quote strict plains ut ui uc us stands cut suffix_is lo is =
    let s = (front_sound (chars t) (CookedForm, kind, chars inside) e).has in
    text_found t kind body s ut (cooked_at kind t inside closing suffix body e s run quote cut suffix_is stands
    (is ∙ plains (chars (body_in t body)) cut) ut ui lo)
cooked_reads File kind t inside closing suffix body plain e run rest quote strict plains ut ui uc us stands cut suffix_is lo is =
    let s = (front_sound (chars t) (CookedForm, kind, chars inside) e).has in
    let quoted = quote_read File (chars closing) (chars suffix) 34 quote refl in
    let opened_in = inside_in File (chars t) CookedForm kind (chars inside) e in
    let f : InFile t inside closing suffix body = record {
      utf8 = ut;
      opened_utf8 = ui;
      closing_utf8 = uc;
      suffix_utf8 = us;
      opened_in = opened_in;
      closing_in = rest;
      suffix_in_closing = quoted.1;
      strict = strict;
      stands = stands;
      body_is = cut;
      suffix_is = suffix_is;
      lo = lo;
      plain_is = is;
    } in
    let b = read_plain kind (lf_bytes t) (lf_bytes inside) (lf_bytes closing) in
    let parts = placed (lf_bytes t) (lf_bytes inside) (lf_bytes closing) (lf_bytes suffix) b
    (lf_tail t inside ut ui opened_in) (lf_tail inside closing ui uc rest) (lf_tail closing suffix uc us quoted.1) in
    let opener = ap opener_at (lf_chars t ut) ∙ opener_of File (chars t) CookedForm kind (chars inside) e
    ∙ ap (found_opener CookedForm kind) (sym (lf_chars inside ui)) in
    let units = subst (λ z. BeginsStrictUnits kind z (chars (lf_bytes closing))) (sym (lf_chars inside ui))
    (subst (BeginsStrictUnits kind (lf_text (chars inside))) (sym (lf_chars closing uc)) run) in
    let closed = lf_chars closing uc ∙ quoted.0 ∙ ap (λ z. 34 ∷ z) (sym (lf_chars suffix us)) in
    in_file kind t inside closing suffix body b s f
    (cooked_at kind (lf_bytes t) (lf_bytes inside) (lf_bytes closing) (lf_bytes suffix) (BodyRead t inside closing suffix b) opener s units closed
    parts.body_is parts.suffix_is parts.stands refl (lf_utf8 t ut) (lf_utf8 inside ui)
    (lo_at (lf_bytes t) (lf_bytes inside) (lf_tail t inside ut ui opened_in)))

-- If a raw string is closed and has a valid suffix, its parse result has the kind and the byte offsets of the body.
pub raw_reads : (how : LineEnds) (kind : Kind) (n : ℕ) (t inside opened closing suffix hashes : List ℕ) (body : Body)
    (plain : Bool) → opener_at (chars t) ≡ found_opener RawForm kind (chars inside) → hashes ≡ replicate n 35 → chars
    inside ≡ hashes ++ (34 ∷ chars opened) → read_of how (chars closing) ≡ raw_stop kind hashes (read_of how (chars
    opened)) → IsRestOf how (chars opened) (chars closing) → IsRestOf how (chars closing) (chars suffix) → read_of how
    (chars closing) ≡ 34 ∷ (hashes ++ read_of how (chars suffix)) → is_strict_suffix (read_of how (chars suffix)) ≡ true
    → plain ≡ true → IsUtf8 t → IsUtf8 inside → IsUtf8 opened → IsUtf8 closing → IsUtf8 suffix → IsBodyWithin t body →
    chars opened ≡ chars (body_in t body) ++ chars closing → suffix_in t body ≡ suffix → body.lo + length opened ≡
    length t → body.plain ≡ plain_of how plain → IsReadingOf how false t (AText kind body)
raw_reads Text kind n t inside opened closing suffix hashes body plain e are text at rest left quote strict plains ut ui uo uc us stands cut suffix_is lo is =
    let s = (front_sound (chars t) (RawForm, kind, chars inside) e).has in
    text_found t kind body s ut (raw_at kind n t inside (34 ∷ chars opened) opened closing suffix hashes
    (hashes ++ chars suffix) 34 body e s are text refl at quote refl refl strict cut suffix_is stands (is ∙ plains) ut uo
    lo)
raw_reads File kind n t inside opened closing suffix hashes body plain e are text at rest left quote strict plains ut ui uo uc us stands cut suffix_is lo is =
    let s = (front_sound (chars t) (RawForm, kind, chars inside) e).has in
    let inner = opened_in File n hashes (chars inside) (chars opened) (chars opened) are text (self_in File (chars opened)) in
    let in_text = rest_step (chars t) (chars inside) (chars opened)
    (inside_in File (chars t) RawForm kind (chars inside) e) inner in
    let f : InFile t opened closing suffix body = record {
      utf8 = ut;
      opened_utf8 = uo;
      closing_utf8 = uc;
      suffix_utf8 = us;
      opened_in = in_text;
      closing_in = rest;
      suffix_in_closing = left;
      strict = strict;
      stands = stands;
      body_is = cut;
      suffix_is = suffix_is;
      lo = lo;
      plain_is = is;
    } in
    let parts = placed (lf_bytes t) (lf_bytes opened) (lf_bytes closing) (lf_bytes suffix) true
    (lf_tail t opened ut uo in_text) (lf_tail opened closing uo uc rest) (lf_tail closing suffix uc us left) in
    let opener = ap opener_at (lf_chars t ut) ∙ opener_of File (chars t) RawForm kind (chars inside) e
    ∙ ap (found_opener RawForm kind) (sym (lf_chars inside ui)) in
    let hashed = lf_chars inside ui ∙ opened_read File n hashes (chars inside) (chars opened) are text
    ∙ ap (λ z. hashes ++ (34 ∷ z)) (sym (lf_chars opened uo)) in
    let stop = lf_chars closing uc ∙ at ∙ ap (raw_stop kind hashes) (sym (lf_chars opened uo)) in
    let closed = lf_chars closing uc ∙ quote ∙ ap (λ z. 34 ∷ (hashes ++ z)) (sym (lf_chars suffix us)) in
    in_file kind t opened closing suffix body true s f
    (raw_at kind n (lf_bytes t) (lf_bytes inside) (34 ∷ chars (lf_bytes opened)) (lf_bytes opened) (lf_bytes closing)
    (lf_bytes suffix) hashes (hashes ++ chars (lf_bytes suffix)) 34
    (BodyRead t opened closing suffix true) opener s are hashed refl stop closed refl refl
    (ap is_strict_suffix (lf_chars suffix us) ∙ strict) parts.body_is parts.suffix_is parts.stands refl (lf_utf8 t ut)
    (lf_utf8 opened uo) (lo_at (lf_bytes t) (lf_bytes opened) (lf_tail t opened ut uo in_text)))
