-- Lemmas about the parts that a number stores: its digits and the byte offset of its suffix.
use Rattle.rl_lenient.proofs.Names.{Byte, ByteStr, CStr, Char, Float, HasSuffix, Int, Kind, Reads, SpannedText, Str}
use Rattle.rl_syntax.proofs.Common.{Err, IsUtf8, List, Ok, Result, append_cancel_right, arith, chars, inl, inr, refl, subst, sym, take, take-append-drop, true, ℕ, ◌++◌, ◌∙◌, ◌≡◌, ◌≢◌, ◌⊎◌}
use Rattle.std.specs.Prelude.{IfErr}
use Rattle.rl_syntax.specs.declared.kind.Kind.TheVariants.{Bool}
use Rattle.rl_tokens.specs.declared.error.ErrorKind.{ErrorKind}
use Rattle.rl_tokens.specs.declared.error.ErrorKind.TheVariants.{Expected, EndOfInput, Unexpected, Lex, Suffix, NotInteger, TooLarge, NotFloat, Repeated, Number, Memory}
use Rattle.rl_tokens.specs.declared.error.Error.{Error}
use Rattle.rl_tokens.specs.declared.kept.Kept.{Kept}
use Rattle.rl_syntax.specs.declared.span.Span.{Span}
use Rattle.rl_tokens.specs.Errors.{memory_at}
use Rattle.rl_syntax.proofs.OneNumber.{int_once}
use Rattle.rl_lenient.specs.declared.found.Found.{Found}
use Rattle.rl_lenient.specs.Founds.{IsFound, IsFoundFloat, IsFoundNumber, body_in, suffix_in}
use Rattle.rl_lenient.specs.NumberShapes.{AreDigits, IsNumber}
use Rattle.rl_lenient.specs.WholeShapes.{IsSplit, IsPlain}
use Rattle.rl_fronts.proofs.NumberFoundLemmas.{number_integer, number_float, number_stands, plain_digits}
use Rattle.rust_literals.specs.Held.{HasDigits, HasOwnSuffix, HoldsNumber}
use Rattle.rust_literals.specs.Rejections.{IsNoNumber, IsRejectedAs}

-- The record `found` is the parse result of the number `text`. An integer is parsed by the parser of all literals, and
-- a float by the rule for floats only.
abbrev IsOfKind : Kind → List ℕ → Found → Type 0
IsOfKind Int text found = IsFound text found
IsOfKind Float text found = IsFoundFloat text found
IsOfKind _ text found = ⊥

-- A parse result whose kind is integers or floats is the parse result of a number.
pub is_found_number : (kind : Kind) (text : List ℕ) (found : Found) → (kind ≡ Int) ⊎ (kind ≡ Float) → found.kind ≡ kind
    → IsFound text found → IsFoundNumber text found
is_found_number kind text found (inl i) e h = inl (h, inl (e ∙ i))
is_found_number kind text found (inr f) e h = inl (h, inr (e ∙ f))

no_integer : (k : Kind) → k ≡ Float → k ≢ Int
no_integer k e i = absurd (cc)

not_both : (k : Kind) → k ≢ Int → k ≢ Float → (text : List ℕ) (found : Found) → found.kind ≡ k
    → IsFoundNumber text found → ⊥
not_both k i f text found e (inl (h, inl g)) = i (sym e ∙ g)
not_both k i f text found e (inl (h, inr g)) = f (sym e ∙ g)
not_both k i f text found e (inr h) = f (sym e ∙ h.kind)

of_kind : (kind : Kind) (text : List ℕ) (found : Found) → IsUtf8 text → found.kind ≡ kind → IsFoundNumber text found
    → IsOfKind kind text found
of_kind Int text found utf8 e h = number_integer text found e h
of_kind Float text found utf8 e h = number_float text found utf8 (no_integer found.kind e) h
of_kind Str text found utf8 e h = not_both Str (λ x. cc) (λ x. cc) text found e h
of_kind ByteStr text found utf8 e h = not_both ByteStr (λ x. cc) (λ x. cc) text found e h
of_kind CStr text found utf8 e h = not_both CStr (λ x. cc) (λ x. cc) text found e h
of_kind Byte text found utf8 e h = not_both Byte (λ x. cc) (λ x. cc) text found e h
of_kind Char text found utf8 e h = not_both Char (λ x. cc) (λ x. cc) text found e h
of_kind Bool text found utf8 e h = not_both Bool (λ x. cc) (λ x. cc) text found e h

-- Lemmas about the suffix and the digits of a number, from its parse result.
found_suffix : (kind : Kind) (text : List ℕ) (found : Found) → found.kind ≡ kind → IsOfKind kind text found
    → HasOwnSuffix kind (chars text) (chars (suffix_in text found.body))
found_suffix Int text found e h = subst (λ k. HasSuffix k (chars text) (chars (suffix_in text found.body))) e h.reads
found_suffix Float text found e h = (chars (body_in text found.body), h.reads)
found_suffix kind text found e h = absurd h

found_digits : (kind : Kind) (text digits : List ℕ) (found : Found) → found.kind ≡ kind → IsOfKind kind text found
    → AreDigits kind (chars text) digits → HasDigits kind (chars text) digits
found_digits Int text digits found e h d =
    let x = chars (suffix_in text found.body) in
    let (v, r) : HasSuffix Int (chars text) x = subst (λ k. HasSuffix k (chars text) x) e h.reads in
    (x, subst (λ z. Reads (chars text) Int z x) (d v x r) r)
found_digits Float text digits found e h d =
    let n = chars (body_in text found.body) in
    let x = chars (suffix_in text found.body) in
    (n, x, h.reads, d n x h.reads)
found_digits kind text digits found e h d = absurd h

-- The digits that a number stores are the digits of the number's text. The byte offset that it stores for the suffix is
-- where the text's suffix begins.
pub holds_number : (kind : Kind) (text digits : List ℕ) (found : Found) → IsUtf8 text → IsFoundNumber text found
    → found.kind ≡ kind → AreDigits found.kind (chars text) (chars digits)
    → HoldsNumber kind text digits found.body.suffix_at
holds_number kind text digits found utf8 h e d =
    let of = of_kind kind text found utf8 e h in record {
      digits_are = found_digits kind text (chars digits) found e of
          (subst (λ k. AreDigits k (chars text) (chars digits)) e d);
      suffix = found_suffix kind text found e of;
      boundary = (number_stands text found h).following;
    }

-- A number's text is its body, followed by its suffix.
body_cut : (kind : Kind) (text : List ℕ) (found : Found) → found.kind ≡ kind → IsOfKind kind text found → text
    ≡ body_in text found.body ++ suffix_in text found.body
body_cut Int text found e h = subst (λ k. IsSplit k text (body_in text found.body) (suffix_in text found.body)) e h.cut
body_cut Float text found e h = h.cut
body_cut kind text found e h = absurd h

body_is : (text : List ℕ) (found : Found) → text ≡ body_in text found.body ++ suffix_in text found.body
    → body_in text found.body ≡ take found.body.suffix_at text
body_is text found cut = append_cancel_right (body_in text found.body) (take found.body.suffix_at text)
    (suffix_in text found.body) (sym cut ∙ sym (take-append-drop found.body.suffix_at text))

-- If the flag `plain` of a number's parse result is `true`, the digits of the number are the text before its suffix.
pub holds_lent : (kind : Kind) (text : List ℕ) (found : Found) → IsUtf8 text → IsFoundNumber text found → found.kind
    ≡ kind → found.body.plain ≡ true → HoldsNumber kind text (take found.body.suffix_at text) found.body.suffix_at
holds_lent kind text found utf8 h e plain =
    let body = body_is text found (body_cut kind text found e (of_kind kind text found utf8 e h)) in
    subst (λ z. HoldsNumber kind text z found.body.suffix_at) body
    (holds_number kind text (body_in text found.body) found utf8 h e (plain_digits text found utf8 plain h))

-- If a text's parse result is a number of a kind, the text is a number of that kind.
pub found_number : (kind : Kind) (text : List ℕ) (found : Found) → IsUtf8 text → IsFoundNumber text found → found.kind
    ≡ kind → IsNumber kind (chars text)
found_number kind text found utf8 h e = go kind e (of_kind kind text found utf8 e h)
  where
    go : (kind : Kind) → found.kind ≡ kind → IsOfKind kind text found → IsNumber kind (chars text)
    go Int e h = let s = found_suffix Int text found e h in (s.0, chars (suffix_in text found.body), s.1)
    go Float e h = (chars (body_in text found.body), chars (suffix_in text found.body), h.reads)
    go kind e h = absurd h

-- If a text is a number, an allocation failure at the span `span` is an error that the contract allows for the text.
pub wants_memory : {A : Type 0} (kind : Kind) (text : List ℕ) (e : Error A) (span : Span) → e ≡ memory_at span
    → IsNumber kind text → (e.span ≡ span) × IsRejectedAs kind text e.kind
wants_memory {A} kind text e span is number =
    let P : Error A → Type 0 = λ x. (x.span ≡ span) × IsRejectedAs kind text x.kind in subst P (sym is) (refl, number)

-- If a text is a number whose digits are the text before its suffix, the text isn't rejected as a number.
pub no_number_plain : {A : Type 0} (kind : Kind) (text : List ℕ) (reason : ErrorKind A)
    → IsNoNumber kind (chars text) reason → IsPlain kind text → ⊥
no_number_plain Int text NotInteger none p = none p.reads.sign p.reads.magnitude p.suffix p.reads.reads
no_number_plain Int text TooLarge past p =
    let r = p.reads in
    let one = int_once (chars text) past.suffix p.suffix past.sign r.sign past.magnitude r.magnitude past.reads r.reads
    in
    let above = past.past in
    let within = r.within in
    absurd (omega (arith, one.1))
no_number_plain Int text (Expected w) none p = absurd none
no_number_plain Int text (EndOfInput w) none p = absurd none
no_number_plain Int text Unexpected none p = absurd none
no_number_plain Int text (Lex l) none p = absurd none
no_number_plain Int text (Suffix x) none p = absurd none
no_number_plain Int text NotFloat none p = absurd none
no_number_plain Int text Repeated none p = absurd none
no_number_plain Int text (Number w) none p = absurd none
no_number_plain Int text Memory none p = absurd none
no_number_plain Float text (Expected w) none p = absurd none
no_number_plain Float text (EndOfInput w) none p = absurd none
no_number_plain Float text Unexpected none p = absurd none
no_number_plain Float text (Lex l) none p = absurd none
no_number_plain Float text (Suffix x) none p = absurd none
no_number_plain Float text NotInteger none p = absurd none
no_number_plain Float text TooLarge none p = absurd none
no_number_plain Float text NotFloat none p = none (chars p.body) p.suffix p.reads.0
no_number_plain Float text Repeated none p = absurd none
no_number_plain Float text (Number w) none p = absurd none
no_number_plain Float text Memory none p = absurd none
no_number_plain kind text reason none p = absurd none

-- The reason why a text isn't a number is an error that the contract allows for the text.
pub no_number_rejected : {A : Type 0} (kind : Kind) (text : List ℕ) (reason : ErrorKind A) → IsNoNumber kind text reason
    → IsRejectedAs kind text reason
no_number_rejected kind text (Expected w) none = none
no_number_rejected kind text (EndOfInput w) none = none
no_number_rejected kind text Unexpected none = none
no_number_rejected kind text (Lex l) none = none
no_number_rejected kind text (Suffix x) none = none
no_number_rejected kind text NotInteger none = none
no_number_rejected kind text TooLarge none = none
no_number_rejected kind text NotFloat none = none
no_number_rejected kind text Repeated none = none
no_number_rejected kind text (Number w) none = none
no_number_rejected Int text Memory none = absurd none
no_number_rejected kind text Memory none = absurd none

-- If a text is a number and the result is an allocation failure at the span `span`, the contract allows this error for
-- the text.
pub memory_rejected : {T A : Type 0} (kind : Kind) (text : List ℕ) (span : Span) (r : Result T (Kept SpannedText A))
    → IfErr r (λ k. k.error ≡ memory_at span) → IsNumber kind text
    → IfErr r (λ k. (k.error.span ≡ span) × IsRejectedAs kind text k.error.kind)
memory_rejected kind text span (Ok x) memory number = tt
memory_rejected kind text span (Err k) memory number = wants_memory kind text k.error span memory number
