-- Lemmas about literals, their kinds and their tokens.
use Rattle.rl_lenient.proofs.Names.{HasReading, HasSuffix, Kind, Reads, ReadsAs, SpannedText, Truth, first_passes, truth_text}
use Rattle.std.proofs.Common.{◌≡◌, ℕ, ◌==◌, Bool as Truths, true, false, List, [], ◌∷◌, Option, Some, None, refl, sym, ◌∙◌, ap, subst}
use Rattle.std.specs.Prelude.{Result, Ok, Err, IfSome, OnOk, OnErr}
use Rattle.std.proofs.lemmas.Option.{MatchOption-at_some}
use Rattle.std.specs.Str.{chars}
use Rattle.rl_syntax.specs.declared.kind.Kind.TheVariants.{Str as StrKind, ByteStr as ByteStrKind, CStr as CStrKind, Byte as ByteKind, Char as CharKind, Int as IntKind, Float as FloatKind, Bool as BoolKind}
use Rattle.rl_syntax.specs.declared.span.Span.{Span}
use Rattle.rl_syntax.proofs.OneReading.{one_reading}
use Rattle.rl_lenient.specs.declared.found.Found.{Found}
use Rattle.rl_lenient.specs.Founds.{IsFound, suffix_in}
use Rattle.rl_lenient.specs.WholeShapes.{IsPlain}
use Rattle.rl_lexer.proofs.TruthWords.{truth_chars}
use Rattle.rl_lenient.proofs.MinusLemmas.{minus_chars}
use Rattle.rust_literals.specs.declared.lit.Lit.{Lit}
use Rattle.rust_literals.specs.declared.lit.Lit.TheVariants.{Str, ByteStr, CStr, Byte, Char, Int, Float, Bool, Verbatim}
use Rattle.rl_syntax.specs.Reading.{IsReadAs}
use Rattle.rust_literals.specs.Literals.{kind_of, token_of, IsReadFrom}
use Rattle.rust_literals.specs.LitParts.{ReadsPlain}

-- ---- lemmas: the kind and the token of a literal determine the literal

-- The value of the word `true` or `false`, by its first character.
is_true_word : List ℕ → Truths
is_true_word text = first_passes (λ c. c == 116) text

word_tells : (b : Truths) → b ≡ is_true_word (truth_text b)
unfolding is_true_word
word_tells true = refl
word_tells false = refl

lit_of : {A : Type 0} → Option Kind → SpannedText → Lit A
lit_of (Some StrKind) token = Str token
lit_of (Some ByteStrKind) token = ByteStr token
lit_of (Some CStrKind) token = CStr token
lit_of (Some ByteKind) token = Byte token
lit_of (Some CharKind) token = Char token
lit_of (Some IntKind) token = Int token
lit_of (Some FloatKind) token = Float token
lit_of (Some BoolKind) token = Bool (record { value = is_true_word token.text; span = token.span })
lit_of None token = Verbatim token

lit_is : {A : Type 0} (lit : Lit A) → lit ≡ lit_of (kind_of lit) (token_of lit)
unfolding lit_of
lit_is (Str l) = refl
lit_is (ByteStr l) = refl
lit_is (CStr l) = refl
lit_is (Byte l) = refl
lit_is (Char l) = refl
lit_is (Int l) = refl
lit_is (Float l) = refl
lit_is (Bool l) = ap (λ b. Bool (record { value = b; span = l.span })) (word_tells l.value)
lit_is (Verbatim l) = refl

pub same_lit : {A : Type 0} (a b : Lit A) → kind_of a ≡ kind_of b → token_of a ≡ token_of b → a ≡ b
same_lit a b k t = lit_is a ∙ ap (λ o. lit_of o (token_of a)) k ∙ ap (λ x. lit_of (kind_of b) x) t ∙ sym (lit_is b)

-- ---- lemmas about the parse result of a token

-- The kind as which a text is parsed is unique. A text that isn't parsed as a literal has the kind `None`.
pub one_kind : (text : List ℕ) (k l : Option Kind) → IsReadAs k text → IsReadAs l text → k ≡ l
one_kind text None None n m = refl
one_kind text None (Some l) n (w, y, s) = absurd (n l w y s)
one_kind text (Some k) None (v, x, r) m = absurd (m k v x r)
one_kind text (Some k) (Some l) (v, x, r) (w, y, s) = ap Some (one_reading text k l v w x y r s).0

-- If two literals are parsed from one token, they are equal.
pub one_lit : {A : Type 0} (token : SpannedText) (a b : Lit A) → IsReadFrom token a → IsReadFrom token b → a ≡ b
one_lit token a b (e, h) (f, k) = same_lit a b (one_kind (chars token.text) (kind_of a) (kind_of b) h k) (e ∙ sym f)

-- A condition on a text: if its characters are the word `true` or `false`, its bytes are the same word. For each parsed
-- text that meets the condition, a `Lit` of the parsed kind exists (`read_lit`).
abbrev pub SpellsWords : List ℕ → Type 0
SpellsWords text = (b : Truths) → chars text ≡ truth_text b → text ≡ truth_text b

abbrev pub ReadLit : Type 0 → SpannedText → Option Kind → Type 0
ReadLit A token kind = (lit : Lit A) × IsReadFrom token lit × (kind_of lit ≡ kind)

pub read_lit : (A : Type 0) (token : SpannedText) (kind : Option Kind) → SpellsWords token.text
    → IsReadAs kind (chars token.text) → ReadLit A token kind
read_lit A token (Some StrKind) w r = (Str token, (refl, r), refl)
read_lit A token (Some ByteStrKind) w r = (ByteStr token, (refl, r), refl)
read_lit A token (Some CStrKind) w r = (CStr token, (refl, r), refl)
read_lit A token (Some ByteKind) w r = (Byte token, (refl, r), refl)
read_lit A token (Some CharKind) w r = (Char token, (refl, r), refl)
read_lit A token (Some IntKind) w r = (Int token, (refl, r), refl)
read_lit A token (Some FloatKind) w r = (Float token, (refl, r), refl)
read_lit A token (Some BoolKind) w (v, x, r) =
    let is : record { text = truth_text r.truth; span = token.span }
    ≡ token = ap (λ z. let t : SpannedText = record { text = z; span = token.span } in t)
    (sym (w r.truth r.text_is)) in
    (Bool (record { value = r.truth; span = token.span }), (is, (v, x, r)), refl)
read_lit A token None w n = (Verbatim token, (refl, n), refl)

-- ---- lemmas about `bool` literals

-- The text `true` or `false` is parsed as the `bool` of that value.
pub truth_reads : (t : List ℕ) (b : Truths) → t ≡ truth_text b → Reads (chars t) BoolKind (Truth b) []
truth_reads t b e = record { truth = b; text_is = truth_chars t b e; suffix_is = refl; contents_is = refl }

-- A `bool` literal is parsed from a token with the text `true` or `false`.
pub read_truth : (token : SpannedText) (b : Truths) (span : Span) → token.text ≡ truth_text b → span ≡ token.span
    → (record { text = truth_text b; span = span } ≡ token) × ReadsAs BoolKind (chars token.text)
read_truth token b span e s =
    let is : record { text = truth_text b; span = span } ≡ token = ap
    (λ z. let t : SpannedText = record { text = z; span = span } in t) (sym e)
    ∙ ap (λ z. let t : SpannedText = record { text = token.text; span = z } in t) s in
    (is, (Truth b, [], truth_reads token.text b e))

-- ---- lemmas about the kind of a parse result

-- If a text is a literal of a kind with some suffix, it is parsed as that kind.
pub reads_as : (t x : List ℕ) (k kind : Kind) → HasSuffix k t x → k ≡ kind → ReadsAs kind t
reads_as t x k kind r e = (r.0, x, subst (λ z. Reads t z r.0 x) e r.1)

-- If a minus followed by a text has a parse result, the joined text is a literal.
pub found_behind : (bytes : List ℕ) (found : Found) → IsFound (45 ∷ bytes) found → HasReading (45 ∷ chars bytes)
found_behind bytes found h =
    subst HasReading (minus_chars bytes) (found.kind, (h.reads.0, chars (suffix_in (45 ∷ bytes) found.body), h.reads.1))

-- ---- lemmas about a literal and its parse result

pub found_lent : (kind : Kind) (text : List ℕ) (found : Found) → IsFound text found → found.kind ≡ kind
    → (IsPlain kind text → ⊥) → ReadsPlain text → ⊥
found_lent kind text found h e never (k, (v, x, r), plain) =
    let one = one_reading (chars text) k found.kind v h.reads.0 x (chars (suffix_in text found.body)) r h.reads.1 in
    never (subst (λ z. IsPlain z text) (one.0 ∙ e) plain)

pub some_found : (text : List ℕ) (o : Option Found) (found : Found) → o ≡ Some found → IfSome o (IsFound text)
    → IsFound text found
some_found text o found is h = MatchOption-at_some _ (IsFound text) found is h

-- If a text has a parse result of a kind, the text is parsed as that kind.
pub found_as : (kind : Kind) (text : List ℕ) (o : Option Found) (found : Found) → o ≡ Some found
    → IfSome o (IsFound text) → found.kind ≡ kind → ReadsAs kind (chars text)
found_as kind text o found is h e =
    reads_as (chars text) (chars (suffix_in text found.body)) found.kind kind (some_found text o found is h).reads e

pub on_ok : {T E : Type 0} (r : Result T E) (P : Type 0) → P → OnOk r P
on_ok (Ok x) P h = h
on_ok (Err e) P h = tt

pub on_err : {T E : Type 0} (r : Result T E) (P : Type 0) → P → OnErr r P
on_err (Ok x) P h = tt
on_err (Err e) P h = h
