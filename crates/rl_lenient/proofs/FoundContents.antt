-- The parse result of a literal has the literal's kind, body and value.
use Rattle.rl_syntax.proofs.Common.{◌≡◌, ℕ, ◌⊎◌, inl, inr, List, true, refl, sym, ap, subst, ◌∙◌}
use Rattle.rl_lenient.proofs.Names.{Kind, Str, ByteStr, CStr, Int, Float, is_string, is_single, Contents, HasContents, HasNoReading, ReadsAs}
use Rattle.std.proofs.lemmas.Bool.{or_left}
use Rattle.std.specs.Str.{chars}
use Rattle.rl_syntax.proofs.OneReading.{one_reading}
use Rattle.rl_lenient.specs.declared.found.Found.{Found}
use Rattle.rl_lenient.specs.Bodies.{HasBody}
use Rattle.rl_lenient.specs.Founds.{IsFound, IsQuotedAt, IsUnitOf, body_in, is_quoted}
use Rattle.rl_lenient.specs.WholeShapes.{IsPlain}

-- If a text is a literal of a kind, its parse result has this kind.
pub found_kind : (kind : Kind) (t : List ℕ) (found : Found) → ReadsAs kind (chars t) → IsFound t found → found.kind
    ≡ kind
found_kind kind t found r f = (one_reading (chars t) found.kind kind f.reads.0 r.0 _ r.1 f.reads.1 r.2).0

quoted_at : (kind : Kind) (t : List ℕ) (found : Found) → found.kind ≡ kind → is_quoted kind ≡ true → IsFound t found
    → IsQuotedAt kind t found.body
quoted_at kind t found same q f = subst (λ (k : Kind). IsQuotedAt k t found.body) same
    (f.quoted (ap is_quoted same ∙ q))

-- In the parse result of a string literal, the text at the body's byte offsets is the text between the literal's quotes.
pub string_body : (kind : Kind) (t body : List ℕ) (found : Found) → body ≡ body_in t found.body → found.kind ≡ kind
    → is_string kind ≡ true → IsFound t found → HasBody kind (chars t) body found.body.plain
string_body kind t body found is same s f =
    let q = quoted_at kind t found same (or_left (is_string kind) (is_single kind) s) f in
    subst (λ z. HasBody kind (chars t) z found.body.plain) (sym is)
    (record { string = s; form = q.form; value = q.value; suffix = _; parts = q.parts; plain_is = q.plain_is })

-- In the parse result of a byte string or C string literal, the text at the body's byte offsets is the text between the
-- literal's quotes.
pub bytes_body : (t body : List ℕ) (found : Found) → body ≡ body_in t found.body
    → ((kind : Kind) → ReadsAs kind (chars t) → found.kind ≡ kind) → IsFound t found → ReadsAs ByteStr (chars t)
    ⊎ ReadsAs CStr (chars t) → HasBody found.kind (chars t) body found.body.plain
bytes_body t body found is kind f (inl r) = string_body found.kind t body found is refl (ap is_string (kind ByteStr r))
    f
bytes_body t body found is kind f (inr r) = string_body found.kind t body found is refl (ap is_string (kind CStr r)) f

pub one_of_two : (found : Kind) (t : List ℕ) (contents : Contents) → ((kind : Kind) → ReadsAs kind t → found ≡ kind)
    → ReadsAs ByteStr t ⊎ ReadsAs CStr t → HasContents found t contents → HasContents ByteStr t contents
    ⊎ HasContents CStr t contents
one_of_two found t contents kind (inl r) h = inl (subst (λ (k : Kind). HasContents k t contents) (kind ByteStr r) h)
one_of_two found t contents kind (inr r) h = inr (subst (λ (k : Kind). HasContents k t contents) (kind CStr r) h)

-- The number in the parse result of a character or byte literal is the literal's value.
pub unit_of : (kind : Kind) (t : List ℕ) (found : Found) → found.kind ≡ kind → is_single kind ≡ true → IsFound t found
    → IsUnitOf kind (chars t) found.unit
unit_of kind t found same s f = subst (λ (k : Kind). IsUnitOf k (chars t) found.unit) same
    (f.unit (ap is_single same ∙ s))

-- A text whose body is its value byte for byte (`IsPlain`) is a literal of the kind. Floats are excluded, because the text may be
-- an integer.
plain_reads : (kind : Kind) (t : List ℕ) → (kind ≡ Float → ⊥) → IsPlain kind t → ReadsAs kind (chars t)
plain_reads Str t n p = (_, p.suffix, p.reads)
plain_reads ByteStr t n p = (_, p.suffix, p.reads)
plain_reads CStr t n p = (_, p.suffix, p.reads)
plain_reads Int t n p = (_, p.suffix, p.reads)
plain_reads Float t n p = absurd (n refl)
plain_reads kind t n p = absurd p.reads

pub plain_found : (kind : Kind) (t : List ℕ) (found : Found) → (kind ≡ Float → ⊥) → IsFound t found → IsPlain kind t
    → found.kind ≡ kind
plain_found kind t found n f p = found_kind kind t found (plain_reads kind t n p) f

pub plain_none : (kind : Kind) (t : List ℕ) → (kind ≡ Float → ⊥) → HasNoReading (chars t) → IsPlain kind t → ⊥
plain_none kind t n none p = let r = plain_reads kind t n p in none kind r.0 r.1 r.2
