-- Lemmas about the byte offsets of a quoted literal's parts, and the text at these offsets.
use Rattle.rl_lenient.proofs.Names.{Byte, Bytes, Char, Characters, HasContents, IsScalar, Kind, ReadsAs, is_single, is_string, quoted_contents}
use Rattle.rl_syntax.proofs.Common.{IsUtf8, List, [], ◌∷◌, ◌<◌, ◌∙◌, chars, or_left, or_right, false, refl, subst, sym, true, ℕ, ◌≡◌}
use Rattle.rl_syntax.proofs.OneReading.{one_reading}
use Rattle.rl_lenient.specs.declared.found.Body.{Body}
use Rattle.rl_lenient.specs.declared.found.Found.{Found}
use Rattle.rl_lenient.specs.Bodies.{HasBody, HasSingleBody, SingleRepresents}
use Rattle.rl_lenient.specs.Founds.{IsFound, IsUnitOf, body_in, is_quoted}
use Rattle.rl_lenient.proofs.FoundLemmas.{quoted_found_of}
use Rattle.rl_lenient.proofs.SingleBodies.{single_at}
use Rattle.rl_quoted.specs.Places.{HasPartsAt}

-- If a text is a literal of a kind, its parse result has that kind.
pub found_kind : (kind : Kind) (t : List ℕ) (found : Found) → ReadsAs kind (chars t) → IsFound t found → found.kind
    ≡ kind
found_kind kind t found r f = (one_reading (chars t) found.kind kind f.reads.0 r.0 _ r.1 f.reads.1 r.2).0

-- A literal's parts are at the byte offsets of its parse result.
pub stands_at : (kind : Kind) (t : List ℕ) (found : Found) → found.kind ≡ kind → IsFound t found
    → HasPartsAt kind t found.body
stands_at kind t found same f =
    subst (λ k. HasPartsAt k t found.body) same (record { reads = f.reads; stands = f.stands; plain = f.plain; quoted = f.quoted })

-- The text between the stored byte offsets of a string literal is the text between its quotes.
pub has_body : (kind : Kind) (t : List ℕ) (body : Body) → is_string kind ≡ true → HasPartsAt kind t body
    → HasBody kind (chars t) (body_in t body) body.plain
has_body kind t body s at =
    let q = at.quoted (or_left (is_string kind) (is_single kind) s) in
    record { string = s; form = q.form; value = q.value; suffix = _; parts = q.parts; plain_is = q.plain_is }

-- The text between the stored byte offsets of a character or byte literal is the text between its quotes.
pub single_body : (kind : Kind) (t : List ℕ) (body : Body) → is_single kind ≡ true → HasPartsAt kind t body
    → HasSingleBody kind (chars t) (body_in t body)
single_body kind t body s at = single_at kind t body s (at.quoted (or_right (is_string kind) (is_single kind) s))

-- The number `n` is the value of a character or byte literal, or 0 for a literal of another kind.
pub record HeldUnit (kind : Kind) (t : List ℕ) (n : ℕ) : Type 0 where
  pub unit : is_single kind ≡ true → IsUnitOf kind (chars t) n
  pub none : (kind ≡ Byte → ⊥) → (kind ≡ Char → ⊥) → n ≡ 0

pub single_byte : (kind : Kind) → kind ≡ Byte → is_single kind ≡ true
single_byte kind e = subst (λ (k : Kind). is_single k ≡ true) (sym e) refl

pub single_character : (kind : Kind) → kind ≡ Char → is_single kind ≡ true
single_character kind e = subst (λ (k : Kind). is_single k ≡ true) (sym e) refl

pub held_byte : (kind : Kind) (t body : List ℕ) (n : ℕ) → kind ≡ Byte → HasSingleBody kind (chars t) body
    → SingleRepresents Byte body (Bytes (n ∷ [])) → n < 256 → HeldUnit kind t n
held_byte kind t body n is has stands small = record {
  unit = λ s. record {
    reads = subst (λ (k : Kind). HasContents k (chars t) (quoted_contents k (n ∷ []))) (sym is)
        (stands (chars t) (subst (λ (k : Kind). HasSingleBody k (chars t) body) is has));
    byte = λ e. small;
    character = λ e. absurd (let no : Byte ≡ Char = sym is ∙ e in cc);
  };
  none = λ b c. absurd (b is);
}

pub held_character : (kind : Kind) (t body : List ℕ) (n : ℕ) → kind ≡ Char → HasSingleBody kind (chars t) body
    → SingleRepresents Char body (Characters (n ∷ [])) → IsScalar n → HeldUnit kind t n
held_character kind t body n is has stands scalar = record {
  unit = λ s. record {
    reads = subst (λ (k : Kind). HasContents k (chars t) (quoted_contents k (n ∷ []))) (sym is)
        (stands (chars t) (subst (λ (k : Kind). HasSingleBody k (chars t) body) is has));
    byte = λ e. absurd (let no : Char ≡ Byte = sym is ∙ e in cc);
    character = λ e. scalar;
  };
  none = λ b c. absurd (c is);
}

pub held_none : (kind : Kind) (t : List ℕ) → (kind ≡ Byte → ⊥) → (kind ≡ Char → ⊥) → HeldUnit kind t 0
held_none Byte t b c = absurd (b refl)
held_none Char t b c = absurd (c refl)
held_none kind t b c = record { unit = λ s. absurd (cc); none = λ d e. refl }

-- The parse result that is built from a quoted literal's stored byte offsets is the parse result of the literal's text.
pub held_found : (kind : Kind) (t : List ℕ) (body : Body) (n : ℕ) (found : Found) → IsUtf8 t → is_quoted kind ≡ true
    → HasPartsAt kind t body → HeldUnit kind t n
    → found ≡ record { kind = kind; body = body; magnitude = 0; truth = false; unit = n } → IsFound t found
held_found kind t body n found u h at held is = quoted_found_of t kind body n found u (at.quoted h) held.unit held.none is
