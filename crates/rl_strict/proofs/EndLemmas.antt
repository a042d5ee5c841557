-- Lemmas on texts as they are read: with CR LF read as LF in a file, and unchanged outside files.
use Rattle.rl_strict.proofs.Names.{◌≡◌, ℕ, Bool, true, List, [], ◌++◌, Option, Some, None, refl, sym, ap, ◌∙◌, append_assoc, option_map, replicate, Kind, first_passes, is_single, is_string, begins, has_form, QuotedForm, is_some_text, unit_rest, ClosesForm, FlawKind, LineEnds, Text, File, StopsBefore, IsRestOf, read_of, strict_unit_flaw_at, suffix_read_at, FoundFlaw, end_flaw_at}
use Rattle.rl_strict.proofs.FileEscapes.{unit_flaw_read}
use Rattle.rl_strict.proofs.FileSuffixes.{end_flaw_read, first_read, suffix_place, suffix_read}
use Rattle.rl_strict.proofs.FileTextLemmas.{form_rest, free_text, lacks_cr, rest_free, rest_self, rest_step}
use Rattle.rl_strict.proofs.FileUnits.{closer_read, single_in, single_read, stuck_alone}

-- ---- ends of texts, which don't begin between a CR and an LF in a file

-- An end of a text in a file, which doesn't begin between a CR and its LF, is also an end of the text outside files.
pub loose : (t rest : List ℕ) → IsRestOf File t rest → IsRestOf Text t rest
loose t rest r = record { front = r.front; text_is = r.text_is; seam = refl }

pub self_in : (how : LineEnds) (t : List ℕ) → IsRestOf how t t
self_in Text t = loose t t (rest_self t)
self_in File t = rest_self t

pub step_in : (how : LineEnds) (a b d : List ℕ) → IsRestOf how a b → IsRestOf how b d → IsRestOf how a d
step_in Text a b d p q = record {
  front = p.front ++ q.front;
  text_is = p.text_is ∙ ap (λ z. p.front ++ z) q.text_is ∙ sym (append_assoc p.front q.front d);
  seam = refl;
}
step_in File a b d p q = rest_step a b d p q

-- If a prefix of a text contains no CR, the text after the prefix doesn't begin between a CR and an LF.
pub free_in : (how : LineEnds) (t front rest : List ℕ) → t ≡ front ++ rest → lacks_cr front ≡ true → IsRestOf how t rest
free_in Text t front rest e h = record { front = front; text_is = e; seam = refl }
free_in File t front rest e h = rest_free t front rest e h

pub free_of : (how : LineEnds) (a b : List ℕ) → lacks_cr a ≡ true → read_of how (a ++ b) ≡ a ++ read_of how b
free_of Text a b h = refl
free_of File a b h = free_text a b h

pub form_in : (how : LineEnds) (form : QuotedForm) (k : Kind) (t rest : List ℕ) → has_form form k ≡ true
    → StopsBefore (ClosesForm form k) t rest → IsRestOf how t rest
form_in Text form k t rest has s = loose t rest (form_rest form k t rest has s)
form_in File form k t rest has s = form_rest form k t rest has s

pub nil_of : (how : LineEnds) (t : List ℕ) → t ≡ [] → read_of how t ≡ []
nil_of Text t e = e
nil_of File t e = ap (read_of File) e

-- ---- tests of characters of texts as they are read

-- Reading CR LF as LF doesn't change whether the first character of a text passes a test that has equal results for CR and
-- LF.
pub first_of : (how : LineEnds) (test : ℕ → Bool) → test 13 ≡ test 10 → (t : List ℕ) → first_passes test (read_of how t)
    ≡ first_passes test t
first_of Text test e t = refl
first_of File test e t = first_read test e t

pub some_text_of : (how : LineEnds) (t : List ℕ) → is_some_text (read_of how t) ≡ is_some_text t
some_text_of how t = first_of how (λ c. true) refl t

-- ---- flaws of texts as they are read, with CR LF read as LF in a file

abbrev pub read_flaw : LineEnds → FoundFlaw → FoundFlaw
read_flaw how flaw = (flaw.0, read_of how flaw.1)

same_flaw : (f : FoundFlaw) → f ≡ (f.0, f.1)
same_flaw (k, rest) = refl

same_option : (o : Option FoundFlaw) → o ≡ option_map (λ (f : FoundFlaw). (f.0, f.1)) o
same_option None = refl
same_option (Some f) = ap Some (same_flaw f)

same_rest : (o : Option (List ℕ)) → o ≡ option_map (λ (z : List ℕ). z) o
same_rest None = refl
same_rest (Some z) = refl

pub end_of : (how : LineEnds) (a b : FlawKind) (t : List ℕ) → end_flaw_at a b (read_of how t)
    ≡ read_flaw how (end_flaw_at a b t)
end_of Text a b t = same_flaw (end_flaw_at a b t)
end_of File a b t = end_flaw_read a b t

pub suffix_of : (how : LineEnds) (form : QuotedForm) (t : List ℕ) → suffix_read_at form (read_of how t)
    ≡ option_map (read_flaw how) (suffix_read_at form t)
suffix_of Text form t = same_option (suffix_read_at form t)
suffix_of File form t = suffix_read form t

pub suffix_in : (how : LineEnds) (form : QuotedForm) (t : List ℕ) (f : FoundFlaw) → Some f ≡ suffix_read_at form t
    → IsRestOf how t f.1
suffix_in Text form t f h = loose t f.1 (suffix_place form t f h)
suffix_in File form t f h = suffix_place form t f h

pub unit_flaw_of : (how : LineEnds) (k : Kind) (t : List ℕ) → (is_string k ≡ true → unit_rest k (read_of how t) ≡ None)
    → strict_unit_flaw_at k (read_of how t) ≡ read_flaw how (strict_unit_flaw_at k t)
unit_flaw_of Text k t none = same_flaw (strict_unit_flaw_at k t)
unit_flaw_of File k t none = unit_flaw_read k t none

-- ---- characters, escapes and closing delimiters of texts as they are read

pub stuck_of : (how : LineEnds) (k : Kind) (t : List ℕ) → is_string k ≡ true → unit_rest k (read_of how t) ≡ None
    → unit_rest k t ≡ None
stuck_of Text k t s h = h
stuck_of File k t s h = stuck_alone k t s h

pub single_of : (how : LineEnds) (k : Kind) (t : List ℕ) → is_single k ≡ true → unit_rest k (read_of how t)
    ≡ option_map (read_of how) (unit_rest k t)
single_of Text k t s = same_rest (unit_rest k t)
single_of File k t s = single_read k t s

pub unit_in : (how : LineEnds) (k : Kind) (t rest : List ℕ) → is_single k ≡ true → unit_rest k t ≡ Some rest
    → IsRestOf how t rest
unit_in Text k t rest s h = loose t rest (single_in k t rest s h)
unit_in File k t rest s h = single_in k t rest s h

pub closer_of : (how : LineEnds) (n : ℕ) (hashes t : List ℕ) → hashes ≡ replicate n 35 → begins hashes (read_of how t)
    ≡ begins hashes t
closer_of Text n hashes t e = refl
closer_of File n hashes t e = closer_read n hashes t e
