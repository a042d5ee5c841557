-- A text is a suffix if it begins with an ASCII letter, and all its bytes are ASCII letters, digits or underscores.
use Rattle.rl_strict.proofs.Names.{◌≡◌, ◌<◌, ◌||◌, ◌==◌, ℕ, suc, zero, true, cond, List, [], ◌∷◌, get_or, refl, ap, subst, ◌∙◌, arith, nat_tests, and_parts, or_right, list_all, is_ascii_alphabetic, IsAscii, after_run, chars-IsAscii, is_continue, is_start, suffix_rest, is_ascii_id_continue}
use Rattle.rl_syntax.proofs.Common.{chars}
use Rattle.rl_syntax.proofs.AsciiLemmas.{ascii_xid_continue, ascii_xid_start, continue_is_plain, start_is_plain}

low : (b : ℕ) → is_ascii_id_continue b ≡ true → b < 128
low b h = grind (arith, nat_tests)

low_start : (b : ℕ) → is_ascii_alphabetic b ≡ true → b < 128
low_start b h = grind (arith, nat_tests)

all_ascii : (bs : List ℕ) → list_all is_ascii_id_continue bs ≡ true → IsAscii bs
all_ascii [] h i = omega arith
all_ascii (b ∷ bs) h zero = low b (and_parts (is_ascii_id_continue b) (list_all is_ascii_id_continue bs) h).0
all_ascii (b ∷ bs) h (suc i) = all_ascii bs (and_parts (is_ascii_id_continue b) (list_all is_ascii_id_continue bs) h).1 i

continues : (c : ℕ) → is_ascii_id_continue c ≡ true → is_continue c ≡ true
continues c h = continue_is_plain c (low c h) ∙ ascii_xid_continue c (low c h) ∙ h

starts : (c : ℕ) → is_ascii_alphabetic c ≡ true → is_start c ≡ true
starts c h = start_is_plain c (low_start c h) ∙ ap (λ b. c == 95 || b) (ascii_xid_start c (low_start c h))
    ∙ or_right (c == 95) (is_ascii_alphabetic c) h

runs_out : (cs : List ℕ) → list_all is_ascii_id_continue cs ≡ true → after_run is_continue cs ≡ []
runs_out [] h = refl
runs_out (c ∷ cs) h =
    let p = and_parts (is_ascii_id_continue c) (list_all is_ascii_id_continue cs) h in
    ap (λ b. cond b (after_run is_continue cs) (c ∷ cs)) (continues c p.0) ∙ runs_out cs p.1

pub word_suffix : (t : List ℕ) → is_ascii_alphabetic (get_or t 0 0) ≡ true → list_all is_ascii_id_continue t ≡ true
    → suffix_rest (chars t) ≡ []
unfolding suffix_rest
word_suffix t first each = ap suffix_rest (chars-IsAscii t (all_ascii t each)) ∙ go t first each
  where
    go : (t : List ℕ) → is_ascii_alphabetic (get_or t 0 0) ≡ true → list_all is_ascii_id_continue t ≡ true → suffix_rest t ≡ []
    go [] first each = refl
    go (c ∷ cs) first each = ap (λ b. cond b (after_run is_continue cs) (c ∷ cs)) (starts c first)
        ∙ runs_out cs (and_parts (is_ascii_id_continue c) (list_all is_ascii_id_continue cs) each).1

-- If a text begins with an ASCII letter, and all its bytes are ASCII letters, digits or underscores, the identifier at its
-- beginning is the whole text.
pub word_bytes : (t b : List ℕ) → b ≡ t → is_ascii_alphabetic (get_or b 0 0) ≡ true → list_all is_ascii_id_continue b ≡ true
    → suffix_rest (chars t) ≡ []
word_bytes t b same first each = subst (λ z. suffix_rest (chars z) ≡ []) same (word_suffix b first each)
