-- The texts `true` and `false` are identifiers, and literals of Rust's grammar.
use Rattle.rl_syntax.proofs.Common.{◌≡◌, ℕ, ◌<◌, ◌||◌, ◌&&◌, Bool, true, false, eqb, ltb, List, [], ◌∷◌, refl, ap, ◌∙◌, arith, codes, is_ascii_alphabetic, is_ascii_alphanumeric, list_all, chars, and_from, and_parts, or_right, ltb-true, is_xid_start, is_xid_continue, is_xid_continue-ascii, is_xid_start-ascii}
use Rattle.rl_syntax.specs.Texts.{xid_ok}
use Rattle.rl_syntax.specs.declared.kind.Kind.TheVariants.{Bool as BoolKind}
use Rattle.rl_syntax.specs.Reading.{Truth, truth_text}
use Rattle.rl_syntax.specs.Strict.{Strict}

abbrev is_word_letter : ℕ → Bool
is_word_letter c = is_ascii_alphanumeric c || eqb c 95

abbrev are_word_letters : List ℕ → Bool
are_word_letters cs = list_all (λ c. ltb c 128 && is_word_letter c) cs

letters_continue : (cs : List ℕ) → are_word_letters cs ≡ true → list_all is_xid_continue cs ≡ true
letters_continue [] h = refl
letters_continue (c ∷ cs) h =
    let p = and_parts (ltb c 128 && is_word_letter c) (are_word_letters cs) h in
    let q = and_parts (ltb c 128) (is_word_letter c) p.0 in
    and_from (is_xid_continue c) (list_all is_xid_continue cs) (is_xid_continue-ascii c (ltb-true c 128 q.0) ∙ q.1)
    (letters_continue cs p.1)

ascii_word : (c : ℕ) (cs : List ℕ) → c < 128 → is_ascii_alphabetic c ≡ true → are_word_letters cs ≡ true
    → xid_ok (c ∷ cs) ≡ true
ascii_word c cs small letter rest =
    and_from (eqb c 95 || is_xid_start c) (list_all is_xid_continue cs)
    (or_right (eqb c 95) (is_xid_start c) (is_xid_start-ascii c small ∙ letter)) (letters_continue cs rest)

-- The texts `true` and `false` are identifiers.
word_of : (b : Bool) → xid_ok (truth_text b) ≡ true
word_of true = ascii_word 116 (codes "rue") (omega arith) refl refl
word_of false = ascii_word 102 (codes "alse") (omega arith) refl refl

characters_of : (b : Bool) → chars (truth_text b) ≡ truth_text b
unfolding chars
characters_of true = refl
characters_of false = refl

pub truth_is_identifier : (b : Bool) (bs : List ℕ) → bs ≡ truth_text b → xid_ok (chars bs) ≡ true
truth_is_identifier b bs e = ap (λ z. xid_ok (chars z)) e ∙ ap xid_ok (characters_of b) ∙ word_of b

-- The texts `true` and `false` are literals of Rust's grammar.
pub words_strict : (truth : Bool) → Strict (truth_text truth) BoolKind (Truth truth) []
words_strict true = record { truth = true; text = refl; contents = refl; suffix = refl }
words_strict false = record { truth = false; text = refl; contents = refl; suffix = refl }
