-- Boolean literals, by both definitions.
use Rattle.rl_syntax.proofs.Common.{◌≡◌, ℕ, Bool, true, false, List, [], ◌∷◌, ◌++◌, refl, sym, ap, subst, ◌∙◌, inl, inr, append-nil, codes, if◌then◌else◌}
use Rattle.std.specs.Prelude.{◌↔◌}
use Rattle.rl_syntax.specs.declared.kind.Kind.TheVariants.{Bool as BoolKind}
use Rattle.rl_syntax.specs.Reading.{Contents, Truth, ReadsBool, truth_text}
use Rattle.rl_syntax.specs.Strict.{StrictBool}
use Rattle.rl_theorem.specs.Notation.{Rule, One, Means, ◌∣◌, ◌is◌}
use Rattle.rl_theorem.specs.RustRules.{IsLiteralBy, as_contents, boolean_literal}
use Rattle.rl_theorem.proofs.RuleParts.{then_unless, unless_then, none_passes}
use Rattle.rl_theorem.proofs.SuffixRule.{at_end}

abbrev words : Rule
words = codes "true" is 1 ∣ codes "false" is 0

abbrev value_of : Bool → List ℕ
value_of true = 1 ∷ []
value_of false = 0 ∷ []

word_to : (b : Bool) → Means words (truth_text b) [] (value_of b)
word_to true = inl ([], (refl, refl), refl)
word_to false = inr ([], (refl, refl), refl)

word_from : (u x v : List ℕ) → Means words u x v → (b : Bool) × (u ≡ truth_text b) × (v ≡ value_of b)
word_from u x v (inl (y, (u_is, y_is), v_is)) = (true, u_is, v_is)
word_from u x v (inr (y, (u_is, y_is), v_is)) = (false, u_is, v_is)

told : (b : Bool) → Truth b ≡ as_contents BoolKind (value_of b)
told true = refl
told false = refl

pub truth_rule : (tail : Rule) → Means tail [] [] [] → (text : List ℕ) (contents : Contents) (x : List ℕ)
    → ReadsBool text contents x ↔ IsLiteralBy boolean_literal tail BoolKind text contents x
truth_rule tail no_suffix text contents x = (to, from)
  where
    to : ReadsBool text contents x → IsLiteralBy boolean_literal tail BoolKind text contents x
    to s = record {
      body = truth_text s.truth;
      value = value_of s.truth;
      text_is = s.text_is ∙ sym (append-nil (truth_text s.truth)) ∙ ap (λ k. truth_text s.truth ++ k) (sym s.suffix_is);
      is_body = subst (λ k. Means boolean_literal (truth_text s.truth) k (value_of s.truth)) (sym s.suffix_is)
          (unless_then words (One (λ c. true)) (truth_text s.truth) [] (value_of s.truth) (word_to s.truth) (none_passes (λ c. true) [] refl));
      is_suffix = ([], subst (λ k. Means tail k [] []) (sym s.suffix_is) no_suffix);
      contents_is = s.contents_is ∙ told s.truth;
    }

    from : IsLiteralBy boolean_literal tail BoolKind text contents x → ReadsBool text contents x
    from l =
        let (word, none) = then_unless words (One (λ c. true)) l.body x l.value l.is_body in
        let (b, body_is, value_is) = word_from l.body x l.value word in
        let (t, x_is, v) = at_end [] x [] (refl, refl, none) in
        record {
          truth = b;
          text_is = l.text_is ∙ ap (λ k. l.body ++ k) x_is ∙ append-nil l.body ∙ body_is;
          suffix_is = x_is;
          contents_is = l.contents_is ∙ ap (as_contents BoolKind) value_is ∙ sym (told b);
        }

-- The two grammars have equal boolean literals.
pub strict_truth : (text : List ℕ) (contents : Contents) (x : List ℕ) → StrictBool text contents x ↔ ReadsBool text contents x
strict_truth text contents x = (
  λ s. record { truth = s.truth; text_is = s.text ∙ spelled s.truth; suffix_is = s.suffix; contents_is = s.contents },
  λ s. record { truth = s.truth; text = s.text_is ∙ sym (spelled s.truth); contents = s.contents_is; suffix = s.suffix_is },
)
  where
    spelled : (b : Bool) → (if b then codes "true" else codes "false") ≡ truth_text b
    spelled true = refl
    spelled false = refl
