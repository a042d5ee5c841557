-- Lemmas about the kinds of the literals that are rewritten.
use Rattle.rl_syntax.proofs.Common.{◌≡◌, ℕ, Bool, Bor, List, None, Option, Some, ap, false, refl, subst, sym, true, ◌∙◌}
use denote.Enum.Bare.{sameb, true_same}
use Rattle.std.specs.Bool.{Decides}
use Rattle.std.specs.List.{Contains, list_any}
use Rattle.std.specs.Option.{option_eq}
use Rattle.std.specs.Prelude.{MatchBool}
use Rattle.std.proofs.lemmas.Bool.{false≢true}
use Rattle.std.proofs.lemmas.Map.Made.{is_member-Decides}
use Rattle.rl_syntax.proofs.Theorems.{a_text_has_one_reading}
use Rattle.rl_syntax.specs.Reading.{IsReadAs}
use Rattle.rl_syntax.specs.contracts.kind.Kind.{the_type}
use Rattle.rl_syntax.specs.declared.kind.Kind.{Kind}
use Rattle.rl_lenient.proofs.FoundLemmas.{kinds_same}
use Rattle.rl_restyle.specs.Edits.{IsOfKinds}

-- A text is parsed as a literal of at most one kind.
one_kind : (text : List ℕ) (kind other : Option Kind) → IsReadAs kind text → IsReadAs other text → kind ≡ other
one_kind text (Some k) (Some l) (v, x, is) (w, y, are) = ap Some (a_text_has_one_reading text k l v w x y is are).0
one_kind text (Some k) None (v, x, is) none = absurd (none k v x is)
one_kind text None (Some l) none (w, y, are) = absurd (none l w y are)
one_kind text None None none nothing = refl

abbrev equal : Option Kind → Option Kind → Bool
equal k l = option_eq (sameb the_type) l k

-- Two kinds compare as equal exactly if they are equal.
same_kind : (k l : Option Kind) → Decides (equal k l) (k ≡ l)
same_kind None None = (λ e. refl, λ e. refl)
same_kind None (Some l) = (λ e. absurd (cc), λ e. absurd (cc))
same_kind (Some k) None = (λ e. absurd (cc), λ e. absurd (cc))
same_kind (Some k) (Some l) = (λ e. ap Some (sym (kinds_same l k (sameb the_type l k) refl e)), λ e. true_same the_type l k (cc))

-- A literal is of the kinds in a list exactly if the list contains its kind.
pub of_kinds : (r : Bool) (kinds : Bor (List (Option Kind))) (text : List ℕ) (kind : Option Kind) → IsReadAs kind text
    → r ≡ list_any (λ k. option_eq (sameb the_type) k kind) kinds.now
    → MatchBool r (IsOfKinds (Some kinds) text) (IsOfKinds (Some kinds) text → ⊥)
of_kinds r kinds text kind is found = go r found (is_member-Decides {eq = equal} same_kind kinds.now kind)
  where
    go : (r : Bool) → r ≡ list_any (λ k. option_eq (sameb the_type) k kind) kinds.now
        → Decides (list_any (λ k. option_eq (sameb the_type) k kind) kinds.now) (Contains kinds.now kind)
        → MatchBool r (IsOfKinds (Some kinds) text) (IsOfKinds (Some kinds) text → ⊥)
    go true found decides = (kind, is, decides.0 (sym found))
    go false found decides = λ listed. false≢true (found ∙ decides.1
        (subst (Contains kinds.now) (one_kind text listed.0 kind listed.1 is) listed.2))
