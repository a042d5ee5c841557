-- Lemmas on the longest prefix of a text that can be completed to satisfy a predicate, for all predicates.
use Rattle.rl_strict.proofs.Names.{◌≡◌, ℕ, List, ◌∷◌, ◌++◌, sym, ap, subst, ◌∙◌, append_assoc, IsCompletable, StopsBefore}

-- `text` is a prefix followed by `rest`. Some ending completes the prefix to a text that satisfies `closes`. Each text that
-- begins with the prefix and the first character of `rest` satisfies `fails`.
pub record Stops (closes fails : List ℕ → Type 0) (text rest : List ℕ) : Type 0 where
  pub front : List ℕ
  pub text_is : text ≡ front ++ rest
  pub begins : IsCompletable closes front
  pub stuck : (c : ℕ) (cs e : List ℕ) → rest ≡ c ∷ cs → fails (front ++ (c ∷ e))

-- `rest` begins after the longest prefix of `text` that can be completed to a text that satisfies `takes`. The statement
-- `says` holds too.
pub record Flawed (takes : List ℕ → Type 0) (text rest : List ℕ) (says : Type 0) : Type 0 where
  pub stops : StopsBefore takes text rest
  pub has : says

-- `Stops` stays true if the text `pre` is put before the text, and the predicates `more` and `less` replace `closes` and
-- `fails`. The new predicates must hold with `pre` where the old ones hold without `pre`. For example, `pre` is an opening
-- delimiter.
unfoldable pub lifted : {closes fails more less : List ℕ → Type 0} (pre t rest : List ℕ) (s : Stops closes fails t rest)
    → (closes (s.front ++ s.begins.ending) → more (pre ++ (s.front ++ s.begins.ending))) → ((c : ℕ) (cs e : List ℕ) →
    rest ≡ c ∷ cs → fails (s.front ++ (c ∷ e)) → less (pre ++ (s.front ++ (c ∷ e)))) → Stops more less (pre ++ t) rest
lifted {more} {less} pre t rest s good bad = record {
  front = pre ++ s.front;
  text_is = ap (λ z. pre ++ z) s.text_is ∙ sym (append_assoc pre s.front rest);
  begins = record {
    ending = s.begins.ending;
    are_characters = s.begins.are_characters;
    is_taken = subst more (sym (append_assoc pre s.front s.begins.ending)) (good s.begins.is_taken);
  };
  stuck = λ c cs e h. subst less (sym (append_assoc pre s.front (c ∷ e))) (bad c cs e h (s.stuck c cs e h));
}

-- `Stops` implies `StopsBefore` if `fails` is the negation of `closes`.
unfoldable pub stops_before : (takes : List ℕ → Type 0) (t rest : List ℕ) → Stops takes (λ z. takes z → ⊥) t rest
    → StopsBefore takes t rest
stops_before takes t rest s = record { front = s.front; text_is = s.text_is; begins = s.begins; stuck = s.stuck }

-- `StopsBefore` stays true if the text `pre` is put before the text, and the predicate `more` replaces `takes`. `more` must
-- hold for a text with `pre` where `takes` holds for the text without `pre`, and nowhere else. For example, `pre` is an
-- opening delimiter.
unfoldable pub raised : (takes more : List ℕ → Type 0) (pre t rest : List ℕ) (s : StopsBefore takes t rest) → (takes
    (s.front ++ s.begins.ending) → more (pre ++ (s.front ++ s.begins.ending))) → ((c : ℕ) (cs e : List ℕ) → rest ≡ c ∷
    cs → more (pre ++ (s.front ++ (c ∷ e))) → takes (s.front ++ (c ∷ e))) → StopsBefore more (pre ++ t) rest
raised takes more pre t rest s good bad =
    let same : Stops takes (λ z. takes z → ⊥) t rest = record
    { front = s.front; text_is = s.text_is; begins = s.begins; stuck = s.stuck } in
    stops_before more (pre ++ t) rest (lifted pre t rest same good (λ c cs e h n y. n (bad c cs e h y)))
