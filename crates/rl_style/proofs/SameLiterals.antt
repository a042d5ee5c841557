-- A rewritten literal of any kind has the kind, value and suffix of the old one.
use Rattle.rl_syntax.proofs.Common.{◌≡◌, ℕ, false, List, inl, inr, refl, subst, sym}
use Rattle.rl_syntax.specs.declared.kind.Kind.TheVariants.{Bool as BoolKind}
use Rattle.rl_syntax.specs.Strict.{StrictBool}
use Rattle.rl_style.specs.declared.style.Style.{Style}
use Rattle.rl_style.specs.Rewriting.{KeepsTruth, Rewrites, SameLiteral, SameNumber}
use Rattle.rl_style.proofs.SameFloats.{float_number, float_same, float_stays}
use Rattle.rl_style.proofs.SameIntegers.{integer_same, integer_stays}
use Rattle.rl_style.proofs.LostRaw.{lost_same, lost_stays}
use Rattle.rl_style.proofs.SameRaw.{raw_same, raw_stays}
use Rattle.rl_style.proofs.SameUnits.{cooked_same, cooked_stays}

abbrev truth : (t u : List ℕ) → (c : KeepsTruth t u) → StrictBool u c.contents c.suffix
truth t u c = subst (λ z. StrictBool z c.contents c.suffix) (sym c.new_is) c.truth

truth_same : (t u : List ℕ) → KeepsTruth t u → SameLiteral t u
truth_same t u c = record { kind = BoolKind; contents = c.contents; suffix = c.suffix; was = c.truth; is = truth t u c }

pub same : (style : Style) (front t u : List ℕ) → style.float_zero ≡ false → Rewrites style front t u → SameLiteral t u
same style front t u off (inl a) = integer_same style t u a
same style front t u off (inr (inl a)) = float_same style t u off a
same style front t u off (inr (inr (inl (inl a)))) = raw_same style front t u a
same style front t u off (inr (inr (inl (inr a)))) = lost_same style front t u a
same style front t u off (inr (inr (inr (inl a)))) = cooked_same style t u a
same style front t u off (inr (inr (inr (inr a)))) = truth_same t u a

-- If the kinds, values and suffixes of two literals are equal, the literals satisfy `SameNumber`. This weaker relation also
-- allows a zero that the style adds to a float.
number_of : (style : Style) (t u : List ℕ) → SameLiteral t u → SameNumber style t u
number_of style t u c = record {
  kind = c.kind;
  contents = c.contents;
  new_contents = c.contents;
  suffix = c.suffix;
  was = c.was;
  is = c.is;
  keeps = inl refl;
}

pub same_number : (style : Style) (front t u : List ℕ) → Rewrites style front t u → SameNumber style t u
same_number style front t u (inl a) = number_of style t u (integer_same style t u a)
same_number style front t u (inr (inl a)) = float_number style t u a
same_number style front t u (inr (inr (inl (inl a)))) = number_of style t u (raw_same style front t u a)
same_number style front t u (inr (inr (inl (inr a)))) = number_of style t u (lost_same style front t u a)
same_number style front t u (inr (inr (inr (inl a)))) = number_of style t u (cooked_same style t u a)
same_number style front t u (inr (inr (inr (inr a)))) = number_of style t u (truth_same t u a)

pub stays : (style : Style) (front t u : List ℕ) → Rewrites style front t u → Rewrites style front u u
stays style front t u (inl a) = inl (integer_stays style t u a)
stays style front t u (inr (inl a)) = inr (inl (float_stays style t u a))
stays style front t u (inr (inr (inl (inl a)))) = inr (inr (inl (inl (raw_stays style front t u a))))
stays style front t u (inr (inr (inl (inr a)))) = inr (inr (inr (inl (lost_stays style front t u a))))
stays style front t u (inr (inr (inr (inl a)))) = inr (inr (inr (inl (cooked_stays style t u a))))
stays style front t u (inr (inr (inr (inr a)))) = inr (inr (inr (inr (record
    { contents = a.contents; suffix = a.suffix; truth = truth t u a; new_is = refl }))))
