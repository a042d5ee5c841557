-- Lemmas about attributes at the start of token trees, one after another.
use Rattle.rl_syntax.proofs.Common.{AllByRecursion, Bool, IsTrue, List, [], ap, append-nil, append_assoc, arith, cond, false, inl, inr, length, length-append, list_any, map-append, refl, subst, sym, true, ℕ, ◌++◌, ◌<◌, ◌||◌, ◌∙◌, ◌∷◌, ◌≡◌, ◌≢◌}
use Rattle.std.specs.Cmp.Lexicographic.{nat_list_eq_equiv}
use Rattle.std.specs.List.{IsDistinct}
use Rattle.std.specs.Str.{bytes_eq}
use Rattle.std.proofs.lemmas.List.Folds.{list_any-append}
use Rattle.std.proofs.lemmas.Map.Keys.{IsDistinct-push, IsDistinct-head, IsDistinct-tail}
use Rattle.rl_syntax.specs.declared.span.Span.{Span}
use Rattle.rl_tokens.specs.declared.error.Error.{Error}
use Rattle.rl_syntax.specs.Texts.{SpannedText}
use Rattle.rl_tokens.specs.Trees.{Tree}
use Rattle.rl_tokens.specs.Buffers.{begins_ident, begins_mark, IsAfterMark}
use Rattle.rl_fronts.specs.Fronts.{IsFront}
use Rattle.rl_fronts.proofs.FrontLemmas.{one_front, front_rest}
use Rattle.rl_attributes.specs.Attributes.{Attribute, IsAttribute, AreListed, names_of, is_named, NamesDiffer, MissesName, RepeatsName, MissesEquals, MissesLiteral, MissesComma, RejectsNextAttribute, AreAttributesBefore, RejectsAttributes, HasNewName}
use Rattle.rl_attributes.specs.AttributeSteps.{IsNext}

-- ---- lemmas about one attribute

-- An empty list of token trees doesn't begin with an attribute.
no_attribute : (attribute : Attribute) (rest : List Tree) → IsAttribute [] attribute rest → ⊥
no_attribute attribute rest h = let e = h.named in absurd (cc)

none_listed : (list : List Attribute) → AreListed [] list → list ≡ []
none_listed [] h = refl
none_listed (a ∷ others) (b, i, c) = absurd (no_attribute a b i)

-- If token trees begin with a punctuation character, only one list can be the token trees after it.
one_mark : (ch : ℕ) (trees a b : List Tree) → IsAfterMark ch trees a → IsAfterMark ch trees b → a ≡ b
one_mark ch trees a b h k = let e = h.trees_are in let f = k.trees_are in cc

-- If token trees begin with the punctuation character `ch`, the test `begins_mark` for `ch` is `true`.
mark_begins : (ch : ℕ) (trees rest : List Tree) → IsAfterMark ch trees rest → begins_mark ch trees ≡ true
mark_begins ch trees rest h = rw (h.trees_are, h.is) (search arith)

no_behind : (ch : ℕ) (trees rest : List Tree) → IsAfterMark ch trees rest → trees ≡ [] → ⊥
no_behind ch trees rest h e = let f = h.trees_are in absurd (cc)

abbrev attribute : SpannedText → SpannedText → Attribute
attribute name literal = record { name = name; literal = literal }

-- If two attributes are each at the start of the same token trees, the two attributes are equal, and so are the token
-- trees after them.
one_attribute : (trees : List Tree) (a b : Attribute) (r s : List Tree) → IsAttribute trees a r → IsAttribute trees b s
    → (a ≡ b) × (r ≡ s)
one_attribute trees a b r s h k =
    let hn = h.named in
    let kn = k.named in
    let names : a.name ≡ b.name = cc in
    let equals : h.at_equals ≡ k.at_equals = cc in
    let literals : h.at_literal ≡ k.at_literal = one_mark 61 k.at_equals h.at_literal k.at_literal
    (subst (λ (t : List Tree). IsAfterMark 61 t h.at_literal) equals h.equals) k.equals in
    let one = one_front k.at_literal a.literal b.literal r s (subst (λ (t : List Tree). IsFront t a.literal r) literals
    h.set) k.set in
    (ap (λ (n : SpannedText). attribute n a.literal) names ∙ ap (attribute b.name) one.0, one.1)

-- The list of the token trees after the attribute at the start is shorter than the whole list.
behind_attribute : (trees : List Tree) (a : Attribute) (rest : List Tree) → IsAttribute trees a rest
    → length rest < length trees
behind_attribute trees a rest h =
    let left = front_rest h.at_literal rest a.literal h.set in
    omega (arith, ap length h.named, ap length h.equals.trees_are, ap length left.are, length-append left.taken rest)

pub next_shorter : (trees : List Tree) (a : Attribute) (rest : List Tree) → IsNext trees a rest
    → length rest < length trees
next_shorter trees a rest h =
    let b : length h.following < length trees = behind_attribute trees a h.following h.is in
    elim h.comma [
      | inl m ↦ omega (arith, ap length m.trees_are)
      | inr n ↦ omega (arith, ap length n.0, ap length n.1)
    ]

-- ---- lemmas about consumed attributes and the remaining token trees

-- The attributes `done` were consumed from the start of the token trees `trees`, and the token trees `rest` remain.
-- After each consumed attribute, a comma was consumed or the token trees ended.
pub record AreTaken (trees : List Tree) (done : List Attribute) (rest : List Tree) : Type 0 where
  pub stand : rest ≢ [] → AreAttributesBefore trees done rest
  pub on : (more : List Attribute) → AreListed rest more → AreListed trees (done ++ more)

pub taken_none : (trees : List Tree) → AreTaken trees [] trees
taken_none trees = record { stand = λ some. refl; on = λ more h. h }

stand_more : (trees : List Tree) (done : List Attribute) (rest : List Tree) (a : Attribute) (following next : List Tree)
    → AreAttributesBefore trees done rest → IsAttribute rest a following → IsAfterMark 44 following next
    → AreAttributesBefore trees (done ++ a ∷ []) next
stand_more trees [] rest a following next h i m = (
  following,
  next,
  subst (λ (t : List Tree). IsAttribute t a following)
      (sym h) i,
  m,
  refl,
)
stand_more trees (x ∷ xs) rest a following next (b, n, j, k, h) i m =
    (b, n, j, k, stand_more n xs rest a following next h i m)

-- Suppose that token trees begin with an attribute and a comma, or are only an attribute. If the token trees after
-- these are a list of attributes, all of the token trees are a list of attributes.
pub listed_more : (rest : List Tree) (a : Attribute) (next : List Tree) (more : List Attribute) → IsNext rest a next
    → AreListed next more → AreListed rest (a ∷ more)
listed_more rest a next more n h =
    elim n.comma [
      | inl m ↦ (n.following, n.is, inr (next, m, h))
      | inr e ↦ (n.following, n.is, inl (e.0, none_listed more (subst (λ (t : List Tree). AreListed t more) e.1 h)))
    ]

stands : (trees : List Tree) (done : List Attribute) (rest : List Tree) (a : Attribute) (next : List Tree)
    → AreAttributesBefore trees done rest → IsNext rest a next → next ≢ [] → AreAttributesBefore trees (done ++ a ∷ []) next
stands trees done rest a next s n some =
    elim n.comma [
      | inl m ↦ stand_more trees done rest a n.following next s n.is m
      | inr e ↦ absurd (some e.1)
    ]

pub taken_more : (trees : List Tree) (done : List Attribute) (rest : List Tree) (a : Attribute) (next : List Tree)
    → AreTaken trees done rest → rest ≢ [] → IsNext rest a next → AreTaken trees (done ++ a ∷ []) next
taken_more trees done rest a next t some n = record {
  stand = stands trees done rest a next (t.stand some) n;
  on = λ more h. subst (AreListed trees) (sym (append_assoc done (a ∷ []) more))
      (t.on (a ∷ more) (listed_more rest a next more n h));
}

pub taken_all : (trees : List Tree) (done : List Attribute) (rest : List Tree) → AreTaken trees done rest → rest ≡ []
    → AreListed trees done
taken_all trees done rest t e = subst (AreListed trees) (append-nil done) (t.on [] e)

-- ---- lemmas about the names of attributes

pub differ_none : NamesDiffer []
unfolding IsDistinct
differ_none = tt

-- If an attribute with a new name is appended to a list with different names, all names of the list differ.
pub differ_more : (done : List Attribute) (a : Attribute) → NamesDiffer done → is_named a.name.text done ≡ false
    → NamesDiffer (done ++ a ∷ [])
differ_more done a h new = subst (IsDistinct bytes_eq) (sym (map-append (λ x. x.name.text) done (a ∷ [])))
    (IsDistinct-push nat_list_eq_equiv (names_of done) a.name.text h new)

pub named_more : (name : List ℕ) (done : List Attribute) (a : Attribute) → is_named name (done ++ a ∷ [])
    ≡ cond (bytes_eq a.name.text name) true (is_named name done)
named_more name done a =
    ap (list_any (bytes_eq name)) (map-append (λ x. x.name.text) done (a ∷ []))
    ∙ list_any-append (bytes_eq name) (names_of done) (a.name.text ∷ [])
    ∙ go (bytes_eq name a.name.text) (is_named name done) (nat_list_eq_equiv.symm name a.name.text)
  where
    go : (b d : Bool) → b ≡ bytes_eq a.name.text name → (d || (b || false)) ≡ cond (bytes_eq a.name.text name) true d
    go true true e = rw (sym e) refl
    go true false e = rw (sym e) refl
    go false true e = rw (sym e) refl
    go false false e = rw (sym e) refl

-- In a list of different names, a name differs from the names before it.
apart_from : (name y : List ℕ) (xs ys : List (List ℕ)) → AllByRecursion (λ z. bytes_eq y z ≡ false) (xs ++ (name ∷ ys))
    → bytes_eq name y ≡ false
apart_from name y [] ys h = nat_list_eq_equiv.symm name y ∙ h.0
apart_from name y (x ∷ xs) ys h = apart_from name y xs ys h.1

distinct_before : (name : List ℕ) (xs ys : List (List ℕ)) → IsDistinct bytes_eq (xs ++ (name ∷ ys))
    → list_any (bytes_eq name) xs ≡ false
distinct_before name [] ys h = refl
distinct_before name (x ∷ xs) ys h =
    rw (apart_from name x xs ys (IsDistinct-head bytes_eq x (xs ++ (name ∷ ys)) h))
    (distinct_before name xs ys (IsDistinct-tail bytes_eq x (xs ++ (name ∷ ys)) h))

names_before : (done : List Attribute) (a : Attribute) (more : List Attribute) → NamesDiffer (done ++ (a ∷ more))
    → is_named a.name.text done ≡ false
names_before done a more h =
    distinct_before a.name.text (names_of done) (names_of more)
    (subst (IsDistinct bytes_eq) (map-append (λ x. x.name.text) done (a ∷ more)) h)

-- ---- lemmas: token trees are at most one list of attributes

pub one_listing : (trees : List Tree) (xs ys : List Attribute) → AreListed trees xs → AreListed trees ys → xs ≡ ys
one_listing trees [] ys h k = sym (none_listed ys (subst (λ (t : List Tree). AreListed t ys) h k))
one_listing trees (x ∷ xs) [] h k = absurd (no_attribute x h.0 (subst (λ (t : List Tree). IsAttribute t x h.0) k h.1))
one_listing trees (x ∷ xs) (y ∷ ys) (b, i, inl (e, f)) (c, j, inl (g, k)) =
    let one = one_attribute trees x y b c i j in
    ap (λ z. z ∷ xs) one.0 ∙ ap (λ zs. y ∷ zs) (f ∙ sym k)
one_listing trees (x ∷ xs) (y ∷ ys) (b, i, inl (e, f)) (c, j, inr (r, m, k)) =
    let one = one_attribute trees x y b c i j in absurd (no_behind 44 c r m (sym one.1 ∙ e))
one_listing trees (x ∷ xs) (y ∷ ys) (b, i, inr (r, m, k)) (c, j, inl (e, f)) =
    let one = one_attribute trees x y b c i j in absurd (no_behind 44 b r m (one.1 ∙ e))
one_listing trees (x ∷ xs) (y ∷ ys) (b, i, inr (r, m, k)) (c, j, inr (s, n, l)) =
    let one = one_attribute trees x y b c i j in
    let rests : r ≡ s = one_mark 44 c r s (subst (λ (t : List Tree). IsAfterMark 44 t r) one.1 m) n in
    ap (λ z. z ∷ xs) one.0 ∙ ap (λ zs. y ∷ zs) (one_listing s xs ys (subst (λ (t : List Tree). AreListed t xs) rests k)
    l)

-- ---- lemmas: rejected token trees aren't a list of attributes

-- The list of attributes `list` begins with the consumed attributes `done`, and the remaining token trees `rest` are
-- its other attributes.
record GoesOn (list done : List Attribute) (rest : List Tree) : Type 0 where
  pub more : List Attribute
  pub list_is : list ≡ done ++ more
  pub listed : AreListed rest more

goes_on : (trees : List Tree) (done : List Attribute) (rest : List Tree) (list : List Attribute)
    → AreAttributesBefore trees done rest → rest ≢ [] → AreListed trees list → GoesOn list done rest
goes_on trees [] rest list h some k = record { more = list; list_is = refl; listed = subst (λ (t : List Tree). AreListed t list) h k }
goes_on trees (x ∷ xs) rest [] (b, n, i, m, h) some k = absurd
    (no_attribute x b (subst (λ (t : List Tree). IsAttribute t x b) k i))
goes_on trees (x ∷ xs) rest (y ∷ ys) (b, n, i, m, h) some (c, j, inl (e, f)) =
    let one = one_attribute trees x y b c i j in absurd (no_behind 44 b n m (one.1 ∙ e))
goes_on trees (x ∷ xs) rest (y ∷ ys) (b, n, i, m, h) some (c, j, inr (r, l, k)) =
    let one = one_attribute trees x y b c i j in
    let rests : r ≡ n = one_mark 44 b r n (subst (λ (t : List Tree). IsAfterMark 44 t r) (sym one.1) l) m in
    let on = goes_on n xs rest ys h some (subst (λ (t : List Tree). AreListed t ys) rests k) in
    record { more = on.more; list_is = ap (λ z. z ∷ ys) (sym one.0) ∙ ap (λ zs. x ∷ zs) on.list_is; listed = on.listed }

-- Lemmas: if the remaining token trees are attributes with new names, they aren't rejected.
misses_name : {A : Type 0} (a : Attribute) (trees following : List Tree) (scope : Span) (e : Error A)
    → IsAttribute trees a following → MissesName trees scope e → ⊥
misses_name a trees following scope e i m = let none = rw i.named at m.none in absurd (cc)

misses_mark : (ch : ℕ) (trees rest : List Tree) → IsAfterMark ch trees rest → begins_mark ch trees ≡ false → ⊥
misses_mark ch trees rest m none = let begins = mark_begins ch trees rest m in absurd (cc)

repeats_name : {A : Type 0} (done : List Attribute) (a : Attribute) (more : List Attribute)
    (trees following : List Tree) (e : Error A) → NamesDiffer (done ++ (a ∷ more)) → IsAttribute trees a following
    → RepeatsName (λ name. is_named name done) trees e → ⊥
repeats_name done a more trees following e d i r =
    let p = r.named in
    let q = i.named in
    let same : r.name ≡ a.name = cc in
    let again : is_named a.name.text done ≡ true = subst (λ (n : SpannedText). is_named n.text done ≡ true) same r.again
    in
    let before = names_before done a more d in
    absurd (cc)

misses_equals : {A : Type 0} (seen : List ℕ → Bool) (a : Attribute) (trees following : List Tree) (scope : Span)
    (e : Error A) → IsAttribute trees a following → MissesEquals seen trees scope e → ⊥
misses_equals seen a trees following scope e i m =
    let p = m.begun.named in
    let q = i.named in
    let same : m.following ≡ i.at_equals = cc in
    misses_mark 61 i.at_equals i.at_literal i.equals (subst (λ (t : List Tree). begins_mark 61 t ≡ false) same m.none)

misses_literal : {A : Type 0} (seen : List ℕ → Bool) (a : Attribute) (trees following : List Tree) (scope : Span)
    (e : Error A) → IsAttribute trees a following → MissesLiteral seen trees scope e → ⊥
misses_literal seen a trees following scope e i m =
    let p = m.begun.named in
    let q = i.named in
    let equals : m.at_equals ≡ i.at_equals = cc in
    let literals : m.at_literal ≡ i.at_literal = one_mark 61 i.at_equals m.at_literal i.at_literal
    (subst (λ (t : List Tree). IsAfterMark 61 t m.at_literal) equals m.equals) i.equals in
    m.none a.literal following (subst (λ (t : List Tree). IsFront t a.literal following) (sym literals) i.set)

misses_comma : {A : Type 0} (seen : List ℕ → Bool) (a : Attribute) (more : List Attribute) (trees : List Tree)
    (scope : Span) (e : Error A) → AreListed trees (a ∷ more) → MissesComma seen trees scope e → ⊥
misses_comma seen a more trees scope e (b, i, inl (n, f)) m =
    let one = one_attribute trees m.attribute a m.following b m.is i in m.some (one.1 ∙ n)
misses_comma seen a more trees scope e (b, i, inr (r, k, l)) m =
    let one = one_attribute trees m.attribute a m.following b m.is i in
    misses_mark 44 b r k (subst (λ (t : List Tree). begins_mark 44 t ≡ false) one.1 m.none)

never_refused : {A : Type 0} (done more : List Attribute) (trees : List Tree) (scope : Span) (e : Error A) → trees ≢ []
    → NamesDiffer (done ++ more) → AreListed trees more → RejectsNextAttribute (λ name. is_named name done) trees scope
    e → ⊥
never_refused done [] trees scope e some d h r = some h
never_refused done (a ∷ more) trees scope e some d h r =
    elim r.why [
      | inl m ↦ misses_name a trees h.0 scope e h.1 m
      | inr (inl m) ↦ repeats_name done a more trees h.0 e d h.1 m
      | inr (inr (inl m)) ↦ misses_equals (λ name. is_named name done) a trees h.0 scope e h.1 m
      | inr (inr (inr (inl m))) ↦ misses_literal (λ name. is_named name done) a trees h.0 scope e h.1 m
      | inr (inr (inr (inr m))) ↦ misses_comma (λ name. is_named name done) a more trees scope e h m
    ]

-- If attributes with different names were consumed and the remaining token trees are rejected, all of the token trees
-- are rejected.
pub refused_next : {A : Type 0} (trees : List Tree) (done : List Attribute) (rest : List Tree) (scope : Span)
    (e : Error A) → AreTaken trees done rest → NamesDiffer done → rest ≢ []
    → RejectsNextAttribute (λ name. is_named name done) rest scope e → RejectsAttributes trees scope e
refused_next trees done rest scope e t d some r = record {
  earlier = done;
  rest = rest;
  stand = t.stand some;
  differ = d;
  some = some;
  rejected = r;
  none = λ list are.
      let on = goes_on trees done rest list (t.stand some) some are.listed in
      never_refused done on.more rest scope e some (subst NamesDiffer on.list_is are.differ) on.listed r;
}

-- If two tests of names give equal results, a name that is new for one test is new for the other. So both tests give
-- the next attribute equal errors (`same_seen`).
same_new : (s t : List ℕ → Bool) (trees : List Tree) (name : SpannedText) (following : List Tree)
    → ((n : List ℕ) → s n ≡ t n) → HasNewName s trees name following → HasNewName t trees name following
same_new s t trees name following e h = record { named = h.named; anew = sym (e name.text) ∙ h.anew }

pub same_seen : {A : Type 0} (s t : List ℕ → Bool) (trees : List Tree) (scope : Span) (e : Error A)
    → ((n : List ℕ) → s n ≡ t n) → RejectsNextAttribute s trees scope e → RejectsNextAttribute t trees scope e
same_seen s t trees scope e same r = record {
  why = elim r.why [
    | inl m ↦ inl m
    | inr (inl m) ↦ inr (inl (record { name = m.name; following = m.following; named = m.named; again = sym (same m.name.text) ∙ m.again; error = m.error }))
    | inr (inr (inl m)) ↦ inr (inr (inl (record { name = m.name; following = m.following; begun = same_new s t trees m.name m.following same m.begun; none = m.none; rejection = m.rejection })))
    | inr (inr (inr (inl m))) ↦ inr (inr (inr (inl (record { name = m.name; at_equals = m.at_equals; at_literal = m.at_literal; begun = same_new s t trees m.name m.at_equals same m.begun; equals = m.equals; none = m.none; rejection = m.rejection }))))
    | inr (inr (inr (inr m))) ↦ inr (inr (inr (inr (record { attribute = m.attribute; following = m.following; is = m.is; anew = sym (same m.attribute.name.text) ∙ m.anew; some = m.some; none = m.none; rejection = m.rejection }))))
  ];
}

-- If the token trees after the consumed attributes begin with an identifier, so do all of the token trees.
pub taken_begins : (trees : List Tree) (done : List Attribute) (rest : List Tree) → AreTaken trees done rest → rest ≢ []
    → IsTrue (begins_ident rest) → IsTrue (begins_ident trees)
taken_begins trees done rest t some h = go done (t.stand some)
  where
    go : (done : List Attribute) → AreAttributesBefore trees done rest → IsTrue (begins_ident trees)
    go [] e = subst (λ (ts : List Tree). begins_ident ts ≡ true) (sym e) h
    go (a ∷ others) (b, n, i, m, k) = rw i.named refl
