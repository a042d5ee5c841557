-- Lemmas about the parser of a list of attributes: the attributes that it has parsed, and the set of their names.
use Rattle.std.proofs.Common.{◌≡◌, ◌≢◌, ◌⊎◌, inl, inr, ℕ, zero, suc, ◌+◌, ◌<◌, Bool, true, false, cond, get_or, take, drop, List, [], ◌∷◌, ◌++◌, refl, sym, ◌∙◌, ap, subst, string_bytes, arith}
use Rattle.std.specs.Prelude.{IsFalse, codes, All, Any, Result, Ok, Err, IfOk, IfErr, length}
use Rattle.std.specs.BTreeSet.{BTreeSet, IsEmpty}
use Rattle.std.specs.Str.{bytes_eq, chars}
use Rattle.std.specs.Cmp.Lexicographic.{nat_list_eq_equiv}
use Rattle.std.proofs.lemmas.Bool.{cases_lt, cases_order}
use Rattle.std.proofs.lemmas.List.{map_push, get_or_default, length-map, take-append-drop, drop_more}
use Rattle.std.proofs.lemmas.Map.Keys.{apart_from_distinct}
use Rattle.std.proofs.lemmas.Slice.Eq.{bytes_eq-Decides}
use Rattle.std.proofs.lemmas.List.Elements.{All-push, All-same}
use Rattle.rl_syntax.specs.declared.span.Span.{Span}
use Rattle.rl_tokens.specs.declared.error.Error.{Error}
use Rattle.rl_tokens.specs.declared.error.ErrorKind.{ErrorKind}
use Rattle.rl_tokens.specs.declared.error.ErrorKind.TheVariants.{Expected, EndOfInput, Unexpected, Lex, Suffix, NotInteger, TooLarge, NotFloat, Repeated, Number, Memory}
use Rattle.rl_tokens.specs.Errors.{memory_at}
use Rattle.rl_syntax.specs.Texts.{SpannedText}
use Rattle.rl_tokens.specs.Trees.{Tree, IdentTree}
use Rattle.rl_tokens.specs.Buffers.{begins_ident, begins_mark, first_span, IsRest, IsAfterMark, StaysRest, MissesWord, IsRejection}
use Rattle.rl_tokens.specs.Whole.{place_at, RejectsAll, LeavesTrees}
use Rattle.rl_tokens.proofs.LexLaws.{one_list, never_both}
use Rattle.rl_tokens.proofs.TreeRests.{rest_self}
use Rattle.rust_literals.specs.Parsing.{RunsLit, IsLitFront}
use Rattle.rl_fronts.specs.Fronts.{IsFront}
use Rattle.rust_literals.specs.declared.lit.Lit.{Lit}
use Rattle.rl_syntax.specs.Reading.{IsReadAs}
use Rattle.rust_literals.specs.Literals.{kind_of, token_of}
use Rattle.rust_literals.proofs.ReadLemmas.{lex_memory}
use Rattle.rl_attributes.specs.declared.attributes.Entry.{Entry}
use Rattle.rl_attributes.specs.declared.attributes.Attrs.{Attrs}
use Rattle.rl_attributes.specs.Attributes.{Attribute, IsAttribute, HasNewName, AreListed, names_of, is_named, NamesDiffer, AreAttributes, AreAttributesOf, RejectsNextAttribute, RejectsAttributes, RejectsAttributeTrees, RejectsAttributeText}
use Rattle.rl_attributes.specs.Entries.{attribute_of, attributes_of, IsReadEntry, HasName, EntriesDiffer}
use Rattle.rl_attributes.specs.AttributeParsing.{entries_of, AreEntries, RunsAttrs, IsListOrMemory}
use Rattle.rl_attributes.specs.declared.attributes.name.Name.{Name}
use Rattle.rl_attributes.specs.Names.{has_name}
use Rattle.rl_attributes.specs.AttributeSteps.{AddsName, IsNext, LacksMemoryInStep, RejectsStep, reported_at, kind_reported_at}
use Rattle.rl_attributes.proofs.AttributeLemmas.{AreTaken, taken_none, taken_more, taken_all, taken_begins, differ_more, differ_none, named_more, refused_next, same_seen, one_listing}

-- The invariant of the loop that parses a list of attributes: the attributes `entries` were consumed from the token
-- trees `trees`, `names` is the set of their names, and the token trees `rest` remain.
pub record IsAt {A : Type 0} (trees : List Tree) (entries : List (Entry A)) (names : BTreeSet Name)
    (rest : List Tree) : Type 0 where
  pub taken : AreTaken trees (attributes_of entries) rest
  pub differ : EntriesDiffer entries
  pub read : All IsReadEntry entries
  pub knows : (name : List ℕ) → has_name names name ≡ is_named name (attributes_of entries)
  pub left : IsRest trees rest

-- The invariant of the loop that parses a list of attributes holds at the start.
pub at_first : {A : Type 0} (trees : List Tree) (entries : List (Entry A)) (names : BTreeSet Name) → entries
    ≡ [] → IsEmpty names → IsAt trees entries names trees
at_first {A = A} trees entries names e n = record {
  taken = subst (λ (es : List (Entry A)). AreTaken trees (attributes_of es) trees) (sym e) (taken_none trees);
  differ = subst EntriesDiffer (sym e) differ_none;
  read = All-same IsReadEntry entries [] e (λ k d h. absurd (omega arith));
  knows = λ name. rw (e, n) refl;
  left = rest_self trees;
}

-- The invariant of the loop that parses a list of attributes holds again after one more attribute.
pub at_next : {A : Type 0} (trees : List Tree) (entries more : List (Entry A)) (old new : BTreeSet Name)
    (rest next : List Tree) (entry : Entry A) → IsAt trees entries old rest → rest ≢ []
    → IsNext rest (attribute_of entry) next → IsFalse (has_name old (string_bytes entry.name)) → IsReadEntry entry
    → AddsName old new (string_bytes entry.name) → StaysRest rest next → more ≡ entries ++ (entry ∷ [])
    → IsAt trees more new next
at_next trees entries more old new rest next entry at some n anew read adds left e =
    let grown : attributes_of more ≡ attributes_of entries ++ (attribute_of entry ∷ []) = ap attributes_of e
    ∙ map_push attribute_of entries entry in
    record {
      taken = subst (λ (l : List Attribute). AreTaken trees l next) (sym grown)
          (taken_more trees (attributes_of entries) rest (attribute_of entry) next at.taken some n);
      differ = subst NamesDiffer (sym grown) (differ_more (attributes_of entries) (attribute_of entry) at.differ
          (sym (at.knows (string_bytes entry.name)) ∙ anew));
      read = All-same IsReadEntry more (entries ++ (entry ∷ [])) e (All-push IsReadEntry entries entry at.read read);
      knows = λ name.
          adds name
          ∙ ap (λ b. cond (bytes_eq (string_bytes entry.name) name) true b) (at.knows name)
          ∙ sym (named_more name (attributes_of entries) (attribute_of entry))
          ∙ ap (is_named name) (sym grown);
      left = left trees at.left;
    }

-- If no token trees remain, all token trees are the consumed attributes.
pub at_end : {A : Type 0} (trees : List Tree) (entries : List (Entry A)) (names : BTreeSet Name)
    (rest : List Tree) → IsAt trees entries names rest → rest ≡ [] → AreEntries trees entries
at_end trees entries names rest at e = record { are = record { listed = taken_all trees (attributes_of entries) rest at.taken e; differ = at.differ }; read = at.read }

-- An allocation failure for the next attribute is an allocation failure for all of the token trees, which begin with an
-- identifier.
pub at_memory : {A B : Type 0} (trees : List Tree) (entries : List (Entry A)) (names : BTreeSet Name)
    (rest : List Tree) (e : Error B) → IsAt trees entries names rest → rest ≢ [] → LacksMemoryInStep rest e
    → LacksMemoryInStep trees e
at_memory trees entries names rest e at some w = record { begun = taken_begins trees (attributes_of entries) rest at.taken some w.begun; memory = w.memory }

pub next_memory : {B : Type 0} (rest next : List Tree) (a : Attribute) (e : Error B) → IsNext rest a next → e.kind
    ≡ Memory → LacksMemoryInStep rest e
next_memory rest next a e n m = record { begun = subst (λ (ts : List Tree). begins_ident ts ≡ true) (sym n.is.named) refl; memory = m }

-- If the parser of a list of attributes fails at the next attribute, its error is an error of the whole list.
pub at_refusal : {A B : Type 0} (trees : List Tree) (entries : List (Entry A)) (names : BTreeSet Name)
    (rest : List Tree) (scope was : Span) (e : Error B) → IsAt trees entries names rest → rest ≢ [] → was ≡ scope
    → RejectsStep (has_name names) rest was e → LacksMemoryInStep trees e ⊎ RejectsAttributes trees scope e
at_refusal trees entries names rest scope was e at some s (inl w) = inl (at_memory trees entries names rest e at some w)
at_refusal trees entries names rest scope was e at some s (inr r) =
    let seen = same_seen (has_name names) (λ name. is_named name (attributes_of entries)) rest was e at.knows r in
    inr (subst (λ (z : Span). RejectsAttributes trees z e) s (refused_next trees (attributes_of entries) rest was e
    at.taken at.differ some seen))

-- If token trees begin with a new name, `=` and a literal, they begin with an attribute of that name and that literal.
pub entry_taken : {A : Type 0} (seen : List ℕ → Bool) (trees at_equals at_literal rest : List Tree) (name : SpannedText)
    (text : List ℕ) (span : Span) (value : Lit A) → text ≡ name.text → span ≡ name.span
    → HasNewName seen trees name at_equals → IsAfterMark 61 at_equals at_literal → IsLitFront at_literal value rest
    → IsAttribute trees (record { name = record { text = text; span = span }; literal = token_of value }) rest
entry_taken seen trees at_equals at_literal rest name text span value text_is span_is begun equals front =
    let spanned : List ℕ → Span → SpannedText = λ t s. record { text = t; span = s } in
    let same : name ≡ spanned text span = ap (λ t. spanned t name.span) (sym text_is)
    ∙ ap (spanned text) (sym span_is) in
    record {
      at_equals = at_equals;
      at_literal = at_literal;
      named = begun.named ∙ ap (λ n. IdentTree n ∷ at_equals) same;
      equals = equals;
      set = subst (λ (t : SpannedText). IsFront at_literal t rest) (sym front.read.0) front.front;
    }

pub value_read : {A : Type 0} (trees : List Tree) (value : Lit A) (rest : List Tree) → IsLitFront trees value rest
    → IsReadAs (kind_of value) (chars (token_of value).text)
value_read trees value rest front = subst (λ (t : SpannedText). IsReadAs (kind_of value) (chars t.text))
    (sym front.read.0) front.read.1

-- If a new name is followed by something other than `=`, the parser's error is an error of the next attribute.
pub equals_refused : {A : Type 0} (seen : List ℕ → Bool) (trees following : List Tree) (scope was : Span)
    (name : SpannedText) (e : Error A) → HasNewName seen trees name following → IsFalse (begins_mark 61 following) → was
    ≡ scope → IsRejection following was (codes "`=`") e → RejectsStep seen trees scope e
equals_refused seen trees following scope was name e begun none same rejection =
    inr (record {
      why = inr (inr (inl (record {
        name = name;
        following = following;
        begun = begun;
        none = none;
        rejection = subst (λ (z : Span). IsRejection following z (codes "`=`") e) same rejection;
      })));
    })

-- If an attribute with a new name is followed by something other than a comma, the parser's error is an error of the
-- next attribute.
pub comma_refused : {A : Type 0} (seen : List ℕ → Bool) (trees following : List Tree) (scope was : Span)
    (attribute : Attribute) (e : Error A) → IsAttribute trees attribute following → IsFalse (seen attribute.name.text)
    → following ≢ [] → IsFalse (begins_mark 44 following) → was ≡ scope → IsRejection following was (codes "`,`") e
    → RejectsStep seen trees scope e
comma_refused seen trees following scope was attribute e is anew some none same rejection =
    inr (record {
      why = inr (inr (inr (inr (record {
        attribute = attribute;
        following = following;
        is = is;
        anew = anew;
        some = some;
        none = none;
        rejection = subst (λ (z : Span). IsRejection following z (codes "`,`") e) same rejection;
      }))));
    })

-- If the parser of literals rejects the token trees after a new name and `=`, its error is an error of the next
-- attribute.
pub value_refused : {A : Type 0} (seen : List ℕ → Bool) (trees at_equals at_literal after : List Tree)
    (scope was : Span) (name : SpannedText) (e : Error A) → HasNewName seen trees name at_equals
    → IsAfterMark 61 at_equals at_literal → was ≡ scope → RunsLit at_literal was (Err e) after
    → RejectsStep seen trees scope e
value_refused {A = A} seen trees at_equals at_literal after scope was name e begun equals same (inl w) =
    inl (record { begun = subst (λ (ts : List Tree). begins_ident ts ≡ true) (sym begun.named) refl; memory = ap (λ (x : Error A). x.kind) w.1.error })
value_refused seen trees at_equals at_literal after scope was name e begun equals same (inr n) =
    inr (record {
      why = inr (inr (inr (inl (record {
        name = name;
        at_equals = at_equals;
        at_literal = at_literal;
        begun = begun;
        equals = equals;
        none = n.none;
        rejection = subst (λ (z : Span). IsRejection at_literal z (codes "literal") e) same n.rejection;
      }))));
    })

-- ---- lemmas about the span of an allocation failure: it is the span of the first token tree

-- An error that names a missing part isn't an allocation failure.
no_word : (A : Type 0) (trees : List Tree) (word : List ℕ) → MissesWord {A = A} trees word Memory → ⊥
no_word A [] word h = h
no_word A (t ∷ ts) word h = h

no_refusal : {A : Type 0} (trees : List Tree) (scope : Span) (word : List ℕ) (e : Error A)
    → IsRejection trees scope word e → e.kind ≡ Memory → ⊥
no_refusal {A = A} trees scope word e r m = no_word A trees word
    (subst (λ (k : ErrorKind A). MissesWord trees word k) m r.kind)

no_memory : {A : Type 0} (seen : List ℕ → Bool) (trees : List Tree) (scope : Span) (e : Error A)
    → RejectsNextAttribute seen trees scope e → e.kind ≡ Memory → ⊥
no_memory {A = A} seen trees scope e r m =
    elim r.why [
      | inl w ↦ no_refusal trees scope _ e w.rejection m
      | inr (inl w) ↦ (let k : e.kind ≡ Repeated = ap (λ (x : Error A). x.kind) w.error in absurd (cc))
      | inr (inr (inl w)) ↦ no_refusal w.following scope _ e w.rejection m
      | inr (inr (inr (inl w))) ↦ no_refusal w.at_literal scope _ e w.rejection m
      | inr (inr (inr (inr w))) ↦ no_refusal w.following scope _ e w.rejection m
    ]

-- The function that replaces the span of an allocation failure leaves any other error unchanged.
stays : {A : Type 0} (kind : ErrorKind A) (span place : Span) → (kind ≡ Memory → ⊥) → kind_reported_at kind span place
    ≡ record { span = span; kind = kind }
stays (Expected w) span place h = refl
stays (EndOfInput w) span place h = refl
stays Unexpected span place h = refl
stays (Lex l) span place h = refl
stays (Suffix x) span place h = refl
stays NotInteger span place h = refl
stays TooLarge span place h = refl
stays NotFloat span place h = refl
stays Repeated span place h = refl
stays (Number x) span place h = refl
stays Memory span place h = absurd (h refl)

pub told_refusal : {A : Type 0} (trees : List Tree) (scope place : Span) (e told : Error A) → LacksMemoryInStep trees e
    ⊎ RejectsAttributes trees scope e → place ≡ first_span trees scope → told ≡ reported_at e place
    → RejectsAttributeTrees trees scope told
told_refusal trees scope place e told (inl w) p t =
    inl (record { begun = w.begun; error = t ∙ ap (λ k. kind_reported_at k e.span place) w.memory ∙ ap memory_at p })
told_refusal trees scope place e told (inr r) p t =
    let same : told ≡ e = t ∙ stays e.kind e.span place (no_memory (λ name. is_named name r.earlier) r.rest scope e
    r.rejected) in
    inr (subst (RejectsAttributes trees scope) (sym same) r)

-- ---- lemmas about parsing a whole text

pub text_refused : {A : Type 0} (text : List ℕ) (file : ℕ) (e : Error A) → RejectsAll (RunsAttrs {A = A}) text file e
    → RejectsAttributeText (chars text) file (length text) e
text_refused text file e (inl u) = inl u
text_refused {A = A} text file e (inr c) = inr (record { trees = c.trees; lexes = c.lexes; rejected = go c.rejected.why })
  where
    go : ((rest : List Tree) × RunsAttrs c.trees (place_at file (length text)) (Err e) rest)
        ⊎ LeavesTrees (RunsAttrs {A = A}) c.trees (place_at file (length text)) e
        → RejectsAttributeTrees c.trees (place_at file (length text)) e
    go (inl (rest, ran)) = ran.0
    go (inr l) = absurd (l.some l.ran.1)

one_text : (text : List ℕ) (file : ℕ) (xs ys : List Attribute) → AreAttributesOf text file xs
    → AreAttributesOf text file ys → xs ≡ ys
one_text text file xs ys a b =
    one_listing b.trees xs ys (subst (λ (t : List Tree). AreListed t xs)
    (one_list text file a.trees b.trees a.lexes b.lexes) a.are.listed) b.are.listed

pub exactly : {A : Type 0} (text : List ℕ) (file end : ℕ) (r : Result (Attrs A) (Error A))
    → IfOk r (λ attrs. AreAttributesOf text file (attributes_of (entries_of attrs)))
    → IfErr r (RejectsAttributeText text file end) → (list : List Attribute) → AreAttributesOf text file list
    → IsListOrMemory list r
exactly text file end (Ok attrs) read rejected list a = one_text text file (attributes_of (entries_of attrs)) list read
    a
exactly text file end (Err e) read (inl u) list a = lex_memory text file a.trees u.kind u.at e never_both a.lexes
    u.error u.rejected
exactly {A = A} text file end (Err e) read (inr c) list a = go c.rejected
  where
    go : RejectsAttributeTrees c.trees (place_at file end) e → e.kind ≡ Memory
    go (inl s) = ap (λ (x : Error A). x.kind) s.error
    go (inr r) = absurd (r.none list (subst (λ (t : List Tree). AreAttributes t list)
        (one_list text file a.trees c.trees a.lexes c.lexes) a.are))

-- ---- lemmas about the attribute with a name

-- If the comparison of two names is `true`, the names are equal.
pub is_name : (bytes text name : List ℕ) (b : Bool) → text ≡ bytes → b ≡ bytes_eq text name → b ≡ true → bytes ≡ name
is_name bytes text name b t e h = sym t ∙ (bytes_eq-Decides text name).0 (sym e ∙ h)

pub no_name : (bytes text name : List ℕ) (b : Bool) → text ≡ bytes → b ≡ bytes_eq text name → b ≡ false → bytes ≡ name
    → ⊥
no_name bytes text name b t e h k = let same = (bytes_eq-Decides text name).1 (t ∙ k) in absurd (cc)

-- The name at an index of the list of names is the name of the attribute at that index.
name_at : {A : Type 0} (entries : List (Entry A)) (i : ℕ) (d : Entry A) → i < length entries
    → get_or (names_of (attributes_of entries)) i [] ≡ string_bytes (get_or entries i d).name
name_at [] i d h = absurd (omega arith)
name_at (x ∷ xs) zero d h = refl
name_at (x ∷ xs) (suc i) d h = name_at xs i d (omega arith)

names_length : {A : Type 0} (entries : List (Entry A)) → length (names_of (attributes_of entries)) ≡ length entries
names_length entries = simp length-map

apart : {A : Type 0} (entries : List (Entry A)) (name : List ℕ) (i k : ℕ) (d e : Entry A) → EntriesDiffer entries
    → i < k → k < length entries → HasName name (get_or entries i d) → HasName name (get_or entries k e) → ⊥
apart entries name i k d e differ order within one other =
    let names = names_of (attributes_of entries) in
    let differs = apart_from_distinct bytes_eq names i k [] differ order (omega (arith, names_length entries)) in
    let first : get_or names i [] ≡ name = name_at entries i d (omega arith) ∙ one in
    let second : get_or names k [] ≡ name = name_at entries k e within ∙ other in
    let same = nat_list_eq_equiv.refl name in
    let both = rw (first, second) at differs in
    absurd (cc)

-- Suppose that the names of the attributes differ, and that the attribute at an index has the name `name`. Then each
-- attribute with this name has the value of the attribute at the index.
pub value_lent : {A : Type 0} (entries : List (Entry A)) (name : List ℕ) (i : ℕ) (entry : Entry A)
    → EntriesDiffer entries → i < length entries → entry ≡ get_or entries i entry → HasName name entry
    → (k : ℕ) (d : Entry A) → k < length entries → HasName name (get_or entries k d) → entry.value
    ≡ (get_or entries k d).value
value_lent {A = A} entries name i entry differ below is named k d within other =
    elim (cases_order i k) [
      | inl h ↦ ap (λ (x : Entry A). x.value) (is ∙ get_or_default entries i entry d below
          ∙ ap (λ n. get_or entries n d) h)
      | inr (inl h) ↦ absurd (apart entries name i k entry d differ h within here other)
      | inr (inr h) ↦ absurd (apart entries name k i d entry differ h below other here)
    ]
  where
    here : HasName name (get_or entries i entry)
    here = subst (λ (x : Entry A). HasName name x) is named

-- If neither the attributes before an index nor the attribute at the index have a name, no attribute up to and
-- including the index has that name.
pub none_more : {A : Type 0} (entries : List (Entry A)) (name : List ℕ) (i : ℕ) (entry : Entry A) → i < length entries
    → entry ≡ get_or entries i entry → (HasName name entry → ⊥)
    → ((k : ℕ) (d : Entry A) → k < i → HasName name (get_or entries k d) → ⊥) → (k : ℕ) (d : Entry A) → k < i + 1
    → HasName name (get_or entries k d) → ⊥
none_more {A = A} entries name i entry below is other none k d h has =
    elim (cases_lt k i) [
      | inl l ↦ none k d l has
      | inr l ↦
          let at : k ≡ i = omega arith in
          let same : get_or entries k d ≡ entry = ap (λ n. get_or entries n d) at
          ∙ get_or_default entries i d entry below ∙ sym is in
          other (subst (λ (x : Entry A). HasName name x) same has)
    ]

-- A list is the elements before an index, the element at the index, and the elements after it.
pub parted_at : {X : Type 0} (xs : List X) (i : ℕ) (x : X) → i < length xs → x ≡ get_or xs i x → xs ≡ take i xs
    ++ (x ∷ drop (i + 1) xs)
parted_at xs i x below is =
    sym (take-append-drop i xs) ∙ ap (λ z. take i xs ++ z) (drop_more xs i x below
    ∙ ap (λ z. z ∷ drop (i + 1) xs) (sym is))

-- Suppose that some attribute has the name `name`, and that all attributes with this name have the value `value`. If
-- `value` has the property `P`, some attribute with this name has a value with the property `P`.
pub value_rejected : {A : Type 0} (entries : List (Entry A)) (name : List ℕ) (value : Lit A) (P : Lit A → Type 0)
    → Any (HasName name) entries → All (λ e. HasName name e → value ≡ e.value) entries → P value
    → Any (λ e. HasName name e × P e.value) entries
value_rejected {A} entries name value P (i, e, bound, is, named) every p =
    let same : value ≡ e.value = subst (λ (x : Entry A). HasName name x → value ≡ x.value) is (every i e bound) named in
    (i, e, bound, is, (named, subst P same p))
