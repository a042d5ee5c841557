-- Lemmas about the values of settings in terms of the text: of its attributes, and of the texts of their literals.
use Rattle.std.proofs.Common.{◌≡◌, ◌⊎◌, inl, inr, ℕ, ◌<◌, ◌≤◌, suc, zero, Bool, true, false, List, [], ◌∷◌, ◌++◌, map, get_or, length, Option, Some, None, Result, Ok, Err, refl, sym, ◌∙◌, ap, subst, arith, rules, IsTrue, codes, ◌||◌}
use Rattle.std.proofs.Props.{props}
use Rattle.std.proofs.Math.Logic.{∥∥₁_elim}
use Rattle.std.specs.Prelude.{String, string_bytes, MatchOption, IfNone, IfOk, IfErr, IsOkAnd, encode_utf8_all}
use Rattle.std.specs.List.{All, Any, Contains}
use Rattle.std.specs.Option.{unwrap_or}
use Rattle.std.specs.Str.{chars, bytes_eq, IsUtf8}
use Rattle.std.proofs.lemmas.Bool.{false≢true}
use Rattle.std.proofs.lemmas.List.{length-map, get_or-map}
use Rattle.std.proofs.lemmas.List.Elements.{All-contains, Contains-append_right, All-map}
use Rattle.std.proofs.lemmas.Slice.Eq.{bytes_eq-Decides}
use Rattle.std.proofs.lemmas.Str.{chars-IsAscii, encodes-chars}
use Rattle.rl_syntax.specs.declared.kind.Kind.{Kind}
use Rattle.rl_syntax.specs.declared.kind.Kind.TheVariants.{Str as StrKind, ByteStr as ByteStrKind, CStr as CStrKind, Byte as ByteKind, Char as CharKind, Int as IntKind, Float as FloatKind, Bool as BoolKind}
use Rattle.rl_syntax.specs.Numbers.{Sign, float_digits, limit, NoSign}
use Rattle.rl_syntax.specs.Reading.{Characters, Digits, Truth, Contents, Reads, ReadsAs, HasContents, HasNoInteger, HasNoReading, HasSuffix, IsReadAs, truth_text}
use Rattle.rl_syntax.proofs.OneReading.{one_reading}
use Rattle.rust_literals.specs.declared.lit.Lit.{Lit}
use Rattle.rust_literals.specs.declared.lit.Lit.TheVariants.{Str, ByteStr, CStr, Byte, Char, Int, Float, Bool as BoolLit, Verbatim}
use Rattle.rust_literals.specs.Held.{HasDigits}
use Rattle.rust_literals.specs.Literals.{kind_of, token_of}
use Rattle.rust_literals.specs.LitParts.{HasLitSuffix, IsSuffixAs}
use Rattle.rl_attributes.specs.declared.attributes.Entry.{Entry}
use Rattle.rl_attributes.specs.declared.settings.Setting.{Setting}
use Rattle.rl_attributes.specs.declared.settings.SettingError.{SettingError}
use Rattle.rl_attributes.specs.Attributes.{Attribute}
use Rattle.rl_attributes.specs.Entries.{attribute_of, attributes_of, AreReadValues, EntriesDiffer, IsReadLit, HasName}
use Rattle.rl_attributes.specs.Settings.{knows, IsStringSet, IsTruthSet, IsUnsigned, IsUnsignedSet, IsNumberSet, RejectsString, RejectsTruth, RejectsUnsigned, RejectsNumber, RejectsFirst, RejectsSetValue, IsSetAs, IsRejectedEntry}
use Rattle.rl_attributes.specs.TextSettings.{IsNamed, IsOneOf, setting_names, AreNamedOf, HasBareText, HaveBareTexts, IsUnset, IsSetWith, IsSetOr, IsStringOf, IsTruthOf, IsUnsignedOf, HasNumberDigits, IsStringAt, IsTruthAt, IsUnsignedAt, AreDigitsAt, IsNumberAt, IsMemoryError, IsSomeStringOrMemory, IsSomeNumberOrRejected}
use Rattle.rl_lenient.proofs.IntegerLemmas.{int_past}
use Rattle.rl_attributes.proofs.EntryLemmas.{value_lent}

-- ---- lemmas about the elements of a mapped list

pub any_map : {X Y : Type 0} (f : X → Y) (P : Y → Type 0) (xs : List X) → Any (λ x. P (f x)) xs → Any P (map f xs)
any_map f P xs (k, x, lt, e, p) =
    (k, f x, rw (length-map xs f) lt, get_or-map f xs k x (f x) lt ∙ ap f e, p)

pub any_unmap : {X Y : Type 0} (f : X → Y) (P : Y → Type 0) (xs : List X) → Any P (map f xs) → Any (λ x. P (f x)) xs
any_unmap f P [] (k, y, lt, e, p) = absurd (omega arith)
any_unmap f P (x ∷ xs) (zero, y, lt, e, p) = (zero, x, omega arith, refl, subst P (sym e) p)
any_unmap f P (x ∷ xs) (suc k, y, lt, e, p) =
    let r = any_unmap f P xs (k, y, omega arith, e, p) in (suc r.0, r.1, omega (arith, r.2), r.3, r.4)

pub all_unmap : {X Y : Type 0} (f : X → Y) (P : Y → Type 0) (xs : List X) → All P (map f xs) → All (λ x. P (f x)) xs
all_unmap f P xs h k d lt =
    subst P (get_or-map f xs k d (f d) lt) (h k (f d) (rw (length-map xs f) lt))

at_middle : {X : Type 0} (P : X → Type 0) (a : List X) (x : X) (b xs : List X) → All P xs → xs ≡ a ++ (x ∷ b) → P x
at_middle P a x b xs all e =
    let in_rest : Contains (x ∷ b) x = (zero, omega arith, refl) in
    let in_all : Contains xs x = rw e (Contains-append_right a (x ∷ b) x in_rest) in
    All-contains P xs x all in_all

-- ---- lemmas about the names that settings have

one_or : (n name : List ℕ) (ns : List (List ℕ)) (b k : Bool) → bytes_eq n name ≡ b → (k ≡ true → IsOneOf ns name)
    → (b || k) ≡ true → (name ≡ n) ⊎ IsOneOf ns name
one_or n name ns true k e rest h = inl (sym ((bytes_eq-Decides n name).0 e))
one_or n name ns false k e rest h = inr (rest h)

or_true : (a b : Bool) → b ≡ true → (a || b) ≡ true
or_true true b e = refl
or_true false b e = e

pub knows_one : (settings : List Setting) (name : List ℕ) → IsTrue (knows settings name)
    → IsOneOf (setting_names settings) name
knows_one [] name h = absurd (false≢true h)
knows_one (s ∷ ss) name h =
    one_or s.name.now name (setting_names ss) (bytes_eq s.name.now name) (knows ss name) refl (knows_one ss name) h

pub one_known : (settings : List Setting) (name : List ℕ) → IsOneOf (setting_names settings) name
    → IsTrue (knows settings name)
one_known [] name h = absurd h
one_known (s ∷ ss) name (inl e) =
    let t : bytes_eq s.name.now name ≡ true = (bytes_eq-Decides s.name.now name).1 (sym e) in
    ap (λ (b : Bool). b || knows ss name) t
one_known (s ∷ ss) name (inr h) = or_true (bytes_eq s.name.now name) (knows ss name) (one_known ss name h)

-- ---- lemmas about literals as values of settings

pub string_contents : {A B : Type 0} (l : Lit A) (v : String B) → IsStringSet l v
    → HasContents StrKind (chars (token_of l).text) (Characters (chars (string_bytes v)))
string_contents (Str l) v h = h
string_contents (ByteStr l) v h = absurd h
string_contents (CStr l) v h = absurd h
string_contents (Byte l) v h = absurd h
string_contents (Char l) v h = absurd h
string_contents (Int l) v h = absurd h
string_contents (Float l) v h = absurd h
string_contents (BoolLit l) v h = absurd h
string_contents (Verbatim l) v h = absurd h

word_reads : (b : Bool) → Reads (chars (truth_text b)) BoolKind (Truth b) []
word_reads true =
    record { truth = true; text_is = chars-IsAscii (codes "true") (search rules); suffix_is = refl; contents_is = refl }
word_reads false =
    record { truth = false; text_is = chars-IsAscii (codes "false") (search rules); suffix_is = refl; contents_is = refl }

pub truth_reads : {A : Type 0} (l : Lit A) (b : Bool) → IsTruthSet l b → Reads (chars (token_of l).text) BoolKind (Truth b) []
truth_reads (Str l) b h = absurd h
truth_reads (ByteStr l) b h = absurd h
truth_reads (CStr l) b h = absurd h
truth_reads (Byte l) b h = absurd h
truth_reads (Char l) b h = absurd h
truth_reads (Int l) b h = absurd h
truth_reads (Float l) b h = absurd h
truth_reads (BoolLit l) b h = subst (λ (y : Bool). Reads (chars (truth_text l.value)) BoolKind (Truth y) []) h (word_reads l.value)
truth_reads (Verbatim l) b h = absurd h

-- ---- lemmas: the kind and the suffix of a literal are the kind and the suffix of the literal's text

kind_by : (o : Option Kind) (t : List ℕ) → IsReadAs o t → (k : Kind) (v : Contents) (x : List ℕ)
    → Reads t k v x → o ≡ Some k
kind_by (Some l) t h k v x r = ap (λ (y : Kind). Some y) (one_reading t l k h.0 v h.1 x h.2 r).0
kind_by None t h k v x r = absurd (h k v x r)

kinds_once : (o : Option Kind) (k : Kind) → IsProp (o ≡ Some k)
kinds_once o k = hlevel props

texts_once : (x y : List ℕ) → IsProp (x ≡ y)
texts_once x y = hlevel props

pub is_kind : {A : Type 0} (l : Lit A) → IsReadLit l → (k : Kind) (v : Contents) (x : List ℕ)
    → Reads (chars (token_of l).text) k v x → kind_of l ≡ Some k
is_kind l h k v x r =
    ∥∥₁_elim h (kinds_once (kind_of l) k) (λ is. kind_by (kind_of l) (chars (token_of l).text) is k v x r)

unread : (o : Option Kind) (t : List ℕ) → o ≡ None → IsReadAs o t → HasNoReading t
unread None t e h = h
unread (Some k) t e h = absurd cc

pub malformed : {A : Type 0} (l : Lit A) → IsReadLit l → kind_of l ≡ None → HasNoReading (chars (token_of l).text)
malformed l h e k v x r =
    let some = is_kind l h k v x r in
    absurd (let never : None ≡ Some k = sym e ∙ some in cc)

own_suffix : (k : Kind) (t x : List ℕ) → ReadsAs k t → IsSuffixAs (Some k) t x → HasSuffix k t x
own_suffix FloatKind t x h s =
    (Digits (float_digits s.0), record { numeral = s.0; reads = s.1; no_integer = h.2.no_integer; contents_is = refl })
own_suffix StrKind t x h s = s
own_suffix ByteStrKind t x h s = s
own_suffix CStrKind t x h s = s
own_suffix ByteKind t x h s = s
own_suffix CharKind t x h s = s
own_suffix IntKind t x h s = s
own_suffix BoolKind t x h s = (h.0, record { truth = h.2.truth; text_is = h.2.text_is; suffix_is = s; contents_is = h.2.contents_is })

suffix_by : (o : Option Kind) (t : List ℕ) → IsReadAs o t → (k : Kind) (v : Contents) (x y : List ℕ) → Reads t k v x
    → IsSuffixAs o t y → y ≡ x
suffix_by (Some l) t h k v x y r s =
    let own = own_suffix l t y h s in
    (one_reading t l k own.0 v y x own.1 r).2
suffix_by None t h k v x y r s = absurd (h k v x r)

pub suffix_is : {A : Type 0} (l : Lit A) → IsReadLit l → (k : Kind) (v : Contents) (x y : List ℕ)
    → Reads (chars (token_of l).text) k v x → HasLitSuffix l y → y ≡ x
suffix_is l h k v x y r s =
    ∥∥₁_elim h (texts_once y x) (λ is. suffix_by (kind_of l) (chars (token_of l).text) is k v x y r s)

pub string_in_text : {A B : Type 0} (l : Lit A) (v : String B) → IsStringSet l v → HasLitSuffix l []
    → Reads (chars (token_of l).text) StrKind (Characters (chars (string_bytes v))) []
string_in_text (Str l) v h s = let text = chars l.text in let c = Characters (chars (string_bytes v)) in let none = (one_reading text StrKind StrKind c s.0 h.0 [] h.1 s.1).2 in subst (λ (y : List ℕ). Reads text StrKind c y) none h.1
string_in_text (ByteStr l) v h s = absurd h
string_in_text (CStr l) v h s = absurd h
string_in_text (Byte l) v h s = absurd h
string_in_text (Char l) v h s = absurd h
string_in_text (Int l) v h s = absurd h
string_in_text (Float l) v h s = absurd h
string_in_text (BoolLit l) v h s = absurd h
string_in_text (Verbatim l) v h s = absurd h

-- ---- lemmas about the errors of values

pub string_memory : {A : Type 0} (s : Setting) (l : Lit A) (e : SettingError A) → kind_of l ≡ Some StrKind
    → RejectsString s l e → IsMemoryError e
string_memory s (Str l) e k h = rw h refl
string_memory s (ByteStr l) e k h = absurd (let x = k in cc)
string_memory s (CStr l) e k h = absurd (let x = k in cc)
string_memory s (Byte l) e k h = absurd (let x = k in cc)
string_memory s (Char l) e k h = absurd (let x = k in cc)
string_memory s (Int l) e k h = absurd (let x = k in cc)
string_memory s (Float l) e k h = absurd (let x = k in cc)
string_memory s (BoolLit l) e k h = absurd (let x = k in cc)
string_memory s (Verbatim l) e k h = absurd (let x = k in cc)

pub truth_fits : {A : Type 0} (s : Setting) (l : Lit A) (e : SettingError A) → kind_of l ≡ Some BoolKind
    → RejectsTruth s l e → ⊥
truth_fits s (BoolLit l) e k h = h
truth_fits s (Str l) e k h = absurd (let x = k in cc)
truth_fits s (ByteStr l) e k h = absurd (let x = k in cc)
truth_fits s (CStr l) e k h = absurd (let x = k in cc)
truth_fits s (Byte l) e k h = absurd (let x = k in cc)
truth_fits s (Char l) e k h = absurd (let x = k in cc)
truth_fits s (Int l) e k h = absurd (let x = k in cc)
truth_fits s (Float l) e k h = absurd (let x = k in cc)
truth_fits s (Verbatim l) e k h = absurd (let x = k in cc)

-- ---- lemmas about the check of all names and suffixes

pub are_named : {A : Type 0} (settings : List Setting) (es : List (Entry A))
    → All (λ e. IsTrue (knows settings (string_bytes e.name))) es → AreNamedOf (setting_names settings) (attributes_of es)
are_named settings es h =
    All-map (λ a. IsOneOf (setting_names settings) a.name.text) attribute_of es
    (λ k d lt. knows_one settings (string_bytes (get_or es k d).name) (h k d lt))

pub have_no_suffix : {A : Type 0} (es : List (Entry A)) → AreReadValues es → All (λ e. HasLitSuffix e.value []) es
    → HaveBareTexts (attributes_of es)
have_no_suffix es rd h =
    All-map (λ a. HasBareText a.literal) attribute_of es
    (λ k d lt kind v x r. sym (suffix_is (get_or es k d).value (rd k d lt) kind v x [] r (h k d lt)))

some_suffix : (o : Option Kind) (t x : List ℕ) → IsReadAs o t → IsSuffixAs o t x
    → ((k : Kind) (v : Contents) (y : List ℕ) → Reads t k v y → y ≡ []) → x ≡ []
some_suffix (Some k) t x h s bare = let own = own_suffix k t x h s in bare k own.0 x own.1
some_suffix None t x h s bare = s

not_rejected : {A : Type 0} (settings : List Setting) (e : Entry A) (err : SettingError A) → IsReadLit e.value
    → IsOneOf (setting_names settings) (string_bytes e.name) → HasBareText (token_of e.value)
    → IsRejectedEntry settings e err → ⊥
not_rejected settings e err rd kn bare (inl u) =
    false≢true (sym u.unknown ∙ one_known settings (string_bytes e.name) kn)
not_rejected settings e err rd kn bare (inr s) =
    s.suffixed.some
    (∥∥₁_elim rd (texts_once s.suffixed.suffix [])
    (λ is. some_suffix (kind_of e.value) (chars (token_of e.value).text) s.suffixed.suffix is s.suffixed.has bare))

pub check_accepts : {A : Type 0} (settings : List Setting) (es : List (Entry A)) (err : SettingError A)
    → RejectsFirst settings es err → AreReadValues es → AreNamedOf (setting_names settings) (attributes_of es)
    → HaveBareTexts (attributes_of es) → ⊥
check_accepts settings es err j rd kn bare =
    not_rejected settings j.entry err
    (at_middle (λ e. IsReadLit e.value) j.earlier j.entry j.later es rd j.entries_are)
    (at_middle (λ e. IsOneOf (setting_names settings) (string_bytes e.name)) j.earlier j.entry j.later es
    (all_unmap attribute_of (λ a. IsOneOf (setting_names settings) a.name.text) es kn) j.entries_are)
    (at_middle (λ e. HasBareText (token_of e.value)) j.earlier j.entry j.later es
    (all_unmap attribute_of (λ a. HasBareText a.literal) es bare) j.entries_are)
    j.rejected

-- ---- lemmas about the value of one name

-- If a setting has the value `found`, the text sets the setting's name to that value. If `found` is `None`, no
-- attribute has the name.
pub set_in_text : {A V : Type 0} (p : Setting) (es : List (Entry A)) (Holds : Lit A → V → Type 0) (found : Option V)
    (Is : V → Attribute → Type 0) → AreReadValues es
    → ((e : Entry A) (v : V) → IsReadLit e.value → Holds e.value v → Is v (attribute_of e)) → IsSetAs p es Holds found
    → MatchOption found (IsUnset p.name.now (attributes_of es)) (λ v. IsSetWith p.name.now (Is v) (attributes_of es))
set_in_text p es Holds (Some v) Is rd gives set =
    record {
      named = any_map attribute_of (IsNamed p.name.now) es set.named;
      every = All-map (λ a. IsNamed p.name.now a → Is v a) attribute_of es
          (λ k d lt n. gives (get_or es k d) v (rd k d lt) (set.every k d lt n));
    }
set_in_text p es Holds None Is rd gives set =
    All-map (λ a. IsNamed p.name.now a → ⊥) attribute_of es (λ k d lt n. set.every k d lt n)

-- An attribute whose value has the property `Of`, and whose text has the property `Is`.
record SetEntry {A : Type 0} (Of : Lit A → Type 0) (Is : Attribute → Type 0) : Type 0 where
  entry : Entry A
  read : IsReadLit entry.value
  of : Of entry.value
  is : Is (attribute_of entry)

text_at : {A : Type 0} (p : Setting) (es : List (Entry A)) (Is : Attribute → Type 0)
    → IsSetWith p.name.now Is (attributes_of es) → (k : ℕ) (x : Entry A) → k < length es → get_or es k x ≡ x
    → HasName p.name.now x → Is (attribute_of x)
text_at {A = A} p es Is set k x lt e n =
    subst (λ (y : Entry A). HasName p.name.now y → Is (attribute_of y)) e
    (all_unmap attribute_of (λ a. IsNamed p.name.now a → Is a) es set.every k x lt) n

some_at : {A V : Type 0} (p : Setting) (es : List (Entry A)) (Holds : Lit A → V → Type 0) (v : V)
    (Is : Attribute → Type 0) → AreReadValues es → IsSetAs p es Holds (Some v) → IsSetWith p.name.now Is (attributes_of es)
    → SetEntry (λ l. Holds l v) Is
some_at {A = A} p es Holds v Is rd set text =
    let a = set.named in
    let x = a.1 in
    record {
      entry = x;
      read = subst (λ (y : Entry A). IsReadLit y.value) a.3 (rd a.0 x a.2);
      of = subst (λ (y : Entry A). HasName p.name.now y → Holds y.value v) a.3 (set.every a.0 x a.2) a.4;
      is = text_at p es Is text a.0 x a.2 a.3 a.4;
    }

none_at : {A V : Type 0} (p : Setting) (es : List (Entry A)) (Holds : Lit A → V → Type 0) (Is : Attribute → Type 0)
    → IsSetAs p es Holds None → IsSetWith p.name.now Is (attributes_of es) → ⊥
none_at {A = A} p es Holds Is set text =
    let a = any_unmap attribute_of (IsNamed p.name.now) es text.named in
    subst (λ (y : Entry A). HasName p.name.now y → ⊥) a.3 (set.every a.0 a.1 a.2) a.4

rejected_at : {A : Type 0} (p : Setting) (es : List (Entry A)) (Rejects : Lit A → SettingError A → Type 0)
    (err : SettingError A) (Is : Attribute → Type 0) → AreReadValues es → RejectsSetValue p es Rejects err
    → IsSetWith p.name.now Is (attributes_of es) → SetEntry (λ l. Rejects l err) Is
rejected_at {A = A} p es Rejects err Is rd (k, x, lt, e, j) text =
    record {
      entry = x;
      read = subst (λ (y : Entry A). IsReadLit y.value) e (rd k x lt);
      of = j.1;
      is = text_at p es Is text k x lt e j.0;
    }

-- Lemmas: if no attribute has a setting's name, the setting has no value and no error.
unset_some : {A V : Type 0} (p : Setting) (es : List (Entry A)) (Holds : Lit A → V → Type 0) (found : Option V)
    → IsSetAs p es Holds found → IsUnset p.name.now (attributes_of es) → found ≡ None
unset_some p es Holds None set none = refl
unset_some {A = A} p es Holds (Some v) set none =
    let a = set.named in
    absurd (subst (λ (y : Entry A). HasName p.name.now y → ⊥) a.3
    (all_unmap attribute_of (λ b. IsNamed p.name.now b → ⊥) es none a.0 a.1 a.2) a.4)

unset_rejected : {A : Type 0} (p : Setting) (es : List (Entry A)) (Rejects : Lit A → SettingError A → Type 0)
    (err : SettingError A) → RejectsSetValue p es Rejects err → IsUnset p.name.now (attributes_of es) → ⊥
unset_rejected {A = A} p es Rejects err (k, x, lt, e, j) none =
    subst (λ (y : Entry A). HasName p.name.now y → ⊥) e
    (all_unmap attribute_of (λ b. IsNamed p.name.now b → ⊥) es none k x lt) j.0

pub unset_answer : {A V : Type 0} (p : Setting) (es : List (Entry A)) (Holds : Lit A → V → Type 0)
    (Rejects : Lit A → SettingError A → Type 0) (r : Result (Option V) (SettingError A)) → IfOk r (IsSetAs p es Holds)
    → IfErr r (RejectsSetValue p es Rejects) → IsUnset p.name.now (attributes_of es) → IsOkAnd r (λ found. found ≡ None)
unset_answer p es Holds Rejects (Ok found) set rejected none = unset_some p es Holds found set none
unset_answer p es Holds Rejects (Err e) set rejected none = unset_rejected p es Rejects e rejected none

pub text_answer : {A V : Type 0} (p : Setting) (es : List (Entry A)) (Holds : Lit A → V → Type 0)
    (r : Result (Option V) (SettingError A)) (Is : V → Attribute → Type 0) → AreReadValues es
    → ((e : Entry A) (v : V) → IsReadLit e.value → Holds e.value v → Is v (attribute_of e)) → IfOk r (IsSetAs p es Holds)
    → IfOk r (λ found. MatchOption found (IsUnset p.name.now (attributes_of es))
    (λ v. IsSetWith p.name.now (Is v) (attributes_of es)))
text_answer p es Holds (Ok found) Is rd gives set = set_in_text p es Holds found Is rd gives set
text_answer p es Holds (Err e) Is rd gives set = tt

-- ---- lemmas about settings that are strings

pub string_in_words : {A B : Type 0} (e : Entry A) (v : String B) → IsReadLit e.value → IsStringSet e.value v
    → IsStringOf (string_bytes v) (attribute_of e)
string_in_words e v rd h = string_contents e.value v h

same_string : {A B : Type 0} (v : String B) (w : List ℕ) → SetEntry {A = A} (λ l. IsStringSet l v) (IsStringOf w)
    → chars (string_bytes v) ≡ chars w
same_string v w at =
    let c = string_contents at.entry.value v at.of in
    let same = (one_reading (chars (token_of at.entry.value).text) StrKind StrKind (Characters (chars (string_bytes v)))
    (Characters (chars w)) c.0 at.is.0 c.1 at.is.1).1 in cc

pub string_exactly : {A : Type 0} (p : Setting) (es : List (Entry A)) (r : Result (Option (String A)) (SettingError A))
    → AreReadValues es → IfOk r (IsSetAs p es IsStringSet) → IfErr r (RejectsSetValue p es (RejectsString p)) → (w : List ℕ)
    → IsStringAt p.name.now w (attributes_of es) → IsSomeStringOrMemory w r
string_exactly p es (Ok (Some v)) rd set rejected w text =
    same_string v w (some_at p es IsStringSet v (IsStringOf w) rd set text)
string_exactly {A = A} p es (Ok None) rd set rejected w text =
    none_at {V = String A} p es IsStringSet (IsStringOf w) set text
string_exactly p es (Err e) rd set rejected w text =
    let at = rejected_at p es (RejectsString p) e (IsStringOf w) rd rejected text in
    string_memory p at.entry.value e
    (is_kind at.entry.value at.read StrKind (Characters (chars w)) at.is.0 at.is.1) at.of

-- ---- lemmas about settings that are `bool` values

pub truth_in_words : {A : Type 0} (e : Entry A) (b : Bool) → IsReadLit e.value → IsTruthSet e.value b
    → IsTruthOf b (attribute_of e)
truth_in_words e b rd h = ([], truth_reads e.value b h)

truths : {A : Type 0} (l : Lit A) (b c : Bool) → IsTruthSet l b → HasContents BoolKind (chars (token_of l).text) (Truth c) → b ≡ c
truths l b c h w =
    let same = (one_reading (chars (token_of l).text) BoolKind BoolKind (Truth b) (Truth c) [] w.0 (truth_reads l b h) w.1).1 in cc

pub truth_exactly : {A : Type 0} (p : Setting) (es : List (Entry A)) (r : Result (Option Bool) (SettingError A))
    → AreReadValues es → IfOk r (IsSetAs p es IsTruthSet) → IfErr r (RejectsSetValue p es (RejectsTruth p)) → (w : Bool)
    → IsTruthAt p.name.now w (attributes_of es) → r ≡ Ok (Some w)
truth_exactly p es (Ok (Some b)) rd set rejected w text =
    let at = some_at p es IsTruthSet b (IsTruthOf w) rd set text in
    let same = truths at.entry.value b w at.of at.is in
    cc
truth_exactly p es (Ok None) rd set rejected w text =
    absurd (none_at {V = Bool} p es IsTruthSet (IsTruthOf w) set text)
truth_exactly p es (Err e) rd set rejected w text =
    let at = rejected_at p es (RejectsTruth p) e (IsTruthOf w) rd rejected text in
    absurd (truth_fits p at.entry.value e (is_kind at.entry.value at.read BoolKind (Truth w) at.is.0 at.is.1) at.of)

-- ---- lemmas about settings that are unsigned integers

pub none_if : {X : Type 0} (o : Option X) (P : Type 0) → P → IfNone o P
none_if None P p = p
none_if (Some x) P p = tt

pub unsigned_in_words : {A : Type 0} (most : ℕ) (e : Entry A) (n : ℕ) → IsReadLit e.value → IsUnsignedSet most e.value n
    → IsUnsignedOf most n (attribute_of e)
unsigned_in_words most e n rd h = h.1

abbrev magnitude_in : Option (Sign × ℕ × List ℕ) → ℕ
magnitude_in (Some p) = p.1
magnitude_in None = 0

-- An unsigned integer has one value.
pub one_unsigned : (most m n : ℕ) (t : List ℕ) → IsUnsigned most m t → IsUnsigned most n t → m ≡ n
one_unsigned most m n t h k =
    let e = sym (int_past (chars t) NoSign m h.suffix h.reads) ∙ int_past (chars t) NoSign n k.suffix k.reads in
    ap (λ (o : Option (Sign × ℕ × List ℕ)). magnitude_in o) e

unsigned_kind : {A : Type 0} (most n : ℕ) (l : Lit A) → most ≤ limit → IsReadLit l → IsUnsigned most n (token_of l).text
    → kind_of l ≡ Some IntKind
unsigned_kind most n l bound rd h =
    is_kind l rd IntKind _ h.suffix
    (record { sign = NoSign; magnitude = n; reads = h.reads; within = omega (arith, bound, h.small); contents_is = refl })

pub unsigned_exactly : {A : Type 0} (most : ℕ) (p : Setting) (es : List (Entry A)) (r : Result (Option ℕ) (SettingError A))
    → most ≤ limit → AreReadValues es → IfOk r (IsSetAs p es (IsUnsignedSet most))
    → IfErr r (RejectsSetValue p es (RejectsUnsigned most p)) → (w : ℕ)
    → IsUnsignedAt p.name.now most w (attributes_of es) → r ≡ Ok (Some w)
unsigned_exactly most p es (Ok (Some n)) bound rd set rejected w text =
    let at = some_at p es (IsUnsignedSet most) n (IsUnsignedOf most w) rd set text in
    let same = one_unsigned most n w _ at.of.1 at.is in
    cc
unsigned_exactly most p es (Ok None) bound rd set rejected w text =
    absurd (none_at {V = ℕ} p es (IsUnsignedSet most) (IsUnsignedOf most w) set text)
unsigned_exactly most p es (Err e) bound rd set rejected w text =
    let at = rejected_at p es (RejectsUnsigned most p) e (IsUnsignedOf most w) rd rejected text in
    absurd (at.of.1 w (unsigned_kind most w at.entry.value bound at.read at.is, at.is))

-- ---- lemmas about settings that are numbers

no_integer : (t : List ℕ) → ∥ ReadsAs FloatKind t ∥₁ → HasNoInteger t
no_integer t h = λ sign magnitude suffix r.
    ∥∥₁_elim h (λ p q. absurd p) (λ is. is.2.no_integer sign magnitude suffix r)

-- If a text is a float and not an integer, the digits of the float are the value of the literal.
float_contents : (t ds : List ℕ) → HasNoInteger t → HasDigits FloatKind t (chars ds)
    → HasContents FloatKind t (Digits (chars ds))
float_contents t ds none h =
    (h.1, record { numeral = h.0; reads = h.2; no_integer = none; contents_is = ap Digits h.3 })

digits_once : (k : Kind) (t ds es : List ℕ) → IsUtf8 ds → IsUtf8 es → HasContents k t (Digits (chars ds))
    → HasContents k t (Digits (chars es)) → ds ≡ es
digits_once k t ds es u v a b =
    let same = (one_reading t k k (Digits (chars ds)) (Digits (chars es)) a.0 b.0 a.1 b.1).1 in
    let same_chars : chars ds ≡ chars es = cc in
    sym (encodes-chars ds u) ∙ ap encode_utf8_all same_chars ∙ encodes-chars es v

abbrev Number : List ℕ → List ℕ → Type 0
Number t ds = HasContents IntKind t (Digits (chars ds)) ⊎ HasContents FloatKind t (Digits (chars ds))

number_made : {A N E : Type 0} (gives : List ℕ → Result N E → Type 0) (l : Lit A) (n : N) → IsReadLit l
    → IsNumberSet gives l n → (ds : List ℕ) × (IsUtf8 ds × Number (chars (token_of l).text) ds) × gives ds (Ok n)
number_made gives (Int l) n rd h = (h.digits, (h.are.is_text, inl h.are.digits_are), h.made)
number_made gives (Float l) n rd h =
    (h.digits, (h.are.is_text, inr (float_contents (chars l.text) h.digits (no_integer (chars l.text) rd) h.are.digits_are)), h.made)
number_made gives (Str l) n rd h = absurd h
number_made gives (ByteStr l) n rd h = absurd h
number_made gives (CStr l) n rd h = absurd h
number_made gives (Byte l) n rd h = absurd h
number_made gives (Char l) n rd h = absurd h
number_made gives (BoolLit l) n rd h = absurd h
number_made gives (Verbatim l) n rd h = absurd h

number_in_text : {A N E : Type 0} (gives : List ℕ → Result N E → Type 0) (p : Setting) (es : List (Entry A)) (n : N)
    → EntriesDiffer es → AreReadValues es → IsSetAs p es (IsNumberSet gives) (Some n)
    → IsNumberAt gives p.name.now n (attributes_of es)
number_in_text {A = A} gives p es n differ rd set =
    let a = set.named in
    let x = a.1 in
    let of = subst (λ (y : Entry A). HasName p.name.now y → IsNumberSet gives y.value n) a.3 (set.every a.0 x a.2) a.4 in
    let m = number_made gives x.value n (subst (λ (y : Entry A). IsReadLit y.value) a.3 (rd a.0 x a.2)) of in
    let Is : Lit A → Type 0 = λ l. IsUtf8 m.0 × Number (chars (token_of l).text) m.0 in (
      m.0,
      record {
        named = any_map attribute_of (IsNamed p.name.now) es a;
        every = All-map (λ b. IsNamed p.name.now b → HasNumberDigits m.0 b) attribute_of es
            (λ k d lt named.
            let is = subst Is (value_lent es p.name.now a.0 x differ a.2 (sym a.3) a.4 k d lt named) m.1 in
            record { is_text = is.0; number = is.1 });
      },
      m.2,
    )

pub number_text : {A N E : Type 0} (gives : List ℕ → Result N E → Type 0) (p : Setting) (es : List (Entry A))
    (r : Result (Option N) (SettingError A)) → EntriesDiffer es → AreReadValues es → IfOk r (IsSetAs p es (IsNumberSet gives))
    → IfOk r (λ found. MatchOption found (IsUnset p.name.now (attributes_of es))
    (λ n. IsNumberAt gives p.name.now n (attributes_of es)))
number_text gives p es (Ok (Some n)) differ rd set = number_in_text gives p es n differ rd set
number_text gives p es (Ok None) differ rd set =
    All-map (λ a. IsNamed p.name.now a → ⊥) attribute_of es (λ k d lt n. set.every k d lt n)
number_text gives p es (Err e) differ rd set = tt

abbrev kind_number : Option Kind → Bool
kind_number (Some IntKind) = true
kind_number (Some FloatKind) = true
kind_number _ = false

abbrev is_int_kind : Option Kind → Bool
is_int_kind (Some IntKind) = true
is_int_kind _ = false

int_no_float : (o : Option Kind) → o ≡ Some IntKind → o ≡ Some FloatKind → ⊥
int_no_float o a b = false≢true (sym (ap is_int_kind b) ∙ ap is_int_kind a)

number_kind : {A : Type 0} (l : Lit A) → IsReadLit l → (ds : List ℕ) → Number (chars (token_of l).text) ds
    → kind_number (kind_of l) ≡ true
number_kind l rd ds (inl c) = ap kind_number (is_kind l rd IntKind (Digits (chars ds)) c.0 c.1)
number_kind l rd ds (inr c) = ap kind_number (is_kind l rd FloatKind (Digits (chars ds)) c.0 c.1)

same_made : {A N E : Type 0} (gives : List ℕ → Result N E → Type 0) (l : Lit A) (n : N) → IsReadLit l → (ds : List ℕ)
    → IsUtf8 ds → Number (chars (token_of l).text) ds → IsNumberSet gives l n → gives ds (Ok n)
same_made {A = A} {N = N} {E = E} gives (Int l) n rd ds u (inl c) h =
    subst (λ (y : List ℕ). gives y (Ok n))
    (digits_once IntKind (chars l.text) h.digits ds h.are.is_text u h.are.digits_are c) h.made
same_made {A = A} gives (Int l) n rd ds u (inr c) h =
    absurd (int_no_float (kind_of {A = A} (Int l)) refl (is_kind {A = A} (Int l) rd FloatKind (Digits (chars ds)) c.0 c.1))
same_made {A = A} gives (Float l) n rd ds u (inl c) h =
    absurd (int_no_float (kind_of {A = A} (Float l)) (is_kind {A = A} (Float l) rd IntKind (Digits (chars ds)) c.0 c.1) refl)
same_made {A = A} {N = N} {E = E} gives (Float l) n rd ds u (inr c) h =
    subst (λ (y : List ℕ). gives y (Ok n))
    (digits_once FloatKind (chars l.text) h.digits ds h.are.is_text u
    (float_contents (chars l.text) h.digits c.1.no_integer h.are.digits_are) c) h.made
same_made gives (Str l) n rd ds u c h = absurd h
same_made gives (ByteStr l) n rd ds u c h = absurd h
same_made gives (CStr l) n rd ds u c h = absurd h
same_made gives (Byte l) n rd ds u c h = absurd h
same_made gives (Char l) n rd ds u c h = absurd h
same_made gives (BoolLit l) n rd ds u c h = absurd h
same_made gives (Verbatim l) n rd ds u c h = absurd h

same_rejected : {A N E : Type 0} (gives : List ℕ → Result N E → Type 0) (output : E → Option (List ℕ)) (p : Setting)
    (l : Lit A) (err : SettingError A) → IsReadLit l → (ds : List ℕ) → IsUtf8 ds → Number (chars (token_of l).text) ds
    → RejectsNumber gives output p l err → (error : E) × gives ds (Err error)
same_rejected {A = A} gives output p (Int l) err rd ds u (inl c) j =
    let r = j.2 in (
      r.error,
      subst (λ (y : List ℕ). gives y (Err r.error))
          (digits_once IntKind (chars l.text) r.digits ds r.are.is_text u r.are.digits_are c) r.rejected,
    )
same_rejected {A = A} gives output p (Int l) err rd ds u (inr c) j =
    absurd (int_no_float (kind_of {A = A} (Int l)) refl (is_kind {A = A} (Int l) rd FloatKind (Digits (chars ds)) c.0 c.1))
same_rejected {A = A} gives output p (Float l) err rd ds u (inl c) j =
    absurd (int_no_float (kind_of {A = A} (Float l)) (is_kind {A = A} (Float l) rd IntKind (Digits (chars ds)) c.0 c.1) refl)
same_rejected {A = A} gives output p (Float l) err rd ds u (inr c) j =
    let r = j.2 in (
      r.error,
      subst (λ (y : List ℕ). gives y (Err r.error))
          (digits_once FloatKind (chars l.text) r.digits ds r.are.is_text u
          (float_contents (chars l.text) r.digits c.1.no_integer r.are.digits_are) c) r.rejected,
    )
same_rejected {A = A} gives output p (Str l) err rd ds u c j = absurd (false≢true (number_kind {A = A} (Str l) rd ds c))
same_rejected {A = A} gives output p (ByteStr l) err rd ds u c j = absurd (false≢true (number_kind {A = A} (ByteStr l) rd ds c))
same_rejected {A = A} gives output p (CStr l) err rd ds u c j = absurd (false≢true (number_kind {A = A} (CStr l) rd ds c))
same_rejected {A = A} gives output p (Byte l) err rd ds u c j = absurd (false≢true (number_kind {A = A} (Byte l) rd ds c))
same_rejected {A = A} gives output p (Char l) err rd ds u c j = absurd (false≢true (number_kind {A = A} (Char l) rd ds c))
same_rejected {A = A} gives output p (BoolLit l) err rd ds u c j = absurd (false≢true (number_kind {A = A} (BoolLit l) rd ds c))
same_rejected {A = A} gives output p (Verbatim l) err rd ds u c j = absurd (false≢true (number_kind {A = A} (Verbatim l) rd ds c))

pub number_exactly : {A N E : Type 0} (gives : List ℕ → Result N E → Type 0) (output : E → Option (List ℕ))
    (p : Setting) (es : List (Entry A)) (r : Result (Option N) (SettingError A)) → AreReadValues es
    → IfOk r (IsSetAs p es (IsNumberSet gives)) → IfErr r (RejectsSetValue p es (RejectsNumber gives output p))
    → (ds : List ℕ) → AreDigitsAt p.name.now ds (attributes_of es) → IsSomeNumberOrRejected gives ds r
number_exactly gives output p es (Ok (Some n)) rd set rejected ds text =
    let at = some_at p es (IsNumberSet gives) n (HasNumberDigits ds) rd set text in
    same_made gives at.entry.value n at.read ds at.is.is_text at.is.number at.of
number_exactly {N = N} gives output p es (Ok None) rd set rejected ds text =
    none_at {V = N} p es (IsNumberSet gives) (HasNumberDigits ds) set text
number_exactly gives output p es (Err e) rd set rejected ds text =
    let at = rejected_at p es (RejectsNumber gives output p) e (HasNumberDigits ds) rd rejected text in
    same_rejected gives output p at.entry.value e at.read ds at.is.is_text at.is.number at.of

-- ---- lemmas about an optional result, by its case

pub in_some : {V : Type 0} (o : Option V) (v : V) (None_is : Type 0) (Some_is : V → Type 0) → o ≡ Some v
    → MatchOption o None_is Some_is → Some_is v
in_some o v None_is Some_is e h = subst (λ y. MatchOption y None_is Some_is) e h

pub in_none : {V : Type 0} (o : Option V) (None_is : Type 0) (Some_is : V → Type 0) → o ≡ None
    → MatchOption o None_is Some_is → None_is
in_none o None_is Some_is e h = subst (λ y. MatchOption y None_is Some_is) e h

-- ---- lemmas about a setting with a default

any_none : (name : List ℕ) (list : List Attribute) → IsUnset name list → Any (IsNamed name) list → ⊥
any_none name list none (k, x, lt, e, n) = subst (λ (y : Attribute). IsNamed name y → ⊥) e (none k x lt) n

pub set_or_of_set : (name : List ℕ) (Is : Attribute → Type 0) (IsDefault : Type 0) (list : List Attribute)
    → IsSetWith name Is list → IsSetOr name Is IsDefault list
set_or_of_set name Is IsDefault list at = record { every = at.every; unset = inl at.named }

pub set_or_of_unset : (name : List ℕ) (Is : Attribute → Type 0) (IsDefault : Type 0) (list : List Attribute)
    → IsUnset name list → IsDefault → IsSetOr name Is IsDefault list
set_or_of_unset name Is IsDefault list none d = record { every = λ k e lt n. absurd (none k e lt n); unset = inr d }

pub set_of_set_or : (name : List ℕ) (Is : Attribute → Type 0) (IsDefault : Type 0) (list : List Attribute)
    → IsSetOr name Is IsDefault list → Any (IsNamed name) list → IsSetWith name Is list
set_of_set_or name Is IsDefault list at named = record { named = named; every = at.every }

pub default_of_set_or : (name : List ℕ) (Is : Attribute → Type 0) (IsDefault : Type 0) (list : List Attribute)
    → IsUnset name list → IsSetOr name Is IsDefault list → IsDefault
default_of_set_or name Is IsDefault list none at = go at.unset
  where
    go : Any (IsNamed name) list ⊎ IsDefault → IsDefault
    go (inl named) = absurd (any_none name list none named)
    go (inr d) = d

pub rejected_named : {A : Type 0} (p : Setting) (es : List (Entry A)) (Rejects : Lit A → SettingError A → Type 0)
    (err : SettingError A) → RejectsSetValue p es Rejects err → Any (IsNamed p.name.now) (attributes_of es)
rejected_named p es Rejects err (k, x, lt, e, j) = any_map attribute_of (IsNamed p.name.now) es (k, x, lt, e, j.0)

pub or_set : {V : Type 0} (Is : V → Attribute → Type 0) (name : List ℕ) (b : V) (o : Option V) (list : List Attribute)
    → MatchOption o (IsUnset name list) (λ v. IsSetWith name (Is v) list)
    → IsSetOr name (Is (unwrap_or o b)) (unwrap_or o b ≡ b) list
or_set Is name b (Some v) list at = set_or_of_set name (Is v) (v ≡ b) list at
or_set Is name b None list at = set_or_of_unset name (Is b) (b ≡ b) list at refl

pub or_exactly : {V E : Type 0} (Is : V → Attribute → Type 0) (name : List ℕ) (b w : V) (o : Option V)
    (list : List Attribute) → MatchOption o (IsUnset name list) (λ v. IsSetWith name (Is v) list)
    → (IsSetWith name (Is w) list → ◌≡◌ {A = Result (Option V) E} (Ok o) (Ok (Some w)))
    → IsSetOr name (Is w) (w ≡ b) list → unwrap_or o b ≡ w
or_exactly Is name b w (Some v) list set exactly at =
    let e = exactly (set_of_set_or name (Is w) (w ≡ b) list at set.named) in cc
or_exactly Is name b w None list none exactly at = sym (default_of_set_or name (Is w) (w ≡ b) list none at)

pub or_rejected : {A V : Type 0} (Is : V → Attribute → Type 0) (Rejects : Lit A → SettingError A → Type 0) (p : Setting)
    (es : List (Entry A)) (b w : V) (err : SettingError A) → RejectsSetValue p es Rejects err
    → (IsSetWith p.name.now (Is w) (attributes_of es)
    → ◌≡◌ {A = Result (Option V) (SettingError A)} (Err err) (Ok (Some w)))
    → IsSetOr p.name.now (Is w) (w ≡ b) (attributes_of es) → ⊥
or_rejected Is Rejects p es b w err rejected exactly at =
    let named = rejected_named p es Rejects err rejected in
    let never = exactly (set_of_set_or p.name.now (Is w) (w ≡ b) (attributes_of es) at named) in cc
