-- Lemmas about lists of string literals.
use Rattle.std.proofs.Common.{◌≡◌, ◌<◌, ℕ, suc, zero, List, [], ◌∷◌, ◌++◌, refl, sym, subst, length, get_or, arith}
use Rattle.std.specs.Prelude.{IfErr, IfOk, Result, Ok, Err, String, Vec}
use Rattle.rl_syntax.specs.declared.kind.Kind.TheVariants.{Str}
use Rattle.rl_syntax.specs.Reading.{Characters, HasContents, HasSuffix}
use Rattle.std.specs.Str.{chars, IsUtf8}
use Rattle.rl_tokens.specs.WrittenLists.{characters_of, str_list_text}
use Rattle.rl_syntax.specs.Texts.{SpannedText}
use Rattle.rl_quoted.specs.Suffixes.{HasSomeSuffix}
use Rattle.rust_literals.specs.declared.lit.Lit.{Lit}
use Rattle.rust_literals.specs.declared.lit.Lit.TheVariants as lits
use Rattle.rust_literals.specs.Literals.{IsLitOf}
use Rattle.rust_literals.specs.ReadBack.{AreStrings}
use Rattle.rust_literals.proofs.Theorems.{a_lit_has_its_parts, a_lit_has_one_value, a_str_list_is_read, strings_have_one_list_of_values}
use Rattle.rl_uses.specs.declared.strings.ListError.{ListError}
use Rattle.rl_uses.specs.declared.strings.ListError.TheVariants.{Text, NoString}
use Rattle.rl_uses.specs.Strings.{AreValuesOrMemory, IsListOf, IsMemory, RejectsLiteral, RejectsLiterals}

pub unsuffixed : {A : Type 0} (l : Lit A) (s : SpannedText) (v : List ℕ) → l ≡ lits.Str s
    → HasContents Str (chars s.text) (Characters v) → HasSuffix Str (chars s.text) [] → IsLitOf Str (Characters v) [] l
unsuffixed l s v e value bare =
    a_lit_has_its_parts l Str (Characters v) [] (rw e refl) (rw e value) (rw e bare)

-- A string literal with a suffix isn't one without a suffix.
pub suffixed : {A : Type 0} (l : Lit A) (s : SpannedText) (v : List ℕ) → l ≡ lits.Str s
    → HasSomeSuffix Str (chars s.text) → IsLitOf Str (Characters v) [] l → ⊥
suffixed l s v e h is =
    h.some (a_lit_has_one_value l Str Str h.has.0 (Characters v) h.suffix [] (rw e (refl, h.has.1)) is).2

pub one_more : {A : Type 0} (ls : List (Lit A)) (vs : List (List ℕ)) (l : Lit A) (v : List ℕ) → AreStrings ls vs
    → IsLitOf Str (Characters v) [] l → AreStrings (ls ++ (l ∷ [])) (vs ++ (v ∷ []))
one_more [] vs l v e h = subst (λ (z : List (List ℕ)). AreStrings (l ∷ []) (z ++ (v ∷ []))) (sym e) (h, refl)
one_more (m ∷ ls) [] l v e h = absurd e
one_more (m ∷ ls) (w ∷ vs) l v (e, es) h = (e, one_more ls vs l v es h)

-- Each literal of a list of strings is a string.
string_at : {A : Type 0} (ls : List (Lit A)) (vs : List (List ℕ)) (i : ℕ) (l : Lit A) → AreStrings ls vs → i < length ls
    → l ≡ get_or ls i l → (v : List ℕ) × IsLitOf Str (Characters v) [] l
string_at [] vs i l e lt is = absurd (let h : i < 0 = lt in omega arith)
string_at (m ∷ ls) [] i l e lt is = absurd e
string_at {A} (m ∷ ls) (v ∷ vs) zero l (e, es) lt is =
    (v, subst (λ (x : Lit A). IsLitOf Str (Characters v) [] x) (sym is) e)
string_at (m ∷ ls) (v ∷ vs) (suc i) l (e, es) lt is = string_at ls vs i l es (omega arith) is

pub exactly_these : {A : Type 0} (ls : List (Lit A)) (vs : List (List ℕ)) (r : Result (Vec (String A) A) (ListError A))
    → AreStrings ls vs → IfOk r (λ found. AreStrings ls (characters_of found.items)) → IfErr r (RejectsLiterals ls)
    → AreValuesOrMemory vs r
exactly_these ls vs (Ok found) are set rejected = strings_have_one_list_of_values ls _ vs set are
exactly_these ls vs (Err (Text e)) are set rejected = rejected.rejected
exactly_these ls vs (Err (NoString span)) are set rejected =
    let s = string_at ls vs rejected.index rejected.literal are rejected.below rejected.is in
    absurd (rejected.rejected.1 s.0 s.1)

pub if_read : {A : Type 0} (vs : List (List ℕ)) (r : Result (Vec (String A) A) (ListError A)) → AreValuesOrMemory vs r
    → IfOk r (λ x. characters_of x.items ≡ vs) × IfErr r IsMemory
if_read vs (Ok x) h = (h, tt)
if_read vs (Err e) h = (tt, h)

pub written_list : {A : Type 0} (text : List ℕ) (vs : List (List ℕ)) → IsUtf8 text → chars text ≡ str_list_text vs
    → IsListOf A text 0 vs
written_list text vs utf8 e =
    let l = a_str_list_is_read text 0 vs utf8 e in record { list = l.0; read = l.1; are = l.2 }
