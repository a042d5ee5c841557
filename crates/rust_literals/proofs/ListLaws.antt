-- The literals at the start of token trees, their values, and lists of strings that are written and read.
use Rattle.std.proofs.Common.{◌≡◌, inl, inr, ℕ, ◌+◌, List, [], ◌∷◌, Some, refl, sym, ap, subst, ◌∙◌}
use Rattle.std.specs.Prelude.{Result, Ok, Err}
use Rattle.std.specs.Result.{MatchResult}
use Rattle.std.specs.Str.{chars, IsUtf8}
use Rattle.rl_syntax.specs.declared.kind.Kind.{Kind}
use Rattle.rl_syntax.specs.declared.kind.Kind.TheVariants.{Str}
use Rattle.rl_syntax.specs.declared.span.Span.{Span}
use Rattle.rl_syntax.specs.Printed.{LiteralItem, Printed, item_text}
use Rattle.rl_syntax.specs.Texts.{byte_len}
use Rattle.rl_syntax.specs.Written.{written_text}
use Rattle.rl_syntax.specs.Reading.{Characters, Contents, HasContents, HasSuffix, Reads}
use Rattle.rl_syntax.proofs.Theorems.{a_text_has_one_reading, a_written_value_is_strict}
use Rattle.rl_tokens.specs.declared.error.Error.{Error}
use Rattle.rl_tokens.specs.declared.error.ErrorKind.TheVariants.{Memory}
use Rattle.rl_tokens.specs.Trees.{Tree}
use Rattle.rl_tokens.specs.WrittenLists.{str_entries, str_list_end, str_list_text}
use Rattle.rl_tokens.proofs.Theorems.{a_str_list_is_printed}
use Rattle.rust_literals.specs.declared.lit.Lit.{Lit}
use Rattle.rust_literals.specs.Literals.{IsLitOf, kind_of, token_of}
use Rattle.rust_literals.specs.Parsing.{AreRead, IsLitFront, RunsLit}
use Rattle.rust_literals.specs.ReadBack.{AreItems, AreStrings}
use Rattle.rust_literals.proofs.LeadsLemmas.{one_lit_front}
use Rattle.rust_literals.proofs.PrintedLemmas.{printed_list}

pub exact_lit : {A : Type 0} (trees : List Tree) (scope : Span) (r : Result (Lit A) (Error A)) (rest after : List Tree)
    (literal : Lit A) → RunsLit trees scope r rest → IsLitFront trees literal after
    → MatchResult r (λ l. (l ≡ literal) × (rest ≡ after)) (λ e. e.kind ≡ Memory)
exact_lit trees scope (Ok l) rest after literal ran f = one_lit_front trees l literal rest after ran f
exact_lit trees scope (Err e) rest after literal (inl (has, lacks)) f = ap (λ x. x.kind) lacks.error
exact_lit trees scope (Err e) rest after literal (inr none) f = absurd (none.none f.token after f.front)

pub one_value : {A : Type 0} (l : Lit A) (k m : Kind) (v w : Contents) (x y : List ℕ) → IsLitOf k v x l
    → IsLitOf m w y l → (k ≡ m) × (v ≡ w) × (x ≡ y)
one_value l k m v w x y (a, r) (b, s) = a_text_has_one_reading (chars (token_of l).text) k m v w x y r s

pub of_parts : {A : Type 0} (l : Lit A) (k : Kind) (v : Contents) (x : List ℕ) → kind_of l ≡ Some k
    → HasContents k (chars (token_of l).text) v → HasSuffix k (chars (token_of l).text) x → IsLitOf k v x l
of_parts l k v x kind (y, r) (w, s) =
    let t = chars (token_of l).text in
    let e = a_text_has_one_reading t k k w v x y s r in
    (kind, subst (λ (z : Contents). Reads t k z x) e.1 s)

-- ---- lists of strings

items_are_strings : {A : Type 0} (file at : ℕ) (gap : List ℕ) (vs : List (List ℕ)) (ls : List (Lit A))
    → AreItems file at (str_entries gap vs) ls → AreStrings ls vs
items_are_strings file at gap [] ls e = subst (λ z. AreStrings z []) (sym e) refl
items_are_strings file at gap (v ∷ vs) [] e = absurd e
items_are_strings file at gap (v ∷ vs) (l ∷ ls) (r, rs) = (
  r.is_of_kind Str (Characters v) [] (a_written_value_is_strict Str v tt),
  items_are_strings file
      (at + byte_len gap + byte_len (item_text (LiteralItem (written_text Str v)))) (10 ∷ []) vs ls rs,
)

pub str_list_read : {A : Type 0} (text : List ℕ) (file : ℕ) (vs : List (List ℕ)) → IsUtf8 text
    → chars text ≡ str_list_text vs → (list : List (Lit A)) × AreRead (chars text) file list × AreStrings list vs
str_list_read text file vs utf8 e =
    let (list, read, items) = printed_list text file (str_entries [] vs) (str_list_end [] vs) utf8
    (subst (λ (t : List ℕ). Printed t (str_entries [] vs) (str_list_end [] vs)) (sym e) (a_str_list_is_printed vs)) in
    (list, read, items_are_strings file 0 [] vs list items)

pub one_list_of_values : {A : Type 0} (ls : List (Lit A)) (vs ws : List (List ℕ)) → AreStrings ls vs
    → AreStrings ls ws → vs ≡ ws
one_list_of_values [] vs ws e f = e ∙ sym f
one_list_of_values (l ∷ ls) [] ws e f = absurd e
one_list_of_values (l ∷ ls) (v ∷ vs) [] e f = absurd f
one_list_of_values (l ∷ ls) (v ∷ vs) (w ∷ ws) (e, es) (f, fs) =
    let q : Characters v ≡ Characters w = (one_value l Str Str (Characters v) (Characters w) [] [] e f).1 in
    let first : v ≡ w = cc in
    ap (λ x. x ∷ vs) first ∙ ap (λ xs. w ∷ xs) (one_list_of_values ls vs ws es fs)
