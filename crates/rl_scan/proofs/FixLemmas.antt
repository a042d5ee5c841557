-- Lemmas about the files that `--fix` replaces.
use Rattle.rl_syntax.proofs.Common.{AllByRecursion, IfSome, List, None, Ok, Option, Some, [], ap, append-nil, append_assoc, chars, inl, inr, option_map, refl, subst, sym, ℕ, ◌++◌, ◌∙◌, ◌∷◌, ◌≡◌, ◌⊎◌}
use Rattle.rl_files.specs.Replacements.{Replacement, handed_too, replacing}
use Rattle.rl_files.specs.Trees.{World}
use Rattle.rl_restyle.specs.Edits.{Restyles}
use Rattle.rl_restyle.specs.declared.edit.Choice.{Choice}
use Rattle.rl_style.specs.declared.style.Style.{Style}
use Rattle.rl_scan.specs.Fixes.{Fixes, FixesSource, IsFix}

-- No file is replaced.
pub fixes_none : (holds : Option World) (h : Option (List Replacement)) → Fixes holds h h
fixes_none holds None = ([], refl, record {})
fixes_none holds (Some before) = ([], ap Some (sym (append-nil before)), record {})

-- The file of a source is replaced, or no file.
pub fixes_one : (holds : Option World) (path old : List ℕ) (h0 h1 : Option (List Replacement))
    → IfSome holds (λ w. w.bytes path ≡ Ok old) → FixesSource path old h0 h1 → Fixes holds h0 h1
fixes_one holds path old h0 h1 read (inl same) = subst (λ h. Fixes holds h0 h) (sym same) (fixes_none holds h0)
fixes_one holds path old h0 h1 read (inr (new, rewritten, handed)) =
    (replacing path old new ∷ [], handed, ((read, rewritten), record {}))

pub fixes_read : (holds : Option World) (path old source : List ℕ) (h0 h1 : Option (List Replacement)) → source ≡ old
    → IfSome holds (λ w. w.bytes path ≡ Ok old) → FixesSource path source h0 h1 → Fixes holds h0 h1
fixes_read holds path old source h0 h1 same read fixes =
    fixes_one holds path old h0 h1 read (subst (λ text. FixesSource path text h0 h1) same fixes)

all_append : (P : Replacement → Type 0) (xs ys : List Replacement) → AllByRecursion P xs → AllByRecursion P ys
    → AllByRecursion P (xs ++ ys)
all_append P [] ys a b = b
all_append P (x ∷ xs) ys a b = (a.0, all_append P xs ys a.1 b)

appended : (h0 h1 h2 : Option (List Replacement)) (first second : List Replacement)
    → h1 ≡ option_map (λ earlier. earlier ++ first) h0 → h2 ≡ option_map (λ earlier. earlier ++ second) h1
    → h2 ≡ option_map (λ earlier. earlier ++ (first ++ second)) h0
appended None h1 h2 first second one two = two ∙ ap (option_map (λ earlier. earlier ++ second)) one
appended (Some before) h1 h2 first second one two = two ∙ ap (option_map (λ earlier. earlier ++ second)) one
    ∙ ap Some (append_assoc before first second)

-- Files are replaced in two parts of a run, one after the other.
pub fixes_both : (holds : Option World) (h0 h1 h2 : Option (List Replacement)) → Fixes holds h0 h1 → Fixes holds h1 h2
    → Fixes holds h0 h2
fixes_both holds h0 h1 h2 one two =
    (one.0 ++ two.0, appended h0 h1 h2 one.0 two.0 one.1 two.1, all_append (IsFix holds) one.0 two.0 one.2 two.2)

-- A source is rewritten as `shown`, and its file is replaced by this text or not.
pub fixes_shown : (path old shown bytes : List ℕ) (h0 h1 : Option (List Replacement)) (style : Style) (choice : Choice)
    → Restyles style choice (chars old) (chars bytes) → shown ≡ bytes
    → (h1 ≡ h0) ⊎ (h1 ≡ handed_too (replacing path old shown) h0) → FixesSource path old h0 h1
fixes_shown path old shown bytes h0 h1 style choice restyles same (inl stays) = inl stays
fixes_shown path old shown bytes h0 h1 style choice restyles same (inr handed) =
    let restyled = subst (λ t. Restyles style choice (chars old) (chars t)) (sym same) restyles in
    inr (shown, record { style = style; choice = choice; restyles = restyled }, handed)
