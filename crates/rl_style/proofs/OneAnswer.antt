-- A literal has exactly one new text in a style, and its own text in a style without rules.
use Rattle.rl_syntax.proofs.Common.{◌≡◌, ℕ, Bool, true, false, ◌==◌, cond, List, [], ◌∷◌, ◌++◌, length, replicate, refl, sym, ap, subst, ◌∙◌, inl, inr, arith, append_cancel_right, both_ways, cases_lt, flat_map}
use Rattle.rl_syntax.proofs.Basics.{hashes_all}
use Rattle.rl_lenient.proofs.Names.{Kind, Str, ByteStr, CStr, Byte, Char, Int, Float, BoolKind, Contents, StrictUnit, is_string, strict_text}
use Rattle.rl_syntax.specs.Strict.{Strict, StrictCooked, StrictFloat, StrictInt, StrictRaw, strict_closer, strict_opener, strict_raw_opener, HasUnits}
use Rattle.rl_syntax.proofs.OneQuoted.{same_tail}
use Rattle.rl_syntax.proofs.OneReading.{one_strict}
use Rattle.rl_syntax.proofs.StrictNumbers.{same_run}
use Rattle.rl_syntax.proofs.StrictQuoted.{between}
use Rattle.rl_writing.specs.RawStrings.{HasFewestHashes, raw_contents, raw_text}
use Rattle.rl_style.specs.declared.style.Style.{Style}
use Rattle.rl_style.specs.Cases.{separator}
use Rattle.rl_style.specs.Mistyped.{is_mistyped, is_mistyped_float}
use Rattle.rl_style.specs.Rewriting.{HasHashes, KeepsFloat, KeepsInt, KeepsTruth, LosesRaw, Rewrites, RewritesCooked, RewritesFloat, RewritesInt, RewritesRaw, StaysRaw, StylesFloat, StylesInt, loses_raw, unraw_text, styled_numeral, styled_run, restyled_inside}
use Rattle.rl_style.proofs.SameRaw.{first_quote, length_hashes, raw_joined, raw_strict, raw_string, second_quote}
use Rattle.rl_style.proofs.SameUnits.{cooked_strict}
use Rattle.rl_style.proofs.UnitRows.{texts_once}
use Rattle.rl_style.proofs.WrittenNumbers.{base_found}

-- ---- a number has one new text in a style

-- The prefix of a base, for example `0x`.
abbrev prefix_of : ℕ → List ℕ
prefix_of base = cond (base == 2) (48 ∷ 98 ∷ []) (cond (base == 8) (48 ∷ 111 ∷ [])
    (cond (base == 16) (48 ∷ 120 ∷ []) []))

prefix_is : (t : List ℕ) (v : Contents) (x : List ℕ) → (i : StrictInt t v x) → i.prefix ≡ prefix_of i.base
prefix_is t v x i =
    elim i.is_front [
      | inl f ↦ f.0 ∙ ap prefix_of (sym f.1)
      | inr f ↦ elim f [
        | inl g ↦ g.0 ∙ ap prefix_of (sym g.1)
        | inr g ↦ elim g [
          | inl b ↦ b.0 ∙ ap prefix_of (sym b.1)
          | inr b ↦ b.0 ∙ ap prefix_of (sym b.1)
        ]
      ]
    ]

abbrev integer_of : Style → ℕ → List ℕ → List ℕ → List ℕ → List ℕ
integer_of style base prefix row x = prefix ++ (styled_run style base x row ++ (separator style x ++ x))

styled_integer_once : (style : Style) (t u w : List ℕ) → StylesInt style t u → StylesInt style t w → u ≡ w
styled_integer_once style t u w a b =
    let suffix : a.suffix ≡ b.suffix = (one_strict t Int Int a.contents b.contents a.suffix b.suffix a.int b.int).2 in
    let base : a.int.base ≡ b.int.base = sym (base_found t a.contents a.suffix a.int)
    ∙ base_found t b.contents b.suffix b.int in
    let prefix : a.int.prefix ≡ b.int.prefix = prefix_is t a.contents a.suffix a.int ∙ ap prefix_of base
    ∙ sym (prefix_is t b.contents b.suffix b.int) in
    let front : a.int.prefix ++ a.int.run ≡ b.int.prefix ++ b.int.run =
    append_cancel_right (a.int.prefix ++ a.int.run) (b.int.prefix ++ b.int.run) b.suffix
    (ap (λ z. (a.int.prefix ++ a.int.run) ++ z) (sym suffix) ∙ sym a.int.text ∙ b.int.text) in
    let row : a.int.run ≡ b.int.run = same_tail a.int.prefix a.int.run b.int.run (front
    ∙ ap (λ z. z ++ b.int.run) (sym prefix)) in
    a.new_is ∙ ap (λ z. integer_of style z a.int.prefix a.int.run a.suffix) base
    ∙ ap (λ z. integer_of style b.int.base z a.int.run a.suffix) prefix
    ∙ ap (λ z. integer_of style b.int.base b.int.prefix z a.suffix) row
    ∙ ap (integer_of style b.int.base b.int.prefix b.int.run) suffix ∙ sym b.new_is

-- The style rewrites an integer, or keeps it because its suffix may be mistyped. An integer can't satisfy both definitions.
integers_apart : (style : Style) (t u w : List ℕ) → StylesInt style t u → KeepsInt t w → ⊥
integers_apart style t u w a b =
    let one = one_strict t Int Int a.contents b.contents a.suffix b.suffix a.int b.int in
    both_ways (is_mistyped a.suffix t) a.exact (ap (λ z. is_mistyped z t) one.2 ∙ b.mistyped)

integer_once : (style : Style) (t u w : List ℕ) → RewritesInt style t u → RewritesInt style t w → u ≡ w
integer_once style t u w (inl a) (inl b) = styled_integer_once style t u w a b
integer_once style t u w (inl a) (inr b) = absurd (integers_apart style t u w a b)
integer_once style t u w (inr a) (inl b) = absurd (integers_apart style t w u b a)
integer_once style t u w (inr a) (inr b) = a.new_is ∙ sym b.new_is

abbrev float_of : Style → List ℕ → List ℕ → List ℕ
float_of style numeral x = styled_numeral style x numeral ++ (separator style x ++ x)

styled_float_once : (style : Style) (t u w : List ℕ) → StylesFloat style t u → StylesFloat style t w → u ≡ w
styled_float_once style t u w a b =
    let suffix : a.suffix ≡ b.suffix = (one_strict t Float Float a.contents b.contents a.suffix b.suffix a.float
    b.float).2 in
    let numeral : a.float.numeral ≡ b.float.numeral =
    append_cancel_right a.float.numeral b.float.numeral b.suffix
    (ap (λ z. a.float.numeral ++ z) (sym suffix) ∙ sym a.float.text ∙ b.float.text) in
    a.new_is
    ∙ ap (λ z. float_of style z a.suffix) numeral ∙ ap (float_of style b.float.numeral) suffix
    ∙ sym b.new_is

-- The style rewrites a float, or keeps it because its suffix may be mistyped. A float can't satisfy both definitions.
floats_apart : (style : Style) (t u w : List ℕ) → StylesFloat style t u → KeepsFloat t w → ⊥
floats_apart style t u w a b =
    let one = one_strict t Float Float a.contents b.contents a.suffix b.suffix a.float b.float in
    both_ways (is_mistyped_float a.suffix t) a.exact (ap (λ z. is_mistyped_float z t) one.2 ∙ b.mistyped)

float_once : (style : Style) (t u w : List ℕ) → RewritesFloat style t u → RewritesFloat style t w → u ≡ w
float_once style t u w (inl a) (inl b) = styled_float_once style t u w a b
float_once style t u w (inl a) (inr b) = absurd (floats_apart style t u w a b)
float_once style t u w (inr a) (inl b) = absurd (floats_apart style t w u b a)
float_once style t u w (inr a) (inr b) = a.new_is ∙ sym b.new_is

-- ---- a raw string has one new text in a style

fewest_once : (k : Kind) (inside : List ℕ) (n m : ℕ) → HasFewestHashes k inside n → HasFewestHashes k inside m → n ≡ m
fewest_once k inside n m a b =
    elim (cases_lt n m) [
      | inl less ↦ absurd (b.fewest n less (raw_contents k inside) [] a.strict)
      | inr more ↦ elim (cases_lt m n) [
        | inl less ↦ absurd (a.fewest m less (raw_contents k inside) [] b.strict)
        | inr fewer ↦ omega (arith, more, fewer)
      ]
    ]

hashes_once : (rule : Bool) (k : Kind) (inside : List ℕ) (old n m : ℕ) → HasHashes rule k inside old n
    → HasHashes rule k inside old m → n ≡ m
hashes_once true k inside old n m a b = fewest_once k inside n m a b
hashes_once false k inside old n m a b = a ∙ sym b

-- The text of a raw string determines its number of hashes and its content.
raw_parts_once : (t : List ℕ) (k : Kind) (v w : Contents) (x : List ℕ) → (a : StrictRaw t k v x)
    → (b : StrictRaw t k w x)
    → (a.hashes ≡ b.hashes) × (a.inside ≡ b.inside)
raw_parts_once t k v w x a b =
    let h : List ℕ = replicate a.hashes 35 in
    let g : List ℕ = replicate b.hashes 35 in
    let rest : h ++ (34 ∷ (a.inside ++ (34 ∷ (h ++ x)))) ≡ g ++ (34 ∷ (b.inside ++ (34 ∷ (g ++ x)))) =
    same_tail (strict_raw_opener k) _ _ (sym (a.text ∙ raw_joined (strict_raw_opener k) h a.inside x) ∙ b.text
    ∙ raw_joined (strict_raw_opener k) g b.inside x) in
    let run = same_run (λ c. c == 35) h g _ _ (hashes_all a.hashes) (hashes_all b.hashes) refl refl rest in
    let count : a.hashes ≡ b.hashes = sym (length_hashes a.hashes) ∙ ap length run.0 ∙ length_hashes b.hashes in
    let quoted : 34 ∷ (a.inside ++ (34 ∷ (h ++ x))) ≡ 34 ∷ (b.inside ++ (34 ∷ (g ++ x))) = run.1 in
    let tail : a.inside ++ (34 ∷ (h ++ x)) ≡ b.inside ++ (34 ∷ (g ++ x)) = cc in (
      count,
      append_cancel_right a.inside b.inside (34 ∷ (h ++ x)) (tail
          ∙ ap (λ z. b.inside ++ (34 ∷ (replicate z 35 ++ x))) (sym count)),
    )

-- The old text `t` is a raw string with the kind `k` and the suffix `x`, and the new text `w` is a raw string with `n` hashes.
abbrev StaysAs : Style → List ℕ → List ℕ → List ℕ → Contents → ℕ → Kind → List ℕ → Type 0
StaysAs style front t w v n k x =
    (s : StrictRaw t k v x) × HasHashes style.raw_hashes k s.inside s.hashes n × (w ≡ raw_text k n s.inside ++ x)
    × (loses_raw style k front s.inside ≡ false)

abbrev LosesAs : Style → List ℕ → List ℕ → List ℕ → Contents → Kind → List ℕ → Type 0
LosesAs style front t w v k x =
    (s : StrictRaw t k v x) × (w ≡ unraw_text style k s.inside x) × (loses_raw style k front s.inside ≡ true)

stays_as : (style : Style) (front t w : List ℕ) (k : Kind) (v : Contents) (x : List ℕ) → Strict t k v x
    → (b : StaysRaw style front t w) → StaysAs style front t w b.contents b.hashes k x
stays_as style front t w k v x a b =
    let one = one_strict t k b.kind v b.contents x b.suffix a (raw_strict t b.kind b.contents b.suffix b.raw) in
    let As : Kind → List ℕ → Type 0 = StaysAs style front t w b.contents b.hashes in
    let own : As b.kind b.suffix = (b.raw, b.hashes_are, b.new_is, b.stays) in
    subst (λ k. As k x) (sym one.0) (subst (As b.kind) (sym one.2) own)

loses_as : (style : Style) (front t w : List ℕ) (k : Kind) (v : Contents) (x : List ℕ) → Strict t k v x
    → (b : LosesRaw style front t w) → LosesAs style front t w b.contents k x
loses_as style front t w k v x a b =
    let one = one_strict t k b.kind v b.contents x b.suffix a (raw_strict t b.kind b.contents b.suffix b.raw) in
    let As : Kind → List ℕ → Type 0 = LosesAs style front t w b.contents in
    let own : As b.kind b.suffix = (b.raw, b.new_is, b.loses) in
    subst (λ k. As k x) (sym one.0) (subst (As b.kind) (sym one.2) own)

stays_once : (style : Style) (front t u w : List ℕ) → StaysRaw style front t u → StaysRaw style front t w → u ≡ w
stays_once style front t u w a b =
    let r = a.raw in
    let (s, hashes, new_is, stays) = stays_as style front t w a.kind a.contents a.suffix
    (raw_strict t a.kind a.contents a.suffix a.raw) b in
    let parts = raw_parts_once t a.kind a.contents b.contents a.suffix r s in
    let Has : List ℕ → ℕ → Type 0 = λ i n. HasHashes style.raw_hashes a.kind i n b.hashes in
    let same : Has r.inside r.hashes = subst (λ i. Has i r.hashes) (sym parts.1)
    (subst (Has s.inside) (sym parts.0) hashes) in
    let count = hashes_once style.raw_hashes a.kind r.inside r.hashes a.hashes b.hashes a.hashes_are same in
    a.new_is ∙ ap (λ n. raw_text a.kind n r.inside ++ a.suffix) count
    ∙ ap (λ i. raw_text a.kind b.hashes i ++ a.suffix) parts.1 ∙ sym new_is

loses_once : (style : Style) (front t u w : List ℕ) → LosesRaw style front t u → LosesRaw style front t w → u ≡ w
loses_once style front t u w a b =
    let (s, new_is, loses) = loses_as style front t w a.kind a.contents a.suffix
    (raw_strict t a.kind a.contents a.suffix a.raw) b in
    let parts = raw_parts_once t a.kind a.contents b.contents a.suffix a.raw s in
    a.new_is ∙ ap (λ i. unraw_text style a.kind i a.suffix) parts.1 ∙ sym new_is

-- A raw string stays a raw string in the style, or becomes a string with escapes. A raw string can't satisfy both
-- definitions.
never_both : (style : Style) (front t u w : List ℕ) → StaysRaw style front t u → LosesRaw style front t w → ⊥
never_both style front t u w a b =
    let (s, new_is, loses) = loses_as style front t w a.kind a.contents a.suffix
    (raw_strict t a.kind a.contents a.suffix a.raw) b in
    let parts = raw_parts_once t a.kind a.contents b.contents a.suffix a.raw s in
    both_ways (loses_raw style a.kind front a.raw.inside) a.stays
    (ap (loses_raw style a.kind front) parts.1 ∙ loses)

raw_once : (style : Style) (front t u w : List ℕ) → RewritesRaw style front t u → RewritesRaw style front t w → u ≡ w
raw_once style front t u w (inl a) (inl b) = stays_once style front t u w a b
raw_once style front t u w (inl a) (inr b) = absurd (never_both style front t u w a b)
raw_once style front t u w (inr a) (inl b) = absurd (never_both style front t w u b a)
raw_once style front t u w (inr a) (inr b) = loses_once style front t u w a b

-- The old text is a raw string.
record WasRaw (t : List ℕ) : Type 0 where
  kind : Kind
  contents : Contents
  suffix : List ℕ
  raw : StrictRaw t kind contents suffix

was_raw : (style : Style) (front t u : List ℕ) → RewritesRaw style front t u → WasRaw t
was_raw style front t u (inl a) = record { kind = a.kind; contents = a.contents; suffix = a.suffix; raw = a.raw }
was_raw style front t u (inr a) = record { kind = a.kind; contents = a.contents; suffix = a.suffix; raw = a.raw }

-- ---- a quoted literal with escapes has one new text in a style

abbrev CookedAs : Style → List ℕ → List ℕ → Contents → Kind → List ℕ → Type 0
CookedAs style t w v k x =
    (s : StrictCooked t k v x)
    × (w ≡ strict_opener k ++ (restyled_inside style k s.units ++ (strict_closer k ++ x)))

cooked_once : (style : Style) (t u w : List ℕ) → RewritesCooked style t u → RewritesCooked style t w → u ≡ w
cooked_once style t u w a b =
    let one = one_strict t a.kind b.kind a.contents b.contents a.suffix b.suffix
    (cooked_strict t a.kind a.contents a.suffix a.cooked) (cooked_strict t b.kind b.contents b.suffix b.cooked) in
    let As : Kind → List ℕ → Type 0 = CookedAs style t w b.contents in
    let own : As b.kind b.suffix = (b.cooked, b.new_is) in
    let other : As a.kind a.suffix = subst (λ k. As k a.suffix) (sym one.0) (subst (As b.kind) (sym one.2) own) in
    let k : Kind = a.kind in
    let r = a.cooked in
    let s = other.0 in
    let end : List ℕ = strict_closer k ++ a.suffix in
    let inside : flat_map strict_text r.units ≡ flat_map strict_text s.units =
    append_cancel_right (flat_map strict_text r.units) (flat_map strict_text s.units) end
    (same_tail (strict_opener k) _ _ (sym (r.text ∙ between (strict_opener k) (flat_map strict_text r.units)
    (strict_closer k) a.suffix) ∙ s.text ∙ between (strict_opener k) (flat_map strict_text s.units) (strict_closer k)
    a.suffix)) in
    let same = texts_once style k r.units s.units (flat_map strict_text s.units)
    (record { each = r.each; blanks_end = r.blanks_end; inside_is = sym inside })
    (record { each = s.each; blanks_end = s.blanks_end; inside_is = refl }) in
    a.new_is ∙ ap (λ z. strict_opener k ++ (z ++ end)) same ∙ sym other.1

-- ---- a literal has exactly one kind

int_float : Int ≡ Float → ⊥
int_float e = absurd (cc)

int_truth : Int ≡ BoolKind → ⊥
int_truth e = absurd (cc)

float_truth : Float ≡ BoolKind → ⊥
float_truth e = absurd (cc)

cooked_quoted : (k : Kind) (us : List StrictUnit) → HasUnits k us → (k ≡ Int → ⊥) × (k ≡ Float → ⊥) × (k ≡ BoolKind → ⊥)
cooked_quoted Str us h = (λ e. absurd (cc), λ e. absurd (cc), λ e. absurd (cc))
cooked_quoted ByteStr us h = (λ e. absurd (cc), λ e. absurd (cc), λ e. absurd (cc))
cooked_quoted CStr us h = (λ e. absurd (cc), λ e. absurd (cc), λ e. absurd (cc))
cooked_quoted Byte us h = (λ e. absurd (cc), λ e. absurd (cc), λ e. absurd (cc))
cooked_quoted Char us h = (λ e. absurd (cc), λ e. absurd (cc), λ e. absurd (cc))
cooked_quoted kind us h = absurd h

raw_quoted : (k : Kind) → is_string k ≡ true → (k ≡ Int → ⊥) × (k ≡ Float → ⊥) × (k ≡ BoolKind → ⊥)
raw_quoted Str h = (λ e. absurd (cc), λ e. absurd (cc), λ e. absurd (cc))
raw_quoted ByteStr h = (λ e. absurd (cc), λ e. absurd (cc), λ e. absurd (cc))
raw_quoted CStr h = (λ e. absurd (cc), λ e. absurd (cc), λ e. absurd (cc))
raw_quoted kind h = absurd (cc)

-- ---- a literal isn't both a raw string and a literal with escapes

raw_not_cooked : (k : Kind) (y z : List ℕ) → is_string k ≡ true → strict_raw_opener k ++ y ≡ strict_opener k ++ z → ⊥
raw_not_cooked Str y z s e = both_ways false refl (ap first_quote e)
raw_not_cooked ByteStr y z s e = both_ways false refl (ap second_quote e)
raw_not_cooked CStr y z s e = both_ways false refl (ap second_quote e)
raw_not_cooked kind y z s e = absurd (cc)

raw_apart : (style : Style) (t w : List ℕ) → WasRaw t → RewritesCooked style t w → ⊥
raw_apart style t w a b =
    let one = one_strict t a.kind b.kind a.contents b.contents a.suffix b.suffix
    (raw_strict t a.kind a.contents a.suffix a.raw) (cooked_strict t b.kind b.contents b.suffix b.cooked) in
    let h : List ℕ = replicate a.raw.hashes 35 in
    let raw : t ≡ strict_raw_opener a.kind ++ (h ++ (34 ∷ (a.raw.inside ++ (34 ∷ (h ++ a.suffix))))) =
    a.raw.text ∙ raw_joined (strict_raw_opener a.kind) h a.raw.inside a.suffix in
    let cooked : t ≡ strict_opener b.kind ++ (flat_map strict_text b.cooked.units ++ (strict_closer b.kind ++ b.suffix))
    =
    b.cooked.text ∙ between (strict_opener b.kind) (flat_map strict_text b.cooked.units) (strict_closer b.kind) b.suffix
    in
    raw_not_cooked a.kind _ _ (raw_string t a.kind a.contents a.suffix a.raw) (sym raw ∙ cooked
    ∙ ap (λ k. strict_opener k ++ (flat_map strict_text b.cooked.units ++ (strict_closer b.kind ++ b.suffix)))
    (sym one.0))

-- ---- a literal has exactly one new text in a style

clash : (t : List ℕ) (k l : Kind) (v w : Contents) (x y : List ℕ) → Strict t k v x → Strict t l w y → (k ≡ l → ⊥) → ⊥
clash t k l v w x y a b n = n (one_strict t k l v w x y a b).0

-- The text is an integer with some value and some suffix.
abbrev WasInt : List ℕ → Type 0
WasInt t = (v : Contents) × (x : List ℕ) × StrictInt t v x

was_int : (style : Style) (t u : List ℕ) → RewritesInt style t u → WasInt t
was_int style t u (inl a) = (a.contents, a.suffix, a.int)
was_int style t u (inr a) = (a.contents, a.suffix, a.int)

-- The text is a float with some value and some suffix.
abbrev WasFloat : List ℕ → Type 0
WasFloat t = (v : Contents) × (x : List ℕ) × StrictFloat t v x

was_float : (style : Style) (t u : List ℕ) → RewritesFloat style t u → WasFloat t
was_float style t u (inl a) = (a.contents, a.suffix, a.float)
was_float style t u (inr a) = (a.contents, a.suffix, a.float)

int_raw : (t : List ℕ) → WasInt t → WasRaw t → ⊥
int_raw t (v, x, a) b = clash t b.kind Int b.contents v b.suffix x
    (raw_strict t b.kind b.contents b.suffix b.raw) a
    (raw_quoted b.kind (raw_string t b.kind b.contents b.suffix b.raw)).0

int_cooked : (style : Style) (t w : List ℕ) → WasInt t → RewritesCooked style t w → ⊥
int_cooked style t w (v, x, a) b = clash t b.kind Int b.contents v b.suffix x
    (cooked_strict t b.kind b.contents b.suffix b.cooked) a (cooked_quoted b.kind b.cooked.units b.cooked.count).0

float_raw : (t : List ℕ) → WasFloat t → WasRaw t → ⊥
float_raw t (v, x, a) b = clash t b.kind Float b.contents v b.suffix x
    (raw_strict t b.kind b.contents b.suffix b.raw) a
    (raw_quoted b.kind (raw_string t b.kind b.contents b.suffix b.raw)).1

float_cooked : (style : Style) (t w : List ℕ) → WasFloat t → RewritesCooked style t w → ⊥
float_cooked style t w (v, x, a) b = clash t b.kind Float b.contents v b.suffix x
    (cooked_strict t b.kind b.contents b.suffix b.cooked) a (cooked_quoted b.kind b.cooked.units b.cooked.count).1

truth_raw : (t u : List ℕ) → KeepsTruth t u → WasRaw t → ⊥
truth_raw t u a b = clash t b.kind BoolKind b.contents a.contents b.suffix a.suffix
    (raw_strict t b.kind b.contents b.suffix b.raw) a.truth
    (raw_quoted b.kind (raw_string t b.kind b.contents b.suffix b.raw)).2

truth_cooked : (style : Style) (t u w : List ℕ) → KeepsTruth t u → RewritesCooked style t w → ⊥
truth_cooked style t u w a b = clash t b.kind BoolKind b.contents a.contents b.suffix a.suffix
    (cooked_strict t b.kind b.contents b.suffix b.cooked) a.truth (cooked_quoted b.kind b.cooked.units b.cooked.count).2

numbers_apart : (t : List ℕ) → WasInt t → WasFloat t → ⊥
numbers_apart t (v, x, a) (w, y, b) = clash t Int Float v w x y a b int_float

int_word : (t w : List ℕ) → WasInt t → KeepsTruth t w → ⊥
int_word t w (v, x, a) b = clash t Int BoolKind v b.contents x b.suffix a b.truth int_truth

float_word : (t w : List ℕ) → WasFloat t → KeepsTruth t w → ⊥
float_word t w (v, x, a) b = clash t Float BoolKind v b.contents x b.suffix a b.truth float_truth

pub one_answer : (style : Style) (front t u w : List ℕ) → Rewrites style front t u → Rewrites style front t w → u ≡ w
one_answer s f t u w (inl a) (inl b) = integer_once s t u w a b
one_answer s f t u w (inl a) (inr (inl b)) = absurd (numbers_apart t (was_int s t u a) (was_float s t w b))
one_answer s f t u w (inl a) (inr (inr (inl b))) = absurd (int_raw t (was_int s t u a) (was_raw s f t w b))
one_answer s f t u w (inl a) (inr (inr (inr (inl b)))) = absurd (int_cooked s t w (was_int s t u a) b)
one_answer s f t u w (inl a) (inr (inr (inr (inr b)))) = absurd (int_word t w (was_int s t u a) b)
one_answer s f t u w (inr (inl a)) (inl b) = absurd (numbers_apart t (was_int s t w b) (was_float s t u a))
one_answer s f t u w (inr (inl a)) (inr (inl b)) = float_once s t u w a b
one_answer s f t u w (inr (inl a)) (inr (inr (inl b))) = absurd (float_raw t (was_float s t u a) (was_raw s f t w b))
one_answer s f t u w (inr (inl a)) (inr (inr (inr (inl b)))) = absurd (float_cooked s t w (was_float s t u a) b)
one_answer s f t u w (inr (inl a)) (inr (inr (inr (inr b)))) = absurd (float_word t w (was_float s t u a) b)
one_answer s f t u w (inr (inr (inl a))) (inl b) = absurd (int_raw t (was_int s t w b) (was_raw s f t u a))
one_answer s f t u w (inr (inr (inl a))) (inr (inl b)) = absurd (float_raw t (was_float s t w b) (was_raw s f t u a))
one_answer s f t u w (inr (inr (inl a))) (inr (inr (inl b))) = raw_once s f t u w a b
one_answer s f t u w (inr (inr (inl a))) (inr (inr (inr (inl b)))) = absurd (raw_apart s t w (was_raw s f t u a) b)
one_answer s f t u w (inr (inr (inl a))) (inr (inr (inr (inr b)))) = absurd (truth_raw t w b (was_raw s f t u a))
one_answer s f t u w (inr (inr (inr (inl a)))) (inl b) = absurd (int_cooked s t u (was_int s t w b) a)
one_answer s f t u w (inr (inr (inr (inl a)))) (inr (inl b)) = absurd (float_cooked s t u (was_float s t w b) a)
one_answer s f t u w (inr (inr (inr (inl a)))) (inr (inr (inl b))) = absurd (raw_apart s t u (was_raw s f t w b) a)
one_answer s f t u w (inr (inr (inr (inl a)))) (inr (inr (inr (inl b)))) = cooked_once s t u w a b
one_answer s f t u w (inr (inr (inr (inl a)))) (inr (inr (inr (inr b)))) = absurd (truth_cooked s t w u b a)
one_answer s f t u w (inr (inr (inr (inr a)))) (inl b) = absurd (int_word t u (was_int s t w b) a)
one_answer s f t u w (inr (inr (inr (inr a)))) (inr (inl b)) = absurd (float_word t u (was_float s t w b) a)
one_answer s f t u w (inr (inr (inr (inr a)))) (inr (inr (inl b))) = absurd (truth_raw t u a (was_raw s f t w b))
one_answer s f t u w (inr (inr (inr (inr a)))) (inr (inr (inr (inl b)))) = absurd (truth_cooked s t u w a b)
one_answer s f t u w (inr (inr (inr (inr a)))) (inr (inr (inr (inr b)))) = a.new_is ∙ sym b.new_is
