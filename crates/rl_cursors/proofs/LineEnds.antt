-- Let a text begin with an opening delimiter. The text from the first line end on is an end of the text after the delimiter.
use Rattle.rl_syntax.proofs.Common.{◌≡◌, ℕ, zero, suc, Bool, true, false, not, ◌&&◌, ◌==◌, List, [], ◌∷◌, ◌++◌, drop, replicate, Option, Some, refl, sym, ◌∙◌, ap, none-some, if◌then◌else◌}
use Rattle.rl_lexer.proofs.Comments.{same_Some}
use Rattle.rl_lexer.specs.Lexemes.{LiteralPrefix, NoPrefix, BytePrefix, CPrefix, prefix_text}
use Rattle.rl_cursors.specs.Recoveries.{from_line_end}
use Rattle.rl_cursors.proofs.OpenerLemmas.{hashed}

-- The text `r` is an end of the text `t`.
abbrev pub EndsWith : List ℕ → List ℕ → Type 0
EndsWith t r = (front : List ℕ) × (t ≡ front ++ r)

pub line_ends : (joins escaped : Bool) (t r : List ℕ) → from_line_end joins escaped t ≡ Some r → EndsWith t r
line_ends joins escaped [] r h = absurd (none-some r h)
line_ends joins escaped (c ∷ t) r h =
    go (c == 10 && not escaped) h (line_ends joins (joins && c == 92 && not escaped) t r)
  where
    more_of : Option (List ℕ)
    more_of = from_line_end joins (joins && c == 92 && not escaped) t

    go : (b : Bool) → (if b then Some (c ∷ t) else more_of) ≡ Some r → (more_of ≡ Some r → EndsWith t r)
        → EndsWith (c ∷ t) r
    go true h more = ([], same_Some (c ∷ t) r h)
    go false h more = let (front, e) = more h in (c ∷ front, ap (λ z. c ∷ z) e)

pub rest_ends : (joins escaped : Bool) (t r : List ℕ) → from_line_end joins escaped (drop 1 t) ≡ Some r → EndsWith t r
rest_ends joins escaped [] r h = absurd (none-some r h)
rest_ends joins escaped (c ∷ t) r h = let (front, e) = line_ends joins escaped t r h in (c ∷ front, ap (λ z. c ∷ z) e)

-- ---- an opening delimiter contains neither an LF nor a backslash, so the first line end of a text is after it

and_false : (b : Bool) → (b && false) ≡ false
and_false true = refl
and_false false = refl

plain : (joins : Bool) (c : ℕ) (t : List ℕ) → (c == 10) ≡ false → (c == 92) ≡ false → from_line_end joins false (c ∷ t)
    ≡ from_line_end joins false t
plain joins c t line back =
    ap (λ b. if b && not false then Some (c ∷ t) else from_line_end joins (joins && c == 92 && not false) t) line
    ∙ ap (λ b. from_line_end joins (joins && b && not false) t) back
    ∙ ap (λ b. from_line_end joins (b && not false) t) (and_false joins)

over_hashes : (joins : Bool) (n : ℕ) (t : List ℕ) → from_line_end joins false (replicate n 35 ++ t)
    ≡ from_line_end joins false t
over_hashes joins zero t = refl
over_hashes joins (suc n) t = plain joins 35 (replicate n 35 ++ t) refl refl ∙ over_hashes joins n t

pub quoted_lines : (joins : Bool) (p : LiteralPrefix) (body r : List ℕ)
    → from_line_end joins false (drop 1 (prefix_text p ++ 34 ∷ body)) ≡ Some r → EndsWith body r
quoted_lines joins NoPrefix body r h = line_ends joins false body r h
quoted_lines joins BytePrefix body r h = line_ends joins false body r (sym (plain joins 34 body refl refl) ∙ h)
quoted_lines joins CPrefix body r h = line_ends joins false body r (sym (plain joins 34 body refl refl) ∙ h)

hashed_lines : (joins : Bool) (n : ℕ) (body r : List ℕ) → from_line_end joins false (hashed n body) ≡ Some r
    → EndsWith body r
hashed_lines joins n body r h = line_ends joins false body r
    (sym (over_hashes joins n (34 ∷ body) ∙ plain joins 34 body refl refl) ∙ h)

pub raw_lines : (joins : Bool) (p : LiteralPrefix) (n : ℕ) (body r : List ℕ)
    → from_line_end joins false (drop 1 (prefix_text p ++ 114 ∷ hashed n body)) ≡ Some r → EndsWith body r
raw_lines joins NoPrefix n body r h = hashed_lines joins n body r h
raw_lines joins BytePrefix n body r h = hashed_lines joins n body r
    (sym (plain joins 114 (hashed n body) refl refl) ∙ h)
raw_lines joins CPrefix n body r h = hashed_lines joins n body r (sym (plain joins 114 (hashed n body) refl refl) ∙ h)
