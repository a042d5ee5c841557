-- Sequences of hashes, as in raw literals.
use Rattle.rl_syntax.proofs.Common.{◌≡◌, ◌≢◌, ℕ, suc, zero, Bool, true, false, ◌&&◌, ◌==◌, cond, List, [], ◌∷◌, ◌++◌, length, drop, replicate, refl, sym, ◌∙◌, ap, and_parts, append_cancel_right, list_all}
use Rattle.std.proofs.lemmas.List.{length-replicate}
use Rattle.rl_syntax.specs.Classes.{is_hash, after_run}
use Rattle.rl_lexer.specs.Lexemes.{begins_hashes}
use Rattle.rl_lexer.specs.Mirrors.LexemeAt.{hashes}
use Rattle.rl_syntax.proofs.Basics.{false_unless, hashes_all}
use Rattle.rl_lexer.proofs.Pieces.{is_equal}

pub hashes_here : (n : ℕ) (t : List ℕ) → begins_hashes n (replicate n 35 ++ t) ≡ true
hashes_here zero t = refl
hashes_here (suc n) t = hashes_here n t

pub drop_hashes : (n : ℕ) (t : List ℕ) → drop n (replicate n 35 ++ t) ≡ t
drop_hashes zero t = refl
drop_hashes (suc n) t = drop_hashes n t

pub hashes_split : (n : ℕ) (t : List ℕ) → begins_hashes n t ≡ true → t ≡ replicate n 35 ++ drop n t
hashes_split zero t h = refl
hashes_split (suc n) [] h = absurd (cc)
hashes_split (suc n) (c ∷ t) h =
    let p = and_parts (c == 35) (begins_hashes n t) h in
    ap (λ x. x ∷ t) (is_equal c 35 p.0) ∙ ap (λ z. 35 ∷ z) (hashes_split n t p.1)

pub hashes_inside : (n : ℕ) (body t : List ℕ) → begins_hashes n (body ++ 34 ∷ t) ≡ begins_hashes n body
hashes_inside zero body t = refl
hashes_inside (suc n) [] t = refl
hashes_inside (suc n) (c ∷ body) t = ap (λ b. c == 35 && b) (hashes_inside n body t)

pub hashes_count : (n : ℕ) (t : List ℕ) → hashes (replicate n 35 ++ 34 ∷ t) ≡ n
hashes_count zero t = refl
hashes_count (suc n) t = ap suc (hashes_count n t)

pub hashes_past : (n : ℕ) (t : List ℕ) → after_run is_hash (replicate n 35 ++ 34 ∷ t) ≡ 34 ∷ t
hashes_past zero t = refl
hashes_past (suc n) t = hashes_past n t

-- ---- the hashes at the start of a text

hashes_step : (c : ℕ) (t : List ℕ) (b : Bool) → (c == 35) ≡ b → t ≡ replicate (hashes t) 35 ++ after_run is_hash t
    → c ∷ t ≡ replicate (cond b (suc (hashes t)) zero) 35 ++ cond b (after_run is_hash t) (c ∷ t)
hashes_step c t true h more = ap (λ x. x ∷ t) (is_equal c 35 h) ∙ ap (λ z. 35 ∷ z) more
hashes_step c t false h more = refl

pub hashes_first : (t : List ℕ) → t ≡ replicate (hashes t) 35 ++ after_run is_hash t
hashes_first [] = refl
hashes_first (c ∷ t) = hashes_step c t (c == 35) refl (hashes_first t)

-- If a text `t` is split into `h` and the text after the leading hashes of `t`, `h` consists of these hashes.
pub hashes_before : (h t r : List ℕ) → r ≡ after_run is_hash t → t ≡ h ++ r → h ≡ replicate (hashes t) 35
hashes_before h t r past e = append_cancel_right h (replicate (hashes t) 35) (after_run is_hash t)
    (ap (λ z. h ++ z) (sym past) ∙ sym e ∙ hashes_first t)

pub hashes_alone : (h t r : List ℕ) → r ≡ after_run is_hash t → t ≡ h ++ r → list_all is_hash h ≡ true
hashes_alone h t r past e = ap (list_all is_hash) (hashes_before h t r past e) ∙ hashes_all (hashes t)

pub hashes_counted : (h t r : List ℕ) → r ≡ after_run is_hash t → t ≡ h ++ r → length h ≡ hashes t
hashes_counted h t r past e = ap length (hashes_before h t r past e) ∙ length-replicate (hashes t) 35

-- ---- a text after the number of hashes

hashes_are : (h : List ℕ) → list_all is_hash h ≡ true → h ≡ replicate (length h) 35
hashes_are [] is = refl
hashes_are (c ∷ h) is =
    let p = and_parts (c == 35) (list_all is_hash h) is in
    ap (λ x. x ∷ h) (is_equal c 35 p.0) ∙ ap (λ z. 35 ∷ z) (hashes_are h p.1)

pub hashes_met : (h s r : List ℕ) → list_all is_hash h ≡ true → s ≡ h ++ r → (begins_hashes (length h) s ≡ true)
    × (drop (length h) s ≡ r)
hashes_met h s r is e =
    let same : s ≡ replicate (length h) 35 ++ r = e ∙ ap (λ z. z ++ r) (hashes_are h is) in (
      ap (begins_hashes (length h)) same ∙ hashes_here (length h) r,
      ap (drop (length h)) same
          ∙ drop_hashes (length h) r,
    )

pub hashes_missed : (h s : List ℕ) → list_all is_hash h ≡ true → ((x : List ℕ) → s ≢ h ++ x)
    → begins_hashes (length h) s ≡ false
hashes_missed h s is none =
    let rest = drop (length h) s in
    false_unless (begins_hashes (length h) s) (λ b. none rest (hashes_split (length h) s b
    ∙ ap (λ z. z ++ rest) (sym (hashes_are h is))))
