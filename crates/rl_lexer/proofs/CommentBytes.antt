-- Lemmas about the end of a comment: the code finds it in the bytes of a text, and the model finds the same end in the
-- characters of the text.
use Rattle.rl_syntax.proofs.Common.{◌≡◌, ℕ, suc, zero, ◌<◌, ◌≤◌, ◌⊎◌, inl, inr, Bool, true, false, ◌&&◌, ◌==◌, cond, List, [], ◌∷◌, ◌++◌, Option, Some, None, refl, sym, ◌∙◌, ap, arith, ltb-false, is_ascii, chars, encode_utf8_all, IsUtf8, option_map, encodes-chars, chars_from_encodes}
use Rattle.std.specs.Char.{encode_utf8}
use Rattle.rl_syntax.specs.Texts.{first_passes}
use Rattle.rl_syntax.specs.Trivia.{is_comment_line, is_comment_block}
use Rattle.rl_lexer.specs.Mirrors.SkippedAt.{after_block, after_comment}
use Rattle.rl_lexer.proofs.Comments.{closed, after_block-step, block_goes_on, both}
use Rattle.rl_syntax.proofs.Basics.{false_unless}
use Rattle.rl_syntax.proofs.LowBytes.{AllHigh, encode_high, encode_is_high, cases128, low_front, not_equal}

block_past_high : (d x : ℕ) (s : List ℕ) → 128 ≤ x → after_block d (x ∷ s) ≡ after_block d s
block_past_high d x [] high = refl
block_past_high d x (e ∷ s) high = block_goes_on d x e s (false_unless (x == 42 && e == 47)
    (λ h. let q : (x ≡ 42) × (e ≡ 47) = both x 42 e 47 h in omega arith))
    (false_unless (x == 47 && e == 42) (λ h. let q : (x ≡ 47) × (e ≡ 42) = both x 47 e 42 h in omega arith))

block_before_high : (d c e : ℕ) (s : List ℕ) → 128 ≤ e → after_block d (c ∷ e ∷ s) ≡ after_block d (e ∷ s)
block_before_high d c e s high = block_goes_on d c e s (false_unless (c == 42 && e == 47)
    (λ h. let q : (c ≡ 42) × (e ≡ 47) = both c 42 e 47 h in omega arith))
    (false_unless (c == 47 && e == 42) (λ h. let q : (c ≡ 47) × (e ≡ 42) = both c 47 e 42 h in omega arith))

block_past_all : (d : ℕ) (xs s : List ℕ) → AllHigh xs → after_block d (xs ++ s) ≡ after_block d s
block_past_all d [] s is = refl
block_past_all d (x ∷ xs) s (is, more) = block_past_high d x (xs ++ s) is ∙ block_past_all d xs s more

abbrev pub Same : Option (List ℕ) → Option (List ℕ) → Type 0
Same bytes cs = bytes ≡ option_map encode_utf8_all cs

block_low : (d c e : ℕ) (cs : List ℕ) → ((d : ℕ) → Same (after_block d (encode_utf8_all cs)) (after_block d cs))
    → Same (after_block d (e ∷ encode_utf8_all cs)) (after_block d (e ∷ cs))
    → Same (after_block d (c ∷ e ∷ encode_utf8_all cs)) (after_block d (c ∷ e ∷ cs))
block_low d c e cs more one =
    after_block-step d c e (encode_utf8_all cs)
    ∙ same_cond (c == 42 && e == 47) (c == 47 && e == 42) _ _ _ _ _ _ (same_closed d cs more) (more (suc d)) one
    ∙ ap (option_map encode_utf8_all) (sym (after_block-step d c e cs))
  where
    same_closed : (d : ℕ) (cs : List ℕ) → ((d : ℕ) → Same (after_block d (encode_utf8_all cs)) (after_block d cs))
        → Same (closed d (encode_utf8_all cs)) (closed d cs)
    same_closed zero cs more = refl
    same_closed (suc d) cs more = more d

    same_cond : (a b : Bool) (x y z : Option (List ℕ)) (x' y' z' : Option (List ℕ)) → Same x x' → Same y y' → Same z z'
        → Same (cond a x (cond b y z)) (cond a x' (cond b y' z'))
    same_cond true b x y z x' y' z' p q r = p
    same_cond false true x y z x' y' z' p q r = q
    same_cond false false x y z x' y' z' p q r = r

block_two : (d c e : ℕ) (cs : List ℕ) → ((d : ℕ) → Same (after_block d (encode_utf8_all cs)) (after_block d cs))
    → Same (after_block d (encode_utf8_all (e ∷ cs))) (after_block d (e ∷ cs)) → (c < 128) ⊎ (128 ≤ c) → (e < 128)
    ⊎ (128 ≤ e) → Same (after_block d (encode_utf8_all (c ∷ e ∷ cs))) (after_block d (c ∷ e ∷ cs))
block_two d c e cs more one (inr high) _ =
    block_past_all d (encode_utf8 c) (encode_utf8_all (e ∷ cs)) (encode_high c high) ∙ one
    ∙ ap (option_map encode_utf8_all) (sym (block_past_high d c (e ∷ cs) high))
block_two d c e cs more one (inl low) (inl low') =
    ap (after_block d) (low_front c (e ∷ cs) low ∙ ap (λ x. c ∷ x) (low_front e cs low'))
    ∙ block_low d c e cs more (ap (after_block d) (sym (low_front e cs low')) ∙ one)
block_two d c e cs more one (inl low) (inr high) =
    let (h, hs, same, is, _) = encode_is_high e high in
    let g : encode_utf8_all (e ∷ cs) ≡ h ∷ (hs ++ encode_utf8_all cs) = ap (λ x. x ++ encode_utf8_all cs) same in
    ap (after_block d) (low_front c (e ∷ cs) low ∙ ap (λ x. c ∷ x) g)
    ∙ block_before_high d c h (hs ++ encode_utf8_all cs) is
    ∙ ap (after_block d) (sym g) ∙ one
    ∙ ap (option_map encode_utf8_all) (sym (block_before_high d c e cs high))

block_one : (d c : ℕ) → (c < 128) ⊎ (128 ≤ c) → Same (after_block d (encode_utf8_all (c ∷ []))) None
block_one d c (inl low) = ap (after_block d) (low_front c [] low)
block_one d c (inr high) = block_past_all d (encode_utf8 c) [] (encode_high c high)

pub after_block-encodes : (d : ℕ) (cs : List ℕ) → Same (after_block d (encode_utf8_all cs)) (after_block d cs)
after_block-encodes d [] = refl
after_block-encodes d (c ∷ []) = block_one d c (cases128 c)
after_block-encodes d (c ∷ e ∷ cs) = block_two d c e cs (λ n. after_block-encodes n cs) (after_block-encodes d (e ∷ cs))
    (cases128 c) (cases128 e)

-- If the code returns the encoding of the model's result, the characters of the code's result are the model's result.
same_chars : (m : Option (List ℕ)) (rest : List ℕ) → IsUtf8 rest → Some rest ≡ option_map encode_utf8_all m
    → Some (chars rest) ≡ m
same_chars None rest is e = absurd (cc)
same_chars (Some cs) rest is e = ap Some (sym (chars_from_encodes cs rest is
    (some_inner (encode_utf8_all cs) rest (sym e))))
  where
    some_inner : (x y : List ℕ) → Some x ≡ Some y → x ≡ y
    some_inner x y e = cc

same_none : (m : Option (List ℕ)) → None ≡ option_map encode_utf8_all m → None ≡ m
same_none None e = refl
same_none (Some cs) e = absurd (cc)

block_bytes : (t : List ℕ) → IsUtf8 t → after_block 0 t ≡ option_map encode_utf8_all (after_block 0 (chars t))
block_bytes t is = ap (after_block 0) (sym (encodes-chars t is)) ∙ after_block-encodes 0 (chars t)

pub block_of_bytes : (t rest : List ℕ) → IsUtf8 t → IsUtf8 rest → after_block 0 t ≡ Some rest → Some (chars rest)
    ≡ after_block 0 (chars t)
block_of_bytes t rest is is_rest e = same_chars (after_block 0 (chars t)) rest is_rest (sym e ∙ block_bytes t is)

pub no_block_of_bytes : (t : List ℕ) → IsUtf8 t → after_block 0 t ≡ None → None ≡ after_block 0 (chars t)
no_block_of_bytes t is e = same_none (after_block 0 (chars t)) (sym e ∙ block_bytes t is)

-- If a text begins with a non-ASCII character, no plain comment begins it.
pub wide_comment : (t : List ℕ) → first_passes is_ascii t ≡ false → None ≡ after_comment t
wide_comment [] h = refl
wide_comment (c ∷ t) h = rw (
  not_equal c 47 (omega arith) (ltb-false c 128 h),
  not_equal c 42 (omega arith)
      (ltb-false c 128 h),
) refl

pub wide_line : (t : List ℕ) → first_passes is_ascii t ≡ false → true ≡ is_comment_line t
wide_line [] h = refl
wide_line (c ∷ t) h = rw (
  not_equal c 33 (omega arith) (ltb-false c 128 h),
  not_equal c 47 (omega arith)
      (ltb-false c 128 h),
) refl

pub wide_block : (t : List ℕ) → first_passes is_ascii t ≡ false → true ≡ is_comment_block t
wide_block [] h = refl
wide_block (c ∷ t) h = rw (
  not_equal c 33 (omega arith) (ltb-false c 128 h),
  not_equal c 42 (omega arith)
      (ltb-false c 128 h),
) refl
