-- Ends of a text: an end of an end of a text is an end of the text.
use Rattle.rl_syntax.proofs.Common.{◌≡◌, ℕ, ◌-◌, ◌<◌, List, [], ◌++◌, length, take, drop, refl, sym, ap, subst, ◌∙◌, arith, append_assoc, length-append, Option, Some, None, take-append_seam, IsCharBoundary, chars, IsUtf8, chars-append, IfSome, IfNone, option_map}
use Rattle.std.proofs.Math.Seq.{drop-append_seam}
use Rattle.std.proofs.lemmas.Str.{IsCharBoundary-at_seam}
use Rattle.std.specs.Prelude.{Result, Ok, Err, IfOk}
use Rattle.rl_syntax.specs.Texts.{IsTail}

pub tail_self : (t : List ℕ) → IsUtf8 t → IsTail t t
tail_self t u = record { front = []; text_is = refl; is_text = u }

pub tail_step : (a b d : List ℕ) → IsTail a b → IsTail b d → IsTail a d
tail_step a b d p q = record {
  front = p.front ++ q.front;
  text_is = p.text_is ∙ ap (λ z. p.front ++ z) q.text_is ∙ sym (append_assoc p.front q.front d);
  is_text = q.is_text;
}

pub some_tail : {I : Type 0} (rest : I → List ℕ) (a b : List ℕ) (r : Option I) → IsTail a b
    → IfSome r (λ i. IsTail b (rest i)) → IfSome r (λ i. IsTail a (rest i))
some_tail rest a b None p q = tt
some_tail rest a b (Some i) p q = tail_step a b (rest i) p q

-- If the property `P` holds for `f i`, where `i` is the value of an option, `P` holds for the value that `option_map f`
-- returns for the option.
pub mapped : {I J : Type 0} (P : J → Type 0) (f : I → J) (r : Option I) (result : Option J) → result ≡ option_map f r
    → IfSome r (λ i. P (f i)) → IfSome result P
mapped P f None result e q = subst (λ z. IfSome z P) (sym e) tt
mapped P f (Some i) result e q = subst (λ z. IfSome z P) (sym e) q

pub mapped_tail : {I J : Type 0} (rest : J → List ℕ) (f : I → J) (a b : List ℕ) (r : Option I) (result : Option J)
    → result ≡ option_map f r → IsTail a b → IfSome r (λ i. IsTail b (rest (f i)))
    → IfSome result (λ p. IsTail a (rest p))
mapped_tail rest f a b r result e p q = some_tail rest a b result p (mapped (λ j. IsTail b (rest j)) f r result e q)

-- If a text is split in two, the length of the first part is the length of the text minus the length of the second part.
front_len : (bs xs ys : List ℕ) → bs ≡ xs ++ ys → length xs ≡ length bs - length ys
front_len bs xs ys e = omega (arith, length-append {A = ℕ}, ap length e)

pub cut_boundary : (bs ys : List ℕ) → IsTail bs ys → IsCharBoundary bs (length bs - length ys)
cut_boundary bs ys b =
    let At : ℕ → Type 0 = λ n. IsCharBoundary bs n in
    subst At (front_len bs b.front ys b.text_is) (IsCharBoundary-at_seam bs b.front ys b.text_is b.is_text)

pub cut_join : (bs ys : List ℕ) → IsTail bs ys → bs ≡ take (length bs - length ys) bs ++ ys
cut_join bs ys b =
    let xs = b.front in
    let f : List ℕ → List ℕ = λ z. take (length bs - length ys) z in
    let g : ℕ → List ℕ = λ n. take n (xs ++ ys) in
    let taken : take (length bs - length ys) bs ≡ xs = ap f b.text_is ∙ ap g (sym (front_len bs xs ys b.text_is))
    ∙ take-append_seam xs ys in
    b.text_is ∙ ap (λ z. z ++ ys) (sym taken)

-- If a text ends with `ys`, dropping the bytes before `ys` leaves `ys`.
pub cut_drop : (bs ys : List ℕ) → IsTail bs ys → drop (length bs - length ys) bs ≡ ys
cut_drop bs ys b =
    let f : List ℕ → List ℕ = λ z. drop (length bs - length ys) z in
    let g : ℕ → List ℕ = λ n. drop n (b.front ++ ys) in
    ap f b.text_is ∙ ap g (sym (front_len bs b.front ys b.text_is)) ∙ drop-append_seam b.front ys

pub if_none : {A : Type 0} (r : Option A) {P : Type 0} → P → IfNone r P
if_none None p = p
if_none (Some x) p = tt

pub cut_chars : (bs xs ys : List ℕ) → IsUtf8 xs → IsTail bs ys → xs ≡ take (length bs - length ys) bs → chars bs
    ≡ chars xs ++ chars ys
cut_chars bs xs ys u b e = ap chars (cut_join bs ys b ∙ ap (λ z. z ++ ys) (sym e)) ∙ chars-append xs ys u

-- If the text `b` is shorter than the text `a`, each end of `b` is shorter than `a`.
pub nearer : (a b d : List ℕ) → length b < length a → IsTail b d → length d < length a
nearer a b d s p = omega (arith, s, length-append p.front d, ap length p.text_is)

pub some_nearer : {I : Type 0} (rest : I → List ℕ) (a b : List ℕ) (r : Option I) → length b < length a
    → IfSome r (λ i. IsTail b (rest i)) → IfSome r (λ i. length (rest i) < length a)
some_nearer rest a b None s p = tt
some_nearer rest a b (Some i) s p = nearer a b (rest i) s p

-- If a function returns, on success, an end of an end of a text, the result is an end of the text.
pub ok_tail : {X E : Type 0} (rest : X → List ℕ) (a b : List ℕ) (r : Result X E) → IsTail a b
    → IfOk r (λ x. IsTail b (rest x)) → IfOk r (λ x. IsTail a (rest x))
ok_tail rest a b (Ok x) p q = tail_step a b (rest x) p q
ok_tail rest a b (Err e) p q = tt
