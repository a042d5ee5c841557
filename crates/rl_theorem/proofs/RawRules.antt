-- Raw strings, by both definitions.
use Rattle.rl_syntax.proofs.Common.{◌≡◌, ◌≢◌, ℕ, ◌&&◌, Bool, true, not, eqb, List, [], ◌∷◌, ◌++◌, refl, sym, ap, subst, ◌∙◌, append_assoc, list_all, replicate, zero, suc, and_parts, and_from, ltb-true, lt-ltb, codes}
use Rattle.std.specs.Prelude.{◌↔◌}
use Rattle.rl_syntax.specs.declared.kind.Kind.{Kind}
use Rattle.rl_syntax.specs.Reading.{Contents, quoted_contents}
use Rattle.rl_syntax.specs.Strict.{StrictRaw, IsStrictSuffix, IsRawInside, strict_raw_opener, strict_content_of}
use Rattle.rl_syntax.proofs.Basics.{all_same}
use Rattle.std.proofs.lemmas.Bool.{false≢true}
use Rattle.rl_syntax.specs.Texts.{first_passes}
use Rattle.rl_theorem.specs.Notation.{Rule, Text, One, Many, Unless, Means, ◌⋅◌, but}
use Rattle.rl_theorem.specs.RustRules.{raw, suffix}
use Rattle.rl_theorem.proofs.RuleParts.{text_then, then_text, close_then, then_close, NoneAt, unless_before, before_unless, IsRuleOf, Row, many_to, many_from, one, ones, or_same}
use Rattle.rl_theorem.proofs.SuffixRule.{suffix_to, suffix_from}
use Rattle.rl_theorem.proofs.QuotedRules.{By, IsQuoted}

abbrev closer : ℕ → List ℕ
closer n = 34 ∷ replicate n 35

abbrev passes : (ℕ → Bool) → ℕ → Bool
passes test c = test c && but (codes "\r") c

-- The character passes, and the closing delimiter doesn't begin at it.
abbrev Inside : (ℕ → Bool) → ℕ → ℕ → List ℕ → Type 0
Inside test n c after = (passes test c ≡ true) × NoneAt (Text (closer n)) (c ∷ after)

abbrev inner : (ℕ → Bool) → ℕ → Rule
inner test n = Unless (Text (closer n)) ⋅ One (passes test)

inner_rule : (test : ℕ → Bool) (n : ℕ) → IsRuleOf (inner test n) one one (Inside test n)
inner_rule test n = record {
  to = λ c after h. unless_before (One (passes test)) (Text (closer n)) (c ∷ []) after (c ∷ []) h.1 (c, h.0, refl, refl);
  from = λ text after value m.
      let (none, (c, is, t, v)) = before_unless (One (passes test)) (Text (closer n)) text after value m in
      (c, (is, subst (λ k. NoneAt (Text (closer n)) (k ++ after)) t none), t, v);
}

-- ---- where the string ends

hashes_fit : (n : ℕ) (r y w : List ℕ) → r ++ (34 ∷ y) ≡ replicate n 35 ++ w → (rest : List ℕ) × (r ≡ replicate n 35 ++ rest)
hashes_fit zero r y w e = (r, refl)
hashes_fit (suc n) [] y w e = absurd (false≢true (ap (first_passes (λ c. eqb c 35)) e))
hashes_fit (suc n) (c ∷ cs) y w e =
    let head : c ≡ 35 = cc in
    let tail : cs ++ (34 ∷ y) ≡ replicate n 35 ++ w = cc in
    let (rest, is) = hashes_fit n cs y w tail in
    (rest, ap (λ k. k ∷ cs) head ∙ ap (λ k. 35 ∷ k) is)

-- The closing delimiter isn't inside.
abbrev FirstClose : ℕ → List ℕ → Type 0
FirstClose n inside = (front rest : List ℕ) → inside ≢ front ++ closer n ++ rest

none_inside : (n c : ℕ) (cs x : List ℕ) → FirstClose n (c ∷ cs) → NoneAt (Text (closer n)) (c ∷ (cs ++ (closer n ++ x)))
none_inside n c cs x first u w v e (u_is, v_is) =
    let all : c ∷ (cs ++ (34 ∷ (replicate n 35 ++ x))) ≡ 34 ∷ (replicate n 35 ++ w) = e ∙ ap (λ k. k ++ w) u_is in
    let head : c ≡ 34 = cc in
    let tail : cs ++ (34 ∷ (replicate n 35 ++ x)) ≡ replicate n 35 ++ w = cc in
    let (rest, is) = hashes_fit n cs (replicate n 35 ++ x) w tail in
    first [] rest (ap (λ k. k ∷ cs) head ∙ ap (λ k. 34 ∷ k) is)

row_of : (test : ℕ → Bool) (n : ℕ) (cs x : List ℕ) → list_all (passes test) cs ≡ true → FirstClose n cs
    → Row one (Inside test n) cs (closer n ++ x)
row_of test n [] x all first = tt
row_of test n (c ∷ cs) x all first =
    let (here, more) = and_parts (passes test c) (list_all (passes test) cs) all in (
      (here, subst (λ k. NoneAt (Text (closer n)) (c ∷ (k ++ (closer n ++ x)))) (sym (ones cs)) (none_inside n c cs x first)),
      row_of test n cs x more (λ front rest e. first (c ∷ front) rest (ap (λ k. c ∷ k) e)),
    )

all_of : (test : ℕ → Bool) (n : ℕ) (cs x : List ℕ) → Row one (Inside test n) cs (closer n ++ x)
    → list_all (passes test) cs ≡ true
all_of test n [] x row = refl
all_of test n (c ∷ cs) x row = and_from (passes test c) (list_all (passes test) cs) row.0.0 (all_of test n cs x row.1)

first_of_row : (test : ℕ → Bool) (n : ℕ) (cs x : List ℕ) → Row one (Inside test n) cs (closer n ++ x) → FirstClose n cs
first_of_row test n [] x row [] rest e = absurd (cc)
first_of_row test n [] x row (d ∷ front) rest e = absurd (cc)
first_of_row test n (c ∷ cs) x row [] rest e =
    row.0.1 (closer n) (rest ++ (closer n ++ x)) []
    (ap (λ k. c ∷ (k ++ (closer n ++ x))) (ones cs) ∙ ap (λ k. k ++ (closer n ++ x)) e ∙ append_assoc (closer n) rest (closer n ++ x)) (refl, refl)
first_of_row test n (c ∷ cs) x row (d ∷ front) rest e =
    let tail : cs ≡ front ++ closer n ++ rest = cc in
    first_of_row test n cs x row.1 front rest tail

-- ---- the tests

both_from : (f g : ℕ → Bool) (cs : List ℕ) → list_all f cs ≡ true → list_all g cs ≡ true
    → list_all (λ c. f c && g c) cs ≡ true
both_from f g [] a b = refl
both_from f g (c ∷ cs) a b =
    let p = and_parts (f c) (list_all f cs) a in
    let q = and_parts (g c) (list_all g cs) b in
    and_from (f c && g c) (list_all (λ c. f c && g c) cs) (and_from (f c) (g c) p.0 q.0) (both_from f g cs p.1 q.1)

both_parts : (f g : ℕ → Bool) (cs : List ℕ) → list_all (λ c. f c && g c) cs ≡ true
    → (list_all f cs ≡ true) × (list_all g cs ≡ true)
both_parts f g [] all = (refl, refl)
both_parts f g (c ∷ cs) all =
    let p = and_parts (f c && g c) (list_all (λ c. f c && g c) cs) all in
    let here = and_parts (f c) (g c) p.0 in
    let more = both_parts f g cs p.1 in
    (and_from (f c) (list_all f cs) here.0 more.0, and_from (g c) (list_all g cs) here.1 more.1)

abbrev no_return : ℕ → Bool
no_return c = not (eqb c 13)

returns : (cs : List ℕ) → list_all no_return cs ≡ list_all (but (codes "\r")) cs
returns cs = all_same no_return (but (codes "\r")) (λ c. ap not (or_same (eqb c 13) [])) cs

-- ---- the literal

abbrev opener : Kind → ℕ → List ℕ
opener kind n = strict_raw_opener kind ++ replicate n 35 ++ 34 ∷ []

joined : (o h i c x : List ℕ) → ((((o ++ h) ++ (34 ∷ i)) ++ c) ++ x) ≡ ((((o ++ h) ++ 34 ∷ []) ++ (i ++ c)) ++ x)
joined o h i c x =
    ap (λ k. (k ++ c) ++ x) (sym (append_assoc (o ++ h) (34 ∷ []) i)) ∙ ap (λ k. k ++ x) (append_assoc ((o ++ h) ++ 34 ∷ []) i c)

raw_to : (kind : Kind) (test : ℕ → Bool) → ((cs : List ℕ) → IsRawInside kind cs → list_all test cs ≡ true)
    → (text : List ℕ) (contents : Contents) (x : List ℕ) → StrictRaw text kind contents x
    → (body inside : List ℕ) × (text ≡ body ++ x) × Means (raw (strict_raw_opener kind) test) body x inside
    × (contents ≡ quoted_contents kind (strict_content_of kind inside))
raw_to kind test allows text contents x s =
    let n = s.hashes in
    let all = both_from test (but (codes "\r")) s.inside (allows s.inside s.allowed) (sym (returns s.inside) ∙ s.no_carriage_return) in
    let means = many_to (inner test n) one one (Inside test n) (inner_rule test n) s.inside (closer n ++ x) (row_of test n s.inside x all s.first_close) in (
      opener kind n ++ (s.inside ++ closer n),
      s.inside,
      s.text ∙ joined (strict_raw_opener kind) (replicate n 35) s.inside (closer n) x,
      (
        n,
        (
          lt-ltb n 256 s.few,
          text_then (opener kind n) (Many (inner test n) ⋅ Text (closer n)) (s.inside ++ closer n) x s.inside
              (close_then (closer n) (Many (inner test n)) s.inside x s.inside
              (subst (λ k. Means (Many (inner test n)) k (closer n ++ x) k) (ones s.inside) means)),
        ),
      ),
      s.contents,
    )

raw_from : (kind : Kind) (test : ℕ → Bool) → ((cs : List ℕ) → list_all test cs ≡ true → IsRawInside kind cs)
    → (text : List ℕ) (contents : Contents) (x body inside : List ℕ) → text ≡ body ++ x → IsStrictSuffix x
    → contents ≡ quoted_contents kind (strict_content_of kind inside)
    → Means (raw (strict_raw_opener kind) test) body x inside → StrictRaw text kind contents x
raw_from kind test allows text contents x body inside text_is suffix contents_is (n, (few, m)) =
    let (w, body_is, rest) = then_text (opener kind n) (Many (inner test n) ⋅ Text (closer n)) body x inside m in
    let (u, w_is, more) = then_close (closer n) (Many (inner test n)) w x inside rest in
    let (cs, row, u_is, value_is) = many_from (inner test n) one one (Inside test n) (inner_rule test n) u (closer n ++ x) inside more in
    let both = both_parts test (but (codes "\r")) cs (all_of test n cs x row) in
    record {
      hashes = n;
      inside = cs;
      few = ltb-true n 256 few;
      allowed = allows cs both.0;
      no_carriage_return = returns cs ∙ both.1;
      first_close = first_of_row test n cs x row;
      suffix = suffix;
      text = text_is ∙ ap (λ k. k ++ x) (body_is ∙ ap (λ k. opener kind n ++ k) (w_is ∙ ap (λ k. k ++ closer n) (u_is ∙ ones cs)))
          ∙ sym (joined (strict_raw_opener kind) (replicate n 35) cs (closer n) x);
      contents = contents_is ∙ ap (λ k. quoted_contents kind (strict_content_of kind k)) (value_is ∙ ones cs);
    }

-- `b` is the kind's rule of raw strings: the texts of `raw`, with the values of the kind.
pub raw_rule : (kind : Kind) (test : ℕ → Bool) (b : Rule) → ((cs : List ℕ) → IsRawInside kind cs → list_all test cs ≡ true)
    → ((cs : List ℕ) → list_all test cs ≡ true → IsRawInside kind cs) → IsQuoted kind
    → ((u x v : List ℕ) → Means (raw (strict_raw_opener kind) test) u x v → Means b u x (strict_content_of kind v))
    → ((u x w : List ℕ) → Means b u x w
    → (v : List ℕ) × Means (raw (strict_raw_opener kind) test) u x v × (w ≡ strict_content_of kind v))
    → (text : List ℕ) (contents : Contents) (x : List ℕ) → StrictRaw text kind contents x ↔ By kind b text contents x
raw_rule kind test b allows allowed quoted means meant text contents x = (to, from)
  where
    to : StrictRaw text kind contents x → By kind b text contents x
    to s =
        let (body, inside, text_is, m, contents_is) = raw_to kind test allows text contents x s in
        record {
          body = body;
          value = strict_content_of kind inside;
          text_is = text_is;
          is_body = means body x inside m;
          is_suffix = suffix_to x s.suffix;
          contents_is = contents_is ∙ sym (quoted (strict_content_of kind inside));
        }

    from : By kind b text contents x → StrictRaw text kind contents x
    from l =
        let (v, m, value_is) = meant l.body x l.value l.is_body in
        raw_from kind test allowed text contents x l.body v l.text_is (suffix_from x l.is_suffix.0 l.is_suffix.1)
        (l.contents_is ∙ quoted l.value ∙ ap (quoted_contents kind) value_is) m
