-- A text consists of exactly one sequence of characters and escapes. The new form of each character or escape depends on the
-- text after it.
use Rattle.rl_syntax.proofs.Common.{is_ascii_digit, nat_tests, ◌≡◌, ℕ, ◌≤◌, inl, inr, arith, cases_lt, Bool, true, not, List, [], ◌∷◌, ◌++◌, Some, None, refl, sym, ap, subst, ◌∙◌, append_assoc, append-nil, append_cancel_right, and_parts, list_all, flat_map, encode_utf8_all, encodes-append}
use Rattle.rl_syntax.proofs.Basics.{false_unless}
use Rattle.rl_lenient.proofs.Names.{Kind, strict_content_of, strict_contents, first_passes, StrictUnit, strict_text, is_strict_unit, unit_value}
use Rattle.rl_syntax.proofs.StrictQuoted.{blanks_after, may_follow, stands}
use Rattle.rl_lenient.specs.Mirrors.UnitAt.{unit_at}
use Rattle.rl_lenient.proofs.UnitLemmas.{some_pair, unit_complete, unit_nil}
use Rattle.rl_style.specs.declared.style.Style.{Style}
use Rattle.rl_style.specs.Rewriting.{digit_follows, restyled_units, restyled}
use Rattle.rl_style.specs.Mirrors.{AreUnits, ascii_in, lettered, represents_digit, restyled_text}
use Rattle.rl_style.proofs.UnitTexts.{alone_of, bytes_of, unit_restyled}

-- ---- the characters and escapes read so far

-- The text `t` consists of the character or escape `u`, and then of the characters and escapes `us`. The code reads `u`
-- first.
record FirstIs (k : Kind) (u : StrictUnit) (us : List StrictUnit) (t : List ℕ) : Type 0 where
  value : List ℕ
  value_is : value ≡ strict_contents (strict_content_of k) u
  read : unit_at k t ≡ Some (value, flat_map strict_text us)
  is_unit : is_strict_unit k u ≡ true
  left : AreUnits k us (flat_map strict_text us)
  text_is : t ≡ strict_text u ++ flat_map strict_text us

first_is : (k : Kind) (u : StrictUnit) (us : List StrictUnit) (t : List ℕ) → AreUnits k (u ∷ us) t → FirstIs k u us t
first_is k u us t a =
    let p = and_parts (is_strict_unit k u) (list_all (is_strict_unit k) us) a.each in
    let s = stands k u p.0 in
    let rest : List ℕ = flat_map strict_text us in
    record {
      value = unit_value k s.unit;
      value_is = s.value_is;
      read = ap (unit_at k) (a.inside_is ∙ ap (λ z. z ++ rest) (sym s.text_is))
          ∙ unit_complete k s.unit rest s.is_unit (s.ends_before rest (may_follow k u us p.1 a.blanks_end));
      is_unit = p.0;
      left = record { each = p.1; blanks_end = blanks_after u us a.blanks_end; inside_is = refl };
      text_is = a.inside_is;
    }

pub digit_ascii : (v : List ℕ) → first_passes is_ascii_digit v ≡ is_ascii_digit (ascii_in v)
digit_ascii [] = refl
digit_ascii (n ∷ ns) =
    elim (cases_lt n 128) [
      | inl low ↦ ap is_ascii_digit (sym ((alone_of n).low low))
      | inr high ↦ false_unless (is_ascii_digit n) (λ d. no_digit n high d)
          ∙ ap is_ascii_digit (sym ((alone_of n).high high))
    ]
  where
    no_digit : (n : ℕ) → 128 ≤ n → is_ascii_digit n ≡ true → ⊥
    no_digit n high d = grind (arith, nat_tests)

-- The UTF-8 bytes of a character begin with an ASCII digit if and only if the character is an ASCII digit.
pub digit_bytes : (c : ℕ) → is_ascii_digit c ≡ is_ascii_digit (ascii_in (encode_utf8_all (c ∷ [])))
digit_bytes c = digit_ascii (c ∷ []) ∙ ap is_ascii_digit (elim (cases_lt c 128) [
  | inl low ↦ (alone_of c).low low ∙ sym ((bytes_of c).low low)
  | inr high ↦ (alone_of c).high high ∙ sym ((bytes_of c).high high)
])

-- The code and the definition determine whether the next character or escape represents a digit. The code uses the text, and
-- the definition the sequence of characters and escapes. The two results are equal.
pub follows_is : (k : Kind) (us : List StrictUnit) (t : List ℕ) → AreUnits k us t
    → digit_follows k us ≡ represents_digit (unit_at k t)
follows_is k [] t a = sym (ap represents_digit (ap (unit_at k) a.inside_is ∙ unit_nil k))
follows_is k (u ∷ us) t a =
    let f = first_is k u us t a in
    ap (first_passes is_ascii_digit) (sym f.value_is) ∙ digit_ascii f.value ∙ sym (ap represents_digit f.read)

-- If two sequences of characters and escapes have equal texts, their new texts are equal.
pub texts_once : (style : Style) (k : Kind) (us vs : List StrictUnit) (t : List ℕ) → AreUnits k us t → AreUnits k vs t
    → flat_map strict_text (restyled_units style k us) ≡ flat_map strict_text (restyled_units style k vs)
texts_once style k [] [] t a b = refl
texts_once style k [] (v ∷ vs) t a b =
    let g = first_is k v vs t b in
    absurd (let none : None ≡ Some (g.value, flat_map strict_text vs) = sym (ap (unit_at k) a.inside_is ∙ unit_nil k)
    ∙ g.read in cc)
texts_once style k (u ∷ us) [] t a b =
    let f = first_is k u us t a in
    absurd (let none : None ≡ Some (f.value, flat_map strict_text us) = sym (ap (unit_at k) b.inside_is ∙ unit_nil k)
    ∙ f.read in cc)
texts_once style k (u ∷ us) (v ∷ vs) t a b =
    let f = first_is k u us t a in
    let g = first_is k v vs t b in
    let read = some_pair (f.value, flat_map strict_text us) (g.value, flat_map strict_text vs) (sym f.read ∙ g.read) in
    let rest : flat_map strict_text us ≡ flat_map strict_text vs = read.1 in
    let value : ascii_in (strict_contents (strict_content_of k) u) ≡ ascii_in
    (strict_contents (strict_content_of k) v) = ap ascii_in (sym f.value_is ∙ read.0 ∙ g.value_is) in
    let text : strict_text u ≡ strict_text v = append_cancel_right (strict_text u) (strict_text v)
    (flat_map strict_text us)
    (sym f.text_is ∙ g.text_is ∙ ap (λ z. strict_text v ++ z) (sym rest)) in
    let x : Bool = not (digit_follows k us) in
    let z : Bool = not (digit_follows k vs) in
    let same : x ≡ z = ap not (follows_is k us (flat_map strict_text us) f.left
    ∙ ap (λ t. represents_digit (unit_at k t)) rest ∙ sym (follows_is k vs (flat_map strict_text vs) g.left)) in
    let one : strict_text (restyled style k x u) ≡ strict_text (restyled style k z v) =
    sym (unit_restyled style k x u f.is_unit)
    ∙ ap (restyled_text style k (lettered x (ascii_in (strict_contents (strict_content_of k) u)))) text
    ∙ ap (λ n. restyled_text style k (lettered x n) (strict_text v)) value
    ∙ ap (λ x. restyled_text style k (lettered x (ascii_in (strict_contents (strict_content_of k) v))) (strict_text v))
    same ∙ unit_restyled style k z v g.is_unit in
    ap (λ z. z ++ flat_map strict_text (restyled_units style k us)) one
    ∙ ap (λ t. strict_text (restyled style k z v) ++ t) (texts_once style k us vs (flat_map strict_text us) f.left
    (subst (AreUnits k vs) (sym rest) g.left))

-- The new text of the characters and escapes in the first list. The characters and escapes in the list `left` follow them in
-- the literal.
abbrev pub text_before : Style → Kind → List StrictUnit → List StrictUnit → List ℕ
text_before style k [] left = []
text_before style k (u ∷ us) left =
    strict_text (restyled style k (not (digit_follows k (us ++ left))) u) ++ text_before style k us left

before_more : (style : Style) (k : Kind) (us : List StrictUnit) (u : StrictUnit) (left : List StrictUnit)
    → text_before style k (us ++ (u ∷ [])) left
    ≡ text_before style k us (u ∷ left) ++ strict_text (restyled style k (not (digit_follows k left)) u)
before_more style k [] u left = append-nil (strict_text (restyled style k (not (digit_follows k left)) u))
before_more style k (v ∷ us) u left =
    let one : StrictUnit = restyled style k (not (digit_follows k (us ++ (u ∷ left)))) v in
    ap (λ vs. strict_text (restyled style k (not (digit_follows k vs)) v) ++ text_before style k (us ++ (u ∷ [])) left)
    (append_assoc us (u ∷ []) left)
    ∙ ap (λ z. strict_text one ++ z) (before_more style k us u left)
    ∙ sym (append_assoc (strict_text one) (text_before style k us (u ∷ left))
    (strict_text (restyled style k (not (digit_follows k left)) u)))

before_none : (style : Style) (k : Kind) (us : List StrictUnit)
    → text_before style k us [] ≡ flat_map strict_text (restyled_units style k us)
before_none style k [] = refl
before_none style k (u ∷ us) =
    ap (λ vs. strict_text (restyled style k (not (digit_follows k vs)) u) ++ text_before style k us []) (append-nil us)
    ∙ ap (λ z. strict_text (restyled style k (not (digit_follows k us)) u) ++ z) (before_none style k us)

pub record UnitsPassed (style : Style) (k : Kind) (us : List StrictUnit) (rest out front : List ℕ) : Type 0 where
  pub done : List StrictUnit
  pub left : List StrictUnit
  pub units_are : us ≡ done ++ left
  pub left_are : AreUnits k left rest
  pub out_is : out ≡ front ++ encode_utf8_all (text_before style k done left)

pub passed_step : (style : Style) (k : Kind) (us : List StrictUnit) (rest v piece after out new front : List ℕ)
    → UnitsPassed style k us rest out front → Some (v, after) ≡ unit_at k rest → rest ≡ piece ++ after
    → new ≡ out ++ encode_utf8_all (restyled_text style k
    (lettered (not (represents_digit (unit_at k after))) (ascii_in v)) piece) → UnitsPassed style k us after new front
passed_step style k us rest v piece after out new front p e cut w = go p.left p.units_are p.left_are p.out_is
  where
    go : (left : List StrictUnit) → us ≡ p.done ++ left → AreUnits k left rest
        → out ≡ front ++ encode_utf8_all (text_before style k p.done left) → UnitsPassed style k us after new front
    go [] are a out_is = absurd (let none : Some (v, after) ≡ None = e ∙ ap (unit_at k) a.inside_is ∙ unit_nil k in cc)
    go (u ∷ left) are a out_is =
        let f = first_is k u left rest a in
        let same = some_pair (v, after) (f.value, flat_map strict_text left) (e ∙ f.read) in
        let rest_is : after ≡ flat_map strict_text left = same.1 in
        let is : piece ≡ strict_text u = append_cancel_right piece (strict_text u) after (sym cut ∙ f.text_is
        ∙ ap (λ z. strict_text u ++ z) (sym rest_is)) in
        let left_are : AreUnits k left after = subst (λ z. AreUnits k left z) (sym rest_is) f.left in
        let z : Bool = not (digit_follows k left) in
        let follows : not (represents_digit (unit_at k after)) ≡ z = ap not (sym (follows_is k left after left_are)) in
        let old : List ℕ = text_before style k p.done (u ∷ left) in
        let one : List ℕ = strict_text (restyled style k z u) in
        record {
          done = p.done ++ (u ∷ []);
          left = left;
          units_are = are ∙ sym (append_assoc p.done (u ∷ []) left);
          left_are = left_are;
          out_is = w ∙ ap (λ t. out ++ encode_utf8_all t) (ap (λ b. restyled_text style k (lettered b (ascii_in v))
              piece) follows
              ∙ ap (restyled_text style k (lettered z (ascii_in v))) is
              ∙ ap (λ n. restyled_text style k (lettered z (ascii_in n)) (strict_text u)) (same.0 ∙ f.value_is)
              ∙ unit_restyled style k z u f.is_unit)
              ∙ ap (λ t. t ++ encode_utf8_all one) out_is ∙ append_assoc front (encode_utf8_all old)
              (encode_utf8_all one)
              ∙ ap (λ t. front ++ t) (sym (encodes-append old one) ∙ ap encode_utf8_all
              (sym (before_more style k p.done u left)));
        }

pub passed_end : (style : Style) (k : Kind) (us : List StrictUnit) (rest out front : List ℕ)
    → UnitsPassed style k us rest out front → unit_at k rest ≡ None
    → out ≡ front ++ encode_utf8_all (flat_map strict_text (restyled_units style k us))
passed_end style k us rest out front p e = go p.left p.units_are p.left_are p.out_is
  where
    go : (left : List StrictUnit) → us ≡ p.done ++ left → AreUnits k left rest
        → out ≡ front ++ encode_utf8_all (text_before style k p.done left)
        → out ≡ front ++ encode_utf8_all (flat_map strict_text (restyled_units style k us))
    go [] are a out_is = out_is ∙ ap (λ z. front ++ encode_utf8_all z) (before_none style k p.done
        ∙ ap (λ z. flat_map strict_text (restyled_units style k z)) (sym (are ∙ append-nil p.done)))
    go (u ∷ left) are a out_is =
        let f = first_is k u left rest a in
        absurd (let none : None ≡ Some (f.value, flat_map strict_text left) = sym e ∙ f.read in cc)
