-- A quoted literal has at most one parse result of each form: with escapes, raw, or as a single character or byte.
use Rattle.rl_syntax.proofs.Common.{◌≡◌, ℕ, zero, suc, ◌||◌, ◌&&◌, Bool, true, false, not, cond, eqb, List, [], ◌∷◌, ◌++◌, replicate, Option, Some, None, refl, sym, ap, subst, ◌∙◌, inl, inr, append_assoc, list_all, AllByRecursion, list_all-append, eqb-true, and_parts, or_cases}
use Rattle.std.proofs.lemmas.Bool.{and_left, and_right}
use Rattle.rl_syntax.specs.declared.kind.Kind.{Kind}
use Rattle.rl_syntax.specs.declared.kind.Kind.TheVariants.{Str, ByteStr, CStr, Byte, Char}
use Rattle.rl_syntax.specs.Texts.{first_passes, is_underscore, is_blank}
use Rattle.rl_syntax.specs.Quoted.{QuotedUnit, Letter, Plain, CrLf, Named, Hex, Unicode, Continuation, LowerN, LowerR, LowerT, Backslash, Apostrophe, Quote, Zero, letter_value, letter_text, unit_text, unit_value, unicode_value, content_of, hex_value, is_hex_digit, is_line_end, is_string, is_plain, IsUnit, texts, values, EndsBefore, ContinuationsEnd, opener, raw_opener, Cooked, Raw, Single}
use Rattle.rl_syntax.proofs.Basics.{hashes_all, apart}
use Rattle.rl_syntax.proofs.StrictNumbers.{same_run}

-- ---- the unit at the start of a text

abbrev after_blanks : List ℕ → List ℕ
after_blanks [] = []
after_blanks (c ∷ cs) = cond (is_blank c) (after_blanks cs) (c ∷ cs)

abbrev before_brace : List ℕ → List ℕ
before_brace [] = []
before_brace (c ∷ cs) = cond (eqb c 125) [] (c ∷ before_brace cs)

abbrev after_brace : List ℕ → List ℕ
after_brace [] = []
after_brace (c ∷ cs) = cond (eqb c 125) cs (after_brace cs)

abbrev named_value : ℕ → ℕ
named_value c = cond (eqb c 110) 10 (cond (eqb c 114) 13 (cond (eqb c 116) 9 (cond (eqb c 48) 0 c)))

abbrev Found : Type 0
Found = Option (List ℕ × List ℕ)

abbrev found : List ℕ → List ℕ → Found
found v r = Some (v, r)

abbrev hex_at : List ℕ → Found
hex_at (h ∷ l ∷ r) = found (hex_value h l ∷ []) r
hex_at _ = None

abbrev unicode_at : Kind → List ℕ → Found
unicode_at k (b ∷ first ∷ cs) = found (content_of k (unicode_value first (before_brace cs) ∷ [])) (after_brace cs)
unicode_at k _ = None

abbrev escape_at : Kind → List ℕ → Found
escape_at k [] = None
escape_at k (c ∷ cs) = cond (eqb c 120) (hex_at cs) (cond (eqb c 117) (unicode_at k cs)
    (cond (is_line_end c) (found [] (after_blanks cs)) (found (named_value c ∷ []) cs)))

abbrev line_feed_at : List ℕ → Found
line_feed_at [] = None
line_feed_at (c ∷ cs) = found (10 ∷ []) cs

abbrev unit_at : Kind → List ℕ → Found
unit_at k [] = None
unit_at k (c ∷ cs) = cond (eqb c 92) (escape_at k cs) (cond (eqb c 13 && is_string k) (line_feed_at cs)
    (cond (eqb c 34 && is_string k) None (found (content_of k (c ∷ [])) cs)))

pub record PlainFacts (k : Kind) (c : ℕ) : Type 0 where
  pub no_backslash : eqb c 92 ≡ false
  pub no_return : (eqb c 13 && is_string k) ≡ false
  pub no_quote : (eqb c 34 && is_string k) ≡ false

plain_facts : (k : Kind) (c : ℕ) → is_plain k c ≡ true → PlainFacts k c
plain_facts Str c h = record { no_backslash = apart (is_plain Str) c 92 h refl; no_return = and_left _ true (apart (is_plain Str) c 13 h refl); no_quote = and_left _ true (apart (is_plain Str) c 34 h refl) }
plain_facts ByteStr c h = record { no_backslash = apart (is_plain ByteStr) c 92 h refl; no_return = and_left _ true (apart (is_plain ByteStr) c 13 h refl); no_quote = and_left _ true (apart (is_plain ByteStr) c 34 h refl) }
plain_facts CStr c h = record { no_backslash = apart (is_plain CStr) c 92 h refl; no_return = and_left _ true (apart (is_plain CStr) c 13 h refl); no_quote = and_left _ true (apart (is_plain CStr) c 34 h refl) }
plain_facts Char c h = record { no_backslash = apart (is_plain Char) c 92 h refl; no_return = and_right _ false refl; no_quote = and_right _ false refl }
plain_facts Byte c h = record { no_backslash = apart (is_plain Byte) c 92 h refl; no_return = and_right _ false refl; no_quote = and_right _ false refl }
plain_facts kind c h = absurd (cc)

plain_at : (k : Kind) (c : ℕ) (r : List ℕ) → is_plain k c ≡ true → unit_at k (c ∷ r) ≡ found (content_of k (c ∷ [])) r
plain_at k c r h =
    let f = plain_facts k c h in
    let a = f.no_backslash in
    let b = f.no_return in
    let d = f.no_quote in
    rw (a, b, d) refl

crlf_at : (k : Kind) (r : List ℕ) → is_string k ≡ true → unit_at k (13 ∷ 10 ∷ r) ≡ found (10 ∷ []) r
crlf_at k r h = ap (λ b. cond b (found (10 ∷ []) r) (found (content_of k (13 ∷ [])) (10 ∷ r))) h

named_at : (k : Kind) (l : Letter) (r : List ℕ) → unit_at k (92 ∷ letter_text l ∷ r) ≡ found (letter_value l ∷ []) r
named_at k LowerN r = refl
named_at k LowerR r = refl
named_at k LowerT r = refl
named_at k Backslash r = refl
named_at k Apostrophe r = refl
named_at k Quote r = refl
named_at k Zero r = refl

abbrev is_more : ℕ → Bool
is_more c = is_underscore c || is_hex_digit c

before_at : (more r : List ℕ) → list_all is_more more ≡ true → before_brace (more ++ (125 ∷ r)) ≡ more
before_at [] r h = refl
before_at (c ∷ more) r h =
    let p = and_parts (is_more c) (list_all is_more more) h in
    ap (λ b. cond b [] (c ∷ before_brace (more ++ (125 ∷ r)))) (apart is_more c 125 p.0 refl)
    ∙ ap (λ z. c ∷ z) (before_at more r p.1)

after_at : (more r : List ℕ) → list_all is_more more ≡ true → after_brace (more ++ (125 ∷ r)) ≡ r
after_at [] r h = refl
after_at (c ∷ more) r h =
    let p = and_parts (is_more c) (list_all is_more more) h in
    ap (λ b. cond b (more ++ (125 ∷ r)) (after_brace (more ++ (125 ∷ r)))) (apart is_more c 125 p.0 refl)
    ∙ after_at more r p.1

unicode_found : (k : Kind) (first : ℕ) (more r : List ℕ) → list_all is_more more ≡ true
    → unit_at k ((92 ∷ 117 ∷ 123 ∷ first ∷ (more ++ (125 ∷ []))) ++ r)
    ≡ found (content_of k (unicode_value first more ∷ [])) r
unicode_found k first more r h =
    let text : (more ++ (125 ∷ [])) ++ r ≡ more ++ (125 ∷ r) = append_assoc more (125 ∷ []) r in
    ap (λ z. unit_at k (92 ∷ 117 ∷ 123 ∷ first ∷ z)) text
    ∙ ap (λ z. found (content_of k (unicode_value first z ∷ [])) (after_brace (more ++ (125 ∷ r)))) (before_at more r h)
    ∙ ap (λ z. found (content_of k (unicode_value first more ∷ [])) z) (after_at more r h)

blanks_past : (run r : List ℕ) → list_all is_blank run ≡ true → first_passes is_blank r ≡ false
    → after_blanks (run ++ r) ≡ r
blanks_past [] [] h e = refl
blanks_past [] (c ∷ r) h e = ap (λ b. cond b (after_blanks r) (c ∷ r)) e
blanks_past (c ∷ run) r h e =
    let p = and_parts (is_blank c) (list_all is_blank run) h in
    ap (λ b. cond b (after_blanks (run ++ r)) (c ∷ (run ++ r))) p.0 ∙ blanks_past run r p.1 e

continuation_at : (k : Kind) (c : ℕ) (run r : List ℕ) → is_line_end c ≡ true → list_all is_blank run ≡ true
    → first_passes is_blank r ≡ false → unit_at k (92 ∷ c ∷ (run ++ r)) ≡ found [] r
continuation_at k c run r l h e =
    let At : ℕ → Type 0 = λ x. unit_at k (92 ∷ x ∷ (run ++ r)) ≡ found [] r in
    let skipped : found [] (after_blanks (run ++ r)) ≡ found [] r = ap (λ z. found [] z) (blanks_past run r h e) in
    elim (or_cases (eqb c 10) (eqb c 13) l) [
      | inl a ↦ subst At (sym (eqb-true c 10 a)) skipped
      | inr a ↦ subst At (sym (eqb-true c 13 a)) skipped
    ]

pub unit_complete : (k : Kind) (u : QuotedUnit) (r : List ℕ) → IsUnit k u → EndsBefore u r
    → unit_at k (unit_text u ++ r) ≡ found (unit_value k u) r
unit_complete k (Plain c) r h e = plain_at k c r h
unit_complete k CrLf r h e = crlf_at k r h
unit_complete k (Named l) r h e = named_at k l r
unit_complete k (Hex high low) r h e = refl
unit_complete k (Unicode first more) r h e = unicode_found k first more r h.2
unit_complete k (Continuation c run) r h e = continuation_at k c run r h.1 h.2 e

some_pair : {A B : Type 0} (p q : A × B) → Some p ≡ Some q → (p.0 ≡ q.0) × (p.1 ≡ q.1)
some_pair p q h = let e : p ≡ q = cc in (ap (λ x. x.0) e, ap (λ x. x.1) e)

-- ---- sequences of characters and escapes

blank_on : (t x : List ℕ) → first_passes is_blank t ≡ false → first_passes is_blank (t ++ (34 ∷ x)) ≡ false
blank_on [] x h = refl
blank_on (c ∷ t) x h = h

ends_on : (u : QuotedUnit) (t x : List ℕ) → EndsBefore u t → EndsBefore u (t ++ (34 ∷ x))
ends_on (Continuation c run) t x h = blank_on t x h
ends_on (Plain c) t x h = h
ends_on CrLf t x h = h
ends_on (Named l) t x h = h
ends_on (Hex high low) t x h = h
ends_on (Unicode first more) t x h = h

first_unit : (k : Kind) (u : QuotedUnit) (us : List QuotedUnit) (x : List ℕ) → AllByRecursion (IsUnit k) (u ∷ us)
    → ContinuationsEnd (u ∷ us) → unit_at k (texts (u ∷ us) ++ (34 ∷ x)) ≡ found (unit_value k u) (texts us ++ (34 ∷ x))
first_unit k u us x each ends =
    ap (unit_at k) (append_assoc (unit_text u) (texts us) (34 ∷ x))
    ∙ unit_complete k u (texts us ++ (34 ∷ x)) each.0 (ends_on u (texts us) x ends.0)

quote_none : (k : Kind) (x : List ℕ) → is_string k ≡ true → unit_at k (34 ∷ x) ≡ None
quote_none k x h = ap (λ b. cond b None (found (content_of k (34 ∷ [])) x)) h

rows_same : (k : Kind) (us ws : List QuotedUnit) (x y : List ℕ) → is_string k ≡ true → AllByRecursion (IsUnit k) us
    → ContinuationsEnd us → AllByRecursion (IsUnit k) ws → ContinuationsEnd ws → texts us ++ (34 ∷ x) ≡ texts ws
    ++ (34 ∷ y) → (values k us ≡ values k ws) × (x ≡ y)
rows_same k [] [] x y s eu cu ew cw e = (refl, cc)
rows_same k [] (w ∷ ws) x y s eu cu ew cw e =
    let h : None ≡ found (unit_value k w) (texts ws ++ (34 ∷ y)) = sym (quote_none k x s) ∙ ap (unit_at k) e
    ∙ first_unit k w ws y ew cw in absurd (cc)
rows_same k (u ∷ us) [] x y s eu cu ew cw e =
    let h : None ≡ found (unit_value k u) (texts us ++ (34 ∷ x)) = sym (quote_none k y s) ∙ ap (unit_at k) (sym e)
    ∙ first_unit k u us x eu cu in absurd (cc)
rows_same k (u ∷ us) (w ∷ ws) x y s eu cu ew cw e =
    let f = some_pair (unit_value k u, texts us ++ (34 ∷ x)) (unit_value k w, texts ws ++ (34 ∷ y))
    (sym (first_unit k u us x eu cu) ∙ ap (unit_at k) e ∙ first_unit k w ws y ew cw) in
    let r = rows_same k us ws x y s eu.1 cu.1 ew.1 cw.1 f.1 in
    (ap (λ z. z ++ values k us) f.0 ∙ ap (λ z. unit_value k w ++ z) r.0, r.1)

pub same_tail : (a b d : List ℕ) → a ++ b ≡ a ++ d → b ≡ d
same_tail [] b d e = e
same_tail (c ∷ a) b d e = same_tail a b d (let e = e in cc)

pub cooked_once : (k : Kind) (t v x w y : List ℕ) → Cooked k t v x → Cooked k t w y → (v ≡ w) × (x ≡ y)
cooked_once k t v x w y a b =
    let r = rows_same k a.units b.units x y a.string a.each a.ends b.each b.ends
    (same_tail (opener k) _ _ (sym a.text_is ∙ b.text_is)) in
    (a.value_is ∙ r.0 ∙ sym b.value_is, r.1)

single_found : (k : Kind) (u : QuotedUnit) (x : List ℕ) → IsUnit k u → unit_at k (unit_text u ++ (39 ∷ x))
    ≡ found (unit_value k u) (39 ∷ x)
single_found k (Plain c) x h = unit_complete k (Plain c) (39 ∷ x) h tt
single_found k CrLf x h = unit_complete k CrLf (39 ∷ x) h tt
single_found k (Named l) x h = unit_complete k (Named l) (39 ∷ x) h tt
single_found k (Hex high low) x h = unit_complete k (Hex high low) (39 ∷ x) h tt
single_found k (Unicode first more) x h = unit_complete k (Unicode first more) (39 ∷ x) h tt
single_found k (Continuation c run) x h = unit_complete k (Continuation c run) (39 ∷ x) h refl

pub single_once : (k : Kind) (t v x w y : List ℕ) → Single k t v x → Single k t w y → (v ≡ w) × (x ≡ y)
single_once k t v x w y a b =
    let e = same_tail (opener k) (unit_text a.unit ++ (39 ∷ x)) (unit_text b.unit ++ (39 ∷ y))
    (sym a.text_is ∙ b.text_is) in
    let f = some_pair (unit_value k a.unit, 39 ∷ x) (unit_value k b.unit, 39 ∷ y)
    (sym (single_found k a.unit x a.is_unit) ∙ ap (unit_at k) e ∙ single_found k b.unit y b.is_unit) in
    let g : 39 ∷ x ≡ 39 ∷ y = f.1 in
    (a.value_is ∙ f.0 ∙ sym b.value_is, cc)

-- ---- raw strings

abbrev no_quote : ℕ → Bool
no_quote c = not (eqb c 34)

quote_inside : (p b q : List ℕ) → list_all no_quote p ≡ true → p ≡ b ++ (34 ∷ q) → ⊥
quote_inside p b q h e =
    let r = and_parts (list_all no_quote b) (list_all no_quote (34 ∷ q))
    (sym (list_all-append no_quote b (34 ∷ q)) ∙ ap (list_all no_quote) (sym e) ∙ h) in
    let f : false ≡ true = r.1 in
    absurd (cc)

last_same : (a b p q : List ℕ) → list_all no_quote p ≡ true → list_all no_quote q ≡ true → a ++ (34 ∷ p) ≡ b ++ (34 ∷ q)
    → (a ≡ b) × (p ≡ q)
last_same [] [] p q hp hq e = (refl, cc)
last_same [] (c ∷ b) p q hp hq e = absurd (quote_inside p b q hp (let e = e in cc))
last_same (c ∷ a) [] p q hp hq e = absurd (quote_inside q a p hq (let e = e in cc))
last_same (c ∷ a) (d ∷ b) p q hp hq e =
    let head : c ≡ d = cc in
    let tail : a ++ (34 ∷ p) ≡ b ++ (34 ∷ q) = cc in
    let r = last_same a b p q hp hq tail in
    (let e = r.0 in cc, r.1)

hashes_no_quote : (n : ℕ) (x : List ℕ) → list_all no_quote x ≡ true → list_all no_quote (replicate n 35 ++ x) ≡ true
hashes_no_quote zero x h = h
hashes_no_quote (suc n) x h = hashes_no_quote n x h

pub raw_once : (k : Kind) (t v x w y : List ℕ) → Raw k t v x → Raw k t w y → (v ≡ w) × (x ≡ y)
raw_once k t v x w y a b =
    let e = same_tail (raw_opener k) _ _ (sym a.text_is ∙ b.text_is) in
    let ra = a.inside ++ (34 ∷ (replicate a.hashes 35 ++ x)) in
    let rb = b.inside ++ (34 ∷ (replicate b.hashes 35 ++ y)) in
    let f = same_run (λ c. eqb c 35) (replicate a.hashes 35) (replicate b.hashes 35) (34 ∷ ra) (34 ∷ rb)
    (hashes_all a.hashes) (hashes_all b.hashes) refl refl e in
    let g : 34 ∷ ra ≡ 34 ∷ rb = f.1 in
    let inner : ra ≡ rb = cc in
    let l = last_same a.inside b.inside (replicate a.hashes 35 ++ x) (replicate b.hashes 35 ++ y)
    (hashes_no_quote a.hashes x a.no_quote) (hashes_no_quote b.hashes y b.no_quote) inner in (
      a.value_is ∙ ap (content_of k) l.0 ∙ sym b.value_is,
      same_tail (replicate a.hashes 35) x y (l.1 ∙ ap (λ z. z ++ y) (sym f.0)),
    )
