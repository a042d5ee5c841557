-- A rewritten literal is one token if the old literal is one token. The token before the literal is lexed as before.
use Rattle.rl_syntax.proofs.Common.{◌≡◌, ℕ, ◌≤◌, ◌⊎◌, nat_lt, digit_value, ◌||◌, inl, inr, Bool, true, false, not, ◌==◌, cond, length, lit<, List, [], ◌∷◌, ◌++◌, Some, refl, sym, ◌∙◌, ap, subst, arith, append_assoc, and_from, and_parts, codes, list_all, list_all-append, is_ascii_digit}
use Rattle.rl_syntax.specs.Texts.{first_passes, is_among, is_continue, is_run_part, is_start}
use Rattle.rl_syntax.specs.Classes.{after_run}
use Rattle.rl_syntax.specs.declared.kind.Kind.{Kind}
use Rattle.rl_syntax.specs.declared.kind.Kind.TheVariants.{Str, ByteStr, CStr, Byte, Char, Int, Float, Bool as BoolKind}
use Rattle.rl_syntax.specs.Reading.{Contents}
use Rattle.rl_syntax.specs.Strict.{BasedPrefix, IsDecimalText, IsDigits, StrictCooked, StrictFloat, StrictInt, StrictRaw}
use Rattle.rl_lexer.specs.Lexemes.{LexemeForm, LiteralPrefix, NoPrefix, BytePrefix, CPrefix, QuotedLexeme, RawLexeme, CharacterLexeme, is_base_letter, lexeme_text}
use Rattle.rl_lexer.specs.Mirrors.LexemeAt.{after_decimal, after_lexed_exponent, after_suffix, lexeme_at}
use Rattle.rl_style.specs.declared.style.Style.{Style}
use Rattle.rl_style.specs.Around.{SameFront}
use Rattle.rl_style.specs.Rewriting.{Rewrites, RewritesCooked, RewritesRaw, StylesFloat, StylesInt, may_lose_r}
use Rattle.rl_style.proofs.Ends.{character_front, quoted_front, raw_front, unraw_front}
use Rattle.rl_style.proofs.LostRaw.{lost}
use Rattle.rl_style.proofs.Recut.{Begun}
use Rattle.rl_style.proofs.UnrawCuts.{unquoted}
use Rattle.rl_lexer.proofs.LexemeFronts.{start_ascii}
use Rattle.rl_style.proofs.Lexings.{DecimalForm, based_goes, character_goes, decimal_ends, decimal_goes, digits_gone, fraction_gone, pointed_power_ends, power_ends, quoted_goes, raw_goes, row_goes_on}
use Rattle.rl_lexer.proofs.LiteralEnds.{suffix_continues}
use Rattle.rl_lexer.proofs.QuotedLexemes.{SingleKind, StringKind, StringParts, byte_kind, byte_string_kind, c_string_kind, character_kind, raw_body, single_parts, string_kind, string_parts}
use Rattle.rl_style.proofs.SameFloats.{same_shape}
use Rattle.rl_style.proofs.FloatForms.{DotShape, FloatForm, FloatShape, PointShape, PowerShape, closed_shape, shape_of}
use Rattle.rl_style.proofs.SameFloats as floats
use Rattle.rl_style.proofs.SameIntegers as integers
use Rattle.rl_style.proofs.SameRaw as raws
use Rattle.rl_style.proofs.SameUnits as units

-- If the old text `t` is a token before the text `y`, the new text `u` is also a token before `y`. The old and the new text
-- begin alike.
pub record Replaces (t u y : List ℕ) : Type 0 where
  pub goes : (f : LexemeForm) → lexeme_at (t ++ y) ≡ Some (f, y) → lexeme_at (u ++ y) ≡ Some (f, y)
  pub front : (z : List ℕ) → SameFront (t ++ y) (u ++ z)

-- ---- a rewritten quoted literal is one token

-- If the old and the new literal are strings with escapes, and their kinds and suffixes are equal, the new literal may
-- replace the old one.
strings_replace : (k : Kind) (t u x y : List ℕ) (v w : Contents) → StringKind k → StrictCooked t k v x
    → StrictCooked u k w x → Replaces t u y
strings_replace k t u x y v w f a b =
    let p = string_parts k t x v f a in
    let q = string_parts k u x w f b in
    let old = ap (λ z. lexeme_at (z ++ y)) p.text_is ∙ quoted_goes f.before p.parts x y p.is_body in
    let new = ap (λ z. lexeme_at (z ++ y)) q.text_is ∙ quoted_goes f.before q.parts x y q.is_body in
    record {
      goes = λ g h. new ∙ sym old ∙ h;
      front = λ z. subst (λ s. SameFront (s ++ y) (u ++ z)) (sym p.text_is)
          (subst (λ s. SameFront (lexeme_text (QuotedLexeme f.before p.parts x) ++ y) (s ++ z)) (sym q.text_is)
          (quoted_front f.before p.parts q.parts x y z));
    }

singles_replace : (k : Kind) (t u x y : List ℕ) (v w : Contents) → SingleKind k → StrictCooked t k v x
    → StrictCooked u k w x → Replaces t u y
singles_replace k t u x y v w f a b =
    let p = single_parts k t x v f a in
    let q = single_parts k u x w f b in
    let old = ap (λ z. lexeme_at (z ++ y)) p.text_is ∙ character_goes f.is_byte p.inside x y p.is_body in
    let new = ap (λ z. lexeme_at (z ++ y)) q.text_is ∙ character_goes f.is_byte q.inside x y q.is_body in
    record {
      goes = λ g h. new ∙ sym old ∙ h;
      front = λ z. subst (λ s. SameFront (s ++ y) (u ++ z)) (sym p.text_is)
          (subst (λ s. SameFront (lexeme_text (CharacterLexeme f.is_byte p.inside x) ++ y) (s ++ z)) (sym q.text_is)
          (character_front f.is_byte p.inside q.inside x y z));
    }

pub cooked_replace : (k : Kind) (t u x y : List ℕ) (v w : Contents) → StrictCooked t k v x → StrictCooked u k w x
    → Replaces t u y
cooked_replace Str t u x y v w a b = strings_replace Str t u x y v w string_kind a b
cooked_replace ByteStr t u x y v w a b = strings_replace ByteStr t u x y v w byte_string_kind a b
cooked_replace CStr t u x y v w a b = strings_replace CStr t u x y v w c_string_kind a b
cooked_replace Byte t u x y v w a b = singles_replace Byte t u x y v w byte_kind a b
cooked_replace Char t u x y v w a b = singles_replace Char t u x y v w character_kind a b
cooked_replace Int t u x y v w a b = absurd a.count
cooked_replace Float t u x y v w a b = absurd a.count
cooked_replace BoolKind t u x y v w a b = absurd a.count

raws_replace : (p : LiteralPrefix) (k : Kind) (t u x y : List ℕ) (v w : Contents) → (a : StrictRaw t k v x)
    → (b : StrictRaw u k w x)
    → t ≡ lexeme_text (RawLexeme p a.hashes a.inside x) → u ≡ lexeme_text (RawLexeme p b.hashes b.inside x)
    → Replaces t u y
raws_replace p k t u x y v w a b e g =
    let old = ap (λ z. lexeme_at (z ++ y)) e ∙ raw_goes p a.hashes a.inside x y (raw_body a.hashes a.inside
    a.first_close) in
    let new = ap (λ z. lexeme_at (z ++ y)) g ∙ raw_goes p b.hashes b.inside x y (raw_body b.hashes b.inside
    b.first_close) in
    record {
      goes = λ f h. new ∙ sym old ∙ h;
      front = λ z. subst (λ s. SameFront (s ++ y) (u ++ z)) (sym e)
          (subst (λ s. SameFront (lexeme_text (RawLexeme p a.hashes a.inside x) ++ y) (s ++ z)) (sym g)
          (raw_front p a.hashes b.hashes a.inside b.inside x y z));
    }

raw_replace : (k : Kind) (t u x y : List ℕ) (v w : Contents) → StrictRaw t k v x → StrictRaw u k w x → Replaces t u y
raw_replace Str t u x y v w a b = raws_replace NoPrefix Str t u x y v w a b a.text b.text
raw_replace ByteStr t u x y v w a b = raws_replace BytePrefix ByteStr t u x y v w a b a.text b.text
raw_replace CStr t u x y v w a b = raws_replace CPrefix CStr t u x y v w a b a.text b.text
raw_replace Byte t u x y v w a b = absurd a.allowed
raw_replace Char t u x y v w a b = absurd a.allowed
raw_replace Int t u x y v w a b = absurd a.allowed
raw_replace Float t u x y v w a b = absurd a.allowed
raw_replace BoolKind t u x y v w a b = absurd a.allowed

-- ---- a rewritten number is one token

-- If the old and the new text begin with a decimal digit, they begin alike.
digits_front : (t u y z : List ℕ) (c d : ℕ) (m n : List ℕ) → t ≡ c ∷ m → u ≡ d ∷ n → is_ascii_digit c ≡ true
    → is_ascii_digit d ≡ true → SameFront (t ++ y) (u ++ z)
digits_front t u y z c d m n e g a b = record {
  front = [];
  head = c;
  new_head = d;
  old_rest = m ++ y;
  new_rest = n ++ z;
  is_head = ap (λ z. is_among (codes "\"'rbc") c || z) a ∙ or_true (is_among (codes "\"'rbc") c);
  same_head = inr (a, b);
  raw = λ r. absurd (let k : true ≡ false = sym a ∙ ap is_ascii_digit r in cc);
  old_is = ap (λ s. s ++ y) e;
  new_is = ap (λ s. s ++ z) g;
}
  where
    or_true : (b : Bool) → (b || true) ≡ true
    or_true true = refl
    or_true false = refl

-- The old text `t` and the new text `u` are decimal numbers, and the text `y` follows. If `u` is one token whenever `t` is
-- one token, `u` may replace `t`.
decimals_replace : (t u y : List ℕ) (s : DecimalForm t) (r : DecimalForm u)
    → (after_decimal (s.more ++ y) ≡ y → after_decimal (r.more ++ y) ≡ y) → Replaces t u y
decimals_replace t u y s r same = record {
  goes = λ f h. let p = decimal_ends t y f s h in decimal_goes u y f r p.0 (same p.1);
  front = λ z. digits_front t u y z s.digit r.digit s.more r.more s.text_is r.text_is s.is_digit r.is_digit;
}

-- The text `t` begins with a sequence of digits and underscores, and continues with the text `z`.
record DigitsThen (run z t : List ℕ) : Type 0 where
  form : DecimalForm t
  rest : List ℕ
  each : list_all (is_run_part is_ascii_digit) rest ≡ true
  more_is : form.more ≡ rest ++ z

digits_then : (run z t : List ℕ) → IsDigits run → IsDecimalText t → t ≡ run ++ z → DigitsThen run z t
digits_then [] z t (first, each) is e = absurd (cc)
digits_then (d ∷ run) z t (first, each) is e = record {
  form = record { digit = d; more = run ++ z; is_digit = first; is_decimal = subst IsDecimalText e is; text_is = e };
  rest = run;
  each = (and_parts (is_run_part is_ascii_digit d) (list_all (is_run_part is_ascii_digit) run) each).1;
  more_is = refl;
}

-- A decimal integer is a sequence of digits and the suffix after it.
ten_then : (t x : List ℕ) (v : Contents) (s : StrictInt t v x) → s.prefix ≡ [] → IsDigits s.run → IsDecimalText t
    → DigitsThen s.run x t
ten_then t x v s none digits is = digits_then s.run x t digits is (s.text ∙ ap (λ z. (z ++ s.run) ++ x) none)

ten_end : (run x t y : List ℕ) → (d : DigitsThen run x t) → after_decimal (d.form.more ++ y) ≡ after_decimal (x ++ y)
ten_end run x t y d = ap (λ z. after_decimal (z ++ y)) d.more_is ∙ ap after_decimal (append_assoc d.rest x y)
    ∙ digits_gone d.rest (x ++ y) d.each

-- The text of an integer with a base prefix, in parts.
record Based (t x : List ℕ) (prefix : List ℕ) : Type 0 where
  letter : ℕ
  digits : List ℕ
  is_letter : is_base_letter letter ≡ true
  each : list_all is_continue digits ≡ true
  text_is : t ≡ 48 ∷ letter ∷ digits
  prefix_is : prefix ≡ 48 ∷ letter ∷ []

based : (letter n : ℕ) (t x : List ℕ) (v : Contents) (s : StrictInt t v x) → s.prefix ≡ 48 ∷ letter ∷ [] → s.base ≡ n
    → n ≤ 16 → is_base_letter letter ≡ true → Based t x s.prefix
based letter n t x v s front base few is =
    let run = row_goes_on n s.run few (subst (λ (k : ℕ). list_all (is_run_part (λ d. nat_lt (digit_value d) k)) s.run
    ≡ true) base s.each) in
    record {
      letter = letter;
      digits = s.run ++ x;
      is_letter = is;
      each = list_all-append is_continue s.run x ∙ and_from _ _ run (suffix_continues x s.suffix.0);
      text_is = s.text ∙ ap (λ z. (z ++ s.run) ++ x) front;
      prefix_is = front;
    }

each_based : (t x : List ℕ) (v : Contents) (s : StrictInt t v x) → BasedPrefix s.prefix s.base → Based t x s.prefix
each_based t x v s (inl g) = based 98 2 t x v s g.0 g.1 (omega arith) refl
each_based t x v s (inr (inl g)) = based 111 8 t x v s g.0 g.1 (omega arith) refl
each_based t x v s (inr (inr g)) = based 120 16 t x v s g.0 g.1 (omega arith) refl

not_ten : (prefix : List ℕ) (base : ℕ) → BasedPrefix prefix base → base ≡ 10 → ⊥
not_ten prefix base (inl g) e = let b = g.1 in absurd (omega (arith, b, e))
not_ten prefix base (inr (inl g)) e = let b = g.1 in absurd (omega (arith, b, e))
not_ten prefix base (inr (inr g)) e = let b = g.1 in absurd (omega (arith, b, e))

based_replace : (t u x y p q : List ℕ) → Based t x p → Based u x q → Replaces t u y
based_replace t u x y p q a b =
    let old = ap (λ z. lexeme_at (z ++ y)) a.text_is ∙ based_goes a.letter a.digits y a.is_letter a.each in
    let new = ap (λ z. lexeme_at (z ++ y)) b.text_is ∙ based_goes b.letter b.digits y b.is_letter b.each in
    record {
      goes = λ f h. new ∙ sym old ∙ h;
      front = λ z. digits_front t u y z 48 48 (a.letter ∷ a.digits) (b.letter ∷ b.digits) a.text_is b.text_is refl refl;
    }

pub integers_replace : (t u x y : List ℕ) (v w : Contents) (a : StrictInt t v x) (b : StrictInt u w x)
    → b.base ≡ a.base → Replaces t u y
integers_replace t u x y v w a b same = go a.is_front b.is_front
  where
    go : ((a.prefix ≡ []) × (a.base ≡ 10) × IsDigits a.run × IsDecimalText t) ⊎ BasedPrefix a.prefix a.base
        → ((b.prefix ≡ []) × (b.base ≡ 10) × IsDigits b.run × IsDecimalText u) ⊎ BasedPrefix b.prefix b.base
        → Replaces t u y
    go (inl f) (inl g) =
        let d = ten_then t x v a f.0 f.2 f.3 in
        let e = ten_then u x w b g.0 g.2 g.3 in
        decimals_replace t u y d.form e.form (λ h. ten_end b.run x u y e ∙ sym (ten_end a.run x t y d) ∙ h)
    go (inr f) (inr g) = based_replace t u x y a.prefix b.prefix (each_based t x v a f) (each_based u x w b g)
    go (inl f) (inr g) = absurd (not_ten b.prefix b.base g (same ∙ f.1))
    go (inr f) (inl g) = absurd (not_ten a.prefix a.base f (sym same ∙ g.1))

-- The text `z` follows a float of the form `shape`, which ends with a dot, with a dot and digits, or with an exponent.
-- Returns the text that remains after the lexer has read the number.
abbrev shape_end : FloatShape → List ℕ → List ℕ
shape_end DotShape z = after_decimal (46 ∷ z)
shape_end PointShape z = after_suffix (after_lexed_exponent (after_run (is_run_part is_ascii_digit) z))
shape_end PowerShape z = after_suffix (after_run (is_run_part is_ascii_digit) z)

record FloatParts (t x : List ℕ) (shape : FloatShape) : Type 0 where
  form : DecimalForm t
  ends : (y : List ℕ) → after_decimal (form.more ++ y) ≡ shape_end shape (x ++ y)

float_parts : (t x : List ℕ) (v : Contents) (s : StrictFloat t v x) (form : FloatForm s.numeral x)
    → FloatParts t x (shape_of s.numeral x form)
float_parts t x v s (inl (d, h, e, n)) =
    let r = digits_then d (46 ∷ x) t h s.no_prefix (s.text ∙ ap (λ z. z ++ x) e ∙ append_assoc d (46 ∷ []) x) in
    record {
      form = r.form;
      ends = λ y. ap (λ z. after_decimal (z ++ y)) r.more_is ∙ ap after_decimal (append_assoc r.rest (46 ∷ x) y)
          ∙ digits_gone r.rest (46 ∷ x ++ y) r.each;
    }
float_parts t x v s (inr (inl (d, f, h, k, e, n))) =
    let r = digits_then d (46 ∷ f ++ x) t h s.no_prefix (s.text ∙ ap (λ z. z ++ x) e ∙ append_assoc d (46 ∷ f) x) in
    record {
      form = r.form;
      ends = λ y. ap (λ z. after_decimal (z ++ y)) r.more_is ∙ ap after_decimal (append_assoc r.rest (46 ∷ f ++ x) y)
          ∙ digits_gone r.rest (46 ∷ (f ++ x) ++ y) r.each
          ∙ ap (λ z. after_decimal (46 ∷ z)) (append_assoc f x y) ∙ fraction_gone f (x ++ y) k;
    }
float_parts t x v s (inr (inr (d, p, h, k, inl e))) =
    let r = digits_then d (p ++ x) t h s.no_prefix (s.text ∙ ap (λ z. z ++ x) e ∙ append_assoc d p x) in
    record {
      form = r.form;
      ends = λ y. ap (λ z. after_decimal (z ++ y)) r.more_is ∙ ap after_decimal (append_assoc r.rest (p ++ x) y
          ∙ ap (λ z. r.rest ++ z) (append_assoc p x y)) ∙ power_ends r.rest p (x ++ y) r.each k;
    }
float_parts t x v s (inr (inr (d, p, h, k, inr (f, g, e)))) =
    let r = digits_then d (46 ∷ f ++ (p ++ x)) t h s.no_prefix (s.text ∙ ap (λ z. z ++ x) e ∙ regrouped d f p x) in
    record {
      form = r.form;
      ends = λ y. ap (λ z. after_decimal (z ++ y)) r.more_is ∙ ap after_decimal (grouped r.rest f p x y)
          ∙ pointed_power_ends r.rest f p (x ++ y) r.each g k;
    }
  where
    regrouped : (d f p x : List ℕ) → ((d ++ (46 ∷ f)) ++ p) ++ x ≡ d ++ (46 ∷ f ++ (p ++ x))
    regrouped d f p x = simp append_assoc

    grouped : (r f p x y : List ℕ) → (r ++ (46 ∷ f ++ (p ++ x))) ++ y ≡ r ++ (46 ∷ f ++ (p ++ (x ++ y)))
    grouped r f p x y = simp append_assoc

-- If the lexer ends the number `1.` directly before the text `y`, it also ends the number `1.0` directly before `y`.
dot_closes : (y : List ℕ) → after_decimal (46 ∷ y) ≡ y → shape_end PointShape y ≡ y
dot_closes y h = go (first_passes (λ d. d == 46 || is_start d) y) h
  where
    go : (b : Bool) → after_suffix (after_lexed_exponent (cond (not b) (after_run (is_run_part is_ascii_digit) y)
        (46 ∷ y))) ≡ y → shape_end PointShape y ≡ y
    go false k = k
    go true k =
        let start : is_start 46 ≡ false = start_ascii 46 (lit< tt) in
        let same : 46 ∷ y ≡ y = sym (ap (λ b. cond b (after_run is_continue y) (46 ∷ y)) start) ∙ k in
        let n = ap length same in
        absurd (omega (arith, n))

float_closes : (closes : Bool) (numeral x y : List ℕ) (form : FloatForm numeral x)
    → shape_end (shape_of numeral x form) (x ++ y) ≡ y
    → shape_end (closed_shape (shape_of numeral x form) closes) (x ++ y) ≡ y
float_closes true numeral x y (inl (d, h, e, n)) k =
    let same : x ++ y ≡ y = ap (λ z. z ++ y) n in
    ap (shape_end PointShape) same ∙ dot_closes y (sym (ap (λ z. after_decimal (46 ∷ z)) same) ∙ k)
float_closes false numeral x y (inl (d, h, e, n)) k = k
float_closes closes numeral x y (inr (inl a)) k = k
float_closes closes numeral x y (inr (inr a)) k = k

pub floats_replace : (closes : Bool) (t u x y : List ℕ) (v w : Contents) (a : StrictFloat t v x)
    (b : StrictFloat u w x) → shape_of b.numeral x b.form ≡ closed_shape (shape_of a.numeral x a.form) closes
    → Replaces t u y
floats_replace closes t u x y v w a b same =
    let d = float_parts t x v a a.form in
    let e = float_parts u x w b b.form in
    decimals_replace t u y d.form e.form (λ h. e.ends y ∙ ap (λ z. shape_end z (x ++ y)) same
    ∙ float_closes closes a.numeral x y a.form (sym (d.ends y) ∙ h))

-- ---- a raw string that becomes a string with escapes is one token

-- If the old text `t` is a token before the text `y`, the new text `u` is also a token before `y`. If `u` replaces `t` after
-- the text `lead`, the token at the end of `lead` is lexed as before.
pub record ReplacesAfter (lead t u y : List ℕ) : Type 0 where
  pub goes : (f : LexemeForm) → lexeme_at (t ++ y) ≡ Some (f, y) → lexeme_at (u ++ y) ≡ Some (f, y)
  pub front : (z : List ℕ) → Begun lead (t ++ y) (u ++ z)

replaces_after : (lead t u y : List ℕ) → Replaces t u y → ReplacesAfter lead t u y
replaces_after lead t u y r = record { goes = r.goes; front = λ z. inl (r.front z) }

lost_goes : (p : LiteralPrefix) (k : Kind) (t u x y : List ℕ) (v : Contents) → (a : StrictRaw t k v x)
    → t ≡ lexeme_text (RawLexeme p a.hashes a.inside x) → (q : StringParts p u x)
    → (f : LexemeForm) → lexeme_at (t ++ y) ≡ Some (f, y) → lexeme_at (u ++ y) ≡ Some (f, y)
lost_goes p k t u x y v a e q f h =
    let old = ap (λ z. lexeme_at (z ++ y)) e ∙ raw_goes p a.hashes a.inside x y (raw_body a.hashes a.inside
    a.first_close) in
    let new = ap (λ z. lexeme_at (z ++ y)) q.text_is ∙ quoted_goes p q.parts x y q.is_body in
    new ∙ sym old ∙ h

lost_front : (lead : List ℕ) (p : LiteralPrefix) (k : Kind) (t u x y z : List ℕ) (v : Contents)
    → (a : StrictRaw t k v x)
    → t ≡ lexeme_text (RawLexeme p a.hashes a.inside x) → (q : StringParts p u x)
    → Begun lead (lexeme_text (RawLexeme p a.hashes a.inside x) ++ y) (lexeme_text (QuotedLexeme p q.parts x) ++ z)
    → Begun lead (t ++ y) (u ++ z)
lost_front lead p k t u x y z v a e q b =
    subst (λ s. Begun lead (s ++ y) (u ++ z)) (sym e)
    (subst (λ s. Begun lead (lexeme_text (RawLexeme p a.hashes a.inside x) ++ y) (s ++ z)) (sym q.text_is) b)

lost_replace : (lead : List ℕ) (k : Kind) (t u x y : List ℕ) (v w : Contents) → StrictRaw t k v x
    → StrictCooked u k w x → may_lose_r k lead ≡ true → ReplacesAfter lead t u y
lost_replace lead Str t u x y v w a b may =
    let q : StringParts NoPrefix u x = string_parts Str u x w string_kind b in
    record {
      goes = lost_goes NoPrefix Str t u x y v a a.text q;
      front = λ z. lost_front lead NoPrefix Str t u x y z v a a.text q
          (inr (unquoted lead a.hashes a.inside x q.parts y z may));
    }
lost_replace lead ByteStr t u x y v w a b may =
    let q : StringParts BytePrefix u x = string_parts ByteStr u x w byte_string_kind b in
    record {
      goes = lost_goes BytePrefix ByteStr t u x y v a a.text q;
      front = λ z. lost_front lead BytePrefix ByteStr t u x y z v a a.text q
          (inl (unraw_front BytePrefix (λ e. absurd (cc)) a.hashes a.inside q.parts x y z));
    }
lost_replace lead CStr t u x y v w a b may =
    let q : StringParts CPrefix u x = string_parts CStr u x w c_string_kind b in
    record {
      goes = lost_goes CPrefix CStr t u x y v a a.text q;
      front = λ z. lost_front lead CPrefix CStr t u x y z v a a.text q
          (inl (unraw_front CPrefix (λ e. absurd (cc)) a.hashes a.inside q.parts x y z));
    }
lost_replace lead Byte t u x y v w a b may = absurd a.allowed
lost_replace lead Char t u x y v w a b may = absurd a.allowed
lost_replace lead Int t u x y v w a b may = absurd a.allowed
lost_replace lead Float t u x y v w a b may = absurd a.allowed
lost_replace lead BoolKind t u x y v w a b may = absurd a.allowed

-- ---- a rewritten literal is one token, unless it is `true` or `false`, or a number that is kept

abbrev pub RewritesForm : Style → List ℕ → List ℕ → List ℕ → Type 0
RewritesForm style front t u =
    StylesInt style t u ⊎ (StylesFloat style t u ⊎ (RewritesRaw style front t u ⊎ RewritesCooked style t u))

pub replaces : (style : Style) (front t u y : List ℕ) → RewritesForm style front t u → ReplacesAfter front t u y
replaces style front t u y (inl c) = replaces_after front t u y (integers_replace t u c.suffix y c.contents c.contents
    c.int (integers.written style t u c.contents c.suffix c.int c.new_is) refl)
replaces style front t u y (inr (inl c)) = replaces_after front t u y (floats_replace style.float_zero t u c.suffix y
    c.contents _ c.float (floats.written style t u c.contents c.suffix c.float c.new_is)
    (same_shape style t u c.contents c.suffix c.float c.new_is))
replaces style front t u y (inr (inr (inl (inl c)))) = replaces_after front t u y (raw_replace c.kind t u c.suffix y
    c.contents c.contents c.raw (raws.written t u c.kind c.contents c.suffix c.raw c.hashes
    (raws.hashes_suit style.raw_hashes t c.kind c.contents c.suffix c.raw c.hashes c.hashes_are) c.new_is))
replaces style front t u y (inr (inr (inl (inr c)))) = lost_replace front c.kind t u c.suffix y c.contents c.contents
    c.raw (lost style front t u c) (and_parts (may_lose_r c.kind front) _ c.loses).0
replaces style front t u y (inr (inr (inr c))) = replaces_after front t u y (cooked_replace c.kind t u c.suffix y
    c.contents c.contents c.cooked (units.written style t u c.kind c.contents c.suffix c.cooked c.new_is))

pub word_or_form : (style : Style) (front t u : List ℕ) → Rewrites style front t u
    → (u ≡ t) ⊎ RewritesForm style front t u
word_or_form style front t u (inl (inl c)) = inr (inl c)
word_or_form style front t u (inl (inr c)) = inl c.new_is
word_or_form style front t u (inr (inl (inl c))) = inr (inr (inl c))
word_or_form style front t u (inr (inl (inr c))) = inl c.new_is
word_or_form style front t u (inr (inr (inl c))) = inr (inr (inr (inl c)))
word_or_form style front t u (inr (inr (inr (inl c)))) = inr (inr (inr (inr c)))
word_or_form style front t u (inr (inr (inr (inr c)))) = inl c.new_is
