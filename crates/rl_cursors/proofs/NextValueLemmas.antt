-- The value and the suffix of a literal that was consumed from tokens.
use Rattle.rl_syntax.proofs.Common.{◌≡◌, ℕ, ◌-◌, inl, inr, Bool, true, false, List, [], ◌∷◌, length, drop, refl, sym, ap, subst, ◌∙◌, arith, rules, chars, chars-nil, encodes-chars, encode_utf8_all, not, ◌≢◌, IsUtf8, IsUtf8-drop, IsCharBoundary}
use Rattle.std.proofs.Common.{Option, Some, None, ℤ}
use Rattle.std.specs.Prelude.{IfSome, IfNone, MatchBool}
use Rattle.std.proofs.Math.Seq.{drop-length}
use Rattle.std.proofs.lemmas.List.{length-drop}
use Rattle.std.proofs.lemmas.Str.{IsUtf8-append, IsUtf8-from_ascii}
use Rattle.rl_syntax.specs.declared.kind.Kind.{Kind}
use Rattle.rl_syntax.specs.declared.kind.Kind.TheVariants.{Int}
use Rattle.rl_syntax.specs.Numbers.{Sign, Minus}
use Rattle.rl_syntax.specs.Reading.{Contents, Reads, HasNoReading}
use Rattle.rl_syntax.proofs.OneReading.{one_reading}
use Rattle.rl_lexer.specs.Cursors.{CursorState, form_view}
use Rattle.rl_lexer.specs.Lexemes.{LexemeForm, LiteralForm, IdentifierForm, DelimiterForm, MarkForm}
use Rattle.rl_lenient.specs.declared.found.Found.{Found}
use Rattle.rl_cursors.specs.declared.next_literals.NextLiteral.{NextLiteral}
use Rattle.rl_lenient.specs.Founds.{IsFound, suffix_in}
use Rattle.rl_lenient.specs.Mirrors.NumberAt.{sign_at}
use Rattle.rl_cursors.specs.NextLiterals.{TakesNextLiteral, IsLiteralToken, FindsReading}
use Rattle.rl_lenient.specs.Values.{HasIntegerValue, HasNoValue, signed}
use Rattle.rl_cursors.specs.NextLiterals.{IsReadLiteral, with_minus}
use Rattle.rl_lenient.proofs.MinusLemmas.{minus_chars}
use Rattle.rl_lenient.proofs.ValueLemmas.{has_value, past_limit, within_or_past, within_reads}

-- ---- a literal that was consumed has the parse result of its text

read_alone : (form : LexemeForm) (text : List ℕ) (found : Option Found) → IsLiteralToken form text found
    → FindsReading text found
read_alone LiteralForm text found h = h
read_alone IdentifierForm text (Some f) h = h.0
read_alone IdentifierForm text None h = absurd h
read_alone (DelimiterForm c) text found h = absurd h
read_alone (MarkForm c) text found h = absurd h

pub taken_read : (old new : CursorState) (l : NextLiteral) → TakesNextLiteral old l new → IsReadLiteral l
taken_read old new l (inl t) =
    rw t.no_minus (read_alone (form_view l.token.form) l.token.text.now l.found t.literal)
taken_read old new l (inr t) = rw (t.minus_is, t.found_is) t.is_found

-- ---- the value of a literal that was consumed from tokens

pub finds : (t : List ℕ) (w : Option Found) (f : Found) → w ≡ Some f → FindsReading t w → IsFound t f
finds t w f e h = subst (λ (y : Option Found). FindsReading t y) e h

pub finds_none : (t : List ℕ) (w : Option Found) → w ≡ None → FindsReading t w → HasNoReading (chars t)
finds_none t w e h = subst (λ (y : Option Found). FindsReading t y) e h

pub some_suffixed : (t : List ℕ) (f : Found) (s : Sign) (o : Option ℤ) → IsFound t f → sign_at (chars t) ≡ s
    → IfSome o (λ z. f.kind ≡ Int) → IfSome o (λ z. z ≡ signed s f.magnitude)
    → IfSome o (λ z. (x : List ℕ) × HasIntegerValue (chars t) x z)
some_suffixed t f s (Some z) h sign k e = (chars (suffix_in t f.body), has_value t f s z h k sign e)
some_suffixed t f s None h sign k e = tt

pub minus_sign : (o : Option ℕ) (place : ℕ) (t : List ℕ) → o ≡ Some place → sign_at (chars (with_minus o t)) ≡ Minus
minus_sign o place t e =
    subst (λ (y : Option ℕ). sign_at (chars (with_minus y t)) ≡ Minus) (sym e) (ap sign_at (minus_chars t))

value_reads : (t x : List ℕ) (z : ℤ) → HasIntegerValue t x z → (v : Contents) × Reads t Int v x
value_reads t x z h = (_, within_reads t h.sign h.magnitude x h.reads h.within)

pub value_without_suffix : (t : List ℕ) (o : Option ℤ) → IfSome o (λ z. (x : List ℕ) × HasIntegerValue t x z)
    → ((k : Kind) (v : Contents) (x : List ℕ) → Reads t k v x → x ≡ []) → IfSome o (HasIntegerValue t [])
value_without_suffix t (Some z) h bare =
    let r = value_reads t h.0 z h.1 in
    subst (λ (y : List ℕ). HasIntegerValue t y z) (bare Int r.0 h.0 r.1) h.1
value_without_suffix t None h bare = tt

pub no_bare_value : (t : List ℕ) (o : Option ℤ) → IfNone o ((x : List ℕ) → HasNoValue t x) → IfNone o (HasNoValue t [])
no_bare_value t (Some z) h = tt
no_bare_value t None h = h []

pub suffixed_none : (t : List ℕ) → ((k : Kind) (v : Contents) (x : List ℕ) → Reads t k v x → x ≢ []) → HasNoValue t []
suffixed_none t some s m r =
    elim (within_or_past m) [
      | inl w ↦ absurd (some Int _ [] (within_reads t s m [] r w) refl)
      | inr past ↦ past_limit s m past
    ]

-- ---- suffixes

bare : (t : List ℕ) (n : ℕ) → n ≡ length t → chars (drop n t) ≡ []
bare t n e = let none : drop n t ≡ [] = rw e (drop-length t) in rw none chars-nil

-- The suffix in the code's parse result of a text is the suffix of the text by the definitions.
found_suffix : (t : List ℕ) (f : Found) → IsFound t f → (k : Kind) (v : Contents) (x : List ℕ) → Reads (chars t) k v x
    → x ≡ chars (suffix_in t f.body)
found_suffix t f h k v x r = (one_reading (chars t) k f.kind v h.reads.0 x _ r h.reads.1).2

ends_bare : (t : List ℕ) (f : Found) → IsFound t f → f.body.suffix_at ≡ length t
    → (k : Kind) (v : Contents) (x : List ℕ) → Reads (chars t) k v x → x ≡ []
ends_bare t f h at k v x r = found_suffix t f h k v x r ∙ bare t f.body.suffix_at at

not_bare : (t : List ℕ) (n : ℕ) → IsUtf8 t → IsCharBoundary t n → (n ≡ length t → ⊥) → chars (drop n t) ≡ [] → ⊥
not_bare t n u b ne e =
    let left : drop n t ≡ [] = sym (encodes-chars (drop n t) (IsUtf8-drop t n u b)) ∙ ap encode_utf8_all e in
    let size : length t - n ≡ 0 = sym (length-drop n t) ∙ ap length left in
    ne (omega (arith, size, b.0))

pub whole_utf8 : (o : Option ℕ) (t : List ℕ) → IsUtf8 t → IsUtf8 (with_minus o t)
whole_utf8 (Some place) t u = IsUtf8-append (45 ∷ []) t (IsUtf8-from_ascii (45 ∷ []) (search rules)) u
whole_utf8 None t u = u

ends_suffixed : (t : List ℕ) (f : Found) → IsUtf8 t → IsFound t f → (f.body.suffix_at ≡ length t → ⊥)
    → (k : Kind) (v : Contents) (x : List ℕ) → Reads (chars t) k v x → x ≢ []
ends_suffixed t f u h ne k v x r e =
    not_bare t f.body.suffix_at u h.stands.following ne (sym (found_suffix t f h k v x r) ∙ e)

pub suffix_told : (t : List ℕ) (f : Found) (ends : Bool) → IsUtf8 t → IsFound t f
    → MatchBool ends (f.body.suffix_at ≡ length t) (f.body.suffix_at ≢ length t)
    → (k : Kind) (v : Contents) (x : List ℕ) → Reads (chars t) k v x → MatchBool (not ends) (x ≢ []) (x ≡ [])
suffix_told t f true u h at k v x r = ends_bare t f h at k v x r
suffix_told t f false u h ne k v x r = ends_suffixed t f u h ne k v x r
