-- A cursor has at most one next literal, and one position after it.
use Rattle.rl_syntax.proofs.Common.{◌≡◌, ◌≢◌, ◌⊎◌, inl, inr, ℕ, List, ◌∷◌, Option, Some, None, refl, sym, ◌∙◌, ap, subst, chars}
use Rattle.rl_syntax.specs.declared.kind.Kind.{Kind}
use Rattle.rl_syntax.specs.Reading.{HasSuffix, Reads}
use Rattle.rl_lexer.specs.declared.cursor.Lexeme.{Lexeme}
use Rattle.rl_lexer.specs.declared.lexeme.Form.{Form}
use Rattle.rl_lexer.specs.Cuts.{BeginsNoLexeme}
use Rattle.rl_lexer.specs.Cursors.{CursorState, TakesNext, form_view}
use Rattle.rl_cursors.specs.NextTokens.{IsLexedBefore, token_parts}
use Rattle.rl_lexer.specs.Lexemes.{LexemeForm, LiteralForm, IdentifierForm, DelimiterForm, MarkForm}
use Rattle.rl_cursors.proofs.NextLaws.{one_next, one_position, stays_lexed, takes_some}
use Rattle.rl_lenient.specs.declared.found.Found.{Found}
use Rattle.rl_lenient.specs.Founds.{suffix_in}
use Rattle.rl_lenient.proofs.MinusLemmas.{minus_chars}
use Rattle.rl_cursors.specs.declared.next_literals.NextLiteral.{NextLiteral}
use Rattle.rl_cursors.specs.NextLiterals.{BeginsNone, HasNoNextLiteral, HasNoNumber, IsLiteralToken, TakesLiteralToken, TakesNegative, TakesNextLiteral}

minus_alone : (form : LexemeForm) (text : List ℕ) (found : Option Found) → form ≡ MarkForm 45
    → IsLiteralToken form text found → ⊥
minus_alone form text found e is = subst (λ (f : LexemeForm). IsLiteralToken f text found) e is

no_mixed : (old a b : CursorState) (l m : NextLiteral) → TakesLiteralToken old l a → TakesNegative old m b → ⊥
no_mixed old a b l m x y =
    let s = one_next old a y.between l.token y.minus x.takes y.takes_minus in
    minus_alone (form_view l.token.form) l.token.text.now l.found
    (ap (λ (p : Form × List ℕ × ℕ × ℕ). form_view p.0) s ∙ y.is_minus) x.literal

pub one_literal : (old a b : CursorState) (l m : NextLiteral) → IsLexedBefore old → TakesNextLiteral old l a
    → TakesNextLiteral old m b → (token_parts l.token ≡ token_parts m.token) × (l.minus_at ≡ m.minus_at) × (a ≡ b)
one_literal old a b l m lexed (inl x) (inl y) = (
  one_next old a b l.token m.token x.takes y.takes,
  x.no_minus ∙ sym y.no_minus,
  one_position old a b l.token m.token lexed x.takes y.takes,
)
one_literal old a b l m lexed (inl x) (inr y) = absurd (no_mixed old a b l m x y)
one_literal old a b l m lexed (inr x) (inl y) = absurd (no_mixed old b a m l y x)
one_literal old a b l m lexed (inr x) (inr y) =
    let s = one_next old x.between y.between x.minus y.minus x.takes_minus y.takes_minus in
    let p = one_position old x.between y.between x.minus y.minus lexed x.takes_minus y.takes_minus in
    let u = subst (λ (z : CursorState). TakesNext z m.token b) (sym p) y.takes_number in (
      one_next x.between a b l.token m.token x.takes_number u,
      x.minus_is ∙ ap (λ (q : Form × List ℕ × ℕ × ℕ). Some q.2) s ∙ sym y.minus_is,
      one_position x.between a b l.token m.token (stays_lexed old x.between x.minus lexed x.takes_minus)
          x.takes_number u,
    )

-- ---- a literal excludes that there is none

literal_alone : (form : LexemeForm) (text : List ℕ) (found : Option Found) (t : CursorState)
    → IsLiteralToken form text found → BeginsNone form text t → ⊥
literal_alone LiteralForm text found t is none = none
literal_alone IdentifierForm text None t is none = is
literal_alone IdentifierForm text (Some f) t (is, kind) none =
    let r = subst (λ (k : Kind). HasSuffix k (chars text) (chars (suffix_in text f.body))) kind is.reads in
    none r.0 (chars (suffix_in text f.body)) r.1
literal_alone (DelimiterForm c) text found t is none = is
literal_alone (MarkForm c) text found t is none = is

number_after : (old new : CursorState) (l : NextLiteral) (x : TakesNegative old l new)
    → ◌≢◌ {A = ℕ} 45 45 ⊎ HasNoNumber x.between → ⊥
number_after old new l x (inl n) = n refl
number_after old new l x (inr (inl none)) = takes_some x.between new l.token x.takes_number none
number_after old new l x (inr (inr (k, c, u, inl other))) =
    let s = one_next x.between new c l.token k x.takes_number u in
    other (sym (ap (λ (p : Form × List ℕ × ℕ × ℕ). form_view p.0) s) ∙ x.is_number)
number_after old new l x (inr (inr (k, c, u, inr unread))) =
    let s = one_next x.between new c l.token k x.takes_number u in
    let e : chars (45 ∷ l.token.text.now) ≡ 45 ∷ chars k.text.now =
    minus_chars l.token.text.now ∙ ap (λ (p : Form × List ℕ × ℕ × ℕ). 45 ∷ chars p.1) s in
    let r = x.is_found.reads in
    let suffix = chars (suffix_in (45 ∷ l.token.text.now) x.found.body) in
    unread x.found.kind r.0 suffix (subst (λ (z : List ℕ). Reads z x.found.kind r.0 suffix) e r.1)

pub literal_or_none : (old new : CursorState) (l : NextLiteral) → IsLexedBefore old → TakesNextLiteral old l new
    → HasNoNextLiteral old → ⊥
literal_or_none old new l lexed (inl x) (inl none) = takes_some old new l.token x.takes none
literal_or_none old new l lexed (inl x) (inr (m, b, t, none)) =
    let s = one_next old new b l.token m x.takes t in
    literal_alone (form_view l.token.form) l.token.text.now l.found b x.literal
    (subst (λ (p : Form × List ℕ × ℕ × ℕ). BeginsNone (form_view p.0) p.1 b) (sym s) none)
literal_or_none old new l lexed (inr x) (inl none) = takes_some old x.between x.minus x.takes_minus none
literal_or_none old new l lexed (inr x) (inr (m, b, t, none)) =
    let s = one_next old x.between b x.minus m x.takes_minus t in
    let p = one_position old x.between b x.minus m lexed x.takes_minus t in
    let here = subst (λ (q : Form × List ℕ × ℕ × ℕ). BeginsNone (form_view q.0) q.1 b) (sym s) none in
    let minus = subst (λ (f : LexemeForm). BeginsNone f x.minus.text.now b) x.is_minus here in
    number_after old new l x (subst (λ (z : CursorState). ◌≢◌ {A = ℕ} 45 45 ⊎ HasNoNumber z) (sym p) minus)
