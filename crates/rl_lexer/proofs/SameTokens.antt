-- Two lexings of the same text have the same tokens.
use Rattle.rl_syntax.proofs.Common.{◌≡◌, ℕ, ◌+◌, List, [], ◌∷◌, ◌++◌, map, Option, Some, refl, sym, ◌∙◌, ap, subst, arith, none-some}
use Rattle.rl_syntax.specs.Texts.{byte_len}
use Rattle.rl_lexer.specs.Skipping.{Skipped}
use Rattle.rl_lexer.specs.Lexemes.{lexeme_text, IsLexeme, LexemeForm, form_of}
use Rattle.rl_lexer.specs.Mirrors.LexemeAt.{lexeme_at}
use Rattle.rl_lexer.specs.Cuts.{LexedToken, end_of, LexesUpTo}
use Rattle.rl_lexer.specs.PrintedTokens.{Token, as_token}
use Rattle.rl_lexer.proofs.Comments.{same_Some}
use Rattle.rl_lexer.proofs.Pieces.{one_rest}
use Rattle.rl_lexer.proofs.LexemeFronts.{lexeme_at-past, one_front}

-- The first tokens of two results of lexing a text are the same token, and the same text follows.
pub record SameFirst (v w : LexedToken) (x y : List ℕ) : Type 0 where
  pub token : as_token v ≡ as_token w
  pub rest : x ≡ y

-- Tokens of the same form, text and place are the same token.
same_token : (v w : LexedToken) → form_of v.lexeme ≡ form_of w.lexeme → lexeme_text v.lexeme ≡ lexeme_text w.lexeme
    → v.at ≡ w.at → as_token v ≡ as_token w
same_token v w form text at =
    ap (λ f. let t : Token = record { form = f; text = lexeme_text v.lexeme; at = v.at } in t) form
    ∙ ap (λ x. let t : Token = record { form = form_of w.lexeme; text = x; at = v.at } in t) text
    ∙ ap (λ n. let t : Token = record { form = form_of w.lexeme; text = lexeme_text w.lexeme; at = n } in t) at

pub same_first : (at : ℕ) (t : List ℕ) (v w : LexedToken) (x y : List ℕ) → Skipped t (lexeme_text v.lexeme ++ x)
    → IsLexeme v.lexeme x → v.at + byte_len (lexeme_text v.lexeme ++ x) ≡ at + byte_len t
    → Skipped t (lexeme_text w.lexeme ++ y) → IsLexeme w.lexeme y → w.at + byte_len (lexeme_text w.lexeme ++ y)
    ≡ at + byte_len t → SameFirst v w x y
same_first at t v w x y a is m b js n =
    let u = lexeme_text v.lexeme ++ x in
    let e : u ≡ lexeme_text w.lexeme ++ y = one_rest t u (lexeme_text w.lexeme ++ y) a b in
    let f = one_front u (lexeme_text v.lexeme) (lexeme_text w.lexeme) x y refl e (v.lexeme, is, refl)
    (w.lexeme, js, refl) in
    let p : ◌≡◌ {A = Option (LexemeForm × List ℕ)} (Some (form_of v.lexeme, x)) (Some (form_of w.lexeme, y)) =
    sym (lexeme_at-past v.lexeme x is) ∙ ap lexeme_at e ∙ lexeme_at-past w.lexeme y js in
    let form : form_of v.lexeme ≡ form_of w.lexeme =
    ap (λ (q : LexemeForm × List ℕ). q.0) (same_Some (form_of v.lexeme, x) (form_of w.lexeme, y) p) in
    record { token = same_token v w form f.0 (omega (arith, m, n, ap byte_len e)); rest = f.1 }

pub same_end : (v w : LexedToken) (x y : List ℕ) → SameFirst v w x y → end_of v ≡ end_of w
same_end v w x y same = ap (λ (t : Token). t.at + byte_len t.text) same.token

-- No token begins an empty text.
pub nothing_begins : (w : LexedToken) (after : List ℕ) → IsLexeme w.lexeme after → [] ≡ lexeme_text w.lexeme ++ after
    → ⊥
nothing_begins w after is e =
    none-some (form_of w.lexeme, after) (ap lexeme_at e ∙ lexeme_at-past w.lexeme after is)

-- If tokens are lexed from the start of a text, each result of lexing the whole text begins with these tokens.
pub begins_cut : (at : ℕ) (t : List ℕ) (vs ws : List LexedToken) (r : List ℕ) → LexesUpTo at t vs r
    → LexesUpTo at t ws [] → (more : List LexedToken) × (map as_token ws ≡ map as_token vs ++ map as_token more)
begins_cut at t [] ws r a b = (ws, refl)
begins_cut at t (v ∷ vs) [] r (x, a, is, m, more) b =
    absurd (nothing_begins v x is (one_rest t [] (lexeme_text v.lexeme ++ x) b a))
begins_cut at t (v ∷ vs) (w ∷ ws) r (x, a, is, m, more) (y, b, js, n, more') =
    let same : SameFirst v w x y = same_first at t v w x y a is m b js n in
    let following : LexesUpTo (end_of v) x ws [] =
    subst (λ (k : ℕ). LexesUpTo k x ws []) (sym (same_end v w x y same))
    (subst (λ (z : List ℕ). LexesUpTo (end_of w) z ws []) (sym same.rest) more') in
    let rec = begins_cut (end_of v) x vs ws r more following in
    (rec.0, ap (λ t. t ∷ map as_token ws) (sym same.token) ∙ ap (λ ts. as_token v ∷ ts) rec.1)
