-- A cursor has at most one next token, and one position after it.
use Rattle.rl_syntax.proofs.Common.{◌≡◌, ℕ, ◌+◌, List, [], ◌∷◌, ◌++◌, length, Option, Some, None, refl, sym, ◌∙◌, ap, subst, arith, drop, inl, inr, append_cancel_right, chars, encodes-chars, encode_utf8_all, IsUtf8, option_map}
use Rattle.std.proofs.lemmas.List.{append_cancel_left}
use Rattle.rl_syntax.specs.Texts.{byte_len}
use Rattle.rl_syntax.specs.Classes.{after_run}
use Rattle.rl_lexer.specs.Skipping.{Skipped}
use Rattle.rl_lexer.specs.Lexemes.{lexeme_text, LexemeForm, LiteralForm, IdentifierForm, DelimiterForm, MarkForm, form_of}
use Rattle.rl_lexer.specs.Mirrors.LexemeAt.{lexeme_at}
use Rattle.rl_lexer.specs.Cuts.{BeginsNoLexeme, LexedToken, LexesUpTo, end_of}
use Rattle.rl_cursors.specs.NextTokens.{IsLexedBefore, IsSourceLexedBefore, source_token_parts, token_parts}
use Rattle.rl_lexer.specs.Cursors.{CursorState, GivesNext, TakesNext, form_view}
use Rattle.rl_lexer.specs.Sources.{is_in_line, BeginsNoSource, CutSource, IsScriptLine, IsWithoutLine, GivesSource, IsCutUpTo, SourcesUpTo, source_end, SourceKind, PlainKind, RawIdentifierKind, LifetimeKind, DocCommentKind, StrayKind, TakesSource, source_kind, source_text, source_view}
use Rattle.rl_lexer.specs.declared.cursor.Lexeme.{Lexeme as Borrowed}
use Rattle.rl_lexer.specs.declared.lexeme.Form.{Form as FoundForm}
use Rattle.rl_lexer.specs.declared.lexeme.Form.TheVariants as found
use Rattle.rl_lexer.specs.declared.source.SourceForm.{SourceForm}
use Rattle.rl_lexer.specs.declared.source.SourceForm.TheVariants as sources
use Rattle.rl_lexer.specs.declared.sources.SourceToken.{SourceToken}
use Rattle.rl_lexer.proofs.LexemeFronts.{lexeme_at-past, same_pair}
use Rattle.rl_lexer.proofs.Pieces.{one_rest}
use Rattle.rl_lexer.proofs.LexemeRows.{run_past}
use Rattle.rl_lexer.proofs.SourceLaws.{one_token}

-- ---- equal forms

abbrev form_back : LexemeForm → FoundForm
form_back LiteralForm = found.Literal
form_back IdentifierForm = found.Identifier
form_back (DelimiterForm c) = found.Delimiter c
form_back (MarkForm c) = found.Mark c

form_is : (f : FoundForm) → form_back (form_view f) ≡ f
form_is found.Literal = refl
form_is found.Identifier = refl
form_is (found.Delimiter c) = refl
form_is (found.Mark c) = refl

abbrev source_back : SourceKind → SourceForm
source_back (PlainKind form) = sources.Token (form_back form)
source_back RawIdentifierKind = sources.RawIdentifier
source_back LifetimeKind = sources.Lifetime
source_back DocCommentKind = sources.DocComment
source_back StrayKind = sources.Stray

source_is : (f : SourceForm) → source_back (source_view f) ≡ f
source_is (sources.Token form) = ap sources.Token (form_is form)
source_is sources.RawIdentifier = refl
source_is sources.Lifetime = refl
source_is sources.DocComment = refl
source_is sources.Stray = refl

-- ---- equal tokens

-- The end of a token is the end of the equal token.
end_same : (lo hi at m n : ℕ) (t u : List ℕ) (place : ℕ) → at + byte_len t ≡ hi → place + byte_len u ≡ m → at ≡ lo
    → place ≡ n → lo ≡ n → t ≡ u → hi ≡ m
end_same lo hi at m n t u place a b p q r e = omega (arith, a, b, p, q, r, ap byte_len e)

same_parts : {F : Type 0} (f g : F) (t u : List ℕ) (lo m hi n : ℕ) → f ≡ g → t ≡ u → lo ≡ m → hi ≡ n
    → ◌≡◌ {A = F × List ℕ × ℕ × ℕ} (f, t, lo, hi) (g, u, m, n)
same_parts f g t u lo m hi n a b c d =
    ap (λ z. (z, t, lo, hi)) a ∙ ap (λ z. (g, z, lo, hi)) b ∙ ap (λ z. (g, u, z, hi)) c ∙ ap (λ z. (g, u, m, z)) d

-- ---- texts

pub one_next : (old a b : CursorState) (l m : Borrowed) → TakesNext old l a → TakesNext old m b
    → token_parts l ≡ token_parts m
one_next old a b l m x y =
    let t = lexeme_text x.cut.lexeme in
    let u = lexeme_text y.cut.lexeme in
    let e : t ++ x.after ≡ u ++ y.after = sym x.begins ∙ y.begins in
    let p = same_pair (form_of x.cut.lexeme) (form_of y.cut.lexeme) x.after y.after
    (sym (lexeme_at-past x.cut.lexeme x.after x.is_lexeme) ∙ ap lexeme_at e
    ∙ lexeme_at-past y.cut.lexeme y.after y.is_lexeme) in
    let text : t ≡ u = append_cancel_right t u x.after (e ∙ ap (λ z. u ++ z) (sym p.1)) in
    let form : l.form ≡ m.form = sym (form_is l.form) ∙ ap form_back (sym x.is_cut.form_is ∙ p.0 ∙ y.is_cut.form_is)
    ∙ form_is m.form in
    let bytes : l.text.now ≡ m.text.now = sym x.is_cut.bytes_are ∙ ap encode_utf8_all text ∙ y.is_cut.bytes_are in
    let lo : l.lo ≡ m.lo = omega (arith, x.place, y.place) in
    let hi : l.hi ≡ m.hi = end_same l.lo l.hi x.cut.at m.hi m.lo t u y.cut.at x.is_cut.hi_is y.is_cut.hi_is x.is_cut.lo_is
    y.is_cut.lo_is lo text in
    same_parts l.form m.form l.text.now m.text.now l.lo m.lo l.hi m.hi form bytes lo hi

pub takes_some : (old a : CursorState) (l : Borrowed) → TakesNext old l a → BeginsNoLexeme (chars old.rest) → ⊥
takes_some old a l t none = none t.after (lexeme_text t.cut.lexeme, (t.cut.lexeme, t.is_lexeme, refl), t.begins)

pub one_given : (old a b : CursorState) (x y : Option Borrowed) → GivesNext old x a → GivesNext old y b
    → option_map token_parts x ≡ option_map token_parts y
one_given old a b None None (n, e) (m, f) = refl
one_given old a b None (Some l) (n, e) t = absurd (takes_some old b l t n)
one_given old a b (Some l) None t (n, e) = absurd (takes_some old a l t n)
one_given old a b (Some l) (Some m) t u = ap Some (one_next old a b l m t u)

-- ---- sources

pub one_next_source : (old a b : CursorState) (l m : SourceToken) → TakesSource old l a → TakesSource old m b
    → source_token_parts l ≡ source_token_parts m
one_next_source old a b l m x y =
    let t = source_text x.cut.token in
    let u = source_text y.cut.token in
    let e : t ++ x.after ≡ u ++ y.after = sym x.begins ∙ y.begins in
    let p = one_token x.cut.token y.cut.token x.after y.after x.is_source y.is_source e in
    let text : t ≡ u = append_cancel_right t u x.after (e ∙ ap (λ z. u ++ z) (sym p.rest)) in
    let form : l.form ≡ m.form = sym (source_is l.form)
    ∙ ap source_back (sym x.is_cut.kind_is ∙ p.kind ∙ y.is_cut.kind_is) ∙ source_is m.form in
    let bytes : l.text.now ≡ m.text.now = sym x.is_cut.bytes_are ∙ ap encode_utf8_all text ∙ y.is_cut.bytes_are in
    let lo : l.lo ≡ m.lo = omega (arith, x.place, y.place) in
    let hi : l.hi ≡ m.hi = end_same l.lo l.hi x.cut.at m.hi m.lo t u y.cut.at x.is_cut.hi_is y.is_cut.hi_is x.is_cut.lo_is
    y.is_cut.lo_is lo text in
    same_parts l.form m.form l.text.now m.text.now l.lo m.lo l.hi m.hi form bytes lo hi

pub takes_source_some : (old a : CursorState) (l : SourceToken) → TakesSource old l a → BeginsNoSource (chars old.rest) → ⊥
takes_source_some old a l t none = none (source_kind t.cut.token) t.after
    (record { token = t.cut.token; is_source = t.is_source; text_is = t.begins; kind_is = refl })

pub one_source_given : (old a b : CursorState) (x y : Option SourceToken) → GivesSource old x a → GivesSource old y b
    → option_map source_token_parts x ≡ option_map source_token_parts y
one_source_given old a b None None (n, e) (m, f) = refl
one_source_given old a b None (Some l) (n, e) t = absurd (takes_source_some old b l t n)
one_source_given old a b (Some l) None t (n, e) = absurd (takes_source_some old a l t n)
one_source_given old a b (Some l) (Some m) t u = ap Some (one_next_source old a b l m t u)

-- ---- positions

one_rest_after : (at : ℕ) (t : List ℕ) (done : List LexedToken) (v w : LexedToken) (a b : List ℕ)
    → lexeme_text v.lexeme ≡ lexeme_text w.lexeme → LexesUpTo at t (done ++ (v ∷ [])) a
    → LexesUpTo at t (done ++ (w ∷ [])) b → a ≡ b
one_rest_after at t [] v w a b e (x, s, i, p, m) (y, z, j, q, n) =
    let first = one_rest t (lexeme_text v.lexeme ++ x) (lexeme_text w.lexeme ++ y) s z in
    let same : x ≡ y = append_cancel_left (lexeme_text w.lexeme) x y (ap (λ k. k ++ x) (sym e) ∙ first) in
    one_rest y a b (subst (λ (k : List ℕ). Skipped k a) same m) n
one_rest_after at t (d ∷ ds) v w a b e (x, s, i, p, m) (y, z, j, q, n) =
    let same : x ≡ y = append_cancel_left (lexeme_text d.lexeme) x y
    (one_rest t (lexeme_text d.lexeme ++ x) (lexeme_text d.lexeme ++ y) s z) in
    one_rest_after (end_of d) y ds v w a b e
    (subst (λ (k : List ℕ). LexesUpTo (end_of d) k (ds ++ (v ∷ [])) a) same m) n

one_source_rest : (at : ℕ) (t : List ℕ) (done : List CutSource) (v w : CutSource) (a b : List ℕ)
    → source_text v.token ≡ source_text w.token → SourcesUpTo at t (done ++ (v ∷ [])) a
    → SourcesUpTo at t (done ++ (w ∷ [])) b → a ≡ b
one_source_rest at t [] v w a b e (x, s, i, p, m) (y, z, j, q, n) =
    let first = one_rest t (source_text v.token ++ x) (source_text w.token ++ y) s z in
    let same : x ≡ y = append_cancel_left (source_text w.token) x y (ap (λ k. k ++ x) (sym e) ∙ first) in
    one_rest y a b (subst (λ (k : List ℕ). Skipped k a) same m) n
one_source_rest at t (d ∷ ds) v w a b e (x, s, i, p, m) (y, z, j, q, n) =
    let same : x ≡ y = append_cancel_left (source_text d.token) x y
    (one_rest t (source_text d.token ++ x) (source_text d.token ++ y) s z) in
    one_source_rest (source_end d) y ds v w a b e
    (subst (λ (k : List ℕ). SourcesUpTo (source_end d) k (ds ++ (v ∷ [])) a) same m) n

abbrev state : List ℕ → List ℕ → CursorState
state text rest = record { text = text; rest = rest }

-- Two cursors over one text are equal if the characters after them are.
same_state : (a b : CursorState) → a.text ≡ b.text → IsUtf8 a.rest → IsUtf8 b.rest → chars a.rest ≡ chars b.rest
    → a ≡ b
same_state a b e is_a is_b same =
    let rest : a.rest ≡ b.rest = sym (encodes-chars a.rest is_a) ∙ ap encode_utf8_all same ∙ encodes-chars b.rest is_b in
    ap (λ t. state t a.rest) e ∙ ap (λ r. state b.text r) rest

pub one_position : (old a b : CursorState) (l m : Borrowed) → IsLexedBefore old → TakesNext old l a → TakesNext old m b
    → a ≡ b
one_position old a b l m (done, lexed) x y =
    let parts = one_next old a b l m x y in
    let text : lexeme_text x.cut.lexeme ≡ lexeme_text y.cut.lexeme =
    x.is_cut.chars_are ∙ ap (λ (p : FoundForm × List ℕ × ℕ × ℕ). chars p.1) parts ∙ sym y.is_cut.chars_are in
    same_state a b (x.same ∙ sym y.same) x.following.is_text y.following.is_text
    (one_rest_after 0 (chars old.text) done x.cut y.cut (chars a.rest) (chars b.rest) text (x.goes_on done lexed)
    (y.goes_on done lexed))

pub stays_lexed : (old new : CursorState) (l : Borrowed) → IsLexedBefore old → TakesNext old l new → IsLexedBefore new
stays_lexed old new l (done, lexed) t = (
  done ++ (t.cut ∷ []),
  subst (λ (x : List ℕ). LexesUpTo 0 (chars x) (done ++ (t.cut ∷ [])) (chars new.rest)) (sym t.same)
      (t.goes_on done lexed),
)

line_rest : (t r : List ℕ) → IsScriptLine t r → r ≡ after_run is_in_line (drop 2 t)
line_rest t r is = sym (run_past is_in_line is.line r is.is_line)
    ∙ ap (λ z. after_run is_in_line (drop 2 z)) (sym is.text_is)

one_body : (t r s : List ℕ) → IsWithoutLine t r → IsWithoutLine t s → r ≡ s
one_body t r s (inl a) (inl b) = line_rest t r a ∙ sym (line_rest t s b)
one_body t r s (inl a) (inr (e, none)) = absurd (none r a)
one_body t r s (inr (e, none)) (inl b) = absurd (none s b)
one_body t r s (inr (e, none)) (inr (d, none')) = e ∙ sym d

pub one_source_position : (old a b : CursorState) (l m : SourceToken) → IsSourceLexedBefore old → TakesSource old l a
    → TakesSource old m b → a ≡ b
one_source_position old a b l m (done, lexed) x y =
    let parts = one_next_source old a b l m x y in
    let text : source_text x.cut.token ≡ source_text y.cut.token =
    x.is_cut.chars_are ∙ ap (λ (p : SourceForm × List ℕ × ℕ × ℕ). chars p.1) parts ∙ sym y.is_cut.chars_are in
    let s = x.goes_on done lexed in
    let z = y.goes_on done lexed in
    let body : s.body ≡ z.body = one_body _ s.body z.body s.front z.front in
    let at : s.at ≡ z.at = omega (arith, s.place, z.place, ap byte_len body) in
    let moved = subst (λ (k : List ℕ). SourcesUpTo s.at k (done ++ (x.cut ∷ [])) (chars a.rest)) body s.are_cuts in
    let same : chars a.rest ≡ chars b.rest = one_source_rest z.at z.body done x.cut y.cut (chars a.rest) (chars b.rest)
    text (subst (λ (k : ℕ). SourcesUpTo k z.body (done ++ (x.cut ∷ [])) (chars a.rest)) at moved) z.are_cuts in
    same_state a b (x.same ∙ sym y.same) x.following.is_text y.following.is_text same
