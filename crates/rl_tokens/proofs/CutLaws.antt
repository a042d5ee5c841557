-- Two lexings of the same text have the same tokens, up to the first error.
use Rattle.rl_syntax.proofs.Common.{◌≡◌, ℕ, ◌+◌, List, [], ◌∷◌, ◌++◌, map, Option, Some, None, refl, sym, ◌∙◌, ap, subst, option_and_then, encode_utf8_all, none-some}
use Rattle.rl_lexer.specs.Lexemes.{Lexeme, lexeme_text, IsLexeme}
use Rattle.rl_lexer.specs.Cuts.{LexedToken, end_of, LexesUpTo, OpenGroup, after_form, after_lexeme, open_groups}
use Rattle.rl_tokens.specs.Lexing.{flat_form, flat_token}
use Rattle.rl_syntax.specs.Texts.{byte_len}
use Rattle.rl_lexer.specs.PrintedTokens.{Token, as_token}
use Rattle.rl_lexer.proofs.SameTokens.{SameFirst, same_first, same_end, begins_cut}
use Rattle.rl_lexer.proofs.Comments.{same_Some}
use Rattle.rl_tokens.specs.Trees.{FlatToken}
use Rattle.std.proofs.lemmas.List.{map-append}
use Rattle.rl_lexer.proofs.Pieces.{one_rest}

-- Lexing can't continue with the text `r` while the groups `groups` are open. The text begins with no token, or with a
-- delimiter that is an error there.
abbrev pub IsStuck : List OpenGroup → List ℕ → Type 0
IsStuck groups r = (l : Lexeme) (after : List ℕ) (at : ℕ) → IsLexeme l after → r ≡ lexeme_text l ++ after
    → after_lexeme groups l at ≡ None

-- Two results of lexing a text have the same tokens, the same remaining text and the same open groups.
pub record SameCut (vs ws : List LexedToken) (r s : List ℕ) (g h : List OpenGroup) : Type 0 where
  pub flat : (file : ℕ) → map (flat_token file) vs ≡ map (flat_token file) ws
  pub rest : r ≡ s
  pub groups : g ≡ h

-- The token of a flat list for a token of a file.
unfoldable pub flat_view : ℕ → Token → FlatToken
flat_view file t =
    flat_form t.form (encode_utf8_all t.text) (record { file = file; lo = t.at; hi = t.at + byte_len t.text })

-- The tokens of a flat list are those of the lexed tokens.
pub flat_tokens : (file : ℕ) (ws : List LexedToken) → map (flat_token file) ws ≡ map (flat_view file) (map as_token ws)
unfolding flat_view
flat_tokens file [] = refl
flat_tokens file (w ∷ ws) = ap (λ fs. flat_token file w ∷ fs) (flat_tokens file ws)

same_flat : (v w : LexedToken) (x y : List ℕ) → SameFirst v w x y → (file : ℕ) → flat_token file v ≡ flat_token file w
unfolding flat_view
same_flat v w x y same file = ap (flat_view file) same.token

same_tail : (groups : List OpenGroup) (v w : LexedToken) (x y : List ℕ) → SameFirst v w x y
    → after_lexeme groups v.lexeme v.at ≡ after_lexeme groups w.lexeme w.at
same_tail groups v w x y same = ap (λ (t : Token). after_form groups t.form t.at) same.token

-- If `open_groups` accepts a list of tokens, it accepts the list's first token, and then the other tokens.
opened : (o : Option (List OpenGroup)) (ws : List LexedToken) (h : List OpenGroup)
    → option_and_then (λ g. open_groups g ws) o ≡ Some h → (g : List OpenGroup) × (o ≡ Some g)
    × (open_groups g ws ≡ Some h)
opened None ws h e = absurd (none-some h e)
opened (Some g) ws h e = (g, refl, e)

nothing_tail : (o : Option (List OpenGroup)) (ws : List LexedToken) (h : List OpenGroup) → o ≡ None
    → option_and_then (λ g. open_groups g ws) o ≡ Some h → ⊥
nothing_tail o ws h none e = none-some h (ap (option_and_then (λ g. open_groups g ws)) (sym none) ∙ e)

pub same_cut : (at : ℕ) (t : List ℕ) (gs : List OpenGroup) (vs ws : List LexedToken) (r s : List ℕ)
    (g h : List OpenGroup) → LexesUpTo at t vs r → open_groups gs vs ≡ Some g → IsStuck g r → LexesUpTo at t ws s
    → open_groups gs ws ≡ Some h → IsStuck h s → SameCut vs ws r s g h
same_cut at t gs [] [] r s g h a p stuck b q stuck' =
    record { flat = λ file. refl; rest = one_rest t r s a b; groups = same_Some g h (sym p ∙ q) }
same_cut at t gs [] (w ∷ ws) r s g h a p stuck (y, b, js, n, more) q stuck' =
    let e : r ≡ lexeme_text w.lexeme ++ y = one_rest t r (lexeme_text w.lexeme ++ y) a b in
    let k : g ≡ gs = sym (same_Some gs g p) in
    absurd (nothing_tail (after_lexeme gs w.lexeme w.at) ws h (ap (λ x. after_lexeme x w.lexeme w.at) (sym k)
    ∙ stuck w.lexeme y w.at js e) q)
same_cut at t gs (v ∷ vs) [] r s g h (x, a, is, m, more) p stuck b q stuck' =
    let e : s ≡ lexeme_text v.lexeme ++ x = one_rest t s (lexeme_text v.lexeme ++ x) b a in
    let k : h ≡ gs = sym (same_Some gs h q) in
    absurd (nothing_tail (after_lexeme gs v.lexeme v.at) vs g (ap (λ z. after_lexeme z v.lexeme v.at) (sym k)
    ∙ stuck' v.lexeme x v.at is e) p)
same_cut at t gs (v ∷ vs) (w ∷ ws) r s g h (x, a, is, m, more) p stuck (y, b, js, n, more') q stuck' =
    let same : SameFirst v w x y = same_first at t v w x y a is m b js n in
    let (g1, g1_is, p1) = opened (after_lexeme gs v.lexeme v.at) vs g p in
    let (h1, h1_is, q1) = opened (after_lexeme gs w.lexeme w.at) ws h q in
    let same_groups : h1 ≡ g1 = same_Some h1 g1 (sym h1_is ∙ sym (same_tail gs v w x y same) ∙ g1_is) in
    let more1 : LexesUpTo (end_of v) x ws s =
    subst (λ (k : ℕ). LexesUpTo k x ws s) (sym (same_end v w x y same))
    (subst (λ (z : List ℕ). LexesUpTo (end_of w) z ws s) (sym same.rest) more') in
    let rec = same_cut (end_of v) x g1 vs ws r s g h more p1 stuck more1
    (ap (λ z. open_groups z ws) (sym same_groups) ∙ q1) stuck' in
    record {
      flat = λ file. ap (λ f. f ∷ map (flat_token file) vs) (same_flat v w x y same file)
          ∙ ap (λ fs. flat_token file w ∷ fs) (rec.flat file);
      rest = rec.rest;
      groups = rec.groups;
    }

-- If tokens are lexed from the start of a text, the flat tokens of the whole text begin with them.
pub begins_flat : (at file : ℕ) (t : List ℕ) (vs ws : List LexedToken) (r : List ℕ) → LexesUpTo at t vs r
    → LexesUpTo at t ws [] → (more : List LexedToken) × (map (flat_token file) ws
    ≡ map (flat_token file) vs ++ map (flat_token file) more)
begins_flat at file t vs ws r a b =
    let (more, same) = begins_cut at t vs ws r a b in (
      more,
      flat_tokens file ws
          ∙ ap (map (flat_view file)) same
          ∙ map-append (flat_view file) (map as_token vs) (map as_token more)
          ∙ ap (λ fs. fs ++ map (flat_view file) (map as_token more)) (sym (flat_tokens file vs))
          ∙ ap (λ fs. map (flat_token file) vs ++ fs) (sym (flat_tokens file more)),
    )
