-- If a literal of a source is rewritten in a style, all other tokens are lexed as before.
use Rattle.rl_syntax.proofs.Common.{◌≡◌, ℕ, ◌+◌, ◌⊎◌, inl, inr, List, [], ◌∷◌, ◌++◌, refl, sym, ◌∙◌, ap, subst, arith, append_assoc, append_cancel_right, AllByRecursion}
use Rattle.rl_syntax.specs.Texts.{byte_len}
use Rattle.rl_lexer.specs.Lexemes.{Lexeme, IsLexeme, form_of, lexeme_text}
use Rattle.rl_lexer.specs.Sources.{CutSource, SourcesUpTo}
use Rattle.rl_lexer.proofs.CutLemmas.{byte_len-append}
use Rattle.rl_lexer.proofs.LexemeAnswers.{form_before}
use Rattle.rl_lexer.proofs.LexemeFronts.{lexeme_at-past}
use Rattle.rl_style.specs.declared.style.Style.{Style}
use Rattle.rl_style.specs.Recut.{IsSound, placed_literal}
use Rattle.rl_style.specs.Restyled.{KeepsTheTokensAroundARestyledLiteral, KeepsTheSourceAroundARestyledLiteral, FollowsFront}
use Rattle.rl_style.specs.Rewriting.{Rewrites}
use Rattle.rl_style.proofs.Places.{same_place}
use Rattle.rl_style.proofs.Recut.{Alike, Begun, Recut, alike_more, literal_is, literal_rest, recut}
use Rattle.rl_style.proofs.Restyled.{RewritesForm, replaces, word_or_form}
use Rattle.rl_style.proofs.WholeSource.{Preamble, preamble, source_recut}

-- The token that replaces the literal `old`, with the text `u` and the form of `old`. The literal follows the text `lead`, and
-- the text `rest` follows the literal.
pub record NewToken (lead : List ℕ) (old : Lexeme) (u rest : List ℕ) : Type 0 where
  pub new : Lexeme
  pub text_is : lexeme_text new ≡ u
  pub same_form : form_of new ≡ form_of old
  pub is_new : IsLexeme new rest
  pub alike : (z : List ℕ) → Alike (lead ++ lexeme_text old) rest z
      → Alike lead (lexeme_text old ++ rest) (lexeme_text new ++ z)

pub new_token : (style : Style) (lead : List ℕ) (old : Lexeme) (u rest : List ℕ) → IsLexeme old rest
    → Rewrites style lead (lexeme_text old) u → NewToken lead old u rest
new_token style lead old u rest is w = go (word_or_form style lead (lexeme_text old) u w)
  where
    go : (u ≡ lexeme_text old) ⊎ RewritesForm style lead (lexeme_text old) u → NewToken lead old u rest
    go (inl e) = record {
      new = old;
      text_is = sym e;
      same_form = refl;
      is_new = is;
      alike = λ z a. alike_more lead (lexeme_text old) rest z a;
    }
    go (inr f) =
        let made = replaces style lead (lexeme_text old) u rest f in
        let b = form_before (u ++ rest) (form_of old, rest) (made.goes (form_of old) (lexeme_at-past old rest is)) in
        let text : u ≡ lexeme_text b.lexeme = append_cancel_right u (lexeme_text b.lexeme) rest b.text_is in
        record {
          new = b.lexeme;
          text_is = sym text;
          same_form = b.form_is;
          is_new = b.is_lexeme;
          alike = λ z a. inr (subst (λ s. Begun lead (lexeme_text old ++ rest) (s ++ z)) text (made.front z));
        }

-- The tokens of the text `t` after the text `u` replaces the literal `old`. The text `t` follows the text `lead`.
record NewCut (lead : List ℕ) (at : ℕ) (t : List ℕ) (before after : List CutSource) (old : Lexeme) (u : List ℕ)
    (place : ℕ)
    (r : List ℕ) : Type 0 where
  new : Lexeme
  text_is : lexeme_text new ≡ u
  same_form : form_of new ≡ form_of old
  cut : Recut lead at t before after old new place r

new_cut : (style : Style) (lead : List ℕ) (at from : ℕ) (whole t : List ℕ) (before after : List CutSource)
    (old : Lexeme) (front u : List ℕ)
    (place : ℕ) (r : List ℕ) → whole ≡ lead ++ t → at ≡ from + byte_len lead
    → SourcesUpTo at t (before ++ (placed_literal old place ∷ after)) r → AllByRecursion IsSound before
    → FollowsFront from whole old place front
    → Rewrites style front (lexeme_text old) u → NewCut lead at t before after old u place r
new_cut style lead at from whole t before after old front u place r whole_is at_is cut sound stands w =
    let rest : List ℕ = literal_rest at t before after old place r cut in
    let token = new_token style front old u rest (literal_is at t before after old place r cut) w in
    record {
      new = token.new;
      text_is = token.text_is;
      same_form = token.same_form;
      cut = recut lead at t before after old token.new place r cut sound (
        token.is_new,
        λ f e k.
            let there : whole ≡ (lead ++ f) ++ (lexeme_text old ++ rest) = whole_is ∙ ap (λ z. lead ++ z) e
            ∙ sym (append_assoc lead f (lexeme_text old ++ rest)) in
            let same = same_place front (lead ++ f) (lexeme_text old ++ stands.rest) (lexeme_text old ++ rest)
            (sym stands.text_is ∙ there) (omega (arith, at_is, k, stands.place_is, byte_len-append lead f)) in
            subst (λ z. Alike z (lexeme_text old ++ rest) (lexeme_text token.new ++ rest)) same.0
            (token.alike rest (inl refl)),
      );
    }

pub keeps_the_tokens_around_a_restyled_literal : KeepsTheTokensAroundARestyledLiteral
keeps_the_tokens_around_a_restyled_literal style at t before after old front u place r cut sound stands w =
    let n = new_cut style [] at at t t before after old front u place r refl (omega arith) cut sound stands w in
    let m = n.cut in
    record {
      new = n.new;
      text_is = n.text_is;
      same_form = n.same_form;
      recut = record { front = m.front; rest = m.rest; text_is = m.text_is; place_is = m.place_is; cuts = m.cuts };
    }

pub keeps_the_source_around_a_restyled_literal : KeepsTheSourceAroundARestyledLiteral
keeps_the_source_around_a_restyled_literal style t before after old front u place r code cut sound stands w =
    let p : Preamble t cut.body cut.at = preamble t (before ++ (placed_literal old place ∷ after)) r code cut in
    let n = new_cut style p.mark cut.at 0 t cut.body before after old front u place r p.text_is
    (omega (arith, p.at_is)) cut.are_cuts sound stands w in
    record {
      new = n.new;
      text_is = n.text_is;
      same_form = n.same_form;
      recut = source_recut t before after old n.new place r cut p n.cut;
    }
