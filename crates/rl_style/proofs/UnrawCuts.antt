-- If a raw string of a text is replaced by a string with escapes, all other tokens are lexed as before. The text before the
-- string ends with neither a hash nor a dot.
use Rattle.rl_syntax.proofs.Common.{◌≡◌, ℕ, inr, true, List, [], ◌++◌, refl, ◌∙◌, ap, append-nil}
use Rattle.rl_lexer.specs.Lexemes.{BodyPart, NoPrefix, Lexeme, RawLexeme, QuotedLexeme, lexeme_text}
use Rattle.rl_style.specs.Around.{may_precede_quote}
use Rattle.rl_style.specs.Recut.{KeepsTheTokensUnraw}
use Rattle.rl_style.proofs.Ends.{raw_rest, quoted_rest}
use Rattle.rl_style.proofs.Recut.{Recut, Unquoted, literal_is, literal_rest, recut}

-- The text `lead` before a raw string ends with neither a hash nor a dot. If a string with escapes replaces the raw string,
-- the old and the new text satisfy `Unquoted`.
pub unquoted : (lead : List ℕ) (n : ℕ) (body x : List ℕ) (parts : List BodyPart) (after new_after : List ℕ)
    → may_precede_quote lead ≡ true
    → Unquoted lead (lexeme_text (RawLexeme NoPrefix n body x) ++ after)
    (lexeme_text (QuotedLexeme NoPrefix parts x) ++ new_after)
unquoted lead n body x parts after new_after may = record {
  front = [];
  raw = raw_rest n body x after;
  quoted = quoted_rest parts x new_after;
  may = ap may_precede_quote (append-nil lead) ∙ may;
  old_is = refl;
  new_is = refl;
}

pub keeps_the_tokens_unraw : KeepsTheTokensUnraw
keeps_the_tokens_unraw at t before after n body x parts place r is_body cut sound may =
    let old : Lexeme = RawLexeme NoPrefix n body x in
    let new : Lexeme = QuotedLexeme NoPrefix parts x in
    let rest : List ℕ = literal_rest at t before after old place r cut in
    let is = literal_is at t before after old place r cut in
    let m : Recut [] at t before after old new place r = recut [] at t before after old new place r cut sound (
      (is_body, is.1),
      λ front e k. inr (inr (unquoted front n body x parts rest rest (may front rest e k))),
    ) in
    record { front = m.front; rest = m.rest; text_is = m.text_is; place_is = m.place_is; cuts = m.cuts }
