-- If any literals of a source are rewritten in a style, all other tokens are lexed as before.
use Rattle.rl_syntax.proofs.Common.{◌≡◌, ℕ, ◌+◌, inl, List, [], ◌∷◌, ◌++◌, Option, Some, None, refl, sym, ◌∙◌, ap, subst, arith, append_assoc, AllByRecursion}
use Rattle.rl_syntax.specs.Texts.{byte_len}
use Rattle.rl_syntax.proofs.OneQuoted.{same_tail}
use Rattle.rl_lexer.specs.Lexemes.{IsLexeme, Lexeme, lexeme_text}
use Rattle.rl_lexer.specs.Skipping.{Skipped}
use Rattle.rl_lexer.specs.Sources.{CutSource, IsCutUpTo, IsProper, IsSource, IsWithoutPreamble, PlainKind, PlainToken, SourceLexeme, SourcesUpTo, source_end, source_kind, source_text}
use Rattle.rl_lexer.proofs.CutLemmas.{byte_len-append}
use Rattle.rl_lexer.proofs.SourceFronts.{proper_source}
use Rattle.rl_style.specs.declared.style.Style.{Style}
use Rattle.rl_style.specs.Recut.{IsSound, IsSoundToken}
use Rattle.rl_style.specs.Restyled.{AreInStyle, AreTokensOf, IsEdited, IsEditedSource, IsInStyle, IsTokenOf, KeepsTheTokensOfEdits, KeepsTheEditedSource, edited_text}
use Rattle.rl_style.specs.Rewriting.{Rewrites}
use Rattle.rl_style.proofs.Places.{same_place}
use Rattle.rl_style.proofs.Recut.{Alike, alike_more, alike_stays, offset_of_rest, skips_to, sound_proper, token_full, token_piece}
use Rattle.rl_style.proofs.RestyledCuts.{NewToken, new_token}
use Rattle.rl_style.proofs.WholeSource.{Preamble, preamble}

-- ---- one token after another is rewritten

-- The tokens of the new text, after the edits of the old text. If the new text replaces the old text after the text `lead`,
-- the token at the end of `lead` is lexed as before.
record Made (lead : List ℕ) (at : ℕ) (old new : List ℕ) (cuts : List CutSource) (edits : List (Option (List ℕ)))
    (r : List ℕ) : Type 0 where
  tokens : List CutSource
  are_tokens : AreTokensOf edits cuts tokens
  are_cuts : SourcesUpTo at new tokens r
  alike : Alike lead old new

-- The token that an edit puts in place of an old token, which follows the text `lead`. The text `new_after` follows the new
-- token. The token at the end of `lead` is lexed as before.
record Put (lead : List ℕ) (e : Option (List ℕ)) (token : SourceLexeme) (after new_after : List ℕ) : Type 0 where
  new : SourceLexeme
  is_token : IsTokenOf e token new
  text_is : source_text new ≡ edited_text e token
  proper : IsProper new new_after
  alike : Alike lead (source_text token ++ after) (source_text new ++ new_after)

-- The edit of a token is `None`, or the token is a literal and the edit is its new text in the style. The text `lead`
-- precedes the token.
abbrev IsWritten : Style → List ℕ → SourceLexeme → Option (List ℕ) → Type 0
IsWritten style lead token None = Unit {0}
IsWritten style lead token (Some written) =
    (literal : Lexeme) × (token ≡ PlainToken literal) × Rewrites style lead (lexeme_text literal) written

put : (style : Style) (lead : List ℕ) (e : Option (List ℕ)) (token : SourceLexeme) (after new_after : List ℕ)
    → IsSoundToken token → IsSource token after → IsWritten style lead token e
    → Alike (lead ++ source_text token) after new_after → Put lead e token after new_after
put style lead None token after new_after sound is in_style a = record {
  new = token;
  is_token = refl;
  text_is = refl;
  proper = alike_stays (lead ++ source_text token) token after new_after a (sound_proper token after sound is);
  alike = alike_more lead (source_text token) after new_after a;
}
put style lead (Some written) token after new_after sound is (l, token_is, w) a =
    let old_is : IsLexeme l after = sound_proper (PlainToken l) after tt
    (subst (λ (z : SourceLexeme). IsSource z after) token_is is) in
    let n : NewToken lead l written after = new_token style lead l written after old_is w in
    let b : Alike (lead ++ lexeme_text l) after new_after = subst (λ (z : SourceLexeme). Alike (lead ++ source_text z)
    after new_after) token_is a in
    record {
      new = PlainToken n.new;
      is_token = (n.text_is, ap PlainKind n.same_form ∙ ap source_kind (sym token_is));
      text_is = n.text_is;
      proper = alike_stays (lead ++ lexeme_text l) (PlainToken n.new) after new_after b n.is_new;
      alike = subst (λ (z : SourceLexeme). Alike lead (source_text z ++ after) (lexeme_text n.new ++ new_after))
          (sym token_is)
          (n.alike new_after b);
    }

one_more : (lead : List ℕ) (e : Option (List ℕ)) (es : List (Option (List ℕ))) (at : ℕ) (w : CutSource)
    (ws : List CutSource)
    (front old new after new_after inner r : List ℕ) → old ≡ front ++ (source_text w.token ++ after)
    → new ≡ front ++ (edited_text e w.token ++ new_after)
    → (p : Put (lead ++ front) e w.token after new_after)
    → Skipped (front ++ (source_text p.new ++ new_after)) (source_text p.new ++ new_after)
    → Made inner (at + byte_len front + byte_len (source_text p.new)) after new_after ws es r
    → Made lead at old new (w ∷ ws) (e ∷ es) r
one_more lead e es at w ws front old new after new_after inner r old_is new_is p skipped more =
    let s : List ℕ = source_text p.new in
    let text : new ≡ front ++ (s ++ new_after) = new_is ∙ ap (λ z. front ++ (z ++ new_after)) (sym p.text_is) in
    let here : ℕ = at + byte_len front in
    let there : here + byte_len (s ++ new_after) ≡ at + byte_len (front ++ (s ++ new_after)) = omega (
      arith,
      byte_len-append front (s ++ new_after),
    ) in
    record {
      tokens = record { token = p.new; at = here } ∷ more.tokens;
      are_tokens = (p.is_token, more.are_tokens);
      are_cuts = subst (λ (z : List ℕ). SourcesUpTo at z (record { token = p.new; at = here } ∷ more.tokens) r)
          (sym text)
          (new_after, skipped, proper_source p.new new_after p.proper, there, more.are_cuts);
      alike = subst (λ (z : List ℕ). Alike lead z new) (sym old_is) (subst (λ (z : List ℕ). Alike lead
          (front ++ (source_text w.token ++ after)) z) (sym text)
          (alike_more lead front (source_text w.token ++ after) (s ++ new_after) p.alike));
    }

-- The definition `IsInStyle` uses a token's byte offset in the whole text, and `IsWritten` uses the text before the token. If
-- an edit satisfies `IsInStyle`, it satisfies `IsWritten`.
is_written : (style : Style) (from : ℕ) (whole front rest : List ℕ) (w : CutSource) (e : Option (List ℕ))
    → whole ≡ front ++ (source_text w.token ++ rest) → w.at ≡ from + byte_len front → IsInStyle style from whole w e
    → IsWritten style front w.token e
is_written style from whole front rest w None text_is at_is is = tt
is_written style from whole front rest w (Some written) text_is at_is (l, f, token_is, stands, rewrites) =
    let same = same_place f front (lexeme_text l ++ stands.rest) (source_text w.token ++ rest)
    (sym stands.text_is ∙ text_is) (omega (arith, at_is, stands.place_is)) in (
      l,
      token_is,
      subst (λ (z : List ℕ). Rewrites style z (lexeme_text l) written) same.0 rewrites,
    )

made : (style : Style) (lead : List ℕ) (from at start : ℕ) (whole old : List ℕ) (cuts : List CutSource)
    (edits : List (Option (List ℕ)))
    (new r : List ℕ) → whole ≡ lead ++ old → at ≡ from + byte_len lead → SourcesUpTo at old cuts r
    → AllByRecursion IsSound cuts → IsEdited at old cuts edits new
    → AreInStyle style from whole cuts edits → Made lead start old new cuts edits r
made style lead from at start whole old [] [] new r whole_is at_is cut sound edited styled = record {
  tokens = [];
  are_tokens = tt;
  are_cuts = subst (λ (z : List ℕ). Skipped z r) (sym edited) cut;
  alike = inl (sym edited);
}
made style lead from at start whole old [] (e ∷ es) new r whole_is at_is cut sound edited styled = absurd edited
made style lead from at start whole old (w ∷ ws) [] new r whole_is at_is cut sound edited styled = absurd edited
made style lead from at start whole old (w ∷ ws) (e ∷ es) new r whole_is at_is (after, skipped, is, place, more)
    (first, sound) (gap, tail, new_after, old_is, gap_is, new_is, edited) (one, styled) =
    let s : List ℕ = source_text w.token in
    let (front, text_is, to) = skips_to old (s ++ after) (token_full w.token after first) skipped in
    let here : w.at ≡ at + byte_len front = offset_of_rest at w.at old front (s ++ after) text_is place in
    let same = same_place gap front (s ++ tail) (s ++ after) (sym old_is ∙ text_is) (omega (arith, here, gap_is)) in
    let tail_is : tail ≡ after = same_tail s tail after same.1 in
    let rest : IsEdited (source_end w) after ws es new_after = subst
    (λ (z : List ℕ). IsEdited (source_end w) z ws es new_after) tail_is edited in
    let written : List ℕ = edited_text e w.token in
    let outer : List ℕ = lead ++ front in
    let inner : List ℕ = outer ++ s in
    let there : whole ≡ outer ++ (s ++ after) = whole_is ∙ ap (λ z. lead ++ z) text_is
    ∙ sym (append_assoc lead front (s ++ after)) in
    let place_is : w.at ≡ from + byte_len outer = omega (arith, here, at_is, byte_len-append lead front) in
    let end_is : source_end w ≡ from + byte_len inner = omega (arith, place_is, byte_len-append outer s) in
    let m : Made inner (start + byte_len front + byte_len written) after new_after ws es r = made style inner from
    (source_end w)
    (start + byte_len front + byte_len written) whole after ws es new_after r
    (there ∙ sym (append_assoc outer s after)) end_is more sound rest styled in
    let p : Put outer e w.token after new_after = put style outer e w.token after new_after first is
    (is_written style from whole outer after w e there place_is one) m.alike in
    let new_text : new ≡ front ++ (written ++ new_after) = new_is ∙ ap (λ z. z ++ (written ++ new_after)) same.0 in
    one_more lead e es start w ws front old new after new_after inner r text_is new_text p
    (to (source_text p.new ++ new_after) (token_piece p.new new_after p.proper))
    (subst (λ (z : List ℕ). Made inner (start + byte_len front + byte_len z) after new_after ws es r) (sym p.text_is) m)

pub keeps_the_tokens_of_edits : KeepsTheTokensOfEdits
keeps_the_tokens_of_edits style at old cuts edits new r cut sound edited styled =
    let m : Made [] at old new cuts edits r = made style [] at at at old old cuts edits new r refl (omega arith) cut
    sound edited styled in
    record { tokens = m.tokens; are_tokens = m.are_tokens; are_cuts = m.are_cuts }

-- ---- the tokens of a whole source

source_more : (style : Style) (old : List ℕ) (w : CutSource) (ws : List CutSource) (e : Option (List ℕ))
    (es : List (Option (List ℕ))) (new r : List ℕ) → (cut : IsCutUpTo old (w ∷ ws) r)
    → Preamble old cut.body cut.at → AllByRecursion IsSound (w ∷ ws) → IsEdited 0 old (w ∷ ws) (e ∷ es) new
    → AreInStyle style 0 old (w ∷ ws) (e ∷ es) → SourcesUpTo cut.at cut.body (w ∷ ws) r
    → IsEditedSource new (w ∷ ws) (e ∷ es) r
source_more style old w ws e es new r cut p (first, sound) (gap, tail, new_after, old_is, at_is, new_is, edited) styled
    (after, skipped, is, place, more) =
    let s : List ℕ = source_text w.token in
    let (front, body_is, to) = skips_to cut.body (s ++ after) (token_full w.token after first) skipped in
    let here : w.at ≡ cut.at + byte_len front = offset_of_rest cut.at w.at cut.body front (s ++ after) body_is place in
    let whole : old ≡ (p.mark ++ front) ++ (s ++ after) = p.text_is ∙ ap (λ z. p.mark ++ z) body_is
    ∙ sym (append_assoc p.mark front (s ++ after)) in
    let same = same_place gap (p.mark ++ front) (s ++ tail) (s ++ after) (sym old_is ∙ whole) (omega (
      arith,
      here,
      at_is,
      p.at_is,
      byte_len-append p.mark front,
    )) in
    let tail_is : tail ≡ after = same_tail s tail after same.1 in
    let end : List ℕ = edited_text e w.token ++ new_after in
    let body : List ℕ = front ++ end in
    let rest : IsEdited (source_end w) after ws es new_after = subst
    (λ (z : List ℕ). IsEdited (source_end w) z ws es new_after) tail_is edited in
    let m : Made p.mark cut.at cut.body body (w ∷ ws) (e ∷ es) r = made style p.mark 0 cut.at cut.at old cut.body
    (w ∷ ws) (e ∷ es) body r p.text_is (omega (arith, p.at_is))
    (after, skipped, is, place, more) (first, sound) (front, after, new_after, body_is, here, refl, rest) styled in
    let text : new ≡ p.mark ++ body = new_is ∙ ap (λ z. z ++ end) same.0 ∙ append_assoc p.mark front end in
    record {
      tokens = m.tokens;
      are_tokens = m.are_tokens;
      are_cuts = record {
        at = cut.at;
        body = body;
        front = subst (λ (z : List ℕ). IsWithoutPreamble z body) (sym text) (p.goes body m.alike);
        place = omega (arith, p.at_is, ap byte_len text, byte_len-append p.mark body);
        are_cuts = m.are_cuts;
      };
    }

pub keeps_the_edited_source : KeepsTheEditedSource
keeps_the_edited_source style old [] [] new r code cut sound edited styled = record {
  tokens = [];
  are_tokens = tt;
  are_cuts = subst (λ (z : List ℕ). IsCutUpTo z [] r) (sym edited) cut;
}
keeps_the_edited_source style old [] (e ∷ es) new r code cut sound edited styled = absurd edited
keeps_the_edited_source style old (w ∷ ws) [] new r code cut sound edited styled = absurd edited
keeps_the_edited_source style old (w ∷ ws) (e ∷ es) new r code cut sound edited styled =
    source_more style old w ws e es new r cut (preamble old (w ∷ ws) r code cut) sound edited styled cut.are_cuts
