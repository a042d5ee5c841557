-- Proof that a source has exactly one rewritten text in a style.
use Rattle.rl_syntax.proofs.Common.{◌≡◌, ℕ, ◌+◌, inl, inr, List, [], ◌∷◌, ◌++◌, Option, Some, None, refl, sym, ◌∙◌, ap, subst, map, arith, encode_utf8_all, IsTrue}
use Rattle.std.specs.Prelude.{◌⊎◌}
use Rattle.rl_syntax.specs.Texts.{byte_len}
use Rattle.std.proofs.lemmas.List.{append_cancel_left}
use Rattle.rl_lexer.specs.BadQuotes.{WordQuote, RawWordQuote, DigitQuote, OtherQuote, ByteQuote}
use Rattle.rl_lexer.specs.Skipping.{Skipped}
use Rattle.rl_lexer.specs.Sources.{BadQuoteToken, BeginsNoSource, CutSource, DocBlockToken, DocLineToken, IsLiteralText, LifetimeToken, PlainToken, RawIdentifierToken, RawLifetimeToken, SourceKind, SourceLexeme, StrayToken, source_end, source_text, told}
use Rattle.rl_lexer.proofs.Pieces.{one_rest}
use Rattle.rl_lexer.proofs.SourceLaws.{one_lexing}
use Rattle.rl_style.specs.Calls.{advance_calls, is_in_call}
use Rattle.rl_style.specs.Restylable.{is_field, last_after}
use Rattle.rl_style.specs.Restyled.{IsEdited, edited_text}
use Rattle.rl_style.specs.declared.style.Style.{Style}
use Rattle.rl_style.proofs.OneAnswer.{one_answer}
use Rattle.rl_style.proofs.Places.{same_place}
use Rattle.rl_style.proofs.Recut.{IsFull, lexeme_full}
use Rattle.rl_restyle.specs.Edits.{AreEdits, HasOneText, IsChosen, IsEditOf, IsOfKinds, IsRewritten, Seen, Surrounds, is_rewritable, nothing_seen, seen_after}
use Rattle.rl_restyle.specs.declared.edit.Choice.{Choice}

-- ---- lemmas: the end of the source begins with no token

token_some : (w : SourceLexeme) (t : List ℕ) → IsFull (source_text w ++ t)
token_some (PlainToken l) t = lexeme_full l t
token_some (RawIdentifierToken c more) t = tt
token_some (LifetimeToken c more) t = tt
token_some (RawLifetimeToken c more) t = tt
token_some (DocLineToken body) t = tt
token_some (DocBlockToken inside) t = tt
token_some (BadQuoteToken (WordQuote c more)) t = tt
token_some (BadQuoteToken (RawWordQuote c more)) t = tt
token_some (BadQuoteToken (DigitQuote c more)) t = tt
token_some (BadQuoteToken (OtherQuote parts suffix)) t = tt
token_some (BadQuoteToken (ByteQuote parts suffix)) t = tt
token_some (StrayToken c) t = tt

pub none_at_end : BeginsNoSource []
none_at_end = λ kind rest b. subst IsFull (sym b.text_is) (token_some b.token rest)

-- ---- lemmas about the edit of one token

-- The parts of a token that determine its edit.
abbrev Token : Type 0
Token = SourceKind × List ℕ × ℕ

abbrev end_of : Token → ℕ
end_of p = p.2 + byte_len p.1

seen_same : (seen : Seen) (v w : CutSource) → told v ≡ told w → seen_after seen v ≡ seen_after seen w
seen_same seen v w e =
    let after : Token → Seen = λ p. record {
      last = last_after seen.last seen.end p.0 p.2 (encode_utf8_all p.1);
      end = end_of p;
      calls = advance_calls seen.calls p.0 (encode_utf8_all p.1);
    } in
    ap after e

-- A literal has exactly one new text in a style.
one_rewriting : (style : Style) (front old : List ℕ) (e f : Option (List ℕ)) → IsRewritten style front old e
    → IsRewritten style front old f → e ≡ f
one_rewriting style front old None None r s = refl
one_rewriting style front old (Some x) (Some y) r s = ap Some (one_answer style front old x y r.0 s.0)
one_rewriting style front old (Some x) None r s = absurd (r.1 (s x r.0))
one_rewriting style front old None (Some y) r s = absurd (s.1 (r y s.0))

one_edit : (style : Style) (choice : Choice) (t : List ℕ) (seen : Seen) (w : CutSource) (e f : Option (List ℕ))
    → IsEditOf style choice t seen w e → IsEditOf style choice t seen w f → e ≡ f
one_edit style choice t seen w e f (front, rest, here, is) (g, r, there, other) = go is
    (subst (λ z. IsEdit z rest f) fronts.0 (subst (λ z. IsEdit g z f) rests other))
  where
    IsEdit : List ℕ → List ℕ → Option (List ℕ) → Type 0
    IsEdit front rest e = (IsChosen choice seen w rest × IsRewritten style front (source_text w.token) e)
        ⊎ ((IsChosen choice seen w rest → ⊥) × (e ≡ None))

    fronts : (g ≡ front) × (source_text w.token ++ there.after ≡ source_text w.token ++ here.after)
    fronts = same_place g front (source_text w.token ++ there.after) (source_text w.token ++ here.after)
        (sym there.text_is ∙ here.text_is) (sym there.at_is ∙ here.at_is)

    rests : r ≡ rest
    rests = one_rest here.after r rest
        (subst (λ z. Skipped z r) (append_cancel_left (source_text w.token) there.after here.after fronts.1)
        there.skips)
        here.skips

    go : IsEdit front rest e → IsEdit front rest f → e ≡ f
    go (inl (c, a)) (inl (d, b)) = one_rewriting style front (source_text w.token) e f a b
    go (inl (c, a)) (inr (stays, none)) = absurd (stays c)
    go (inr (stays, none)) (inl (c, b)) = absurd (stays c)
    go (inr (stays, none)) (inr (other, nothing)) = none ∙ sym nothing

-- If two tokens have the same kind, text and byte offset, they have the same edit.
edit_alike : (style : Style) (choice : Choice) (t : List ℕ) (seen : Seen) (v w : CutSource) (e : Option (List ℕ))
    → told v ≡ told w → IsEditOf style choice t seen v e → IsEditOf style choice t seen w e
edit_alike style choice t seen v w e same (front, rest, around, is) = (front, rest, there, go is)
  where
    there : Surrounds t w front rest
    there = record {
      after = around.after;
      text_is = subst (λ (p : Token). t ≡ front ++ (p.1 ++ around.after)) same around.text_is;
      at_is = subst (λ (p : Token). p.2 ≡ byte_len front) same around.at_is;
      skips = around.skips;
    }

    Chosen : Token → Type 0
    Chosen p = IsLiteralText p.0 p.1
        × IsTrue (is_rewritable choice.macros (is_field seen.last (encode_utf8_all p.1) rest) (is_in_call seen.calls))
        × IsOfKinds choice.kinds p.1

    Written : Token → Type 0
    Written p = IsRewritten style front p.1 e

    go : (IsChosen choice seen v rest × IsRewritten style front (source_text v.token) e)
        ⊎ ((IsChosen choice seen v rest → ⊥) × (e ≡ None))
        → (IsChosen choice seen w rest × IsRewritten style front (source_text w.token) e)
        ⊎ ((IsChosen choice seen w rest → ⊥) × (e ≡ None))
    go (inl (chosen, r)) = inl (subst Chosen same chosen, subst Written same r)
    go (inr (stays, none)) = inr (λ chosen. stays (subst Chosen (sym same) chosen), none)

-- ---- lemmas about the edits of all tokens

same_texts : (style : Style) (choice : Choice) (t : List ℕ) (seen : Seen) (vs ws : List CutSource)
    (es fs : List (Option (List ℕ))) → map told vs ≡ map told ws → AreEdits style choice t seen vs es
    → AreEdits style choice t seen ws fs → es ≡ fs
same_texts style choice t seen [] [] [] [] e a b = refl
same_texts style choice t seen [] [] [] (f ∷ fs) e a b = absurd b
same_texts style choice t seen [] [] (x ∷ es) fs e a b = absurd a
same_texts style choice t seen [] (w ∷ ws) es fs e a b = absurd (cc)
same_texts style choice t seen (v ∷ vs) [] es fs e a b = absurd (cc)
same_texts style choice t seen (v ∷ vs) (w ∷ ws) [] fs e a b = absurd a
same_texts style choice t seen (v ∷ vs) (w ∷ ws) (x ∷ es) [] e a b = absurd b
same_texts style choice t seen (v ∷ vs) (w ∷ ws) (x ∷ es) (y ∷ fs) e (a, olds) (b, news) =
    let first : told v ≡ told w = cc in
    let others : map told vs ≡ map told ws = cc in
    let one : x ≡ y = one_edit style choice t seen w x y (edit_alike style choice t seen v w x first a) b in
    let more : es ≡ fs = same_texts style choice t (seen_after seen w) vs ws es fs others
    (subst (λ (z : Seen). AreEdits style choice t z vs es) (seen_same seen v w first) olds) news in
    ap (λ z. z ∷ es) one ∙ ap (λ z. y ∷ z) more

edited_alike : (e : Option (List ℕ)) (v w : SourceLexeme) → source_text v ≡ source_text w
    → edited_text e v ≡ edited_text e w
edited_alike None v w same = same
edited_alike (Some x) v w same = refl

same_new : (at : ℕ) (t : List ℕ) (vs ws : List CutSource) (es : List (Option (List ℕ))) (new other : List ℕ)
    → map told vs ≡ map told ws → IsEdited at t vs es new → IsEdited at t ws es other → new ≡ other
same_new at t [] [] [] new other e a b = a ∙ sym b
same_new at t [] [] (x ∷ es) new other e a b = absurd a
same_new at t [] (w ∷ ws) es new other e a b = absurd (cc)
same_new at t (v ∷ vs) [] es new other e a b = absurd (cc)
same_new at t (v ∷ vs) (w ∷ ws) [] new other e a b = absurd a
same_new at t (v ∷ vs) (w ∷ ws) (x ∷ es) new other e (gap, after, new_after, text, place, new_is, more)
    (space, rest, new_rest, whole, spot, other_is, others) =
    let first : told v ≡ told w = cc in
    let later : map told vs ≡ map told ws = cc in
    let piece : source_text v.token ≡ source_text w.token = ap (λ (p : Token). p.1) first in
    let begin : v.at ≡ w.at = ap (λ (p : Token). p.2) first in
    let end : source_end w ≡ source_end v = sym (ap end_of first) in
    let same = same_place gap space (source_text v.token ++ after) (source_text w.token ++ rest) (sym text ∙ whole)
    (omega (arith, place, spot, begin)) in
    let left : after ≡ rest = append_cancel_left (source_text w.token) after rest
    (ap (λ z. z ++ after) (sym piece) ∙ same.1) in
    let moved : IsEdited (source_end v) after ws es new_rest = subst (λ n. IsEdited n after ws es new_rest) end
    (subst (λ z. IsEdited (source_end w) z ws es new_rest) (sym left) others) in
    let ends : new_after ≡ new_rest = same_new (source_end v) after vs ws es new_after new_rest later more moved in
    new_is ∙ ap (λ z. z ++ (edited_text x v.token ++ new_after)) same.0
    ∙ ap (λ z. space ++ (z ++ new_after)) (edited_alike x v.token w.token piece)
    ∙ ap (λ z. space ++ (edited_text x w.token ++ z)) ends ∙ sym other_is

pub has_one_text : HasOneText
has_one_text style choice t new other r s =
    let same : map told r.cuts ≡ map told s.cuts = (one_lexing t r.cuts s.cuts [] [] r.are_cuts none_at_end s.are_cuts
    none_at_end).0 in
    let texts : r.texts ≡ s.texts = same_texts style choice t nothing_seen r.cuts s.cuts r.texts s.texts same
    r.are_edits s.are_edits in (
      same_new 0 t r.cuts s.cuts s.texts new other same
          (subst (λ z. IsEdited 0 t r.cuts z new) texts r.is_edited) s.is_edited,
      texts,
    )
