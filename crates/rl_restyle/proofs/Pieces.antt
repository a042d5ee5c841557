-- Lemmas about the byte offsets of a source's tokens, and about the edits in order.
use Rattle.rl_syntax.proofs.Common.{◌≡◌, ℕ, ◌+◌, inl, inr, Bool, true, false, cond, ◌==◌, List, [], ◌∷◌, ◌++◌, Option, refl, sym, ◌∙◌, ap, subst, arith, append_assoc, append-nil}
use Rattle.rl_syntax.specs.Texts.{byte_len}
use Rattle.rl_lexer.specs.Skipping.{Skipped}
use Rattle.rl_lexer.specs.Sources.{CutSource, IsCutUpTo, IsWithoutLine, IsWithoutPreamble, SourcesUpTo, source_end, source_text, without_byte_order_mark}
use Rattle.rl_lexer.proofs.CutLemmas.{byte_len-append}
use Rattle.rl_style.specs.Restyled.{IsEdited, edited_text}
use Rattle.rl_style.specs.declared.style.Style.{Style}
use Rattle.rl_restyle.specs.Edits.{AreEdits, IsEditOf, Seen, seen_after}
use Rattle.rl_restyle.specs.Mirrors.{seen_all}
use Rattle.rl_restyle.specs.declared.edit.Choice.{Choice}

-- ---- lemmas about the ends of a text

-- The text `r` is an end of the text `t`.
abbrev pub Ends : List ℕ → List ℕ → Type 0
Ends t r = (front : List ℕ) × (t ≡ front ++ r)

ends_more : (t u r : List ℕ) → Ends t u → Ends u r → Ends t r
ends_more t u r (f, e) (g, d) = (f ++ g, e ∙ ap (λ z. f ++ z) d ∙ sym (append_assoc f g r))

skipped_ends : (t r : List ℕ) → Skipped t r → Ends t r
skipped_ends t r (inl s) = (s.front, s.text)
skipped_ends t r (inr s) = (t, sym (ap (λ z. t ++ z) s.nothing ∙ append-nil t))

mark_ends : (t : List ℕ) → Ends t (without_byte_order_mark t)
mark_ends [] = ([], refl)
mark_ends (c ∷ t) = go (c == 65279)
  where
    go : (b : Bool) → Ends (c ∷ t) (cond b t (c ∷ t))
    go true = (c ∷ [], refl)
    go false = ([], refl)

line_ends : (t r : List ℕ) → IsWithoutLine t r → Ends t r
line_ends t r (inl s) = (35 ∷ 33 ∷ s.line, s.text_is)
line_ends t r (inr (same, none)) = ([], sym same)

front_ends : (t body : List ℕ) → IsWithoutPreamble t body → Ends t body
front_ends t body is = ends_more t (without_byte_order_mark t) body (mark_ends t) (line_ends (without_byte_order_mark t) body is)

-- If no token was lexed from a source, the rest is the source after white space and comments.
pub none_cut : (t r : List ℕ) → IsCutUpTo t [] r → Ends t r
none_cut t r cut = ends_more t cut.body r (front_ends t cut.body cut.front) (skipped_ends cut.body r cut.are_cuts)

-- ---- lemmas about the last token

-- A record about the last token of a text that begins at the byte offset `at`: the byte offset of the token, and the
-- byte offset of the rest after it.
pub record LastAt (at : ℕ) (t : List ℕ) (w : CutSource) (r : List ℕ) : Type 0 where
  pub front : List ℕ
  pub gap : List ℕ
  pub text_is : t ≡ front ++ (source_text w.token ++ (gap ++ r))
  pub place_is : w.at ≡ at + byte_len front
  pub skips : Skipped (gap ++ r) r

-- If text is added before the text of the last token, the token's byte offset in the file stays the same.
later : (from at : ℕ) (front t u : List ℕ) (w : CutSource) (r : List ℕ) → t ≡ front ++ u → from ≡ at + byte_len front
    → LastAt from u w r → LastAt at t w r
later from at front t u w r text place l = record {
  front = front ++ l.front;
  gap = l.gap;
  text_is = text ∙ ap (λ z. front ++ z) l.text_is
      ∙ sym (append_assoc front l.front (source_text w.token ++ (l.gap ++ r)));
  place_is = omega (arith, place, l.place_is, byte_len-append front l.front);
  skips = l.skips;
}

-- A token at the start of a text is at the byte offset after the white space and comments before it.
token_front : (at : ℕ) (t : List ℕ) (w : CutSource) (after : List ℕ) → Skipped t (source_text w.token ++ after)
    → w.at + byte_len (source_text w.token ++ after) ≡ at + byte_len t
    → (front : List ℕ) × (t ≡ front ++ (source_text w.token ++ after)) × (w.at ≡ at + byte_len front)
token_front at t w after skipped place =
    let found = skipped_ends t (source_text w.token ++ after) skipped in (
      found.0,
      found.1,
      omega (
        arith,
        place,
        ap byte_len found.1,
        byte_len-append found.0 (source_text w.token ++ after),
      ),
    )

last_cut : (at : ℕ) (t : List ℕ) (cuts : List CutSource) (w : CutSource) (r : List ℕ)
    → SourcesUpTo at t (cuts ++ w ∷ []) r → LastAt at t w r
last_cut at t [] w r (after, skipped, is, place, end) =
    let found = token_front at t w after skipped place in
    let last = skipped_ends after r end in
    record {
      front = found.0;
      gap = last.0;
      text_is = found.1 ∙ ap (λ z. found.0 ++ (source_text w.token ++ z)) last.1;
      place_is = found.2;
      skips = subst (λ z. Skipped z r) last.1 end;
    }
last_cut at t (v ∷ cuts) w r (after, skipped, is, place, more) =
    let s : List ℕ = source_text v.token in
    let found = token_front at t v after skipped place in
    let text : t ≡ (found.0 ++ s) ++ after = found.1 ∙ sym (append_assoc found.0 s after) in
    let from : source_end v ≡ at + byte_len (found.0 ++ s) = omega (arith, found.2, byte_len-append found.0 s) in
    later (source_end v) at (found.0 ++ s) t after w r text from (last_cut (source_end v) after cuts w r more)

pub last_at : (t : List ℕ) (cuts : List CutSource) (w : CutSource) (r : List ℕ) → IsCutUpTo t (cuts ++ w ∷ []) r
    → LastAt 0 t w r
last_at t cuts w r cut =
    let begun = front_ends t cut.body cut.front in
    let from : cut.at ≡ 0 + byte_len begun.0 = omega (
      arith,
      cut.place,
      ap byte_len begun.1,
      byte_len-append begun.0 cut.body,
    ) in
    later cut.at 0 begun.0 t cut.body w r begun.1 from (last_cut cut.at cut.body cuts w r cut.are_cuts)

-- ---- lemmas about edits

-- The edits stay the same if equal text is appended to the old and to the new text.
pub edited_longer : (at : ℕ) (old : List ℕ) (ws : List CutSource) (es : List (Option (List ℕ))) (new x : List ℕ)
    → IsEdited at old ws es new → IsEdited at (old ++ x) ws es (new ++ x)
edited_longer at old [] [] new x same = ap (λ z. z ++ x) same
edited_longer at old [] (e ∷ es) new x is = absurd is
edited_longer at old (w ∷ ws) [] new x is = absurd is
edited_longer at old (w ∷ ws) (e ∷ es) new x (gap, after, new_after, old_is, at_is, new_is, more) = (
  gap,
  after ++ x,
  new_after ++ x,
  longer old gap (source_text w.token) after old_is,
  at_is,
  longer new gap (edited_text e w.token) new_after new_is,
  edited_longer (source_end w) after ws es new_after x more,
)
  where
    longer : (t g s a : List ℕ) → t ≡ g ++ (s ++ a) → t ++ x ≡ g ++ (s ++ (a ++ x))
    longer t g s a is = ap (λ z. z ++ x) is ∙ append_assoc g (s ++ a) x ∙ ap (λ z. g ++ z) (append_assoc s a x)

-- If one more token is read, its old text, with the white space and comments before it, is appended to the old text.
-- Its new text is appended to the new text, and its edit to the edits.
pub edited_more : (at : ℕ) (old : List ℕ) (ws : List CutSource) (es : List (Option (List ℕ))) (new gap : List ℕ)
    (w : CutSource) (e : Option (List ℕ)) → IsEdited at old ws es new → w.at ≡ at + byte_len (old ++ gap)
    → IsEdited at (old ++ (gap ++ source_text w.token)) (ws ++ w ∷ []) (es ++ e ∷ [])
    (new ++ (gap ++ edited_text e w.token))
edited_more at old [] [] new gap w e same place = (
  old ++ gap,
  [],
  [],
  alone old (source_text w.token),
  place,
  alone new (edited_text e w.token) ∙ ap (λ z. (z ++ gap) ++ (edited_text e w.token ++ [])) same,
  refl,
)
  where
    alone : (t s : List ℕ) → t ++ (gap ++ s) ≡ (t ++ gap) ++ (s ++ [])
    alone t s = sym (append_assoc t gap s) ∙ ap (λ z. (t ++ gap) ++ z) (sym (append-nil s))
edited_more at old [] (d ∷ es) new gap w e is place = absurd is
edited_more at old (v ∷ ws) [] new gap w e is place = absurd is
edited_more at old (v ∷ ws) (d ∷ es) new gap w e (first, after, new_after, old_is, at_is, new_is, more) place =
    let s : List ℕ = source_text v.token in
    let here : w.at ≡ source_end v + byte_len (after ++ gap) = omega (
      arith,
      place,
      at_is,
      ap byte_len old_is,
      byte_len-append old gap,
      byte_len-append first (s ++ after),
      byte_len-append s after,
      byte_len-append after gap,
    ) in (
      first,
      after ++ (gap ++ source_text w.token),
      new_after ++ (gap ++ edited_text e w.token),
      longer old first s after (gap ++ source_text w.token) old_is,
      at_is,
      longer new first (edited_text d v.token) new_after (gap ++ edited_text e w.token) new_is,
      edited_more (source_end v) after ws es new_after gap w e more here,
    )
  where
    longer : (t g s a x : List ℕ) → t ≡ g ++ (s ++ a) → t ++ x ≡ g ++ (s ++ (a ++ x))
    longer t g s a x is = ap (λ z. z ++ x) is ∙ append_assoc g (s ++ a) x ∙ ap (λ z. g ++ z) (append_assoc s a x)

pub edits_more : (style : Style) (choice : Choice) (t : List ℕ) (seen : Seen) (ws : List CutSource)
    (es : List (Option (List ℕ))) (w : CutSource) (e : Option (List ℕ)) → AreEdits style choice t seen ws es
    → IsEditOf style choice t (seen_all seen ws) w e → AreEdits style choice t seen (ws ++ w ∷ []) (es ++ e ∷ [])
edits_more style choice t seen [] [] w e are is = (is, tt)
edits_more style choice t seen [] (d ∷ es) w e are is = absurd are
edits_more style choice t seen (v ∷ ws) [] w e are is = absurd are
edits_more style choice t seen (v ∷ ws) (d ∷ es) w e (first, are) is =
    (first, edits_more style choice t (seen_after seen v) ws es w e are is)

pub seen_more : (seen : Seen) (ws : List CutSource) (w : CutSource) → seen_all seen (ws ++ w ∷ [])
    ≡ seen_after (seen_all seen ws) w
seen_more seen [] w = refl
seen_more seen (v ∷ ws) w = seen_more (seen_after seen v) ws w
