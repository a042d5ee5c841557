-- Lemmas about a draft: a source of which the literals up to a position are rewritten.
use Rattle.rl_syntax.proofs.Common.{◌≡◌, ℕ, ◌+◌, inl, inr, Ok, Err, Result, IfOk, string_bytes, List, [], ◌∷◌, ◌++◌, length, Option, Some, None, refl, not, ◌&&◌, Bool, false, true, sym, ◌∙◌, ap, subst, arith, append_assoc, append-nil, chars, chars-nil, IsUtf8, IsTrue}
use Rattle.std.specs.Prelude.{◌⊎◌, ◌↔◌, OnOk}
use Rattle.rl_syntax.specs.Texts.{IsTail, byte_len}
use Rattle.rl_syntax.proofs.TailLemmas.{tail_step}
use Rattle.rl_lexer.specs.Cursors.{CursorState, IsCursorState}
use Rattle.rl_lexer.specs.Skipping.{Skipped}
use Rattle.rl_lexer.specs.Sources.{BeginsNoSource, CutSource, IsBorrowedSource, IsCutUpTo, IsLiteralText, SourceBefore, SourceErrorAt, SourceKind, TakesSource, source_end, source_kind, source_text, source_view}
use Rattle.rl_lexer.specs.declared.lex_error.LexError.{LexError}
use Rattle.rl_lexer.specs.declared.sources.SourceToken.{SourceToken}
use Rattle.rl_lexer.proofs.CutLemmas.{byte_len-append}
use Rattle.rl_lexer.proofs.ErrorKinds.{char_len}
use Rattle.rl_style.specs.Calls.{CallState, Outside, advance_calls, is_in_call}
use Rattle.rl_style.specs.Recut.{begins_with_code}
use Rattle.rl_style.specs.Restylable.{GivesLiteral, GivesNone, Here, Behind, Passes, Stops, IsLiteralOfSource, RestylableState, is_field, last_after, passed}
use Rattle.rl_style.specs.Restyled.{IsEdited}
use Rattle.rl_style.specs.declared.restylable.Last.{Last}
use Rattle.rl_style.specs.declared.restylable.Last.TheVariants.{Other}
use Rattle.rl_style.specs.declared.restylable.Restylable.{Restylable}
use Rattle.rl_style.specs.declared.style.Style.{Style}
use Rattle.rl_style.proofs.Places.{same_place}
use Rattle.rl_restyle.specs.Places.{IsTextBetween}
use Rattle.rl_restyle.specs.Clean.{HasCleanTokens, IsCleanLiteral}
use Rattle.rl_restyle.specs.Edits.{IsChosen, IsChosenLiteral, IsEditOf, IsOfKinds, IsRestyleError, IsRewritten, IsTextOf, Restyles, Seen, Surrounds, cut_bytes, is_rewritable, nothing_seen, seen_after}
use Rattle.rl_restyle.specs.Mirrors.{AreCleanIf, IsDraft, IsNextIn, seen_all, seen_of}
use Rattle.rl_restyle.specs.declared.edit.Choice.{Choice}
use Rattle.rl_restyle.specs.declared.edit.Restyled.{Restyled}
use Rattle.rl_restyle.specs.declared.edit.RestyleError.TheVariants.{Source}
use Rattle.rl_restyle.proofs.CleanLemmas.{literal_clean, other_clean, whole_clean}
use Rattle.rl_restyle.proofs.Pieces.{edited_longer, edited_more, edits_more, last_at, none_cut, seen_more}

-- ---- lemmas about the start of the source

pub draft_start : (style : Style) (choice : Choice) (text : List ℕ) (s : RestylableState) (at : ℕ) (out : List ℕ)
    (clean : Bool) → s.tokens.text ≡ text → IsCursorState text s.tokens.rest
    → IsCutUpTo (chars text) [] (chars s.tokens.rest) → s.last ≡ Other → s.end ≡ 0 → s.calls ≡ Outside → at ≡ 0
    → out ≡ [] → s.has_stray ≡ false → clean ≡ true → IsDraft style choice (chars text) s at out clean
draft_start style choice text s at out clean same cursor cut last end calls begin none no_stray yet =
    let found = none_cut (chars text) (chars s.tokens.rest) cut in
    let seen : Last → ℕ → CallState → Seen = λ d e k. record { last = d; end = e; calls = k } in
    record {
      whole = ap chars same;
      cursor = subst (λ z. IsCursorState z s.tokens.rest) (sym same) cursor;
      cuts = [];
      texts = [];
      are_cuts = cut;
      are_edits = tt;
      seen_is = ap (λ d. seen d 0 Outside) (sym last) ∙ ap (λ e. seen s.last e Outside) (sym end)
          ∙ ap (λ k. seen s.last s.end k) (sym calls);
      front = [];
      tail = [];
      gap = found.0;
      text_is = found.1;
      at_is = begin;
      is_edited = append-nil out ∙ none;
      clean_is = (λ h. tt, λ h. (yet, no_stray));
    }

-- ---- lemmas about the next token

record Next (style : Style) (choice : Choice) (t : List ℕ) (s : RestylableState) (at : ℕ) (out : List ℕ) (clean : Bool)
    (d : IsDraft style choice t s at out clean) (w : CutSource) (tokens : CursorState) : Type 0 where
  later : List ℕ
  text_is : t ≡ ((d.front ++ d.tail) ++ d.gap) ++ (source_text w.token ++ (later ++ chars tokens.rest))
  place_is : w.at ≡ byte_len ((d.front ++ d.tail) ++ d.gap)
  skips : Skipped (later ++ chars tokens.rest) (chars tokens.rest)
  cut : IsCutUpTo t (d.cuts ++ w ∷ []) (chars tokens.rest)
  cursor : IsCursorState tokens.text tokens.rest
  whole : chars tokens.text ≡ t

next_token : (style : Style) (choice : Choice) (t : List ℕ) (s : RestylableState) (at : ℕ) (out : List ℕ) (clean : Bool)
    (d : IsDraft style choice t s at out clean) (token : SourceToken) (tokens : CursorState)
    → (takes : TakesSource s.tokens token tokens) → Next style choice t s at out clean d takes.cut tokens
next_token style choice t s at out clean d token tokens takes =
    let w : CutSource = takes.cut in
    let r : List ℕ = chars s.tokens.rest in
    let before : List ℕ = (d.front ++ d.tail) ++ d.gap in
    let cut : IsCutUpTo t (d.cuts ++ w ∷ []) (chars tokens.rest) =
    subst (λ z. IsCutUpTo z (d.cuts ++ w ∷ []) (chars tokens.rest)) d.whole
    (takes.goes_on d.cuts (subst (λ z. IsCutUpTo z d.cuts r) (sym d.whole) d.are_cuts)) in
    let last = last_at t d.cuts w (chars tokens.rest) cut in
    let begun : t ≡ before ++ r = d.text_is ∙ sym (append_assoc (d.front ++ d.tail) d.gap r) in
    let text : t ≡ before ++ (source_text w.token ++ takes.after) = begun ∙ ap (λ z. before ++ z) takes.begins in
    let place : w.at ≡ byte_len before = omega (
      arith,
      takes.is_cut.lo_is,
      takes.place,
      char_len s.tokens.text d.cursor.is_text,
      ap byte_len d.whole,
      char_len s.tokens.rest d.cursor.following.is_text,
      ap byte_len begun,
      byte_len-append before r,
    ) in
    let same = same_place last.front before (source_text w.token ++ (last.gap ++ chars tokens.rest))
    (source_text w.token ++ takes.after) (sym last.text_is ∙ text) (omega (arith, last.place_is, place)) in
    record {
      later = last.gap;
      text_is = last.text_is ∙ ap (λ z. z ++ (source_text w.token ++ (last.gap ++ chars tokens.rest))) same.0;
      place_is = place;
      skips = last.skips;
      cut = cut;
      cursor = record {
        is_text = subst IsUtf8 (sym takes.same) d.cursor.is_text;
        following = subst (λ z. IsTail z tokens.rest) (sym takes.same)
            (tail_step s.tokens.text s.tokens.rest tokens.rest d.cursor.following takes.following);
      };
      whole = ap chars takes.same ∙ d.whole;
    }

-- A source consists of the text before the next token, the token, and the rest after it.
surrounds : (style : Style) (choice : Choice) (t : List ℕ) (s : RestylableState) (at : ℕ) (out : List ℕ) (clean : Bool)
    (d : IsDraft style choice t s at out clean) (token : SourceToken) (tokens : CursorState)
    → (takes : TakesSource s.tokens token tokens)
    → Surrounds t takes.cut ((d.front ++ d.tail) ++ d.gap) (chars tokens.rest)
surrounds style choice t s at out clean d token tokens takes =
    let n = next_token style choice t s at out clean d token tokens takes in
    record { after = n.later ++ chars tokens.rest; text_is = n.text_is; at_is = n.place_is; skips = n.skips }

-- After one more token, the definitions and the cursor's state give the next token equal contexts.
seen_passed : (s : RestylableState) (token : SourceToken) (tokens : CursorState) (w : CutSource)
    → IsBorrowedSource token w → seen_after (seen_of s) w ≡ seen_of (passed s token tokens)
seen_passed s token tokens w is =
    let seen : SourceKind → ℕ → ℕ → List ℕ → Seen = λ k lo hi b. record {
      last = last_after s.last s.end k lo b;
      end = hi;
      calls = advance_calls s.calls k b;
    } in
    let view : SourceKind = source_view token.form in
    ap (λ k. seen k w.at (source_end w) (cut_bytes w)) is.kind_is
    ∙ ap (λ n. seen view n (source_end w) (cut_bytes w)) is.lo_is
    ∙ ap (λ n. seen view token.lo n (cut_bytes w)) is.hi_is
    ∙ ap (λ b. seen view token.lo token.hi b) is.bytes_are

seen_next : (style : Style) (choice : Choice) (t : List ℕ) (s : RestylableState) (at : ℕ) (out : List ℕ) (clean : Bool)
    (d : IsDraft style choice t s at out clean) (token : SourceToken) (tokens : CursorState)
    → (takes : TakesSource s.tokens token tokens) → seen_all nothing_seen (d.cuts ++ takes.cut ∷ [])
    ≡ seen_of (passed s token tokens)
seen_next style choice t s at out clean d token tokens takes = seen_more nothing_seen d.cuts takes.cut
    ∙ ap (λ z. seen_after z takes.cut) d.seen_is ∙ seen_passed s token tokens takes.cut takes.is_cut

-- If a token stays unchanged, the new text of the draft stays unchanged.
draft_past : (style : Style) (choice : Choice) (t : List ℕ) (s : RestylableState) (at : ℕ) (out : List ℕ) (clean : Bool)
    → (d : IsDraft style choice t s at out clean) → (token : SourceToken) (tokens : CursorState)
    → (takes : TakesSource s.tokens token tokens) → IsEditOf style choice t (seen_of s) takes.cut None → (now : Bool)
    → AreCleanIf t (d.cuts ++ takes.cut ∷ []) (passed s token tokens) now
    → IsDraft style choice t (passed s token tokens) at out now
draft_past style choice t s at out clean d token tokens takes is now clean_now =
    let w : CutSource = takes.cut in
    let x : List ℕ = source_text w.token in
    let n = next_token style choice t s at out clean d token tokens takes in
    let more : IsEdited 0 ((d.front ++ d.tail) ++ (d.gap ++ x)) (d.cuts ++ w ∷ []) (d.texts ++ None ∷ [])
    ((out ++ d.tail) ++ (d.gap ++ x)) = edited_more 0 (d.front ++ d.tail) d.cuts d.texts (out ++ d.tail) d.gap w None
    d.is_edited (omega (arith, n.place_is)) in
    let here : ((d.front ++ d.tail) ++ d.gap) ++ x ≡ d.front ++ (d.tail ++ (d.gap ++ x)) =
    append_assoc (d.front ++ d.tail) d.gap x ∙ append_assoc d.front d.tail (d.gap ++ x) in
    record {
      whole = n.whole;
      cursor = n.cursor;
      cuts = d.cuts ++ w ∷ [];
      texts = d.texts ++ None ∷ [];
      are_cuts = n.cut;
      are_edits = edits_more style choice t nothing_seen d.cuts d.texts w None d.are_edits
          (subst (λ z. IsEditOf style choice t z w None) (sym d.seen_is) is);
      seen_is = seen_next style choice t s at out clean d token tokens takes;
      front = d.front;
      tail = d.tail ++ (d.gap ++ x);
      gap = n.later;
      text_is = n.text_is
          ∙ sym (append_assoc ((d.front ++ d.tail) ++ d.gap) x (n.later ++ chars tokens.rest))
          ∙ ap (λ z. z ++ (n.later ++ chars tokens.rest)) here;
      at_is = d.at_is;
      is_edited = subst (λ z. IsEdited 0 z (d.cuts ++ w ∷ []) (d.texts ++ None ∷ []) (out ++ (d.tail ++ (d.gap ++ x))))
          (append_assoc d.front d.tail (d.gap ++ x))
          (subst (λ z. IsEdited 0 ((d.front ++ d.tail) ++ (d.gap ++ x)) (d.cuts ++ w ∷ []) (d.texts ++ None ∷ []) z)
          (append_assoc out d.tail (d.gap ++ x)) more);
      clean_is = clean_now;
    }

-- If a new text replaces a token, the draft then contains the new text.
draft_put : (style : Style) (choice : Choice) (t : List ℕ) (s : RestylableState) (at : ℕ) (out : List ℕ) (clean : Bool)
    → (d : IsDraft style choice t s at out clean) → (token : SourceToken) (tokens : CursorState)
    → (takes : TakesSource s.tokens token tokens) (new : List ℕ)
    → IsEditOf style choice t (seen_of s) takes.cut (Some new) → (later_at : ℕ) (longer : List ℕ)
    → later_at ≡ token.hi → longer ≡ out ++ ((d.tail ++ d.gap) ++ new)
    → (now : Bool) → AreCleanIf t (d.cuts ++ takes.cut ∷ []) (passed s token tokens) now
    → IsDraft style choice t (passed s token tokens) later_at longer now
draft_put style choice t s at out clean d token tokens takes new is later_at longer at_is out_is now clean_now =
    let w : CutSource = takes.cut in
    let x : List ℕ = source_text w.token in
    let e : Option (List ℕ) = Some new in
    let n = next_token style choice t s at out clean d token tokens takes in
    let more : IsEdited 0 ((d.front ++ d.tail) ++ (d.gap ++ x)) (d.cuts ++ w ∷ []) (d.texts ++ e ∷ [])
    ((out ++ d.tail) ++ (d.gap ++ new)) = edited_more 0 (d.front ++ d.tail) d.cuts d.texts (out ++ d.tail) d.gap w e
    d.is_edited (omega (arith, n.place_is)) in
    let front : List ℕ = ((d.front ++ d.tail) ++ d.gap) ++ x in
    let old : (d.front ++ d.tail) ++ (d.gap ++ x) ≡ front ++ [] = sym (append_assoc (d.front ++ d.tail) d.gap x)
    ∙ sym (append-nil front) in
    let made : (out ++ d.tail) ++ (d.gap ++ new) ≡ longer ++ [] = append_assoc out d.tail (d.gap ++ new)
    ∙ ap (λ z. out ++ z) (sym (append_assoc d.tail d.gap new)) ∙ sym out_is ∙ sym (append-nil longer) in
    record {
      whole = n.whole;
      cursor = n.cursor;
      cuts = d.cuts ++ w ∷ [];
      texts = d.texts ++ e ∷ [];
      are_cuts = n.cut;
      are_edits = edits_more style choice t nothing_seen d.cuts d.texts w e d.are_edits
          (subst (λ z. IsEditOf style choice t z w e) (sym d.seen_is) is);
      seen_is = seen_next style choice t s at out clean d token tokens takes;
      front = front;
      tail = [];
      gap = n.later;
      text_is = n.text_is
          ∙ sym (append_assoc ((d.front ++ d.tail) ++ d.gap) x (n.later ++ chars tokens.rest))
          ∙ ap (λ z. z ++ (n.later ++ chars tokens.rest)) (sym (append-nil front));
      at_is = omega (
        arith,
        at_is,
        takes.is_cut.hi_is,
        n.place_is,
        byte_len-append ((d.front ++ d.tail) ++ d.gap) x,
      );
      is_edited = subst (λ z. IsEdited 0 z (d.cuts ++ w ∷ []) (d.texts ++ e ∷ []) (longer ++ [])) old
          (subst (λ z. IsEdited 0 ((d.front ++ d.tail) ++ (d.gap ++ x)) (d.cuts ++ w ∷ []) (d.texts ++ e ∷ []) z) made
          more);
      clean_is = clean_now;
    }

-- ---- lemmas about the next literal

-- The next literal of the cursor is `l`. The draft contains the new text of all tokens before it, and the cursor's state after it
-- is `new`.
record AtLiteral (style : Style) (choice : Choice) (t : List ℕ) (at : ℕ) (out : List ℕ) (clean : Bool) (l : Restylable)
    (new : RestylableState) : Type 0 where
  s : RestylableState
  tokens : CursorState
  draft : IsDraft style choice t s at out clean
  takes : TakesSource s.tokens l.token tokens
  is_literal : IsLiteralOfSource l.token
  field_is : l.is_field ≡ is_field s.last l.token.text.now (chars tokens.rest)
  inside_is : l.in_macro ≡ is_in_call s.calls
  new_is : new ≡ passed s l.token tokens

-- If a lexed token is a literal, the token that the cursor returns for it is a literal.
told_literal : (token : SourceToken) (w : CutSource) → IsBorrowedSource token w
    → IsLiteralText (source_kind w.token) (source_text w.token) → IsLiteralOfSource token
told_literal token w is h = subst (λ (k : SourceKind). IsLiteralText k (chars token.text.now)) is.kind_is
    (subst (λ z. IsLiteralText (source_kind w.token) z) is.chars_are h)

cut_literal : (token : SourceToken) (w : CutSource) → IsBorrowedSource token w → IsLiteralOfSource token
    → IsLiteralText (source_kind w.token) (source_text w.token)
cut_literal token w is h = subst (λ (k : SourceKind). IsLiteralText k (source_text w.token)) (sym is.kind_is)
    (subst (λ z. IsLiteralText (source_view token.form) z) (sym is.chars_are) h)

-- A token that isn't a literal has no edit.
other_edit : (style : Style) (choice : Choice) (t : List ℕ) (s : RestylableState) (at : ℕ) (out : List ℕ) (clean : Bool)
    → IsDraft style choice t s at out clean → (token : SourceToken) (tokens : CursorState)
    → (takes : TakesSource s.tokens token tokens) → (IsLiteralOfSource token → ⊥)
    → IsEditOf style choice t (seen_of s) takes.cut None
other_edit style choice t s at out clean d token tokens takes none = (
  (d.front ++ d.tail) ++ d.gap,
  chars tokens.rest,
  surrounds style choice t s at out clean d token tokens takes,
  inr (λ taken. none (told_literal token takes.cut takes.is_cut taken.0), refl),
)

to_literal : (style : Style) (choice : Choice) (t : List ℕ) (at : ℕ) (out : List ℕ) (clean : Bool)
    {old new : RestylableState} {l : Restylable} → IsDraft style choice t old at out clean → GivesLiteral old l new
    → AtLiteral style choice t at out clean l new
to_literal style choice t at out clean d (Here {s = s} {l = l} {tokens = tokens} takes is field inside) = record {
  s = s;
  tokens = tokens;
  draft = d;
  takes = takes;
  is_literal = is;
  field_is = field;
  inside_is = inside;
  new_is = refl;
}
to_literal style choice t at out clean d (Behind {s = s} {token = token} {tokens = tokens} takes none g) =
    to_literal style choice t at out clean
    (draft_past style choice t s at out clean d token tokens takes
    (other_edit style choice t s at out clean d token tokens takes none) clean
    (other_clean t d.cuts takes.cut s token tokens clean takes.is_cut (λ is. none (told_literal token takes.cut takes.is_cut is))
    d.clean_is)) g

pub to_none : (style : Style) (choice : Choice) (t : List ℕ) (at : ℕ) (out : List ℕ) (clean : Bool)
    {old new : RestylableState} → IsDraft style choice t old at out clean → GivesNone old new
    → IsDraft style choice t new at out clean × BeginsNoSource (chars new.tokens.rest)
to_none style choice t at out clean d (Stops none) = (d, none)
to_none style choice t at out clean d (Passes {s = s} {token = token} {tokens = tokens} takes none g) =
    to_none style choice t at out clean
    (draft_past style choice t s at out clean d token tokens takes
    (other_edit style choice t s at out clean d token tokens takes none) clean
    (other_clean t d.cuts takes.cut s token tokens clean takes.is_cut (λ is. none (told_literal token takes.cut takes.is_cut is))
    d.clean_is)) g

-- The text before the byte offset of the next literal is the old text before that literal.
literal_front : (style : Style) (choice : Choice) (t : List ℕ) (at : ℕ) (out : List ℕ) (clean : Bool) (l : Restylable)
    (new : RestylableState) → (a : AtLiteral style choice t at out clean l new)
    → IsTextBetween t 0 l.token.lo ((a.draft.front ++ a.draft.tail) ++ a.draft.gap)
literal_front style choice t at out clean l new a =
    let n = next_token style choice t a.s at out clean a.draft l.token a.tokens a.takes in
    record {
      front = [];
      rest = source_text a.takes.cut.token ++ (n.later ++ chars a.tokens.rest);
      text_is = n.text_is;
      lo_is = refl;
      hi_is = sym a.takes.is_cut.lo_is ∙ n.place_is;
    }

-- The part of the source between the last edit and the next literal is the text that the draft leaves unchanged.
literal_middle : (style : Style) (choice : Choice) (t : List ℕ) (at : ℕ) (out : List ℕ) (clean : Bool) (l : Restylable)
    (new : RestylableState) → (a : AtLiteral style choice t at out clean l new)
    → IsTextBetween t at l.token.lo (a.draft.tail ++ a.draft.gap)
literal_middle style choice t at out clean l new a =
    let n = next_token style choice t a.s at out clean a.draft l.token a.tokens a.takes in
    let rest : List ℕ = source_text a.takes.cut.token ++ (n.later ++ chars a.tokens.rest) in
    let same = append_assoc a.draft.front a.draft.tail a.draft.gap in
    record {
      front = a.draft.front;
      rest = rest;
      text_is = n.text_is ∙ ap (λ z. z ++ rest) same
          ∙ append_assoc a.draft.front (a.draft.tail ++ a.draft.gap) rest;
      lo_is = a.draft.at_is;
      hi_is = sym a.takes.is_cut.lo_is ∙ n.place_is ∙ ap byte_len same;
    }

pub next_front : (style : Style) (choice : Choice) (t : List ℕ) (at : ℕ) (out : List ℕ)
    (clean : Bool) (l : Restylable) → IsNextIn style choice t l at out clean
    → (front : List ℕ) × IsTextBetween t 0 l.token.lo front
next_front style choice t at out clean l (old, new, d, g) =
    let a = to_literal style choice t at out clean d g in
    ((a.draft.front ++ a.draft.tail) ++ a.draft.gap, literal_front style choice t at out clean l new a)

pub next_middle : (style : Style) (choice : Choice) (t : List ℕ) (at : ℕ) (out : List ℕ)
    (clean : Bool) (l : Restylable) → IsNextIn style choice t l at out clean
    → (middle : List ℕ) × IsTextBetween t at l.token.lo middle
next_middle style choice t at out clean l (old, new, d, g) =
    let a = to_literal style choice t at out clean d g in
    (a.draft.tail ++ a.draft.gap, literal_middle style choice t at out clean l new a)

-- The edit of a literal's token is the literal's new text, or no edit if the literal has no new text.
edit_of : (style : Style) (choice : Choice) (t : List ℕ) (at : ℕ) (out : List ℕ) (clean : Bool) (l : Restylable)
    (new : RestylableState) (e : Option (List ℕ)) → (a : AtLiteral style choice t at out clean l new)
    → IsTextOf style choice t l e → IsEditOf style choice t (seen_of a.s) a.takes.cut e
edit_of style choice t at out clean l new e a is = go is
  where
    before : List ℕ
    before = (a.draft.front ++ a.draft.tail) ++ a.draft.gap

    rest : List ℕ
    rest = chars a.tokens.rest

    same : is_rewritable choice.macros l.is_field l.in_macro
        ≡ is_rewritable choice.macros (is_field a.s.last (cut_bytes a.takes.cut) rest) (is_in_call a.s.calls)
    same = ap (λ z. is_rewritable choice.macros z l.in_macro)
        (a.field_is ∙ ap (λ z. is_field a.s.last z rest) (sym a.takes.is_cut.bytes_are))
        ∙ ap (λ z. is_rewritable choice.macros (is_field a.s.last (cut_bytes a.takes.cut) rest) z) a.inside_is

    chosen : IsChosenLiteral choice l → IsChosen choice (seen_of a.s) a.takes.cut rest
    chosen taken = (
      cut_literal l.token a.takes.cut a.takes.is_cut a.is_literal,
      sym same ∙ taken.0,
      subst (λ z. IsOfKinds choice.kinds z) (sym a.takes.is_cut.chars_are) taken.1,
    )

    told : IsChosen choice (seen_of a.s) a.takes.cut rest → IsChosenLiteral choice l
    told taken = (same ∙ taken.1, subst (λ z. IsOfKinds choice.kinds z) a.takes.is_cut.chars_are taken.2)

    around : Surrounds t a.takes.cut before rest
    around = surrounds style choice t a.s at out clean a.draft l.token a.tokens a.takes

    go : IsTextOf style choice t l e → IsEditOf style choice t (seen_of a.s) a.takes.cut e
    go (inl (taken, writes)) = (
      before,
      rest,
      around,
      inl (
        chosen taken,
        subst (λ z. IsRewritten style before z e) (sym a.takes.is_cut.chars_are)
            (writes before (literal_front style choice t at out clean l new a)),
      ),
    )
    go (inr (off, none)) = (before, rest, around, inr (λ taken. off (told taken), none))

-- The flag `now` is true exactly if `clean` is, and the literal has no error.
abbrev pub IsCleanNow : List ℕ → Bool → Restylable → Bool → Type 0
IsCleanNow t clean l now = IsTrue now ↔ (IsTrue clean × IsCleanLiteral t l.token.lo (chars l.token.text.now))

clean_past : (style : Style) (choice : Choice) (t : List ℕ) (at : ℕ) (out : List ℕ) (clean : Bool)
    (l : Restylable) (new : RestylableState) → (a : AtLiteral style choice t at out clean l new) → (now : Bool)
    → IsCleanNow t clean l now → AreCleanIf t (a.draft.cuts ++ a.takes.cut ∷ []) (passed a.s l.token a.tokens) now
clean_past style choice t at out clean l new a now is = literal_clean t a.draft.cuts a.takes.cut a.s l.token a.tokens
    clean now a.takes.is_cut (cut_literal l.token a.takes.cut a.takes.is_cut a.is_literal) is a.draft.clean_is

pub put_none : (style : Style) (choice : Choice) (t : List ℕ) (at : ℕ) (out : List ℕ) (clean : Bool)
    (l : Restylable) → IsTextOf style choice t l None → (now : Bool) → IsCleanNow t clean l now → (old new : RestylableState)
    → IsDraft style choice t old at out clean → GivesLiteral old l new → IsDraft style choice t new at out now
put_none style choice t at out clean l is now now_is old new d g =
    let a = to_literal style choice t at out clean d g in
    subst (λ (z : RestylableState). IsDraft style choice t z at out now) (sym a.new_is)
    (draft_past style choice t a.s at out clean a.draft l.token a.tokens a.takes
    (edit_of style choice t at out clean l new None a is) now (clean_past style choice t at out clean l new a now now_is))

pub put_some : (style : Style) (choice : Choice) (t : List ℕ) (at : ℕ) (out : List ℕ) (clean : Bool)
    (l : Restylable) (x : List ℕ) (later_at : ℕ) (longer : List ℕ)
    → IsTextOf style choice t l (Some x)
    → ((middle : List ℕ) → IsTextBetween t at l.token.lo middle → longer ≡ out ++ (middle ++ x))
    → later_at ≡ l.token.hi → (now : Bool) → IsCleanNow t clean l now
    → (old new : RestylableState) → IsDraft style choice t old at out clean → GivesLiteral old l new
    → IsDraft style choice t new later_at longer now
put_some style choice t at out clean l x later_at longer is text at_is now now_is old new d g =
    let a = to_literal style choice t at out clean d g in
    subst (λ (z : RestylableState). IsDraft style choice t z later_at longer now) (sym a.new_is)
    (draft_put style choice t a.s at out clean a.draft l.token a.tokens a.takes x
    (edit_of style choice t at out clean l new (Some x) a is) later_at longer at_is
    (text (a.draft.tail ++ a.draft.gap) (literal_middle style choice t at out clean l new a)) now
    (clean_past style choice t at out clean l new a now now_is))

-- ---- lemmas about the end of the source

-- If the rest of the source begins with no token and has no error, it is empty.
pub none_left : (s : RestylableState) → BeginsNoSource (chars s.tokens.rest)
    → ((s.tokens.rest ≡ []) ⊎ ((kind : SourceKind) × (after : List ℕ) × SourceBefore (chars s.tokens.rest) kind after))
    → s.tokens.rest ≡ []
none_left s none (inl e) = e
none_left s none (inr (kind, after, is)) = absurd (none kind after is)

rest_end : (style : Style) (choice : Choice) (text : List ℕ) (s : RestylableState) (at : ℕ) (out : List ℕ)
    (clean : Bool) → (d : IsDraft style choice (chars text) s at out clean) → s.tokens.rest ≡ []
    → chars text ≡ (d.front ++ d.tail) ++ d.gap
rest_end style choice text s at out clean d none = d.text_is
    ∙ ap (λ z. (d.front ++ d.tail) ++ (d.gap ++ z)) (ap chars none ∙ chars-nil)
    ∙ ap (λ z. (d.front ++ d.tail) ++ z) (append-nil d.gap)

pub last_piece : (style : Style) (choice : Choice) (text : List ℕ) (s : RestylableState) (at : ℕ) (out : List ℕ)
    (clean : Bool) → IsUtf8 text → (d : IsDraft style choice (chars text) s at out clean)
    → s.tokens.rest ≡ [] → IsTextBetween (chars text) at (length text) (d.tail ++ d.gap)
last_piece style choice text s at out clean u d none =
    let whole : chars text ≡ d.front ++ (d.tail ++ d.gap) = rest_end style choice text s at out clean d none
    ∙ append_assoc d.front d.tail d.gap in
    record {
      front = d.front;
      rest = [];
      text_is = whole ∙ ap (λ z. d.front ++ z) (sym (append-nil (d.tail ++ d.gap)));
      lo_is = d.at_is;
      hi_is = sym (char_len text u) ∙ ap byte_len whole;
    }

pub all_restyled : (style : Style) (choice : Choice) (text : List ℕ) (s : RestylableState) (at : ℕ) (out new : List ℕ)
    (clean : Bool) → IsUtf8 text → IsTrue (begins_with_code (chars text))
    → IsDraft style choice (chars text) s at out clean → s.tokens.rest ≡ []
    → ((rest : List ℕ) → IsTextBetween (chars text) at (length text) rest → new ≡ out ++ rest)
    → Restyles style choice (chars text) new
all_restyled style choice text s at out new clean u code d none text_is =
    let whole : chars text ≡ (d.front ++ d.tail) ++ d.gap = rest_end style choice text s at out clean d none in
    let made : new ≡ (out ++ d.tail) ++ d.gap = text_is (d.tail ++ d.gap)
    (last_piece style choice text s at out clean u d none) ∙ sym (append_assoc out d.tail d.gap) in
    let more : IsEdited 0 ((d.front ++ d.tail) ++ d.gap) d.cuts d.texts ((out ++ d.tail) ++ d.gap) =
    edited_longer 0 (d.front ++ d.tail) d.cuts d.texts (out ++ d.tail) d.gap d.is_edited in
    record {
      is_code = code;
      cuts = d.cuts;
      texts = d.texts;
      are_cuts = subst (λ z. IsCutUpTo (chars text) d.cuts z) (ap chars none ∙ chars-nil) d.are_cuts;
      are_edits = d.are_edits;
      is_edited = subst (λ z. IsEdited 0 z d.cuts d.texts new) (sym whole)
          (subst (λ z. IsEdited 0 ((d.front ++ d.tail) ++ d.gap) d.cuts d.texts z) (sym made) more);
    }

pub source_error : (style : Style) (choice : Choice) (text : List ℕ) (s : RestylableState) (at : ℕ) (out : List ℕ)
    (clean : Bool) (e : LexError) → IsTrue (begins_with_code (chars text))
    → IsDraft style choice (chars text) s at out clean → SourceErrorAt e.kind (chars s.tokens.rest)
    → e.at + length s.tokens.rest ≡ length s.tokens.text → IsRestyleError (chars text) (Source e)
source_error style choice text s at out clean e code d is place = (
  code,
  record {
    cuts = d.cuts;
    rest = chars s.tokens.rest;
    are_cuts = d.are_cuts;
    error = is;
    rest_place = omega (
      arith,
      place,
      char_len s.tokens.rest d.cursor.following.is_text,
      char_len s.tokens.text d.cursor.is_text,
      ap byte_len d.whole,
    );
  },
)

-- ---- lemmas about the results of function calls

pub put_done : {X E : Type 0} (style : Style) (choice : Choice) (t : List ℕ) (at : ℕ) (out : List ℕ)
    (clean : Bool) (l : Restylable) (x : List ℕ) (later_at : ℕ) (longer : List ℕ)
    (r : Result X E) → IsTextOf style choice t l (Some x)
    → OnOk r ((middle : List ℕ) → IsTextBetween t at l.token.lo middle → longer ≡ out ++ (middle ++ x))
    → OnOk r (later_at ≡ l.token.hi) → (same now : Bool)
    → OnOk r (now ≡ same) → IsCleanNow t clean l same
    → OnOk r ((old new : RestylableState) → IsDraft style choice t old at out clean → GivesLiteral old l new
    → IsDraft style choice t new later_at longer now)
put_done style choice t at out clean l x later_at longer (Ok done) is text at_is same now now_is same_is =
    put_some style choice t at out clean l x later_at longer is text at_is now
    (subst (λ z. IsCleanNow t clean l z) (sym now_is) same_is)
put_done style choice t at out clean l x later_at longer (Err e) is text at_is same now now_is same_is = tt

pub finished_whole : {A E : Type 0} (style : Style) (choice : Choice) (text : List ℕ) (s : RestylableState) (at : ℕ)
    (out : List ℕ) (clean : Bool) (r : Result (Restyled A) E) → IsUtf8 text
    → IsTrue (begins_with_code (chars text)) → IsDraft style choice (chars text) s at out clean → s.tokens.rest ≡ []
    → IfOk r (λ x. (rest : List ℕ) → IsTextBetween (chars text) at (length text) rest
    → chars (string_bytes x.text) ≡ out ++ rest)
    → IfOk r (λ x. Restyles style choice (chars text) (chars (string_bytes x.text)))
finished_whole style choice text s at out clean (Ok x) u code d none text_is =
    all_restyled style choice text s at out (chars (string_bytes x.text)) clean u code d none text_is
finished_whole style choice text s at out clean (Err e) u code d none text_is = tt

pub finished_clean : {A E : Type 0} (style : Style) (choice : Choice) (text : List ℕ) (s : RestylableState) (at : ℕ)
    (out : List ℕ) (clean stray : Bool) (r : Result (Restyled A) E)
    → IsDraft style choice (chars text) s at out clean → s.tokens.rest ≡ [] → stray ≡ s.has_stray
    → IfOk r (λ x. x.is_clean ≡ (clean && not stray)) → IfOk r (λ x. IsTrue x.is_clean ↔ HasCleanTokens (chars text))
finished_clean style choice text s at out clean stray (Ok x) d none same is =
    whole_clean (chars text) d.cuts s clean x.is_clean
    (subst (λ z. IsCutUpTo (chars text) d.cuts z) (ap chars none ∙ chars-nil) d.are_cuts) d.clean_is
    (is ∙ ap (λ b. clean && not b) same)
finished_clean style choice text s at out clean stray (Err e) d none same is = tt
