-- A source can be split into tokens in only one way. The tokens of a text are also its tokens as a source.
use Rattle.rl_syntax.proofs.Common.{◌≡◌, ℕ, inl, inr, true, false, ◌==◌, cond, List, [], ◌∷◌, ◌++◌, map, Option, Some, None, drop, refl, sym, ◌∙◌, ap, subst, arith, lit<, and_parts, append_cancel_right, none-some, list_all, option_map}
use Rattle.rl_syntax.specs.Texts.{first_passes, byte_len, is_start, is_continue, begins_char}
use Rattle.rl_syntax.specs.Trivia.{inside_text}
use Rattle.rl_lexer.specs.Lexemes.{Lexeme, lexeme_text, IsLexeme, IsRun, LexemeForm, form_of}
use Rattle.rl_lexer.specs.Cuts.{LexedToken, end_of, LexesUpTo}
use Rattle.rl_lexer.specs.Mirrors.LexemeAt.{after_apostrophe, after_suffix, after_single, literal_at, raw_at, word_at, LetterRHead, ApostropheHead, SlashHead, lexeme_at}
use Rattle.rl_syntax.specs.Classes.{after_run, is_hash}
use Rattle.rl_lexer.specs.Mirrors.SourceAt.{other_at, stray_at}
use Rattle.rl_lexer.specs.Sources.{is_in_line, is_apostrophe, SourceLexeme, PlainToken, RawIdentifierToken, LifetimeToken, RawLifetimeToken, DocLineToken, DocBlockToken, BadQuoteToken, StrayToken, source_text, IsProper, IsSource, SourceKind, PlainKind, source_kind, BeginsNoSource, without_byte_order_mark, IsScriptLine, IsWithoutLine, CutSource, source_end, SourcesUpTo, told, OneLexing, plain_cut, HoldsLexemes}
use Rattle.rl_lexer.proofs.Comments.{same_Some}
use Rattle.rl_lexer.proofs.LexemeFronts.{at_class, class39, class47, class114, lexeme_at-past, same_pair, start_ascii}
use Rattle.rl_lexer.proofs.LexemeRows.{not_among, run_past}
use Rattle.rl_lexer.proofs.Pieces.{one_rest}
use Rattle.rl_lexer.proofs.BadQuotes.{continue_39}
use Rattle.rl_lexer.proofs.SourceFronts.{IsLate, IsOther, late_first, other_at-past, stray_at-past}

-- ---- no lexeme begins where another token does

raw_no_lexeme : (c : ℕ) (u : List ℕ) → is_start c ≡ true → lexeme_at (114 ∷ 35 ∷ c ∷ u) ≡ None
raw_no_lexeme c u is =
    let hash : (c == 35) ≡ false = not_among c 35 is_start is (start_ascii 35 (lit< tt)) in
    let quote : (c == 34) ≡ false = not_among c 34 is_start is (start_ascii 34 (lit< tt)) in
    let raw : Option (LexemeForm × List ℕ) = literal_at (raw_at (35 ∷ c ∷ u)) in
    let word : Option (LexemeForm × List ℕ) = word_at (35 ∷ c ∷ u) in
    at_class 114 (35 ∷ c ∷ u) LetterRHead class114
    ∙ ap (λ b. cond (begins_char 34 (cond b (after_run is_hash u) (c ∷ u))) raw (cond (is_start c) None word)) hash
    ∙ ap (λ b. cond b raw (cond (is_start c) None word)) quote
    ∙ ap (λ b. cond b None word) is

no_single : (c : ℕ) (s : List ℕ) → (c == 92) ≡ false → first_passes is_apostrophe s ≡ false → after_single (c ∷ s)
    ≡ None
no_single c [] plain free = refl
no_single c (e ∷ u) plain free = ap (λ b. cond b (after_apostrophe u) (cond (e == 39) (Some u) None)) plain
    ∙ ap (λ b. cond b (Some u) None) free

row_free : (more t : List ℕ) → IsRun is_continue more t → first_passes is_apostrophe t ≡ false
    → first_passes is_apostrophe (more ++ t) ≡ false
row_free [] t run free = free
row_free (d ∷ more) t run free = not_among d 39 is_continue (and_parts (is_continue d) (list_all is_continue more)
    run.each).0 continue_39

lifetime_no_lexeme : (c : ℕ) (s : List ℕ) → is_start c ≡ true → first_passes is_apostrophe s ≡ false
    → lexeme_at (39 ∷ c ∷ s) ≡ None
lifetime_no_lexeme c s is free =
    at_class 39 (c ∷ s) ApostropheHead class39
    ∙ ap (λ o. literal_at (option_map after_suffix o)) (no_single c s
    (not_among c 92 is_start is (start_ascii 92 (lit< tt))) free)

other_no_lexeme : (w : SourceLexeme) (t : List ℕ) → IsOther w → IsSource w t → lexeme_at (source_text w ++ t) ≡ None
other_no_lexeme (PlainToken l) t other is = absurd other
other_no_lexeme (RawIdentifierToken c more) t other is = raw_no_lexeme c (more ++ t) is.0
other_no_lexeme (LifetimeToken c more) t other (is, free, plain) = lifetime_no_lexeme c (more ++ t) is.0
    (row_free more t is.1 free)
other_no_lexeme (RawLifetimeToken c more) t other is = at_class 39 (114 ∷ 35 ∷ c ∷ more ++ t) ApostropheHead class39
other_no_lexeme (DocLineToken body) t other is = at_class 47 (47 ∷ body ++ t) SlashHead class47
other_no_lexeme (DocBlockToken i) t other is = at_class 47 (42 ∷ inside_text i ++ t) SlashHead class47
other_no_lexeme (BadQuoteToken q) t other is = absurd other
other_no_lexeme (StrayToken c) t other is = absurd other

-- ---- at most one token begins a text

pub record SameToken (v w : SourceLexeme) (x y : List ℕ) : Type 0 where
  pub kind : source_kind v ≡ source_kind w
  pub rest : x ≡ y

-- A token is of one of three sorts: a lexeme; a doc comment, a lifetime or a raw identifier; an invalid quoted literal or a stray
-- character.
data Sort (w : SourceLexeme) : Type 0 where
  IsPlainSort : (l : Lexeme) (is : w ≡ PlainToken l) → Sort w
  IsOtherSort : (is : IsOther w) → Sort w
  IsLateSort : (is : IsLate w) → Sort w

sort_of : (w : SourceLexeme) → Sort w
sort_of (PlainToken l) = IsPlainSort l refl
sort_of (RawIdentifierToken c more) = IsOtherSort tt
sort_of (LifetimeToken c more) = IsOtherSort tt
sort_of (RawLifetimeToken c more) = IsOtherSort tt
sort_of (DocLineToken body) = IsOtherSort tt
sort_of (DocBlockToken i) = IsOtherSort tt
sort_of (BadQuoteToken q) = IsLateSort tt
sort_of (StrayToken c) = IsLateSort tt

other_proper : (w : SourceLexeme) (t : List ℕ) → IsOther w → IsSource w t → IsProper w t
other_proper (PlainToken l) t other is = absurd other
other_proper (RawIdentifierToken c more) t other is = is
other_proper (LifetimeToken c more) t other is = is
other_proper (RawLifetimeToken c more) t other is = is
other_proper (DocLineToken body) t other is = is
other_proper (DocBlockToken i) t other is = is
other_proper (BadQuoteToken q) t other is = absurd other
other_proper (StrayToken c) t other is = absurd other

both_plain : (l m : Lexeme) (x y : List ℕ) → IsLexeme l x → IsLexeme m y → lexeme_text l ++ x ≡ lexeme_text m ++ y
    → SameToken (PlainToken l) (PlainToken m) x y
both_plain l m x y is js e =
    let p = same_pair (form_of l) (form_of m) x y (sym (lexeme_at-past l x is) ∙ ap lexeme_at e ∙ lexeme_at-past m y js)
    in
    record { kind = ap PlainKind p.0; rest = p.1 }

both_other : (v w : SourceLexeme) (x y : List ℕ) → IsOther v → IsOther w → IsSource v x → IsSource w y → source_text v
    ++ x ≡ source_text w ++ y → SameToken v w x y
both_other v w x y a b is js e =
    let p : ◌≡◌ {A = Option (SourceKind × List ℕ)} (Some (source_kind v, x)) (Some (source_kind w, y)) = sym
    (other_at-past v x a is) ∙ ap other_at e ∙ other_at-past w y b js in
    let q : ◌≡◌ {A = SourceKind × List ℕ} (source_kind v, x) (source_kind w, y) = same_Some (source_kind v, x)
    (source_kind w, y) p in
    record { kind = ap (λ (z : SourceKind × List ℕ). z.0) q; rest = ap (λ (z : SourceKind × List ℕ). z.1) q }

not_mixed : (l : Lexeme) (w : SourceLexeme) (x y : List ℕ) → IsOther w → IsLexeme l x → IsSource w y → lexeme_text l
    ++ x ≡ source_text w ++ y → ⊥
not_mixed l w x y b is js e = none-some (form_of l, x) (sym (other_no_lexeme w y b js) ∙ ap lexeme_at (sym e)
    ∙ lexeme_at-past l x is)

not_late : (v w : SourceLexeme) (x y : List ℕ) → IsProper w y → IsLate v → IsSource v x → source_text v
    ++ x ≡ source_text w ++ y → ⊥
not_late v w x y is late js e = late_first v x late js (w, y, is, e)

both_late : (v w : SourceLexeme) (x y : List ℕ) → IsLate v → IsLate w → IsSource v x → IsSource w y → source_text v
    ++ x ≡ source_text w ++ y → SameToken v w x y
both_late v w x y a b is js e =
    let p : ◌≡◌ {A = Option (SourceKind × List ℕ)} (Some (source_kind v, x)) (Some (source_kind w, y)) = sym
    (stray_at-past v x a is) ∙ ap stray_at e ∙ stray_at-past w y b js in
    let q : ◌≡◌ {A = SourceKind × List ℕ} (source_kind v, x) (source_kind w, y) = same_Some (source_kind v, x)
    (source_kind w, y) p in
    record { kind = ap (λ (z : SourceKind × List ℕ). z.0) q; rest = ap (λ (z : SourceKind × List ℕ). z.1) q }

pub one_token : (v w : SourceLexeme) (x y : List ℕ) → IsSource v x → IsSource w y → source_text v ++ x ≡ source_text w ++ y
    → SameToken v w x y
one_token v w x y is js e = go (sort_of v) (sort_of w)
  where
    as_plain : (u : SourceLexeme) (z : List ℕ) (l : Lexeme) → u ≡ PlainToken l → IsSource u z → IsLexeme l z
    as_plain u z l same is = subst (λ (k : SourceLexeme). IsSource k z) same is

    text : (u k : SourceLexeme) (z : List ℕ) → u ≡ k → source_text u ++ z ≡ source_text k ++ z
    text u k z same = ap (λ q. source_text q ++ z) same

    moved : (a b : SourceLexeme) → v ≡ a → w ≡ b → SameToken a b x y → SameToken v w x y
    moved a b p q same = subst (λ (z : SourceLexeme). SameToken z w x y) (sym p)
        (subst (λ (z : SourceLexeme). SameToken a z x y) (sym q) same)

    go : Sort v → Sort w → SameToken v w x y
    go (IsPlainSort l p) (IsPlainSort m q) =
        moved (PlainToken l) (PlainToken m) p q (both_plain l m x y (as_plain v x l p is) (as_plain w y m q js)
        (sym (text v (PlainToken l) x p) ∙ e ∙ text w (PlainToken m) y q))
    go (IsPlainSort l p) (IsOtherSort b) = absurd (not_mixed l w x y b (as_plain v x l p is) js
        (sym (text v (PlainToken l) x p) ∙ e))
    go (IsPlainSort l p) (IsLateSort b) = absurd (not_late w (PlainToken l) y x (as_plain v x l p is) b js
        (sym e ∙ text v (PlainToken l) x p))
    go (IsOtherSort a) (IsPlainSort m q) = absurd (not_mixed m v y x a (as_plain w y m q js) is
        (sym (text w (PlainToken m) y q) ∙ sym e))
    go (IsOtherSort a) (IsOtherSort b) = both_other v w x y a b is js e
    go (IsOtherSort a) (IsLateSort b) = absurd (not_late w v y x (other_proper v x a is) b js (sym e))
    go (IsLateSort a) (IsPlainSort m q) = absurd (not_late v (PlainToken m) x y (as_plain w y m q js) a is
        (e ∙ text w (PlainToken m) y q))
    go (IsLateSort a) (IsOtherSort b) = absurd (not_late v w x y (other_proper w y b js) a is e)
    go (IsLateSort a) (IsLateSort b) = both_late v w x y a b is js e

-- ---- lexed tokens

begins_source : (w : SourceLexeme) (r after : List ℕ) → BeginsNoSource r → r ≡ source_text w ++ after → IsSource w after
    → ⊥
begins_source w r after none e is = none (source_kind w) after
    (record { token = w; is_source = is; text_is = e; kind_is = refl })

told_same : (v w : CutSource) → source_kind v.token ≡ source_kind w.token → source_text v.token ≡ source_text w.token
    → v.at ≡ w.at → told v ≡ told w
told_same v w a b d =
    ap (λ z. (z, source_text v.token, v.at)) a ∙ ap (λ z. (source_kind w.token, z, v.at)) b
    ∙ ap (λ z. (source_kind w.token, source_text w.token, z)) d

one_cut : (at : ℕ) (t : List ℕ) (vs ws : List CutSource) (r s : List ℕ) → SourcesUpTo at t vs r → BeginsNoSource r
    → SourcesUpTo at t ws s → BeginsNoSource s → (map told vs ≡ map told ws) × (r ≡ s)
one_cut at t [] [] r s a none b none' = (refl, one_rest t r s a b)
one_cut at t [] (w ∷ ws) r s a none (y, b, js, n, more) none' = absurd
    (begins_source w.token r y none (one_rest t r (source_text w.token ++ y) a b) js)
one_cut at t (v ∷ vs) [] r s (x, a, is, m, more) none b none' = absurd
    (begins_source v.token s x none' (one_rest t s (source_text v.token ++ x) b a) is)
one_cut at t (v ∷ vs) (w ∷ ws) r s (x, a, is, m, more) none (y, b, js, n, more') none' =
    let e : source_text v.token ++ x ≡ source_text w.token ++ y = one_rest t (source_text v.token ++ x)
    (source_text w.token ++ y) a b in
    let same : SameToken v.token w.token x y = one_token v.token w.token x y is js e in
    let text : source_text v.token ≡ source_text w.token = append_cancel_right (source_text v.token)
    (source_text w.token) x (e ∙ ap (λ z. source_text w.token ++ z) (sym same.rest)) in
    let place : v.at ≡ w.at = omega (arith, m, n, ap byte_len e) in
    let ends : source_end v ≡ source_end w = omega (arith, place, ap byte_len text) in
    let more1 : SourcesUpTo (source_end v) x ws s =
    subst (λ (k : ℕ). SourcesUpTo k x ws s) (sym ends) (subst (λ (z : List ℕ). SourcesUpTo (source_end w) z ws s)
    (sym same.rest) more') in
    let rec = one_cut (source_end v) x vs ws r s more none more1 none' in
    (ap (λ z. z ∷ map told vs) (told_same v w same.kind text place) ∙ ap (λ z. told w ∷ z) rec.0, rec.1)

-- ---- the text before the first token

line_rest : (t r : List ℕ) → IsScriptLine t r → r ≡ after_run is_in_line (drop 2 t)
line_rest t r is = sym (run_past is_in_line is.line r is.is_line)
    ∙ ap (λ z. after_run is_in_line (drop 2 z)) (sym is.text_is)

one_line_front : (t r s : List ℕ) → IsWithoutLine t r → IsWithoutLine t s → r ≡ s
one_line_front t r s (inl a) (inl b) = line_rest t r a ∙ sym (line_rest t s b)
one_line_front t r s (inl a) (inr (e, none)) = absurd (none r a)
one_line_front t r s (inr (e, none)) (inl b) = absurd (none s b)
one_line_front t r s (inr (e, none)) (inr (d, none')) = e ∙ sym d

pub one_lexing : OneLexing
one_lexing t vs ws r s a none b none' =
    let body : a.body ≡ b.body = one_line_front (without_byte_order_mark t) a.body b.body a.front b.front in
    let at : a.at ≡ b.at = omega (arith, a.place, b.place, ap byte_len body) in
    let cuts : SourcesUpTo a.at a.body ws s = subst (λ (k : ℕ). SourcesUpTo k a.body ws s) (sym at)
    (subst (λ (z : List ℕ). SourcesUpTo b.at z ws s) (sym body) b.are_cuts) in
    one_cut a.at a.body vs ws r s a.are_cuts none cuts none'

-- ---- the lexer's tokens

lexed : (at : ℕ) (t : List ℕ) (cuts : List LexedToken) (r : List ℕ) → LexesUpTo at t cuts r
    → SourcesUpTo at t (map plain_cut cuts) r
lexed at t [] r h = h
lexed at t (w ∷ ws) r (after, skipped, is, place, more) = (after, skipped, is, place, lexed (end_of w) after ws r more)

pub holds_lexemes : HoldsLexemes
holds_lexemes t cuts r front are = record { at = 0; body = t; front = front; place = omega arith; are_cuts = lexed 0 t cuts r are }
