-- Lemmas about the tokens between one literal of a source and the next.
use Rattle.rl_syntax.proofs.Common.{◌≡◌, ◌⊎◌, inl, inr, ℕ, None, Some, true, false, ◌==◌, ◌+◌, ◌-◌, ◌≤◌, List, [], ◌∷◌, ◌++◌, refl, sym, ap, subst, ◌∙◌, append_assoc, append-nil, arith, AllByRecursion, chars}
use Rattle.rl_syntax.specs.Texts.{byte_len, is_white, IsTail}
use Rattle.rl_syntax.specs.Trivia.{White}
use Rattle.rl_lexer.specs.Skipping.{Skipped}
use Rattle.rl_lexer.specs.Cursors.{CursorState, IsCursorState}
use Rattle.rl_lexer.specs.Sources.{CutSource, SourceKind, source_kind, source_text, source_view, SourceBefore, SourcesUpTo, source_end, IsCutUpTo, TakesSource, IsLiteralText, IsOtherToken, PassesTo}
use Rattle.rl_lexer.specs.Mirrors.LiteralsAt.{HasOnlyOtherTokens, Reaches}
use Rattle.rl_lexer.specs.Mirrors.SkippedAt.{after_piece}
use Rattle.rl_syntax.specs.Classes.{after_run}
use Rattle.rl_lexer.specs.declared.sources.SourceToken.{SourceToken}
use Rattle.rl_syntax.proofs.TailLemmas.{tail_step}
use Rattle.rl_lexer.proofs.CutLemmas.{byte_len-append}
use Rattle.rl_lexer.proofs.ErrorKinds.{char_len}
use Rattle.rl_lexer.proofs.Pieces.{after_piece-past, one_rest, skipped_after, skipped_again, skipped_here, skipped_run}
use Rattle.rl_syntax.proofs.Rests.{tail_length}
use Rattle.rl_lexer.proofs.SourceCuts.{cut_more}

all_join : (vs ws : List CutSource) → AllByRecursion IsOtherToken vs → AllByRecursion IsOtherToken ws
    → AllByRecursion IsOtherToken (vs ++ ws)
all_join [] ws each more = more
all_join (v ∷ vs) ws each more = (each.0, all_join vs ws each.1 more)

-- ---- texts between which there are only tokens that aren't literals

pub holds_start : (t : List ℕ) → HasOnlyOtherTokens t t
holds_start t = record {
  cuts = λ _. [];
  others = λ _. tt;
  within = omega arith;
  goes_on = λ whole done _ cut. subst (λ z. IsCutUpTo whole z t) (sym (append-nil done)) cut;
}

pub holds_join : (t u r : List ℕ) → HasOnlyOtherTokens t u → HasOnlyOtherTokens u r → HasOnlyOtherTokens t r
holds_join t u r p q = record {
  cuts = λ whole. p.cuts whole ++ q.cuts whole;
  others = λ whole. all_join (p.cuts whole) (q.cuts whole) (p.others whole) (q.others whole);
  within = omega (arith, p.within, q.within);
  goes_on = λ whole done long cut.
      subst (λ z. IsCutUpTo whole z r) (append_assoc done (p.cuts whole) (q.cuts whole))
      (q.goes_on whole (done ++ p.cuts whole) (omega (arith, p.within, long)) (p.goes_on whole done long cut));
}

-- If a text consists of a token that isn't a literal, white space and comments, and the text `r`, only tokens that
-- aren't literals precede `r`.
pub holds_one : (t after r : List ℕ) (kind : SourceKind) (token : SourceBefore t kind after)
    → (IsLiteralText kind (source_text token.token) → ⊥) → Skipped after r → byte_len r ≤ byte_len after
    → HasOnlyOtherTokens t r
holds_one t after r kind token other skipped short =
    let w = token.token in
    let long : byte_len t ≡ byte_len (source_text w) + byte_len after = ap byte_len token.text_is
    ∙ byte_len-append (source_text w) after in
    record {
      cuts = λ whole. record { token = w; at = byte_len whole - byte_len t } ∷ [];
      others = λ whole. (λ is. other (subst (λ z. IsLiteralText z (source_text w)) token.kind_is is), tt);
      within = omega (arith, long, short);
      goes_on = λ whole done room cut. cut_more whole done t (record { token = w; at = byte_len whole - byte_len t })
          after r cut token.text_is token.is_source (omega (arith, room)) skipped;
    }

-- The text after white space and comments isn't longer than the text.
skipped_len : (t r : List ℕ) → Skipped t r → byte_len r ≤ byte_len t
skipped_len t r (inl s) = omega (arith, ap byte_len s.text, byte_len-append s.front r)
skipped_len t r (inr s) = let e : byte_len r ≡ 0 = ap byte_len s.nothing in omega (arith, e)

cut_skipped : (at : ℕ) (t : List ℕ) (done : List CutSource) (r : List ℕ) → SourcesUpTo at t done r → Skipped r r
cut_skipped at t [] r cut = skipped_again t r cut
cut_skipped at t (w ∷ ws) r cut = cut_skipped (source_end w) cut.0 ws r cut.4

pub holds_skipped : (t start r : List ℕ) → Skipped t start → HasOnlyOtherTokens start r → HasOnlyOtherTokens t r
holds_skipped t start r skipped h = record {
  cuts = h.cuts;
  others = h.others;
  within = omega (arith, h.within, skipped_len t start skipped);
  goes_on = λ whole done room cut.
      let same : t ≡ start = one_rest t t start (cut_skipped cut.at cut.body done t cut.are_cuts) skipped in
      h.goes_on whole done (omega (arith, room, skipped_len t start skipped)) (subst (IsCutUpTo whole done) same cut);
}

pub reach_end : (t r : List ℕ) → Skipped t r → Reaches t r
reach_end t r skipped = record { start = r; skipped = skipped; holds = holds_start r }

pub reach_white : (c : ℕ) (t r : List ℕ) → is_white c ≡ true → Reaches t r → Reaches (c ∷ t) r
reach_white c t r white h = record { start = h.start; skipped = skipped_after (c ∷ t) t h.start (after_piece-past (White c) t white) h.skipped; holds = h.holds }

-- Suppose that only white space, comments and tokens other than literals precede the text `r`. This is still so if
-- white space or a plain comment is added at the start of the whole text.
pub reach_piece : (t u r : List ℕ) → after_piece t ≡ Some u → Reaches u r → Reaches t r
reach_piece t u r piece h = record { start = h.start; skipped = skipped_after t u h.start piece h.skipped; holds = h.holds }

pub reach_run : (t u r : List ℕ) → u ≡ after_run is_white t → Reaches u r → Reaches t r
reach_run t u r run h = record { start = h.start; skipped = skipped_run t u h.start run h.skipped; holds = h.holds }

-- Suppose that only white space, comments and tokens other than literals precede the text `r`. This is still so if a
-- token other than a literal is added at the start of the whole text.
pub reach_first : (t after r : List ℕ) (kind : SourceKind) → after_piece t ≡ None
    → (token : SourceBefore t kind after) → (IsLiteralText kind (source_text token.token) → ⊥) → Reaches after r
    → Reaches t r
reach_first t after r kind none token other h = record {
  start = t;
  skipped = skipped_here t none;
  holds = holds_join t h.start r (holds_one t after h.start kind token other h.skipped
      (skipped_len after h.start h.skipped)) h.holds;
}

pub reach_token : (c : ℕ) (t after r : List ℕ) (kind : SourceKind) → (c == 47) ≡ false → is_white c ≡ false
    → (token : SourceBefore (c ∷ t) kind after) → (IsLiteralText kind (source_text token.token) → ⊥) → Reaches after r
    → Reaches (c ∷ t) r
reach_token c t after r kind slash white token other h = reach_first (c ∷ t) after r kind (rw (slash, white) refl) token
    other h

-- ---- states of the cursor between which there are only tokens that aren't literals

pub passes_held : (text left rest : List ℕ) → IsCursorState text left → IsTail left rest
    → HasOnlyOtherTokens (chars left) (chars rest) → PassesTo (record { text = text; rest = left })
    (record { text = text; rest = rest })
passes_held text left rest is tail holds = record {
  cuts = holds.cuts (chars text);
  others = holds.others (chars text);
  goes_on = λ done cut. holds.goes_on (chars text) done (omega
      (arith, char_len text is.is_text, char_len left is.following.is_text, tail_length text left is.following)) cut;
  same = refl;
  following = tail;
}

passes_join : (a b d : CursorState) → PassesTo a b → PassesTo b d → PassesTo a d
passes_join a b d p q = record {
  cuts = p.cuts ++ q.cuts;
  others = all_join p.cuts q.cuts p.others q.others;
  goes_on = λ done cut.
      let before : IsCutUpTo (chars b.text) (done ++ p.cuts) (chars b.rest) = subst
      (λ z. IsCutUpTo (chars z) (done ++ p.cuts) (chars b.rest)) (sym p.same) (p.goes_on done cut) in
      let more = subst (λ z. IsCutUpTo (chars z) ((done ++ p.cuts) ++ q.cuts) (chars d.rest)) p.same
      (q.goes_on (done ++ p.cuts) before) in
      subst (λ z. IsCutUpTo (chars a.text) z (chars d.rest)) (append_assoc done p.cuts q.cuts) more;
  same = q.same ∙ p.same;
  following = tail_step a.rest b.rest d.rest p.following q.following;
}

-- The cursor hasn't moved, or has passed tokens that aren't literals.
abbrev pub Passed : CursorState → CursorState → Type 0
Passed a b = (b ≡ a) ⊎ PassesTo a b

pub passed_join : (a b d : CursorState) → Passed a b → PassesTo b d → PassesTo a d
passed_join a b d (inl same) q = subst (λ z. PassesTo z d) same q
passed_join a b d (inr p) q = passes_join a b d p q

-- If the form and the text of a token that the code consumed aren't those of a literal, the token isn't a literal by
-- the definitions.
is_no_literal : (old new : CursorState) (l : SourceToken) → (t : TakesSource old l new)
    → (IsLiteralText (source_view l.form) (chars l.text.now) → ⊥) → IsOtherToken t.cut
is_no_literal old new l t other = λ is. other (subst (λ z. IsLiteralText z (chars l.text.now)) t.is_cut.kind_is
    (subst (IsLiteralText (source_kind t.cut.token)) t.is_cut.chars_are is))

pub passes_one : (old new : CursorState) (l : SourceToken) → TakesSource old l new
    → (IsLiteralText (source_view l.form) (chars l.text.now) → ⊥) → PassesTo old new
passes_one old new l t other = record { cuts = t.cut ∷ []; others = (is_no_literal old new l t other, tt); goes_on = t.goes_on; same = t.same; following = t.following }
