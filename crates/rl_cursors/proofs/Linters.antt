-- The steps of a linter that reads a source with `next_source_literal`: its start, a literal that it reports, another
-- literal, the source's end, and the source's error.
use Rattle.rl_syntax.proofs.Common.{◌≡◌, inl, inr, ℕ, ◌+◌, List, [], ◌∷◌, ◌++◌, length, refl, sym, ◌∙◌, ap, subst, chars, chars-nil, encodes-chars, AllByRecursion, IsUtf8}
use Rattle.rl_syntax.specs.Texts.{byte_len}
use Rattle.rl_lexer.specs.Cursors.{CursorState}
use Rattle.rl_lexer.specs.Sources.{CutSource, IsCutUpTo, IsLiteralText, IsOtherToken, PassesTo, SourceError, SourceErrorAt, SourceKind, TakesLiteralAfter, TakesSource, source_end, source_text, source_view}
use Rattle.rl_lexer.specs.declared.lex_error.LexKind.{LexKind}
use Rattle.rl_lexer.specs.declared.sources.SourceToken.{SourceToken}
use Rattle.rl_cursors.specs.Linters.{HasReported, IsLiteralThat, ReportsAll, ReportsOf}

module _ {R : Type 0} (Is : List ℕ → Type 0) (report : ℕ → ℕ → R) where
  -- Tokens that are read after others add their reports.
  more_reports : (ws vs : List CutSource) (ps qs : List R) → ReportsOf Is report ws ps → ReportsOf Is report vs qs
      → ReportsOf Is report (ws ++ vs) (ps ++ qs)
  more_reports [] vs ps qs e h = subst (λ (z : List R). ReportsOf Is report vs (z ++ qs)) (sym e) h
  more_reports (w ∷ ws) vs ps qs (inl (n, g)) h = inl (n, more_reports ws vs ps qs g h)
  more_reports (w ∷ ws) vs ps qs (inr (rest, r, e, g)) h =
      inr (rest ++ qs, r, ap (λ z. z ++ qs) e, more_reports ws vs rest qs g h)

  no_more_reports : (ws vs : List CutSource) (ps : List R) → ReportsOf Is report ws ps → ReportsOf Is report vs []
      → ReportsOf Is report (ws ++ vs) ps
  no_more_reports [] vs ps e h = subst (λ (z : List R). ReportsOf Is report vs z) (sym e) h
  no_more_reports (w ∷ ws) vs ps (inl (n, g)) h = inl (n, no_more_reports ws vs ps g h)
  no_more_reports (w ∷ ws) vs ps (inr (rest, r, e, g)) h = inr (rest, r, e, no_more_reports ws vs rest g h)

  others : (ws : List CutSource) → AllByRecursion IsOtherToken ws → ReportsOf Is report ws []
  others [] o = refl
  others (w ∷ ws) (o, os) = inl ((λ r. o r.literal), others ws os)

module _ {R : Type 0} {Is : List ℕ → Type 0} {report : ℕ → ℕ → R} {source : List ℕ} where
  -- At the start, nothing is reported.
  pub begun : {state : CursorState} → state.text ≡ source → IsCutUpTo (chars source) [] (chars state.rest)
      → HasReported Is report source state []
  begun e cut = record { tokens = []; text = e; are = cut; reports = refl }

  -- Tokens that aren't literals aren't reported.
  pub passed : {old new : CursorState} {found : List R} → HasReported Is report source old found → PassesTo old new
      → HasReported Is report source new found
  passed {old} {new} {found} s p =
      let done = subst (λ (t : List ℕ). IsCutUpTo (chars t) s.tokens (chars old.rest)) (sym s.text) s.are in
      record {
        tokens = s.tokens ++ p.cuts;
        text = p.same ∙ s.text;
        are = subst (λ (t : List ℕ). IsCutUpTo (chars t) (s.tokens ++ p.cuts) (chars new.rest)) s.text
            (p.goes_on s.tokens done);
        reports = no_more_reports Is report s.tokens p.cuts found s.reports (others Is report p.cuts p.others);
      }

  one_more : (old new : CursorState) (l : SourceToken) (found : List R) (s : HasReported Is report source old found)
      (k : TakesSource old l new) → IsCutUpTo (chars source) (s.tokens ++ (k.cut ∷ [])) (chars new.rest)
  one_more old new l found s k =
      let done = subst (λ (t : List ℕ). IsCutUpTo (chars t) s.tokens (chars old.rest)) (sym s.text) s.are in
      subst (λ (t : List ℕ). IsCutUpTo (chars t) (s.tokens ++ (k.cut ∷ [])) (chars new.rest)) s.text
      (k.goes_on s.tokens done)

  -- A literal whose text doesn't have the property isn't reported.
  pub other : {old new : CursorState} {l : SourceToken} {found : List R} → HasReported Is report source old found
      → TakesLiteralAfter old l new → (Is (chars l.text.now) → ⊥) → HasReported Is report source new found
  other {old} {new} {l} {found} h t n =
      let s = passed h t.passes in
      let b = t.takes.is_cut in
      record {
        tokens = s.tokens ++ (t.takes.cut ∷ []);
        text = t.takes.same ∙ s.text;
        are = one_more t.between new l found s t.takes;
        reports = no_more_reports Is report s.tokens (t.takes.cut ∷ []) found s.reports
            (inl ((λ r. n (subst (λ (x : List ℕ). Is x) b.chars_are r.has)), refl));
      }

  -- A literal whose text has the property is reported.
  pub reported : {old new : CursorState} {l : SourceToken} {found : List R} → HasReported Is report source old found
      → TakesLiteralAfter old l new → Is (chars l.text.now)
      → HasReported Is report source new (found ++ (report l.lo l.hi ∷ []))
  reported {old} {new} {l} {found} h t is =
      let s = passed h t.passes in
      let b = t.takes.is_cut in
      let w = t.takes.cut in
      let literal = subst (λ (k : SourceKind). IsLiteralText k (source_text w.token)) (sym b.kind_is)
      (subst (λ (x : List ℕ). IsLiteralText (source_view l.form) x) (sym b.chars_are) t.is_literal) in
      let r : IsLiteralThat Is w = record {
        literal = literal;
        has = subst (λ (x : List ℕ). Is x) (sym b.chars_are) is;
      } in
      let e : report l.lo l.hi ≡ report w.at (source_end w) =
      ap (λ n. report n l.hi) (sym b.lo_is) ∙ ap (λ n. report w.at n) (sym b.hi_is) in
      record {
        tokens = s.tokens ++ (w ∷ []);
        text = t.takes.same ∙ s.text;
        are = one_more t.between new l found s t.takes;
        reports = more_reports Is report s.tokens (w ∷ []) found (report l.lo l.hi ∷ []) s.reports
            (inr ([], r, ap (λ q. q ∷ []) e, refl));
      }

  -- At the end of the source, all is reported.
  pub ended : {old new : CursorState} {found : List R} → HasReported Is report source old found → PassesTo old new
      → new.rest ≡ [] → ReportsAll Is report source found
  ended h p e =
      let s = passed h p in
      record {
        tokens = s.tokens;
        are = subst (λ (r : List ℕ). IsCutUpTo (chars source) s.tokens r) (ap chars e ∙ chars-nil) s.are;
        reports = s.reports;
      }

  -- An error at the cursor is the first error of the source.
  pub failed : {old new : CursorState} {found : List R} (kind : LexKind) (at : ℕ) → IsUtf8 source
      → HasReported Is report source old found → PassesTo old new → SourceErrorAt kind (chars new.rest)
      → at + length new.rest ≡ length new.text → SourceError (chars source) kind at
  failed {old} {new} kind at utf8 h p error place =
      let s = passed h p in
      record {
        cuts = s.tokens;
        rest = chars new.rest;
        are_cuts = s.are;
        error = error;
        rest_place = ap (λ z. at + length z) (encodes-chars new.rest p.following.is_text) ∙ place
            ∙ ap length s.text ∙ sym (ap length (encodes-chars source utf8));
      }
