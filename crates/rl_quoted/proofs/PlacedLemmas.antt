-- Lemmas about the spans in the file from which a literal's decoded value comes.
use Rattle.rl_lenient.proofs.Names.{Kind, SpannedText, Str}
use Rattle.rl_syntax.proofs.Common.{Bool, IsUtf8, List, [], ap, arith, chars, cond, encodes-chars, false, get_or, length, ltb, ltb-false, ltb-true, map, refl, subst, sym, true, ℕ, ◌+◌, ◌-◌, ◌∙◌, ◌∷◌, ◌≡◌, ◌≤◌}
use Rattle.std.proofs.Common.{min}
use Rattle.rl_syntax.specs.declared.span.Span.{Span}
use Rattle.rl_syntax.specs.Spans.{nowhere, entry_at, mapped_by_byte_spans}
use Rattle.rl_tokens.specs.Trees.{Tree, Trees, GroupTree, IdentTree, PunctTree, LiteralTree, NoTrees, MoreTrees, all_relocated, all_respanned, relocated, respanned}
use Rattle.rl_cursors.specs.Segments.{IsByteEnd, IsBytePlace, IsSegmentsOf, IsSpanTable, SegmentsState, begins_in, ends_in, unit_place, span_from, units_bytes}
use Rattle.rl_cursors.proofs.SegmentLemmas.{place_at_end, unit_span}
use Rattle.rl_cursors.proofs.SegmentLawLemmas.{end_in_text, place_in_text}
use Rattle.rl_cursors.proofs.SegmentStarts.{given_in_whole}
use Rattle.rl_cursors.specs.Ranges.{IsRangeOf}
use Rattle.rl_quoted.specs.declared.inside.Placing.{Placing}
use Rattle.rl_quoted.specs.declared.inside.Placing.TheVariants.{AtLiteral, InFile}
use Rattle.rl_quoted.specs.Inside.{AreMoved, AreMovedInside, IsMoved, IsReportedAt}

-- Both ends of the byte range from which a part of a literal's decoded value comes are within the literal's text.
pub range_fits : (kind : Kind) (t : List ℕ) (lo hi first last : ℕ) → IsUtf8 t
    → IsRangeOf kind (chars t) lo hi first last → (first ≤ length t) × (last ≤ length t)
range_fits kind t lo hi first last u r =
    let whole = ap length (encodes-chars t u) in
    let begins = place_in_text kind (chars t) lo first r.begins in
    (omega (arith, whole, begins), go (ltb lo hi) refl)
  where
    go : (b : Bool) → ltb lo hi ≡ b → last ≤ length t
    go true e = omega (
      arith,
      ap length (encodes-chars t u),
      end_in_text kind (chars t) (hi - 1) last
          (r.some (ltb-true lo hi e)),
    )
    go false e = omega (
      arith,
      ap length (encodes-chars t u),
      place_in_text kind (chars t) lo first r.begins,
      r.none
          (ltb-false lo hi e),
    )

-- ---- lemmas about tables with a span for each byte

-- A table has a span for each byte of a literal's decoded value: the span of the character or escape from which the
-- byte comes. For an index after the end, the table returns its last span.
entry_is : (s : SegmentsState) (base : Span) (table : List Span) (t : IsSpanTable s base table) (at : ℕ)
    → entry_at table at ≡ unit_span s base t.units at
entry_is s base table t at = go (ltb at (length table)) refl
  where
    go : (b : Bool) → ltb at (length table) ≡ b → entry_at table at ≡ unit_span s base t.units at
    go true e =
        let small = ltb-true at (length table) e in
        let same : min at (length table - 1) ≡ at = omega (arith, small) in
        ap (λ z. get_or table z nowhere) same ∙ t.spans at small
    go false e =
        let large = ltb-false at (length table) e in
        let n = length (units_bytes s.kind t.units) in
        let same : min at (length table - 1) ≡ n = omega (arith, large, t.long) in
        let begins = place_at_end begins_in s.kind t.units n (omega arith)
        ∙ sym (place_at_end begins_in s.kind t.units at (omega (arith, large, t.long))) in
        let ends = place_at_end ends_in s.kind t.units n (omega arith)
        ∙ sym (place_at_end ends_in s.kind t.units at (omega (arith, large, t.long))) in
        ap (λ z. get_or table z nowhere) same ∙ t.spans n (omega (arith, t.long))
        ∙ ap (λ z. span_from base (s.at + z) (s.at + unit_place ends_in s.kind t.units n)) begins
        ∙ ap (λ z. span_from base (s.at + unit_place begins_in s.kind t.units at) (s.at + z)) ends

record LooksUp (kind : Kind) (text : List ℕ) (base : Span) (table : List Span) (span : Span) : Type 0 where
  pub first : ℕ
  pub last : ℕ
  pub range : IsRangeOf kind text span.lo span.hi first last
  pub is : mapped_by_byte_spans table span ≡ span_from base first last

looks_up : (kind : Kind) (text : List ℕ) (s : SegmentsState) (base : Span) (table : List Span) (span : Span)
    → IsSegmentsOf kind text s → IsSpanTable s base table → LooksUp kind text base table span
looks_up kind text s base table span whole t = go (ltb span.lo span.hi) refl
  where
    place : ℕ → ℕ
    place at = s.at + unit_place begins_in s.kind t.units at

    end : ℕ → ℕ
    end at = s.at + unit_place ends_in s.kind t.units at

    begins : (at : ℕ) → IsBytePlace kind text at (place at)
    begins at = given_in_whole begins_in kind text s at (place at) whole
        (record { units = t.units; are_left = t.are_left; place_is = refl })

    ends : (at : ℕ) → IsByteEnd kind text at (end at)
    ends at = given_in_whole ends_in kind text s at (end at) whole
        (record { units = t.units; are_left = t.are_left; place_is = refl })

    first_is : mapped_by_byte_spans table span ≡ record { file = base.file; lo = base.lo + place span.lo; hi = cond (ltb span.lo span.hi) (entry_at table (span.hi - 1)).hi (base.lo + place span.lo) }
    first_is = ap (λ (x : Span). record { file = x.file; lo = x.lo; hi = cond (ltb span.lo span.hi) (entry_at table (span.hi - 1)).hi x.lo }) (entry_is s base table t span.lo)

    go : (b : Bool) → ltb span.lo span.hi ≡ b → LooksUp kind text base table span
    go true e = record {
      first = place span.lo;
      last = end (span.hi - 1);
      range = record { begins = begins span.lo; some = λ h. ends (span.hi - 1); none = λ h. let small = ltb-true span.lo span.hi e in absurd (omega (arith, small, h)) };
      is = first_is ∙ ap (λ b. record { file = base.file; lo = base.lo + place span.lo; hi = cond b (entry_at table (span.hi - 1)).hi (base.lo + place span.lo) }) e ∙ ap (λ (y : Span). record { file = base.file; lo = base.lo + place span.lo; hi = y.hi }) (entry_is s base table t (span.hi - 1));
    }
    go false e = record {
      first = place span.lo;
      last = place span.lo;
      range = record { begins = begins span.lo; some = λ h. let large = ltb-false span.lo span.hi e in absurd (omega (arith, large, h)); none = λ h. refl };
      is = first_is ∙ ap (λ b. record { file = base.file; lo = base.lo + place span.lo; hi = cond b (entry_at table (span.hi - 1)).hi (base.lo + place span.lo) }) e;
    }

-- The span that a table gives for a range of a string literal's decoded value is the span in the file from which the
-- range comes.
spans_by : (token : SpannedText) (s : SegmentsState) (table : List Span) → IsSegmentsOf Str (chars token.text) s
    → IsSpanTable s token.span table → token.span.lo + length token.text ≡ token.span.hi → (span : Span)
    → IsReportedAt InFile token span (mapped_by_byte_spans table span)
spans_by token s table whole t long span =
    let found = looks_up Str (chars token.text) s token.span table span whole t in
    record { placed = λ e. (found.first, found.last, found.range, found.is); other = λ e. absurd (e long) }

-- ---- lemmas about the spans of token trees

mutual
  tree_relocated : (goes : Span → Span → Type 0) (table : List Span) → ((s : Span) → goes s (mapped_by_byte_spans table s))
      → (t : Tree) → IsMoved goes t (relocated table t)
  tree_relocated goes table h (GroupTree d inside span) = (
    all_relocated table inside,
    mapped_by_byte_spans table span,
    inside_relocated goes table h inside,
    h span,
    refl,
  )
  tree_relocated goes table h (IdentTree i) = (mapped_by_byte_spans table i.span, h i.span, refl)
  tree_relocated goes table h (PunctTree p) = (mapped_by_byte_spans table p.span, h p.span, refl)
  tree_relocated goes table h (LiteralTree l) = (mapped_by_byte_spans table l.span, h l.span, refl)

  inside_relocated : (goes : Span → Span → Type 0) (table : List Span) → ((s : Span) → goes s (mapped_by_byte_spans table s))
      → (ts : Trees) → AreMovedInside goes ts (all_relocated table ts)
  inside_relocated goes table h NoTrees = refl
  inside_relocated goes table h (MoreTrees t ts) = (
    relocated table t,
    all_relocated table ts,
    tree_relocated goes table
        h t,
    inside_relocated goes table h ts,
    refl,
  )

are_relocated : (goes : Span → Span → Type 0) (table : List Span) → ((s : Span) → goes s (mapped_by_byte_spans table s))
    → (ts : List Tree) → AreMoved goes ts (map (relocated table) ts)
are_relocated goes table h [] = refl
are_relocated goes table h (t ∷ ts) = (
  relocated table t,
  map (relocated table) ts,
  tree_relocated goes table h t,
  are_relocated goes table h ts,
  refl,
)

mutual
  tree_respanned : (goes : Span → Span → Type 0) (place : Span) → ((s : Span) → goes s place) → (t : Tree)
      → IsMoved goes t (respanned place t)
  tree_respanned goes place h (GroupTree d inside span) = (
    all_respanned place inside,
    place,
    inside_respanned goes
        place h inside,
    h span,
    refl,
  )
  tree_respanned goes place h (IdentTree i) = (place, h i.span, refl)
  tree_respanned goes place h (PunctTree p) = (place, h p.span, refl)
  tree_respanned goes place h (LiteralTree l) = (place, h l.span, refl)

  inside_respanned : (goes : Span → Span → Type 0) (place : Span) → ((s : Span) → goes s place) → (ts : Trees)
      → AreMovedInside goes ts (all_respanned place ts)
  inside_respanned goes place h NoTrees = refl
  inside_respanned goes place h (MoreTrees t ts) = (
    respanned place t,
    all_respanned place ts,
    tree_respanned goes place
        h t,
    inside_respanned goes place h ts,
    refl,
  )

are_respanned : (goes : Span → Span → Type 0) (place : Span) → ((s : Span) → goes s place) → (ts : List Tree)
    → AreMoved goes ts (map (respanned place) ts)
are_respanned goes place h [] = refl
are_respanned goes place h (t ∷ ts) = (
  respanned place t,
  map (respanned place) ts,
  tree_respanned goes place h t,
  are_respanned goes place h ts,
  refl,
)

-- A table has a span in the file for each byte of a string literal's decoded value. If the spans of the value's token
-- trees are looked up in the table, each token tree has the span in the file from which it comes.
pub moved_by_table : (token : SpannedText) (s : SegmentsState) (base : Span) (table : List Span) (cut trees : List Tree)
    → IsSegmentsOf Str (chars token.text) s → base ≡ token.span → IsSpanTable s base table
    → token.span.lo + length token.text ≡ token.span.hi → trees ≡ map (relocated table) cut
    → AreMoved (IsReportedAt InFile token) cut trees
moved_by_table token s base table cut trees whole from t long is =
    let goes = IsReportedAt InFile token in
    subst (AreMoved goes cut) (sym is) (are_relocated goes table
    (spans_by token s table whole (subst (λ b. IsSpanTable s b table) from t) long) cut)

-- If the spans of token trees are replaced by the literal's span, each token tree has the literal's span.
pub moved_at_literal : (placing : Placing) (token : SpannedText) (place : Span) (cut trees : List Tree) → placing
    ≡ AtLiteral → place ≡ token.span → trees ≡ map (respanned place) cut
    → AreMoved (IsReportedAt placing token) cut trees
moved_at_literal placing token place cut trees at from is =
    let goes = IsReportedAt AtLiteral token in
    let moved : AreMoved goes cut (map (respanned place) cut) = are_respanned goes place (λ s. from) cut in
    subst (λ p. AreMoved (IsReportedAt p token) cut trees) (sym at) (subst (AreMoved goes cut) (sym is) moved)

-- If a literal's span isn't as long as its text, the token trees of its decoded value get the literal's span.
pub moved_elsewhere : (token : SpannedText) (place : Span) (cut trees : List Tree) → place ≡ token.span
    → (token.span.lo + length token.text ≡ token.span.hi → ⊥) → trees ≡ map (respanned place) cut
    → AreMoved (IsReportedAt InFile token) cut trees
moved_elsewhere token place cut trees from other is =
    let goes = IsReportedAt InFile token in
    subst (AreMoved goes cut) (sym is) (are_respanned goes place
    (λ s. record { placed = λ long. absurd (other long); other = λ h. from }) cut)
