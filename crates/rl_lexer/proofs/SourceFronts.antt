-- Doc comments, lifetimes and raw identifiers at the start of a text: `other_at` consumes exactly these.
use Rattle.rl_syntax.proofs.Common.{◌≡◌, ℕ, inl, inr, Bool, true, false, not, ◌||◌, ◌==◌, cond, List, [], ◌∷◌, ◌++◌, append-nil, Option, Some, None, drop, refl, sym, ◌∙◌, ap, subst, Bor, arith, or_parts, ltb-false, none-some, is_ascii, ⊤, codes, list_all, IfSome, IfNone, option_map, option_and_then, chars}
use Rattle.rl_syntax.proofs.ScanLemmas.{not_false}
use Rattle.rl_syntax.specs.Texts.{first_passes, begins, begins_char}
use Rattle.rl_syntax.specs.Trivia.{Inside, inside_text, IsInside, is_comment_line, is_comment_block}
use Rattle.rl_lexer.specs.Skipping.{Skipped}
use Rattle.rl_syntax.specs.Scanning.{is_one_of, is_other, IsNextMark}
use Rattle.rl_lexer.specs.Lexemes.{lexeme_text, IsRun, LexemeBefore, LexemeForm, LiteralForm, begins_raw_identifier}
use Rattle.rl_lexer.specs.BadQuotes.{bad_quote_text}
use Rattle.rl_lexer.specs.Mirrors.LexemeAt.{begins_quote, FormBefore}
use Rattle.rl_syntax.specs.Classes.{after_run}
use Rattle.rl_lexer.specs.Mirrors.SkippedAt.{after_block}
use Rattle.rl_lexer.specs.Mirrors.SourceAt.{after_doc, after_name, after_marked, after_any_name, unless_quoted, after_lifetime, of_kind, other_at, opens, after_bad_quote, stray_at, or_stray, any_at}
use Rattle.rl_lexer.specs.Sources.{is_in_line, IsAfterLine, is_apostrophe, SourceLexeme, PlainToken, RawIdentifierToken, LifetimeToken, RawLifetimeToken, DocLineToken, DocBlockToken, BadQuoteToken, StrayToken, source_text, IsName, IsProper, BeginsProper, Opens, IsSource, SourceKind, PlainKind, RawIdentifierKind, LifetimeKind, DocCommentKind, StrayKind, source_kind, source_view, SourceBefore, BeginsNoSource, IsScriptLine}
use Rattle.rl_syntax.specs.declared.scan.Marks.{Marks}
use Rattle.rl_lexer.specs.declared.source.SourceForm.{SourceForm}
use Rattle.rl_syntax.proofs.LowBytes.{not_equal}
use Rattle.rl_lexer.proofs.Comments.{chosen, same_Some, Closes, after_block-sound, after_block-past, plain_line-same, plain_block-same}
use Rattle.rl_lexer.proofs.CommentSteps.{one_line}
use Rattle.rl_lexer.proofs.LexemeFound.{run_found}
use Rattle.rl_lexer.proofs.LexemeOpeners.{quote_begins, no_quote_begins}
use Rattle.rl_lexer.proofs.LexemeRows.{run_past}
use Rattle.rl_lexer.proofs.LexemeSteps.{only}
use Rattle.rl_lexer.proofs.Pieces.{is_equal, one_rest}
use Rattle.rl_lexer.proofs.SourceNames.{name_past, NameBefore, name_found, raw_rest}
use Rattle.rl_lexer.proofs.BadQuotes.{FoundQuote, bad_quote_found, bad_quote_opens, bad_quote_past}

-- ---- lines

line_stops : (m : Marks) (r : List ℕ) → m ≡ record { first = 10; second = 10; third = 10; fourth = 10 }
    → first_passes (is_other m) r ≡ false → first_passes is_in_line r ≡ false
line_stops m [] is h = refl
line_stops m (c ∷ r) is h = ap (λ x. not (x == 10)) (only m 10 c is (not_false (is_one_of m c) h))

pub line_ends : (m : Marks) (t a r : List ℕ) → m ≡ record { first = 10; second = 10; third = 10; fourth = 10 } → t ≡ a
    ++ r → list_all (is_other m) a ≡ true → first_passes (is_other m) r ≡ false → r ≡ after_run is_in_line t
line_ends m t a r is cut others stops =
    let run : IsRun is_in_line a r = record { each = one_line m a (ap (λ z. z.first) is) others; ends = line_stops m r is stops } in
    sym (ap (after_run is_in_line) cut ∙ run_past is_in_line a r run)

pub first_line : (m : Marks) (s t : List ℕ) (k : ℕ) → m ≡ record { first = 10; second = 10; third = 10; fourth = 10 }
    → IsNextMark m s k t → IsAfterLine s t
first_line m s t k is next = (
  next.front,
  one_line m next.front (ap (λ z. z.first) is) next.others,
  next.text_is
      ∙ ap (λ c. next.front ++ c ∷ t) (only m 10 k is next.is_mark),
)

pub no_line : (m : Marks) (s : List ℕ) → m ≡ record { first = 10; second = 10; third = 10; fourth = 10 }
    → list_all (is_other m) s ≡ true → list_all is_in_line s ≡ true
no_line m s is others = one_line m s (ap (λ z. z.first) is) others

-- Whether a line is a plain comment doesn't depend on the text after the line.
line_plain : (body t : List ℕ) → first_passes is_in_line t ≡ false → is_comment_line (body ++ t) ≡ is_comment_line body
line_plain body [] h = ap is_comment_line (append-nil body)
line_plain body (c ∷ t) h = ap (λ x. is_comment_line (body ++ x ∷ t)) (is_equal c 10 (not_false (c == 10) h))
    ∙ plain_line-same body t

-- ---- the start of a whole source

pub script_line : (t second following s r : List ℕ) → t ≡ 35 ∷ second → second ≡ 33 ∷ following → Skipped following s
    → begins_char 91 s ≡ false → r ≡ after_run is_in_line following → IsScriptLine t r
script_line t second following s r a b skipped other rest =
    let (run, is, same) = run_found is_in_line following in
    let e : following ≡ run ++ r = same ∙ ap (λ x. run ++ x) (sym rest) in
    record {
      line = run;
      text_is = a ∙ ap (λ x. 35 ∷ x) b ∙ ap (λ x. 35 ∷ 33 ∷ x) e;
      is_line = subst (λ (x : List ℕ). IsRun is_in_line run x) (sym rest) is;
      no_attribute = λ u v. let q : u ≡ s = one_rest following u s (subst (λ (x : List ℕ). Skipped x u) (sym e) v)
          skipped in ap (first_passes (λ c. c == 91)) q ∙ other;
    }

-- ---- each token is consumed

quoted_past : (t : List ℕ) → first_passes is_apostrophe t ≡ false → unless_quoted t ≡ Some t
quoted_past t h = ap (λ b. cond b None (Some t)) h

lifetime_past : (c : ℕ) (more t : List ℕ) → IsName c more t → first_passes is_apostrophe t ≡ false
    → begins_raw_identifier (c ∷ more ++ t) ≡ false → after_lifetime (c ∷ more ++ t) ≡ Some t
lifetime_past c more t is free plain =
    ap (λ b. option_and_then unless_quoted (cond b (after_name (drop 2 (c ∷ more ++ t))) (after_name (c ∷ more ++ t))))
    plain
    ∙ ap (option_and_then unless_quoted) (name_past c more t is)
    ∙ quoted_past t free

raw_lifetime_past : (c : ℕ) (more t : List ℕ) → IsName c more t → first_passes is_apostrophe t ≡ false
    → after_lifetime (114 ∷ 35 ∷ c ∷ more ++ t) ≡ Some t
raw_lifetime_past c more t is free =
    ap (λ b. option_and_then unless_quoted (cond b (after_name (c ∷ more ++ t))
    (after_name (114 ∷ 35 ∷ c ∷ more ++ t)))) is.0
    ∙ ap (option_and_then unless_quoted) (name_past c more t is)
    ∙ quoted_past t free

doc_line_past : (body t : List ℕ) → IsRun is_in_line body t → is_comment_line body ≡ false → after_doc (47 ∷ body ++ t)
    ≡ Some t
doc_line_past body t run doc =
    ap (λ b. cond b None (Some (after_run is_in_line (body ++ t)))) (line_plain body t run.ends ∙ doc)
    ∙ ap Some (run_past is_in_line body t run)

doc_block_past : (i : Inside) (t : List ℕ) → IsInside i → is_comment_block (inside_text i) ≡ false
    → after_doc (42 ∷ inside_text i ++ t) ≡ Some t
doc_block_past i t is doc =
    ap (λ b. cond b None (after_block 0 (inside_text i ++ t))) (plain_block-same i t ∙ doc) ∙ after_block-past i 0 t is

-- Whether a token is a doc comment, a lifetime or a raw identifier.
abbrev pub IsOther : SourceLexeme → Type 0
IsOther (PlainToken l) = ⊥
IsOther (BadQuoteToken q) = ⊥
IsOther (StrayToken c) = ⊥
IsOther _ = ⊤

pub other_at-past : (w : SourceLexeme) (t : List ℕ) → IsOther w → IsSource w t → other_at (source_text w ++ t)
    ≡ Some (source_kind w, t)
other_at-past (PlainToken l) t other is = absurd other
other_at-past (RawIdentifierToken c more) t other is = ap (of_kind RawIdentifierKind) (name_past c more t is)
other_at-past (LifetimeToken c more) t other (is, free, plain) = ap (of_kind LifetimeKind)
    (lifetime_past c more t is free plain)
other_at-past (RawLifetimeToken c more) t other (is, free) = ap (of_kind LifetimeKind)
    (raw_lifetime_past c more t is free)
other_at-past (DocLineToken body) t other (run, doc) = ap (of_kind DocCommentKind) (doc_line_past body t run doc)
other_at-past (DocBlockToken i) t other (is, doc) = ap (of_kind DocCommentKind) (doc_block_past i t is doc)
other_at-past (BadQuoteToken q) t other is = absurd other
other_at-past (StrayToken c) t other is = absurd other

-- ---- the consumed text is a token

marked_found : (t r : List ℕ) → after_marked t ≡ Some r → SourceBefore (114 ∷ t) RawIdentifierKind r
marked_found [] r h = absurd (none-some r h)
marked_found (c ∷ t) r h =
    elim (chosen (c == 35) (after_name t) None (Some r) h) [
      | inl (a, x) ↦ go a (name_found t r x)
      | inr (a, x) ↦ absurd (none-some r x)
    ]
  where
    go : (c == 35) ≡ true → NameBefore t r → SourceBefore (114 ∷ c ∷ t) RawIdentifierKind r
    go a (d, more, is, same) = record { token = RawIdentifierToken d more; is_source = is; text_is = ap (λ x. 114 ∷ x ∷ t) (is_equal c 35 a) ∙ ap (λ x. 114 ∷ 35 ∷ x) same; kind_is = refl }

any_name_found : (t r : List ℕ) → first_passes is_apostrophe r ≡ false → after_any_name t ≡ Some r
    → SourceBefore (39 ∷ t) LifetimeKind r
any_name_found t r free h =
    elim (chosen (begins_raw_identifier t) (after_name (drop 2 t)) (after_name t) (Some r) h) [
      | inl (a, x) ↦ raw a (name_found (drop 2 t) r x)
      | inr (a, x) ↦ plain a (name_found t r x)
    ]
  where
    raw : begins_raw_identifier t ≡ true → NameBefore (drop 2 t) r → SourceBefore (39 ∷ t) LifetimeKind r
    raw a (c, more, is, same) = record { token = RawLifetimeToken c more; is_source = (is, free); text_is = ap (λ x. 39 ∷ x) (raw_rest t a) ∙ ap (λ x. 39 ∷ 114 ∷ 35 ∷ x) same; kind_is = refl }

    plain : begins_raw_identifier t ≡ false → NameBefore t r → SourceBefore (39 ∷ t) LifetimeKind r
    plain a (c, more, is, same) = record { token = LifetimeToken c more; is_source = (is, free, ap begins_raw_identifier (sym same) ∙ a); text_is = ap (λ x. 39 ∷ x) same; kind_is = refl }

lifetime_found : (t r : List ℕ) → after_lifetime t ≡ Some r → SourceBefore (39 ∷ t) LifetimeKind r
lifetime_found t r h = go (after_any_name t) refl h
  where
    here : (m : List ℕ) → after_any_name t ≡ Some m → first_passes is_apostrophe m ≡ false → m ≡ r
        → SourceBefore (39 ∷ t) LifetimeKind r
    here m e free same = any_name_found t r (ap (first_passes is_apostrophe) (sym same) ∙ free) (e ∙ ap Some same)

    go : (o : Option (List ℕ)) → after_any_name t ≡ o → option_and_then unless_quoted o ≡ Some r
        → SourceBefore (39 ∷ t) LifetimeKind r
    go None e h = absurd (none-some r h)
    go (Some m) e h =
        elim (chosen (first_passes is_apostrophe m) None (Some m) (Some r) h) [
          | inl (a, x) ↦ absurd (none-some r x)
          | inr (a, x) ↦ here m e a (same_Some m r x)
        ]

pub doc_line_found : (t r : List ℕ) → is_comment_line t ≡ false → after_run is_in_line t ≡ r
    → SourceBefore (47 ∷ 47 ∷ t) DocCommentKind r
doc_line_found t r doc e =
    let (run, is, same) = run_found is_in_line t in
    let is_run : IsRun is_in_line run r = subst (λ (x : List ℕ). IsRun is_in_line run x) e is in
    let whole : t ≡ run ++ r = same ∙ ap (λ x. run ++ x) e in
    record { token = DocLineToken run; is_source = (is_run, sym (line_plain run r is_run.ends) ∙ ap is_comment_line (sym whole) ∙ doc); text_is = ap (λ x. 47 ∷ 47 ∷ x) whole; kind_is = refl }

pub doc_block_found : (t r : List ℕ) → is_comment_block t ≡ false → Closes 1 t r
    → SourceBefore (47 ∷ 42 ∷ t) DocCommentKind r
doc_block_found t r doc (i, m, is, same, more) =
    let whole : t ≡ inside_text i ++ r = same ∙ ap (λ x. inside_text i ++ x) more in
    record { token = DocBlockToken i; is_source = (is, sym (plain_block-same i r) ∙ ap is_comment_block (sym whole) ∙ doc); text_is = ap (λ x. 47 ∷ 42 ∷ x) whole; kind_is = refl }

doc_found : (t r : List ℕ) → after_doc t ≡ Some r → SourceBefore (47 ∷ t) DocCommentKind r
doc_found [] r h = absurd (none-some r h)
doc_found (c ∷ t) r h =
    elim (chosen (c == 47) (cond (is_comment_line t) None (Some (after_run is_in_line t)))
    (cond (c == 42) (cond (is_comment_block t) None (after_block 0 t)) None) (Some r) h) [
      | inl (a, x) ↦ elim (chosen (is_comment_line t) None (Some (after_run is_in_line t)) (Some r) x) [
        | inl (p, y) ↦ absurd (none-some r y)
        | inr (p, y) ↦ subst (λ (x : ℕ). SourceBefore (47 ∷ x ∷ t) DocCommentKind r) (sym (is_equal c 47 a))
            (doc_line_found t r p (same_Some (after_run is_in_line t) r y))
      ]
      | inr (a, x) ↦ elim (chosen (c == 42) (cond (is_comment_block t) None (after_block 0 t)) None (Some r) x) [
        | inl (b, y) ↦ elim (chosen (is_comment_block t) None (after_block 0 t) (Some r) y) [
          | inl (p, z) ↦ absurd (none-some r z)
          | inr (p, z) ↦ subst (λ (x : ℕ). SourceBefore (47 ∷ x ∷ t) DocCommentKind r) (sym (is_equal c 42 b))
              (doc_block_found t r p (after_block-sound 0 t r z))
        ]
        | inr (b, y) ↦ absurd (none-some r y)
      ]
    ]

abbrev Found : List ℕ → SourceKind × List ℕ → Type 0
Found t p = SourceBefore t p.0 p.1

of_kind_found : (kind : SourceKind) (o : Option (List ℕ)) (t : List ℕ) (p : SourceKind × List ℕ) → of_kind kind o
    ≡ Some p → ((r : List ℕ) → o ≡ Some r → SourceBefore t kind r) → Found t p
of_kind_found kind None t p h more = absurd (none-some p h)
of_kind_found kind (Some r) t p h more = subst (λ (x : SourceKind × List ℕ). Found t x) (same_Some (kind, r) p h)
    (more r refl)

pub other_at-found : (t : List ℕ) (p : SourceKind × List ℕ) → other_at t ≡ Some p → SourceBefore t p.0 p.1
other_at-found [] p h = absurd (none-some p h)
other_at-found (c ∷ t) p h =
    elim (chosen (c == 47) (of_kind DocCommentKind (after_doc t))
    (cond (c == 39) (of_kind LifetimeKind (after_lifetime t))
    (cond (c == 114) (of_kind RawIdentifierKind (after_marked t)) None)) (Some p) h) [
      | inl (a, x) ↦ subst (λ (z : ℕ). Found (z ∷ t) p) (sym (is_equal c 47 a))
          (of_kind_found DocCommentKind (after_doc t) (47 ∷ t) p x (doc_found t))
      | inr (a, x) ↦ elim (chosen (c == 39) (of_kind LifetimeKind (after_lifetime t))
          (cond (c == 114) (of_kind RawIdentifierKind (after_marked t)) None) (Some p) x) [
            | inl (b, y) ↦ subst (λ (z : ℕ). Found (z ∷ t) p) (sym (is_equal c 39 b))
                (of_kind_found LifetimeKind (after_lifetime t) (39 ∷ t) p y (lifetime_found t))
            | inr (b, y) ↦ elim (chosen (c == 114) (of_kind RawIdentifierKind (after_marked t)) None (Some p) y) [
              | inl (d, z) ↦ subst (λ (z : ℕ). Found (z ∷ t) p) (sym (is_equal c 114 d))
                  (of_kind_found RawIdentifierKind (after_marked t) (114 ∷ t) p z (marked_found t))
              | inr (d, z) ↦ absurd (none-some p z)
            ]
          ]
    ]

-- ---- invalid quoted literals and stray characters

-- If a token is well formed, and is neither an invalid quoted literal nor a stray character, it is a token of a source.
pub proper_source : (w : SourceLexeme) (t : List ℕ) → IsProper w t → IsSource w t
proper_source (PlainToken l) t is = is
proper_source (RawIdentifierToken c more) t is = is
proper_source (LifetimeToken c more) t is = is
proper_source (RawLifetimeToken c more) t is = is
proper_source (DocLineToken body) t is = is
proper_source (DocBlockToken i) t is = is
proper_source (BadQuoteToken q) t is = absurd is
proper_source (StrayToken c) t is = absurd is

true_false : (b : Bool) → b ≡ true → b ≡ false → ⊥
true_false true h k = absurd (cc)
true_false false h k = absurd (cc)

-- If `opens` returns `false` for a text, the text begins neither like a quoted literal nor like a block comment.
pub closed_here : (r : List ℕ) → opens r ≡ false → Opens r → ⊥
closed_here r h o =
    let e = or_parts (begins (codes "/*") r) (begins_quote r || begins_char 39 r) h in
    let d = or_parts (begins_quote r) (begins_char 39 r) e.1 in
    elim o [
      | inl q ↦ no_quote_begins r d.0 q
      | inr x ↦ elim x [
        | inl q ↦ true_false (first_passes is_apostrophe r) q d.1
        | inr q ↦ true_false (begins (codes "/*") r) q e.0
      ]
    ]

pub opens_here : (r : List ℕ) → (Opens r → ⊥) → opens r ≡ false
opens_here r none = go (begins (codes "/*") r) (begins_quote r) (begins_char 39 r) refl refl refl
  where
    go : (a b d : Bool) → begins (codes "/*") r ≡ a → begins_quote r ≡ b → (begins_char 39 r) ≡ d → (a || (b || d))
        ≡ false
    go true b d p q s = absurd (none (inr (inr p)))
    go false true d p q s = absurd (none (inl (quote_begins r q)))
    go false false true p q s = absurd (none (inr (inl s)))
    go false false false p q s = refl

-- ---- the results of the models, in terms of the definitions

pub plain_before : (t r : List ℕ) (form : LexemeForm) → FormBefore t form r → SourceBefore t (PlainKind form) r
plain_before t r form is = record { token = PlainToken is.lexeme; is_source = is.is_lexeme; text_is = is.text_is; kind_is = ap PlainKind is.form_is }

abbrev Answer : Type 0
Answer = Option (SourceForm × Bor (List ℕ))

abbrev seen : SourceForm × Bor (List ℕ) → SourceKind × List ℕ
seen p = (source_view p.0, chars p.1.now)

abbrev NoLexeme : List ℕ → Type 0
NoLexeme t = (after : List ℕ) → LexemeBefore t after → ⊥

no_proper : (t : List ℕ) → NoLexeme t → other_at t ≡ None → BeginsProper t → ⊥
no_proper t no_lexeme none (w, r, is, same) = go w is same
  where
    stuck : (w : SourceLexeme) → IsOther w → IsSource w r → t ≡ source_text w ++ r → ⊥
    stuck w other is same = none-some (source_kind w, r) (sym none ∙ ap other_at same ∙ other_at-past w r other is)

    go : (w : SourceLexeme) → IsProper w r → t ≡ source_text w ++ r → ⊥
    go (PlainToken l) is same = no_lexeme r (lexeme_text l, (l, is, refl), same)
    go (RawIdentifierToken c more) is same = stuck (RawIdentifierToken c more) tt is same
    go (LifetimeToken c more) is same = stuck (LifetimeToken c more) tt is same
    go (RawLifetimeToken c more) is same = stuck (RawLifetimeToken c more) tt is same
    go (DocLineToken body) is same = stuck (DocLineToken body) tt is same
    go (DocBlockToken i) is same = stuck (DocBlockToken i) tt is same
    go (BadQuoteToken q) is same = absurd is
    go (StrayToken c) is same = absurd is

stray_found : (t : List ℕ) (p : SourceKind × List ℕ) → (BeginsProper t → ⊥) → stray_at t ≡ Some p → Found t p
stray_found [] p none h = absurd (none-some p h)
stray_found (c ∷ t) p none h =
    elim (chosen (opens (c ∷ t)) (of_kind (PlainKind LiteralForm) (after_bad_quote (c ∷ t))) (Some (StrayKind, t))
    (Some p) h) [
      | inl (a, x) ↦ of_kind_found (PlainKind LiteralForm) (after_bad_quote (c ∷ t)) (c ∷ t) p x (λ r e. quote r
          (bad_quote_found (c ∷ t) r e))
      | inr (a, x) ↦ subst (λ (z : SourceKind × List ℕ). Found (c ∷ t) z) (same_Some (StrayKind, t) p x) (here a)
    ]
  where
    quote : (r : List ℕ) → FoundQuote (c ∷ t) r → SourceBefore (c ∷ t) (PlainKind LiteralForm) r
    quote r (q, is, same) = record { token = BadQuoteToken q; is_source = (λ b. none (subst BeginsProper (sym same) b), is); text_is = same; kind_is = refl }

    here : opens (c ∷ t) ≡ false → Found (c ∷ t) (StrayKind, t)
    here a = record { token = StrayToken c; is_source = (none, closed_here (c ∷ t) a); text_is = refl; kind_is = refl }

-- Whether a token is an invalid quoted literal or a stray character. These tokens begin only where no other token does.
abbrev pub IsLate : SourceLexeme → Type 0
IsLate (BadQuoteToken q) = ⊤
IsLate (StrayToken c) = ⊤
IsLate _ = ⊥

opened : (t : List ℕ) → opens t ≡ true → stray_at t ≡ of_kind (PlainKind LiteralForm) (after_bad_quote t)
opened [] h = refl
opened (c ∷ t) h = ap (λ b. cond b (of_kind (PlainKind LiteralForm) (after_bad_quote (c ∷ t))) (Some (StrayKind, t))) h

pub stray_at-past : (w : SourceLexeme) (t : List ℕ) → IsLate w → IsSource w t → stray_at (source_text w ++ t)
    ≡ Some (source_kind w, t)
stray_at-past (PlainToken l) t late is = absurd late
stray_at-past (RawIdentifierToken c more) t late is = absurd late
stray_at-past (LifetimeToken c more) t late is = absurd late
stray_at-past (RawLifetimeToken c more) t late is = absurd late
stray_at-past (DocLineToken body) t late is = absurd late
stray_at-past (DocBlockToken i) t late is = absurd late
stray_at-past (BadQuoteToken q) t late (none, is) =
    opened (bad_quote_text q ++ t) (bad_quote_opens q t)
    ∙ ap (of_kind (PlainKind LiteralForm)) (bad_quote_past q t is)
stray_at-past (StrayToken c) t late (none, shut) =
    ap (λ b. cond b (of_kind (PlainKind LiteralForm) (after_bad_quote (c ∷ t))) (Some (StrayKind, t)))
    (opens_here (c ∷ t) shut)

pub late_first : (w : SourceLexeme) (t : List ℕ) → IsLate w → IsSource w t → BeginsProper (source_text w ++ t) → ⊥
late_first (PlainToken l) t late is = absurd late
late_first (RawIdentifierToken c more) t late is = absurd late
late_first (LifetimeToken c more) t late is = absurd late
late_first (RawLifetimeToken c more) t late is = absurd late
late_first (DocLineToken body) t late is = absurd late
late_first (DocBlockToken i) t late is = absurd late
late_first (BadQuoteToken q) t late is = is.0
late_first (StrayToken c) t late is = is.0

pub any_found : (t : List ℕ) (p : SourceKind × List ℕ) → NoLexeme t → any_at t ≡ Some p → Found t p
any_found t p no_lexeme h = go (other_at t) refl h
  where
    go : (o : Option (SourceKind × List ℕ)) → other_at t ≡ o → or_stray o t ≡ Some p → Found t p
    go (Some q) e h = other_at-found t p (e ∙ h)
    go None e h = stray_found t p (no_proper t no_lexeme e) h

pub source_found : (t : List ℕ) (r : Answer) → NoLexeme t → option_map seen r ≡ any_at t
    → IfSome r (λ p. SourceBefore t (source_view p.0) (chars p.1.now))
source_found t None no_lexeme h = tt
source_found t (Some p) no_lexeme h = any_found t (seen p) no_lexeme (sym h)

any_none : (t : List ℕ) → any_at t ≡ None → (other_at t ≡ None) × (stray_at t ≡ None)
any_none t h = go (other_at t) refl h
  where
    go : (o : Option (SourceKind × List ℕ)) → other_at t ≡ o → or_stray o t ≡ None → (other_at t ≡ None)
        × (stray_at t ≡ None)
    go (Some q) e h = absurd (none-some q (sym h))
    go None e h = (e, h)

no_source : (t : List ℕ) → NoLexeme t → any_at t ≡ None → BeginsNoSource t
no_source t no_lexeme h kind r before = go before.token before.is_source before.text_is
  where
    none : (other_at t ≡ None) × (stray_at t ≡ None)
    none = any_none t h

    proper : (w : SourceLexeme) → IsProper w r → t ≡ source_text w ++ r → ⊥
    proper w is same = no_proper t no_lexeme none.0 (w, r, is, same)

    late : (w : SourceLexeme) → IsLate w → IsSource w r → t ≡ source_text w ++ r → ⊥
    late w is_late is same = none-some (source_kind w, r) (sym none.1 ∙ ap stray_at same
        ∙ stray_at-past w r is_late is)

    go : (w : SourceLexeme) → IsSource w r → t ≡ source_text w ++ r → ⊥
    go (PlainToken l) is same = proper (PlainToken l) is same
    go (RawIdentifierToken c more) is same = proper (RawIdentifierToken c more) is same
    go (LifetimeToken c more) is same = proper (LifetimeToken c more) is same
    go (RawLifetimeToken c more) is same = proper (RawLifetimeToken c more) is same
    go (DocLineToken body) is same = proper (DocLineToken body) is same
    go (DocBlockToken i) is same = proper (DocBlockToken i) is same
    go (BadQuoteToken q) is same = late (BadQuoteToken q) tt is same
    go (StrayToken c) is same = late (StrayToken c) tt is same

pub source_none : (t : List ℕ) (r : Answer) → NoLexeme t → option_map seen r ≡ any_at t → IfNone r (BeginsNoSource t)
source_none t None no_lexeme h = no_source t no_lexeme (sym h)
source_none t (Some p) no_lexeme h = tt

pub other_found : (t : List ℕ) (r : Answer) (p : SourceForm × Bor (List ℕ)) → r ≡ Some p → option_map seen r
    ≡ other_at t → SourceBefore t (source_view p.0) (chars p.1.now)
other_found t r p is rest = other_at-found t (seen p) (sym rest ∙ ap (option_map seen) is)

-- If no doc comment, lifetime or raw identifier begins a text, the result of `stray_at` for the text is the result of
-- `any_at`.
pub no_other : (t : List ℕ) (o r : Answer) → o ≡ None → option_map seen o ≡ other_at t → option_map seen r ≡ stray_at t
    → option_map seen r ≡ any_at t
no_other t o r none other stray = stray ∙ ap (λ x. or_stray x t) (sym (ap (option_map seen) none) ∙ other)

-- A text that begins with a non-ASCII character begins with no doc comment, lifetime or raw identifier.
pub wide_other : (t : List ℕ) → first_passes is_ascii t ≡ false → None ≡ other_at t
wide_other [] h = refl
wide_other (c ∷ t) h =
    let high = ltb-false c 128 h in
    rw (not_equal c 47 (omega arith) high, not_equal c 39 (omega arith) high, not_equal c 114 (omega arith) high) refl

pub wide_doc : (t : List ℕ) → first_passes is_ascii t ≡ false → None ≡ after_doc t
wide_doc [] h = refl
wide_doc (c ∷ t) h = rw (
  not_equal c 47 (omega arith) (ltb-false c 128 h),
  not_equal c 42 (omega arith)
      (ltb-false c 128 h),
) refl
