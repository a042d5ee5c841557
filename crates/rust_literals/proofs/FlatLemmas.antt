-- Lemmas about reading the literals of a text without groups, token by token.
use Rattle.rl_lenient.proofs.Names.{HasNoReading, HasNoTruth, HasReading, SpannedText, truth_text}
use Rattle.rl_syntax.proofs.Common.{AllByRecursion, Bool, List, None, Option, Some, [], ap, append_assoc, arith, chars, if◌then◌else◌, inr, length, map-append, nat_tests, refl, subst, sym, true, ℕ, ◌++◌, ◌==◌, ◌∙◌, ◌∷◌, ◌≡◌, ◌≢◌, ◌⊎◌}
use Rattle.std.proofs.lemmas.List.{nil_from_length}
use Rattle.std.specs.Prelude.{min, max, IfNone, IfSome, OnSome}
use Rattle.rl_syntax.specs.declared.span.Span.{Span}
use Rattle.rl_lexer.specs.declared.cursor.Lexeme.{Lexeme as BorrowedLexeme}
use Rattle.rl_lexer.specs.Lexemes.{LexemeForm, LiteralForm, IdentifierForm, MarkForm}
use Rattle.rl_lexer.specs.Cursors.{form_view, CursorState, TakesNext}
use Rattle.rl_tokens.specs.Puncts.{Mark}
use Rattle.rl_tokens.specs.Trees.{Tree, IdentTree, PunctTree, LiteralTree, flat_trees}
use Rattle.rl_lexer.specs.Skipping.{Skipped}
use Rattle.rl_lexer.specs.Cuts.{LexesUpTo, after_form}
use Rattle.rl_tokens.specs.Lexing.{flat_form, flat_token}
use Rattle.rl_fronts.specs.Fronts.{joined, joined_span}
use Rattle.rl_lexer.proofs.CutLemmas.{open_more}
use Rattle.rl_tokens.proofs.BorrowedTokens.{flat_borrowed}
use Rattle.rl_tokens.proofs.NestLemmas.{flat_trees-append}
use Rattle.rust_literals.specs.declared.lit.Lit.{Lit}
use Rattle.rust_literals.specs.declared.lit.Lit.TheVariants.{Bool as BoolLit}
use Rattle.rust_literals.specs.Literals.{IsReadFrom}
use Rattle.rust_literals.specs.Parsing.{ReadsLiterals, AreRead}
use Rattle.rl_cursors.specs.NextLiterals.{BeginsNone, HasNoNumber, HasNoNextLiteral}
use Rattle.rust_literals.specs.Flat.{IsNoGroup, LexesTreesUpTo, ReadsNext, AddsNext, AreReadUpTo}
use Rattle.rl_tokens.proofs.LexLaws.{one_list}
use Rattle.rust_literals.proofs.LitLemmas.{read_truth}
use Rattle.rust_literals.proofs.LeadsLemmas.{leads_step, one_list_of}

-- A text of length 0 is empty.
pub empty_text : (t : List ℕ) → (length t == 0) ≡ true → t ≡ []
empty_text t h = nil_from_length t (let q : length t ≡ 0 = grind (arith, nat_tests) in q)

-- The span of a lexed token in the file.
abbrev pub span_at : ℕ → BorrowedLexeme → Span
span_at file l = record { file = file; lo = l.lo; hi = l.hi }

abbrev token_at : ℕ → BorrowedLexeme → SpannedText
token_at file l = record { text = l.text.now; span = span_at file l }

all_more : (P : Tree → Type 0) (trees : List Tree) (tree : Tree) → AllByRecursion P trees → P tree
    → AllByRecursion P (trees ++ tree ∷ [])
all_more P [] tree h p = (p, tt)
all_more P (t ∷ trees) tree (q, h) p = (q, all_more P trees tree h p)

-- If one more token that isn't a delimiter is consumed, the text is lexed into one more token tree.
pub tree_more : (file : ℕ) (old new : CursorState) (l : BorrowedLexeme) (form : LexemeForm) (tree : Tree) (done : List Tree)
    → TakesNext old l new → form_view l.form ≡ form → after_form [] form l.lo ≡ Some [] → flat_trees (tree ∷ [])
    ≡ flat_form form l.text.now (span_at file l) ∷ [] → IsNoGroup tree
    → LexesTreesUpTo (chars old.text) file done (chars old.rest)
    → LexesTreesUpTo (chars old.text) file (done ++ tree ∷ []) (chars new.rest)
tree_more file old new l form tree done t form_is none flat_is no_group c =
    let w = t.cut in record {
      cuts = c.cuts ++ w ∷ [];
      are_cuts = t.goes_on c.cuts c.are_cuts;
      none_open =
          open_more [] c.cuts w [] c.none_open
          ∙ ap (λ f. after_form [] f w.at) (t.is_cut.form_is ∙ form_is)
          ∙ ap (λ n. after_form [] form n) t.is_cut.lo_is
          ∙ none;
      flat_is =
          map-append (flat_token file) c.cuts (w ∷ [])
          ∙ ap (λ z. z ++ flat_token file w ∷ []) c.flat_is
          ∙ ap (λ z. flat_trees done ++ z ∷ []) (flat_borrowed file l w t.is_cut
          ∙ ap (λ f. flat_form f l.text.now (span_at file l)) form_is)
          ∙ ap (λ z. flat_trees done ++ z) (sym flat_is)
          ∙ sym (flat_trees-append done (tree ∷ []));
      no_groups = all_more IsNoGroup done tree c.no_groups no_group;
    }

-- If the next token is a literal token, the literal that is parsed from it is the next literal.
pub literal_next : {A : Type 0} (file : ℕ) (old new : CursorState) (l : BorrowedLexeme) (lit : Lit A) → TakesNext old l new
    → form_view l.form ≡ LiteralForm → IsReadFrom (token_at file l) lit → ReadsNext file old lit new
literal_next file old new l lit t form_is read =
    let tree : Tree = LiteralTree (token_at file l) in record {
      trees = tree ∷ [];
      cuts = λ done c. tree_more file old new l LiteralForm tree done t form_is refl refl tt c;
      front = λ following. record { token = token_at file l; front = (refl, refl); read = read };
      same = t.same;
    }

-- If the next token is the identifier `true` or `false`, the next literal is that `bool`.
pub truth_next : {A : Type 0} (file : ℕ) (old new : CursorState) (l : BorrowedLexeme) (lit : Lit A) (b : Bool)
    → TakesNext old l new → form_view l.form ≡ IdentifierForm → l.text.now ≡ truth_text b → lit
    ≡ BoolLit (record { value = b; span = span_at file l }) → ReadsNext file old lit new
truth_next {A} file old new l lit b t form_is word_is lit_is =
    let tree : Tree = IdentTree (token_at file l) in
    let word : Lit A = BoolLit (record { value = b; span = span_at file l }) in
    let read : IsReadFrom (token_at file l) word = read_truth (token_at file l) b (span_at file l) word_is refl in
    record {
      trees = tree ∷ [];
      cuts = λ done c. tree_more file old new l IdentifierForm tree done t form_is refl refl tt c;
      front = λ following. record { token = token_at file l; front = (read.1, refl, refl); read = subst (λ (x : Lit A). IsReadFrom (token_at file l) x) (sym lit_is) read };
      same = t.same;
    }

-- If the next two tokens are a minus and a literal token that together are one literal, that literal is the next one.
pub negative_next : {A : Type 0} (file : ℕ) (old between new : CursorState) (m l : BorrowedLexeme) (lit : Lit A) (span : Span)
    → TakesNext old m between → TakesNext between l new → form_view m.form ≡ MarkForm 45 → form_view l.form
    ≡ LiteralForm → span ≡ joined_span (span_at file m) (span_at file l) → HasReading (45 ∷ chars l.text.now)
    → IsReadFrom (record { text = 45 ∷ l.text.now; span = span }) lit → ReadsNext file old lit new
negative_next file old between new m l lit span t u m_is l_is span_is together read =
    let mark : Mark = record { ch = 45; span = span_at file m } in
    let minus : Tree = PunctTree mark in
    let number : Tree = LiteralTree (token_at file l) in
    let Into : List ℕ → List Tree → Type 0 = λ text trees. LexesTreesUpTo (chars text) file trees (chars new.rest) in
    let From : List ℕ → List Tree → Type 0 = λ text trees. LexesTreesUpTo (chars text) file trees (chars between.rest)
    in
    record {
      trees = minus ∷ number ∷ [];
      cuts = λ done c.
          let first : From old.text (done ++ minus ∷ []) = tree_more file old between m (MarkForm 45) minus done t m_is
          refl refl tt c in
          let second : Into between.text ((done ++ minus ∷ []) ++ number ∷ []) = tree_more file between new l
          LiteralForm number (done ++ minus ∷ []) u l_is refl refl tt
          (subst (λ (x : List ℕ). From x (done ++ minus ∷ [])) (sym t.same) first) in
          subst (λ (trees : List Tree). Into old.text trees) (append_assoc done (minus ∷ []) (number ∷ []))
          (subst (λ (x : List ℕ). Into x ((done ++ minus ∷ []) ++ number ∷ [])) t.same second);
      front = λ following. record {
        token = joined mark (token_at file l);
        front = (refl, together, refl, refl);
        read = subst (λ (s : Span). IsReadFrom (record { text = 45 ∷ l.text.now; span = s }) lit) span_is read;
      };
      same = u.same ∙ t.same;
    }

same_file : (file : ℕ) (m l : BorrowedLexeme) (span : Span) → span ≡ record
    { file = file; lo = min m.lo l.lo; hi = max m.hi l.hi } → span ≡ joined_span (span_at file m) (span_at file l)
same_file file m l span e = e ∙ sym (ap (λ b. if b then record { file = file; lo = min m.lo l.lo; hi = max m.hi l.hi }
    else span_at file m) (same file))
  where
    same : (n : ℕ) → (n == n) ≡ true
    same n = grind (arith, nat_tests)

-- The span of a minus and its number in one file begins at the first byte of the two, and ends at the last byte of the
-- two.
pub joined_at : (file : ℕ) (m l : BorrowedLexeme) (a b span : Span) → a ≡ span_at file m → b ≡ span_at file l → span
    ≡ record { file = a.file; lo = min a.lo b.lo; hi = max a.hi b.hi } → span
    ≡ record { file = file; lo = min m.lo l.lo; hi = max m.hi l.hi }
joined_at file m l a b span p q e =
    let both : Span → Span → Span = λ x y. record { file = x.file; lo = min x.lo y.lo; hi = max x.hi y.hi } in
    e ∙ ap (λ x. both x b) p ∙ ap (λ y. both (span_at file m) y) q

pub read_negative : {A : Type 0} (file : ℕ) (old between new : CursorState) (m l : BorrowedLexeme) (lit : Lit A) (span : Span)
    → TakesNext old m between → TakesNext between l new → form_view m.form ≡ MarkForm 45 → form_view l.form
    ≡ LiteralForm → span ≡ record { file = file; lo = min m.lo l.lo; hi = max m.hi l.hi }
    → HasReading (45 ∷ chars l.text.now) → IsReadFrom (record { text = 45 ∷ l.text.now; span = span }) lit
    → ReadsNext file old lit new
read_negative file old between new m l lit span t u m_is l_is span_is together read =
    negative_next file old between new m l lit span t u m_is l_is (same_file file m l span span_is) together read

-- A minus precedes the next token. If the next token isn't a literal token, or isn't a literal together with the minus,
-- the minus doesn't begin a number.
pub none_number : (old new : CursorState) (l : BorrowedLexeme) → TakesNext old l new → (form_view l.form ≢ LiteralForm)
    ⊎ HasNoReading (45 ∷ chars l.text.now) → HasNoNumber old
none_number old new l t h = inr (l, new, t, h)

-- If the next token is an identifier other than `true` and `false`, the tokens don't begin with a literal.
pub none_word : (old between : CursorState) (m : BorrowedLexeme) → TakesNext old m between → form_view m.form ≡ IdentifierForm
    → ((b : Bool) → chars m.text.now ≡ truth_text b → ⊥) → HasNoNextLiteral old
none_word old between m t is differs =
    let h : HasNoTruth (chars m.text.now) = λ contents suffix r. differs r.truth r.text_is in
    inr (m, between, t, subst (λ (f : LexemeForm). BeginsNone f m.text.now between) (sym is) h)

pub no_some : {T P : Type 0} (o : Option T) → o ≡ None → IfNone o P → P
no_some None e h = h
no_some (Some x) e h = absurd (cc)

pub the_some : {T : Type 0} (P : T → Type 0) (o : Option T) (x : T) → o ≡ Some x → IfSome o P → P x
the_some {T} P o x e h = subst (λ (y : Option T). IfSome y P) e h

pub when_some : {T P : Type 0} (o : Option T) (x : T) → o ≡ Some x → OnSome o P → P
when_some {T} {P} o x e h = subst (λ (y : Option T). OnSome y P) e h

-- The invariant of the loop that reads the literals of a text holds before the first literal.
pub read_none : {A : Type 0} (text : List ℕ) (file : ℕ) (rest : List ℕ) → LexesUpTo 0 text [] rest
    → AreReadUpTo {A = A} text file [] rest
read_none text file rest skips = record {
  trees = [];
  cuts = record { cuts = []; are_cuts = skips; none_open = refl; flat_is = refl; no_groups = tt };
  leads = λ following. refl;
}

pub read_start : {A : Type 0} (text : List ℕ) (file : ℕ) (rest : List ℕ) (list : List (Lit A)) → list ≡ []
    → Skipped (chars text) (chars rest) → AreReadUpTo (chars text) file list (chars rest)
read_start {A} text file rest list none skips =
    subst (λ (ls : List (Lit A)). AreReadUpTo (chars text) file ls (chars rest)) (sym none)
    (read_none (chars text) file (chars rest) skips)

-- The invariant of the loop that reads the literals of a text holds again after one more literal.
pub read_more : {A : Type 0} (text : List ℕ) (file : ℕ) (old new : CursorState) (list longer : List (Lit A)) → old.text
    ≡ text → AreReadUpTo (chars text) file list (chars old.rest) → AddsNext file old list new longer
    → AreReadUpTo (chars text) file longer (chars new.rest)
read_more text file old new list longer same read added =
    let lit = added.lit in
    let next = added.next in
    let Goes : List ℕ → Type 0 = λ t. (done : List Tree) → LexesTreesUpTo (chars t) file done (chars old.rest)
    → LexesTreesUpTo (chars t) file (done ++ next.trees) (chars new.rest) in
    let goes : Goes text = subst Goes same next.cuts in
    subst (λ ls. AreReadUpTo (chars text) file ls (chars new.rest)) (sym added.longer_is)
    (record {
      trees = read.trees ++ next.trees;
      cuts = goes read.trees read.cuts;
      leads = λ following.
          subst (λ (ts : List Tree). ReadsLiterals ts (list ++ lit ∷ []) following)
          (sym (append_assoc read.trees next.trees following))
          (leads_step (read.trees ++ (next.trees ++ following)) list (next.trees ++ following) lit following
          (read.leads (next.trees ++ following)) (next.front following));
    })

-- If no text remains, the whole text consists of the literals that were read.
pub read_whole : {A : Type 0} (text : List ℕ) (file : ℕ) (list : List (Lit A)) (rest : List ℕ) → rest ≡ []
    → AreReadUpTo text file list rest → AreRead text file list
read_whole text file list rest ends read = record {
  trees = read.trees ++ [];
  lexes = record {
    cuts = read.cuts.cuts;
    are_cuts = subst (λ (r : List ℕ). LexesUpTo 0 text read.cuts.cuts r) ends read.cuts.are_cuts;
    none_open = read.cuts.none_open;
    flat_is = read.cuts.flat_is ∙ ap flat_trees (sym (nil_behind read.trees));
  };
  leads = read.leads [];
}
  where
    nil_behind : (ts : List Tree) → ts ++ [] ≡ ts
    nil_behind [] = refl
    nil_behind (t ∷ ts) = ap (λ z. t ∷ z) (nil_behind ts)

-- If a text consists of the literals of one list, and also of the literals of another list, the two lists are equal.
pub one_read : {A : Type 0} (text : List ℕ) (file : ℕ) (found list : List (Lit A)) → AreRead text file found
    → AreRead text file list → found ≡ list
one_read text file found list r q =
    let same : q.trees ≡ r.trees = one_list text file q.trees r.trees q.lexes r.lexes in
    one_list_of r.trees found list r.leads (subst (λ (t : List Tree). ReadsLiterals t list []) same q.leads)
