-- A cursor takes the items of a printed list in order.
use Rattle.rl_syntax.proofs.Common.{◌≡◌, inl, inr, Bool, false, ℕ, ◌+◌, List, [], ◌∷◌, ◌++◌, length, Option, Some, None, refl, sym, ◌∙◌, ap, subst, arith, lit<}
use Rattle.std.proofs.lemmas.Str.{chars-nil}
use Rattle.std.specs.List.{AllByRecursion}
use Rattle.std.specs.Str.{chars, encode_utf8_all}
use Rattle.rl_syntax.specs.Texts.{byte_len}
use Rattle.rl_syntax.specs.Trivia.{IsTrivia}
use Rattle.rl_syntax.specs.Reading.{HasNoReading, HasNoTruth, truth_text}
use Rattle.rl_syntax.specs.Readings.{Reading, IsTheReading}
use Rattle.rl_syntax.specs.Printed.{Item, WordItem, LiteralItem, MinusItem, Entry, item_text, IsStrictItem, Printed}
use Rattle.rl_syntax.proofs.LowBytes.{low_front}
use Rattle.rl_syntax.proofs.ReadingRecords.{the_reading}
use Rattle.rl_lexer.specs.declared.cursor.Lexeme.{Lexeme}
use Rattle.rl_lexer.specs.Skipping.{Skipped}
use Rattle.rl_lexer.specs.Lexemes.{LexemeForm, LiteralForm, IdentifierForm, MarkForm}
use Rattle.rl_lexer.specs.Cuts.{LexedToken, LexesUpTo, BeginsNoLexeme, ErrorAt}
use Rattle.rl_lexer.specs.PrintedTokens.{Token, as_token, literal_token, word_token, minus_token, item_tokens, printed_tokens}
use Rattle.rl_lexer.specs.Cursors.{CursorState, TakesNext, IsBorrowedToken, form_view}
use Rattle.rl_lexer.specs.Mirrors.LexemeAt.{lexeme_at}
use Rattle.rl_lexer.proofs.LexemeAnswers.{no_lexeme}
use Rattle.rl_lexer.proofs.ErrorKinds.{no_error}
use Rattle.rl_lexer.proofs.PrintedLaws.{printed_lexes}
use Rattle.rl_lenient.specs.declared.found.Found.{Found}
use Rattle.rl_lenient.specs.Founds.{IsFound, suffix_in}
use Rattle.rl_lenient.proofs.MinusLemmas.{minus_chars}
use Rattle.rl_lenient.proofs.StrictItems.{truth_reads, item_is, item_reading}
use Rattle.rl_cursors.specs.declared.next_literals.NextLiteral.{NextLiteral}
use Rattle.rl_cursors.specs.declared.next_literals.ListStep.{ListStep}
use Rattle.rl_cursors.specs.declared.next_literals.ListStep.TheVariants.{End, Literal, Rejected}
use Rattle.rl_cursors.specs.declared.next_literals.RejectionKind.{RejectionKind}
use Rattle.rl_cursors.specs.declared.next_literals.Rejection.{Rejection}
use Rattle.rl_cursors.specs.NextLiterals.{StepsList, IsRejected, TakesNextLiteral, HasNoNumber, BeginsNone, IsLiteralToken, FindsReading, IsReadLiteral, whole_text, with_minus}
use Rattle.rl_cursors.specs.Lists.{ListState, is_rejected, begins_at, IsFoundAs, IsItemTaken, ItemsLeft, TakesItem}
use Rattle.rl_cursors.proofs.Theorems.{a_taken_literal_is_read}
use Rattle.rl_cursors.proofs.LeftLemmas.{Stands, stands_next, stands_some, stands_end}

minus_bytes : (text : List ℕ) → encode_utf8_all (45 ∷ text) ≡ 45 ∷ encode_utf8_all text
minus_bytes text = low_front 45 text (lit< tt)

-- ---- a token that a cursor took, of which the token is known

head_is : (a b : Token) (xs ys : List Token) → a ∷ xs ≡ b ∷ ys → (b ≡ a) × (ys ≡ xs)
head_is a b xs ys e = (cc, cc)

-- The cursor's next token is the first token that is left, and the other tokens are left then.
record TakesFirst (text : List ℕ) (ws : List LexedToken) (f : Token) (more : List Token) (w : LexedToken)
    (new : CursorState) : Type 0 where
  pub first : as_token w ≡ f
  pub stands : Stands text ws more new

takes_first : (text : List ℕ) (ws : List LexedToken) (f : Token) (more : List Token) (old new : CursorState)
    (l : Lexeme) → LexesUpTo 0 (chars text) ws [] → Stands text ws (f ∷ more) old → (t : TakesNext old l new)
    → TakesFirst text ws f more t.cut new
takes_first text ws f more old new l whole st t =
    let n = stands_next text ws (f ∷ more) old new l whole st t in
    let (first, others) = head_is f (as_token t.cut) more n.more n.left_is in
    record { first = first; stands = subst (λ (x : List Token). Stands text ws x new) others n.stands }

-- The token that the code returns is the token `t`.
record IsBorrowedAt (l : Lexeme) (t : Token) : Type 0 where
  pub form_is : form_view l.form ≡ t.form
  pub text_is : chars l.text.now ≡ t.text
  pub lo_is : l.lo ≡ t.at
  pub hi_is : l.hi ≡ t.at + byte_len t.text

borrowed_at : (l : Lexeme) (w : LexedToken) (t : Token) → IsBorrowedToken l w → as_token w ≡ t → IsBorrowedAt l t
borrowed_at l w t b same = record {
  form_is = sym b.form_is ∙ ap (λ (t : Token). t.form) same;
  text_is = sym b.chars_are ∙ ap (λ (t : Token). t.text) same;
  lo_is = sym b.lo_is ∙ ap (λ (t : Token). t.at) same;
  hi_is = sym b.hi_is ∙ ap (λ (t : Token). t.at + byte_len t.text) same;
}

-- ---- the parse result of a literal that was taken

found_reading : (text : List ℕ) (f : Found) (r : Reading) → IsFound text f → IsTheReading (chars text) r
    → (f.kind ≡ r.kind) × (chars (suffix_in text f.body) ≡ r.suffix)
found_reading text f r found is =
    let s : Reading = record { kind = f.kind; contents = found.reads.0; suffix = chars (suffix_in text f.body) } in
    let same : s ≡ r = is.only s (record { reads = found.reads.1 }) in
    (ap (λ (x : Reading). x.kind) same, ap (λ (x : Reading). x.suffix) same)

found_as : (r : Reading) (l : NextLiteral) → IsReadLiteral l → IsTheReading (chars (whole_text l)) r → IsFoundAs r l
found_as r l read is = go l.found refl read
  where
    go : (o : Option Found) → l.found ≡ o → FindsReading (whole_text l) o → IsFoundAs r l
    go (Some f) e found =
        let (kind, suffix) = found_reading (whole_text l) f r found is in (f, e, kind, suffix)
    go None e none = absurd (none r.kind r.contents r.suffix is.reads.reads)

item_taken : (at : ℕ) (item : Item) (l : NextLiteral) → IsStrictItem item → IsReadLiteral l → chars (whole_text l)
    ≡ item_text item → begins_at l.minus_at l.token.lo ≡ at → l.token.hi ≡ at + byte_len (item_text item)
    → IsItemTaken at item l
item_taken at item l is read same lo hi =
    let (r, strict) = item_reading item is in
    let reads : IsTheReading (chars (whole_text l)) r =
    subst (λ (t : List ℕ). IsTheReading t r) (sym same)
    (the_reading (item_text item) r (item_is item is r.kind r.contents r.suffix strict)) in
    record { reading = r; strict = strict; text = same; reads = reads; found = found_as r l read reads; lo = lo; hi = hi }

-- ---- one step

-- The step takes the item, and the tokens after it are left.
record StepsOver (text : List ℕ) (ws : List LexedToken) (more : List Token) (at : ℕ) (item : Item)
    (step : ListStep) (new : CursorState) : Type 0 where
  pub l : NextLiteral
  pub step_is : step ≡ Literal l
  pub taken : IsItemTaken at item l
  pub stands : Stands text ws more new

-- At the end of the text no token begins.
end_stuck : (s : CursorState) → s.rest ≡ [] → BeginsNoLexeme (chars s.rest)
end_stuck s e = no_lexeme (chars s.rest) (ap (λ r. lexeme_at (chars r)) e ∙ ap lexeme_at chars-nil)

alone_text : (l : NextLiteral) → l.minus_at ≡ None → whole_text l ≡ l.token.text.now
alone_text l e = ap (λ o. with_minus o l.token.text.now) e

minus_text : (l : NextLiteral) (at : ℕ) → l.minus_at ≡ Some at → whole_text l ≡ 45 ∷ l.token.text.now
minus_text l at e = ap (λ o. with_minus o l.token.text.now) e

alone_taken : (at : ℕ) (item : Item) (l : NextLiteral) (form : LexemeForm) → IsStrictItem item → IsReadLiteral l
    → l.minus_at ≡ None → IsBorrowedAt l.token (record { form = form; text = item_text item; at = at })
    → IsItemTaken at item l
alone_taken at item l form is read none b =
    item_taken at item l is read (ap chars (alone_text l none) ∙ b.text_is)
    (ap (λ o. begins_at o l.token.lo) none ∙ b.lo_is) b.hi_is

-- A step before a literal that is one token.
literal_step : (text : List ℕ) (ws : List LexedToken) (more : List Token) (at : ℕ) (t : List ℕ) (step : ListStep)
    (old new : CursorState) → LexesUpTo 0 (chars text) ws [] → IsStrictItem (LiteralItem t)
    → Stands text ws (literal_token at t ∷ more) old → StepsList old step new
    → StepsOver text ws more at (LiteralItem t) step new
literal_step text ws more at t End old new whole is st (e, same) =
    absurd (stands_some text ws _ more old whole st (end_stuck old e))
literal_step text ws more at t (Rejected r) old new whole is st (inl none, why, same) =
    absurd (stands_some text ws _ more old whole st none)
literal_step text ws more at t (Rejected r) old new whole is st (inr (m, between, takes, none), why, same) =
    let f = takes_first text ws _ more old between m whole st takes in
    let b = borrowed_at m takes.cut (literal_token at t) takes.is_cut f.first in
    absurd (subst (λ (x : LexemeForm). BeginsNone x m.text.now between) b.form_is none)
literal_step text ws more at t (Literal l) old new whole is st (inl one) =
    let f = takes_first text ws _ more old new l.token whole st one.takes in
    let b = borrowed_at l.token one.takes.cut (literal_token at t) one.takes.is_cut f.first in
    record {
      l = l;
      step_is = refl;
      taken = alone_taken at (LiteralItem t) l LiteralForm is (a_taken_literal_is_read old new l (inl one)) one.no_minus b;
      stands = f.stands;
    }
literal_step text ws more at t (Literal l) old new whole is st (inr two) =
    let f = takes_first text ws _ more old two.between two.minus whole st two.takes_minus in
    let b = borrowed_at two.minus two.takes_minus.cut (literal_token at t) two.takes_minus.is_cut f.first in
    let e : MarkForm 45 ≡ LiteralForm = sym two.is_minus ∙ b.form_is in
    absurd (cc)

-- A step before `true` or `false`.
word_step : (text : List ℕ) (ws : List LexedToken) (more : List Token) (at : ℕ) (truth : Bool) (step : ListStep)
    (old new : CursorState) → LexesUpTo 0 (chars text) ws []
    → Stands text ws (word_token at truth ∷ more) old → StepsList old step new
    → StepsOver text ws more at (WordItem truth) step new
word_step text ws more at truth End old new whole st (e, same) =
    absurd (stands_some text ws _ more old whole st (end_stuck old e))
word_step text ws more at truth (Rejected r) old new whole st (inl none, why, same) =
    absurd (stands_some text ws _ more old whole st none)
word_step text ws more at truth (Rejected r) old new whole st (inr (m, between, takes, none), why, same) =
    let f = takes_first text ws _ more old between m whole st takes in
    let b = borrowed_at m takes.cut (word_token at truth) takes.is_cut f.first in
    let no_word : HasNoTruth (chars m.text.now) =
    subst (λ (x : LexemeForm). BeginsNone x m.text.now between) b.form_is none in
    let no_reading = subst (λ (x : List ℕ). HasNoTruth x) b.text_is no_word in
    let (v, x, reads) = truth_reads (truth_text truth) truth refl in
    absurd (no_reading v x reads)
word_step text ws more at truth (Literal l) old new whole st (inl one) =
    let f = takes_first text ws _ more old new l.token whole st one.takes in
    let b = borrowed_at l.token one.takes.cut (word_token at truth) one.takes.is_cut f.first in
    record {
      l = l;
      step_is = refl;
      taken = alone_taken at (WordItem truth) l IdentifierForm tt (a_taken_literal_is_read old new l (inl one)) one.no_minus b;
      stands = f.stands;
    }
word_step text ws more at truth (Literal l) old new whole st (inr two) =
    let f = takes_first text ws _ more old two.between two.minus whole st two.takes_minus in
    let b = borrowed_at two.minus two.takes_minus.cut (word_token at truth) two.takes_minus.is_cut f.first in
    let e : MarkForm 45 ≡ IdentifierForm = sym two.is_minus ∙ b.form_is in
    absurd (cc)

-- The tokens of a minus and a number.
abbrev minus_tokens : (at : ℕ) (t : List ℕ) → List Token → List Token
minus_tokens at t more = minus_token at ∷ literal_token (at + 1) t ∷ more

minus_taken : (at : ℕ) (t : List ℕ) (l : NextLiteral) (place : ℕ) → IsStrictItem (MinusItem t) → IsReadLiteral l
    → l.minus_at ≡ Some place → place ≡ at → IsBorrowedAt l.token (literal_token (at + 1) t)
    → IsItemTaken at (MinusItem t) l
minus_taken at t l place is read minus here b =
    item_taken at (MinusItem t) l is read
    (ap chars (minus_text l place minus) ∙ minus_chars l.token.text.now ∙ ap (λ z. 45 ∷ z) b.text_is)
    (ap (λ o. begins_at o l.token.lo) minus ∙ here)
    (omega (arith, b.hi_is, ap length (minus_bytes t)))

-- No number is missing after the minus of an item.
number_follows : (text : List ℕ) (ws : List LexedToken) (more : List Token) (at : ℕ) (t : List ℕ)
    (s : CursorState) → LexesUpTo 0 (chars text) ws [] → IsStrictItem (MinusItem t)
    → Stands text ws (literal_token at t ∷ more) s → HasNoNumber s → ⊥
number_follows text ws more at t s whole is st (inl none) = stands_some text ws _ more s whole st none
number_follows text ws more at t s whole is st (inr (m, new, takes, inl other)) =
    let f = takes_first text ws _ more s new m whole st takes in
    let b = borrowed_at m takes.cut (literal_token at t) takes.is_cut f.first in
    other b.form_is
number_follows text ws more at t s whole (kind, number, strict, (k, (v, x, reads))) st (inr (m, new, takes, inr unread)) =
    let f = takes_first text ws _ more s new m whole st takes in
    let b = borrowed_at m takes.cut (literal_token at t) takes.is_cut f.first in
    subst (λ (z : List ℕ). HasNoReading (45 ∷ z)) b.text_is unread k v x reads

-- A step before a minus and a number.
minus_step : (text : List ℕ) (ws : List LexedToken) (more : List Token) (at : ℕ) (t : List ℕ) (step : ListStep)
    (old new : CursorState) → LexesUpTo 0 (chars text) ws [] → IsStrictItem (MinusItem t)
    → Stands text ws (minus_tokens at t more) old → StepsList old step new
    → StepsOver text ws more at (MinusItem t) step new
minus_step text ws more at t End old new whole is st (e, same) =
    absurd (stands_some text ws _ (literal_token (at + 1) t ∷ more) old whole st (end_stuck old e))
minus_step text ws more at t (Rejected r) old new whole is st (inl none, why, same) =
    absurd (stands_some text ws _ (literal_token (at + 1) t ∷ more) old whole st none)
minus_step text ws more at t (Rejected r) old new whole is st (inr (m, between, takes, none), why, same) =
    let f = takes_first text ws _ (literal_token (at + 1) t ∷ more) old between m whole st takes in
    let b = borrowed_at m takes.cut (minus_token at) takes.is_cut f.first in
    absurd (go between (number_follows text ws more (at + 1) t between whole is f.stands)
    (subst (λ (x : LexemeForm). BeginsNone x m.text.now between) b.form_is none))
  where
    go : (s : CursorState) → (HasNoNumber s → ⊥) → BeginsNone (MarkForm 45) [] s → ⊥
    go s never (inl other) = other refl
    go s never (inr missing) = never missing
minus_step text ws more at t (Literal l) old new whole is st (inl one) =
    let f = takes_first text ws _ (literal_token (at + 1) t ∷ more) old new l.token whole st one.takes in
    let b = borrowed_at l.token one.takes.cut (minus_token at) one.takes.is_cut f.first in
    absurd (subst (λ (x : LexemeForm). IsLiteralToken x l.token.text.now l.found) b.form_is one.literal)
minus_step text ws more at t (Literal l) old new whole is st (inr two) =
    let f = takes_first text ws _ (literal_token (at + 1) t ∷ more) old two.between two.minus whole st two.takes_minus in
    let m = borrowed_at two.minus two.takes_minus.cut (minus_token at) two.takes_minus.is_cut f.first in
    let g = takes_first text ws _ more two.between new l.token whole f.stands two.takes_number in
    let b = borrowed_at l.token two.takes_number.cut (literal_token (at + 1) t) two.takes_number.is_cut g.first in
    record {
      l = l;
      step_is = refl;
      taken = minus_taken at t l two.minus.lo is (a_taken_literal_is_read old new l (inr two)) two.minus_is m.lo_is b;
      stands = g.stands;
    }

item_step : (text : List ℕ) (ws : List LexedToken) (more : List Token) (at : ℕ) (item : Item) (step : ListStep)
    (old new : CursorState) → LexesUpTo 0 (chars text) ws [] → IsStrictItem item
    → Stands text ws (item_tokens at item ++ more) old → StepsList old step new
    → StepsOver text ws more at item step new
item_step text ws more at (WordItem truth) step old new whole is st steps =
    word_step text ws more at truth step old new whole st steps
item_step text ws more at (LiteralItem t) step old new whole is st steps =
    literal_step text ws more at t step old new whole is st steps
item_step text ws more at (MinusItem t) step old new whole is st steps =
    minus_step text ws more at t step old new whole is st steps

-- ---- the end

nothing_first : {A : Type 0} (x : A) (xs : List A) → [] ≡ x ∷ xs → ⊥
nothing_first x xs e = cc

none_taken : (text : List ℕ) (ws : List LexedToken) (old new : CursorState) (l : Lexeme)
    → LexesUpTo 0 (chars text) ws [] → Stands text ws [] old → TakesNext old l new → ⊥
none_taken text ws old new l whole st takes =
    let n = stands_next text ws [] old new l whole st takes in
    nothing_first (as_token takes.cut) n.more n.left_is

no_literal : (text : List ℕ) (ws : List LexedToken) (old new : CursorState) (l : NextLiteral)
    → LexesUpTo 0 (chars text) ws [] → Stands text ws [] old → TakesNextLiteral old l new → ⊥
no_literal text ws old new l whole st (inl one) = none_taken text ws old new l.token whole st one.takes
no_literal text ws old new l whole st (inr two) = none_taken text ws old two.between two.minus whole st two.takes_minus

no_rejection : (text : List ℕ) (ws : List LexedToken) (s : CursorState) (why : RejectionKind)
    → LexesUpTo 0 (chars text) ws [] → Stands text ws [] s → IsRejected s why → ⊥
no_rejection text ws s why whole st (inl (kind, is, error)) =
    no_error kind (subst (λ (r : List ℕ). ErrorAt kind [] r) (stands_end text ws s whole st) (error []))
no_rejection text ws s why whole st (inr (l, new, takes, is)) = none_taken text ws s new l whole st takes

end_step : (text : List ℕ) (ws : List LexedToken) (step : ListStep) (old new : CursorState)
    → LexesUpTo 0 (chars text) ws [] → Stands text ws [] old → StepsList old step new → step ≡ End
end_step text ws End old new whole st steps = refl
end_step text ws (Literal l) old new whole st steps = absurd (no_literal text ws old new l whole st steps)
end_step text ws (Rejected r) old new whole st (none, why, same) =
    absurd (no_rejection text ws old r.kind whole st why.reason)

-- ---- a step over the items that are left

same_state : (text : List ℕ) (ws : List LexedToken) (at : ℕ) (entries : List Entry) (new : ListState)
    → LexesUpTo 0 (chars text) ws [] → new.is_done ≡ false
    → AllByRecursion (λ (e : Entry). IsStrictItem e.item) entries
    → Stands text ws (printed_tokens at entries) new.cursor → ItemsLeft at entries new
same_state text ws at entries new whole going strict st =
    let here : List ℕ → Type 0 = λ t. LexesUpTo 0 (chars t) ws [] × LexesUpTo 0 (chars t) st.done (chars new.cursor.rest) in
    let (all, before) = subst here (sym st.same) (whole, st.cuts) in
    record { going = going; strict = strict; all = ws; taken = st.done; whole = all; before = before; left = st.flat }

-- Where items are left in a list, a step takes the first of them.
pub item_taken_next : (at : ℕ) (entries : List Entry) (old : ListState) (step : ListStep) (new : ListState)
    → ItemsLeft at entries old → StepsList old.cursor step new.cursor → new.is_done ≡ is_rejected step
    → TakesItem at entries step new
item_taken_next at [] old step new left steps done =
    let st : Stands old.cursor.text left.all [] old.cursor =
    record { same = refl; done = left.taken; cuts = left.before; flat = left.left } in
    let ends = end_step old.cursor.text left.all step old.cursor new.cursor left.whole st steps in
    let same : new.cursor ≡ old.cursor = (subst (λ (s : ListStep). StepsList old.cursor s new.cursor) ends steps).1 in (
      ends,
      same_state old.cursor.text left.all at [] new left.whole (done ∙ ap is_rejected ends) tt
          (subst (λ (s : CursorState). Stands old.cursor.text left.all [] s) (sym same) st),
    )
item_taken_next at (e ∷ es) old step new left steps done =
    let st : Stands old.cursor.text left.all (printed_tokens at (e ∷ es)) old.cursor =
    record { same = refl; done = left.taken; cuts = left.before; flat = left.left } in
    let n = at + byte_len e.gap in
    let next = n + byte_len (item_text e.item) in
    let over = item_step old.cursor.text left.all (printed_tokens next es) n e.item step old.cursor new.cursor
    left.whole left.strict.0 st steps in (
      over.l,
      over.step_is,
      over.taken,
      same_state old.cursor.text left.all next es new left.whole
          (done ∙ ap is_rejected over.step_is) left.strict.1 over.stands,
    )

strict_items : (entries : List Entry) → AllByRecursion (λ (e : Entry). IsTrivia e.gap × IsStrictItem e.item) entries
    → AllByRecursion (λ (e : Entry). IsStrictItem e.item) entries
strict_items [] each = tt
strict_items (e ∷ es) ((gap, is), each) = (is, strict_items es each)

-- At the start of a printed list, all items are left.
pub all_left : (text : List ℕ) (s : ListState) → s.cursor.text ≡ text → s.is_done ≡ false
    → Skipped (chars text) (chars s.cursor.rest) → (entries : List Entry) (last : List ℕ)
    → Printed (chars text) entries last → ItemsLeft 0 entries s
all_left text s same going skipped entries last printed =
    let lexes = printed_lexes (chars text) entries last printed in
    let st : Stands text lexes.cuts (printed_tokens 0 entries) s.cursor =
    record { same = same; done = []; cuts = skipped; flat = lexes.tokens_are } in
    same_state text lexes.cuts 0 entries s lexes.are_cuts going (strict_items entries printed.items) st

-- A step that isn't an error.
pub not_rejected : (step : ListStep) → ((r : Rejection) → step ≡ Rejected r → ⊥) → is_rejected step ≡ false
not_rejected End none = refl
not_rejected (Literal l) none = refl
not_rejected (Rejected r) none = absurd (none r refl)

-- The state of the code is the state of the contract.
pub item_taken_from : (inside old : ListState) (step : ListStep) (new : ListState) → inside ≡ old
    → StepsList inside.cursor step new.cursor → new.is_done ≡ is_rejected step → (at : ℕ) (entries : List Entry)
    → ItemsLeft at entries old → TakesItem at entries step new
item_taken_from inside old step new same steps done at entries left =
    item_taken_next at entries old step new left
    (subst (λ (s : ListState). StepsList s.cursor step new.cursor) same steps) done
