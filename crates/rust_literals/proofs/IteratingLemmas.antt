-- Lemmas about the results of an iterator over the literals of a text.
use Rattle.rl_syntax.proofs.Common.{List, None, Ok, Option, Some, [], ap, append_assoc, arith, chars, chars-nil, length, length-append, refl, subst, sym, ℕ, ◌++◌, ◌+◌, ◌<◌, ◌^◌, ◌∙◌, ◌∷◌, ◌≡◌}
use Rattle.std.proofs.lemmas.List.{append-nil, nil_from_length}
use Rattle.std.specs.Option.{option_to_list, OnSome}
use Rattle.std.specs.Vec.Iter.{into_iter_items, into_iter_len, into_iter_steps}
use Rattle.std.specs.declared.vec.IntoIter.{IntoIter}
use Rattle.rl_lexer.specs.Cursors.{CursorState}
use Rattle.rust_literals.specs.declared.lit.Lit.{Lit}
use Rattle.rust_literals.specs.declared.literals.Literals.{Literals}
use Rattle.rust_literals.specs.Parsing.{AreRead}
use Rattle.rust_literals.specs.Flat.{ReadsNext, AreReadUpTo, AreFirst}
use Rattle.rust_literals.specs.Iterating.{GoesOnAfter, HasReturned, ReturnsNext, left_with, left_of}
use Rattle.rust_literals.proofs.FlatLemmas.{read_more, read_whole}

-- If the fields of an iterator have the values that they have after the literals `taken`, the iterator has returned
-- `taken`.
placed : {A : Type 0} (text : List ℕ) (file : ℕ) (taken : List (Lit A)) (new : Literals A)
    (waiting : Option (IntoIter (Lit A) A)) → new.text.now ≡ text → new.file ≡ file → new.tokens.text ≡ text
    → new.waiting ≡ waiting → GoesOnAfter (chars text) file taken new.count (chars new.tokens.rest) waiting
    → HasReturned text file taken new
placed text file taken new waiting t f s w h = record {
  text_is = t;
  file_is = f;
  same = s;
  goes_on = subst (GoesOnAfter (chars text) file taken new.count (chars new.tokens.rest)) (sym w) h;
}

-- If the iterator keeps a list of literals that it still has to return, its next result is the first literal of the
-- list, or `None` if the list is empty.
pub waiting_next : {A : Type 0} (text : List ℕ) (file : ℕ) (taken : List (Lit A)) (new : Literals A)
    (was is : IntoIter (Lit A) A) (first : Option (Lit A)) → AreRead (chars text) file (taken ++ into_iter_items was)
    → into_iter_len was ≡ length (into_iter_items was) → into_iter_steps was first is → new.text.now ≡ text → new.file
    ≡ file → new.tokens.text ≡ text → new.waiting ≡ Some is → into_iter_items was ≡ option_to_list first
    ++ into_iter_items is → ReturnsNext text file taken (Ok first) new
waiting_next text file taken new was is (Some lit) read len (items, shorter) t f s w none =
    let parts : taken ++ into_iter_items was ≡ (taken ++ lit ∷ []) ++ into_iter_items is = ap (λ l. taken ++ l) items
    ∙ sym (append_assoc taken (lit ∷ []) (into_iter_items is)) in
    let n : into_iter_len is ≡ length (into_iter_items is) = omega (arith, shorter, len, ap length items) in
    placed text file (taken ++ lit ∷ []) new (Some is) t f s w (subst (AreRead (chars text) file) parts read, n)
waiting_next text file taken new was is None read len (before, after) t f s w none =
    let nothing : into_iter_items was ≡ [] = nil_from_length (into_iter_items was) (sym len ∙ before) in
    let nothing_left : into_iter_items is ≡ [] = sym none ∙ nothing in
    let whole : AreRead (chars text) file taken = subst (AreRead (chars text) file)
    (ap (λ l. taken ++ l) nothing ∙ append-nil taken) read in (
      whole,
      placed text file taken new (Some is) t f s w (
        subst (AreRead (chars text) file)
            (sym (ap (λ l. taken ++ l) nothing_left ∙ append-nil taken)) whole,
        after ∙ sym (ap length nothing_left),
      ),
    )

-- If the iterator lexes the whole text after it has read literals token by token, its next result is the first literal
-- after those, or `None`.
pub waiting_first : {A : Type 0} (text : List ℕ) (file : ℕ) (taken more : List (Lit A)) (old new : Literals A)
    (was is : IntoIter (Lit A) A) (first : Option (Lit A)) → HasReturned text file taken old
    → AreRead (chars old.text.now) old.file (taken ++ more) → into_iter_items was ≡ more → into_iter_len was
    ≡ length more → into_iter_steps was first is → new.text ≡ old.text → new.file ≡ old.file → new.tokens ≡ old.tokens
    → new.waiting ≡ Some is → into_iter_items was ≡ option_to_list first ++ into_iter_items is
    → ReturnsNext text file taken (Ok first) new
waiting_first text file taken more old new was is first h read items len steps t f s w none =
    let here : AreRead (chars text) file (taken ++ more) = subst (λ k. AreRead (chars text) k (taken ++ more)) h.file_is
    (subst (λ u. AreRead (chars u) old.file (taken ++ more)) h.text_is read) in
    waiting_next text file taken new was is first (subst (λ l. AreRead (chars text) file (taken ++ l)) (sym items) here)
    (len ∙ ap length (sym items)) steps (ap (λ x. x.now) t ∙ h.text_is) (f ∙ h.file_is)
    (ap (λ (x : CursorState). x.text) s ∙ h.same) w none

-- If the iterator still reads token by token, the returned literals are the first literals of the text.
pub are_first : {A : Type 0} (text : List ℕ) (file : ℕ) (taken : List (Lit A)) (old : Literals A) → old.waiting ≡ None
    → HasReturned text file taken old → AreFirst (chars old.text.now) old.file old.count taken
are_first text file taken old none h =
    let p = subst (GoesOnAfter (chars text) file taken old.count (chars old.tokens.rest)) none h.goes_on in
    let first : AreFirst (chars text) file old.count taken = record
    { begun = record { rest = chars old.tokens.rest; read = p.0 }; count_is = p.1 } in
    subst (λ u. AreFirst (chars u) old.file old.count taken) (sym h.text_is)
    (subst (λ k. AreFirst (chars text) k old.count taken) (sym h.file_is) first)

-- If no text remains, the next result of the iterator is `None`.
pub none_left : {A : Type 0} (text : List ℕ) (file : ℕ) (taken : List (Lit A)) (old : Literals A) → old.waiting ≡ None
    → HasReturned text file taken old → old.tokens.rest ≡ [] → ReturnsNext text file taken (Ok None) old
none_left text file taken old none h empty =
    let p = subst (GoesOnAfter (chars text) file taken old.count (chars old.tokens.rest)) none h.goes_on in
    (read_whole (chars text) file taken (chars old.tokens.rest) (ap chars empty ∙ chars-nil) p.0, h)

-- If the iterator reads one more literal token by token, it has returned that literal too.
pub lex_next : {A : Type 0} (text : List ℕ) (file : ℕ) (taken : List (Lit A)) (old new : Literals A) (lit : Lit A)
    (ahead : CursorState) → old.waiting ≡ None → HasReturned text file taken old
    → ReadsNext old.file old.tokens lit ahead → new.text ≡ old.text → new.file ≡ old.file → new.tokens ≡ ahead
    → new.count ≡ old.count + 1 → new.waiting ≡ old.waiting → HasReturned text file (taken ++ lit ∷ []) new
lex_next text file taken old new lit ahead none h next t f s n w =
    let p = subst (GoesOnAfter (chars text) file taken old.count (chars old.tokens.rest)) none h.goes_on in
    let reads : ReadsNext file old.tokens lit ahead = subst (λ (k : ℕ). ReadsNext k old.tokens lit ahead) h.file_is next
    in
    let longer : AreReadUpTo (chars text) file (taken ++ lit ∷ []) (chars ahead.rest) =
    read_more text file old.tokens ahead taken (taken ++ lit ∷ []) h.same p.0
    (record { lit = lit; next = reads; longer_is = refl }) in
    let upto : AreReadUpTo (chars text) file (taken ++ lit ∷ []) (chars new.tokens.rest) = subst
    (λ (x : CursorState). AreReadUpTo (chars text) file (taken ++ lit ∷ []) (chars x.rest)) (sym s) longer in
    let count : length (taken ++ lit ∷ []) ≡ new.count = length-append taken (lit ∷ []) ∙ ap (λ k. k + 1) p.1 ∙ sym n in
    placed text file (taken ++ lit ∷ []) new None (ap (λ x. x.now) t ∙ h.text_is) (f ∙ h.file_is)
    (ap (λ (x : CursorState). x.text) s ∙ next.same ∙ h.same) (w ∙ none) (upto, count)

-- Suppose that the iterator lexes the whole text and then returns a literal. The number that each returned literal
-- lowers (`left_of`) is then lower than before.
pub waiting_lower : {A : Type 0} (old : Literals A) (is : IntoIter (Lit A) A) (first : Option (Lit A)) → old.waiting
    ≡ None → into_iter_len is < 2 ^ 64 → OnSome first (into_iter_len is < left_of old)
waiting_lower old is None none h = tt
waiting_lower old is (Some lit) none h =
    subst (λ w. into_iter_len is < left_with w (length old.tokens.rest)) (sym none) (omega (arith, h))

pub cut_lower : {A : Type 0} (old : Literals A) (bytes : ℕ) → old.waiting ≡ None → bytes < length old.tokens.rest
    → left_with old.waiting bytes < left_of old
cut_lower old bytes none h =
    subst (λ w. left_with w bytes < left_with w (length old.tokens.rest)) (sym none) (omega (arith, h))
