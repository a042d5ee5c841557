-- `after_piece` skips exactly one of these at the start of a text: a white space character, a plain comment, or a line
-- comment at the end of the text. So the text after all white space and comments is unique.
use Rattle.rl_syntax.proofs.Common.{◌≡◌, ℕ, suc, zero, ◌+◌, ◌⊎◌, inl, inr, Bool, true, false, ◌==◌, cond, List, [], ◌∷◌, ◌++◌, length, Option, Some, None, refl, sym, ◌∙◌, ap, subst, arith, append_assoc, nat_tests, AllByRecursion}
use Rattle.rl_syntax.specs.Texts.{is_white, first_passes}
use Rattle.rl_syntax.specs.Trivia.{is_comment_line, is_comment_block, inside_text, TriviaPiece, White, Line, Block, trivia_piece_text, IsTriviaPiece, trivia_text, IsTrivia}
use Rattle.rl_lexer.specs.Skipping.{IsOpenLine, BeginsTrivia, Skipped, OneRest}
use Rattle.rl_lexer.specs.Mirrors.SkippedAt.{after_block, after_line, after_comment, after_piece}
use Rattle.rl_lexer.proofs.Comments.{chosen, same_Some, Closes, after_block-sound, after_block-past, OneLine, after_line-past, after_line-open, plain_line-same, plain_block-same}
use Rattle.rl_syntax.proofs.Basics.{false_unless}
use Rattle.rl_syntax.specs.Classes.{after_run}

-- The text `r` follows the first LF of a text. If the text contains no LF, `r` is empty.
abbrev LineEnds : List ℕ → List ℕ → Type 0
LineEnds t r = ((body : List ℕ) × OneLine body × (t ≡ body ++ 10 ∷ r)) ⊎ (OneLine t × (r ≡ []))

line_ends_more : (c : ℕ) (t r : List ℕ) → (c == 10) ≡ false → LineEnds t r → LineEnds (c ∷ t) r
line_ends_more c t r h (inl (body, one, same)) = inl (c ∷ body, grind (arith, nat_tests), cc)
line_ends_more c t r h (inr (one, nothing)) = inr (grind (arith, nat_tests), nothing)

line_ends_step : (c : ℕ) (t : List ℕ) (b : Bool) → (c == 10) ≡ b → LineEnds t (after_line t)
    → LineEnds (c ∷ t) (cond b t (after_line t))
line_ends_step c t true h more = inl ([], refl, (let q : c ≡ 10 = grind (arith, nat_tests) in cc))
line_ends_step c t false h more = line_ends_more c t (after_line t) h more

after_line-sound : (t : List ℕ) → LineEnds t (after_line t)
after_line-sound [] = inr (refl, refl)
after_line-sound (c ∷ t) = line_ends_step c t (c == 10) refl (after_line-sound t)

-- The text `t` begins with a white space character, with a plain comment, or with a line comment that ends the text.
-- The text `r` follows this character or comment.
abbrev pub TakesOff : List ℕ → List ℕ → Type 0
TakesOff t r = ((p : TriviaPiece) × IsTriviaPiece p × (t ≡ trivia_piece_text p ++ r)) ⊎ (IsOpenLine t × (r ≡ []))

none-some : {A : Type 0} (x : A) → None ≡ Some x → ⊥
none-some x e = cc

takes_line : (t r : List ℕ) → is_comment_line t ≡ true → LineEnds t r → TakesOff (47 ∷ 47 ∷ t) r
takes_line t r plain (inl (body, one, same)) =
    inl (Line body, record { plain = sym (plain_line-same body r) ∙ ap is_comment_line (sym same) ∙ plain; one_line = one }, ap (λ x. 47 ∷ 47 ∷ x) (same ∙ sym (append_assoc body (10 ∷ []) r)))
takes_line t r plain (inr (one, nothing)) =
    inr (record { body = t; is_body = record { plain = plain; one_line = one }; text = refl }, nothing)

takes_block : (t r : List ℕ) → is_comment_block t ≡ true → Closes 1 t r → TakesOff (47 ∷ 42 ∷ t) r
takes_block t r plain (i, m, is, same, more) =
    let e : t ≡ inside_text i ++ r = same ∙ ap (λ x. inside_text i ++ x) more in
    inl (Block i, (is, sym (plain_block-same i r) ∙ ap is_comment_block (sym e) ∙ plain), ap (λ x. 47 ∷ 42 ∷ x) e)

pub is_equal : (c k : ℕ) → (c == k) ≡ true → c ≡ k
is_equal c k h = grind (arith, nat_tests)

takes_comment : (t r : List ℕ) → after_comment t ≡ Some r → TakesOff (47 ∷ t) r
takes_comment [] r h = absurd (none-some r h)
takes_comment (c ∷ t) r h =
    elim (chosen (c == 47) (cond (is_comment_line t) (Some (after_line t)) None)
    (cond (c == 42) (cond (is_comment_block t) (after_block 0 t) None) None) (Some r) h) [
      | inl (a, x) ↦ elim (chosen (is_comment_line t) (Some (after_line t)) None (Some r) x) [
        | inl (p, y) ↦ subst (λ (z : List ℕ × List ℕ). TakesOff z.0 z.1)
            (let q : c ≡ 47 = is_equal c 47 a in let s : after_line t
            ≡ r = same_Some (after_line t) r y in let g : ◌≡◌ {A = List ℕ × List ℕ} (47 ∷ 47 ∷ t, after_line t)
            (47 ∷ c ∷ t, r) = cc in g) (takes_line t (after_line t) p (after_line-sound t))
        | inr (p, y) ↦ absurd (none-some r y)
      ]
      | inr (a, x) ↦ elim (chosen (c == 42) (cond (is_comment_block t) (after_block 0 t) None) None (Some r) x) [
        | inl (b, y) ↦ elim (chosen (is_comment_block t) (after_block 0 t) None (Some r) y) [
          | inl (p, z) ↦ subst (λ (x : ℕ). TakesOff (47 ∷ x ∷ t) r) (sym (is_equal c 42 b))
              (takes_block t r p (after_block-sound 0 t r z))
          | inr (p, z) ↦ absurd (none-some r z)
        ]
        | inr (b, y) ↦ absurd (none-some r y)
      ]
    ]

pub after_piece-sound : (t r : List ℕ) → after_piece t ≡ Some r → TakesOff t r
after_piece-sound [] r h = absurd (none-some r h)
after_piece-sound (c ∷ t) r h =
    elim (chosen (c == 47) (after_comment t) (cond (is_white c) (Some t) None) (Some r) h) [
      | inl (a, x) ↦ subst (λ (z : ℕ). TakesOff (z ∷ t) r) (sym (is_equal c 47 a)) (takes_comment t r x)
      | inr (a, x) ↦ elim (chosen (is_white c) (Some t) None (Some r) x) [
        | inl (w, y) ↦ inl (White c, w, ap (λ z. c ∷ z) (same_Some t r y))
        | inr (w, y) ↦ absurd (none-some r y)
      ]
    ]

-- A white space character isn't a slash.
white_not_slash : (c : ℕ) → is_white c ≡ true → (c == 47) ≡ false
white_not_slash c w = false_unless (c == 47) (λ h. let q : is_white 47
    ≡ true = subst (λ (x : ℕ). is_white x ≡ true) (is_equal c 47 h) w in absurd (cc))

pub after_piece-past : (p : TriviaPiece) (r : List ℕ) → IsTriviaPiece p → after_piece (trivia_piece_text p ++ r)
    ≡ Some r
after_piece-past (White c) r w =
    ap (λ x. cond x (after_comment r) (cond (is_white c) (Some r) None)) (white_not_slash c w)
    ∙ ap (λ x. cond x (Some r) None) w
after_piece-past (Line body) r is =
    ap (λ x. cond (is_comment_line x) (Some (after_line x)) None) (append_assoc body (10 ∷ []) r)
    ∙ ap (λ x. cond x (Some (after_line (body ++ 10 ∷ r))) None) (plain_line-same body r ∙ is.plain)
    ∙ ap Some (after_line-past body r is.one_line)
after_piece-past (Block i) r (is, plain) =
    ap (λ x. cond x (after_block 0 (inside_text i ++ r)) None) (plain_block-same i r ∙ plain)
    ∙ after_block-past i 0 r is

pub after_piece-open : (t : List ℕ) → IsOpenLine t → after_piece t ≡ Some []
after_piece-open t l =
    ap after_piece l.text
    ∙ ap (λ x. cond x (Some (after_line l.body)) None) l.is_body.plain
    ∙ ap Some (after_line-open l.body l.is_body.one_line)

-- If `after_piece` returns `None` for a text, the text begins with neither white space nor a plain comment.
pub stops-from_none : (t : List ℕ) → after_piece t ≡ None → BeginsTrivia t → ⊥
stops-from_none t h (inl (p, rest, is, same)) = none-some rest
    (sym h ∙ ap after_piece same ∙ after_piece-past p rest is)
stops-from_none t h (inr line) = none-some [] (sym h ∙ after_piece-open t line)

begins-from_some : (t r : List ℕ) → TakesOff t r → BeginsTrivia t
begins-from_some t r (inl (p, is, same)) = inl (p, r, is, same)
begins-from_some t r (inr (line, nothing)) = inr line

none_unless : (t : List ℕ) (o : Option (List ℕ)) → after_piece t ≡ o → (BeginsTrivia t → ⊥) → o ≡ None
none_unless t None h stops = refl
none_unless t (Some r) h stops = absurd (stops (begins-from_some t r (after_piece-sound t r h)))

-- The result of one iteration of a function that skips white space and comments: the text `t` if nothing was skipped,
-- and otherwise the result of `f` for the text after the skipped white space or comment.
abbrev goes_on : (List ℕ → List ℕ) → List ℕ → Option (List ℕ) → List ℕ
goes_on f t None = t
goes_on f t (Some r) = f r

abbrev skip_in : ℕ → List ℕ → List ℕ
skip_in zero t = t
skip_in (suc n) t = goes_on (skip_in n) t (after_piece t)

abbrev adds : List TriviaPiece → ℕ → ℕ
adds [] n = n
adds (p ∷ ps) n = suc (adds ps n)

adds-length : (ps : List TriviaPiece) (n : ℕ) → adds ps n ≡ length ps + n
adds-length [] n = omega arith
adds-length (p ∷ ps) n = omega (arith, adds-length ps n)

skip_in-trivia : (ps : List TriviaPiece) (n : ℕ) (r : List ℕ) → AllByRecursion IsTriviaPiece ps
    → skip_in (adds ps n) (trivia_text ps ++ r) ≡ skip_in n r
skip_in-trivia [] n r is = refl
skip_in-trivia (p ∷ ps) n r (is, more) =
    ap (λ x. skip_in (suc (adds ps n)) x) (append_assoc (trivia_piece_text p) (trivia_text ps) r)
    ∙ ap (λ x. goes_on (skip_in (adds ps n)) (trivia_piece_text p ++ (trivia_text ps ++ r)) x)
    (after_piece-past p (trivia_text ps ++ r) is)
    ∙ skip_in-trivia ps n r more

skip_in-stops : (n : ℕ) (t : List ℕ) → after_piece t ≡ None → skip_in n t ≡ t
skip_in-stops zero t h = refl
skip_in-stops (suc n) t h = ap (λ x. goes_on (skip_in n) t x) h

-- A function that skips white space and comments, with a limit on its iterations, returns `r` for the text `t` if the
-- limit is large enough.
abbrev Reaches : List ℕ → List ℕ → Type 0
Reaches t r = (ps : List TriviaPiece) × ((n : ℕ) → skip_in (adds ps (suc n)) t ≡ r)

reaches : (t r : List ℕ) → Skipped t r → Reaches t r
reaches t r (inl s) = (
  s.is_trivia.pieces,
  λ n.
      ap (λ x. skip_in (adds s.is_trivia.pieces (suc n)) x) (s.text ∙ ap (λ x. x ++ r) s.is_trivia.text)
      ∙ skip_in-trivia s.is_trivia.pieces (suc n) r s.is_trivia.each
      ∙ skip_in-stops (suc n) r (none_unless r (after_piece r) refl s.stops),
)
reaches t r (inr s) = (
  s.is_trivia.pieces,
  λ n.
      ap (λ x. skip_in (adds s.is_trivia.pieces (suc n)) x) (s.text ∙ ap (λ x. x ++ s.line) s.is_trivia.text)
      ∙ skip_in-trivia s.is_trivia.pieces (suc n) s.line s.is_trivia.each
      ∙ ap (λ x. goes_on (skip_in n) s.line x) (after_piece-open s.line s.is_line)
      ∙ skip_in-stops n [] refl ∙ sym s.nothing,
)

pub one_rest : OneRest
one_rest t r s a b =
    let (ps, f) = reaches t r a in
    let (qs, g) = reaches t s b in
    let m = adds qs 0 in
    let n = adds ps 0 in
    let e : adds ps (suc m) ≡ adds qs (suc n) = omega (
      arith,
      adds-length ps (suc m),
      adds-length qs (suc n),
      adds-length ps 0,
      adds-length qs 0,
    ) in
    sym (f m) ∙ ap (λ k. skip_in k t) e ∙ g n

-- If two texts joined are the empty text, the second one is empty.
nil-append : (a r : List ℕ) → [] ≡ a ++ r → r ≡ []
nil-append [] r h = sym h
nil-append (x ∷ a) r h = absurd (cc)

nothing_tail : (r : List ℕ) → Skipped [] r → r ≡ []
nothing_tail r (inl s) = nil-append s.front r s.text
nothing_tail r (inr s) = s.nothing

trivia_more : (p : TriviaPiece) (front : List ℕ) → IsTriviaPiece p → IsTrivia front
    → IsTrivia (trivia_piece_text p ++ front)
trivia_more p front is more = record { pieces = p ∷ more.pieces; each = (is, more.each); text = ap (λ x. trivia_piece_text p ++ x) more.text }

pub no_trivia : IsTrivia []
no_trivia = record { pieces = []; each = tt; text = refl }

joined : (t a b m r : List ℕ) → t ≡ a ++ m → m ≡ b ++ r → t ≡ (a ++ b) ++ r
joined t a b m r h k = h ∙ ap (λ x. a ++ x) k ∙ sym (append_assoc a b r)

skipped_more : (p : TriviaPiece) (t m r : List ℕ) → IsTriviaPiece p → t ≡ trivia_piece_text p ++ m → Skipped m r
    → Skipped t r
skipped_more p t m r is same (inl s) = inl (record { front = trivia_piece_text p ++ s.front; is_trivia = trivia_more p s.front is s.is_trivia; text = joined t (trivia_piece_text p) s.front m r same s.text; stops = s.stops })
skipped_more p t m r is same (inr s) = inr (record { front = trivia_piece_text p ++ s.front; line = s.line; is_trivia = trivia_more p s.front is s.is_trivia; is_line = s.is_line; text = joined t (trivia_piece_text p) s.front m s.line same s.text; nothing = s.nothing })

skipped_by : (t m r : List ℕ) → TakesOff t m → Skipped m r → Skipped t r
skipped_by t m r (inl (p, is, same)) s = skipped_more p t m r is same s
skipped_by t m r (inr (line, nothing)) s = inr (record { front = []; line = t; is_trivia = no_trivia; is_line = line; text = refl; nothing = nothing_tail r (subst (λ (x : List ℕ). Skipped x r) nothing s) })

pub skipped_after : (t m r : List ℕ) → after_piece t ≡ Some m → Skipped m r → Skipped t r
skipped_after t m r h s = skipped_by t m r (after_piece-sound t m h) s

pub skipped_here : (t : List ℕ) → after_piece t ≡ None → Skipped t t
skipped_here t h = inl (record { front = []; is_trivia = no_trivia; text = refl; stops = stops-from_none t h })

-- Skipping white space and comments again doesn't change the result.
pub skipped_again : (t r : List ℕ) → Skipped t r → Skipped r r
skipped_again t r (inl s) = inl (record { front = []; is_trivia = no_trivia; text = refl; stops = s.stops })
skipped_again t r (inr s) = skipped_here r (ap after_piece s.nothing)

-- ---- sequences of white space

pub skipped_run : (t u r : List ℕ) → u ≡ after_run is_white t → Skipped u r → Skipped t r
skipped_run t u r e s = go t (subst (λ (x : List ℕ). Skipped x r) e s)
  where
    step : (c : ℕ) (t : List ℕ) (b : Bool) → is_white c ≡ b → (Skipped (after_run is_white t) r → Skipped t r)
        → Skipped (cond b (after_run is_white t) (c ∷ t)) r → Skipped (c ∷ t) r
    step c t true h more s = skipped_after (c ∷ t) t r (after_piece-past (White c) t h) (more s)
    step c t false h more s = s

    go : (t : List ℕ) → Skipped (after_run is_white t) r → Skipped t r
    go [] s = s
    go (c ∷ t) s = step c t (is_white c) refl (go t) s

pub run_ends : (test : ℕ → Bool) (t u : List ℕ) → u ≡ after_run test t → first_passes test u ≡ false
run_ends test t u e = ap (first_passes test) e ∙ go t
  where
    step : (c : ℕ) (t : List ℕ) (b : Bool) → test c ≡ b → first_passes test (after_run test t) ≡ false
        → first_passes test (cond b (after_run test t) (c ∷ t)) ≡ false
    step c t true h more = more
    step c t false h more = h

    go : (t : List ℕ) → first_passes test (after_run test t) ≡ false
    go [] = refl
    go (c ∷ t) = step c t (test c) refl (go t)

-- Skipping white space and comments doesn't change a text that begins with neither white space nor a slash.
pub skipped_none : (t : List ℕ) → first_passes is_white t ≡ false → first_passes (λ c. c == 47) t ≡ false → Skipped t t
skipped_none [] white slash = skipped_here [] refl
skipped_none (c ∷ t) white slash = skipped_here (c ∷ t) (ap (λ b. cond b (after_comment t)
    (cond (is_white c) (Some t) None)) slash ∙ ap (λ b. cond b (Some t) None) white)

pub skipped_slash : (t u : List ℕ) → t ≡ 47 ∷ u → after_comment u ≡ None → Skipped t t
skipped_slash t u e h = skipped_here t (ap after_piece e ∙ h)

pub skipped_comment : (t u m r : List ℕ) → t ≡ 47 ∷ u → after_comment u ≡ Some m → Skipped m r → Skipped t r
skipped_comment t u m r e h s = skipped_after t m r (ap after_piece e ∙ h) s
