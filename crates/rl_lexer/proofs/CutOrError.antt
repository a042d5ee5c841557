-- Each text is lexed to its end, or has a first error.
use Rattle.rl_syntax.proofs.Common.{◌≡◌, ◌⊎◌, ◌≤◌, inl, inr, ℕ, zero, suc, ◌+◌, ◌-◌, Bool, true, false, not, ◌&&◌, ◌||◌, ◌==◌, nat_lt, List, [], ◌∷◌, ◌++◌, length, length-append, Option, Some, None, refl, sym, ◌∙◌, ap, subst, arith, nat_tests, if◌then◌else◌, option_and_then}
use Rattle.rl_syntax.specs.Texts.{is_among, byte_len}
use Rattle.rl_syntax.specs.Trivia.{TriviaPiece, White, Line, Block, trivia_piece_text}
use Rattle.rl_lexer.specs.declared.lex_error.LexKind.{LexKind}
use Rattle.rl_lexer.specs.declared.lex_error.LexKind.TheVariants.{UnmatchedClose, UnclosedGroup, TooDeep}
use Rattle.rl_lexer.specs.Skipping.{Skipped}
use Rattle.rl_lexer.specs.Lexemes.{Lexeme, NoPrefix, BytePrefix, CPrefix, QuotedLexeme, RawLexeme, CharacterLexeme, BasedLexeme, DecimalLexeme, IdentifierLexeme, DelimiterLexeme, MarkLexeme, LexemeForm, lexeme_text, IsLexeme, delimiters}
use Rattle.rl_lexer.specs.Cuts.{LexedToken, end_of, LexesUpTo, OpenGroup, is_opener, is_closer, closes, popped, after_delimiter, after_lexeme, open_groups, BeginsNoLexeme, ErrorAt, error_place, HasFirstError}
use Rattle.rl_lexer.specs.Mirrors.ErrorAt.{error_kind}
use Rattle.rl_lexer.specs.Mirrors.SkippedAt.{after_piece}
use Rattle.rl_lexer.specs.Mirrors.LexemeAt.{lexeme_at, FormBefore}
use Rattle.rl_lexer.proofs.Pieces.{TakesOff, after_piece-sound, skipped_here, skipped_after}
use Rattle.rl_lexer.proofs.CutLemmas.{byte_len-append}
use Rattle.rl_lexer.proofs.LexemeAnswers.{form_before, no_lexeme}
use Rattle.rl_lexer.proofs.ErrorKinds.{kind_here}

-- ---- each text has a text after its leading white space and comments

piece_len : (p : TriviaPiece) → 1 ≤ length (trivia_piece_text p)
piece_len (White c) = omega arith
piece_len (Line body) = omega arith
piece_len (Block inside) = omega arith

shorter_piece : (t m : List ℕ) → TakesOff t m → suc (length m) ≤ length t
shorter_piece t m (inl (p, is, same)) =
    omega (arith, piece_len p, ap length same, length-append (trivia_piece_text p) m)
shorter_piece t m (inr (line, nothing)) = omega (arith, ap length line.text, ap length nothing)

record HasRest (t : List ℕ) : Type 0 where
  pub rest : List ℕ
  pub skipped : Skipped t rest
  pub short : length rest ≤ length t

skip_step : (t : List ℕ) (o : Option (List ℕ)) → after_piece t ≡ o
    → ((m : List ℕ) → after_piece t ≡ Some m → HasRest m) → HasRest t
skip_step t None e next = record { rest = t; skipped = skipped_here t e; short = omega arith }
skip_step t (Some m) e next =
    let r = next m e in
    record {
      rest = r.rest;
      skipped = skipped_after t m r.rest e r.skipped;
      short = omega (arith, r.short, shorter_piece t m (after_piece-sound t m e));
    }

skip_from : (n : ℕ) (t : List ℕ) → length t ≤ n → HasRest t
skip_from zero [] small = record { rest = []; skipped = skipped_here [] refl; short = omega arith }
skip_from zero (c ∷ t) small = absurd (omega (arith, small))
skip_from (suc n) t small =
    skip_step t (after_piece t) refl
    (λ m e. skip_from n m (omega (arith, small, shorter_piece t m (after_piece-sound t m e))))

skipped_size : (t r : List ℕ) → Skipped t r → byte_len r ≤ byte_len t
skipped_size t r (inl s) = omega (arith, ap byte_len s.text, byte_len-append s.front r)
skipped_size t r (inr s) = let none : byte_len r ≡ 0 = ap byte_len s.nothing in omega (arith, none)

-- ---- a token isn't empty

lexeme_some : (l : Lexeme) → lexeme_text l ≡ [] → ⊥
lexeme_some (QuotedLexeme NoPrefix parts x) e = cc
lexeme_some (QuotedLexeme BytePrefix parts x) e = cc
lexeme_some (QuotedLexeme CPrefix parts x) e = cc
lexeme_some (RawLexeme NoPrefix n body x) e = cc
lexeme_some (RawLexeme BytePrefix n body x) e = cc
lexeme_some (RawLexeme CPrefix n body x) e = cc
lexeme_some (CharacterLexeme true inside x) e = cc
lexeme_some (CharacterLexeme false inside x) e = cc
lexeme_some (BasedLexeme letter digits) e = cc
lexeme_some (DecimalLexeme d more f p x) e = cc
lexeme_some (IdentifierLexeme c more) e = cc
lexeme_some (DelimiterLexeme c) e = cc
lexeme_some (MarkLexeme c) e = cc

some_len : (t : List ℕ) → (t ≡ [] → ⊥) → 1 ≤ length t
some_len [] some = absurd (some refl)
some_len (c ∷ t) some = omega arith

after_short : (l : Lexeme) (r after : List ℕ) → r ≡ lexeme_text l ++ after → suc (length after) ≤ length r
after_short l r after same =
    omega (arith, ap length same, length-append (lexeme_text l) after, some_len (lexeme_text l) (lexeme_some l))

-- ---- the error at a delimiter

closer_bits : (a b c d e f : Bool) → (a || (b || (c || (d || (e || (f || false)))))) ≡ true
    → (a || (c || (e || false))) ≡ false → (b || (d || (f || false))) ≡ true
closer_bits true b c d e f h k = absurd (cc)
closer_bits false true c d e f h k = refl
closer_bits false false true d e f h k = absurd (cc)
closer_bits false false false true e f h k = refl
closer_bits false false false false true f h k = absurd (cc)
closer_bits false false false false false true h k = refl
closer_bits false false false false false false h k = absurd (cc)

closer_is : (c : ℕ) → is_among delimiters c ≡ true → is_opener c ≡ false → is_closer c ≡ true
closer_is c h k = closer_bits (c == 40) (c == 41) (c == 91) (c == 93) (c == 123) (c == 125) h k

abbrev Fails : List OpenGroup → List ℕ → Type 0
Fails groups r = (kind : LexKind) × ErrorAt kind groups r

delimiter_fails : (groups : List OpenGroup) (c at : ℕ) (t : List ℕ) → is_among delimiters c ≡ true
    → length groups ≤ 128 → after_delimiter groups c at ≡ None → Fails groups (c ∷ t)
delimiter_fails groups c at t is deep none =
    go (is_opener c) (nat_lt (length groups) 128) (closes groups c) refl refl refl none
  where
    go : (o n k : Bool) → is_opener c ≡ o → nat_lt (length groups) 128 ≡ n → closes groups c ≡ k
        → (if o then (if n then Some (let g : OpenGroup = record { opener = c; at = at } in g ∷ groups) else None)
        else (if k then Some (popped groups) else None)) ≡ None → Fails groups (c ∷ t)
    go true true k a b d e = absurd (cc)
    go true false k a b d e = (TooDeep, (a, grind (arith, nat_tests)))
    go false n true a b d e = absurd (cc)
    go false n false a b d e =
        (UnmatchedClose, ap (λ x. x && not (closes groups c)) (closer_is c is a) ∙ ap not d)

delimiter_deep : (groups h : List OpenGroup) (c at : ℕ) → length groups ≤ 128 → after_delimiter groups c at ≡ Some h
    → length h ≤ 128
delimiter_deep groups h c at deep some =
    go (is_opener c) (nat_lt (length groups) 128) (closes groups c) refl some
  where
    less : (g : List OpenGroup) → length g ≤ 128 → length (popped g) ≤ 128
    less [] d = d
    less (o ∷ os) d = omega (arith, d)

    go : (o n k : Bool) → nat_lt (length groups) 128 ≡ n
        → (if o then (if n then Some (let g : OpenGroup = record { opener = c; at = at } in g ∷ groups) else None)
        else (if k then Some (popped groups) else None)) ≡ Some h → length h ≤ 128
    go true true k b e =
        let g : OpenGroup = record { opener = c; at = at } in
        let same : h ≡ g ∷ groups = cc in
        let size : length h ≡ length (g ∷ groups) = ap length same in
        let small : suc (length groups) ≤ 128 = grind (arith, nat_tests) in
        omega (arith, size, small)
    go true false k b e = absurd (cc)
    go false n true b e =
        let same : h ≡ popped groups = cc in subst (λ (x : List OpenGroup). length x ≤ 128) (sym same) (less groups deep)
    go false n false b e = absurd (cc)

same_deep : (groups h : List OpenGroup) → length groups ≤ 128 → Some groups ≡ Some h → length h ≤ 128
same_deep groups h deep e =
    let same : groups ≡ h = cc in subst (λ (x : List OpenGroup). length x ≤ 128) same deep

lexeme_fails : (l : Lexeme) (groups : List OpenGroup) (at : ℕ) (after : List ℕ) → IsLexeme l after
    → length groups ≤ 128 → after_lexeme groups l at ≡ None → Fails groups (lexeme_text l ++ after)
lexeme_fails (DelimiterLexeme c) groups at after is deep none = delimiter_fails groups c at after is deep none
lexeme_fails (QuotedLexeme p parts x) groups at after is deep none = absurd (cc)
lexeme_fails (RawLexeme p n body x) groups at after is deep none = absurd (cc)
lexeme_fails (CharacterLexeme b inside x) groups at after is deep none = absurd (cc)
lexeme_fails (BasedLexeme letter digits) groups at after is deep none = absurd (cc)
lexeme_fails (DecimalLexeme d more f e x) groups at after is deep none = absurd (cc)
lexeme_fails (IdentifierLexeme c more) groups at after is deep none = absurd (cc)
lexeme_fails (MarkLexeme c) groups at after is deep none = absurd (cc)

lexeme_deep : (l : Lexeme) (groups h : List OpenGroup) (at : ℕ) → length groups ≤ 128 → after_lexeme groups l at
    ≡ Some h → length h ≤ 128
lexeme_deep (DelimiterLexeme c) groups h at deep some = delimiter_deep groups h c at deep some
lexeme_deep (QuotedLexeme p parts x) groups h at deep some = same_deep groups h deep some
lexeme_deep (RawLexeme p n body x) groups h at deep some = same_deep groups h deep some
lexeme_deep (CharacterLexeme b inside x) groups h at deep some = same_deep groups h deep some
lexeme_deep (BasedLexeme letter digits) groups h at deep some = same_deep groups h deep some
lexeme_deep (DecimalLexeme d more f e x) groups h at deep some = same_deep groups h deep some
lexeme_deep (IdentifierLexeme c more) groups h at deep some = same_deep groups h deep some
lexeme_deep (MarkLexeme c) groups h at deep some = same_deep groups h deep some

-- ---- a text is lexed up to its end, or up to an error

record Ends (at : ℕ) (t : List ℕ) (before : List OpenGroup) : Type 0 where
  pub cuts : List LexedToken
  pub rest : List ℕ
  pub groups : List OpenGroup
  pub are_cuts : LexesUpTo at t cuts rest
  pub are_open : open_groups before cuts ≡ Some groups
  pub stops : ((rest ≡ []) × (groups ≡ [])) ⊎ Fails groups rest
  pub size : byte_len rest ≤ byte_len t

-- Each shorter text is lexed to its end, or up to an error.
abbrev Next : List ℕ → Type 0
Next t = (at : ℕ) (after : List ℕ) (groups : List OpenGroup) → suc (length after) ≤ length t → length groups ≤ 128
    → Ends at after groups

no_token : (at : ℕ) (t r : List ℕ) (groups : List OpenGroup) → Skipped t r → BeginsNoLexeme r → Ends at t groups
no_token at t r groups skipped none = record {
  cuts = [];
  rest = r;
  groups = groups;
  are_cuts = skipped;
  are_open = refl;
  stops = why r none groups;
  size = skipped_size t r skipped;
}
  where
    why : (r : List ℕ) → BeginsNoLexeme r → (groups : List OpenGroup) → ((r ≡ []) × (groups ≡ [])) ⊎ Fails groups r
    why [] none [] = inl (refl, refl)
    why [] none (o ∷ os) = inr (UnclosedGroup, (refl, (λ e. cc)))
    why (c ∷ r) none groups = inr (error_kind (c ∷ r), kind_here groups (c ∷ r) (λ e. cc) none)

token_first : (at : ℕ) (t r : List ℕ) (groups : List OpenGroup) (form : LexemeForm) (after : List ℕ) → Skipped t r
    → length r ≤ length t → length groups ≤ 128 → FormBefore r form after → Next t → Ends at t groups
token_first at t r groups form after skipped short deep f next =
    let place = at + byte_len t - byte_len r in
    go place (omega (arith, skipped_size t r skipped)) (after_lexeme groups f.lexeme place) refl
  where
    go : (place : ℕ) → place + byte_len r ≡ at + byte_len t → (o : Option (List OpenGroup))
        → after_lexeme groups f.lexeme place ≡ o → Ends at t groups
    go place here None e = record {
      cuts = [];
      rest = r;
      groups = groups;
      are_cuts = skipped;
      are_open = refl;
      stops = inr (subst (λ (x : List ℕ). Fails groups x) (sym f.text_is)
          (lexeme_fails f.lexeme groups place after f.is_lexeme deep e));
      size = skipped_size t r skipped;
    }
    go place here (Some h) e =
        let w : LexedToken = record { lexeme = f.lexeme; at = place } in
        let rec = next (end_of w) after h (omega (arith, short, after_short f.lexeme r after f.text_is))
        (lexeme_deep f.lexeme groups h place deep e) in
        record {
          cuts = w ∷ rec.cuts;
          rest = rec.rest;
          groups = rec.groups;
          are_cuts = (
            after,
            subst (λ (x : List ℕ). Skipped t x) f.text_is skipped,
            f.is_lexeme,
            ap (λ x. place + byte_len x) (sym f.text_is) ∙ here,
            rec.are_cuts,
          );
          are_open = ap (option_and_then (λ g. open_groups g rec.cuts)) e ∙ rec.are_open;
          stops = rec.stops;
          size = omega (
            arith,
            rec.size,
            skipped_size t r skipped,
            ap byte_len f.text_is,
            byte_len-append (lexeme_text f.lexeme) after,
          );
        }

ends_step : (at : ℕ) (t : List ℕ) (groups : List OpenGroup) → length groups ≤ 128 → Next t → Ends at t groups
ends_step at t groups deep next =
    let s = skip_from (length t) t (omega arith) in
    go s.rest s.skipped s.short (lexeme_at s.rest) refl
  where
    go : (r : List ℕ) → Skipped t r → length r ≤ length t → (o : Option (LexemeForm × List ℕ)) → lexeme_at r ≡ o
        → Ends at t groups
    go r skipped short None e = no_token at t r groups skipped (no_lexeme r e)
    go r skipped short (Some p) e = token_first at t r groups p.0 p.1 skipped short deep (form_before r p e) next

ends_from : (n at : ℕ) (t : List ℕ) (groups : List OpenGroup) → length t ≤ n → length groups ≤ 128 → Ends at t groups
ends_from zero at t groups small deep = ends_step at t groups deep (λ k after gs short d. absurd (omega (arith, small, short)))
ends_from (suc n) at t groups small deep =
    ends_step at t groups deep (λ k after gs short d. ends_from n k after gs (omega (arith, small, short)) d)

-- The whole text is lexed into tokens, and no group is open at its end.
pub record IsCut (t : List ℕ) : Type 0 where
  pub cuts : List LexedToken
  pub are_cuts : LexesUpTo 0 t cuts []
  pub none_open : open_groups [] cuts ≡ Some []

pub cut_or_error : (t : List ℕ) → IsCut t ⊎ ((kind : LexKind) × (at : ℕ) × HasFirstError t kind at)
cut_or_error t =
    let e = ends_from (length t) 0 t [] (omega arith) (omega arith) in
    elim e.stops [
      | inl (nil, none) ↦ inl (record {
        cuts = e.cuts;
        are_cuts = subst (λ (x : List ℕ). LexesUpTo 0 t e.cuts x) nil e.are_cuts;
        none_open = e.are_open ∙ ap Some none;
      })
      | inr (kind, error) ↦ inr (
        kind,
        error_place kind e.groups (byte_len t - byte_len e.rest),
        record {
          cuts = e.cuts;
          rest = e.rest;
          groups = e.groups;
          rest_at = byte_len t - byte_len e.rest;
          are_cuts = e.are_cuts;
          are_open = e.are_open;
          error = error;
          rest_place = omega (arith, e.size);
          at_is = refl;
        },
      )
    ]
