-- A name with dots is a slice of the input text: each of its identifiers and dots directly follows the one before it.
use Rattle.rl_syntax.proofs.Common.{◌≡◌, ℕ, ◌+◌, ◌-◌, true, List, [], ◌∷◌, ◌++◌, length, length-append, append_assoc, take, slice_range, refl, sym, ◌∙◌, ap, subst, arith, encode_utf8_all, encode_ascii, encodes-append, encodes-chars, and_parts, Option, Some, None, IfSome, IfNone, take-append_seam, IsUtf8, IsCharBoundary}
use Rattle.std.proofs.lemmas.Str.{scalars-chars, IsCharBoundary-at_seam}
use lib.Utf8.{scalars}
use Prim.Native.Char.{code}
use Rattle.rl_syntax.specs.Texts.{IsTail}
use Rattle.rl_syntax.proofs.TailLemmas.{tail_step}
use Rattle.rl_lexer.specs.declared.cursor.Lexeme.{Lexeme}
use Rattle.rl_lexer.specs.Cursors.{CursorState, TakesNext}
use Rattle.rl_lexer.specs.Lexemes.{Lexeme as Tree, lexeme_text, form_of, MarkForm}
use Rattle.rl_lexer.specs.Lexemes as lexemes
use Rattle.rl_cursors.specs.SettingSteps.{TakesName}
use Rattle.rl_cursors.specs.EntrySteps.{TakesDot, JoinsName, AreNameParts, dotted, BeginsDottedName, TakesDottedName}
use Rattle.rl_cursors.specs.declared.entries.DottedName.{DottedName}

-- ---- the text of a token, and the text directly after it

pub record TokenFront (old : CursorState) (l : Lexeme) : Type 0 where
  pub tail : List ℕ
  pub text : old.rest ≡ l.text.now ++ tail
  pub is_text : IsUtf8 tail
  pub hi_place : l.hi + length tail ≡ length old.text

scalars_after : (xs ys : List ℕ) → scalars (xs ++ ys) ≡ true → scalars ys ≡ true
scalars_after [] ys e = e
scalars_after (x ∷ xs) ys e = scalars_after xs ys (and_parts _ _ e).1

pub token_front : (old new : CursorState) (l : Lexeme) → IsUtf8 old.rest → TakesNext old l new → TokenFront old l
token_front old new l utf8 takes =
    let w = takes.cut in
    let text : old.rest ≡ l.text.now ++ encode_utf8_all takes.after = sym (encodes-chars old.rest utf8)
    ∙ ap encode_utf8_all takes.begins
    ∙ encodes-append (lexeme_text w.lexeme) takes.after
    ∙ ap (λ x. x ++ encode_utf8_all takes.after) takes.is_cut.bytes_are in
    record {
      tail = encode_utf8_all takes.after;
      text = text;
      is_text = (
        takes.after,
        (
          scalars_after (lexeme_text w.lexeme) takes.after
              (subst (λ (x : List ℕ). scalars x ≡ true) takes.begins (scalars-chars old.rest utf8)),
          refl,
        ),
      );
      hi_place = omega (
        arith,
        takes.place,
        takes.is_cut.lo_is,
        takes.is_cut.hi_is,
        ap length takes.is_cut.bytes_are,
        ap length text,
        length-append l.text.now (encode_utf8_all takes.after),
      );
    }

-- Two ends of one text are equal if their lengths are equal.
same_tail : (xs ys us vs : List ℕ) → xs ++ us ≡ ys ++ vs → length us ≡ length vs → us ≡ vs
same_tail [] [] us vs e l = e
same_tail [] (y ∷ ys) us vs e l = absurd (omega (arith, ap length e, l, length-append ys vs))
same_tail (x ∷ xs) [] us vs e l = absurd (omega (arith, ap length e, l, length-append xs us))
same_tail (x ∷ xs) (y ∷ ys) us vs e l = same_tail xs ys us vs (cc) l

-- The text of a dot token is a dot.
dot_tree : (t : Tree) → form_of t ≡ MarkForm (code ".") → lexeme_text t ≡ code "." ∷ []
dot_tree (lexemes.MarkLexeme c) e = cc
dot_tree (lexemes.DelimiterLexeme c) e = absurd (cc)
dot_tree (lexemes.IdentifierLexeme c more) e = absurd (cc)
dot_tree (lexemes.QuotedLexeme p parts suffix) e = absurd (cc)
dot_tree (lexemes.RawLexeme p n body suffix) e = absurd (cc)
dot_tree (lexemes.CharacterLexeme is_byte inside suffix) e = absurd (cc)
dot_tree (lexemes.BasedLexeme letter digits) e = absurd (cc)
dot_tree (lexemes.DecimalLexeme d more fraction exponent suffix) e = absurd (cc)

dot_text : (old new : CursorState) (dot : Lexeme) → TakesDot old dot new → dot.text.now ≡ code "." ∷ []
dot_text old new dot t =
    let cut = t.takes.is_cut in
    sym cut.bytes_are
    ∙ ap encode_utf8_all (dot_tree t.takes.cut.lexeme (cut.form_is ∙ t.is_dot))
    ∙ ap (λ x. x ++ []) (encode_ascii (code ".") (omega arith))

-- ---- a dotted name with one more identifier at its end

parts_more : (end hi : ℕ) (t mid new : CursorState) (parts : List Lexeme) (part : Lexeme) → AreNameParts end t parts mid hi
    → JoinsName hi mid part new → AreNameParts end t (parts ++ part ∷ []) new part.hi
parts_more end hi t mid new [] part are joins = (
  new,
  subst (λ (s : CursorState). JoinsName end s part new) are.0
      (subst (λ (n : ℕ). JoinsName n mid part new) are.1 joins),
  (refl, refl),
)
parts_more end hi t mid new (l ∷ ls) part (s, first, others) joins =
    (s, first, parts_more l.hi hi s mid new ls part others joins)

dotted_more : (first : Lexeme) (parts : List Lexeme) (part : Lexeme) → dotted first (parts ++ part ∷ [])
    ≡ dotted first parts ++ (code "." ∷ part.text.now)
dotted_more first [] part = refl
dotted_more first (l ∷ ls) part = ap (λ x. first.text.now ++ (code "." ∷ x)) (dotted_more l ls part)
    ∙ sym (append_assoc first.text.now (code "." ∷ dotted l ls) (code "." ∷ part.text.now))

-- The cursor has read the beginning of a dotted name, from the state `start` on. The text `tail` directly follows this
-- beginning.
pub record NameUpTo (start : CursorState) (first : Lexeme) (t : CursorState) (hi : ℕ) : Type 0 where
  pub parts : List Lexeme
  pub begins : BeginsDottedName start first parts t hi
  pub tail : List ℕ
  pub text : start.rest ≡ dotted first parts ++ tail
  pub is_text : IsUtf8 tail
  pub hi_place : hi + length tail ≡ length start.text
  pub lo_place : first.lo + length start.rest ≡ length start.text
  pub same : t.text ≡ start.text
  pub following : IsTail start.rest t.rest

pub name_begins : (start t : CursorState) (first : Lexeme) → IsUtf8 start.rest → TakesName start first t
    → NameUpTo start first t first.hi
name_begins start t first utf8 (takes, is_name) =
    let front = token_front start t first utf8 takes in
    record {
      parts = [];
      begins = record { following = t; named = (takes, is_name); are_parts = (refl, refl) };
      tail = front.tail;
      text = front.text;
      is_text = front.is_text;
      hi_place = front.hi_place;
      lo_place = takes.place;
      same = takes.same;
      following = takes.following;
    }

-- The text `tail` directly follows the part of a name that was read. If the next token begins there, the unread text is
-- `tail`.
stands_at : (start t next : CursorState) (front tail : List ℕ) (l : Lexeme) (hi : ℕ) → start.rest ≡ front ++ tail
    → hi + length tail ≡ length start.text → IsTail start.rest t.rest → t.text ≡ start.text → TakesNext t l next
    → l.lo ≡ hi → t.rest ≡ tail
stands_at start t next front tail l hi text hi_place following same takes touches =
    same_tail following.front front t.rest tail (sym following.text_is ∙ text)
    (omega (arith, hi_place, takes.place, touches, ap length same))

pub name_goes_on : (start t new : CursorState) (first part : Lexeme) (hi : ℕ) → NameUpTo start first t hi
    → JoinsName hi t part new → NameUpTo start first new part.hi
name_goes_on start t new first part hi name joins =
    let dot = joins.dot in
    let at = joins.at_part in
    let takes_dot = joins.takes_dot.takes in
    let takes_part = joins.named.0 in
    let rest_is : t.rest ≡ name.tail = stands_at start t at (dotted first name.parts) name.tail dot hi name.text name.hi_place
    name.following name.same takes_dot joins.touches in
    let of_dot = token_front t at dot name.following.is_text takes_dot in
    let part_is : at.rest ≡ of_dot.tail = stands_at t at new dot.text.now of_dot.tail part dot.hi of_dot.text of_dot.hi_place
    takes_dot.following takes_dot.same takes_part joins.touched in
    let of_part = token_front at new part takes_dot.following.is_text takes_part in
    let after : name.tail ≡ (code "." ∷ part.text.now) ++ of_part.tail = sym rest_is
    ∙ of_dot.text
    ∙ ap (λ x. x ++ of_dot.tail) (dot_text t at dot joins.takes_dot)
    ∙ ap (λ x. code "." ∷ x) (sym part_is ∙ of_part.text) in
    record {
      parts = name.parts ++ part ∷ [];
      begins = record {
        following = name.begins.following;
        named = name.begins.named;
        are_parts = parts_more first.hi hi name.begins.following t new name.parts part name.begins.are_parts joins;
      };
      tail = of_part.tail;
      text = name.text
          ∙ ap (λ x. dotted first name.parts ++ x) after
          ∙ sym (append_assoc (dotted first name.parts) (code "." ∷ part.text.now) of_part.tail)
          ∙ ap (λ x. x ++ of_part.tail) (sym (dotted_more first name.parts part));
      is_text = of_part.is_text;
      hi_place = of_part.hi_place ∙ ap length (takes_dot.same ∙ name.same);
      lo_place = name.lo_place;
      same = takes_part.same ∙ takes_dot.same ∙ name.same;
      following = tail_step start.rest t.rest new.rest name.following
          (tail_step t.rest at.rest new.rest takes_dot.following takes_part.following);
    }

-- ---- a dotted name is a slice of the input text

pub name_len : (start t : CursorState) (first : Lexeme) (hi : ℕ) (name : NameUpTo start first t hi)
    → length (dotted first name.parts) ≡ hi - first.lo
name_len start t first hi name = omega (
  arith,
  name.hi_place,
  name.lo_place,
  ap length name.text,
  length-append (dotted first name.parts) name.tail,
)

pub name_boundary : (start t : CursorState) (first : Lexeme) (hi : ℕ) → NameUpTo start first t hi
    → IsCharBoundary start.rest (hi - first.lo)
name_boundary start t first hi name =
    subst (λ (n : ℕ). IsCharBoundary start.rest n) (name_len start t first hi name)
    (IsCharBoundary-at_seam start.rest (dotted first name.parts) name.tail name.text name.is_text)

pub name_text : (start t : CursorState) (first : Lexeme) (hi : ℕ) (name : NameUpTo start first t hi)
    → take (hi - first.lo) start.rest ≡ dotted first name.parts
name_text start t first hi name = ap (λ n. take n start.rest) (sym (name_len start t first hi name))
    ∙ ap (λ x. take (length (dotted first name.parts)) x) name.text
    ∙ take-append_seam (dotted first name.parts) name.tail

pub slice_front : (r s : List ℕ) (n : ℕ) → r ≡ s → slice_range r 0 n ≡ take n s
slice_front r s n e = ap (λ m. take m r) (let q : n - 0 ≡ n = omega arith in q) ∙ ap (λ x. take n x) e

-- ---- each step of reading a name leaves the input text unchanged

parts_same : (end hi : ℕ) (t new : CursorState) (parts : List Lexeme) → AreNameParts end t parts new hi → new.text ≡ t.text
parts_same end hi t new [] are = ap (λ (s : CursorState). s.text) are.0
parts_same end hi t new (l ∷ ls) (s, joins, others) =
    parts_same l.hi hi s new ls others ∙ joins.named.0.same ∙ joins.takes_dot.takes.same

pub name_same : (old new : CursorState) (name : DottedName) → TakesDottedName old name new → new.text ≡ old.text
name_same old new name takes =
    let begins = takes.begins in
    parts_same takes.first.hi name.hi begins.following new takes.parts begins.are_parts ∙ begins.named.0.same

-- If a property holds for the value of an optional result, and the result is `Some x`, the property holds for `x`.
pub holds_of_some : {A : Type 0} (P : A → Type 0) (o : Option A) (x : A) → o ≡ Some x → IfSome o P → P x
holds_of_some {A = A} P o x e p = subst (λ (z : Option A). IfSome z P) e p

pub none_of : {A : Type 0} (P : Type 0) (o : Option A) → ((x : A) → o ≡ Some x → ⊥) → IfNone o P → P
none_of P None none p = p
none_of P (Some x) none p = absurd (none x refl)
