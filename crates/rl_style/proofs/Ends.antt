-- If a new literal has the kind, the prefix and the suffix of the old one (`SameEnds`), each text that may follow the old
-- literal may also follow the new literal. Both literals begin alike.
use Rattle.rl_syntax.proofs.Common.{◌≡◌, ◌≢◌, ℕ, inl, inr, Bool, true, false, ◌||◌, ◌==◌, List, [], ◌∷◌, ◌++◌, refl, sym, ◌∙◌, ap, subst, replicate, codes, list_all, is_ascii_digit}
use Rattle.rl_syntax.specs.Texts.{is_among, is_continue}
use Rattle.rl_lexer.specs.Lexemes.{BeginsHashedQuote, BodyPart, body_text, CharacterBody, character_body_text, LiteralPrefix, NoPrefix, BytePrefix, CPrefix, Lexeme, QuotedLexeme, RawLexeme, CharacterLexeme, BasedLexeme, DecimalLexeme, LexedFraction, lexed_fraction_text, LexedExponent, lexed_exponent_text, lexeme_text, IsLexeme}
use Rattle.rl_lexer.proofs.LexemeFronts.{raw_text}
use Rattle.rl_lexer.proofs.LexemeRows.{not_among}
use Rattle.rl_style.proofs.Decimals.{decimal_is}
use Rattle.rl_style.specs.Around.{is_head, SameFront, KeepsItsEnds}

-- Two texts begin alike if both begin with the text `front` and the character `h`, a literal may begin with `h`, and `h` isn't
-- `r`.
pub alike : (front : List ℕ) (h : ℕ) (x y : List ℕ) → is_head h ≡ true → (h ≡ 114 → ⊥)
    → SameFront (front ++ (h ∷ x)) (front ++ (h ∷ y))
alike front h x y is other = record { front = front; head = h; new_head = h; same_head = inl refl; old_rest = x; new_rest = y; is_head = is; raw = λ e. absurd (other e); old_is = refl; new_is = refl }

raw_alike : (front x y : List ℕ) → BeginsHashedQuote x → BeginsHashedQuote y
    → SameFront (front ++ (114 ∷ x)) (front ++ (114 ∷ y))
raw_alike front x y a b = record { front = front; head = 114; new_head = 114; same_head = inl refl; old_rest = x; new_rest = y; is_head = refl; raw = λ e. (a, b); old_is = refl; new_is = refl }

pub not_r : (h : ℕ) → (h == 114) ≡ false → h ≡ 114 → ⊥
not_r h other e = let q : (h == 114) ≡ true = ap (λ z. z == 114) e in let k : true ≡ false = sym q
    ∙ other in absurd (cc)

pub quoted_front : (p : LiteralPrefix) (a b : List BodyPart) (x y z : List ℕ)
    → SameFront (lexeme_text (QuotedLexeme p a x) ++ y) (lexeme_text (QuotedLexeme p b x) ++ z)
quoted_front NoPrefix a b x y z = alike [] 34 (body_text a ++ 34 ∷ x ++ y) (body_text b ++ 34 ∷ x ++ z) refl
    (not_r 34 refl)
quoted_front BytePrefix a b x y z = alike (98 ∷ []) 34 (body_text a ++ 34 ∷ x ++ y) (body_text b ++ 34 ∷ x ++ z) refl
    (not_r 34 refl)
quoted_front CPrefix a b x y z = alike (99 ∷ []) 34 (body_text a ++ 34 ∷ x ++ y) (body_text b ++ 34 ∷ x ++ z) refl
    (not_r 34 refl)

pub character_front : (k : Bool) (a b : CharacterBody) (x y z : List ℕ)
    → SameFront (lexeme_text (CharacterLexeme k a x) ++ y) (lexeme_text (CharacterLexeme k b x) ++ z)
character_front false a b x y z = alike [] 39 (character_body_text a ++ 39 ∷ x ++ y)
    (character_body_text b ++ 39 ∷ x ++ z) refl (not_r 39 refl)
character_front true a b x y z = alike (98 ∷ []) 39 (character_body_text a ++ 39 ∷ x ++ y)
    (character_body_text b ++ 39 ∷ x ++ z) refl (not_r 39 refl)

-- The text of a string after its opening quote: its body, the closing quote, its suffix, and the text after the string.
abbrev pub quoted_rest : List BodyPart → List ℕ → List ℕ → List ℕ
quoted_rest parts x after = body_text parts ++ 34 ∷ x ++ after

abbrev pub raw_rest : ℕ → List ℕ → List ℕ → List ℕ → List ℕ
raw_rest n body x after = (((replicate n 35 ++ (34 ∷ body)) ++ (34 ∷ replicate n 35)) ++ x) ++ after

raw_opens : (n : ℕ) (body x after : List ℕ) → BeginsHashedQuote (raw_rest n body x after)
raw_opens n body x after = record { hashes = n; rest = body ++ (34 ∷ (replicate n 35 ++ (x ++ after))); text_is = raw_text n body x after }

pub raw_front : (p : LiteralPrefix) (n m : ℕ) (a b x y z : List ℕ)
    → SameFront (lexeme_text (RawLexeme p n a x) ++ y) (lexeme_text (RawLexeme p m b x) ++ z)
raw_front NoPrefix n m a b x y z = raw_alike [] (raw_rest n a x y) (raw_rest m b x z) (raw_opens n a x y)
    (raw_opens m b x z)
raw_front BytePrefix n m a b x y z = raw_alike (98 ∷ []) (raw_rest n a x y) (raw_rest m b x z) (raw_opens n a x y)
    (raw_opens m b x z)
raw_front CPrefix n m a b x y z = raw_alike (99 ∷ []) (raw_rest n a x y) (raw_rest m b x z) (raw_opens n a x y)
    (raw_opens m b x z)

based_front : (letter : ℕ) (a b after : List ℕ)
    → SameFront (lexeme_text (BasedLexeme letter a) ++ after) (lexeme_text (BasedLexeme letter b) ++ after)
based_front letter a b after = alike [] 48 (letter ∷ (a ++ after)) (letter ∷ (b ++ after)) refl (not_r 48 refl)

decimal_front : (d : ℕ) (more new : List ℕ) (f g : LexedFraction) (e p : LexedExponent) (x after : List ℕ)
    → is_ascii_digit d ≡ true
    → SameFront (lexeme_text (DecimalLexeme d more f e x) ++ after) (lexeme_text (DecimalLexeme d new g p x) ++ after)
decimal_front d more new f g e p x after is =
    alike [] d ((more ++ (lexed_fraction_text f ++ (lexed_exponent_text e ++ x))) ++ after)
    ((new ++ (lexed_fraction_text g ++ (lexed_exponent_text p ++ x))) ++ after)
    (ap (λ b. is_among (codes "\"'rbc") d || b) is ∙ or_true (is_among (codes "\"'rbc") d))
    (not_r d (not_among d 114 is_ascii_digit is refl))
  where
    or_true : (b : Bool) → (b || true) ≡ true
    or_true true = refl
    or_true false = refl

pub unraw_front : (p : LiteralPrefix) → p ≢ NoPrefix → (n : ℕ) (body : List ℕ) (parts : List BodyPart) (x y z : List ℕ)
    → SameFront (lexeme_text (RawLexeme p n body x) ++ y) (lexeme_text (QuotedLexeme p parts x) ++ z)
unraw_front NoPrefix some n body parts x y z = absurd (some refl)
unraw_front BytePrefix some n body parts x y z = alike [] 98 (114 ∷ raw_rest n body x y)
    (34 ∷ (body_text parts ++ 34 ∷ x ++ z)) refl (not_r 98 refl)
unraw_front CPrefix some n body parts x y z = alike [] 99 (114 ∷ raw_rest n body x y)
    (34 ∷ (body_text parts ++ 34 ∷ x ++ z)) refl (not_r 99 refl)

-- Before the text `after`, the new literal `m` is one token, and begins as the old literal `l` does.
abbrev Keeps : Lexeme → List ℕ → Lexeme → Type 0
Keeps l after m = IsLexeme m after × SameFront (lexeme_text l ++ after) (lexeme_text m ++ after)

based_row : (letter : ℕ) (digits new after : List ℕ) → list_all is_continue new ≡ true
    → IsLexeme (BasedLexeme letter digits) after → IsLexeme (BasedLexeme letter new) after
based_row letter digits new after is (l, run) = (l, record { each = is; ends = run.ends })

-- If the relation `Keeps` holds for two literals, it also holds for literals that are equal to them.
named : (l m a b : Lexeme) (after : List ℕ) → l ≡ a → m ≡ b → Keeps a after b → Keeps l after m
named l m a b after e f is = subst (λ (z : Lexeme). Keeps z after m) (sym e)
    (subst (λ (z : Lexeme). Keeps a after z) (sym f) is)

as_named : (l a : Lexeme) (after : List ℕ) → l ≡ a → IsLexeme l after → IsLexeme a after
as_named l a after e is = subst (λ (z : Lexeme). IsLexeme z after) e is

pub keeps_its_ends : KeepsItsEnds
keeps_its_ends l m after (inl s) is =
    named l m (QuotedLexeme s.prefix s.parts s.suffix) (QuotedLexeme s.prefix s.new_parts s.suffix) after s.old_is
    s.new_is (
      (s.is_body, (as_named l (QuotedLexeme s.prefix s.parts s.suffix) after s.old_is is).1),
      quoted_front s.prefix s.parts
          s.new_parts s.suffix after after,
    )
keeps_its_ends l m after (inr (inl s)) is =
    named l m (RawLexeme s.prefix s.hashes s.body s.suffix) (RawLexeme s.prefix s.new_hashes s.new_body s.suffix) after
    s.old_is s.new_is (
      (s.is_body, (as_named l (RawLexeme s.prefix s.hashes s.body s.suffix) after s.old_is is).1),
      raw_front s.prefix s.hashes s.new_hashes s.body s.new_body s.suffix after after,
    )
keeps_its_ends l m after (inr (inr (inl s))) is =
    named l m (CharacterLexeme s.is_byte s.inside s.suffix) (CharacterLexeme s.is_byte s.new_inside s.suffix) after
    s.old_is
    s.new_is (
      (s.is_body, (as_named l (CharacterLexeme s.is_byte s.inside s.suffix) after s.old_is is).1),
      character_front
          s.is_byte s.inside s.new_inside s.suffix after after,
    )
keeps_its_ends l m after (inr (inr (inr (inl s)))) is =
    named l m (BasedLexeme s.letter s.digits) (BasedLexeme s.letter s.new_digits) after s.old_is s.new_is (
      based_row s.letter s.digits s.new_digits after s.is_run (as_named l (BasedLexeme s.letter s.digits) after s.old_is
          is),
      based_front s.letter s.digits s.new_digits after,
    )
keeps_its_ends l m after (inr (inr (inr (inr (inl s))))) is =
    let old : Lexeme = DecimalLexeme s.digit s.more s.fraction s.exponent s.suffix in
    named l m old (DecimalLexeme s.digit s.new_more s.new_fraction s.new_exponent s.suffix) after s.old_is s.new_is (
      decimal_is s.digit s.more s.new_more s.fraction s.new_fraction s.exponent s.new_exponent s.suffix after s.each
          s.same_fraction s.same_power s.no_base (as_named l old after s.old_is is),
      decimal_front s.digit s.more s.new_more
          s.fraction s.new_fraction s.exponent s.new_exponent s.suffix after (as_named l old after s.old_is is).0,
    )
keeps_its_ends l m after (inr (inr (inr (inr (inr s))))) is =
    named l m (RawLexeme s.prefix s.hashes s.body s.suffix) (QuotedLexeme s.prefix s.new_parts s.suffix) after s.old_is
    s.new_is (
      (s.is_body, (as_named l (RawLexeme s.prefix s.hashes s.body s.suffix) after s.old_is is).1),
      unraw_front
          s.prefix s.has_prefix s.hashes s.body s.new_parts s.suffix after after,
    )
