-- The text of a list of strings is a printed list of literals.
use Rattle.rl_syntax.proofs.Common.{◌≡◌, inr, ℕ, List, [], ◌∷◌, ◌++◌, refl, sym, ap, ◌∙◌, append-nil, append_assoc, encode_utf8, encode_utf8_all, encodes-append, string_bytes, chars, drop}
use Rattle.std.specs.Prelude.{String}
use Rattle.std.specs.List.{AllByRecursion}
use Rattle.rl_syntax.specs.declared.kind.Kind.TheVariants.{Str}
use Rattle.rl_syntax.specs.Reading.{Characters}
use Rattle.rl_syntax.specs.Trivia.{IsTrivia, White}
use Rattle.rl_syntax.specs.Printed.{IsApart, IsStrictItem, LiteralItem, Printed, printed_text}
use Rattle.rl_syntax.specs.Written.{written_text}
use Rattle.rl_syntax.proofs.Theorems.{a_written_value_is_strict, a_written_value_reads}
use Rattle.rl_tokens.specs.WrittenLists.{characters_of, str_entries, str_list_end, str_list_text}

no_gap : IsTrivia []
no_gap = record { pieces = []; each = tt; text = refl }

line_gap : IsTrivia (10 ∷ [])
line_gap = record { pieces = White 10 ∷ []; each = (refl, tt); text = refl }

strict_item : (v : List ℕ) → IsStrictItem (LiteralItem (written_text Str v))
strict_item v = (
  Str,
  (λ e. cc),
  (Characters v, [], a_written_value_is_strict Str v tt),
  (Str, (Characters v, [], a_written_value_reads Str v tt)),
)

items : (gap : List ℕ) (vs : List (List ℕ)) → IsTrivia gap
    → AllByRecursion (λ e. IsTrivia e.gap × IsStrictItem e.item) (str_entries gap vs)
items gap [] h = tt
items gap (v ∷ vs) h = ((h, strict_item v), items (10 ∷ []) vs line_gap)

apart : (gap : List ℕ) (vs : List (List ℕ)) → AllByRecursion IsApart (str_entries gap vs)
apart gap [] = tt
apart gap (v ∷ vs) = (inr refl, apart (10 ∷ []) vs)

later_apart : (vs : List (List ℕ)) → AllByRecursion IsApart (drop 1 (str_entries [] vs))
later_apart [] = tt
later_apart (v ∷ vs) = apart (10 ∷ []) vs

end_gap : (gap : List ℕ) (vs : List (List ℕ)) → IsTrivia gap → IsTrivia (str_list_end gap vs)
end_gap gap [] h = h
end_gap gap (v ∷ vs) h = end_gap (10 ∷ []) vs line_gap

text_is : (gap : List ℕ) (vs : List (List ℕ))
    → printed_text (str_entries gap vs) (str_list_end gap vs) ≡ gap ++ str_list_text vs
text_is gap [] = sym (append-nil gap)
text_is gap (v ∷ vs) = ap (λ z. gap ++ (written_text Str v ++ z)) (text_is (10 ∷ []) vs)

pub str_list_printed : (vs : List (List ℕ)) → Printed (str_list_text vs) (str_entries [] vs) (str_list_end [] vs)
str_list_printed vs = record {
  items = items [] vs no_gap;
  apart = later_apart vs;
  last_gap = end_gap [] vs no_gap;
  text = sym (text_is [] vs);
}

-- ---- one more line

pub line_more : (old mid new w : List ℕ) (c : ℕ) → mid ≡ old ++ encode_utf8_all w → new ≡ mid ++ encode_utf8 c
    → new ≡ old ++ encode_utf8_all (w ++ (c ∷ []))
line_more old mid new w c e f =
    let last : encode_utf8_all (w ++ (c ∷ [])) ≡ encode_utf8_all w ++ encode_utf8 c =
    encodes-append w (c ∷ []) ∙ ap (λ z. encode_utf8_all w ++ z) (append-nil (encode_utf8 c)) in
    f ∙ ap (λ z. z ++ encode_utf8 c) e ∙ append_assoc old (encode_utf8_all w) (encode_utf8 c)
    ∙ ap (λ z. old ++ z) (sym last)

text_more : (vs : List (List ℕ)) (v : List ℕ) → str_list_text (vs ++ (v ∷ []))
    ≡ str_list_text vs ++ (written_text Str v ++ (10 ∷ []))
text_more [] v = refl
text_more (w ∷ vs) v =
    ap (λ (z : List ℕ). written_text Str w ++ (10 ∷ z)) (text_more vs v)
    ∙ sym (append_assoc (written_text Str w) (10 ∷ str_list_text vs) (written_text Str v ++ (10 ∷ [])))

characters_more : {A : Type 0} (vs : List (String A)) (v : String A)
    → characters_of (vs ++ (v ∷ [])) ≡ characters_of vs ++ (chars (string_bytes v) ∷ [])
characters_more [] v = refl
characters_more (w ∷ vs) v = ap (λ z. chars (string_bytes w) ∷ z) (characters_more vs v)

pub lines_more : {A : Type 0} (old new : List ℕ) (vs : List (String A)) (v : String A)
    → old ≡ encode_utf8_all (str_list_text (characters_of vs))
    → new ≡ old ++ encode_utf8_all (written_text Str (chars (string_bytes v)) ++ (10 ∷ []))
    → new ≡ encode_utf8_all (str_list_text (characters_of (vs ++ (v ∷ []))))
lines_more old new vs v e f =
    let line = written_text Str (chars (string_bytes v)) ++ (10 ∷ []) in
    let text = str_list_text (characters_of vs) in
    f ∙ ap (λ z. z ++ encode_utf8_all line) e ∙ sym (encodes-append text line)
    ∙ ap encode_utf8_all (sym (ap str_list_text (characters_more vs v) ∙ text_more (characters_of vs) (chars (string_bytes v))))
