-- The text of a written literal, character by character.
use Rattle.std.proofs.Common.{◌≡◌, ℕ, List, [], ◌∷◌, ◌++◌, Bool, true, false, refl, ◌∙◌, ap}
use Rattle.std.specs.Prelude.{◌==◌, ◌/◌, ◌%◌, codes, map, if◌then◌else◌}
use Rattle.std.specs.List.{flat_map}
use Rattle.rl_syntax.specs.declared.kind.Kind.{Kind}
use Rattle.rl_syntax.specs.declared.kind.Kind.TheVariants.{Str, ByteStr, CStr, Byte, Char, Int, Float, Bool as BoolKind}
use Rattle.rl_syntax.specs.Quoted.{Plain, Named, Hex, Zero, LowerT, LowerN, LowerR, Backslash, unit_text, texts}
use Rattle.rl_syntax.specs.Written.{written_unit, own_quote, closer, is_written_as_number, upper_digit}
use Rattle.rl_theorem.specs.Headline.{escaped}

quote_text : (k : Kind) → unit_text (own_quote k) ≡ 92 ∷ closer k ∷ []
quote_text Byte = refl
quote_text Char = refl
quote_text Str = refl
quote_text ByteStr = refl
quote_text CStr = refl
quote_text Int = refl
quote_text Float = refl
quote_text BoolKind = refl

chosen : (a b c d e f g : Bool) (k : Kind) (high low n : ℕ)
    → unit_text (if a then Named Zero else (if b then Named LowerT else (if c then Named LowerN else (if d then Named LowerR
    else (if e then Named Backslash else (if f then own_quote k else (if g then Hex high low else Plain n)))))))
    ≡ (if a then codes "\\0" else (if b then codes "\\t" else (if c then codes "\\n" else (if d then codes "\\r"
    else (if e then codes "\\\\" else (if f then 92 ∷ closer k ∷ [] else (if g then 92 ∷ 120 ∷ high ∷ low ∷ [] else n ∷ [])))))))
chosen true b c d e f g k high low n = refl
chosen false true c d e f g k high low n = refl
chosen false false true d e f g k high low n = refl
chosen false false false true e f g k high low n = refl
chosen false false false false true f g k high low n = refl
chosen false false false false false true g k high low n = quote_text k
chosen false false false false false false true k high low n = refl
chosen false false false false false false false k high low n = refl

character_text : (k : Kind) (c : ℕ) → unit_text (written_unit k c) ≡ escaped k c
unfolding written_unit
character_text k c =
    chosen (c == 0) (c == 9) (c == 10) (c == 13) (c == 92) (c == closer k) (is_written_as_number k c) k
    (upper_digit (c / 16)) (upper_digit (c % 16)) c

pub characters_text : (k : Kind) (value : List ℕ) → texts (map (written_unit k) value) ≡ flat_map (escaped k) value
characters_text k [] = refl
characters_text k (c ∷ cs) =
    ap (λ t. t ++ texts (map (written_unit k) cs)) (character_text k c)
    ∙ ap (λ t. escaped k c ++ t) (characters_text k cs)
