-- Lemmas about the parts of an output line, as characters.
use Rattle.rl_lenient.proofs.Names.{Str, xid_ok}
use Rattle.rl_syntax.proofs.Common.{IsUtf8, List, [], ap, append_assoc, arith, both_ways, chars, chars-append, encodes-chars, eqb, eqb-true, false, length, refl, sym, true, ℕ, ◌++◌, ◌∙◌, ◌∷◌, ◌≡◌}
use Rattle.std.specs.Prelude.{encode_utf8_all}
use Rattle.std.proofs.lemmas.Bool.{false≢true}
use Rattle.rl_syntax.specs.Written.{written_text}
use Rattle.rl_program.specs.Lines.{line, line_end, suffix_word}

-- If a piece is appended to a text, its characters are appended to those of the text.
pub pushed : (old new piece : List ℕ) → IsUtf8 old → new ≡ old ++ piece → chars new ≡ chars old ++ chars piece
pushed old new piece u e = ap chars e ∙ chars-append old piece u

-- Without a suffix, an output line ends with a space, a `-` and an LF.
pub empty_end : (s : List ℕ) → eqb (length s) 0 ≡ true → line_end (chars s) ≡ chars (32 ∷ 45 ∷ 10 ∷ [])
unfolding chars
empty_end [] h = refl
empty_end (c ∷ s) h = absurd (let e = eqb-true (length (c ∷ s)) 0 h in omega arith)

-- The suffix in an output line is unchanged if it is an identifier.
pub word_suffix : (s : List ℕ) → IsUtf8 s → eqb (length s) 0 ≡ false → xid_ok (chars s) ≡ true → suffix_word (chars s)
    ≡ chars s
word_suffix s u n h = word (chars s) h
  where
    word : (cs : List ℕ) → xid_ok cs ≡ true → suffix_word cs ≡ cs
    word [] h = absurd (false≢true h)
    word (c ∷ cs) h = rw h refl

some_word : (cs : List ℕ) → (cs ≡ [] → ⊥) → xid_ok cs ≡ false → suffix_word cs ≡ written_text Str cs
some_word [] some h = absurd (some refl)
some_word (c ∷ cs) some h = rw h refl

-- The suffix in an output line is a string literal if it isn't an identifier.
pub quoted_suffix : (s : List ℕ) → IsUtf8 s → eqb (length s) 0 ≡ false → xid_ok (chars s) ≡ false
    → suffix_word (chars s) ≡ written_text Str (chars s)
quoted_suffix s u n h = some_word (chars s) (λ e. absurd (nothing e)) h
  where
    nothing : chars s ≡ [] → ⊥
    nothing e = let t : s ≡ [] = sym (encodes-chars s u) ∙ ap encode_utf8_all e in both_ways (eqb (length s) 0) n
        (ap (λ z. eqb (length z) 0) t)

pub space : chars (32 ∷ []) ≡ 32 ∷ []
unfolding chars
space = refl

line_feed : chars (10 ∷ []) ≡ 10 ∷ []
unfolding chars
line_feed = refl

-- If a space, the suffix and LF are appended to a text one after another, the end of an output line is appended.
pub end_joined : (e f g h suffix : List ℕ) → f ≡ e ++ chars (32 ∷ []) → g ≡ f ++ suffix_word suffix → h ≡ g
    ++ chars (10 ∷ []) → h ≡ e ++ line_end suffix
end_joined e f g h suffix s t u =
    u ∙ ap (λ z. g ++ z) line_feed ∙ ap (λ z. z ++ (10 ∷ [])) t ∙ append_assoc f (suffix_word suffix) (10 ∷ [])
    ∙ ap (λ z. z ++ (suffix_word suffix ++ (10 ∷ []))) (s ∙ ap (λ z. e ++ z) space)
    ∙ append_assoc e (32 ∷ []) (suffix_word suffix ++ (10 ∷ []))

-- If a label, a space, a value and the end of an output line are appended to a text one after another, an output line
-- is appended.
pub line_joined : (a b d e h word shown suffix : List ℕ) → b ≡ a ++ word → d ≡ b ++ chars (32 ∷ []) → e ≡ d ++ shown → h
    ≡ e ++ line_end suffix → h ≡ a ++ line word shown suffix
line_joined a b d e h word shown suffix p q r s =
    let tail = shown ++ line_end suffix in
    s ∙ ap (λ z. z ++ line_end suffix) r ∙ append_assoc d shown (line_end suffix)
    ∙ ap (λ z. z ++ tail) (q ∙ ap (λ z. b ++ z) space) ∙ append_assoc b (32 ∷ []) tail
    ∙ ap (λ z. z ++ (32 ∷ tail)) p ∙ append_assoc a word (32 ∷ tail)
