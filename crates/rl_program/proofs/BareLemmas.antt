-- Lemmas about string literals whose value can be copied from the text: it is printable ASCII without quotes and backslashes.
use Rattle.rl_lenient.proofs.Names.{Characters, Plain, Str, texts}
use Rattle.rl_syntax.proofs.Common.{Bool, IsUtf8, List, [], ap, append_assoc, arith, chars, chars-IsAscii, chars-append, chars-nil, codes, encode_ascii, encode_utf8_all, encodes-append, encodes-chars, eqb, eqb-true, false, if◌then◌else◌, drop, inl, length, list_all, map, nat_tests, refl, subst, sym, true, ℕ, ◌&&◌, ◌++◌, ◌<◌, ◌==◌, ◌∙◌, ◌∷◌, ◌≡◌, ◌≢◌}
use Rattle.std.proofs.lemmas.List.{same_from_push}
use Rattle.rl_syntax.specs.Reading.{Reads}
use Rattle.rl_syntax.proofs.WrittenLaws.{written_reads}
use Rattle.std.specs.List.{All}
use Rattle.std.proofs.lemmas.Bool.{false≢true}
use Rattle.std.proofs.lemmas.List.Elements.{All-nil, All-cons}
use Rattle.std.proofs.lemmas.Str.Ascii.{encodes-IsAscii, IsAscii-from_all}
use Rattle.rl_syntax.specs.Written.{written_unit, is_written_as_number}
use Rattle.rl_program.specs.Bare.{IsBareString, is_bare, bare_line}
use Rattle.rl_program.specs.Lines.{IsLineOf, literal_line}

both : (a b : Bool) → (a && b) ≡ true → (a ≡ true) × (b ≡ true)
both true true h = (refl, refl)
both true false h = absurd (false≢true h)
both false b h = absurd (false≢true h)

skipped : {A : Type 0} (test : Bool) (x y : A) → test ≡ false → (if test then x else y) ≡ y
skipped test x y h = rw h refl

-- A printable ASCII character other than a quote and a backslash is written unchanged in a string literal.
bare_unit : (c : ℕ) → is_bare c ≡ true → written_unit Str c ≡ Plain c
unfolding written_unit
bare_unit c h =
    skipped (c == 0) _ _ (grind (arith, nat_tests)) ∙ skipped (c == 9) _ _ (grind (arith, nat_tests))
    ∙ skipped (c == 10) _ _ (grind (arith, nat_tests)) ∙ skipped (c == 13) _ _ (grind (arith, nat_tests))
    ∙ skipped (c == 92) _ _ (grind (arith, nat_tests)) ∙ skipped (c == 34) _ _ (grind (arith, nat_tests))
    ∙ skipped (is_written_as_number Str c) _ _ (grind (arith, nat_tests))

bare_units : (cs : List ℕ) → list_all is_bare cs ≡ true → texts (map (written_unit Str) cs) ≡ cs
bare_units [] h = refl
bare_units (c ∷ cs) h =
    let each = both (is_bare c) (list_all is_bare cs) h in
    rw (bare_unit c each.0) (ap (λ z. c ∷ z) (bare_units cs each.1))

bare_low : (cs : List ℕ) → list_all is_bare cs ≡ true → All (λ c. c < 128) cs
bare_low [] h = All-nil (λ c. c < 128)
bare_low (c ∷ cs) h =
    let each = both (is_bare c) (list_all is_bare cs) h in
    let bare = each.0 in
    All-cons (λ c. c < 128) c cs (grind (arith, nat_tests)) (bare_low cs each.1)

front : chars (codes "Str \"") ≡ codes "Str \""
unfolding chars
front = refl

end : chars (codes "\" -\n") ≡ codes "\" -\n"
unfolding chars
end = refl

no_suffix : (suffix : List ℕ) → eqb (length suffix) 0 ≡ true → chars suffix ≡ []
no_suffix [] h = chars-nil
no_suffix (c ∷ cs) h = absurd (let e = eqb-true (length (c ∷ cs)) 0 h in omega arith)

-- The characters of a text of printable ASCII are its bytes.
pub bare_chars : (text : List ℕ) → list_all is_bare text ≡ true → chars text ≡ text
bare_chars text bare = chars-IsAscii text (IsAscii-from_all text (bare_low text bare))

-- If the start, the value and the end of a string literal's output line are appended to a text one after another, the
-- output line is appended.
pub bare_pieces : (a b d e text : List ℕ) → b ≡ a ++ chars (codes "Str \"") → d ≡ b ++ chars text → e ≡ d
    ++ chars (codes "\" -\n") → e ≡ a ++ bare_line (chars text)
bare_pieces a b d e text p q r =
    r ∙ ap (λ z. d ++ z) end
    ∙ ap (λ z. z ++ codes "\" -\n") (q ∙ ap (λ z. z ++ chars text) (p ∙ ap (λ z. a ++ z) front))
    ∙ append_assoc (a ++ codes "Str \"") (chars text) (codes "\" -\n")
    ∙ append_assoc a (codes "Str \"") (chars text ++ codes "\" -\n")

bare_shown : (value : List ℕ) → list_all is_bare value ≡ true
    → bare_line value ≡ literal_line Str (Characters value) []
bare_shown value bare =
    rw (bare_units value bare) (ap (λ z. codes "Str \"" ++ z) (sym (append_assoc value (34 ∷ []) (codes " -\n"))))

-- For a string literal without a suffix, whose value is printable ASCII without quotes and backslashes, `bare_line` is the output
-- line.
pub bare_is_line : (text suffix : List ℕ) → list_all is_bare text ≡ true → eqb (length suffix) 0 ≡ true
    → bare_line (chars text) ≡ literal_line Str (Characters (chars text)) (chars suffix)
bare_is_line text suffix bare none =
    let same : chars text ≡ text = bare_chars text bare in
    rw (no_suffix suffix none) (bare_shown (chars text) (ap (list_all is_bare) same ∙ bare))

-- ---- lemmas about a string literal whose value can be copied from the text

quote : chars (codes "\"") ≡ codes "\""
unfolding chars
quote = refl

-- If a quote precedes the rest of a text, and the rest is the value and a quote, the text is a quote, the value and a quote.
pub between_quotes : (text rest before value : List ℕ) → chars text ≡ 34 ∷ chars rest → rest ≡ before ++ codes "\""
    → value ≡ before → IsUtf8 value → chars text ≡ codes "\"" ++ (chars value ++ codes "\"")
between_quotes text rest before value first last is u =
    first
    ∙ ap (λ z. 34 ∷ z) (ap chars (last ∙ ap (λ z. z ++ codes "\"") (sym is)) ∙ chars-append value (codes "\"") u
    ∙ ap (λ z. chars value ++ z) quote)

-- If all bytes between the quotes are printable ASCII other than quotes and backslashes, the value of the string literal is these
-- bytes.
pub bare_string : (text value : List ℕ) → chars text ≡ codes "\"" ++ (chars value ++ codes "\"")
    → list_all is_bare value ≡ true → IsBareString (chars text) (chars value)
bare_string text value e bare = (e, ap (list_all is_bare) (bare_chars value bare) ∙ bare)

-- If all characters of a value are printable ASCII other than quotes and backslashes, so are all its bytes.
bare_bytes : (value found : List ℕ) → IsUtf8 value → chars value ≡ found → list_all is_bare found ≡ true
    → list_all is_bare value ≡ true
bare_bytes value found u e bare =
    let same : value ≡ found = sym (encodes-chars value u) ∙ ap encode_utf8_all e
    ∙ encodes-IsAscii found (IsAscii-from_all found (bare_low found bare)) in
    ap (list_all is_bare) same ∙ bare

-- A text that doesn't end with a quote isn't a string literal whose value can be copied.
pub no_last_quote : (text rest : List ℕ) → chars text ≡ 34 ∷ chars rest → IsUtf8 rest
    → ((front : List ℕ) → rest ≢ front ++ codes "\"") → (value : List ℕ) → IsBareString (chars text) value → ⊥
no_last_quote text rest first u none value is =
    none (encode_utf8_all value) (sym (encodes-chars rest u) ∙ ap (λ z. encode_utf8_all (drop 1 z)) (sym first ∙ is.0)
    ∙ encodes-append value (codes "\"") ∙ ap (λ z. encode_utf8_all value ++ (z ++ [])) (encode_ascii 34 (omega arith)))

-- If a byte between the quotes isn't printable ASCII, or is a quote or a backslash, the value of the string literal can't be
-- copied.
pub not_bare : (text value : List ℕ) → chars text ≡ codes "\"" ++ (chars value ++ codes "\"") → IsUtf8 value
    → list_all is_bare value ≡ false → (other : List ℕ) → IsBareString (chars text) other → ⊥
not_bare text value e u not other is =
    let same : chars value ≡ other = (same_from_push (chars value) other 34 34 (ap (drop 1) (sym e ∙ is.0))).0 in
    false≢true (sym not ∙ bare_bytes value other u same is.1)

-- The output line of a string literal whose value can be copied contains the copied value.
pub bare_reads : (text value : List ℕ) → IsBareString text value → IsLineOf text (bare_line value)
bare_reads text value is =
    let reads : Reads (34 ∷ (value ++ 34 ∷ [])) Str (Characters value) [] = subst
    (λ z. Reads (34 ∷ (z ++ 34 ∷ [])) Str (Characters value) []) (bare_units value is.1)
    (written_reads Str value tt) in
    inl (Str, Characters value, [], rw is.0 reads, bare_shown value is.1)
