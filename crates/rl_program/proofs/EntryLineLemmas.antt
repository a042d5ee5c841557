-- Lemmas about the output lines of attributes.
use Rattle.rl_syntax.proofs.Common.{List, [], ap, append_assoc, chars, refl, string_bytes, ℕ, ◌++◌, ◌∙◌, ◌∷◌, ◌≡◌}
use Rattle.std.specs.Prelude.{All}
use Rattle.std.proofs.lemmas.List.Elements.{All-head, All-tail}
use Rattle.rust_literals.specs.Literals.{token_of}
use Rattle.rl_program.specs.Lines.{IsLineOf, Appends}
use Rattle.rl_program.specs.LitLines.{IsLineOfLit}
use Rattle.rl_program.proofs.LineLemmas.{space}
use Rattle.rl_program.proofs.LitLineLemmas.{line_of_text}
use Rattle.rl_attributes.specs.declared.attributes.Entry.{Entry}
use Rattle.rl_attributes.specs.Attributes.{AreAttributesOf}
use Rattle.rl_attributes.specs.Entries.{attributes_of, IsReadEntry}
use Rattle.rl_program.specs.EntryLines.{AreAttributeLines, ShowsAttributes, IsLineOfEntry, AreLinesOfEntries}

-- If the name of an attribute, a space and the output line of its literal are appended to a text one after another, the
-- output line of the attribute is appended.
pub entry_pushed : {A : Type 0} (entry : Entry A) (name a b c d : List ℕ) → name ≡ string_bytes entry.name → b ≡ a
    ++ chars name → c ≡ b ++ chars (32 ∷ []) → Appends (IsLineOfLit entry.value) c d → Appends (IsLineOfEntry entry) a d
entry_pushed entry name a b c d e p q (line, prints, r) = (
  chars name ++ (32 ∷ line),
  (line, prints, ap (λ z. chars z ++ (32 ∷ line)) e),
  r ∙ ap (λ z. z ++ line) (q ∙ ap (λ z. b ++ z) space ∙ ap (λ z. z ++ (32 ∷ [])) p)
      ∙ append_assoc (a ++ chars name) (32 ∷ []) line
      ∙ append_assoc a (chars name) (32 ∷ line),
)

-- If a text consists of the output lines of the attributes in the program's memory, it consists of the output lines of
-- the parsed attributes.
lines_of_attributes : {A : Type 0} (es : List (Entry A)) (shown : List ℕ) → All IsReadEntry es
    → AreLinesOfEntries es shown → AreAttributeLines (attributes_of es) shown
lines_of_attributes [] shown read e = e
lines_of_attributes (x ∷ es) shown read (first, others, (line, p, b), h, e) =
    let is : IsLineOf (chars (token_of x.value).text) line = line_of_text (token_of x.value) x.value
    (token_of x.value).text line (refl, All-head IsReadEntry x es read) refl p in
    (first, others, (line, is, b), lines_of_attributes es others (All-tail IsReadEntry x es read) h, e)

-- If the attributes in the program's memory are those of a text, their output lines are the output lines of the text.
pub shows_attributes : {A : Type 0} (text : List ℕ) (es : List (Entry A)) (shown : List ℕ)
    → AreAttributesOf text 0 (attributes_of es) → All IsReadEntry es → AreLinesOfEntries es shown
    → ShowsAttributes text shown
shows_attributes text es shown are read p = record { list = attributes_of es; are = are; lines = lines_of_attributes es shown read p }
