-- Executable models of private code: the form and kind of the quoted literal that a text begins like. Only proofs use
-- them.
use Rattle.std.specs.Prelude.{ℕ, ◌==◌, List, [], ◌∷◌, Option, Some, None, if◌then◌else◌}
use Prim.Native.Char.{code}
use Rattle.rl_syntax.specs.declared.kind.Kind.{Kind}
use Rattle.rl_syntax.specs.declared.kind.Kind.TheVariants.{Str, ByteStr, CStr, Byte, Char}
use Rattle.rl_lenient.specs.declared.quoted_forms.QuotedForm.{QuotedForm}
use Rattle.rl_lenient.specs.declared.quoted_forms.QuotedForm.TheVariants.{Cooked as CookedForm, Raw as RawForm, Single as SingleForm}

abbrev pub FoundOpener : Type 0
FoundOpener = Option (QuotedForm × Kind × List ℕ)

abbrev pub found_opener : QuotedForm → Kind → List ℕ → FoundOpener
found_opener form kind rest = Some (form, kind, rest)

-- The form of a string literal of the kind, and the text after its `"` or its `r`. `None` if the text begins otherwise.
abbrev pub string_opener_at : Kind → List ℕ → FoundOpener
string_opener_at kind [] = None
string_opener_at kind (c ∷ cs) =
    if c == code "\"" then found_opener CookedForm kind cs
    else (if c == code "r" then found_opener RawForm kind cs else None)

abbrev pub byte_opener_at : List ℕ → FoundOpener
byte_opener_at [] = None
byte_opener_at (c ∷ cs) =
    if c == code "'" then found_opener SingleForm Byte cs else string_opener_at ByteStr (c ∷ cs)

-- The form and the kind of the quoted literal that a text begins like, and the text after its opening quote, or after
-- the `r` of a raw literal. `None` if the text begins otherwise.
unfoldable pub opener_at : List ℕ → FoundOpener
opener_at [] = None
opener_at (c ∷ cs) =
    if c == code "'" then found_opener SingleForm Char cs
    else (if c == code "b" then byte_opener_at cs
    else (if c == code "c" then string_opener_at CStr cs
    else string_opener_at Str (c ∷ cs)))
