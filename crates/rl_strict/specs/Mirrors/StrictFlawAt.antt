-- An executable model of the code, for proofs only: the kind of flaw of a text that isn't a literal token, and the text that
-- begins at the flaw.
use Rattle.std.specs.Prelude.{ℕ, ◌==◌, ◌||◌, ◌&&◌, Bool, not, List, [], ◌∷◌, if◌then◌else◌}
use Prim.Native.Char.{code}
use Rattle.rl_syntax.specs.declared.kind.Kind.{Kind}
use Rattle.rl_syntax.specs.Classes.{after_run}
use Rattle.rl_syntax.specs.Texts.{is_continue, is_start, begins, first_passes}
use Rattle.rl_syntax.specs.Quoted.{is_string}
use Rattle.rl_strict.specs.declared.flaws.FlawKind.{FlawKind}
use Rattle.rl_strict.specs.declared.flaws.FlawKind.TheVariants.{BadSuffix, CarriageReturn, TextAfterQuote, UnderscoreSuffix, Unclosed}
use Rattle.rl_lenient.specs.declared.quoted_forms.QuotedForm.{QuotedForm}
use Rattle.rl_strict.specs.StrictFlawKinds.{form_quote, is_raw_form}
use Rattle.rl_strict.specs.Mirrors.StrictAt.{is_raw_character}
use Rattle.rl_strict.specs.Mirrors.UnitFlawAt.{FoundFlaw, character_flaw_of, escape_flaw_at, found_flaw, spoiled_flaw_of}

-- The text after the identifier at the beginning of the text, or the whole text if it begins with no identifier.
unfoldable pub suffix_rest : List ℕ → List ℕ
suffix_rest [] = []
suffix_rest (c ∷ cs) = if is_start c then after_run is_continue cs else (c ∷ cs)

-- The flaw of an invalid escape. The argument is the text after the backslash.
unfoldable pub strict_escape_flaw_at : Kind → List ℕ → FoundFlaw
strict_escape_flaw_at kind [] = escape_flaw_at kind []
strict_escape_flaw_at kind (c ∷ cs) =
    if c == code "\r" && is_string kind then found_flaw CarriageReturn (c ∷ cs) else escape_flaw_at kind (c ∷ cs)

-- The flaw of a text that begins with neither a valid character nor a valid escape.
unfoldable pub strict_unit_flaw_at : Kind → List ℕ → FoundFlaw
strict_unit_flaw_at kind [] = found_flaw Unclosed []
strict_unit_flaw_at kind (c ∷ cs) =
    if c == code "\\" then strict_escape_flaw_at kind cs
    else (if c == code "\r" && is_string kind then found_flaw CarriageReturn (c ∷ cs)
    else found_flaw (character_flaw_of c) (c ∷ cs))

-- The flaw of an invalid text after a closing delimiter. The argument is the end of this text, after the identifier at its
-- beginning. If the argument is empty, the identifier is `_` alone.
abbrev pub suffix_end_flaw_at : QuotedForm → List ℕ → FoundFlaw
suffix_end_flaw_at form [] = found_flaw UnderscoreSuffix []
suffix_end_flaw_at form (c ∷ cs) =
    if c == form_quote form then found_flaw TextAfterQuote (c ∷ cs) else found_flaw BadSuffix (c ∷ cs)

-- The literal is a raw string, and the text after its closing delimiter begins with one more hash.
abbrev pub begins_hash : QuotedForm → List ℕ → Bool
begins_hash form t = is_raw_form form && first_passes (λ c. c == code "#") t

-- The text that begins at a raw string's closing delimiter, or at the first character that a raw string of the kind can't
-- contain.
unfoldable pub raw_stop : Kind → List ℕ → List ℕ → List ℕ
raw_stop kind hashes [] = []
raw_stop kind hashes (c ∷ cs) =
    if (c == code "\"" && begins hashes cs) || not (is_raw_character kind c) then (c ∷ cs) else raw_stop kind hashes cs

-- The flaw of a character that a raw string of the kind can't contain.
abbrev pub raw_character_flaw_of : Kind → ℕ → FlawKind
raw_character_flaw_of kind c = if c == code "\r" then CarriageReturn else spoiled_flaw_of kind
