-- An executable model of the code, for proofs only: parses the text after the closing delimiter of a quoted literal. The
-- result is `None` for a suffix, which may be empty, and a flaw for any other text.
use Rattle.std.specs.Prelude.{ℕ, ◌==◌, Bool, false, List, [], ◌∷◌, Option, Some, None, if◌then◌else◌}
use Prim.Native.Char.{code}
use Rattle.rl_lenient.specs.declared.quoted_forms.QuotedForm.{QuotedForm}
use Rattle.rl_lenient.specs.Mirrors.PlainAt.{is_some_text}
use Rattle.rl_strict.specs.declared.flaws.FlawKind.TheVariants.{ExtraHash, UnderscoreSuffix}
use Rattle.rl_strict.specs.Mirrors.StrictFlawAt.{begins_hash, suffix_end_flaw_at, suffix_rest}
use Rattle.rl_strict.specs.Mirrors.UnitFlawAt.{FoundFlaw, found_flaw}

-- The text is `_` alone.
abbrev pub is_lone_underscore : List ℕ → Bool
is_lone_underscore [] = false
is_lone_underscore (c ∷ cs) = if is_some_text cs then false else c == code "_"

-- The flaw of the text `t` after a closing delimiter, or `None` if `t` is a suffix. The last argument is the text after the
-- identifier at the beginning of `t`.
abbrev pub suffix_end_read : QuotedForm → List ℕ → List ℕ → Option FoundFlaw
suffix_end_read form t [] = if is_lone_underscore t then Some (found_flaw UnderscoreSuffix []) else None
suffix_end_read form t (c ∷ cs) = Some (suffix_end_flaw_at form (c ∷ cs))

unfoldable pub suffix_read_at : QuotedForm → List ℕ → Option FoundFlaw
suffix_read_at form t =
    if begins_hash form t then Some (found_flaw ExtraHash t) else suffix_end_read form t (suffix_rest t)
