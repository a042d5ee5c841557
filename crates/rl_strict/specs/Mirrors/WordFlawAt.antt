-- An executable model of the code, for proofs only: the flaw of a text that begins neither as a number nor as a quoted
-- literal, and isn't `true` or `false`.
use Rattle.std.specs.Prelude.{ℕ, true, false, ◌==◌, ◌||◌, List, [], ◌∷◌, if◌then◌else◌}
use Prim.Native.Char.{code}
use Rattle.rl_syntax.specs.Reading.{truth_text}
use Rattle.rl_strict.specs.declared.flaws.FlawKind.{FlawKind}
use Rattle.rl_strict.specs.declared.flaws.FlawKind.TheVariants.{Empty, UnexpectedEnd, NotALiteral}
use Rattle.rl_strict.specs.Mirrors.UnitFlawAt.{FoundFlaw, found_flaw}

-- The flaw at the beginning of a text. Its kind is `at_end` if the text is empty, and `before` otherwise.
abbrev pub end_flaw_at : FlawKind → FlawKind → List ℕ → FoundFlaw
end_flaw_at at_end before [] = found_flaw at_end []
end_flaw_at at_end before (c ∷ cs) = found_flaw before (c ∷ cs)

-- The text without the longest prefix that it has in common with the word. The word is the first argument.
abbrev pub after_letters : List ℕ → List ℕ → List ℕ
after_letters [] t = t
after_letters (w ∷ ws) [] = []
after_letters (w ∷ ws) (c ∷ cs) = if c == w then after_letters ws cs else (c ∷ cs)

unfoldable pub word_flaw_at : List ℕ → FoundFlaw
word_flaw_at [] = found_flaw Empty []
word_flaw_at (c ∷ cs) =
    if c == code "b" || c == code "c" then end_flaw_at UnexpectedEnd NotALiteral cs
    else (if c == code "t"
    then end_flaw_at UnexpectedEnd NotALiteral (after_letters (truth_text true) (c ∷ cs))
    else (if c == code "f"
    then end_flaw_at UnexpectedEnd NotALiteral (after_letters (truth_text false) (c ∷ cs))
    else found_flaw NotALiteral (c ∷ cs)))
