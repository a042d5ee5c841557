use Rattle.rl_syntax.proofs.Common.{List, ℕ, [], ◌∷◌, ap, subst, length, rules, string_bytes, chars, IfOk}
use Rattle.rl_syntax.specs.declared.kind.Kind.TheVariants.{Char}
use Rattle.rl_syntax.specs.Written.{IsWrittenForm}
use Rattle.rl_syntax.proofs.WritingLemmas.{one_character}
use Rattle.rl_tokens.proofs.literal.Literal.character.Goals as goal

pub text_of_characters-requires-clause-value : goal.text_of_characters-requires-clause-value
text_of_characters-requires-clause-value g c = ap length (one_character c.args.value c.encode_utf8.result.now
    c.encode_utf8.utf8 c.encode_utf8.ensures.value)

pub returns-clause-text : goal.returns-clause-text
returns-clause-text g c =
    let Written : List ℕ → Type 0 = λ v. IfOk c.text_of_characters.result
    (λ s. IsWrittenForm Char v (chars (string_bytes s))) in
    let written : Written (c.args.value ∷ []) = subst Written (one_character c.args.value c.encode_utf8.result.now
    c.encode_utf8.utf8 c.encode_utf8.ensures.value) c.text_of_characters.ensures in
    search (written, rules) steps 300000
