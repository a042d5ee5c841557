-- If a text is lexed into token trees, parsing the whole text gives the parser's result for these.
use Rattle.rl_syntax.proofs.Common.{◌≡◌, ◌⊎◌, inr, ℕ, List, [], Result, Ok, Err, ap, subst, ◌∙◌, IfOk}
use Rattle.std.specs.Result.{IfErr, MatchResult}
use Rattle.rl_syntax.specs.declared.span.Span.{Span}
use Rattle.rl_lexer.specs.declared.lex_error.LexKind.{LexKind}
use Rattle.rl_tokens.specs.declared.error.Error.{Error}
use Rattle.rl_tokens.specs.declared.error.ErrorKind.{ErrorKind}
use Rattle.rl_tokens.specs.declared.error.ErrorKind.TheVariants.{Memory}
use Rattle.rl_tokens.specs.Errors.{lex_rejection}
use Rattle.rl_tokens.specs.Lexing.{Lexes}
use Rattle.rl_tokens.specs.Trees.{Tree}
use Rattle.rl_tokens.specs.Whole.{RejectsLexing, RejectsParse, place_at}
use Rattle.rl_tokens.proofs.LexLaws.{never_both, one_list}
use Rattle.rl_tokens.proofs.PrintedAnswers.{rejects_memory}

-- If a text is lexed into token trees, the lexer rejects it only for an allocation failure.
pub memory_alone : {A : Type 0} (t : List ℕ) (file : ℕ) (trees : List Tree) (e : Error A) → Lexes t file trees
    → RejectsLexing t file e → e.kind ≡ Memory
memory_alone {A} t file trees e lexes r =
    ap (λ (x : Error A). x.kind) r.error ∙ ap (λ (k : LexKind). let w : Error A = lex_rejection k (place_at file r.at) in
    let found : ErrorKind A = w.kind in found)
    (rejects_memory t r.kind r.at (λ f. never_both t file trees r.kind r.at lexes f) r.rejected)

pub parsed_exactly : {T A : Type 0} (runs : List Tree → Span → Result T (Error A) → List Tree → Type 0) (t : List ℕ)
    (file : ℕ) (trees found : List Tree) (at : Span) (r : Result T (Error A)) → Lexes t file found → Lexes t file trees
    → IfOk r (λ x. runs found at (Ok x) []) → IfErr r (RejectsParse runs found at)
    → MatchResult r (λ x. runs trees at (Ok x) []) (λ e. (e.kind ≡ Memory) ⊎ RejectsParse runs trees at e)
parsed_exactly runs t file trees found at (Ok x) l m ok err =
    subst (λ (z : List Tree). runs z at (Ok x) []) (one_list t file found trees l m) ok
parsed_exactly runs t file trees found at (Err e) l m ok err =
    inr (subst (λ (z : List Tree). RejectsParse runs z at e) (one_list t file found trees l m) err)
