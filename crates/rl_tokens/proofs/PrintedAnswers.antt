-- For a printed list of literals the lexer returns the token trees of the list's items, or an allocation fails.
use Rattle.rl_syntax.proofs.Common.{◌≡◌, ℕ, List, Result, Ok, Err, refl, chars, IfOk}
use Rattle.std.specs.Result.{IfErr, MatchResult}
use Rattle.rl_tokens.specs.declared.token.TokenStream.{TokenStream}
use Rattle.rl_lexer.specs.declared.lex_error.LexKind.{LexKind}
use Rattle.rl_lexer.specs.declared.lex_error.LexKind.TheVariants.{DocComment, UnclosedComment, UnclosedQuote, Lifetime, RawIdentifier, StrayCharacter, UnmatchedClose, UnclosedGroup, TooDeep, Memory}
use Rattle.rl_lexer.specs.declared.lex_error.LexError.{LexError}
use Rattle.rl_tokens.specs.Trees.{Tree, stream_view}
use Rattle.rl_tokens.specs.Lexing.{Lexes}
use Rattle.rl_lexer.specs.Cuts.{HasFirstError, Rejects}
use Rattle.rl_syntax.specs.Printed.{Entry, Printed}
use Rattle.rl_lexer.specs.PrintedTokens.{Reprinted}
use Rattle.rl_tokens.specs.PrintedTrees.{printed_trees}
use Rattle.rl_tokens.proofs.LexLaws.{one_list, never_both}
use Rattle.rl_tokens.proofs.PrintedLaws.{printed_literals_lex_to_their_trees, reprinted_literals_lex_to_themselves}

-- If a text has no first error, the lexer rejects it only for an allocation failure.
pub rejects_memory : (t : List ℕ) (kind : LexKind) (at : ℕ) → (HasFirstError t kind at → ⊥) → Rejects t kind at → kind
    ≡ Memory
rejects_memory t Memory at none h = refl
rejects_memory t DocComment at none h = absurd (none h)
rejects_memory t UnclosedComment at none h = absurd (none h)
rejects_memory t UnclosedQuote at none h = absurd (none h)
rejects_memory t Lifetime at none h = absurd (none h)
rejects_memory t RawIdentifier at none h = absurd (none h)
rejects_memory t StrayCharacter at none h = absurd (none h)
rejects_memory t UnmatchedClose at none h = absurd (none h)
rejects_memory t UnclosedGroup at none h = absurd (none h)
rejects_memory t TooDeep at none h = absurd (none h)

-- If a text is lexed into token trees, the lexer rejects it only for an allocation failure.
only_memory : (t : List ℕ) (file : ℕ) (trees : List Tree) (e : LexError) → Lexes t file trees → Rejects t e.kind e.at
    → e.kind ≡ Memory
only_memory t file trees e lexes rejected = rejects_memory t e.kind e.at
    (λ f. never_both t file trees e.kind e.at lexes f) rejected

-- The lexer's result is the token trees `trees`, or an allocation failure.
abbrev pub Answers : {A : Type 0} → Result (TokenStream A) LexError → List Tree → Type 0
Answers r trees = IfOk r (λ s. stream_view s ≡ trees) × IfErr r (λ e. e.kind ≡ Memory)

answers_trees : {A : Type 0} (t : List ℕ) (file : ℕ) (r : Result (TokenStream A) LexError) (trees : List Tree)
    → Lexes t file trees → IfOk r (λ s. Lexes t file (stream_view s)) → IfErr r (λ e. Rejects t e.kind e.at)
    → Answers r trees
answers_trees t file (Ok s) trees lexes found rejected = (one_list t file (stream_view s) trees found lexes, tt)
answers_trees t file (Err e) trees lexes found rejected = (tt, only_memory t file trees e lexes rejected)

pub exact_answer : {A : Type 0} (t : List ℕ) (file : ℕ) (r : Result (TokenStream A) LexError)
    → IfOk r (λ s. Lexes t file (stream_view s)) → IfErr r (λ e. Rejects t e.kind e.at) → (trees : List Tree)
    → Lexes t file trees → MatchResult r (λ s. stream_view s ≡ trees) (λ e. e.kind ≡ Memory)
exact_answer t file (Ok s) found rejected trees lexes = one_list t file (stream_view s) trees found lexes
exact_answer t file (Err e) found rejected trees lexes = only_memory t file trees e lexes rejected

-- The lexer's result for a printed list of literals is the token trees of its items, or an allocation failure.
pub printed_answer : {A : Type 0} (text : List ℕ) (file : ℕ) (r : Result (TokenStream A) LexError)
    → IfOk r (λ s. Lexes (chars text) file (stream_view s)) → IfErr r (λ e. Rejects (chars text) e.kind e.at)
    → (entries : List Entry) (last : List ℕ) → Printed (chars text) entries last
    → Answers r (printed_trees file 0 entries)
printed_answer text file r found rejected entries last printed = answers_trees (chars text) file r
    (printed_trees file 0 entries) (printed_literals_lex_to_their_trees (chars text) entries last file printed) found rejected

-- The lexer's result for a printed list of literals that were lexed from any text is the token trees of its items, or
-- an allocation failure.
pub reprinted_answer : {A : Type 0} (text : List ℕ) (file : ℕ) (r : Result (TokenStream A) LexError)
    → IfOk r (λ s. Lexes (chars text) file (stream_view s)) → IfErr r (λ e. Rejects (chars text) e.kind e.at)
    → (entries : List Entry) (last : List ℕ) → Reprinted (chars text) entries last
    → Answers r (printed_trees file 0 entries)
reprinted_answer text file r found rejected entries last reprinted = answers_trees (chars text) file r
    (printed_trees file 0 entries) (reprinted_literals_lex_to_themselves (chars text) entries last file reprinted) found rejected
