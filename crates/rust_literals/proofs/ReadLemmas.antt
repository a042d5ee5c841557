-- Lemmas about the function `read_all`: its results follow from the lexer's result and the literals among the token
-- trees.
use Rattle.std.proofs.Common.{◌≡◌, ◌≢◌, ◌⊎◌, inl, inr, ℕ, List, [], ◌++◌, ap, subst}
use Rattle.std.specs.Prelude.{Result, Ok, Err, IfOk, IfErr, Vec}
use Rattle.rl_syntax.specs.declared.span.Span.{Span}
use Rattle.rl_tokens.specs.declared.error.Error.{Error}
use Rattle.rl_tokens.specs.declared.error.ErrorKind.TheVariants.{Memory as MemoryError}
use Rattle.rl_lexer.specs.declared.lex_error.LexKind.{LexKind}
use Rattle.rl_lexer.specs.declared.lex_error.LexKind.TheVariants.{DocComment, UnclosedComment, UnclosedQuote, Lifetime, RawIdentifier, StrayCharacter, UnmatchedClose, UnclosedGroup, TooDeep, Memory}
use Rattle.rl_tokens.specs.Errors.{lex_rejection}
use Rattle.rl_tokens.specs.Trees.{Tree}
use Rattle.rl_tokens.specs.Lexing.{Lexes, NeverBoth}
use Rattle.rl_lexer.specs.Cuts.{Rejects}
use Rattle.rust_literals.specs.declared.lit.Lit.{Lit}
use Rattle.rust_literals.specs.Parsing.{RunsLit, ReadsLiterals, RejectsNextLiteral, LacksMemory, AreRead, RejectsText}
use Rattle.rl_tokens.proofs.LexLaws.{one_list, never_both}
use Rattle.rust_literals.proofs.LeadsLemmas.{never_stops}
use Rattle.rust_literals.proofs.FlatLemmas.{one_read}
use Rattle.rust_literals.specs.ReadBack.{HoldsOrMemory}

abbrev at_span : ℕ → ℕ → Span
at_span file at = record { file = file; lo = at; hi = at }

-- If a text is lexed into token trees, the lexer rejects it only for an allocation failure.
pub lex_memory : {A : Type 0} (text : List ℕ) (file : ℕ) (trees : List Tree) (kind : LexKind) (at : ℕ) (e : Error A)
    → NeverBoth → Lexes text file trees → e ≡ lex_rejection kind (at_span file at) → Rejects text kind at → e.kind
    ≡ MemoryError
lex_memory text file trees DocComment at e never lexes is r = absurd (never text file trees DocComment at lexes r)
lex_memory text file trees UnclosedComment at e never lexes is r = absurd
    (never text file trees UnclosedComment at lexes r)
lex_memory text file trees UnclosedQuote at e never lexes is r = absurd (never text file trees UnclosedQuote at lexes r)
lex_memory text file trees Lifetime at e never lexes is r = absurd (never text file trees Lifetime at lexes r)
lex_memory text file trees RawIdentifier at e never lexes is r = absurd (never text file trees RawIdentifier at lexes r)
lex_memory text file trees StrayCharacter at e never lexes is r = absurd
    (never text file trees StrayCharacter at lexes r)
lex_memory text file trees UnmatchedClose at e never lexes is r = absurd
    (never text file trees UnmatchedClose at lexes r)
lex_memory text file trees UnclosedGroup at e never lexes is r = absurd (never text file trees UnclosedGroup at lexes r)
lex_memory text file trees TooDeep at e never lexes is r = absurd (never text file trees TooDeep at lexes r)
lex_memory text file trees Memory at e never lexes is r = ap (λ x. x.kind) is

-- If token trees begin with the literals `list`, and the parser fails after these literals, its error is an error of
-- the whole list of token trees.
pub rejected_next : {A : Type 0} (all trees rest : List Tree) (scope : Span) (list : List (Lit A)) (e : Error A)
    → ReadsLiterals all list trees → trees ≢ [] → RunsLit trees scope (Err e) rest → RejectsNextLiteral all scope e
    ⊎ LacksMemory all scope e
rejected_next all trees rest scope list e leads some (inl (front, wants)) = inr
    (record { list = list; rest = trees; leads = leads; memory = inl (front, wants.error) })
rejected_next all trees rest scope list e leads some (inr none) = inl
    (record { list = list; rest = trees; leads = leads; some = some; none = none.none; rejection = none.rejection })

-- If the token trees of a text are the literals `gone`, followed by the literals of the result, the text consists of
-- these literals.
pub text_read : {A B : Type 0} (text : List ℕ) (file : ℕ) (trees : List Tree) (gone : List (Lit A))
    (r : Result (Vec (Lit A) B) (Error A)) → Lexes text file trees
    → IfOk r (λ l. ReadsLiterals trees (gone ++ l.items) []) → IfOk r (λ l. AreRead text file (gone ++ l.items))
text_read text file trees gone (Ok l) lexes h = record { trees = trees; lexes = lexes; leads = h }
text_read text file trees gone (Err x) lexes h = tt

-- An error of a text's token trees is an error of the text.
pub text_rejected : {A B : Type 0} (text : List ℕ) (file end : ℕ) (trees : List Tree) (scope : Span)
    (r : Result (Vec (Lit A) B) (Error A)) → Lexes text file trees → scope ≡ at_span file end
    → IfErr r (λ e. RejectsNextLiteral trees scope e ⊎ LacksMemory trees scope e) → IfErr r (RejectsText text file end)
text_rejected text file end trees scope (Ok l) lexes s h = tt
text_rejected text file end trees scope (Err x) lexes s h =
    inr (record {
      trees = trees;
      lexes = lexes;
      rejected = subst (λ (k : Span). RejectsNextLiteral trees k x ⊎ LacksMemory trees k x) s h;
    })

short_memory : {A : Type 0} (trees : List Tree) (scope : Span) (e : Error A) → LacksMemory trees scope e → e.kind
    ≡ MemoryError
short_memory trees scope e h = elim h.memory [ inl m ↦ ap (λ x. x.kind) m.1 | inr m ↦ ap (λ x. x.kind) m ]

-- If a text consists of the literals `list`, the result is this list, or an allocation failure.
pub text_exactly : {A B : Type 0} (text : List ℕ) (file end : ℕ) (r : Result (Vec (Lit A) B) (Error A))
    → IfOk r (λ l. AreRead text file l.items) → IfErr r (RejectsText text file end) → (list : List (Lit A))
    → AreRead text file list → HoldsOrMemory (λ found. found ≡ list) r
text_exactly text file end (Ok l) read rejected list a = one_read text file l.items list read a
text_exactly text file end (Err x) read (inl uncut) list a = lex_memory text file a.trees uncut.kind uncut.at x
    never_both a.lexes uncut.error uncut.rejected
text_exactly {A = A} text file end (Err x) read (inr trees) list a =
    let leads : ReadsLiterals trees.trees list [] = subst (λ (t : List Tree). ReadsLiterals t list [])
    (one_list text file a.trees trees.trees a.lexes trees.lexes) a.leads in
    go trees.rejected leads
  where
    go : RejectsNextLiteral trees.trees (at_span file end) x ⊎ LacksMemory trees.trees (at_span file end) x
        → ReadsLiterals trees.trees list [] → x.kind ≡ MemoryError
    go (inl s) leads = absurd (never_stops trees.trees list s.list s.rest leads s.leads s.some s.none)
    go (inr s) leads = short_memory trees.trees (at_span file end) x s
