-- Lemmas about parsing the decoded value of a string literal, and about literals without a suffix.
use Rattle.rl_lenient.proofs.Names.{Characters, HasContents, HasSuffix, SpannedText, Str}
use Rattle.rl_syntax.proofs.Common.{Err, List, Ok, Result, [], ap, arith, chars, chars-nil, inl, inr, length, nat_tests, refl, subst, true, ℕ, ◌==◌, ◌∙◌, ◌≡◌, ◌≢◌, ◌⊎◌}
use Rattle.std.proofs.lemmas.List.{nil_from_length}
use Rattle.rl_syntax.specs.declared.span.Span.{Span}
use Rattle.rl_lexer.specs.declared.lex_error.LexKind.{LexKind}
use Rattle.rl_lexer.specs.declared.lex_error.LexKind.TheVariants.{DocComment, UnclosedComment, UnclosedQuote, Lifetime, RawIdentifier, StrayCharacter, UnmatchedClose, UnclosedGroup, TooDeep, Memory as LexMemory}
use Rattle.rl_tokens.specs.declared.error.Error.{Error}
use Rattle.rl_tokens.specs.declared.error.ErrorKind.TheVariants.{Unexpected}
use Rattle.rl_tokens.specs.Errors.{memory_at, lex_rejection}
use Rattle.rl_tokens.specs.Trees.{Tree}
use Rattle.rl_tokens.specs.Whole.{RejectsLexing, place_at}
use Rattle.rl_tokens.specs.Lexing.{Lexes}
use Rattle.rl_lexer.specs.Cuts.{Rejects}
use Rattle.rl_tokens.proofs.TreeRests.{run_moved}
use Rattle.rl_quoted.specs.declared.inside.Placing.{Placing}
use Rattle.rl_quoted.specs.Inside.{AreInside, AreMoved, IsLeftoverAt, IsReportedAt, RejectsLexingInside, RejectsInsideAt, Runs}

-- If a literal's suffix has no bytes, the literal has the empty suffix.
pub empty_suffix : (text suffix : List ℕ) → (length suffix == 0) ≡ true → HasSuffix Str text (chars suffix)
    → HasSuffix Str text []
empty_suffix text suffix e h =
    let z : length suffix ≡ 0 = grind (arith, nat_tests) in
    subst (λ x. HasSuffix Str text x) (ap chars (nil_from_length suffix z) ∙ chars-nil) h

-- A parser runs on a buffer with the token trees of a string literal's decoded value. The buffer's scope is the
-- literal's span. Then the parser's result is its result inside the literal.
pub ran_inside : {T E : Type 0} (placing : Placing) (runs : List Tree → Span → Result T E → List Tree → Type 0)
    (token : SpannedText) (buffer trees left rest : List Tree) (scope : Span) (r : Result T E)
    → AreInside placing token trees → buffer ≡ trees → scope ≡ token.span → left ≡ rest → runs buffer scope r left
    → Runs placing runs token r rest
ran_inside placing runs token buffer trees left rest scope r inside same place ends ran = record {
  trees = trees;
  inside = inside;
  ran = run_moved runs buffer trees scope token.span r left rest same place ends ran;
}

-- If a string literal's decoded value can't be lexed, or an allocation fails, the literal is rejected for that reason.
pub refuses_trees : {T A : Type 0} (placing : Placing) (runs : List Tree → Span → Result T (Error A) → List Tree
    → Type 0) (token : SpannedText) (e : Error A) → RejectsLexingInside placing token e ⊎ (e ≡ memory_at token.span)
    → RejectsInsideAt placing runs token e
refuses_trees placing runs token e (inl lexing) = inl lexing
refuses_trees placing runs token e (inr memory) = inr (inr (inr (inr memory)))

pub refuses_parser : {T A : Type 0} (placing : Placing) (runs : List Tree → Span → Result T (Error A) → List Tree
    → Type 0) (token : SpannedText) (e : Error A) (rest : List Tree) → Runs placing runs token (Err e) rest
    → RejectsInsideAt placing runs token e
refuses_parser placing runs token e rest ran = inr (inl (record { rest = rest; ran = ran }))

pub refuses_left : {T A : Type 0} (placing : Placing) (runs : List Tree → Span → Result T (Error A) → List Tree
    → Type 0) (token : SpannedText) (value : T) (rest : List Tree) (at : Span) → Runs placing runs token (Ok value) rest
    → rest ≢ [] → IsLeftoverAt placing token rest at → RejectsInsideAt placing runs token
    (record { span = at; kind = Unexpected })
refuses_left placing runs token value rest at ran some reported =
    inr (inr (inl (record { value = value; rest = rest; ran = ran; some = some; place = at; reported = reported; error = refl })))

-- If the span of a lexer's error is replaced, the result is the lexer's error of that kind at the new span.
pub moved_refusal : {A : Type 0} (kind : LexKind) (place : Span) (at : Span) (e : Error A) → e
    ≡ lex_rejection kind place → record { span = at; kind = e.kind } ≡ lex_rejection kind at
moved_refusal DocComment place at e q = ap (λ x. record { span = at; kind = x.kind }) q
moved_refusal UnclosedComment place at e q = ap (λ x. record { span = at; kind = x.kind }) q
moved_refusal UnclosedQuote place at e q = ap (λ x. record { span = at; kind = x.kind }) q
moved_refusal Lifetime place at e q = ap (λ x. record { span = at; kind = x.kind }) q
moved_refusal RawIdentifier place at e q = ap (λ x. record { span = at; kind = x.kind }) q
moved_refusal StrayCharacter place at e q = ap (λ x. record { span = at; kind = x.kind }) q
moved_refusal UnmatchedClose place at e q = ap (λ x. record { span = at; kind = x.kind }) q
moved_refusal UnclosedGroup place at e q = ap (λ x. record { span = at; kind = x.kind }) q
moved_refusal TooDeep place at e q = ap (λ x. record { span = at; kind = x.kind }) q
moved_refusal LexMemory place at e q = ap (λ x. record { span = at; kind = x.kind }) q

-- The span of a lexer's error is the span at which it was created.
rejection_span : {A : Type 0} (kind : LexKind) (place : Span) (e : Error A) → e ≡ lex_rejection kind place → e.span
    ≡ place
rejection_span DocComment place e q = ap (λ x. x.span) q
rejection_span UnclosedComment place e q = ap (λ x. x.span) q
rejection_span UnclosedQuote place e q = ap (λ x. x.span) q
rejection_span Lifetime place e q = ap (λ x. x.span) q
rejection_span RawIdentifier place e q = ap (λ x. x.span) q
rejection_span StrayCharacter place e q = ap (λ x. x.span) q
rejection_span UnmatchedClose place e q = ap (λ x. x.span) q
rejection_span UnclosedGroup place e q = ap (λ x. x.span) q
rejection_span TooDeep place e q = ap (λ x. x.span) q
rejection_span LexMemory place e q = ap (λ x. x.span) q

-- If the decoded value of a string literal has a lexing error, the literal is rejected with that error. The error's
-- span in the file is the span that `placing` selects.
pub refuses_lexing : {A : Type 0} (placing : Placing) (token : SpannedText) (value text : List ℕ) (file : ℕ) (at : Span)
    (e : Error A) → HasContents Str (chars token.text) (Characters value) → chars text ≡ value → file ≡ token.span.file
    → IsReportedAt placing token e.span at → RejectsLexing (chars text) file e
    → RejectsLexingInside placing token (record { span = at; kind = e.kind })
refuses_lexing placing token value text file at e contents same where_from reported lexing = record {
  value = value;
  contents = contents;
  kind = lexing.kind;
  at = lexing.at;
  rejected = subst (λ t. Rejects t lexing.kind lexing.at) same lexing.rejected;
  place = at;
  reported = subst (λ s. IsReportedAt placing token s at) (rejection_span lexing.kind (place_at file lexing.at) e
      lexing.error ∙ ap (λ f. place_at f lexing.at) where_from) reported;
  error = moved_refusal lexing.kind (place_at file lexing.at) at e lexing.error;
}

-- A string literal's decoded value is lexed, and the spans of the token trees are replaced by those that `placing`
-- selects. The result is the token trees inside the literal.
pub are_inside : (placing : Placing) (token : SpannedText) (value text : List ℕ) (file : ℕ) (cut trees : List Tree)
    → HasContents Str (chars token.text) (Characters value) → chars text ≡ value → file ≡ token.span.file
    → Lexes (chars text) file cut → AreMoved (IsReportedAt placing token) cut trees → AreInside placing token trees
are_inside placing token value text file cut trees contents same where_from lexes moved = record {
  value = value;
  contents = contents;
  cut = cut;
  lexes = subst (λ f. Lexes value f cut) where_from (subst (λ v. Lexes v file cut) same lexes);
  moved = moved;
}
