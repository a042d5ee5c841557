-- If a text is a literal by Rust's grammar, its literal has the kind, value and suffix that Rust's grammar gives it.
use Rattle.rl_lenient.proofs.Names.{Contents, Kind, Reads, SpannedText}
use Rattle.rl_syntax.proofs.Common.{List, Result, Some, chars, subst, sym, ℕ}
use Rattle.std.specs.Prelude.{IfOk}
use Rattle.std.proofs.lemmas.Result.{IfOk-weaker}
use Rattle.rl_syntax.proofs.Agreeing.{strict_reads}
use Rattle.rust_literals.specs.declared.lit.Lit.{Lit}
use Rattle.rust_literals.specs.Literals.{kind_of, IsReadFrom, IsLitOf}
use Rattle.rust_literals.specs.LitParts.{AgreesWithStrict}
use Rattle.rust_literals.proofs.LitLemmas.{one_kind}

pub lit_from : {A : Type 0} (token : SpannedText) (lit : Lit A) (kind : Kind) (contents : Contents) (suffix : List ℕ)
    → IsReadFrom token lit → Reads (chars token.text) kind contents suffix → IsLitOf kind contents suffix lit
lit_from token lit kind contents suffix (same, read) r = (
  one_kind (chars token.text) (kind_of lit) (Some kind) read (contents, suffix, r),
  subst (λ (t : SpannedText). Reads (chars t.text) kind contents suffix) (sym same) r,
)

pub agrees : {A : Type 0} (token : SpannedText) (lit : Lit A) → IsReadFrom token lit
    → AgreesWithStrict (chars token.text) lit
agrees token lit read kind contents suffix strict within =
    lit_from token lit kind contents suffix read (strict_reads (chars token.text) kind contents suffix strict within)

pub found_agrees : {A E : Type 0} (token : SpannedText) (result : Result (Lit A) E) → IfOk result (IsReadFrom token)
    → IfOk result (AgreesWithStrict (chars token.text))
found_agrees token result read = IfOk-weaker result _ _ (λ lit h. agrees token lit h) read
