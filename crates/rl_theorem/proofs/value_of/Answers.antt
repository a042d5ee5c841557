use Rattle.std.proofs.Common.{ℕ, [], Some, refl, ap, ◌∙◌}
use Rattle.rl_syntax.specs.declared.kind.Kind.TheVariants.{Str, ByteStr, CStr, Byte, Char, Int, Float, Bool as BoolKind}
use Rattle.rl_syntax.specs.Reading.{Truth, truth_text}
use Rattle.rust_literals.specs.Literals.{kind_of, token_of}
use Rattle.rust_literals.proofs.LitLemmas.{truth_reads}
use Rattle.rl_theorem.specs.declared.Value.TheVariants as given
use Rattle.rl_theorem.proofs.HeadlineLemmas.{gives_value, holds_value, holds_float}
use Rattle.rl_theorem.proofs.value_of.Goals as goal

pub returns-in-Ok-clause-value : goal.returns-in-Ok-clause-value
returns-in-Ok-clause-value g c = λ r h. gives_value c.args.literal.now Str (Some (given.Text c.in-Ok.value)) r (ap kind_of c.in-Str.is) h (holds_value c.args.literal.now Str c.in-Str.string _ r (ap token_of c.in-Str.is) c.in-Ok.ensures.value h)

pub returns-in-Ok-value-clause-value : goal.returns-in-Ok-value-clause-value
returns-in-Ok-value-clause-value g c = λ r h. gives_value c.args.literal.now ByteStr (Some (given.Bytes c.in-Ok-value.value)) r (ap kind_of c.in-ByteStr.is) h (holds_value c.args.literal.now ByteStr c.in-ByteStr.string _ r (ap token_of c.in-ByteStr.is) c.in-Ok-value.ensures.value h)

pub returns-in-Ok-value-2-clause-value : goal.returns-in-Ok-value-2-clause-value
returns-in-Ok-value-2-clause-value g c = λ r h. gives_value {B = ℕ} c.args.literal.now CStr (Some (given.CBytes c.in-Ok-value-2.value)) r (ap kind_of c.in-CStr.is) h (holds_value c.args.literal.now CStr c.in-CStr.string _ r (ap token_of c.in-CStr.is) c.in-Ok-value-2.ensures.value h)

pub returns-in-Byte-clause-value : goal.returns-in-Byte-clause-value
returns-in-Byte-clause-value g c = λ r h. gives_value {B = ℕ} c.args.literal.now Byte (Some (given.Byte c.value-in-Byte.result)) r (ap kind_of c.in-Byte.is) h (holds_value c.args.literal.now Byte c.in-Byte.byte _ r (ap token_of c.in-Byte.is) c.value-in-Byte.ensures h)

pub returns-in-Char-clause-value : goal.returns-in-Char-clause-value
returns-in-Char-clause-value g c = λ r h. gives_value {B = ℕ} c.args.literal.now Char (Some (given.Character c.value-in-Char.result)) r (ap kind_of c.in-Char.is) h (holds_value c.args.literal.now Char c.in-Char.character _ r (ap token_of c.in-Char.is) c.value-in-Char.ensures h)

pub returns-in-Int-clause-value : goal.returns-in-Int-clause-value
returns-in-Int-clause-value g c = λ r h. gives_value {B = ℕ} c.args.literal.now Int (Some (given.Digits c.base10_digits.result)) r (ap kind_of c.in-Int.is) h (holds_value c.args.literal.now Int c.in-Int.number _ r (ap token_of c.in-Int.is) c.base10_digits.ensures h)

pub returns-in-Float-clause-value : goal.returns-in-Float-clause-value
returns-in-Float-clause-value g c = λ r h. gives_value {B = ℕ} c.args.literal.now Float (Some (given.Digits c.base10_digits-in-Float.result)) r (ap kind_of c.in-Float.is) h (holds_float c.args.literal.now c.in-Float.number _ r (ap token_of c.in-Float.is) (ap kind_of c.in-Float.is) c.base10_digits-in-Float.ensures h)

pub returns-in-Bool-clause-value : goal.returns-in-Bool-clause-value
returns-in-Bool-clause-value g c = λ r h. gives_value {B = ℕ} c.args.literal.now BoolKind (Some (given.Truth c.value-in-Bool.result)) r (ap kind_of c.in-Bool.is) h (ap Truth c.value-in-Bool.ensures
    ∙ holds_value c.args.literal.now BoolKind (record { text = truth_text c.in-Bool.truth.value; span = c.in-Bool.truth.span }) (Truth c.in-Bool.truth.value) r (ap token_of c.in-Bool.is)
    ([], truth_reads _ c.in-Bool.truth.value refl) h)
