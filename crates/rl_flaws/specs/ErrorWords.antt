-- The messages and the identifiers of type errors.
use Rattle.std.specs.Prelude.{ℕ, List, codes}
use Rattle.rl_flaws.specs.declared.type_errors.TypeError.{TypeError}
use Rattle.rl_flaws.specs.declared.type_errors.TypeError.TheVariants.{QuotedSuffix, UnknownSuffix, FloatSuffix, BasedFloat, OutOfRange}

abbrev pub type_error_message : TypeError → List ℕ
type_error_message QuotedSuffix = codes "only numbers have suffixes"
type_error_message UnknownSuffix = codes "unknown suffix"
type_error_message FloatSuffix = codes "a float's suffix is f32 or f64"
type_error_message BasedFloat = codes "a float must be decimal"
type_error_message OutOfRange = codes "out of its type's range"

-- The identifier of a type error. It never changes.
abbrev pub type_error_id : TypeError → List ℕ
type_error_id QuotedSuffix = codes "quoted-suffix"
type_error_id UnknownSuffix = codes "unknown-suffix"
type_error_id FloatSuffix = codes "float-suffix"
type_error_id BasedFloat = codes "based-float"
type_error_id OutOfRange = codes "out-of-range"
