-- Numbers: integers, and floats that aren't integers.
use Rattle.rl_syntax.proofs.Common.{ℕ, List, arith}
use Rattle.rl_lenient.proofs.Names.{Int, Float, HasNoFloat, HasNoInteger, IsPast}
use Rattle.rl_lenient.specs.NumberShapes.{ReadsNoNumber}
use Rattle.rl_syntax.proofs.OneNumber.{int_once}

-- A text that is an integer above 128 bits isn't parsed as a number, not even as a float.
pub past_number : (t : List ℕ) → IsPast t → ReadsNoNumber t
past_number t p Int c x r =
    let o = int_once t p.suffix x p.sign r.sign p.magnitude r.magnitude p.reads r.reads in
    let small = r.within in
    let large = p.past in
    let same = o.1 in
    omega arith
past_number t p Float c x r = r.no_integer p.sign p.magnitude p.suffix p.reads
past_number t p kind c x r = r

-- A text that is neither an integer nor a float isn't a number.
pub no_number : (t : List ℕ) → HasNoInteger t → HasNoFloat t → ReadsNoNumber t
no_number t h f Int c x r = h r.sign r.magnitude x r.reads
no_number t h f Float c x r = f r.numeral x r.reads
no_number t h f kind c x r = r
