-- The items of a printed list of literals are parsed as Rust's grammar says: a parsed integer is within 128 bits.
use Rattle.rl_lenient.proofs.Names.{Byte, ByteStr, CStr, Char, Contents, Digits, Float, HasReading, Int, IntReads, IsPast, Kind, Minus, NoSign, Reads, ReadsAs, Sign, Str, Truth, first_passes, limit, truth_text}
use Rattle.rl_syntax.proofs.Common.{Bool, List, [], cases_lt, false, inl, inr, is_ascii_digit, refl, subst, sym, true, ℕ, ◌<◌, ◌==◌, ◌||◌, ◌∷◌, ◌≡◌, ◌≤◌, ◌⊎◌}
use Rattle.rl_syntax.specs.declared.kind.Kind.TheVariants.{Bool as BoolKind}
use Rattle.rl_syntax.specs.Strict.{Strict}
use Rattle.rl_syntax.specs.Quoted.{is_number}
use Rattle.rl_syntax.specs.Readings.{Reading}
use Rattle.rl_syntax.specs.Agreeing.{IsWithinLimit}
use Rattle.rl_syntax.specs.Printed.{Item, WordItem, LiteralItem, MinusItem, item_text, IsStrictItem, IsItemOf}
use Rattle.rl_syntax.proofs.Agreeing.{strict_reads, strict_minus}
use Rattle.rl_syntax.proofs.OneNumber.{int_once, int_front, begins_number}
use Rattle.rl_syntax.proofs.StrictNumbers.{strict_int, minus_int}
use Rattle.rl_syntax.proofs.Theorems.{the_truth_words_are_strict}
use Rattle.rl_lenient.specs.WholeShapes.{is_number_front}
use Rattle.rl_lenient.proofs.NumberLemmas.{past_number}
use Rattle.rl_lenient.proofs.ReadingLemmas.{only_number}

-- The text `true` or `false` is parsed as a `bool`.
pub truth_reads : (t : List ℕ) (b : Bool) → t ≡ truth_text b → ReadsAs BoolKind t
truth_reads t b e = (Truth b, [], record { truth = b; text_is = e; suffix_is = refl; contents_is = refl })

swapped : (a b : Bool) → (a || b) ≡ true → (b || a) ≡ true
swapped true true h = refl
swapped true false h = refl
swapped false true h = refl
swapped false false h = h

number_front : (t : List ℕ) → begins_number t ≡ true → first_passes is_number_front t ≡ true
number_front [] h = h
number_front (c ∷ cs) h = swapped (is_ascii_digit c) (c == 45) h

int_within : (t : List ℕ) → HasReading t → (sign : Sign) (magnitude : ℕ) (suffix : List ℕ)
    → IntReads t sign magnitude suffix → magnitude ≤ limit
int_within t (kind, (contents, end, r)) sign magnitude suffix i = go (cases_lt limit magnitude)
  where
    go : (limit < magnitude) ⊎ (magnitude ≤ limit) → magnitude ≤ limit
    go (inr small) = small
    go (inl past) =
        let is_past : IsPast t = record { sign = sign; magnitude = magnitude; suffix = suffix; reads = i; past = past }
        in
        absurd (only_number t (number_front t (int_front t suffix sign magnitude i)) (past_number t is_past) kind
        contents end r)

within_limit : (kind : Kind) (t : List ℕ) → HasReading t → IsWithinLimit kind t
within_limit Int t reads = int_within t reads
within_limit Str t reads = tt
within_limit ByteStr t reads = tt
within_limit CStr t reads = tt
within_limit Byte t reads = tt
within_limit Char t reads = tt
within_limit Float t reads = tt
within_limit BoolKind t reads = tt

int_behind_minus : (t : List ℕ) (contents : Contents) (suffix : List ℕ) → Strict t Int contents suffix
    → HasReading (45 ∷ t) → (sign : Sign) (magnitude : ℕ) (end : List ℕ) → IntReads t sign magnitude end
    → magnitude ≤ limit
int_behind_minus t contents suffix strict reads sign magnitude end i =
    let n = strict_int t suffix contents strict in
    let o = int_once t suffix end NoSign sign n.magnitude magnitude n.reads i in
    subst (λ (z : ℕ). z ≤ limit) o.1 (int_within (45 ∷ t) reads Minus n.magnitude suffix
    (minus_int t suffix n.magnitude n.reads))

within_minus : (kind : Kind) (t : List ℕ) (contents : Contents) (suffix : List ℕ) → Strict t kind contents suffix
    → HasReading (45 ∷ t) → IsWithinLimit kind t
within_minus Int t contents suffix strict reads = int_behind_minus t contents suffix strict reads
within_minus Str t contents suffix strict reads = tt
within_minus ByteStr t contents suffix strict reads = tt
within_minus CStr t contents suffix strict reads = tt
within_minus Byte t contents suffix strict reads = tt
within_minus Char t contents suffix strict reads = tt
within_minus Float t contents suffix strict reads = tt
within_minus BoolKind t contents suffix strict reads = tt

pub item_is : (item : Item) → IsStrictItem item → (kind : Kind) (contents : Contents) (suffix : List ℕ)
    → IsItemOf kind contents suffix item → Reads (item_text item) kind contents suffix
item_is (WordItem truth) is kind contents suffix strict =
    strict_reads (truth_text truth) kind contents suffix strict
    (within_limit kind (truth_text truth) (BoolKind, truth_reads (truth_text truth) truth refl))
item_is (LiteralItem text) (own, other, is, reads) kind contents suffix strict =
    strict_reads text kind contents suffix strict (within_limit kind text reads)
item_is (MinusItem text) (own, number, is, reads) kind contents suffix (digits, is_number, strict, same) =
    subst (λ (c : Contents). Reads (45 ∷ text) kind c suffix) (sym same)
    (strict_minus text kind digits suffix is_number strict (within_minus kind text (Digits digits) suffix strict reads))

-- The digits of a number by Rust's grammar.
number_digits : (k : Kind) (text suffix : List ℕ) (v : Contents) → is_number k ≡ true → Strict text k v suffix
    → (ds : List ℕ) × (v ≡ Digits ds)
number_digits Int text suffix v number strict = (_, strict.contents)
number_digits Float text suffix v number strict = (_, strict.contents)
number_digits Str text suffix v number strict = absurd (cc)
number_digits ByteStr text suffix v number strict = absurd (cc)
number_digits CStr text suffix v number strict = absurd (cc)
number_digits Byte text suffix v number strict = absurd (cc)
number_digits Char text suffix v number strict = absurd (cc)
number_digits BoolKind text suffix v number strict = absurd (cc)

-- The parse result that Rust's grammar gives an item.
abbrev pub ItemReading : Item → Type 0
ItemReading item = (r : Reading) × IsItemOf r.kind r.contents r.suffix item

pub item_reading : (item : Item) → IsStrictItem item → ItemReading item
item_reading (WordItem truth) is =
    (record { kind = BoolKind; contents = Truth truth; suffix = [] }, the_truth_words_are_strict truth)
item_reading (LiteralItem text) (kind, other, (contents, suffix, strict), reads) =
    (record { kind = kind; contents = contents; suffix = suffix }, strict)
item_reading (MinusItem text) (kind, number, (contents, suffix, strict), reads) =
    let (digits, same) = number_digits kind text suffix contents number strict in (
      record { kind = kind; contents = Digits (45 ∷ digits); suffix = suffix },
      (digits, number, subst (λ (v : Contents). Strict text kind v suffix) same strict, refl),
    )
