-- Names of attributes as elements of an ordered set, and their order.
use Rattle.std.specs.Prelude.{ℕ, ◌-◌, nat_lt, if◌then◌else◌, Bool, List, length, drop}
use Rattle.std.specs.Int.{from_be_bytes, w64}
use Rattle.std.specs.BTreeSet.{BTreeSet, contains_by}
use Rattle.std.specs.Cmp.Lexicographic.{slice_cmp}
use Rattle.std.specs.declared.cmp.Ordering.{Ordering}
use Rattle.std.specs.Ordering.{nat_cmp, on, ordering_then, then_cmp}
use Rattle.rl_attributes.specs.declared.attributes.name.Name.{Name}

-- The last eight bytes of a name as a big-endian number, or 0 if the name is shorter.
abbrev pub name_key : List ℕ → ℕ
name_key name = if nat_lt (length name) 8 then 0 else from_be_bytes w64 (drop (length name - 8) name)

-- The order of names: by the numbers of their last eight bytes, and by all bytes if these numbers are equal.
abbrev pub name_cmp : Name → Name → Ordering
name_cmp = then_cmp (on (λ n. n.key) nat_cmp) (on (λ n. n.text.now) (slice_cmp nat_cmp))

-- Whether the set of names contains the name `name`.
abbrev pub has_name : BTreeSet Name → List ℕ → Bool
has_name names name =
    contains_by (λ k. ordering_then (nat_cmp (name_key name) k.key) (slice_cmp nat_cmp name k.text.now)) names
