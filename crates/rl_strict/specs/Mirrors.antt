-- Executable models of the code: functions on lists of characters. It is proved that the code returns equal results. Contracts of
-- private functions cite them, and so do contracts of some functions that are public only for other crates of this repository.

pub mod StrictAt
pub mod StrictFlawAt
pub mod UnitFlawAt
pub mod WordFlawAt
pub mod NumberRead
pub mod SuffixRead
