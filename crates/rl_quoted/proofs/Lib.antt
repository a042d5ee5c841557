pub mod PlaceLemmas
pub mod WrittenLemmas
pub mod InsideLemmas
pub mod PlacedLemmas
