pub mod FixLemmas
pub mod AcceptLemmas
