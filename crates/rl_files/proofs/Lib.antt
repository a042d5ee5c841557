pub mod HostLemmas
pub mod WalkLemmas
pub mod VisibleLemmas
pub mod GlobLemmas
pub mod PartLemmas
pub mod PathTextLemmas
pub mod ListedLemmas
