pub mod AttributeLemmas
pub mod EntryLemmas
pub mod FlatEntries
pub mod FlatSettings
pub mod NameKeys
pub mod TextLemmas
pub mod ValuePlaces
pub mod Theorems
