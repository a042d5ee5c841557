pub mod FrontLemmas
pub mod NumberFoundLemmas
pub mod ByteContents
pub mod Theorems
