pub mod ItemLemmas
pub mod LintLemmas
pub mod ReasonLemmas
pub mod RewriteLemmas
pub mod CountLemmas
pub mod ShortageLemmas
pub mod CapitalLemmas
pub mod StringLemmas
