pub mod Fixes
pub mod Accepted
