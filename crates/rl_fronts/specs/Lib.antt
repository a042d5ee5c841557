pub mod FrontTokens
pub mod Fronts
pub mod Laws
