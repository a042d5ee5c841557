pub mod Headline
pub mod Printed
pub mod Lists
pub mod Notation
pub mod RustRules
pub mod SynRules
