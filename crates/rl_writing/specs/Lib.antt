pub mod AsciiStrings
pub mod Hiding
pub mod Integers
pub mod Mirrors
pub mod RawStrings
pub mod WrittenIntegers
pub mod Laws
