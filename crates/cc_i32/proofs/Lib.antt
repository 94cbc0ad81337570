pub mod Dividing
pub mod SignedWords
pub mod UnsignedWords
pub mod LightLemmas
pub mod DivisionLemmas
pub mod OperationLemmas
pub mod HelperLemmas
pub mod Short
