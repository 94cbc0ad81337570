pub mod Elements
pub mod Fitting
pub mod Found
pub mod HelperLemmas
pub mod Laws
pub mod Nearby
pub mod Short
pub mod Targets
