pub mod Forms
pub mod Laws
pub mod Leading
pub mod LeafLemmas
pub mod Naming
