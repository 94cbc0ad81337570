pub mod CodeLaws
pub mod VectorLaws
