-- What the public contracts mean.
pub mod First
