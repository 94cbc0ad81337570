-- What stands here gives the public contracts their meaning; what only private code and proofs cite stands in `steps`.
pub mod Paths
pub mod Json
pub mod Told
pub mod Step
pub mod Held
pub mod Put
pub mod Folder
pub mod steps
pub mod Example
