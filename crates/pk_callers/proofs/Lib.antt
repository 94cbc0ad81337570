pub mod CallerFound
pub mod FrameFound
pub mod Leading
pub mod TypesFound
