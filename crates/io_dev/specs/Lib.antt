-- What stands here gives the public contracts their meaning; what only private code and proofs cite stands in `steps`.
pub mod DiskFiles
pub mod Faults
pub mod Files
pub mod Folder
pub mod MemFiles
pub mod MemSink
pub mod Names
pub mod Plan
pub mod Sink
pub mod StdSink
pub mod Stream
pub mod steps
