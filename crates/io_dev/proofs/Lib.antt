pub mod FilesAsMap
pub mod Listed
pub mod Streams
