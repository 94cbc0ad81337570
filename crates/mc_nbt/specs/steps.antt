pub mod BuildView
pub mod Edit
pub mod Reading
pub mod ScanView
pub mod Scanning
