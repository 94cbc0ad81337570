pub mod Pages
pub mod Weighing
