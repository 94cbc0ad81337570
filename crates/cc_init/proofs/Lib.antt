pub mod Appending
pub mod Furnishing
mod GlobalLemmas
pub mod Laying
pub mod Light
mod PageLemmas
pub mod Paging
mod PlaceLemmas
mod StartLemmas
