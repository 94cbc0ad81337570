pub mod Changing
pub mod Forms
pub mod Keys
pub mod Naming
pub mod Stores
pub mod Trees
