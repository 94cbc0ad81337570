-- `Standing` says what stands while a program with a memory runs, `Address` how an address is found in the window,
-- `Load` and `Store` which items accesses are made of, `Size` how the size is told, and `Law` what the public laws say.
pub mod Address
pub mod Helpers
pub mod Law
pub mod Load
pub mod Size
pub mod Standing
pub mod Store
