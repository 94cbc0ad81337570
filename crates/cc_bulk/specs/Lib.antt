-- `Grow` says how the memory grows, `Fill` and `Copy` how bytes are filled and copied, and `GrowLaw` and `FillLaw` what
-- the public laws say.
pub mod Copy
pub mod Fill
pub mod FillLaw
pub mod Grow
pub mod GrowLaw
