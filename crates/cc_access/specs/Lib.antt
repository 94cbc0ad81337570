-- `Access` says which items the loads and stores of all widths are made of, `Known` which ones where the address is
-- known, and `Law` and `KnownLaw` what the public laws say.
pub mod Access
pub mod Known
pub mod KnownLaw
pub mod Law
