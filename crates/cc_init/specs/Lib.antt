-- `Init` says which pieces lay down the first store and of which items, `Laid` what stands between them and behind the
-- last one, and `Law` what the public law says. `steps` is private: how the code goes about it.
pub mod Init
pub mod Laid
pub mod Law
pub mod steps
