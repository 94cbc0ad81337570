-- `Layout` says where locals and operands lie, `KnownConstants` what is known of operands and locals, `Storage` where
-- globals are, `Placers` where values are put to places, `Behind` behind which instruction a place stands, `Conditions`
-- which comparisons are tested without a number, `Emit` what is emitted for each place, `Pieces` and `Parts` which
-- pieces a module has, and `Law` what the public law says. `steps` and `View` are private: how the code goes about it.
pub mod Behind
pub mod Conditions
pub mod Emit
pub mod KnownConstants
pub mod Law
pub mod Layout
pub mod Parts
pub mod Pieces
pub mod Placers
pub mod steps
pub mod Storage
pub mod View
