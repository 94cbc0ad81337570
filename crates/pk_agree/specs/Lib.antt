-- `Job` says which job a pack is at, `Agree` when a pack does what a module does, `Stepwise` when it does so piece after
-- piece, `Resume` what a running pack stands for, `Heaviest` what its heaviest piece weighs, `Linked` what a linked pack
-- holds, and `Law` what the public laws say.
pub mod Agree
pub mod Heaviest
pub mod Job
pub mod Law
pub mod Linked
pub mod Resume
pub mod Stepwise
