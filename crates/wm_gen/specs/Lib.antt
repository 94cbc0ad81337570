-- `Workload` says which module a number and a size tell, and `Shortest` how it is spelled. `steps` has what contracts
-- of private functions speak of.
pub mod Shortest
pub mod steps
pub mod Workload
