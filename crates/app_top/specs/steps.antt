pub mod JoinRun
pub mod RefusalOf
pub mod Run
pub mod ShareRun
pub mod WorkloadRun
