pub mod Agreeing
pub mod Alike
pub mod Answers
pub mod Boot
pub mod Calls
pub mod Held
pub mod Indices
pub mod Invocations
pub mod Layered
pub mod Leads
pub mod OneJob
pub mod Pieces
pub mod Programs
pub mod Resuming
pub mod Schedules
pub mod Stages
pub mod Standings
mod Turning
