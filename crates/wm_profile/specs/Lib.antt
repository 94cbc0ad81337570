-- `Cause` and `FaultLine` say what `check` answers, over `Profile` of wm_ast. `steps` is what its functions count.
pub mod Cause
pub mod FaultLine
pub mod steps
