-- `Job` says which job linked modules are at, as the pack of the joined module goes on, `Tell` when printed lines are
-- what their reduction gives, and `Law` what the public laws say.
pub mod Job
pub mod Law
pub mod Tell
