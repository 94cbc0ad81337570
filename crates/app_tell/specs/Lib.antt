-- `Tell` says when the lines that a script prints are what the reduction of a module gives, and `Law` what the public
-- law says.
pub mod Law
pub mod Tell
