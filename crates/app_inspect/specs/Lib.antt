-- `Tell` says what may be printed where a script asks where the program is, and when that is what the reduction of a
-- module gives; `Law` what the public law says.
pub mod Law
pub mod Tell
