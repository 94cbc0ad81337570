-- `View` says what a configuration of the reduction shows, `Seen` what one of the machine shows, and `Law` that these
-- are the same.
pub mod Law
pub mod Seen
pub mod View
