-- `Pages` says what pages and words are, and which bytes they have; `Law` says what the public laws say.
pub mod Law
pub mod Pages
