-- `Acts` says what lists of acts do, `Frames` which acts a call and a return are made of, `Fetch` those of a
-- call of many arguments, `Law` what they leave, and `View` which acts the code's lists show. `steps` is
-- private: how the code goes about it.
pub mod Acts
pub mod Fetch
pub mod Frames
pub mod Law
pub mod steps
pub mod View
