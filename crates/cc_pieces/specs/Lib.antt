-- `Entry`, `Fetching`, `Restoring`, `Placing`, `Growing` and `Dividing` say what the pieces do that go on where a
-- body's piece has ended, `Parts` which lists of them a module has, `Lists` and `View` what code adds to items, and
-- `Law` what the public law says.
pub mod Dividing
pub mod Entry
pub mod Fetching
pub mod Growing
pub mod Law
pub mod Lists
pub mod Parts
pub mod Placing
pub mod Restoring
pub mod View
