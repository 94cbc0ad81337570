-- `Example` is a module with something of each kind, `Events` a list with an event of each kind, `Played` says what
-- becomes of each pack of the example under these, and `Holding` that a folder holds it.
pub mod Example
pub mod Events
pub mod Played
pub mod Holding
