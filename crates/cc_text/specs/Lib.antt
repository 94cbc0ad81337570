-- `Short` says when items are short, and `Tables` which helpers have a name of a list, and how names begin.
pub mod Short
pub mod Tables
