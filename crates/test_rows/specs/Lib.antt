-- What the files of a row are to the program that runs over them.
pub mod Hidden
