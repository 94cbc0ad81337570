pub mod Binding
pub mod CallWeight
pub mod Called
pub mod OpenWords
pub mod SaidView
pub mod WordsView
pub mod Written
