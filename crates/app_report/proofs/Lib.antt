pub mod NamesLemmas
pub mod PagesLemmas
pub mod PiecesLemmas
pub mod RowsLemmas
pub mod TallyLemmas
pub mod ValuesLemmas
pub mod WeighingLemmas
pub mod WhereLemmas
