mod RowLemmas
mod Texts
