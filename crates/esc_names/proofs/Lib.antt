mod KeyLemmas
mod NumberingLemmas
mod ReservedLemmas
mod RowLemmas
