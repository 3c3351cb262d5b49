pub mod PlainLists
