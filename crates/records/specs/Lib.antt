-- 01, The log: the bytes of its two kinds of records.
pub mod Records
