-- What the theorems cite of meanings: the texts that are given beside a record.
pub mod Texts
