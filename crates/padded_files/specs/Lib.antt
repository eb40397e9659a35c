-- What is stated of pad and of a call after it.
pub mod AfterPad
