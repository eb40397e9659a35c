-- Why the calls keep their promises.
pub mod Places  -- how large the record and the column of a fault are
pub mod AnswerLaws  -- words put into lent memory
pub mod WordLaws  -- values as words
pub mod GivenLaws  -- words taken for values
pub mod PromiseLaws  -- each call's promise, for each way through it
pub mod Unheld  -- what a bad word is taken for is refused
pub mod Refused  -- and so the call answers 9 at that word's field
