-- The laws that belong to no one function.
pub mod Loops
pub mod Signed
pub mod SetLaws
pub mod ItemLaws
pub mod LabelLaws
pub mod NumberLaws
pub mod ValueLaws
pub mod WriteLaws
pub mod AngleLaws
pub mod RoundTrip
pub mod Widths
