-- The tables are the layouts of `rules`; a record made of values is the record that the values were made of.
pub mod TableLaws
pub mod ValueLaws
pub mod KindLaws
