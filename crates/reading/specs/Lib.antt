-- What the promises cite beside `rules` and `kinds`: Values says a line's typed values by their columns, Widths how wide the field at a column is; Promise is what read and field promise.
pub mod Values
pub mod Widths
pub mod Promise
