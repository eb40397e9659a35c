-- 01 as definitions, and what the requests of 02 add, to be read in this order.
pub mod Tests  -- tests
pub mod Members  -- members of a list
pub mod Characters  -- sets of characters
pub mod Digits  -- digits and numbers
pub mod Items  -- how a field is read, and written
pub mod Fields  -- fields in a row, agreement, faults 9 and 10
pub mod Kinds  -- the fourteen kinds and their codes
pub mod Forms  -- fields and codes said without tests
pub mod Layouts  -- the field tables
pub mod Records  -- one record: judged, meant, written
pub mod Beginnings  -- 02, T-02: the column that a bad field is refused at
pub mod Files  -- the lines of a file, the verdict, the meaning, house style
pub mod Padding  -- 02, T-01: trimmed lines padded
pub mod Order  -- what may follow what
pub mod References  -- cross references, table words, counts
pub mod Chapter4  -- the edition put together
pub mod Faults  -- the fault numbers and their order
pub mod Calls  -- what each call answers and leaves
pub mod Pulling  -- 02, T-07: a pull list
pub mod Sheet  -- the deposit sheet
pub mod Conforms  -- what an accepted file is
pub mod Demands  -- the demands
