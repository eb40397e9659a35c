-- 01, "Field tables" and "Fault numbers": fields in a row, their agreement, and the first fault from the left.
use Rattle.std.specs.Prelude.{Bool, true, false, cond, not, List, [], ◌∷◌, ◌++◌, map, ℕ, ◌+◌, ◌-◌, take, drop, pos, negsuc}
use Rattle.rules.specs.Tests.{◌&◌, ◌≤?◌, ◌=?◌, all}
use Rattle.rules.specs.Characters.{is_blank}
use Rattle.rules.specs.Items.{Value, gap, missing, num, text, label, Item, width, value_of, fits, render, good, spot}

-- ---- what a field agrees with, besides being of its kind and range
pub data Bond : Type 0 where
  free : Bond
  not_before : ℕ → Bond  -- not before the value that starts at this column
  goes_with : ℕ → Bond  -- blank exactly when the value that starts at this column is missing
  differs : ℕ → Bond  -- is another number than the one that starts at this column
  expected : Bond  -- with what went before in the file

pub record Field : Type 0 where
  pub from : ℕ  -- the first column
  pub item : Item
  pub bond : Bond

-- what went before asks of column 11
pub data Expect : Type 0 where
  anything : Expect
  same : ℕ → Expect
  not_below : ℕ → Expect
  above : ℕ → Expect

-- ---- faults: the number and the column
pub data Verdict : Type 0 where
  ok : Verdict
  fault : (number column : ℕ) → Verdict

-- one test with the fault of its failing
unfoldable pub check : Bool → ℕ → ℕ → Verdict
check b n c = cond b ok (fault n c)

-- one after the other: the first fault counts
infixr 20 ◌⨾◌
unfoldable pub ◌⨾◌ : Verdict → Verdict → Verdict
ok ⨾ v = v
fault n c ⨾ v = fault n c

unfoldable pub is_ok : Verdict → Bool
is_ok ok = true
is_ok (fault n c) = false

-- tests in a row
pub record Check : Type 0 where
  pub test : Bool
  pub number : ℕ
  pub column : ℕ

unfoldable pub run : List Check → Verdict
run [] = ok
run (k ∷ ks) = check k.test k.number k.column ⨾ run ks

-- ---- a record's fields: where each starts, whether it is of its kind and range, and what it says
pub record Entry : Type 0 where
  pub column : ℕ
  pub formed : Bool
  pub spot : ℕ  -- how far into the field a bad form is named
  pub bond : Bond
  pub value : Value

-- a field's columns in a line
unfoldable pub columns_of : Field → List ℕ → List ℕ
columns_of f l = take (width f.item) (drop (f.from - 1) l)

-- a field as it stands in a line
unfoldable pub read : List ℕ → Field → Entry
read l f = record {
  column = f.from;
  formed = good f.item (columns_of f l);
  spot = spot f.item (columns_of f l);
  bond = f.bond;
  value = value_of f.item (columns_of f l);
}

-- a field as it is given
unfoldable pub given : Field → Value → Entry
given f v = record { column = f.from; formed = fits f.item v; spot = 0; bond = f.bond; value = v }

unfoldable pub entries_of : List Field → List Value → List Entry
entries_of [] vs = []
entries_of (f ∷ fs) [] = []
entries_of (f ∷ fs) (v ∷ vs) = given f v ∷ entries_of fs vs

unfoldable pub values : List Field → List ℕ → List Value
values fs l = map (λ f. value_of f.item (columns_of f l)) fs

-- the value that starts at a column
unfoldable pub value_at : ℕ → List Entry → Value
value_at c [] = gap
value_at c (x ∷ xs) = cond (x.column =? c) x.value (value_at c xs)

-- ---- agreement, by value
unfoldable pub num_of : Value → ℕ
num_of gap = 0
num_of missing = 0
num_of (num (pos n)) = n
num_of (num (negsuc n)) = 0
num_of (text t) = 0
num_of (label m d y s t) = 0

unfoldable pub is_missing : Value → Bool
is_missing gap = true
is_missing missing = true
is_missing (num k) = false
is_missing (text t) = all is_blank t
is_missing (label m d y s t) = false

unfoldable pub same_truth : Bool → Bool → Bool
same_truth true b = b
same_truth false b = not b

unfoldable pub meets : Expect → ℕ → Bool
meets anything n = true
meets (same k) n = n =? k
meets (not_below k) n = k ≤? n
meets (above k) n = k + 1 ≤? n

-- 01, *12* (the end not before the beginning), *86* (codes and heights), *27* *70* *72* *86* (column 11); 02, T-03, *92* ("where a record names two they differ")
unfoldable pub agrees_with : Expect → List Entry → Bond → Value → Bool
agrees_with e xs free v = true
agrees_with e xs (not_before c) v = num_of (value_at c xs) ≤? num_of v
agrees_with e xs (goes_with c) v = same_truth (is_missing (value_at c xs)) (is_missing v)
agrees_with e xs (differs c) v = not (num_of (value_at c xs) =? num_of v)
agrees_with e xs expected v = meets e (num_of v)

unfoldable pub agrees : Expect → List Entry → Entry → Bool
agrees e xs x = agrees_with e xs x.bond x.value

-- ---- 01, "then fields left to right, 9 before 10 in each"; xs are all the record's fields
unfoldable pub judge_each : Expect → List Entry → List Entry → Verdict
judge_each e xs [] = ok
judge_each e xs (y ∷ ys) =
    let rest = judge_each e xs ys in
    check y.formed 9 (y.column + y.spot) ⨾ check (agrees e xs y) 10 y.column ⨾ rest

unfoldable pub judge : Expect → List Entry → Verdict
judge e xs = judge_each e xs xs

-- ---- the same as tests: form, agreement
unfoldable pub is_formed : Entry → Bool
is_formed x = x.formed

unfoldable pub formed : List Entry → Bool
formed xs = all is_formed xs

unfoldable pub agreeing : Expect → List Entry → Bool
agreeing e xs = all (agrees e xs) xs

-- ---- writing: the values one after the other
unfoldable pub renders : List Field → List Value → List ℕ
renders [] vs = []
renders (f ∷ fs) [] = []
renders (f ∷ fs) (v ∷ vs) = render f.item v ++ renders fs vs

-- no gap and no overlap: each field starts where the one before it ends, from column c on, and the last ends at column 80
unfoldable pub covers : ℕ → List Field → Bool
covers c [] = c =? 81
covers c (f ∷ fs) = f.from =? c & 1 ≤? width f.item & covers (c + width f.item) fs
