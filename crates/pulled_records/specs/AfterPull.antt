-- 02, T-07: a pulled record that reads back as the record's values, and all records of a file pulled in order, stated of pull and of read, field or rewrite.
use Rattle.std.specs.Prelude.{◌≡◌, List, ℕ, ◌*◌, length, take, get_or, Result, Ok, IsOk, Some, Option}
use Rattle.kinds.specs.declared.Record.{Record}
use Rattle.kinds.specs.declared.Fault.{Fault}
use Rattle.reading.specs.Promise.{PromisedReading, PromisedPart}
use Rattle.pulling.specs.Promise as pull
use Rattle.round_trips.specs.Texts.{text_columns}

-- a run of pull that took its list, over the file f and the list rs
pub record Pull (f rs : List ℕ) : Type 0 where
  pub output : List ℕ
  pub places : List ℕ
  pub answer : Result (Unit {0}) Fault
  pub output_left : List ℕ
  pub places_left : List ℕ
  pub promised : pull.Promised f rs output places answer output_left places_left
  pub good : IsOk answer

-- the first 81 bytes an entry of the output that it left, and as many places of the fault list as entries
unfoldable pub pulled_part : {f rs : List ℕ} → Pull f rs → List ℕ
pulled_part {f} {rs} x = take (81 * length rs) x.output_left

unfoldable pub faults_part : {f rs : List ℕ} → Pull f rs → List ℕ
faults_part {f} {rs} x = take (length rs) x.places_left

-- record n of a file g reads back as record r of f, whose values are w: 10 times r, the same values, the same texts at their columns
pub record ReadsBack (f : List ℕ) (r : ℕ) (w : Record) (g : List ℕ) (n : ℕ) : Type 1 where
  pub values : (x : Result (Option ℕ × Record) Fault) → PromisedReading g n x → x ≡ Ok (Some (10 * r), w)
  pub texts : (i : ℕ) {B C : Type 0} (block : B) (other : C) (start begin : ℕ) (x y : List ℕ) (b : B) (c : C) (at from : ℕ)
      → PromisedPart f r (get_or (text_columns w) i 0) block start x b at → PromisedPart g n (get_or (text_columns w) i 0) other begin y c from → y ≡ x
