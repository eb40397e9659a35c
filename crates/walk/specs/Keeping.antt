-- What the walk keeps of the records before, as the code has it.
use Rattle.std.specs.Prelude.{Bool, false, cond, not, List, [], ◌∷◌, ℕ, length}
use Rattle.rules.specs.Tests.{all, ◌&◌, ◌≤?◌, ◌=?◌}
use Rattle.rules.specs.Kinds.{*AA*, *25*, *27*, *70*, *72*, *80*, *86*}
use Rattle.rules.specs.Order.{nothing}
use Rattle.rules.specs.Chapter4.{Past}
use Rattle.kinds.specs.declared.Expect.{Expect}
use Rattle.kinds.specs.declared.Expect.TheVariants as X
use Rattle.walk.specs.declared.kept.Kept.{Kept}

-- 01, "a constant array of rows over fourteen kinds": what the code's array has room for
unfoldable pub tabular : List (List ℕ) → Bool
tabular rows = length rows ≤? 17 & all (λ row. length row ≤? 14) rows

-- the first record's code, where there was one
unfoldable pub job_of : Kept → List ℕ
job_of s = cond (s.place =? nothing) [] (42 ∷ s.first ∷ s.second ∷ 42 ∷ [])

unfoldable pub past_of : Kept → Past
past_of s = record { place = s.place; job = job_of s; group = s.group; point = s.point; instrument = s.instrument; antenna = s.antenna }

abbrev pub at_first : Kept
at_first = record { place = 0; first = 0; second = 0; group = 0; point = 0; instrument = 0; antenna = 0 }

-- what column 11 of a record of kind k must be
unfoldable pub expect_in : Kept → ℕ → Expect
expect_in s k =
    cond (k =? *27*) (X.Same s.group) (
    cond (k =? *86*) (X.Same s.point) (
    cond (k =? *70*) (X.NotBelow s.instrument) (
    cond (k =? *72*) (X.Above s.antenna) X.Anything)))

-- a job code that does not open the file and is not the first record's
unfoldable pub foreign : Kept → (k first second : ℕ) → Bool
foreign s k a b = cond (k =? *AA*) (cond (s.place =? nothing) false (not (a =? s.first & b =? s.second))) false

-- the number of a record of the kind asked for, else what was kept
unfoldable pub latest_in : (k asked lead old : ℕ) → ℕ
latest_in k asked lead old = cond (k =? asked) lead old

-- after a record of kind k that makes the place `next`, with the two characters of its code and its number
unfoldable pub moved_of : Kept → (next k first second lead : ℕ) → Kept
moved_of s next k a b lead = record {
  place = next;
  first = cond (s.place =? 0) a s.first;
  second = cond (s.place =? 0) b s.second;
  group = latest_in k *25* lead (latest_in k *70* 0 s.group);
  point = latest_in k *80* lead s.point;
  instrument = latest_in k *70* lead s.instrument;
  antenna = latest_in k *72* lead s.antenna;
}
