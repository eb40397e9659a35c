-- Chapter 4 of the Blue Book as 01 takes it: its codes, layouts, order, comparisons between records, and references.
use Rattle.std.specs.Prelude.{Bool, true, false, cond, List, [], ◌∷◌, ℕ}
use Rattle.rules.specs.Tests.{◌&◌, ◌≤?◌, ◌=?◌}
use Rattle.rules.specs.Fields.{Expect, anything, same, not_below, above}
use Rattle.rules.specs.Records.{Meaning, Edition}
use Rattle.rules.specs.Kinds.{kind_of, known, *AA*, *25*, *27*, *70*, *72*, *80*, *86*}
use Rattle.rules.specs.Layouts.{layout}
use Rattle.rules.specs.Order.{nothing, last_job, order, goto}
use Rattle.rules.specs.References.{is_a, number_at, ref_checks}

-- what is kept of the records before
pub record Past : Type 0 where
  pub place : ℕ  -- in the table of what may follow what
  pub job : List ℕ  -- the first record's code
  pub group : ℕ  -- the station of the group that is open, 0 where none is
  pub point : ℕ  -- the last *80*'s station
  pub instrument : ℕ  -- the last *70*'s number
  pub antenna : ℕ  -- the last *72*'s number

unfoldable pub at_start : Past
at_start = record { place = nothing; job = []; group = 0; point = 0; instrument = 0; antenna = 0 }

unfoldable pub same_bytes : List ℕ → List ℕ → Bool
same_bytes [] [] = true
same_bytes [] (y ∷ ys) = false
same_bytes (x ∷ xs) [] = false
same_bytes (x ∷ xs) (y ∷ ys) = x =? y & same_bytes xs ys

-- 7: the table lets the kind come; a job code that does not open the file is the first record's
unfoldable pub may_stand : List (List ℕ) → Past → List ℕ → Bool
may_stand rows s c = 1 ≤? goto rows s.place (kind_of c) & cond (kind_of c =? *AA*) (cond (s.place =? nothing) true (same_bytes c s.job)) true

-- 10 at column 11: a *27* has its group's station, an *86* the station of the *80* before it; 02, T-04: *70* never fall; *72* rise strictly
unfoldable pub expectation : Past → List ℕ → Expect
expectation s c =
    cond (kind_of c =? *27*) (same s.group) (
    cond (kind_of c =? *86*) (same s.point) (
    cond (kind_of c =? *70*) (not_below s.instrument) (
    cond (kind_of c =? *72*) (above s.antenna) anything)))

-- the number of a record of kind k, else what was kept
unfoldable pub latest : ℕ → Meaning → ℕ → ℕ
latest k m n = cond (is_a k m) (number_at 11 m) n

-- a group is a *25* with what follows up to the next *25* or *70*
unfoldable pub after : List (List ℕ) → Past → Meaning → Past
after rows s m = record {
  place = goto rows s.place (kind_of m.code);
  job = cond (s.place =? nothing) m.code s.job;
  group = latest *25* m (cond (is_a *70* m) 0 s.group);
  point = latest *80* m s.point;
  instrument = latest *70* m s.instrument;
  antenna = latest *72* m s.antenna;
}

-- the edition by its rows of what may follow what and the place that a file ends at
abbrev pub ordered : (rows : List (List ℕ)) (last : ℕ) → Edition Past
ordered rows last = record {
  known = known;
  kind = kind_of;
  layout = layout;
  start = at_start;
  allowed = may_stand rows;
  expects = expectation;
  next = after rows;
  ends = λ s. s.place =? last;
  refs = ref_checks;
}

abbrev pub chapter4 : Edition Past
chapter4 = ordered order last_job
