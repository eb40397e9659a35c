-- What pull promises of its answer v, the output p that it leaves of o and the fault list t that it leaves of s, for a file f and a list rs of record numbers; what
-- is refused, and what stands for each entry.
use Rattle.std.specs.Prelude.{◌≡◌, ◌⊎◌, ◌↔◌, List, [], ◌∷◌, ℕ, ◌*◌, ◌<◌, length, drop, get_or, Result, Ok, Err, IsErr, Option}
use Rattle.rules.specs.Members.{◌∈◌}
use Rattle.rules.specs.Items.{Value}
use Rattle.rules.specs.Records.{Meaning, style}
use Rattle.rules.specs.Files.{line_at}
use Rattle.rules.specs.Files as files
use Rattle.rules.specs.Chapter4.{chapter4}
use Rattle.rules.specs.Calls.{values, unread, read_of}
use Rattle.rules.specs.Pulling.{blank_line, pull_answer, pull_output, pull_faults}
use Rattle.kinds.specs.declared.Fault.{Fault}
use Rattle.kinds.specs.declared.Record.{Record}
use Rattle.kinds.specs.Values.{fault_of}
use Rattle.reading.specs.Promise.{PromisedReading}

unfoldable pub pulled_of : files.Result → Result (Unit {0}) Fault
pulled_of v = fault_of v

pub record Promised (f rs o s : List ℕ) (v : Result (Unit {0}) Fault) (p t : List ℕ) : Type 0 where
  pub answered : v ≡ pulled_of (pull_answer rs o s)
  pub written : p ≡ pull_output f rs o s
  pub numbered : t ≡ pull_faults f rs o s

-- demand 1: a refusal has the number 1, with record and column 0; it comes exactly where the output or the fault list is short for the list, and
-- then nothing is touched
pub record Refusing (rs o s : List ℕ) (v : Result (Unit {0}) Fault) (p t : List ℕ) : Type 0 where
  pub numbers : (g : Fault) → v ≡ Err g → g.number ≡ 1
  pub place : (g : Fault) → v ≡ Err g → (g.«record» ≡ 0) × (g.column ≡ 0)
  pub short : IsErr v ↔ ((length o < 81 * length rs) ⊎ (length s < length rs))
  pub untouched : IsErr v → (p ≡ o) × (t ≡ s)

-- the number that read's answer names, 0 for values
unfoldable pub number_in : Result (Option ℕ × Record) Fault → ℕ
number_in (Ok v) = 0
number_in (Err g) = g.number

-- what stands for entry i, which asks for record r: in house style or blank, "each entry's fault is as in read"
pub record Stands (f p t : List ℕ) (i r : ℕ) : Type 0 where
  pub good : (q : Value) (m : Meaning) → read_of f r ≡ values q m → (line_at p i ≡ style chapter4 r m) × (get_or t i 0 ≡ 0)
  pub bad : (n a c : ℕ) → read_of f r ≡ unread n a c → (line_at p i ≡ blank_line) × (get_or t i 0 ≡ n)
  pub as_read : (x : Result (Option ℕ × Record) Fault) → PromisedReading f r x → get_or t i 0 ≡ number_in x
  pub shows : get_or t i 0 ∈ (0 ∷ 3 ∷ 4 ∷ 5 ∷ 6 ∷ 9 ∷ 10 ∷ 13 ∷ [])
  pub blank : (line_at p i ≡ blank_line) ↔ (get_or t i 0 ≡ 0 → ⊥)

-- demand 2, of a list that was taken: each entry at its place in the list's order, and behind the last one all as it was
pub record Pulling (f rs o s p t : List ℕ) : Type 0 where
  pub entry : (i : ℕ) → i < length rs → Stands f p t i (get_or rs i 0)
  pub lines_beyond : drop (81 * length rs) p ≡ drop (81 * length rs) o
  pub faults_beyond : drop (length rs) t ≡ drop (length rs) s
  pub as_long : (length p ≡ length o) × (length t ≡ length s)
