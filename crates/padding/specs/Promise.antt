-- What pad promises of its answer v and of the output p that it leaves of o, and demands 1 and 2 said of them.
use Rattle.std.specs.Prelude.{◌≡◌, ◌↔◌, cond, List, [], ◌∷◌, ◌++◌, ℕ, ◌-◌, ◌*◌, ◌≤◌, ◌<◌, length, take, drop, replicate, get_or, Result, Ok, Err, IsOk, IsErr}
use Rattle.rules.specs.Tests.{◌=?◌}
use Rattle.rules.specs.Members.{◌∈◌}
use Rattle.rules.specs.Files.{accept, refuse, line_at}
use Rattle.rules.specs.Files as files
use Rattle.rules.specs.Padding.{texts, padded, PadFaults, PadFirst, PadAnswer, pad_answer, pad_output}
use Rattle.kinds.specs.declared.Fault.{Fault}

-- the number of lines, or a refusal; the number 0 is acceptance
unfoldable pub padded_of : PadAnswer → Result ℕ Fault
padded_of a = cond (a.number =? 0) (Ok a.lines) (Err record { number = a.number; «record» = a.place; column = a.column })

pub record Promised (f o : List ℕ) (v : Result ℕ Fault) (p : List ℕ) : Type 0 where
  pub answered : v ≡ padded_of (pad_answer f o)
  pub written : p ≡ pad_output f o

-- what an answer names
unfoldable pub named : Result ℕ Fault → files.Result
named (Ok n) = accept
named (Err g) = refuse g.number g.«record» g.column

-- demand 1: a number from the fixed table, at its place; a refusal has no lines and leaves the output as it was
pub record Refusing (o : List ℕ) (v : Result ℕ Fault) (p : List ℕ) : Type 0 where
  pub numbers : (g : Fault) → v ≡ Err g → g.number ∈ (1 ∷ 2 ∷ 5 ∷ [])
  pub unwritten : IsErr v → p ≡ o
  pub short_output : (g : Fault) → v ≡ Err g → g.number ≡ 1 → (g.«record» ≡ 0) × (g.column ≡ 0)
  pub many_lines : (g : Fault) → v ≡ Err g → g.number ≡ 2 → (g.«record» ≡ 100_000) × (g.column ≡ 1)
  pub long_line : (g : Fault) → v ≡ Err g → g.number ≡ 5 → g.column ≡ 81
  pub place : (g : Fault) → v ≡ Err g → g.«record» ≤ 100_000
  pub spot : (g : Fault) → v ≡ Err g → g.column ≤ 81

-- demand 2: the first fault in the paper's order and no other, accepted exactly when there is none; then the padded lines, each its source
-- line, blanks up to column 80 and a line feed, and behind them the output as it was
pub record Judging (f o : List ℕ) (v : Result ℕ Fault) (p : List ℕ) : Type 0 where
  pub first : PadFirst f (length o) (named v)
  pub unique : (w : files.Result) → PadFirst f (length o) w → w ≡ named v
  pub faultless : IsOk v ↔ ((n r c : ℕ) → PadFaults f (length o) n r c → ⊥)
  pub counted : (n : ℕ) → v ≡ Ok n → n ≡ length (texts f)
  pub few : (n : ℕ) → v ≡ Ok n → n ≤ 99_999
  pub written : (n : ℕ) → v ≡ Ok n → take (81 * n) p ≡ padded f
  pub beyond : (n : ℕ) → v ≡ Ok n → drop (81 * n) p ≡ drop (81 * n) o
  pub each : (n : ℕ) → v ≡ Ok n → (i : ℕ) → i < n
      → line_at p i ≡ get_or (texts f) i [] ++ (replicate (80 - length (get_or (texts f) i [])) 32 ++ (10 ∷ []))
