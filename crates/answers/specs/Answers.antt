-- What the calls leave in lent memory, and the words of form, references, rewrite, pad, pull and field.
use Rattle.std.specs.Prelude.{◌≡◌, cond, List, [], ◌∷◌, ◌++◌, ℕ, ◌^◌, ◌<◌, length, drop, replicate, Result, Ok, Err}
use Rattle.rules.specs.Tests.{◌≤?◌}
use Rattle.rules.specs.Calls.{field_offset, field_of}
use Rattle.kinds.specs.declared.Fault.{Fault}

-- ---- lent memory
-- the n words of an answer from the first on; too short an answer is not touched
unfoldable pub answered : {A : Type 0} → ℕ → List A → List A → List A
answered n ws old = cond (n ≤? length old) (ws ++ drop n old) old

-- what a call leaves of anything else that is lent; too short an answer means that it is not touched
unfoldable pub touched : {A : Type 0} → ℕ → List A → List ℕ → List ℕ → List ℕ
touched n answer after before = cond (n ≤? length answer) after before

-- ---- faults and counts
unfoldable pub fault_words : Fault → List ℕ
fault_words f = f.number ∷ f.«record» ∷ f.column ∷ []

-- what the first three words say of an answer: the number 0 is acceptance
unfoldable pub fault_in : {T : Type 0} → Result T Fault → Fault
fault_in (Ok x) = record { number = 0; «record» = 0; column = 0 }
fault_in (Err g) = g

-- the counts behind them, all 0 after a refusal
unfoldable pub counts_in : Result (List ℕ) Fault → List ℕ
counts_in (Ok cs) = cs
counts_in (Err g) = replicate 14 0

unfoldable pub checked_words : Result (List ℕ) Fault → List ℕ
checked_words v = fault_words (fault_in v) ++ counts_in v

-- the number of lines behind the fault, 0 after a refusal
unfoldable pub lines_in : Result ℕ Fault → ℕ
lines_in (Ok n) = n
lines_in (Err g) = 0

unfoldable pub padded_words : Result ℕ Fault → List ℕ
padded_words v = fault_words (fault_in v) ++ (lines_in v ∷ [])

-- what fits words
pub record Small (f : Fault) : Type 0 where
  pub place : f.«record» < 2 ^ 32
  pub spot : f.column < 2 ^ 32

pub record Counted (v : Result (List ℕ) Fault) : Type 0 where
  pub small : Small (fault_in v)
  pub fourteen : length (counts_in v) ≡ 14

-- ---- field
unfoldable pub field_words : List ℕ → ℕ → ℕ → List ℕ
field_words f r c = field_offset f r c ∷ length (field_of f r c) ∷ []
