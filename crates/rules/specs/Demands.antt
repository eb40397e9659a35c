-- The three demands as statements about Chapter 4 files.
use Rattle.std.specs.Prelude.{◌≡◌, ◌↔◌, Bool, true, List, [], map, ℕ, ◌+◌, ◌*◌, ◌≤◌, ◌<◌, length, take, get_or, replicate, pos}
use Rattle.rules.specs.Members.{◌∈◌}
use Rattle.rules.specs.Items.{num, value_of}
use Rattle.rules.specs.Records.{Meaning, sequence, code_at}
use Rattle.rules.specs.Files.{Result, lines, meanings, accepted, rewritten}
use Rattle.rules.specs.Kinds.{kind_of, *70*}
use Rattle.rules.specs.References.{Family, families, definer, words, filled, tally, counts, sum, Defines, Earliest}
use Rattle.rules.specs.Faults.{FirstOf, HasFault, CallFaults}
use Rattle.rules.specs.Calls.{outcome}
use Rattle.rules.specs.Chapter4.{chapter4}

-- demand 2: the answer is the first fault in the paper's order, no other answer is, and a file is accepted exactly when it has none
pub record Demand2 (enough : Bool) (f : List ℕ) : Type 0 where
  pub first : FirstOf (CallFaults chapter4 enough f) (outcome enough f)
  pub unique : (v : Result) → FirstOf (CallFaults chapter4 enough f) v → v ≡ outcome enough f
  pub exactly : (accepted chapter4 f ≡ true) ↔ ((n r c : ℕ) → HasFault chapter4 f n r c → ⊥)

-- demand 3, of two accepted files a and b
pub record Demand3 (a b : List ℕ) : Type 0 where
  pub same : (rewritten chapter4 a ≡ rewritten chapter4 b) ↔ (meanings chapter4 a ≡ meanings chapter4 b)
  pub accepted_again : accepted chapter4 (rewritten chapter4 a) ≡ true
  pub means : meanings chapter4 (rewritten chapter4 a) ≡ meanings chapter4 a
  pub as_many : length (lines (rewritten chapter4 a)) ≡ length (lines a)
  pub as_long : length (rewritten chapter4 a) ≡ length a
  pub kinds : map (λ l. kind_of (code_at l)) (lines (rewritten chapter4 a)) ≡ map (λ l. kind_of (code_at l)) (lines a)
  pub settled : rewritten chapter4 (rewritten chapter4 a) ≡ rewritten chapter4 a
  pub numbered : (i : ℕ) → i < length (lines a) → value_of sequence (take 6 (get_or (lines (rewritten chapter4 a)) i [])) ≡ num (pos (10 * (1 + i)))

-- demand 2, the rest of the answer: the counts are those of the file's records, and the words are the records that define
pub record Tells (f : List ℕ) (ms : List Meaning) : Type 0 where
  pub counted : (k : ℕ) → k < 14 → get_or (counts ms) k 0 ≡ tally k ms
  pub none_passed_over : sum (counts ms) ≡ length (lines f)
  pub word : (F : Family) → F ∈ families → (n : ℕ) → n ≤ F.most → get_or (words ms) (F.base + n) 0 ≡ definer F.kind n ms
  pub as_filled : filled 1 ms (replicate 12_000 0) ≡ words ms
  -- 02, T-04, "The table word holds the first such record": the least record number of those that define the number
  pub first : (F : Family) → F ∈ families → (n : ℕ) → n ≤ F.most → (i : ℕ) → (get_or (words ms) (F.base + n) 0 ≡ i + 1) ↔ Earliest ms F.kind n i
  -- each record that defines a number has it in the table
  pub tabled : (F : Family) → F ∈ families → (n i : ℕ) → Defines ms F.kind n i → (n ≤ F.most) × (1 ≤ get_or (words ms) (F.base + n) 0) × (get_or (words ms) (F.base + n) 0 ≤ i + 1)
  -- 02, T-04, "standing together": each record between two of one instrument number has it too
  pub together : (n i x j : ℕ) → Defines ms *70* n i → Defines ms *70* n j → i ≤ x → x ≤ j → Defines ms *70* n x
