-- What form and references promise; demands 1 and 2 said of each of them, and of both together: of the answer v to a file f, the answer w,
-- and the table u that is left of t.
use Rattle.std.specs.Prelude.{◌≡◌, ◌⊎◌, ◌↔◌, cond, List, [], ◌∷◌, ℕ, ◌≤◌, length, take, drop, replicate, Result, Ok, Err, IsOk, IsErrAnd}
use Rattle.rules.specs.Tests.{◌=?◌}
use Rattle.rules.specs.Members.{◌∈◌}
use Rattle.rules.specs.Files.{accept, refuse, lines, meanings}
use Rattle.rules.specs.Files as files
use Rattle.rules.specs.References.{words, counts, sum}
use Rattle.rules.specs.Faults.{FirstOf, FormFault, HasFault, CallFaults, ReferencesFaults}
use Rattle.rules.specs.Calls.{big_table, form_answer, references_answer, references_table, file_answer}
use Rattle.rules.specs.Chapter4.{chapter4}
use Rattle.rules.specs.Conforms.{Formed, Conforms}
use Rattle.rules.specs.Demands.{Tells}
use Rattle.kinds.specs.declared.Fault.{Fault}
use Rattle.kinds.specs.Values.{checked_of, fault_of}

pub record FormPromised (f : List ℕ) (v : Result (List ℕ) Fault) : Type 0 where
  pub answered : v ≡ checked_of (form_answer f)

pub record ReferencesPromised (f t : List ℕ) (w : Result (Unit {0}) Fault) (u : List ℕ) : Type 0 where
  pub answered : w ≡ fault_of (references_answer f t)
  pub left : u ≡ references_table f t  -- every word

-- what an answer names
unfoldable pub result_of : {T : Type 0} → Result T Fault → files.Result
result_of (Ok x) = accept
result_of (Err g) = refuse g.number g.«record» g.column

abbrev pub named : Result (List ℕ) Fault → files.Result
named v = result_of v

-- ---- form
-- demand 1: 02, T-05, "the first answers 2 to 10 as in 01"; there are no counts in a refusal
pub record FormRefusing (v : Result (List ℕ) Fault) : Type 0 where
  pub numbers : (g : Fault) → v ≡ Err g → (2 ≤ g.number) × (g.number ≤ 10)

-- demand 2: the first fault of the form in the paper's order and no other; accepted exactly when the file has the records, order and fields
-- that are asked for, whatever they refer to; the counts of the records, none passed over
pub record FormJudging (f : List ℕ) (v : Result (List ℕ) Fault) : Type 0 where
  pub first : FirstOf (FormFault chapter4 f) (named v)
  pub unique : (x : files.Result) → FirstOf (FormFault chapter4 f) x → x ≡ named v
  pub forming : IsOk v ↔ Formed f
  pub counted : (cs : List ℕ) → v ≡ Ok cs → cs ≡ counts (meanings chapter4 f)
  pub none_passed_over : (cs : List ℕ) → v ≡ Ok cs → sum cs ≡ length (lines f)

-- ---- references
-- demand 1: "the second answers 1, then new number 14 (form not good, record and column 0, first 12,000 words zero), then 11 and 12"; every
-- word of the table
pub record ReferencesRefusing (t : List ℕ) (w : Result (Unit {0}) Fault) (u : List ℕ) : Type 0 where
  pub numbers : (g : Fault) → w ≡ Err g → g.number ∈ (1 ∷ 11 ∷ 12 ∷ 14 ∷ [])
  pub nowhere : (g : Fault) → w ≡ Err g → (g.number ≡ 1) ⊎ (g.number ≡ 14) → (g.«record» ≡ 0) × (g.column ≡ 0)
  pub untouched : (g : Fault) → w ≡ Err g → g.number ≡ 1 → u ≡ t
  pub zeros : (g : Fault) → w ≡ Err g → (g.number ≡ 1 → ⊥) → take 12_000 u ≡ replicate 12_000 0
  pub later : drop 12_000 u ≡ drop 12_000 t

-- demand 2: the first of its faults and no other; with a full-size table 14 exactly when the form is not good, and accepted exactly when the
-- file has the records, order, fields and cross references that are asked for; the words of the records
pub record ReferencesJudging (f t : List ℕ) (w : Result (Unit {0}) Fault) (u : List ℕ) : Type 0 where
  pub first : FirstOf (ReferencesFaults chapter4 (big_table t) f) (result_of w)
  pub unique : (x : files.Result) → FirstOf (ReferencesFaults chapter4 (big_table t) f) x → x ≡ result_of w
  pub malformed : 12_000 ≤ length t → IsErrAnd w (λ g. g.number ≡ 14) ↔ (Formed f → ⊥)
  pub conforming : 12_000 ≤ length t → IsOk w ↔ Conforms f
  pub filled : IsOk w → take 12_000 u ≡ words (meanings chapter4 f)
  pub told : IsOk w → Tells f (meanings chapter4 f)

-- ---- both calls together, which is what 01 says of a file
-- the form's answer where references have no fault of their own: 14 stands for the form's
unfoldable pub together : Result (List ℕ) Fault → Result (Unit {0}) Fault → Result (List ℕ) Fault
together v (Ok x) = v
together v (Err g) = cond (g.number =? 14) v (Err g)

pub record Together (f t : List ℕ) (v : Result (List ℕ) Fault) (u : List ℕ) : Type 0 where
  pub answered : v ≡ checked_of (file_answer f t)
  pub left : u ≡ references_table f t

-- demand 1: a number from the fixed table, never 14; there are no counts in a refusal; every word of the table
pub record Refusing (t : List ℕ) (v : Result (List ℕ) Fault) (u : List ℕ) : Type 0 where
  pub numbers : (g : Fault) → v ≡ Err g → (1 ≤ g.number) × (g.number ≤ 12)
  pub untouched : (g : Fault) → v ≡ Err g → g.number ≡ 1 → u ≡ t
  pub zeros : (g : Fault) → v ≡ Err g → (g.number ≡ 1 → ⊥) → take 12_000 u ≡ replicate 12_000 0
  pub later : drop 12_000 u ≡ drop 12_000 t

-- demand 2: the first fault in the paper's order and no other; with a full-size table accepted exactly when there is none, and exactly when
-- the file has the records, order, fields and cross references that are asked for; the counts and words of the records
pub record Judging (f t : List ℕ) (v : Result (List ℕ) Fault) (u : List ℕ) : Type 0 where
  pub first : FirstOf (CallFaults chapter4 (big_table t) f) (named v)
  pub unique : (x : files.Result) → FirstOf (CallFaults chapter4 (big_table t) f) x → x ≡ named v
  pub faultless : 12_000 ≤ length t → IsOk v ↔ ((n r c : ℕ) → HasFault chapter4 f n r c → ⊥)
  pub conforming : 12_000 ≤ length t → IsOk v ↔ Conforms f
  pub counted : (cs : List ℕ) → v ≡ Ok cs → cs ≡ counts (meanings chapter4 f)
  pub filled : IsOk v → take 12_000 u ≡ words (meanings chapter4 f)
  pub told : IsOk v → Tells f (meanings chapter4 f)
