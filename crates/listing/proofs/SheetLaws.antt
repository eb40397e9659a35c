-- The whole sheet: one law for each way through the call. Assumes nothing.
use mathlib.Core.Path.{◌≡◌, refl, sym, ◌∙◌, ap}
use mathlib.Core.Bool.{true, false}
use mathlib.Core.List.{List, ◌++◌, append-nil}
use Prim.Native.Nat.{ℕ, ◌/◌, ◌≤◌, ◌<◌}
use native.Mathlib.Nat.{zero-add}
use native.Mathlib.Omega.{arith}
use lib.ListN.{length, drop}
use Rattle.std.specs.Prelude.{Result, Ok, Err}
use Rattle.rules.specs.Tests.{◌&◌, ◌=?◌}
use Rattle.rules.specs.Sheet.{file_line, kind_names, kind_lines, listed, sheet}
use Rattle.rules.specs.Calls.{outcome, big_table, answer, file_answer, references_table}
use Rattle.rules.specs.Records.{Meaning}
use Rattle.rules.specs.Files as files
use Rattle.rules.specs.Files.{accept, refuse, meanings}
use Rattle.rules.specs.Chapter4.{chapter4}
use Rattle.rules.proofs.Truth.{of≤, of>, of≢}
use Rattle.kinds.specs.declared.Fault.{Fault}
use Rattle.kinds.specs.Values.{checked_of}
use Rattle.walk.specs.Walking.{answer_of}
use Rattle.walk.proofs.JudgeLaws.{answer_told, outcome_from_1}
use Rattle.listing.specs.Laying.{laid, Laid}
use Rattle.listing.specs.Listing.{listed_in, big_enough, list_answer, list_table, list_output}
use Rattle.listing.proofs.LayLaws.{laid_on}

-- ---- with and without the lines of the kinds
module _ (blocks : ℕ) {v : Result (List ℕ) Fault} (o : List ℕ) (e : ℕ) (mid : List ℕ) where
  pub checked_bad : (g : Fault) → v ≡ Err g → Laid 0 49 (file_line blocks g.number g.«record» g.column) o e mid → Laid 0 315 (listed_in blocks v) o e mid
  unfolding listed_in
  checked_bad g q p = rw q record { ends = p.ends; short = omega (arith, p.short); output = p.output }

  pub checked_good : (cs : List ℕ) → v ≡ Ok cs → {g : Fault} → g ≡ record { number = 0; «record» = 0; column = 0 } → Laid 0 49 (file_line blocks g.number g.«record» g.column) o e mid
      → 512 ≤ length o → {r : ℕ} {left : List ℕ} → Laid e 266 (kind_lines kind_names cs) mid r left → Laid 0 315 (listed_in blocks v) o r left
  unfolding listed_in
  checked_good cs q z p h k = rw q (laid_on (rw z at p) k (omega arith))

-- what a verdict is listed as
listed_told : (blocks : ℕ) (x : files.Result) (ms : List Meaning) → ((n r c : ℕ) → x ≡ refuse n r c → 1 ≤ n) → listed_in blocks (answer_of x ms) ≡ listed blocks (answer x ms)
unfolding listed_in listed answer_of answer
listed_told blocks accept ms h = unfold ◌=?◌ in refl
listed_told blocks (refuse n r c) ms h = let k = h n r c refl in rw (of≢ {m = n} {n = 0} (λ z. omega arith)) (sym (append-nil _))

-- ---- too short an output
module _ (f t o : List ℕ) (h : length o < 512) where
  small : big_enough o ≡ false
  unfolding big_enough
  small = of> {m = 512} {n = length o} h

  pub short_answer : 0 ≡ list_answer f t o
  unfolding list_answer
  short_answer = rw small

  pub short_table : t ≡ list_table f t o
  unfolding list_table ◌&◌
  short_table = rw small

  pub short_output : o ≡ list_output f t o
  unfolding list_output
  short_output = rw small

-- ---- a text that is the sheet
module _ (f t o : List ℕ) (h : 512 ≤ length o) where
  big : big_enough o ≡ true
  unfolding big_enough
  big = of≤ h

  pub big_answer : list_answer f t o ≡ length (sheet f t)
  unfolding list_answer
  big_answer = rw big

  pub big_output_lem : list_output f t o ≡ sheet f t ++ drop (length (sheet f t)) o
  unfolding list_output
  big_output_lem = rw big

  module _ {most r : ℕ} {text left : List ℕ} (e : text ≡ sheet f t) (p : Laid 0 most text o r left) where
    text_answer : r ≡ list_answer f t o
    text_answer = p.ends ∙ rw (big_answer, e, zero-add)

    text_output : left ≡ list_output f t o
    unfolding laid
    text_output = p.output ∙ rw (big_output_lem, e, zero-add)

  -- too large an input
  module _ (k : 64_800 < length f) where
    large_text : file_line 0 1 0 0 ≡ sheet f t
    unfolding sheet
    large_text = rw (of> {m = length f} {n = 64_800} k)

    module _ (g : Fault) (z : g ≡ record { number = 1; «record» = 0; column = 0 }) {r : ℕ} {left : List ℕ} (p : Laid 0 49 (file_line 0 g.number g.«record» g.column) o r left) where
      pub large_answer : r ≡ list_answer f t o
      large_answer = text_answer large_text (rw z at p)

      pub large_output : left ≡ list_output f t o
      large_output = text_output large_text (rw z at p)

    pub large_table : t ≡ list_table f t o
    unfolding list_table ◌&◌
    large_table = rw (big, of> {m = length f} {n = 64_800} k)

  -- any other
  module _ (k : length f ≤ 64_800) (v : Result (List ℕ) Fault) (a : v ≡ checked_of (file_answer f t)) where
    file_is : file_answer f t ≡ answer (outcome (big_table t) f) (meanings chapter4 f)
    unfolding file_answer
    file_is = refl

    told : v ≡ answer_of (outcome (big_table t) f) (meanings chapter4 f)
    told = a ∙ ap checked_of file_is ∙ answer_told (outcome (big_table t) f) (meanings chapter4 f) (outcome_from_1 (big_table t) f)

    found_text : listed_in (length f / 81) v ≡ sheet f t
    unfolding sheet
    found_text =
        rw (of≤ k)
        (ap (listed_in (length f / 81)) told ∙ listed_told (length f / 81) (outcome (big_table t) f) (meanings chapter4 f) (outcome_from_1 (big_table t) f) ∙ ap (listed (length f / 81)) (sym file_is))

    pub found_answer : {r : ℕ} {left : List ℕ} → Laid 0 315 (listed_in (length f / 81) v) o r left → r ≡ list_answer f t o
    found_answer p = text_answer found_text p

    pub found_output : {r : ℕ} {left : List ℕ} → Laid 0 315 (listed_in (length f / 81) v) o r left → left ≡ list_output f t o
    found_output p = text_output found_text p

  pub found_table : length f ≤ 64_800 → {u : List ℕ} → u ≡ references_table f t → u ≡ list_table f t o
  unfolding list_table ◌&◌
  found_table k e = e ∙ rw (big, of≤ k)
