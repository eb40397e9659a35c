-- The numbers of a sheet are small, so that ten digits write each of them whole: the fault's by the bounds of faults, the counts by the file's length.
use mathlib.Core.Path.{◌≡◌, refl}
use mathlib.Core.Bool.{Bool, true}
use mathlib.Core.List.{List, [], ◌∷◌}
use Prim.Native.Nat.{ℕ, zero, suc, ◌+◌, ◌/◌, ◌≤◌}
use native.Mathlib.Omega.{arith}
use lib.ListN.{length, get_or, length-map}
use Rattle.rules.specs.Tests.{◌≤?◌, all}
use Rattle.rules.specs.Digits.{val, numeral}
use Rattle.rules.specs.Records.{Meaning, meaning}
use Rattle.rules.specs.Files.{Result, accept, refuse, begun, lines, meanings}
use Rattle.rules.specs.References.{is_a, tabulate, tally, counts}
use Rattle.rules.specs.Chapter4.{chapter4}
use Rattle.rules.specs.Calls.{outcome, big_table, answer, file_answer}
use Rattle.rules.proofs.Truth.{and, to≤, of≤, cases, all_get_d, all_replicate}
use Rattle.rules.proofs.DigitLaws.{val-numeral}
use Rattle.rules.proofs.FileLaws.{records}
use Rattle.rules.proofs.Bounds.{Bounded, answer_bounded}

-- ---- counts
tally_most : (k : ℕ) (ms : List Meaning) → tally k ms ≤ length ms
unfolding tally
tally_most k [] = omega arith
tally_most k (m ∷ ms) = cases (is_a k m) (λ e. rw e (omega (arith, tally_most k ms))) (λ e. rw e (omega (arith, tally_most k ms)))

few : ℕ → Bool
few n = n ≤? 800

few_all : (ms : List Meaning) (n i : ℕ) → length ms ≤ 800 → all few (tabulate (λ k. tally k ms) n i) ≡ true
unfolding tabulate all few
few_all ms zero i h = refl
few_all ms (suc n) i h = and (of≤ (omega (arith, tally_most i ms))) (few_all ms n (i + 1) h)

few_counted : (v : Result) (ms : List Meaning) → length ms ≤ 800 → all few (answer v ms).counts ≡ true
unfolding answer counts
few_counted accept ms h = few_all ms 14 0 h
few_counted (refuse n r c) ms h = all_replicate few 0 (unfold few in of≤ (omega arith)) 14

module _ (f t : List ℕ) (h : length f ≤ 64_800) where
  meanings_most : length (meanings chapter4 f) ≤ 800
  unfolding meanings begun
  meanings_most = rw (length-map (lines f) (meaning chapter4)) (omega (arith, records f))

  bounded : Bounded (file_answer f t)
  unfolding file_answer
  bounded = answer_bounded (big_table t) f (meanings chapter4 f)

  -- every number of the sheet reads back from what is printed
  pub blocks_whole : val 0 (numeral (length f / 81)) ≡ length f / 81
  blocks_whole = val-numeral (length f / 81) (omega arith)

  pub number_whole : val 0 (numeral (file_answer f t).number) ≡ (file_answer f t).number
  number_whole = val-numeral _ (omega (arith, bounded.number))

  pub place_whole : val 0 (numeral (file_answer f t).place) ≡ (file_answer f t).place
  place_whole = val-numeral _ (omega (arith, bounded.place))

  pub column_whole : val 0 (numeral (file_answer f t).column) ≡ (file_answer f t).column
  column_whole = val-numeral _ (omega (arith, bounded.column))

  pub count_whole : (k : ℕ) → val 0 (numeral (get_or (file_answer f t).counts k 0)) ≡ get_or (file_answer f t).counts k 0
  unfolding file_answer
  count_whole k = val-numeral _ (omega (arith, few_at k))
    where
      few_at : (i : ℕ) → get_or (answer (outcome (big_table t) f) (meanings chapter4 f)).counts i 0 ≤ 800
      few_at i = to≤ (unfold few in all_get_d few _ 0 i (few_counted (outcome (big_table t) f) (meanings chapter4 f) meanings_most) (of≤ (omega arith)))
