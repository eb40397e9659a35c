-- Wrong pulls that the promise does not allow: 02, T-07.
use mathlib.Core.Path.{◌≡◌, refl, sym, ◌∙◌, ap}
use mathlib.Core.Bool.{false}
use mathlib.Core.List.{List, [], ◌∷◌}
use Prim.Native.Nat.{ℕ, ◌+◌, ◌*◌, ◌≤◌, ◌<◌}
use native.Mathlib.Omega.{arith}
use lib.ListN.{length, take, get_or, replicate}
use lib.IntN.{pos}
use Rattle.std.specs.Prelude.{Result, IsOk}
use Rattle.rules.specs.Items.{num, value_of}
use Rattle.rules.specs.Records.{sequence}
use Rattle.rules.specs.Files.{accepted, line_at}
use Rattle.rules.specs.Chapter4.{chapter4}
use Rattle.rules.specs.Calls.{is_read, read_of}
use Rattle.rules.specs.Pulling.{blank_line, pulled_line, pulled_fault}
use Rattle.rules.proofs.PullingLaws.{blank_exactly}
use Rattle.rules.proofs.PullingSamples.{sheaf, drawn, sheaf_refused}
use Rattle.kinds.specs.declared.Fault.{Fault}
use Rattle.pulling.specs.Promise.{Promised}
use Rattle.pulling.proofs.PullDemands.{takes, line_is, fault_is}

-- records 1 and 2 of the sample are good, and there is no record 0
sample : (pulled_fault sheaf 1 ≡ 0) × (pulled_fault sheaf 2 ≡ 0) × (pulled_fault sheaf 0 ≡ 13) × (pulled_line sheaf 0 ≡ blank_line)
    × (is_read (read_of sheaf 0) ≡ false) × (value_of sequence (take 6 (pulled_line sheaf 2)) ≡ num (pos 20))
unfolding drawn is_read
sample = (refl, refl, refl, refl, refl, refl)

-- an output and a fault list with room for two entries
unfoldable bytes : List ℕ
bytes = replicate 162 7

unfoldable places : List ℕ
places = replicate 2 7

-- a pull, whatever it does, that keeps the promise
module _ (answer : (f rs o s : List ℕ) → Result (Unit {0}) Fault) (output faults : (f rs o s : List ℕ) → List ℕ)
    (keeps : (f rs o s : List ℕ) → Promised f rs o s (answer f rs o s) (output f rs o s) (faults f rs o s)) where
  zero : (rs : List ℕ) → length rs ≤ 2 → IsOk (answer sheaf rs bytes places)
  unfolding bytes places
  zero rs h = takes sheaf rs bytes places _ _ _ (keeps sheaf rs bytes places) (omega arith) (omega arith)

  line : (rs : List ℕ) → length rs ≤ 2 → (i : ℕ) → i < length rs → line_at (output sheaf rs bytes places) i ≡ pulled_line sheaf (get_or rs i 0)
  line rs h = line_is sheaf rs bytes places _ _ _ (keeps sheaf rs bytes places) (zero rs h)

  fault : (rs : List ℕ) → length rs ≤ 2 → (i : ℕ) → i < length rs → get_or (faults sheaf rs bytes places) i 0 ≡ pulled_fault sheaf (get_or rs i 0)
  fault rs h = fault_is sheaf rs bytes places _ _ _ (keeps sheaf rs bytes places) (zero rs h)

  -- an entry skipped, and the later ones moved up
  pub not_skipping : ((f : List ℕ) (r : ℕ) (rs o s : List ℕ) → is_read (read_of f r) ≡ false → line_at (output f (r ∷ rs) o s) 0 ≡ line_at (output f rs o s) 0) → ⊥
  not_skipping wrong =
      (blank_exactly sheaf 1).0
      (sym (line (1 ∷ []) (omega arith) 0 (omega arith)) ∙ sym (wrong sheaf 0 (1 ∷ []) bytes places sample.4)
      ∙ line (0 ∷ 1 ∷ []) (omega arith) 0 (omega arith) ∙ sample.3)
      sample.0

  -- the number of the entry's place in the line
  pub not-numbered_by_place : ((f rs o s : List ℕ) (i : ℕ) → i < length rs → get_or (faults f rs o s) i 0 ≡ 0
      → value_of sequence (take 6 (line_at (output f rs o s) i)) ≡ num (pos (10 * (i + 1)))) → ⊥
  not-numbered_by_place wrong =
      let e : num (pos 20) ≡ num (pos 10)
      = sym sample.5 ∙ ap (λ (l : List ℕ). value_of sequence (take 6 l)) (sym (line (2 ∷ []) (omega arith) 0 (omega arith)))
      ∙ wrong sheaf (2 ∷ []) bytes places 0 (omega arith) (fault (2 ∷ []) (omega arith) 0 (omega arith) ∙ sample.1) in
      let z : ◌≡◌ {A = ℕ} 20 10 = cc in
      omega arith

  -- a blank line without its fault number
  pub not_losing_a_fault : ((f rs o s : List ℕ) (i : ℕ) → i < length rs → line_at (output f rs o s) i ≡ blank_line → get_or (faults f rs o s) i 0 ≡ 0) → ⊥
  not_losing_a_fault wrong =
      omega (
        arith,
        wrong sheaf (0 ∷ []) bytes places 0 (omega arith) (line (0 ∷ []) (omega arith) 0 (omega arith) ∙ sample.3),
        fault (0 ∷ []) (omega arith) 0 (omega arith) ∙ sample.2,
      )

  -- no good entry of a refused file
  pub not_judging_the_file : ((f rs o s : List ℕ) (i : ℕ) → accepted chapter4 f ≡ false → i < length rs → get_or (faults f rs o s) i 0 ≡ 0 → ⊥) → ⊥
  not_judging_the_file wrong = wrong sheaf (1 ∷ []) bytes places 0 sheaf_refused (omega arith) (fault (1 ∷ []) (omega arith) 0 (omega arith) ∙ sample.0)

  -- no answer because of one entry
  pub not_refusing_for_an_entry : ((f rs o s : List ℕ) (i : ℕ) → i < length rs → is_read (read_of f (get_or rs i 0)) ≡ false → IsOk (answer f rs o s) → ⊥) → ⊥
  not_refusing_for_an_entry wrong = wrong sheaf (0 ∷ []) bytes places 0 (omega arith) sample.4 (zero (0 ∷ []) (omega arith))
