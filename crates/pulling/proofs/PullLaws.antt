-- The call: room by lengths alone, and what then stands in the output and in the fault list.
use mathlib.Core.Path.{◌≡◌, refl, sym, ◌∙◌}
use mathlib.Core.Bool.{Bool, true, false, ◌||◌, false≢true}
use mathlib.Core.List.{List}
use Prim.Native.Nat.{ℕ, ◌*◌, ◌/◌, ◌≤◌, ◌<◌}
use native.Mathlib.Omega.{arith}
use lib.Dec.{ltb}
use lib.ListN.{length}
use borrow.Author.Tests.{ltb-true, ltb-false}
use Rattle.std.specs.Prelude.{Ok, Err}
use Rattle.rules.specs.Tests.{◌&◌, ◌≤?◌}
use Rattle.rules.specs.Pulling.{pull_room, pull_answer, pull_output, pull_faults}
use Rattle.rules.proofs.Truth.{and, of≤, of>, cases, and_false}
use Rattle.kinds.specs.Values.{fault_of}
use Rattle.kinds.specs.declared.Fault.{Fault}
use Rattle.pulling.specs.Promise.{pulled_of}
use Rattle.pulling.specs.Entries.{Entries}

neither : (a b : Bool) → (a || b) ≡ false → (a ≡ false) × (b ≡ false)
neither true b h = absurd (false≢true (sym h))
neither false b h = (refl, h)

-- ---- room
module _ (rs o s : List ℕ) where
  pub short_output : length o < 81 * length rs → pull_room rs o s ≡ false
  unfolding pull_room ◌&◌
  short_output h = rw (of> {m = 81 * length rs} {n = length o} h)

  pub short_list : length s < length rs → pull_room rs o s ≡ false
  unfolding pull_room
  short_list h = rw (of> {m = length rs} {n = length s} h) (and_false (81 * length rs ≤? length o))

  pub roomy : 81 * length rs ≤ length o → length rs ≤ length s → pull_room rs o s ≡ true
  unfolding pull_room
  roomy h k = and (of≤ h) (of≤ k)

-- ---- the test by lengths: the output divided by 81, and the fault list
abbrev is_short : (o s : List ℕ) → ℕ → Bool
is_short o s n = ltb (length o / 81) n || ltb (length s) n

-- ---- without room nothing is touched
module _ (rs o s : List ℕ) (n : ℕ) (z : n ≡ length rs) (h : is_short o s n ≡ true) where
  no_room : pull_room rs o s ≡ false
  no_room =
      cases (ltb (length o / 81) n)
      (λ a. short_output rs o s (omega (arith, z, ltb-true (length o / 81) n a)))
      (λ a. let b : ltb (length s) n ≡ true = rw a at h in short_list rs o s (omega (arith, z, ltb-true (length s) n b)))

  pub refused_answer : {g : Fault} → g ≡ record { number = 1; «record» = 0; column = 0 } → Err g ≡ pulled_of (pull_answer rs o s)
  unfolding pull_answer pulled_of fault_of
  refused_answer e = rw (e, no_room)

  pub refused_output : (f : List ℕ) → o ≡ pull_output f rs o s
  unfolding pull_output
  refused_output f = rw no_room

  pub refused-faults : (f : List ℕ) → s ≡ pull_faults f rs o s
  unfolding pull_faults
  refused-faults f = rw no_room

-- ---- with room
module _ (rs o s : List ℕ) (n : ℕ) (z : n ≡ length rs) (h : is_short o s n ≡ false) where
  none_short : (ltb (length o / 81) n ≡ false) × (ltb (length s) n ≡ false)
  none_short = neither (ltb (length o / 81) n) (ltb (length s) n) h

  pub pull_room_lem : 81 * length rs ≤ length o
  pull_room_lem = omega (arith, z, ltb-false (length o / 81) n none_short.0)

  pub pull_places : length rs ≤ length s
  pull_places = omega (arith, z, ltb-false (length s) n none_short.1)

  enough : pull_room rs o s ≡ true
  enough = roomy rs o s pull_room_lem pull_places

  pub pulled_answer : Ok tt ≡ pulled_of (pull_answer rs o s)
  unfolding pull_answer pulled_of fault_of
  pulled_answer = rw enough

  module _ (f p t : List ℕ) (x : Entries f rs o s p t) where
    pub pulled_output : p ≡ pull_output f rs o s
    unfolding pull_output
    pulled_output = x.lines ∙ rw enough

    pub pulled_faults_lem : t ≡ pull_faults f rs o s
    unfolding pull_faults
    pulled_faults_lem = x.faults ∙ rw enough
