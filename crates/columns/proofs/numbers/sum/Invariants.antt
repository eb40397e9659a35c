-- The invariant: what is read on from here is what was to be read, and the sum so far is what that many bytes can make. Assumes nothing.
use mathlib.Core.Path.{◌≡◌}
use lib.ListN.{length, drop}
use Prim.Native.Nat.{◌≤◌, ◌+◌, ◌*◌, ◌^◌}
use Rattle.rules.specs.Digits.{val}
use Rattle.columns.proofs.numbers.sum.Given as goal

abbrev pub invariant-loop-b : goal.invariant-loop-b
invariant-loop-b l = (length l.part ≤ 16) × (l.v + 23 ≤ 23 * 10 ^ l.b-index) × (val l.v (drop l.b-index l.part) ≡ val 0 l.part)
