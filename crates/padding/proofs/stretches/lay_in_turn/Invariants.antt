-- The invariant: what both stretches have left can be laid, and then all of both is laid.
use Prim.Native.Nat.{◌+◌}
use Rattle.padding.specs.Walks.{Turned}
use Rattle.padding.proofs.stretches.lay_in_turn.Given as goal

abbrev pub invariant-loop-here : goal.invariant-loop-here
invariant-loop-here l = Turned l.input l.initial.out l.initial.here l.initial.there l.out l.here l.there

abbrev pub decreases-loop-here : goal.decreases-loop-here
decreases-loop-here l = l.here.lines + l.there.lines
