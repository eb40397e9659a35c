-- The invariant: what is left of the stretch can be laid, and then all of it is laid.
use Prim.Native.Nat.{◌-◌}
use Rattle.padding.proofs.StretchLaws.{Laying}
use Rattle.padding.proofs.stretches.lay_stretch.Given as goal

abbrev pub invariant-loop : goal.invariant-loop
invariant-loop l =
    Laying l.input l.initial.out (record { from = l.initial.from; to = l.initial.a; lines = l.end }) l.out (record { from = l.from; to = l.a; lines = l.end - l.counter })
