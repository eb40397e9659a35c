-- The invariant: the lines of the kinds so far are laid one after the other, and what lies outside is as it was.
use Rattle.listing.proofs.LineLaws.{Listed}
use Rattle.listing.proofs.lines.list_kinds.Given as goal

abbrev pub invariant-loop-kind : goal.invariant-loop-kind
invariant-loop-kind l = Listed l.from l.counts l.initial.out l.at l.kind-index l.out
