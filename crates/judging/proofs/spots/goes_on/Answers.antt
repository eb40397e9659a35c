-- The trial is the beginning with the rest of the end behind it.
use native.Mathlib.Omega.{arith}
use Rattle.judging.proofs.SpotLaws.{spans_80, trial_room, trial_good}
use Rattle.judging.proofs.spots.goes_on.Goals as goal

pub slice_bounds-trial-end : goal.slice_bounds-trial-end
slice_bounds-trial-end c = omega (arith, spans_80 _ _ c.requires.1)

pub slice_bounds-is_good-end : goal.slice_bounds-is_good-end
slice_bounds-is_good-end c =
    omega (arith, spans_80 _ _ c.requires.1, trial_room c.args.part.now c.args.end c.put_text.new.out c.args.k c.requires.0 (omega (arith, spans_80 _ _ c.requires.1)) c.put_text.ensures)

pub returns : goal.returns
returns c =
    trial_good c.args.part.now c.args.end c.put_text.new.out c.args.k c.requires.0 (omega (arith, spans_80 _ _ c.requires.1)) c.put_text.ensures c.args.kind c.requires.1 c.is_good.ensures
