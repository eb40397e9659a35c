use mathlib.Core.Path.{◌≡◌}
use mathlib.Core.List.{List}
use Prim.Native.Nat.{ℕ, ◌+◌, ◌-◌, ◌%◌, ◌≤◌}
use native.Mathlib.Omega.{arith}
use lib.ListN.{take, drop}
use borrow.Author.Rules.{rules}
use Rattle.padding.specs.Lines.{feed_at}
use Rattle.padding.proofs.WalkLaws.{within_82, turn_next}
use Rattle.padding.proofs.counting.walk_in_turn.Goals as goal

-- the LF stands among the 82 bytes
found : (input : List ℕ) (place : ℕ) {n : ℕ} → n ≡ feed_at (take (place + 82 - place) (drop place input)) → n ≤ 82
found input place e = within_82 (drop place input) (place + 82 - place) (omega arith) _ e

pub overflow_add-places : goal.overflow_add-places
overflow_add-places c = let most = found c.args.input.now _ c.feed_at-n.ensures in omega arith

pub overflow_add-places-in-loop-lines : goal.overflow_add-places-in-loop-lines
overflow_add-places-in-loop-lines c = let most = found c.args.input.now _ c.feed_at-n.ensures in omega arith

pub loop-lines-preserved : goal.loop-lines-preserved
loop-lines-preserved c =
    (search rules, turn_next c.args.input.now c.args.places.now 0 c.loop-lines.places c.loop-lines.lines c.loop-lines.invariant.1 (c.loop-lines.lines % 4) (omega (arith, c.loop-lines.invariant.0)) (omega arith) (omega arith) c.feed_at-n.result c.feed_at-n.ensures c.text_length.result c.text_length.ensures c.if-text_length-gt80.false)
