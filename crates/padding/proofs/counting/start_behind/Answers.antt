use Prim.Native.Nat.{◌+◌, ◌≤◌}
use native.Mathlib.Omega.{arith}
use lib.ListN.{length}
use borrow.Author.Rules.{rules}
use Rattle.padding.proofs.PassLaws.{start_within}
use Rattle.padding.proofs.counting.start_behind.Goals as goal

within : (c : goal.After-feed_at) → c.args.at + c.feed_at.result ≤ length c.args.input.now
within c = search (start_within, rules)

pub overflow_add-result : goal.overflow_add-result
overflow_add-result c = let h = within c in omega arith

pub overflow_add-result-2 : goal.overflow_add-result-2
overflow_add-result-2 c = let h = within c in omega arith
