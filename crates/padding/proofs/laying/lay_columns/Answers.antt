use mathlib.Core.Path.{refl}
use Prim.Native.Nat.{◌≤◌}
use native.Mathlib.Omega.{arith}
use borrow.Author.Rules.{rules}
use Rattle.padding.proofs.LineLaws.{own_masks, fill_from, fill_next, fill_done}
use Rattle.padding.specs.Lines.{mask_bytes}
use Rattle.padding.proofs.laying.lay_columns.Goals as goal

pub loop-i-init : goal.loop-i-init
loop-i-init c = (own_masks c.args.n _ (unfold mask_bytes in refl), search (fill_from, rules))

pub loop-i-preserved : goal.loop-i-preserved
loop-i-preserved c = let small : c.byte_at.result ≤ 255 = omega arith in (search rules, search (fill_next, rules))

pub returns : goal.returns
returns c = search (fill_done, rules)
