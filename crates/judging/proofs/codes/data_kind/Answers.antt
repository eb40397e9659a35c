-- Two digits make a number below 100.
use borrow.Author.Rules.{rules}
use native.Mathlib.Omega.{arith}
use Rattle.judging.proofs.CodeLaws.{digits, data-kind}
use Rattle.judging.proofs.codes.data_kind.Goals as goal

pub overflow_sub-a : goal.overflow_sub-a
overflow_sub-a c = omega (arith, (digits _ _ c.requires).0)

pub overflow_sub-b : goal.overflow_sub-b
overflow_sub-b c = omega (arith, (digits _ _ c.requires).2)

pub returns : goal.returns
returns c = search (data-kind, rules)
