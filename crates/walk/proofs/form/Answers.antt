use Rattle.walk.proofs.JudgeLaws.{form_answer_lem}
use native.Mathlib.Omega.{arith}
use borrow.Author.Rules.{rules}
use Rattle.walk.proofs.form.Goals as goal

pub walk_file-requires : goal.walk_file-requires
walk_file-requires c = omega arith

pub returns : goal.returns
returns c = search (form_answer_lem, rules)
