use Rattle.walk.proofs.WordLaws.{zeros_fit}
use Rattle.walk.proofs.JudgeLaws.{from_zeros, form_answer_lem, words-settled}
use borrow.Author.Rules.{rules}
use Rattle.walk.proofs.judge_both.Goals as goal

pub walk_file-form-requires : goal.walk_file-form-requires
walk_file-form-requires c = search (zeros_fit, rules)

pub refer_walked-references-requires : goal.refer_walked-references-requires
refer_walked-references-requires c = search (from_zeros, rules)

pub returns : goal.returns
returns c = record { form = search (form_answer_lem, rules); references = search rules; words = search (words-settled, rules) }
