use mathlib.Core.Path.{sym, ◌∙◌, ap}
use borrow.Author.Rules.{rules}
use Rattle.std.specs.Prelude.{is_ok}
use Rattle.kinds.proofs.ValueLaws.{handed_on, ok_is}
use Rattle.rewriting.proofs.RewriteLaws.{tight_answer, tight_table, tight_output, roomy_answer, roomy_table, roomy_output, good-lines, kept_output}
use Rattle.rewriting.proofs.rewrite.Goals as goal

pub returns-then-out-file : goal.returns-then-out-file
returns-then-out-file c = search (tight_answer, tight_table, tight_output, rules)

pub style_lines-requires : goal.style_lines-requires
style_lines-requires c = search (good-lines, ok_is c.in_ok-counts.was, rules)

pub returns-in_err-counts : goal.returns-in_err-counts
returns-in_err-counts c =
    let a = c.args in
    let v = c.judge.result in
    let said = c.judge.ensures.answered in
    record {
      answered = handed_on c.from_residual.ensures.1 ∙ sym c.in_err-counts.was ∙ roomy_answer a.file.now a.table.now a.out.now c.if-out-file.false v said;
      left = roomy_table a.file.now a.table.now a.out.now c.if-out-file.false v said _ c.judge.ensures.left;
      written = kept_output a.file.now a.table.now a.out.now c.if-out-file.false v said (ap is_ok c.in_err-counts.was);
    }

pub returns : goal.returns
returns c =
    let a = c.args in
    let v = c.judge.result in
    let said = c.judge.ensures.answered in
    record {
      answered = sym c.in_ok-counts.was ∙ roomy_answer a.file.now a.table.now a.out.now c.if-out-file.false v said;
      left = roomy_table a.file.now a.table.now a.out.now c.if-out-file.false v said _ c.judge.ensures.left;
      written = roomy_output a.file.now a.table.now a.out.now c.if-out-file.false v said (ok_is c.in_ok-counts.was) _ c.style_lines.ensures;
    }
