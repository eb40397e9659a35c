-- Sequence number, code, fields, line feed.
use Rattle.writing.proofs.LineLaws.{given-formed, given-laid, sequence_count_lem}
use Rattle.writing.proofs.lines.lay_line.Goals as goal
use Rattle.columns.specs.Types.{count_value}

pub lay_values-requires : goal.lay_values-requires
lay_values-requires c = let a = c.args in given-formed a.what (count_value a.s) a.a.now a.b.now a.c.now c.requires.1

pub returns : goal.returns
returns c =
    let a = c.args in
    rw (c.lay_one.ensures, c.lay_values.ensures, c.lay_four.ensures, c.code_of.ensures, c.lay_count.ensures, sequence_count_lem c.args.s)
    (given-laid a.what (count_value a.s) a.a.now a.b.now a.c.now c.requires.1 a.line.now c.requires.0)
