use Rattle.std.proofs.Common.{rules, tests, arith, ◌<◌}
use Rattle.judging.proofs.ByteLaws.{bad_byte, bad_within, no_feed, other_byte, fine}
use Rattle.judging.proofs.bytes.find_bad.Goals as goal

pub overflow_add-i : goal.overflow_add-i
overflow_add-i c = let k : c.in-Some.i < 80 = bad_within c.args.line.now c.middle.ensures c.first_unprintable.ensures c.in-Some.is in omega arith

pub returns-in-Some : goal.returns-in-Some
returns-in-Some c = bad_byte c.args.line.now c.middle.ensures c.first_unprintable.ensures c.in-Some.is c.new.ensures

pub returns-in-None : goal.returns-in-None
returns-in-None c = no_feed c.args.line.now c.middle.ensures c.first_unprintable.ensures c.in_default.is (search (rules, tests)) c.new-in-None.ensures

pub returns-in-Some-eq10 : goal.returns-in-Some-eq10
returns-in-Some-eq10 c = fine c.args.line.now c.middle.ensures c.first_unprintable.ensures c.in_default.is (search (rules, tests)) (search (rules, tests))

pub returns-in-Some-get : goal.returns-in-Some-get
returns-in-Some-get c = other_byte c.args.line.now c.middle.ensures c.first_unprintable.ensures c.in_default.is (search (rules, tests)) (search (rules, tests)) c.new-in-Some-get.ensures
