use borrow.Author.Rules.{rules}
use Rattle.pulling.proofs.PullLaws.{refused_answer, refused_output, refused-faults, pull_room_lem, pull_places, pulled_answer, pulled_output, pulled_faults_lem}
use Rattle.pulling.proofs.pull.Goals as goal

pub returns-then-out-n : goal.returns-then-out-n
returns-then-out-n c = search (refused_answer, refused_output, refused-faults, rules)

pub pull_list-requires : goal.pull_list-requires
pull_list-requires c = (search (pull_room_lem, rules), search (pull_places, rules))

pub returns : goal.returns
returns c = search (pulled_answer, pulled_output, pulled_faults_lem, rules)
