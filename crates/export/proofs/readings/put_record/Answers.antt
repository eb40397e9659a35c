use borrow.Author.Rules.{rules}
use Rattle.export.proofs.WordLaws.{record-job, record-title, record-continuation, record-project, record-occupation, record-comment, record-measurement, record-instrument, record-antenna, record-point, record-heights, record-network, record-local, record-factor, network_held, local_held}
use Rattle.export.proofs.readings.put_record.Goals as goal

pub put_network-requires : goal.put_network-requires
put_network-requires c =
    network_held c.args.what c.requires _ c.in-Network.is

pub put_local-requires : goal.put_local-requires
put_local-requires c =
    local_held c.args.what c.requires _ c.in-Local.is

pub returns-in-Job : goal.returns-in-Job
returns-in-Job c = search (record-job, rules)

pub returns-in-Title : goal.returns-in-Title
returns-in-Title c = search (record-title, rules)

pub returns-in-Continuation : goal.returns-in-Continuation
returns-in-Continuation c = search (record-continuation, rules)

pub returns-in-Project : goal.returns-in-Project
returns-in-Project c = search (record-project, rules)

pub returns-in-Occupation : goal.returns-in-Occupation
returns-in-Occupation c = search (record-occupation, rules)

pub returns-in-Comment : goal.returns-in-Comment
returns-in-Comment c = search (record-comment, rules)

pub returns-in-Measurement : goal.returns-in-Measurement
returns-in-Measurement c = search (record-measurement, rules)

pub returns-in-Instrument : goal.returns-in-Instrument
returns-in-Instrument c = search (record-instrument, rules)

pub returns-in-Antenna : goal.returns-in-Antenna
returns-in-Antenna c = search (record-antenna, rules)

pub returns-in-Point : goal.returns-in-Point
returns-in-Point c = search (record-point, rules)

pub returns-in-Heights : goal.returns-in-Heights
returns-in-Heights c = search (record-heights, rules)

pub returns-in-Network : goal.returns-in-Network
returns-in-Network c = search (record-network, rules)

pub returns-in-Local : goal.returns-in-Local
returns-in-Local c = search (record-local, rules)

pub returns-in-Factor : goal.returns-in-Factor
returns-in-Factor c = search (record-factor, rules)
