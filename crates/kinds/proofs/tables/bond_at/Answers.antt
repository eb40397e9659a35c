use borrow.Author.Rules.{rules}
use Rattle.kinds.proofs.TableLaws.{bond_named}
use Rattle.kinds.proofs.tables.bond_at.Goals as goal

pub returns-in-Free : goal.returns-in-Free
returns-in-Free c = search (bond_named, rules)

pub returns-in-Expected : goal.returns-in-Expected
returns-in-Expected c = search (bond_named, rules)

pub returns-in-Began : goal.returns-in-Began
returns-in-Began c = search (bond_named, rules)

pub returns-in-Orthometric : goal.returns-in-Orthometric
returns-in-Orthometric c = search (bond_named, rules)

pub returns-in-Geoid : goal.returns-in-Geoid
returns-in-Geoid c = search (bond_named, rules)

pub returns-in-Ellipsoid : goal.returns-in-Ellipsoid
returns-in-Ellipsoid c = search (bond_named, rules)

pub returns-in-Standpoint : goal.returns-in-Standpoint
returns-in-Standpoint c = search (bond_named, rules)
