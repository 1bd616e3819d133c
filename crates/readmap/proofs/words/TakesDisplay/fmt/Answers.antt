use Rattle.readmap.proofs.words.TakesDisplay.fmt.Goals as goal

pub returns-in-Crowded-clause-writes : goal.returns-in-Crowded-clause-writes
returns-in-Crowded-clause-writes g c = rw c.in-Crowded.is c.write.ensures.writes

pub returns-in-Spread-clause-writes : goal.returns-in-Spread-clause-writes
returns-in-Spread-clause-writes g c = rw c.in-Spread.is c.write-in-Spread.ensures.writes
