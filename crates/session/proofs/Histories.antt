-- Histories that go on.
use Rattle.std.proofs.Common.{◌∙◌, ◌++◌, List, [], ap, sym, append-nil, append_assoc}
use Rattle.maptypes.specs.Incrementals.{Step}
use Rattle.osdmap.specs.Maps.{ClusterMap}
use Rattle.osdmap.specs.Changes.{IsLawful}
use Rattle.epochlog.specs.Epochs.{Begins}
use Rattle.monitor.specs.Histories.{GoesOn}

-- a history begins itself
pub begins_same : (history : List Step) → Begins history history
begins_same history = ([], append-nil history)

-- what begins a history begins what that begins
pub begins_more : (one two three : List Step) → Begins one two → Begins two three → Begins one three
begins_more one two three (rest, is) (more, then) = (rest ++ more, sym (append_assoc one rest more) ∙ ap (λ h. h ++ more) is ∙ then)

-- a lawful history goes on from itself
pub goes_on_same : (first : ClusterMap) (history : List Step) → IsLawful first history → GoesOn first history history
goes_on_same first history lawful = record { begins = begins_same history; lawful = lawful }

-- a history goes on from what it went on from before
pub goes_on_more : (first : ClusterMap) (one two three : List Step) → GoesOn first one two → GoesOn first two three → GoesOn first one three
goes_on_more first one two three before then =
    record { begins = begins_more one two three before.begins then.begins; lawful = then.lawful }

-- an empty one is lawful
pub goes_on_none : (first : ClusterMap) → GoesOn first [] []
unfolding IsLawful
goes_on_none first = goes_on_same first [] tt
