-- Visits that make a history, as the law over events tells them.
use Rattle.std.proofs.Common.{◌≡◌, ◌∙◌, List, [], ◌∷◌, ◌++◌, false, Option, Some, None, refl, sym, ap, subst}
use Rattle.std.proofs.lemmas.List.Elements.{All-head, All-tail, All-nil, All-cons}
use Rattle.sealed.specs.History.{Begins}
use Rattle.sealed.proofs.Beginnings.{begins_itself}
use Rattle.maptypes.specs.Ordered.{IsChange}
use Rattle.maptypes.specs.Incrementals.{Step}
use Rattle.osdmap.specs.Maps.{ClusterMap, HoldsTogether}
use Rattle.osdmap.specs.Changes.{IsLawful, apply, after}
use Rattle.osdmap.proofs.Kept.{HoldsTogether-after}
use Rattle.epochlog.specs.Epochs.{Line}
use Rattle.pgtable.specs.Tables.{TableFacts, tables_of, ups_of}
use Rattle.state.specs.States.{StateFacts, facts, IsKept}
use Rattle.monitor_laws.specs.World.{Told, look, change}
use Rattle.monitor_laws.specs.Law.{IsOneHistory}
use Rattle.monitor_laws.proofs.Steps.{last_epoch_by_place}
use Rattle.server_laws.specs.Visits.{Visit, put, behind, IsExecution}
use Rattle.server_laws.specs.Sound.{AreToldAs, AreChanges, TellsAsLaw}
use Rattle.server_laws.proofs.Histories.{before_begins}

-- a beginning of a lawful history is lawful, and of changes
lawful_front : (m : ClusterMap) (front rest : List Step) → IsLawful m (front ++ rest) → IsLawful m front
unfolding IsLawful
lawful_front m [] rest lawful = tt
lawful_front m (s ∷ front) rest lawful = (lawful.0, lawful.1, lawful_front (apply m s) front rest lawful.2)

-- a beginning of a history of changes is one of changes
changes_front : (front rest : List Step) → AreChanges (front ++ rest) → AreChanges front
changes_front [] rest brings = All-nil (λ (s : Step). IsChange s.change)
changes_front (s ∷ front) rest brings =
    All-cons (λ (s : Step). IsChange s.change) s front (All-head (λ (s : Step). IsChange s.change) s (front ++ rest) brings)
    (changes_front front rest (All-tail (λ (s : Step). IsChange s.change) s (front ++ rest) brings))

-- it leads to a map that holds together
holds_after : (m : ClusterMap) (steps : List Step) → HoldsTogether m → AreChanges steps → IsLawful m steps → HoldsTogether (after m steps)
unfolding IsLawful
holds_after m [] holds brings lawful = holds
holds_after m (s ∷ steps) holds brings lawful =
    holds_after (apply m s) steps (HoldsTogether-after m s lawful.1 (All-head (λ (s : Step). IsChange s.change) s steps brings) holds)
    (All-tail (λ (s : Step). IsChange s.change) s steps brings) lawful.2

-- a state after a history, and its table
abbrev state_of : ClusterMap → Line → List Step → StateFacts
state_of m row found = facts m (record { row = row; history = found }) (after m found) 0 false

-- the table of a map
abbrev table_of : ClusterMap → TableFacts
table_of m = record { pools = tables_of m; up = ups_of m }

-- what was found begins all
found_begins : {X : Type 0} (v : Visit X) (all : List X) → behind v ≡ all → Begins v.found all
found_begins v all same = let b = before_begins v.found v.made in (b.0, b.1 ∙ same)

module _ (m : ClusterMap) (row : Line) (holds : HoldsTogether m) (begins : row.first ≡ m.epoch) where
  -- one more visit is told, behind those before it
  one_more : (all : List Step) (v : Visit Step) (visits : List (Visit Step)) (made : Option Step) → v.made ≡ made → AreChanges all → IsLawful m all
      → behind v ≡ all → ((told : List Told) × AreToldAs visits told × IsOneHistory m v.found told)
      → (told : List Told) × AreToldAs (v ∷ visits) told × IsOneHistory m all told
  one_more all v visits None is brings lawful same (told, are, one) =
      let here : v.found ≡ all = ap (put v.found) (sym is) ∙ same in
      let lawful-found : IsLawful m v.found = subst (IsLawful m) (sym here) lawful in
      let kept : IsKept (state_of m row v.found) (table_of (after m v.found)) = record {
        lawful = lawful-found;
        begins = begins;
        map = refl;
        table = record { holds = holds_after m v.found holds (subst AreChanges (sym here) brings) lawful-found; pools = refl; up = refl };
      } in (
        look v.by (state_of m row v.found) (table_of (after m v.found)) ∷ told,
        ((refl, refl, is), are),
        (kept, refl, found_begins v all same, one),
      )
  one_more all v visits (Some s) is brings lawful same (told, are, one) =
      let here : v.found ++ s ∷ [] ≡ all = ap (put v.found) (sym is) ∙ same in
      let lawful-here : IsLawful m (v.found ++ s ∷ []) = subst (IsLawful m) (sym here) lawful in (
        change v.by v.found s ∷ told,
        ((refl, refl, is), are),
        (lawful-here, last_epoch_by_place m v.found s lawful-here, subst (Begins (v.found ++ s ∷ [])) here (begins_itself (v.found ++ s ∷ [])), one),
      )

  pub tells : (all : List Step) (visits : List (Visit Step)) → AreChanges all → IsLawful m all → IsExecution all visits
      → (told : List Told) × AreToldAs visits told × IsOneHistory m all told
  tells all [] brings lawful made = ([], refl, tt)
  tells all (v ∷ visits) brings lawful made =
      let b = found_begins v all made.0 in
      let found-lawful = lawful_front m v.found b.0 (subst (IsLawful m) (sym b.1) lawful) in
      let found-brings = changes_front v.found b.0 (subst AreChanges (sym b.1) brings) in
      one_more all v visits v.made refl brings lawful made.0 (tells v.found visits found-brings found-lawful made.1)

-- visits that have made a lawful history are told as the law over events has it
pub tells_as_law : TellsAsLaw
tells_as_law m row all visits holds brings begins lawful made = tells m row holds begins all visits brings lawful made
