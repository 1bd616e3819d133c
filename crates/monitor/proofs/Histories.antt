-- Histories: what goes on from them, and what is answered by them.
use Rattle.std.proofs.Common.{◌≡◌, ◌≢◌, ◌∙◌, IfErr, arith, sym, ap, subst, ℕ, ◌+◌, List, [], ◌∷◌, ◌++◌, length, Result, Ok, Err, inl, inr, refl}
use Rattle.refusal.specs.declared.refused.Refusal.{Refusal}
use Rattle.refusal.specs.Refusals.{number_of}
use Rattle.refusal.specs.declared.refused.Refusal.TheVariants.{Memory as OutOfMemory, SeatSpent, NotSealed, NotStored}
use Rattle.maptypes.specs.declared.change.ChangeParts.{ChangeParts}
use Rattle.maptypes.specs.Incrementals.{Step}
use Rattle.osdmap.specs.Maps.{ClusterMap}
use Rattle.osdmap.specs.Evals.{evals_of}
use Rattle.osdmap.specs.Changes.{IsLawful, after, epoch_after}
use Rattle.epochlog.specs.Epochs.{Begins}
use Rattle.sealed.proofs.Beginnings.{begins_itself, begins_on}
use Rattle.state.specs.declared.state.Commit.{Commit}
use Rattle.state.specs.States.{StateFacts, ran, committed, next_step, commit_fault, fault_in, IsRefusedBy, Commits as TakesCommit}
use Rattle.std.proofs.lemmas.Bool.{eq-eqb}
use Rattle.state.proofs.Journals.{accepted}
use Rattle.state.proofs.Refusing.{commit_early}
use Rattle.monitor.specs.Histories.{IsCommitted, AnswersCommit, present_fault, AnswersApply, AddsChange}

-- a history of nothing is lawful
pub lawful_none : (first : ClusterMap) → IsLawful first []
unfolding IsLawful
lawful_none first = tt

-- a commit that goes on from here
goes_from : (first : ClusterMap) (most : ℕ) (begun before now : List Step) (base : ℕ) (change : ChangeParts) (epoch evals : ℕ)
    → Begins begun before → IsCommitted first most before now base change epoch evals → IsCommitted first most begun now base change epoch evals
goes_from first most begun before now base change epoch evals goes made = record {
  found = made.found;
  goes_on = begins_on begun before made.found goes made.goes_on;
  ends = made.ends;
  based = made.based;
  next = made.next;
  counted = made.counted;
  accepted = made.accepted;
}

-- a commit to a map after a history that goes on from this one is also one from here
pub commits_from : (first : ClusterMap) (most : ℕ) (begun before now : List Step) (base : ℕ) (change : ChangeParts)
    (r : Result Commit Refusal) → Begins begun before → AnswersCommit first most before now base change r → AnswersCommit first most begun now base change r
commits_from first most begun before now base change (Ok ok) goes done = (
  record { begins = begins_on begun before now goes done.0.begins; lawful = done.0.lawful },
  goes_from first most begun before now base change ok.epoch ok.evals goes done.1,
)
commits_from first most begun before now base change (Err e) goes done =
    (record { begins = begins_on begun before now goes done.0.begins; lawful = done.0.lawful }, done.1)

-- so is a commit to the map that is found
pub applies_from : (first : ClusterMap) (most : ℕ) (begun before now : List Step) (change : ChangeParts) (r : Result Commit Refusal)
    → Begins begun before → AnswersApply first most before now change r → AnswersApply first most begun now change r
applies_from first most begun before now change (Ok ok) goes done = (
  record { begins = begins_on begun before now goes done.0.begins; lawful = done.0.lawful },
  (done.1.0, goes_from first most begun before now done.1.0 change ok.epoch ok.evals goes done.1.1),
)
applies_from first most begun before now change (Err e) goes done =
    (record { begins = begins_on begun before now goes done.0.begins; lawful = done.0.lawful }, done.1)

-- where the base is the epoch of a map, what refuses a commit to it is what refuses the change
fault_present : (m : ClusterMap) (done most base : ℕ) (change : ChangeParts) → base ≡ m.epoch
    → commit_fault m done most base change ≡ present_fault m done most change
unfolding commit_fault
fault_present m done most base change is = rw (eq-eqb base m.epoch is) refl

-- a commit is one to the map that is found, where its base is that of the map after all
pub applied_by : (first : ClusterMap) (most : ℕ) (before now : List Step) (base : ℕ) (change : ChangeParts) (r : Result Commit Refusal)
    → base ≡ (after first before).epoch → AddsChange before now change r → AnswersCommit first most before now base change r
    → AnswersApply first most before now change r
applied_by first most before now base change (Ok ok) is adds done = (done.0, (base, done.1))
applied_by first most before now base change (Err e) is adds done =
    let here : base ≡ (after first now).epoch = is ∙ ap (λ h. (after first h).epoch) (sym adds) in (
      done.0,
      elim done.1 [
        | inl spent ↦ inl spent
        | inr refused ↦ inr (subst (λ f. IsRefusedBy f e) (fault_present (after first now) (length now) most base change here) refused)
      ],
    )

-- what is known of a state: its journal is lawful from its first map, and leads to its map
pub record IsLed (k : StateFacts) : Type 0 where
  pub map : k.map ≡ after k.first k.pass.history
  pub lawful : IsLawful k.first k.pass.history
  pub epoch : k.map.epoch ≡ epoch_after k.first k.pass.history

-- the fault of a commit to a state, by its journal
pub fault_is : (k : StateFacts) (base : ℕ) (change : ChangeParts) → k.map ≡ after k.first k.pass.history
    → fault_in k base change
    ≡ commit_fault (after k.first k.pass.history) (length k.pass.history) (length k.pass.row.cells) base change
fault_is k base change map = ap (λ m. commit_fault m (length k.pass.history) (length k.pass.row.cells) base change) map

-- a commit to a state is one to the map after its journal
pub committed_by : (old new : StateFacts) (base : ℕ) (change : ChangeParts) (r : Result Commit Refusal) → IsLed old
    → IsLed new → TakesCommit old new base change r
    → AnswersCommit old.first (length old.pass.row.cells) old.pass.history new.pass.history base change r
committed_by old new base change (Ok ok) led leads done =
    let fine = accepted old base change done.0.0 in
    let is : new ≡ ran ok.evals (committed old change) = done.0.1.1 in
    let more : new.pass.history ≡ old.pass.history ++ next_step old.map change ∷ [] =
    ap (λ (k : StateFacts). k.pass.history) is in
    let first : new.first ≡ old.first = ap (λ (k : StateFacts). k.first) is in
    let next : ok.epoch ≡ base + 1 = done.0.1.2 in
    let epoch : old.map.epoch + 1 ≡ ok.epoch = ap (λ n. n + 1) (sym fine.current) ∙ sym next in
    let step : next_step old.map change ≡ record { epoch = ok.epoch; change = change } =
    ap (λ (n : ℕ). record { epoch = n; change = change }) epoch in
    let map : new.map ≡ after old.first new.pass.history =
    leads.map ∙ ap (λ m. after m new.pass.history) first in (
      record {
        begins = (next_step old.map change ∷ [], sym more);
        lawful = subst (λ m. IsLawful m new.pass.history) first leads.lawful;
      },
      record {
        found = old.pass.history;
        goes_on = begins_itself old.pass.history;
        ends = more ∙ ap (λ s. old.pass.history ++ s ∷ []) step;
        based = fine.current ∙ led.epoch;
        next = next;
        counted = done.0.1.3 ∙ ap (λ m. evals_of m change) map;
        accepted = sym (fault_is old base change led.map) ∙ done.0.0;
      },
    )
committed_by old new base change (Err e) led leads done =
    let same : record old { runs = new.runs; has_failed = new.has_failed } ≡ new = sym done.1.same in
    let most = length old.pass.row.cells in
    let fault : fault_in old base change
    ≡ commit_fault (after old.first new.pass.history) (length new.pass.history) most base change =
    fault_is old base change led.map
    ∙ ap (λ (k : StateFacts). commit_fault (after old.first k.pass.history) (length k.pass.history) most base change) same in (
      record {
        begins = subst (λ (k : StateFacts). Begins old.pass.history k.pass.history) same (begins_itself old.pass.history);
        lawful = subst (λ (k : StateFacts). IsLawful old.first k.pass.history) same led.lawful;
      },
      inr (subst (λ f. IsRefusedBy f e) fault done.0),
    )

-- and adds its incremental alone
pub adds_change : (old new : StateFacts) (base : ℕ) (change : ChangeParts) (r : Result Commit Refusal)
    → TakesCommit old new base change r → AddsChange old.pass.history new.pass.history change r
adds_change old new base change (Ok ok) done =
    let fine = accepted old base change done.0.0 in
    let more : new.pass.history ≡ old.pass.history ++ next_step old.map change ∷ [] =
    ap (λ (k : StateFacts). k.pass.history) done.0.1.1 in
    let next : ok.epoch ≡ base + 1 = done.0.1.2 in
    let epoch : old.map.epoch + 1 ≡ ok.epoch = ap (λ n. n + 1) (sym fine.current) ∙ sym next in
    let step : next_step old.map change ≡ record { epoch = ok.epoch; change = change } =
    ap (λ (n : ℕ). record { epoch = n; change = change }) epoch in
    more ∙ ap (λ s. old.pass.history ++ s ∷ []) step
adds_change old new base change (Err e) done = ap (λ (k : StateFacts). k.pass.history) done.1.same

-- where nothing was found beyond what was seen, it is added to that
pub adds_from : (begun before now : List Step) (change : ChangeParts) (r : Result Commit Refusal) → before ≡ begun
    → AddsChange before now change r → AddsChange begun now change r
adds_from begun before now change r same done = subst (λ h. AddsChange h now change r) same done

-- ---- no change is refused for a seat's draws

-- why a commit is refused is never that
pub refused_unspent : (m : ClusterMap) (done most base : ℕ) (change : ChangeParts) (e : Refusal) → IsRefusedBy (commit_fault m done most base change) e → e ≢ SeatSpent
refused_unspent m done most base change e (inl none) is = elim none.1 [
  | inl memory ↦ absurd (let wrong : OutOfMemory ≡ SeatSpent = sym memory ∙ is in cc)
  | inr other ↦ elim other [
    | inl unstored ↦ absurd (let wrong : NotStored ≡ SeatSpent = sym unstored ∙ is in cc)
    | inr unsealed ↦ absurd (let wrong : NotSealed ≡ SeatSpent = sym unsealed ∙ is in cc)
  ]
]
refused_unspent m done most base change e (inr fault) is = absurd (omega (arith, commit_early m done most base change e fault, ap number_of is))

-- and so of a state's commit
pub unspent : (old new : StateFacts) (base : ℕ) (change : ChangeParts) (r : Result Commit Refusal)
    → TakesCommit old new base change r → IfErr r (λ e. e ≢ SeatSpent)
unspent old new base change (Ok ok) done = tt
unspent old new base change (Err e) done = refused_unspent old.map (length old.pass.history) (length old.pass.row.cells) base change e done.0
