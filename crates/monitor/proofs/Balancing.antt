-- Balancing: what is answered by a state is answered by its journal.
use Rattle.std.proofs.Common.{◌≡◌, ◌≢◌, ◌∙◌, Bool, true, false, IfErr, sym, ap, subst, ℕ, ◌+◌, List, [], ◌∷◌, ◌++◌, length, Option, Some, None, Result, Ok, Err, inl, inr}
use Rattle.refusal.specs.declared.refused.Refusal.{Refusal}
use Rattle.refusal.specs.declared.refused.Refusal.TheVariants.{UnknownPool, BalanceRule, Memory as OutOfMemory, SeatSpent}
use Rattle.refusal.specs.Outcomes.{refused_unless}
use Rattle.maptypes.specs.declared.change.ChangeParts.{ChangeParts}
use Rattle.maptypes.specs.Incrementals.{Step}
use Rattle.maptypes.specs.Pools.{PoolFacts}
use Rattle.osdmap.specs.Maps.{ClusterMap, pool_at}
use Rattle.osdmap.specs.Changes.{IsLawful, after, epoch_after}
use Rattle.osdmap.specs.Placement.{steps_of}
use Rattle.epochlog.specs.Epochs.{Begins}
use Rattle.sealed.proofs.Beginnings.{begins_itself, begins_on}
use Rattle.balancer.specs.Shares.{has_one_block, Aim}
use Rattle.balancer.specs.Plans.{plan_fault, plan_fault_of, plan_change}
use Rattle.state.specs.declared.balancing.Balance.{Balance}
use Rattle.state.specs.States.{StateFacts, next_step, commit_fault, fault_in, IsRefusedBy}
use Rattle.state.specs.Balances.{moves_in, IsUnbalanced, Balances as TakesPlan}
use Rattle.monitor.specs.Balances.{AnswersBalance, IsEven, IsUnplanned, AddsPlan}
use Rattle.monitor.proofs.Histories.{IsLed, refused_unspent}

-- balancing after a history that goes on from this one is balancing from here too
pub balances_from : (first : ClusterMap) (most : ℕ) (begun before now : List Step) (pool : ℕ) (cs : Aim) (limit : ℕ) (r : Result Balance Refusal)
    → Begins begun before → AnswersBalance first most before now pool cs limit r → AnswersBalance first most begun now pool cs limit r
balances_from first most begun before now pool cs limit (Ok ok) goes done = (
  record { begins = begins_on begun before now goes done.0.begins; lawful = done.0.lawful },
  elim done.1 [
    | inl p ↦ inl (record {
      found = p.found;
      goes_on = begins_on begun before p.found goes p.goes_on;
      ends = p.ends;
      next = p.next;
      sound = p.sound;
      some = p.some;
      counted = p.counted;
      accepted = p.accepted;
    })
    | inr even ↦ inr even
  ],
)
balances_from first most begun before now pool cs limit (Err e) goes done =
    (record { begins = begins_on begun before now goes done.0.begins; lawful = done.0.lawful }, done.1)

-- ---- of a state, by its journal

module _ (old : StateFacts) (pool : ℕ) (cs : Aim) (limit : ℕ) (led : IsLed old) where
  abbrev change : ChangeParts
  change = plan_change old.map pool cs limit

  abbrev there : ClusterMap
  there = after old.first old.pass.history

  -- the fault of the plan's commit
  fault_there : fault_in old old.map.epoch change
      ≡ commit_fault there (length old.pass.history) (length old.pass.row.cells) (epoch_after old.first old.pass.history) (plan_change there pool cs limit)
  fault_there =
      ap (λ n. commit_fault old.map (length old.pass.history) (length old.pass.row.cells) n change) led.epoch
      ∙ ap (λ m. commit_fault m (length old.pass.history) (length old.pass.row.cells) (epoch_after old.first old.pass.history) (plan_change m pool cs limit)) led.map

  sound_there : plan_fault old.map pool ≡ plan_fault there pool
  sound_there = ap (λ m. plan_fault m pool) led.map

  moves_there : moves_in old.map pool cs limit ≡ moves_in there pool cs limit
  moves_there = ap (λ m. moves_in m pool cs limit) led.map

  unplanned_there : (e : Refusal) → IsUnbalanced old pool cs limit e → IsUnplanned old.first (length old.pass.row.cells) old.pass.history pool cs limit e
  unplanned_there e (inl fault) = inl (sym sound_there ∙ fault)
  unplanned_there e (inr why) = inr (
    sym sound_there ∙ why.0,
    elim why.1 [
      | inl memory ↦ inl memory
      | inr refused ↦ inr (λ none. refused.0 (moves_there ∙ none), subst (λ f. IsRefusedBy f e) fault_there refused.1)
    ],
  )

  -- what balancing a state answers is answered by its journal
  pub balanced_by : (new : StateFacts) (r : Result Balance Refusal) → IsLed new → TakesPlan old new pool cs limit r
      → AnswersBalance old.first (length old.pass.row.cells) old.pass.history new.pass.history pool cs limit r
  balanced_by new (Ok ok) leads done = elim done.0.2 [
    | inl stays ↦
        let same : old ≡ new = sym stays.2 in (
          record {
            begins = subst (λ (k : StateFacts). Begins old.pass.history k.pass.history) same (begins_itself old.pass.history);
            lawful = subst (λ (k : StateFacts). IsLawful old.first k.pass.history) same led.lawful;
          },
          inr (subst (λ (k : StateFacts). IsEven old.first k.pass.history pool cs limit ok.epoch ok.moves) same (record {
            sound = sym sound_there ∙ done.0.0;
            epoch = stays.1 ∙ led.epoch;
            none = done.0.1 ∙ stays.0;
            counted = sym moves_there ∙ stays.0;
          })),
        )
    | inr moved ↦
        let more : new.pass.history ≡ old.pass.history ++ next_step old.map change ∷ [] = ap (λ (k : StateFacts). k.pass.history) moved.4 in
        let first : new.first ≡ old.first = ap (λ (k : StateFacts). k.first) moved.4 in
        let step : next_step old.map change ≡ record { epoch = ok.epoch; change = plan_change there pool cs limit } =
        λ i. record { epoch = sym moved.3 i; change = ap (λ m. plan_change m pool cs limit) led.map i } in (
          record {
            begins = (next_step old.map change ∷ [], sym more);
            lawful = subst (λ m. IsLawful m new.pass.history) first leads.lawful;
          },
          inl (record {
            found = old.pass.history;
            goes_on = begins_itself old.pass.history;
            ends = more ∙ ap (λ s. old.pass.history ++ s ∷ []) step;
            next = moved.3 ∙ ap (λ n. n + 1) led.epoch;
            sound = sym sound_there ∙ done.0.0;
            some = λ none. moved.0 (sym done.0.1 ∙ none);
            counted = done.0.1 ∙ moves_there;
            accepted = sym fault_there ∙ moved.1;
          }),
        )
  ]
  balanced_by new (Err e) leads done =
      let same : record old { runs = new.runs; has_failed = new.has_failed } ≡ new = sym done.1.same in (
        record {
          begins = subst (λ (k : StateFacts). Begins old.pass.history k.pass.history) same (begins_itself old.pass.history);
          lawful = subst (λ (k : StateFacts). IsLawful old.first k.pass.history) same led.lawful;
        },
        inr (subst (λ (k : StateFacts). IsUnplanned old.first (length old.pass.row.cells) k.pass.history pool cs limit e) same (unplanned_there e done.0)),
      )

  -- and adds its incremental alone
  pub adds_plan : (new : StateFacts) (r : Result Balance Refusal) → TakesPlan old new pool cs limit r
      → AddsPlan old.first old.pass.history new.pass.history pool cs limit r
  adds_plan new (Ok ok) done = elim done.0.2 [
    | inl stays ↦ inl (done.0.1 ∙ stays.0, ap (λ (k : StateFacts). k.pass.history) stays.2)
    | inr moved ↦
        let more : new.pass.history ≡ old.pass.history ++ next_step old.map change ∷ [] = ap (λ (k : StateFacts). k.pass.history) moved.4 in
        let step : next_step old.map change ≡ record { epoch = ok.epoch; change = plan_change there pool cs limit } =
        λ i. record { epoch = sym moved.3 i; change = ap (λ m. plan_change m pool cs limit) led.map i } in
        inr (λ none. moved.0 (sym done.0.1 ∙ none), more ∙ ap (λ s. old.pass.history ++ s ∷ []) step)
  ]
  adds_plan new (Err e) done = ap (λ (k : StateFacts). k.pass.history) done.1.same

-- where nothing was found beyond what was seen, it is added to that
pub plans_from : (first : ClusterMap) (begun before now : List Step) (pool : ℕ) (cs : Aim) (limit : ℕ) (r : Result Balance Refusal)
    → before ≡ begun → AddsPlan first before now pool cs limit r → AddsPlan first begun now pool cs limit r
plans_from first begun before now pool cs limit r same done = subst (λ h. AddsPlan first h now pool cs limit r) same done

-- ---- no plan is refused for a seat's draws

-- a rule of more than one block is not refused as a spent seat is
rule_unspent : (one : Bool) → refused_unless one BalanceRule ≢ Some SeatSpent
rule_unspent true e = absurd (cc e)
rule_unspent false e = absurd (let same : Some BalanceRule ≡ Some SeatSpent = e in cc)

-- a plan is not refused as a spent seat is
plan_unspent : (m : ClusterMap) (p : Option PoolFacts) → plan_fault_of m p ≢ Some SeatSpent
plan_unspent m None e = absurd (let same : Some UnknownPool ≡ Some SeatSpent = e in cc)
plan_unspent m (Some p) e = rule_unspent (has_one_block (steps_of m p)) e

-- why there is no answer of a state is never that
pub never_spent : (old new : StateFacts) (pool : ℕ) (cs : Aim) (limit : ℕ) (r : Result Balance Refusal) → TakesPlan old new pool cs limit r → IfErr r (λ e. e ≢ SeatSpent)
never_spent old new pool cs limit (Ok ok) done = tt
never_spent old new pool cs limit (Err e) done = by_cause done.0
  where
    by_cause : IsUnbalanced old pool cs limit e → e ≢ SeatSpent
    by_cause (inl fault) is = plan_unspent old.map (pool_at old.map.pools pool) (fault ∙ ap Some is)
    by_cause (inr why) is = elim why.1 [
      | inl memory ↦ absurd (let wrong : OutOfMemory ≡ SeatSpent = sym memory ∙ is in cc)
      | inr refused ↦ refused_unspent old.map (length old.pass.history) (length old.pass.row.cells) old.map.epoch (plan_change old.map pool cs limit) e refused.1 is
    ]
