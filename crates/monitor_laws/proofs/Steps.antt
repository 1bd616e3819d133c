-- Each event keeps what holds.
use Rattle.std.proofs.Common.{◌≡◌, ℕ, zero, suc, ◌+◌, ◌≤◌, List, [], ◌∷◌, ◌++◌, length, replicate, Some, slice_get, ◌⊎◌, inl, inr, sym, refl, ap, subst, ◌∙◌, set, arith}
use mathlib.Core.Option.{some, some-injective}
use mathlib.Core.Logic.{dite}
use native.Mathlib.Decide.{ℕ_discrete}
use lib.ListN.{get_elem?}
use Rattle.atomic_table.proofs.Lists.{set_else}
use Rattle.ticketlock.specs.declared.view.View.{View}
use Rattle.ticketlock.specs.declared.view.Stage.{Stage}
use Rattle.ticketlock.specs.declared.view.Stage.TheVariants.{Idle, Waiting, Next, Reading, Writing, Closing}
use Rattle.ticketlock.specs.Rule as lock
use Rattle.ticketlock.specs.declared.view.Step.TheVariants as lockstep
use Rattle.ticketlock.specs.declared.view.Step.{Step as LockStep}
use Rattle.ticketlock.specs.Rule.{LockWorld, KeepsRule}
use Rattle.ticketlock.specs.Law.{start, IsWriting, IsReading, IsIn, IsAlone}
use Rattle.ticketlock.proofs.Runs.{starts, alone_writes}
use Rattle.ticketlock.proofs.Steps.{step_keeps}
use Rattle.sealed.proofs.Beginnings.{begins_itself, begins_on}
use Rattle.maptypes.specs.Incrementals.{Step}
use Rattle.osdmap.specs.Maps.{ClusterMap}
use Rattle.osdmap.specs.Changes.{IsLawful, after, apply}
use Rattle.std.proofs.lemmas.Option.{same_Some}
use Rattle.epochlog.specs.Epochs.{Line, Begins}
use Rattle.pgtable.specs.Tables.{TableFacts, IsTableOf}
use Rattle.pgtable.proofs.Shows.{up_shown, groups_shown, count_shown}
use Rattle.state.proofs.Journals.{last-shown}
use Rattle.monitor_laws.specs.World.{MonitorWorld, Act, at_lock, looks, makes, seals, Event, acts, follows, Told, look, change, Acts, Happens, IsPresent, PutsBack}
use Rattle.monitor_laws.specs.Law.{opening, RunsTo, NoneWrites, IsOneHistory, ShowsMap, IsSound}

-- what each event keeps: the lock's rule, what the law says of what was told and read, and, whenever no seat writes, a
-- state that is present
pub record Holds (first : ClusterMap) (w : MonitorWorld) : Type 0 where
  pub rule : KeepsRule w.lock
  pub alone : IsAlone w.lock.views
  pub present : NoneWrites w.lock.views → IsPresent first w
  pub lawful : IsLawful first w.sealed
  pub told : IsOneHistory first w.sealed w.told
  pub followers : (j : ℕ) (read : List Step) → slice_get w.followers j ≡ Some read → Begins read w.sealed

-- who reads does not write
not_both : (s : Stage) → IsReading s → IsWriting s → ⊥
not_both Idle r w = absurd r
not_both (Waiting t kind) r w = absurd r
not_both (Next t) r w = absurd r
not_both (Reading t) r w = absurd w
not_both (Writing t) r w = absurd r
not_both (Closing t) r w = absurd r

-- who reads is in
in_to_read : (s : Stage) → IsReading s → IsIn s
in_to_read Idle r = absurd r
in_to_read (Waiting t kind) r = absurd r
in_to_read (Next t) r = absurd r
in_to_read (Reading t) r = tt
in_to_read (Writing t) r = absurd r
in_to_read (Closing t) r = absurd r

-- beside a reader none writes
none_beside : (views : List View) (seat : ℕ) (v : View) → IsAlone views → get_elem? views seat ≡ some v → IsReading v.stage → NoneWrites views
none_beside views seat v alone at reads j u e writes =
    let same : j ≡ seat = alone j seat u v e at writes (in_to_read v.stage reads) in
    let one : u ≡ v = some-injective u v (sym e ∙ (ap (get_elem? views) same ∙ at)) in
    not_both v.stage reads (subst (λ (x : View). IsWriting x.stage) one writes)

-- where none writes after a change of the view of a seat that did not write, none did before
none_before : (views : List View) (seat : ℕ) (v new : View) → get_elem? views seat ≡ some v → (IsWriting v.stage → ⊥) → NoneWrites (set views seat new) → NoneWrites views
none_before views seat v new at not_mine none j u e writes = dite (ℕ_discrete j seat)
    (λ same. not_mine (subst (λ (x : View). IsWriting x.stage) (some-injective u v (sym e ∙ (ap (get_elem? views) same ∙ at))) writes))
    (λ other. none j u (set_else views seat j new other ∙ e) writes)

-- one history with more sealed
one_history_on : (first : ClusterMap) (ahead more : List Step) (told : List Told) → Begins ahead more → IsOneHistory first ahead told → IsOneHistory first more told
one_history_on first ahead more [] b h = tt
one_history_on first ahead more (look seat k t ∷ told) b h = (h.0, h.1, begins_on k.pass.history ahead more h.2 b, h.3)
one_history_on first ahead more (change seat before s ∷ told) b h = (h.0, h.1, begins_on (before ++ s ∷ []) ahead more h.2 b, h.3)

-- what follows a beginning is what stands behind it
begins_next : (read rest : List Step) (s : Step) → slice_get (read ++ rest) (length read) ≡ Some s → Begins (read ++ s ∷ []) (read ++ rest)
begins_next [] [] s e = absurd (cc e)
begins_next [] (x ∷ rest) s e = (rest, ap (λ y. y ∷ rest) (sym (same_Some x s e)))
begins_next (r ∷ read) rest s e = let b = begins_next read rest s e in (b.0, ap (λ ys. r ∷ ys) b.1)

-- the same of a beginning of what is sealed
reads_on : (read sealed : List Step) (s : Step) → Begins read sealed → slice_get sealed (length read) ≡ Some s → Begins (read ++ s ∷ []) sealed
reads_on read sealed s b e = subst (Begins (read ++ s ∷ [])) b.1 (begins_next read b.0 s (ap (λ xs. slice_get xs (length read)) b.1 ∙ e))

-- what stands in a list in which one was put is that one, or stood there
put_or_there : {A : Type 0} (xs : List A) (i j : ℕ) (x y : A) → slice_get (set xs i x) j ≡ Some y → (y ≡ x) ⊎ (slice_get xs j ≡ Some y)
put_or_there [] i j x y e = inr e
put_or_there (z ∷ xs) zero zero x y e = inl (sym (same_Some x y e))
put_or_there (z ∷ xs) zero (suc j) x y e = inr e
put_or_there (z ∷ xs) (suc i) zero x y e = inr e
put_or_there (z ∷ xs) (suc i) (suc j) x y e = put_or_there xs i j x y e

-- what stands among copies is what was copied
copy_is : {A : Type 0} (n j : ℕ) (x y : A) → slice_get (replicate n x) j ≡ Some y → y ≡ x
copy_is zero j x y e = absurd (cc e)
copy_is (suc n) zero x y e = sym (same_Some x y e)
copy_is (suc n) (suc j) x y e = copy_is n j x y e

-- the epoch of the map after an incremental
epoch_applied : (m : ClusterMap) (s : Step) → (apply m s).epoch ≡ s.epoch
unfolding apply
epoch_applied m s = refl

-- the epoch of a lawful incremental by its place
epoch_by_place : (first : ClusterMap) (journal : List Step) (k : ℕ) (s : Step) → IsLawful first journal → slice_get journal k ≡ Some s → s.epoch ≡ first.epoch + 1 + k
unfolding IsLawful
epoch_by_place first [] k s lawful e = absurd (cc e)
epoch_by_place first (i ∷ journal) zero s lawful e = ap (λ (x : Step). x.epoch) (sym (same_Some i s e)) ∙ omega (arith, lawful.0)
epoch_by_place first (i ∷ journal) (suc k) s lawful e = omega (arith, lawful.0, epoch_applied first i, epoch_by_place (apply first i) journal k s lawful.2 e)

-- the last of a lawful journal
pub last_epoch_by_place : (first : ClusterMap) (before : List Step) (s : Step) → IsLawful first (before ++ s ∷ []) → s.epoch ≡ first.epoch + length before + 1
last_epoch_by_place first before s lawful = omega (arith, epoch_by_place first (before ++ s ∷ []) (length before) s lawful (last-shown before s (length before) refl))

-- a step at the words that is no leaving of a writer leaves the state present where it was
stays : (first : ClusterMap) (w : MonitorWorld) (s : LockStep) (seat : ℕ) (v : View) (words : LockWorld) → get_elem? w.lock.views seat ≡ some v → lock.Takes s w.lock seat v words
    → PutsBack first w s → (NoneWrites w.lock.views → IsPresent first w) → NoneWrites words.views → IsPresent first w
stays first w (lockstep.Draws kind) seat v words at t back was none = was (none_before w.lock.views seat v _ at (λ x. subst IsWriting t.0 x) (subst (λ (x : LockWorld). NoneWrites x.views) t.2 none))
stays first w lockstep.ReaderLooks seat v words at t back was none = was (none_before w.lock.views seat v _ at (λ x. subst IsWriting t.1 x) (subst (λ (x : LockWorld). NoneWrites x.views) t.2 none))
stays first w lockstep.WriterLooks seat v words at t back was none = was (none_before w.lock.views seat v _ at (λ x. subst IsWriting t.1 x) (subst (λ (x : LockWorld). NoneWrites x.views) t.2 none))
stays first w lockstep.ReaderEnters seat v words at t back was none = was (none_before w.lock.views seat v _ at (λ x. subst IsWriting t.1 x) (subst (λ (x : LockWorld). NoneWrites x.views) t.2 none))
stays first w lockstep.ReaderLeaves seat v words at t back was none = was (none_before w.lock.views seat v _ at (λ x. subst IsWriting t.1 x) (subst (λ (x : LockWorld). NoneWrites x.views) t.2 none))
stays first w lockstep.WriterCloses seat v words at t back was none = back
stays first w lockstep.WriterLeaves seat v words at t back was none = was (none_before w.lock.views seat v _ at (λ x. subst IsWriting t.1 x) (subst (λ (x : LockWorld). NoneWrites x.views) t.2 none))

-- each act of a seat keeps it
act_keeps : (first : ClusterMap) (a : Act) (w : MonitorWorld) (seat : ℕ) (v : View) (next : MonitorWorld) → get_elem? w.lock.views seat ≡ some v → Acts first a w seat v next → Holds first w → Holds first next
act_keeps first (at_lock s) w seat v next at d h =
    let rule = step_keeps s w.lock seat v d.0 h.rule at d.1 in
    subst (Holds first) (sym d.3) (record {
      rule = rule;
      alone = alone_writes d.0 rule;
      present = λ none. let p = stays first w s seat v d.0 at d.1 d.2 h.present none in record { kept = p.kept; from_first = p.from_first; journal = p.journal };
      lawful = h.lawful;
      told = h.told;
      followers = h.followers;
    })
act_keeps first looks w seat v next at d h =
    let p = h.present (none_beside w.lock.views seat v h.alone at d.0) in
    subst (Holds first) (sym d.1) (record {
      rule = h.rule;
      alone = h.alone;
      present = λ none. record { kept = p.kept; from_first = p.from_first; journal = p.journal };
      lawful = h.lawful;
      told = (
        p.kept,
        p.from_first,
        subst (Begins w.state.pass.history) p.journal (begins_itself w.state.pass.history),
        subst (λ x. IsOneHistory first x w.told) (sym p.journal) h.told,
      );
      followers = h.followers;
    })
act_keeps first (makes k t) w seat v next at d h = subst (Holds first) (sym d.1) (record {
  rule = h.rule;
  alone = h.alone;
  present = λ none. absurd (none seat v at d.0);
  lawful = h.lawful;
  told = h.told;
  followers = h.followers;
})
act_keeps first (seals s) w seat v next at d h =
    let longer : Begins w.sealed (w.sealed ++ s ∷ []) = (s ∷ [], refl) in
    subst (Holds first) (sym d.2) (record {
      rule = h.rule;
      alone = h.alone;
      present = λ none. absurd (none seat v at d.0);
      lawful = d.1;
      told = (d.1, last_epoch_by_place first w.sealed s d.1, begins_itself (w.sealed ++ s ∷ []), h.told);
      followers = λ j read is. begins_on read w.sealed (w.sealed ++ s ∷ []) (h.followers j read is) longer;
    })

-- so does each event
event_keeps : (first : ClusterMap) (e : Event) (w : MonitorWorld) (number : ℕ) (next : MonitorWorld) → Happens first e w number next → Holds first w → Holds first next
event_keeps first (acts a) w seat next d h = act_keeps first a w seat d.0 next d.1 d.2 h
event_keeps first follows w number next d h = subst (Holds first) (sym d.4) (record {
  rule = h.rule;
  alone = h.alone;
  present = λ none. let p = h.present none in record { kept = p.kept; from_first = p.from_first; journal = p.journal };
  lawful = h.lawful;
  told = h.told;
  followers = λ j read is. elim (put_or_there w.followers number j (d.0 ++ d.1 ∷ []) read is) [
    | inl new ↦ subst (λ x. Begins x w.sealed) (sym new) (reads_on d.0 w.sealed d.1 (h.followers number d.0 d.2) d.3)
    | inr old ↦ h.followers j read old
  ];
})

-- and every list of events
events_keep : (first : ClusterMap) (w : MonitorWorld) (events : List (Event × ℕ)) (last : MonitorWorld) → RunsTo first w events last → Holds first w → Holds first last
events_keep first w [] last run h = subst (Holds first) (sym run) h
events_keep first w (e ∷ events) last run h = events_keep first run.0 events last run.2 (event_keeps first e.0 w e.1 run.0 run.1 h)

-- a monitor as it is opened has it
opens : (first : ClusterMap) (row : Line) (table : TableFacts) (seats followers : ℕ) → seats ≤ 1024 → row.first ≡ first.epoch → IsTableOf table first → Holds first (opening first row table seats followers)
unfolding IsLawful
opens first row table seats followers few begins is_table = let k = starts seats few in record {
  rule = k;
  alone = alone_writes (start seats) k;
  present = λ none. record {
    kept = record { lawful = tt; begins = begins; map = refl; table = is_table };
    from_first = refl;
    journal = refl;
  };
  lawful = tt;
  told = tt;
  followers = λ j read is. subst (λ x. Begins x []) (sym (copy_is followers j [] read is)) ([], refl);
}

-- a table of a map shows it
shows : (t : TableFacts) (m : ClusterMap) → IsTableOf t m → ShowsMap t m
shows t m is = record {
  ups = λ g. up_shown t m g is;
  groups = λ osd. groups_shown t m osd is;
  counts = λ osd. ap length (groups_shown t m osd is);
  counts_in = λ pool osd. count_shown t m pool osd is;
}

-- the map of a state that is present
present_map : (first : ClusterMap) (w : MonitorWorld) → IsPresent first w → w.state.map ≡ after first w.sealed
present_map first w p = p.kept.map ∙ (ap (λ m. after m w.state.pass.history) p.from_first ∙ ap (after first) p.journal)

-- and what each event keeps is what the law says
pub sound : (first : ClusterMap) (row : Line) (table : TableFacts) (seats followers : ℕ) (events : List (Event × ℕ)) (last : MonitorWorld)
    → seats ≤ 1024 → row.first ≡ first.epoch → IsTableOf table first → RunsTo first (opening first row table seats followers) events last → IsSound first last
sound first row table seats followers events last few begins is_table run =
    let h = events_keep first (opening first row table seats followers) events last run (opens first row table seats followers few begins is_table) in record {
      alone = h.alone;
      map = λ none. present_map first last (h.present none);
      epochs = λ k s is. epoch_by_place first last.sealed k s h.lawful is;
      lawful = h.lawful;
      table = λ none. let p = h.present none in shows last.table (after first last.sealed) (subst (IsTableOf last.table) (present_map first last p) p.kept.table);
      told = h.told;
      followers = h.followers;
    }
