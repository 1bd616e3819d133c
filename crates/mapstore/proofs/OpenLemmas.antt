-- What is known of a store that was opened.
use Rattle.std.proofs.Common.{◌≡◌, ◌∙◌, ℕ, ◌+◌, ◌≤◌, ◌==◌, ◌&&◌, Bool, true, false, List, [], ◌∷◌, Option, Some, None, if◌then◌else◌, Result, Ok, Err, IfOk, refl, sym, ap, subst, arith}
use Rattle.std.specs.List.{All, AllZip}
use Rattle.std.proofs.lemmas.Bool.Decides.{nat_tests}
use Rattle.std.proofs.lemmas.List.{append-nil}
use Rattle.std.proofs.lemmas.List.Elements.{All-nil, All-cons, All-head, All-tail}
use Rattle.refusal.specs.declared.refused.Refusal.{Refusal}
use Rattle.mapparts.specs.declared.profile.Profile.TheVariants.{Stock}
use Rattle.maptypes.specs.Incrementals.{Step}
use Rattle.osdmap.specs.Maps.{ClusterMap}
use Rattle.osdmap.specs.Changes.{apply, after}
use Rattle.replay.specs.declared.row.Row.{Row}
use Rattle.replay.specs.Replays.{MakesStep, StandFor}
use Rattle.sqlite.specs.Store.{Ghosts}
use Rattle.journalstore.specs.Stores.{Holds}
use Rattle.journalstore.specs.Texts.{Entry, Texts}
use Rattle.mapjson.specs.Written.{written}
use Rattle.mapjson.proofs.OneText.{one_map}
use Rattle.mapstore.specs.JournalTexts.{with_steps, begun, IsTextedMap, IsTextedStep}
use Rattle.mapstore.specs.Openings.{IsRow, IsMapOf}
use Rattle.mapstore.specs.Stores.{HoldsJournal, past_of, texts_of}
use Rattle.mapstore.specs.declared.store.MapStore.{MapStore}

-- what follows of a value from two facts of it
pub of_both : {T E : Type 0} (r : Result T E) (P Q R : T → Type 0) → ((x : T) → P x → Q x → R x) → IfOk r P → IfOk r Q → IfOk r R
of_both (Ok x) P Q R so first second = so x first second
of_both (Err e) P Q R so first second = first

-- a choice that refuses nothing did not refuse
none_wrong : (b : Bool) (x : Option Refusal) (e : Refusal) → (if b then x else Some e) ≡ None → b ≡ true
none_wrong true x e none = refl
none_wrong false x e none = absurd (cc)

-- what a row makes has the next epoch
next_epoch : (m : ClusterMap) (row : Row) (step : Step) → MakesStep Stock m row step → row.epoch ≡ m.epoch + 1
next_epoch m row step makes =
    let tests = none_wrong (makes.base == m.epoch && row.epoch == m.epoch + 1) _ _ makes.sound in
    grind (arith, nat_tests, tests)

-- a change makes the map of its own epoch
epoch_made : (m : ClusterMap) (step : Step) → (apply m step).epoch ≡ step.epoch
unfolding apply
epoch_made m step = refl

-- no epoch falls as rows are made
epochs_rise : (m : ClusterMap) (rows : List Row) (steps : List Step) → StandFor Stock m rows steps → m.epoch ≤ (after m steps).epoch
unfolding StandFor
epochs_rise m [] [] stand = omega arith
epochs_rise m [] (s ∷ steps) stand = absurd stand
epochs_rise m (r ∷ rows) [] stand = absurd stand
epochs_rise m (r ∷ rows) (s ∷ steps) stand =
    let rest = epochs_rise (apply m s) rows steps stand.1 in
    let next = next_epoch m r s stand.0 in
    let made : (apply m s).epoch ≡ r.epoch = epoch_made m s ∙ stand.0.epoch in
    omega (arith, rest, next, made)

-- no row has an epoch above that of the map after all
rows_within : (m : ClusterMap) (rows : List Row) (steps : List Step) → StandFor Stock m rows steps → All (λ (r : Row). r.epoch ≤ (after m steps).epoch) rows
unfolding StandFor
rows_within m [] [] stand = All-nil (λ (r : Row). r.epoch ≤ m.epoch)
rows_within m [] (s ∷ steps) stand = absurd stand
rows_within m (r ∷ rows) [] stand = absurd stand
rows_within m (r ∷ rows) (s ∷ steps) stand =
    let rest = epochs_rise (apply m s) rows steps stand.1 in
    let made : (apply m s).epoch ≡ r.epoch = epoch_made m s ∙ stand.0.epoch in
    All-cons (λ (x : Row). x.epoch ≤ (after (apply m s) steps).epoch) r rows (omega (arith, rest, made)) (rows_within (apply m s) rows steps stand.1)

-- nor has an entry of which one is the row
entries_within : (n : ℕ) (entries : List Entry) (rows : List Row) → AllZip IsRow entries rows → All (λ (r : Row). r.epoch ≤ n) rows → All (λ (e : Entry). e.0 ≤ n) entries
entries_within n [] [] are within = All-nil (λ (e : Entry). e.0 ≤ n)
entries_within n [] (r ∷ rows) are within = absurd are
entries_within n (e ∷ entries) [] are within = absurd are
entries_within n (e ∷ entries) (r ∷ rows) are within =
    let here : r.epoch ≤ n = All-head (λ (x : Row). x.epoch ≤ n) r rows within in
    let same = are.0.epoch in
    All-cons (λ (x : Entry). x.0 ≤ n) e entries (omega (arith, here, same)) (entries_within n entries rows are.1 (All-tail (λ (x : Row). x.epoch ≤ n) r rows within))

-- no change of texts has an epoch above that of the map that they stand for
pub texts_within : (t : Texts) (m : ClusterMap) → IsMapOf t m → All (λ (e : Entry). e.0 ≤ m.epoch) t.changes
texts_within t m stands =
    let (begins, states, made, stand, is) = stands.stands in
    let within = rows_within begins stands.rows made stand in
    entries_within m.epoch t.changes stands.rows stands.are (subst (λ (n : ClusterMap). All (λ (r : Row). r.epoch ≤ n.epoch) stands.rows) (sym is) within)

-- texts with none behind them are themselves
pub behind_none : (t : Texts) → with_steps t [] ≡ t
behind_none t = ap (λ (changes : List Entry). record t { changes = changes }) (append-nil t.changes)

-- a store that holds the texts that were found holds the journal that begins with their map
pub held_first : {S : Type 0} (g : Ghosts S) (store : MapStore S) (t : Texts) (m : ClusterMap) → past_of store ≡ t → store.found.value.map ≡ m → IsMapOf t m → Holds g store.texts t → store.last ≡ m.epoch
    → HoldsJournal g store (begun m)
held_first g store t m past found stands holds last =
    let none : texts_of store (begun m) ≡ t = behind_none (past_of store) ∙ past in
    let within : All (λ (e : Entry). e.0 ≤ store.last) t.changes = subst (λ n. All (λ (e : Entry). e.0 ≤ n) t.changes) (sym last) (texts_within t m stands) in
    record {
      texts = subst (Holds g store.texts) (sym none) holds;
      begins = record { first = sym found; stands = subst (λ (x : Texts). IsMapOf x m) (sym past) stands; steps = All-nil IsTextedStep };
      last = subst (λ (x : Texts). All (λ (e : Entry). e.0 ≤ store.last) x.changes) (sym none) within;
    }

-- maps with one text are one, where their texts state them
pub same_maps : (m n : ClusterMap) → IsTextedMap m → IsTextedMap n → written m ≡ written n → m ≡ n
same_maps m n first second same = one_map m n first.holds second.holds first.states second.states same
