-- Events by which one seat makes a change and looks at it, and a follower reads it.
use Rattle.std.proofs.Common.{◌≡◌, ℕ, List, [], ◌∷◌, None, slice_set, refl, arith}
use Rattle.ticketlock.specs.declared.view.View.{View}
use Rattle.ticketlock.specs.declared.view.Kind.TheVariants.{Read, Write}
use Rattle.ticketlock.specs.declared.view.Step.TheVariants.{Draws, ReaderLooks, WriterLooks, ReaderEnters, WriterCloses, WriterLeaves}
use Rattle.ticketlock.specs.Rule.{LockWorld, newcomer, drawn_for, looked_at, gone_in, gone_out, with_view, draw_word_up, reader_word_up, writer_word_up}
use Rattle.ticketlock.specs.Law.{start}
use Rattle.maptypes.specs.Incrementals.{Step}
use Rattle.maptypes.specs.declared.change.ChangeParts.{ChangeParts}
use Rattle.osdmap.specs.Maps.{ClusterMap}
use Rattle.osdmap.specs.Evals.{evals_of}
use Rattle.osdmap.specs.Changes.{IsLawful, after, change_fault}
use Rattle.epochlog.specs.Epochs.{Line}
use Rattle.pgtable.specs.Tables.{TableFacts, IsTableOf}
use Rattle.state.specs.States.{StateFacts, opened as begun, ran, committed, next_step}
use Rattle.monitor_laws.specs.World.{MonitorWorld, IsPresent, Event, at_lock, looks, makes, seals, acts, follows, with_look, with_sealed}
use Rattle.monitor_laws.specs.Law.{opening, RunsTo, HasEvents}

-- the views of the one seat on its way
abbrev waits : View
waits = drawn_for Write 0 newcomer

abbrev writes : View
writes = looked_at 0 waits

abbrev closes : View
closes = gone_in writes

abbrev done : View
done = gone_out closes

abbrev waits_again : View
waits_again = drawn_for Read 1 done

abbrev is_next : View
is_next = looked_at 1 waits_again

-- and the lock's worlds with them
abbrev drawn : LockWorld
drawn = draw_word_up (start 1) 0 waits

abbrev writing : LockWorld
writing = with_view drawn 0 writes

abbrev closing : LockWorld
closing = reader_word_up writing 0 closes

abbrev left : LockWorld
left = writer_word_up closing 0 done

abbrev drawn_again : LockWorld
drawn_again = draw_word_up left 0 waits_again

abbrev let_in : LockWorld
let_in = with_view drawn_again 0 is_next

abbrev reading : LockWorld
reading = reader_word_up let_in 0 (gone_in is_next)

module _ (first : ClusterMap) (row : Line) (table other : TableFacts) (parts : ChangeParts) where
  -- the incremental, and the state after it
  abbrev step : Step
  step = next_step first parts

  abbrev present : StateFacts
  present = ran (evals_of (after first (step ∷ [])) parts) (committed (begun first row) parts)

  -- the worlds after the events
  abbrev opened : MonitorWorld
  opened = opening first row table 1 1

  abbrev w_drawn : MonitorWorld
  w_drawn = record opened { lock = drawn }

  abbrev w_writing : MonitorWorld
  w_writing = record w_drawn { lock = writing }

  abbrev w_sealed : MonitorWorld
  w_sealed = with_sealed w_writing 0 step

  abbrev w_made : MonitorWorld
  w_made = record w_sealed { state = present; table = other }

  abbrev w_closing : MonitorWorld
  w_closing = record w_made { lock = closing }

  abbrev w_left : MonitorWorld
  w_left = record w_closing { lock = left }

  abbrev w_drawn_again : MonitorWorld
  w_drawn_again = record w_left { lock = drawn_again }

  abbrev w_let_in : MonitorWorld
  w_let_in = record w_drawn_again { lock = let_in }

  abbrev w_reading : MonitorWorld
  w_reading = record w_let_in { lock = reading }

  abbrev w_looked : MonitorWorld
  w_looked = with_look w_reading 0

  abbrev w_followed : MonitorWorld
  w_followed = record w_looked { followers = slice_set w_looked.followers 0 (step ∷ []) }

  abbrev events : List (Event × ℕ)
  events =
      (acts (at_lock (Draws Write)), 0) ∷ (acts (at_lock WriterLooks), 0) ∷ (acts (seals step), 0) ∷ (acts (makes present other), 0)
      ∷ (acts (at_lock WriterCloses), 0) ∷ (acts (at_lock WriterLeaves), 0) ∷ (acts (at_lock (Draws Read)), 0)
      ∷ (acts (at_lock ReaderLooks), 0) ∷ (acts (at_lock ReaderEnters), 0) ∷ (acts looks, 0) ∷ (follows, 0) ∷ []

  -- the change is lawful
  lawful : change_fault first parts ≡ None → IsLawful first (step ∷ [])
  unfolding IsLawful
  lawful accepted = (refl, accepted, tt)

  -- each event leads on
  runs : row.first ≡ first.epoch → IsTableOf table first → change_fault first parts ≡ None → IsTableOf other (after first (step ∷ [])) → RunsTo first opened events w_followed
  runs begins is_table accepted is_other =
      let back : IsPresent first w_made = record { kept = record { lawful = lawful accepted; begins = begins; map = refl; table = is_other }; from_first = refl; journal = refl } in (
        w_drawn,
        (newcomer, refl, (drawn, (refl, omega arith, refl), tt, refl)),
        (
          w_writing,
          (waits, refl, (writing, (0, refl, refl), tt, refl)),
          (
            w_sealed,
            (writes, refl, (tt, lawful accepted, refl)),
            (
              w_made,
              (writes, refl, (tt, refl)),
              (
                w_closing,
                (writes, refl, (closing, (0, refl, refl), back, refl)),
                (
                  w_left,
                  (closes, refl, (left, (0, refl, refl), tt, refl)),
                  (
                    w_drawn_again,
                    (done, refl, (drawn_again, (refl, omega arith, refl), tt, refl)),
                    (
                      w_let_in,
                      (waits_again, refl, (let_in, (1, refl, refl), tt, refl)),
                      (
                        w_reading,
                        (is_next, refl, (reading, (1, refl, refl), tt, refl)),
                        (
                          w_looked,
                          (gone_in is_next, refl, (tt, refl)),
                          (w_followed, ([], step, refl, refl, refl), refl),
                        ),
                      ),
                    ),
                  ),
                ),
              ),
            ),
          ),
        ),
      )

-- so there are such events
pub some_events : HasEvents
some_events first row table other parts begins is_table accepted is_other =
    (events first row table other parts, w_followed first row table other parts, runs first row table other parts begins is_table accepted is_other, refl, refl, refl)
