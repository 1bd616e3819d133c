-- What the table asks for each step on a word: it is one of the seven kinds, and keeps the rule.
use Rattle.std.proofs.Common.{◌≡◌, ℕ, ◌+◌, ◌%◌, ◌^◌, ◌<◌, [], ◌∷◌, ◌++◌, List, map, set, sym, refl, ap, subst, ◌∙◌, arith, slice_index, slice_set}
use mathlib.Core.Option.{some}
use lib.ListN.{get_elem?}
use Rattle.atomic_table.specs.Table.{Me, State, Allows, keeps}
use Rattle.ticketlock.specs.declared.view.View.{View}
use Rattle.ticketlock.specs.declared.view.Sight.{Sight}
use Rattle.ticketlock.specs.declared.view.Event.{Event}
use Rattle.ticketlock.specs.declared.view.Event.TheVariants.{Took}
use Rattle.ticketlock.specs.declared.view.Stage.TheVariants.{Idle, Waiting, Next, Reading, Writing, Closing}
use Rattle.ticketlock.specs.declared.view.Kind.{Kind}
use Rattle.ticketlock.specs.declared.view.Kind.TheVariants.{Read, Write}
use Rattle.ticketlock.specs.declared.view.Step.{Step}
use Rattle.ticketlock.specs.declared.view.Step.TheVariants.{Draws, ReaderLooks, WriterLooks, ReaderEnters, ReaderLeaves, WriterCloses, WriterLeaves}
use Rattle.ticketlock.specs.Rule.{LockWorld, Takes, drawn_for, looked_at, gone_in, gone_out}
use Rattle.ticketlock.specs.Traces.{world_with, view_in, AreKnown, IsReachedBy, IsTraced, HasTaken}
use Rattle.ticketlock.proofs.Steps.{few_draws}
use Rattle.ticketlock.proofs.Traced.{reached_keeps, reached_then}
use Rattle.ticketlock.proofs.KnownRuns.{sight_then, known_then, follows_then, view_at, view_then, views_set}

module _ (seats slots id : ℕ) (me : Me ℕ Sight) where
  -- a step of the seat from a traced table to these words: the table is traced again, and the seat knows the run
  goes : (s : State ℕ Sight) (line : IsTraced seats s) → get_elem? s.views id ≡ some me.0 → (step : Step) (v : View) (words : List ℕ) (U R W : ℕ) → words ≡ U ∷ R ∷ W ∷ []
      → Takes step (world_with line.0 line.1 line.2 (map view_in s.views)) id me.0.view (world_with U R W (set (map view_in s.views) id v))
      → (w : Sight) × IsTraced seats (record { words = words; homes = s.homes; views = set s.views id w }) × (w.view ≡ v) × HasTaken (step ∷ []) me.0 w
  goes s line at step v words U R W same takes =
      let events : List Event = line.4 in
      let views : List View = map view_in s.views in
      let reached = reached_then seats events (world_with line.0 line.1 line.2 views) step id me.0.view (world_with U R W (set views id v)) line.5 (view_at id me.0 events s.views line.6 at) takes in
      let w : Sight = sight_then id me.0 events s.views line.6 at step v in (
        w,
        (
          U,
          R,
          W,
          same,
          events ++ Took step id ∷ [],
          subst (λ (l : List View). IsReachedBy seats (events ++ Took step id ∷ []) (world_with U R W l)) (sym (views_set s.views id w)) reached,
          known_then id me.0 events s.views line.6 at step v,
        ),
        refl,
        follows_then id me.0 events s.views line.6 at seats step v (world_with U R W (set views id v)) reached (view_then id me.0 events s.views line.6 at v),
      )

  -- a draw for either kind
  draw : (kind : Kind) → me.0.view.stage ≡ Idle → me.0.view.draws < 2 ^ 40 → Allows (IsTraced seats) slots id me 0 (λ n. (n + 1) % 2 ^ 64) (λ n you. (you.1 ≡ me.1) × (you.0.view ≡ drawn_for kind n me.0.view) × HasTaken (Draws kind ∷ []) me.0 you.0)
  draw kind idle room s line len at fits =
      let w : LockWorld = world_with line.0 line.1 line.2 (map view_in s.views) in
      let found : slice_index s.words 0 ≡ line.0 = ap (λ ws. slice_index ws 0) line.3 in
      let few = few_draws w (reached_keeps seats line.4 w line.5) in
      let whole : (line.0 + 1) % 2 ^ 64 ≡ line.0 + 1 = omega arith in
      let g = goes s line at (Draws kind) (drawn_for kind line.0 me.0.view) (slice_set s.words 0 ((slice_index s.words 0 + 1) % 2 ^ 64)) (line.0 + 1) line.1 line.2
      (ap (λ ws. slice_set ws 0 ((slice_index ws 0 + 1) % 2 ^ 64)) line.3 ∙ ap (λ (n : ℕ). n ∷ line.1 ∷ line.2 ∷ []) whole) (idle, room, refl) in
      (g.0, keeps, tt, g.1, (refl, g.2 ∙ ap (λ (n : ℕ). drawn_for kind n me.0.view) (sym found), g.3))

  -- a draw to read
  pub may_draw_read : me.0.view.stage ≡ Idle → me.0.view.draws < 2 ^ 40 → Allows (IsTraced seats) slots id me 0 (λ n. (n + 1) % 2 ^ 64) (λ n you. (you.1 ≡ me.1) × (you.0.view ≡ drawn_for Read n me.0.view) × HasTaken (Draws Read ∷ []) me.0 you.0)
  may_draw_read = draw Read

  -- a draw to write
  pub may_draw_write : me.0.view.stage ≡ Idle → me.0.view.draws < 2 ^ 40 → Allows (IsTraced seats) slots id me 0 (λ n. (n + 1) % 2 ^ 64) (λ n you. (you.1 ≡ me.1) × (you.0.view ≡ drawn_for Write n me.0.view) × HasTaken (Draws Write ∷ []) me.0 you.0)
  may_draw_write = draw Write

  -- a reader's look
  pub may_look_read : (t : ℕ) → me.0.view.stage ≡ Waiting t Read → Allows (IsTraced seats) slots id me 1 (λ n. n) (λ n you. (you.1 ≡ me.1) × (you.0.view ≡ looked_at n me.0.view) × HasTaken (ReaderLooks ∷ []) me.0 you.0)
  may_look_read t waits s line len at fits =
      let found : slice_index s.words 1 ≡ line.1 = ap (λ ws. slice_index ws 1) line.3 in
      let g = goes s line at ReaderLooks (looked_at line.1 me.0.view) (slice_set s.words 1 (slice_index s.words 1)) line.0 line.1 line.2 (ap (λ ws. slice_set ws 1 (slice_index ws 1)) line.3) (t, waits, refl) in
      (g.0, keeps, tt, g.1, (refl, g.2 ∙ ap (λ (n : ℕ). looked_at n me.0.view) (sym found), g.3))

  -- a writer's look
  pub may_look_write : (t : ℕ) → me.0.view.stage ≡ Waiting t Write → Allows (IsTraced seats) slots id me 2 (λ n. n) (λ n you. (you.1 ≡ me.1) × (you.0.view ≡ looked_at n me.0.view) × HasTaken (WriterLooks ∷ []) me.0 you.0)
  may_look_write t waits s line len at fits =
      let found : slice_index s.words 2 ≡ line.2 = ap (λ ws. slice_index ws 2) line.3 in
      let g = goes s line at WriterLooks (looked_at line.2 me.0.view) (slice_set s.words 2 (slice_index s.words 2)) line.0 line.1 line.2 (ap (λ ws. slice_set ws 2 (slice_index ws 2)) line.3) (t, waits, refl) in
      (g.0, keeps, tt, g.1, (refl, g.2 ∙ ap (λ (n : ℕ). looked_at n me.0.view) (sym found), g.3))

  -- an add to the reader word by which the seat goes in
  enters : (step : Step) → ((w : LockWorld) → Takes step w id me.0.view (world_with w.draw_word (w.reader_word + 1) w.writer_word (set w.views id (gone_in me.0.view))))
      → Allows (IsTraced seats) slots id me 1 (λ n. (n + 1) % 2 ^ 64) (λ n you. (you.1 ≡ me.1) × (you.0.view ≡ gone_in me.0.view) × HasTaken (step ∷ []) me.0 you.0)
  enters step takes s line len at fits =
      let w : LockWorld = world_with line.0 line.1 line.2 (map view_in s.views) in
      let kept = reached_keeps seats line.4 w line.5 in
      let few = few_draws w kept in
      let o = kept.order.1 in
      let whole : (line.1 + 1) % 2 ^ 64 ≡ line.1 + 1 = omega arith in
      let g = goes s line at step (gone_in me.0.view) (slice_set s.words 1 ((slice_index s.words 1 + 1) % 2 ^ 64)) line.0 (line.1 + 1) line.2
      (ap (λ ws. slice_set ws 1 ((slice_index ws 1 + 1) % 2 ^ 64)) line.3 ∙ ap (λ (n : ℕ). line.0 ∷ n ∷ line.2 ∷ []) whole) (takes w) in
      (g.0, keeps, tt, g.1, (refl, g.2, g.3))

  -- an add to the writer word by which the seat goes out
  leaves : (step : Step) → ((w : LockWorld) → Takes step w id me.0.view (world_with w.draw_word w.reader_word (w.writer_word + 1) (set w.views id (gone_out me.0.view))))
      → Allows (IsTraced seats) slots id me 2 (λ n. (n + 1) % 2 ^ 64) (λ n you. (you.1 ≡ me.1) × (you.0.view ≡ gone_out me.0.view) × HasTaken (step ∷ []) me.0 you.0)
  leaves step takes s line len at fits =
      let w : LockWorld = world_with line.0 line.1 line.2 (map view_in s.views) in
      let kept = reached_keeps seats line.4 w line.5 in
      let few = few_draws w kept in
      let o = kept.order.0 in
      let p = kept.order.1 in
      let whole : (line.2 + 1) % 2 ^ 64 ≡ line.2 + 1 = omega arith in
      let g = goes s line at step (gone_out me.0.view) (slice_set s.words 2 ((slice_index s.words 2 + 1) % 2 ^ 64)) line.0 line.1 (line.2 + 1)
      (ap (λ ws. slice_set ws 2 ((slice_index ws 2 + 1) % 2 ^ 64)) line.3 ∙ ap (λ (n : ℕ). line.0 ∷ line.1 ∷ n ∷ []) whole) (takes w) in
      (g.0, keeps, tt, g.1, (refl, g.2, g.3))

  -- a reader enters
  pub may_enter : (t : ℕ) → me.0.view.stage ≡ Next t → Allows (IsTraced seats) slots id me 1 (λ n. (n + 1) % 2 ^ 64) (λ n you. (you.1 ≡ me.1) × (you.0.view ≡ gone_in me.0.view) × HasTaken (ReaderEnters ∷ []) me.0 you.0)
  may_enter t next = enters ReaderEnters (λ w. (t, next, refl))

  -- a writer leaves, first step
  pub may_close : (t : ℕ) → me.0.view.stage ≡ Writing t → Allows (IsTraced seats) slots id me 1 (λ n. (n + 1) % 2 ^ 64) (λ n you. (you.1 ≡ me.1) × (you.0.view ≡ gone_in me.0.view) × HasTaken (WriterCloses ∷ []) me.0 you.0)
  may_close t writes = enters WriterCloses (λ w. (t, writes, refl))

  -- a reader leaves
  pub may_leave : (t : ℕ) → me.0.view.stage ≡ Reading t → Allows (IsTraced seats) slots id me 2 (λ n. (n + 1) % 2 ^ 64) (λ n you. (you.1 ≡ me.1) × (you.0.view ≡ gone_out me.0.view) × HasTaken (ReaderLeaves ∷ []) me.0 you.0)
  may_leave t reads = leaves ReaderLeaves (λ w. (t, reads, refl))

  -- a writer leaves, second step
  pub may_end : (t : ℕ) → me.0.view.stage ≡ Closing t → Allows (IsTraced seats) slots id me 2 (λ n. (n + 1) % 2 ^ 64) (λ n you. (you.1 ≡ me.1) × (you.0.view ≡ gone_out me.0.view) × HasTaken (WriterLeaves ∷ []) me.0 you.0)
  may_end t closes = leaves WriterLeaves (λ w. (t, closes, refl))
