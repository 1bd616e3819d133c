-- Both draw to read, and one after the other looks and enters.
use Rattle.std.proofs.Common.{ℕ, [], ◌∷◌, refl, arith}
use Rattle.ticketlock.specs.declared.view.View.{View}
use Rattle.ticketlock.specs.declared.view.Kind.TheVariants.{Read}
use Rattle.ticketlock.specs.declared.view.Step.TheVariants.{Draws, ReaderLooks, ReaderEnters}
use Rattle.ticketlock.specs.Rule.{LockWorld, newcomer, drawn_for, looked_at, gone_in, with_view, draw_word_up, reader_word_up}
use Rattle.ticketlock.specs.Law.{start}
use Rattle.ticketlock.proofs.laws.sharing.Goals as goal

-- the views of the two seats on their way
abbrev drawn : ℕ → View
drawn t = drawn_for Read t newcomer

abbrev looked : ℕ → View
looked t = looked_at t (drawn t)

-- the worlds after each step
abbrev one_drawn : LockWorld
one_drawn = draw_word_up (start 2) 0 (drawn 0)

abbrev both_drawn : LockWorld
both_drawn = draw_word_up one_drawn 1 (drawn 1)

abbrev one_next : LockWorld
one_next = with_view both_drawn 0 (looked 0)

abbrev one_reads : LockWorld
one_reads = reader_word_up one_next 0 (gone_in (looked 0))

abbrev other_next : LockWorld
other_next = with_view one_reads 1 (looked 1)

abbrev both_read : LockWorld
both_read = reader_word_up other_next 1 (gone_in (looked 1))

pub returns : goal.returns
returns c = (
  (Draws Read, 0) ∷ (Draws Read, 1) ∷ (ReaderLooks, 0) ∷ (ReaderEnters, 0) ∷ (ReaderLooks, 1) ∷ (ReaderEnters, 1) ∷ [],
  both_read,
  (
    one_drawn,
    newcomer,
    refl,
    (refl, omega arith, refl),
    (
      both_drawn,
      newcomer,
      refl,
      (refl, omega arith, refl),
      (
        one_next,
        drawn 0,
        refl,
        (0, refl, refl),
        (
          one_reads,
          looked 0,
          refl,
          (0, refl, refl),
          (
            other_next,
            drawn 1,
            refl,
            (1, refl, refl),
            (both_read, looked 1, refl, (1, refl, refl), refl),
          ),
        ),
      ),
    ),
  ),
  gone_in (looked 0),
  gone_in (looked 1),
  refl,
  tt,
  tt,
)
