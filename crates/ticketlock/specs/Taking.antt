-- The steps of seats as the law's: which word each finds and which it moves, in every world in which the seat stands as
-- before the step.
use Rattle.std.specs.Prelude.{◌≡◌, ℕ}
use Rattle.ticketlock.specs.declared.view.Kind.{Kind}
use Rattle.ticketlock.specs.declared.table.Place.{Place}
use Rattle.ticketlock.specs.declared.view.Step.TheVariants.{Draws, ReaderLooks, WriterLooks, ReaderEnters, ReaderLeaves, WriterCloses, WriterLeaves}
use Rattle.ticketlock.specs.Rule.{LockWorld, Takes, with_view, draw_word_up, reader_word_up, writer_word_up}
use Rattle.ticketlock.specs.Standing.{view_of}

-- a draw that found the draw word n, which it moves by one
abbrev pub IsDraw : Kind → ℕ → Place → Place → Type 0
IsDraw kind n p q = (w : LockWorld) (seat : ℕ) → w.draw_word ≡ n
    → Takes (Draws kind) w seat (view_of p) (draw_word_up w seat (view_of q))

-- a look that found the reader word n, and moves none
abbrev pub IsReaderLook : ℕ → Place → Place → Type 0
IsReaderLook n p q = (w : LockWorld) (seat : ℕ) → w.reader_word ≡ n
    → Takes ReaderLooks w seat (view_of p) (with_view w seat (view_of q))

-- a look that found the writer word n, and moves none
abbrev pub IsWriterLook : ℕ → Place → Place → Type 0
IsWriterLook n p q = (w : LockWorld) (seat : ℕ) → w.writer_word ≡ n
    → Takes WriterLooks w seat (view_of p) (with_view w seat (view_of q))

-- a reader enters: the reader word moves by one
abbrev pub IsEntry : Place → Place → Type 0
IsEntry p q = (w : LockWorld) (seat : ℕ) → Takes ReaderEnters w seat (view_of p) (reader_word_up w seat (view_of q))

-- a reader leaves: the writer word moves by one
abbrev pub IsReaderLeave : Place → Place → Type 0
IsReaderLeave p q =
    (w : LockWorld) (seat : ℕ) → Takes ReaderLeaves w seat (view_of p) (writer_word_up w seat (view_of q))

-- a writer leaves, first step: the reader word moves by one
abbrev pub IsWriterClose : Place → Place → Type 0
IsWriterClose p q =
    (w : LockWorld) (seat : ℕ) → Takes WriterCloses w seat (view_of p) (reader_word_up w seat (view_of q))

-- a writer leaves, second step: the writer word moves by one
abbrev pub IsWriterLeave : Place → Place → Type 0
IsWriterLeave p q =
    (w : LockWorld) (seat : ℕ) → Takes WriterLeaves w seat (view_of p) (writer_word_up w seat (view_of q))
