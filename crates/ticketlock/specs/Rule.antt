-- The lock as a table: its words, the views of its seats, the seven kinds of step, and the rule of five points that
-- each step keeps.
use Rattle.std.specs.Prelude.{◌≡◌, ℕ, ◌+◌, ◌^◌, ◌<◌, ◌≤◌, ◌==◌, List, [], ◌∷◌, length, if◌then◌else◌, slice_set}
use mathlib.Core.Option.{some}
use lib.ListN.{get_elem?}
use Rattle.ticketlock.specs.declared.view.View.{View}
use Rattle.ticketlock.specs.declared.view.Kind.{Kind}
use Rattle.ticketlock.specs.declared.view.Kind.TheVariants.{Read, Write}
use Rattle.ticketlock.specs.declared.view.Stage.{Stage}
use Rattle.ticketlock.specs.declared.view.Stage.TheVariants.{Idle, Waiting, Next, Reading, Writing, Closing}
use Rattle.ticketlock.specs.declared.view.Step.{Step}
use Rattle.ticketlock.specs.declared.view.Step.TheVariants.{Draws, ReaderLooks, WriterLooks, ReaderEnters, ReaderLeaves, WriterCloses, WriterLeaves}

-- THE WORDS AND THE VIEWS
-- Three words, each a ticket: the draw word (U below) is the next to be drawn, the reader word (R) the one that may
-- enter to read, the writer word (W) the one that may enter to write. The view of each seat stands at the seat's
-- number. A seat without a ticket is idle; with the ticket t it waits to read or to write, is next, reads, writes or
-- closes.
pub record LockWorld : Type 0 where
  pub draw_word : ℕ
  pub reader_word : ℕ
  pub writer_word : ℕ
  pub views : List View

-- the view of a seat that has made no step
abbrev pub newcomer : View
newcomer = record { stage = Idle; draws = 0; looks = 0; noted = 0; spare = 0 }

-- WHAT A STEP MAKES OF THE VIEW OF ITS SEAT
-- a look at the word n lets a waiting seat on where n is its ticket: a reader is next, a writer writes
abbrev pub let_on : ℕ → Stage → Stage
let_on n Idle = Idle
let_on n (Waiting t Read) = if n == t then Next t else Waiting t Read
let_on n (Waiting t Write) = if n == t then Writing t else Waiting t Write
let_on n (Next t) = Next t
let_on n (Reading t) = Reading t
let_on n (Writing t) = Writing t
let_on n (Closing t) = Closing t

-- an add to R: who is next reads, and who writes closes
abbrev pub moved_on : Stage → Stage
moved_on Idle = Idle
moved_on (Waiting t kind) = Waiting t kind
moved_on (Next t) = Reading t
moved_on (Reading t) = Reading t
moved_on (Writing t) = Closing t
moved_on (Closing t) = Closing t

-- a draw that found the ticket n
abbrev pub drawn_for : Kind → ℕ → View → View
drawn_for kind n v = record v { stage = Waiting n kind; draws = v.draws + 1 }

-- a look that found the word n
abbrev pub looked_at : ℕ → View → View
looked_at n v = record v { stage = let_on n v.stage; looks = v.looks + 1; noted = n }

-- an add to R
abbrev pub gone_in : View → View
gone_in v = record v { stage = moved_on v.stage }

-- an add to W
abbrev pub gone_out : View → View
gone_out v = record v { stage = Idle }

-- THE SEVEN KINDS OF STEP
-- the world where the seat has the view v and no other seat another, with the words as they were
abbrev pub with_view : LockWorld → ℕ → View → LockWorld
with_view w seat v = record w { views = slice_set w.views seat v }

-- the same with U one more, R one more, W one more
abbrev pub draw_word_up : LockWorld → ℕ → View → LockWorld
draw_word_up w seat v = record w { draw_word = w.draw_word + 1; views = slice_set w.views seat v }

-- the same with R one more
abbrev pub reader_word_up : LockWorld → ℕ → View → LockWorld
reader_word_up w seat v = record w { reader_word = w.reader_word + 1; views = slice_set w.views seat v }

-- the same with W one more
abbrev pub writer_word_up : LockWorld → ℕ → View → LockWorld
writer_word_up w seat v = record w { writer_word = w.writer_word + 1; views = slice_set w.views seat v }

-- The seat of the view v takes such a step from the world w to the world next
--   draw                   U + 1    Idle to Waiting(U, kind), below the limit of draws; one more draw
--   reader's look          load R   Waiting(t, Read) to Next(t) where R = t, else kept; one more look, R noted
--   writer's look          load W   Waiting(t, Write) to Writing(t) where W = t, else kept; one more look, W noted
--   reader enters          R + 1    Next(t) to Reading(t)
--   reader leaves          W + 1    Reading(t) to Idle
--   writer leaves, first   R + 1    Writing(t) to Closing(t)
--   writer leaves, second  W + 1    Closing(t) to Idle
abbrev pub Takes : Step → LockWorld → ℕ → View → LockWorld → Type 0
Takes (Draws kind) w seat v next =
    (v.stage ≡ Idle) × (v.draws < 2 ^ 40) × (next ≡ draw_word_up w seat (drawn_for kind w.draw_word v))
Takes ReaderLooks w seat v next =
    (t : ℕ) × (v.stage ≡ Waiting t Read) × (next ≡ with_view w seat (looked_at w.reader_word v))
Takes WriterLooks w seat v next =
    (t : ℕ) × (v.stage ≡ Waiting t Write) × (next ≡ with_view w seat (looked_at w.writer_word v))
Takes ReaderEnters w seat v next = (t : ℕ) × (v.stage ≡ Next t) × (next ≡ reader_word_up w seat (gone_in v))
Takes ReaderLeaves w seat v next = (t : ℕ) × (v.stage ≡ Reading t) × (next ≡ writer_word_up w seat (gone_out v))
Takes WriterCloses w seat v next = (t : ℕ) × (v.stage ≡ Writing t) × (next ≡ reader_word_up w seat (gone_in v))
Takes WriterLeaves w seat v next = (t : ℕ) × (v.stage ≡ Closing t) × (next ≡ writer_word_up w seat (gone_out v))

-- THE RULE
-- f of each view, added up
abbrev pub total : (View → ℕ) → List View → ℕ
total f [] = 0
total f (v ∷ vs) = f v + total f vs

-- each view has it
abbrev pub Each : (View → Type 0) → List View → Type 0
Each P views = (seat : ℕ) (v : View) → get_elem? views seat ≡ some v → P v

-- 1 where the seat waits, is next or writes with the ticket t, and else 0
abbrev pub has : ℕ → Stage → ℕ
has t Idle = 0
has t (Waiting k kind) = if k == t then 1 else 0
has t (Next k) = if k == t then 1 else 0
has t (Reading k) = 0
has t (Writing k) = if k == t then 1 else 0
has t (Closing k) = 0

-- 1 where the seat reads or closes, and else 0
abbrev pub inside : Stage → ℕ
inside Idle = 0
inside (Waiting k kind) = 0
inside (Next k) = 0
inside (Reading k) = 1
inside (Writing k) = 0
inside (Closing k) = 1

-- how many seats wait, are next or write with the ticket t
abbrev pub holders : ℕ → List View → ℕ
holders t views = total (λ v. has t v.stage) views

-- who is next has the ticket R; who writes has the ticket R, and W is the same
abbrev pub IsInTurn : ℕ → ℕ → Stage → Type 0
IsInTurn reader_word writer_word Idle = Unit {0}
IsInTurn reader_word writer_word (Waiting t kind) = Unit {0}
IsInTurn reader_word writer_word (Next t) = reader_word ≡ t
IsInTurn reader_word writer_word (Reading t) = Unit {0}
IsInTurn reader_word writer_word (Writing t) = (reader_word ≡ t) × (writer_word ≡ t)
IsInTurn reader_word writer_word (Closing t) = Unit {0}

-- each ticket from R up to below U is held once, and no other is
pub record IsHeldOnce (w : LockWorld) : Type 0 where
  pub once : (t : ℕ) → w.reader_word ≤ t → t < w.draw_word → holders t w.views ≡ 1
  pub none_past : (t : ℕ) → t < w.reader_word → holders t w.views ≡ 0
  pub none_yet : (t : ℕ) → w.draw_word ≤ t → holders t w.views ≡ 0

-- U counts all draws, each seat's at most 2^40; and there are at most 1,024 seats with those that may still be cut off
pub record CountsDraws (w : LockWorld) : Type 0 where
  pub sum : w.draw_word ≡ total (λ v. v.draws) w.views
  pub limit : Each (λ v. v.draws ≤ 2 ^ 40) w.views
  pub seats : length w.views + total (λ v. v.spare) w.views ≤ 1024

-- The five points
pub record KeepsRule (w : LockWorld) : Type 0 where
  -- W is at most R, and R at most U
  pub order : (w.writer_word ≤ w.reader_word) × (w.reader_word ≤ w.draw_word)
  -- each ticket from R up to below U is held once, and no other is
  pub tickets : IsHeldOnce w
  -- those who read or close number R - W
  pub insiders : w.writer_word + total (λ v. inside v.stage) w.views ≡ w.reader_word
  -- who is next has the ticket R; who writes has the ticket R, and W is the same
  pub served : Each (λ v. IsInTurn w.reader_word w.writer_word v.stage) w.views
  -- U is the sum of all draws, each seat's at most 2^40
  pub counted : CountsDraws w
