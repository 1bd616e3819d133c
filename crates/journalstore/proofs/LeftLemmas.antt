-- Which texts a crash may leave.
use Rattle.std.proofs.Common.{◌≡◌, ◌⊎◌, inl, inr}
use Rattle.sqlite.specs.Store.{Ghosts}
use Rattle.journalstore.specs.Texts.{Texts, StandsFor}
use Rattle.journalstore.specs.Stores.{Holds, Leaves, MayLeave}
use Rattle.journalstore.specs.declared.store.TextStore.{TextStore}
use Rattle.journalstore.proofs.EntryLemmas.{one_text}

-- of a store that holds texts a crash leaves those and no others
pub left_of_held : {S : Type 0} (g : Ghosts S) (store : TextStore S) (t left : Texts) → Holds g store t → MayLeave g store left → left ≡ t
left_of_held g store t left holds may = one_text may.1.0 t left (holds.2 may.0 may.1.0 may.1.1) may.1.2

-- where whatever a crash leaves stands for the one texts or the others, it leaves the one or the others
pub left_of_either : {S : Type 0} (g : Ghosts S) (store : TextStore S) (t more left : Texts) → Leaves g store (λ db. StandsFor db t ⊎ StandsFor db more) → MayLeave g store left → (left ≡ t) ⊎ (left ≡ more)
left_of_either g store t more left leaves may = elim (leaves may.0 may.1.0 may.1.1) [
  | inl one ↦ inl (one_text may.1.0 t left one may.1.2)
  | inr other ↦ inr (one_text may.1.0 more left other may.1.2)
]
