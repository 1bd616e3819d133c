-- What a store is known to hold. `holds` and `may_leave` are a store's own words: that it holds a journal, and that a
-- crash may leave one.
use Rattle.std.specs.Prelude.{◌≡◌, ℕ, List, codes, true, false}
use Rattle.epochlog.specs.declared.keeper.Keeper.{Keeper}
use Rattle.epochlog.specs.declared.keeps.NotKept.{NotKept}
use Rattle.epochlog.specs.declared.keeps.NotKept.TheVariants.{Memory, Failed}
use Rattle.epochlog.specs.Journals.{Journal, HasAll}

-- what an error says
abbrev pub not_kept_text : NotKept → List ℕ
not_kept_text Memory = codes "memory is short"
not_kept_text Failed = codes "the store has failed"

-- a journal is kept: the store holds it, unless it has failed, as only a store does that may; and whatever a crash
-- leaves, it is the whole journal, and at most the next incremental more
pub record IsKeptBy {K : Type 0} (holds may_leave : K → Journal → Type 0) (may_fail : Type 0) (keeper : Keeper K)
    (j : Journal) : Type 0 where
  pub held : keeper.has_failed ≡ false → holds keeper.store j
  pub left : (left : Journal) → may_leave keeper.store left → HasAll j left
  pub fails : keeper.has_failed ≡ true → may_fail
