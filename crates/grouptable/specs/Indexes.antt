-- What an index has for an OSD, what a draft over it has, and what it has once lists are put into it.
use Rattle.std.specs.Prelude.{◌≡◌, ℕ, ◌≤◌, List, length, Option, Some, None}
use Rattle.std.specs.Global.{Vec}
use Rattle.grouptable.specs.Lists.{osd_list, AreForOsds, AreAllEmpty}
use Rattle.grouptable.specs.Sets.{KeysBelow, list_over}

-- the one index has for each OSD what the other has
abbrev pub HasTheSame : List (List ℕ) → List (List ℕ) → Type 0
HasTheSame old new = (osd : ℕ) → osd_list new osd ≡ osd_list old osd

-- the list of an OSD in a draft over the index of a table
abbrev pub draft_list : List (List ℕ) → List (ℕ × List ℕ) → ℕ → List ℕ
draft_list index fresh osd = list_over osd (osd_list index osd) fresh

-- each OSD's groups in a draft, by those that it had before
abbrev pub IsRedrawn : (ℕ → List ℕ → List ℕ) → List (List ℕ) → List (ℕ × List ℕ) → List (ℕ × List ℕ) → Type 0
IsRedrawn step index old new = (osd : ℕ) → draft_list index new osd ≡ step osd (draft_list index old osd)

-- fresh lists are put into an index: their OSDs have them, and the others what they had
abbrev pub IsPutInto : List (ℕ × List ℕ) → List (List ℕ) → List (List ℕ) → Type 0
IsPutInto fresh old new = (osd : ℕ) → osd_list new osd ≡ draft_list old fresh osd

-- fresh lists find their place in an index of so many lists, or among the empty lists that are brought for it
abbrev pub FindsPlace : ℕ → List (ℕ × List ℕ) → Option (Vec (List ℕ)) → Type 0
FindsPlace lists fresh None = KeysBelow lists fresh
FindsPlace lists fresh (Some room) =
    (lists ≤ length room.items) × (KeysBelow (length room.items) fresh
    × (AreForOsds room.items × AreAllEmpty room.items))
