-- What stands for each OSD, by its number, while an index is built.
use Rattle.std.specs.Prelude.{◌≡◌, ℕ, ◌<◌, ◌≤◌, Bool, false, List, [], length, slice_index_or}
use Rattle.buckets.specs.Limits.{max_devices}
use Rattle.grouptable.specs.Sets.{groups_of, after_joining}
use Rattle.maptypes.specs.Sets.{Places}

-- there is no more than one for each OSD
abbrev pub AreForOsds : {A : Type 0} → List A → Type 0
AreForOsds each = length each ≤ max_devices

-- the list of an OSD, which has no group where it is not there
abbrev pub osd_list : List (List ℕ) → ℕ → List ℕ
osd_list lists osd = slice_index_or lists osd []

-- no list has a group
abbrev pub AreAllEmpty : List (List ℕ) → Type 0
AreAllEmpty lists = (osd : ℕ) → osd_list lists osd ≡ []

-- the last of the lists has a group: there are no more than up to the last OSD with one
abbrev pub AreTrimmed : List (List ℕ) → Type 0
AreTrimmed lists = (n : ℕ) → ((osd : ℕ) → n ≤ osd → osd_list lists osd ≡ []) → length lists ≤ n

-- no OSD's list has a group
abbrev pub AreEmpty : List (List ℕ) → Type 0
AreEmpty lists = (osd : ℕ) → osd < max_devices → osd_list lists osd ≡ []

-- each OSD's list is of the groups in whose set it stands
abbrev pub AreListsOf : List Places → List (List ℕ) → Type 0
AreListsOf sets lists = (osd : ℕ) → osd < max_devices → osd_list lists osd ≡ groups_of osd sets

-- the lists of the OSDs that pass a test have a group more, the others those that they had
abbrev pub AreJoined : (ℕ → Bool) → ℕ → List (List ℕ) → List (List ℕ) → Type 0
AreJoined joins group old new =
    (osd : ℕ) → osd < max_devices → osd_list new osd ≡ after_joining false (joins osd) group (osd_list old osd)
