-- What a search by halves in a rising list means for adding and removing a number.
use Rattle.std.proofs.Common.{◌≡◌, sym, ℕ, List, Ok, Err}
use Rattle.std.specs.List.{insert, remove}
use Rattle.std.specs.List.Sorted.{IsBinarySearchResult}
use Rattle.std.specs.Ordering.{nat_cmp}
use Rattle.std.proofs.lemmas.List.Sorted.{searched}
use Rattle.grouptable.specs.Keys.{AreRisingKeys, with_key, without_key}
use Rattle.grouptable.proofs.Order.{rising_le, with_key_absent, with_key_present, without_key_absent, without_key_present}

-- a key that is found is there
pub found_with : (t : List ℕ) (x at : ℕ) → AreRisingKeys t → IsBinarySearchResult (λ y. nat_cmp y x) t (Ok at) → t ≡ with_key x t
found_with t x at s r = let h = searched t x (Ok at) r (rising_le t s) in sym (with_key_present x t at s h.0 h.1)

-- one that is not is put in where it was sought
pub absent_with : (t : List ℕ) (x at : ℕ) → AreRisingKeys t → IsBinarySearchResult (λ y. nat_cmp y x) t (Err at) → insert t at x ≡ with_key x t
absent_with t x at s r = let h = searched t x (Err at) r (rising_le t s) in sym (with_key_absent x t at h.0 h.1 h.2)

-- a key that is found is removed there
pub found_without : (t : List ℕ) (x at : ℕ) → AreRisingKeys t → IsBinarySearchResult (λ y. nat_cmp y x) t (Ok at) → remove t at ≡ without_key x t
found_without t x at s r = let h = searched t x (Ok at) r (rising_le t s) in sym (without_key_present x t at s h.0 h.1)

-- one that is not leaves the list
pub absent_without : (t : List ℕ) (x at : ℕ) → AreRisingKeys t → IsBinarySearchResult (λ y. nat_cmp y x) t (Err at) → t ≡ without_key x t
absent_without t x at s r = let h = searched t x (Err at) r (rising_le t s) in sym (without_key_absent x t at h.1 h.2)
