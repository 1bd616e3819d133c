-- Logarithms and straws as Ceph computes them: the values are those of its mapper.c and its tables, by a C compiler.
use Rattle.std.specs.Prelude.{◌≡◌, ℕ, Bool, true, ℤ, pos, neg_ℤ, List, [], ◌∷◌, ◌==◌}
use Rattle.std.specs.List.{list_all}
use Rattle.buckets.specs.declared.bucket.Item.{Item}
use Rattle.buckets.specs.Logarithm.{crush_ln}
use Rattle.buckets.specs.Straw2.{straw2_place}

-- draws, and their logarithms
abbrev pub logarithms : List (ℕ × ℕ)
logarithms =
    (0, 0) ∷ (1, 17592186044416) ∷ (2, 27882955186109) ∷ (3, 35184372088832)
    ∷ (254, 140638152966037) ∷ (255, 140737488355328) ∷ (256, 140836779814266) ∷ (4095, 211106232532992)
    ∷ (12345, 239108530962749) ∷ (32766, 263881692995889) ∷ (32767, 263882790666240) ∷ (32768, 263883565195424)
    ∷ (32769, 263884683044076) ∷ (40000, 268945000451606) ∷ (65279, 281375641321365) ∷ (65280, 281375641321365)
    ∷ (65533, 281473879040305) ∷ (65534, 281474932780304) ∷ (65535, 281474708275200) ∷ []

-- an item with a weight
abbrev pub item : ℤ → ℕ → Item
item id weight = record { id = id; weight = weight }

-- devices of one weight
abbrev pub devices : List Item
devices = item (pos 0) 65536 ∷ item (pos 1) 65536 ∷ item (pos 2) 65536 ∷ item (pos 3) 65536 ∷ []

-- buckets and devices of several
abbrev pub mixed_items : List Item
mixed_items =
    item (neg_ℤ (pos 2)) 65536 ∷ item (neg_ℤ (pos 3)) 131072 ∷ item (neg_ℤ (pos 4)) 1 ∷ item (neg_ℤ (pos 5)) 196608
    ∷ item (neg_ℤ (pos 65536)) 98304 ∷ item (pos 1023) 655360 ∷ item (pos 7) 65535 ∷ []

-- devices of which the first weighs nothing
abbrev pub one_empty : List Item
one_empty = item (pos 5) 0 ∷ item (pos 6) 65536 ∷ item (pos 7) 65536 ∷ []

-- inputs, replica numbers, and the places that are picked; the last two of the devices are draws of which two are equal
abbrev pub device_places : List (ℕ × ℕ × ℕ)
device_places =
    (0, 0, 0) ∷ (0, 1, 0) ∷ (0, 2, 0) ∷ (0, 3, 2) ∷ (1, 0, 3)
    ∷ (1, 1, 0) ∷ (1, 2, 2) ∷ (1, 3, 0) ∷ (2, 0, 1) ∷ (2, 1, 3)
    ∷ (2, 2, 1) ∷ (2, 3, 3) ∷ (12345, 0, 1) ∷ (12345, 1, 1) ∷ (12345, 2, 1)
    ∷ (12345, 3, 1) ∷ (305419896, 0, 2) ∷ (305419896, 1, 3) ∷ (305419896, 2, 1) ∷ (305419896, 3, 1)
    ∷ (4294967295, 0, 0) ∷ (4294967295, 1, 2) ∷ (4294967295, 2, 3) ∷ (4294967295, 3, 3) ∷ (6816, 0, 2)
    ∷ (28544, 0, 1) ∷ []

-- the same of items of several weights
abbrev pub mixed_places : List (ℕ × ℕ × ℕ)
mixed_places =
    (0, 0, 3) ∷ (0, 1, 3) ∷ (0, 2, 5) ∷ (0, 3, 5) ∷ (1, 0, 5)
    ∷ (1, 1, 1) ∷ (1, 2, 5) ∷ (1, 3, 4) ∷ (2, 0, 6) ∷ (2, 1, 6)
    ∷ (2, 2, 3) ∷ (2, 3, 1) ∷ (12345, 0, 3) ∷ (12345, 1, 5) ∷ (12345, 2, 5)
    ∷ (12345, 3, 5) ∷ (305419896, 0, 3) ∷ (305419896, 1, 3) ∷ (305419896, 2, 3) ∷ (305419896, 3, 3)
    ∷ (4294967295, 0, 4) ∷ (4294967295, 1, 4) ∷ (4294967295, 2, 5) ∷ (4294967295, 3, 5) ∷ []

-- the same of items of which one has weight 0
abbrev pub places_beside_empty : List (ℕ × ℕ × ℕ)
places_beside_empty =
    (0, 0, 2) ∷ (0, 1, 1) ∷ (0, 2, 2) ∷ (0, 3, 1) ∷ (1, 0, 2)
    ∷ (1, 1, 2) ∷ (1, 2, 2) ∷ (1, 3, 2) ∷ (2, 0, 2) ∷ (2, 1, 2)
    ∷ (2, 2, 2) ∷ (2, 3, 1) ∷ (12345, 0, 2) ∷ (12345, 1, 2) ∷ (12345, 2, 2)
    ∷ (12345, 3, 1) ∷ (305419896, 0, 1) ∷ (305419896, 1, 2) ∷ (305419896, 2, 2) ∷ (305419896, 3, 2)
    ∷ (4294967295, 0, 2) ∷ (4294967295, 1, 1) ∷ (4294967295, 2, 2) ∷ (4294967295, 3, 1) ∷ []

-- whether a bucket of these items picks so
abbrev pub picks_so : List Item → List (ℕ × ℕ × ℕ) → Bool
picks_so items rows = list_all (λ row. straw2_place row.0 row.1 items == row.2) rows

-- the definitions give these values
pub record StrawsAreCephs : Type 0 where
  pub logs : list_all (λ row. crush_ln row.0 == row.1) logarithms ≡ true
  pub even : picks_so devices device_places ≡ true
  pub mixed : picks_so mixed_items mixed_places ≡ true
  pub empty : picks_so one_empty places_beside_empty ≡ true
