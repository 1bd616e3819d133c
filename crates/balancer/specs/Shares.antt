-- The OSDs over which a pool is balanced, and how far each is above or below its share.
use Rattle.std.specs.Prelude.{◌≡◌, ℕ, ◌+◌, ◌-◌, ◌*◌, ◌^◌, ◌<◌, ◌==◌, Bool, not, ◌&&◌, ℤ, pos, ◌+ℤ◌, ◌-ℤ◌, ◌*ℤ◌, ◌<ℤ◌, ◌≤ℤ◌, neg_ℤ, List, length, slice_index, slice_index_or, nat_abs}
use Rattle.std.specs.List.{All, filter, find, flat_map, range_with_len, sum_by, count_by}
use Rattle.std.specs.Option.{option_map_or}
use Rattle.std.specs.Ordering.{int_eq}
use Rattle.buckets.specs.declared.bucket.Bucket.{Bucket}
use Rattle.crush.specs.declared.step.Step.{Step}
use Rattle.crush.specs.Grammar.{is_emit}
use Rattle.crush.specs.Paths as paths
use Rattle.maptypes.specs.Pools.{PoolFacts}
use Rattle.osdmap.specs.Maps.{ClusterMap, osd_exists, osd_is_up}
use Rattle.osdmap.specs.Mapped.{is_weightless}
use Rattle.osdmap.specs.Placement.{steps_of}
use Rattle.pgtable.specs.Index.{count_in}

-- whether a rule has one block: each ends with an emit
abbrev pub has_one_block : List Step → Bool
has_one_block steps = count_by is_emit steps == 1

-- ---- candidates

-- whether groups of a pool may be moved from or to an OSD: it is under the bucket that the pool's rule takes, exists,
-- is up, and is not out
unfoldable pub is_candidate : ClusterMap → PoolFacts → ℕ → Bool
is_candidate m p osd =
    paths.reaches m.buckets (steps_of m p) (pos osd) && osd_exists m osd && osd_is_up m osd
    && not (is_weightless m.weights osd)

-- the OSDs below max_osd
abbrev pub osds_of : ClusterMap → List ℕ
osds_of m = range_with_len 0 (length m.presences)

-- the OSDs between which groups of a pool may be moved
abbrev pub candidate_osds : ClusterMap → PoolFacts → List ℕ
candidate_osds m p = filter (is_candidate m p) (osds_of m)

-- ---- shares

-- the weight that an OSD has in its bucket
unfoldable pub item_weight : List Bucket → ℕ → ℕ
item_weight buckets osd =
    option_map_or (λ i. i.weight) (find (λ i. int_eq i.id (pos osd)) (flat_map (λ b. b.items) buckets)) 0

-- the weights that so many OSDs have in their buckets, by number
pub record AreItemWeights (buckets : List Bucket) (count : ℕ) (weights : List ℕ) : Type 0 where
  pub long : length weights ≡ count
  pub each : (osd : ℕ) → osd < count → slice_index weights osd ≡ item_weight buckets osd

-- the weight of an OSD: that in its bucket times its reweight
unfoldable pub weight_in_map : ClusterMap → ℕ → ℕ
weight_in_map m osd = item_weight m.buckets osd * slice_index m.weights osd

-- what all candidates weigh together
unfoldable pub total_weight : ClusterMap → PoolFacts → ℕ
total_weight m p = sum_by (weight_in_map m) (candidate_osds m p)

-- how many places of groups of the pool the candidates have together
unfoldable pub places : ClusterMap → PoolFacts → ℕ
places m p = sum_by (count_in m p.id) (candidate_osds m p)

-- how far an OSD is above its share of the places, times the weight of all candidates
unfoldable pub above_share : ClusterMap → PoolFacts → ℕ → ℤ
above_share m p osd = pos (count_in m p.id osd * total_weight m p) -ℤ pos (places m p * weight_in_map m osd)

-- ---- aims

-- what a plan goes by beside the map: how much more of the pool each OSD counts as having than its groups, by number,
-- and by how much two OSDs must differ for a move between them to be good, both in 256ths of a group
pub record Aim : Type 0 where
  pub carried : List ℤ
  pub apart : ℕ

-- the aim of a list and a number
abbrev pub aim_of : List ℤ → ℕ → Aim
aim_of carried apart = record { carried = carried; apart = apart }

-- how much more an OSD counts as having: nothing where no number is given
abbrev pub carried_by : List ℤ → ℕ → ℤ
carried_by carried osd = slice_index_or carried osd (pos 0)

-- numbers that have 32 bits, as they are given
abbrev pub AreSmall : List ℤ → Type 0
AreSmall carried = All (λ n. (n <ℤ pos (2 ^ 31)) × (neg_ℤ (pos (2 ^ 31)) ≤ℤ n)) carried

-- what a group weighs: all candidates, 256 times
unfoldable pub group_weight : ClusterMap → PoolFacts → ℕ
group_weight m p = 256 * total_weight m p

-- two deviations must differ by more than this: by the aim's 256ths of a group, and by 255 of the parts in which
-- deviations are told, so that each move makes the pool as much more even as in whole groups. Where nothing is carried,
-- deviations are multiples of 256, and the 255 decide nothing
unfoldable pub least_gap : ClusterMap → PoolFacts → Aim → ℕ
least_gap m p aim = aim.apart * total_weight m p + 255

-- by how much each move must lower the sum of the squares of the deviations
unfoldable pub least_gain : ClusterMap → PoolFacts → Aim → ℕ
least_gain m p aim = 2 * group_weight m p * (256 + (aim.apart - 256) * total_weight m p)

-- how far an OSD is above its share with what it carries beside, in 256ths of a group, times the weight of all
-- candidates
unfoldable pub deviation : ClusterMap → PoolFacts → Aim → ℕ → ℤ
deviation m p aim osd = pos 256 *ℤ above_share m p osd +ℤ carried_by aim.carried osd *ℤ pos (total_weight m p)

-- the square of a whole number
abbrev pub square : ℤ → ℕ
square z = nat_abs z * nat_abs z

-- how uneven the pool is: the sum of the squares of the deviations of all candidates
unfoldable pub unevenness : ClusterMap → PoolFacts → Aim → ℕ
unevenness m p aim = sum_by (λ osd. square (deviation m p aim osd)) (candidate_osds m p)
