-- The limits of maps and changes that are none of a forest or a rule (those are crush's), each named once, and the
-- table of those that hang on the profile.
use Rattle.std.specs.Prelude.{ℕ, pos, nat_abs}
use Rattle.buckets.specs.Limits.{max_devices, plain_devices, max_straws}
use Rattle.crush.specs.Limits.{max_buckets, plain_buckets, max_count, max_size}
use Rattle.mapparts.specs.declared.limits.Limits.{Limits}
use Rattle.mapparts.specs.declared.limits.TheConstants as limits

-- the greatest version of the form in which maps are stated
abbrev pub max_version : ℕ
max_version = nat_abs limits.MAX_VERSION

-- the greatest first epoch
abbrev pub max_first_epoch : ℕ
max_first_epoch = nat_abs limits.MAX_FIRST_EPOCH

-- the greatest id of an OSD
abbrev pub max_osd_id : ℕ
max_osd_id = nat_abs limits.MAX_OSD_ID

-- the greatest weight of an item
abbrev pub max_item_weight : ℕ
max_item_weight = nat_abs limits.MAX_ITEM_WEIGHT

-- how many rules a map has at most, and the greatest id of one
abbrev pub max_rules : ℕ
max_rules = limits.MAX_RULES

-- the greatest id of a rule
abbrev pub max_rule_id : ℕ
max_rule_id = nat_abs limits.MAX_RULE_ID

-- how many pools a map has at most, the greatest id of one, and how many groups it has at most
abbrev pub max_pools : ℕ
max_pools = limits.MAX_POOLS

-- the greatest id of a pool
abbrev pub max_pool_id : ℕ
max_pool_id = nat_abs limits.MAX_POOL_ID

-- how many groups a pool has at most
abbrev pub max_groups : ℕ
max_groups = nat_abs limits.MAX_GROUPS

-- how many groups all pools of a map have together at most
abbrev pub max_total_groups : ℕ
max_total_groups = limits.MAX_TOTAL_GROUPS

-- how many exceptions of one kind a map has at most, and how many entries a list of a change
abbrev pub max_entries : ℕ
max_entries = limits.MAX_ENTRIES

-- the greatest epoch to which a change applies
abbrev pub max_base : ℕ
max_base = nat_abs limits.MAX_BASE

-- the greatest reweight that a change may state
abbrev pub max_stated_reweight : ℕ
max_stated_reweight = nat_abs limits.MAX_STATED_REWEIGHT

-- how many groups a pool of a plain cluster has at most, how many items a bucket, and how many rules and pools it has
abbrev pub plain_groups : ℕ
plain_groups = nat_abs limits.PLAIN_GROUPS

-- how many items a bucket of a plain cluster has at most
abbrev pub plain_items : ℕ
plain_items = limits.PLAIN_ITEMS

-- how many rules a plain cluster has at most
abbrev pub plain_rules : ℕ
plain_rules = limits.PLAIN_RULES

-- how many pools a plain cluster has at most
abbrev pub plain_pools : ℕ
plain_pools = limits.PLAIN_POOLS

-- how many exceptions of one kind it has at most, and how many entries a list of a change
abbrev pub plain_entries : ℕ
plain_entries = limits.PLAIN_ENTRIES

-- how many places a pool of it has at most, and so how many entries an exception, and how many items a step chooses
abbrev pub plain_size : ℕ
plain_size = limits.PLAIN_PLACES

-- the greatest id of an OSD of it
abbrev pub plain_osd_id : ℕ
plain_osd_id = nat_abs limits.MAX_PLAIN_OSD_ID

-- the limits of plain clusters
abbrev pub plain : Limits
plain = record {
  max_osd = pos plain_devices;
  osd = pos plain_osd_id;
  buckets = plain_buckets;
  items = plain_items;
  rules = plain_rules;
  pools = plain_pools;
  groups = pos plain_groups;
  count = pos plain_size;
  size = pos plain_size;
  places = plain_size;
  entries = plain_entries;
}

-- those of all clusters
abbrev pub stock : Limits
stock = record {
  max_osd = pos max_devices;
  osd = pos max_osd_id;
  buckets = max_buckets;
  items = max_straws;
  rules = max_rules;
  pools = max_pools;
  groups = pos max_groups;
  count = pos max_count;
  size = pos max_size;
  places = max_size;
  entries = max_entries;
}
