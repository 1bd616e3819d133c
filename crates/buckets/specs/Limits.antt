-- The limits of items and of buckets, each by the one name that clauses cite.
use Rattle.std.specs.Prelude.{ℕ, ℤ, Bool, ◌&&◌, nat_le}
use Rattle.buckets.specs.declared.limits.TheConstants as limits

-- the lowest id of a bucket
abbrev pub lowest_bucket : ℤ
lowest_bucket = limits.LOWEST_BUCKET

-- the highest type of a bucket
abbrev pub max_level : ℕ
max_level = limits.MAX_LEVEL

-- the most items of a bucket, and of a straw2 bucket
abbrev pub max_items : ℕ
max_items = limits.MAX_ITEMS

-- the most items of a straw2 bucket
abbrev pub max_straws : ℕ
max_straws = limits.MAX_STRAWS

-- the most devices, and the most of a plain cluster
abbrev pub max_devices : ℕ
max_devices = limits.MAX_DEVICES

-- the most devices of a plain cluster
abbrev pub plain_devices : ℕ
plain_devices = limits.PLAIN_DEVICES

-- a number from low to high
abbrev pub is_within : ℕ → ℕ → ℕ → Bool
is_within low high n = nat_le low n && nat_le n high
