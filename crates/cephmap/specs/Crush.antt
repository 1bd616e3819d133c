-- The CRUSH map (CrushWrapper::encode), by releases from Luminous on.
use Rattle.std.specs.Prelude.{ℕ, Result, Ok, Err, ◌==◌, if◌then◌else◌}
use Rattle.std.specs.Int.{w32, w64}
use Rattle.cephbytes.specs.declared.refused.Refused.{Refused}
use Rattle.cephbytes.specs.declared.refused.Refused.TheVariants.{Unknown}
use Rattle.cephbytes.specs.Encoding.{Front, ◌>>=◌, gives, number, signed, many, listed, meant, ended}
use Rattle.cephmap.specs.Parts.{name}
use Rattle.cephmap.specs.Buckets.{bucket, slot}
use Rattle.cephmap.specs.Rules.{rule}
use Rattle.cephmap.specs.declared.crush.Names.{Names}
use Rattle.cephmap.specs.declared.crush.Tunables.{Tunables}
use Rattle.cephmap.specs.declared.crush.DeviceClass.{DeviceClass}
use Rattle.cephmap.specs.declared.crush.Shadow.{Shadow}
use Rattle.cephmap.specs.declared.crush.ShadowTrees.{ShadowTrees}
use Rattle.cephmap.specs.declared.crush.Classes.{Classes}
use Rattle.cephmap.specs.declared.crush.BucketWeights.{BucketWeights}
use Rattle.cephmap.specs.declared.crush.WeightSet.{WeightSet}
use Rattle.cephmap.specs.declared.crush.Crush.{Crush}

-- names of types of buckets, of devices and buckets, and of rules
unfoldable pub names : Front Names
names = do
  types ← listed 8 name
  items ← listed 8 name
  rules ← listed 8 name
  gives (record { types = types; items = items; rules = rules })

-- the tunables, one after the other
unfoldable pub tunables : Front Tunables
tunables = do
  choose_local_tries ← number 4
  choose_local_fallback_tries ← number 4
  choose_total_tries ← number 4
  chooseleaf_descend_once ← number 4
  chooseleaf_vary_r ← number 1
  straw_calc_version ← number 1
  allowed_bucket_kinds ← number 4
  chooseleaf_stable ← number 1
  gives (record {
    choose_local_tries = choose_local_tries;
    choose_local_fallback_tries = choose_local_fallback_tries;
    choose_total_tries = choose_total_tries;
    chooseleaf_descend_once = chooseleaf_descend_once;
    chooseleaf_vary_r = chooseleaf_vary_r;
    straw_calc_version = straw_calc_version;
    allowed_bucket_kinds = allowed_bucket_kinds;
    chooseleaf_stable = chooseleaf_stable;
  })

-- the class of a device
unfoldable pub device_class : Front DeviceClass
device_class = do
  device ← signed w32
  class ← signed w32
  gives (record { device = device; class = class })

-- a shadow: its class, and the bucket that stands for another where that class is wanted
unfoldable pub shadow : Front Shadow
shadow = do
  class ← signed w32
  bucket ← signed w32
  gives (record { class = class; bucket = bucket })

-- the shadows of a bucket
unfoldable pub shadow_trees : Front ShadowTrees
shadow_trees = do
  bucket ← signed w32
  shadows ← listed 8 shadow
  gives (record { bucket = bucket; shadows = shadows })

-- the class of each device, the names of classes, and the buckets that stand for others where one class is wanted
unfoldable pub classes : Front Classes
classes = do
  devices ← listed 8 device_class
  names ← listed 8 name
  shadows ← listed 8 shadow_trees
  gives (record { devices = devices; names = names; shadows = shadows })

-- what a weight set has for a bucket: its place, rows of weights, and other ids
unfoldable pub bucket_weights : Front BucketWeights
bucket_weights = do
  place ← number 4
  weights ← listed 4 (listed 4 (number 4))
  ids ← listed 4 (signed w32)
  gives (record { place = place; weights = weights; ids = ids })

-- a weight set of a pool, or the compat weight set: what it has for each bucket
unfoldable pub weight_set : Front WeightSet
weight_set = do
  pool ← signed w64
  buckets ← listed 12 bucket_weights
  gives (record { pool = pool; buckets = buckets })

-- how a CRUSH map begins
abbrev pub magic : ℕ → Result (Unit {0}) Refused
magic n = if n == 65536 then Ok tt else Err Unknown

-- the whole of it, with nothing behind it
unfoldable pub crush : Front Crush
crush = do
  first ← number 4
  _ ← meant (magic first)
  max_buckets ← number 4
  max_rules ← number 4
  max_devices ← number 4
  buckets ← many 4 (slot bucket) max_buckets
  rules ← many 4 (slot rule) max_rules
  names ← names
  tunables ← tunables
  classes ← classes
  weight_sets ← listed 12 weight_set
  _ ← ended
  gives (record {
    max_devices = max_devices;
    buckets = buckets;
    rules = rules;
    names = names;
    tunables = tunables;
    classes = classes;
    weight_sets = weight_sets;
  })
