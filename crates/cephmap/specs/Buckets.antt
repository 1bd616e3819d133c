-- Buckets in the CRUSH map (CrushWrapper::encode).
use Rattle.std.specs.Prelude.{ℕ, Err, Some, None, ◌==◌, if◌then◌else◌}
use Rattle.std.specs.Int.{w32}
use Rattle.cephbytes.specs.declared.refused.Refused.TheVariants.{Unknown}
use Rattle.cephbytes.specs.Encoding.{Front, ◌>>=◌, gives, number, signed, many}
use Rattle.cephmap.specs.declared.bucket.Weighed.{Weighed}
use Rattle.cephmap.specs.declared.bucket.Weights.{Weights}
use Rattle.cephmap.specs.declared.bucket.Weights.TheVariants as weights
use Rattle.cephmap.specs.declared.bucket.Bucket.{Bucket}
use Rattle.cephmap.specs.declared.bucket.Slot.{Slot}

-- a weight, and what was made of it
unfoldable pub weighed : Front Weighed
weighed = do
  weight ← number 4
  made ← number 4
  gives (record { weight = weight; made = made })

-- the one weight of all items of a uniform bucket
abbrev pub uniform_weight : Front Weights
uniform_weight = do
  weight ← number 4
  gives (weights.Uniform weight)

-- of each item of a list bucket its weight, and the sum of those up to it
abbrev pub list_weights : ℕ → Front Weights
list_weights size = do
  all ← many 8 weighed size
  gives (weights.List all)

-- the weights of the nodes of a tree, behind their number
abbrev pub tree_weights : Front Weights
tree_weights = do
  nodes ← number 1
  all ← many 4 (number 4) nodes
  gives (weights.Tree all)

-- of each item of a straw bucket its weight and its straw
abbrev pub straw_weights : ℕ → Front Weights
straw_weights size = do
  all ← many 8 weighed size
  gives (weights.Straw all)

-- the weight of each item of a straw2 bucket
abbrev pub straw2_weights : ℕ → Front Weights
straw2_weights size = do
  all ← many 4 (number 4) size
  gives (weights.Straw2 all)

-- the weights of a kind that is not known
abbrev pub no_weights : Front Weights
no_weights bs = Err Unknown

-- the weights of so many items, by the number of the bucket's kind
unfoldable pub weights_of : ℕ → ℕ → Front Weights
weights_of kind size =
    if kind == 1 then uniform_weight
    else (if kind == 2 then list_weights size
    else (if kind == 3 then tree_weights
    else (if kind == 4 then straw_weights size
    else (if kind == 5 then straw2_weights size
    else no_weights))))

-- a bucket: its head, its items, and the weights by its kind
unfoldable pub bucket : Front Bucket
bucket = do
  id ← signed w32
  level ← number 2
  kind ← number 1
  hash ← number 1
  weight ← number 4
  size ← number 4
  items ← many 4 (signed w32) size
  weights ← weights_of kind size
  gives (record { id = id; level = level; hash = hash; weight = weight; items = items; weights = weights })

-- what stands in a place, behind a number that is 0 where nothing does
abbrev pub held : {X : Type 0} → Front X → ℕ → Front (Slot X)
held one n = if n == 0 then gives (record { holds = None }) else (do
  x ← one
  gives (record { holds = Some x }))

-- a place: its number, and what stands in it
unfoldable pub slot : {X : Type 0} → Front X → Front (Slot X)
slot one = do
  n ← number 4
  held one n
