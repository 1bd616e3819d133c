-- No thing has fewer bytes than room is asked for, so what is there is read.
use Rattle.std.proofs.Common.{◌≡◌, ℕ, zero, suc, ◌+◌, ◌*◌, ◌≤◌, List, [], ◌∷◌, length, take, drop, Result, Ok, ap, arith, length-drop}
use Rattle.std.specs.Prelude.{Bool, true, false, Some, None, ◌==◌, nat_lt, if◌then◌else◌}
use Rattle.std.specs.Int.{w32, w64, cast_signed}
use Rattle.std.proofs.lemmas.Bool.{le-ltb}
use Rattle.cephbytes.specs.declared.refused.Refused.{Refused}
use Rattle.cephbytes.specs.Encoding.{Front, gives, ◌>>=◌, number, signed, skip, taken, text, section, section_of, within, inside, known, meant, left, entries, list_of, many, listed, known_version}
use Rattle.cephbytes.proofs.Fronts.{behind_ok, not_short, number_is, meant_leaves, known_leaves}
use Rattle.cephmap.specs.Parts.{name, setting, settings, interval, snapshot}
use Rattle.cephmap.specs.Groups.{group, group_osds, group_primary, pair, group_pairs}
use Rattle.cephmap.specs.Pools.{pool, pool_name, fields}
use Rattle.cephmap.specs.Buckets.{weighed, uniform_weight, list_weights, tree_weights, straw_weights, straw2_weights, no_weights, weights_of, bucket, held, slot}
use Rattle.cephmap.specs.Rules.{step, step_word_of, rule}
use Rattle.cephmap.specs.Crush.{device_class, shadow, shadow_trees, bucket_weights, weight_set}
use Rattle.cephmap.specs.Addresses.{address_section, no_address, address_of, address, several, addresses_of, addresses}
use Rattle.cephmap.specs.Maps.{removed_snapshots}
use Rattle.cephmap.specs.Rooms.{ReadsMany, ReadsLists, NoListIsRefusedForRoom}

-- a thing of the kind has so many bytes at least
abbrev HasAtLeast : {X : Type 0} → ℕ → Front X → Type 0
HasAtLeast {X} n form = (bytes : List ℕ) (p : X × List ℕ) → form bytes ≡ Ok p → n + length p.1 ≤ length bytes

-- what has so many bytes at least has fewer at least
least_weaker : {X : Type 0} (m n : ℕ) (form : Front X) → m ≤ n → HasAtLeast n form → HasAtLeast m form
least_weaker m n form fewer one bytes p h = omega (arith, fewer, one bytes p h)

-- one thing behind another has at least the bytes of both
least_then : {X Y : Type 0} (m n : ℕ) (f : Front X) (g : X → Front Y) → HasAtLeast m f → ((x : X) → HasAtLeast n (g x)) → HasAtLeast (m + n) (f >>= g)
least_then m n f g one other bytes p h =
    let a = behind_ok g (f bytes) p h in
    omega (arith, one bytes a.0 a.1, other a.0.0 a.0.1 p a.2)

-- what is given without reading has no bytes
least_gives : {X : Type 0} (x : X) → HasAtLeast 0 (gives x)
least_gives {X} x bytes p h = let same : (x, bytes) ≡ p = cc in omega (arith, ap (λ (q : X × List ℕ). length q.1) same)

-- a number of so many bytes has so many
least_number : (n : ℕ) → HasAtLeast n (number n)
least_number n bytes p h =
    let read = number_is n bytes p h in
    omega (arith, read.0, ap (λ (q : ℕ × List ℕ). length q.1) read.1, length-drop n bytes)

-- an id has four bytes
least_id : HasAtLeast 4 (signed w32)
least_id = least_then 4 0 (number 4) _ (least_number 4) (λ x. least_gives (cast_signed w32 x))

-- the id of a pool has eight bytes
least_long : HasAtLeast 8 (signed w64)
least_long = least_then 8 0 (number 8) _ (least_number 8) (λ x. least_gives (cast_signed w64 x))

-- what a number stands for has no bytes of its own
least_meant : {X : Type 0} (read : Result X Refused) → HasAtLeast 0 (meant read)
least_meant read bytes p h = omega (arith, ap length (meant_leaves read bytes p h).1)

-- so many bytes that are passed are so many
least_skip : (n : ℕ) → HasAtLeast n (skip n)
least_skip n bytes p h =
    let read = not_short (length bytes) n (tt, drop n bytes) p h in
    omega (arith, read.0, ap (λ (q : Unit {0} × List ℕ). length q.1) read.1, length-drop n bytes)

-- where bytes are taken, no more are left than there were
least_taken : (n : ℕ) → HasAtLeast 0 (taken n)
least_taken n bytes p h =
    let read = not_short (length bytes) n (take n bytes, drop n bytes) p h in
    omega (arith, read.0, ap (λ (q : List ℕ × List ℕ). length q.1) read.1, length-drop n bytes)

-- a text has the four bytes of its length at least
least_text : HasAtLeast 4 text
unfolding text
least_text = least_then 4 0 (number 4) taken (least_number 4) least_taken

-- where it is asked how many bytes are left, no more are left than there were
least_left : (n : ℕ) → HasAtLeast 0 (left n)
least_left n bytes p h =
    let read = not_short (length bytes) n (tt, bytes) p h in
    omega (arith, ap (λ (q : Unit {0} × List ℕ). length q.1) read.1)

-- what is read in bytes that were taken has none of those behind them
least_inside : {X : Type 0} (body : Front X) (own : List ℕ) → HasAtLeast 0 (inside body own)
least_inside body own bytes p h = let a = behind_ok (λ x _. gives x bytes) (body own) p h in least_gives a.0.0 bytes p a.2

-- ---- lists

-- so many of a kind have so many times the bytes that each has at least
least_entries : {X : Type 0} (n : ℕ) (one : Front X) → HasAtLeast n one → (count : ℕ) → HasAtLeast (count * n) (entries one count)
unfolding entries
least_entries n one each zero = least_weaker (zero * n) 0 _ (omega arith) (least_gives [])
least_entries n one each (suc count) =
    least_weaker (suc count * n) (n + (count * n + 0)) _ (omega arith) (least_then n (count * n + 0) one _ each (λ x. least_then (count * n) 0 (entries one count) _ (least_entries n one each count) (λ xs. least_gives (x ∷ xs))))

-- where so many of a kind are read, no more bytes are left than there were
least_many : {X : Type 0} (each : ℕ) (one : Front X) → HasAtLeast 0 one → (count : ℕ) → HasAtLeast 0 (many each one count)
unfolding many
least_many each one any count =
    least_then 0 0 (left (count * each)) _ (least_left (count * each)) (λ _. least_weaker 0 (count * 0) (entries one count) (omega arith) (least_entries 0 one any count))

-- a list has the four bytes of its length at least
least_listed : {X : Type 0} (each : ℕ) (one : Front X) → HasAtLeast 0 one → HasAtLeast 4 (listed each one)
unfolding listed
least_listed each one any = least_then 4 0 (number 4) (many each one) (least_number 4) (least_many each one any)

-- so many of a kind that are there are not refused for room, where each has at least the bytes that it asks for
reads_many : {X : Type 0} (each : ℕ) (one : Front X) → HasAtLeast each one → ReadsMany each one
unfolding many
reads_many each one least count bytes read h =
    let room : nat_lt (length bytes) (count * each) ≡ false = le-ltb (length bytes) (count * each) (omega (arith, least_entries each one least count bytes read h)) in
    rw room h

-- nor is a list that is there
reads_lists : {X : Type 0} (each : ℕ) (one : Front X) → HasAtLeast each one → ReadsLists each one
unfolding listed list_of
reads_lists each one least bytes read h =
    let a = behind_ok (entries one) (number 4 bytes) read h in
    rw a.1 (reads_many each one least a.0.0 a.0.1 read a.2)

-- ---- sections, and what goes by a test

-- the test of the least version has no bytes
least_known : (least knows : ℕ) → HasAtLeast 0 (known least knows)
least_known least knows bytes p h = omega (arith, ap length (known_leaves least knows bytes p h))

-- a section has two versions and a length, which are six bytes, at least
least_section : (knows : ℕ) → HasAtLeast 6 (section knows)
unfolding section
least_section knows =
    least_then 1 5 (number 1) _ (least_number 1) (λ version. least_then 1 4 (number 1) _ (least_number 1) (λ least. least_then 0 4 (known least knows) _ (least_known least knows)
    (λ _. least_then 4 0 text _ least_text (λ own. least_gives (record { version = version; own = own })))))

-- of two things the one that a test takes leaves no more bytes than there were, where each does so
least_if : {X : Type 0} (t : Bool) (f g : Front X) → HasAtLeast 0 f → HasAtLeast 0 g → HasAtLeast 0 (if t then f else g)
least_if true f g one other = one
least_if false f g one other = other

-- ---- the kinds

-- a name has its id and its length: eight bytes at least
least_name : HasAtLeast 8 name
unfolding name
least_name = least_then 4 4 (signed w32) _ least_id (λ id. least_then 4 0 text _ least_text (λ own. least_gives (record { id = id; name = own })))

-- a setting has the lengths of its key and its value: eight bytes at least
least_setting : HasAtLeast 8 setting
unfolding setting
least_setting = least_then 4 4 text _ least_text (λ key. least_then 4 0 text _ least_text (λ value. least_gives (record { key = key; value = value })))

-- a setting leaves no more bytes than there were
any_setting : HasAtLeast 0 setting
any_setting = least_weaker 0 8 setting (omega arith) least_setting

-- settings have the length of their name and that of their list: eight bytes at least
least_settings : HasAtLeast 8 settings
unfolding settings
least_settings = least_then 4 4 text _ least_text (λ own. least_then 4 0 (listed 8 setting) _ (least_listed 8 setting any_setting) (λ all. least_gives (record { name = own; settings = all })))

-- an interval has its first number and its size, of eight bytes each
least_interval : HasAtLeast 16 interval
unfolding interval
least_interval = least_then 8 8 (number 8) _ (least_number 8) (λ first. least_then 8 0 (number 8) _ (least_number 8) (λ size. least_gives (record { first = first; length = size })))

-- a snapshot has an id of eight bytes and a section: 14 bytes at least
least_snapshot : HasAtLeast 14 snapshot
unfolding snapshot
least_snapshot = least_then 8 6 (number 8) _ (least_number 8) (λ id. least_then 6 0 (section 255) _ (least_section 255) (λ _. least_gives (record { id = id })))

-- the removed snapshots of a pool have its id of eight bytes and the length of a list: twelve bytes at least
least_removed : HasAtLeast 12 removed_snapshots
unfolding removed_snapshots
least_removed = least_then 8 4 (signed w64) _ least_long (λ pool. least_then 4 0 (listed 16 interval) _ (least_listed 16 interval (least_weaker 0 16 interval (omega arith) least_interval)) (λ all. least_gives (record { pool = pool; intervals = all })))

-- a group has a version, the id of its pool, its number and four bytes that are passed: 17 bytes
least_group : HasAtLeast 17 group
unfolding group
least_group =
    least_then 1 16 (number 1) _ (least_number 1) (λ version. least_then 0 16 (meant (known_version 1 1 version)) _ (least_meant (known_version 1 1 version)) (λ _. least_then 8 8 (signed w64) _ least_long
    (λ pool. least_then 4 4 (number 4) _ (least_number 4) (λ n. least_then 4 0 (skip 4) _ (least_skip 4) (λ _. least_gives (record { pool = pool; number = n }))))))

-- a list of ids has the four bytes of its length at least
least_ids : HasAtLeast 4 (listed 4 (signed w32))
least_ids = least_listed 4 (signed w32) (least_weaker 0 4 (signed w32) (omega arith) least_id)

-- the OSDs of a group have the group and the length of a list: 21 bytes at least
least_group_osds : HasAtLeast 21 group_osds
unfolding group_osds
least_group_osds = least_then 17 4 group _ least_group (λ own. least_then 4 0 (listed 4 (signed w32)) _ least_ids (λ all. least_gives (record { group = own; osds = all })))

-- the primary of a group has the group and an id: 21 bytes
least_group_primary : HasAtLeast 21 group_primary
unfolding group_primary
least_group_primary = least_then 17 4 group _ least_group (λ own. least_then 4 0 (signed w32) _ least_id (λ osd. least_gives (record { group = own; osd = osd })))

-- a pair has two ids: eight bytes
least_pair : HasAtLeast 8 pair
unfolding pair
least_pair = least_then 4 4 (signed w32) _ least_id (λ one. least_then 4 0 (signed w32) _ least_id (λ other. least_gives (record { from = one; to = other })))

-- the pairs of a group have the group and the length of a list: 21 bytes at least
least_group_pairs : HasAtLeast 21 group_pairs
unfolding group_pairs
least_group_pairs = least_then 17 4 group _ least_group (λ own. least_then 4 0 (listed 8 pair) _ (least_listed 8 pair (least_weaker 0 8 pair (omega arith) least_pair)) (λ all. least_gives (record { group = own; pairs = all })))

-- a pool has an id of eight bytes and a section: 14 bytes at least
least_pool : HasAtLeast 14 pool
unfolding pool
least_pool =
    least_then 8 6 (signed w64) _ least_long (λ id. least_then 6 0 (section_of 5 fields) _ (least_then 6 0 (section 5) (within fields) (least_section 5) (λ own. least_inside (fields own.version) own.own)) (λ all. least_gives _))

-- the name of a pool has the pool's id of eight bytes and a length: twelve bytes at least
least_pool_name : HasAtLeast 12 pool_name
unfolding pool_name
least_pool_name = least_then 8 4 (signed w64) _ least_long (λ pool. least_then 4 0 text _ least_text (λ own. least_gives (record { pool = pool; name = own })))

-- a weight of an item with what was made of it has four bytes for each: eight bytes
least_weighed : HasAtLeast 8 weighed
unfolding weighed
least_weighed = least_then 4 4 (number 4) _ (least_number 4) (λ weight. least_then 4 0 (number 4) _ (least_number 4) (λ made. least_gives (record { weight = weight; made = made })))

-- where so many of these are read, no more bytes are left than there were
any_weighed : (count : ℕ) → HasAtLeast 0 (many 8 weighed count)
any_weighed = least_many 8 weighed (least_weaker 0 8 weighed (omega arith) least_weighed)

-- where so many numbers of four bytes are read, no more bytes are left than there were
any_words : (count : ℕ) → HasAtLeast 0 (many 4 (number 4) count)
any_words = least_many 4 (number 4) (least_weaker 0 4 (number 4) (omega arith) (least_number 4))

-- no weights of a kind that is not known are read
least_no_weights : HasAtLeast 0 no_weights
least_no_weights bytes p h = absurd cc

-- the weights of a bucket, of whatever kind, leave no more bytes than there were
least_weights : (kind size : ℕ) → HasAtLeast 0 (weights_of kind size)
unfolding weights_of
least_weights kind size =
    least_if (kind == 1) uniform_weight _ (least_weaker 0 4 uniform_weight (omega arith) (least_then 4 0 (number 4) _ (least_number 4) (λ weight. least_gives _)))
    (least_if (kind == 2) (list_weights size) _ (least_then 0 0 (many 8 weighed size) _ (any_weighed size) (λ all. least_gives _))
    (least_if (kind == 3) tree_weights _ (least_weaker 0 1 tree_weights (omega arith) (least_then 1 0 (number 1) _ (least_number 1) (λ nodes. least_then 0 0 (many 4 (number 4) nodes) _ (any_words nodes) (λ all. least_gives _))))
    (least_if (kind == 4) (straw_weights size) _ (least_then 0 0 (many 8 weighed size) _ (any_weighed size) (λ all. least_gives _))
    (least_if (kind == 5) (straw2_weights size) no_weights (least_then 0 0 (many 4 (number 4) size) _ (any_words size) (λ all. least_gives _)) least_no_weights))))

-- a bucket leaves no more bytes than there were
any_bucket : HasAtLeast 0 bucket
unfolding bucket
any_bucket =
    least_weaker 0 16 bucket (omega arith)
    (least_then 4 12 (signed w32) _ least_id (λ id. least_then 2 10 (number 2) _ (least_number 2) (λ level. least_then 1 9 (number 1) _ (least_number 1) (λ kind. least_then 1 8 (number 1) _ (least_number 1) (λ hash.
    least_then 4 4 (number 4) _ (least_number 4) (λ weight. least_then 4 0 (number 4) _ (least_number 4) (λ size.
    least_then 0 0 (many 4 (signed w32) size) _ (least_many 4 (signed w32) (least_weaker 0 4 (signed w32) (omega arith) least_id) size) (λ items.
    least_then 0 0 (weights_of kind size) _ (least_weights kind size) (λ weights. least_gives _)))))))))

-- a step has its word and two arguments: twelve bytes
least_step : HasAtLeast 12 step
unfolding step
least_step =
    least_then 4 8 (number 4) _ (least_number 4) (λ n. least_then 0 8 (meant (step_word_of n)) _ (least_meant (step_word_of n)) (λ word. least_then 4 4 (signed w32) _ least_id (λ first. least_then 4 0 (signed w32) _ least_id (λ second. least_gives _))))

-- a rule leaves no more bytes than there were
any_rule : HasAtLeast 0 rule
unfolding rule
any_rule =
    least_weaker 0 8 rule (omega arith)
    (least_then 4 4 (number 4) _ (least_number 4) (λ size. least_then 1 3 (number 1) _ (least_number 1) (λ set. least_then 1 2 (number 1) _ (least_number 1) (λ kind. least_then 1 1 (number 1) _ (least_number 1) (λ low.
    least_then 1 0 (number 1) _ (least_number 1) (λ high. least_then 0 0 (many 12 step size) _ (least_many 12 step (least_weaker 0 12 step (omega arith) least_step) size) (λ steps. least_gives _)))))))

-- what a slot holds, if anything, leaves no more bytes than there were
least_held : {X : Type 0} (one : Front X) → HasAtLeast 0 one → (n : ℕ) → HasAtLeast 0 (held one n)
least_held one any n = least_if (n == 0) (gives (record { holds = None })) _ (least_gives (record { holds = None })) (least_then 0 0 one _ any (λ x. least_gives (record { holds = Some x })))

-- a slot has the four bytes that tell whether it holds something
least_slot : {X : Type 0} (one : Front X) → HasAtLeast 0 one → HasAtLeast 4 (slot one)
unfolding slot
least_slot one any = least_then 4 0 (number 4) (held one) (least_number 4) (least_held one any)

-- the class of a device has two ids: eight bytes
least_device_class : HasAtLeast 8 device_class
unfolding device_class
least_device_class = least_then 4 4 (signed w32) _ least_id (λ device. least_then 4 0 (signed w32) _ least_id (λ class. least_gives _))

-- a shadow has the ids of its class and of its bucket: eight bytes
least_shadow : HasAtLeast 8 shadow
unfolding shadow
least_shadow = least_then 4 4 (signed w32) _ least_id (λ class. least_then 4 0 (signed w32) _ least_id (λ bucket. least_gives _))

-- the shadows of a bucket have its id and the length of a list: eight bytes at least
least_shadow_trees : HasAtLeast 8 shadow_trees
unfolding shadow_trees
least_shadow_trees = least_then 4 4 (signed w32) _ least_id (λ bucket. least_then 4 0 (listed 8 shadow) _ (least_listed 8 shadow (least_weaker 0 8 shadow (omega arith) least_shadow)) (λ all. least_gives _))

-- a list of numbers has the four bytes of its length at least
least_words : HasAtLeast 4 (listed 4 (number 4))
least_words = least_listed 4 (number 4) (least_weaker 0 4 (number 4) (omega arith) (least_number 4))

-- a bucket's weights in a set have its place and the lengths of two lists: twelve bytes at least
least_bucket_weights : HasAtLeast 12 bucket_weights
unfolding bucket_weights
least_bucket_weights =
    least_then 4 8 (number 4) _ (least_number 4) (λ place. least_then 4 4 (listed 4 (listed 4 (number 4))) _ (least_listed 4 (listed 4 (number 4)) (least_weaker 0 4 (listed 4 (number 4)) (omega arith) least_words))
    (λ weights. least_then 4 0 (listed 4 (signed w32)) _ least_ids (λ ids. least_gives _)))

-- a weight set has the id of its pool, of eight bytes, and the length of a list: twelve bytes at least
least_weight_set : HasAtLeast 12 weight_set
unfolding weight_set
least_weight_set = least_then 8 4 (signed w64) _ least_long (λ pool. least_then 4 0 (listed 12 bucket_weights) _ (least_listed 12 bucket_weights (least_weaker 0 12 bucket_weights (omega arith) least_bucket_weights)) (λ all. least_gives _))

-- no address of a form that is not known is read
least_no_address : HasAtLeast 0 no_address
least_no_address bytes p h = absurd cc

-- an address behind the number of its form leaves no more bytes than there were
least_address_of : (kind : ℕ) → HasAtLeast 0 (address_of kind)
unfolding address_of
least_address_of kind =
    least_if (kind == 0) (skip 135) _ (least_weaker 0 135 (skip 135) (omega arith) (least_skip 135))
    (least_if (kind == 1) address_section no_address (least_weaker 0 6 address_section (omega arith) (least_then 6 0 (section 255) _ (least_section 255) (λ _. least_gives _))) least_no_address)

-- an address has the byte of its form at least
least_address : HasAtLeast 1 address
unfolding address
least_address = least_then 1 0 (number 1) _ (least_number 1) (λ kind. least_then 0 0 (address_of kind) _ (least_address_of kind) (λ _. least_gives _))

-- addresses behind the number of their form leave no more bytes than there were
least_addresses_of : (kind : ℕ) → HasAtLeast 0 (addresses_of kind)
unfolding addresses_of
least_addresses_of kind =
    least_if (kind == 2) several (address_of kind)
    (least_weaker 0 4 several (omega arith) (least_then 4 0 (listed 1 address) _ (least_listed 1 address (least_weaker 0 1 address (omega arith) least_address)) (λ _. least_gives _))) (least_address_of kind)

-- addresses have the byte of their form at least
least_addresses : HasAtLeast 1 addresses
unfolding addresses
least_addresses = least_then 1 0 (number 1) _ (least_number 1) (λ kind. least_then 0 0 (addresses_of kind) _ (least_addresses_of kind) (λ _. least_gives _))

-- no list of a map that is there is refused for room, of whatever kind it is
pub no_list_is_refused : NoListIsRefusedForRoom
no_list_is_refused = record {
  words = reads_lists 4 (number 4) (least_number 4);
  numbers = reads_lists 8 (number 8) (least_number 8);
  ids = reads_lists 4 (signed w32) least_id;
  rows = reads_lists 4 (listed 4 (number 4)) least_words;
  names = reads_lists 8 name least_name;
  setting = reads_lists 8 setting least_setting;
  settings = reads_lists 8 settings least_settings;
  intervals = reads_lists 16 interval least_interval;
  snapshots = reads_lists 14 snapshot least_snapshot;
  removed_snapshots = reads_lists 12 removed_snapshots least_removed;
  group_osds = reads_lists 21 group_osds least_group_osds;
  group_primaries = reads_lists 21 group_primary least_group_primary;
  pairs = reads_lists 8 pair least_pair;
  group_pairs = reads_lists 21 group_pairs least_group_pairs;
  pools = reads_lists 14 pool least_pool;
  pool_names = reads_lists 12 pool_name least_pool_name;
  address = reads_lists 1 address least_address;
  addresses = reads_lists 1 addresses least_addresses;
  device_classes = reads_lists 8 device_class least_device_class;
  shadows = reads_lists 8 shadow least_shadow;
  shadow_trees = reads_lists 8 shadow_trees least_shadow_trees;
  bucket_weights = reads_lists 12 bucket_weights least_bucket_weights;
  weight_sets = reads_lists 12 weight_set least_weight_set;
  items = reads_many 4 (signed w32) least_id;
  weights = reads_many 4 (number 4) (least_number 4);
  weighed = reads_many 8 weighed least_weighed;
  steps = reads_many 12 step least_step;
  buckets = reads_many 4 (slot bucket) (least_slot bucket any_bucket);
  rules = reads_many 4 (slot rule) (least_slot rule any_rule);
}
