-- What numbers within their limits come to as words.
use Rattle.std.proofs.Common.{◌≡◌, ℕ, ◌≤◌, ℤ, pos, negsuc, nat_abs, Bool, true, List, length, IsTrue, refl, arith}
use mathlib.Core.Bool.{false≢true}
use Rattle.std.proofs.lemmas.Bool.Decides.{nat_tests}
use Rattle.std.specs.List.{list_all}
use Rattle.mapparts.specs.declared.parts.PoolPart.{PoolPart}
use Rattle.mapparts.specs.declared.parts.PairPart.{PairPart}
use Rattle.mapparts.specs.declared.parts.ExceptionPart.{ExceptionPart}
use Rattle.mapparts.specs.declared.parts.GrowPart.{GrowPart}
use Rattle.mapparts.specs.Parts.{is_between, has_between, is_osd_id_in, pair_fits_in, exception_fits_in, entries_fit_in, pool_fits_in, growth_fits_in, is_osd_id, pair_fits, exception_fits, exceptions_fit, pool_fits, growth_fits}

-- a number between two naturals is a natural between them
pub record IsNatural (low high : ℕ) (z : ℤ) : Type 0 where
  pub is : z ≡ pos (nat_abs z)
  pub least : low ≤ nat_abs z
  pub most : nat_abs z ≤ high

-- a number between two natural ones is one
pub natural_between : (low high : ℕ) (z : ℤ) → is_between (pos low) (pos high) z ≡ true → IsNatural low high z
unfolding is_between
natural_between low high (pos n) h = record { is = refl; least = grind (arith, nat_tests); most = grind (arith, nat_tests) }
natural_between low high (negsuc n) h = absurd (false≢true h)

-- so it is a word where the upper bound is
pub word_between : (low high : ℕ) (z : ℤ) → high ≤ 4294967295 → is_between (pos low) (pos high) z ≡ true → IsTrue (is_between (pos 0) (pos 4294967295) z)
unfolding is_between
word_between low high (pos n) word h = grind (arith, nat_tests)
word_between low high (negsuc n) word h = absurd (false≢true h)

-- each number of a pool that is within its limits
pub record PoolFits (p : PoolPart) : Type 0 where
  pub id : is_between (pos 1) (pos 65535) p.id ≡ true
  pub pg_num : is_between (pos 1) (pos 65536) p.pg_num ≡ true
  pub pgp_num : is_between (pos 1) (pos 65536) p.pgp_num ≡ true
  pub rule : is_between (pos 0) (pos 255) p.rule ≡ true
  pub size : is_between (pos 1) (pos 20) p.size ≡ true

-- each number of a pool that fits is within its limits
pub pool_fits_each : (p : PoolPart) → pool_fits p ≡ true → PoolFits p
unfolding pool_fits_in
pool_fits_each p h = record {
  id = grind arith;
  pg_num = grind arith;
  pgp_num = grind arith;
  rule = grind arith;
  size = grind arith;
}

-- each number of a growth that is within its limits
pub record GrowthFits (g : GrowPart) : Type 0 where
  pub pool : is_between (pos 1) (pos 65535) g.pool ≡ true
  pub pg_num : is_between (pos 1) (pos 65536) g.pg_num ≡ true
  pub pgp_num : is_between (pos 1) (pos 65536) g.pgp_num ≡ true

-- so is each of a growth
pub growth_fits_each : (g : GrowPart) → growth_fits g ≡ true → GrowthFits g
unfolding growth_fits_in
growth_fits_each g h = record { pool = grind arith; pg_num = grind arith; pgp_num = grind arith }

-- an OSD's id is a word
pub osd_id_word : (z : ℤ) → is_osd_id z ≡ true → IsTrue (is_between (pos 0) (pos 4294967295) z)
unfolding is_osd_id_in
osd_id_word z h = word_between 0 4095 z (omega arith) h

-- both sides of a pair are OSDs' ids
pub pair_from : (p : PairPart) → pair_fits p ≡ true → is_osd_id p.from ≡ true
unfolding pair_fits_in is_osd_id_in
pair_from p h = grind arith

-- the second OSD of a pair that fits may be one
pub pair_to : (p : PairPart) → pair_fits p ≡ true → is_osd_id p.to ≡ true
unfolding pair_fits_in is_osd_id_in
pair_to p h = grind arith

-- what is within the limits in an exception that is
pub few_entries : {P : Type 0} (fits : P → Bool) (e : ExceptionPart P) → exception_fits fits e ≡ true → length e.entries ≤ 20
unfolding exception_fits_in has_between
few_entries fits e h = grind (arith, nat_tests)

-- each entry of an exception that fits does
pub entries_fit : {P : Type 0} (fits : P → Bool) (e : ExceptionPart P) → exception_fits fits e ≡ true → list_all fits e.entries ≡ true
unfolding exception_fits_in
entries_fit fits e h = grind arith

-- each exception of a list that fits does
pub each_fits : {P : Type 0} (fits : P → Bool) (es : List (ExceptionPart P)) → exceptions_fit fits es ≡ true → list_all (exception_fits fits) es ≡ true
unfolding entries_fit_in
each_fits fits es h = grind arith
