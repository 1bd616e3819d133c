-- The text of a group of a map states that group.
use Rattle.std.proofs.Common.{◌≡◌, ℕ, zero, suc, ◌^◌, ◌<◌, ◌==◌, nat_abs, nat_lt, Bool, true, false, cond, List, [], ◌∷◌, map, Option, Some, None, option_and_then, ap, arith, ltb-true}
use Rattle.std.specs.List.{list_all}
use Rattle.std.specs.Option.{option_map_or}
use Rattle.std.specs.Prelude.{unwrap_or}
use Rattle.std.proofs.lemmas.Bool.{and_parts}
use Rattle.std.proofs.lemmas.Bool.Decides.{nat_tests}
use Rattle.mapparts.specs.declared.parts.PoolPart.{PoolPart}
use Rattle.mapparts.specs.declared.parts.ExceptionPart.{ExceptionPart}
use Rattle.maptypes.specs.declared.pg.Pg.{Pg}
use Rattle.mapparts.specs.declared.pg_parts.PgParts.{PgParts}
use Rattle.maptypes.specs.Exceptions.{has_group, is_exception}
use Rattle.keylist.specs.Keys.{entry_at}
use Rattle.maptypes.specs.Pools.{PoolFacts}
use Rattle.mapparts.specs.Parts.{pg_fits, pool_fits, exception_fits, exception_fits_in}
use Rattle.maptypes.specs.Values.{pool_of, exception_of}
use Rattle.osdmap.specs.PartsOf.{pg_part}
use Rattle.mapparts.specs.PgText.{parts_in}
use Rattle.maptypes.specs.GroupText.{group_of_parts, group_text}
use Rattle.mapparts.proofs.Within.{natural_between, pool_fits_each}
use Rattle.maptypes.proofs.GroupTexts.{group_in-text}
use Rattle.mapjson.specs.Written.{IsNamed, AreNamed}

-- ---- one group

-- parts that make up a group are those of that group
whole_parts : (pool number : Option ℕ) (g : Pg) → group_of_parts (record { pool = pool; number = number }) ≡ Some g → record { pool = pool; number = number } ≡ pg_part g
whole_parts (Some pool) (Some number) g h = cc
whole_parts (Some pool) None g h = cc
whole_parts None number g h = cc

-- parts that make a group are its own
pub parts_of_group : (o : Option PgParts) (g : Pg) → option_and_then group_of_parts o ≡ Some g → o ≡ Some (pg_part g)
parts_of_group (Some parts) g h = ap Some (whole_parts parts.pool parts.number g h)
parts_of_group None g h = cc

-- the text of a group whose parts are words states that group
pub group_named : (g : Pg) → g.pool < 2 ^ 32 → g.number < 2 ^ 32 → IsNamed (pg_part g)
group_named g pool number = parts_of_group (parts_in (group_text g)) g (group_in-text g pool number)

-- ---- the groups of parts within the limits

-- the pool that has an id, or another one
in_first : (q : PoolPart) (number : ℕ) (rest : Option PoolFacts) (b : Bool) → pool_fits q ≡ true
    → (option_map_or (λ p. nat_lt number p.pg_num) rest false ≡ true → number < 2 ^ 32)
    → option_map_or (λ p. nat_lt number p.pg_num) (cond b (Some (pool_of q)) rest) false ≡ true → number < 2 ^ 32
in_first q number rest true fit others there =
    let groups = natural_between 1 65536 q.pg_num (pool_fits_each q fit).pg_num in
    omega (arith, ltb-true _ _ there, groups.most)
in_first q number rest false fit others there = others there

-- a group of one of some pools has a number of at most 32 bits
in_pools : (pools : List PoolPart) (g : Pg) → list_all pool_fits pools ≡ true → has_group (map pool_of pools) g ≡ true → g.number < 2 ^ 32
in_pools [] g fit there = cc
in_pools (q ∷ qs) g fit there =
    let fits = and_parts (pool_fits q) _ fit in
    in_first q g.number (entry_at (λ (p : PoolFacts). p.id) (map pool_of qs) g.pool) (nat_abs q.id == g.pool) fits.0 (in_pools qs g fits.1) there

-- the text of the group of fitting parts states those parts
parts_named : (pool number : Option ℕ) → pg_fits (record { pool = pool; number = number }) ≡ true → unwrap_or number 0 < 2 ^ 32 → IsNamed (record { pool = pool; number = number })
unfolding pg_fits
parts_named (Some pool) (Some number) fit small = group_named (record { pool = pool; number = number }) (grind (arith, nat_tests, fit)) small
parts_named (Some pool) None fit small = absurd (grind (arith, fit))
parts_named None number fit small = absurd (grind (arith, fit))

-- exceptions within the limits, of groups that are there
pub exceptions_named : {E P : Type 0} (names : E → List ℕ) (sound : List E → Bool) (exists : ℕ → Bool) (entry_of : P → E) (fits : P → Bool) (pools : List PoolPart) → list_all pool_fits pools ≡ true
    → (es : List (ExceptionPart P)) → list_all (exception_fits fits) es ≡ true
    → list_all (is_exception names sound (map pool_of pools) exists) (map (exception_of entry_of) es) ≡ true → AreNamed es
unfolding exception_fits_in
exceptions_named names sound exists entry_of fits pools small [] fit there k d below = absurd (omega arith)
exceptions_named names sound exists entry_of fits pools small (e ∷ es) fit there zero d below =
    let first = and_parts _ _ (and_parts _ _ (and_parts (is_exception names sound (map pool_of pools) exists (exception_of entry_of e)) _ there).0).0 in
    let pg = and_parts (pg_fits e.pg) _ (and_parts _ (list_all fits e.entries) (and_parts (exception_fits fits e) _ fit).0).0 in
    parts_named e.pg.pool e.pg.number pg.0 (in_pools pools (exception_of entry_of e).pg small first.0)
exceptions_named names sound exists entry_of fits pools small (e ∷ es) fit there (suc k) d below =
    exceptions_named names sound exists entry_of fits pools small es (and_parts (exception_fits fits e) _ fit).1
    (and_parts (is_exception names sound (map pool_of pools) exists (exception_of entry_of e)) _ there).1 k d (omega arith)
