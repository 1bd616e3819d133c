-- Pools that stay, and pools after a change, by id.
use Rattle.std.proofs.Common.{◌≡◌, ◌∙◌, refl, sym, ap, inl, inr, arith, ℕ, suc, ◌+◌, ◌-◌, ◌≤◌, ◌<◌, leb, Bool, true, false, not, List, [], ◌∷◌, length, map, Some, None, reverse}
use Rattle.std.specs.Prelude.{◌||◌, ◌==◌}
use Rattle.std.specs.List.{list_all, filter, fold}
use Rattle.std.proofs.lemmas.Bool.{cases_Bool, both_ways}
use Rattle.std.proofs.lemmas.Bool.Decides.{nat_tests}
use Rattle.std.proofs.lemmas.List.Filters.{length-filter_both}
use Rattle.maptypes.specs.declared.change.ChangeParts.{ChangeParts}
use Rattle.maptypes.specs.Pools.{PoolFacts}
use Rattle.keylist.specs.Keys.{has_key, entry_at}
use Rattle.keylist.specs.Order.{IsRising}
use Rattle.keylist.specs.Puts.{put}
use Rattle.maptypes.specs.Growth.{with_growths}
use Rattle.osdmap.specs.Maps.{ClusterMap, HoldsTogether, has_rule}
use Rattle.osdmap.specs.Changes.{pools_kept, pools_there, rules_after, brings_new}
use Rattle.keylist.proofs.Tests.{and_first, and_second, not_true}
use Rattle.keylist.proofs.KeyedOrder.{rising-filter}
use Rattle.keylist.proofs.KeyedMaps.{entry-puts, entry-without, has-put, length-put, rising-put}

-- an old pool is not among those kept
pub kept-gone : (m : ClusterMap) (c : ChangeParts) (id : ℕ) → has_key (λ k. k) c.pools.gone id ≡ true → entry_at (λ p. p.id) (pools_kept m c) id ≡ None
unfolding pools_kept
kept-gone m c id gone = entry-without (λ (q : PoolFacts). q.id) (λ (k : ℕ). k) c.pools.gone m.pools id ∙ rw gone refl

-- another is, as it was
pub kept-stays : (m : ClusterMap) (c : ChangeParts) (id : ℕ) → has_key (λ k. k) c.pools.gone id ≡ false → entry_at (λ p. p.id) (pools_kept m c) id ≡ entry_at (λ p. p.id) m.pools id
unfolding pools_kept
kept-stays m c id stays = entry-without (λ (q : PoolFacts). q.id) (λ (k : ℕ). k) c.pools.gone m.pools id ∙ rw stays refl

-- of new pools of one id the last is there
pub after-new : (m : ClusterMap) (c : ChangeParts) (id : ℕ) (p : PoolFacts) → entry_at (λ p. p.id) (reverse c.pools.come) id ≡ Some p → entry_at (λ p. p.id) (pools_there m c) id ≡ Some p
unfolding pools_there
after-new m c id p new = entry-puts (λ (q : PoolFacts). q.id) (pools_kept m c) c.pools.come id ∙ rw new refl

-- an id that no new pool has is there as it was kept
pub after-old : (m : ClusterMap) (c : ChangeParts) (id : ℕ) → entry_at (λ p. p.id) (reverse c.pools.come) id ≡ None → entry_at (λ p. p.id) (pools_there m c) id ≡ entry_at (λ p. p.id) (pools_kept m c) id
unfolding pools_there
after-old m c id new = entry-puts (λ (q : PoolFacts). q.id) (pools_kept m c) c.pools.come id ∙ rw new refl

-- ---- how many pools there are

module _ {X : Type 0} (key : X → ℕ) where
  -- where some list lacks the keys that come, as many come to a longer one as to none
  puts-apart : (ys xs zs new : List X) → IsRising key xs → IsRising key zs → ((k : ℕ) → has_key key xs k ≡ (has_key key ys k || has_key key zs k)) → length xs ≡ length ys + length zs
      → list_all (λ e. not (has_key key ys (key e))) new ≡ true → length (fold (put key) xs new) ≡ length ys + length (fold (put key) zs new)
  puts-apart ys xs zs [] x_rises z_rises keys long apart = long
  puts-apart ys xs zs (e ∷ es) x_rises z_rises keys long apart =
      let here = not_true _ (and_first (not (has_key key ys (key e))) (list_all (λ e'. not (has_key key ys (key e'))) es) apart) in
      let rest = and_second (not (has_key key ys (key e))) (list_all (λ e'. not (has_key key ys (key e'))) es) apart in
      let same : has_key key xs (key e) ≡ has_key key zs (key e) = keys (key e) ∙ rw here refl in
      puts-apart ys (put key xs e) (put key zs e) es (rising-put key xs e x_rises) (rising-put key zs e z_rises)
      (λ k. has-put key xs e k ∙ rw (has-put key zs e k, keys k) (turn (key e == k) (has_key key ys k) (has_key key zs k)))
      (length-put key xs e x_rises ∙ rw (length-put key zs e z_rises, same, long) (omega arith))
      rest
    where
      turn : (a b c : Bool) → (a || (b || c)) ≡ (b || (a || c))
      turn a b c = grind arith

-- new pools that are not there yet are as many more
pub length-after : (m : ClusterMap) (c : ChangeParts) → IsRising (λ p. p.id) m.pools → brings_new m c ≡ true
    → length (pools_there m c) ≡ length (pools_kept m c) + length (fold (put (λ p. p.id)) [] c.pools.come)
unfolding pools_there brings_new pools_kept
length-after m c rises new =
    puts-apart (λ (q : PoolFacts). q.id) _ _ [] c.pools.come (rising-filter (λ (q : PoolFacts). q.id) _ m.pools rises) (λ i j d below inside. absurd (omega arith)) (λ k. or_false _) (omega arith) new
  where
    or_false : (b : Bool) → b ≡ (b || false)
    or_false b = grind arith

-- ---- the pools that stay, as they are counted

-- the pools kept are those that no old one names
pub kept-is : (m : ClusterMap) (c : ChangeParts) → pools_kept m c ≡ filter (λ q. not (has_key (λ k. k) c.pools.gone q.id)) m.pools
unfolding pools_kept
kept-is m c = refl

-- all are where none goes
pub kept-all : (m : ClusterMap) (c : ChangeParts) → c.pools.gone ≡ [] → pools_kept m c ≡ m.pools
unfolding pools_kept
kept-all m c none = rw none (all_stay m.pools)
  where
    all_stay : (ps : List PoolFacts) → filter (λ (q : PoolFacts). true) ps ≡ ps
    all_stay [] = refl
    all_stay (p ∷ ps) = ap (λ qs. p ∷ qs) (all_stay ps)

-- what all pass, all of those pass that stay
all-kept : (p q : PoolFacts → Bool) (ps : List PoolFacts) → list_all p ps ≡ true → true ≡ list_all p (filter q ps)
all-kept p q [] all = refl
all-kept p q (r ∷ rs) all =
    let rest = all-kept p q rs (and_second (p r) (list_all p rs) all) in
    elim (cases_Bool (q r)) [
      | inl stays ↦ rw (stays, and_first (p r) (list_all p rs) all) rest
      | inr goes ↦ rw goes rest
    ]

-- a list of length 0 has no entries
pub none-there : {X : Type 0} (xs : List X) (b : Bool) → b ≡ (length xs == 0) → b ≡ true → xs ≡ []
none-there [] b is empty = refl
none-there (x ∷ xs) b is empty = absurd (both_ways _ (is_some (length xs)) (sym is ∙ empty))
  where
    is_some : (n : ℕ) → (suc n == 0) ≡ false
    is_some n = grind (arith, nat_tests)

-- those that stay keep their rules where these stay
pub kept-ruled : (m : ClusterMap) (c : ChangeParts) → HoldsTogether m → c.crush ≡ None → true ≡ list_all (has_rule (rules_after m c)) (pools_kept m c)
unfolding pools_kept
kept-ruled m c holds none = rw none (all-kept (has_rule m.rules) (λ (q : PoolFacts). not (has_key (λ k. k) c.pools.gone q.id)) m.pools holds.ruled)

-- none grows where there are no growths
pub grown-none : (ps : List PoolFacts) → map (with_growths []) ps ≡ ps
unfolding with_growths
grown-none [] = refl
grown-none (p ∷ ps) = ap (λ qs. p ∷ qs) (grown-none ps)

-- they are not more than before
pub kept-few : (m : ClusterMap) (c : ChangeParts) → length (pools_kept m c) ≤ length m.pools
unfolding pools_kept
kept-few m c =
    let stays : PoolFacts → Bool = λ q. not (has_key (λ k. k) c.pools.gone q.id) in
    omega (arith, length-filter_both stays (λ q. not (stays q)) (λ q. refl) m.pools)

-- there are at most so many pools where no more come than have room
pub rightly-counted : (m : ClusterMap) (c : ChangeParts) (most k n : ℕ) → IsRising (λ p. p.id) m.pools → brings_new m c ≡ true
    → k ≡ length (pools_kept m c) → n ≡ length (fold (put (λ p. p.id)) [] c.pools.come) → k ≤ most → leb n (most - k) ≡ leb (length (pools_there m c)) most
rightly-counted m c most k n rises new kept come few = rw (length-after m c rises new, ← kept, ← come) (grind (arith, nat_tests))

-- and more than so many where more stay
pub many-counted : (m : ClusterMap) (c : ChangeParts) (most k : ℕ) → IsRising (λ p. p.id) m.pools → brings_new m c ≡ true
    → k ≡ length (pools_kept m c) → most < k → leb k most ≡ leb (length (pools_there m c)) most
many-counted m c most k rises new kept many = rw (length-after m c rises new, ← kept) (grind (arith, nat_tests))
