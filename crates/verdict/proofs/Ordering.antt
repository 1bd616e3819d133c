-- Lists of at most one entry are in order as they stand, and so is the change of one command.
use Rattle.std.proofs.Common.{◌≡◌, refl, ap, ℕ, List, [], ◌∷◌, arith}
use Rattle.std.proofs.lemmas.List.Elements.{All-head, All-nil, All-cons}
use Rattle.std.proofs.lemmas.List.Sorted.{All-permutation, length_permutation}
use Rattle.keylist.specs.Order.{SortsBy}
use Rattle.mapparts.specs.declared.change.ExceptionChanges.{ExceptionChanges}
use Rattle.mapparts.specs.declared.profile.Profile.{Profile}
use Rattle.maptypes.specs.declared.change.ChangeParts.{ChangeParts}
use Rattle.maptypes.specs.declared.exception.Exception.{Exception}
use Rattle.maptypes.specs.declared.exception.Pair.{Pair}
use Rattle.maptypes.specs.declared.pg.Pg.{Pg}
use Rattle.maptypes.specs.Exceptions.{pg_key, key_of}
use Rattle.maptypes.specs.Named.{no_exceptions, no_parts}
use Rattle.maptypes.specs.Ordered.{IsOrdered, OrdersExceptions}
use Rattle.verdict.specs.declared.order.Order.{Order}
use Rattle.verdict.specs.declared.order.Order.TheVariants.{SetPlaces, DropPlaces, SetPairs, DropPairs}
use Rattle.verdict.specs.Orders.{comes, goes, change_of_order}

-- the empty list is sorted into itself alone
none_sorted : {X : Type 0} (key : X → ℕ) (ys : List X) → SortsBy key [] ys → ys ≡ []
none_sorted key [] sorts = refl
none_sorted key (y ∷ ys) sorts = let long = length_permutation [] (y ∷ ys) sorts.same in absurd (omega (arith, long))

-- so is a list of one entry
one_sorted : {X : Type 0} (key : X → ℕ) (x : X) (ys : List X) → SortsBy key (x ∷ []) ys → ys ≡ x ∷ []
one_sorted key x [] sorts = let long = length_permutation (x ∷ []) [] sorts.same in absurd (omega (arith, long))
one_sorted key x (y ∷ []) sorts =
    ap (λ z. z ∷ []) (All-head (λ z. z ≡ x) y []
    (All-permutation (λ z. z ≡ x) (x ∷ []) (y ∷ []) sorts.same (All-cons (λ z. z ≡ x) x [] refl (All-nil (λ z. z ≡ x)))))
one_sorted key x (y ∷ z ∷ ys) sorts =
    let long = length_permutation (x ∷ []) (y ∷ z ∷ ys) sorts.same in absurd (omega (arith, long))

-- what a change does with exceptions of one kind stays, where each list of it does
exceptions_same : {E : Type 0} (given c : ExceptionChanges Pg (Exception E)) → c.gone ≡ given.gone → c.come ≡ given.come → c ≡ given
exceptions_same given c gone come = λ i. record { gone = gone i; come = come i }

-- a change of exceptions alone stays, where they do
exceptions_alone : (profile : Profile) (explicit : ExceptionChanges Pg (Exception ℕ)) (items : ExceptionChanges Pg (Exception Pair)) (c : ChangeParts)
    → IsOrdered (record (no_parts profile) { explicit = explicit; items = items }) c → c.explicit ≡ explicit → c.items ≡ items
    → c ≡ record (no_parts profile) { explicit = explicit; items = items }
exceptions_alone profile explicit items c ordered same_explicit same_items = λ i. record {
  profile = ordered.profile i;
  pools = record {
    gone = none_sorted (λ id. id) c.pools.gone ordered.pools.gone i;
    come = none_sorted (λ p. p.id) c.pools.come ordered.pools.come i;
    grow = none_sorted (λ g. g.pool) c.pools.grow ordered.pools.grow i;
  };
  crush = ordered.crush i;
  osds = record {
    down = none_sorted (λ osd. osd) c.osds.down ordered.osds.down i;
    up = none_sorted (λ osd. osd) c.osds.up ordered.osds.up i;
  };
  weights = none_sorted (λ w. w.osd) c.weights ordered.weights i;
  explicit = same_explicit i;
  items = same_items i;
}

-- no exceptions are in order as they stand
none_stay : {E : Type 0} (c : ExceptionChanges Pg (Exception E)) → OrdersExceptions no_exceptions c → c ≡ no_exceptions
none_stay c orders = exceptions_same no_exceptions c (none_sorted pg_key c.gone orders.gone) (none_sorted key_of c.come orders.come)

-- so is one that comes
comes_stays : {E : Type 0} (e : Exception E) (c : ExceptionChanges Pg (Exception E)) → OrdersExceptions (comes e) c → c ≡ comes e
comes_stays e c orders = exceptions_same (comes e) c (none_sorted pg_key c.gone orders.gone) (one_sorted key_of e c.come orders.come)

-- so is one that goes
goes_stays : {E : Type 0} (pg : Pg) (c : ExceptionChanges Pg (Exception E)) → OrdersExceptions (goes pg) c → c ≡ goes pg
goes_stays pg c orders = exceptions_same (goes pg) c (one_sorted pg_key pg c.gone orders.gone) (none_sorted key_of c.come orders.come)

-- the change of a command is in order as it stands
pub order_stays : (profile : Profile) (o : Order) (c : ChangeParts) → IsOrdered (change_of_order profile o) c → c ≡ change_of_order profile o
order_stays profile (SetPlaces explicit) c ordered =
    exceptions_alone profile (comes explicit) no_exceptions c ordered (comes_stays explicit c.explicit ordered.explicit) (none_stay c.items ordered.items)
order_stays profile (DropPlaces pg) c ordered =
    exceptions_alone profile (goes pg) no_exceptions c ordered (goes_stays pg c.explicit ordered.explicit) (none_stay c.items ordered.items)
order_stays profile (SetPairs items) c ordered =
    exceptions_alone profile no_exceptions (comes items) c ordered (none_stay c.explicit ordered.explicit) (comes_stays items c.items ordered.items)
order_stays profile (DropPairs pg) c ordered =
    exceptions_alone profile no_exceptions (goes pg) c ordered (none_stay c.explicit ordered.explicit) (goes_stays pg c.items ordered.items)
