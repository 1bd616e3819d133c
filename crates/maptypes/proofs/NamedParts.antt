-- What a change names and what it leaves: its keys rise, the groups that it names are found, and what it has not stays.
use Rattle.std.proofs.Common.{◌≡◌, ◌∙◌, refl, sym, ap, cond, ℕ, ◌⊎◌, ◌+◌, ◌<◌, ◌≤◌, Bool, true, false, not, ◌||◌, eqb, List, [], ◌∷◌, ◌++◌, length, take, map, get_or, Option, Some, None, is_some, inl, inr, arith}
use mathlib.Core.Bool.{false≢true}
use Rattle.std.specs.List.{filter, list_all}
use Rattle.std.specs.Option.{option_map, option_or}
use Rattle.std.proofs.lemmas.List.{get_or-map, length-map, take_all}
use Rattle.std.proofs.lemmas.List.Elements.{All-weaker}
use Rattle.std.proofs.lemmas.List.Sums.{AllPass-from_list_all}
use Rattle.keylist.specs.Keys.{is_distinct, has_key, entry_at}
use Rattle.keylist.specs.Order.{IsRising}
use Rattle.keylist.proofs.KeyedDistinct.{distinct-append}
use Rattle.keylist.proofs.KeyedOrder.{distinct_rises}
use Rattle.keylist.proofs.KeyedMaps.{entry-puts, entry-reverse, entry-without, has-puts, rising-puts}
use Rattle.mapparts.specs.declared.change.PoolChanges.{PoolChanges}
use Rattle.mapparts.specs.declared.change.ExceptionChanges.{ExceptionChanges}
use Rattle.maptypes.specs.CrushMaps.{CrushFacts}
use Rattle.maptypes.specs.declared.change.ChangeParts.{ChangeParts}
use Rattle.maptypes.specs.declared.exception.Exception.{Exception}
use Rattle.maptypes.specs.declared.pg.Pg.{Pg}
use Rattle.maptypes.specs.Exceptions.{pg_key, key_of, said_of, is_among, stays, exceptions_after}
use Rattle.maptypes.specs.Ordered.{IsInOrder}
use Rattle.maptypes.specs.Growth.{Growth}
use Rattle.maptypes.specs.Pools.{PoolFacts}
use Rattle.maptypes.specs.Named.{names_once, all_named_groups, EachGroup, EachNamed, NamedRise, is_named, excepted_groups, union_of, named_groups, said_after, renews, is_empty, leaves_raw_sets}

-- ---- tests

-- of two tests of which one passes, one does
pub or_cases : (a b : Bool) → (a || b) ≡ true → (a ≡ true) ⊎ (b ≡ true)
or_cases true b h = inl refl
or_cases false b h = inr h

-- the first that passes is enough
pub some_or : (a b : Bool) → a ≡ true → (a || b) ≡ true
some_or a b h = rw h refl

-- so is the second
true_behind : (a : Bool) → (a || true) ≡ true
true_behind true = refl
true_behind false = refl

-- whatever the first is
pub other_or : (a b : Bool) → b ≡ true → (a || b) ≡ true
other_or a b h = rw h (true_behind a)

-- what is not either is not the first
pub or_first : (a b : Bool) → (a || b) ≡ false → a ≡ false
or_first true b h = h
or_first false b h = refl

-- what is not either is not the second
pub or_second : (a b : Bool) → (a || b) ≡ false → b ≡ false
or_second true b h = absurd (false≢true (sym h))
or_second false b h = h

-- ---- keys

-- of distinct keys in two lists those of the first are
first_distinct : (ks js : List ℕ) → is_distinct (ks ++ js) ≡ true → is_distinct ks ≡ true
first_distinct ks js h = let parts = distinct-append ks js in grind (arith, parts, h)

-- of distinct keys in two lists those of the second are
second_distinct : (ks js : List ℕ) → is_distinct (ks ++ js) ≡ true → is_distinct js ≡ true
second_distinct ks js h = let parts = distinct-append ks js in grind (arith, parts, h)

-- what comes has rising keys
pub record Comes (c : ChangeParts) : Type 0 where
  pub pools : IsRising (λ p. p.id) c.pools.come
  pub upmap : IsRising key_of c.explicit.come
  pub items : IsRising key_of c.items.come

-- so it has where no key stands twice and each part is in order
pub comes : (c : ChangeParts) → names_once c ≡ true → IsInOrder c → Comes c
unfolding names_once
comes c once ordered = record {
  pools = distinct_rises (λ (p : PoolFacts). p.id) c.pools.come ordered.pools.come (second_distinct (map (λ (k : ℕ). k) c.pools.gone) _ (grind (arith, once)));
  upmap = distinct_rises key_of c.explicit.come ordered.explicit.come (second_distinct (map pg_key c.explicit.gone) _ (grind (arith, once)));
  items = distinct_rises key_of c.items.come ordered.items.come (second_distinct (map pg_key c.items.gone) _ (grind (arith, once)));
}

-- so do the groups that it names
pub named_rise : (c : ChangeParts) → names_once c ≡ true → IsInOrder c → NamedRise c
unfolding names_once
named_rise c once ordered =
    let new = comes c once ordered in
    record {
      explicit = record {
        gone = distinct_rises pg_key c.explicit.gone ordered.explicit.gone (first_distinct (map pg_key c.explicit.gone) (map key_of c.explicit.come) (grind (arith, once)));
        come = new.upmap;
      };
      items = record {
        gone = distinct_rises pg_key c.items.gone ordered.items.gone (first_distinct (map pg_key c.items.gone) (map key_of c.items.come) (grind (arith, once)));
        come = new.items;
      };
    }

-- ---- groups of exceptions

-- the groups of exceptions are those that have one
pub groups_have : {E : Type 0} (es : List (Exception E)) (k : ℕ) → has_key pg_key (excepted_groups es) k ≡ has_key key_of es k
groups_have [] k = refl
groups_have (e ∷ es) k = ap (λ b. eqb (key_of e) k || b) (groups_have es k)

-- they rise where the exceptions do
pub groups_rise : {E : Type 0} (es : List (Exception E)) → IsRising key_of es → IsRising pg_key (excepted_groups es)
groups_rise es up i j d less inside =
    let long : length (excepted_groups es) ≡ length es = length-map es (λ e. e.pg) in
    let last : j < length es = omega (arith, long, inside) in
    by_element es up i j d less last (element es i (omega arith))
  where
    by_element : {E : Type 0} (es : List (Exception E)) → IsRising key_of es → (i j : ℕ) (d : Pg) → i < j → j < length es → Exception E → pg_key (get_or (excepted_groups es) i d) < pg_key (get_or (excepted_groups es) j d)
    by_element es up i j d less last e = rw (get_or-map (λ x. x.pg) es i e d (omega arith), get_or-map (λ x. x.pg) es j e d last) (up i j e less last)

    element : {X : Type 0} (xs : List X) (i : ℕ) → i < length xs → X
    element [] i inside = absurd (omega arith)
    element (x ∷ xs) i inside = x

-- the groups of exceptions with rising keys rise, once all are there
pub groups_rise_all : {E : Type 0} (es : List (Exception E)) (gs : List Pg) (i : ℕ) → IsRising key_of es → gs ≡ excepted_groups (take i es) → length es ≤ i → IsRising pg_key gs
groups_rise_all es gs i up is past =
    let all : gs ≡ excepted_groups es = is ∙ ap excepted_groups (take_all i es past) in
    rw all (groups_rise es up)

-- joined groups rise
pub joined_rise : (some others gs : List Pg) → IsRising pg_key some → gs ≡ union_of some others → IsRising pg_key gs
joined_rise some others gs up is = rw is (rising-puts pg_key some others up)

-- a group is among two lists joined where it is in either
pub has_joined : (some others : List Pg) (k : ℕ) → has_key pg_key (union_of some others) k ≡ (has_key pg_key others k || has_key pg_key some k)
has_joined some others k = has-puts pg_key some others k

-- a group that a change names is among those named
pub named_has : (c : ChangeParts) (g : Pg) → is_named c g ≡ true → has_key pg_key (named_groups c) (pg_key g) ≡ true
unfolding is_named
named_has c g named =
    let k = pg_key g in
    let both = union_of c.explicit.gone c.items.gone in
    let three = union_of both (excepted_groups c.explicit.come) in
    let in_both = λ (h : (is_among c.explicit.gone g || is_among c.items.gone g) ≡ true). has_joined c.explicit.gone c.items.gone k ∙ elim (or_cases _ _ h) [
      | inl first ↦ other_or (has_key pg_key c.items.gone k) (has_key pg_key c.explicit.gone k) first
      | inr second ↦ some_or (has_key pg_key c.items.gone k) (has_key pg_key c.explicit.gone k) second
    ] in
    has_joined three (excepted_groups c.items.come) k ∙ elim (or_cases _ _ named) [
      | inr last ↦ some_or _ _ (groups_have c.items.come k ∙ last)
      | inl rest ↦ other_or _ _ (has_joined both (excepted_groups c.explicit.come) k ∙ elim (or_cases _ _ rest) [
        | inr third ↦ some_or _ _ (groups_have c.explicit.come k ∙ third)
        | inl olds ↦ other_or _ _ (in_both olds)
      ])
    ]

-- exceptions of one kind neither go nor come of a group
pub record HasNone {E : Type 0} (c : ExceptionChanges Pg (Exception E)) (g : Pg) : Type 0 where
  pub gone : is_among c.gone g ≡ false
  pub come : has_key key_of c.come (pg_key g) ≡ false

-- a group that a change does not name is in none of its lists
pub record IsUnnamed (c : ChangeParts) (g : Pg) : Type 0 where
  pub explicit : HasNone c.explicit g
  pub items : HasNone c.items g

-- that it is in none is what the test finds
pub unnamed : (c : ChangeParts) (g : Pg) → is_named c g ≡ false → IsUnnamed c g
unfolding is_named
unnamed c g none =
    let three = or_first _ (has_key key_of c.items.come (pg_key g)) none in
    let olds = or_first _ (has_key key_of c.explicit.come (pg_key g)) three in
    record {
      explicit = record {
        gone = or_first (is_among c.explicit.gone g) (is_among c.items.gone g) olds;
        come = or_second _ (has_key key_of c.explicit.come (pg_key g)) three;
      };
      items = record {
        gone = or_second (is_among c.explicit.gone g) (is_among c.items.gone g) olds;
        come = or_second _ (has_key key_of c.items.come (pg_key g)) none;
      };
    }

-- where each group that is named passes a test, each has what the test finds
pub each_named : (p : Pg → Bool) (P : Pg → Type 0) (c : ChangeParts) → ((g : Pg) → p g ≡ true → P g) → all_named_groups p c ≡ true → EachNamed P c
unfolding all_named_groups
each_named p P c found all = record {
  explicit = each_group c.explicit (grind (arith, all)) (grind (arith, all));
  items = each_group c.items (grind (arith, all)) (grind (arith, all));
}
  where
    each_group : {E : Type 0} (x : ExceptionChanges Pg (Exception E)) → list_all p x.gone ≡ true → list_all (λ e. p e.pg) x.come ≡ true → EachGroup P x
    each_group x gone come = record {
      gone = All-weaker (λ g. p g ≡ true) P found x.gone (AllPass-from_list_all p x.gone gone);
      come = All-weaker (λ e. p e.pg ≡ true) (λ e. P e.pg) (λ e. found e.pg) x.come (AllPass-from_list_all (λ e. p e.pg) x.come come);
    }

-- what follows from a property of each group that is named holds of each
pub each_weaker : (P Q : Pg → Type 0) (c : ChangeParts) → ((g : Pg) → P g → Q g) → EachNamed P c → EachNamed Q c
each_weaker P Q c so each = record { explicit = group_weaker c.explicit each.explicit; items = group_weaker c.items each.items }
  where
    group_weaker : {E : Type 0} (x : ExceptionChanges Pg (Exception E)) → EachGroup P x → EachGroup Q x
    group_weaker x has = record {
      gone = All-weaker P Q so x.gone has.gone;
      come = All-weaker (λ e. P e.pg) (λ e. Q e.pg) (λ e. so e.pg) x.come has.come;
    }

-- what is said of a group after exceptions went and came, where no pool goes
pub said_then : {E : Type 0} (gone : List Pg) (new es : List (Exception E)) (g : Pg) → IsRising key_of new → said_of (exceptions_after [] gone new es) g ≡ said_after gone new (said_of es g) g
unfolding exceptions_after
said_then {E} gone new es g rises =
    let k = pg_key g in
    let puts = entry-puts key_of (filter (stays [] gone) es) new k in
    let last = entry-reverse key_of new k rises in
    let left = entry-without key_of pg_key gone es k in
    ap (option_map (λ e. e.entries)) (puts ∙ rw (last, left) refl) ∙ by_cases (entry_at key_of new k) (has_key pg_key gone k) (entry_at key_of es k)
  where
    by_cases : (o : Option (Exception E)) (b : Bool) (q : Option (Exception E)) → option_map (λ e. e.entries) (option_or o (cond b None q)) ≡ option_or (option_map (λ e. e.entries) o) (cond b None (option_map (λ e. e.entries) q))
    by_cases None true q = refl
    by_cases None false q = refl
    by_cases (Some e) b q = refl

-- ---- pools

-- what is not there is none
none_there : {X : Type 0} (o : Option X) → is_some o ≡ false → o ≡ None
none_there None h = refl
none_there (Some x) h = absurd (false≢true (sym h))

-- a pool that a change does not make anew: no forest comes, nor the pool, nor does it grow
pub record IsUnrenewed (c : ChangeParts) (id : ℕ) : Type 0 where
  pub crush : c.crush ≡ None
  pub new : has_key (λ p. p.id) c.pools.come id ≡ false
  pub grow : has_key (λ g. g.pool) c.pools.grow id ≡ false

-- that is what the test finds
pub unrenewed : (c : ChangeParts) (id : ℕ) → renews c id ≡ false → IsUnrenewed c id
unfolding renews
unrenewed c id none =
    let two = or_first _ (has_key (λ g. g.pool) c.pools.grow id) none in
    record {
      crush = none_there c.crush (or_first (is_some c.crush) (has_key (λ p. p.id) c.pools.come id) two);
      new = or_second (is_some c.crush) (has_key (λ p. p.id) c.pools.come id) two;
      grow = or_second _ (has_key (λ g. g.pool) c.pools.grow id) none;
    }

-- ---- changes that leave all raw sets

-- a list without entries
nothing : {X : Type 0} (xs : List X) → is_empty xs ≡ true → xs ≡ []
nothing [] is = refl
nothing (x ∷ xs) is = absurd (false≢true is)

-- no forest comes
no_crush : (k : Option CrushFacts) → not (is_some k) ≡ true → k ≡ None
no_crush None is = refl
no_crush (Some k) is = absurd (false≢true is)

-- pools that stay as they are
pub record LeavesPools (c : PoolChanges ℕ PoolFacts Growth) : Type 0 where
  pub gone : c.gone ≡ []
  pub come : c.come ≡ []
  pub grow : c.grow ≡ []

-- the parts that such a change has not
pub record LeavesRawSets (c : ChangeParts) : Type 0 where
  pub pools : LeavesPools c.pools
  pub crush : c.crush ≡ None
  pub weights : c.weights ≡ []

-- that these are missing is what the test finds
pub leaving : (c : ChangeParts) → leaves_raw_sets c ≡ true → LeavesRawSets c
unfolding leaves_raw_sets
leaving c is = record {
  pools = record {
    gone = nothing c.pools.gone (grind (arith, is));
    come = nothing c.pools.come (grind (arith, is));
    grow = nothing c.pools.grow (grind (arith, is));
  };
  crush = no_crush c.crush (grind (arith, is));
  weights = nothing c.weights (grind (arith, is));
}

-- it makes no pool anew
pub none_renewed : (c : ChangeParts) (id : ℕ) → LeavesRawSets c → renews c id ≡ false
unfolding renews
none_renewed c id s = rw (s.crush, s.pools.come, s.pools.grow) refl
