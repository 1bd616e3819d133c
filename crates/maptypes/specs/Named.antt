-- What a change names and what it leaves, whatever map it is made to.
use Rattle.std.specs.Prelude.{ℕ, Bool, true, false, not, ◌&&◌, ◌||◌, List, [], ◌∷◌, ◌++◌, map, Option, None, is_some, if◌then◌else◌}
use Rattle.std.specs.List.{All, list_all, fold}
use Rattle.std.specs.Option.{option_or}
use Rattle.keylist.specs.Keys.{is_distinct, has_key}
use Rattle.keylist.specs.Order.{IsRising}
use Rattle.keylist.specs.Puts.{put}
use Rattle.mapparts.specs.declared.change.ExceptionChanges.{ExceptionChanges}
use Rattle.mapparts.specs.declared.profile.Profile.{Profile}
use Rattle.maptypes.specs.declared.change.ChangeParts.{ChangeParts}
use Rattle.maptypes.specs.declared.exception.Exception.{Exception}
use Rattle.maptypes.specs.declared.exception.Pair.{Pair}
use Rattle.maptypes.specs.declared.pg.Pg.{Pg}
use Rattle.maptypes.specs.Exceptions.{pg_key, key_of, is_among, said_of}

-- ---- keys

-- no key stands twice in a part, nor in both parts of a couple
unfoldable pub names_once : ChangeParts → Bool
names_once c =
    is_distinct (map (λ id. id) c.pools.gone ++ map (λ p. p.id) c.pools.come)
    && is_distinct (map (λ p. p.id) c.pools.come ++ map (λ g. g.pool) c.pools.grow)
    && is_distinct (map (λ osd. osd) c.osds.down ++ map (λ osd. osd) c.osds.up)
    && is_distinct (map (λ w. w.osd) c.weights)
    && is_distinct (map pg_key c.explicit.gone ++ map key_of c.explicit.come)
    && is_distinct (map pg_key c.items.gone ++ map key_of c.items.come)

-- ---- groups

-- whether exceptions of a group go or come
unfoldable pub is_named : ChangeParts → Pg → Bool
is_named c g =
    is_among c.explicit.gone g || is_among c.items.gone g
    || has_key key_of c.explicit.come (pg_key g) || has_key key_of c.items.come (pg_key g)

-- each group that is named passes a test
unfoldable pub all_named_groups : (Pg → Bool) → ChangeParts → Bool
all_named_groups p c =
    list_all p c.explicit.gone && list_all p c.items.gone && list_all (λ e. p e.pg) c.explicit.come
    && list_all (λ e. p e.pg) c.items.come

-- each group whose exceptions of one kind go or come has a property
pub record EachGroup {E : Type 0} (P : Pg → Type 0) (c : ExceptionChanges Pg (Exception E)) : Type 0 where
  pub gone : All P c.gone
  pub come : All (λ e. P e.pg) c.come

-- so has each group that is named
pub record EachNamed (P : Pg → Type 0) (c : ChangeParts) : Type 0 where
  pub explicit : EachGroup P c.explicit
  pub items : EachGroup P c.items

-- the groups of some exceptions
abbrev pub excepted_groups : {E : Type 0} → List (Exception E) → List Pg
excepted_groups es = map (λ e. e.pg) es

-- the groups of two rising lists, as one
abbrev pub union_of : List Pg → List Pg → List Pg
union_of some others = fold (put pg_key) some others

-- the groups that a change names
abbrev pub named_groups : ChangeParts → List Pg
named_groups c =
    union_of (union_of (union_of c.explicit.gone c.items.gone) (excepted_groups c.explicit.come))
    (excepted_groups c.items.come)

-- the groups whose exceptions of one kind go, and those whose come, are in ascending order, each once
pub record GroupsRise {E : Type 0} (c : ExceptionChanges Pg (Exception E)) : Type 0 where
  pub gone : IsRising pg_key c.gone
  pub come : IsRising key_of c.come

-- so is what a change names
pub record NamedRise (c : ChangeParts) : Type 0 where
  pub explicit : GroupsRise c.explicit
  pub items : GroupsRise c.items

-- what is said of a group after exceptions went and came: what comes in its place, nothing where it goes, else what
-- was said
abbrev pub said_after : {E : Type 0} → List Pg → List (Exception E) → Option (List E) → Pg → Option (List E)
said_after gone new said g = option_or (said_of new g) (if is_among gone g then None else said)

-- the explicit set of a group after a change, where it had this one or none
abbrev pub explicit_after : ChangeParts → Option (List ℕ) → Pg → Option (List ℕ)
explicit_after c said g = said_after c.explicit.gone c.explicit.come said g

-- its pairs after a change, where it had these or none
abbrev pub items_after : ChangeParts → Option (List Pair) → Pg → Option (List Pair)
items_after c said g = said_after c.items.gone c.items.come said g

-- ---- pools

-- whether a change takes a pool of an id away
abbrev pub loses : ChangeParts → ℕ → Bool
loses c id = has_key (λ k. k) c.pools.gone id

-- whether a change makes a pool of an id anew: the forest and the rules are replaced, or the pool comes or grows
unfoldable pub renews : ChangeParts → ℕ → Bool
renews c id = is_some c.crush || has_key (λ p. p.id) c.pools.come id || has_key (λ g. g.pool) c.pools.grow id

-- ---- what a change leaves

-- whether a list has no entries
abbrev pub is_empty : {X : Type 0} → List X → Bool
is_empty [] = true
is_empty (x ∷ xs) = false

-- whether a change leaves all pools, the forest, the rules and the reweights as they are, so that only a group whose
-- exceptions it names is placed otherwise
unfoldable pub leaves_raw_sets : ChangeParts → Bool
leaves_raw_sets c =
    is_empty c.pools.gone && not (is_some c.crush) && is_empty c.pools.come && is_empty c.pools.grow
    && is_empty c.weights

-- no exceptions go or come
abbrev pub no_exceptions : {G E : Type 0} → ExceptionChanges G E
no_exceptions = record { gone = []; come = [] }

-- the change that does nothing
abbrev pub no_parts : Profile → ChangeParts
no_parts profile = record {
  profile = profile;
  pools = record { gone = []; come = []; grow = [] };
  crush = None;
  osds = record { down = []; up = [] };
  weights = [];
  explicit = no_exceptions;
  items = no_exceptions;
}

-- the change that gives groups their pairs, and does nothing else
abbrev pub items_alone : Profile → List (Exception Pair) → ChangeParts
items_alone profile items = record (no_parts profile) { items = record { gone = []; come = items } }
