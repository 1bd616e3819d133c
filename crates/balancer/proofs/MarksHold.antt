-- What is known of where groups may not go: it holds for a whole failure domain, and what a move leaves of it.
use Rattle.std.proofs.Common.{◌⊎◌, ◌≡◌, ◌≢◌, ◌∙◌, refl, sym, ap, ℕ, zero, ◌+◌, ◌<◌, ◌≤◌, Bool, true, false, not, ◌&&◌, ◌||◌, eqb, ℤ, List, [], ◌∷◌, length, get_or, set, replicate, position, Option, Some, None, inl, inr, arith}
use mathlib.Core.Bool.{false≢true}
use Rattle.std.specs.Prelude.{All, is_some, nat_lt}
use Rattle.std.specs.List.{list_any, count_by}
use Rattle.std.specs.Option.{option_eq}
use Rattle.std.specs.Ordering.{int_eq}
use Rattle.std.proofs.lemmas.Bool.{cases_Bool, cases_lt, false_from_ne_true, eqb-true, eq-eqb, and_parts, and_from}
use Rattle.std.proofs.lemmas.Bool.Decides.{nat_tests, Decides-int_eq}
use Rattle.std.proofs.lemmas.Grind.{common_steps}
use Rattle.std.proofs.lemmas.List.{get_or-set_same, get_or-set_other, get_or_past, get_or-replicate, set_past, length-set, length-replicate}
use Rattle.std.proofs.lemmas.List.Sums.{fails_before_first}
use Rattle.keylist.proofs.Tests.{not_true}
use Rattle.crush.proofs.IdSearches.{int_eq-yes}
use Rattle.maptypes.specs.Pools.{PoolFacts}
use Rattle.osdmap.specs.Maps.{ClusterMap}
use Rattle.maptypes.specs.Sets.{is_of, stands}
use Rattle.osdmap.specs.Placement.{steps_of}
use Rattle.balancer.specs.declared.group.Group.{Group}
use Rattle.balancer.specs.declared.moves.Move.{Move}
use Rattle.balancer.specs.Moves.{last_level, levels_of, domain_of, is_in_way, has_way}
use Rattle.balancer.specs.Boards.{may_go, group_after}
use Rattle.balancer.specs.declared.marks.Marks.{Marks}
use Rattle.balancer.specs.Marks.{domain_number, AreNumbered, is_shut_at, is_shut, shut_in, open_in, NoneGoes, IsMarked, NumberAlike, IsLookedAt}
use Rattle.balancer.proofs.AllowedByTests.{once_stands}

-- where no element is found, none passes
pub none_found : {X : Type 0} (q : X → Bool) (xs : List X) → position q xs ≡ None → All (λ x. q x ≡ false) xs
none_found q xs none = λ k d inside. fails_before_first q xs k d (grind (arith, nat_tests, common_steps, none, inside))

-- two OSDs that are not the same
apart_test : (a b : ℕ) → a ≢ b → eqb a b ≡ false
apart_test a b apart = false_from_ne_true _ (λ yes. apart (eqb-true a b yes))

-- ---- failure domains

-- a failure domain is itself
same_domain : (a : Option ℤ) → option_eq int_eq a a ≡ true
same_domain None = refl
same_domain (Some z) = int_eq-yes z z refl

-- what the test of failure domains says
pub domain_is : (a b : Option ℤ) → option_eq int_eq a b ≡ true → a ≡ b
domain_is None None same = refl
domain_is None (Some z) same = absurd (false≢true same)
domain_is (Some z) None same = absurd (false≢true same)
domain_is (Some y) (Some z) same = ap Some ((Decides-int_eq y z).0 same)

-- what the test for none says
pub none_is : {X : Type 0} (o : Option X) (b : Bool) → is_some o ≡ not b → b ≡ true → o ≡ None
none_is None b is none = refl
none_is (Some x) b is none = absurd (false≢true (sym (is ∙ ap not none)))

module _ (m : ClusterMap) (p : PoolFacts) where
  abbrev level : ℕ
  level = last_level (levels_of (steps_of m p))

  -- an OSD in whose place the group stands is in its own way
  in_own_way : (from to : ℕ) (places : List (Option ℕ)) → eqb to from ≡ false → stands to places ≡ true → list_any (is_in_way m level from (domain_of m level to)) places ≡ true
  in_own_way from to [] apart on = absurd (false≢true on)
  in_own_way from to (None ∷ places) apart on = in_own_way from to places apart on
  in_own_way from to (Some o ∷ places) apart on = elim (cases_Bool (eqb o to)) [
    | inl here ↦ rw (eqb-true o to here, apart, same_domain (domain_of m level to)) refl
    | inr other ↦
        let rest : stands to places ≡ true = rw other at on in
        let way = in_own_way from to places apart rest in
        rw way (or_true (is_in_way m level from (domain_of m level to) (Some o)))
  ]
    where
      or_true : (a : Bool) → (a || true) ≡ true
      or_true true = refl
      or_true false = refl

  -- where a group may go to one OSD of a failure domain, it may go to each that it does not leave
  goes_too : (from to other : ℕ) (g : Group) → eqb to from ≡ false → domain_of m level other ≡ domain_of m level to → may_go m p from other g ≡ true → may_go m p from to g ≡ true
  unfolding may_go has_way
  goes_too from to other g apart same goes =
      let moves = not g.is_fixed in
      let once = eqb (count_by (is_of from) g.places) 1 in
      let room = nat_lt (length g.pairs) p.size in
      let a = and_parts (moves && once && not (stands other g.places) && room) (has_way m level from other g.places) goes in
      let b = and_parts (moves && once && not (stands other g.places)) room a.0 in
      let c = and_parts (moves && once) (not (stands other g.places)) b.0 in
      let way : (is_some (domain_of m level to) && not (list_any (is_in_way m level from (domain_of m level to)) g.places)) ≡ true = rw same at a.1 in
      let free = not_true (list_any (is_in_way m level from (domain_of m level to)) g.places) (and_parts (is_some (domain_of m level to)) (not (list_any (is_in_way m level from (domain_of m level to)) g.places)) way).1 in
      let away : stands to g.places ≡ false = false_from_ne_true _ (λ on. absurd (false≢true (sym free ∙ in_own_way from to g.places apart on))) in
      and_from (moves && once && not (stands to g.places) && room) (has_way m level from to g.places)
      (and_from (moves && once && not (stands to g.places)) room (and_from (moves && once) (not (stands to g.places)) c.0 (rw away refl)) b.1) way

  -- so where none may go to one, none may go to any of its failure domain
  pub none_too : (gs : List Group) (from to other : ℕ) → eqb to from ≡ false → domain_of m level other ≡ domain_of m level to → NoneGoes m p gs from to → NoneGoes m p gs from other
  none_too gs from to other apart same none = λ k d inside. false_from_ne_true _ (λ yes. absurd (false≢true (sym (none k d inside) ∙ goes_too from to other (get_or gs k d) apart same yes)))

-- ---- marks

-- a mark more
marked_more : (rows : List (List Bool)) (from to f t : ℕ) → is_shut_at (shut_in rows from to) f t ≡ true → (is_shut_at rows f t ≡ true) ⊎ ((f ≡ from) × (t ≡ to))
marked_more rows from to f t known = elim (cases_Bool (eqb f from)) [
  | inr other ↦ inl (rw (get_or-set_other rows from f (set (get_or rows from []) to true) [] (λ e. absurd (false≢true (sym other ∙ eq-eqb f from e)))) at known)
  | inl here ↦ elim (cases_lt from (length rows)) [
    | inr past ↦ inl (rw (set_past rows from (set (get_or rows from []) to true) past) at known)
    | inl inside ↦
        let f_is = eqb-true f from here in
        let row : get_or (set (get_or rows from []) to true) t false ≡ true = rw (f_is, get_or-set_same rows from (set (get_or rows from []) to true) [] inside) at known in
        elim (cases_Bool (eqb t to)) [
          | inl same ↦ inr (f_is, eqb-true t to same)
          | inr apart ↦
              let kept : get_or (get_or rows from []) t false ≡ true = rw (get_or-set_other (get_or rows from []) to t true false (λ e. absurd (false≢true (sym apart ∙ eq-eqb t to e)))) at row in
              inl (rw f_is kept)
        ]
  ]
]

-- a mark more, where none goes to an OSD of the domain, is so as well
pub shut_marked : (m : ClusterMap) (p : PoolFacts) (gs : List Group) (marks after : Marks) (from to : ℕ) → to < length m.presences → eqb to from ≡ false → NoneGoes m p gs from to → IsMarked m p gs marks
    → after.rows.items ≡ shut_in marks.rows.items from (domain_number marks.numbers.items to) → NumberAlike after marks → IsMarked m p gs after
shut_marked m p gs marks after from to below apart none marked rows alike = record {
  numbered = rw (alike.numbers, alike.firsts) marked.numbered;
  known = λ f t low known. elim (marked_more marks.rows.items from (domain_number marks.numbers.items to) f (domain_number marks.numbers.items t) (rw (rows, alike.numbers) at known)) [
    | inl before ↦ marked.known f t low before
    | inr both ↦ rw both.0 (none_too m p gs from to t apart (marked.numbered.alike t to low below both.1) none)
  ];
}

-- so is one where none goes to any OSD
pub all_marked : (m : ClusterMap) (p : PoolFacts) (gs : List Group) (marks after : Marks) (from d : ℕ) → ((to : ℕ) → NoneGoes m p gs from to) → IsMarked m p gs marks
    → after.rows.items ≡ shut_in marks.rows.items from d → NumberAlike after marks → IsMarked m p gs after
all_marked m p gs marks after from d none marked rows alike = record {
  numbered = rw (alike.numbers, alike.firsts) marked.numbered;
  known = λ f t low known. elim (marked_more marks.rows.items from d f (domain_number marks.numbers.items t) (rw (rows, alike.numbers) at known)) [
    | inl before ↦ marked.known f t low before
    | inr both ↦ rw both.0 (none t)
  ];
}

-- nothing is known at the beginning
pub none_marked : (m : ClusterMap) (p : PoolFacts) (gs : List Group) (n d : ℕ) (marks : Marks) → AreNumbered m p (length m.presences) marks.numbers.items marks.firsts.items → marks.rows.items ≡ replicate n (replicate d false) → IsMarked m p gs marks
none_marked m p gs n d marks numbered is = record {
  numbered = numbered;
  known = λ f t low known. absurd (false≢true (sym (blank f (domain_number marks.numbers.items t)) ∙ rw is at known));
}
  where
    plain : (k : ℕ) → get_or (replicate d false) k false ≡ false
    plain k = elim (cases_lt k d) [
      | inl inside ↦ get_or-replicate d k false false inside
      | inr past ↦ get_or_past (replicate d false) k false (omega (arith, length-replicate d false))
    ]

    blank : (f t : ℕ) → is_shut_at (replicate n (replicate d false)) f t ≡ false
    blank f t = elim (cases_lt f n) [
      | inl inside ↦ rw (get_or-replicate n f (replicate d false) [] inside) (plain t)
      | inr past ↦ rw (get_or_past (replicate n (replicate d false)) f [] (omega (arith, length-replicate n (replicate d false)))) refl
    ]

-- a mark less
pub opened_marks : (rows : List (List Bool)) (from to f t : ℕ) → is_shut_at (open_in rows from to) f t ≡ true → (is_shut_at rows f t ≡ true) × (f ≡ from → t ≢ to)
opened_marks rows from to f t known = elim (cases_Bool (eqb f from)) [
  | inr other ↦
      let apart : f ≢ from = λ e. absurd (false≢true (sym other ∙ eq-eqb f from e)) in
      (rw (get_or-set_other rows from f (set (get_or rows from []) to false) [] apart) at known, λ e. absurd (apart e))
  | inl here ↦
      let f_is = eqb-true f from here in
      elim (cases_lt from (length rows)) [
        | inr past ↦
            let kept : is_shut_at rows f t ≡ true = rw (set_past rows from (set (get_or rows from []) to false) past) at known in
            let none : get_or rows f [] ≡ [] = get_or_past rows f [] (rw f_is past) in
            absurd (false≢true (rw none at kept))
        | inl inside ↦
            let row : get_or (set (get_or rows from []) to false) t false ≡ true = rw (f_is, get_or-set_same rows from (set (get_or rows from []) to false) [] inside) at known in
            elim (cases_Bool (eqb t to)) [
              | inl same ↦ absurd (false≢true (sym (cleared (get_or rows from []) to) ∙ rw (eqb-true t to same) at row))
              | inr apart ↦
                  let t_apart : t ≢ to = λ e. absurd (false≢true (sym apart ∙ eq-eqb t to e)) in
                  (rw f_is (rw (get_or-set_other (get_or rows from []) to t false false t_apart) at row), λ e. t_apart)
            ]
      ]
]
  where
    cleared : (row : List Bool) (k : ℕ) → get_or (set row k false) k false ≡ false
    cleared row k = elim (cases_lt k (length row)) [
      | inl inside ↦ get_or-set_same row k false false inside
      | inr past ↦ get_or_past (set row k false) k false (omega (arith, length-set row k false, past))
    ]

-- where a group may not go to one OSD of a domain, it may go to none of it
pub stays_shut : (m : ClusterMap) (p : PoolFacts) (numbers firsts : List ℕ) (from d t : ℕ) (g : Group) → AreNumbered m p (length m.presences) numbers firsts → d < length firsts → eqb (get_or firsts d 0) from ≡ false
    → may_go m p from (get_or firsts d 0) g ≡ false → t < length m.presences → domain_number numbers t ≡ d → may_go m p from t g ≡ false
stays_shut m p numbers firsts from d t g is inside apart stays low here = false_from_ne_true _ (λ goes.
    let first = is.each_first d inside in
    absurd (false≢true (sym stays ∙ goes_too m p from (get_or firsts d 0) t g apart (is.alike t (get_or firsts d 0) low first.0 (here ∙ sym first.1)) goes)))

-- ---- looking again

-- what is known once the first so many domains were looked at again: nothing more than before, and none of it is wrong of
-- a group and these domains
pub record IsSeen (m : ClusterMap) (p : PoolFacts) (from : ℕ) (group : Group) (count : ℕ) (before now : Marks) : Type 0 where
  pub alike : NumberAlike now before
  pub known : (f t : ℕ) → t < length m.presences → is_shut now f t ≡ true
      → (is_shut before f t ≡ true) × (f ≡ from → domain_number before.numbers.items t < count → may_go m p f t group ≡ false)

module _ (m : ClusterMap) (p : PoolFacts) (from : ℕ) (group : Group) (before : Marks) (is : AreNumbered m p (length m.presences) before.numbers.items before.firsts.items) where
  -- one domain more, to which the group may not go
  seen_more : (d : ℕ) (now : Marks) → IsSeen m p from group d before now → ((t : ℕ) → t < length m.presences → domain_number before.numbers.items t ≡ d → is_shut now from t ≡ true → may_go m p from t group ≡ false) → IsSeen m p from group (d + 1) before now
  seen_more d now seen here = record {
    alike = seen.alike;
    known = λ f t low known.
        let so_far = seen.known f t low known in (
          so_far.0,
          λ e below. elim (cases_lt (domain_number before.numbers.items t) d) [
            | inl less ↦ so_far.1 e less
            | inr over ↦
                let known_here : is_shut now from t ≡ true = rw e at known in
                rw e (here t low (omega (arith, below, over)) known_here)
          ],
        );
  }

  -- one that is open
  pub seen_open : (d : ℕ) (now : Marks) → IsSeen m p from group d before now → is_shut_at now.rows.items from d ≡ false → IsSeen m p from group (d + 1) before now
  seen_open d now seen free = seen_more d now seen (λ t low e known.
      let at : is_shut_at now.rows.items from (domain_number before.numbers.items t) ≡ true = rw seen.alike.numbers at known in
      absurd (false≢true (sym free ∙ (rw e at at))))

  -- one to which the group may not go
  pub seen_shut : (d : ℕ) (now : Marks) → d < length before.firsts.items → IsSeen m p from group d before now → (eqb (get_or before.firsts.items d 0) from || may_go m p from (get_or before.firsts.items d 0) group) ≡ false → IsSeen m p from group (d + 1) before now
  seen_shut d now inside seen stays =
      let both = neither (eqb (get_or before.firsts.items d 0) from) (may_go m p from (get_or before.firsts.items d 0) group) stays in
      seen_more d now seen (λ t low e known. stays_shut m p before.numbers.items before.firsts.items from d t group is inside both.0 both.1 low e)
    where
      neither : (a b : Bool) → (a || b) ≡ false → (a ≡ false) × (b ≡ false)
      neither true b e = absurd (false≢true (sym e))
      neither false b e = (refl, e)

  -- one that is opened
  pub seen_opened : (d : ℕ) (now after : Marks) → IsSeen m p from group d before now → after.rows.items ≡ open_in now.rows.items from d → NumberAlike after now → IsSeen m p from group (d + 1) before after
  seen_opened d now after seen rows alike = record {
    alike = record { numbers = alike.numbers ∙ seen.alike.numbers; firsts = alike.firsts ∙ seen.alike.firsts };
    known = λ f t low known.
        let left = opened_marks now.rows.items from d f (domain_number before.numbers.items t) (rw (rows, alike.numbers, seen.alike.numbers) at known) in
        let so_far = seen.known f t low (rw seen.alike.numbers left.0) in (
          so_far.0,
          λ e below. elim (cases_lt (domain_number before.numbers.items t) d) [
            | inl less ↦ so_far.1 e less
            | inr over ↦ absurd (left.1 e (omega (arith, below, over)))
          ],
        );
  }

  -- none was looked at yet
  pub seen_none : IsSeen m p from group 0 before before
  seen_none = record { alike = record { numbers = refl; firsts = refl }; known = λ f t low known. (known, λ e below. let apart : zero ≢ zero = omega (arith, below) in absurd (apart refl)) }

  -- all were
  pub seen_all : (place : Option ℕ) (d : ℕ) (now : Marks) → place ≡ Some from → length before.firsts.items ≤ d → IsSeen m p from group d before now → IsLookedAt m p place group before now
  seen_all place d now at past seen = record {
    alike = seen.alike;
    known = λ f t low known.
        let so_far = seen.known f t low known in
        (so_far.0, λ on. so_far.1 (sym (eqb-true from f (rw at at on))) (omega (arith, is.within t low, past)));
  }

-- ---- a move

-- a group may not leave an OSD on which it does not stand
pub stays_where_not : (m : ClusterMap) (p : PoolFacts) (from to : ℕ) (g : Group) → stands from g.places ≡ false → may_go m p from to g ≡ false
unfolding may_go
stays_where_not m p from to g off = false_from_ne_true _ (λ yes.
    let moves = not g.is_fixed in
    let once = eqb (count_by (is_of from) g.places) 1 in
    let room = nat_lt (length g.pairs) p.size in
    let a = and_parts (moves && once && not (stands to g.places) && room) (has_way m (last_level (levels_of (steps_of m p))) from to g.places) yes in
    let b = and_parts (moves && once && not (stands to g.places)) room a.0 in
    let c = and_parts (moves && once) (not (stands to g.places)) b.0 in
    absurd (false≢true (sym off ∙ once_stands (is_of from) g.places (and_parts moves once c.0).1)))

-- what is known after a move, once it was looked at again for the group
pub gone_marked : (m : ClusterMap) (p : PoolFacts) (gs after : List Group) (v : Move) (g : Group) (marks left : Marks) → g ≡ get_or gs v.group g → after ≡ set gs v.group (group_after g v) → v.group < length gs → NumberAlike left marks
    → ((f t : ℕ) → t < length m.presences → is_shut left f t ≡ true → (is_shut marks f t ≡ true) × (stands f (group_after g v).places ≡ true → may_go m p f t (group_after g v) ≡ false)) → IsMarked m p gs marks → IsMarked m p after left
gone_marked m p gs after v g marks left at is inside alike looked marked = record {
  numbered = rw (alike.numbers, alike.firsts) marked.numbered;
  known = λ f t low known. rw is (λ k d below. one f t low (looked f t low known).0 (looked f t low known).1 k d below);
}
  where
    stays : (f t : ℕ) → (stands f (group_after g v).places ≡ true → may_go m p f t (group_after g v) ≡ false) → may_go m p f t (group_after g v) ≡ false
    stays f t on = elim (cases_Bool (stands f (group_after g v).places)) [
      | inl here ↦ on here
      | inr off ↦ stays_where_not m p f t (group_after g v) off
    ]

    one : (f t : ℕ) → t < length m.presences → is_shut marks f t ≡ true → (stands f (group_after g v).places ≡ true → may_go m p f t (group_after g v) ≡ false) → (k : ℕ) (d : Group) → k < length (set gs v.group (group_after g v)) → may_go m p f t (get_or (set gs v.group (group_after g v)) k d) ≡ false
    one f t low known on k d below = elim (cases_Bool (eqb k v.group)) [
      | inl here ↦ rw (eqb-true k v.group here, get_or-set_same gs v.group (group_after g v) d inside) (stays f t on)
      | inr other ↦ rw (get_or-set_other gs v.group k (group_after g v) d (λ e. absurd (false≢true (sym other ∙ eq-eqb k v.group e)))) (marked.known f t low known k d (omega (arith, length-set gs v.group (group_after g v), below)))
    ]
