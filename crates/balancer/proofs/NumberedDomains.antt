-- The failure domains of OSDs, numbered one OSD after another.
use Rattle.std.proofs.Common.{◌≡◌, ◌≢◌, ◌∙◌, refl, sym, ap, ℕ, zero, ◌+◌, ◌<◌, List, [], ◌∷◌, ◌++◌, length, get_or, Option, ℤ, inl, inr, arith}
use Rattle.std.proofs.lemmas.Bool.{cases_lt}
use Rattle.std.proofs.lemmas.List.{get_or_append_left, get_or_push, length_push}
use Rattle.maptypes.specs.Pools.{PoolFacts}
use Rattle.osdmap.specs.Maps.{ClusterMap}
use Rattle.osdmap.specs.Placement.{steps_of}
use Rattle.balancer.specs.Moves.{last_level, levels_of, domain_of}
use Rattle.balancer.specs.Marks.{domain_number, AreNumbered}

-- none is numbered yet
pub none_numbered : (m : ClusterMap) (p : PoolFacts) → AreNumbered m p 0 [] []
none_numbered m p = record {
  long = refl;
  alike = λ a b la lb e. let apart : zero ≢ zero = omega (arith, la) in absurd (apart refl);
  within = λ a la. omega (arith, la);
  each_first = λ d inside. omega (arith, inside);
}

module _ (m : ClusterMap) (p : PoolFacts) (count : ℕ) (numbers firsts : List ℕ) (is : AreNumbered m p count numbers firsts) where
  abbrev domain : ℕ → Option ℤ
  domain a = domain_of m (last_level (levels_of (steps_of m p))) a

  -- those before keep their numbers
  kept : (x a : ℕ) → a < count → domain_number (numbers ++ x ∷ []) a ≡ domain_number numbers a
  kept x a below = get_or_append_left numbers (x ∷ []) 0 a (omega (arith, is.long, below))

  -- and the last one has its own
  last : (x : ℕ) → domain_number (numbers ++ x ∷ []) count ≡ x
  last x = get_or_push numbers x 0 count is.long

  -- those of one number are of one domain
  alike_more : (x : ℕ) → ((a : ℕ) → a < count → domain_number numbers a ≡ x → domain a ≡ domain count) → (a b : ℕ) → a < count + 1 → b < count + 1
      → domain_number (numbers ++ x ∷ []) a ≡ domain_number (numbers ++ x ∷ []) b → domain a ≡ domain b
  alike_more x with_last a b la lb e = elim (cases_lt a count) [
    | inl a_less ↦ elim (cases_lt b count) [
      | inl b_less ↦ is.alike a b a_less b_less (sym (kept x a a_less) ∙ e ∙ kept x b b_less)
      | inr b_over ↦
          let b_is : b ≡ count = omega (arith, lb, b_over) in
          with_last a a_less (sym (kept x a a_less) ∙ e ∙ ap (domain_number (numbers ++ x ∷ [])) b_is ∙ last x) ∙ ap domain (sym b_is)
    ]
    | inr a_over ↦
        let a_is : a ≡ count = omega (arith, la, a_over) in
        elim (cases_lt b count) [
          | inl b_less ↦ ap domain a_is ∙ sym (with_last b b_less (sym (kept x b b_less) ∙ sym e ∙ ap (domain_number (numbers ++ x ∷ [])) a_is ∙ last x))
          | inr b_over ↦
              let b_is : b ≡ count = omega (arith, lb, b_over) in
              ap domain (a_is ∙ sym b_is)
        ]
  ]

  -- one OSD more in a domain that is there
  pub joined : (d : ℕ) → d < length firsts → domain (get_or firsts d 0) ≡ domain count → AreNumbered m p (count + 1) (numbers ++ d ∷ []) firsts
  joined d inside same = record {
    long = length_push numbers d ∙ ap (λ n. n + 1) is.long;
    alike = alike_more d (λ a below e.
        let first = is.each_first d inside in
        is.alike a (get_or firsts d 0) below first.0 (e ∙ sym first.1) ∙ same);
    within = λ a la. elim (cases_lt a count) [
      | inl less ↦ rw (kept d a less) (is.within a less)
      | inr over ↦
          let a_is : a ≡ count = omega (arith, la, over) in
          rw (a_is, last d) inside
    ];
    each_first = λ k below.
        let first = is.each_first k below in
        (omega (arith, first.0), kept d (get_or firsts k 0) first.0 ∙ first.1);
  }

  -- one OSD more in a domain of its own
  pub founded : AreNumbered m p (count + 1) (numbers ++ length firsts ∷ []) (firsts ++ count ∷ [])
  founded = record {
    long = length_push numbers (length firsts) ∙ ap (λ n. n + 1) is.long;
    alike = alike_more (length firsts) (λ a below e. let apart : zero ≢ zero = omega (arith, is.within a below, e) in absurd (apart refl));
    within = λ a la. elim (cases_lt a count) [
      | inl less ↦ rw (kept (length firsts) a less) (omega (arith, is.within a less, length_push firsts count))
      | inr over ↦
          let a_is : a ≡ count = omega (arith, la, over) in
          rw (a_is, last (length firsts)) (omega (arith, length_push firsts count))
    ];
    each_first = λ k below. elim (cases_lt k (length firsts)) [
      | inl less ↦
          let first = is.each_first k less in
          rw (get_or_append_left firsts (count ∷ []) 0 k less) (omega (arith, first.0), kept (length firsts) (get_or firsts k 0) first.0 ∙ first.1)
      | inr over ↦
          let k_is : k ≡ length firsts = omega (arith, below, over, length_push firsts count) in
          rw (k_is, get_or_push firsts count 0 (length firsts) refl) (omega arith, last (length firsts))
    ];
  }
