-- What a try makes of an item, by the tests that it makes of it: of an attempt of packing, and of a position.
use Rattle.std.proofs.Common.{◌≡◌, ℤ, Bool, true, false, not, cond, Option, Some, None, ◌⊎◌, inl, inr, sym, ap, refl, ◌∙◌}
use Rattle.std.specs.Prelude.{unwrap_or}
use Rattle.crush.specs.declared.choose.Attempt.{Attempt}
use Rattle.crush.specs.declared.choose.Attempt.TheVariants.{Abandoned, Failed, Chosen}
use Rattle.crush.specs.declared.choose.Choice.{Choice}
use Rattle.crush.specs.declared.choose.Position.{Position}
use Rattle.crush.specs.declared.choose.Position.TheVariants.{Open, Filled}
use Rattle.crush.specs.Firstn.{with_leaf, is_failed}
use Rattle.crush.specs.Indep.{filled_with}

-- an attempt, by the tests that it makes
unfoldable pub attempt_by : Bool → Bool → Bool → Option ℤ → ℤ → Attempt
attempt_by held to_leaf barred leaf item = cond held Failed (cond to_leaf (with_leaf item leaf) (cond barred Failed (Chosen (record { item = item; leaf = item }))))

-- what is known of an item that was chosen
pub record IsChoice (held to_leaf barred : Bool) (leaf : Option ℤ) (item : ℤ) (e : Choice) : Type 0 where
  pub apart : held ≡ false
  pub item_is : item ≡ e.item
  pub taken : to_leaf ≡ true → leaf ≡ Some e.leaf
  pub itself : to_leaf ≡ false → (e.leaf ≡ e.item) × (barred ≡ false)

-- what an attempt with an item says of it
pub chosen_by : (held to_leaf barred : Bool) (leaf : Option ℤ) (item : ℤ) (e : Choice) → attempt_by held to_leaf barred leaf item ≡ Chosen e → IsChoice held to_leaf barred leaf item e
unfolding attempt_by
chosen_by true to_leaf barred leaf item e h = absurd (cc)
chosen_by false true barred None item e h = absurd (cc)
chosen_by false true barred (Some leaf) item e h =
    let made : Choice = record { item = item; leaf = leaf } in
    let same : made ≡ e = cc in
    record { apart = refl; item_is = ap (λ c. c.item) same; taken = λ _. ap (λ c. Some c.leaf) same; itself = λ q. absurd (cc) }
chosen_by false false true leaf item e h = absurd (cc)
chosen_by false false false leaf item e h =
    let made : Choice = record { item = item; leaf = item } in
    let same : made ≡ e = cc in
    record { apart = refl; item_is = ap (λ c. c.item) same; taken = λ q. absurd (cc); itself = λ _. (sym (ap (λ c. c.leaf) same) ∙ ap (λ c. c.item) same, refl) }

-- the first that is no failure is this one or comes later
pub first_of : (a : Attempt) (rest : Option Attempt) (e : Choice) → unwrap_or (cond (not (is_failed a)) (Some a) rest) Failed ≡ Chosen e → (a ≡ Chosen e) ⊎ (unwrap_or rest Failed ≡ Chosen e)
first_of Abandoned rest e h = absurd (cc)
first_of Failed rest e h = inr h
first_of (Chosen a) rest e h = inl h

-- what a position becomes, by the tests that are made
unfoldable pub position_by : Bool → Bool → Bool → Option ℤ → ℤ → Position
position_by held to_leaf barred leaf item = cond held Open (cond to_leaf (filled_with item leaf) (cond barred Open (Filled (record { item = item; leaf = item }))))

-- what is known of an item that fills a position
pub record FillsBy (held to_leaf barred : Bool) (leaf : Option ℤ) (item : ℤ) (e : Choice) : Type 0 where
  pub apart : held ≡ false
  pub item_is : item ≡ e.item
  pub taken : to_leaf ≡ true → leaf ≡ Some e.leaf
  pub itself : to_leaf ≡ false → (e.leaf ≡ item) × (barred ≡ false)

-- what an item that fills a position says of it
pub filled_by : (held to_leaf barred : Bool) (leaf : Option ℤ) (item : ℤ) (e : Choice) → position_by held to_leaf barred leaf item ≡ Filled e → FillsBy held to_leaf barred leaf item e
unfolding position_by
filled_by true to_leaf barred leaf item e h = absurd (cc)
filled_by false true barred None item e h = absurd (cc)
filled_by false true barred (Some leaf) item e h =
    let made : Choice = record { item = item; leaf = leaf } in
    let same : made ≡ e = cc in
    record { apart = refl; item_is = ap (λ c. c.item) same; taken = λ _. ap (λ c. Some c.leaf) same; itself = λ q. absurd (cc) }
filled_by false false true leaf item e h = absurd (cc)
filled_by false false false leaf item e h =
    let made : Choice = record { item = item; leaf = item } in
    let same : made ≡ e = cc in
    record { apart = refl; item_is = ap (λ c. c.item) same; taken = λ q. absurd (cc); itself = λ _. (sym (ap (λ c. c.leaf) same), refl) }
