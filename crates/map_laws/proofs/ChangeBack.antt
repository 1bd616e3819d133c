-- What is written of a change is read back as that change.
use Rattle.std.proofs.Common.{◌≡◌, ◌⊎◌, ◌∙◌, inl, inr, ℕ, ◌^◌, ◌<◌, true, ◌&&◌, List, Some, None, Ok, refl, sym, subst, ap}
use Rattle.std.specs.Prelude.{IfOk, option_map, pos}
use Rattle.std.proofs.lemmas.Bool.{and_parts}
use Rattle.std.proofs.lemmas.List.Elements.{All-map}
use Rattle.refusal.specs.declared.refused.Refusal.{Refusal}
use Rattle.refusal.specs.declared.refused.Refusal.TheVariants.{Memory as OutOfMemory}
use Rattle.mapparts.specs.declared.profile.Profile.{Profile}
use Rattle.mapparts.specs.Profiles.{limits_of}
use Rattle.mapparts.proofs.Wider.{change_fits_all}
use Rattle.maptypes.specs.declared.change.ChangeParts.{ChangeParts}
use Rattle.maptypes.specs.Ordered.{IsChange}
use Rattle.osdmap.specs.PartsOf.{pg_part, pair_part, exception_part}
use Rattle.jsonstream.specs.Json.{stated_by}
use Rattle.partjson.specs.StatedChanges.{stated_change}
use Rattle.partjson.specs.Profiles.{brings_kinds, change_allowed, change_in}
use Rattle.mapjson.specs.Written.{IsNamed}
use Rattle.mapparts.specs.Changes.{change_fits_in}
use Rattle.mapjson.specs.ChangeTexts.{fault_of_stated_change, change_text_fault, IsChangeStated, StatesChange}
use Rattle.mapjson.specs.PartsOfChange.{crush_parts, change_parts}
use Rattle.mapjson.specs.WrittenChanges.{change_data, HasNamed, fits_text, written_change}
use Rattle.mapjson.proofs.Readable.{read-compact_text, IsUtf8-compact_text}
use Rattle.mapjson.proofs.ReadableChanges.{change_readable}
use Rattle.mapjson.proofs.ChangeBack.{states_change_parts}
use Rattle.map_laws.specs.ChangeLaws.{of_profile, IsTextOfChange}
use Rattle.maptypes.specs.Named.{EachNamed}
use Rattle.map_laws.proofs.OwnChange.{own_change_stated, own_change_alone, own_change_faultless, fits_with_base}
use Rattle.map_laws.proofs.ReadBack.{kept_or, kept_of}

-- the groups of a change's parts are named where those of the change are
pub parts_named : (base : ℕ) (c : ChangeParts) → EachNamed (λ g. IsNamed (pg_part g)) c → HasNamed (change_parts base c)
parts_named base c each = record {
  explicit = record {
    gone = All-map IsNamed pg_part c.explicit.gone each.explicit.gone;
    come = All-map (λ e. IsNamed e.pg) (exception_part pos) c.explicit.come each.explicit.come;
  };
  items = record {
    gone = All-map IsNamed pg_part c.items.gone each.items.gone;
    come = All-map (λ e. IsNamed e.pg) (exception_part pair_part) c.items.come each.items.come;
  };
}

-- each test that a change passes which a text may state
record Fits (c : ChangeParts) : Type 0 where
  kinds : brings_kinds c.profile (option_map crush_parts c.crush) ≡ true
  limits : change_fits_in (limits_of c.profile) (change_parts 0 c) ≡ true

-- a change that a text may state passes each test by itself
fits_each : (c : ChangeParts) → fits_text c.profile c ≡ true → Fits c
unfolding fits_text
fits_each c fits =
    let both = and_parts (brings_kinds c.profile (option_map crush_parts c.crush)) (change_fits_in (limits_of c.profile) (change_parts 0 c)) fits in
    record { kinds = both.0; limits = both.1 }

module _ (base : ℕ) (c : ChangeParts) (wide : base < 2 ^ 64) (fits : Fits c) where
  -- what is written of it states its parts
  written_states : HasNamed (change_parts base c) → stated_by stated_change (written_change base c) ≡ Ok (change_parts base c)
  unfolding written_change
  written_states named =
      let p = change_parts base c in
      let readable = change_readable p (change_fits_all c.profile p (fits_with_base base c (limits_of c.profile) wide fits.limits)) in
      states_change_parts p (change_data p) _ named refl (IsUtf8-compact_text (change_data p) readable) (read-compact_text (change_data p) readable)

  -- so it does by its profile
  allowed : change_allowed c.profile (change_parts base c) ≡ Some (change_parts base c)
  allowed = rw fits.kinds refl

  -- what is written of it states its parts, read by its profile
  written_states_in : HasNamed (change_parts base c) → stated_by (change_in c.profile) (written_change base c) ≡ Ok (change_parts base c)
  written_states_in named =
      kept_of stated_change (change_allowed c.profile) (written_change base c) (change_parts base c) (written_states named) ∙ ap kept_or allowed

  -- and it states this change and this base alone, without a fault
  written_alone : IsChange c → HasNamed (change_parts base c) → IsTextOfChange (written_change base c) base c
  written_alone is named =
      let states = written_states_in named in
      record {
        faultless = ap (fault_of_stated_change c.profile) states ∙ own_change_faultless base c wide is fits.limits;
        states = subst (λ r. IfOk r (λ p. IsChangeStated c.profile p base c)) (sym states) (own_change_stated base c is);
        alone = λ other stated. own_change_alone base c is other (subst (λ r. IfOk r (λ p. IsChangeStated c.profile p other.0 other.1)) states stated);
      }

-- what holds in a change holds in it whatever its profile
is_change_of : (profile : Profile) (c : ChangeParts) → IsChange c → IsChange (of_profile profile c)
is_change_of profile c is = record {
  in_order = record {
    pools = is.in_order.pools;
    osds = is.in_order.osds;
    weights = is.in_order.weights;
    explicit = is.in_order.explicit;
    items = is.in_order.items;
  };
  pools_within = is.pools_within;
  growths_within = is.growths_within;
  crush_map = is.crush_map;
}

-- a change is read back by each profile by which a text may state it
pub written_change_back : (c : ChangeParts) → IsChange c → ((base : ℕ) → HasNamed (change_parts base c)) → (profile : Profile) → fits_text profile c ≡ true
    → (base : ℕ) → base < 2 ^ 64 → IsTextOfChange (written_change base c) base (of_profile profile c)
unfolding written_change fits_text
written_change_back c is named profile fits base wide =
    written_alone base (of_profile profile c) wide (fits_each (of_profile profile c) fits) (is_change_of profile c is) (named base)

-- who reads such a text has the change
pub change_is : (text bytes : List ℕ) (base : ℕ) (c : ChangeParts) (other : ℕ × ChangeParts) → IsTextOfChange text base c → bytes ≡ text → StatesChange c.profile bytes other → other ≡ (base, c)
change_is text bytes base c other of is stated = of.alone other (rw is at stated)

-- and where there is none memory was short
pub only_change_memory : (text bytes : List ℕ) (base : ℕ) (c : ChangeParts) (e : Refusal) → IsTextOfChange text base c → bytes ≡ text
    → (e ≡ OutOfMemory) ⊎ (change_text_fault c.profile bytes ≡ Some e) → e ≡ OutOfMemory
only_change_memory text bytes base c e of is told = elim told [
  | inl short ↦ short
  | inr wrong ↦ let w : None ≡ Some e = sym of.faultless ∙ (rw is at wrong) in absurd (cc)
]
