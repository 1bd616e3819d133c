-- A seat may be cut off.
use Rattle.std.proofs.Common.{◌≡◌, ◌∙◌, ap, sym, subst, ℕ, ◌<◌, List, [], ◌∷◌, ◌++◌, map, set}
use Rattle.atomic_table.specs.Table.{Splits}
use Rattle.ticketlock.specs.declared.view.View.{View}
use Rattle.ticketlock.specs.declared.view.Sight.{Sight}
use Rattle.ticketlock.specs.declared.view.Event.{Event}
use Rattle.ticketlock.specs.declared.view.Event.TheVariants.{CutOff}
use Rattle.ticketlock.specs.Rule.{newcomer}
use Rattle.ticketlock.specs.Places.{one_cut, sight_cut, unseeing}
use Rattle.ticketlock.specs.Traces.{world_with, view_in, IsReachedBy, IsTraced}
use Rattle.ticketlock.proofs.Traced.{reached_cut}
use Rattle.ticketlock.proofs.KnownRuns.{known_cut, view_at, views_set, views_snoc}

-- a seat with a spare entry may be cut in two
pub may_cut : (seats id : ℕ) (me : Sight) → 0 < me.view.spare → Splits {S = ℕ} (IsTraced seats) id me (sight_cut me) (unseeing newcomer)
may_cut seats id me some_spare s line at =
    let events : List Event = line.4 in
    let views : List View = map view_in s.views in
    let same : map view_in (set s.views id (sight_cut me) ++ unseeing newcomer ∷ []) ≡ set views id (one_cut me.view) ++ newcomer ∷ [] =
    views_snoc (set s.views id (sight_cut me)) (unseeing newcomer) ∙ ap (λ (l : List View). l ++ newcomer ∷ []) (views_set s.views id (sight_cut me)) in (
      line.0,
      line.1,
      line.2,
      line.3,
      events ++ CutOff id ∷ [],
      subst (λ (l : List View). IsReachedBy seats (events ++ CutOff id ∷ []) (world_with line.0 line.1 line.2 l)) (sym same)
          (reached_cut seats events (world_with line.0 line.1 line.2 views) id me.view line.5 (view_at id me events s.views line.6 at) some_spare),
      known_cut id me events s.views line.6 at,
    )
