use Rattle.std.proofs.Common.{◌≡◌, ◌∙◌, ℕ, List, ◌∷◌, [], map, sym, subst}
use mathlib.Core.Option.{some, some-injective}
use lib.ListN.{get_elem?}
use Rattle.atomic_table.proofs.Lists.{at_map}
use Rattle.std.specs.Slots.{slots_items}
use Rattle.ticketlock.specs.Standing.{sight_of}
use Rattle.ticketlock.specs.Traces.{world_with, view_in, IsReachedBy}
use Rattle.ticketlock.proofs.table.Words.close_at.Goals as goal

pub returns : goal.returns
returns c =
    let end = c.close_with-closed.ensures.values.2 in
    let line = end.1.0 in
    let at = end.1.1 in
    let words : slots_items c.close_with-closed.result.words ≡ line.0 ∷ line.1 ∷ line.2 ∷ [] = sym end.2 ∙ line.3 in
    let u : line.0 ≡ c.word.result = some-injective line.0 c.word.result (subst (λ (l : List ℕ). get_elem? l 0 ≡ some c.word.result) words c.word.ensures) in
    let r : line.1 ≡ c.word-2.result = some-injective line.1 c.word-2.result (subst (λ (l : List ℕ). get_elem? l 1 ≡ some c.word-2.result) words c.word-2.ensures) in
    let w : line.2 ≡ c.word-3.result = some-injective line.2 c.word-3.result (subst (λ (l : List ℕ). get_elem? l 2 ≡ some c.word-3.result) words c.word-3.ensures) in (
      c.args.self.table.shared.key,
      map view_in end.0.views,
      c.args.place.token.id,
      line.4,
      subst (λ (n : ℕ × ℕ × ℕ). IsReachedBy c.args.self.table.shared.key line.4 (world_with n.0 n.1 n.2 (map view_in end.0.views))) (λ i. (u i, r i, w i)) line.5,
      at_map view_in end.0.views c.args.place.token.id (sight_of c.args.place) at,
      line.6.0 c.args.place.token.id (sight_of c.args.place) at,
    )
