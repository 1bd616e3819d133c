-- What tests of limits tell.
use Rattle.std.proofs.Common.{◌≡◌, ◌&&◌, ◌^◌, ℕ, Bool, true, false, refl}
use Rattle.std.proofs.lemmas.Bool.{leb-true}
use Rattle.mapparts.specs.Limits.{max_first_epoch}
use Rattle.epochlog.specs.Epochs.{IsRowSize, max_capacity}
use Rattle.ticketlock.specs.Errors.{IsWithin}
use Rattle.monitor.specs.Opening.{can_open}

-- two tests that both hold
both : (a b : Bool) → (a && b) ≡ true → (a ≡ true) × (b ≡ true)
both true true e = (refl, refl)
both true false e = cc
both false true e = cc
both false false e = cc

-- seats and draws with which a monitor can be opened are within the limits of a lock
pub within : (epoch journal seats draws : ℕ) → can_open epoch journal seats draws ≡ true → IsWithin seats draws
within epoch journal seats draws e =
    let (a, rest) = both _ _ e in
    let (s, d) = both _ _ rest in
    let (some, few) = both _ _ s in
    let (one, most) = both _ _ d in
    (leb-true 1 seats some, leb-true seats 1024 few, leb-true 1 draws one, leb-true draws (2 ^ 40) most)

-- an epoch and a journal with which a monitor can be opened are within the limits of a row
pub sized : (epoch journal seats draws : ℕ) → can_open epoch journal seats draws ≡ true → IsRowSize epoch journal
sized epoch journal seats draws e =
    let (row, rest) = both _ _ e in
    let (f, c) = both _ _ row in
    let (first, last) = both _ _ f in
    let (some, few) = both _ _ c in
    (leb-true 1 epoch first, leb-true epoch max_first_epoch last, leb-true 1 journal some, leb-true journal max_capacity few)
