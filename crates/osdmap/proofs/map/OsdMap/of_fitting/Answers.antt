use Rattle.std.proofs.Common.{arith}
use Rattle.osdmap.specs.Stored.{StoredMap}
use Rattle.osdmap.specs.Stated.{map_fault, IsStated}
use Rattle.maptypes.proofs.Judged.{stops}
use Rattle.osdmap.proofs.Built.{parts_fit_each}
use Rattle.osdmap.proofs.Excepted.{fault_bare, fault_explicit, fault_items, no_fault_with, is_stated_with, holds_with}
use Rattle.osdmap.proofs.map.OsdMap.of_fitting.Goals as goal

pub returns-in_err-bare : goal.returns-in_err-bare
returns-in_err-bare c =
    let limits = c.requires in
    let e = c.in_err-bare.field-0.0 in
    stops c.from_residual.result (λ (m : StoredMap). IsStated c.args.parts m.map) (map_fault c.args.parts) _ e (fault_bare c.args.parts limits e) c.in_err-bare.ensures c.from_residual.ensures.1

pub exceptions_in-requires : goal.exceptions_in-requires
exceptions_in-requires c =
    let each = parts_fit_each c.args.parts c.requires in
    (omega arith, rw c.deref.ensures each.explicit)

pub exceptions_in-requires-2 : goal.exceptions_in-requires-2
exceptions_in-requires-2 c =
    let each = parts_fit_each c.args.parts c.requires in
    (omega arith, rw c.deref-2.ensures each.items)

pub returns-in_err-explicit : goal.returns-in_err-explicit
returns-in_err-explicit c =
    let limits = c.requires in
    let bare = c.in_ok-bare.ensures in
    let e = c.in_err-explicit.field-0.0 in
    let found = rw c.deref.ensures at c.in_err-explicit.ensures in
    stops c.from_residual-in_err-explicit.result (λ (m : StoredMap). IsStated c.args.parts m.map) (map_fault c.args.parts) _ e (fault_explicit c.args.parts limits c.in_ok-bare.bare.map bare.0 bare.1 e) found c.from_residual-in_err-explicit.ensures.1

pub returns-in_err-items : goal.returns-in_err-items
returns-in_err-items c =
    let limits = c.requires in
    let bare = c.in_ok-bare.ensures in
    let e = c.in_err-items.field-0.0 in
    let found = rw c.deref-2.ensures at c.in_err-items.ensures in
    stops c.from_residual-in_err-items.result (λ (m : StoredMap). IsStated c.args.parts m.map) (map_fault c.args.parts) _ e (fault_items c.args.parts limits c.in_ok-bare.bare.map bare.0 bare.1 e) found c.from_residual-in_err-items.ensures.1

pub invariant_of-result : goal.invariant_of-result
invariant_of-result c =
    let limits = c.requires in
    let bare = rw (← c.bare.view_is) at c.in_ok-bare.ensures in
    let explicit = rw (c.deref.ensures, ← c.bare.view_is) at c.in_ok-explicit.ensures in
    let items = rw (c.deref-2.ensures, ← c.bare.view_is) at c.in_ok-items.ensures in
    holds_with c.args.parts limits _ bare.0 bare.1 _ _ explicit.0 items.0 explicit.1 items.1 c.bare.invariant

pub returns : goal.returns
returns c =
    let limits = c.requires in
    let bare = rw (← c.bare.view_is) at c.in_ok-bare.ensures in
    let explicit = rw (c.deref.ensures, ← c.bare.view_is) at c.in_ok-explicit.ensures in
    let items = rw (c.deref-2.ensures, ← c.bare.view_is) at c.in_ok-items.ensures in
    (no_fault_with c.args.parts limits _ bare.0 bare.1 _ _ explicit.0 items.0 explicit.1 items.1, is_stated_with c.args.parts limits _ bare.0 bare.1 _ _ explicit.0 items.0 explicit.1 items.1)
