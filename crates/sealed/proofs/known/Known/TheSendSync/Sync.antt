use Prim.Native.Nat.{ℕ}
use base.Shift.{Keyless}
use denote.RattleType.{RattleType}
use denote.Param.Send.{IsSync}
use Rattle.std.specs.declared.option.Option.{Option}
use Rattle.std.specs.declared.option.Option.TheVariants.{None, Some}
use Rattle.once_cell.specs.Once.{noted}
use Rattle.sealed.specs.contracts.known.Known.{the_row}

-- a note of a cell asks for no key
noted_keyless : (R : RattleType) (γ : ℕ) (k : Option R.Denot) → Keyless (noted R γ k)
noted_keyless R γ None = tt
noted_keyless R γ (Some x) = tt

-- what is known of a cell may be seen by many threads
pub sync : (T : RattleType) → IsSync (the_row T)
sync T = record { shared = λ n b o ν. ((((tt, λ s. tt), tt), λ s. tt), noted_keyless T n.cell n.known) }
