use Rattle.std.proofs.Common.{rules}
use Rattle.mapparts.proofs.Within.{few_entries, entries_fit}
use Rattle.maptypes.proofs.exception_parts.exception_of.Goals as goal

pub entries_of-requires : goal.entries_of-requires
entries_of-requires g c = (search rules, (rw c.deref.ensures (few_entries _ _ c.requires), rw c.deref.ensures (entries_fit _ _ c.requires)))
