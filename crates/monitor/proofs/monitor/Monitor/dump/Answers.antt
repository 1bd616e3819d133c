use Rattle.std.proofs.Common.{ℕ, Global, Vec, sym, ap, subst, IsUtf8}
use Rattle.std.proofs.lemmas.Str.{IsUtf8-string_bytes}
use Rattle.monitor.proofs.monitor.Monitor.dump.Goals as goal

pub returns-clause-utf8 : goal.returns-clause-utf8
returns-clause-utf8 g c =
    subst IsUtf8 (sym (ap (λ (v : Vec ℕ Global). v.items) c.into_bytes.ensures.value)) (IsUtf8-string_bytes c.in-Dump.text)
