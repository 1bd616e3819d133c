-- A session before its first line.
use Rattle.std.proofs.Common.{◌≡◌, None, refl}
use Rattle.monitor.specs.declared.member.Member.{Member}
use Rattle.session.specs.declared.progress.Progress.{Progress}
use Rattle.session.specs.Sessions.{first_sight, stand}

-- where it stands
pub fresh_stand : (member : Member) (progress : Progress) → progress.number ≡ 1 → progress.follower ≡ None
    → stand member progress ≡ record { number = 1; seen = first_sight member }
fresh_stand member progress number follower = rw (number, follower) refl
