use Rattle.std.proofs.Common.{refl, inl, Ok, Err}
use Rattle.maptypes.proofs.Judged.{error_is}
use Rattle.session.proofs.desk.Desk.balance_beside.Goals as goal

pub returns-in_err-carried : goal.returns-in_err-carried
returns-in_err-carried g c = record {
  member = c.requires;
  answers = (Err c.in_err-carried.field-0.0, c.in_err-carried.ensures, (error_is _ _ c.from_residual.ensures.1, refl));
  own = λ is. inl refl;
}

pub returns : goal.returns
returns g c = record {
  member = c.balance_by.ensures.member;
  answers = (Ok c.in_ok-carried.carried.items, c.in_ok-carried.ensures, rw c.deref.ensures.value at c.balance_by.ensures.answers);
  own = c.balance_by.ensures.own;
}
