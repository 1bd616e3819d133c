use Rattle.std.proofs.Common.{◌≡◌, ◌++◌, drop}
use Rattle.std.specs.String.{string_bytes}
use Rattle.maptypes.specs.GroupText.{group_text}
use Rattle.maptypes.specs.SetText.{more_texts}
use Rattle.session.proofs.text.push_list.Given as goal

-- the text so far, with the groups that are left
abbrev pub invariant-loop-group : goal.invariant-loop-group
invariant-loop-group l =
    string_bytes l.text ++ more_texts group_text (drop l.group-index l.others) ≡ string_bytes l.initial.text ++ more_texts group_text l.others
