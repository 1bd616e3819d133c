-- What members have seen, joined.
use Rattle.std.proofs.Common.{◌≡◌, ◌∙◌, ◌+◌, ◌<◌, ◌≤◌, ℕ, suc, Bool, true, false, nat_lt, if◌then◌else◌, Option, Some, None, IfSome, List, [], ◌∷◌, ◌++◌, append_assoc, length, take, get_or, All, map, cond, count_by, slice_index_or, ◌==◌, inl, inr, arith, refl, sym, ap, subst}
use Rattle.std.specs.Bool.{OnTrue}
use Rattle.std.proofs.lemmas.Bool.{cases_Bool, eqb-true, ltb-true, ltb-false}
use Rattle.std.proofs.lemmas.List.{take_all, nil_from_length}
use Rattle.std.proofs.lemmas.List.Elements.{All-nil, All-cons, All-head, All-tail, All-get_or, All-weaker, All-more}
use Rattle.maptypes.specs.Incrementals.{Step}
use Rattle.maptypes.proofs.Totals.{sum_by-map}
use Rattle.epochlog.specs.Epochs.{Seen, Begins, longer}
use Rattle.monitor.specs.Members.{Monitored, IsMemberOf, IsPassOf}
use Rattle.monitor.specs.Ends.{IsEndOf}
use Rattle.monitor.specs.declared.ended.Ended.{Ended}
use Rattle.session.specs.Sessions.{basis_of, IsFollowerOf}
use Rattle.monitor.specs.Followers.{Followed}
use Rattle.epochlog.specs.Journals.{Journal}
use Rattle.server.specs.Players.{IsCountedIn, FollowsIn, ReadsRow, made_by}
use Rattle.server.specs.declared.part.Part.{Part}
use Rattle.server.specs.declared.left.Left.{Left}
use Rattle.server.specs.Pairs.{Pairs}
use Rattle.server.specs.Serving.{LeftFacts, facts_left, seen_left, sight_left, journal_of, KeepsAll, IsLeftBy, IsLeftIn, AreLeftBy}

-- what is left of a session begins this history
abbrev pub BeginsIn : List Step → Left → Type 0
BeginsIn all left = Begins (seen_left left) all

-- what is no longer than a history leaves it as it is, and a history that nothing was seen of becomes the other
stays : (before other : List Step) → length other ≤ length before → longer before other ≡ before
stays before other less = elim (cases_Bool (nat_lt (length before) (length other))) [
  | inl more ↦ absurd (omega (arith, less, ltb-true (length before) (length other) more))
  | inr not-more ↦ ap (λ (b : Bool). if b then other else before) not-more
]

-- behind nothing, the longer of two is what was seen
pub joined_none : (before after seen : List Step) → after ≡ longer before seen → before ≡ [] → after ≡ seen
joined_none before after seen history none = elim (cases_Bool (nat_lt (length before) (length seen))) [
  | inl more ↦ history ∙ ap (λ (b : Bool). if b then seen else before) more
  | inr not-more ↦
      let empty : seen ≡ [] = nil_from_length seen (omega (arith, ap length none, ltb-false (length before) (length seen) not-more)) in
      history ∙ ap (λ (b : Bool). if b then seen else before) not-more ∙ none ∙ sym empty
]

-- one more is joined
pub join_more : (seen before after : List Step) (lefts : List Left) (at : ℕ) (left : Left) → at < length lefts
    → left ≡ get_or lefts at left → length (seen_left left) ≤ length seen → before ≡ seen
    → All (BeginsIn before) (take at lefts) → after ≡ longer before (seen_left left) → Begins (seen_left left) after
    → (after ≡ seen) × All (BeginsIn after) (take (at + 1) lefts)
join_more seen before after lefts at left within is bound same begin history theirs =
    let stayed : after ≡ before = history ∙ stays before (seen_left left) (rw same bound) in
    let so_far : All (BeginsIn after) (take at lefts) = subst (λ (h : List Step). All (BeginsIn h) (take at lefts)) (sym stayed) begin in
    (stayed ∙ same, All-more (BeginsIn after) lefts at left within so_far (subst (BeginsIn after) is theirs))

-- all are joined
pub all_joined : (all : List Step) (lefts : List Left) (at : ℕ) → length lefts ≤ at → All (BeginsIn all) (take at lefts)
    → All (BeginsIn all) lefts
all_joined all lefts at ended begin = subst (All (BeginsIn all)) (take_all at lefts ended) begin

-- the member that is left is the monitor's
abbrev pub HasMemberOf : Monitored → Left → Type 0
HasMemberOf monitor left = IsMemberOf monitor left.member

-- the members that are left are the monitor's
pub members_left : (monitor : Monitored) (number : ℕ) (parts : List Part) (lefts : List Left) → Pairs (IsLeftBy monitor) number parts lefts
    → All (HasMemberOf monitor) lefts
members_left monitor number [] [] pairs = All-nil (HasMemberOf monitor)
members_left monitor number [] (left ∷ lefts) pairs = absurd pairs
members_left monitor number (part ∷ parts) [] pairs = absurd pairs
members_left monitor number (part ∷ parts) (left ∷ lefts) pairs =
    All-cons (HasMemberOf monitor) left lefts pairs.0.0 (members_left monitor (suc number) parts lefts pairs.1)

-- what their monitor has ended with counts what they have seen
abbrev pub IsCountedLeft : {K : Type 0} → Ended K → Left → Type 0
IsCountedLeft ended left = IsCountedIn ended left.member

-- members of one monitor are counted in what it has ended with
pub counted_left : {K : Type 0} (monitor : Monitored) (ended : Ended K) (lefts : List Left) → IsEndOf monitor ended
    → All (HasMemberOf monitor) lefts → All (IsCountedLeft ended) lefts
counted_left monitor ended lefts ends members =
    All-weaker (HasMemberOf monitor) (IsCountedLeft ended)
    (λ left member. record {
      row = member.row ∙ sym ends.state.row;
      counted = record { name = member.knows.name ∙ sym ends.name; seen = member.knows.count; all = ends.count };
    }) lefts members

-- so is each of them
pub member_at : {K : Type 0} (ended : Ended K) (lefts : List Left) (at : ℕ) (left : Left) → at < length lefts → left ≡ get_or lefts at left
    → All (IsCountedLeft ended) lefts → IsCountedIn ended left.member
member_at ended lefts at left within is members =
    subst (IsCountedLeft ended) (sym is) (All-get_or (IsCountedLeft ended) lefts at left within members)

-- what is left of each session is of the history that was joined
left_in : (monitor : Monitored) (all : List Step) (number : ℕ) (parts : List Part) (lefts : List Left) → Pairs (IsLeftBy monitor) number parts lefts
    → All (BeginsIn all) lefts → All (FollowsIn all) lefts
    → Pairs (λ n part left. IsLeftIn (basis_of monitor) all n part (facts_left left)) number parts lefts
left_in monitor all number [] [] pairs begin follow = tt
left_in monitor all number [] (left ∷ lefts) pairs begin follow = absurd pairs
left_in monitor all number (part ∷ parts) [] pairs begin follow = absurd pairs
left_in monitor all number (part ∷ parts) (left ∷ lefts) pairs begin follow =
    let one : Begins (seen_left left) all = All-head (BeginsIn all) left lefts begin in
    let two : FollowsIn all left = All-head (FollowsIn all) left lefts follow in
    let others = All-tail (BeginsIn all) left lefts begin in
    let rest = All-tail (FollowsIn all) left lefts follow in
    ((sight_left left, one, two, refl, pairs.0.2), left_in monitor all (suc number) parts lefts pairs.1 others rest)

-- the followers that are left read the monitor's row
reads_row : (monitor : Monitored) (left : Left) (follower : Option Followed) → IsFollowerOf monitor follower → IfSome follower (λ f. f.row ≡ monitor.row)
reads_row monitor left None follows = tt
reads_row monitor left (Some f) follows = follows.row

-- each follower that is left reads the monitor's row
pub rows_left : (monitor : Monitored) (number : ℕ) (parts : List Part) (lefts : List Left) → Pairs (IsLeftBy monitor) number parts lefts
    → All (ReadsRow monitor.row) lefts
rows_left monitor number [] [] pairs = All-nil (ReadsRow monitor.row)
rows_left monitor number [] (left ∷ lefts) pairs = absurd pairs
rows_left monitor number (part ∷ parts) [] pairs = absurd pairs
rows_left monitor number (part ∷ parts) (left ∷ lefts) pairs =
    All-cons (ReadsRow monitor.row) left lefts (reads_row monitor left left.follower pairs.0.1) (rows_left monitor (suc number) parts lefts pairs.1)

-- what follows of what holds where a test does
pub on_true : (P Q : Type 0) (b : Bool) → (P → Q) → OnTrue b P → OnTrue b Q
on_true P Q true more p = more p
on_true P Q false more p = tt

-- a beginning of a beginning
pub begins_on : {X : Type 0} (xs ys zs : List X) → Begins xs ys → Begins ys zs → Begins xs zs
begins_on xs ys zs p q = (p.0 ++ q.0, sym (append_assoc xs p.0 q.0) ∙ ap (λ l. l ++ q.0) p.1 ∙ q.1)

-- one more follower begins it, and all do
pub follow_more : (before after : Seen) (lefts : List Left) (at : ℕ) (left : Left) → at < length lefts → left ≡ get_or lefts at left
    → after ≡ before → All (FollowsIn before.history) (take at lefts) → FollowsIn after.history left
    → All (FollowsIn after.history) (take (at + 1) lefts)
follow_more before after lefts at left within is same so_far here =
    All-more (FollowsIn after.history) lefts at left within
    (subst (λ (s : Seen). All (FollowsIn s.history) (take at lefts)) (sym same) so_far) (subst (FollowsIn after.history) is here)

-- all followers that are left begin it
pub all_follow : (all : List Step) (lefts : List Left) (at : ℕ) → length lefts ≤ at → All (FollowsIn all) (take at lefts) → All (FollowsIn all) lefts
all_follow all lefts at ended follow = subst (All (FollowsIn all)) (take_all at lefts ended) follow

-- one more epoch is made once
pub made_more : (lefts : List Left) (at k : ℕ) → ((j : ℕ) → j < at → made_by lefts j ≡ 1) → (made_by lefts at == 1) ≡ true → k < at + 1
    → made_by lefts k ≡ 1
made_more lefts at k before here less = elim (cases_Bool (nat_lt k at)) [
  | inl less-so ↦ before k (ltb-true k at less-so)
  | inr not-so ↦
      let same : k ≡ at = omega (arith, less, ltb-false k at not-so) in
      rw same (eqb-true (made_by lefts at) 1 here)
]

-- what is made once is not found to be made otherwise
pub not_once : (lefts : List Left) (at : ℕ) → made_by lefts at ≡ 1 → (made_by lefts at == 1) ≡ false → ⊥
not_once lefts at once other = let none : (1 == 1) ≡ false = subst (λ n. (n == 1) ≡ false) once other in cc

-- how many have made an epoch is the same without their members
made_facts : (lefts : List Left) (at : ℕ) → count_by (λ left. slice_index_or left.own at false) (map facts_left lefts) ≡ made_by lefts at
made_facts lefts at = sum_by-map (λ (left : LeftFacts). cond (slice_index_or left.own at false) 1 0) facts_left lefts

-- what is left of sessions, whose members' histories begin one, which the store has kept
pub all_left : {K : Type 0} (may_leave : K → Journal → Type 0) (monitor : Monitored) (pass : Seen) (parts : List Part) (lefts : List Left)
    → Pairs (IsLeftBy monitor) 1 parts lefts → IsPassOf monitor pass → All (BeginsIn pass.history) lefts → All (FollowsIn pass.history) lefts
    → KeepsAll may_leave (journal_of monitor.first pass.history) → ((at : ℕ) → at < length pass.history → made_by lefts at ≡ 1)
    → AreLeftBy may_leave monitor parts lefts
all_left may_leave monitor pass parts lefts by of begin follow kept once =
    (pass.history, of.lawful, (λ at inside. made_facts lefts at ∙ once at inside), kept, left_in monitor pass.history 1 parts lefts by begin follow)
