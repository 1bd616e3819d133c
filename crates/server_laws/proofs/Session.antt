-- What each line of a session tells of the history, and which epochs its member then has marks of.
use Rattle.std.proofs.Common.{◌≡◌, ◌≢◌, ◌⊎◌, ℕ, zero, suc, ◌-◌, ◌<◌, ◌==◌, List, [], ◌∷◌, ◌++◌, length, Bool, true, false, Option, Some, None, Result, Ok, Err, slice_index_or, slice_set, get_or, if◌then◌else◌, refl, sym, ◌∙◌, ap, subst, inl, inr, arith}
use Rattle.std.proofs.lemmas.Bool.{ne_eqb}
use Rattle.maptypes.specs.Incrementals.{Step}
use Rattle.maptypes.specs.declared.change.ChangeParts.{ChangeParts}
use Rattle.osdmap.specs.Maps.{ClusterMap}
use Rattle.refusal.specs.declared.refused.Refusal.{Refusal}
use Rattle.sealed.specs.History.{Begins}
use Rattle.sealed.proofs.Beginnings.{begins_itself, begins_on}
use Rattle.balancer.specs.Shares.{Aim, aim_of}
use Rattle.state.specs.declared.state.Commit.{Commit}
use Rattle.state.specs.declared.balancing.Balance.{Balance}
use Rattle.monitor.specs.Histories.{AnswersCommit, AnswersApply}
use Rattle.monitor.specs.Balances.{AnswersBalance}
use Rattle.monitor.specs.Making.{HasMade, planned_epoch, with_made}
use Rattle.monitor.proofs.Making.{commit_marks, apply_marks, plan_marks}
use Rattle.session.specs.Commands.{Command, ask, ups, change, apply, wait, balance, follower, fups, command_by}
use Rattle.session.specs.Answers.{Basis, Account, Sight, Does, session_by, none_made}
use Rattle.session.proofs.Follows.{kept_track, follower_begins}
use Rattle.session.specs.Replies.{changed_text, planned_text}
use Rattle.session.specs.Texts.{line_of, ok_text, moved_text, refusal_text}
use Rattle.session.specs.Transcripts.{IsTranscript, TakesLine}
use Rattle.server.specs.Serving.{lets_all}
use Rattle.server_laws.specs.Visits.{Visit, behind}
use Rattle.server_laws.specs.Sessions.{Tells, IsIdleAtRefusal, IsToldBy}
use Rattle.server_laws.proofs.Histories.{AreFrom, joined, IsEntered}
use Rattle.server_laws.proofs.Apart.{AreMarked}

-- a mark is set at a place
abbrev Has : List Bool → ℕ → Type 0
Has own at = slice_index_or own at false ≡ true

-- marks stay, and as many there are
pub record Grows (old new : List Bool) : Type 0 where
  pub stay : (at : ℕ) → Has old at → Has new at
  pub long : length new ≡ length old

-- marks that are the same stay, and there are as many
pub same_grows : (old new : List Bool) → new ≡ old → Grows old new
same_grows old new e = record { stay = λ at h. subst (λ own. Has own at) (sym e) h; long = ap length e }

-- a mark that is set is there
set_here : (own : List Bool) (k : ℕ) → k < length own → Has (slice_set own k true) k
set_here [] k h = absurd (omega arith)
set_here (b ∷ own) zero h = refl
set_here (b ∷ own) (suc k) h = set_here own k (omega arith)

-- where one mark is set, the others stay
set_stays : (own : List Bool) (k at : ℕ) → Has own at → Has (slice_set own k true) at
set_stays [] k at h = h
set_stays (b ∷ own) zero zero h = refl
set_stays (b ∷ own) zero (suc at) h = h
set_stays (b ∷ own) (suc k) zero h = h
set_stays (b ∷ own) (suc k) (suc at) h = set_stays own k at h

-- where one mark is set, there are as many as before
set_long : (own : List Bool) (k : ℕ) → length (slice_set own k true) ≡ length own
set_long [] k = refl
set_long (b ∷ own) zero = refl
set_long (b ∷ own) (suc k) = ap (λ n. suc n) (set_long own k)

-- marks of which one is set stay, and there are as many
set_grows : (old new : List Bool) (k : ℕ) → new ≡ slice_set old k true → Grows old new
set_grows old new k e = record {
  stay = λ at h. subst (λ own. Has own at) (sym e) (set_stays old k at h);
  long = ap length e ∙ set_long old k;
}

-- marks that stay, and then stay again, stay
grows_on : (a b c : List Bool) → Grows a b → Grows b c → Grows a c
grows_on a b c p q = record { stay = λ at h. q.stay at (p.stay at h); long = q.long ∙ p.long }

-- a mark that is there when one is set was there before, or is that one
set_was : (own : List Bool) (k at : ℕ) → Has (slice_set own k true) at → Has own at ⊎ (k ≡ at)
set_was [] k at h = inl h
set_was (b ∷ own) zero zero h = inr refl
set_was (b ∷ own) zero (suc at) h = inl h
set_was (b ∷ own) (suc k) zero h = inl h
set_was (b ∷ own) (suc k) (suc at) h = elim (set_was own k at h) [
  | inl p ↦ inl p
  | inr p ↦ inr (ap (λ n. suc n) p)
]

-- what a line tells: its visit, with a mark if it has made an epoch, and without one if not; what is refused makes none
pub record Telling (number : ℕ) (before now : Sight) (answer : List ℕ) : Type 0 where
  pub visits : List (Visit Step)
  pub tells : Tells number before.member now.member visits
  pub idle : IsIdleAtRefusal answer visits
  pub marked : AreMarked now.member.own visits
  pub entered : (at : ℕ) → Has now.member.own at → Has before.member.own at ⊎ IsEntered at visits
  pub grows : Grows before.member.own now.member.own

-- where the marks are the same, each of them was there before
as_before : (before now : List Bool) (visits : List (Visit Step)) → now ≡ before → (at : ℕ) → Has now at → Has before at ⊎ IsEntered at visits
as_before before now visits e at h = inl (subst (λ own. Has own at) e h)

-- a line behind which more is seen and the marks are the same tells of a look
looked : (number : ℕ) (before now : Sight) (answer : List ℕ) → Begins before.member.history now.member.history
    → now.member.own ≡ before.member.own → Telling number before now answer
looked number before now answer b e =
    let visit : List (Visit Step) = record { by = number; found = now.member.history; made = None } ∷ [] in
    record {
      visits = visit;
      tells = (refl, b, refl, e);
      idle = λ refusal is. (refl, tt);
      marked = ((λ some. absurd (cc some.1)), tt);
      entered = as_before before.member.own now.member.own visit e;
      grows = same_grows before.member.own now.member.own e;
    }

-- a line by which an epoch was made tells of a visit that has put it
changed : (number : ℕ) (before now : Sight) (answer : List ℕ) (found : List Step) (step : Step) → Begins before.member.history found
    → now.member.history ≡ found ++ step ∷ [] → now.member.own ≡ slice_set before.member.own (length found) true
    → length found < length before.member.own → ((e : Refusal) → answer ≡ refusal_text e → ⊥) → Telling number before now answer
changed number before now answer found step b e own room never = record {
  visits = record { by = number; found = found; made = Some step } ∷ [];
  tells = (refl, b, sym e, own);
  idle = λ refusal is. absurd (never refusal is);
  marked = ((λ some. subst (λ marks. Has marks (length found)) (sym own) (set_here before.member.own (length found) room)), tt);
  entered = λ at h. elim (set_was before.member.own (length found) at (subst (λ marks. Has marks at) own h)) [
    | inl p ↦ inl p
    | inr p ↦ inr (inl ((step, refl), p))
  ];
  grows = set_grows before.member.own now.member.own (length found) own;
}

-- a line that leaves the member as it was tells of no visit
stays : (number : ℕ) (before now : Sight) (answer : List ℕ) → now.member ≡ before.member → Telling number before now answer
stays number before now answer e = record {
  visits = [];
  tells = (ap (λ (a : Account). a.history) e, ap (λ (a : Account). a.own) e);
  idle = λ refusal is. tt;
  marked = tt;
  entered = as_before before.member.own now.member.own [] (ap (λ (a : Account). a.own) e);
  grows = same_grows before.member.own now.member.own (ap (λ (a : Account). a.own) e);
}

-- what is not refused is not told as a refusal: another letter comes first
abbrev letter : List ℕ → ℕ
letter text = get_or text 0 0

-- what tells of a change is no refusal
not_refused : (epoch evals : ℕ) (e : Refusal) → ok_text epoch evals ≡ refusal_text e → ⊥
unfolding ok_text refusal_text
not_refused epoch evals e is = let bad : 111 ≡ 101 = ap letter is in omega (arith, bad)

-- what tells of a plan is no refusal
not_refused_plan : (moves epoch : ℕ) (e : Refusal) → moved_text moves epoch ≡ refusal_text e → ⊥
unfolding moved_text refusal_text
not_refused_plan moves epoch e is = let bad : 109 ≡ 101 = ap letter is in omega (arith, bad)

-- an answer that tells no epoch marks none
unmade : {X : Type 0} (first : ℕ) (before after : List Bool) (r : Result X Refusal) → HasMade first before after none_made r → after ≡ before
unmade first before after (Ok x) h = h
unmade first before after (Err e) h = h

-- a `change` line tells of a visit that has put its change, or of a look where it is refused
commits : (number : ℕ) (before now : Sight) (line : List ℕ) (first : ClusterMap) (most base : ℕ) (parts : ChangeParts) (r : Result Commit Refusal) → length before.member.own ≡ most
    → AnswersCommit first most before.member.history now.member.history base parts r → HasMade first.epoch before.member.own now.member.own (λ ok. Some ok.epoch) r
    → line ≡ line_of changed_text r → Telling number before now line
commits number before now line first most base parts (Ok ok) long a h is =
    let c = a.1 in
    let row = commit_marks first.epoch most first most before.member.history now.member.history base parts (Ok ok) refl refl a in
    let at : ok.epoch - first.epoch - 1 ≡ length c.found = omega (arith, c.based, c.next) in
    changed number before now line c.found (record { epoch = ok.epoch; change = parts }) c.goes_on c.ends
    (h ∙ ap (λ k. slice_set before.member.own k true) at) (omega (arith, row.within, at, c.based, c.next, long)) (λ e told. not_refused ok.epoch ok.evals e (sym is ∙ told))
commits number before now line first most base parts (Err e) long a h is = looked number before now line a.0.begins h

-- so does an `apply` line
applies : (number : ℕ) (before now : Sight) (line : List ℕ) (first : ClusterMap) (most : ℕ) (parts : ChangeParts) (r : Result Commit Refusal) → length before.member.own ≡ most
    → AnswersApply first most before.member.history now.member.history parts r → HasMade first.epoch before.member.own now.member.own (λ ok. Some ok.epoch) r
    → line ≡ line_of changed_text r → Telling number before now line
applies number before now line first most parts (Ok ok) long a h is =
    let c = a.1.1 in
    let row = apply_marks first.epoch most first most before.member.history now.member.history parts (Ok ok) refl refl a in
    let at : ok.epoch - first.epoch - 1 ≡ length c.found = omega (arith, c.based, c.next) in
    changed number before now line c.found (record { epoch = ok.epoch; change = parts }) c.goes_on c.ends
    (h ∙ ap (λ k. slice_set before.member.own k true) at) (omega (arith, row.within, at, c.based, c.next, long)) (λ e told. not_refused ok.epoch ok.evals e (sym is ∙ told))
applies number before now line first most parts (Err e) long a h is = looked number before now line a.0.begins h

-- a plan with no moves tells no epoch, and one with some tells its own
abbrev with_plan : ℕ → List Bool → ℕ → ℕ → List Bool
with_plan first own epoch moves = with_made first own (if moves == 0 then None else Some epoch)

-- a plan with no moves leaves the marks as they were
told_none : (own now : List Bool) (first epoch moves : ℕ) → moves ≡ 0 → now ≡ with_plan first own epoch moves → now ≡ own
told_none own now first epoch zero none h = h
told_none own now first epoch (suc moves) none h = absurd (omega (arith, none))

-- a plan with moves sets the mark of its epoch
told_some : (own now : List Bool) (first epoch moves : ℕ) → moves ≢ 0 → now ≡ with_plan first own epoch moves → now ≡ slice_set own (epoch - first - 1) true
told_some own now first epoch moves some h = subst (λ b. now ≡ with_made first own (if b then None else Some epoch)) (ne_eqb moves 0 some) h

-- a `balance` line tells of a visit that has put its plan, or of a look where it has no moves or is refused
plans : (number : ℕ) (before now : Sight) (line : List ℕ) (first : ClusterMap) (most pool : ℕ) (aim : Aim) (limit : ℕ) (r : Result Balance Refusal) → length before.member.own ≡ most
    → AnswersBalance first most before.member.history now.member.history pool aim limit r → HasMade first.epoch before.member.own now.member.own planned_epoch r
    → line ≡ line_of planned_text r → Telling number before now line
plans number before now line first most pool aim limit (Ok ok) long (on, inl p) h is =
    let row = plan_marks first.epoch most first most before.member.history now.member.history pool aim limit (Ok ok) refl refl (on, inl p) p.some in
    let at : ok.epoch - first.epoch - 1 ≡ length p.found = omega (arith, p.next) in
    changed number before now line p.found _ p.goes_on p.ends
    (told_some before.member.own now.member.own first.epoch ok.epoch ok.moves p.some h ∙ ap (λ k. slice_set before.member.own k true) at)
    (omega (arith, row.within, at, p.next, long)) (λ e told. not_refused_plan ok.moves ok.epoch e (sym is ∙ told))
plans number before now line first most pool aim limit (Ok ok) long (on, inr p) h is =
    looked number before now line on.begins (told_none before.member.own now.member.own first.epoch ok.epoch ok.moves p.none h)
plans number before now line first most pool aim limit (Err e) long a h is = looked number before now line a.0.begins h

-- whatever a command is, its answer tells of what its member has seen and made by it
does : (basis : Basis) (number : ℕ) (before now : Sight) (c : Option Command) (line : List ℕ) → length before.member.own ≡ basis.most → Does basis before c line now → Telling number before now line
does basis number before now None line long d = stays number before now line (ap (λ (s : Sight). s.member) d.1)
does basis number before now (Some (ask question)) line long ((r, (l, t, h), e), f) = looked number before now line l.0.begins (unmade basis.first.epoch _ _ r h)
does basis number before now (Some (ups pool)) line long ((r, (l, t, h), e), f) = looked number before now line l.0.begins (unmade basis.first.epoch _ _ r h)
does basis number before now (Some (change text)) line long ((r, (Ok (base, parts), makes, (a, t, h)), e), f) = commits number before now line basis.first basis.most base parts r long a h e
does basis number before now (Some (change text)) line long ((r, (Err why, makes, none), e), f) = stays number before now line none.1
does basis number before now (Some (apply text)) line long ((r, (Ok parts, makes, (a, t, h)), e), f) = applies number before now line basis.first basis.most parts r long a h e
does basis number before now (Some (apply text)) line long ((r, (Err why, makes, none), e), f) = stays number before now line none.1
does basis number before now (Some (wait epoch)) line long ((r, (l, t, h), e), f) = looked number before now line l.0.begins (unmade basis.first.epoch _ _ r h)
does basis number before now (Some (balance pool limit None)) line long ((r, (a, t, h), e), f) = plans number before now line basis.first basis.most pool (aim_of [] 256) limit r long a h e
does basis number before now (Some (balance pool limit (Some beside))) line long ((r, (Ok carried, makes, (a, t, h)), e), f) =
    plans number before now line basis.first basis.most pool (aim_of carried beside.apart) limit r long a h e
does basis number before now (Some (balance pool limit (Some beside))) line long ((r, (Err why, makes, none), e), f) = stays number before now line none.1
does basis number before now (Some (follower t)) line long d = stays number before now line d.1
does basis number before now (Some (fups pool)) line long d = stays number before now line d.1

-- whatever a line is, a follower loses nothing
taken_follows : (basis : Basis) (at : ℕ) (before now : Sight) (line answer : List ℕ) → TakesLine (session_by basis lets_all) at before line answer now
    → Begins before.follower.history now.follower.history
taken_follows basis at before now [] answer t = kept_track before now (ap (λ (s : Sight). s.follower) t.1)
taken_follows basis at before now (c ∷ cs) answer t = follower_begins basis before now (command_by basis.profile (c ∷ cs)) answer t.1.0

-- so does the answer of each line that is taken, also of one that is empty
pub taken : (basis : Basis) (number at : ℕ) (before now : Sight) (line answer : List ℕ) → length before.member.own ≡ basis.most
    → TakesLine (session_by basis lets_all) at before line answer now → Telling number before now answer
taken basis number at before now [] answer long t = stays number before now answer (ap (λ (s : Sight). s.member) t.1)
taken basis number at before now (c ∷ cs) answer long t =
    does basis number before now (command_by basis.profile (c ∷ cs)) answer long t.1.0

-- marks of the one are marks of the other
marked_on : (old new : List Bool) (visits : List (Visit Step)) → Grows old new → AreMarked old visits → AreMarked new visits
marked_on old new [] g p = tt
marked_on old new (v ∷ visits) g p = ((λ some. g.stay (length v.found) (p.0 some)), marked_on old new visits g p.1)

-- later visits and those before them are marked together, where both are
marked_both : (own : List Bool) (later here : List (Visit Step)) → AreMarked own later → AreMarked own here → AreMarked own (later ++ here)
marked_both own [] here p q = q
marked_both own (v ∷ later) here p q = (p.0, marked_both own later here p.1 q)

-- what was made is made
entered_later : (at : ℕ) (later here : List (Visit Step)) → IsEntered at later → IsEntered at (later ++ here)
entered_later at [] here e = absurd e
entered_later at (v ∷ later) here (inl e) = inl e
entered_later at (v ∷ later) here (inr e) = inr (entered_later at later here e)

-- what the visits before later ones have made, all of them have made
entered_here : (at : ℕ) (later here : List (Visit Step)) → IsEntered at here → IsEntered at (later ++ here)
entered_here at [] here e = e
entered_here at (v ∷ later) here e = inr (entered_here at later here e)

-- a mark in the end was there at first, or a visit of the later or the earlier list has made it
entered_on : (at : ℕ) (first left : List Bool) (later here : List (Visit Step)) → Has left at ⊎ IsEntered at later
    → (Has left at → Has first at ⊎ IsEntered at here) → Has first at ⊎ IsEntered at (later ++ here)
entered_on at first left later here (inr e) before = inr (entered_later at later here e)
entered_on at first left later here (inl h) before = elim (before h) [
  | inl p ↦ inl p
  | inr e ↦ inr (entered_here at later here e)
]

-- a line's visit is to what goes on from what was seen
one_line : (number : ℕ) (before now : Account) (visits : List (Visit Step)) → Tells number before now visits
    → AreFrom before.history now.history visits
one_line number before now [] t = subst (Begins before.history) (sym t.0) (begins_itself before.history)
one_line number before now (v ∷ []) t = (subst (Begins (behind v)) t.2 (begins_itself (behind v)), t.1)
one_line number before now (v ∷ w ∷ visits) t = absurd t

-- what the lines of a session tell
pub record Walks (basis : Basis) (number : ℕ) (all : List Step) (at : ℕ) (first : Sight) (lines : List (List ℕ)) (bytes : List ℕ) (last : Sight) :
    Type 0 where
  pub visits : List (Visit Step)
  pub told : IsToldBy basis number all at first lines bytes visits last
  pub from : AreFrom first.member.history last.member.history visits
  pub marked : AreMarked last.member.own visits
  pub entered : (at : ℕ) → Has last.member.own at → Has first.member.own at ⊎ IsEntered at visits
  pub grows : Grows first.member.own last.member.own
  pub follows : Begins first.follower.history last.follower.history

-- the lines of a transcript, one after the other, tell all this of their session
pub walks : (basis : Basis) (number : ℕ) (all : List Step) (at : ℕ) (first last : Sight) (lines : List (List ℕ)) (bytes : List ℕ)
    → length first.member.own ≡ basis.most → Begins last.follower.history all
    → IsTranscript (session_by basis lets_all) at first lines bytes last → Walks basis number all at first lines bytes last
unfolding IsTranscript
walks basis number all at first last [] bytes long ahead t = record {
  visits = [];
  told = (t.0, refl, t.1);
  from = subst (λ (s : Sight). Begins first.member.history s.member.history) (sym t.1) (begins_itself first.member.history);
  marked = tt;
  entered = as_before first.member.own last.member.own [] (ap (λ (s : Sight). s.member.own) t.1);
  grows = same_grows first.member.own last.member.own (ap (λ (s : Sight). s.member.own) t.1);
  follows = kept_track first last (ap (λ (s : Sight). s.follower) t.1);
}
walks basis number all at first last (line ∷ lines) bytes long ahead (answer, rest, left, takes, further, e) =
    let one = taken basis number at first left line answer long takes in
    let more = walks basis number all (suc at) left last lines rest (one.grows.long ∙ long) ahead further in
    record {
      visits = more.visits ++ one.visits;
      told = (
        answer,
        rest,
        left,
        one.visits,
        more.visits,
        takes,
        one.tells,
        one.idle,
        begins_on left.follower.history last.follower.history all more.follows ahead,
        more.told,
        e,
        refl,
      );
      from = joined first.member.history left.member.history last.member.history more.visits one.visits more.from
          (one_line number first.member left.member one.visits one.tells);
      marked = marked_both last.member.own more.visits one.visits more.marked (marked_on left.member.own last.member.own one.visits more.grows one.marked);
      entered = λ k h. entered_on k first.member.own left.member.own more.visits one.visits (more.entered k h) (one.entered k);
      grows = grows_on first.member.own left.member.own last.member.own one.grows more.grows;
      follows = begins_on first.follower.history left.follower.history last.follower.history
          (taken_follows basis at first left line answer takes) more.follows;
    }
