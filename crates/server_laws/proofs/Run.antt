-- What the sessions of a run are told is one list.
use Rattle.std.proofs.Common.{◌≡◌, ◌⊎◌, ℕ, zero, suc, ◌+◌, cond, ◌≤◌, List, [], ◌∷◌, length, replicate, Bool, true, false, slice_index_or, refl, sym, ◌∙◌, ap, subst, arith, inl, inr}
use Rattle.std.specs.List.{count_by}
use Rattle.std.proofs.lemmas.List.Sums.{sum_by-cons}
use Rattle.maptypes.specs.Incrementals.{Step}
use Rattle.sealed.specs.History.{Begins}
use Rattle.session.specs.Answers.{Basis, Account, Sight}
use Rattle.server.specs.declared.part.Part.{Part}
use Rattle.server.specs.declared.part.Part.TheVariants.{Script, Live}
use Rattle.server.specs.Pairs.{Pairs}
use Rattle.server.specs.Serving.{LeftFacts, IsLeftIn, run_basis, unseen}
use Rattle.server_laws.specs.Visits.{Visit}
use Rattle.server_laws.specs.Sessions.{IsTold, AreTold, RunsAsOne, PrintsAsOne}
use Rattle.server_laws.proofs.Histories.{AreInOrder, in_order, IsEntered, executes}
use Rattle.server_laws.proofs.Merged.{AreAllInOrder, IsEnteredIn, entered_all}
use Rattle.server_laws.proofs.Apart.{Maker, AreMarked, AreAllMarked, visits_of, one_if, makers, one_list}
use Rattle.server_laws.proofs.Session.{Walks, walks}

-- a list of so many equal entries is so long
so_long : (n : ℕ) (b : Bool) → length (replicate n b) ≡ n
so_long zero b = refl
so_long (suc n) b = ap (λ k. suc k) (so_long n b)

-- among marks of which none is set, none is at any place
none_marked : (n at : ℕ) → slice_index_or (replicate n false) at false ≡ true → ⊥
none_marked zero at h = cc h
none_marked (suc n) zero h = cc h
none_marked (suc n) (suc at) h = none_marked n at h

-- whether the member of a session that is left has the mark of a place
abbrev mark_at : ℕ → LeftFacts → Bool
mark_at at left = slice_index_or left.own at false

-- no more stay no more where the same one is counted to both
counts : (b : Bool) (rest more : ℕ) → rest ≤ more → one_if b + rest ≤ cond b 1 0 + more
counts true rest more h = omega arith
counts false rest more h = omega arith

-- a place that somebody has marked is of the first or of one of the others
either : (b : Bool) (rest n : ℕ) → n ≡ cond b 1 0 + rest → 1 ≤ n → (b ≡ true) ⊎ (1 ≤ rest)
either true rest n e h = inl refl
either false rest n e h = inr (omega (arith, e, h))

-- the session of a part, as one who has marks
pub record One (basis : Basis) (all : List Step) (number : ℕ) (part : Part) (left : LeftFacts) : Type 0 where
  pub visits : List (Visit Step)
  pub told : IsTold basis all number part left visits
  pub order : AreInOrder all visits
  pub marked : AreMarked left.own visits
  pub entered : (at : ℕ) → mark_at at left ≡ true → IsEntered at visits

-- a session that was told its lines, up to what is left of it, is one who has marks
walked : (basis : Basis) (all : List Step) (number : ℕ) (part : Part) (left : LeftFacts) (lines : List (List ℕ)) (answers : List ℕ)
    (last : Sight) → Begins last.member.history all → last.member.own ≡ left.own
    → (walk : Walks basis number all 1 (unseen basis.most) lines answers last) → IsTold basis all number part left walk.visits
    → One basis all number part left
walked basis all number part left lines answers last begins marks walk told = record {
  visits = walk.visits;
  told = told;
  order = in_order [] last.member.history all walk.visits walk.from begins;
  marked = subst (λ marks. AreMarked marks walk.visits) marks walk.marked;
  entered = λ at h. elim (walk.entered at (subst (λ marks. slice_index_or marks at false ≡ true) (sym marks) h)) [
    | inl none ↦ absurd (none_marked basis.most at none)
    | inr e ↦ e
  ];
}

-- each session that is left is one who has marks
one : (basis : Basis) (all : List Step) (number : ℕ) (part : Part) (left : LeftFacts) → IsLeftIn basis all number part left
    → One basis all number part left
one basis all number (Script script) left (end, begins, follow, own, ((answers, last, told, same, text), none)) =
    let begins' = subst (λ (s : Sight). Begins s.member.history all) (sym same) begins in
    let ahead = subst (λ (s : Sight). Begins s.follower.history all) (sym same) follow in
    let marks = ap (λ (s : Sight). s.member.own) same ∙ own in
    let walk = walks basis number all 1 (unseen basis.most) last _ answers (so_long basis.most false) ahead told in
    walked basis all number (Script script) left _ answers last begins' marks walk (answers, last, walk.told, text)
one basis all number (Live streams) left (end, begins, follow, own, (none, (lines, answers, last, told, same))) =
    let begins' = subst (λ (s : Sight). Begins s.member.history all) (sym same) begins in
    let ahead = subst (λ (s : Sight). Begins s.follower.history all) (sym same) follow in
    let marks = ap (λ (s : Sight). s.member.own) same ∙ own in
    let walk = walks basis number all 1 (unseen basis.most) last lines answers (so_long basis.most false) ahead told in
    walked basis all number (Live streams) left lines answers last begins' marks walk (lines, answers, last, walk.told)

-- all of them
pub record Found (basis : Basis) (all : List Step) (number : ℕ) (parts : List Part) (lefts : List LeftFacts) : Type 0 where
  pub ms : List (Maker Step)
  pub told : AreTold basis all number parts lefts (visits_of ms)
  pub order : AreAllInOrder all (visits_of ms)
  pub marked : AreAllMarked ms
  pub fewer : (at : ℕ) → makers at ms ≤ count_by (mark_at at) lefts
  pub entered : (at : ℕ) → 1 ≤ count_by (mark_at at) lefts → IsEnteredIn at (visits_of ms)

-- what is left of the sessions of a run is of several who have marks
find : (basis : Basis) (all : List Step) (number : ℕ) (parts : List Part) (lefts : List LeftFacts) → Pairs (IsLeftIn basis all) number parts lefts
    → Found basis all number parts lefts
find basis all number [] [] pairs = record {
  ms = [];
  told = refl;
  order = tt;
  marked = tt;
  fewer = λ at. omega arith;
  entered = λ at h. absurd (omega (arith, h));
}
find basis all number [] (l ∷ ls) pairs = absurd pairs
find basis all number (p ∷ ps) [] pairs = absurd pairs
find basis all number (p ∷ ps) (l ∷ ls) (here, pairs) =
    let first = one basis all number p l here in
    let rest = find basis all (suc number) ps ls pairs in
    let m : Maker Step = record { visits = first.visits; own = l.own } in
    record {
      ms = m ∷ rest.ms;
      told = (first.visits, visits_of rest.ms, refl, first.told, rest.told);
      order = (first.order, rest.order);
      marked = (first.marked, rest.marked);
      fewer = λ at. omega (arith, counts (mark_at at l) (makers at rest.ms) (count_by (mark_at at) ls) (rest.fewer at), sum_by-cons (λ x. cond (mark_at at x) 1 0) l ls);
      entered = λ at h. elim (either (mark_at at l) (count_by (mark_at at) ls) (count_by (mark_at at) (l ∷ ls)) (sum_by-cons (λ x. cond (mark_at at x) 1 0) l ls) h) [
        | inl mine ↦ inl (first.entered at mine)
        | inr theirs ↦ inr (rest.entered at theirs)
      ];
    }

-- the sessions of a run have made its history, one visit after the other
pub runs_as_one : RunsAsOne
runs_as_one m journal profile parts lefts all once pairs =
    let found = find (run_basis m journal profile parts) all 1 parts lefts pairs in
    let list = one_list all found.ms found.order found.marked (λ at h. omega (arith, found.fewer at, once at h)) in (
      visits_of found.ms,
      found.told,
      list.0,
      executes all list.0 list.1 (λ at h. entered_all at (visits_of found.ms) list.0 list.2 (found.entered at (omega (arith, once at h)))),
      list.2,
    )

-- so have those of what a run has printed
pub prints_as_one : PrintsAsOne
prints_as_one m journal profile parts told before after (lefts, (all, lawful, once, kept, pairs), tells, out) =
    (lefts, all, lawful, out, runs_as_one m journal profile parts lefts all once pairs)
