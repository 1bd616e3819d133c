-- The history of a member that is alone is what its own answers tell of.
use Rattle.std.proofs.Common.{◌≡◌, ◌∙◌, ◌++◌, ℕ, suc, Bool, true, List, [], ◌∷◌, inl, inr, refl, sym, ap, append-nil, append_assoc}
use Rattle.std.specs.List.{concat}
use Rattle.maptypes.specs.Incrementals.{Step}
use Rattle.session.specs.Transcripts.{IsTranscript, TakesLine}
use Rattle.session.specs.Answers.{Basis, Sight, AddsTold, session_by}
use Rattle.session.specs.Alone.{TellOf}

module _ (basis : Basis) (alone : basis.alone ≡ true) (lets : ℕ → Bool → Type 0) where
  -- a line adds nothing, or what its answer tells of
  adds : (number : ℕ) (before : Sight) (line answer : List ℕ) (left : Sight)
      → TakesLine (session_by basis lets) number before line answer left → AddsTold before.member.history answer left.member.history
  adds number before [] answer left (none, same) = inl (ap (λ (s : Sight). s.member.history) same)
  adds number before (c ∷ cs) answer left (passed, answered) = answered.1 alone

  -- what is left of a transcript: its answers, and the incrementals that they tell of, which are all that was added
  pub record Owns (before : List Step) (bytes : List ℕ) (last : List Step) : Type 0 where
    pub answers : List (List ℕ)
    pub steps : List Step
    pub all : concat answers ≡ bytes
    pub ends : last ≡ before ++ steps
    pub told : TellOf answers steps

  -- one answer more before the others
  more : (before between last : List Step) (answer rest bytes : List ℕ) → bytes ≡ answer ++ rest → AddsTold before answer between
      → Owns between rest last → Owns before bytes last
  more before between last answer rest bytes out (inl same) owns = record {
    answers = answer ∷ owns.answers;
    steps = owns.steps;
    all = ap (λ r. answer ++ r) owns.all ∙ sym out;
    ends = owns.ends ∙ ap (λ h. h ++ owns.steps) same;
    told = inl owns.told;
  }
  more before between last answer rest bytes out (inr (epoch, change, count, is, tells)) owns =
      let step : Step = record { epoch = epoch; change = change } in record {
        answers = answer ∷ owns.answers;
        steps = step ∷ owns.steps;
        all = ap (λ r. answer ++ r) owns.all ∙ sym out;
        ends = owns.ends ∙ (ap (λ h. h ++ owns.steps) is ∙ append_assoc before (step ∷ []) owns.steps);
        told = inr (step, owns.steps, refl, (count, tells), owns.told);
      }

  -- each incremental that the member has in the end beyond those of the beginning stands in an answer, by its epoch
  pub owns : (number : ℕ) (before : Sight) (lines : List (List ℕ)) (bytes : List ℕ) (last : Sight)
      → IsTranscript (session_by basis lets) number before lines bytes last → Owns before.member.history bytes last.member.history
  unfolding IsTranscript
  owns number before [] bytes last (none, same) = record {
    answers = [];
    steps = [];
    all = sym none;
    ends = ap (λ (s : Sight). s.member.history) same ∙ sym (append-nil before.member.history);
    told = refl;
  }
  owns number before (line ∷ lines) bytes last (answer, rest, left, taken, then, out) =
      more before.member.history left.member.history last.member.history answer rest bytes out (adds number before line answer left taken)
      (owns (suc number) left lines rest last then)
