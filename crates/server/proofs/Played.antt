-- The texts of sessions.
use Rattle.std.proofs.Common.{◌≡◌, ◌∙◌, ◌==◌, ◌++◌, true, false, ◌||◌, refl, ap, sym, subst, [], ◌∷◌, append_assoc, ℕ, List, map, length, Option, None, IfSome, OnOk, Result, Ok, Err}
use Rattle.std.specs.List.{concat, list_any}
use mathlib.Core.List.{map-map}
use Rattle.std.specs.Result.{IsErrAnd}
use Rattle.maptypes.specs.Incrementals.{Step}
use Rattle.osdmap.specs.Maps.{ClusterMap}
use Rattle.osdmap.specs.Changes.{IsLawful}
use Rattle.mapparts.specs.declared.profile.Profile.{Profile}
use Rattle.mapjson.specs.MapTexts.{map_text_fault, StatesMap}
use Rattle.monitor.specs.Members.{Monitored, draws_of}
use Rattle.monitor.specs.declared.member.Member.{Member}
use Rattle.monitor.specs.Opening.{can_open, max_draws, IsOpening}
use Rattle.epochlog.specs.Journals.{Journal}
use Rattle.session.specs.declared.error.SessionError.{SessionError}
use Rattle.session.specs.Answers.{Sight}
use Rattle.session.specs.Commands.{lines_in}
use Rattle.session.specs.Sessions.{session_of, basis_of}
use Rattle.session.specs.Transcripts.{IsTranscript}
use Rattle.session.specs.Sinks.{HasPut}
use Rattle.std.specs.declared.thread.PromisedHandle.{PromisedHandle}
use Rattle.server.specs.declared.part.Part.{Part}
use Rattle.server.specs.declared.left.Left.{Left}
use Rattle.server.specs.declared.left.LeftOf.{LeftOf}
use Rattle.server.specs.declared.fault.Fault.{Fault}
use Rattle.server.specs.declared.fault.Fault.TheVariants.{Lost, Map, Output, Told, Memory}
use Rattle.server.specs.Players.{IsStartedFor, KeepsPromise}
use Rattle.server.specs.Pairs.{Pairs}
use Rattle.server.specs.Serving.{LeftFacts, heading, facts_left, texts_of, text_left, unseen, lets_all, journal_of, KeepsAll, IsTextBy, IsLeftBy, IsLeftIn, AreLeftBy, AreLeftFrom, run_basis, ServesFrom, Serves, has_output_failed}
use Rattle.server.proofs.Paired.{pairs_made, pairs_through}

-- what is left is of the same monitor, number and part
pub left_for : (monitor monitor' : Monitored) (number number' : ℕ) (part part' : Part) (left : Left) → monitor' ≡ monitor → number' ≡ number
    → part' ≡ part → IsLeftBy monitor' number' part' left → IsLeftBy monitor number part left
left_for monitor monitor' number number' part part' left same numbered played is =
    subst (λ m. IsLeftBy m number part left) same (subst (λ n. IsLeftBy monitor' n part left) numbered
    (subst (λ s. IsLeftBy monitor' number' s left) played is))

-- what is left by threads that were started for these parts
pub left_by : {T K : Type 0} (monitor : Monitored) (players : List (PromisedHandle T (LeftOf K))) (parts : List Part) (lefts : List Left)
    → Pairs (IsStartedFor monitor) 1 players parts → Pairs KeepsPromise 1 players lefts → Pairs (IsLeftBy monitor) 1 parts lefts
left_by monitor players parts lefts started kept =
    pairs_through (IsStartedFor monitor) KeepsPromise (IsLeftBy monitor)
    (λ number player part left begun keeps. left_for _ _ _ _ _ _ left begun.0 begun.1 begun.2 keeps)
    1 players parts lefts started kept

-- the answers at a monitor that was opened for a run go by what those of the run do
same_basis : (monitor : Monitored) (m : ClusterMap) (journal : ℕ) (profile : Profile) (parts : List Part)
    → monitor.first ≡ m → length monitor.row.cells ≡ journal → draws_of monitor ≡ max_draws → monitor.profile ≡ profile
    → monitor.alone ≡ (length parts == 1) → basis_of monitor ≡ run_basis m journal profile parts
same_basis monitor m journal profile parts first room drawn kinds one = rw (first, room, drawn, kinds, one) refl

-- what is left at a monitor that was opened for a run is left of that run
lefts_of : {K : Type 0} (may_leave : K → Journal → Type 0) (monitor : Monitored) (m : ClusterMap) (journal : ℕ) (profile : Profile)
    (parts : List Part) (lefts : List Left)
    → monitor.first ≡ m → length monitor.row.cells ≡ journal → draws_of monitor ≡ max_draws
    → monitor.profile ≡ profile → monitor.alone ≡ (length parts == 1) → AreLeftBy may_leave monitor parts lefts
    → AreLeftFrom (λ all. KeepsAll may_leave (journal_of m all)) m journal profile parts (map facts_left lefts)
lefts_of may_leave monitor m journal profile parts lefts first room drawn kinds one (all, lawful, once, kept, paired) =
    let same = same_basis monitor m journal profile parts first room drawn kinds one in
    let made = pairs_made (IsLeftIn (basis_of monitor) all) facts_left 1 parts lefts paired in (
      all,
      subst (λ f. IsLawful f all) first lawful,
      once,
      subst (λ f. KeepsAll may_leave (journal_of f all)) first kept,
      subst (λ b. Pairs (IsLeftIn b all) 1 parts (map facts_left lefts)) same made,
    )

-- the same of a list that is shown, at a monitor that was opened with so many seats
pub run_left : {K : Type 0} (may_leave : K → Journal → Type 0) (monitor : Monitored) (members : List Member) (m : ClusterMap) (journal : ℕ)
    (profile : Profile) (parts : List Part) (lefts shown : List Left)
    → IsOpening m journal (length parts) max_draws profile monitor members → AreLeftBy may_leave monitor parts lefts → shown ≡ lefts
    → AreLeftFrom (λ all. KeepsAll may_leave (journal_of m all)) m journal profile parts (map facts_left shown)
run_left may_leave monitor members m journal profile parts lefts shown opened left same =
    subst (λ list. AreLeftFrom (λ all. KeepsAll may_leave (journal_of m all)) m journal profile parts (map facts_left list)) (sym same)
    (lefts_of may_leave monitor m journal profile parts lefts opened.first opened.capacity opened.limit opened.profile opened.alone left)

-- what is out where the output fails, at whatever error is told
pub served_part : (IsKept : List Step → Type 0) (r : Result Unit Fault) (m : ClusterMap) (journal : ℕ) (profile : Profile) (parts : List Part)
    (before after : List ℕ) → IsErrAnd r (λ e. e ≡ Output)
    → ((lefts : List LeftFacts) × (rest : List ℕ) × AreLeftFrom IsKept m journal profile parts lefts × HasPut before (texts_of lefts) rest after)
    → ServesFrom IsKept m journal profile parts before after r
served_part IsKept (Ok done) m journal profile parts before after is out = absurd is
served_part IsKept (Err e) m journal profile parts before after is out = rw is out

-- nothing is out where memory is short
pub served_short : (IsKept : List Step → Type 0) (r : Result Unit Fault) (m : ClusterMap) (journal : ℕ) (profile : Profile) (parts : List Part)
    (before : List ℕ) → IsErrAnd r (λ e. e ≡ Memory) → ServesFrom IsKept m journal profile parts before before r
served_short IsKept (Ok done) m journal profile parts before is = absurd is
served_short IsKept (Err e) m journal profile parts before is = rw is refl

-- what is left of a run, whatever is kept of it
left_anyhow : (IsKept : List Step → Type 0) (m : ClusterMap) (journal : ℕ) (profile : Profile) (parts : List Part) (lefts : List LeftFacts)
    → AreLeftFrom IsKept m journal profile parts lefts → AreLeftFrom (λ all. Unit {0}) m journal profile parts lefts
left_anyhow IsKept m journal profile parts lefts (all, lawful, once, kept, paired) = (all, lawful, once, tt, paired)

-- what is out of a run over a text that states a map at whose epoch a monitor begins
pub served_stated : (IsKept : List Step → Type 0) (r : Result Unit Fault) (m : ClusterMap) (journal : ℕ) (profile : Profile) (stated : List ℕ)
    (parts : List Part) (before after : List ℕ)
    → map_text_fault profile stated ≡ None → StatesMap profile stated m → can_open m.epoch journal (length parts) max_draws ≡ true
    → ServesFrom IsKept m journal profile parts before after r → Serves journal profile stated parts before after r
served_stated IsKept (Ok done) m journal profile stated parts before after none states opens (lefts, left, told, out) =
    (none, (m, states, (lefts, left_anyhow IsKept m journal profile parts lefts left, told, out)))
served_stated IsKept (Err (Map refusal)) m journal profile stated parts before after none states opens (is, shut, same) =
    let bad : true ≡ false = sym opens ∙ shut in
    absurd (cc)
served_stated IsKept (Err Output) m journal profile stated parts before after none states opens (lefts, rest, left, out) =
    (none, (m, states, (lefts, rest, left_anyhow IsKept m journal profile parts lefts left, out)))
served_stated IsKept (Err Told) m journal profile stated parts before after none states opens (lefts, left, told, out) =
    (none, (m, states, (lefts, left_anyhow IsKept m journal profile parts lefts left, told, out)))
served_stated IsKept (Err Lost) m journal profile stated parts before after none states opens same = (none, (m, states, same))
served_stated IsKept (Err Memory) m journal profile stated parts before after none states opens same = same

-- and the sink has not failed
pub short_output : (r : Result Unit Fault) → IsErrAnd r (λ e. e ≡ Memory) → has_output_failed r ≡ false
short_output (Ok done) is = absurd is
short_output (Err e) is = rw is refl

-- a thread with this promise is started for a part
pub started_for : {T K : Type 0} (monitor : Monitored) (number : ℕ) (player : PromisedHandle T (LeftOf K)) (part : Part)
    → player.promise.monitor.now ≡ monitor → player.promise.number ≡ number → player.promise.part.now ≡ part
    → IsStartedFor monitor number player part
started_for monitor number player part same numbered played = (same, numbered, played)

-- what a live session has put is its heading and its answers
pub told_live : (monitor : Monitored) (number : ℕ) (seen : Sight) (ends : Sight) (old mid after : List ℕ) (known : Option (List ℕ))
    (r : Result Unit SessionError) → seen ≡ unseen (length monitor.row.cells) → mid ≡ old ++ heading number
    → OnOk r ((read : List ℕ) × (bytes : List ℕ) × (last : Sight) × IfSome known (λ xs. xs ≡ read)
    × IsTranscript (session_of monitor lets_all) 1 seen (lines_in read) bytes last × (last ≡ ends) × (after ≡ mid ++ bytes))
    → OnOk r ((read : List ℕ) × (text : List ℕ) × IfSome known (λ xs. xs ≡ read) × IsTextBy monitor number read text ends
    × (after ≡ old ++ text))
told_live monitor number seen ends old mid after known (Ok done) same out (read, bytes, last, all, told, is, put) = (
  read,
  heading number ++ bytes,
  all,
  (bytes, last, subst (λ s. IsTranscript (session_of monitor lets_all) 1 s (lines_in read) bytes last) same told, is, refl),
  put ∙ ap (λ o. o ++ bytes) out ∙ append_assoc old (heading number) bytes,
)
told_live monitor number seen ends old mid after known (Err e) same out told = tt

-- the texts of what is left are those of what is left without its members
pub texts_left : (lefts : List Left) → concat (map text_left lefts) ≡ texts_of (map facts_left lefts)
texts_left lefts = ap concat (sym (map-map (λ (left : LeftFacts). left.text) facts_left lefts))

-- so is it told by the same sessions
pub told_left : (lefts : List Left) → list_any (λ left. left.has_told) lefts ≡ list_any (λ left. left.told) (map facts_left lefts)
told_left [] = refl
told_left (left ∷ lefts) = ap (λ b. left.has_told || b) (told_left lefts)
