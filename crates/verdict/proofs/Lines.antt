-- What is read and judged part by part.
use Rattle.std.proofs.Common.{◌≡◌, ◌∙◌, ℕ, ◌+◌, ◌<◌, List, [], ◌∷◌, ◌++◌, length, drop, get_or, drop-cons, add-one, append_assoc, append-nil, Option, None, Some, Result, Ok, Err, refl, sym, ap}
use Rattle.std.specs.Prelude.{IfOk}
use Rattle.std.specs.Option.{option_map}
use Rattle.mapparts.specs.declared.profile.Profile.{Profile}
use Rattle.osdmap.specs.Maps.{ClusterMap}
use Rattle.verdict.specs.declared.doubt.Doubt.{Doubt}
use Rattle.verdict.specs.declared.judging.Taken.{Taken}
use Rattle.verdict.specs.declared.script.Said.{Said}
use Rattle.verdict.specs.Scripts.{osd_of_word, osds_in, said_at, said_from}
use Rattle.verdict.specs.Verdicts.{Judged, said_verdict, map_behind, judged}
use Rattle.verdict.specs.declared.doubt.Stop.{Stop}
use Rattle.verdict.specs.declared.doubt.Stop.TheVariants as stop
use Rattle.verdict.specs.declared.judging.Verdict.{Verdict}
use Rattle.verdict.specs.Stops.{IsAnswer, UnlessShort}
use Rattle.verdict.specs.Reading.{taken_before, IsVerdict, IsEnded}

-- ---- words

-- a word that is no OSD
pub osds_none : (before : List ℕ) (word : List ℕ) (words : List (List ℕ)) → osd_of_word word ≡ None → option_map (λ more. before ++ more) (osds_in (word ∷ words)) ≡ None
unfolding osds_in
osds_none before word words none = rw (none) refl

-- one OSD more behind others
behind_one : (before : List ℕ) (osd : ℕ) (found : Option (List ℕ))
    → option_map (λ more. before ++ more) (option_map (λ osds. osd ∷ osds) found) ≡ option_map (λ more. (before ++ osd ∷ []) ++ more) found
behind_one before osd None = refl
behind_one before osd (Some osds) = ap Some (sym (append_assoc before (osd ∷ []) osds))

-- a word that is one
pub osds_more : (before : List ℕ) (word : List ℕ) (words : List (List ℕ)) (osd : ℕ) → osd_of_word word ≡ Some osd
    → option_map (λ more. before ++ more) (osds_in (word ∷ words)) ≡ option_map (λ more. (before ++ osd ∷ []) ++ more) (osds_in words)
unfolding osds_in
osds_more before word words osd is = rw (is) (behind_one before osd (osds_in words))

-- no word is left
pub osds_all : (before : List ℕ) → option_map (λ more. before ++ more) (osds_in []) ≡ Some before
unfolding osds_in
osds_all before = ap Some (append-nil before)

-- ---- lines

-- one line more
pub said_more : (before : List Said) (line : ℕ) (text : List ℕ) (texts : List (List ℕ)) → before ++ said_from line (text ∷ texts) ≡ (before ++ said_at line text) ++ said_from (line + 1) texts
unfolding said_from
said_more before line text texts = sym (append_assoc before (said_at line text) (said_from (line + 1) texts))

-- no line is left
pub said_all : (before : List Said) (line : ℕ) → before ++ said_from line [] ≡ before
unfolding said_from
said_all before line = append-nil before

-- ---- verdicts

-- a line that is taken
pub judged_more : (p : Profile) (m : ClusterMap) (before : List Taken) (s : Said) (ss : List Said) (t : Taken) → said_verdict p m s ≡ Ok t
    → taken_before before (judged p m (s ∷ ss)) ≡ taken_before (before ++ t ∷ []) (judged p (map_behind p m s) ss)
unfolding judged
judged_more p m before s ss t is =
    rw (judged, is) (ap (λ taken. record (judged p (map_behind p m s) ss) { taken = taken }) (sym (append_assoc before (t ∷ []) (judged p (map_behind p m s) ss).taken)))

-- a line that is in doubt
pub judged_ends : (p : Profile) (m : ClusterMap) (before : List Taken) (s : Said) (ss : List Said) (why : Doubt) → said_verdict p m s ≡ Err why
    → taken_before before (judged p m (s ∷ ss)) ≡ record { taken = before; doubt = Some (record { line = s.line; why = why }); map = map_behind p m s }
unfolding judged
judged_ends p m before s ss why is =
    rw (judged, is) (ap (λ taken. record { taken = taken; doubt = Some (record { line = s.line; why = why }); map = map_behind p m s }) (append-nil before))

-- no line is left
pub judged_all : (p : Profile) (m : ClusterMap) (before : List Taken) → taken_before before (judged p m []) ≡ record { taken = before; doubt = None; map = m }
unfolding judged
judged_all p m before = ap (λ taken. record { taken = taken; doubt = None; map = m }) (append-nil before)

-- what is so of a value is so of the value of an answer
pub if_ok : {X E : Type 0} (P Q : X → Type 0) (r : Result X E) → ((x : X) → P x → Q x) → IfOk r P → IfOk r Q
if_ok P Q (Ok x) f p = f x p
if_ok P Q (Err e) f p = tt

-- a script that ends at a line does what it is to do
pub ends_so : (p : Profile) (m : ClusterMap) (before : List Taken) (s : Said) (ss : List Said) (j : Judged) (v : Verdict) (after : ClusterMap) (why : Stop)
    → j ≡ taken_before before (judged p m (s ∷ ss)) → IsAnswer (said_verdict p m s) (Err why) → UnlessShort {X = Taken} (Err why) (after ≡ map_behind p m s)
    → IsEnded v before s.line after why → IsVerdict v j
ends_so p m before s ss j v after stop.Memory all answer map ended = absurd ended
ends_so p m before s ss j v after (stop.Doubt why) all answer map ended = rw (all ∙ judged_ends p m before s ss why answer, ← map) ended

-- what is left of a list from a place on
pub left_from : {X : Type 0} (xs : List X) (i : ℕ) (x : X) → i < length xs → x ≡ get_or xs i x → drop i xs ≡ x ∷ drop (i + 1) xs
left_from xs i x lt is = drop-cons xs i x lt ∙ rw (← is, add-one i) refl
