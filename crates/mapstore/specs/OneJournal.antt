-- Journals behind the same texts are the same where their own texts are.
use Rattle.std.specs.Prelude.{◌≡◌, ◌-◌, ◌++◌, ◌==◌, ℕ, List, [], ◌∷◌, map, Ok, refl, drop, if◌then◌else◌}
use Rattle.std.proofs.Common.{◌∙◌, sym, ap, subst}
use Rattle.std.proofs.lemmas.List.{append_cancel_left}
use Rattle.mapparts.specs.declared.profile.Profile.{Profile}
use Rattle.mapparts.specs.declared.profile.Profile.TheVariants.{Plain, Stock}
use Rattle.maptypes.specs.declared.change.ChangeParts.{ChangeParts}
use Rattle.maptypes.specs.Incrementals.{Step}
use Rattle.jsonstream.specs.Json.{stated_by}
use Rattle.partjson.specs.StatedChanges.{stated_change}
use Rattle.mapjson.specs.WrittenChanges.{written_change}
use Rattle.mapjson.specs.PartsOfChange.{change_parts}
use Rattle.mapjson.proofs.OneText.{one_each, one_change}
use Rattle.epochlog.specs.Journals.{Journal}
use Rattle.journalstore.specs.Texts.{Entry, Texts}
use Rattle.mapstore.specs.JournalTexts.{word_of, change_text, row_text, step_entry, IsTextedStep}
use Rattle.mapstore.specs.Stores.{IsBehind, past_of, texts_of}
use Rattle.mapstore.specs.declared.store.MapStore.{MapStore}

-- the profile whose word a text begins with
profile_in : List ℕ → Profile
profile_in [] = Stock
profile_in (code ∷ codes) = if code == 112 then Plain else Stock

-- a text that begins with the word of a profile is of that profile
begins_with : (p : Profile) (xs : List ℕ) → profile_in (word_of p ++ xs) ≡ p
unfolding profile_in
begins_with Plain xs = refl
begins_with Stock xs = refl

-- what is behind the word
pub stands_behind : (p : Profile) (xs : List ℕ) → drop 6 (word_of p ++ xs) ≡ xs
stands_behind Plain xs = refl
stands_behind Stock xs = refl

-- what is written of a change with this base states it
abbrev StatesItself : ℕ → ChangeParts → Type 0
StatesItself base c = stated_by stated_change (written_change base c) ≡ Ok (change_parts base c)

-- incrementals with one row are one
one_step : (s t : Step) → IsTextedStep s → IsTextedStep t → step_entry s ≡ step_entry t → s ≡ t
one_step s t first second e =
    let epoch : s.epoch ≡ t.epoch = ap (λ (r : Entry). r.0) e in
    let text : row_text s ≡ row_text t = ap (λ (r : Entry). r.1) e in
    let begins = ap profile_in text ∙ begins_with t.change.profile (change_text t) in
    let profile = sym (begins_with s.change.profile (change_text s)) ∙ begins in
    let rest = ap (drop 6) text ∙ stands_behind t.change.profile (change_text t) in
    let behind = sym (stands_behind s.change.profile (change_text s)) ∙ rest in
    let same = behind ∙ ap (λ n. written_change (n - 1) t.change) (sym epoch) in
    let also = subst (λ n. StatesItself (n - 1) t.change) (sym epoch) second in
    let change = one_change (s.epoch - 1) s.change t.change profile first also same in
    λ i. record { epoch = epoch i; change = change i }

-- two journals that have the same texts behind a store are one
pub one_journal : {S : Type 0} (store : MapStore S) (j k : Journal) → IsBehind store j → IsBehind store k
    → texts_of store j ≡ texts_of store k → j ≡ k
one_journal store j k first second e =
    let changes = ap (λ (t : Texts). t.changes) e in
    let past = (past_of store).changes in
    let own = append_cancel_left past (map step_entry j.steps) (map step_entry k.steps) changes in
    let map = first.first ∙ sym second.first in
    let steps = one_each step_entry IsTextedStep one_step j.steps k.steps first.steps second.steps own in
    λ i. record { first = map i; steps = steps i }
