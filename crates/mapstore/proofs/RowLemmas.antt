-- Rows that are read one more at a time.
use Rattle.std.proofs.Common.{◌≡◌, ◌∙◌, refl, ℕ, zero, suc, ◌+◌, ◌<◌, ◌++◌, List, [], ◌∷◌, length, get_or, take, map, sym, ap, subst, arith}
use Rattle.std.specs.List.{AllZip, Contains}
use Rattle.std.proofs.Math.Seq.{take-suc}
use Rattle.std.proofs.lemmas.List.{map-append}
use Rattle.replay.specs.declared.row.Row.{Row}
use Rattle.journalstore.specs.declared.reading.StoredText.{StoredText}
use Rattle.maptypes.specs.Incrementals.{Step}
use Rattle.mapparts.specs.declared.profile.Profile.{Profile}
use Rattle.mapparts.specs.declared.profile.Profile.TheVariants.{Plain, Stock}
use Rattle.journalstore.specs.Texts.{Entry, bare_text}
use Rattle.journalstore.specs.Read.{entry_read}
use Rattle.mapstore.specs.declared.error.OpenError.{OpenError}
use Rattle.mapstore.specs.declared.error.OpenError.TheVariants.{Store, Journal, NoProfile, LateEpoch}
use Rattle.mapstore.specs.JournalTexts.{word_of, change_text, row_text}
use Rattle.mapstore.specs.Openings.{IsRow, IsUnread}

-- one more at the end of both lists
zip_behind : {A B : Type 0} (R : A → B → Type 0) (xs : List A) (ys : List B) (x : A) (y : B) → AllZip R xs ys → R x y → AllZip R (xs ++ x ∷ []) (ys ++ y ∷ [])
zip_behind R [] [] x y zips last = (last, tt)
zip_behind R [] (b ∷ ys) x y zips last = absurd zips
zip_behind R (a ∷ xs) [] x y zips last = absurd zips
zip_behind R (a ∷ xs) (b ∷ ys) x y zips last = (zips.0, zip_behind R xs ys x y zips.1 last)

-- the rows so far are those of the first entries
abbrev pub AreRowsTo : List StoredText → ℕ → List Row → Type 0
AreRowsTo changes at rows = AllZip IsRow (map entry_read (take at changes)) rows

-- one row more
pub rows_more : (changes : List StoredText) (at : ℕ) (rows : List Row) (stored : StoredText) (row : Row) → at < length changes → stored ≡ get_or changes at stored
    → AreRowsTo changes at rows → IsRow (entry_read stored) row → AreRowsTo changes (at + 1) (rows ++ row ∷ [])
rows_more changes at rows stored row within is so_far here =
    let one : suc at ≡ at + 1 = omega arith in
    let next : take (at + 1) changes ≡ take at changes ++ stored ∷ [] = subst (λ n. take n changes ≡ take at changes ++ stored ∷ []) one (take-suc changes at stored within ∙ ap (λ s. take at changes ++ s ∷ []) (sym is)) in
    let more : map entry_read (take (at + 1) changes) ≡ map entry_read (take at changes) ++ entry_read stored ∷ [] = ap (map entry_read) next ∙ map-append entry_read (take at changes) (stored ∷ []) in
    subst (λ es. AllZip IsRow es (rows ++ row ∷ [])) (sym more) (zip_behind IsRow (map entry_read (take at changes)) rows (entry_read stored) row so_far here)

-- the entry at a place
entry_there : (changes : List StoredText) (at : ℕ) (stored : StoredText) → at < length changes → stored ≡ get_or changes at stored → Contains (map entry_read changes) (entry_read stored)
entry_there [] at stored within is = absurd (omega (arith, within))
entry_there (c ∷ changes) zero stored within is = (0, omega arith, ap entry_read (sym is))
entry_there (c ∷ changes) (suc at) stored within is =
    let rest = entry_there changes at stored (omega (arith, within)) is in
    (suc rest.0, omega (arith, rest.1), rest.2)

-- the only entry of a list
only_there : (only : Entry) (entry : Entry) → Contains (only ∷ []) entry → only ≡ entry
only_there only entry (zero, within, is) = is
only_there only entry (suc i, within, is) = absurd (omega (arith, within))

-- why one of the entries is not read
pub unread_there : (changes : List StoredText) (at : ℕ) (stored : StoredText) → at < length changes → stored ≡ get_or changes at stored → (e : OpenError) → IsUnread (entry_read stored ∷ []) e → IsUnread (map entry_read changes) e
unread_there changes at stored within is (Store e) unread = tt
unread_there changes at stored within is (Journal fault) unread = absurd unread
unread_there changes at stored within is (NoProfile epoch) (text, there, none) =
    (text, subst (Contains (map entry_read changes)) (only_there (entry_read stored) (epoch, text) there) (entry_there changes at stored within is), none)
unread_there changes at stored within is (LateEpoch epoch) unread = absurd unread

-- a text that begins with the word of a profile has no note
bare_word : (p : Profile) (json : List ℕ) → bare_text (word_of p ++ json) ≡ word_of p ++ json
unfolding bare_text
bare_word Plain json = refl
bare_word Stock json = refl

-- nor has that of an incremental
pub bare_row : (step : Step) → bare_text (row_text step) ≡ row_text step
bare_row step = bare_word step.change.profile (change_text step)
