use Rattle.std.proofs.Common.{sym, subst}
use Rattle.sqlite.specs.State.{HasCleanDisk}
use Rattle.sqlite.specs.Files.{file_state, over_files}
use Rattle.journalstore.specs.Read.{texts_read}
use Rattle.journalstore.specs.Stores.{HoldsIn}
use Rattle.journalstore.proofs.StoreLemmas.{found_texts}
use Rattle.journalstore.proofs.opening.open.Goals as goal

pub returns-clause-holds : goal.returns-clause-holds
returns-clause-holds g c =
    let texts = texts_read c.in_ok-texts.texts in
    subst (λ h. HoldsIn over_files h texts) (sym c.new-conn.ensures) (c.in_ok-facts.ensures.holds texts (c.in_ok-texts.ensures.holds c.in_ok-conn.ensures.ready))

pub returns-clause-found : goal.returns-clause-found
returns-clause-found g c db t clean held stands =
    let last : HasCleanDisk (file_state c.read_facts.new.conn) = subst (λ h. HasCleanDisk (file_state h)) c.new-conn.ensures clean in
    let late : HasCleanDisk (file_state c.read.new.conn) = c.in_ok-facts.ensures.clean last in
    let early = c.in_ok-texts.ensures.clean late in
    let ready = c.in_ok-conn.ensures.ready in
    let holds = c.in_ok-texts.ensures.holds ready in
    found_texts (file_state c.in_ok-conn.conn) (file_state c.read.new.conn) db t (texts_read c.in_ok-texts.texts) (ready early).1 (c.in_ok-texts.ensures.same ready late)
    ((c.in_ok-conn.ensures.found early).holds db held) stands (holds.1 late (holds.0 late)).stands
