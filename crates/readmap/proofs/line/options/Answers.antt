use Rattle.std.proofs.Common.{◌≡◌, map, string_bytes, true, refl}
use Rattle.clap.specs.Faults.{is_simple_and_free}
use Rattle.clap.specs.Matches.{found_of}
use Rattle.clap.specs.Simple.{app_of, is_simple}
use Rattle.clap.specs.Values.{kind_of}
use Rattle.clap.specs.Walk.{rows_of}
use Rattle.readmap.specs.CommandLine.{reader_app}
use Rattle.readmap.proofs.CommandLines.{taken_line, refused_line}
use Rattle.readmap.proofs.line.options.Goals as goal

-- the command is one whose matches and faults the parser's definitions give
app_simple : is_simple reader_app ≡ true
app_simple = refl

app_free : is_simple_and_free reader_app ≡ true
app_free = refl

pub returns-in_ok-options_in-in-Ok : goal.returns-in_ok-options_in-in-Ok
returns-in_ok-options_in-in-Ok c =
    taken_line reader_app (map string_bytes c.args.words.now) (app_of c.in_ok-command.field-0) (rows_of (found_of c.in-Ok.matches)) c.in_ok-options_in-in-Ok.field-0
    app_simple app_free c.in_ok-command.ensures (λ simple. (c.in-Ok.ensures.matches simple).0) c.in-Ok.ensures.kinds c.in_ok-options_in-in-Ok.ensures

pub returns-in-Err : goal.returns-in-Err
returns-in-Err c =
    refused_line reader_app (map string_bytes c.args.words.now) (app_of c.in_ok-command.field-0) (kind_of c.in-Err.error) c.line_error.result
    app_free c.in_ok-command.ensures c.in-Err.ensures.kinds c.line_error.ensures
