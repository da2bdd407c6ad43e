use Rattle.std.proofs.Common.{rules, map, refl, string_bytes}
use Rattle.clap.specs.Words.{app_of, found_of, rows_of}
use Rattle.sd_words.specs.Arguments.{running}
use Rattle.sd_words.proofs.KindOfCall.{found_call}
use Rattle.sd_words.proofs.calls.run.Goals as goal

pub returns : goal.returns
returns c =
    found_call running (app_of c.in_ok-run.field-0) (map string_bytes c.args.words.now) (rows_of (found_of c.in-Some.matches)) _
    c.with_files.result c.in_ok-run.ensures refl (search rules) (search rules) c.with_files.ensures
