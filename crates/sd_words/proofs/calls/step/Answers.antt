use Rattle.std.proofs.Common.{rules, map, refl, string_bytes}
use Rattle.clap.specs.Words.{app_of, found_of, rows_of}
use Rattle.sd_words.specs.Arguments.{stepping}
use Rattle.sd_words.proofs.KindOfCall.{found_call}
use Rattle.sd_words.proofs.calls.step.Goals as goal

pub returns : goal.returns
returns c =
    found_call stepping (app_of c.in_ok-step.field-0) (map string_bytes c.args.words.now) (rows_of (found_of c.in-Some.matches)) _
    c.with_files.result c.in_ok-step.ensures refl (search rules) (search rules) c.with_files.ensures
