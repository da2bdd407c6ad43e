use Rattle.std.proofs.Common.{rules, ◌∙◌, map, refl, string_bytes, sym}
use Rattle.clap.specs.Words.{app_of, found_of, rows_of}
use Rattle.sd_words.specs.Arguments.{of_name, with_files}
use Rattle.sd_words.specs.Command.{command_of, kind_of}
use Rattle.sd_words.proofs.KindOfCall.{found_call}
use Rattle.sd_words.proofs.calls.other.Goals as goal

pub returns : goal.returns
returns c =
    let is = c.in_ok-with_files.ensures ∙ (λ i. of_name (c.requires.name i) (with_files (sym c.requires.alone i))) in
    found_call (kind_of (command_of c.args.command)) (app_of c.in_ok-with_files.field-0) (map string_bytes c.args.words.now) (rows_of (found_of c.in-Some.matches)) c.args.command
    c.with_files-2.result is refl (search rules) (search rules) c.with_files-2.ensures
