use Rattle.std.proofs.Common.{rules, ◌≡◌, Ok, Err}
use Rattle.sd_lex.specs.TreeFold.{program_of}
use Rattle.sd_source.specs.source.SourceReading.{reads}
use Rattle.sd_read.proofs.readable_lemmas.Fields.{well_formed, levels_of_program}
use Rattle.sd_read.proofs.told_lemmas.Told.{number_is, line_is}
use Rattle.sd_parse.proofs.source.parse.Goals as goal

-- what was read is well formed
pub returns-in-Ok-Ok-clause-well_formed : goal.returns-in-Ok-Ok-clause-well_formed
returns-in-Ok-Ok-clause-well_formed c =
    let read : reads c.args.text.now ≡ Ok (program_of c.in-Ok-Ok.program) = search rules in
    well_formed c.args.text.now (program_of c.in-Ok-Ok.program) read

-- and its expressions have few levels
pub returns-in-Ok-Ok-clause-levels : goal.returns-in-Ok-Ok-clause-levels
returns-in-Ok-Ok-clause-levels c =
    let read : reads c.args.text.now ≡ Ok (program_of c.in-Ok-Ok.program) = search rules in
    levels_of_program c.args.text.now (program_of c.in-Ok-Ok.program) read

-- an error has one of ten numbers
pub returns-in-Ok-Err-clause-number : goal.returns-in-Ok-Err-clause-number
returns-in-Ok-Err-clause-number c =
    let refused : reads c.args.text.now ≡ Err c.in-Ok-Err.field-0-0 = search rules in
    number_is c.args.text.now c.in-Ok-Err.field-0-0 refused

-- and a line of the text
pub returns-in-Ok-Err-clause-line : goal.returns-in-Ok-Err-clause-line
returns-in-Ok-Err-clause-line c =
    let refused : reads c.args.text.now ≡ Err c.in-Ok-Err.field-0-0 = search rules in
    line_is c.args.text.now c.in-Ok-Err.field-0-0 refused
