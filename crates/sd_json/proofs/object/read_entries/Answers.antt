use Rattle.std.proofs.Common.{◌∙◌}
use Rattle.sd_json.proofs.WholeText.{no_text, entries_of_text}
use Rattle.sd_json.proofs.object.read_entries.Goals as goal

pub returns-in_default : goal.returns-in_default
returns-in_default c = no_text c.args.bytes.now c.in_default.ensures.cases.0

pub returns-in-Ok-read_object : goal.returns-in-Ok-read_object
returns-in-Ok-read_object c =
    let found = c.in-Ok-read_object.ensures.ok in
    (found.0, entries_of_text c.args.bytes.now c.in-Ok.text.now c.in-Ok.ensures.cases.0 c.in-Ok.ensures.cases.1 ∙ found.1, found.2)
