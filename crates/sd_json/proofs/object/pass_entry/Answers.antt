use Rattle.sd_json.proofs.Walking.{made_of}
use Rattle.sd_json.proofs.object.pass_entry.Goals as goal

pub returns-clause-ok : goal.returns-clause-ok
returns-clause-ok c = let made = made_of _ _ _ _ c.in_ok-read_value.ensures.ok in (made.0, made.1)
