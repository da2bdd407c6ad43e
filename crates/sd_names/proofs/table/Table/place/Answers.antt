use Rattle.std.proofs.Common.{rules}
use Rattle.sd_names.proofs.TableLemmas.{place_absent}
use Rattle.sd_names.proofs.table.Table.place.Goals as goal

-- the name has no index, so its place is the number of names
pub returns-in-None : goal.returns-in-None
returns-in-None g c = search (rules, place_absent)
