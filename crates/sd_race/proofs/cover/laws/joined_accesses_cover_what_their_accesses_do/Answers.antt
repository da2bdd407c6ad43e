use Rattle.sd_race.proofs.cover_lemmas.JoinedAccesses.{covered-joined}
use Rattle.sd_race.proofs.cover.laws.joined_accesses_cover_what_their_accesses_do.Goals as goal

pub returns : goal.returns
returns c = covered-joined
