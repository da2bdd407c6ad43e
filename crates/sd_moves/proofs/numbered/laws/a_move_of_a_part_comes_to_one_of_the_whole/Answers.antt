use Rattle.sd_moves.proofs.numbered_lemmas.Comes.{gone-mapped, gone-owned, step-gone}
use Rattle.sd_moves.proofs.numbered.laws.a_move_of_a_part_comes_to_one_of_the_whole.Goals as goal

pub returns : goal.returns
returns g c = record { mapped = gone-mapped; owned = gone-owned; stepped = step-gone }
