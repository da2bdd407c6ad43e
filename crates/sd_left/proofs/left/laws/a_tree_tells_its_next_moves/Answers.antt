use Rattle.sd_left.proofs.left_lemmas.Showing.{left-shows, body-shows-all, run-shows-all}
use Rattle.sd_left.proofs.left.laws.a_tree_tells_its_next_moves.Goals as goal

pub returns : goal.returns
returns c = record {
  finished = λ left kind line context right. (left-shows left right).over kind line context;
  moves = λ left kind line context memories right held. (left-shows left right).moves kind line context memories held;
  body_finished = λ body items context right. (body-shows-all body right).over items context;
  body_moves = λ body items context memories right held. (body-shows-all body right).moves items context memories held;
  run_finished = λ run tree reach around right. (run-shows-all run right).over tree reach around;
  run_moves = λ run tree reach around memories right held. (run-shows-all run right).moves tree reach around memories held;
}
