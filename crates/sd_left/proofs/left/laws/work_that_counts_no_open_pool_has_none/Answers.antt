use Rattle.sd_left.proofs.left_lemmas.Showing.{left-shows, bodies-show-all, body-shows-all, run-shows-all}
use Rattle.sd_left.proofs.left.laws.work_that_counts_no_open_pool_has_none.Goals as goal

pub returns : goal.returns
returns c = record {
  item = λ left kind line context right none. (left-shows left right).free kind line context none;
  points = λ bodies kind context right none. (bodies-show-all bodies right).free kind context none;
  active = λ bodies kind context right none. (bodies-show-all bodies right).active kind context none;
  body = λ body items context right none. (body-shows-all body right).free items context none;
  run = λ run tree reach around right none. (run-shows-all run right).free tree reach around none;
}
