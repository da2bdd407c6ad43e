use Rattle.sd_made_valid.proofs.tasks_lemmas.Tasks.{task_known}
use Rattle.sd_made_valid.proofs.tasks.laws.code_of_tasklets_names_what_is_there.Goals as goal

pub returns : goal.returns
returns c = task_known
