use Rattle.sd_row.proofs.instance_lemmas.Matched.{found_so}
use Rattle.sd_rows.proofs.consume.elements.run_task_elements.Goals as goal

pub run_set_up-requires-clause-pool : goal.run_set_up-requires-clause-pool
run_set_up-requires-clause-pool c = found_so _ c.in_ok-setup.setup c.in-Some.setup c.in-Some.is c.in_ok-setup.ensures.pool c.args.line
