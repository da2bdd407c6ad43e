use Rattle.std.proofs.Common.{map, string_bytes}
use Rattle.sd_graph.specs.TreeFold.{named_container}
use Rattle.sd_task.specs.containers.Declarations.{names_in_use}
use Rattle.sd_task.proofs.containers_lemmas.MapLemmas.{free_of_ok}
use Rattle.sd_task.proofs.containers.fresh.fresh_name.Goals as goal

pub returns-then-is_in_use-clause-new : goal.returns-then-is_in_use-clause-new
returns-then-is_in_use-clause-new c =
    free_of_ok c.first_free.result (names_in_use (map string_bytes c.args.declared.now.keys) (map named_container c.args.containers.now.entries)) c.args.name.now c.first_free.ensures.few c.first_free.ensures.name
