use Rattle.std.proofs.Common.{◌≡◌, drop, map, string_bytes}
use Rattle.sd_lex.specs.TreeFold.{block_of}
use Rattle.sd_program.specs.DeclaredNames.{declared_names_all}
use Rattle.sd_task.proofs.containers.declared.+declared.Given as goal

abbrev pub invariant-push_of_block-loop-statement : goal.invariant-push_of_block-loop-statement
invariant-push_of_block-loop-statement l =
    declared_names_all (block_of (drop l.statement-index l.body)) (map string_bytes l.names.items) ≡ declared_names_all (block_of l.body) (map string_bytes l.initial.names.items)
