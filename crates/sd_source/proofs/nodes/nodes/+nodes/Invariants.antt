use Rattle.std.proofs.Common.{◌≡◌, [], drop}
use Rattle.sd_lex.specs.TreeFold.{block_of}
use Rattle.sd_source.specs.nodes.Nodes.{with_nodes}
use Rattle.sd_source.specs.nodes.SourceItems.{items_of}
use Rattle.sd_source.proofs.nodes.nodes.+nodes.Given as goal

-- what is made so far with what is left
abbrev pub invariant-add_body-loop-statement : goal.invariant-add_body-loop-statement
invariant-add_body-loop-statement l = with_nodes l.own l.current l.nodes.items (items_of l.functions (block_of (drop l.statement-index l.body))) ≡ with_nodes l.own [] l.initial.nodes.items (items_of l.functions (block_of l.body))
