use Rattle.std.proofs.Common.{◌≡◌, ◌++◌, [], List, drop, map, string_bytes}
use Rattle.sd_lex.specs.TreeFold.{block_of}
use Rattle.sd_graph.specs.TreeFold.{named_container}
use Rattle.sd_program.specs.Bounds.{EachBound}
use Rattle.sd_program.specs.Every.{EveryIn}
use Rattle.sd_program.specs.Names.{Name}
use Rattle.sd_program.specs.Small.{IsSmall}
use Rattle.sd_task.specs.containers.Declarations.{containers_with_all}
use Rattle.sd_program.specs.DeclaredNames.{declared_names_all}
use Rattle.sd_task.specs.containers.NamesToCome.{AreToCome}
use Rattle.sd_task.proofs.containers.containers.+containers.Given as goal

abbrev pub invariant-declare_of_block-loop-statement : goal.invariant-declare_of_block-loop-statement
invariant-declare_of_block-loop-statement l =
    let declared = map string_bytes l.known.declared.keys in
    let before = map named_container l.initial.containers.entries in
    let containers = map named_container l.containers.entries in
    let left = block_of (drop l.statement-index l.body) in
    record {
      small : EveryIn (EachBound IsSmall) left;
      made : (later : List Name) → AreToCome declared before (declared_names_all (block_of l.body) [] ++ later) →
          (containers_with_all l.known.symbols declared left l.in_scope containers ≡ containers_with_all l.known.symbols declared (block_of l.body) l.in_scope before)
          × AreToCome declared containers (declared_names_all left [] ++ later);
    }
