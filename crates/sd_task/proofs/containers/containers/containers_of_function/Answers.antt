use Rattle.std.proofs.Common.{rules, ◌≡◌, List, [], map, ap, sym, subst, string_bytes}
use Rattle.sd_lex.specs.PlainTree.{FunctionTree}
use Rattle.sd_lex.specs.TreeFold.{block_of, function_of}
use Rattle.sd_graph.specs.TreeFold.{named_container}
use Rattle.sd_program.specs.Names.{Name}
use Rattle.sd_task.specs.in_force.SmallExtents.{HaveSmallExtents}
use Rattle.sd_task.specs.containers.Declarations.{Containers, containers_of_function}
use Rattle.sd_program.specs.DeclaredNames.{container_names}
use Rattle.sd_task.proofs.containers_lemmas.ExtentLemmas.{small_of_function}
use Rattle.sd_task.proofs.containers_lemmas.FunctionLemmas.{function_declared}
use Rattle.sd_task.proofs.containers.containers.containers_of_function.Goals as goal

pub returns-clause-containers : goal.returns-clause-containers
returns-clause-containers c =
    let symbols : List Name = map string_bytes c.args.symbols.now in
    let function : FunctionTree = function_of c.args.function.now in
    let declared : List Name = map string_bytes c.in_ok-set_of.field-0.keys in
    let before : Containers = map named_container c.in_ok-containers.containers.entries in
    let declared_is : declared ≡ container_names function = search rules in
    let before_is : before ≡ [] = search rules in
    function_declared symbols function _ declared before (map named_container c.declare_of_block.new.containers.entries) (map named_container c.declare_of_block-2.new.containers.entries) (block_of c.deref-2.result.now)
    (block_of c.deref-3.result.now) (search rules) declared_is before_is (ap block_of c.deref-2.ensures.value) (ap block_of c.deref-3.ensures.value) c.requires.different c.in_ok-declare_of_block.ensures
    c.in_ok-declare_of_block-2.ensures

pub returns-clause-small : goal.returns-clause-small
returns-clause-small c =
    let symbols : List Name = map string_bytes c.args.symbols.now in
    let function : FunctionTree = function_of c.args.function.now in
    let declared : List Name = map string_bytes c.in_ok-set_of.field-0.keys in
    let before : Containers = map named_container c.in_ok-containers.containers.entries in
    let after : Containers = map named_container c.declare_of_block-2.new.containers.entries in
    let declared_is : declared ≡ container_names function = search rules in
    let before_is : before ≡ [] = search rules in
    let same : after ≡ containers_of_function symbols function =
    function_declared symbols function _ declared before (map named_container c.declare_of_block.new.containers.entries) after (block_of c.deref-2.result.now) (block_of c.deref-3.result.now) (search rules) declared_is
    before_is (ap block_of c.deref-2.ensures.value) (ap block_of c.deref-3.ensures.value) c.requires.different c.in_ok-declare_of_block.ensures c.in_ok-declare_of_block-2.ensures in
    subst HaveSmallExtents (sym same) (small_of_function symbols function c.requires.small)
