use Rattle.std.proofs.Common.{rules, ◌≡◌, ◌∙◌, ◌+◌, ℕ, List, [], ◌∷◌, ◌++◌, drop, map, ap, sym, subst, string_bytes, option_map, pos, true, false, OnOk}
use Rattle.std.proofs.lemmas.List.{drop_more}
use Rattle.std.proofs.lemmas.Result.{on_ok_weaker}
use Rattle.sd_lex.specs.StatementKind.{has_connector}
use Rattle.sd_lex.specs.TreeFold.{block_of, statement_of, expression_of}
use Rattle.sd_range.specs.declared.affine.Affine.{Affine}
use Rattle.sd_graph.specs.declared.container.ContainerKind.TheVariants.{Private}
use Rattle.sd_program.specs.Affines.{affine_number}
use Rattle.sd_graph.specs.TreeFold.{named_container}
use Rattle.sd_program.specs.Bounds.{EachBound}
use Rattle.sd_program.specs.Every.{EveryIn}
use Rattle.sd_program.specs.Names.{Name}
use Rattle.sd_program.specs.Small.{IsSmall}
use Rattle.sd_task.specs.containers.Declarations.{Containers, containers_with, containers_with_all, followed_by, with_element}
use Rattle.sd_program.specs.DeclaredNames.{declared_names, declared_names_all}
use Rattle.sd_task.specs.containers.NamesToCome.{AreToCome, Declares}
use Rattle.sd_task.proofs.containers_lemmas.ToComeLemmas.{declares_more}
use Rattle.sd_task.proofs.containers_lemmas.ArmLemmas.{taken_arm, body_arm, if_arm}
use Rattle.sd_task.proofs.containers_lemmas.StatementTrees.{consume_tree, if_tree}
use Rattle.sd_task.proofs.containers.containers.+containers.Goals as goal

pub declare_of_block-loop-statement-preserved : goal.declare_of_block-loop-statement-preserved
declare_of_block-loop-statement-preserved t c =
    let body = c.args.body.now in
    let place : ℕ = c.loop-statement.statement-index in
    let item = c.statement-item.result in
    let rest = drop (place + 1) body in
    let symbols = c.args.known.now.symbols in
    let in_scope = c.args.in_scope in
    let declared : List Name = map string_bytes c.args.known.now.declared.keys in
    let before : Containers = map named_container c.args.containers.now.entries in
    let between : Containers = map named_container c.loop-statement.containers.entries in
    let after : Containers = map named_container c.declare_of_statement.new.containers.entries in
    let made : Containers = containers_with_all symbols declared (block_of body) in_scope before in
    let names : List Name = declared_names_all (block_of body) [] in
    let left : drop place body ≡ item ∷ rest = drop_more body place item (search rules) ∙ ap (λ first. first ∷ rest) (sym c.statement-item.is) in
    let small : EveryIn (EachBound IsSmall) (block_of (item ∷ rest)) = subst (λ l. EveryIn (EachBound IsSmall) (block_of l)) left c.loop-statement.invariant.small in
    record {
      small = small.1;
      made =
          declares_more declared before between after made names (declared_names (statement_of item) []) (block_of rest) (λ containers. containers_with_all symbols declared (block_of rest) in_scope containers)
          (λ containers. containers_with symbols declared (statement_of item) in_scope containers)
          (subst
          (λ l. (later : List Name) → AreToCome declared before (names ++ later) → (containers_with_all symbols declared (block_of l) in_scope between ≡ made) × AreToCome declared between (declared_names_all (block_of l) [] ++ later)) left
          c.loop-statement.invariant.made) c.in_ok-declare_of_statement.ensures;
    }

pub declare_of_statement-returns-then-has_connector : goal.declare_of_statement-returns-then-has_connector
declare_of_statement-returns-then-has_connector t c =
    let form = c.in-Consume in
    let declared : List Name = map string_bytes c.args.known.now.declared.keys in
    let before : Containers = map named_container c.args.containers.now.entries in
    let after : Containers = map named_container c.declare_taken.new.containers.entries in
    let is = ap statement_of form.is ∙ consume_tree form.line form.stream form.size form.name form.element form.worker form.body in
    let has : has_connector (block_of form.body.items) ≡ true =
    ap (λ l. has_connector (block_of l)) (sym c.deref-in-Consume.ensures.value) ∙ sym c.has_connector.ensures ∙ c.if-has_connector.true in
    on_ok_weaker c.declare_taken.result
    (taken_arm c.args.known.now.symbols declared c.args.in_scope before after (statement_of c.args.statement.now) form.line (string_bytes form.stream) form.size (string_bytes form.name) (string_bytes form.element)
    (option_map string_bytes form.worker) (block_of form.body.items) is has)
    (subst (λ (element : Name). OnOk c.declare_taken.result (Declares declared before [] (with_element declared before true element) after)) c.as_str-then-has_connector.ensures.value c.declare_taken.ensures)

pub declare_of_statement-returns-in_ok-declare_written-in-Consume : goal.declare_of_statement-returns-in_ok-declare_written-in-Consume
declare_of_statement-returns-in_ok-declare_written-in-Consume t c =
    let form = c.in-Consume in
    let symbols = c.args.known.now.symbols in
    let declared : List Name = map string_bytes c.args.known.now.declared.keys in
    let before : Containers = map named_container c.args.containers.now.entries in
    let between : Containers = map named_container c.declare_written-in-Consume.new.containers.entries in
    let after : Containers = map named_container c.declare_of_block.new.containers.entries in
    let is = ap statement_of form.is ∙ consume_tree form.line form.stream form.size form.name form.element form.worker form.body in
    let has : has_connector (block_of form.body.items) ≡ false =
    ap (λ l. has_connector (block_of l)) (sym c.deref-in-Consume.ensures.value) ∙ sym c.has_connector.ensures ∙ c.if-has_connector.false in
    let extents : c.in_ok-one-in-Consume.one.items ≡ affine_number (pos 1) ∷ [] = search rules in
    let written : Declares declared before (string_bytes form.element ∷ []) (followed_by before (string_bytes form.element) (affine_number (pos 1) ∷ []) Private) between =
    subst (λ (extents : List Affine). Declares declared before (string_bytes form.element ∷ []) (followed_by before (string_bytes form.element) extents Private) between) extents
    (subst (λ (element : Name). Declares declared before (element ∷ []) (followed_by before element c.in_ok-one-in-Consume.one.items Private) between) c.as_str-in-Consume.ensures.value
    c.in_ok-declare_written-in-Consume.ensures) in
    on_ok_weaker c.declare_of_block.result
    (body_arm symbols declared c.args.in_scope before after (statement_of c.args.statement.now) between form.line (string_bytes form.stream) form.size (string_bytes form.name) (string_bytes form.element)
    (option_map string_bytes form.worker) (block_of form.body.items) is has written)
    (subst (λ l. OnOk c.declare_of_block.result (Declares declared between (declared_names_all (block_of l) []) (containers_with_all symbols declared (block_of l) true between) after)) c.deref-in-Consume-2.ensures.value
    c.declare_of_block.ensures)

pub declare_of_statement-returns-in_ok-declare_of_block-in-If : goal.declare_of_statement-returns-in_ok-declare_of_block-in-If
declare_of_statement-returns-in_ok-declare_of_block-in-If t c =
    let form = c.in-If in
    let symbols = c.args.known.now.symbols in
    let in_scope = c.args.in_scope in
    let declared : List Name = map string_bytes c.args.known.now.declared.keys in
    let before : Containers = map named_container c.args.containers.now.entries in
    let between : Containers = map named_container c.declare_of_block-in-If.new.containers.entries in
    let after : Containers = map named_container c.declare_of_block-in-If-2.new.containers.entries in
    let is = ap statement_of form.is ∙ if_tree form.line form.when form.body form.other in
    let body : Declares declared before (declared_names_all (block_of form.body.items) []) (containers_with_all symbols declared (block_of form.body.items) in_scope before) between =
    subst (λ l. Declares declared before (declared_names_all (block_of l) []) (containers_with_all symbols declared (block_of l) in_scope before) between) c.deref-in-If.ensures.value c.in_ok-declare_of_block-in-If.ensures in
    on_ok_weaker c.declare_of_block-in-If-2.result
    (if_arm symbols declared in_scope before after (statement_of c.args.statement.now) between form.line (expression_of form.when) (block_of form.body.items) (block_of form.other.items) is body)
    (subst (λ l. OnOk c.declare_of_block-in-If-2.result (Declares declared between (declared_names_all (block_of l) []) (containers_with_all symbols declared (block_of l) in_scope between) after))
    c.deref-in-If-2.ensures.value c.declare_of_block-in-If-2.ensures)
