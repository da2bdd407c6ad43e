use Rattle.std.proofs.Common.{rules, ◌≡◌, List, [], ◌∷◌, map, subst, string_bytes, pos}
use Rattle.sd_num.specs.declared.width.Width.TheVariants.{W64}
use Rattle.sd_range.specs.declared.affine.Affine.{Affine}
use Rattle.sd_graph.specs.TreeFold.{named_container}
use Rattle.sd_graph.specs.declared.container.ContainerKind.TheVariants.{Private}
use Rattle.sd_program.specs.Affines.{affine_number}
use Rattle.sd_program.specs.Names.{Name}
use Rattle.sd_task.specs.containers.Declarations.{Containers, followed_by, fresh_name, names_in_use}
use Rattle.sd_task.specs.containers.NamesToCome.{Declares}
use Rattle.sd_task.proofs.containers_lemmas.ToComeLemmas.{fresh_new, fresh_declared}
use Rattle.sd_task.proofs.containers.containers.declare_taken.Goals as goal

pub returns : goal.returns
returns c =
    let declared : List Name = map string_bytes c.args.known.now.declared.keys in
    let before : Containers = map named_container c.args.containers.now.entries in
    let after : Containers = map named_container c.declare.new.containers.entries in
    let name : Name = string_bytes c.in_ok-name.name in
    let one : c.in_ok-extents.extents.items ≡ affine_number (pos 1) ∷ [] = search rules in
    let named : name ≡ fresh_name (names_in_use declared before) c.args.name.now = c.in_ok-name.ensures.name in
    let grown : after ≡ followed_by before name c.in_ok-extents.extents.items Private = c.in_ok-declare.ensures (fresh_new declared before name c.in_ok-name.ensures.new) in
    subst (λ (extents : List Affine). Declares declared before [] (followed_by before (fresh_name (names_in_use declared before) c.args.name.now) extents Private) after) one
    (subst (λ (free : Name). Declares declared before [] (followed_by before free c.in_ok-extents.extents.items Private) after) named
    (fresh_declared declared before after name (record { extents = c.in_ok-extents.extents.items; kind = Private; width = W64 }) c.in_ok-name.ensures.new grown))
