use Rattle.std.proofs.Common.{rules, ◌≡◌, map, subst, string_bytes, false}
use Rattle.sd_num.specs.declared.width.Width.TheVariants.{W64}
use Rattle.sd_graph.specs.TreeFold.{named_container}
use Rattle.sd_graph.specs.TreeParts.{has_name}
use Rattle.sd_program.specs.Names.{Name}
use Rattle.sd_task.specs.containers.Declarations.{Containers, followed_by}
use Rattle.sd_task.proofs.containers_lemmas.ToComeLemmas.{one_declared}
use Rattle.sd_task.proofs.containers.containers.declare_written.Goals as goal

pub returns : goal.returns
returns c =
    let before : Containers = map named_container c.args.containers.now.entries in
    let after : Containers = map named_container c.declare.new.containers.entries in
    let same : string_bytes c.in_ok-from_str.field-0 ≡ c.args.name.now = search rules in
    one_declared (map string_bytes c.args.known.now.declared.keys) before after c.args.name.now (record { extents = c.args.extents.items; kind = c.args.kind; width = W64 })
    (subst (λ (name : Name). has_name before name ≡ false → after ≡ followed_by before name c.args.extents.items c.args.kind) same c.in_ok-declare.ensures)
