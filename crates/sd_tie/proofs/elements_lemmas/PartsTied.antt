-- The links of subsets are the parts that statements name; copies and reductions are the same work.
use Rattle.std.proofs.Common.{◌≡◌, ◌∙◌, ℕ, ℤ, pos, List, [], map, Option, Some, None, option_map, nat_abs, codes, refl, ap, sym}
use Rattle.std.specs.List.{zip}
use Rattle.sd_lex.specs.PlainTree.{Dimension, Memlet}
use Rattle.sd_lex.specs.declared.syntax.memlet.Lambda.{Lambda}
use Rattle.sd_range.specs.Points.{tuples}
use Rattle.sd_range.specs.Subset.{whole}
use Rattle.sd_work.specs.Leaf.{copy_of, reduction_of}
use Rattle.sd_work.specs.Residual.{leaf}
use Rattle.sd_graph.specs.PlainTree as plain
use Rattle.sd_graph.specs.Context.{Context, reference_at, link_elements, link_element, link_extents}
use Rattle.sd_graph.specs.Unfold.{target_place, unfold_kind}
use Rattle.sd_graph.specs.declared.link.Link.{Link}
use Rattle.sd_program.specs.Names.{Name, Named, in_force}
use Rattle.sd_program.specs.IsAffine.{IsAffine}
use Rattle.sd_program.specs.Bounds.{EachDimension}
use Rattle.sd_program.specs.Place.{Holder}
use Rattle.sd_task.specs.task.Table.{Table, container_number, extents_at}
use Rattle.sd_task.specs.task.Links as links
use Rattle.sd_task.specs.task.Links.{subset_link, memlet_link}
use Rattle.sd_says.specs.Held.{extents_of}
use Rattle.sd_says.specs.Setting.{Setting, held_by, place_at}
use Rattle.sd_says.specs.Parts.{Part, axes_in, connector_axes, axis_values, part_in, memlet_part, part_extents, part_elements, part_element, index_at}
use Rattle.sd_says.specs.Pieces as said
use Rattle.sd_says.specs.AsLeaves.{copy_statement, reduce_statement}
use Rattle.sd_tie.specs.elements.Tied.{held_at, Tied, AreNumbered}
use Rattle.sd_tie.proofs.elements_lemmas.LinkReads.{held_found}
use Rattle.sd_tie.proofs.elements_lemmas.Places.{axes_of, values_of_dims, extents_of_dims, index_of_dims, subset_tied, connector_tied}
use Rattle.sd_tie.proofs.elements_lemmas.Signs.{resolution_same}
use Rattle.sd_tie.proofs.elements_lemmas.Statements.{place_tied}

-- a link moves a part
pub record Moves (context : Context) (link : Link) (part : Part) : Type 0 where
  pub reach : context.reach link.memlet.container ≡ part.held.reach
  pub axes : axes_of context.values link.memlet.subset.dims ≡ part.axes

module _ (context : Context) (link : Link) (part : Part) (moves : Moves context link part) where
  pub elements_tied : link_elements context link ≡ part_elements part
  elements_tied =
      ap (λ lists. map (reference_at (context.reach link.memlet.container)) (tuples lists)) (values_of_dims context.values link.memlet.subset.dims)
      ∙ (λ i. map (reference_at (moves.reach i)) (tuples (map axis_values (moves.axes i))))

  pub extents_tied : link_extents context link ≡ part_extents part
  extents_tied = extents_of_dims context.values link.memlet.subset.dims ∙ ap (λ axes. part_extents (record { held = part.held; axes = axes })) moves.axes

  pub index_tied : (place : List ℤ) → link_element context link place ≡ part_element part place
  index_tied place =
      ap (reference_at (context.reach link.memlet.container)) (index_of_dims context.values link.memlet.subset.dims place)
      ∙ (λ i. reference_at (moves.reach i) (index_at (moves.axes i) place))

module _ (known : Named Holder) (table : Table) (setting : Setting) (context : Context) (tied : Tied table setting context) (are : AreNumbered known table.containers) where
  -- the extents of a container that is known
  values_known : (name : Name) (holder : Holder) → in_force known name ≡ Some holder → map pos (extents_of (held_at table context (container_number table name))) ≡ map pos (extents_of (held_by setting name))
  values_known name holder is = ap (λ held. map pos (extents_of held)) (sym (held_found known table setting context tied are name holder is))

  pub part_tied : (connector name : Name) (holder : Holder) → in_force known name ≡ Some holder → (dimensions : List Dimension) → EachDimension IsAffine dimensions →
      Moves context (subset_link table connector name dimensions) (part_in setting name dimensions)
  part_tied connector name holder is dimensions h =
      let number : ℕ = container_number table name in
      record {
        reach = ap (λ held. held.reach) (sym (held_found known table setting context tied are name holder is));
        axes = subset_tied context.values table.variables dimensions (extents_at table.all number) (extents_of (held_by setting name)) (tied.extents number ∙ values_known name holder is) h
            ∙ ap (λ names. axes_in names dimensions (extents_of (held_by setting name))) (sym tied.variables);
      }

  pub memlet_tied : (connector : Name) (memlet : Memlet) (holder : Holder) → in_force known memlet.name ≡ Some holder → EachDimension IsAffine memlet.dimensions →
      Moves context (memlet_link table connector memlet) (memlet_part setting memlet)
  memlet_tied connector memlet holder is h =
      let number : ℕ = container_number table memlet.name in
      let held : held_by setting memlet.name ≡ held_at table context number = held_found known table setting context tied are memlet.name holder is in
      record {
        reach = ap (λ held. held.reach) (sym held);
        axes = connector_tied context.values table.variables memlet.dimensions (extents_at table.all number) (extents_of (held_by setting memlet.name)) (tied.extents number ∙ values_known memlet.name holder is) h
            ∙ (λ i. connector_axes (sym tied.variables i) ((ap (λ held. held.unit) (sym held)) i) memlet.dimensions (extents_of (held_by setting memlet.name)));
      }

  pub copy_tied : (to : Name) (to_holder : Holder) → in_force known to ≡ Some to_holder → (to_dimensions : List Dimension) → EachDimension IsAffine to_dimensions →
      (from : Name) (from_holder : Holder) → in_force known from ≡ Some from_holder → (from_dimensions : List Dimension) → EachDimension IsAffine from_dimensions → (line : ℕ) →
      unfold_kind (plain.copy (subset_link table (codes "from") from from_dimensions) (subset_link table (codes "to") to to_dimensions)) line context
      ≡ leaf (place_at setting line) (copy_statement (part_in setting from from_dimensions) (part_in setting to to_dimensions))
  copy_tied to to_holder is_to to_dimensions h from from_holder is_from from_dimensions g line =
      let source : Moves context (subset_link table (codes "from") from from_dimensions) (part_in setting from from_dimensions) = part_tied (codes "from") from from_holder is_from from_dimensions g in
      let target : Moves context (subset_link table (codes "to") to to_dimensions) (part_in setting to to_dimensions) = part_tied (codes "to") to to_holder is_to to_dimensions h in
      (λ i. leaf (place_tied known table setting context tied are line i)
      (copy_of (zip (elements_tied context (subset_link table (codes "from") from from_dimensions) (part_in setting from from_dimensions) source i)
      (elements_tied context (subset_link table (codes "to") to to_dimensions) (part_in setting to to_dimensions) target i))))

  target_same : (axis : Option ℤ) (place : List ℤ) → target_place (option_map nat_abs axis) place ≡ said.target_place axis place
  target_same None place = refl
  target_same (Some axis) place = refl

  pub reduction_tied : (lambda : Lambda) (from : Name) (from_holder : Holder) → in_force known from ≡ Some from_holder → (to : Name) (to_holder : Holder) → in_force known to ≡ Some to_holder → (axis identity : Option ℤ) (line : ℕ) →
      unfold_kind (plain.reduction (links.resolution_of lambda) (option_map nat_abs axis) identity (subset_link table (codes "from") from []) (subset_link table (codes "to") to [])) line context
      ≡ leaf (place_at setting line) (reduce_statement lambda (part_in setting from []) (part_in setting to []) axis identity)
  reduction_tied lambda from from_holder is_from to to_holder is_to axis identity line =
      let from_link : Link = subset_link table (codes "from") from [] in
      let to_link : Link = subset_link table (codes "to") to [] in
      let source : Moves context from_link (part_in setting from []) = part_tied (codes "from") from from_holder is_from [] tt in
      let target : Moves context to_link (part_in setting to []) = part_tied (codes "to") to to_holder is_to [] tt in
      (λ i. leaf (place_tied known table setting context tied are line i)
      (reduction_of (resolution_same lambda i) identity (elements_tied context to_link (part_in setting to []) target i)
      (map (λ place. (
        index_tied context from_link (part_in setting from []) source place i,
        (ap (link_element context to_link) (target_same axis place) ∙ index_tied context to_link (part_in setting to []) target (said.target_place axis place)) i,
      ))
      (whole (extents_tied context from_link (part_in setting from []) source i)))))
