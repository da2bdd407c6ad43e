-- The links of a copy, a reduction and a call have the shapes that the program writes.
use Rattle.std.proofs.Common.{◌≡◌, ◌∙◌, ℕ, zero, suc, ◌≤◌, nat_eq, nat_abs, ℤ, List, [], ◌∷◌, map, length, Bool, true, false, not, Option, Some, option_map, unwrap_or, bytes_eq, codes, refl, ap, sym, subst, arith}
use Rattle.std.specs.Prelude.{⊤}
use Rattle.std.specs.List.{AllByRecursion}
use Rattle.std.proofs.lemmas.Slice.Eq.{bytes_eq-Decides}
use Rattle.sd_lex.specs.PlainTree.{Expression, Dimension, FunctionTree}
use Rattle.sd_range.specs.declared.affine.Affine.{Affine}
use Rattle.sd_graph.specs.ContainerParts.{Containers, name_at, container_at}
use Rattle.sd_graph.specs.declared.container.Container.{Container}
use Rattle.sd_names.specs.Extents.{or_one}
use Rattle.sd_uses.specs.ShapeMismatch.{left_over}
use Rattle.sd_program.specs.Names.{Name, Named, in_force}
use Rattle.sd_program.specs.Place.{Holder, of_dimensions}
use Rattle.sd_program.specs.Known.{IsPart}
use Rattle.sd_task.specs.in_force.Subsets.{whole}
use Rattle.sd_task.specs.in_force.Subsets as made
use Rattle.sd_task.specs.task.Table.{Table, container_number, extents_at}
use Rattle.sd_task.specs.task.Links.{subset_link}
use Rattle.sd_elab.specs.items.Items.{call_links}
use Rattle.sd_validity.specs.rules.Parts.{spans_of, link_spans}
use Rattle.sd_validity.specs.rules.Shapes.{are_extents_same, dim_extent, shape_of}
use Rattle.sd_validity.specs.rules.NestedLinks.{has_shape, have_shapes}
use Rattle.sd_validity.specs.rules.MovedShapes.{are_two_containers, is_copy_right, is_reduction_right}
use Rattle.sd_validity.specs.bound_shapes.NormalShapes.{IsNormalRange}
use Rattle.sd_made.proofs.shapes_lemmas.NormalForms.{AreNormal, link_normal}
use Rattle.sd_made_valid.specs.read_shapes.Fits.{AreExtents, values, subset_of, OfTwo, HasShape, HaveShapes}
use Rattle.sd_made_valid.proofs.fits_lemmas.Agreeing.{values_agree}
use Rattle.sd_made_valid.proofs.fits_lemmas.Spans.{AreMatched, IsFull, subset_matched, steps_same, extents_same, steps_one, lengths_of, shape_same, whole_reduced}
use Rattle.sd_made_valid.proofs.fits_lemmas.Tied.{Are}

-- the extents of a container by its number
extents_there : (containers : Containers) (number : ℕ) → extents_at containers number ≡ (container_at containers number).extents
extents_there [] number = refl
extents_there (entry ∷ containers) zero = refl
extents_there (entry ∷ containers) (suc number) = extents_there containers number

-- the parameters of a graph, from this number on, have these extents
abbrev pub HasParameters : (known : Named ℕ) → Containers → (number : ℕ) → List (List Expression) → Type 0
HasParameters known inner number [] = ⊤
HasParameters known inner number (extents ∷ rest) = ((container_at inner number).extents ≡ values known extents) × HasParameters known inner (suc number) rest

module _ (symbols : List Name) (arrays : Named (List Expression)) (above : List FunctionTree) (known : Named ℕ) (declared : List Name) (all : Containers) (normal : AreNormal all)
    (places : Named Holder) (table : Table) (are : Are symbols arrays above known declared all places table) where
  abbrev number_of : Name → ℕ
  number_of name = container_number table name

  abbrev variables : Named ℕ
  variables = table.variables

  -- a subset that is written has so many dimensions
  abbrev IsLong : List Dimension → (count : ℕ) → Type 0
  IsLong [] count = ⊤
  IsLong (dimension ∷ dimensions) count = length (dimension ∷ dimensions) ≡ count

  -- what is known of a part of an array with these extents
  record IsMade (name : Name) (dimensions : List Dimension) (extents : List Expression) : Type 0 where
    pub named : name_at all (number_of name) ≡ name
    pub there : extents_at table.all (number_of name) ≡ values variables extents
    pub full : IsFull variables dimensions (values variables extents)

  is_full : (dimensions : List Dimension) (extents : List Expression) (count : ℕ) → (1 ≤ count → length (values variables extents) ≡ count) → IsLong dimensions count → IsFull variables dimensions (values variables extents)
  is_full [] extents count counts long = tt
  is_full (dimension ∷ dimensions) extents count counts long = long ∙ sym (counts (omega (arith, long)))

  of_count : (name : Name) (dimensions : List Dimension) (extents : List Expression) → in_force arrays name ≡ Some extents → (count : ℕ) → in_force places name ≡ Some (of_dimensions count) → IsLong dimensions count → IsMade name dimensions extents
  of_count name dimensions extents is count e long =
      let found = are.1.1 name (of_dimensions count) e in
      let number : number_of name ≡ found.0 = ap (λ (found : Option ℕ). unwrap_or found 0) found.1.0 in
      let written = found.1.1.1.1 extents is in
      let same : values variables extents ≡ values known extents = values_agree symbols known variables are.1.0 extents written.0 in
      let there : (container_at all (number_of name)).extents ≡ values variables extents = ap (λ number. (container_at all number).extents) number ∙ written.1 ∙ sym same in
      record {
        named = ap (name_at all) number ∙ found.1.1.0;
        there = ap (λ containers. extents_at containers (number_of name)) are.0 ∙ extents_there all (number_of name) ∙ there;
        full = is_full dimensions extents count (λ least. ap length (same ∙ sym written.1) ∙ found.1.1.1.0 least) long;
      }

  part_made : (name : Name) (dimensions : List Dimension) (extents : List Expression) → IsPart places name dimensions → in_force arrays name ≡ Some extents → IsMade name dimensions extents
  part_made name [] extents part is = of_count name [] extents is part.0 part.1 tt
  part_made name (dimension ∷ dimensions) extents part is = of_count name (dimension ∷ dimensions) extents is (length (dimension ∷ dimensions)) part refl

  -- ---- parts

  matched : (name : Name) (connector : Name) (dimensions : List Dimension) (extents : List Expression) → IsMade name dimensions extents →
      AreMatched (subset_of variables (values variables extents) dimensions) (link_spans (subset_link table connector name dimensions))
  matched name connector dimensions extents made' =
      let ranges : List Affine → Type 0 = λ extents. AllByRecursion IsNormalRange (spans_of (made.subset_of variables dimensions extents)) in
      let ranges_normal : ranges (extents_at table.all (number_of name)) = link_normal table connector name dimensions (subst AreNormal (sym are.0) normal) in
      subst (λ others. AreMatched (subset_of variables (values variables extents) dimensions) (spans_of (made.subset_of variables dimensions others))) (sym made'.there)
      (subset_matched variables dimensions (values variables extents) made'.full (subst ranges made'.there ranges_normal))

  -- two names stand for two containers
  two_containers : (name other : Name) (same : Bool) → nat_eq (number_of name) (number_of other) ≡ same → name_at all (number_of name) ≡ name → name_at all (number_of other) ≡ other → bytes_eq name other ≡ false → not same ≡ true
  two_containers name other true e named named' differ =
      let number : number_of name ≡ number_of other = grind (arith, e) in
      let names : name ≡ other = sym named ∙ ap (name_at all) number ∙ named' in
      let is : true ≡ false = sym ((bytes_eq-Decides name other).1 names) ∙ differ in
      cc
  two_containers name other false e named named' differ = refl

  both : (name other : Name) → bytes_eq name other ≡ false → bytes_eq other name ≡ false
  both name other differ = by_test (bytes_eq other name) refl
    where
      by_test : (test : Bool) → bytes_eq other name ≡ test → test ≡ false
      by_test true same =
          let is : true ≡ false = sym ((bytes_eq-Decides name other).1 (sym ((bytes_eq-Decides other name).0 same))) ∙ differ in
          cc
      by_test false same = refl

  -- ---- copies

  pub copy_right : (to : Name) (to_dimensions : List Dimension) (from : Name) (from_dimensions : List Dimension) → IsPart places to to_dimensions → IsPart places from from_dimensions →
      OfTwo symbols arrays above to from (λ first second. (variables : Named ℕ) → subset_of variables (values variables first) to_dimensions ≡ subset_of variables (values variables second) from_dimensions) →
      is_copy_right (subset_link table (codes "from") from from_dimensions) (subset_link table (codes "to") to to_dimensions) ≡ true
  copy_right to to_dimensions from from_dimensions part_to part_from fit =
      let target = part_made to to_dimensions fit.1.0 part_to fit.1.1.1.0 in
      let origin = part_made from from_dimensions fit.1.1.0 part_from fit.1.1.1.1.0 in
      let stretches : List (Affine × ℤ) = subset_of variables (values variables fit.1.0) to_dimensions in
      let to_spans = link_spans (subset_link table (codes "to") to to_dimensions) in
      let from_spans = link_spans (subset_link table (codes "from") from from_dimensions) in
      let one : AreMatched stretches to_spans = matched to (codes "to") to_dimensions fit.1.0 target in
      let other : AreMatched stretches from_spans =
      subst (λ stretches. AreMatched stretches from_spans) (sym (fit.1.1.1.1.1 variables)) (matched from (codes "from") from_dimensions fit.1.1.0 origin) in
      let two : are_two_containers (subset_link table (codes "from") from from_dimensions) (subset_link table (codes "to") to to_dimensions) ≡ true =
      two_containers from to (nat_eq (number_of from) (number_of to)) refl origin.named target.named (both to from fit.0) in
      rw (two, steps_same stretches from_spans to_spans other one, extents_same stretches from_spans to_spans other one) refl

  -- ---- reductions

  pub reduction_right : (from to : Name) (axis : Option ℤ) → IsPart places from [] → IsPart places to [] →
      OfTwo symbols arrays above from to (λ first second. (variables : Named ℕ) → option_map or_one (left_over axis (values variables first)) ≡ Some (values variables second)) →
      is_reduction_right (option_map nat_abs axis) (subset_link table (codes "from") from []) (subset_link table (codes "to") to []) ≡ true
  reduction_right from to axis part_from part_to fit =
      let origin = part_made from [] fit.1.0 part_from fit.1.1.1.0 in
      let target = part_made to [] fit.1.1.0 part_to fit.1.1.1.1.0 in
      let from_extents : List Affine = extents_at table.all (number_of from) in
      let to_extents : List Affine = extents_at table.all (number_of to) in
      let left : option_map or_one (left_over axis from_extents) ≡ Some to_extents =
      ap (λ extents. option_map or_one (left_over axis extents)) origin.there ∙ fit.1.1.1.1.1 variables ∙ ap Some (sym target.there) in
      let right = whole_reduced axis from_extents to_extents left in
      let two : are_two_containers (subset_link table (codes "from") from []) (subset_link table (codes "to") to []) ≡ true =
      two_containers from to (nat_eq (number_of from) (number_of to)) refl origin.named target.named fit.0 in
      rw (two, right.0.0, right.0.1, right.1.0, right.1.1) refl

  -- ---- calls

  argument_right : (inner : Containers) (number : ℕ) (connector : Name) (argument : Name × List Dimension) (parameter : List Expression) → IsPart places argument.0 argument.1 → AreExtents symbols parameter → HasShape symbols arrays above argument parameter →
      (container_at inner number).extents ≡ values known parameter → has_shape inner number (subset_link table connector argument.0 argument.1) ≡ true
  argument_right inner number connector argument parameter part over shape made' =
      let passed = part_made argument.0 argument.1 shape.0 part shape.1.0 in
      let stretches : List (Affine × ℤ) = subset_of variables (values variables shape.0) argument.1 in
      let spans = link_spans (subset_link table connector argument.0 argument.1) in
      let one : AreMatched stretches spans = matched argument.0 connector argument.1 shape.0 passed in
      let extents : or_one (lengths_of stretches) ≡ (container_at inner number).extents = (shape.1.1 variables).1 ∙ values_agree symbols known variables are.1.0 parameter over ∙ sym made' in
      let same : are_extents_same (map dim_extent (container_at inner number).extents) (shape_of spans) ≡ true =
      subst (λ extents. are_extents_same (map dim_extent extents) (shape_of spans) ≡ true) extents (shape_same stretches spans one) in
      rw (steps_one stretches spans one (shape.1.1 variables).0, same) refl

  pub call_right : (inner : Containers) (number : ℕ) (arguments : List (Name × List Dimension)) (parameters : List (List Expression)) (connectors : List (Name × Container)) → AllByRecursion (λ (argument : Name × List Dimension). IsPart places argument.0 argument.1) arguments →
      HaveShapes symbols arrays above arguments parameters → HasParameters known inner number parameters → have_shapes inner number (call_links table arguments connectors) ≡ true
  call_right inner number [] parameters connectors parts shapes made' = refl
  call_right inner number (argument ∷ arguments) parameters [] parts shapes made' = refl
  call_right inner number (argument ∷ arguments) [] (connector ∷ connectors) parts shapes made' = absurd shapes
  call_right inner number (argument ∷ arguments) (parameter ∷ parameters) (connector ∷ connectors) parts shapes made' =
      rw (argument_right inner number connector.0 argument parameter parts.0 shapes.0.0 shapes.0.1 made'.0) (call_right inner (suc number) arguments parameters connectors parts.1 shapes.1 made'.1)
