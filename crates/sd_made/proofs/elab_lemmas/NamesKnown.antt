-- Names that are known where they stand have numbers of containers that are in force.
use Rattle.std.proofs.Common.{◌≡◌, inl, inr, ℕ, List, [], ◌∷◌, ◌++◌, length, Option, Some, None, unwrap_or, Bool, true, false, cond, refl, sym, subst, bytes_eq}
use Rattle.std.specs.List.{AllByRecursion}
use Rattle.sd_lex.specs.PlainTree.{Expression, number, named, element_at, one, two, choice, Expressions, Dimension}
use Rattle.sd_lex.specs.declared.syntax.operator.TwoSign.TheVariants.{Add}
use Rattle.sd_num.specs.declared.resolution.Resolution.{Resolution}
use Rattle.sd_num.specs.declared.resolution.Resolution.TheVariants.{Sum}
use Rattle.sd_graph.specs.ContainerParts.{Containers}
use Rattle.sd_graph.specs.InForce.{IsInForce, AreLinksInForce, IsKindInForce}
use Rattle.sd_graph.specs.Wiring.{has_number}
use Rattle.sd_graph.specs.declared.link.Link.{Link}
use Rattle.sd_graph.specs.declared.container.Container.{Container}
use Rattle.sd_program.specs.Names.{Name, Named, in_force}
use Rattle.sd_program.specs.IsAffine.{IsAffine}
use Rattle.sd_program.specs.Place.{Holder, length_of}
use Rattle.sd_program.specs.Known.{IsArray, IsArrayOf, IsPart, IsTarget, KnowsElements}
use Rattle.sd_task.specs.task.Table.{Table, container_number}
use Rattle.sd_task.specs.task.Links.{element_link}
use Rattle.sd_task.specs.task.ElementCode.{input_name, links_with, assignment, element_task}
use Rattle.sd_elab.specs.items.Items.{call_links}

-- where a name of a container is in force, the number that it stands for is that of a container in force
abbrev pub AreKnown : Containers → (private : List ℕ) → (known : Named Holder) → (numbers : Named ℕ) → Type 0
AreKnown all private known numbers =
    (name : Name) (holder : Holder) → in_force known name ≡ Some holder → (container : ℕ) × (in_force numbers name ≡ Some container) × IsInForce all private container

pub none_known : (all : Containers) (private : List ℕ) → AreKnown all private [] []
none_known all private name holder e = cc

found_first : (all : Containers) (private : List ℕ) (same : Bool) (first holder : Holder) (known : Option Holder) (container : ℕ) (numbers : Option ℕ) → IsInForce all private container →
    (known ≡ Some holder → (found : ℕ) × (numbers ≡ Some found) × IsInForce all private found) → cond same (Some first) known ≡ Some holder →
    (found : ℕ) × (cond same (Some container) numbers ≡ Some found) × IsInForce all private found
found_first all private true first holder known container numbers force others e = (container, refl, force)
found_first all private false first holder known container numbers force others e = others e

-- one more name, of a container in force
pub one_more_known : (all : Containers) (private : List ℕ) (known : Named Holder) (numbers : Named ℕ) (name : Name) (holder : Holder) (container : ℕ) → IsInForce all private container →
    AreKnown all private known numbers → AreKnown all private ((name, holder) ∷ known) ((name, container) ∷ numbers)
one_more_known all private known numbers name holder container force are other wanted e =
    found_first all private (bytes_eq other name) holder wanted (in_force known other) container (in_force numbers other) force (are other wanted) e

either_in_force : (all : Containers) (inner outer : List ℕ) (container : ℕ) → ((container : ℕ) → has_number outer container ≡ true → has_number inner container ≡ true) →
    IsInForce all outer container → IsInForce all inner container
either_in_force all inner outer container more (there, inl whole) = (there, inl whole)
either_in_force all inner outer container more (there, inr inside) = (there, inr (more container inside))

-- so it is where more private containers are in force
pub known_inside : (all : Containers) (inner outer : List ℕ) (known : Named Holder) (numbers : Named ℕ) → ((container : ℕ) → has_number outer container ≡ true → has_number inner container ≡ true) →
    AreKnown all outer known numbers → AreKnown all inner known numbers
known_inside all inner outer known numbers more are name holder e =
    let found : (container : ℕ) × (in_force numbers name ≡ Some container) × IsInForce all outer container = are name holder e in
    (found.0, found.1, either_in_force all inner outer found.0 more found.2)

-- ---- an affine expression has no element

pub affine_knows : (known : Named Holder) (expression : Expression) → IsAffine expression → KnowsElements known expression
affine_knows known (number value) affine = tt
affine_knows known (named name) affine = tt
affine_knows known (element_at name at) affine = absurd affine
affine_knows known (one sign of) affine = affine_knows known of affine.1
affine_knows known (two sign left right) affine = (affine_knows known left affine.1.0, affine_knows known right affine.1.1)
affine_knows known (choice value when other) affine = absurd affine

-- ---- links

all_then : {A : Type 0} (P : A → Type 0) (members : List A) (member : A) → AllByRecursion P members → P member → AllByRecursion P (members ++ member ∷ [])
all_then P [] member all last = (last, tt)
all_then P (first ∷ members) member all last = (all.0, all_then P members member all.1 last)

module _ (all : Containers) (private : List ℕ) (known : Named Holder) (table : Table) (are : AreKnown all private known table.containers) where
  pub name_in_force : (name : Name) (holder : Holder) → in_force known name ≡ Some holder → IsInForce all private (container_number table name)
  name_in_force name holder e =
      let found : (container : ℕ) × (in_force table.containers name ≡ Some container) × IsInForce all private container = are name holder e in
      subst (λ found. IsInForce all private (unwrap_or found 0)) (sym found.1) found.2

  pub array_in_force : (name : Name) → IsArray known name → IsInForce all private (container_number table name)
  array_in_force name (count, e) = name_in_force name _ e

  pub part_in_force : (name : Name) (dimensions : List Dimension) → IsPart known name dimensions → IsInForce all private (container_number table name)
  part_in_force name [] part = array_in_force name part
  part_in_force name (first ∷ rest) part = name_in_force name _ part

  pub target_in_force : (name : Name) (dimensions : List Dimension) → IsTarget known name dimensions → IsInForce all private (container_number table name)
  target_in_force name [] (inl array) = array_in_force name array
  target_in_force name [] (inr stream) = name_in_force name _ stream
  target_in_force name (first ∷ rest) target = name_in_force name _ target

  -- of an expression's elements
  pub links_in_force : (links : List Link) (expression : Expression) → KnowsElements known expression → AreLinksInForce all private links →
      AreLinksInForce all private (links_with table links expression)
  links_in_force links (number value) knows force = force
  links_in_force links (named name) knows force = force
  links_in_force links (element_at name at) knows force =
      all_then (λ link. IsInForce all private link.memlet.container) links (element_link table (input_name (length links)) name at _) force (name_in_force name _ knows)
  links_in_force links (one sign of) knows force = links_in_force links of knows force
  links_in_force links (two sign left right) knows force =
      links_in_force (links_with table links left) right knows.1 (links_in_force links left knows.0 force)
  links_in_force links (choice value when other) knows force =
      links_in_force (links_with table (links_with table links value) when) other knows.1.1
      (links_in_force (links_with table links value) when knows.1.0 (links_in_force links value knows.0 force))

  assignment_in_force : (name : Name) (at : Expressions) (resolution : Option Resolution) (value : Expression) (count : ℕ) → IsArrayOf known name count → KnowsElements known value →
      IsKindInForce (assignment table name at resolution value) all private
  assignment_in_force name at resolution value count array knows = (links_in_force [] value knows tt, (name_in_force name _ array, tt))

  -- an element statement; `+=` may read its target
  pub element_in_force : (in_scope : Bool) (name : Name) (at : Expressions) (add : Bool) (value : Expression) → KnowsElements known (element_at name at) → KnowsElements known value →
      IsKindInForce (element_task table in_scope name at add value) all private
  element_in_force in_scope name at false value array knows = assignment_in_force name at None value (length_of at) array knows
  element_in_force true name at true value array knows = assignment_in_force name at (Some Sum) value (length_of at) array knows
  element_in_force false name at true value array knows = assignment_in_force name at None (two Add (element_at name at) value) (length_of at) array (array, knows)

  -- of a call
  pub call_in_force : (arguments : List (Name × List Dimension)) (parameters : List (Name × Container)) → AllByRecursion (λ argument. IsPart known argument.0 argument.1) arguments →
      AreLinksInForce all private (call_links table arguments parameters)
  call_in_force [] parameters parts = tt
  call_in_force (argument ∷ arguments) [] parts = tt
  call_in_force (argument ∷ arguments) (parameter ∷ parameters) parts =
      (part_in_force argument.0 argument.1 parts.0, call_in_force arguments parameters parts.1)
