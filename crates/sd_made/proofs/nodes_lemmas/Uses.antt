-- What an item does to the container of an entry is what its statement does to the name of it.
use Rattle.std.proofs.Common.{◌≡◌, ◌∙◌, inl, inr, ℕ, suc, ◌≤◌, List, [], ◌∷◌, ◌++◌, length, nat_eq, Option, Some, None, false, ◌||◌, ◌&&◌, if◌then◌else◌, bytes_eq, refl, ap, sym, subst, arith}
use Rattle.std.specs.List.{AllByRecursion}
use Rattle.std.proofs.lemmas.List.Folds.{list_any-append}
use Rattle.sd_lex.specs.PlainTree.{Expression, number, named, element_at, one, two, choice, Dimension, StatementTree, input, output, Block, no_statement, and_statement}
use Rattle.sd_source.specs.nodes.Names.{is_among}
use Rattle.sd_source.specs.nodes.SourceItems.{Parameters, is_for, given, elements_in, connected_by, connected}
use Rattle.sd_source.specs.declared.nodes.access.Access.{Access}
use Rattle.sd_source.specs.declared.nodes.access.Access.TheVariants.{Read, Write}
use Rattle.sd_graph.specs.Mode.{Mode, joined_mode}
use Rattle.sd_graph.specs.Wiring.{Use, modes_on, link_uses, nested_uses}
use Rattle.sd_graph.specs.declared.container.Container.{Container}
use Rattle.sd_graph.specs.declared.link.Link.{Link}
use Rattle.sd_wire.specs.wiring.Mentioned.{has_access}
use Rattle.sd_program.specs.Names.{Name, Named, in_force}
use Rattle.sd_program.specs.IsAffine.{IsAffine}
use Rattle.sd_program.specs.Place.{Holder, of_dimensions, of_values, task, Place, past, EveryAt, EveryFrom}
use Rattle.sd_program.specs.Known.{IsPlaced, IsKnown, IsPart, IsTarget, KnowsElements}
use Rattle.sd_task.specs.task.Table.{Table, container_number}
use Rattle.sd_task.specs.task.Links.{element_link, subset_link}
use Rattle.sd_task.specs.task.ElementCode.{input_name, links_with}
use Rattle.sd_task.specs.tasklets.Item.{inputs_of, outputs_of}
use Rattle.sd_elab.specs.items.Items.{call_links}
use Rattle.sd_made.proofs.elab_lemmas.ContainersMade.{same_behind}
use Rattle.sd_made.proofs.nodes_lemmas.Entries.{Entry, entry_of, AreApart, same_tests}
use Rattle.sd_made.proofs.nodes_lemmas.Known.{AreKnown, entry_known}
use Rattle.sd_made.proofs.nodes_lemmas.Modes.{drawn_as, or_none, or_assoc, has_link, takes, DoAs, does_access, link_does, link_takes, given_one}

-- ---- names that are known

part_holder : (known : Named Holder) (name : Name) (dimensions : List Dimension) → IsPart known name dimensions → (holder : Holder) × (in_force known name ≡ Some holder)
part_holder known name [] part = (of_dimensions part.0, part.1)
part_holder known name (first ∷ rest) part = (of_dimensions (length (first ∷ rest)), part)

target_holder : (known : Named Holder) (name : Name) (dimensions : List Dimension) → IsTarget known name dimensions → (holder : Holder) × (in_force known name ≡ Some holder)
target_holder known name [] (inl array) = (of_dimensions array.0, array.1)
target_holder known name [] (inr stream) = (of_values, stream)
target_holder known name (first ∷ rest) target = (of_dimensions (length (first ∷ rest)), target)

module _ (Is : Entry → Type 0) (apart : (entry other : Entry) → Is entry → Is other → AreApart entry other) (table : Table) (entry : Entry) (is : Is entry) where
  module _ (known : Named Holder) (are : AreKnown Is known table.containers) where
    -- the number of a known name is that of the entry where it has this name
    pub named_same : (name : Name) → (holder : Holder) × (in_force known name ≡ Some holder) → nat_eq (container_number table name) entry.number ≡ bytes_eq entry.name name
    named_same name (holder, e) =
        let other : Entry = entry_of name holder (container_number table name) in
        same_tests other entry (apart other entry (entry_known Is table known are name holder e) is)

    pub part_same : (name : Name) (dimensions : List Dimension) → IsPart known name dimensions → nat_eq (container_number table name) entry.number ≡ bytes_eq entry.name name
    part_same name dimensions part = named_same name (part_holder known name dimensions part)

    pub target_same : (name : Name) (dimensions : List Dimension) → IsTarget known name dimensions → nat_eq (container_number table name) entry.number ≡ bytes_eq entry.name name
    target_same name dimensions target = named_same name (target_holder known name dimensions target)

    -- the elements of an expression
    pub elements_same : (links : List Link) (expression : Expression) → KnowsElements known expression →
        has_link (links_with table links expression) entry.number ≡ (has_link links entry.number || is_among (elements_in expression) entry.name)
    elements_same links (number value) knows = sym (or_none (has_link links entry.number))
    elements_same links (named name) knows = sym (or_none (has_link links entry.number))
    elements_same links (element_at name at) knows =
        list_any-append (λ link. nat_eq link.memlet.container entry.number) links (element_link table (input_name (length links)) name at None ∷ [])
        ∙ ap (λ same. has_link links entry.number || (same || false)) (named_same name (_, knows))
    elements_same links (one sign of) knows = elements_same links of knows
    elements_same links (two sign left right) knows =
        elements_same (links_with table links left) right knows.1
        ∙ ap (λ found. found || is_among (elements_in right) entry.name) (elements_same links left knows.0)
        ∙ or_assoc (has_link links entry.number) (is_among (elements_in left) entry.name) (is_among (elements_in right) entry.name)
        ∙ ap (λ found. has_link links entry.number || found) (sym (list_any-append (bytes_eq entry.name) (elements_in left) (elements_in right)))
    elements_same links (choice value when other) knows =
        elements_same (links_with table (links_with table links value) when) other knows.1.1
        ∙ ap (λ found. found || is_among (elements_in other) entry.name)
        (elements_same (links_with table links value) when knows.1.0 ∙ ap (λ found. found || is_among (elements_in when) entry.name) (elements_same links value knows.0))
        ∙ ap (λ found. found || is_among (elements_in other) entry.name) (or_assoc (has_link links entry.number) (is_among (elements_in value) entry.name) (is_among (elements_in when) entry.name))
        ∙ or_assoc (has_link links entry.number) (is_among (elements_in value) entry.name || is_among (elements_in when) entry.name) (is_among (elements_in other) entry.name)
        ∙ ap (λ found. has_link links entry.number || found)
        (or_assoc (is_among (elements_in value) entry.name) (is_among (elements_in when) entry.name) (is_among (elements_in other) entry.name)
        ∙ ap (λ found. is_among (elements_in value) entry.name || found) (sym (list_any-append (bytes_eq entry.name) (elements_in when) (elements_in other)))
        ∙ sym (list_any-append (bytes_eq entry.name) (elements_in value) (elements_in when ++ elements_in other)))

    -- a call
    module _ (access : Access) (inner : List Use) where
      pub call_same : (next : ℕ) (parameters : Parameters) (arguments : List (Name × List Dimension)) (containers : List (Name × Container)) → DoAs inner next parameters → length parameters ≡ length arguments →
          length arguments ≤ length containers → AllByRecursion (λ (argument : Name × List Dimension). IsPart known argument.0 argument.1) arguments →
          has_access (drawn_as access) (nested_uses inner next (call_links table arguments containers)) entry.number ≡ is_among (given access parameters arguments) entry.name
      call_same next [] [] containers does same fits parts = refl
      call_same next (parameter ∷ parameters) [] containers does same fits parts = refl
      call_same next [] (argument ∷ arguments) containers does same fits parts = absurd (omega (arith, same))
      call_same next (parameter ∷ parameters) (argument ∷ arguments) [] does same fits parts = absurd (omega (arith, fits))
      call_same next (parameter ∷ parameters) (argument ∷ arguments) (container ∷ containers) does same fits parts =
          let link : Link = subset_link table container.0 argument.0 argument.1 in
          let mode : Option Mode = joined_mode (modes_on next inner) in
          let first : has_access (drawn_as access) (link_uses link mode) entry.number ≡ is_among (if is_for access parameter then argument.0 ∷ [] else []) entry.name =
          link_does (drawn_as access) link mode entry.number
          ∙ (λ i. part_same argument.0 argument.1 parts.0 i && does_access access parameter mode does.0 i)
          ∙ sym (given_one (is_for access parameter) argument.0 entry.name) in
          list_any-append _ (link_uses link mode) (nested_uses inner (suc next) (call_links table arguments containers))
          ∙ (λ i. first i || call_same (suc next) parameters arguments containers does.1 (omega (arith, same)) (omega (arith, fits)) parts.1 i)
          ∙ sym (list_any-append (bytes_eq entry.name) (if is_for access parameter then argument.0 ∷ [] else []) (given access parameters arguments))

  -- ---- tasklets

  inputs_same : (body : Block) (place : Place) → place.around ≡ task → EveryFrom IsPlaced place body → EveryFrom IsKnown place body → AreKnown Is place.containers table.containers →
      has_link (inputs_of table body) entry.number ≡ is_among (connected Read body) entry.name
  inputs_same no_statement place around placed known are = refl
  inputs_same (and_statement first rest) place around placed known are =
      of_first first known.0 (inputs_same rest (past first place) around placed.1 known.1 (subst (λ containers. AreKnown Is containers table.containers) (sym (same_behind first place around placed.0)) are))
    where
      of_first : (first : StatementTree) → EveryAt IsKnown place first → has_link (inputs_of table rest) entry.number ≡ is_among (connected Read rest) entry.name →
          has_link (inputs_of table (and_statement first rest)) entry.number ≡ is_among (connected_by Read first ++ connected Read rest) entry.name
      of_first (input line connector memlet) known others = λ i. part_same place.containers are memlet.name memlet.dimensions known i || others i
      of_first statement known others = others

  outputs_same : (body : Block) (place : Place) → place.around ≡ task → EveryFrom IsPlaced place body → EveryFrom IsKnown place body → AreKnown Is place.containers table.containers →
      has_link (outputs_of table body) entry.number ≡ is_among (connected Write body) entry.name
  outputs_same no_statement place around placed known are = refl
  outputs_same (and_statement first rest) place around placed known are =
      of_first first known.0 (outputs_same rest (past first place) around placed.1 known.1 (subst (λ containers. AreKnown Is containers table.containers) (sym (same_behind first place around placed.0)) are))
    where
      of_first : (first : StatementTree) → EveryAt IsKnown place first → has_link (outputs_of table rest) entry.number ≡ is_among (connected Write rest) entry.name →
          has_link (outputs_of table (and_statement first rest)) entry.number ≡ is_among (connected_by Write first ++ connected Write rest) entry.name
      of_first (output line connector memlet) known others = λ i. target_same place.containers are memlet.name memlet.dimensions known i || others i
      of_first statement known others = others

  pub connected_same : (body : Block) (place : Place) → place.around ≡ task → EveryFrom IsPlaced place body → EveryFrom IsKnown place body → AreKnown Is place.containers table.containers →
      (has_link (inputs_of table body) entry.number ≡ is_among (connected Read body) entry.name) × (has_link (outputs_of table body) entry.number ≡ is_among (connected Write body) entry.name)
  connected_same body place around placed known are = (inputs_same body place around placed known are, outputs_same body place around placed known are)

-- what takes through the links of a nested graph
pub nested_takes : (inner : List Use) (next : ℕ) (parameters : Parameters) (table : Table) (arguments : List (Name × List Dimension)) (containers : List (Name × Container)) (container : ℕ) →
    DoAs inner next parameters → length parameters ≡ length arguments → takes (nested_uses inner next (call_links table arguments containers)) container ≡ false
nested_takes inner next parameters table [] containers container does same = refl
nested_takes inner next parameters table (argument ∷ arguments) [] container does same = refl
nested_takes inner next [] table (argument ∷ arguments) (other ∷ containers) container does same = absurd (omega (arith, same))
nested_takes inner next (parameter ∷ parameters) table (argument ∷ arguments) (other ∷ containers) container does same =
    list_any-append _ (link_uses (subset_link table other.0 argument.0 argument.1) (joined_mode (modes_on next inner))) (nested_uses inner (suc next) (call_links table arguments containers))
    ∙ (λ i. link_takes (subset_link table other.0 argument.0 argument.1) (joined_mode (modes_on next inner)) container does.0.1.1 i
    || nested_takes inner (suc next) parameters table arguments containers container does.1 (omega (arith, same)) i)

-- an affine expression has no element
pub affine_reads : (expression : Expression) (wanted : Name) → IsAffine expression → is_among (elements_in expression) wanted ≡ false
affine_reads (number value) wanted affine = refl
affine_reads (named name) wanted affine = refl
affine_reads (element_at name at) wanted affine = absurd affine
affine_reads (one sign of) wanted affine = affine_reads of wanted affine.1
affine_reads (two sign left right) wanted affine =
    list_any-append (bytes_eq wanted) (elements_in left) (elements_in right) ∙ (λ i. affine_reads left wanted affine.1.0 i || affine_reads right wanted affine.1.1 i)
affine_reads (choice value when other) wanted affine = absurd affine
