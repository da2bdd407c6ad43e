-- The names of a program's variables, and its arguments.
use Rattle.std.proofs.Common.{◌≡◌, ◌∙◌, ◌⊎◌, inl, inr, ℕ, zero, suc, ◌+◌, ◌<◌, ◌≤◌, ℤ, List, [], ◌∷◌, ◌++◌, length, true, false, refl, ap, sym, subst, arith, append_assoc, append-nil, length-append}
use Rattle.std.proofs.Math.Seq.{get_or-append_seam}
use Rattle.sd_num.specs.declared.width.Width.TheVariants.{W64}
use Rattle.sd_lex.specs.PlainTree.{StatementTree, argument_array, map_scope, consume_scope, for_loop, while_loop, branch, Block, no_statement, and_statement}
use Rattle.sd_graph.specs.ContainerParts.{container_at, name_at, is_argument}
use Rattle.sd_graph.specs.Context.{source_name}
use Rattle.sd_graph.specs.declared.container.Container.{Container}
use Rattle.sd_graph.specs.declared.container.ContainerKind.TheVariants.{Argument}
use Rattle.sd_task.specs.in_force.Ranges.{extents_of}
use Rattle.sd_valid.specs.SizedWork.{sized_containers}
use Rattle.sd_program.specs.Names.{Name, Named}
use Rattle.sd_program.specs.Declared.{containers_in, containers_in_all}
use Rattle.sd_program.specs.Place.{Place, signature, past, EveryFrom}
use Rattle.sd_program.specs.Known.{StandsIn, IsPlaced}
use Rattle.sd_task.specs.containers.Declarations.{Containers, variable_names, variable_names_all, containers_with, containers_with_all}
use Rattle.sd_made.proofs.elab_lemmas.ContainersMade.{holds_here, Begins, first_begins, made_at}
use Rattle.sd_tie.specs.items.Standing.{StandsAt, variables_named, variables_named_all, HasElements, HaveElements}

-- ---- variables

mutual
  names_behind : (statement : StatementTree) (names : List Name) → variable_names statement names ≡ names ++ variables_named statement
  names_behind (map_scope line parameters ranges body) names = all_names_behind body (names ++ parameters) ∙ append_assoc names parameters (variables_named_all body)
  names_behind (consume_scope line stream size name element worker body) names = all_names_behind body names
  names_behind (for_loop line name begin end step body) names = all_names_behind body (names ++ name ∷ []) ∙ append_assoc names (name ∷ []) (variables_named_all body)
  names_behind (while_loop line when body) names = all_names_behind body names
  names_behind (branch line when body other) names =
      ap (variable_names_all other) (all_names_behind body names) ∙ all_names_behind other (names ++ variables_named_all body) ∙ append_assoc names (variables_named_all body) (variables_named_all other)
  names_behind statement names = sym (append-nil names)

  pub all_names_behind : (block : Block) (names : List Name) → variable_names_all block names ≡ names ++ variables_named_all block
  all_names_behind no_statement names = sym (append-nil names)
  all_names_behind (and_statement first rest) names =
      ap (variable_names_all rest) (names_behind first names) ∙ all_names_behind rest (names ++ variables_named first) ∙ append_assoc names (variables_named first) (variables_named_all rest)

-- a part of a list stands at the number of what is before it
stands_there : (before part : List Name) → StandsAt [] (before ++ part) part (length before)
stands_there before [] = tt
stands_there before (name ∷ part) = (
  get_or-append_seam before name part [],
  subst (StandsAt [] (before ++ name ∷ part) part) (omega (arith, length-append before (name ∷ [])))
      (subst (λ whole. StandsAt [] whole part (length (before ++ name ∷ []))) (append_assoc before (name ∷ []) part) (stands_there (before ++ name ∷ []) part)),
)

pub names_stand : (block : Block) (names : List Name) → StandsAt [] (variable_names_all block names) (variables_named_all block) (length names)
names_stand block names = subst (λ whole. StandsAt [] whole (variables_named_all block) (length names)) (sym (all_names_behind block names)) (stands_there names (variables_named_all block))

pub names_counted : (block : Block) (names : List Name) → length (variable_names_all block names) ≡ length names + length (variables_named_all block)
names_counted block names = ap length (all_names_behind block names) ∙ length-append names (variables_named_all block)

-- ---- arguments

first_or_later : (number least : ℕ) → least ≤ number → (least ≡ number) ⊎ (least + 1 ≤ number)
first_or_later number least l = grind (arith, l)

-- each of the first containers is an argument
pub argument_there : (symbols : Named ℕ) (declared : List Name) (all : Containers) (arguments : Block) (place : Place) (before : Containers) (number : ℕ) → place.around ≡ signature → EveryFrom IsPlaced place arguments →
    Begins (containers_with_all symbols declared arguments false before) all → length before ≤ number → number < length before + containers_in_all arguments → is_argument (container_at all number).kind ≡ true
argument_there symbols declared all no_statement place before number around placed begins least most = absurd (omega (arith, least, most))
argument_there symbols declared all (and_statement (argument_array line name bits extents) rest) place before number around placed begins least most =
    let first : StatementTree = argument_array line name bits extents in
    let entry : Name × Container = (name, record { extents = extents_of symbols extents; kind = Argument; width = W64 }) in
    let middle : Containers = containers_with symbols declared first false before in
    elim (first_or_later number (length before) least) [
      | inl here ↦ subst (λ number. is_argument (container_at all number).kind ≡ true) here
          (ap (λ container. is_argument container.kind) (made_at before entry all (first_begins symbols declared rest false middle all begins)).1)
      | inr later ↦ argument_there symbols declared all rest (past first place) middle number around placed.1 begins
          (omega (arith, later, length-append before (entry ∷ []))) (omega (arith, most, length-append before (entry ∷ [])))
    ]
argument_there symbols declared all (and_statement statement rest) place before number around placed begins least most =
    absurd (subst (λ kind. StandsIn kind statement) around (holds_here IsPlaced place statement placed.0))

-- ---- names of containers with sizes

name_kept : (sizes : List ℤ) (containers : Containers) (number : ℕ) → name_at (sized_containers sizes containers) number ≡ name_at containers number
name_kept sizes [] number = refl
name_kept sizes (entry ∷ containers) zero = refl
name_kept sizes (entry ∷ containers) (suc number) = name_kept sizes containers number

mutual
  elements_kept : (sizes : List ℤ) (containers : Containers) (statement : StatementTree) (next : ℕ) → HasElements containers statement next → HasElements (sized_containers sizes containers) statement next
  elements_kept sizes containers (map_scope line parameters ranges body) next has = all_elements_kept sizes containers body next has
  elements_kept sizes containers (consume_scope line stream size name element worker body) next has =
      (ap source_name (name_kept sizes containers next) ∙ has.0, all_elements_kept sizes containers body (next + 1) has.1)
  elements_kept sizes containers (for_loop line name begin end step body) next has = all_elements_kept sizes containers body next has
  elements_kept sizes containers (while_loop line when body) next has = all_elements_kept sizes containers body next has
  elements_kept sizes containers (branch line when body other) next has = (all_elements_kept sizes containers body next has.0, all_elements_kept sizes containers other (next + containers_in_all body) has.1)
  elements_kept sizes containers statement next has = tt

  pub all_elements_kept : (sizes : List ℤ) (containers : Containers) (block : Block) (next : ℕ) → HaveElements containers block next → HaveElements (sized_containers sizes containers) block next
  all_elements_kept sizes containers no_statement next has = tt
  all_elements_kept sizes containers (and_statement first rest) next has = (elements_kept sizes containers first next has.0, all_elements_kept sizes containers rest (next + containers_in first) has.1)
