-- The extents of a program's containers name its size symbols alone.
use Rattle.std.proofs.Common.{◌≡◌, inl, inr, ℕ, zero, suc, ◌<◌, ◌≤◌, ℤ, List, [], ◌∷◌, ◌++◌, length, Some, Bool, true, false, cond, subst, sym, arith}
use Rattle.std.specs.List.{AllByRecursion}
use Rattle.sd_lex.specs.PlainTree.{StatementTree, argument_array, local_array, local_stream, map_scope, consume_scope, for_loop, while_loop, branch, Block, no_statement, and_statement, FunctionTree}
use Rattle.sd_lex.specs.StatementKind.{has_connector}
use Rattle.sd_range.specs.declared.affine.Affine.{Affine}
use Rattle.sd_graph.specs.PlainTree.{GraphTree}
use Rattle.sd_graph.specs.TreeParts.{containers_of}
use Rattle.sd_graph.specs.ContainerParts.{Containers, container_at}
use Rattle.sd_graph.specs.declared.container.Container.{Container}
use Rattle.sd_program.specs.Names.{Name, Named, in_force}
use Rattle.sd_program.specs.Place.{Place}
use Rattle.sd_program.specs.DeclaredNames.{container_names}
use Rattle.sd_task.specs.in_force.Names.{with_numbered}
use Rattle.sd_task.specs.containers.Declarations.{with_element, containers_with, containers_with_all}
use Rattle.sd_validity.specs.rules.GraphParts.{variables_of, symbols_in}
use Rattle.sd_validity.proofs.bound_places_lemmas.EachPlace.{all_joined}
use Rattle.sd_made.proofs.places_lemmas.Named.{InAffine, extents_named}
use Rattle.sd_made.proofs.places_lemmas.Held.{IsVariable, numbered}
use Rattle.sd_made.proofs.places_lemmas.Variables.{all_names_longer}
use Rattle.sd_made.proofs.places_lemmas.Made.{IsWhole}

module _ (P : ℕ → Type 0) (symbols : Named ℕ) (declared : List Name) (are : (name : Name) (variable : ℕ) → in_force symbols name ≡ Some variable → P variable) where
  abbrev pub AreNamed : Containers → Type 0
  AreNamed containers = AllByRecursion (λ entry. AllByRecursion (InAffine P) entry.1.extents) containers

  one_more : (containers : Containers) (entry : Name × Container) → AreNamed containers → AllByRecursion (InAffine P) entry.1.extents → AreNamed (containers ++ entry ∷ [])
  one_more containers entry all is = all_joined (λ entry. AllByRecursion (InAffine P) entry.1.extents) containers (entry ∷ []) all (is, tt)

  either_named : (is_task : Bool) (one other : Containers) → AreNamed one → AreNamed other → AreNamed (cond is_task one other)
  either_named true one other is others = is
  either_named false one other is others = others

  mutual
    statement_named : (statement : StatementTree) (in_scope : Bool) (before : Containers) → AreNamed before → AreNamed (containers_with symbols declared statement in_scope before)
    statement_named (argument_array line name bits extents) in_scope before all = one_more before _ all (extents_named P symbols are extents)
    statement_named (local_array line name extents bits) in_scope before all = one_more before _ all (extents_named P symbols are extents)
    statement_named (local_stream line name bits size) in_scope before all = one_more before _ all tt
    statement_named (map_scope line parameters ranges body) in_scope before all = block_named body true before all
    statement_named (consume_scope line stream size name element worker body) in_scope before all =
        let with : Containers = with_element declared before (has_connector body) element in
        let more : AreNamed with = one_more before _ all (tt, tt) in
        either_named (has_connector body) with (containers_with_all symbols declared body true with) more (block_named body true with more)
    statement_named (for_loop line name begin end step body) in_scope before all = block_named body in_scope before all
    statement_named (while_loop line when body) in_scope before all = block_named body in_scope before all
    statement_named (branch line when body other) in_scope before all =
        block_named other in_scope (containers_with_all symbols declared body in_scope before) (block_named body in_scope before all)
    statement_named statement in_scope before all = all

    pub block_named : (body : Block) (in_scope : Bool) (before : Containers) → AreNamed before → AreNamed (containers_with_all symbols declared body in_scope before)
    block_named no_statement in_scope before all = all
    block_named (and_statement first rest) in_scope before all = block_named rest in_scope (containers_with symbols declared first in_scope before) (statement_named first in_scope before all)

-- the size symbols are the first variables
symbol_below : (symbols : List Name) (bound : ℕ) → length symbols ≤ bound → (name : Name) (variable : ℕ) → in_force (with_numbered symbols 0 []) name ≡ Some variable → variable < bound
symbol_below symbols bound few name variable e = elim (numbered symbols 0 [] name variable e) [
  | inl within ↦ omega (arith, within.1, few)
  | inr earlier ↦ cc
]

module _ (Given : Place → StatementTree → Type 0) (Is : List Name → FunctionTree → Type 0) where
  -- of a whole graph with no more size symbols than so many
  pub whole_named : (tree : GraphTree) (bound : ℕ) → symbols_in tree ≤ bound → IsWhole Given Is tree →
      AllByRecursion (λ entry. AllByRecursion (InAffine (λ variable. variable < bound)) entry.1.extents) (containers_of tree)
  whole_named tree bound few (inl none) = subst (λ tree. AllByRecursion (λ entry. AllByRecursion (InAffine (λ variable. variable < bound)) entry.1.extents) (containers_of tree)) (sym none) tt
  whole_named tree bound few (inr is) =
      let known : Named ℕ = with_numbered is.symbols 0 [] in
      let declared : List Name = container_names is.function in
      let most : length is.symbols ≤ bound = subst (λ tree. symbols_in tree ≤ bound) is.made few in
      let below : (name : Name) (variable : ℕ) → in_force known name ≡ Some variable → variable < bound = symbol_below is.symbols bound most in
      subst (λ tree. AllByRecursion (λ entry. AllByRecursion (InAffine (λ variable. variable < bound)) entry.1.extents) (containers_of tree)) (sym is.made)
      (block_named (λ variable. variable < bound) known declared below is.function.body false (containers_with_all known declared is.function.arguments false [])
      (block_named (λ variable. variable < bound) known declared below is.function.arguments false [] tt))

-- so the extents of a container by its number
pub at_named : (P : ℕ → Type 0) (containers : Containers) (number : ℕ) → AllByRecursion (λ entry. AllByRecursion (InAffine P) entry.1.extents) containers → AllByRecursion (InAffine P) (container_at containers number).extents
at_named P [] number all = tt
at_named P (entry ∷ containers) zero all = all.0
at_named P (entry ∷ containers) (suc number) all = at_named P containers number all.1

-- what holds of fewer variables holds of more
terms_weaker : (P Q : ℕ → Type 0) → ((variable : ℕ) → P variable → Q variable) → (terms : List (ℕ × ℤ)) → AllByRecursion (λ (term : ℕ × ℤ). P term.0) terms → AllByRecursion (λ (term : ℕ × ℤ). Q term.0) terms
terms_weaker P Q so [] all = tt
terms_weaker P Q so (term ∷ terms) all = (so term.0 all.0, terms_weaker P Q so terms all.1)

pub weaker : (P Q : ℕ → Type 0) → ((variable : ℕ) → P variable → Q variable) → (extents : List Affine) → AllByRecursion (InAffine P) extents → AllByRecursion (InAffine Q) extents
weaker P Q so [] all = tt
weaker P Q so (extent ∷ extents) all = (terms_weaker P Q so extent.terms all.0, weaker P Q so extents all.1)

module _ (Given : Place → StatementTree → Type 0) (Is : List Name → FunctionTree → Type 0) where
  pub few_symbols : (tree : GraphTree) → IsWhole Given Is tree → symbols_in tree ≤ length (variables_of tree)
  few_symbols tree (inl none) = subst (λ tree. symbols_in tree ≤ length (variables_of tree)) (sym none) (omega arith)
  few_symbols tree (inr is) =
      subst (λ tree. symbols_in tree ≤ length (variables_of tree)) (sym is.made) (omega (arith, all_names_longer is.function.body is.symbols))

  -- the extents of each container name variables in force
  pub extents_in_force : (tree : GraphTree) (params loops : List ℕ) → IsWhole Given Is tree → (container : ℕ) → AllByRecursion (InAffine (IsVariable tree params loops)) (container_at (containers_of tree) container).extents
  extents_in_force tree params loops whole container =
      weaker (λ variable. variable < symbols_in tree) (IsVariable tree params loops) (λ variable below. (omega (arith, below, few_symbols tree whole), inl below))
      (container_at (containers_of tree) container).extents
      (at_named (λ variable. variable < symbols_in tree) (containers_of tree) container (whole_named Given Is tree (symbols_in tree) (omega arith) whole))
