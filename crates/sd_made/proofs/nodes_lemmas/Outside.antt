-- Numbers outside of what a block declares, and what is read of one container and written to another one.
use Rattle.std.proofs.Common.{◌≡◌, ◌∙◌, ℕ, ◌+◌, ◌<◌, ◌≤◌, ℤ, List, [], ◌∷◌, nat_eq, Option, Some, None, Bool, true, false, cond, ◌&&◌, ◌||◌, bytes_eq, refl, arith}
use Rattle.sd_lex.specs.PlainTree.{StatementTree, local_array, local_stream, Block, no_statement, and_statement}
use Rattle.sd_num.specs.declared.resolution.Resolution.{Resolution}
use Rattle.sd_source.specs.nodes.Names.{is_among}
use Rattle.sd_source.specs.nodes.Nodes.{chosen}
use Rattle.sd_source.specs.declared.nodes.access.Access.{Access}
use Rattle.sd_source.specs.declared.nodes.access.Access.TheVariants.{Read, Write}
use Rattle.sd_graph.specs.Mode as modes
use Rattle.sd_graph.specs.Mode.{Mode}
use Rattle.sd_graph.specs.Wiring.{has_number, use_of, reduction_mode}
use Rattle.sd_graph.specs.declared.link.Link.{Link}
use Rattle.sd_wire.specs.declared.wiring.access.Access.TheVariants.{Reads, Writes}
use Rattle.sd_wire.specs.wiring.Mentioned.{is_of, has_access}
use Rattle.sd_program.specs.Names.{Name}
use Rattle.sd_program.specs.Declared.{containers_in, containers_in_all}
use Rattle.sd_program.specs.Place.{task, Place, past, EveryAt, EveryFrom}
use Rattle.sd_program.specs.Known.{IsPlaced}
use Rattle.sd_elab.specs.items.NamesBehind.{own_before, own_of}
use Rattle.sd_made.proofs.elab_lemmas.ContainersMade.{stands_in_task}
use Rattle.sd_made.proofs.counted_lemmas.Agreed.{AreCurrent}
use Rattle.sd_made.proofs.nodes_lemmas.Entries.{Entry, name_of, number_of}
use Rattle.sd_made.proofs.nodes_lemmas.Modes.{drawn_as, is_read, is_take, takes, written_mode}

pub chosen_among : (access : Access) (reads writes : List Name) (wanted : Name) → cond (is_read access) (is_among reads wanted) (is_among writes wanted) ≡ is_among (chosen access reads writes) wanted
chosen_among Read reads writes wanted = refl
chosen_among Write reads writes wanted = refl

-- no number outside of a block is one that it declares itself
outside_first : (statement : StatementTree) (container number : ℕ) (rest : List ℕ) → (container ≤ number → number < container + containers_in statement → ⊥) → has_number rest number ≡ false →
    has_number (own_before statement container rest) number ≡ false
outside_first (local_array line name extents bits) container number rest apart e = one_apart (nat_eq number container) refl
  where
    one_apart : (same : Bool) → nat_eq number container ≡ same → (same || has_number rest number) ≡ false
    one_apart true is =
        let here : number ≡ container = grind (arith, is) in
        absurd (apart (omega (arith, here)) (omega (arith, here)))
    one_apart false is = e
outside_first (local_stream line name bits size) container number rest apart e = one_apart (nat_eq number container) refl
  where
    one_apart : (same : Bool) → nat_eq number container ≡ same → (same || has_number rest number) ≡ false
    one_apart true is =
        let here : number ≡ container = grind (arith, is) in
        absurd (apart (omega (arith, here)) (omega (arith, here)))
    one_apart false is = e
outside_first statement container number rest apart e = e

pub outside_own : (body : Block) (container number : ℕ) → (container ≤ number → number < container + containers_in_all body → ⊥) → has_number (own_of body container) number ≡ false
outside_own no_statement container number apart = refl
outside_own (and_statement first rest) container number apart =
    outside_first first container number (own_of rest (container + containers_in first)) (λ least most. apart least (omega (arith, most)))
    (outside_own rest (container + containers_in first) number (λ least most. apart (omega (arith, least)) (omega (arith, most))))

pub outside_element : (body : Block) (container number : ℕ) → (container ≤ number → number < container + (1 + containers_in_all body) → ⊥) → has_number (container ∷ own_of body (container + 1)) number ≡ false
outside_element body container number apart = one_apart (nat_eq number container) refl
  where
    one_apart : (same : Bool) → nat_eq number container ≡ same → (same || has_number (own_of body (container + 1)) number) ≡ false
    one_apart true is =
        let here : number ≡ container = grind (arith, is) in
        absurd (apart (omega (arith, here)) (omega (arith, here)))
    one_apart false is = outside_own body (container + 1) number (λ least most. apart (omega (arith, least)) (omega (arith, most)))

pub other_container : (container count number : ℕ) → (container ≤ number → number < container + (1 + count) → ⊥) → nat_eq container number ≡ false
other_container container count number apart = one_apart (nat_eq container number) refl
  where
    one_apart : (same : Bool) → nat_eq container number ≡ same → same ≡ false
    one_apart true is =
        let here : container ≡ number = grind (arith, is) in
        absurd (apart (omega (arith, here)) (omega (arith, here)))
    one_apart false is = refl

-- a tasklet declares no container
task_first : (statement : StatementTree) (container : ℕ) (rest : List ℕ) (place : Place) → place.around ≡ task → EveryAt IsPlaced place statement → own_before statement container rest ≡ rest
task_first (local_array line name extents bits) container rest place around placed = absurd (stands_in_task place (local_array line name extents bits) around placed)
task_first (local_stream line name bits size) container rest place around placed = absurd (stands_in_task place (local_stream line name bits size) around placed)
task_first statement container rest place around placed = refl

pub task_own : (body : Block) (container : ℕ) (place : Place) → place.around ≡ task → EveryFrom IsPlaced place body → own_of body container ≡ []
task_own no_statement container place around placed = refl
task_own (and_statement first rest) container place around placed =
    task_first first container (own_of rest (container + containers_in first)) place around placed.0 ∙ task_own rest (container + containers_in first) (past first place) around placed.1

pub none_current : (level : List Entry) → AreCurrent name_of number_of level [] []
none_current [] = tt
none_current (entry ∷ level) = (refl, none_current level)

-- what is read of one container and written to another one
module _ (from to : Link) (mode : Mode) (is_written : (is_of Writes mode ≡ true) × ((is_of Reads mode ≡ false) × (is_take mode ≡ false))) (number : ℕ) where
  pub moved_does : (access : Access) (wanted source_name target_name : Name) → nat_eq from.memlet.container number ≡ bytes_eq wanted source_name → nat_eq to.memlet.container number ≡ bytes_eq wanted target_name →
      has_access (drawn_as access) (use_of modes.Read from ∷ use_of mode to ∷ []) number ≡ is_among (chosen access (source_name ∷ []) (target_name ∷ [])) wanted
  moved_does Read wanted source_name target_name e e' =
      (λ i. (e i && true) || ((nat_eq to.memlet.container number && is_written.1.0 i) || false)) ∙ by (bytes_eq wanted source_name) (nat_eq to.memlet.container number)
    where
      by : (first second : Bool) → ((first && true) || ((second && false) || false)) ≡ (first || false)
      by true second = refl
      by false true = refl
      by false false = refl
  moved_does Write wanted source_name target_name e e' =
      (λ i. (nat_eq from.memlet.container number && false) || ((e' i && is_written.0 i) || false)) ∙ by (nat_eq from.memlet.container number) (bytes_eq wanted target_name)
    where
      by : (first second : Bool) → ((first && false) || ((second && true) || false)) ≡ (second || false)
      by true true = refl
      by true false = refl
      by false true = refl
      by false false = refl

  pub moved_takes : takes (use_of modes.Read from ∷ use_of mode to ∷ []) number ≡ false
  moved_takes =
      (λ i. (nat_eq from.memlet.container number && false) || ((nat_eq to.memlet.container number && is_written.1.1 i) || false)) ∙ by (nat_eq from.memlet.container number) (nat_eq to.memlet.container number)
    where
      by : (first second : Bool) → ((first && false) || ((second && false) || false)) ≡ false
      by true true = refl
      by true false = refl
      by false true = refl
      by false false = refl

pub reduction_told : (resolution : Resolution) (identity : Option ℤ) →
    (is_of Writes (reduction_mode resolution identity) ≡ true) × ((is_of Reads (reduction_mode resolution identity) ≡ false) × (is_take (reduction_mode resolution identity) ≡ false))
reduction_told resolution None = written_mode (Some resolution)
reduction_told resolution (Some identity) = (refl, (refl, refl))
