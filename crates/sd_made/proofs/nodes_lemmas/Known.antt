-- The names that are known stand for entries that have these names.
use Rattle.std.proofs.Common.{◌≡◌, ℕ, ◌+◌, List, [], ◌∷◌, Option, Some, Bool, true, false, cond, unwrap_or, bytes_eq, refl, sym, subst}
use Rattle.std.specs.List.{AllByRecursion}
use Rattle.std.proofs.lemmas.Slice.Eq.{bytes_eq-Decides}
use Rattle.sd_lex.specs.PlainTree.{StatementTree, argument_array, local_array, local_stream, for_loop, while_loop, branch, tasklet_branch, Block, no_statement, and_statement}
use Rattle.sd_program.specs.Names.{Name, Named, in_force}
use Rattle.sd_program.specs.Declared.{containers_in, containers_in_all}
use Rattle.sd_program.specs.Place as place_of
use Rattle.sd_program.specs.Place.{Holder, program, scope, Place, past, past_all, in_loop, EveryAt, EveryFrom}
use Rattle.sd_program.specs.Known.{StandsIn, IsPlaced}
use Rattle.sd_task.specs.task.Table.{Table, container_number}
use Rattle.sd_elab.specs.items.NamesBehind.{table_behind, table_behind_state, table_behind_all}
use Rattle.sd_made.proofs.elab_lemmas.ContainersMade.{holds_here}
use Rattle.sd_made.proofs.nodes_lemmas.Entries.{Entry, entry_of, entries_of, entries_in, all_first, all_second}

module _ (Is : Entry → Type 0) where
  -- each name that is known stands for the number of such an entry
  abbrev pub AreKnown : (known : Named Holder) → (numbers : Named ℕ) → Type 0
  AreKnown known numbers =
      (name : Name) (holder : Holder) → in_force known name ≡ Some holder → (container : ℕ) × ((in_force numbers name ≡ Some container) × Is (entry_of name holder container))

  pub none_known : AreKnown [] []
  none_known name holder e = cc

  known_first : (same : Bool) (name other : Name) (first holder : Holder) (known : Option Holder) (container : ℕ) (numbers : Option ℕ) → (same ≡ true → other ≡ name) → Is (entry_of name first container) →
      (known ≡ Some holder → (found : ℕ) × ((numbers ≡ Some found) × Is (entry_of other holder found))) → cond same (Some first) known ≡ Some holder →
      (found : ℕ) × ((cond same (Some container) numbers ≡ Some found) × Is (entry_of other holder found))
  known_first true name other first holder known container numbers is has others e =
      (container, (refl, subst (λ name. Is (entry_of name holder container)) (sym (is refl)) (subst (λ holder. Is (entry_of name holder container)) (inside first holder e) has)))
    where
      inside : (first holder : Holder) → Some first ≡ Some holder → first ≡ holder
      inside first holder e = cc
  known_first false name other first holder known container numbers is has others e = others e

  -- one more name
  pub one_more_known : (known : Named Holder) (numbers : Named ℕ) (name : Name) (holder : Holder) (container : ℕ) → Is (entry_of name holder container) → AreKnown known numbers →
      AreKnown ((name, holder) ∷ known) ((name, container) ∷ numbers)
  one_more_known known numbers name holder container has are other wanted e =
      known_first (bytes_eq other name) name other holder wanted (in_force known other) container (in_force numbers other) (bytes_eq-Decides other name).0 has (are other wanted) e

  -- behind a statement of a scope
  pub known_behind : (statement : StatementTree) (table : Table) (container : ℕ) (place : Place) → place.around ≡ scope → EveryAt IsPlaced place statement → AllByRecursion Is (entries_of statement container) →
      AreKnown place.containers table.containers → AreKnown (place_of.behind statement place.containers) (table_behind statement container table).containers
  known_behind (argument_array line name bits extents) table container place around placed has are =
      absurd (subst (λ kind. StandsIn kind (argument_array line name bits extents)) around (holds_here IsPlaced place (argument_array line name bits extents) placed))
  known_behind (local_array line name extents bits) table container place around placed has are = one_more_known place.containers table.containers name _ container has.0 are
  known_behind (local_stream line name bits size) table container place around placed has are = one_more_known place.containers table.containers name _ container has.0 are
  known_behind (for_loop line name begin end step body) table container place around placed has are =
      absurd (subst (λ kind. StandsIn kind (for_loop line name begin end step body)) around (holds_here IsPlaced place (for_loop line name begin end step body) placed))
  known_behind (while_loop line when body) table container place around placed has are =
      absurd (subst (λ kind. StandsIn kind (while_loop line when body)) around (holds_here IsPlaced place (while_loop line when body) placed))
  known_behind (branch line when body other) table container place around placed has are =
      absurd (subst (λ kind. StandsIn kind (branch line when body other)) around (holds_here IsPlaced place (branch line when body other) placed))
  known_behind (tasklet_branch line when body other) table container place around placed has are =
      absurd (subst (λ kind. StandsIn kind (tasklet_branch line when body other)) around (holds_here IsPlaced place (tasklet_branch line when body other) placed))
  known_behind statement table container place around placed has are = are

  -- behind a statement of a program
  mutual
    pub known_past : (statement : StatementTree) (table : Table) (container : ℕ) (place : Place) → place.around ≡ program → AllByRecursion Is (entries_of statement container) → EveryAt IsPlaced place statement →
        AreKnown place.containers table.containers → AreKnown (place_of.behind statement place.containers) (table_behind_state statement container table).containers
    known_past (argument_array line name bits extents) table container place around has placed are =
        absurd (subst (λ kind. StandsIn kind (argument_array line name bits extents)) around (holds_here IsPlaced place (argument_array line name bits extents) placed))
    known_past (local_array line name extents bits) table container place around has placed are = one_more_known place.containers table.containers name _ container has.0 are
    known_past (local_stream line name bits size) table container place around has placed are = one_more_known place.containers table.containers name _ container has.0 are
    known_past (for_loop line name begin end step body) table container place around has placed are = all_known_past body table container (in_loop place) around has placed.1 are
    known_past (while_loop line when body) table container place around has placed are = all_known_past body table container (in_loop place) around has placed.1 are
    known_past (branch line when body other) table container place around has placed are =
        let first : List Entry = entries_in body container in
        let second : List Entry = entries_in other (container + containers_in_all body) in
        all_known_past other (table_behind_all body container table) (container + containers_in_all body) (past_all body place) around (all_second Is first second has) placed.1.1
        (all_known_past body table container place around (all_first Is first second has) placed.1.0 are)
    known_past (tasklet_branch line when body other) table container place around has placed are =
        absurd (subst (λ kind. StandsIn kind (tasklet_branch line when body other)) around (holds_here IsPlaced place (tasklet_branch line when body other) placed))
    known_past statement table container place around has placed are = are

    pub all_known_past : (block : Block) (table : Table) (container : ℕ) (place : Place) → place.around ≡ program → AllByRecursion Is (entries_in block container) → EveryFrom IsPlaced place block →
        AreKnown place.containers table.containers → AreKnown (place_of.behind_all block place.containers) (table_behind_all block container table).containers
    all_known_past no_statement table container place around has placed are = are
    all_known_past (and_statement first rest) table container place around has placed are =
        let one : List Entry = entries_of first container in
        let others : List Entry = entries_in rest (container + containers_in first) in
        all_known_past rest (table_behind_state first container table) (container + containers_in first) (past first place) around (all_second Is one others has) placed.1
        (known_past first table container place around (all_first Is one others has) placed.0 are)

  -- the number of a name that is known, and its entry
  module _ (table : Table) (known : Named Holder) (are : AreKnown known table.containers) where
    pub entry_known : (name : Name) (holder : Holder) → in_force known name ≡ Some holder → Is (entry_of name holder (container_number table name))
    entry_known name holder e =
        let found : (container : ℕ) × ((in_force table.containers name ≡ Some container) × Is (entry_of name holder container)) = are name holder e in
        subst (λ (found : Option ℕ). Is (entry_of name holder (unwrap_or found 0))) (sym found.1.0) found.1.1
