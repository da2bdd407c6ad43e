-- The names that are known stand for containers that have these names.
use Rattle.std.proofs.Common.{◌≡◌, ◌∙◌, ℕ, ◌+◌, List, [], ◌∷◌, ◌++◌, length, Option, Some, Bool, true, false, cond, bytes_eq, refl, ap, sym, subst, append_assoc}
use Rattle.std.proofs.Math.Seq.{get_or-append_seam}
use Rattle.std.proofs.lemmas.Slice.Eq.{bytes_eq-Decides}
use Rattle.sd_lex.specs.PlainTree.{StatementTree, argument_array, local_array, local_stream, for_loop, while_loop, branch, tasklet_branch, Block, no_statement, and_statement}
use Rattle.sd_graph.specs.ContainerParts.{Containers, no_container, name_at}
use Rattle.sd_graph.specs.declared.container.Container.{Container}
use Rattle.sd_program.specs.Names.{Name, Named, in_force}
use Rattle.sd_program.specs.Declared.{containers_in, containers_in_all}
use Rattle.sd_program.specs.Place as place_of
use Rattle.sd_program.specs.Place.{Holder, program, scope, task, signature, Place, past, past_all, in_loop, EveryAt, EveryFrom}
use Rattle.sd_program.specs.Known.{StandsIn, IsPlaced}
use Rattle.sd_task.specs.task.Table.{Table}
use Rattle.sd_elab.specs.items.NamesBehind.{table_behind, table_behind_state, table_behind_all}
use Rattle.sd_task.specs.containers.Declarations.{containers_with, containers_with_all}
use Rattle.sd_elab.specs.elab.Elaboration.{arguments_in_force}
use Rattle.sd_made.proofs.elab_lemmas.ContainersMade.{holds_here, Begins, first_begins, counted, all_made}

-- each name that is known stands for a container of that name
abbrev pub AreKnown : Containers → (known : Named Holder) → (numbers : Named ℕ) → Type 0
AreKnown all known numbers =
    (name : Name) (holder : Holder) → in_force known name ≡ Some holder → (container : ℕ) × ((in_force numbers name ≡ Some container) × (name_at all container ≡ name))

pub none_known : (all : Containers) → AreKnown all [] []
none_known all name holder e = cc

known_first : (all : Containers) (same : Bool) (name other : Name) (first holder : Holder) (known : Option Holder) (container : ℕ) (numbers : Option ℕ) → (same ≡ true → other ≡ name) → name_at all container ≡ name →
    (known ≡ Some holder → (found : ℕ) × ((numbers ≡ Some found) × (name_at all found ≡ other))) → cond same (Some first) known ≡ Some holder →
    (found : ℕ) × ((cond same (Some container) numbers ≡ Some found) × (name_at all found ≡ other))
known_first all true name other first holder known container numbers is named others e = (container, (refl, named ∙ sym (is refl)))
known_first all false name other first holder known container numbers is named others e = others e

-- one more name
pub one_more_known : (all : Containers) (known : Named Holder) (numbers : Named ℕ) (name : Name) (holder : Holder) (container : ℕ) → name_at all container ≡ name → AreKnown all known numbers →
    AreKnown all ((name, holder) ∷ known) ((name, container) ∷ numbers)
one_more_known all known numbers name holder container named are other wanted e =
    known_first all (bytes_eq other name) name other holder wanted (in_force known other) container (in_force numbers other) (bytes_eq-Decides other name).0 named (are other wanted) e

-- the name of one more container
named_at : (before : Containers) (entry : Name × Container) (all : Containers) → Begins (before ++ entry ∷ []) all → name_at all (length before) ≡ entry.0
named_at before entry all (rest, e) =
    subst (λ containers. name_at containers (length before) ≡ entry.0) (sym (append_assoc before (entry ∷ []) rest) ∙ e) (ap (λ found. found.0) (get_or-append_seam before entry rest no_container))

pub made_named : (before : Containers) (entry : Name × Container) (all : Containers) (number : ℕ) → length before ≡ number → Begins (before ++ entry ∷ []) all → name_at all number ≡ entry.0
made_named before entry all number e begins = subst (λ number. name_at all number ≡ entry.0) e (named_at before entry all begins)

module _ (symbols : Named ℕ) (declared : List Name) (all : Containers) where
  -- behind a statement of a scope
  pub known_behind : (statement : StatementTree) (table : Table) (container : ℕ) (place : Place) (before : Containers) → place.around ≡ scope → EveryAt IsPlaced place statement → length before ≡ container →
      Begins (containers_with symbols declared statement true before) all → AreKnown all place.containers table.containers →
      AreKnown all (place_of.behind statement place.containers) (table_behind statement container table).containers
  known_behind (argument_array line name bits extents) table container place before around placed e begins are =
      absurd (subst (λ kind. StandsIn kind (argument_array line name bits extents)) around (holds_here IsPlaced place (argument_array line name bits extents) placed))
  known_behind (local_array line name extents bits) table container place before around placed e begins are =
      one_more_known all place.containers table.containers name _ container (made_named before _ all container e begins) are
  known_behind (local_stream line name bits size) table container place before around placed e begins are =
      one_more_known all place.containers table.containers name _ container (made_named before _ all container e begins) are
  known_behind (for_loop line name begin end step body) table container place before around placed e begins are =
      absurd (subst (λ kind. StandsIn kind (for_loop line name begin end step body)) around (holds_here IsPlaced place (for_loop line name begin end step body) placed))
  known_behind (while_loop line when body) table container place before around placed e begins are =
      absurd (subst (λ kind. StandsIn kind (while_loop line when body)) around (holds_here IsPlaced place (while_loop line when body) placed))
  known_behind (branch line when body other) table container place before around placed e begins are =
      absurd (subst (λ kind. StandsIn kind (branch line when body other)) around (holds_here IsPlaced place (branch line when body other) placed))
  known_behind (tasklet_branch line when body other) table container place before around placed e begins are =
      absurd (subst (λ kind. StandsIn kind (tasklet_branch line when body other)) around (holds_here IsPlaced place (tasklet_branch line when body other) placed))
  known_behind statement table container place before around placed e begins are = are

  -- behind a statement of a program
  mutual
    pub known_past : (statement : StatementTree) (table : Table) (container : ℕ) (place : Place) (before : Containers) → place.around ≡ program → length before ≡ container →
        Begins (containers_with symbols declared statement false before) all → EveryAt IsPlaced place statement → AreKnown all place.containers table.containers →
        AreKnown all (place_of.behind statement place.containers) (table_behind_state statement container table).containers
    known_past (argument_array line name bits extents) table container place before around e begins placed are =
        absurd (subst (λ kind. StandsIn kind (argument_array line name bits extents)) around (holds_here IsPlaced place (argument_array line name bits extents) placed))
    known_past (local_array line name extents bits) table container place before around e begins placed are =
        one_more_known all place.containers table.containers name _ container (made_named before _ all container e begins) are
    known_past (local_stream line name bits size) table container place before around e begins placed are =
        one_more_known all place.containers table.containers name _ container (made_named before _ all container e begins) are
    known_past (for_loop line name begin end step body) table container place before around e begins placed are = all_known_past body table container (in_loop place) before around e begins placed.1 are
    known_past (while_loop line when body) table container place before around e begins placed are = all_known_past body table container (in_loop place) before around e begins placed.1 are
    known_past (branch line when body other) table container place before around e begins placed are =
        let middle : Containers = containers_with_all symbols declared body false before in
        all_known_past other (table_behind_all body container table) (container + containers_in_all body) (past_all body place) middle around
        (all_made symbols declared body false place before placed.1.0 ∙ ap (λ number. number + containers_in_all body) e) begins placed.1.1
        (all_known_past body table container place before around e (first_begins symbols declared other false middle all begins) placed.1.0 are)
    known_past (tasklet_branch line when body other) table container place before around e begins placed are =
        absurd (subst (λ kind. StandsIn kind (tasklet_branch line when body other)) around (holds_here IsPlaced place (tasklet_branch line when body other) placed))
    known_past statement table container place before around e begins placed are = are

    pub all_known_past : (block : Block) (table : Table) (container : ℕ) (place : Place) (before : Containers) → place.around ≡ program → length before ≡ container →
        Begins (containers_with_all symbols declared block false before) all → EveryFrom IsPlaced place block → AreKnown all place.containers table.containers →
        AreKnown all (place_of.behind_all block place.containers) (table_behind_all block container table).containers
    all_known_past no_statement table container place before around e begins placed are = are
    all_known_past (and_statement first rest) table container place before around e begins placed are =
        let middle : Containers = containers_with symbols declared first false before in
        all_known_past rest (table_behind_state first container table) (container + containers_in first) (past first place) middle around
        (counted symbols declared first false place before placed.0 ∙ ap (λ number. number + containers_in first) e) begins placed.1
        (known_past first table container place before around e (first_begins symbols declared rest false middle all begins) placed.0 are)

  -- the arguments of a program
  pub arguments_known : (arguments : Block) (numbers : Named ℕ) (next : ℕ) (place : Place) (before : Containers) → place.around ≡ signature → length before ≡ next →
      Begins (containers_with_all symbols declared arguments false before) all → EveryFrom IsPlaced place arguments → AreKnown all place.containers numbers →
      AreKnown all (place_of.behind_all arguments place.containers) (arguments_in_force arguments next numbers)
  arguments_known no_statement numbers next place before around e begins placed are = are
  arguments_known (and_statement (argument_array line name bits extents) rest) numbers next place before around e begins placed are =
      let first : StatementTree = argument_array line name bits extents in
      let middle : Containers = containers_with symbols declared first false before in
      arguments_known rest ((name, next) ∷ numbers) (next + 1) (past first place) middle around
      (counted symbols declared first false place before placed.0 ∙ ap (λ number. number + 1) e) begins placed.1
      (one_more_known all place.containers numbers name _ next (made_named before _ all next e (first_begins symbols declared rest false middle all begins)) are)
  arguments_known (and_statement statement rest) numbers next place before around e begins placed are =
      absurd (subst (λ kind. StandsIn kind statement) around (holds_here IsPlaced place statement placed.0))
