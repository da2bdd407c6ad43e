-- What a graph writes and pushes by its uses: what is written is written by an item, and what is pushed into or taken from is a stream.
use Rattle.std.specs.Bool.{⊤}
use Rattle.std.specs.List.{AllByRecursion, Contains, fold}
use Rattle.std.proofs.Common.{◌≡◌, inl, inr, ℕ, zero, suc, ◌+◌, ◌<◌, nat_eq, ℤ, List, [], ◌∷◌, ◌++◌, map, length, Bool, true, false, not, Option, Some, None, if◌then◌else◌, refl, subst, arith}
use Rattle.std.proofs.lemmas.Bool.{cases_Bool}
use Rattle.std.proofs.lemmas.List.Elements.{Contains-append_left, Contains-append_right}
use Rattle.sd_num.specs.declared.resolution.Resolution.{Resolution}
use Rattle.sd_num.specs.declared.resolution.Resolution.TheVariants.{Sum, Product, Min, Max, And, Or, Xor, Last}
use Rattle.sd_range.proofs.Members.{Contains-first, Contains-later}
use Rattle.sd_subset.proofs.boxes_lemmas.Named.{each_weaker}
use Rattle.sd_graph.specs.declared.link.Link.{Link}
use Rattle.sd_graph.specs.ContainerParts.{Containers, container_at, is_stream, is_argument}
use Rattle.sd_graph.specs.declared.container.ContainerKind.{ContainerKind}
use Rattle.sd_graph.specs.declared.container.ContainerKind.TheVariants.{Argument, Transient, Private, Stream, PrivateStream}
use Rattle.sd_graph.specs.InPlace.{KindHasStreamsInPlace, ItemsHaveStreamsInPlace, StatesHaveStreamsInPlace, ArgumentsComeFirst, IsKindLinked, AreItemsLinked, AreStatesLinked}
use Rattle.sd_graph.specs.Mode.{Mode, Read, Write, Resolve, Push, Take, do_conflict, mode_by, common_mode, joined_mode}
use Rattle.sd_graph.specs.PlainTree.{KindTree, task, map_scope, consume_scope, nested_graph, reduction, copy, ItemTrees, no_item, and_item, StateTrees, no_state, and_state, graph, GuardTree, ExitTree}
use Rattle.sd_graph.specs.Wiring.{Use, has_number, use_of, output_use, reduction_mode, outside, modes_on, link_uses, nested_uses, guard_uses, exit_uses, kind_uses, item_uses, state_uses}
use Rattle.sd_validity.specs.rules.Parts.{container_of}
use Rattle.sd_validity.specs.rules.NestedLinks.{written_through, written_by, written_in, written_in_states}
use Rattle.sd_safe.proofs.fit_lemmas.Members.{each-append, same_number, member-found}

abbrev pub IsStream : Containers → ℕ → Type 0
IsStream containers number = is_stream (container_at containers number).kind ≡ true

-- a container that is used so is written, or is a stream
abbrev pub IsSoundAs : (written : List ℕ) → Containers → (number : ℕ) → Mode → Type 0
IsSoundAs written containers number Read = ⊤
IsSoundAs written containers number Write = Contains written number
IsSoundAs written containers number (Resolve by) = Contains written number
IsSoundAs written containers number Push = IsStream containers number
IsSoundAs written containers number Take = IsStream containers number

abbrev pub IsSound : (written : List ℕ) → Containers → Use → Type 0
IsSound written containers use' = IsSoundAs written containers use'.container use'.mode

abbrev pub AreSound : (written : List ℕ) → Containers → List Use → Type 0
AreSound written containers uses = AllByRecursion (IsSound written containers) uses

-- ---- more that is written

more-as : (written others : List ℕ) (containers : Containers) (number : ℕ) (mode : Mode) → ((n : ℕ) → Contains written n → Contains others n) → IsSoundAs written containers number mode → IsSoundAs others containers number mode
more-as written others containers number Read more is = tt
more-as written others containers number Write more is = more number is
more-as written others containers number (Resolve by) more is = more number is
more-as written others containers number Push more is = is
more-as written others containers number Take more is = is

more-written : (written others : List ℕ) (containers : Containers) (uses : List Use) → ((n : ℕ) → Contains written n → Contains others n) → AreSound written containers uses → AreSound others containers uses
more-written written others containers uses more each =
    each_weaker (IsSound written containers) (IsSound others containers) (λ use'. more-as written others containers use'.container use'.mode more) uses each

two-parts : (written others : List ℕ) (containers : Containers) (uses rest : List Use) → AreSound written containers uses → AreSound others containers rest → AreSound (written ++ others) containers (uses ++ rest)
two-parts written others containers uses rest each other =
    each-append (IsSound (written ++ others) containers) uses rest
    (more-written written (written ++ others) containers uses (Contains-append_left written others) each)
    (more-written others (written ++ others) containers rest (Contains-append_right written others) other)

-- ---- links

reads-sound : (written : List ℕ) (containers : Containers) (links : List Link) → AreSound written containers (map (use_of Read) links)
reads-sound written containers [] = tt
reads-sound written containers (link ∷ links) = (tt, reads-sound written containers links)

-- what is written by a mode
by-sound : (written : List ℕ) (containers : Containers) (number : ℕ) (by : Option Resolution) → Contains written number → IsSoundAs written containers number (mode_by by)
by-sound written containers number None is = is
by-sound written containers number (Some Sum) is = is
by-sound written containers number (Some Product) is = is
by-sound written containers number (Some Min) is = is
by-sound written containers number (Some Max) is = is
by-sound written containers number (Some And) is = is
by-sound written containers number (Some Or) is = is
by-sound written containers number (Some Xor) is = is
by-sound written containers number (Some Last) is = is

output-as : (stream : Bool) (written : List ℕ) (containers : Containers) (link : Link) → is_stream (container_at containers link.memlet.container).kind ≡ stream → Contains written link.memlet.container →
    IsSoundAs written containers link.memlet.container (if stream then Push else mode_by link.memlet.resolution)
output-as true written containers link is member = is
output-as false written containers link is member = by-sound written containers link.memlet.container link.memlet.resolution member

outputs-sound : (containers : Containers) (links : List Link) → AreSound (map container_of links) containers (map (output_use containers) links)
outputs-sound containers [] = tt
outputs-sound containers (link ∷ links) =
    let all = container_of link ∷ map container_of links in (
      output-as (is_stream (container_at containers link.memlet.container).kind) all containers link refl (Contains-first (container_of link) (map container_of links)),
      more-written (map container_of links) all containers (map (output_use containers) links) (Contains-later (container_of link) (map container_of links)) (outputs-sound containers links),
    )

reduction-as : (containers : Containers) (number : ℕ) (resolution : Resolution) (identity : Option ℤ) → IsSoundAs (number ∷ []) containers number (reduction_mode resolution identity)
reduction-as containers number resolution None = by-sound (number ∷ []) containers number (Some resolution) (Contains-first number [])
reduction-as containers number resolution (Some identity) = Contains-first number []

guard-sound : (written : List ℕ) (containers : Containers) (when : Option GuardTree) → AreSound written containers (guard_uses when)
guard-sound written containers None = tt
guard-sound written containers (Some guard) = reads-sound written containers guard.reads

exits-sound : (written : List ℕ) (containers : Containers) (exits : List ExitTree) → AreSound written containers (exit_uses exits)
exits-sound written containers [] = tt
exits-sound written containers (exit ∷ exits) =
    each-append (IsSound written containers) (guard_uses exit.when) (exit_uses exits) (guard-sound written containers exit.when) (exits-sound written containers exits)

-- ---- containers of a scope alone aside

outside-sound : (own : List ℕ) (written : List ℕ) (containers : Containers) (uses : List Use) → AreSound written containers uses → AreSound written containers (outside own uses)
outside-sound own written containers [] each = tt
outside-sound own written containers (use' ∷ uses) each = elim (cases_Bool (not (has_number own use'.container))) [
  | inl stays ↦ rw stays (each.0, outside-sound own written containers uses each.1)
  | inr goes ↦ rw goes (outside-sound own written containers uses each.1)
]

-- ---- nested graphs

-- an argument is no stream
argument-array : (kind : ContainerKind) → is_argument kind ≡ true → is_stream kind ≡ true → ⊥
argument-array Argument is stream = cc
argument-array Transient is stream = cc
argument-array Private is stream = cc
argument-array Stream is stream = cc
argument-array PrivateStream is stream = cc

-- each of the first containers is an argument
pub argument-at : (arguments : ℕ) (containers : Containers) (number : ℕ) → ArgumentsComeFirst arguments containers → number < arguments → is_argument (container_at containers number).kind ≡ true
argument-at zero containers number first below = absurd (omega arith)
argument-at (suc arguments) [] number first below = absurd first
argument-at (suc arguments) (entry ∷ entries) zero first below = first.0
argument-at (suc arguments) (entry ∷ entries) (suc number) first below = argument-at arguments entries number first.1 (omega arith)

-- of arrays: what is used of a parameter is read, or written
abbrev pub IsReadOr : (written : Type 0) → Mode → Type 0
IsReadOr Written Read = ⊤
IsReadOr Written Write = Written
IsReadOr Written (Resolve by) = Written
IsReadOr Written Push = ⊥
IsReadOr Written Take = ⊥

pub array-as : (written : List ℕ) (containers : Containers) (number : ℕ) (mode : Mode) → is_argument (container_at containers number).kind ≡ true → IsSoundAs written containers number mode → IsReadOr (Contains written number) mode
array-as written containers number Read argument is = tt
array-as written containers number Write argument is = is
array-as written containers number (Resolve by) argument is = is
array-as written containers number Push argument is = argument-array (container_at containers number).kind argument is
array-as written containers number Take argument is = argument-array (container_at containers number).kind argument is

-- the modes on a parameter are such
modes-read_or : (written : List ℕ) (containers : Containers) (number : ℕ) (uses : List Use) → is_argument (container_at containers number).kind ≡ true → AreSound written containers uses →
    AllByRecursion (IsReadOr (Contains written number)) (modes_on number uses)
modes-read_or written containers number [] argument each = tt
modes-read_or written containers number (use' ∷ uses) argument each = elim (cases_Bool (nat_eq use'.container number)) [
  | inl same ↦ rw same (
    array-as written containers number use'.mode argument (subst (λ n. IsSoundAs written containers n use'.mode) (same_number use'.container number same) each.0),
    modes-read_or written containers number uses argument each.1,
  )
  | inr other ↦ rw other (modes-read_or written containers number uses argument each.1)
]

-- and so are they in one
common-read_or : (Written : Type 0) (mode other : Mode) (conflict : Bool) → do_conflict mode other ≡ conflict → IsReadOr Written mode → IsReadOr Written other → IsReadOr Written (if conflict then Write else mode)
common-read_or Written mode other false is first second = first
common-read_or Written Read Read true is first second = cc
common-read_or Written Read Write true is first second = second
common-read_or Written Read (Resolve by) true is first second = second
common-read_or Written Read Push true is first second = absurd second
common-read_or Written Read Take true is first second = absurd second
common-read_or Written Write other true is first second = first
common-read_or Written (Resolve by) other true is first second = first
common-read_or Written Push other true is first second = absurd first
common-read_or Written Take other true is first second = absurd first

folded-read_or : (Written : Type 0) (mode : Mode) (modes : List Mode) → IsReadOr Written mode → AllByRecursion (IsReadOr Written) modes → IsReadOr Written (fold common_mode mode modes)
folded-read_or Written mode [] first each = first
folded-read_or Written mode (other ∷ modes) first each =
    folded-read_or Written (common_mode mode other) modes (common-read_or Written mode other (do_conflict mode other) refl first each.0) each.1

-- what is read, or written by one of these, is sound
sound-read_or : (written : List ℕ) (containers : Containers) (number : ℕ) (Written : Type 0) (mode : Mode) → (Written → Contains written number) → IsReadOr Written mode → IsSoundAs written containers number mode
sound-read_or written containers number Written Read gives is = tt
sound-read_or written containers number Written Write gives is = gives is
sound-read_or written containers number Written (Resolve by) gives is = gives is
sound-read_or written containers number Written Push gives is = absurd is
sound-read_or written containers number Written Take gives is = absurd is

link-sound : (Written : Type 0) (written : List ℕ) (containers : Containers) (link : Link) (modes : List Mode) → (Written → Contains written (container_of link)) → AllByRecursion (IsReadOr Written) modes →
    AreSound written containers (link_uses link (joined_mode modes))
link-sound Written written containers link [] gives each = tt
link-sound Written written containers link (mode ∷ modes) gives each =
    (sound-read_or written containers (container_of link) Written (fold common_mode mode modes) gives (folded-read_or Written mode modes each.0 each.1), tt)

-- what is written through a link
through-own : (inner : List ℕ) (number : ℕ) (link : Link) (links : List Link) → Contains inner number → Contains (written_through inner number (link ∷ links)) (container_of link)
through-own inner number link links is =
    let found = member-found inner number is in
    rw found (Contains-append_left (container_of link ∷ []) (written_through inner (suc number) links) (container_of link) (Contains-first (container_of link) []))

nested-sound : (inner : List ℕ) (inside containers : Containers) (uses : List Use) (number : ℕ) (links : List Link) → ((k : ℕ) → k < number + length links → is_argument (container_at inside k).kind ≡ true) → AreSound inner inside uses →
    AreSound (written_through inner number links) containers (nested_uses uses number links)
nested-sound inner inside containers uses number [] arguments each = tt
nested-sound inner inside containers uses number (link ∷ links) arguments each =
    let all = written_through inner number (link ∷ links) in
    let own = if has_number inner number then container_of link ∷ [] else [] in
    each-append (IsSound all containers) (link_uses link (joined_mode (modes_on number uses))) (nested_uses uses (suc number) links)
    (link-sound (Contains inner number) all containers link (modes_on number uses) (through-own inner number link links)
    (modes-read_or inner inside number uses (arguments number (omega arith)) each))
    (more-written (written_through inner (suc number) links) all containers (nested_uses uses (suc number) links) (Contains-append_right own (written_through inner (suc number) links))
    (nested-sound inner inside containers uses (suc number) links (λ k below. arguments k (omega (arith, below))) each))

mutual
  kind-sound : (kind : KindTree) (containers : Containers) → KindHasStreamsInPlace kind containers → IsKindLinked kind → AreSound (written_by kind) containers (kind_uses kind containers)
  kind-sound (task code ins outs) containers streams linked =
      each-append (IsSound (map container_of outs) containers) (map (use_of Read) ins) (map (output_use containers) outs) (reads-sound (map container_of outs) containers ins) (outputs-sound containers outs)
  kind-sound (map_scope sequential params private body) containers streams linked =
      outside-sound private (written_in body) containers (item_uses body containers) (items-sound body containers streams linked)
  kind-sound (consume_scope stream element private body) containers streams linked =
      (streams.0, outside-sound (element ∷ private) (written_in body) containers (item_uses body containers) (items-sound body containers streams.1 linked))
  kind-sound (nested_graph (graph name inside arguments variables symbols states) links) containers streams linked =
      nested-sound (written_in_states states) inside containers (state_uses states inside) 0 links
      (λ k below. argument-at arguments inside k linked.1.0 (omega (arith, below, linked.0)))
      (states-sound states inside streams.1 linked.1.1)
  kind-sound (reduction resolution axis identity from to) containers streams linked = (tt, (reduction-as containers (container_of to) resolution identity, tt))
  kind-sound (copy from to) containers streams linked = (tt, (Contains-first (container_of to) [], tt))

  items-sound : (items : ItemTrees) (containers : Containers) → ItemsHaveStreamsInPlace items containers → AreItemsLinked items → AreSound (written_in items) containers (item_uses items containers)
  items-sound no_item containers streams linked = tt
  items-sound (and_item line kind items) containers streams linked =
      two-parts (written_by kind) (written_in items) containers (kind_uses kind containers) (item_uses items containers) (kind-sound kind containers streams.0 linked.0) (items-sound items containers streams.1 linked.1)

  pub states-sound : (states : StateTrees) (containers : Containers) → StatesHaveStreamsInPlace states containers → AreStatesLinked states → AreSound (written_in_states states) containers (state_uses states containers)
  states-sound no_state containers streams linked = tt
  states-sound (and_state items exits states) containers streams linked =
      two-parts (written_in items) (written_in_states states) containers (item_uses items containers) (exit_uses exits ++ state_uses states containers) (items-sound items containers streams.0 linked.0)
      (each-append (IsSound (written_in_states states) containers) (exit_uses exits) (state_uses states containers) (exits-sound (written_in_states states) containers exits) (states-sound states containers streams.2 linked.1))
