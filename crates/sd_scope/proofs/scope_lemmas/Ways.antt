-- Ways of the arguments of nested graphs.
use Rattle.std.proofs.Common.{◌≡◌, ℕ, zero, suc, ◌+◌, ◌<◌, ◌≤◌, ℤ, List, [], ◌∷◌, ◌++◌, map, length, drop, slice_get, slice_index_or, Option, Some, None, String, if◌then◌else◌, ap, sym, ◌∙◌, arith, ⊎_elim}
use Rattle.std.proofs.Common.{Result, Ok, Err, IfOk, Bool, true, subst}
use Rattle.std.proofs.lemmas.List.{length_push, length-map, length-drop, get_or_past}
use Rattle.std.proofs.lemmas.Bool.{cases_lt}
use Rattle.std.specs.declared.alloc.Global.{Global}
use Rattle.sd_list.specs.declared.list.memory.NoMemory.{NoMemory}
use Rattle.sd_mem.specs.declared.machine.address.Station.{Station}
use Rattle.sd_range.specs.declared.subset.Subset.{Subset}
use Rattle.sd_range.specs.Subset.{inside}
use Rattle.sd_graph.specs.declared.container.Container.{Container}
use Rattle.sd_graph.specs.TreeFold.{named_container}
use Rattle.sd_graph.specs.declared.link.Link.{Link}
use Rattle.sd_graph.specs.ContainerParts.{Containers, container_at, extents_of, is_argument, no_container}
use Rattle.sd_graph.specs.Context.{Reach, Context, own_reach, raised, view, index_at}
use Rattle.sd_graph.specs.Unfold.{reach_inside, reach_through}
use Rattle.sd_scope.specs.declared.scope.base.View.{View}
use Rattle.sd_scope.specs.declared.scope.base.Way.{Way}
use Rattle.sd_scope.specs.scope.Standing.{found_through, reach_by}

-- a way behind a view is that view of what is outside
pub way_reaches : (inner : Containers) (number : ℕ) (container : Container) (subset : Subset) (values : List ℤ) (outer : Reach) (level target : ℕ) (others : List View) (extents : List ℕ) →
    level ≡ outer.level → target ≡ outer.container → outer.find ≡ found_through others extents →
    reach_by 0 inner number (Some (record {
      station = record { level = level + 1; container = target };
      views = record { extents = extents_of container; subset = subset; values = values } ∷ others;
      extents = extents;
    })) ≡ raised (view container subset values outer)
way_reaches inner number container subset values outer level target others extents same_level same_container found =
    let higher : level + 1 + 0 ≡ suc outer.level = omega (arith, same_level) in
    λ i. record {
      level = higher i;
      container = same_container i;
      find = λ index. if inside (extents_of container) index then sym found i (index_at subset.dims values index) else None;
    }

-- the same of a way that was made so
pub way_made_reaches : (made : Result Way NoMemory) (container : Container) (subset : Subset) (values : List ℤ) (outer : Reach) (outside : Station) (first : View) (others : List View) (extents : List ℕ) →
    IfOk made (λ way. way ≡ record { station = record { level = outside.level + 1; container = outside.container }; views = first ∷ others; extents = extents }) →
    first ≡ record { extents = extents_of container; subset = subset; values = values } →
    outside.level ≡ outer.level → outside.container ≡ outer.container → outer.find ≡ found_through others extents →
    IfOk made (λ way. (inner : Containers) (number : ℕ) → reach_by 0 inner number (Some way) ≡ raised (view container subset values outer))
way_made_reaches (Ok way) container subset values outer outside first others extents is viewed level target found = λ inner number.
    ap (λ (one : Way). reach_by 0 inner number (Some one)) is
    ∙ ap (λ (view : View). reach_by 0 inner number (Some (record { station = record { level = outside.level + 1; container = outside.container }; views = view ∷ others; extents = extents }))) viewed
    ∙ way_reaches inner number container subset values outer outside.level outside.container others extents level target found
way_made_reaches (Err error) container subset values outer outside first others extents is viewed level target found = tt

-- an argument is reached through its link
pub argument_inside : (context : Context) (links : List Link) (inner : Containers) (number : ℕ) (container : Container) (link : Link) →
    container_at inner number ≡ container → is_argument container.kind ≡ true → slice_get links number ≡ Some link →
    reach_inside context links inner number ≡ raised (view container link.memlet.subset context.values (context.reach link.memlet.container))
argument_inside context links inner number container link same kind linked =
    ap (λ (one : Container). if is_argument one.kind then reach_through context (slice_get links number) inner number else own_reach inner number) same
    ∙ ap (λ (test : Bool). if test then reach_through context (slice_get links number) inner number else own_reach inner number) kind
    ∙ ap (λ (one : Option Link). reach_through context one inner number) linked
    ∙ ap (λ (one : Container). raised (view one link.memlet.subset context.values (context.reach link.memlet.container))) same

-- a number that no container has is reached as one of the graph's own
unreached : (context : Context) (links : List Link) (inner : Containers) (number : ℕ) → container_at inner number ≡ no_container.1 → reach_inside context links inner number ≡ own_reach inner number
unreached context links inner number none =
    ap (λ (one : Container). if is_argument one.kind then reach_through context (slice_get links number) inner number else own_reach inner number) none

-- what is left of a list, one member further on
pub rest_next : {A : Type 0} (list : List A) (number : ℕ) (member : A) (rest : List A) → drop number list ≡ member ∷ rest → (drop (number + 1) list ≡ rest) × (slice_get list number ≡ Some member)
rest_next [] zero member rest left = cc
rest_next [] (suc number) member rest left = cc
rest_next (first ∷ list) zero member rest left = (cc, cc)
rest_next (first ∷ list) (suc number) member rest left =
    let further : suc number + 1 ≡ suc (number + 1) = omega arith in
    let next = rest_next list number member rest left in
    (rw further next.0, next.1)

-- a container by its number
pub container_here : (entries : List (String Global × Container)) (number : ℕ) (entry : String Global × Container) → slice_get entries number ≡ Some entry →
    container_at (map named_container entries) number ≡ entry.1
container_here [] number entry is = cc
container_here (first ∷ entries) zero entry is = let same : first ≡ entry = cc in ap (λ (one : String Global × Container). one.1) same
container_here (first ∷ entries) (suc number) entry is = container_here entries number entry is

-- one way more
pub reached_more : (Reaches : ℕ → Option Way → Type 0) (ways : List (Option Way)) (way : Option Way) → ((number : ℕ) → number < length ways → Reaches number (slice_index_or ways number None)) → Reaches (length ways) way →
    (number : ℕ) → number < length (ways ++ way ∷ []) → Reaches number (slice_index_or (ways ++ way ∷ []) number None)
reached_more Reaches [] way before here zero below = here
reached_more Reaches [] way before here (suc number) below = absurd (omega arith)
reached_more Reaches (first ∷ ways) way before here zero below = before zero (omega arith)
reached_more Reaches (first ∷ ways) way before here (suc number) below =
    reached_more (λ number way. Reaches (suc number) way) ways way (λ number below. before (suc number) (omega arith)) here number (omega arith)

-- the same in a list that was made longer
pub ways_more : (Reaches : ℕ → Option Way → Type 0) (entries : List (String Global × Container)) (ways new : List (Option Way)) (way : Option Way) (entry : String Global × Container) (rest : List (String Global × Container)) →
    new ≡ ways ++ way ∷ [] → drop (length ways) entries ≡ entry ∷ rest → ((number : ℕ) → number < length ways → Reaches number (slice_index_or ways number None)) → Reaches (length ways) way →
    (drop (length new) entries ≡ rest) × ((number : ℕ) → number < length new → Reaches number (slice_index_or new number None))
ways_more Reaches entries ways new way entry rest more left before here =
    subst (λ (list : List (Option Way)). (drop (length list) entries ≡ rest) × ((number : ℕ) → number < length list → Reaches number (slice_index_or list number None))) (sym more)
    (ap (λ (count : ℕ). drop count entries) (length_push ways way) ∙ (rest_next entries (length ways) entry rest left).0, reached_more Reaches ways way before here)

-- all containers are reached so
pub all_reached : (context : Context) (links : List Link) (entries : List (String Global × Container)) (ways : List (Option Way)) → drop (length ways) entries ≡ [] →
    ((number : ℕ) → number < length ways → reach_by 0 (map named_container entries) number (slice_index_or ways number None) ≡ reach_inside context links (map named_container entries) number) →
    (number : ℕ) → reach_by 0 (map named_container entries) number (slice_index_or ways number None) ≡ reach_inside context links (map named_container entries) number
all_reached context links entries ways left reached number = ⊎_elim (reached number) past (cases_lt number (length ways))
  where
    past : length ways ≤ number → reach_by 0 (map named_container entries) number (slice_index_or ways number None) ≡ reach_inside context links (map named_container entries) number
    past over =
        let few : length (map named_container entries) ≤ number = omega (arith, length-map entries named_container, ap length left, length-drop (length ways) entries) in
        ap (λ (way : Option Way). reach_by 0 (map named_container entries) number way) (get_or_past ways number None over)
        ∙ sym (unreached context links (map named_container entries) number (ap (λ (entry : List ℕ × Container). entry.1) (get_or_past (map named_container entries) number no_container few)))
