-- What tasklets, copies, reductions and conditions touch is there, where the containers of their links are reached.
use Rattle.std.proofs.Common.{◌≡◌, inl, inr, ℕ, zero, suc, ◌-◌, nat_lt, ℤ, List, [], ◌∷◌, ◌++◌, map, length, Option, Some, None, option_map, Ok, Err, Bool, true, false, if◌then◌else◌, slice_get, refl, sym, subst}
use Rattle.std.specs.List.{AllByRecursion, flat_map, zip}
use Rattle.sd_num.specs.declared.resolution.Resolution.{Resolution}
use Rattle.sd_range.specs.Subset.{elements, whole}
use Rattle.sd_work.specs.Memory.{Memories, Reference}
use Rattle.sd_work.specs.Leaf.{Pending, write_value, transfer, push_to, reduction_of}
use Rattle.sd_work.specs.Touch.{Touch, IsRead, IsWrite, SomeRead, PendingTouches, SomePendingTouches, LeafTouches, GuardTouches, SomeExitTouches}
use Rattle.sd_graph.specs.PlainTree.{TaskletTree, GuardTree, ExitTree}
use Rattle.sd_graph.specs.ContainerParts.{container_at, is_stream}
use Rattle.sd_graph.specs.TaskletMeaning.{Effect, Meaning}
use Rattle.sd_graph.specs.TaskletMeaning as meaning
use Rattle.sd_graph.specs.Context.{Reach, Context, reference_at, link_elements, link_element, link_extents}
use Rattle.sd_graph.specs.Unfold.{meaning_at, pending_by, pending_of, task_of, guard_of, exit_of, target_place, reduction_pairs}
use Rattle.sd_graph.specs.There.{IsStreamThere, IsThere}
use Rattle.sd_graph.specs.InForce.{AreLinksInForce, AreExitsInForce, IsConditionInForce}
use Rattle.sd_graph.specs.InPlace.{AreToArrays, AreExitsOnArrays, IsConditionOnArrays}
use Rattle.sd_graph.specs.declared.link.Link.{Link}
use Rattle.sd_graph.proofs.Reached.{FindsElements, IsReached, links_find}

-- ---- one element

read_there_by : (memories : Memories) (reach : Reach) (index : List ℤ) (found : Option ℕ) (touch : Touch) → FindsElements memories reach → reach.find index ≡ found →
    IsRead (option_map (λ element. record { level = reach.level; container = reach.container; element = element }) found) touch → IsThere memories touch
read_there_by memories reach index None touch finds e touched = elim touched [ ]
read_there_by memories reach index (Some element) touch finds e touched = subst (IsThere memories) (sym touched) (finds index element e)

pub read_there : (memories : Memories) (reach : Reach) (index : List ℤ) (touch : Touch) → FindsElements memories reach → IsRead (reference_at reach index) touch → IsThere memories touch
read_there memories reach index touch finds touched = read_there_by memories reach index (reach.find index) touch finds refl touched

write_there_by : (memories : Memories) (reach : Reach) (by : Option Resolution) (index : List ℤ) (found : Option ℕ) (touch : Touch) → FindsElements memories reach → reach.find index ≡ found →
    IsWrite (option_map (λ element. record { level = reach.level; container = reach.container; element = element }) found) by touch → IsThere memories touch
write_there_by memories reach by index None touch finds e touched = elim touched [ ]
write_there_by memories reach by index (Some element) touch finds e touched = subst (IsThere memories) (sym touched) (finds index element e)

write_there : (memories : Memories) (reach : Reach) (by : Option Resolution) (index : List ℤ) (touch : Touch) → FindsElements memories reach → IsWrite (reference_at reach index) by touch → IsThere memories touch
write_there memories reach by index touch finds touched = write_there_by memories reach by index (reach.find index) touch finds refl touched

-- ---- reads of links

elements_there : (memories : Memories) (reach : Reach) (indices : List (List ℤ)) (touch : Touch) → FindsElements memories reach → SomeRead (map (reference_at reach) indices) touch → IsThere memories touch
elements_there memories reach [] touch finds touched = elim touched [ ]
elements_there memories reach (index ∷ indices) touch finds (inl touched) = read_there memories reach index touch finds touched
elements_there memories reach (index ∷ indices) touch finds (inr touched) = elements_there memories reach indices touch finds touched

-- some read of two lists is one of either of them
either_read : (memories : Memories) (first second : List (Option Reference)) (touch : Touch) → (SomeRead first touch → IsThere memories touch) → (SomeRead second touch → IsThere memories touch) →
    SomeRead (first ++ second) touch → IsThere memories touch
either_read memories [] second touch one other touched = other touched
either_read memories (next ∷ first) second touch one other (inl touched) = one (inl touched)
either_read memories (next ∷ first) second touch one other (inr touched) = either_read memories first second touch (λ there. one (inr there)) other touched

pub links_there : (memories : Memories) (context : Context) (links : List Link) (touch : Touch) → AllByRecursion (λ link. FindsElements memories (context.reach link.memlet.container)) links →
    SomeRead (flat_map (link_elements context) links) touch → IsThere memories touch
links_there memories context [] touch finds touched = elim touched [ ]
links_there memories context (link ∷ links) touch finds touched =
    either_read memories (link_elements context link) (flat_map (link_elements context) links) touch
    (elements_there memories (context.reach link.memlet.container) (elements link.memlet.subset context.values) touch finds.0)
    (links_there memories context links touch finds.1) touched

-- ---- effects

through_there : (streams : Bool) (memories : Memories) (context : Context) (link : Link) (value : ℤ) (at : List ℤ) (touch : Touch) →
    (streams ≡ true → IsStreamThere memories (context.reach link.memlet.container).level (context.reach link.memlet.container).container) →
    (streams ≡ false → FindsElements memories (context.reach link.memlet.container)) →
    PendingTouches (if streams then push_to (context.reach link.memlet.container).level (context.reach link.memlet.container).container value else write_value value (link_element context link at) link.memlet.resolution) touch →
    IsThere memories touch
through_there true memories context link value at touch stream finds touched = subst (IsThere memories) (sym touched) (stream refl)
through_there false memories context link value at touch stream finds touched = write_there memories (context.reach link.memlet.container) link.memlet.resolution _ touch (finds refl) touched

output_there : (memories : Memories) (private : List ℕ) (context : Context) (outs : List Link) (number : ℕ) (effect : Effect) (touch : Touch) → IsReached memories private context →
    AreLinksInForce context.containers private outs → PendingTouches (pending_by context (slice_get outs number) effect) touch → IsThere memories touch
output_there memories private context [] number effect touch reached force touched = elim touched [ ]
output_there memories private context (link ∷ outs) zero effect touch reached force touched =
    through_there (is_stream (container_at context.containers link.memlet.container).kind) memories context link effect.value effect.at touch
    (reached.streams link.memlet.container force.0) (reached.arrays link.memlet.container force.0) touched
output_there memories private context (link ∷ outs) (suc number) effect touch reached force touched = output_there memories private context outs number effect touch reached force.1 touched

connector_there : (input : Bool) (memories : Memories) (private : List ℕ) (context : Context) (outs : List Link) (number : ℕ) (effect : Effect) (touch : Touch) → IsReached memories private context →
    AreLinksInForce context.containers private outs → PendingTouches (if input then pending_by context None effect else pending_by context (slice_get outs number) effect) touch → IsThere memories touch
connector_there true memories private context outs number effect touch reached force touched = elim touched [ ]
connector_there false memories private context outs number effect touch reached force touched = output_there memories private context outs number effect touch reached force touched

effects_there : (memories : Memories) (private : List ℕ) (context : Context) (ins outs : List Link) (effects : List Effect) (touch : Touch) → IsReached memories private context →
    AreLinksInForce context.containers private outs → SomePendingTouches (map (pending_of context ins outs) effects) touch → IsThere memories touch
effects_there memories private context ins outs [] touch reached force touched = elim touched [ ]
effects_there memories private context ins outs (effect ∷ effects) touch reached force (inl touched) = connector_there (nat_lt effect.connector (length ins)) memories private context outs (effect.connector - length ins) effect touch reached force touched
effects_there memories private context ins outs (effect ∷ effects) touch reached force (inr touched) = effects_there memories private context ins outs effects touch reached force touched

-- what is done with an evaluation that gave something
given_by : {A B : Type 0} (meant : Meaning A) (f : A → B) (result : B) → meaning.and_then meant (λ value. Ok (f value)) ≡ Ok result → (value : A) × (f value ≡ result)
given_by (Ok value) f result e = (value, cc)
given_by (Err kind) f result e = cc

pub task_there : (memories : Memories) (private : List ℕ) (context : Context) (code : TaskletTree) (ins outs : List Link) (touch : Touch) → IsReached memories private context →
    AreLinksInForce context.containers private ins → AreLinksInForce context.containers private outs → AreToArrays context.containers ins →
    LeafTouches (task_of context code ins outs) touch → IsThere memories touch
task_there memories private context code ins outs touch reached inputs outputs arrays (inl touched) =
    links_there memories context ins touch (links_find memories private context ins reached inputs arrays) touched
task_there memories private context code ins outs touch reached inputs outputs arrays (inr (given, effects, e, touched)) =
    let meant = given_by (meaning_at context code ins outs given) (λ effects. map (pending_of context ins outs) effects) effects e in
    effects_there memories private context ins outs meant.0 touch reached outputs (subst (λ pending. SomePendingTouches pending touch) (sym meant.1) touched)

-- ---- copies and reductions

pub copy_there : (memories : Memories) (context : Context) (from to : Link) (sources targets : List (List ℤ)) (touch : Touch) →
    FindsElements memories (context.reach from.memlet.container) → FindsElements memories (context.reach to.memlet.container) →
    SomePendingTouches (map (λ pair. transfer pair.0 pair.1 None) (zip (map (reference_at (context.reach from.memlet.container)) sources) (map (reference_at (context.reach to.memlet.container)) targets))) touch →
    IsThere memories touch
copy_there memories context from to [] targets touch source_finds target_finds touched = elim touched [ ]
copy_there memories context from to (source ∷ sources) [] touch source_finds target_finds touched = elim touched [ ]
copy_there memories context from to (source ∷ sources) (target ∷ targets) touch source_finds target_finds (inl (inl touched)) = read_there memories (context.reach from.memlet.container) source touch source_finds touched
copy_there memories context from to (source ∷ sources) (target ∷ targets) touch source_finds target_finds (inl (inr touched)) = write_there memories (context.reach to.memlet.container) None target touch target_finds touched
copy_there memories context from to (source ∷ sources) (target ∷ targets) touch source_finds target_finds (inr touched) = copy_there memories context from to sources targets touch source_finds target_finds touched

pairs_there : (memories : Memories) (context : Context) (resolution : Resolution) (axis : Option ℕ) (from to : Link) (places : List (List ℤ)) (touch : Touch) →
    FindsElements memories (context.reach from.memlet.container) → FindsElements memories (context.reach to.memlet.container) →
    SomePendingTouches (map {A = Option Reference × Option Reference} (λ pair. transfer pair.0 pair.1 (Some resolution)) (map (λ at. (link_element context from at, link_element context to (target_place axis at))) places)) touch →
    IsThere memories touch
pairs_there memories context resolution axis from to [] touch source_finds target_finds touched = elim touched [ ]
pairs_there memories context resolution axis from to (place ∷ places) touch source_finds target_finds (inl (inl touched)) = read_there memories (context.reach from.memlet.container) _ touch source_finds touched
pairs_there memories context resolution axis from to (place ∷ places) touch source_finds target_finds (inl (inr touched)) = write_there memories (context.reach to.memlet.container) (Some resolution) _ touch target_finds touched
pairs_there memories context resolution axis from to (place ∷ places) touch source_finds target_finds (inr touched) = pairs_there memories context resolution axis from to places touch source_finds target_finds touched

identities_there : (memories : Memories) (reach : Reach) (value : ℤ) (indices : List (List ℤ)) (left : List Pending) (touch : Touch) → FindsElements memories reach → (SomePendingTouches left touch → IsThere memories touch) →
    SomePendingTouches (map (λ target. write_value value target None) (map (reference_at reach) indices) ++ left) touch → IsThere memories touch
identities_there memories reach value [] left touch finds others touched = others touched
identities_there memories reach value (index ∷ indices) left touch finds others (inl touched) = write_there memories reach None index touch finds touched
identities_there memories reach value (index ∷ indices) left touch finds others (inr touched) = identities_there memories reach value indices left touch finds others touched

pub reduction_there : (memories : Memories) (context : Context) (resolution : Resolution) (axis : Option ℕ) (identity : Option ℤ) (from to : Link) (touch : Touch) →
    FindsElements memories (context.reach from.memlet.container) → FindsElements memories (context.reach to.memlet.container) →
    LeafTouches (reduction_of resolution identity (link_elements context to) (reduction_pairs context axis from to)) touch → IsThere memories touch
reduction_there memories context resolution axis None from to touch source_finds target_finds touched =
    pairs_there memories context resolution axis from to (whole (link_extents context from)) touch source_finds target_finds touched
reduction_there memories context resolution axis (Some value) from to touch source_finds target_finds touched =
    identities_there memories (context.reach to.memlet.container) value (elements to.memlet.subset context.values) _ touch target_finds
    (pairs_there memories context resolution axis from to (whole (link_extents context from)) touch source_finds target_finds) touched

-- ---- conditions

guard_there : (memories : Memories) (context : Context) (guard : Option GuardTree) (touch : Touch) → IsReached memories [] context → IsConditionInForce context.containers guard → IsConditionOnArrays context.containers guard →
    GuardTouches (option_map (guard_of context) guard) touch → IsThere memories touch
guard_there memories context None touch reached force arrays touched = elim touched [ ]
guard_there memories context (Some guard) touch reached force arrays touched = links_there memories context guard.reads touch (links_find memories [] context guard.reads reached force arrays) touched

pub exits_there : (memories : Memories) (context : Context) (exits : List ExitTree) (touch : Touch) → IsReached memories [] context → AreExitsInForce context.containers exits → AreExitsOnArrays context.containers exits →
    SomeExitTouches (map (exit_of context) exits) touch → IsThere memories touch
exits_there memories context [] touch reached force arrays touched = elim touched [ ]
exits_there memories context (exit ∷ exits) touch reached force arrays (inl touched) = guard_there memories context exit.when touch reached force.0 arrays.0 touched
exits_there memories context (exit ∷ exits) touch reached force arrays (inr touched) = exits_there memories context exits touch reached force.1 arrays.1 touched
