-- What a leaf has to do where containers are reached by other numbers.
use Rattle.std.proofs.Common.{◌≡◌, ℕ, ◌-◌, nat_lt, ℤ, List, [], ◌∷◌, ◌++◌, map, length, Option, Some, None, option_map, Ok, Err, Bool, true, false, if◌then◌else◌, slice_get, flat_map, refl, sym, ◌∙◌, ap}
use Rattle.std.specs.List.{zip}
use Rattle.std.proofs.lemmas.List.{map-append}
use Rattle.std.proofs.lemmas.List.Concat.{flat_map-cons}
use Rattle.std.specs.Option.{option_and_then}
use Rattle.sd_num.specs.declared.resolution.Resolution.{Resolution}
use Rattle.sd_range.specs.Subset.{elements, whole}
use Rattle.sd_work.specs.Memory.{Reference}
use Rattle.sd_work.specs.Leaf.{write_value, transfer, push_to, reading, doing, copy_of, identities, reduction_of}
use Rattle.sd_pieces.specs.cut.Naming.{Naming, names_at, access_named, pending_named, evaluated_named, leaf_named, guard_named, exit_named}
use Rattle.sd_graph.specs.PlainTree.{TaskletTree, GuardTree, ExitTree}
use Rattle.sd_graph.specs.ContainerParts.{container_at, is_stream}
use Rattle.sd_graph.specs.TaskletMeaning.{Effect, Meaning, and_then}
use Rattle.sd_graph.specs.Context.{Reach, Context, reference_at, index_at, link_elements, link_element, link_extents}
use Rattle.sd_graph.specs.Unfold.{meaning_at, pending_through, pending_by, pending_of, task_of, guard_of, exit_of, target_place, reduction_pairs}
use Rattle.sd_graph.specs.declared.link.Link.{Link}
use Rattle.sd_windows.specs.NamedContext.{reach_named, context_named}

-- ---- lists

map-map : {A B C : Type 0} (f : B → C) (g : A → B) (h : A → C) → ((x : A) → h x ≡ f (g x)) → (xs : List A) → map h xs ≡ map f (map g xs)
map-map f g h e [] = refl
map-map f g h e (x ∷ xs) = λ i. e x i ∷ map-map f g h e xs i

flat-map : {A B : Type 0} (f : B → B) (g h : A → List B) → ((x : A) → h x ≡ map f (g x)) → (xs : List A) → flat_map h xs ≡ map f (flat_map g xs)
flat-map f g h e [] = refl
flat-map f g h e (x ∷ xs) =
    flat_map-cons h x xs ∙ (λ i. e x i ++ flat-map f g h e xs i) ∙ sym (map-append f (g x) (flat_map g xs)) ∙ ap (map f) (sym (flat_map-cons g x xs))

-- ---- accesses

found-named : (w : Naming) (d : ℕ) (r : Reach) (o : Option ℕ) →
    option_map (λ e. record { level = r.level; container = r.container; element = e }) (option_and_then (names_at w d r.level r.container) o)
    ≡ access_named w d (option_map (λ e. record { level = r.level; container = r.container; element = e }) o)
found-named w d r None = refl
found-named w d r (Some e) = refl

reference-named : (w : Naming) (d : ℕ) (r : Reach) (index : List ℤ) → reference_at (reach_named w d r) index ≡ access_named w d (reference_at r index)
reference-named w d r index = found-named w d r (r.find index)

pub elements-named : (w : Naming) (d : ℕ) (x : Context) (link : Link) → link_elements (context_named w d x) link ≡ map (access_named w d) (link_elements x link)
elements-named w d x link =
    map-map (access_named w d) (reference_at (x.reach link.memlet.container)) (reference_at (reach_named w d (x.reach link.memlet.container))) (reference-named w d (x.reach link.memlet.container)) (elements link.memlet.subset x.values)

element-named : (w : Naming) (d : ℕ) (x : Context) (link : Link) (at : List ℤ) → link_element (context_named w d x) link at ≡ access_named w d (link_element x link at)
element-named w d x link at = reference-named w d (x.reach link.memlet.container) (index_at link.memlet.subset.dims x.values at)

-- ---- instances

through-named : (w : Naming) (d : ℕ) (x : Context) (link : Link) (effect : Effect) → pending_through (context_named w d x) link effect ≡ pending_named w d (pending_through x link effect)
through-named w d x link effect = on (is_stream (container_at x.containers link.memlet.container).kind)
  where
    on : (b : Bool) →
        (if b then push_to (x.reach link.memlet.container).level (x.reach link.memlet.container).container effect.value else write_value effect.value (link_element (context_named w d x) link effect.at) link.memlet.resolution)
        ≡ pending_named w d (if b then push_to (x.reach link.memlet.container).level (x.reach link.memlet.container).container effect.value else write_value effect.value (link_element x link effect.at) link.memlet.resolution)
    on true = refl
    on false = ap (λ to. write_value effect.value to link.memlet.resolution) (element-named w d x link effect.at)

by-named : (w : Naming) (d : ℕ) (x : Context) (link : Option Link) (effect : Effect) → pending_by (context_named w d x) link effect ≡ pending_named w d (pending_by x link effect)
by-named w d x None effect = refl
by-named w d x (Some link) effect = through-named w d x link effect

of-named : (w : Naming) (d : ℕ) (x : Context) (ins outs : List Link) (effect : Effect) → pending_of (context_named w d x) ins outs effect ≡ pending_named w d (pending_of x ins outs effect)
of-named w d x ins outs effect = on (nat_lt effect.connector (length ins))
  where
    on : (b : Bool) →
        (if b then pending_by (context_named w d x) None effect else pending_by (context_named w d x) (slice_get outs (effect.connector - length ins)) effect)
        ≡ pending_named w d (if b then pending_by x None effect else pending_by x (slice_get outs (effect.connector - length ins)) effect)
    on true = refl
    on false = by-named w d x (slice_get outs (effect.connector - length ins)) effect

evaluated-named : (w : Naming) (d : ℕ) (x : Context) (ins outs : List Link) (m : Meaning (List Effect)) →
    and_then m (λ effects. Ok (map (pending_of (context_named w d x) ins outs) effects)) ≡ evaluated_named w d (and_then m (λ effects. Ok (map (pending_of x ins outs) effects)))
evaluated-named w d x ins outs (Ok effects) = ap Ok (map-map (pending_named w d) (pending_of x ins outs) (pending_of (context_named w d x) ins outs) (of-named w d x ins outs) effects)
evaluated-named w d x ins outs (Err kind) = refl

pub task-named : (w : Naming) (d : ℕ) (x : Context) (code : TaskletTree) (ins outs : List Link) → task_of (context_named w d x) code ins outs ≡ leaf_named w d (task_of x code ins outs)
task-named w d x code ins outs =
    λ i. reading false (flat-map (access_named w d) (link_elements x) (link_elements (context_named w d x)) (elements-named w d x) ins i) [] (λ read. evaluated-named w d x ins outs (meaning_at x code ins outs read) i)

-- ---- copies and reductions

zipped : {A B : Type 0} (f : A → A) (xs ys : List A) (g : A × A → B) (h : B → B) → ((a b : A) → g (f a, f b) ≡ h (g (a, b))) → map g (zip (map f xs) (map f ys)) ≡ map h (map g (zip xs ys))
zipped f [] ys g h e = refl
zipped f (x ∷ xs) [] g h e = refl
zipped f (x ∷ xs) (y ∷ ys) g h e = λ i. e x y i ∷ zipped f xs ys g h e i

pub copy-named : (w : Naming) (d : ℕ) (x : Context) (from to : Link) →
    copy_of (zip (link_elements (context_named w d x) from) (link_elements (context_named w d x) to)) ≡ leaf_named w d (copy_of (zip (link_elements x from) (link_elements x to)))
copy-named w d x from to =
    (λ i. copy_of (zip (elements-named w d x from i) (elements-named w d x to i)))
    ∙ ap doing (zipped (access_named w d) (link_elements x from) (link_elements x to) (λ (pair : Option Reference × Option Reference). transfer pair.0 pair.1 None) (pending_named w d) (λ a b. refl))

identities-named : (w : Naming) (d : ℕ) (identity : Option ℤ) (targets : List (Option Reference)) → identities identity (map (access_named w d) targets) ≡ map (pending_named w d) (identities identity targets)
identities-named w d None targets = refl
identities-named w d (Some value) targets = on targets
  where
    on : (targets : List (Option Reference)) → map (λ target. write_value value target None) (map (access_named w d) targets) ≡ map (pending_named w d) (map (λ target. write_value value target None) targets)
    on [] = refl
    on (target ∷ targets) = ap (λ l. write_value value (access_named w d target) None ∷ l) (on targets)

pairs-named : (w : Naming) (d : ℕ) (r : Resolution) (x : Context) (axis : Option ℕ) (from to : Link) (ats : List (List ℤ)) →
    map (λ (pair : Option Reference × Option Reference). transfer pair.0 pair.1 (Some r)) (map (λ at. (link_element (context_named w d x) from at, link_element (context_named w d x) to (target_place axis at))) ats)
    ≡ map (pending_named w d) (map (λ (pair : Option Reference × Option Reference). transfer pair.0 pair.1 (Some r)) (map (λ at. (link_element x from at, link_element x to (target_place axis at))) ats))
pairs-named w d r x axis from to [] = refl
pairs-named w d r x axis from to (at ∷ ats) =
    λ i. transfer (element-named w d x from at i) (element-named w d x to (target_place axis at) i) (Some r) ∷ pairs-named w d r x axis from to ats i

pub reduction-named : (w : Naming) (d : ℕ) (r : Resolution) (identity : Option ℤ) (x : Context) (axis : Option ℕ) (from to : Link) →
    reduction_of r identity (link_elements (context_named w d x) to) (reduction_pairs (context_named w d x) axis from to)
    ≡ leaf_named w d (reduction_of r identity (link_elements x to) (reduction_pairs x axis from to))
reduction-named w d r identity x axis from to =
    ap doing (
    (λ i. (ap (identities identity) (elements-named w d x to) ∙ identities-named w d identity (link_elements x to)) i ++ pairs-named w d r x axis from to (whole (link_extents x from)) i)
    ∙ sym (map-append (pending_named w d) (identities identity (link_elements x to)) (map (λ (pair : Option Reference × Option Reference). transfer pair.0 pair.1 (Some r)) (reduction_pairs x axis from to)))
    )

-- ---- transitions

guard-named : (w : Naming) (d : ℕ) (x : Context) (guard : GuardTree) → guard_of (context_named w d x) guard ≡ guard_named w d (guard_of x guard)
guard-named w d x guard =
    λ i. record (guard_of x guard) { reads = flat-map (access_named w d) (link_elements x) (link_elements (context_named w d x)) (elements-named w d x) guard.reads i }

when-named : (w : Naming) (d : ℕ) (x : Context) (guard : Option GuardTree) → option_map (guard_of (context_named w d x)) guard ≡ option_map (guard_named w d) (option_map (guard_of x) guard)
when-named w d x None = refl
when-named w d x (Some guard) = ap Some (guard-named w d x guard)

exit-named : (w : Naming) (d : ℕ) (x : Context) (exit : ExitTree) → exit_of (context_named w d x) exit ≡ exit_named w d (exit_of x exit)
exit-named w d x exit = λ i. record (exit_of x exit) { when = when-named w d x exit.when i }

pub exits-named : (w : Naming) (d : ℕ) (x : Context) (exits : List ExitTree) → map (exit_of (context_named w d x)) exits ≡ map (exit_named w d) (map (exit_of x) exits)
exits-named w d x exits = map-map (exit_named w d) (exit_of x) (exit_of (context_named w d x)) (exit-named w d x) exits
