-- Steps through the values of a pool, inside the memory of its elements.
use Rattle.std.proofs.Common.{◌≡◌, ℕ, zero, suc, ◌<◌, ℤ, List, [], ◌∷◌, length, drop, Option, Some, None, Bool, true, false, if◌then◌else◌, ◌||◌, nat_eq, slice_get, slice_index_or, refl, sym, ap, ◌∙◌, subst, arith}
use Rattle.std.specs.List.{AllByRecursion}
use Rattle.std.proofs.lemmas.Bool.Decides.{nat_tests}
use Rattle.sd_work.specs.declared.fault.FaultKind.{FaultKind}
use Rattle.sd_num.specs.Width.{wrapped_to}
use Rattle.sd_num.specs.declared.width.Width.TheVariants.{W64}
use Rattle.sd_work.specs.Memory.{stream, Memories, elements_of, width_of, waiting}
use Rattle.sd_work.specs.Change.{changed_at, take, apply}
use Rattle.sd_work.specs.BigStep.{Reached, big_step}
use Rattle.sd_graph.specs.ContainerParts.{Containers}
use Rattle.sd_graph.specs.Context.{Context, Reach, own_reach, memory_from, private_memory, place_at}
use Rattle.sd_graph.specs.TaskletMeaning.{Inputs}
use Rattle.sd_graph.specs.Unfold.{one_element}
use Rattle.sd_graph.specs.Wiring.{has_number}
use Rattle.sd_graph.specs.declared.container.ContainerKind.{ContainerKind}
use Rattle.sd_graph.specs.declared.link.Link.{Link}
use Rattle.sd_tcode.specs.tcode.Compiled.{Compiled}
use Rattle.sd_mem.specs.declared.machine.address.Station.{Station}
use Rattle.sd_mem.specs.machine.ComesTo.{IsEnd}
use Rattle.sd_mem.specs.declared.machine.end.End.{End}
use Rattle.sd_mem.specs.declared.machine.end.End.TheVariants.{Finished, Fault, OutOfTurns}
use Rattle.sd_leaves.specs.leaves.Done.{IsDone, instance_work}
use Rattle.sd_row.specs.row.Point.{IsOver, below}
use Rattle.sd_row.specs.row.Setting.{Setting, term_of}
use Rattle.sd_row.proofs.row_lemmas.Comes.{IsLeft, as_finished}
use Rattle.sd_row.proofs.row_lemmas.RowSteps.{point_comes, point_without_turn}
use Rattle.sd_row.specs.declared.instance.accesses.Accesses.{Accesses}
use Rattle.sd_row.specs.instance.Known.{AreOutward}
use Rattle.sd_rows.specs.consume.Own.{with_own, HasValue}
use Rattle.sd_rows.specs.consume.Taking.{takes_coming}
use Rattle.sd_rows.specs.declared.consume.source.Source.{Source}
use Rattle.sd_rows.specs.consume.Pool.{Pool, IsPool, body_of, inside, element_width, pool_memory, pool_coming}
use Rattle.sd_rows.proofs.consume_lemmas.Takes.{takes_end, element_more, element_stop}

-- the same sources
pub same_sources : (compiled : Compiled) (given : Inputs) (accesses : Accesses) (old new : List Source) (from : Station) (element : ℕ) (outs : List Link) (here : Context) (pool : Pool) → new ≡ old →
    IsPool compiled given accesses old from element outs here pool → IsPool compiled given accesses new from element outs here pool
same_sources compiled given accesses old new from element outs here pool same is = subst (λ (sources : List Source). IsPool compiled given accesses sources from element outs here pool) (sym same) is

-- ---- the memory of an element

at_changed : {A : Type 0} (number : ℕ) (change : A → A) (members : List A) (nowhere : A) → number < length members → slice_index_or (changed_at number change members) number nowhere ≡ change (slice_index_or members number nowhere)
at_changed number change [] nowhere within = absurd (omega (arith, within))
at_changed zero change (member ∷ members) nowhere within = refl
at_changed (suc number) change (member ∷ members) nowhere within = at_changed number change members nowhere (omega (arith, within))

memory_length : (has : ℕ → ContainerKind → Bool) (number : ℕ) (containers : Containers) → length (memory_from has number containers) ≡ length containers
memory_length has number [] = refl
memory_length has number (entry ∷ entries) = ap suc (memory_length has (suc number) entries)

-- it has one element
one_held : (pool : Pool) (element : ℕ) (value : ℤ) → element ≡ pool.element → pool.element < length pool.context.containers →
    slice_index_or (pool_memory pool value) element (stream W64 []) ≡ one_element (element_width pool) value
one_held pool element value same there =
    let numbers = pool.element ∷ pool.private in
    let own = private_memory pool.context.containers numbers in
    let within : pool.element < length own = subst (λ many. pool.element < many) (sym (memory_length (λ number kind. has_number numbers number) 0 pool.context.containers)) there in
    ap (λ number. slice_index_or (pool_memory pool value) number (stream W64 [])) same ∙ at_changed pool.element (λ old. one_element (element_width pool) value) own (stream W64 []) within

-- it shows the value
pub value_held : (pool : Pool) (element : ℕ) (value : ℤ) → element ≡ pool.element → pool.element < length pool.context.containers → HasValue (pool_memory pool value) element (wrapped_to (element_width pool) value)
value_held pool element value same there = ap elements_of (one_held pool element value same there)

pub width_held : (pool : Pool) (element : ℕ) (value : ℤ) → element ≡ pool.element → pool.element < length pool.context.containers → width_of (slice_index_or (pool_memory pool value) element (stream W64 [])) ≡ element_width pool
width_held pool element value same there = ap width_of (one_held pool element value same there)

-- ---- containers outside

not_same : (container element : ℕ) → ((container ≡ element) → ⊥) → nat_eq container element ≡ false
not_same container element differ = grind (arith, nat_tests)

higher : (own outer : Reach) (test : Bool) → test ≡ false → ((if test then own else record outer { level = suc outer.level }).level) ≡ suc outer.level
higher own outer true is = cc
higher own outer false is = refl

outer_container : (own outer : Reach) (test : Bool) → test ≡ false → ((if test then own else record outer { level = suc outer.level }).container) ≡ outer.container
outer_container own outer true is = cc
outer_container own outer false is = refl

module _ (pool : Pool) where
  -- a container that is not that of the elements is a level higher inside
  pub level_inside : (value : ℤ) (number : ℕ) → pool.private ≡ [] → ((number ≡ pool.element) → ⊥) → ((inside pool value).reach number).level ≡ suc (pool.context.reach number).level
  level_inside value number none differ =
      higher (own_reach pool.context.containers number) (pool.context.reach number) (has_number (pool.element ∷ pool.private) number)
      (ap (λ (private : List ℕ). has_number (pool.element ∷ private) number) none ∙ ap (λ test. test || false) (not_same number pool.element differ))

  pub container_inside : (value : ℤ) (number : ℕ) → pool.private ≡ [] → ((number ≡ pool.element) → ⊥) → ((inside pool value).reach number).container ≡ (pool.context.reach number).container
  container_inside value number none differ =
      outer_container (own_reach pool.context.containers number) (pool.context.reach number) (has_number (pool.element ∷ pool.private) number)
      (ap (λ (private : List ℕ). has_number (pool.element ∷ private) number) none ∙ ap (λ test. test || false) (not_same number pool.element differ))

  -- outputs to other containers than that of the elements go outside
  pub outward : (value : ℤ) (outs : List Link) → pool.private ≡ [] → AllByRecursion (λ link. (link.memlet.container ≡ pool.element) → ⊥) outs → AreOutward (inside pool value) outs
  outward value [] none all = tt
  outward value (link ∷ outs) none all =
      let above = level_inside value link.memlet.container none all.0 in
      (omega (arith, above), outward value outs none all.1)

  -- the point of a value
  abbrev point : (value : ℤ) → Setting
  point value = record { tree = pool.tree; ins = pool.ins; outs = pool.outs; line = pool.line; context = λ k. inside pool value; own = pool_memory pool value }

  module _ (held : ℤ) (before now took : Reached) (from : Station) (first : Option ℤ)
      (level_is : from.level ≡ suc (pool.context.reach pool.stream).level) (container_is : from.container ≡ (pool.context.reach pool.stream).container)
      (over : IsOver (pool_memory pool held) now)
      (taken_is : took.memories ≡ apply (take from.level from.container 0) now.memories) (turns_are : took.turns ≡ now.turns)
      (first_is : first ≡ slice_get (waiting from.level from.container now.memories) 0)
      (left : IsLeft (pool_coming pool before) before (takes_coming (body_of pool) pool.stream pool.element pool.private pool.context (below now)) (below now)) where
    abbrev level : ℕ
    level = (pool.context.reach pool.stream).level

    abbrev container : ℕ
    container = (pool.context.reach pool.stream).container

    all_taken : took.memories ≡ pool_memory pool held ∷ apply (take level container 0) (drop 1 now.memories)
    all_taken = taken_is ∙ ap (λ (l : ℕ). apply (take l from.container 0) now.memories) level_is ∙ ap (λ (c : ℕ). apply (take (suc level) c 0) now.memories) container_is
        ∙ ap (apply (take (suc level) container 0)) over

    below_taken : (below took).memories ≡ apply (take level container 0) (below now).memories
    below_taken = ap (drop 1) all_taken

    first_below : slice_get (waiting level container (below now).memories) 0 ≡ first
    first_below = sym (first_is ∙ ap (λ (l : ℕ). slice_get (waiting l from.container now.memories) 0) level_is ∙ ap (λ (c : ℕ). slice_get (waiting (suc level) c now.memories) 0) container_is
        ∙ ap (λ (memories : Memories). slice_get (waiting (suc level) container memories) 0) over)

    -- no value waits
    pub pool_ends : first ≡ None → IsEnd (pool_coming pool before) before Finished (below took)
    pool_ends none = takes_end (body_of pool) pool.stream pool.element pool.private pool.context (pool_coming pool before) before (below now) (below took) left below_taken turns_are (first_below ∙ none)

    -- the memory in which an element was taken is still that of the first one
    pub over_taken : IsOver (pool_memory pool held) took
    over_taken = all_taken ∙ ap (λ (memories : Memories). pool_memory pool held ∷ memories) (sym (ap (drop 1) all_taken))

    module _ (value : ℤ) (waits : first ≡ Some value) where
      -- the memories of the element
      abbrev put : Reached
      put = with_own (pool_memory pool value) took

      module _ (after : Reached) (end : End) (ends : IsEnd (λ most. big_step (term_of (point value) 0) most (below put).memories (below put).turns) (below put) end (below after)) where
        pool_more : end ≡ Finished → IsLeft (pool_coming pool before) before (takes_coming (body_of pool) pool.stream pool.element pool.private pool.context (below after)) (below after)
        pool_more done =
            element_more (body_of pool) pool.stream pool.element pool.private pool.context (pool_coming pool before) before (below now) (below put) left below_taken turns_are value (first_below ∙ waits) (below after)
            (as_finished _ _ _ end done ends)

        pool_stop : ((end ≡ Finished) → ⊥) → IsEnd (pool_coming pool before) before end (below after)
        pool_stop stop =
            element_stop (body_of pool) pool.stream pool.element pool.private pool.context (pool_coming pool before) before (below now) (below put) left below_taken turns_are value (first_below ∙ waits) (below after)
            end ends stop

      -- no turn is left for it
      pub value_unpaid : (paid : Reached) → paid.memories ≡ took.memories → took.turns ≡ 0 → paid.turns ≡ 0 → IsEnd (pool_coming pool before) before OutOfTurns (below paid)
      value_unpaid paid same none_before none_after =
          pool_stop paid OutOfTurns (point_without_turn (point value) 0 put (with_own (pool_memory pool value) paid) (ap (λ (memories : Memories). pool_memory pool value ∷ drop 1 memories) same) none_before none_after refl) (λ same. cc)

      module _ (paid after : Reached) (here : Context) (outs : List Link) (some : ℤ) (stands : here ≡ inside pool some) (same_outs : pool.outs ≡ outs) (same : paid.memories ≡ took.memories) (turn : took.turns ≡ suc paid.turns) where
        -- the memories of the element when its turn is spent, and when it is done
        abbrev spent : Reached
        spent = with_own (pool_memory pool value) paid

        abbrev behind : Reached
        behind = with_own (pool_memory pool value) after

        same_spent : spent.memories ≡ put.memories
        same_spent = ap (λ (memories : Memories). pool_memory pool value ∷ drop 1 memories) same

        point_is : (fault : Option FaultKind) → IsDone (instance_work here pool.tree pool.ins outs) spent fault behind → IsDone (instance_work (inside pool value) pool.tree pool.ins pool.outs) spent fault behind
        point_is fault done = subst (λ (outs : List Link). IsDone (instance_work (inside pool value) pool.tree pool.ins outs) spent fault behind) (sym same_outs)
            (subst (λ (here : Context). IsDone (instance_work here pool.tree pool.ins outs) spent fault behind) stands done)

        -- its element is done
        pub value_done : (fault : Option FaultKind) → fault ≡ None → IsDone (instance_work here pool.tree pool.ins outs) spent fault behind →
            IsLeft (pool_coming pool before) before (takes_coming (body_of pool) pool.stream pool.element pool.private pool.context (below after)) (below after)
        value_done fault none done =
            pool_more after Finished (point_comes (point value) 0 put spent behind None Finished same_spent turn
            (point_is None (subst (λ (fault : Option FaultKind). IsDone (instance_work here pool.tree pool.ins outs) spent fault behind) none done)) (λ now. refl) refl) refl

        -- its element comes to a fault
        pub value_fails : (fault : Option FaultKind) (kind : FaultKind) → fault ≡ Some kind → IsDone (instance_work here pool.tree pool.ins outs) spent fault behind →
            IsEnd (pool_coming pool before) before (Fault (place_at (inside pool value) pool.line) kind) (below after)
        value_fails fault kind failed done =
            pool_stop after (Fault (place_at (inside pool value) pool.line) kind) (point_comes (point value) 0 put spent behind (Some kind) (Fault (place_at (inside pool value) pool.line) kind) same_spent turn
            (point_is (Some kind) (subst (λ (fault : Option FaultKind). IsDone (instance_work here pool.tree pool.ins outs) spent fault behind) failed done)) (λ now. refl) refl) (λ same. cc)

  -- the scope inside the memory of its elements
  pub pool_entered : (old entered after now : Reached) (held : ℤ) (end : End) → entered.memories ≡ pool_memory pool held ∷ old.memories → entered.turns ≡ old.turns → now.memories ≡ drop 1 after.memories → now.turns ≡ after.turns →
      (IsOver (pool_memory pool held) entered → IsEnd (pool_coming pool (below entered)) (below entered) end (below after)) → IsEnd (pool_coming pool old) old end now
  pool_entered old entered after now held end same turns dropped kept ends =
      let before : below entered ≡ old = (λ i. record { memories = ap (drop 1) same i; turns = turns i }) in
      let behind : below after ≡ now = (λ i. record { memories = sym dropped i; turns = sym kept i }) in
      let over : IsOver (pool_memory pool held) entered = same ∙ ap (λ (memories : Memories). pool_memory pool held ∷ memories) (sym (ap (drop 1) same)) in
      subst (λ (now : Reached). IsEnd (pool_coming pool old) old end now) behind (subst (λ (old : Reached). IsEnd (pool_coming pool old) old end (below after)) before (ends over))
