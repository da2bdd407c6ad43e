-- The writes of many points, seen from their reads.
use Rattle.std.proofs.Common.{◌≡◌, ℕ, zero, suc, ◌+◌, ◌<◌, ◌≤◌, get_or, ℤ, pos, List, [], ◌∷◌, map, length, drop, slice_index_or, Option, Some, None, Bool, true, false, nat_eq, ◌&&◌, refl, sym, ap, ◌∙◌, arith}
use Rattle.std.specs.List.{AllByRecursion}
use Rattle.std.proofs.Math.ListN.{drop_of_length-le}
use Rattle.std.proofs.lemmas.Bool.{eqb-true, eqb-false, eq-eqb}
use Rattle.std.proofs.lemmas.List.{drop_more}
use Rattle.sd_num.specs.declared.resolution.Resolution.{Resolution}
use Rattle.sd_num.specs.declared.width.Width.{Width}
use Rattle.sd_num.specs.declared.width.Width.TheVariants.{W64}
use Rattle.sd_work.specs.Memory.{Memory, Memories, Reference, look, elements_of, stream}
use Rattle.sd_work.specs.Change.{apply, write, changed_at, with_elements, written}
use Rattle.sd_work.specs.Step.{Done}
use Rattle.sd_graph.specs.declared.place.Place.{Place}
use Rattle.sd_mem.specs.declared.machine.address.Station.{Station}
use Rattle.sd_leaves.specs.leaves.Done.{IsDone, performing}
use Rattle.sd_row.specs.declared.row.track.Track.{Track}
use Rattle.sd_row.specs.declared.row.row.Write.{Write}
use Rattle.sd_row.specs.row.Row.{reference_on, write_on}
use Rattle.sd_row.specs.row.Point.{seen_on, IsBare, IsOver}
use Rattle.sd_row.specs.row.Block.{IsApart, after_writes, after_points}
use Rattle.sd_row.proofs.row_lemmas.Instances.{over_written}

-- ---- an element elsewhere

other_stays : {A : Type 0} (number other : ℕ) (change : A → A) (members : List A) (d : A) → ((other ≡ number) → ⊥) → slice_index_or (changed_at number change members) other d ≡ slice_index_or members other d
other_stays number other change [] d differ = refl
other_stays zero zero change (member ∷ members) d differ = absurd (differ refl)
other_stays zero (suc other) change (member ∷ members) d differ = refl
other_stays (suc number) zero change (member ∷ members) d differ = refl
other_stays (suc number) (suc other) change (member ∷ members) d differ = other_stays number other change members d (λ same. differ (ap suc same))

this_changes : {A : Type 0} (number : ℕ) (change : A → A) (members : List A) (d : A) → change d ≡ d → slice_index_or (changed_at number change members) number d ≡ change (slice_index_or members number d)
this_changes number change [] d none = sym none
this_changes zero change (member ∷ members) d none = refl
this_changes (suc number) change (member ∷ members) d none = this_changes number change members d none

none_there : (container : ℕ) (change : Width → List ℤ → List ℤ) → changed_at container (with_elements change) [] ≡ []
none_there container change = refl

-- what stands in one container is not changed by a write to another one
look_apart : (read to : Reference) (by : Option Resolution) (value : ℤ) (memories : Memories) → (read.level ≡ to.level → read.container ≡ to.container → ⊥) →
    look read (apply (write to by value) memories) ≡ look read memories
look_apart read to by value memories apart = by_level (nat_eq read.level to.level) refl
  where
    inside : Memory → Memory
    inside memory = changed_at to.container (with_elements (λ width. changed_at to.element (written width by value))) memory

    in_memory : Memory → ℤ
    in_memory memory = slice_index_or (elements_of (slice_index_or memory read.container (stream W64 []))) read.element (pos 0)

    by_level : (same : Bool) → nat_eq read.level to.level ≡ same → look read (apply (write to by value) memories) ≡ look read memories
    by_level true e =
        let level : read.level ≡ to.level = eqb-true read.level to.level e in
        ap (λ level. in_memory (slice_index_or (changed_at level inside memories) read.level [])) (sym level)
        ∙ ap in_memory (this_changes read.level inside memories [] (none_there to.container (λ width. changed_at to.element (written width by value))))
        ∙ ap (λ contents. slice_index_or (elements_of contents) read.element (pos 0))
        (other_stays to.container read.container (with_elements (λ width. changed_at to.element (written width by value))) (slice_index_or memories read.level []) (stream W64 []) (apart level))
    by_level false e = ap in_memory (other_stays to.level read.level inside memories [] (eqb-false read.level to.level e))

same_station : (a b : Station) → a.level ≡ b.level → a.container ≡ b.container → a ≡ b
same_station a b level container = λ i. record { level = level i; container = container i }

not_both : (first second : Bool) → first ≡ true → second ≡ true → (first && second) ≡ false → ⊥
not_both true true one other none = cc
not_both true false one other none = cc
not_both false second one other none = cc

-- stations that do not compare as the same are not the same
pub elsewhere : (a b : Station) → (nat_eq a.level b.level && nat_eq a.container b.container) ≡ false → (a ≡ b) → ⊥
elsewhere a b none same =
    not_both (nat_eq a.level b.level) (nat_eq a.container b.container) (eq-eqb a.level b.level (ap (λ (s : Station). s.level) same)) (eq-eqb a.container b.container (ap (λ (s : Station). s.container) same)) none

-- ---- what is read

seen_behind : (value : ℕ → ℤ) (k j : ℕ) (writes : List Write) (track : Track) (memories : Memories) → IsApart writes track →
    seen_on j (after_writes value k writes memories) track ≡ seen_on j memories track
seen_behind value k j [] track memories apart = refl
seen_behind value k j (next ∷ writes) track memories apart =
    seen_behind value k j writes track (apply (write (reference_on next.to k) next.by (value next.connector)) memories) apart.1
    ∙ look_apart (reference_on track j) (reference_on next.to k) next.by (value next.connector) memories
    (λ level container. apart.0 (same_station track.station next.to.station level container))

seen_later : (value : (run connector : ℕ) → ℤ) (writes : List Write) (from count j : ℕ) (track : Track) (memories : Memories) → IsApart writes track →
    seen_on j (after_points value writes from count memories) track ≡ seen_on j memories track
seen_later value writes from zero j track memories apart = refl
seen_later value writes from (suc count) j track memories apart =
    seen_behind (value count) (from + count) j writes track (after_points value writes from count memories) apart ∙ seen_later value writes from count j track memories apart

-- all reads see what they saw before
pub all_seen : (value : (run connector : ℕ) → ℤ) (writes : List Write) (from count j : ℕ) (tracks : List Track) (memories : Memories) → AllByRecursion (IsApart writes) tracks →
    map (λ track. seen_on j (after_points value writes from count memories) track ∷ []) tracks ≡ map (λ track. seen_on j memories track ∷ []) tracks
all_seen value writes from count j [] memories apart = refl
all_seen value writes from count j (track ∷ tracks) memories apart =
    λ i. (seen_later value writes from count j track memories apart.0 i ∷ []) ∷ all_seen value writes from count j tracks memories apart.1 i

-- ---- the writes of a point

performs : (value : ℕ → ℤ) (k : ℕ) (writes : List Write) (place : Place) (memories : Memories) (turns : ℕ) →
    performing (map (write_on value k) writes) place memories turns ≡ Some (Done (record { memories = after_writes value k writes memories; turns = turns }))
performs value k [] place memories turns = refl
performs value k (next ∷ writes) place memories turns = performs value k writes place (apply (write (reference_on next.to k) next.by (value next.connector)) memories) turns

changed_length : {A : Type 0} (number : ℕ) (change : A → A) (members : List A) → length (changed_at number change members) ≡ length members
changed_length number change [] = refl
changed_length zero change (member ∷ members) = refl
changed_length (suc number) change (member ∷ members) = ap suc (changed_length number change members)

writes_length : (value : ℕ → ℤ) (k : ℕ) (writes : List Write) (memories : Memories) → length (after_writes value k writes memories) ≡ length memories
writes_length value k [] memories = refl
writes_length value k (next ∷ writes) memories =
    writes_length value k writes (apply (write (reference_on next.to k) next.by (value next.connector)) memories)
    ∙ changed_length next.to.station.level (changed_at next.to.station.container (with_elements (λ width. changed_at (reference_on next.to k).element (written width next.by (value next.connector))))) memories

pub point_done : (value : ℕ → ℤ) (k : ℕ) (writes : List Write) (memories : Memories) (turns : ℕ) →
    IsDone (performing (map (write_on value k) writes)) (record { memories = memories; turns = turns }) None (record { memories = after_writes value k writes memories; turns = turns })
point_done value k writes memories turns = record {
  comes = λ place. performs value k writes place memories turns;
  depth = writes_length value k writes memories;
  turns = omega arith;
}

-- ---- the memory of the points

over_writes : (own : Memory) (value : ℕ → ℤ) (k : ℕ) (writes : List Write) (memories : Memories) (turns : ℕ) → IsBare own →
    IsOver own (record { memories = memories; turns = turns }) → IsOver own (record { memories = after_writes value k writes memories; turns = turns })
over_writes own value k [] memories turns bare over = over
over_writes own value k (next ∷ writes) memories turns bare over =
    over_writes own value k writes (apply (write (reference_on next.to k) next.by (value next.connector)) memories) turns bare
    (over_written own (record { memories = memories; turns = turns }) (record { memories = apply (write (reference_on next.to k) next.by (value next.connector)) memories; turns = turns })
    (reference_on next.to k) next.by (value next.connector) bare refl over)

pub over_points : (own : Memory) (value : (run connector : ℕ) → ℤ) (writes : List Write) (from count : ℕ) (memories : Memories) (turns : ℕ) → IsBare own →
    IsOver own (record { memories = memories; turns = turns }) → IsOver own (record { memories = after_points value writes from count memories; turns = turns })
over_points own value writes from zero memories turns bare over = over
over_points own value writes from (suc count) memories turns bare over =
    over_writes own (value count) (from + count) writes (after_points value writes from count memories) turns bare (over_points own value writes from count memories turns bare over)

-- ---- writes one after another

-- one write more
pub writes_on : (value : ℕ → ℤ) (k : ℕ) (writes : List Write) (number : ℕ) (member : Write) (old new : Memories) → number < length writes → member ≡ get_or writes number member →
    new ≡ apply (write (reference_on member.to k) member.by (value member.connector)) old → after_writes value k (drop number writes) old ≡ after_writes value k (drop (number + 1) writes) new
writes_on value k writes number member old new within is same =
    ap (λ writes. after_writes value k writes old) (drop_more writes number member within ∙ ap (λ first. first ∷ drop (number + 1) writes) (sym is))
    ∙ ap (after_writes value k (drop (number + 1) writes)) (sym same)

pub writes_end : (value : ℕ → ℤ) (k : ℕ) (writes : List Write) (number : ℕ) (now : Memories) → length writes ≤ number → after_writes value k (drop number writes) now ≡ now
writes_end value k writes number now over = ap (λ writes. after_writes value k writes now) (drop_of_length-le writes over)

-- one point more
pub points_on : (value : (run connector : ℕ) → ℤ) (writes : List Write) (from run : ℕ) (before old new : Memories) → old ≡ after_points value writes from run before → new ≡ after_writes (value run) (from + run) writes old →
    new ≡ after_points value writes from (run + 1) before
points_on value writes from run before old new so_far more =
    let next : suc run ≡ run + 1 = omega arith in
    more ∙ ap (after_writes (value run) (from + run) writes) so_far ∙ ap (λ count. after_points value writes from count before) next
