-- Effects that go to no container of the innermost memory leave it as it is.
use Rattle.std.proofs.Common.{◌≡◌, ℕ, zero, suc, ◌-◌, ◌<◌, ℤ, List, [], ◌∷◌, map, length, drop, Option, Some, None, Bool, true, false, nat_lt, option_map, if◌then◌else◌, slice_get, refl, sym, ap, ◌∙◌, subst, arith}
use Rattle.std.specs.List.{AllByRecursion}
use Rattle.std.specs.Bool.{⊤}
use Rattle.sd_num.specs.declared.resolution.Resolution.{Resolution}
use Rattle.sd_work.specs.Memory.{Contents, Memory, Memories}
use Rattle.sd_work.specs.Change.{appended, changed_at, with_elements, with_values, with_contents, written, write, push, apply}
use Rattle.sd_work.specs.Leaf.{Pending, write_value, transfer, push_to}
use Rattle.sd_work.specs.Step.{Done}
use Rattle.sd_work.specs.BigStep.{Reached, reached, big_doing}
use Rattle.sd_graph.specs.ContainerParts.{container_at, is_stream}
use Rattle.sd_graph.specs.TaskletMeaning.{Effect}
use Rattle.sd_graph.specs.Context.{Context, Reach, link_element, index_at}
use Rattle.sd_graph.specs.Unfold.{pending_by, pending_of}
use Rattle.sd_graph.specs.declared.link.Link.{Link}
use Rattle.sd_graph.specs.declared.place.Place.{Place}
use Rattle.sd_leaves.specs.leaves.Done.{IsDone, performing}
use Rattle.sd_row.specs.row.Point.{IsOver}
use Rattle.sd_row.specs.instance.Known.{AreOutward}

-- a write or a push that goes to no container of the innermost memory
abbrev pub IsOutward : Pending → Type 0
IsOutward (write_value value None by) = ⊤
IsOutward (write_value value (Some to) by) = 0 < to.level
IsOutward (transfer from to by) = ⊥
IsOutward (push_to level container value) = 0 < level

-- a change of a container further out
above : (own : Memory) (memories : Memories) (level container : ℕ) (change : Contents → Contents) → 0 < level →
    with_contents level container change (own ∷ memories) ≡ own ∷ drop 1 (with_contents level container change (own ∷ memories))
above own memories zero container change out = absurd (omega (arith, out))
above own memories (suc level) container change out = refl

changed_above : (own : Memory) (memories : Memories) (level container : ℕ) (change : Contents → Contents) → 0 < level → memories ≡ own ∷ drop 1 memories →
    with_contents level container change memories ≡ own ∷ drop 1 (with_contents level container change memories)
changed_above own memories level container change out over =
    ap (with_contents level container change) over ∙ above own (drop 1 memories) level container change out
    ∙ ap (λ (memories : Memories). own ∷ drop 1 (with_contents level container change memories)) (sym over)

-- the innermost memory is this one, and stays
over_own : (own : Memory) (place : Place) (todo : List Pending) (memories : Memories) (turns : ℕ) (after : Reached) → memories ≡ own ∷ drop 1 memories → AllByRecursion IsOutward todo →
    big_doing place todo memories turns ≡ Some (Done after) → IsOver own after
over_own own place [] memories turns after over all is =
    subst (λ (now : Reached). IsOver own now) (done_same (record { memories = memories; turns = turns }) after is) over
  where
    done_same : (now after : Reached) → reached {P = Place} now.memories now.turns ≡ Some (Done after) → now ≡ after
    done_same now after is = cc
over_own own place (write_value value None by ∷ todo) memories turns after over all is = cc
over_own own place (write_value value (Some to) by ∷ todo) memories turns after over all is =
    over_own own place todo (apply (write to by value) memories) turns after (changed_above own memories to.level to.container (with_elements (λ width. changed_at to.element (written width by value))) all.0 over) all.1 is
over_own own place (transfer from to by ∷ todo) memories turns after over all is = absurd all.0
over_own own place (push_to level container value ∷ todo) memories turns after over all is =
    over_own own place todo (apply (push level container value) memories) turns after (changed_above own memories level container (with_values (appended value)) all.0 over) all.1 is

pub stays_over : (own : Memory) (todo : List Pending) (before after : Reached) → AllByRecursion IsOutward todo → IsDone (performing todo) before None after → IsOver own before → IsOver own after
stays_over own todo before after all done over =
    let nowhere : Place = record { frames = [] } in
    over_own own nowhere todo before.memories before.turns after over all (done.comes nowhere)

-- ---- what effects have to do

outward_at : (context : Context) (outs : List Link) (number : ℕ) (link : Link) → AreOutward context outs → slice_get outs number ≡ Some link → 0 < (context.reach link.memlet.container).level
outward_at context [] number link all there = cc
outward_at context (first ∷ outs) zero link all there = subst (λ (l : Link). 0 < (context.reach l.memlet.container).level) (same first link there) all.0
  where
    same : (a b : Link) → Some a ≡ Some b → a ≡ b
    same a b is = cc
outward_at context (first ∷ outs) (suc number) link all there = outward_at context outs number link all.1 there

outward_write : (reach : Reach) (index : List ℤ) (value : ℤ) (by : Option Resolution) (found : Option ℕ) → 0 < reach.level →
    IsOutward (write_value value (option_map (λ element. record { level = reach.level; container = reach.container; element = element }) found) by)
outward_write reach index value by None above = tt
outward_write reach index value by (Some element) above = above

outward_through : (context : Context) (link : Link) (effect : Effect) (streams : Bool) → 0 < (context.reach link.memlet.container).level →
    IsOutward (if streams then push_to (context.reach link.memlet.container).level (context.reach link.memlet.container).container effect.value else write_value effect.value (link_element context link effect.at) link.memlet.resolution)
outward_through context link effect true above = above
outward_through context link effect false above =
    outward_write (context.reach link.memlet.container) [] effect.value link.memlet.resolution ((context.reach link.memlet.container).find (index_at link.memlet.subset.dims context.values effect.at)) above

outward_by : (context : Context) (effect : Effect) (link : Option Link) → ((there : Link) → link ≡ Some there → 0 < (context.reach there.memlet.container).level) → IsOutward (pending_by context link effect)
outward_by context effect None above = tt
outward_by context effect (Some link) above = outward_through context link effect (is_stream (container_at context.containers link.memlet.container).kind) (above link refl)

outward_test : (context : Context) (outs : List Link) (effect : Effect) (number : ℕ) (test : Bool) → AreOutward context outs → IsOutward (if test then pending_by context None effect else pending_by context (slice_get outs number) effect)
outward_test context outs effect number true all = tt
outward_test context outs effect number false all = outward_by context effect (slice_get outs number) (λ there is. outward_at context outs number there all is)

pub outward_all : (context : Context) (ins outs : List Link) (effects : List Effect) → AreOutward context outs → AllByRecursion IsOutward (map (pending_of context ins outs) effects)
outward_all context ins outs [] all = tt
outward_all context ins outs (effect ∷ effects) all =
    (outward_test context outs effect (effect.connector - length ins) (nat_lt effect.connector (length ins)) all, outward_all context ins outs effects all)
