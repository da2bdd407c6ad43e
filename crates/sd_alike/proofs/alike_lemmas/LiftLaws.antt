-- A memory that nothing reaches is not seen and not changed.
use Rattle.std.proofs.Common.{◌≡◌, ℕ, zero, suc, pos, [], ◌∷◌, drop, Option, Some, None, slice_index_or, refl, ap}
use Rattle.sd_num.specs.declared.width.Width.TheVariants.{W64}
use Rattle.sd_work.specs.Memory.{Contents, Memory, Memories, Reference, stream, elements_of, look, seen, values_of, waiting}
use Rattle.sd_work.specs.Change.{Change, nothing, write, push, take, with_contents, apply}
use Rattle.sd_alike.specs.alike.Lift.{Lift, as_it_is, added, inside, with_memory, level_behind, memories_in, level_in, reference_in, access_in, change_in}

memory_behind : (above level : ℕ) (memory : Memory) (memories : Memories) → slice_index_or (with_memory above memory memories) (level_behind above level) [] ≡ slice_index_or memories level []
memory_behind zero level memory memories = refl
memory_behind (suc above) zero memory [] = refl
memory_behind (suc above) zero memory (first ∷ memories) = refl
memory_behind (suc above) (suc level) memory [] = memory_behind above level memory []
memory_behind (suc above) (suc level) memory (first ∷ memories) = memory_behind above level memory memories

pub memory_in : (lift : Lift) (level : ℕ) (memories : Memories) → slice_index_or (memories_in lift memories) (level_in lift level) [] ≡ slice_index_or memories level []
memory_in as_it_is level memories = refl
memory_in (added above memory) level memories = memory_behind above level memory memories

pub look_in : (lift : Lift) (reference : Reference) (memories : Memories) → look (reference_in lift reference) (memories_in lift memories) ≡ look reference memories
look_in lift reference memories = ap (λ memory. slice_index_or (elements_of (slice_index_or memory reference.container (stream W64 []))) reference.element (pos 0)) (memory_in lift reference.level memories)

pub seen_in : (lift : Lift) (access : Option Reference) (memories : Memories) → seen (access_in lift access) (memories_in lift memories) ≡ seen access memories
seen_in lift None memories = refl
seen_in lift (Some reference) memories = ap Some (look_in lift reference memories)

pub waiting_in : (lift : Lift) (level container : ℕ) (memories : Memories) → waiting (level_in lift level) container (memories_in lift memories) ≡ waiting level container memories
waiting_in lift level container memories = ap (λ memory. values_of (slice_index_or memory container (stream W64 []))) (memory_in lift level memories)

changed_behind : (above level container : ℕ) (change : Contents → Contents) (memory : Memory) (memories : Memories) →
    with_contents (level_behind above level) container change (with_memory above memory memories) ≡ with_memory above memory (with_contents level container change memories)
changed_behind zero level container change memory memories = refl
changed_behind (suc above) zero container change memory [] = refl
changed_behind (suc above) zero container change memory (first ∷ memories) = refl
changed_behind (suc above) (suc level) container change memory [] = ap (λ others. [] ∷ others) (changed_behind above level container change memory [])
changed_behind (suc above) (suc level) container change memory (first ∷ memories) = ap (λ others. first ∷ others) (changed_behind above level container change memory memories)

changed_in : (lift : Lift) (level container : ℕ) (change : Contents → Contents) (memories : Memories) →
    with_contents (level_in lift level) container change (memories_in lift memories) ≡ memories_in lift (with_contents level container change memories)
changed_in as_it_is level container change memories = refl
changed_in (added above memory) level container change memories = changed_behind above level container change memory memories

pub apply_in : (lift : Lift) (change : Change) (memories : Memories) → apply (change_in lift change) (memories_in lift memories) ≡ memories_in lift (apply change memories)
apply_in lift nothing memories = refl
apply_in lift (write to by value) memories = changed_in lift to.level to.container _ memories
apply_in lift (push level container value) memories = changed_in lift level container _ memories
apply_in lift (take level container position) memories = changed_in lift level container _ memories

pub entered_in : (lift : Lift) (own : Memory) (memories : Memories) → memories_in (inside lift) (own ∷ memories) ≡ own ∷ memories_in lift memories
entered_in as_it_is own memories = refl
entered_in (added above memory) own memories = refl

pub left_in : (lift : Lift) (memories : Memories) → drop 1 (memories_in (inside lift) memories) ≡ memories_in lift (drop 1 memories)
left_in as_it_is memories = refl
left_in (added above memory) [] = refl
left_in (added above memory) (own ∷ memories) = refl
