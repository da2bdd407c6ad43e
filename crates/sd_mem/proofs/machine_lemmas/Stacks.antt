-- A stack that is kept with the outermost memory first, and read with the innermost first.
use Rattle.std.proofs.Common.{◌≡◌, ℕ, zero, suc, ◌+◌, ◌-◌, ◌<◌, ◌≤◌, List, [], ◌∷◌, ◌++◌, refl, sym, ap, ◌∙◌, map, reverse, length, get_or, slice_index_or, slice_set, arith}
use Rattle.std.proofs.lemmas.List.{get_or-reverse, length-reverse, length-map, get_or-map, get_or_past, map-append, reverse-append}
use Rattle.std.proofs.lemmas.Grind.{reverse_onto}
use Rattle.sd_work.specs.Memory.{Memory, Memories}
use Rattle.sd_work.specs.Change.{changed_at}
use Rattle.sd_mem.specs.mem.Shaped.{Shaped}
use Rattle.sd_mem.specs.machine.Stack.{memories_of}

-- what a memory of the stack holds
abbrev pub held : Shaped → Memory
held memory = memory.contents

count_held : (kept : List Shaped) → length (memories_of kept) ≡ length kept
count_held kept = length-reverse (map held kept) ∙ length-map kept held

-- the memory of a level
pub memory_at : (kept : List Shaped) (level i : ℕ) (memory : Shaped) → level + suc i ≡ length kept → memory ≡ slice_index_or kept i memory →
    slice_index_or (memories_of kept) level [] ≡ memory.contents
memory_at kept level i memory at is =
    let many = length-map kept held in
    let back : length (map held kept) - 1 - level ≡ i = omega (arith, many, at) in
    get_or-reverse (map held kept) level [] (omega (arith, many, at))
    ∙ ap (λ (k : ℕ). get_or (map held kept) k []) back ∙ get_or-map held kept i memory [] (omega (arith, at)) ∙ ap held (sym is)

-- there is none beyond
pub memory_beyond : (kept : List Shaped) (level : ℕ) → length kept ≤ level → slice_index_or (memories_of kept) level [] ≡ []
memory_beyond kept level beyond = get_or_past (memories_of kept) level [] (omega (arith, count_held kept, beyond))

-- ---- changes

module _ {A : Type 0} (change : A → A) where
  -- a change before the last member, and one of the last member
  changed_before : (members : List A) (last : A) (number : ℕ) → number < length members → changed_at number change (members ++ last ∷ []) ≡ changed_at number change members ++ last ∷ []
  changed_before [] last number below = absurd (omega arith)
  changed_before (member ∷ members) last zero below = refl
  changed_before (member ∷ members) last (suc number) below = ap (λ (rest : List A). member ∷ rest) (changed_before members last number (omega arith))

  changed_last : (members : List A) (last : A) (number : ℕ) → number ≡ length members → changed_at number change (members ++ last ∷ []) ≡ members ++ change last ∷ []
  changed_last [] last zero is = refl
  changed_last [] last (suc number) is = absurd (omega (arith, is))
  changed_last (member ∷ members) last zero is = absurd (omega (arith, is))
  changed_last (member ∷ members) last (suc number) is = ap (λ (rest : List A). member ∷ rest) (changed_last members last number (omega (arith, is)))

  -- a change beyond the last member
  changed_none : (members : List A) (number : ℕ) → length members ≤ number → changed_at number change members ≡ members
  changed_none [] number beyond = refl
  changed_none (member ∷ members) zero beyond = absurd (omega arith)
  changed_none (member ∷ members) (suc number) beyond = ap (λ (rest : List A). member ∷ rest) (changed_none members number (omega arith))

  -- a list read backwards is changed at the number counted from its end
  changed_backwards : (members : List A) (i number : ℕ) → number + suc i ≡ length members → reverse (changed_at i change members) ≡ changed_at number change (reverse members)
  changed_backwards [] i number at = absurd (omega (arith, at))
  changed_backwards (member ∷ members) zero number at =
      reverse_onto members (change member) []
      ∙ sym (changed_last (reverse members) member number (omega (arith, at, length-reverse members)))
      ∙ ap (changed_at number change) (sym (reverse_onto members member []))
  changed_backwards (member ∷ members) (suc i) number at =
      reverse_onto (changed_at i change members) member []
      ∙ ap (λ (rest : List A). rest ++ member ∷ []) (changed_backwards members i number (omega (arith, at)))
      ∙ sym (changed_before (reverse members) member number (omega (arith, at, length-reverse members)))
      ∙ ap (changed_at number change) (sym (reverse_onto members member []))

-- one memory is replaced by one that is changed
replaced : (kept : List Shaped) (i : ℕ) (old new : Shaped) (change : Memory → Memory) → old ≡ slice_index_or kept i old → new.contents ≡ change old.contents →
    map held (slice_set kept i new) ≡ changed_at i change (map held kept)
replaced [] i old new change is same = refl
replaced (memory ∷ kept) zero old new change is same = ap (λ (first : Memory). first ∷ map held kept) (same ∙ ap (λ (old : Shaped). change old.contents) is)
replaced (memory ∷ kept) (suc i) old new change is same = ap (λ (rest : Memories). memory.contents ∷ rest) (replaced kept i old new change is same)

pub stack_changed : (kept : List Shaped) (level i : ℕ) (old new : Shaped) (change : Memory → Memory) → level + suc i ≡ length kept → old ≡ slice_index_or kept i old →
    new.contents ≡ change old.contents → memories_of (slice_set kept i new) ≡ changed_at level change (memories_of kept)
stack_changed kept level i old new change at is same =
    ap reverse (replaced kept i old new change is same)
    ∙ changed_backwards change (map held kept) i level (omega (arith, at, length-map kept held))

-- a change beyond the stack is none
pub stack_kept : (kept : List Shaped) (level : ℕ) (change : Memory → Memory) → length kept ≤ level → memories_of kept ≡ changed_at level change (memories_of kept)
stack_kept kept level change beyond = sym (changed_none change (memories_of kept) level (omega (arith, count_held kept, beyond)))

-- ---- one memory more

-- the last member set
last_set : (kept : List Shaped) (old new : Shaped) (last : ℕ) → last ≡ length kept → slice_set (kept ++ old ∷ []) last new ≡ kept ++ new ∷ []
last_set [] old new zero is = refl
last_set [] old new (suc last) is = absurd (omega (arith, is))
last_set (memory ∷ kept) old new zero is = absurd (omega (arith, is))
last_set (memory ∷ kept) old new (suc last) is = ap (λ (rest : List Shaped). memory ∷ rest) (last_set kept old new last (omega (arith, is)))

-- it is the innermost
innermost_more : (kept : List Shaped) (own : Shaped) → memories_of (kept ++ own ∷ []) ≡ own.contents ∷ memories_of kept
innermost_more kept own = ap reverse (map-append held kept (own ∷ [])) ∙ reverse-append (map held kept) (own.contents ∷ [])

-- an empty one is pushed, and another comes in its place
pub lent : (kept after : List Shaped) (empty own new : Shaped) (last : ℕ) → after ≡ kept ++ empty ∷ [] → last ≡ length kept → new ≡ own →
    memories_of (slice_set after last new) ≡ own.contents ∷ memories_of kept
lent kept after empty own new last pushed is same =
    ap (λ (members : List Shaped). memories_of (slice_set members last new)) pushed
    ∙ ap memories_of (last_set kept empty new last is)
    ∙ innermost_more kept new
    ∙ ap (λ (memory : Shaped). memory.contents ∷ memories_of kept) same
