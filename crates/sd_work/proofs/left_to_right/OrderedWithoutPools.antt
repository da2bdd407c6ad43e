-- A term without pools takes from no stream, so its pools stand in order.
use Rattle.std.proofs.Common.{ℕ, zero, suc, List, [], ◌∷◌, Option, Some, None, inl, inr}
use Rattle.sd_work.specs.Memory.{Reference}
use Rattle.sd_work.specs.Leaf.{Pending, write_value, transfer, push_to, Leaf, reading, doing}
use Rattle.sd_work.specs.Exit.{Guard, Exit}
use Rattle.sd_num.specs.declared.resolution.Resolution.{Resolution}
use Rattle.sd_work.specs.Residual.{Term, leaf, list, owning, nested, ended, pool, Terms, none, also, part_at}
use Rattle.sd_work.specs.Touch.{takes, IsRead, IsWrite, SomeRead, PendingTouches, SomePendingTouches, LeafTouches, GuardTouches, SomeExitTouches, Touches, SomePartTouches}
use Rattle.sd_work.specs.WellFormed.{HasNoPool, HaveNoPool}
use Rattle.sd_work.specs.OrderedPools.{HasOrderedPools, HaveOrderedPools}

read_takes : (from : Option Reference) (l c : ℕ) → IsRead from (takes l c) → ⊥
read_takes None l c h = h
read_takes (Some from) l c h = cc

write_takes : (to : Option Reference) (by : Option Resolution) (l c : ℕ) → IsWrite to by (takes l c) → ⊥
write_takes None by l c h = h
write_takes (Some to) by l c h = cc

reads_take : (reads : List (Option Reference)) (l c : ℕ) → SomeRead reads (takes l c) → ⊥
reads_take [] l c h = h
reads_take (next ∷ left) l c h = elim h [ inl a ↦ read_takes next l c a | inr b ↦ reads_take left l c b ]

pending_takes : (next : Pending) (l c : ℕ) → PendingTouches next (takes l c) → ⊥
pending_takes (write_value value to by) l c h = write_takes to by l c h
pending_takes (transfer from to by) l c h = elim h [ inl a ↦ read_takes from l c a | inr b ↦ write_takes to by l c b ]
pending_takes (push_to m d value) l c h = cc

pendings_take : (left : List Pending) (l c : ℕ) → SomePendingTouches left (takes l c) → ⊥
pendings_take [] l c h = h
pendings_take (next ∷ left) l c h = elim h [ inl a ↦ pending_takes next l c a | inr b ↦ pendings_take left l c b ]

leaf_takes : (work : Leaf) (l c : ℕ) → LeafTouches work (takes l c) → ⊥
leaf_takes (reading begun left values evaluation) l c h = elim h [ inl a ↦ reads_take left l c a | inr b ↦ pendings_take b.1 l c b.3 ]
leaf_takes (doing left) l c h = pendings_take left l c h

guard_takes : {P : Type 0} (when : Option (Guard P)) (l c : ℕ) → GuardTouches when (takes l c) → ⊥
guard_takes None l c h = h
guard_takes (Some guard) l c h = reads_take guard.reads l c h

exits_take : {P : Type 0} (exits : List (Exit P)) (l c : ℕ) → SomeExitTouches exits (takes l c) → ⊥
exits_take [] l c h = h
exits_take (exit ∷ exits) l c h = elim h [ inl a ↦ guard_takes exit.when l c a | inr b ↦ exits_take exits l c b ]

mutual
  takes-none : {P : Type 0} (t : Term P) → HasNoPool t → (l c : ℕ) → Touches t (takes l c) → ⊥
  takes-none (leaf place work) h l c touch = leaf_takes work l c touch
  takes-none (list kind before parts) h l c touch = parts_take-none parts h l c touch
  takes-none (owning own part) h l c touch = takes-none part h (suc l) c touch
  takes-none (nested body exits own state values part) h l c touch =
      elim touch [
        | inl a ↦ takes-none part h.0 (suc l) c a
        | inr b ↦ elim b [
          | inl d ↦ takes-none (body d.0 d.1) (h.1 d.0 d.1) (suc l) c d.2
          | inr e ↦ exits_take (exits e.0 e.1) (suc l) c e.2
        ]
      ]
  takes-none (ended own) h l c touch = touch
  takes-none (pool level container body active closed) h l c touch = elim h [ ]

  parts_take-none : {P : Type 0} (parts : Terms P) → HaveNoPool parts → (l c : ℕ) → SomePartTouches parts (takes l c) → ⊥
  parts_take-none none h l c touch = touch
  parts_take-none (also part parts) h l c touch = elim touch [ inl a ↦ takes-none part h.0 l c a | inr b ↦ parts_take-none parts h.1 l c b ]

-- a part of terms without pools has none
part-none : {P : Type 0} (parts : Terms P) → HaveNoPool parts → (i : ℕ) → HasNoPool (part_at parts i)
part-none none h i = tt
part-none (also part parts) h zero = h.0
part-none (also part parts) h (suc i) = part-none parts h.1 i

mutual
  -- the pools of a term without pools stand in order
  pub ordered-without-pools : {P : Type 0} (term : Term P) (depth : ℕ) → HasNoPool term → HasOrderedPools depth term
  ordered-without-pools (leaf place work) depth h = tt
  ordered-without-pools (list kind before parts) depth h = (parts_ordered-without-pools parts depth h, λ e i j up q l c into touch. takes-none (part_at parts j) (part-none parts h j) l c touch)
  ordered-without-pools (owning own part) depth h = ordered-without-pools part (suc depth) h
  ordered-without-pools (nested body exits own state values part) depth h =
      (ordered-without-pools part (suc depth) h.0, λ state values. ordered-without-pools (body state values) (suc depth) (h.1 state values))
  ordered-without-pools (ended own) depth h = tt
  ordered-without-pools (pool level container body active closed) depth h = elim h [ ]

  parts_ordered-without-pools : {P : Type 0} (parts : Terms P) (depth : ℕ) → HaveNoPool parts → HaveOrderedPools depth parts
  parts_ordered-without-pools none depth h = tt
  parts_ordered-without-pools (also part parts) depth h = (ordered-without-pools part depth h.0, parts_ordered-without-pools parts depth h.1)
