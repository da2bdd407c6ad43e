-- Work whose pools are safe ends alike from alike memories.
use Rattle.std.proofs.Common.{ℕ, List, [], ◌∷◌, Option, Some, None, Result, Ok, Err, ℤ, true, false, refl, sym, subst, inl, inr}
use Rattle.std.specs.Bool.{⊤}
use Rattle.sd_num.specs.declared.resolution.Resolution.{Resolution}
use Rattle.sd_work.specs.Memory.{Memories, Reference}
use Rattle.sd_work.specs.Leaf.{Pending, write_value, transfer, push_to, Leaf, reading, doing}
use Rattle.sd_work.specs.Move.{Fault}
use Rattle.sd_work.specs.Exit.{Guard, Exit, first_exit}
use Rattle.sd_work.specs.Residual.{Term, leaf, list, owning, nested, ended, pool, Terms, none, also, Actives, idle}
use Rattle.sd_work.specs.Touch.{Touch, reads, writes, pushes, takes, IsRead, IsWrite, SomeRead, SomePendingTouches, LeafTouches, GuardTouches, SomeExitTouches}
use Rattle.sd_confluence.specs.Safe.{IsPoolSafe}
use Rattle.sd_exchange.specs.reorder.SafePools.{HasSafePools, HaveSafePools}
use Rattle.sd_exchange.proofs.reorder_lemmas.Following.{IsBlindTo, follow-reached, follow-leaf, SameWay}
use Rattle.sd_exchange.proofs.reorder_lemmas.Lockstep.{exit-same}
use Rattle.sd_exchange.proofs.reorder_lemmas.Nearly.{same-memory, Near}
use Rattle.sd_exchange.proofs.reorder_lemmas.Ends.{EndsAlike, EndAlike, end-none, end-also, ends-list, ends-owning, ends-nested, ends-ended, blind-near, EachEndsAlike}
use Rattle.sd_exchange.proofs.reorder_lemmas.PoolOrder.{AreWorks, ends-pool}

-- any touch but a take
abbrev pub NoTake : Touch → Type 0
NoTake (reads from) = ⊤
NoTake (writes to by) = ⊤
NoTake (pushes level container) = ⊤
NoTake (takes level container) = ⊥

pub blind-no-take : IsBlindTo NoTake Near
blind-no-take = blind-near NoTake (λ l k t. t)

read_no_take : (r : Option Reference) (a : Touch) → IsRead r a → NoTake a
read_no_take None a h = elim h [ ]
read_no_take (Some from) a h = subst NoTake (sym h) tt

write_no_take : (r : Option Reference) (by : Option Resolution) (a : Touch) → IsWrite r by a → NoTake a
write_no_take None by a h = elim h [ ]
write_no_take (Some to) by a h = subst NoTake (sym h) tt

reads_no_take : (rs : List (Option Reference)) (a : Touch) → SomeRead rs a → NoTake a
reads_no_take [] a h = elim h [ ]
reads_no_take (r ∷ rs) a (inl h) = read_no_take r a h
reads_no_take (r ∷ rs) a (inr h) = reads_no_take rs a h

pending_no_take : (left : List Pending) (a : Touch) → SomePendingTouches left a → NoTake a
pending_no_take [] a h = elim h [ ]
pending_no_take (write_value value to by ∷ left) a (inl h) = write_no_take to by a h
pending_no_take (transfer from to by ∷ left) a (inl (inl h)) = read_no_take from a h
pending_no_take (transfer from to by ∷ left) a (inl (inr h)) = write_no_take to by a h
pending_no_take (push_to level container value ∷ left) a (inl h) = subst NoTake (sym h) tt
pending_no_take (next ∷ left) a (inr h) = pending_no_take left a h

leaf_no_take : (work : Leaf) (a : Touch) → LeafTouches work a → NoTake a
leaf_no_take (reading begun left values evaluation) a (inl h) = reads_no_take left a h
leaf_no_take (reading begun left values evaluation) a (inr (given, effects, e, h)) = pending_no_take effects a h
leaf_no_take (doing left) a h = pending_no_take left a h

exits_no_take : {P : Type 0} (es : List (Exit P)) (a : Touch) → SomeExitTouches es a → NoTake a
exits_no_take [] a h = elim h [ ]
exits_no_take {P} (e ∷ es) a (inl h) = guard_no_take e.when h
  where
    guard_no_take : (g : Option (Guard P)) → GuardTouches g a → NoTake a
    guard_no_take None h = elim h [ ]
    guard_no_take (Some g) h = reads_no_take g.reads a h
exits_no_take (e ∷ es) a (inr h) = exits_no_take es a h

-- a leaf does the same at whatever place
pub ends-leaf : {P Q : Type 0} (place : P) (other : Q) (work : Leaf) → EndsAlike (leaf place work) (leaf other work)
ends-leaf place other work = record { ends = λ most n s v r. follow-leaf NoTake Near blind-no-take place other work (leaf_no_take work) s v r n }

same_way : {P : Type 0} (w : Result (Option (Exit P)) (Fault P)) → SameWay w w
same_way (Err fault) = tt
same_way (Ok None) = tt
same_way (Ok (Some e)) = (refl, refl, refl)

pub way-near : {P : Type 0} (es : List (Exit P)) (s v : Memories) → Near s v → SameWay (first_exit es s) (first_exit es v)
way-near es s v r = subst (SameWay (first_exit es s)) (exit-same NoTake Near blind-no-take es (exits_no_take es) s v r) (same_way (first_exit es s))

pub ends-closed : {P Q : Type 0} (l k : ℕ) (body : ℤ → Term P) (body' : ℤ → Term Q) (active : Actives P) (active' : Actives Q) → EndsAlike (pool l k body active true) (pool l k body' active' true)
ends-closed l k body body' active active' = record { ends = λ most n s v r. follow-reached Near n s v r }

pub safe-works : {P : Type 0} (body : ℤ → Term P) → IsPoolSafe body idle → ((v : ℤ) → EndsAlike (body v) (body v)) → AreWorks body
safe-works body h e = record { compatible = λ v w a b t u. h a b (inr (v, t)) (inr (w, u)); alike = e }

mutual
  pub ends-itself : {P : Type 0} (t : Term P) → HasSafePools t → EndsAlike t t
  ends-itself (leaf place work) h = ends-leaf place place work
  ends-itself (list kind before parts) h = ends-list kind kind before before parts parts (end-themselves parts h)
  ends-itself (owning own part) h = ends-owning own own part part (same-memory (λ k. ⊤) own) (ends-itself part h)
  ends-itself (nested body exits own state values part) h =
      ends-nested body body exits exits own own state values part part (λ state values. ends-itself (body state values) (h.1 state values)) (λ state values s v r. way-near (exits state values) s v r) (same-memory (λ k. ⊤) own) (ends-itself part h.0)
  ends-itself (ended own) h = ends-ended own own
  ends-itself (pool level container body active true) h = ends-closed level container body body active active
  ends-itself (pool level container body active false) h =
      subst (λ x. EndsAlike (pool level container body x false) (pool level container body x false)) (sym h.0)
      (ends-pool level container body body (safe-works body h.1 (λ v. ends-itself (body v) (h.2 v))) (λ v. ends-itself (body v) (h.2 v)))

  pub end-themselves : {P : Type 0} (ts : Terms P) → HaveSafePools ts → EndAlike ts ts
  end-themselves none h = end-none
  end-themselves (also t ts) h = end-also t t ts ts (ends-itself t h.0) (end-themselves ts h.1)

pub each-itself : {P : Type 0} (ts : Terms P) → HaveSafePools ts → EachEndsAlike ts
each-itself none h = tt
each-itself (also t ts) h = (ends-itself t h.0, each-itself ts h.1)
