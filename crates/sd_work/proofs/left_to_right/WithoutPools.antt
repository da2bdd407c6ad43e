-- Terms without pools: they are settled as they are, and moves leave no pool.
use Rattle.std.proofs.Common.{◌≡◌, ℕ, zero, suc, List, [], ◌∷◌, ◌++◌, map, Bool, true, ◌&&◌, refl, ap, ◌∙◌, subst}
use Rattle.sd_work.specs.Memory.{Memories}
use Rattle.sd_work.specs.Change.{Change}
use Rattle.sd_work.specs.Move.{goes}
use Rattle.sd_work.specs.LeafMove.{leaf_move}
use Rattle.sd_work.specs.Exit.{first_exit}
use Rattle.sd_work.specs.Residual.{Parts, Term, leaf, list, owning, nested, ended, pool, Terms, none, also, finished, is_ready}
use Rattle.sd_work.specs.Moves.{Path}
use Rattle.sd_work.specs.Fire.{owned, transition, fire, fire_part}
use Rattle.sd_work.specs.Settle.{is_first_left, settle, settle_parts, settled}
use Rattle.sd_work.specs.WellFormed.{HasNoPool, HaveNoPool}
use Rattle.sd_work.proofs.Leaving.{Leaves, leaves_any, leaves_map, leaves_owned, leaves_cond, leaves_transition}

mutual
  settle-none : {P : Type 0} (may_go : Bool) (cleared : List Bool) (memories : Memories) (term : Term P) → HasNoPool term → settle may_go cleared memories term ≡ term
  settle-none may_go cleared memories (leaf place work) h = refl
  settle-none may_go cleared memories (list kind before parts) h = ap (list kind before) (settle_parts-none may_go cleared memories kind before [] 0 parts h)
  settle-none may_go cleared memories (owning own part) h = ap (owning own) (settle-none may_go (true ∷ cleared) (own ∷ memories) part h)
  settle-none may_go cleared memories (nested body exits own state values part) h = ap (nested body exits own state values) (settle-none may_go (true ∷ cleared) (own ∷ memories) part h.0)
  settle-none may_go cleared memories (ended own) h = refl
  settle-none may_go cleared memories (pool level container body active closed) h = elim h [ ]

  settle_parts-none : {P : Type 0} (may_go : Bool) (cleared : List Bool) (memories : Memories) (kind : Parts) (before : ℕ → ℕ → Bool) (flags : List Bool) (number : ℕ) (parts : Terms P) → HaveNoPool parts →
      settle_parts may_go cleared memories kind before flags number parts ≡ parts
  settle_parts-none may_go cleared memories kind before flags number none h = refl
  settle_parts-none may_go cleared memories kind before flags number (also part parts) h =
      let now = settle (may_go && is_ready before flags number) (map (λ flag. is_first_left kind flags && flag) cleared) memories part in
      ap (also now) (settle_parts-none may_go cleared memories kind before (flags ++ finished now ∷ []) (suc number) parts h.1)
      ∙ ap (λ left. also left parts) (settle-none (may_go && is_ready before flags number) (map (λ flag. is_first_left kind flags && flag) cleared) memories part h.0)

pub settled-none : {P : Type 0} (term : Term P) → HasNoPool term → settled term ≡ term
settled-none term h = settle-none true [] [] term h

mutual
  fire-none : {P : Type 0} (term : Term P) → HasNoPool term → (path : Path) (memories : Memories) → Leaves HasNoPool (fire term path memories)
  fire-none (leaf place work) h path memories = leaves_any (leaf place) HasNoPool (λ x. tt) (leaf_move place work memories)
  fire-none (list kind before parts) h [] memories = tt
  fire-none (list kind before parts) h (number ∷ path) memories =
      leaves_map (list kind before) HaveNoPool HasNoPool (λ x g. g) (fire_part parts number path memories) (fire_part-none parts h number path memories)
  fire-none (owning own part) h path memories = leaves_owned HasNoPool HasNoPool owning own (λ memory x g. g) (fire part path (own ∷ memories)) (fire-none part h path (own ∷ memories))
  fire-none (nested body exits own state values part) h path memories =
      leaves_cond HasNoPool (finished part) (transition body exits own (first_exit (exits state values) (own ∷ memories)))
      (owned (λ memory left. nested body exits memory state values left) own (fire part path (own ∷ memories)))
      (leaves_transition HasNoPool body exits own tt (λ k w. (h.1 k w, h.1)) (first_exit (exits state values) (own ∷ memories)))
      (leaves_owned HasNoPool HasNoPool (λ memory left. nested body exits memory state values left) own (λ memory x g. (g, h.1)) (fire part path (own ∷ memories)) (fire-none part h.0 path (own ∷ memories)))
  fire-none (ended own) h path memories = tt
  fire-none (pool level container body active closed) h path memories = elim h [ ]

  fire_part-none : {P : Type 0} (parts : Terms P) → HaveNoPool parts → (number : ℕ) (path : Path) (memories : Memories) → Leaves HaveNoPool (fire_part parts number path memories)
  fire_part-none none h number path memories = tt
  fire_part-none (also part parts) h zero path memories = leaves_map (λ left. also left parts) HasNoPool HaveNoPool (λ x g. (g, h.1)) (fire part path memories) (fire-none part h.0 path memories)
  fire_part-none (also part parts) h (suc number) path memories =
      leaves_map (also part) HaveNoPool HaveNoPool (λ x g. (h.0, g)) (fire_part parts number path memories) (fire_part-none parts h.1 number path memories)

-- a term without pools leaves one without pools
pub fired-none : {P : Type 0} (term : Term P) → HasNoPool term → (path : Path) (memories : Memories) (turn : Bool) (change : Change) (left : Term P) → fire term path memories ≡ goes turn change left → HasNoPool left
fired-none term h path memories turn change left e = subst (Leaves HasNoPool) e (fire-none term h path memories)
