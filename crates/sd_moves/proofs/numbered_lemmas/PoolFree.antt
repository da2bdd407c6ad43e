-- Work without pools.
use Rattle.std.proofs.Common.{◌≡◌, ℕ, zero, suc, ◌+◌, ◌-◌, nat_lt, List, [], ◌∷◌, Bool, true, false, cond, if◌then◌else◌, refl, sym, ◌∙◌, ap, ap₂, subst}
use Rattle.std.specs.Bool.{⊤}
use Rattle.sd_work.specs.Memory.{Memories}
use Rattle.sd_work.specs.Move.{Move, fails, goes, no_move}
use Rattle.sd_work.specs.LeafMove.{leaf_move}
use Rattle.sd_work.specs.Exit.{first_exit}
use Rattle.sd_work.specs.Residual.{Term, leaf, list, owning, nested, ended, pool, Terms, none, also, finished, flags_of, is_ready}
use Rattle.sd_work.specs.Moves.{Path}
use Rattle.sd_work.specs.Fire.{fire, fire_part}
use Rattle.sd_work.specs.Settle.{settled}
use Rattle.sd_work.specs.Step.{Machine, Outcome, Done, Faulted, Spent, spend, moved, step}
use Rattle.sd_work.specs.WellFormed.{HasNoPool, HaveNoPool}
use Rattle.sd_work.proofs.Leaving.{Leaves, leaves_any, leaves_map, leaves_owned, leaves_cond, leaves_transition}
use Rattle.sd_moves.specs.numbered.OpenPools.{HasNoOpenPool, HaveNoOpenPool}
use Rattle.sd_moves.specs.numbered.Counts.{count, count_parts}
use Rattle.sd_moves.specs.numbered.Places.{here_or_later, place_of, place_in_parts}
use Rattle.sd_moves.proofs.numbered_lemmas.Open.{settled-open}

mutual
  pub no_open : {P : Type 0} (term : Term P) → HasNoPool term → HasNoOpenPool term
  no_open (leaf place work) h = tt
  no_open (list kind before parts) h = no_open_parts parts h
  no_open (owning own part) h = no_open part h
  no_open (nested body exits own state values part) h = no_open part h.0
  no_open (ended own) h = tt
  no_open (pool level container body active closed) h = absurd h

  no_open_parts : {P : Type 0} (parts : Terms P) → HaveNoPool parts → HaveNoOpenPool parts
  no_open_parts none h = tt
  no_open_parts (also part parts) h = (no_open part h.0, no_open_parts parts h.1)

mutual
  free-kept : {P : Type 0} (term : Term P) (path : Path) (memories : Memories) → HasNoPool term → Leaves HasNoPool (fire term path memories)
  free-kept (leaf place work) path memories h = leaves_any (leaf place) HasNoPool (λ w. tt) (leaf_move place work memories)
  free-kept (list kind before parts) [] memories h = tt
  free-kept (list kind before parts) (k ∷ path) memories h = leaves_map (list kind before) HaveNoPool HasNoPool (λ x g. g) (fire_part parts k path memories) (free_part parts k path memories h)
  free-kept (owning own part) path memories h = leaves_owned HasNoPool HasNoPool owning own (λ f x g. g) (fire part path (own ∷ memories)) (free-kept part path (own ∷ memories) h)
  free-kept (nested body exits own state values part) path memories h =
      leaves_cond HasNoPool (finished part) _ _ (leaves_transition HasNoPool body exits own tt (λ k e. (h.1 k e, h.1)) (first_exit (exits state values) (own ∷ memories)))
      (leaves_owned HasNoPool HasNoPool (λ f x. nested body exits f state values x) own (λ f x g. (g, h.1)) (fire part path (own ∷ memories)) (free-kept part path (own ∷ memories) h.0))
  free-kept (ended own) path memories h = tt
  free-kept (pool level container body active closed) path memories h = absurd h

  free_part : {P : Type 0} (parts : Terms P) (k : ℕ) (path : Path) (memories : Memories) → HaveNoPool parts → Leaves HaveNoPool (fire_part parts k path memories)
  free_part none k path memories h = tt
  free_part (also part parts) zero path memories h = leaves_map (λ x. also x parts) HasNoPool HaveNoPool (λ x g. (g, h.1)) (fire part path memories) (free-kept part path memories h.0)
  free_part (also part parts) (suc k) path memories h = leaves_map (also part) HaveNoPool HaveNoPool (λ x g. (h.0, g)) (fire_part parts k path memories) (free_part parts k path memories h.1)

settled_free : {P : Type 0} (term : Term P) → HasNoPool term → HasNoPool (settled term)
settled_free term h = subst HasNoPool (sym (settled-open term true [] [] (no_open term h))) h

-- the machine after a step has none, where there is one
abbrev LeavesFree : {P : Type 0} → Outcome P (Machine P) → Type 0
LeavesFree (Done machine) = HasNoPool machine.term
LeavesFree (Faulted fault) = ⊤
LeavesFree Spent = ⊤

free-spend : {P : Type 0} (turn : Bool) (turns : ℕ) (rest : ℕ → Outcome P (Machine P)) → ((n : ℕ) → LeavesFree (rest n)) → LeavesFree (spend Spent turn turns rest)
free-spend true zero rest h = tt
free-spend true (suc turns) rest h = h turns
free-spend false turns rest h = h turns

free-moved : {P : Type 0} (machine : Machine P) (move : Move P (Term P)) → HasNoPool machine.term → Leaves HasNoPool move → LeavesFree (moved machine move)
free-moved machine (fails turn fault) h g = free-spend turn machine.turns (λ turns. Faulted fault) (λ turns. tt)
free-moved machine (goes turn change left) h g = free-spend turn machine.turns (λ turns. Done (record { term = settled left; turns = turns })) (λ turns. settled_free left g)
free-moved machine no_move h g = h

pub step-free : {P : Type 0} (machine next : Machine P) (path : Path) → HasNoPool machine.term → step path machine ≡ Done next → HasNoPool next.term
step-free machine next path h e = subst LeavesFree e (free-moved machine (fire machine.term path []) h (free-kept machine.term path [] h))

mutual
  pub count-free : {P : Type 0} (term : Term P) (memories others : Memories) → HasNoPool term → count term memories ≡ count term others
  count-free (leaf place work) memories others h = refl
  count-free (list kind before parts) memories others h = count-free_parts before (flags_of parts) 0 parts memories others h
  count-free (owning own part) memories others h = count-free part (own ∷ memories) (own ∷ others) h
  count-free (nested body exits own state values part) memories others h = ap (cond (finished part) 1) (count-free part (own ∷ memories) (own ∷ others) h.0)
  count-free (ended own) memories others h = refl
  count-free (pool level container body active closed) memories others h = absurd h

  count-free_parts : {P : Type 0} (before : ℕ → ℕ → Bool) (flags : List Bool) (number : ℕ) (parts : Terms P) (memories others : Memories) → HaveNoPool parts
      → count_parts before flags number parts memories ≡ count_parts before flags number parts others
  count-free_parts before flags number none memories others h = refl
  count-free_parts before flags number (also part parts) memories others h =
      ap₂ (λ a b. cond (is_ready before flags number) a 0 + b) (count-free part memories others h.0) (count-free_parts before flags (suc number) parts memories others h.1)

same_or_later : {A : Type 0} (k few few' : ℕ) (here here' : A) (later later' : ℕ → A) → few ≡ few' → here ≡ here' → ((n : ℕ) → later n ≡ later' n) → here_or_later k few here later ≡ here_or_later k few' here' later'
same_or_later k few few' here here' later later' e f g =
    ap (λ few. here_or_later k few here later) e ∙ ap (λ here. here_or_later k few' here later) f ∙ ap (λ other. if nat_lt k few' then here' else other) (g (k - few'))

mutual
  pub place-free : {P : Type 0} (term : Term P) (memories others : Memories) (k : ℕ) → HasNoPool term → place_of term memories k ≡ place_of term others k
  place-free (leaf place work) memories others k h = refl
  place-free (list kind before parts) memories others k h = place-free_parts before (flags_of parts) 0 parts memories others h k
  place-free (owning own part) memories others k h = place-free part (own ∷ memories) (own ∷ others) k h
  place-free (nested body exits own state values part) memories others k h = ap (cond (finished part) []) (place-free part (own ∷ memories) (own ∷ others) k h.0)
  place-free (ended own) memories others k h = refl
  place-free (pool level container body active closed) memories others k h = absurd h

  place-free_parts : {P : Type 0} (before : ℕ → ℕ → Bool) (flags : List Bool) (number : ℕ) (parts : Terms P) (memories others : Memories) → HaveNoPool parts → (k : ℕ)
      → place_in_parts before flags number parts memories k ≡ place_in_parts before flags number parts others k
  place-free_parts before flags number none memories others h k = refl
  place-free_parts before flags number (also part parts) memories others h k =
      same_or_later k (cond (is_ready before flags number) (count part memories) 0) (cond (is_ready before flags number) (count part others) 0)
      (number ∷ place_of part memories k) (number ∷ place_of part others k)
      (place_in_parts before flags (suc number) parts memories) (place_in_parts before flags (suc number) parts others)
      (ap (λ few. cond (is_ready before flags number) few 0) (count-free part memories others h.0))
      (ap (λ path. number ∷ path) (place-free part memories others k h.0))
      (place-free_parts before flags (suc number) parts memories others h.1)
