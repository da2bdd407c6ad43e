-- Work that touches nothing of its owner's memory may be done each part in an owner of its own.
use Rattle.std.proofs.Common.{◌≡◌, ℕ, zero, suc, List, [], ◌∷◌, drop, Some, None, Bool, refl, sym, ◌∙◌, ap, subst}
use Rattle.std.specs.Bool.{⊤}
use Rattle.sd_work.specs.Memory.{Memory, Memories}
use Rattle.sd_work.specs.Change.{Change, nothing, write, push, take, apply, outer}
use Rattle.sd_work.specs.Residual.{Parts, Term, list, owning, Terms, none, also}
use Rattle.sd_work.specs.Step.{Done, Faulted, Spent}
use Rattle.sd_work.specs.Touch.{Touch, reads, writes, pushes, takes, Touches}
use Rattle.sd_work.specs.BigStep.{Coming, reached, and_then, leaving, big_step, big_parts}
use Rattle.sd_exchange.proofs.reorder_lemmas.Following.{IsMadeBy, Follows}
use Rattle.sd_exchange.proofs.reorder_lemmas.Lockstep.{apply_all, AreMadeBy, done-does}
use Rattle.sd_exchange.proofs.reorder_lemmas.Nearly.{Near}
use Rattle.sd_exchange.proofs.reorder_lemmas.Ends.{EndAlike}

-- the memory of a touch, counted from the innermost
abbrev pub level_touched : Touch → ℕ
level_touched (reads from) = from.level
level_touched (writes to by) = to.level
level_touched (pushes level container) = level
level_touched (takes level container) = level

-- nothing of the innermost memory is touched
abbrev pub TouchesOutside : (Touch → Type 0) → Type 0
TouchesOutside T = (touch : Touch) → T touch → level_touched touch ≡ 0 → ⊥

kept_by : (T : Touch → Type 0) → TouchesOutside T → (c : Change) → IsMadeBy T c → (own : Memory) (s : Memories) → apply c (own ∷ s) ≡ own ∷ apply (outer c) s
kept_by T h nothing m own s = refl
kept_by T h (write to by value) m own s = at_level to.level to.container to.element m
  where
    at_level : (l k p : ℕ) → T (writes (record { level = l; container = k; element = p }) by) →
        apply (write (record { level = l; container = k; element = p }) by value) (own ∷ s) ≡ own ∷ apply (outer (write (record { level = l; container = k; element = p }) by value)) s
    at_level zero k p t = elim (h (writes (record { level = 0; container = k; element = p }) by) t refl) [ ]
    at_level (suc l) k p t = refl
kept_by T h (push zero k value) m own s = elim (h (pushes 0 k) m refl) [ ]
kept_by T h (push (suc l) k value) m own s = refl
kept_by T h (take zero k position) m own s = elim (h (takes 0 k) m refl) [ ]
kept_by T h (take (suc l) k position) m own s = refl

all_kept : (T : Touch → Type 0) → TouchesOutside T → (cs : List Change) → AreMadeBy T cs → (own : Memory) (s : Memories) → (u : Memories) × (apply_all cs (own ∷ s) ≡ own ∷ u)
all_kept T h [] m own s = (s, refl)
all_kept T h (c ∷ cs) m own s =
    let r = all_kept T h cs m.1 own (apply (outer c) s) in
    (r.0, ap (apply_all cs) (kept_by T h c m.0 own s) ∙ r.1)

-- each part in an owner with this memory
abbrev pub owned_each : {P : Type 0} → Memory → Terms P → Terms P
owned_each own none = none
owned_each own (also t ts) = also (owning own t) (owned_each own ts)

abbrev pub EachOutside : {P : Type 0} → Terms P → Type 0
EachOutside none = ⊤
EachOutside (also t ts) = TouchesOutside (Touches t) × EachOutside ts

pub distributed : {P : Type 0} (own : Memory) (ts : Terms P) → EachOutside ts → (most n : ℕ) (s : Memories) → leaving (big_parts ts most (own ∷ s) n) ≡ big_parts (owned_each own ts) most s n
distributed own none h most n s = refl
distributed {P} own (also t ts) h most n s = go (big_step t most (own ∷ s) n) refl (λ n s. distributed own ts h.1 most n s)
  where
    go : (c : Coming P) → big_step t most (own ∷ s) n ≡ c → ((n : ℕ) (s : Memories) → leaving (big_parts ts most (own ∷ s) n) ≡ big_parts (owned_each own ts) most s n) →
        leaving (and_then c (big_parts ts most)) ≡ and_then (leaving c) (big_parts (owned_each own ts) most)
    go (Some (Done now)) e later =
        let d = done-does t most n (own ∷ s) now e in
        let k = all_kept (Touches t) h.0 d.3.0 d.3.1 own s in
        let same : now.memories ≡ own ∷ k.0 = d.3.2 ∙ k.1 in
        ap (λ (u : Memories). leaving (big_parts ts most u now.turns)) same ∙ later now.turns k.0 ∙ sym (ap (λ (u : Memories). big_parts (owned_each own ts) most (drop 1 u) now.turns) same)
    go (Some (Faulted fault)) e later = refl
    go (Some Spent) e later = refl
    go None e later = refl

pub then_nothing : {P : Type 0} (c : Coming P) → and_then c (λ s n. reached s n) ≡ c
then_nothing (Some (Done now)) = refl
then_nothing (Some (Faulted fault)) = refl
then_nothing (Some Spent) = refl
then_nothing None = refl

-- a list whose one part is a list of parts, in an owner
abbrev pub scope_of : {P : Type 0} → Memory → (kind inner : Parts) → (before after : ℕ → ℕ → Bool) → Terms P → Term P
scope_of own kind inner before after ts = owning own (list kind before (also (list inner after ts) none))

pub scope-distributed : {P : Type 0} (own : Memory) (kind inner : Parts) (before after : ℕ → ℕ → Bool) (ts : Terms P) → EachOutside ts → (most n : ℕ) (s : Memories) → big_step (scope_of own kind inner before after ts) most s n ≡ big_parts (owned_each own ts) most s n
scope-distributed own kind inner before after ts h most n s =
    ap leaving (then_nothing (big_parts ts most (own ∷ s) n)) ∙ distributed own ts h most n s

-- equal steps end alike where one of them does
pub end-equal : {P : Type 0} (ts us vs : Terms P) → ((most n : ℕ) (s : Memories) → big_parts ts most s n ≡ big_parts us most s n) → EndAlike us vs → EndAlike ts vs
end-equal ts us vs e h = record { end = λ most n s v r. subst (λ came. Follows Near n came (big_parts vs most v)) (sym (e most n s)) (h.end most n s v r) }

pub end-equal-to : {P : Type 0} (ts us vs : Terms P) → ((most n : ℕ) (s : Memories) → big_parts us most s n ≡ big_parts vs most s n) → EndAlike ts us → EndAlike ts vs
end-equal-to ts us vs e h = record { end = λ most n s v r. subst (λ other. Follows Near n (big_parts ts most s n) other) (λ i m. e most m v i) (h.end most n s v r) }
