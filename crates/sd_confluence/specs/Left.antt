-- What a run may leave of work.
use Rattle.std.specs.Prelude.{◌≡◌, ◌⊎◌, ℕ, ℤ, List, Bool, ⊤}
use Rattle.sd_work.specs.Memory.{Memory}
use Rattle.sd_work.specs.Leaf.{Leaf}
use Rattle.sd_work.specs.Exit.{Values, Exit}
use Rattle.sd_work.specs.Residual.{Term, leaf, list, owning, nested, ended, pool, Terms, none, also, Actives, idle, busy}
use Rattle.sd_work.specs.Touch.{Touch, LeafTouches}

-- A term may be left of another, part by part. A leaf is left of one at the same place that touches as much or more; each part of
-- a list of the part of its number; each active term of a pool of the pool's work for its value. What a run of a graph has to do is
-- left of its state, or of another one as it is at the values then. Memories may be any.
abbrev mutual
  pub IsLeftOf : {P : Type 0} → Term P → (left : Term P) → Type 0
  IsLeftOf {P} term (leaf place rest) = (work : Leaf) × (term ≡ leaf place work) × ((touch : Touch) → LeafTouches rest touch → LeafTouches work touch)
  IsLeftOf {P} term (list kind before left) = (parts : Terms P) × (term ≡ list kind before parts) × AreLeftOf parts left
  IsLeftOf {P} term (owning now left) = (own : Memory) × (part : Term P) × (term ≡ owning own part) × IsLeftOf part left
  IsLeftOf {P} term (nested body exits now state values left) =
      (own : Memory) × (first : ℕ) × (given : Values) × (part : Term P) × (term ≡ nested body exits own first given part)
      × (((state ≡ first) × (values ≡ given) × IsLeftOf part left) ⊎ IsLeftOf (body state values) left)
  IsLeftOf {P} term (ended now) =
      ((own : Memory) × (term ≡ ended own))
      ⊎ ((body : ℕ → Values → Term P) × (exits : ℕ → Values → List (Exit P)) × (own : Memory) × (first : ℕ) × (given : Values) × (part : Term P) × (term ≡ nested body exits own first given part))
  IsLeftOf {P} term (pool level container body left closed) =
      (active : Actives P) × (done : Bool) × (term ≡ pool level container body active done) × AreActivesLeftOf body left

  pub AreLeftOf : {P : Type 0} → Terms P → (left : Terms P) → Type 0
  AreLeftOf {P} parts none = parts ≡ none
  AreLeftOf {P} parts (also left others) = (part : Term P) × (rest : Terms P) × (parts ≡ also part rest) × IsLeftOf part left × AreLeftOf rest others

  pub AreActivesLeftOf : {P : Type 0} → (ℤ → Term P) → Actives P → Type 0
  AreActivesLeftOf {P} body idle = ⊤
  AreActivesLeftOf {P} body (busy value left active) = IsLeftOf (body value) left × AreActivesLeftOf body active
