-- Touches of accesses that share no element do not conflict.
use Rattle.std.proofs.Common.{◌≡◌, ◌≢◌, ◌⊎◌, inl, inr, ℕ, ℤ, List, [], true, not, Option, Some, refl, ap, sym, ◌∙◌, subst}
use Rattle.std.proofs.lemmas.Bool.{ne_eqb}
use Rattle.sd_num.specs.declared.resolution.Resolution.{Resolution}
use Rattle.sd_range.proofs.Normal.{by_same}
use Rattle.sd_work.specs.Memory.{Reference}
use Rattle.sd_work.specs.Harmless.{SameCommuting, AreTwo}
use Rattle.sd_work.specs.Touch.{Touch, reads, writes, pushes, takes, AreCompatible}
use Rattle.sd_subset.specs.boxes.Box.{IsInBox}
use Rattle.sd_graph.specs.Context.{Reach}
use Rattle.sd_graph.specs.Mode.{Mode, Read, Write, Resolve, Push, Take, resolution_number, do_conflict}
use Rattle.sd_prop.specs.propagation.Accesses.{Access}
use Rattle.sd_race.specs.cover.Touched.{AllowsRead, AllowsWrite, IsAt, IsStream, IsTouchOf}
use Rattle.sd_race.proofs.cover_lemmas.Joined.{same_resolution}
use Rattle.sd_race.proofs.cover_lemmas.Owners.{reference-parts}
use Rattle.sd_safe.specs.safe.Reached.{FindsOnce, AreReachedApart}

-- two accesses of one container in conflicting modes share no index, where the variables have these values, and are of no stream
pub record AreSeparate (values others : List ℤ) (access other : Access) : Type 0 where
  pub elements : (index : List ℤ) → access.container ≡ other.container → do_conflict access.mode other.mode ≡ true → IsInBox values access.box index → IsInBox others other.box index → ⊥
  pub streams : access.container ≡ other.container → do_conflict access.mode other.mode ≡ true → (access.box ≡ []) ⊎ (other.box ≡ []) → ⊥

-- a read and a write are of modes that conflict
pub read-write : (mode other : Mode) (by : Option Resolution) → AllowsRead mode → AllowsWrite other by → do_conflict mode other ≡ true
read-write Read Read by allows allows' = absurd allows'
read-write Read Write by allows allows' = refl
read-write Read (Resolve resolution) by allows allows' = refl
read-write Read Push by allows allows' = absurd allows'
read-write Read Take by allows allows' = absurd allows'
read-write Write other by allows allows' = refl
read-write (Resolve resolution) other by allows allows' = absurd allows
read-write Push other by allows allows' = absurd allows
read-write Take other by allows allows' = absurd allows

write-read : (mode other : Mode) (by : Option Resolution) → AllowsWrite mode by → AllowsRead other → do_conflict mode other ≡ true
write-read Read other by allows allows' = absurd allows
write-read Write other by allows allows' = refl
write-read (Resolve resolution) Read by allows allows' = refl
write-read (Resolve resolution) Write by allows allows' = refl
write-read (Resolve resolution) (Resolve second) by allows allows' = absurd allows'
write-read (Resolve resolution) Push by allows allows' = refl
write-read (Resolve resolution) Take by allows allows' = refl
write-read Push other by allows allows' = absurd allows
write-read Take other by allows allows' = absurd allows

-- two writes are of modes that conflict, or resolve by one resolution that commutes
write-write : (mode other : Mode) (by second : Option Resolution) → AllowsWrite mode by → AllowsWrite other second → (do_conflict mode other ≡ true) ⊎ SameCommuting by second
write-write Read other by second allows allows' = absurd allows
write-write Write other by second allows allows' = inl refl
write-write (Resolve resolution) Read by second allows allows' = absurd allows'
write-write (Resolve resolution) Write by second allows allows' = inl refl
write-write (Resolve resolution) (Resolve later) by second allows allows' =
    by_same (resolution_number resolution) (resolution_number later)
    (λ same. inr (subst (λ b. SameCommuting b second) (sym allows.0) (subst (SameCommuting (Some resolution)) (sym allows'.0) (same_resolution resolution later same, allows.1))))
    (λ other. inl (ap not (ne_eqb (resolution_number resolution) (resolution_number later) other)))
write-write (Resolve resolution) Push by second allows allows' = absurd allows'
write-write (Resolve resolution) Take by second allows allows' = absurd allows'
write-write Push other by second allows allows' = absurd allows
write-write Take other by second allows allows' = absurd allows

-- elements of separate accesses in conflicting modes are different
elements-differ : (reach : ℕ → Reach) (values others : List ℤ) (access other : Access) (element second : Reference) → ((container : ℕ) → FindsOnce (reach container)) →
    (access.container ≢ other.container → do_conflict access.mode other.mode ≡ true → AreReachedApart reach access.container other.container) →
    AreSeparate values others access other → do_conflict access.mode other.mode ≡ true → IsAt values reach access element → IsAt others reach other second → element ≢ second
elements-differ reach values others access other element second once apart separate conflict here there same =
    let (level, container, found) = reference-parts (reach access.container) ((reach access.container).find here.index) element here.is in
    let (level', container', found') = reference-parts (reach other.container) ((reach other.container).find there.index) second there.is in
    by_same access.container other.container
    (λ one.
    let found'' : (reach access.container).find there.index ≡ Some element.element =
    ap (λ c. (reach c).find there.index) one ∙ found' ∙ sym (ap (λ (r : Reference). Some r.element) same) in
    let index : here.index ≡ there.index = once access.container here.index there.index element.element found found'' in
    separate.elements there.index one conflict (subst (IsInBox values access.box) index here.inside) there.inside)
    (λ different. apart different conflict (level ∙ ap (λ (r : Reference). r.level) same ∙ sym level') (container ∙ ap (λ (r : Reference). r.container) same ∙ sym container'))

-- streams of separate accesses are different where one of them is taken from
streams-differ : (reach : ℕ → Reach) (values others : List ℤ) (access other : Access) (level container level' container' : ℕ) →
    (access.container ≢ other.container → do_conflict access.mode other.mode ≡ true → AreReachedApart reach access.container other.container) →
    AreSeparate values others access other → do_conflict access.mode other.mode ≡ true → (access.box ≡ []) ⊎ (other.box ≡ []) →
    IsStream (reach access.container) level container → IsStream (reach other.container) level' container' → AreTwo level container level' container'
streams-differ reach values others access other level container level' container' apart separate conflict none here there same same' =
    by_same access.container other.container
    (λ one. separate.streams one conflict none)
    (λ different. apart different conflict (here.level_is ∙ same ∙ sym there.level_is) (here.container_is ∙ same' ∙ sym there.container_is))

-- the conflict of two modes, of which these are equal to others
pub conflict-is : (mode other first second : Mode) → mode ≡ first → other ≡ second → do_conflict first second ≡ true → do_conflict mode other ≡ true
conflict-is mode other first second is is' conflict = ap (λ m. do_conflict m other) is ∙ ap (do_conflict first) is' ∙ conflict

-- touches of separate accesses do not conflict
pub separate-compatible : (reach : ℕ → Reach) (values others : List ℤ) (access other : Access) (touch second : Touch) → ((container : ℕ) → FindsOnce (reach container)) →
    (access.container ≢ other.container → do_conflict access.mode other.mode ≡ true → AreReachedApart reach access.container other.container) →
    AreSeparate values others access other → IsTouchOf values reach access touch → IsTouchOf others reach other second → AreCompatible touch second
separate-compatible reach values others access other (reads from) (reads into) once apart separate here there = tt
separate-compatible reach values others access other (reads from) (writes to by) once apart separate here there =
    elements-differ reach values others access other from to once apart separate (read-write access.mode other.mode by here.0 there.0) here.1 there.1
separate-compatible reach values others access other (reads from) (pushes level container) once apart separate here there = tt
separate-compatible reach values others access other (reads from) (takes level container) once apart separate here there = tt
separate-compatible reach values others access other (writes to by) (reads from) once apart separate here there =
    elements-differ reach values others access other to from once apart separate (write-read access.mode other.mode by here.0 there.0) here.1 there.1
separate-compatible reach values others access other (writes to by) (writes into second) once apart separate here there =
    λ same. elim (write-write access.mode other.mode by second here.0 there.0) [
      | inl conflict ↦ absurd (elements-differ reach values others access other to into once apart separate conflict here.1 there.1 same)
      | inr commuting ↦ commuting
    ]
separate-compatible reach values others access other (writes to by) (pushes level container) once apart separate here there = tt
separate-compatible reach values others access other (writes to by) (takes level container) once apart separate here there = tt
separate-compatible reach values others access other (pushes level container) (reads from) once apart separate here there = tt
separate-compatible reach values others access other (pushes level container) (writes to by) once apart separate here there = tt
separate-compatible reach values others access other (pushes level container) (pushes level' container') once apart separate here there = tt
separate-compatible reach values others access other (pushes level container) (takes level' container') once apart separate here there =
    streams-differ reach values others access other level container level' container' apart separate (conflict-is access.mode other.mode Push Take here.0 there.0 refl) (inr there.1) here.1 there.2
separate-compatible reach values others access other (takes level container) (reads from) once apart separate here there = tt
separate-compatible reach values others access other (takes level container) (writes to by) once apart separate here there = tt
separate-compatible reach values others access other (takes level container) (pushes level' container') once apart separate here there =
    streams-differ reach values others access other level container level' container' apart separate (conflict-is access.mode other.mode Take Push here.0 there.0 refl) (inl here.1) here.2 there.1
separate-compatible reach values others access other (takes level container) (takes level' container') once apart separate here there =
    streams-differ reach values others access other level container level' container' apart separate (conflict-is access.mode other.mode Take Take here.0 there.0 refl) (inl here.1) here.2 there.2
