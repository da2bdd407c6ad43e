-- Containers stay reached apart, and their elements found once, inside owners and nested graphs.
use Rattle.std.proofs.Common.{◌≡◌, ◌≢◌, inl, inr, suc, ℕ, List, true, false, not, refl, ap, sym, ◌∙◌, subst, arith}
use Rattle.std.proofs.lemmas.Bool.{cases_Bool}
use Rattle.sd_range.proofs.Normal.{by_same}
use Rattle.sd_work.specs.Harmless.{AreTwo}
use Rattle.sd_graph.specs.declared.link.Link.{Link}
use Rattle.sd_graph.specs.ContainerParts.{Containers, container_at}
use Rattle.sd_graph.specs.Context.{Reach, Context, own_reach, raised, view}
use Rattle.sd_graph.specs.Mode.{Mode, Read, Write, Resolve, Push, Take, do_conflict}
use Rattle.sd_graph.specs.Wiring.{Use, use_of, has_number, outside, nested_uses}
use Rattle.sd_graph.specs.Unfold.{reach_inside}
use Rattle.sd_race.specs.cover.Fit.{HaveShapes, IsAliasFree}
use Rattle.sd_safe.proofs.safe_lemmas.Rows.{finds_once-own}
use Rattle.sd_safe.proofs.safe_lemmas.Views.{finds_once-view}
use Rattle.sd_race.proofs.cover_lemmas.Among.{among-filter}
use Rattle.sd_race.proofs.cover_lemmas.Owners.{choice-true, choice-false, inside_owner}
use Rattle.sd_race.proofs.cover_lemmas.Joined.{IsAbove, link-above}
use Rattle.sd_race.proofs.cover_lemmas.Covered.{shape-at, by_reach}
use Rattle.sd_safe.specs.safe.Reached.{FindsOnce, FindOnce, AreApartFor}

-- one of two reaches is in an outer memory
level-differs : (here there : Reach) → here.level ≡ 0 → (outer : Reach) → there ≡ raised outer → AreTwo here.level here.container there.level there.container
level-differs here there own outer is level container =
    let above : there.level ≡ suc outer.level = ap (λ (r : Reach). r.level) is in omega (arith, own, above, level)

level-differs' : (here there : Reach) → here.level ≡ 0 → (outer : Reach) → there ≡ raised outer → AreTwo there.level there.container here.level here.container
level-differs' here there own outer is level container = level-differs here there own outer is (sym level) (sym container)

-- two containers of one owner
pub own-differ : (here there : Reach) (containers : Containers) (number other : ℕ) → number ≢ other → here ≡ own_reach containers number → there ≡ own_reach containers other → AreTwo here.level here.container there.level there.container
own-differ here there containers number other different is is' level container =
    different (sym (ap (λ (r : Reach). r.container) is) ∙ container ∙ ap (λ (r : Reach). r.container) is')

-- two containers outside
raised-differ : (here there outer other : Reach) → here ≡ raised outer → there ≡ raised other → AreTwo outer.level outer.container other.level other.container → AreTwo here.level here.container there.level there.container
raised-differ here there outer other is is' two level container =
    let above : here.level ≡ suc outer.level = ap (λ (r : Reach). r.level) is in
    let above' : there.level ≡ suc other.level = ap (λ (r : Reach). r.level) is' in
    two (omega (arith, above, above', level)) (sym (ap (λ (r : Reach). r.container) is) ∙ container ∙ ap (λ (r : Reach). r.container) is')

-- inside an owner
reach-held : (own : List ℕ) (containers : Containers) (reach : ℕ → Reach) (number : ℕ) → has_number own number ≡ true → inside_owner own containers reach number ≡ own_reach containers number
reach-held own containers reach number held = choice-true (has_number own number) (own_reach containers number) (raised (reach number)) held

reach-free : (own : List ℕ) (containers : Containers) (reach : ℕ → Reach) (number : ℕ) → has_number own number ≡ false → inside_owner own containers reach number ≡ raised (reach number)
reach-free own containers reach number free = choice-false (has_number own number) (own_reach containers number) (raised (reach number)) free

raised-once : (reach : Reach) → FindsOnce reach → FindsOnce (raised reach)
raised-once reach once = once

pub inside-once : (own : List ℕ) (containers : Containers) (reach : ℕ → Reach) → FindOnce reach → FindOnce (inside_owner own containers reach)
inside-once own containers reach once number = elim (cases_Bool (has_number own number)) [
  | inl held ↦ subst FindsOnce (sym (reach-held own containers reach number held)) (finds_once-own containers number)
  | inr free ↦ subst FindsOnce (sym (reach-free own containers reach number free)) (raised-once (reach number) (once number))
]

pub inside-apart : (own : List ℕ) (containers : Containers) (reach : ℕ → Reach) (uses : List Use) → AreApartFor reach (outside own uses) → AreApartFor (inside_owner own containers reach) uses
inside-apart own containers reach uses apart use' other member member' different conflict =
    let here = inside_owner own containers reach use'.container in
    let there = inside_owner own containers reach other.container in
    elim (cases_Bool (has_number own use'.container)) [
      | inl held ↦ elim (cases_Bool (has_number own other.container)) [
        | inl held' ↦ own-differ here there containers use'.container other.container different (reach-held own containers reach use'.container held) (reach-held own containers reach other.container held')
        | inr free' ↦ level-differs here there (ap (λ (r : Reach). r.level) (reach-held own containers reach use'.container held)) (reach other.container) (reach-free own containers reach other.container free')
      ]
      | inr free ↦ elim (cases_Bool (has_number own other.container)) [
        | inl held' ↦ level-differs' there here (ap (λ (r : Reach). r.level) (reach-held own containers reach other.container held')) (reach use'.container) (reach-free own containers reach use'.container free)
        | inr free' ↦ raised-differ here there (reach use'.container) (reach other.container) (reach-free own containers reach use'.container free) (reach-free own containers reach other.container free')
            (apart use' other (among-filter (λ (u : Use). not (has_number own u.container)) uses use' member (ap not free)) (among-filter (λ (u : Use). not (has_number own u.container)) uses other member' (ap not free')) different conflict)
      ]
    ]

-- Write conflicts with each mode
write-first : (mode : Mode) → do_conflict Write mode ≡ true
write-first mode = refl

pub write-second : (mode : Mode) → do_conflict mode Write ≡ true
write-second Read = refl
write-second Write = refl
write-second (Resolve resolution) = refl
write-second Push = refl
write-second Take = refl

-- modes above conflicting ones conflict
above-conflict : (mode other above second : Mode) → IsAbove above mode → IsAbove second other → do_conflict mode other ≡ true → do_conflict above second ≡ true
above-conflict mode other above second (inr write) is conflict = ap (λ m. do_conflict m second) write ∙ write-first second
above-conflict mode other above second (inl same) (inr write) conflict = ap (do_conflict above) write ∙ write-second above
above-conflict mode other above second (inl same) (inl same') conflict = sym (ap (λ m. do_conflict m second) same) ∙ sym (ap (do_conflict mode) same') ∙ conflict

-- inside a nested graph
pub nested-once : (context : Context) (links : List Link) (containers : Containers) → HaveShapes containers 0 links → FindOnce context.reach → FindOnce (reach_inside context links containers)
nested-once context links containers shapes once number =
    by_reach context links containers number
    (λ own. subst FindsOnce (sym own) (finds_once-own containers number))
    (λ link at same.
    let shape = shape-at containers 0 number number links link (omega arith) shapes at in
    subst FindsOnce (sym same) (finds_once-view (container_at containers number) link.memlet.subset context.values (context.reach link.memlet.container) shape (once link.memlet.container)))

pub nested-apart : (context : Context) (links : List Link) (containers : Containers) (uses : List Use) → IsAliasFree links uses → AreApartFor context.reach (nested_uses uses 0 links) → AreApartFor (reach_inside context links containers) uses
nested-apart context links containers uses alias apart use' other member member' different conflict =
    let here = reach_inside context links containers use'.container in
    let there = reach_inside context links containers other.container in
    by_reach context links containers use'.container
    (λ own. by_reach context links containers other.container
    (λ own'. own-differ here there containers use'.container other.container different own own')
    (λ second at' seen'. level-differs here there (ap (λ (r : Reach). r.level) own) (view (container_at containers other.container) second.memlet.subset context.values (context.reach second.memlet.container)) seen'))
    (λ link at seen. by_reach context links containers other.container
    (λ own'. level-differs' there here (ap (λ (r : Reach). r.level) own') (view (container_at containers use'.container) link.memlet.subset context.values (context.reach link.memlet.container)) seen)
    (λ second at' seen'.
    let (above, is_above, _, among) = link-above 0 uses links 0 use'.container link use' (omega arith) at member in
    let (above', is_above', _, among') = link-above 0 uses links 0 other.container second other (omega arith) at' member' in
    raised-differ here there (view (container_at containers use'.container) link.memlet.subset context.values (context.reach link.memlet.container)) (view (container_at containers other.container) second.memlet.subset context.values (context.reach second.memlet.container)) seen seen'
    (by_same link.memlet.container second.memlet.container
    (λ same. absurd (alias use' other link second member member' at at' different same conflict))
    (λ two. apart (use_of above link) (use_of above' second) among among' two (above-conflict use'.mode other.mode above above' is_above is_above' conflict)))))
