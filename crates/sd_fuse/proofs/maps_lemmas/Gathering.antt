-- The items between two maps of a list come to stand before both or behind both.
use Rattle.std.specs.List.{Contains}
use Rattle.std.proofs.lemmas.List.{append_assoc}
use Rattle.std.proofs.lemmas.List.Elements.{Contains-append_left, Contains-append_right, Contains-append_cases}
use Rattle.sd_range.proofs.Members.{Contains-nil}
use Rattle.std.proofs.Common.{◌≡◌, inl, inr, ℕ, List, [], ◌++◌, Bool, true, false, not, ◌&&◌, ◌||◌, if◌then◌else◌, refl, sym, ◌∙◌, ap, subst, arith}
use Rattle.sd_work.specs.Residual.{Term, also}
use Rattle.sd_confluence.specs.Safe.{TouchCompatibly}
use Rattle.sd_subset.specs.boxes.Box.{Parameter}
use Rattle.sd_subset.specs.boxes.InForce.{AreInForce}
use Rattle.sd_graph.specs.declared.place.Place.{Place}
use Rattle.sd_graph.specs.ContainerParts.{Containers}
use Rattle.sd_graph.specs.PlainTree.{KindTree, ItemTrees, no_item, and_item}
use Rattle.sd_graph.specs.Wiring.{Use, kind_uses, item_uses, items_conflict}
use Rattle.sd_graph.specs.Context.{Context}
use Rattle.sd_graph.specs.Unfold.{unfold_kind, unfold_items}
use Rattle.sd_alike.specs.alike.Places.{items_then}
use Rattle.sd_race.specs.cover.Fit.{IsFit, AreFit}
use Rattle.sd_safe.specs.safe.Reached.{FindOnce, AreApartFor}
use Rattle.sd_safe.proofs.safe_lemmas.GraphSafe.{items-compatible}
use Rattle.sd_exchange.specs.tiles.Shuffled.{Shuffled}
use Rattle.sd_exchange.specs.tiles.Shuffled as shuffled
use Rattle.sd_exchange.proofs.tiles_lemmas.Shuffling.{same-shuffled, shuffled-member, shuffled-behind, shuffled-before, shuffled-turned}
use Rattle.sd_exchange.specs.reorder.SafePools.{HaveSafePools}
use Rattle.sd_exchange.specs.reorder.Reordered.{Reordered, as_it_is, behind, exchanged}
use Rattle.sd_exchange.specs.reorder.Reordered as order
use Rattle.sd_exchange.proofs.reorder_lemmas.Ends.{EndAlike, end-reordered}
use Rattle.sd_exchange.proofs.reorder_lemmas.Itself.{each-itself}
use Rattle.sd_exchange.proofs.reorder_lemmas.Alike.{order-back}
use Rattle.sd_exchange.specs.maps.AcceptedPools.{HasAcceptedPools, HaveAcceptedPools}
use Rattle.sd_fuse.specs.maps.Gathered.{leads_over, early, late, is_free_of, Gathered, gathered, GatheredBack, spread}
use Rattle.sd_exchange.proofs.maps_lemmas.PoolsSafe.{items-pools}
use Rattle.sd_exchange.proofs.maps_lemmas.Keeping.{Keeps}
use Rattle.sd_exchange.proofs.maps_lemmas.StaysValid.{LeavesValid}
use Rattle.sd_exchange.proofs.maps_lemmas.Congruent.{IsSound}
use Rattle.sd_fuse.proofs.maps_lemmas.Joined.{then-uses, then-fit, fit-then, then-accepted, accepted-then}

both-true : (a b : Bool) → (a && b) ≡ true → (a ≡ true) × (b ≡ true)
both-true true b h = (refl, h)
both-true false b h = cc

both-false : (a b : Bool) → (a || b) ≡ false → (a ≡ false) × (b ≡ false)
both-false true b h = cc
both-false false b h = (refl, h)

not-true : (b : Bool) → not b ≡ true → b ≡ false
not-true true h = cc
not-true false h = refl

-- ---- parts of lists

-- what holds of each item of the early and the late ones holds of all
abbrev EachKind : (KindTree → Type 0) → ItemTrees → Type 0
EachKind P no_item = Unit {0}
EachKind P (and_item line kind items) = P kind × EachKind P items

split-early : (P : KindTree → Type 0) (containers : Containers) (between : ItemTrees) (target : List Use) → EachKind P between → EachKind P (early containers between target)
split-early P containers no_item target h = tt
split-early P containers (and_item line kind items) target h = go (leads_over containers (kind_uses kind containers) items target) (split-early P containers items target h.1)
  where
    go : (b : Bool) → EachKind P (early containers items target) → EachKind P (if b then and_item line kind (early containers items target) else early containers items target)
    go true k = (h.0, k)
    go false k = k

split-late : (P : KindTree → Type 0) (containers : Containers) (between : ItemTrees) (target : List Use) → EachKind P between → EachKind P (late containers between target)
split-late P containers no_item target h = tt
split-late P containers (and_item line kind items) target h = go (leads_over containers (kind_uses kind containers) items target) (split-late P containers items target h.1)
  where
    go : (b : Bool) → EachKind P (late containers items target) → EachKind P (if b then late containers items target else and_item line kind (late containers items target))
    go true k = k
    go false k = (h.0, k)

whole-again : (P : KindTree → Type 0) (containers : Containers) (between : ItemTrees) (target : List Use) → EachKind P (early containers between target) → EachKind P (late containers between target) → EachKind P between
whole-again P containers no_item target h k = tt
whole-again P containers (and_item line kind items) target h k = go (leads_over containers (kind_uses kind containers) items target) (whole-again P containers items target) h k
  where
    go : (b : Bool) → (EachKind P (early containers items target) → EachKind P (late containers items target) → EachKind P items) →
        EachKind P (if b then and_item line kind (early containers items target) else early containers items target) → EachKind P (if b then late containers items target else and_item line kind (late containers items target)) → P kind × EachKind P items
    go true rest h k = (h.0, rest h.1 k)
    go false rest h k = (k.0, rest h k.1)

each-fit : (items : ItemTrees) (around : List Parameter) → AreFit items around → EachKind (λ kind. IsFit kind around) items
each-fit no_item around h = tt
each-fit (and_item line kind items) around h = (h.0, each-fit items around h.1)

fit-each : (items : ItemTrees) (around : List Parameter) → EachKind (λ kind. IsFit kind around) items → AreFit items around
fit-each no_item around h = tt
fit-each (and_item line kind items) around h = (h.0, fit-each items around h.1)

each-accepted : (items : ItemTrees) (containers : Containers) → HaveAcceptedPools items containers → EachKind (λ kind. HasAcceptedPools kind containers) items
each-accepted no_item containers h = tt
each-accepted (and_item line kind items) containers h = (h.0, each-accepted items containers h.1)

accepted-each : (items : ItemTrees) (containers : Containers) → EachKind (λ kind. HasAcceptedPools kind containers) items → HaveAcceptedPools items containers
accepted-each no_item containers h = tt
accepted-each (and_item line kind items) containers h = (h.0, accepted-each items containers h.1)

-- ---- uses

both-uses : (containers : Containers) (between : ItemTrees) (target : List Use) → Shuffled (item_uses between containers) (item_uses (early containers between target) containers ++ item_uses (late containers between target) containers)
both-uses containers no_item target = shuffled.as_it_is []
both-uses containers (and_item line kind items) target = go (leads_over containers (kind_uses kind containers) items target) (both-uses containers items target)
  where
    go : (b : Bool) → Shuffled (item_uses items containers) (item_uses (early containers items target) containers ++ item_uses (late containers items target) containers) →
        Shuffled (kind_uses kind containers ++ item_uses items containers)
        (item_uses (if b then and_item line kind (early containers items target) else early containers items target) containers ++ item_uses (if b then late containers items target else and_item line kind (late containers items target)) containers)
    go true s =
        shuffled.and_then (kind_uses kind containers ++ item_uses items containers) (kind_uses kind containers ++ (item_uses (early containers items target) containers ++ item_uses (late containers items target) containers)) _
        (shuffled-behind (kind_uses kind containers) (item_uses items containers) (item_uses (early containers items target) containers ++ item_uses (late containers items target) containers) s)
        (same-shuffled _ _ (sym (append_assoc (kind_uses kind containers) (item_uses (early containers items target) containers) (item_uses (late containers items target) containers))))
    go false s =
        shuffled.and_then (kind_uses kind containers ++ item_uses items containers) (kind_uses kind containers ++ (item_uses (early containers items target) containers ++ item_uses (late containers items target) containers)) _
        (shuffled-behind (kind_uses kind containers) (item_uses items containers) (item_uses (early containers items target) containers ++ item_uses (late containers items target) containers) s)
        (shuffled-turned (kind_uses kind containers) (item_uses (early containers items target) containers) (item_uses (late containers items target) containers))

gather-uses : (containers : Containers) (line there : ℕ) (kind other : KindTree) (between items : ItemTrees) →
    Shuffled (item_uses (and_item line kind (items_then between (and_item there other items))) containers)
    (item_uses (items_then (early containers between (kind_uses other containers)) (and_item line kind (and_item there other (items_then (late containers between (kind_uses other containers)) items)))) containers)
gather-uses containers line there kind other between items =
    let target = kind_uses other containers in
    let P = kind_uses kind containers in
    let B = item_uses between containers in
    let E = item_uses (early containers between target) containers in
    let L = item_uses (late containers between target) containers in
    let R = item_uses items containers in
    shuffled.and_then _ (P ++ (B ++ (target ++ R))) _
    (same-shuffled _ _ (ap (λ uses. P ++ uses) (then-uses between (and_item there other items) containers)))
    (shuffled.and_then (P ++ (B ++ (target ++ R))) (P ++ (E ++ (target ++ (L ++ R)))) _
    (shuffled-behind P (B ++ (target ++ R)) (E ++ (target ++ (L ++ R)))
    (shuffled.and_then (B ++ (target ++ R)) ((E ++ L) ++ (target ++ R)) (E ++ (target ++ (L ++ R)))
    (shuffled-before B (E ++ L) (target ++ R) (both-uses containers between target))
    (shuffled.and_then ((E ++ L) ++ (target ++ R)) (E ++ (L ++ (target ++ R))) (E ++ (target ++ (L ++ R)))
    (same-shuffled _ _ (append_assoc E L (target ++ R)))
    (shuffled-behind E (L ++ (target ++ R)) (target ++ (L ++ R)) (shuffled-turned L target R)))))
    (shuffled.and_then (P ++ (E ++ (target ++ (L ++ R)))) (E ++ (P ++ (target ++ (L ++ R)))) _
    (shuffled-turned P E (target ++ (L ++ R)))
    (same-shuffled _ _ (sym
    (then-uses (early containers between target) (and_item line kind (and_item there other (items_then (late containers between target) items))) containers
    ∙ ap (λ uses. E ++ (P ++ (target ++ uses))) (then-uses (late containers between target) items containers))))))

-- ---- exchanges

-- work in one context, of which all uses are among some that are apart
record Together (around : List Parameter) (context : Context) (uses : List Use) : Type 0 where
  in_force : AreInForce context.values around
  once : FindOnce context.reach
  apart : AreApartFor context.reach uses

abbrev Among : (uses : List Use) → Context → KindTree → Type 0
Among uses context kind = (u : Use) → Contains (kind_uses kind context.containers) u → Contains uses u

-- items that do not conflict
pair-free : (around : List Parameter) (context : Context) (uses : List Use) (line there : ℕ) (kind other : KindTree) → Together around context uses → IsFit kind around → IsFit other around → Among uses context kind → Among uses context other →
    items_conflict (kind_uses kind context.containers) (kind_uses other context.containers) ≡ false → TouchCompatibly (unfold_kind kind line context) (unfold_kind other there context)
pair-free around context uses line there kind other together fit fit' among among' free =
    items-compatible around (and_item line kind (and_item there other no_item)) context (fit, (fit', tt)) together.in_force together.once
    (λ u w m n. together.apart u w (inside u m) (inside w n)) 0 1 (omega arith) free
  where
    inside : (u : Use) → Contains (kind_uses kind context.containers ++ (kind_uses other context.containers ++ [])) u → Contains uses u
    inside u m = elim (Contains-append_cases (kind_uses kind context.containers) (kind_uses other context.containers ++ []) u m) [
      | inl first ↦ among u first
      | inr second ↦ elim (Contains-append_cases (kind_uses other context.containers) [] u second) [ inl here ↦ among' u here | inr none ↦ absurd (Contains-nil u none) ]
    ]

-- an item passes others with which it does not conflict
passes : (around : List Parameter) (context : Context) (uses : List Use) (line : ℕ) (kind : KindTree) (items rest : ItemTrees) → Together around context uses → IsFit kind around → AreFit items around → Among uses context kind → EachKind (Among uses context) items →
    is_free_of context.containers (kind_uses kind context.containers) items ≡ true → Reordered (unfold_items (and_item line kind (items_then items rest)) context) (unfold_items (items_then items (and_item line kind rest)) context)
passes around context uses line kind no_item rest together fit fits among each free = as_it_is (unfold_items (and_item line kind rest) context)
passes around context uses line kind (and_item there other items) rest together fit fits among each free =
    let parts = both-true (not (items_conflict (kind_uses kind context.containers) (kind_uses other context.containers))) (is_free_of context.containers (kind_uses kind context.containers) items) free in
    let one = unfold_kind kind line context in
    let two = unfold_kind other there context in
    order.and_then (also one (also two (unfold_items (items_then items rest) context))) (also two (also one (unfold_items (items_then items rest) context))) (also two (unfold_items (items_then items (and_item line kind rest)) context))
    (exchanged one two (unfold_items (items_then items rest) context) (pair-free around context uses line there kind other together fit fits.0 among each.0 (not-true _ parts.0)))
    (behind two (also one (unfold_items (items_then items rest) context)) (unfold_items (items_then items (and_item line kind rest)) context) (passes around context uses line kind items rest together fit fits.1 among each.1 parts.1))

-- what does not lead to the target conflicts with none of what does
late-free : (containers : Containers) (from : List Use) (items : ItemTrees) (target : List Use) → leads_over containers from items target ≡ false → (is_free_of containers from (early containers items target) ≡ true) × (items_conflict from target ≡ false)
late-free containers from no_item target h = (refl, h)
late-free containers from (and_item line kind items) target h =
    let parts = both-false (leads_over containers from items target) (items_conflict from (kind_uses kind containers) && leads_over containers (kind_uses kind containers) items target) h in
    let rest = late-free containers from items target parts.0 in
    (go (leads_over containers (kind_uses kind containers) items target) (items_conflict from (kind_uses kind containers)) refl refl parts.1 rest.0, rest.1)
  where
    go : (b c : Bool) → leads_over containers (kind_uses kind containers) items target ≡ b → items_conflict from (kind_uses kind containers) ≡ c → (items_conflict from (kind_uses kind containers) && leads_over containers (kind_uses kind containers) items target) ≡ false →
        is_free_of containers from (early containers items target) ≡ true → is_free_of containers from (if leads_over containers (kind_uses kind containers) items target then and_item line kind (early containers items target) else early containers items target) ≡ true
    go true true is is' none free = let no : true ≡ false = sym (λ i. is' i && is i) ∙ none in cc
    go true false is is' none free =
        ap (λ b. is_free_of containers from (if b then and_item line kind (early containers items target) else early containers items target)) is ∙ ap (λ c. not c && is_free_of containers from (early containers items target)) is' ∙ free
    go false c is is' none free = ap (λ b. is_free_of containers from (if b then and_item line kind (early containers items target) else early containers items target)) is ∙ free

-- those that lead to the target come to stand before it, the others behind it
parted : (around : List Parameter) (context : Context) (uses : List Use) (there : ℕ) (other : KindTree) (between rest : ItemTrees) → Together around context uses → AreFit between around → IsFit other around → EachKind (Among uses context) between → Among uses context other →
    (let target = kind_uses other context.containers in
    Reordered (unfold_items (items_then between (and_item there other rest)) context) (unfold_items (items_then (early context.containers between target) (and_item there other (items_then (late context.containers between target) rest))) context))
parted around context uses there other no_item rest together fits fit each among = as_it_is (unfold_items (and_item there other rest) context)
parted around context uses there other (and_item line kind items) rest together fits fit each among =
    order.and_then (also one (unfold_items (items_then items (and_item there other rest)) context)) (also one (unfold_items (items_then E (and_item there other (items_then L rest))) context)) _
    (behind one (unfold_items (items_then items (and_item there other rest)) context) (unfold_items (items_then E (and_item there other (items_then L rest))) context) (parted around context uses there other items rest together fits.1 fit each.1 among))
    (go (leads_over cs (kind_uses kind cs) items target) refl)
  where
    cs : Containers
    cs = context.containers

    target : List Use
    target = kind_uses other cs

    E : ItemTrees
    E = early cs items target

    L : ItemTrees
    L = late cs items target

    one : Term Place
    one = unfold_kind kind line context

    later-exchanged : (front : ItemTrees) → TouchCompatibly one (unfold_kind other there context) →
        Reordered (unfold_items (items_then front (and_item line kind (and_item there other (items_then L rest)))) context) (unfold_items (items_then front (and_item there other (and_item line kind (items_then L rest)))) context)
    later-exchanged no_item free = exchanged one (unfold_kind other there context) (unfold_items (items_then L rest) context) free
    later-exchanged (and_item n k front) free = behind (unfold_kind k n context) _ _ (later-exchanged front free)

    go : (b : Bool) → leads_over cs (kind_uses kind cs) items target ≡ b →
        Reordered (also one (unfold_items (items_then E (and_item there other (items_then L rest))) context))
        (unfold_items (items_then (if leads_over cs (kind_uses kind cs) items target then and_item line kind E else E) (and_item there other (items_then (if leads_over cs (kind_uses kind cs) items target then L else and_item line kind L) rest))) context)
    go true is =
        subst (λ b. Reordered (also one (unfold_items (items_then E (and_item there other (items_then L rest))) context)) (unfold_items (items_then (if b then and_item line kind E else E) (and_item there other (items_then (if b then L else and_item line kind L) rest))) context)) (sym is)
        (as_it_is (also one (unfold_items (items_then E (and_item there other (items_then L rest))) context)))
    go false is =
        let free = late-free cs (kind_uses kind cs) items target is in
        subst (λ b. Reordered (also one (unfold_items (items_then E (and_item there other (items_then L rest))) context)) (unfold_items (items_then (if b then and_item line kind E else E) (and_item there other (items_then (if b then L else and_item line kind L) rest))) context)) (sym is)
        (order.and_then _ _ _
        (passes around context uses line kind E (and_item there other (items_then L rest)) together fits.0 (fit-each E around (split-early (λ k. IsFit k around) cs items target (each-fit items around fits.1))) each.0 (split-early (Among uses context) cs items target each.1) free.0)
        (later-exchanged E (pair-free around context uses line there kind other together fits.0 fit each.0 among free.1)))

gather-reordered : (around : List Parameter) (context : Context) (uses : List Use) (line there : ℕ) (kind other : KindTree) (between rest : ItemTrees) → Together around context uses → IsFit kind around → IsFit other around → AreFit between around →
    Among uses context kind → Among uses context other → EachKind (Among uses context) between → (let target = kind_uses other context.containers in is_free_of context.containers (kind_uses kind context.containers) (early context.containers between target) ≡ true →
    Reordered (unfold_items (and_item line kind (items_then between (and_item there other rest))) context) (unfold_items (items_then (early context.containers between target) (and_item line kind (and_item there other (items_then (late context.containers between target) rest)))) context))
gather-reordered around context uses line there kind other between rest together fit fit' fits among among' each free =
    let target = kind_uses other context.containers in
    let E = early context.containers between target in
    let tail = and_item there other (items_then (late context.containers between target) rest) in
    order.and_then _ (also (unfold_kind kind line context) (unfold_items (items_then E tail) context)) _
    (behind (unfold_kind kind line context) (unfold_items (items_then between (and_item there other rest)) context) (unfold_items (items_then E tail) context) (parted around context uses there other between rest together fits fit' each among'))
    (passes around context uses line kind E tail together fit (fit-each E around (split-early (λ k. IsFit k around) context.containers between target (each-fit between around fits))) among (split-early (Among uses context) context.containers between target each) free)

-- ---- wherever they stand

among-items : (uses : List Use) (context : Context) (items : ItemTrees) → ((u : Use) → Contains (item_uses items context.containers) u → Contains uses u) → EachKind (Among uses context) items
among-items uses context no_item h = tt
among-items uses context (and_item line kind items) h = (
  λ u m. h u (Contains-append_left (kind_uses kind context.containers) (item_uses items context.containers) u m),
  among-items uses context items (λ u m. h u (Contains-append_right (kind_uses kind context.containers) (item_uses items context.containers) u m)),
)

-- of all uses of the list before
gather-there : (around : List Parameter) (context : Context) (uses : List Use) (line there : ℕ) (kind other : KindTree) (between rest : ItemTrees) → Together around context uses → IsFit kind around → IsFit other around → AreFit between around →
    ((u : Use) → Contains (item_uses (and_item line kind (items_then between (and_item there other rest))) context.containers) u → Contains uses u) → (let target = kind_uses other context.containers in is_free_of context.containers (kind_uses kind context.containers) (early context.containers between target) ≡ true →
    Reordered (unfold_items (and_item line kind (items_then between (and_item there other rest))) context) (unfold_items (items_then (early context.containers between target) (and_item line kind (and_item there other (items_then (late context.containers between target) rest)))) context))
gather-there around context uses line there kind other between rest together fit fit' fits inside free =
    let cs = context.containers in
    let P = kind_uses kind cs in
    let tail = item_uses (and_item there other rest) cs in
    let later = λ (u : Use) (m : Contains (item_uses between cs ++ tail) u). inside u (Contains-append_right P (item_uses (items_then between (and_item there other rest)) cs) u (subst (λ uses. Contains uses u) (sym (then-uses between (and_item there other rest) cs)) m)) in
    gather-reordered around context uses line there kind other between rest together fit fit' fits
    (λ u m. inside u (Contains-append_left P (item_uses (items_then between (and_item there other rest)) cs) u m))
    (λ u m. later u (Contains-append_right (item_uses between cs) tail u (Contains-append_left (kind_uses other cs) (item_uses rest cs) u m)))
    (among-items uses context between (λ u m. later u (Contains-append_left (item_uses between cs) tail u m))) free

pub gather-sound : IsSound Gathered
gather-sound containers around items others (gathered c a line there kind other between rest free) context same stand =
    let fits = fit-then between (and_item there other rest) a stand.valid.1 in
    subst (λ k. EndAlike (unfold_items (and_item line kind (items_then between (and_item there other rest))) context) (unfold_items (items_then (early k between (kind_uses other k)) (and_item line kind (and_item there other (items_then (late k between (kind_uses other k)) rest)))) context)) same
    (end-reordered _ _
    (gather-there a context (item_uses (and_item line kind (items_then between (and_item there other rest))) context.containers) line there kind other between rest
    (record { in_force = stand.in_force; once = stand.once; apart = stand.apart }) stand.valid.0 fits.1.0 fits.0 (λ u m. m)
    (ap (λ k. is_free_of k (kind_uses kind k) (early k between (kind_uses other k))) same ∙ free))
    (each-itself (unfold_items (and_item line kind (items_then between (and_item there other rest))) context) (items-pools (and_item line kind (items_then between (and_item there other rest))) a context stand.valid stand.in_force stand.once stand.apart stand.pools)))

pub gather-back-sound : IsSound GatheredBack
gather-back-sound containers around items others (spread c a new old (gathered c' a' line there kind other between rest free)) context same stand =
    let target = kind_uses other c' in
    let E = early c' between target in
    let L = late c' between target in
    let fits = fit-then E (and_item line kind (and_item there other (items_then L rest))) a' stand.valid in
    let fits' = fit-then L rest a' fits.1.1.1 in
    let whole = fit-each between a' (whole-again (λ k. IsFit k a') c' between target (each-fit E a' fits.0) (each-fit L a' fits'.0)) in
    let gathered_items = λ (k : Containers). items_then (early k between (kind_uses other k)) (and_item line kind (and_item there other (items_then (late k between (kind_uses other k)) rest))) in
    let uses = item_uses (gathered_items c') context.containers in
    subst (λ k. EndAlike (unfold_items (gathered_items k) context) (unfold_items (and_item line kind (items_then between (and_item there other rest))) context)) same
    (end-reordered _ _
    (order-back _ _
    (gather-there a' context uses line there kind other between rest
    (record { in_force = stand.in_force; once = stand.once; apart = stand.apart }) fits.1.0 fits.1.1.0 whole
    (λ u m. subst (λ k. Contains (item_uses (gathered_items k) context.containers) u) same (shuffled-member _ _ (gather-uses context.containers line there kind other between rest) u m))
    (ap (λ k. is_free_of k (kind_uses kind k) (early k between (kind_uses other k))) same ∙ free)))
    (each-itself (unfold_items (gathered_items context.containers) context) (subst (λ k. HaveSafePools (unfold_items (gathered_items k) context)) (sym same) (items-pools (gathered_items c') a' context stand.valid stand.in_force stand.once stand.apart stand.pools))))

pub gather-keeps : Keeps Gathered
gather-keeps containers around items others (gathered c a line there kind other between rest free) = record {
  uses = gather-uses c line there kind other between rest;
  pools = λ p.
      (let parts = accepted-then between (and_item there other rest) c p.1 in
      let each = each-accepted between c parts.0 in
      let target = kind_uses other c in
      then-accepted (early c between target) (and_item line kind (and_item there other (items_then (late c between target) rest))) c
      (accepted-each (early c between target) c (split-early (λ k. HasAcceptedPools k c) c between target each))
      (p.0, (parts.1.0, then-accepted (late c between target) rest c (accepted-each (late c between target) c (split-late (λ k. HasAcceptedPools k c) c between target each)) parts.1.1)));
}

pub gather-leaves_valid : LeavesValid Gathered
gather-leaves_valid containers around items others (gathered c a line there kind other between rest free) v =
    let parts = fit-then between (and_item there other rest) a v.1 in
    let each = each-fit between a parts.0 in
    let target = kind_uses other c in
    then-fit (early c between target) (and_item line kind (and_item there other (items_then (late c between target) rest))) a
    (fit-each (early c between target) a (split-early (λ k. IsFit k a) c between target each))
    (v.0, (parts.1.0, then-fit (late c between target) rest a (fit-each (late c between target) a (split-late (λ k. IsFit k a) c between target each)) parts.1.1))
