-- What an item touches is marked, and has a number in the windows.
use Rattle.std.proofs.Common.{◌≡◌, ◌⊎◌, inl, inr, ℕ, ℤ, List, [], Option, Some, None, option_map, refl, sym, ap, subst}
use Rattle.sd_num.specs.declared.resolution.Resolution.{Resolution}
use Rattle.sd_work.specs.Memory.{Reference}
use Rattle.sd_work.specs.Exit.{Values}
use Rattle.sd_work.specs.Touch.{Touch, reads, writes, pushes, takes, Touches}
use Rattle.sd_pieces.specs.cut.Naming.{Naming, IsTouchNamed}
use Rattle.sd_pieces.specs.cut.Merged.{kept, gathered, drained, appended, Mark, Marking, IsMarked}
use Rattle.sd_graph.specs.ContainerParts.{Containers, container_at}
use Rattle.sd_graph.specs.Context.{own_reach, found}
use Rattle.sd_graph.specs.Mode.{Mode, Read, Write, Resolve, Push, Take}
use Rattle.sd_graph.specs.PlainTree.{KindTree, GraphTree, graph}
use Rattle.sd_graph.specs.TreeParts.{containers_of}
use Rattle.sd_prop.specs.propagation.Accesses.{Access, kind_accesses}
use Rattle.sd_race.specs.cover.Fit.{IsFit}
use Rattle.sd_race.specs.cover.Touched.{AllowsRead, AllowsWrite, IsAt, IsTouchOf, IsCovered}
use Rattle.sd_race.proofs.cover_lemmas.Covered.{kind-covered}
use Rattle.sd_mem.specs.machine.Coming.{state_context}
use Rattle.sd_graph.specs.Unfold.{unfold_kind}
use Rattle.sd_cut.specs.Marked.{MarksElement, MarksStream, IsAccessMarked, AreAccessesMarked}

-- ---- an element of a box

abbrev mk : ℕ → ℕ → Reference
mk c e = record { level = 0; container = c; element = e }

abbrev or_this : Reference → Option Reference → Reference
or_this d None = d
or_this d (Some r) = r

found-is : (c : ℕ) (o : Option ℕ) (r : Reference) → option_map (mk c) o ≡ Some r → (e : ℕ) × (o ≡ Some e) × (mk c e ≡ r)
found-is c None r h = cc
found-is c (Some e) r h = (e, refl, ap (or_this r) h)

at-is : (containers : Containers) (values : List ℤ) (access : Access) (r : Reference) → (at : IsAt values (own_reach containers) access r) →
    (e : ℕ) × (found (container_at containers access.container) at.index ≡ Some e) × (mk access.container e ≡ r)
at-is containers values access r at = found-is access.container (found (container_at containers access.container) at.index) r at.is

-- ---- touches

read-mark : (mode : Mode) (m : Mark) → AllowsRead mode → MarksElement mode m → m ≡ kept
read-mark Read m a h = h
read-mark Write m a h = h
read-mark (Resolve r) m a h = elim a [ ]
read-mark Push m a h = elim a [ ]
read-mark Take m a h = elim a [ ]

write-mark : (mode : Mode) (m : Mark) (by : Option Resolution) → AllowsWrite mode by → MarksElement mode m → (m ≡ kept) ⊎ ((r : Resolution) × (by ≡ Some r) × (m ≡ gathered r))
write-mark Read m by a h = elim a [ ]
write-mark Write m by a h = inl h
write-mark (Resolve r) m by a (inl h) = inl h
write-mark (Resolve r) m by a (inr h) = inr (r, a.0, h)
write-mark Push m by a h = elim a [ ]
write-mark Take m by a h = elim a [ ]

mark-of : (containers : Containers) (values : List ℤ) (naming : Naming) (marking : Marking) (access : Access) (touch : Touch) → IsAccessMarked containers values naming marking access →
    IsTouchOf values (own_reach containers) access touch → IsMarked marking touch
mark-of containers values naming marking access (reads from) h t =
    let f = at-is containers values access from t.1 in
    subst (λ (r : Reference). (r.level ≡ 0) × (marking.element r.container r.element ≡ kept)) f.2
    (refl, read-mark access.mode (marking.element access.container f.0) t.0 (h.element t.1.index f.0 t.1.inside f.1))
mark-of containers values naming marking access (writes to by) h t =
    let f = at-is containers values access to t.1 in
    subst (λ (r : Reference). (r.level ≡ 0) × ((marking.element r.container r.element ≡ kept) ⊎ ((resolution : Resolution) × (by ≡ Some resolution) × (marking.element r.container r.element ≡ gathered resolution)))) f.2
    (refl, write-mark access.mode (marking.element access.container f.0) by t.0 (h.element t.1.index f.0 t.1.inside f.1))
mark-of containers values naming marking access (pushes level container) h t =
    let m : MarksStream Push (marking.stream access.container) = subst (λ mode. MarksStream mode (marking.stream access.container)) t.0 h.stream in
    (sym t.1.level_is, subst (λ c. (marking.stream c ≡ drained) ⊎ (marking.stream c ≡ appended)) t.1.container_is m)
mark-of containers values naming marking access (takes level container) h t =
    let m : MarksStream Take (marking.stream access.container) = subst (λ mode. MarksStream mode (marking.stream access.container)) t.0 h.stream in
    (sym t.2.level_is, subst (λ c. marking.stream c ≡ drained) t.2.container_is m)

number-of : (containers : Containers) (values : List ℤ) (naming : Naming) (marking : Marking) (access : Access) (touch : Touch) → IsAccessMarked containers values naming marking access →
    IsTouchOf values (own_reach containers) access touch → IsTouchNamed naming 0 touch
number-of containers values naming marking access (reads from) h t =
    let f = at-is containers values access from t.1 in
    subst (λ (r : Reference). IsTouchNamed naming 0 (reads r)) f.2 (h.number t.1.index f.0 t.1.inside f.1)
number-of containers values naming marking access (writes to by) h t =
    let f = at-is containers values access to t.1 in
    subst (λ (r : Reference). IsTouchNamed naming 0 (writes r by)) f.2 (h.number t.1.index f.0 t.1.inside f.1)
number-of containers values naming marking access (pushes level container) h t = tt
number-of containers values naming marking access (takes level container) h t = tt

-- ---- an item

covered : (tree : GraphTree) (state : ℕ) (values : Values) (kind : KindTree) (line : ℕ) (nodes : List ℕ) → IsFit kind [] → (touch : Touch) → Touches (unfold_kind kind line (state_context tree (own_reach (containers_of tree)) [] state values)) touch →
    IsCovered values (own_reach (containers_of tree)) (kind_accesses kind (containers_of tree) nodes) touch
covered (graph name containers arguments variables symbols states) state values kind line nodes fit touch h =
    kind-covered kind [] line nodes (state_context (graph name containers arguments variables symbols states) (own_reach containers) [] state values) touch fit tt h

pub item-marked : (tree : GraphTree) (state : ℕ) (values : Values) (kind : KindTree) (line : ℕ) (nodes : List ℕ) (naming : Naming) (marking : Marking) → IsFit kind [] →
    AreAccessesMarked (containers_of tree) values naming marking (kind_accesses kind (containers_of tree) nodes) → (touch : Touch) → Touches (unfold_kind kind line (state_context tree (own_reach (containers_of tree)) [] state values)) touch → IsMarked marking touch
item-marked tree state values kind line nodes naming marking fit all touch h =
    let a = covered tree state values kind line nodes fit touch h in
    mark-of (containers_of tree) values naming marking a.0 touch (all a.0 a.1) a.2

pub item-numbered : (tree : GraphTree) (state : ℕ) (values : Values) (kind : KindTree) (line : ℕ) (nodes : List ℕ) (naming : Naming) (marking : Marking) → IsFit kind [] →
    AreAccessesMarked (containers_of tree) values naming marking (kind_accesses kind (containers_of tree) nodes) → (touch : Touch) → Touches (unfold_kind kind line (state_context tree (own_reach (containers_of tree)) [] state values)) touch → IsTouchNamed naming 0 touch
item-numbered tree state values kind line nodes naming marking fit all touch h =
    let a = covered tree state values kind line nodes fit touch h in
    number-of (containers_of tree) values naming marking a.0 touch (all a.0 a.1) a.2
