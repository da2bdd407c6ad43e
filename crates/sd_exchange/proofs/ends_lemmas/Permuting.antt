-- Points that do not conflict may be done in any order, and two maps over the same points point by point.
use Rattle.std.proofs.Common.{◌≡◌, ℕ, ℤ, List, [], ◌∷◌, Bool, refl, sym, ◌∙◌, ap}
use Rattle.std.specs.Bool.{⊤}
use Rattle.sd_work.specs.Memory.{Memories}
use Rattle.sd_work.specs.Residual.{Parts, Term, list, Terms, also}
use Rattle.sd_work.specs.Touch.{Touch, Touches}
use Rattle.sd_work.specs.BigStep.{and_then, big_step, big_parts}
use Rattle.sd_confluence.specs.Safe.{TouchCompatibly}
use Rattle.sd_graph.specs.declared.place.Place.{Place}
use Rattle.sd_graph.specs.Unfold.{point_terms}
use Rattle.sd_exchange.specs.reorder.Reordered.{Reordered, as_it_is, behind, exchanged}
use Rattle.sd_exchange.specs.reorder.Reordered as order
use Rattle.sd_exchange.proofs.reorder_lemmas.Passing.{AllCompatible, compatible-back}
use Rattle.sd_exchange.proofs.reorder_lemmas.Rows.{ApartFromAll, RowsApart}
use Rattle.sd_exchange.proofs.reorder_lemmas.Ends.{assoc}
use Rattle.sd_exchange.proofs.reorder_lemmas.Distributing.{then_nothing}
use Rattle.sd_exchange.specs.ends.Points.{pair_of}
use Rattle.sd_exchange.specs.tiles.Shuffled.{Shuffled}
use Rattle.sd_exchange.specs.tiles.Shuffled as shuffled

-- what a term touches
abbrev pub Of : (List ℤ → Term Place) → List ℤ → Touch → Type 0
Of f a = Touches (f a)

-- ---- any order

apart-shuffled : (W : List ℤ → Touch → Type 0) (a : List ℤ) (all others : List (List ℤ)) → Shuffled all others → ApartFromAll W a all → ApartFromAll W a others
apart-shuffled W a all others (shuffled.as_it_is members) h = h
apart-shuffled W a all others (shuffled.behind member members more s) h = (h.0, apart-shuffled W a members more s h.1)
apart-shuffled W a all others (shuffled.exchanged first second members) h = (h.1.0, (h.0, h.1.1))
apart-shuffled W a all others (shuffled.and_then members between more s r) h = apart-shuffled W a between more r (apart-shuffled W a members between s h)

turned-compatible : (T U : Touch → Type 0) → AllCompatible T U → AllCompatible U T
turned-compatible T U h touch other t u = compatible-back other touch (h other touch u t)

-- points of which no two conflict may be done in any order, in which again no two do
pub shuffled-reordered : (f : List ℤ → Term Place) (all others : List (List ℤ)) → Shuffled all others → RowsApart (Of f) all → Reordered (point_terms f all) (point_terms f others) × RowsApart (Of f) others
shuffled-reordered f all others (shuffled.as_it_is members) h = (as_it_is (point_terms f members), h)
shuffled-reordered f all others (shuffled.behind member members more s) h =
    let rest = shuffled-reordered f members more s h.1 in
    (behind (f member) (point_terms f members) (point_terms f more) rest.0, (apart-shuffled (Of f) member members more s h.0, rest.1))
shuffled-reordered f all others (shuffled.exchanged first second members) h =
    (exchanged (f first) (f second) (point_terms f members) h.0.0, ((turned-compatible (Of f first) (Of f second) h.0.0, h.1.0), (h.0.1, h.1.1)))
shuffled-reordered f all others (shuffled.and_then members between more s r) h =
    let first = shuffled-reordered f members between s h in
    let second = shuffled-reordered f between more r first.1 in
    (order.and_then (point_terms f members) (point_terms f between) (point_terms f more) first.0 second.0, second.1)

-- ---- point by point

-- the terms of all points, and then the tail
abbrev pub line : (List ℤ → Term Place) → List (List ℤ) → Terms Place → Terms Place
line f [] tail = tail
line f (a ∷ all) tail = also (f a) (line f all tail)

-- both terms of each point, and then the tail
abbrev pub in_turn : (f g : List ℤ → Term Place) → List (List ℤ) → Terms Place → Terms Place
in_turn f g [] tail = tail
in_turn f g (a ∷ all) tail = also (f a) (also (g a) (in_turn f g all tail))

-- the first term of each of these points does not conflict with the second term of a point before them
abbrev pub PastOne : (f g : List ℤ → Term Place) → List ℤ → List (List ℤ) → Type 0
PastOne f g a [] = ⊤
PastOne f g a (b ∷ all) = TouchCompatibly (f b) (g a) × PastOne f g a all

abbrev pub LaterPast : (f g : List ℤ → Term Place) → List (List ℤ) → Type 0
LaterPast f g [] = ⊤
LaterPast f g (a ∷ all) = PastOne f g a all × LaterPast f g all

comes-forward : (f g : List ℤ → Term Place) (a : List ℤ) (all : List (List ℤ)) (tail : Terms Place) → PastOne f g a all → Reordered (line f all (also (g a) tail)) (also (g a) (line f all tail))
comes-forward f g a [] tail h = as_it_is (also (g a) tail)
comes-forward f g a (b ∷ all) tail h =
    order.and_then (also (f b) (line f all (also (g a) tail))) (also (f b) (also (g a) (line f all tail))) (also (g a) (also (f b) (line f all tail)))
    (behind (f b) (line f all (also (g a) tail)) (also (g a) (line f all tail)) (comes-forward f g a all tail h.1))
    (exchanged (f b) (g a) (line f all tail) h.0)

pub lines-in-turn : (f g : List ℤ → Term Place) (all : List (List ℤ)) (tail : Terms Place) → LaterPast f g all → Reordered (line f all (line g all tail)) (in_turn f g all tail)
lines-in-turn f g [] tail h = as_it_is tail
lines-in-turn f g (a ∷ all) tail h =
    behind (f a) (line f all (also (g a) (line g all tail))) (also (g a) (in_turn f g all tail))
    (order.and_then (line f all (also (g a) (line g all tail))) (also (g a) (line f all (line g all tail))) (also (g a) (in_turn f g all tail))
    (comes-forward f g a all (line g all tail) h.0)
    (behind (g a) (line f all (line g all tail)) (in_turn f g all tail) (lines-in-turn f g all tail h.1)))

-- a map's points and then the rest
pub list-line : (kind : Parts) (before : ℕ → ℕ → Bool) (f : List ℤ → Term Place) (all : List (List ℤ)) (tail : Terms Place) (most n : ℕ) (s : Memories) → big_parts (also (list kind before (point_terms f all)) tail) most s n ≡ big_parts (line f all tail) most s n
list-line kind before f [] tail most n s = refl
list-line kind before f (a ∷ all) tail most n s =
    assoc (big_step (f a) most s n) (big_parts (point_terms f all) most) (big_parts tail most) ∙ ap (and_then (big_step (f a) most s n)) (λ i s n. list-line kind before f all tail most n s i)

pub turn-pairs : (kind : Parts) (before inside : ℕ → ℕ → Bool) (f g : List ℤ → Term Place) (all : List (List ℤ)) (tail : Terms Place) (most n : ℕ) (s : Memories) →
    big_parts (in_turn f g all tail) most s n ≡ big_parts (also (list kind before (point_terms (pair_of inside f g) all)) tail) most s n
turn-pairs kind before inside f g all tail most n s = go all most n s ∙ sym (list-line kind before (pair_of inside f g) all tail most n s)
  where
    go : (all : List (List ℤ)) (most n : ℕ) (s : Memories) → big_parts (in_turn f g all tail) most s n ≡ big_parts (line (pair_of inside f g) all tail) most s n
    go [] most n s = refl
    go (a ∷ all) most n s =
        ap (and_then (big_step (f a) most s n)) (λ i s n. and_then (big_step (g a) most s n) (λ s n. go all most n s i))
        ∙ sym (assoc (big_step (f a) most s n) (big_step (g a) most) (big_parts (line (pair_of inside f g) all tail) most))
        ∙ ap (λ c. and_then c (big_parts (line (pair_of inside f g) all tail) most)) (ap (and_then (big_step (f a) most s n)) (λ i s n. sym (then_nothing (big_step (g a) most s n)) i))
