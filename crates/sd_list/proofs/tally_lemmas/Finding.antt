-- The way down to the leaf in which a unit is.
use Rattle.std.proofs.Common.{◌≡◌, inl, inr, ℕ, zero, suc, ◌+◌, ◌-◌, ◌<◌, ◌≤◌, List, [], ◌∷◌, ◌++◌, length, take, drop, get_or, slice_set, refl, sym, ap, ap₂, ◌∙◌, subst, arith}
use Rattle.std.proofs.lemmas.List.{drop_more, get_or-drop, get_or-take, take_more, length-drop, drop-set-lt}
use Rattle.std.proofs.Math.Seq.{take-append_seam}
use Rattle.std.proofs.lemmas.List.Sums.{sum_by-cons, sum_by-append}
use Rattle.std.specs.List.{sum}
use Rattle.sd_list.specs.tally.Nodes.{node, doubled, IsSummed, IsBelow, counts_of, IsTree}
use Rattle.sd_list.proofs.tally_lemmas.Sums.{below, doubled-positive, nothing-there, less-or-not}

pub doubled-most : (depth more : ℕ) → doubled depth ≤ doubled (depth + more)
doubled-most depth zero = let same : depth + 0 ≡ depth = omega arith in subst (λ (n : ℕ). doubled depth ≤ doubled n) (sym same) (omega arith)
doubled-most depth (suc more) =
    let next : depth + suc more ≡ suc (depth + more) = omega arith in
    subst (λ (n : ℕ). doubled depth ≤ doubled n) (sym next) (omega (arith, doubled-most depth more))

pub doubled-next : (level : ℕ) → doubled (level + 1) ≡ doubled level + doubled level
doubled-next level = let next : level + 1 ≡ suc level = omega arith in ap doubled next

-- a level above the leaves has at most half as many nodes
pub above-leaves : (level depth : ℕ) → level < depth → doubled level + doubled level ≤ doubled depth
above-leaves level depth less =
    let sum : (level + 1) + (depth - (level + 1)) ≡ depth = omega (arith, less) in
    let most : doubled (level + 1) ≤ doubled depth = subst (λ (n : ℕ). doubled (level + 1) ≤ doubled n) sum (doubled-most (level + 1) (depth - (level + 1))) in
    omega (arith, most, doubled-next level)

-- a node above the leaves
pub down : (level depth at width : ℕ) → level < depth → width ≡ doubled depth → at < doubled level + doubled level → at < width
down level depth at width less is high = omega (arith, above-leaves level depth less, is, high)

module _ (nodes : List ℕ) (width : ℕ) (summed : IsSummed width nodes) (sized : length nodes ≡ width + width) where
  -- the units before the left one of the two nodes below are those before the node
  pub before-left : (first at : ℕ) → 0 < first → first ≤ at → at ≤ width → sum (take ((at + at) - (first + first)) (drop (first + first) nodes)) ≡ sum (take (at - first) (drop first nodes))
  before-left first at positive low within =
      let count = at - first in
      let same : (at + at) - (first + first) ≡ count + count = omega (arith, low) in
      ap (λ (n : ℕ). sum (take n (drop (first + first) nodes))) same ∙ below nodes width summed sized first count positive (omega (arith, low, within))

  -- and before the right one there are those of the left one too
  pub before-right : (first at : ℕ) → 0 < first → first ≤ at → at < width
      → sum (take ((at + at + 1) - (first + first)) (drop (first + first) nodes)) ≡ sum (take (at - first) (drop first nodes)) + node nodes (at + at)
  before-right first at positive low within =
      let count = (at + at) - (first + first) in
      let same : (at + at + 1) - (first + first) ≡ count + 1 = omega (arith, low) in
      let there : first + first + count ≡ at + at = omega (arith, low) in
      let long : count < length (drop (first + first) nodes) = omega (arith, length-drop (first + first) nodes, sized, within, low) in
      let more : take (count + 1) (drop (first + first) nodes) ≡ _ = take_more (drop (first + first) nodes) count 0 long in
      let one : get_or (drop (first + first) nodes) count 0 ≡ node nodes (at + at) = get_or-drop (first + first) nodes count 0 ∙ ap (node nodes) there in
      let parted : sum (take (count + 1) (drop (first + first) nodes)) ≡ sum (take count (drop (first + first) nodes)) + sum (get_or (drop (first + first) nodes) count 0 ∷ []) =
      ap sum more ∙ sum_by-append (λ x. x) (take count (drop (first + first) nodes)) (get_or (drop (first + first) nodes) count 0 ∷ []) in
      let single : sum (get_or (drop (first + first) nodes) count 0 ∷ []) ≡ get_or (drop (first + first) nodes) count 0 + 0 = sum_by-cons (λ x. x) (get_or (drop (first + first) nodes) count 0) [] in
      let shifted : sum (take ((at + at + 1) - (first + first)) (drop (first + first) nodes)) ≡ sum (take (count + 1) (drop (first + first) nodes)) = ap (λ (n : ℕ). sum (take n (drop (first + first) nodes))) same in
      omega (arith, shifted, parted, single, one, before-left first at positive low (omega (arith, within)))

-- the way down, so many levels far
pub record IsOnWay (nodes : List ℕ) (unit level at rest : ℕ) : Type 0 where
  pub low : doubled level ≤ at
  pub high : at < doubled level + doubled level
  pub before : sum (take (at - doubled level) (drop (doubled level) nodes)) + rest ≡ unit
  pub inside : rest < node nodes at

pub way-on : (nodes : List ℕ) (width depth unit level at rest at' rest' : ℕ) → IsSummed width nodes → length nodes ≡ width + width → width ≡ doubled depth → level < depth
    → IsOnWay nodes unit level at rest → IsBelow nodes at rest (at', rest') → IsOnWay nodes unit (level + 1) at' rest'
way-on nodes width depth unit level at rest at' rest' summed sized is less way (inl left) =
    let next = doubled-next level in
    let positive = doubled-positive level in
    let under : at < width = down level depth at width less is way.high in
    let same : sum (take (at' - doubled (level + 1)) (drop (doubled (level + 1)) nodes)) ≡ sum (take ((at + at) - (doubled level + doubled level)) (drop (doubled level + doubled level) nodes)) =
    ap₂ (λ (n d : ℕ). sum (take (n - d) (drop d nodes))) left.0 next in
    record {
      low = omega (arith, next, left.0, way.low);
      high = omega (arith, next, left.0, way.high);
      before = omega (arith, same, before-left nodes width summed sized (doubled level) at positive way.low (omega (arith, under)), left.1, way.before);
      inside = subst (λ (n : ℕ). rest' < node nodes n) (sym left.0) left.2;
    }
way-on nodes width depth unit level at rest at' rest' summed sized is less way (inr right) =
    let next = doubled-next level in
    let positive = doubled-positive level in
    let under : at < width = down level depth at width less is way.high in
    let same : sum (take (at' - doubled (level + 1)) (drop (doubled (level + 1)) nodes)) ≡ sum (take ((at + at + 1) - (doubled level + doubled level)) (drop (doubled level + doubled level) nodes)) =
    ap₂ (λ (n d : ℕ). sum (take (n - d) (drop d nodes))) right.0 next in
    record {
      low = omega (arith, next, right.0, way.low);
      high = omega (arith, next, right.0, way.high);
      before = omega (arith, same, before-right nodes width summed sized (doubled level) at positive way.low under, right.1, way.before);
      inside = subst (λ (n : ℕ). rest' < node nodes n) (sym right.0) right.2;
    }

pub way-begins : (nodes : List ℕ) (unit : ℕ) → unit < node nodes 1 → IsOnWay nodes unit 0 1 unit
way-begins nodes unit inside = record { low = omega arith; high = omega arith; before = omega arith; inside = inside }

take-less : (xs : List ℕ) (few many : ℕ) → few ≤ many → take few (take many xs) ≡ take few xs
take-less xs zero many less = refl
take-less [] (suc few) zero less = absurd (omega (arith, less))
take-less [] (suc few) (suc many) less = refl
take-less (x ∷ xs) (suc few) zero less = absurd (omega (arith, less))
take-less (x ∷ xs) (suc few) (suc many) less = ap (λ (rest : List ℕ). x ∷ rest) (take-less xs few many (omega (arith, less)))

module _ (nodes : List ℕ) (width depth parts : ℕ) (tree : IsTree nodes width depth parts) (number rest : ℕ) (inside : rest < node nodes (width + number)) where
  leaf : get_or (drop width nodes) number 0 ≡ node nodes (width + number)
  leaf = get_or-drop width nodes number 0

  -- a leaf with units is that of a part
  is-part : number < parts
  is-part = elim (less-or-not number parts) [
    | inl less ↦ less
    | inr not ↦
        let over : parts + (number - parts) ≡ number = omega (arith, not) in
        let none : get_or (drop parts (drop width nodes)) (number - parts) 0 ≡ 0 = nothing-there (drop parts (drop width nodes)) (number - parts) tree.rest in
        let same : get_or (drop parts (drop width nodes)) (number - parts) 0 ≡ node nodes (width + number) =
        get_or-drop parts (drop width nodes) (number - parts) 0 ∙ ap (λ (n : ℕ). get_or (drop width nodes) n 0) over ∙ leaf in
        absurd (omega (arith, none, same, inside))
  ]

  pub part-before : sum (take number (counts_of nodes width parts)) ≡ sum (take number (drop width nodes))
  part-before = ap sum (take-less (drop width nodes) number parts (omega (arith, is-part)))

  pub part-inside : rest < get_or (counts_of nodes width parts) number 0
  part-inside = omega (arith, get_or-take parts (drop width nodes) number 0 is-part, leaf, inside)

-- what is written into a list that was lent
pub written : (new old : List ℕ) (size : ℕ) → length new ≡ size → take size (new ++ drop (length new) old) ≡ new
written new old size sized = subst (λ (n : ℕ). take n (new ++ drop (length new) old) ≡ new) sized (take-append_seam new (drop (length new) old))

-- one more part
pub more-parts : (old new : List ℕ) (width depth parts count : ℕ) → IsTree old width depth parts → parts < width → length new ≡ width + width → IsSummed width new
    → drop width new ≡ slice_set (drop width old) parts count → IsTree new width depth (parts + 1)
more-parts old new width depth parts count tree room sized summed leaves =
    let there : parts < length (drop width old) = omega (arith, length-drop width old, tree.sized, room) in
    let same : drop (parts + 1) (drop width new) ≡ drop (parts + 1) (drop width old) =
    ap (drop (parts + 1)) leaves ∙ drop-set-lt (parts + 1) (drop width old) parts count (omega arith) in
    let one : drop parts (drop width old) ≡ get_or (drop width old) parts 0 ∷ drop (parts + 1) (drop width old) = drop_more (drop width old) parts 0 there in
    let sums : sum (drop parts (drop width old)) ≡ get_or (drop width old) parts 0 + sum (drop (parts + 1) (drop width old)) =
    ap sum one ∙ sum_by-cons (λ x. x) (get_or (drop width old) parts 0) (drop (parts + 1) (drop width old)) in
    record {
      sized = sized;
      wide = tree.wide;
      doubled = tree.doubled;
      room = omega (arith, room);
      summed = summed;
      rest = omega (arith, ap sum same, sums, tree.rest);
    }
