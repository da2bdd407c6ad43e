-- Which outputs plain code sets.
use Rattle.std.proofs.Common.{◌≡◌, ℕ, ◌+◌, ◌<◌, List, [], ◌∷◌, ◌++◌, length, Option, Some, None, Bool, true, false, not, ◌&&◌, ◌==◌, if◌then◌else◌, refl, sym, ap, ◌∙◌, subst}
use Rattle.std.specs.Prelude.{option_and_then}
use Rattle.std.specs.List.{AllByRecursion}
use Rattle.sd_graph.specs.PlainTree.{ValueTree, ValueTrees, no_value, and_value, ActTree, set_local, assign, branch, ActTrees, no_act, and_act, TaskletTree}
use Rattle.sd_tcode.specs.tcode.Named.{count_of, dimensions_of, SetsOf, AllSetsOf}
use Rattle.sd_tcode.specs.tcode.Emitted.{is_scalar, layout_of}
use Rattle.sd_tcode.specs.tcode.Plain.{is_among, set_after, set_by, all_set, plain_of}
use Rattle.sd_tcode.specs.tcode.Compiled.{AreOutputs}

pub sets_new : (order : List ℕ) (connector : ℕ) (at : ValueTrees) (value : ValueTree) → is_scalar at ≡ true → is_among order connector ≡ false → set_after order (assign connector at value) ≡ Some (order ++ connector ∷ [])
sets_new order connector at value h g = rw (h, g) refl

pub sets_none : (order : List ℕ) (connector : ℕ) (at : ValueTrees) (value : ValueTree) → is_scalar at ≡ false → set_after order (assign connector at value) ≡ None
sets_none order connector at value h = rw h refl

pub sets_again : (order : List ℕ) (connector : ℕ) (at : ValueTrees) (value : ValueTree) → is_among order connector ≡ true → set_after order (assign connector at value) ≡ None
sets_again order connector at value h = rw h (either_none (is_scalar at))
  where
    either_none : (b : Bool) → (if b && false then Some (order ++ connector ∷ []) else None) ≡ None
    either_none true = refl
    either_none false = refl

pub all_and_one : (P : ℕ → Type 0) (order : List ℕ) (connector : ℕ) → AllByRecursion P order → P connector → AllByRecursion P (order ++ connector ∷ [])
all_and_one P [] connector all h = (h, tt)
all_and_one P (first ∷ rest) connector all h = (all.0, all_and_one P rest connector all.1 h)

-- what is set after the first statement of some
pub next_set : (act : ActTree) (rest : ActTrees) (order last : List ℕ) (set : Option (List ℕ)) → set_after order act ≡ set → option_and_then (λ next. set_by next rest) set ≡ Some last →
    (next : List ℕ) × (set_after order act ≡ Some next) × (set_by next rest ≡ Some last)
next_set act rest order last (Some next) h e = (next, h, e)
next_set act rest order last None h e = cc

module _ (code : TaskletTree) where
  -- scalars that are outputs
  abbrev IsScalar : ℕ → Type 0
  IsScalar connector = (connector < length code.ins + length code.outs) × (dimensions_of code connector ≡ 0)

  abbrev Low : List ℕ → Type 0
  Low order = AllByRecursion IsScalar order

  assign_low : (order next : List ℕ) (connector : ℕ) (at : ValueTrees) (new : Bool) → connector < length code.ins + length code.outs → count_of at ≡ dimensions_of code connector →
      (if is_scalar at && not new then Some (order ++ connector ∷ []) else None) ≡ Some next → Low order → Low next
  assign_low order next connector no_value false h d e low =
      let same : order ++ connector ∷ [] ≡ next = cc in
      subst Low same (all_and_one IsScalar order connector low (h, sym d))
  assign_low order next connector no_value true h d e low = cc
  assign_low order next connector (and_value first rest) new h d e low = cc

  act_low : (act : ActTree) (order next : List ℕ) → SetsOf code act → set_after order act ≡ Some next → Low order → Low next
  act_low (set_local number value) order next sets e low = let same : order ≡ next = cc in subst Low same low
  act_low (assign connector at value) order next sets e low = assign_low order next connector at (is_among order connector) sets.1 sets.2 e low
  act_low (branch when body other) order next sets e low = cc

  acts_low : (acts : ActTrees) (order last : List ℕ) → AllSetsOf code acts → set_by order acts ≡ Some last → Low order → Low last
  acts_low no_act order last sets e low = let same : order ≡ last = cc in subst Low same low
  acts_low (and_act act acts) order last sets e low =
      let set = next_set act acts order last (set_after order act) refl e in
      acts_low acts set.0 last sets.1 set.2 (act_low act order set.0 sets.0 set.1 low)

  low_only : (order : List ℕ) → Low order → AllByRecursion (λ connector. connector < length code.ins + length code.outs) order
  low_only [] low = tt
  low_only (first ∷ rest) low = (low.0.0, low_only rest low.1)

  -- the outputs that are set are scalars
  pub outputs_scalar : (order : List ℕ) → AllSetsOf code code.body → set_by [] code.body ≡ Some order → AllByRecursion IsScalar order
  outputs_scalar order sets e = acts_low code.body [] order sets e tt

  -- the outputs that are set are outputs
  pub outputs_low : AllSetsOf code code.body → AreOutputs (layout_of code) (plain_of code)
  outputs_low sets = of_set (set_by [] code.body) refl
    where
      of_order : (order : List ℕ) → AllByRecursion (λ connector. connector < length code.ins + length code.outs) order → (b : Bool) → AreOutputs (layout_of code) (if b then Some order else None)
      of_order order low true = low
      of_order order low false = tt

      of_set : (set : Option (List ℕ)) → set_by [] code.body ≡ set → AreOutputs (layout_of code) (option_and_then (all_set (length code.outs)) set)
      of_set (Some order) e = of_order order (low_only order (acts_low code.body [] order sets e tt)) (length order == length code.outs)
      of_set None e = tt

  -- what is plain was set by the whole body
  pub plain_set : (order : List ℕ) → plain_of code ≡ Some order → set_by [] code.body ≡ Some order
  plain_set order e = of_set (set_by [] code.body) refl e
    where
      of_order : (this : List ℕ) (b : Bool) → (if b then Some this else None) ≡ Some order → this ≡ order
      of_order this true e = cc
      of_order this false e = cc

      of_set : (set : Option (List ℕ)) → set_by [] code.body ≡ set → option_and_then (all_set (length code.outs)) set ≡ Some order → set_by [] code.body ≡ Some order
      of_set (Some this) h e = h ∙ ap Some (of_order this (length this == length code.outs) e)
      of_set None h e = cc
