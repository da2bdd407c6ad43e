-- Map parameters in force, and the points of a map.
use Rattle.std.specs.Prelude.{◌≡◌, ◌++◌, ◌≢◌, ℕ, ℤ, List, [], ◌∷◌, ⊤}
use Rattle.std.specs.List.{AllByRecursion, Contains}
use Rattle.sd_range.specs.Terms.{IsNormal}
use Rattle.sd_range.specs.Affine.{variable_value}
use Rattle.sd_range.specs.Range.{IsRange, range_values}
use Rattle.sd_range.specs.Points.{points, ranges_of}
use Rattle.sd_range.specs.Variables.{with_variable}
use Rattle.sd_range.specs.declared.affine.Affine.{Affine}
use Rattle.sd_range.specs.declared.range.Range.{Range}
use Rattle.sd_subset.specs.declared.boxes.bounds.Bounds.{Bounds}
use Rattle.sd_subset.specs.boxes.Box.{Parameter, Box}

-- a variable is none of these parameters
abbrev pub IsOther : List Parameter → ℕ → Type 0
IsOther parameters variable = AllByRecursion (λ parameter. variable ≢ parameter.0) parameters

-- an expression names none of these parameters
abbrev pub NamesOthers : List Parameter → Affine → Type 0
NamesOthers parameters a = AllByRecursion (λ term. IsOther parameters term.0) a.terms

-- nor do the expressions of a range
abbrev pub RangeNamesOthers : List Parameter → Range → Type 0
RangeNamesOthers parameters r = NamesOthers parameters r.begin × AllByRecursion (NamesOthers parameters) r.ends

-- the expressions of a range do not name a variable
abbrev pub Ignores : Range → ℕ → Type 0
Ignores r variable =
    AllByRecursion (λ term. term.0 ≢ variable) r.begin.terms × AllByRecursion (λ (end : Affine). AllByRecursion (λ term. term.0 ≢ variable) end.terms) r.ends

-- a range whose expressions are in normal form
pub record IsNormalRange (r : Range) : Type 0 where
  pub range : IsRange r
  pub begin : IsNormal r.begin.terms
  pub ends : AllByRecursion (λ end. IsNormal end.terms) r.ends

-- each is another variable than those after it
abbrev pub AreDistinct : List Parameter → Type 0
AreDistinct [] = ⊤
AreDistinct (parameter ∷ parameters) = IsOther parameters parameter.0 × AreDistinct parameters

-- the outermost first: no range names a parameter further in
abbrev pub IsInward : List Parameter → Type 0
IsInward [] = ⊤
IsInward (parameter ∷ parameters) =
    AllByRecursion (λ (inner : Parameter). (parameter.0 ≢ inner.0) × Ignores parameter.1 inner.0) parameters × IsNormalRange parameter.1 × IsInward parameters

-- the same parameters in another order
abbrev pub IsReordered : List Parameter → List Parameter → Type 0
IsReordered [] others = others ≡ []
IsReordered (parameter ∷ parameters) others =
    (front : List Parameter) × (back : List Parameter) × (others ≡ front ++ parameter ∷ back) × IsReordered parameters (front ++ back)

-- the parameters of a map inside of others: each once, none of the others is one of them and no range names one of them
pub record AreFresh (around own : List Parameter) : Type 0 where
  pub distinct : AreDistinct own
  pub normal : AllByRecursion (λ parameter. IsNormalRange parameter.1) own
  pub others : AllByRecursion (λ parameter. IsOther own parameter.0) around
  pub outer_ranges : AllByRecursion (λ parameter. RangeNamesOthers own parameter.1) around
  pub own_ranges : AllByRecursion (λ parameter. RangeNamesOthers own parameter.1) own

-- a parameter has one of the values of its range
pub record HasValue (values : List ℤ) (parameter : Parameter) : Type 0 where
  pub normal : IsNormalRange parameter.1
  pub value : Contains (range_values values parameter.1) (variable_value values parameter.0)

-- all parameters in force do
abbrev pub AreInForce : List ℤ → List Parameter → Type 0
AreInForce values parameters = AllByRecursion (HasValue values) parameters

-- the values of the variables at a point of a map
abbrev pub at_point : List Parameter → List ℤ → List ℤ → List ℤ
at_point [] point values = values
at_point (parameter ∷ parameters) [] values = values
at_point (parameter ∷ parameters) (number ∷ point) values = at_point parameters point (with_variable parameter.0 number values)

-- a point of a map
abbrev pub IsPoint : List Parameter → List ℤ → List ℤ → Type 0
IsPoint parameters values point = Contains (points (ranges_of parameters) values) point

-- both bounds are in normal form
pub record AreNormalBounds (bounds : Bounds) : Type 0 where
  pub low : IsNormal bounds.low.terms
  pub high : IsNormal bounds.high.terms

abbrev pub IsNormalBox : Box → Type 0
IsNormalBox box = AllByRecursion AreNormalBounds box
