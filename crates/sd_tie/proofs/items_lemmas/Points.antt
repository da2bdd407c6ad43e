-- The variables of a map at a point.
use Rattle.std.proofs.Common.{◌≡◌, ◌≢◌, ◌∙◌, ◌⊎◌, inl, inr, ℕ, suc, ◌+◌, ◌<◌, ◌≤◌, ℤ, List, [], ◌∷◌, length, map, refl, ap, sym, subst, arith}
use Rattle.std.specs.List.{zip}
use Rattle.sd_lex.specs.PlainTree.{Dimension}
use Rattle.sd_range.specs.Affine.{variable_value}
use Rattle.sd_range.specs.Variables.{with_variable, with_variables}
use Rattle.sd_range.specs.Points.{ranges_of}
use Rattle.sd_range.proofs.Variables.{variable_set, variable_kept}
use Rattle.sd_graph.specs.Context.{Context}
use Rattle.sd_graph.specs.Unfold.{assigned, name_of}
use Rattle.sd_valid.specs.SizedValues.{sized}
use Rattle.sd_valid.proofs.SizedLaws.{size_value, other_value}
use Rattle.sd_program.specs.Names.{Name, Named}
use Rattle.sd_task.specs.in_force.Names.{with_numbered}
use Rattle.sd_task.specs.in_force.Ranges.{range_of, parameters_of}
use Rattle.sd_says.specs.Setting.{taken_in, with_each}
use Rattle.sd_tie.specs.items.Standing.{AreBelow, StandsAt}

pub below_more : (bound more : ℕ) (entries : Named ℕ) → bound ≤ more → AreBelow bound entries → AreBelow more entries
below_more bound more [] h b = tt
below_more bound more (entry ∷ entries) h b = (omega (arith, h, b.0), below_more bound more entries h b.1)

-- functions that agree below a bound make the same of numbers below it
pub made_below : {A : Type 0} (bound : ℕ) (make other : ℕ → A) → ((n : ℕ) → n < bound → make n ≡ other n) → (entries : Named ℕ) → AreBelow bound entries → with_each make entries ≡ with_each other entries
made_below bound make other same [] b = refl
made_below bound make other same (entry ∷ entries) b = λ i. (entry.0, same entry.1 b.0 i) ∷ made_below bound make other same entries b.1 i

either : (n bound : ℕ) → (n < bound) ⊎ (bound ≤ n)
either n bound = grind arith

-- a variable that is set, among the sizes
pub sized_set : (sizes values : List ℤ) (variable : ℕ) (value : ℤ) → length sizes ≤ variable → variable_value (sized sizes (with_variable variable value values)) variable ≡ value
sized_set sizes values variable value above = other_value sizes (with_variable variable value values) variable above ∙ variable_set variable value values

pub sized_kept : (sizes values : List ℤ) (variable other : ℕ) (value : ℤ) → variable ≢ other → variable_value (sized sizes (with_variable variable value values)) other ≡ variable_value (sized sizes values) other
sized_kept sizes values variable other value apart = go (either other (length sizes))
  where
    go : (other < length sizes) ⊎ (length sizes ≤ other) → variable_value (sized sizes (with_variable variable value values)) other ≡ variable_value (sized sizes values) other
    go (inl below) = size_value sizes (with_variable variable value values) other below ∙ sym (size_value sizes values other below)
    go (inr above) = other_value sizes (with_variable variable value values) other above ∙ variable_kept variable other value values apart ∙ sym (other_value sizes values other above)

-- ---- parameters

pub ranges_same : (variables : Named ℕ) (ranges : List Dimension) (variable : ℕ) → ranges_of (parameters_of variables ranges variable) ≡ map (range_of variables) ranges
ranges_same variables [] variable = refl
ranges_same variables (first ∷ rest) variable = ap (λ others. range_of variables first ∷ others) (ranges_same variables rest (variable + 1))

module _ (sizes : List ℤ) (variables : Named ℕ) where
  -- what names stand for at a point
  pub point_values : (parameters : List Name) (ranges : List Dimension) (point values : List ℤ) (variable : ℕ) (known : Named ℕ) → length parameters ≡ length ranges → length point ≡ length ranges →
      length sizes ≤ variable → AreBelow variable known →
      with_each (variable_value (sized sizes (with_variables (assigned (parameters_of variables ranges variable) point) values))) (with_numbered parameters variable known)
      ≡ taken_in (zip parameters point) (with_each (variable_value (sized sizes values)) known)
  point_values [] [] [] values variable known h g above below = refl
  point_values [] [] (x ∷ point) values variable known h g above below = absurd (omega (arith, g))
  point_values [] (range ∷ ranges) point values variable known h g above below = absurd (omega (arith, h))
  point_values (name ∷ parameters) [] point values variable known h g above below = absurd (omega (arith, h))
  point_values (name ∷ parameters) (range ∷ ranges) [] values variable known h g above below = absurd (omega (arith, g))
  point_values (name ∷ parameters) (range ∷ ranges) (x ∷ point) values variable known h g above below =
      point_values parameters ranges point (with_variable variable x values) (variable + 1) ((name, variable) ∷ known) (omega (arith, h)) (omega (arith, g)) (omega (arith, above))
      (omega arith, below_more variable (variable + 1) known (omega arith) below)
      ∙ (λ i. taken_in (zip parameters point) ((name, sized_set sizes values variable x above i)
      ∷ made_below variable (variable_value (sized sizes (with_variable variable x values))) (variable_value (sized sizes values))
      (λ n b. sized_kept sizes values variable n x (λ same. omega (arith, same, b))) known below i))

  -- and what a place shows
  pub point_shown : (context : Context) (parameters : List Name) (ranges : List Dimension) (point : List ℤ) (variable : ℕ) → length parameters ≡ length ranges → StandsAt [] context.names parameters variable →
      map (λ assignment. (name_of context assignment.0, assignment.1)) (assigned (parameters_of variables ranges variable) point) ≡ zip parameters point
  point_shown context [] [] point variable h named = refl
  point_shown context [] (range ∷ ranges) point variable h named = absurd (omega (arith, h))
  point_shown context (name ∷ parameters) [] point variable h named = absurd (omega (arith, h))
  point_shown context (name ∷ parameters) (range ∷ ranges) [] variable h named = refl
  point_shown context (name ∷ parameters) (range ∷ ranges) (x ∷ point) variable h named =
      let next : suc variable ≡ variable + 1 = omega arith in
      (λ i. (named.0 i, x) ∷ point_shown context parameters ranges point (variable + 1) (omega (arith, h)) (subst (StandsAt [] context.names parameters) next named.1) i)

pub below_numbered : (parameters : List Name) (variable : ℕ) (known : Named ℕ) → AreBelow variable known → AreBelow (variable + length parameters) (with_numbered parameters variable known)
below_numbered [] variable known below = below_more variable (variable + 0) known (omega arith) below
below_numbered (name ∷ parameters) variable known below =
    let e : (variable + 1) + length parameters ≡ variable + suc (length parameters) = omega arith in
    subst (λ bound. AreBelow bound (with_numbered parameters (variable + 1) ((name, variable) ∷ known))) e
    (below_numbered parameters (variable + 1) ((name, variable) ∷ known) (omega arith, below_more variable (variable + 1) known (omega arith) below))
