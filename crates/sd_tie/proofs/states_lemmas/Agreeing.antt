-- Values of variables that agree below a number, and what is affine.
use Rattle.std.proofs.Common.{◌≡◌, ◌∙◌, ◌⊎◌, inl, inr, ℕ, suc, ◌<◌, ◌≤◌, ◌+◌, ℤ, List, [], ◌∷◌, ◌++◌, length, slice_index_or, refl, sym, subst, arith}
use Rattle.sd_lex.specs.PlainTree.{Expression, number, named, element_at, one, two, choice}
use Rattle.sd_range.specs.Affine.{variable_value}
use Rattle.sd_work.specs.Exit.{Values}
use Rattle.sd_graph.specs.Context.{named_values}
use Rattle.sd_valid.specs.SizedValues.{sized}
use Rattle.sd_valid.proofs.SizedLaws.{size_value, other_value}
use Rattle.sd_program.specs.Names.{Name, Named}
use Rattle.sd_program.specs.IsAffine.{IsAffine}
use Rattle.sd_program.specs.Bounds.{EachSubscript}
use Rattle.sd_program.specs.Place.{Holder}
use Rattle.sd_program.specs.Known.{KnowsElements}
use Rattle.sd_tie.specs.items.Standing.{StandsAt}
use Rattle.sd_tie.specs.states.Course.{Agree}
use Rattle.sd_tie.specs.states.InProgram.{AllBelow}

pub all_more : (bound more : ℕ) (ns : List ℕ) → bound ≤ more → AllBelow bound ns → AllBelow more ns
all_more bound more [] h b = tt
all_more bound more (n ∷ ns) h b = (omega (arith, h, b.0), all_more bound more ns h b.1)

pub all_last : (bound : ℕ) (ns : List ℕ) → AllBelow bound ns → AllBelow (bound + 1) (ns ++ bound ∷ [])
all_last bound [] h = (omega arith, tt)
all_last bound (n ∷ ns) h = (omega (arith, h.0), all_last bound ns h.1)

pub named_agree : (names : List Name) (bound : ℕ) (values other : Values) → Agree bound values other → (ns : List ℕ) → AllBelow bound ns → named_values names values ns ≡ named_values names other ns
named_agree names bound values other same [] b = refl
named_agree names bound values other same (n ∷ ns) b = λ i. (slice_index_or names n [], same n b.0 i) ∷ named_agree names bound values other same ns b.1 i

either : (n bound : ℕ) → (n < bound) ⊎ (bound ≤ n)
either n bound = grind arith

-- values that agree, with the sizes among them
pub sized_agree : (sizes : List ℤ) (bound : ℕ) (values other : Values) → Agree bound values other → (n : ℕ) → n < bound → variable_value (sized sizes values) n ≡ variable_value (sized sizes other) n
sized_agree sizes bound values other same n b = go (either n (length sizes))
  where
    go : (n < length sizes) ⊎ (length sizes ≤ n) → variable_value (sized sizes values) n ≡ variable_value (sized sizes other) n
    go (inl below) = size_value sizes values n below ∙ sym (size_value sizes other n below)
    go (inr above) = other_value sizes values n above ∙ same n b ∙ sym (other_value sizes other n above)

-- an affine expression has no element
pub affine_knows : (known : Named Holder) (expression : Expression) → IsAffine expression → KnowsElements known expression
affine_knows known (number value) h = tt
affine_knows known (named name) h = tt
affine_knows known (element_at name at) h = absurd h
affine_knows known (one sign of) h = affine_knows known of h.1
affine_knows known (two sign left right) h = (affine_knows known left h.1.0, affine_knows known right h.1.1)
affine_knows known (choice value when other) h = absurd h

pub affine_subscripts : (expression : Expression) → IsAffine expression → EachSubscript IsAffine expression
affine_subscripts (number value) h = tt
affine_subscripts (named name) h = tt
affine_subscripts (element_at name at) h = absurd h
affine_subscripts (one sign of) h = affine_subscripts of h.1
affine_subscripts (two sign left right) h = (affine_subscripts left h.1.0, affine_subscripts right h.1.1)
affine_subscripts (choice value when other) h = absurd h

-- names behind others
pub names_rest : (whole part more : List Name) (n : ℕ) → StandsAt [] whole (part ++ more) n → StandsAt [] whole more (n + length part)
names_rest whole [] more n h = let e : n ≡ n + 0 = omega arith in subst (StandsAt [] whole more) e h
names_rest whole (member ∷ part) more n h =
    let e : suc n + length part ≡ n + suc (length part) = omega arith in
    subst (StandsAt [] whole more) e (names_rest whole part more (suc n) h.1)
