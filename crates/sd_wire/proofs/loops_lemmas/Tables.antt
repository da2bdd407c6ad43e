-- A table that is raised so often is that of so many transitions.
use Rattle.std.proofs.Common.{◌≡◌, ℕ, zero, suc, ◌+◌, ◌-◌, ◌≤◌, List, [], Bool, true, false, not, ◌&&◌, ◌||◌, nat_eq, slice_index_or, refl, ap, sym, subst, ◌∙◌, arith}
use Rattle.std.specs.Bool.{beq, Decides}
use Rattle.std.specs.List.{list_any}
use Rattle.sd_graph.specs.PlainTree.{StateTrees, no_state, and_state, ExitTree}
use Rattle.sd_graph.specs.TreeParts.{exits_at}
use Rattle.sd_graph.specs.LoopScope.{leads_within}
use Rattle.sd_wire.specs.loops.Table.{looked, leads_on, raised}

-- the table tells which states lead to one by so many transitions
abbrev pub IsTable : StateTrees → (avoided most to : ℕ) → List Bool → Type 0
IsTable states avoided most to table = (from : ℕ) → looked table to from ≡ leads_within states avoided most from to

-- two tests are the same where the test of both says so
pub decides_beq : (a b : Bool) → Decides (beq a b) (a ≡ b)
decides_beq true true = (λ test. refl, λ same. refl)
decides_beq true false = (λ test. sym test, λ same. sym same)
decides_beq false true = (λ test. test, λ same. same)
decides_beq false false = (λ test. refl, λ same. refl)

or_false : (b : Bool) → b ≡ (b || false)
or_false true = refl
or_false false = refl

-- the entry of a state
entry : (table : List Bool) (avoided to first : ℕ) (states : StateTrees) (number from : ℕ) → from ≡ first + number →
    slice_index_or (raised table avoided to first states) number (nat_eq from to) ≡ leads_on table avoided to from (exits_at states number)
entry table avoided to first no_state number from is = or_false (nat_eq from to)
entry table avoided to first (and_state items exits states) zero from is =
    ap (λ (number : ℕ). leads_on table avoided to number exits) (omega (arith, is))
entry table avoided to first (and_state items exits states) (suc number) from is = entry table avoided to (suc first) states number from (omega (arith, is))

pub table_begun : (states : StateTrees) (avoided to : ℕ) → IsTable states avoided 0 to []
table_begun states avoided to = λ from. refl

pub table_raised : (states : StateTrees) (avoided most to : ℕ) (table : List Bool) → IsTable states avoided most to table →
    IsTable states avoided (suc most) to (raised table avoided to 0 states)
table_raised states avoided most to table is = λ from.
    entry table avoided to 0 states from from (omega arith)
    ∙ (λ i. nat_eq from to || list_any (λ (exit : ExitTree). not (nat_eq exit.to avoided) && is exit.to i) (exits_at states from))

-- where one transition more changes nothing, any number more changes nothing
settled : (states : StateTrees) (avoided most to : ℕ) (table : List Bool) → raised table avoided to 0 states ≡ table → IsTable states avoided most to table →
    (more : ℕ) → IsTable states avoided (more + most) to table
settled states avoided most to table same is zero =
    let none : most ≡ 0 + most = omega arith in
    subst (λ (n : ℕ). IsTable states avoided n to table) none is
settled states avoided most to table same is (suc more) =
    let next : suc (more + most) ≡ suc more + most = omega arith in
    let raised_is = table_raised states avoided (more + most) to table (settled states avoided most to table same is more) in
    subst (λ (n : ℕ). IsTable states avoided n to table) next (subst (IsTable states avoided (suc (more + most)) to) same raised_is)

pub table_settled : (states : StateTrees) (avoided most all to : ℕ) (table : List Bool) → raised table avoided to 0 states ≡ table → most ≤ all → IsTable states avoided most to table →
    IsTable states avoided all to table
table_settled states avoided most all to table same within is =
    let reached : (all - most) + most ≡ all = omega (arith, within) in
    subst (λ (n : ℕ). IsTable states avoided n to table) reached (settled states avoided most to table same is (all - most))
