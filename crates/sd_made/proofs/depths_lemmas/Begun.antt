-- Where no `for` loop begins no variable is given its begin.
use Rattle.std.proofs.Common.{◌≡◌, inl, inr, ℕ, suc, nat_eq, List, [], ◌∷◌, map, Bool, true, false, if◌then◌else◌, refl, ap, subst, arith}
use Rattle.std.specs.List.{AllByRecursion}
use Rattle.sd_graph.specs.PlainTree.{StateTrees, no_state, and_state, ExitTree}
use Rattle.sd_graph.specs.TreeParts.{exits_at}
use Rattle.sd_validity.specs.rules.Ranks.{set_by, set_to, begun_at}
use Rattle.sd_made.proofs.depths_lemmas.Starts.{IsOne}
use Rattle.sd_made.proofs.depths_lemmas.States.{IsSetting}

module _ (starts : List ℕ) where
  nothing_set : (here : Bool) (set : List ℕ) → set ≡ [] → (if here then set else []) ≡ []
  nothing_set true set none = none
  nothing_set false set none = refl

  elsewhere : (here : Bool) (set : List ℕ) → (here ≡ true → ⊥) → (if here then set else []) ≡ []
  elsewhere true set not_here = absurd (not_here refl)
  elsewhere false set not_here = refl

  exit_sets_none : (state : ℕ) (exit : ExitTree) → (IsOne starts state → ⊥) → IsSetting starts exit → set_by state exit ≡ []
  exit_sets_none state exit apart (inl none) = nothing_set (nat_eq exit.to state) (map (λ assignment. assignment.0) exit.set) (ap (map (λ assignment. assignment.0)) none)
  exit_sets_none state exit apart (inr is) =
      elsewhere (nat_eq exit.to state) (map (λ assignment. assignment.0) exit.set) (λ e. (let here : exit.to ≡ state = grind (arith, e) in apart (subst (IsOne starts) here is)))

  exits_set_none : (state : ℕ) (exits : List ExitTree) → (IsOne starts state → ⊥) → AllByRecursion (IsSetting starts) exits → set_to state exits ≡ []
  exits_set_none state [] apart all = refl
  exits_set_none state (exit ∷ exits) apart all = rw (exit_sets_none state exit apart all.0) (exits_set_none state exits apart all.1)

  pub none_begun : (states : StateTrees) (state : ℕ) → ((number : ℕ) → AllByRecursion (IsSetting starts) (exits_at states number)) → (IsOne starts state → ⊥) → begun_at states state ≡ []
  none_begun no_state state all apart = refl
  none_begun (and_state items exits states) state all apart = rw (exits_set_none state exits apart (all 0)) (none_begun states state (λ number. all (suc number)) apart)
