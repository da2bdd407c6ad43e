-- A scope that is like an accepted one is accepted.
use Rattle.std.specs.List.{AllByRecursion, All, Contains}
use Rattle.std.proofs.lemmas.List.Elements.{All-contains}
use Rattle.std.proofs.Common.{List, [], ◌∷◌, map, ap, sym, ◌∙◌, subst}
use Rattle.sd_prop.specs.propagation.Accesses.{Access}
use Rattle.sd_prop.specs.propagation.Scopes.{is_sequential, Scope}
use Rattle.sd_race.specs.race.Pairs.{AreHarmlessOver, IsAccepted, IsFreeOfRaces, IsScopeAccepted, pair_of, pairs_among}
use Rattle.sd_race.specs.checking.Clear.{AreAlike}
use Rattle.sd_race.proofs.race_lemmas.Members.{all-parts, all-joined}

module _ (scope other : Scope) (alike : AreAlike scope other) where
  pair-alike : (first second : Access) → IsAccepted (pair_of other first second) → IsAccepted (pair_of scope first second)
  pair-alike first second accepted = λ same conflict.
      subst (λ over. AreHarmlessOver over scope.around first.box second.box) (sym alike.over)
      (subst (λ around. AreHarmlessOver other.over around first.box second.box) (sym alike.around) (accepted same conflict))

  with_one-alike : (access : Access) (others : List Access) → AllByRecursion IsAccepted (map (pair_of other access) others) → AllByRecursion IsAccepted (map (pair_of scope access) others)
  with_one-alike access [] all = tt
  with_one-alike access (second ∷ others) all = (pair-alike access second all.0, with_one-alike access others all.1)

  among-alike : (accesses : List Access) → AllByRecursion IsAccepted (pairs_among other accesses) → AllByRecursion IsAccepted (pairs_among scope accesses)
  among-alike [] all = tt
  among-alike (access ∷ accesses) all =
      let parts = all-parts IsAccepted (map (pair_of other access) (access ∷ accesses)) (pairs_among other accesses) all in
      all-joined IsAccepted (map (pair_of scope access) (access ∷ accesses)) (pairs_among scope accesses)
      (with_one-alike access (access ∷ accesses) parts.0) (among-alike accesses parts.1)

  scope-alike : IsFreeOfRaces other → IsFreeOfRaces scope
  scope-alike all = subst (λ accesses. AllByRecursion IsAccepted (pairs_among scope accesses)) (sym alike.accesses) (among-alike other.accesses all)

-- of accepted scopes one is like another
pub like_earlier : (scope : Scope) (earlier : List Scope) → ((other : Scope) × Contains earlier other × AreAlike scope other) → All IsScopeAccepted earlier → IsScopeAccepted scope
like_earlier scope earlier found all is =
    scope-alike scope found.0 found.2 (All-contains IsScopeAccepted earlier found.0 all found.1 (ap is_sequential (sym found.2.over) ∙ is))
