-- A map whose parameters are renamed ends alike.
use Rattle.std.specs.List.{AllByRecursion, Contains, flat_map}
use Rattle.sd_race.proofs.race_lemmas.Members.{all-joined}
use Rattle.std.specs.Bool.{⊤}
use Rattle.std.proofs.lemmas.Bool.{eq-eqb, ne_eqb}
use Rattle.std.proofs.Common.{◌≡◌, suc, ℕ, ℤ, List, [], ◌∷◌, ◌++◌, map, length, if◌then◌else◌, refl, sym, ◌∙◌, ap, subst, arith, Bool}
use Rattle.sd_range.specs.Affine.{variable_value}
use Rattle.sd_range.specs.Range.{range_values}
use Rattle.sd_range.specs.Points.{points, tuples, ranges_of}
use Rattle.sd_range.specs.Variables.{with_variable, with_variables}
use Rattle.sd_range.proofs.Variables.{variable_set, variable_kept}
use Rattle.sd_range.proofs.Normal.{by_same}
use Rattle.sd_work.specs.Residual.{Items, Points}
use Rattle.sd_subset.specs.boxes.Box.{Parameter}
use Rattle.sd_range.proofs.Members.{Contains-first, Contains-later}
use Rattle.sd_work.specs.Residual.{Term}
use Rattle.sd_graph.specs.declared.place.Place.{Place}
use Rattle.sd_subset.proofs.boxes_lemmas.Disjoint.{of_member}
use Rattle.sd_safe.specs.safe.Reached.{FindOnce, AreApartFor}
use Rattle.sd_race.proofs.cover_lemmas.Covered.{in_force-at}
use Rattle.sd_safe.proofs.safe_lemmas.Distinct.{inside-once, inside-apart}
use Rattle.sd_subset.specs.boxes.InForce.{AreInForce, IsOther, RangeNamesOthers, AreDistinct}
use Rattle.sd_subset.proofs.boxes_lemmas.Named.{AgreeBut}
use Rattle.sd_graph.specs.PlainTree.{map_scope, ItemTrees}
use Rattle.sd_graph.specs.ContainerParts.{Containers}
use Rattle.sd_graph.specs.Wiring.{kind_uses, item_uses, outside, before}
use Rattle.sd_graph.specs.Context.{Context, private_memory}
use Rattle.sd_graph.specs.Unfold.{assigned, order_of_points, at_point, point_terms, unfold_kind, unfold_items}
use Rattle.sd_race.specs.cover.Fit.{IsFit}
use Rattle.sd_exchange.specs.reorder.SafePools.{HasSafePools, HaveSafePools}
use Rattle.sd_exchange.proofs.reorder_lemmas.Nearly.{same-memory}
use Rattle.sd_exchange.proofs.reorder_lemmas.Ends.{EndsAlike, EndAlike, end-none, end-also, end-on, ends-list, ends-owning}
use Rattle.sd_exchange.proofs.reorder_lemmas.Itself.{ends-itself, end-themselves}
use Rattle.sd_exchange.proofs.tiles_lemmas.Shuffling.{same-shuffled, shuffled-back}
use Rattle.sd_fuse.specs.renamed.Renamed.{Names, variable_renamed, items_renamed, ItemsSpare, values_renamed, at_values}
use Rattle.sd_fuse.proofs.renamed_lemmas.Expressions.{variable-renamed, range-renamed}
use Rattle.sd_fuse.proofs.renamed_lemmas.Uses.{uses-renamed}
use Rattle.sd_fuse.proofs.renamed_lemmas.Renaming.{items-renamed}
use Rattle.sd_exchange.specs.ends.Points.{point_of}
use Rattle.sd_fuse.specs.ends.NamesOthers.{ItemsNameOthers}
use Rattle.sd_exchange.proofs.ends_lemmas.Shown.{items-shown}
use Rattle.sd_fuse.proofs.ends_lemmas.Agreeing.{items-agree}
use Rattle.sd_exchange.proofs.ends_lemmas.Nesting.{ranges-agree}
use Rattle.sd_exchange.specs.maps.AcceptedPools.{HaveAcceptedPools}
use Rattle.sd_fuse.specs.maps.MapRenamed.{names_for, HaveSameRanges, MayRename, MapRenamed, map_renamed, MapRenamedBack, named_again}
use Rattle.sd_exchange.proofs.maps_lemmas.PoolsSafe.{apart-left, apart-right, kind-pools, items-pools}
use Rattle.sd_exchange.proofs.maps_lemmas.Keeping.{Keeps}
use Rattle.sd_exchange.proofs.maps_lemmas.StaysValid.{LeavesValid}
use Rattle.sd_exchange.proofs.maps_lemmas.Carrying.{Spares, spares-both, spares-parts}
use Rattle.sd_fuse.proofs.maps_lemmas.RenamedFit.{AreNoNames, Carries, range-other, all-renamed, all-accepted-renamed, all-accepted-back}
use Rattle.sd_exchange.proofs.maps_lemmas.Congruent.{IsSound, points-each}

-- ---- values

-- a variable that is no parameter keeps its value
kept-at : (params : List Parameter) (point values : List ℤ) (variable : ℕ) → IsOther params variable → variable_value (with_variables (assigned params point) values) variable ≡ variable_value values variable
kept-at [] point values variable other = refl
kept-at (param ∷ params) [] values variable other = refl
kept-at (param ∷ params) (value ∷ point) values variable other =
    kept-at params point (with_variable param.0 value values) variable other.1 ∙ variable_kept param.0 variable value values (λ e. other.0 (sym e))

-- at a point each old name has the value of its new one
at-names : (variable : ℕ) (params others : List Parameter) (point values later : List ℤ) → length params ≡ length others → length point ≡ length params → AreDistinct params → AreDistinct others → IsOther others variable →
    variable_value values variable ≡ variable_value later variable →
    variable_value (with_variables (assigned params point) values) variable ≡ variable_value (with_variables (assigned others point) later) (variable_renamed (names_for params others) variable)
at-names variable [] [] point values later many long distinct distinct' other same = same
at-names variable [] (o ∷ others) point values later many long distinct distinct' other same = absurd (omega (arith, many))
at-names variable (param ∷ params) [] point values later many long distinct distinct' other same = absurd (omega (arith, many))
at-names variable (param ∷ params) (o ∷ others) [] values later many long distinct distinct' other same = absurd (omega (arith, long))
at-names variable (param ∷ params) (o ∷ others) (value ∷ point) values later many long distinct distinct' other same =
    by_same variable param.0
    (λ is.
    ap (variable_value (with_variables (assigned params point) (with_variable param.0 value values))) is
    ∙ kept-at params point (with_variable param.0 value values) param.0 distinct.0 ∙ variable_set param.0 value values
    ∙ sym (ap (λ b. variable_value (with_variables (assigned others point) (with_variable o.0 value later)) (if b then o.0 else variable_renamed (names_for params others) variable)) (eq-eqb variable param.0 is)
    ∙ kept-at others point (with_variable o.0 value later) o.0 distinct'.0 ∙ variable_set o.0 value later))
    (λ none.
    at-names variable params others point (with_variable param.0 value values) (with_variable o.0 value later) (omega (arith, many)) (omega (arith, long)) distinct.1 distinct'.1 other.1
    (variable_kept param.0 variable value values (λ e. none (sym e)) ∙ same ∙ sym (variable_kept o.0 variable value later (λ e. other.0 (sym e))))
    ∙ sym (ap (λ b. variable_value (with_variables (assigned others point) (with_variable o.0 value later)) (if b then o.0 else variable_renamed (names_for params others) variable)) (ne_eqb variable param.0 none)))

names-agree : (params others : List Parameter) (point values : List ℤ) → length params ≡ length others → length point ≡ length params → AreDistinct params → AreDistinct others →
    AgreeBut others (with_variables (assigned params point) values) (values_renamed (names_for params others) (with_variables (assigned others point) values))
names-agree params others point values many long distinct distinct' variable other =
    at-names variable params others point values values many long distinct distinct' other refl ∙ variable-renamed (names_for params others) (with_variables (assigned others point) values) variable

-- the old names alone have other values
renamed-agree : (params others : List Parameter) (values : List ℤ) → AgreeBut params values (values_renamed (names_for params others) values)
renamed-agree [] others values variable other = refl
renamed-agree (param ∷ params) [] values variable other = refl
renamed-agree (param ∷ params) (o ∷ others) values variable other =
    renamed-agree params others values variable other.1 ∙ sym (variable_kept param.0 variable (variable_value values o.0) (values_renamed (names_for params others) values) (λ e. other.0 (sym e)))

as-many : (names : Names) (params others : List Parameter) → HaveSameRanges names params others → length params ≡ length others
as-many names [] [] h = refl
as-many names [] (o ∷ others) h = elim h [ ]
as-many names (param ∷ params) [] h = elim h [ ]
as-many names (param ∷ params) (o ∷ others) h = ap suc (as-many names params others h.1)

-- the points are the same
new-values : (names : Names) (params others : List Parameter) (values : List ℤ) → HaveSameRanges names params others → map (range_values values) (ranges_of others) ≡ map (range_values (values_renamed names values)) (ranges_of params)
new-values names [] [] values h = refl
new-values names [] (o ∷ others) values h = elim h [ ]
new-values names (param ∷ params) [] values h = elim h [ ]
new-values names (param ∷ params) (o ∷ others) values h = λ i. (ap (range_values values) (sym h.0) ∙ range-renamed names values param.1) i ∷ new-values names params others values h.1 i

same-points : (params others : List Parameter) (values : List ℤ) → HaveSameRanges (names_for params others) params others → AllByRecursion (λ (parameter : Parameter). RangeNamesOthers params parameter.1) params →
    points (ranges_of params) values ≡ points (ranges_of others) values
same-points params others values same named =
    ap tuples (ranges-agree params params values (values_renamed (names_for params others) values) (renamed-agree params others values) named ∙ sym (new-values (names_for params others) params others values same))

-- tuples have a number of each list
abbrev HasLength : (count : ℕ) → List ℤ → Type 0
HasLength count point = length point ≡ count

all-map : (P Q : List ℤ → Type 0) (f : List ℤ → List ℤ) → ((x : List ℤ) → P x → Q (f x)) → (xs : List (List ℤ)) → AllByRecursion P xs → AllByRecursion Q (map f xs)
all-map P Q f h [] all = tt
all-map P Q f h (x ∷ xs) all = (h x all.0, all-map P Q f h xs all.1)

tuples-long : (lists : List (List ℤ)) → AllByRecursion (HasLength (length lists)) (tuples lists)
tuples-long [] = (refl, tt)
tuples-long (firsts ∷ lists) = go (tuples-long lists) firsts
  where
    go : AllByRecursion (HasLength (length lists)) (tuples lists) → (firsts : List ℤ) → AllByRecursion (HasLength (suc (length lists))) (flat_map (λ first. map (λ rest. first ∷ rest) (tuples lists)) firsts)
    go all [] = tt
    go all (first ∷ firsts) =
        all-joined (HasLength (suc (length lists))) (map (λ rest. first ∷ rest) (tuples lists)) (flat_map (λ first. map (λ rest. first ∷ rest) (tuples lists)) firsts)
        (all-map (HasLength (length lists)) (HasLength (suc (length lists))) (λ rest. first ∷ rest) (λ rest e. ap suc e) (tuples lists) all) (go all firsts)

-- each point has a number for each parameter
long : (params : List Parameter) (values point : List ℤ) → Contains (points (ranges_of params) values) point → length point ≡ length params
long params values point member = of_member (HasLength (length (map (range_values values) (ranges_of params)))) (points (ranges_of params) values) point (tuples-long (map (range_values values) (ranges_of params))) member ∙ both-long params
  where
    both-long : (params : List Parameter) → length (map (range_values values) (ranges_of params)) ≡ length params
    both-long [] = refl
    both-long (param ∷ params) = ap suc (both-long params)

-- points of a list, each where it is safe
points-with : (f g : List ℤ → Term Place) (all : List (List ℤ)) → ((a : List ℤ) → Contains all a → HasSafePools (f a) → EndsAlike (f a) (g a)) → HaveSafePools (point_terms f all) → EndAlike (point_terms f all) (point_terms g all)
points-with f g [] h safe = end-none
points-with f g (a ∷ all) h safe = end-also (f a) (g a) (point_terms f all) (point_terms g all) (h a (Contains-first a all) safe.0) (points-with f g all (λ b m s. h b (Contains-later a all b m) s) safe.1)

-- ---- a point

point-renamed : (params others : List Parameter) (own : List ℕ) (body : ItemTrees) (context : Context) (point : List ℤ) → length params ≡ length others → length point ≡ length params → AreDistinct params → AreDistinct others → ItemsNameOthers others body → ItemsSpare (names_for params others) body →
    HaveSafePools (unfold_items body (at_point context params own point)) → HaveSafePools (unfold_items body (at_values (at_point context others own point) (with_variables (assigned params point) context.values))) →
    EndsAlike (point_of params own body context point) (point_of others own (items_renamed (names_for params others) body) context point)
point-renamed params others own body context point many long distinct distinct' free spare safe safe' =
    let names = names_for params others in
    let here = at_point context params own point in
    let there = at_point context others own point in
    let between = at_values there here.values in
    let renamed = values_renamed names there.values in
    ends-owning (private_memory context.containers own) (private_memory context.containers own) _ _ (same-memory (λ k. ⊤) (private_memory context.containers own))
    (ends-list Items Items (before context.containers body) (before context.containers (items_renamed names body)) _ _
    (subst (λ terms. EndAlike (unfold_items body here) terms) (sym (items-renamed names body there there.values spare))
    (end-on (unfold_items body here) (unfold_items body between) (unfold_items body (at_values there renamed))
    (items-shown body here context.names there.shown context.around safe)
    (items-agree body others between renamed (names-agree params others point context.values many long distinct distinct') free safe'))))

point-named : (params others : List Parameter) (own : List ℕ) (body : ItemTrees) (context : Context) (point : List ℤ) → length params ≡ length others → length point ≡ length params → AreDistinct params → AreDistinct others → ItemsNameOthers others body → ItemsSpare (names_for params others) body →
    HaveSafePools (unfold_items (items_renamed (names_for params others) body) (at_point context others own point)) → HaveSafePools (unfold_items body (at_values (at_point context others own point) (with_variables (assigned params point) context.values))) →
    EndsAlike (point_of others own (items_renamed (names_for params others) body) context point) (point_of params own body context point)
point-named params others own body context point many long distinct distinct' free spare safe safe' =
    let names = names_for params others in
    let here = at_point context params own point in
    let there = at_point context others own point in
    let between = at_values there here.values in
    let renamed = values_renamed names there.values in
    let same = items-renamed names body there there.values spare in
    ends-owning (private_memory context.containers own) (private_memory context.containers own) _ _ (same-memory (λ k. ⊤) (private_memory context.containers own))
    (ends-list Items Items (before context.containers (items_renamed names body)) (before context.containers body) _ _
    (subst (λ terms. EndAlike terms (unfold_items body here)) (sym same)
    (end-on (unfold_items body (at_values there renamed)) (unfold_items body between) (unfold_items body here)
    (items-agree body others (at_values there renamed) here.values (λ variable other. sym (names-agree params others point context.values many long distinct distinct' variable other)) free (subst HaveSafePools same safe))
    (items-shown body between context.names here.shown context.around safe'))))

-- ---- a map

-- what its points are safe by
safe-at : (sequential : Bool) (params : List Parameter) (own : List ℕ) (body : ItemTrees) (around : List Parameter) (context inside : Context) (point : List ℤ) → IsFit (map_scope sequential params own body) around → AreInForce context.values around → FindOnce context.reach →
    AreApartFor context.reach (kind_uses (map_scope sequential params own body) context.containers) → HaveAcceptedPools body context.containers → Contains (points (ranges_of params) context.values) point →
    inside.containers ≡ context.containers → inside.values ≡ with_variables (assigned params point) context.values → inside.reach ≡ (at_point context params own point).reach → HaveSafePools (unfold_items body inside)
safe-at sequential params own body around context inside point fit in_force once apart pools member same values reach =
    items-pools body (around ++ params) inside fit.1
    (subst (λ v. AreInForce v (around ++ params)) (sym values) (in_force-at around params context.values point fit.0 in_force member))
    (subst FindOnce (sym reach) (inside-once own context.containers context.reach once))
    (subst (λ r. AreApartFor r (item_uses body inside.containers)) (sym reach) (subst (λ c. AreApartFor (at_point context params own point).reach (item_uses body c)) (sym same) (inside-apart own context.containers context.reach (item_uses body context.containers) apart)))
    (subst (HaveAcceptedPools body) (sym same) pools)

map-renamed : (sequential : Bool) (params others : List Parameter) (own : List ℕ) (body : ItemTrees) (around : List Parameter) (line : ℕ) (context : Context) → MayRename sequential around params others own body → AreDistinct others → AreInForce context.values around → FindOnce context.reach →
    AreApartFor context.reach (kind_uses (map_scope sequential params own body) context.containers) → HaveAcceptedPools body context.containers →
    EndsAlike (unfold_kind (map_scope sequential params own body) line context) (unfold_kind (map_scope sequential others own (items_renamed (names_for params others) body)) line context)
map-renamed sequential params others own body around line context may distinct in_force once apart pools =
    let many = as-many (names_for params others) params others may.ranges in
    ends-list Points Points (order_of_points sequential) (order_of_points sequential) _ _
    (subst (λ all. EndAlike (point_terms (point_of params own body context) (points (ranges_of params) context.values)) (point_terms (point_of others own (items_renamed (names_for params others) body) context) all))
    (same-points params others context.values may.ranges may.valid.0.own_ranges)
    (points-each (point_of params own body context) (point_of others own (items_renamed (names_for params others) body) context) (points (ranges_of params) context.values)
    (λ point member.
    point-renamed params others own body context point many (long params context.values point member) may.valid.0.distinct distinct may.free may.spare
    (safe-at sequential params own body around context (at_point context params own point) point may.valid in_force once apart pools member refl refl refl)
    (safe-at sequential params own body around context (at_values (at_point context others own point) (with_variables (assigned params point) context.values)) point may.valid in_force once apart pools member refl refl refl))))

map-named : (sequential : Bool) (params others : List Parameter) (own : List ℕ) (body : ItemTrees) (around : List Parameter) (line : ℕ) (context : Context) → MayRename sequential around params others own body → AreDistinct others → AreInForce context.values around → FindOnce context.reach →
    AreApartFor context.reach (kind_uses (map_scope sequential params own body) context.containers) → HaveAcceptedPools body context.containers → HasSafePools (unfold_kind (map_scope sequential others own (items_renamed (names_for params others) body)) line context) →
    EndsAlike (unfold_kind (map_scope sequential others own (items_renamed (names_for params others) body)) line context) (unfold_kind (map_scope sequential params own body) line context)
map-named sequential params others own body around line context may distinct in_force once apart pools safe =
    let many = as-many (names_for params others) params others may.ranges in
    let all = same-points params others context.values may.ranges may.valid.0.own_ranges in
    ends-list Points Points (order_of_points sequential) (order_of_points sequential) _ _
    (subst (λ all. EndAlike (point_terms (point_of others own (items_renamed (names_for params others) body) context) all) (point_terms (point_of params own body context) (points (ranges_of params) context.values))) all
    (points-with (point_of others own (items_renamed (names_for params others) body) context) (point_of params own body context) (points (ranges_of params) context.values)
    (λ point member safe.
    point-named params others own body context point many (long params context.values point member) may.valid.0.distinct distinct may.free may.spare safe
    (safe-at sequential params own body around context (at_values (at_point context others own point) (with_variables (assigned params point) context.values)) point may.valid in_force once apart pools member refl refl refl))
    (subst (λ all. HaveSafePools (point_terms (point_of others own (items_renamed (names_for params others) body) context) all)) (sym all) safe)))

-- ---- wherever it stands

-- the new parameters around a body carry what the old ones did
names-carry : (names : Names) (params others : List Parameter) → HaveSameRanges names params others → (own : List Parameter) → AreNoNames names own → AreNoNames (names_for params others) own → Spares params own → Spares others own
names-carry names [] [] same own free free' spares = spares
names-carry names [] (o ∷ others) same own free free' spares = elim same [ ]
names-carry names (param ∷ params) [] same own free free' spares = elim same [ ]
names-carry names (param ∷ params) (o ∷ others) same own free free' spares =
    let rest = names-carry names params others same.1 own free (fewer own free') (record { others = spares.others.1; ranges = spares.ranges.1 }) in
    record { others = (new-other own free', rest.others); ranges = (subst (RangeNamesOthers own) same.0 (range-other names own param.1 free spares.ranges.0), rest.ranges) }
  where
    new-other : (own : List Parameter) → AreNoNames ((param.0, o.0) ∷ names_for params others) own → IsOther own o.0
    new-other [] free = tt
    new-other (parameter ∷ own) free = ((λ e. free.0.0.1 (sym e)), new-other own free.1)

    fewer : (own : List Parameter) → AreNoNames ((param.0, o.0) ∷ names_for params others) own → AreNoNames (names_for params others) own
    fewer [] free = tt
    fewer (parameter ∷ own) free = (free.0.1, fewer own free.1)

names-carried : (around params others : List Parameter) → HaveSameRanges (names_for params others) params others → Carries (names_for params others) (around ++ params) (around ++ others)
names-carried around params others same own free spares =
    let parts = spares-parts around params own spares in spares-both around others own parts.0 (names-carry (names_for params others) params others same own free free parts.1)

renamed-uses : (sequential : Bool) (others : List Parameter) (own : List ℕ) (names : Names) (params : List Parameter) (body : ItemTrees) (containers : Containers) → kind_uses (map_scope sequential others own (items_renamed names body)) containers ≡ kind_uses (map_scope sequential params own body) containers
renamed-uses sequential others own names params body containers = ap (outside own) (uses-renamed names body containers)

pub rename-keeps : Keeps MapRenamed
rename-keeps containers around items others (map_renamed first_sequential second_sequential c a params more private own line there body other rest may) = record {
  uses = same-shuffled _ _ (ap (λ uses. kind_uses (map_scope first_sequential params private body) c ++ (uses ++ item_uses rest c)) (sym (renamed-uses second_sequential params own (names_for more params) more other c)));
  pools = λ p. (p.0, (all-accepted-renamed (names_for more params) other c p.1.0, p.1.1));
}

pub rename-leaves_valid : LeavesValid MapRenamed
rename-leaves_valid containers around items others (map_renamed first_sequential second_sequential c a params more private own line there body other rest may) v =
    (v.0, ((v.0.0, all-renamed (names_for more params) other (a ++ more) (a ++ params) (names-carried a more params may.ranges) may.spare v.1.0.1), v.1.1))

pub rename-sound : IsSound MapRenamed
rename-sound containers around items others (map_renamed first_sequential second_sequential c a params more private own line there body other rest may) context same stand =
    let cs = context.containers in
    let P = map_scope first_sequential params private body in
    let Q = map_scope second_sequential more own other in
    let behind = apart-right context.reach (kind_uses P cs) (kind_uses Q cs ++ item_uses rest cs) stand.apart in
    end-also _ _ _ _
    (ends-itself (unfold_kind P line context) (kind-pools P a line context stand.valid.0 stand.in_force stand.once (apart-left context.reach (kind_uses P cs) (kind_uses Q cs ++ item_uses rest cs) stand.apart) stand.pools.0))
    (end-also _ _ _ _
    (map-renamed second_sequential more params own other a there context may stand.valid.0.0.distinct stand.in_force stand.once (apart-left context.reach (kind_uses Q cs) (item_uses rest cs) behind) stand.pools.1.0)
    (end-themselves (unfold_items rest context) (items-pools rest a context stand.valid.1.1 stand.in_force stand.once (apart-right context.reach (kind_uses Q cs) (item_uses rest cs) behind) stand.pools.1.1)))

renamed-back : (names : Names) (items : ItemTrees) (containers : Containers) → HaveAcceptedPools (items_renamed names items) containers → HaveAcceptedPools items containers
renamed-back names items containers h = all-accepted-back names items containers h

pub rename-back-sound : IsSound MapRenamedBack
rename-back-sound containers around items others (named_again c a new old (map_renamed first_sequential second_sequential c' a' params more private own line there body other rest may)) context same stand =
    let cs = context.containers in
    let P = map_scope first_sequential params private body in
    let names = names_for more params in
    let Q = map_scope second_sequential params own (items_renamed names other) in
    let behind = apart-right context.reach (kind_uses P cs) (kind_uses Q cs ++ item_uses rest cs) stand.apart in
    let apart = apart-left context.reach (kind_uses Q cs) (item_uses rest cs) behind in
    end-also _ _ _ _
    (ends-itself (unfold_kind P line context) (kind-pools P a' line context stand.valid.0 stand.in_force stand.once (apart-left context.reach (kind_uses P cs) (kind_uses Q cs ++ item_uses rest cs) stand.apart) stand.pools.0))
    (end-also _ _ _ _
    (map-named second_sequential more params own other a' there context may stand.valid.0.0.distinct stand.in_force stand.once (subst (AreApartFor context.reach) (renamed-uses second_sequential params own names more other cs) apart) (renamed-back names other cs stand.pools.1.0)
    (kind-pools Q a' there context stand.valid.1.0 stand.in_force stand.once apart stand.pools.1.0))
    (end-themselves (unfold_items rest context) (items-pools rest a' context stand.valid.1.1 stand.in_force stand.once (apart-right context.reach (kind_uses Q cs) (item_uses rest cs) behind) stand.pools.1.1)))

pub rename-back-keeps : Keeps MapRenamedBack
rename-back-keeps containers around items others (named_again c a new old (map_renamed first_sequential second_sequential c' a' params more private own line there body other rest may)) = record {
  uses = shuffled-back _ _ (rename-keeps c' a' old new (map_renamed first_sequential second_sequential c' a' params more private own line there body other rest may)).uses;
  pools = λ p. (p.0, (all-accepted-back (names_for more params) other c' p.1.0, p.1.1));
}

pub rename-back-leaves_valid : LeavesValid MapRenamedBack
rename-back-leaves_valid containers around items others (named_again c a new old (map_renamed first_sequential second_sequential c' a' params more private own line there body other rest may)) v = (v.0, (may.valid, v.1.1))
