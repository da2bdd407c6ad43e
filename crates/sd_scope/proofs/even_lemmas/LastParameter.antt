-- Points in rows: those that differ in the value of the last parameter alone.
use Rattle.std.proofs.Common.{◌≡◌, ℕ, suc, ℤ, List, [], ◌∷◌, ◌++◌, map, length, refl, ap, sym, ◌∙◌, arith}
use Rattle.std.specs.List.{AllZip, Contains, flat_map}
use Rattle.std.proofs.lemmas.List.{append-nil, length-map, map-append}
use Rattle.std.proofs.lemmas.List.Concat.{flat_map_single}
use Rattle.std.proofs.lemmas.Grind.{flat_map-append}
use Rattle.std.proofs.lemmas.Simd.{map-map}
use Rattle.sd_range.specs.declared.range.Range.{Range}
use Rattle.sd_range.specs.Range.{range_values}
use Rattle.sd_range.specs.Points.{ranges_of, tuples, points}
use Rattle.sd_range.specs.Variables.{with_variable, with_variables}
use Rattle.sd_range.proofs.TupleLaws.{one_of_each}
use Rattle.sd_graph.specs.Unfold.{assigned}

-- the tuples that begin so, with each of these numbers behind
abbrev pub followed_by : (numbers : List ℤ) → (begun : List ℤ) → List (List ℤ)
followed_by numbers begun = map (λ x. begun ++ x ∷ []) numbers

-- a number in front of all
fronted : (first : ℤ) (numbers : List ℤ) (begun : List (List ℤ)) →
    map (λ rest. first ∷ rest) (flat_map (followed_by numbers) begun) ≡ flat_map (followed_by numbers) (map (λ rest. first ∷ rest) begun)
fronted first numbers [] = refl
fronted first numbers (one ∷ begun) =
    map-append (λ rest. first ∷ rest) (followed_by numbers one) (flat_map (followed_by numbers) begun)
    ∙ ap (λ list. list ++ map (λ rest. first ∷ rest) (flat_map (followed_by numbers) begun)) (map-map (λ rest. first ∷ rest) (λ x. one ++ x ∷ []) numbers)
    ∙ ap (λ list. followed_by numbers (first ∷ one) ++ list) (fronted first numbers begun)

-- each of these numbers in front of all
all_fronted : (firsts numbers : List ℤ) (begun : List (List ℤ)) →
    flat_map (λ first. map (λ rest. first ∷ rest) (flat_map (followed_by numbers) begun)) firsts
    ≡ flat_map (followed_by numbers) (flat_map (λ first. map (λ rest. first ∷ rest) begun) firsts)
all_fronted [] numbers begun = refl
all_fronted (first ∷ firsts) numbers begun =
    let others = flat_map (λ first. map (λ rest. first ∷ rest) begun) firsts in
    ap (λ list. list ++ flat_map (λ first. map (λ rest. first ∷ rest) (flat_map (followed_by numbers) begun)) firsts) (fronted first numbers begun)
    ∙ ap (λ list. flat_map (followed_by numbers) (map (λ rest. first ∷ rest) begun) ++ list) (all_fronted firsts numbers begun)
    ∙ sym (flat_map-append (followed_by numbers) (map (λ rest. first ∷ rest) begun) others)

-- the tuples of lists and one more list
pub tuples_in_rows : (lists : List (List ℤ)) (numbers : List ℤ) → tuples (lists ++ numbers ∷ []) ≡ flat_map (followed_by numbers) (tuples lists)
tuples_in_rows [] numbers = flat_map_single (λ x. x ∷ []) numbers ∙ sym (append-nil (map (λ x. x ∷ []) numbers))
tuples_in_rows (firsts ∷ lists) numbers =
    ap (λ begun. flat_map (λ first. map (λ rest. first ∷ rest) begun) firsts) (tuples_in_rows lists numbers)
    ∙ all_fronted firsts numbers (tuples lists)

-- the points of ranges and one more range: a row behind each point of the others
pub points_in_rows : (ranges : List Range) (last : Range) (values : List ℤ) →
    points (ranges ++ last ∷ []) values ≡ flat_map (λ point. map (λ x. point ++ x ∷ []) (range_values values last)) (points ranges values)
points_in_rows ranges last values =
    ap tuples (map-append (range_values values) ranges (last ∷ []))
    ∙ tuples_in_rows (map (range_values values) ranges) (range_values values last)

-- in a row the values differ in that of the last parameter alone
pub values_at_last : (params : List (ℕ × Range)) (last : ℕ × Range) (point : List ℤ) (x : ℤ) (values : List ℤ) → length params ≡ length point →
    with_variables (assigned (params ++ last ∷ []) (point ++ x ∷ [])) values ≡ with_variable last.0 x (with_variables (assigned params point) values)
values_at_last [] last [] x values same = refl
values_at_last [] last (number ∷ point) x values same = absurd (omega (arith, same))
values_at_last (param ∷ params) last [] x values same = absurd (omega (arith, same))
values_at_last (param ∷ params) last (number ∷ point) x values same = values_at_last params last point x (with_variable param.0 number values) (omega (arith, same))

-- the assignments of a point in a row: those before it, and the last one
pub assigned_at_last : (params : List (ℕ × Range)) (last : ℕ × Range) (point : List ℤ) (x : ℤ) → length params ≡ length point →
    assigned (params ++ last ∷ []) (point ++ x ∷ []) ≡ assigned params point ++ (last.0, x) ∷ []
assigned_at_last [] last [] x same = refl
assigned_at_last [] last (number ∷ point) x same = absurd (omega (arith, same))
assigned_at_last (param ∷ params) last [] x same = absurd (omega (arith, same))
assigned_at_last (param ∷ params) last (number ∷ point) x same = ap (λ list. (param.0, number) ∷ list) (assigned_at_last params last point x (omega (arith, same)))

-- the points of parameters in rows
pub params_in_rows : (params : List (ℕ × Range)) (last : ℕ × Range) (values : List ℤ) →
    points (ranges_of (params ++ last ∷ [])) values ≡ flat_map (λ point. map (λ x. point ++ x ∷ []) (range_values values last.1)) (points (ranges_of params) values)
params_in_rows params last values =
    ap (λ ranges. points ranges values) (map-append (λ (param : ℕ × Range). param.1) params (last ∷ []))
    ∙ points_in_rows (ranges_of params) last.1 values

-- lists of which each member goes with one are as long
paired_length : {A B : Type 0} (R : A → B → Type 0) (list : List A) (other : List B) → AllZip R list other → length list ≡ length other
paired_length R [] [] each = refl
paired_length R [] (member ∷ other) each = absurd each
paired_length R (member ∷ list) [] each = absurd each
paired_length R (member ∷ list) (one ∷ other) each = ap suc (paired_length R list other each.1)

-- each point has a number for each range
pub point_length : (ranges : List Range) (values point : List ℤ) → Contains (points ranges values) point → length ranges ≡ length point
point_length ranges values point member =
    sym (length-map ranges (range_values values))
    ∙ paired_length Contains (map (range_values values) ranges) point (one_of_each (map (range_values values) ranges) point member)
