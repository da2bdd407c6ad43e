use Rattle.std.proofs.Common.{◌≡◌, ◌++◌, ◌∷◌, [], ℕ, ℤ, FitsSigned, rules, List, length, take, drop, ◌+◌, ◌-◌, ap, ◌∙◌, subst, arith}
use Rattle.std.proofs.lemmas.Int.{to_z-of_z}
use Rattle.std.specs.Int.{w128}
use Rattle.std.specs.Bool.{⊤}
use Rattle.std.specs.Option.{MatchOption}
use Rattle.std.specs.declared.option.Option.{Option}
use Rattle.sd_range.specs.declared.range.Range.{Range}
use Rattle.sd_range.specs.Points.{tuples}
use Rattle.sd_left.proofs.left_lemmas.Readiness.{member-there}
use Rattle.sd_fire.proofs.sparse_lemmas.Counts.{lists, point-on, one-slice, rest-slice}
use Rattle.sd_fire.proofs.sparse.count.point_at.Goals as goal

pub loop-number-preserved : goal.loop-number-preserved
loop-number-preserved c =
    let params = c.args.params.now in
    let values = c.args.env.now.values in
    let number = c.loop-number.number in
    let rest = c.loop-number.rest in
    let behind = c.in-Some.behind in
    let one = member-there params number c.loop-number-test.true in
    let slice = one-slice params number one.0 c.loop-number-test.true one.1 in
    let slice_all = take (length params - (number + 1)) (drop (number + 1) params) in
    let some : behind ≡ length (tuples (lists values slice_all)) =
    subst (λ (told : Option ℕ). MatchOption told ⊤ (λ count. count ≡ length (tuples (lists values slice_all)))) c.in-Some.is c.in_ok-told.ensures in
    let rest_some : behind ≡ length (tuples (lists values (drop (number + 1) params))) = some ∙ ap (λ (all : List (ℕ × Range)). length (tuples (lists values all))) (rest-slice params (number + 1)) in
    let fits : FitsSigned w128 c.in_ok-value.value = search rules in
    point-on values params number c.args.place rest behind c.in_ok-value.value c.loop-number.at.items c.push.new.self.items one.0.0 one.0.1 c.loop-number-test.true one.1
    rest_some (omega (arith, c.if-behind-eq0.false)) (c.in_ok-value.ensures.there one.0.0 one.0.1 slice) (c.in_ok-value.ensures.value one.0.0 one.0.1 slice)
    (c.in_ok-push.ensures.items ∙ ap (λ (value : ℤ). c.loop-number.at.items ++ value ∷ []) (to_z-of_z w128 c.in_ok-value.value fits)) c.loop-number.invariant
