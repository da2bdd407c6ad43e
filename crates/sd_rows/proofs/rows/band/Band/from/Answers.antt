use Rattle.std.proofs.Common.{◌≡◌, ◌+◌, ℕ, ℤ, List, sym, subst, rules, arith}
use Rattle.sd_row.specs.row.Setting.{IsRowOf}
use Rattle.sd_row.proofs.instance_lemmas.Matched.{found_so}
use Rattle.sd_rows.specs.rows.Band.{edge_at}
use Rattle.sd_rows.proofs.rows.band.Band.from.Goals as goal

pub returns-clause-band : goal.returns-clause-band
returns-clause-band c =
    let task = c.args.task.now in
    let code = c.args.code.now in
    let steps = c.args.steps.now in
    let across = c.args.across.now in
    let others = c.in-Some.others.now in
    let gaps = c.in-Some-checked_sub.gaps in
    let near = c.in-Some-near.near in
    let far = c.in-Some-far.far in
    let kept : c.in_ok-to_vec.field-0.items ≡ others = search rules in
    let count : steps.count ≡ gaps + 1 = search rules in
    record {
      near = λ some. subst (λ (others : List ℤ). IsRowOf (edge_at task others across steps 0) code near across.count) (sym kept)
          (found_so _ c.in_ok-near.near near c.in-Some-near.is c.in_ok-near.ensures.edge);
      far = λ some k is.
          let same : gaps ≡ k = omega (arith, count, is) in
          subst (λ (others : List ℤ). IsRowOf (edge_at task others across steps k) code far across.count) (sym kept)
          (subst (λ (k : ℕ). IsRowOf (edge_at task others across steps k) code far across.count) same (found_so _ c.in_ok-far.far far c.in-Some-far.is c.in_ok-far.ensures.edge));
    }
