use Rattle.std.proofs.Common.{rules, arith, ◌≡◌, [], ◌∷◌, ◌++◌, Option, option_map, subst}
use Rattle.sd_windows.specs.Windows as windows
use Rattle.sd_cut.specs.Cutting.{IsWithin, IsRefusalOf}
use Rattle.sd_cut.specs.Overlay.{IsSmall}
use Rattle.sd_cut.specs.Windowed.{window_at, window_of}
use Rattle.std.specs.List.{All}
use Rattle.sd_cut.specs.Elements.{AreOfWindow, IsUntouched}
use Rattle.sd_cut.proofs.Within.{window_here, next_all, first_refusal, arrays_next, all_next_of}
use Rattle.sd_cut.proofs.cutting.all_elements.Goals as goal

pub returns-in-Err-clause-refused : goal.returns-in-Err-clause-refused
returns-in-Err-clause-refused c =
    let same : c.in_ok-container.container ≡ c.loop-number.number = search rules in
    let here = window_here c.args.windows.now c.loop-number.number c.index-windows-number.result c.loop-number-test.true c.index-windows-number.is in
    let refused : IsRefusalOf c.args.memory.now c.in_ok-container.container (option_map window_of c.index-windows-number.result) c.in-Err.refusal = search rules in
    first_refusal c.args.memory.now (window_at c.args.windows.now) c.loop-number.number c.in-Err.refusal c.loop-number.invariant.within
    (subst (λ n. IsRefusalOf c.args.memory.now n (window_at c.args.windows.now c.loop-number.number) c.in-Err.refusal) same
    (subst (λ (o : Option windows.Window). IsRefusalOf c.args.memory.now c.in_ok-container.container o c.in-Err.refusal) here refused))

pub loop-number-preserved : goal.loop-number-preserved
loop-number-preserved c =
    let same : c.in_ok-container.container ≡ c.loop-number.number = search rules in
    let here = window_here c.args.windows.now c.loop-number.number c.index-windows-number.result c.loop-number-test.true c.index-windows-number.is in
    let within : IsWithin c.args.memory.now c.in_ok-container.container (option_map window_of c.index-windows-number.result) = search rules in
    let pushed : c.push.new.self.items ≡ c.loop-number.arrays.items ++ c.from.result ∷ [] = search rules in
    let moved : c.in-Ok.cuts.items ≡ c.from.result = search rules in
    let untouched = subst (All IsUntouched) moved c.in-Ok.ensures.untouched in
    let cuts = subst (AreOfWindow c.args.memory.now c.in_ok-container.container (option_map window_of c.index-windows-number.result)) moved c.in-Ok.ensures.cuts in
    let small : IsSmall (option_map window_of c.index-windows-number.result) = search rules in
    record {
      count = search rules;
      untouched = all_next_of (All IsUntouched) [] c.loop-number.arrays.items c.push.new.self.items c.from.result (λ k d less. absurd (omega (arith, less))) pushed c.loop-number.invariant.untouched untouched;
      within = next_all (λ k. IsWithin c.args.memory.now k (window_at c.args.windows.now k)) c.loop-number.number c.loop-number.invariant.within
          (subst (λ n. IsWithin c.args.memory.now n (window_at c.args.windows.now c.loop-number.number)) same (subst (λ (o : Option windows.Window). IsWithin c.args.memory.now c.in_ok-container.container o) here within));
      small = next_all (λ k. IsSmall (window_at c.args.windows.now k)) c.loop-number.number c.loop-number.invariant.small (subst IsSmall here small);
      sofar = arrays_next (λ k cuts. AreOfWindow c.args.memory.now k (window_at c.args.windows.now k) cuts) [] c.loop-number.arrays.items c.push.new.self.items c.from.result c.loop-number.number pushed
          c.loop-number.invariant.count c.loop-number.invariant.sofar
          (subst (λ n. AreOfWindow c.args.memory.now n (window_at c.args.windows.now c.loop-number.number) c.from.result) same
          (subst (λ (o : Option windows.Window). AreOfWindow c.args.memory.now c.in_ok-container.container o c.from.result) here cuts));
    }
